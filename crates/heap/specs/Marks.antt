-- Marks on the cells that a search has met, and the stack of those that it has yet to look into.
use Rattle.std.specs.Prelude.{◌≡◌, ℕ, ◌+◌, ◌<◌, ◌≤◌, Bool, true, false, ◌⊎◌, List, [], ◌∷◌, map, length, sum_by, ◌≢◌, nat_eq, slice_index_or}
use Rattle.heap.specs.Heaps.{Heap, Edge, Reach}

-- the marks: a cell is marked when it has the last stamp
abbrev pub marked : List ℕ → ℕ → List Bool
marked stamps last = map (λ s. nat_eq s last) stamps

abbrev pub On : ℕ → List ℕ → Type 0
On i [] = ⊥
On i (x ∷ xs) = (i ≡ x) ⊎ On i xs

abbrev pub Seen : List Bool → ℕ → Type 0
Seen s i = slice_index_or s i false ≡ true

abbrev pub blank : Bool → ℕ
blank true = 0
blank false = 1

-- from the marks s and the stack t, those of lo .. hi that were not marked have been marked and pushed
pub record Visited (s s' : List Bool) (t t' : List ℕ) (lo hi : ℕ) : Type 0 where
  pub long : length s' ≡ length s
  pub more : (i : ℕ) → Seen s i → Seen s' i
  pub all : (i : ℕ) → lo ≤ i → i < hi → Seen s' i
  pub new : (i : ℕ) → Seen s' i → Seen s i ⊎ On i t'
  pub kept : (i : ℕ) → On i t → On i t'
  pub whence : (i : ℕ) → On i t' → On i t ⊎ ((lo ≤ i) × (i < hi))
  pub spent : sum_by blank s' + length t' ≡ sum_by blank s + length t

-- of what is marked, all that does not wait on the stack has been looked into
pub record Search (H : Heap) (start goal : ℕ) (s : List Bool) (t : List ℕ) : Type 0 where
  pub long : length H ≤ length s
  pub begun : Seen s start
  pub met : (i : ℕ) → On i t → Reach H start i × (i < length H)
  pub done : (i : ℕ) → Seen s i → On i t ⊎ ((i ≢ goal) × ((j : ℕ) → Edge H j i → Seen s j))
