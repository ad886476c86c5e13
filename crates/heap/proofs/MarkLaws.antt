-- Laws of marks and stacks.
use Rattle.std.proofs.Common.{◌≡◌, ℕ, zero, suc, ◌+◌, ◌<◌, ◌≤◌, Bool, true, false, ◌⊎◌, List, [], ◌∷◌, ◌++◌, length, get_or, set, replicate, sum_by, sym, refl, ap, ◌∙◌, subst, subst₂, inl, inr, ⊎_elim, arith, length-set, get_or-set_other, get_or-set_same}
use native.Mathlib.Decide.{ℕ_discrete}
use lib.ListN.{length-replicate}
use Rattle.std.proofs.lemmas.List.Sums.{sum_by-set, sum_by-cons}
use Rattle.std.proofs.lemmas.List.{length_push}
use Rattle.heap.specs.Heaps.{Heap, Edge, Reach, here, step, Below}
use Rattle.heap.specs.Marks.{On, Seen, blank, Visited, Search}
use Rattle.heap.proofs.HeapLaws.{reach_trans}

pub on_left : (i : ℕ) (xs ys : List ℕ) → On i xs → On i (xs ++ ys)
on_left i [] ys h = absurd h
on_left i (x ∷ xs) ys (inl e) = inl e
on_left i (x ∷ xs) ys (inr h) = inr (on_left i xs ys h)

pub on_last : (i : ℕ) (xs : List ℕ) → On i (xs ++ i ∷ [])
on_last i [] = inl refl
on_last i (x ∷ xs) = inr (on_last i xs)

pub on_push : (i : ℕ) (xs : List ℕ) (y : ℕ) → On i (xs ++ y ∷ []) → On i xs ⊎ (i ≡ y)
on_push i [] y (inl e) = inr e
on_push i [] y (inr h) = absurd h
on_push i (x ∷ xs) y (inl e) = inl (inl e)
on_push i (x ∷ xs) y (inr h) = ⊎_elim (λ a. inl (inr a)) (λ b. inr b) (on_push i xs y h)

pub seen_same : (s : List Bool) (k : ℕ) → k < length s → Seen (set s k true) k
seen_same s k h = get_or-set_same s k true false h

pub seen_more : (s : List Bool) (k i : ℕ) → k < length s → Seen s i → Seen (set s k true) i
seen_more s k i h q =
    elim (ℕ_discrete i k) [
      | yes e ↦ subst (λ x. Seen (set s k true) x) (sym e) (seen_same s k h)
      | no ne ↦ get_or-set_other s k i true false ne ∙ q
    ]

pub seen_less : (s : List Bool) (k i : ℕ) → Seen (set s k true) i → Seen s i ⊎ (i ≡ k)
seen_less s k i q =
    elim (ℕ_discrete i k) [
      | yes e ↦ inr e
      | no ne ↦ inl (sym (get_or-set_other s k i true false ne) ∙ q)
    ]

pub visited_none : (s : List Bool) (t : List ℕ) (lo : ℕ) → Visited s s t t lo lo
visited_none s t lo = record {
  long = refl;
  more = λ i h. h;
  all = λ i l h. absurd (omega arith);
  new = λ i h. inl h;
  kept = λ i h. h;
  whence = λ i h. inl h;
  spent = refl;
}

module _ (s s' : List Bool) (t t' : List ℕ) (lo k : ℕ) (v : Visited s s' t t' lo k) (from : lo ≤ k) where
  pub visited_old : Seen s' k → Visited s s' t t' lo (k + 1)
  visited_old q = record {
    long = v.long;
    more = v.more;
    all = λ i l h. elim (ℕ_discrete i k) [ yes e ↦ subst (λ x. Seen s' x) (sym e) q | no ne ↦ v.all i l (omega arith) ];
    new = v.new;
    kept = v.kept;
    whence = λ i h. ⊎_elim (λ a. inl a) (λ b. inr (b.0, omega arith)) (v.whence i h);
    spent = v.spent;
  }

  pub visited_new : k < length s' → get_or s' k false ≡ false → Visited s (set s' k true) t (t' ++ k ∷ []) lo (k + 1)
  visited_new lt q = record {
    long = length-set s' k true ∙ v.long;
    more = λ i h. seen_more s' k i lt (v.more i h);
    all = λ i l h. elim (ℕ_discrete i k) [ yes e ↦ subst (λ x. Seen (set s' k true) x) (sym e) (seen_same s' k lt) | no ne ↦ seen_more s' k i lt (v.all i l (omega arith)) ];
    new = λ i h. ⊎_elim (λ a. ⊎_elim (λ b. inl b) (λ b. inr (on_left i t' (k ∷ []) b)) (v.new i a)) (λ e. inr (subst (λ x. On x (t' ++ k ∷ [])) (sym e) (on_last k t'))) (seen_less s' k i h);
    kept = λ i h. on_left i t' (k ∷ []) (v.kept i h);
    whence = λ i h. ⊎_elim (λ a. ⊎_elim (λ b. inl b) (λ b. inr (b.0, omega arith)) (v.whence i a)) (λ e. inr (omega arith, omega arith)) (on_push i t' k h);
    spent = omega (arith, sum_by-set blank s' k true false lt, ap blank q, length_push t' k, v.spent);
  }

-- before the first turn
pub search_none : (H : Heap) (start goal : ℕ) (s s' : List Bool) (t t' : List ℕ) → start < length H → length H ≤ length s
    → ((i : ℕ) → Seen s i → ⊥) → ((i : ℕ) → On i t → ⊥) → Visited s s' t t' start (start + 1) → Search H start goal s' t'
search_none H start goal s s' t t' lt long blank empty v = record {
  long = omega (arith, v.long);
  begun = v.all start (omega arith) (omega arith);
  met = λ i h. ⊎_elim (λ a. absurd (empty i a)) (λ b. let q : start ≡ i = omega arith in (subst (λ x. Reach H start x) q here, omega arith)) (v.whence i h);
  done = λ i h. ⊎_elim (λ a. absurd (blank i a)) (λ b. inl b) (v.new i h);
}

-- a turn that looked into `at`
pub search_more : (H : Heap) (start goal : ℕ) (s s' : List Bool) (t t' : List ℕ) (at lo hi : ℕ)
    → Search H start goal s (t ++ at ∷ []) → (at ≡ goal → ⊥) → Below H at lo hi → Visited s s' t t' lo hi → Search H start goal s' t'
search_more H start goal s s' t t' at lo hi was other b v = record {
  long = omega (arith, v.long, was.long);
  begun = v.more start was.begun;
  met = λ i h. ⊎_elim (λ a. was.met i (on_left i t (at ∷ []) a))
      (λ r. (reach_trans (was.met at (on_last at t)).0 (step (b.back i r.0 r.1) here), omega (arith, b.within (omega arith)))) (v.whence i h);
  done = λ i h. ⊎_elim
      (λ a. ⊎_elim
      (λ on. ⊎_elim (λ on'. inl (v.kept i on'))
      (λ e. inr (λ q. other (sym e ∙ q), λ j d. let r = b.into j (subst (λ x. Edge H j x) e d) in v.all j r.0 r.1))
      (on_push i t at on))
      (λ ok. inr (ok.0, λ j d. v.more j (ok.1 j d)))
      (was.done i a))
      (λ on. inl on) (v.new i h);
}

-- once nothing waits
pub search_all : (H : Heap) (start goal : ℕ) (s : List Bool) → Search H start goal s [] → Reach H start goal → ⊥
search_all H start goal s was r = ⊎_elim (λ a. a) (λ ok. ok.0 refl) (was.done goal (go was.begun r))
  where
    go : {i k : ℕ} → Seen s i → Reach H i k → Seen s k
    go seen here = seen
    go {i} seen (step {j = j} d p) = go (⊎_elim (λ a. absurd a) (λ ok. ok.1 j d) (was.done i seen)) p

pub none_seen : (n i : ℕ) → Seen (replicate n false) i → ⊥
none_seen zero i h = let z : ◌≡◌ {A = ℕ} 0 1 = cc in absurd (omega arith)
none_seen (suc n) zero h = let z : ◌≡◌ {A = ℕ} 0 1 = cc in absurd (omega arith)
none_seen (suc n) (suc i) h = none_seen n i h

-- the same turn, from the stack u before `at` was taken
pub search_turn : {H : Heap} {start goal : ℕ} {s s' : List Bool} {u t t' : List ℕ} {at lo hi : ℕ} → u ≡ t ++ at ∷ [] → Visited s s' t t' lo hi
    → Search H start goal s u → (at ≡ goal → ⊥) → Below H at lo hi → Search H start goal s' t'
search_turn {H} {start} {goal} {s} {s'} {u} {t} {t'} {at} {lo} {hi} taken v was other b =
    search_more H start goal s s' t t' at lo hi (subst (Search H start goal s) taken was) other b v

pub search_falls : {s s' : List Bool} {u t t' : List ℕ} (at : ℕ) {lo hi : ℕ} → u ≡ t ++ at ∷ [] → Visited s s' t t' lo hi
    → sum_by blank s' + length t' < sum_by blank s + length u
search_falls {t} at taken v = omega (arith, v.spent, ap length taken, length_push t at)

pub not_true : ◌≡◌ {A = Bool} false true → ⊥
not_true q = let z : ◌≡◌ {A = ℕ} 0 1 = cc in omega arith

-- what a last `pop` says of what it found
pub nothing_left : {X : Type 0} (xs : List X) → (0 < length xs → ◌≡◌ {A = Bool} false true) → xs ≡ []
nothing_left [] h = refl
nothing_left (x ∷ xs) h = absurd (not_true (h (omega arith)))

-- each cell is pushed once, so that room for the cells without a mark is enough
pub visit_room : {s s' : List Bool} {t t' : List ℕ} {lo k : ℕ} (room : ℕ) → Visited s s' t t' lo k → sum_by blank s + length t ≤ room
    → k < length s' → get_or s' k false ≡ false → length t' < room
visit_room {s} {s'} {k = k} room v few lt q = omega (arith, v.spent, sum_by-set blank s' k true false lt, ap blank q)

-- a turn of `visit` at a cell without a mark
pub visit_more : {s s' s'' : List Bool} {t t' t'' : List ℕ} {lo k : ℕ} → Visited s s' t t' lo k → lo ≤ k → k < length s' → get_or s' k false ≡ false
    → s'' ≡ set s' k true → t'' ≡ t' ++ k ∷ [] → Visited s s'' t t'' lo (k + 1)
visit_more {s} {s'} {s''} {t} {t'} {t''} {lo} {k} v from lt q es et =
    subst₂ (λ a b. Visited s a t b lo (k + 1)) (sym es) (sym et) (visited_new s s' t t' lo k v from lt q)

-- and at one with a mark
pub visit_less : {s s' s'' : List Bool} {t t' t'' : List ℕ} {lo k : ℕ} → Visited s s' t t' lo k → lo ≤ k → Seen s' k
    → s'' ≡ s' → t'' ≡ t' → Visited s s'' t t'' lo (k + 1)
visit_less {s} {s'} {s''} {t} {t'} {t''} {lo} {k} v from q es et =
    subst₂ (λ a b. Visited s a t b lo (k + 1)) (sym es) (sym et) (visited_old s s' t t' lo k v from q)

pub visit_all : {s s' : List Bool} {t t' : List ℕ} {lo k hi : ℕ} → k ≡ hi → Visited s s' t t' lo k → Visited s s' t t' lo hi
visit_all {s} {s'} {t} {t'} {lo} e v = subst (λ x. Visited s s' t t' lo x) e v

pub blanks_all : (n : ℕ) → sum_by blank (replicate n false) ≡ n
blanks_all zero = refl
blanks_all (suc n) = omega (arith, sum_by-cons blank false (replicate n false), blanks_all n)

on_none : (i : ℕ) (t : List ℕ) → length t ≡ 0 → On i t → ⊥
on_none i [] e h = h
on_none i (x ∷ t) e h = omega arith

-- before the first turn, when no cell is marked
pub search_begin : {H : Heap} {start goal : ℕ} {s s' : List Bool} {t t' : List ℕ} (n : ℕ) → s ≡ replicate n false → length t ≡ 0 → start < length H → length H ≤ n
    → Visited s s' t t' start (start + 1) → Search H start goal s' t'
search_begin {H} {start} {goal} {s} {s'} {t} {t'} n clean none lt long v =
    search_none H start goal s s' t t' lt (omega (arith, ap length clean, length-replicate n false))
    (λ i h. none_seen n i (subst (λ x. Seen x i) clean h)) (λ i h. on_none i t none h) v

pub search_end : {H : Heap} {start goal : ℕ} {s : List Bool} {t : List ℕ} → t ≡ [] → Search H start goal s t → Reach H start goal → ⊥
search_end {H} {start} {goal} {s} none was r = search_all H start goal s (subst (Search H start goal s) none was) r

-- the cell that is taken from the stack
pub search_met : {H : Heap} {start goal : ℕ} {s : List Bool} {u : List ℕ} (t : List ℕ) (at : ℕ) → u ≡ t ++ at ∷ [] → Search H start goal s u → Reach H start at × (at < length H)
search_met t at taken was = was.met at (subst (On at) (sym taken) (on_last at t))
