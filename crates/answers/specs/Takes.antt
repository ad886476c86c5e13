-- What becomes of bytes that are put into a sink.
use Rattle.std.specs.Prelude.{ℕ, ◌<◌, Bool, List, ◌++◌, length, MatchBool}

-- all of the bytes are held, or the room is too small for them and a part is held
abbrev pub Took : Bool → ℕ → (List ℕ → Type 0) → List ℕ → Type 0
Took r room Holding bytes = MatchBool r (Holding bytes) ((room < length bytes) × ((part : List ℕ) × Holding part))

-- whatever bytes led to the state t and the buffer q, these are put after them
pub record Puts (S : Type 0) (room : S → List ℕ → ℕ) (holds : S → List ℕ → S → List ℕ → List ℕ → Type 0) (r : Bool) (t : S) (q : List ℕ) (t' : S) (q' bytes : List ℕ) : Type 0 where
  pub after : (s : S) (o bs : List ℕ) → holds s o t q bs → Took r (room s o) (holds s o t' q') (bs ++ bytes)
