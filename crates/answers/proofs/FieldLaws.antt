-- The bytes of a field, with and without arguments.
use Rattle.std.proofs.Common.{◌≡◌, ℕ, zero, suc, ◌+◌, ◌<◌, [], ◌∷◌, ◌++◌, refl, ap, arith}
use Rattle.horn.specs.Terms.{Name}
use Rattle.horn.specs.Notation.{field, word_for}

pub field_alone : (f : Name) (n : ℕ) → n ≡ 0 → field (word_for f n) ≡ f
field_alone f n e = ap (λ k. field (word_for f k)) e

pub field_arity : (f : Name) (n : ℕ) → 0 < n → field (word_for f n) ≡ f ++ 47 ∷ (48 + n) ∷ []
field_arity f zero h = absurd (omega arith)
field_arity f (suc n) h = refl
