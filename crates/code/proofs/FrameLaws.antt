-- V2 in parts.
use Rattle.std.proofs.Common.{◌≡◌, ℕ, zero, suc, ◌&&◌, eqb, List, [], ◌∷◌, map, length, get_or, take, sym, refl, ap, ◌∙◌, arith}
use Rattle.std.proofs.Math.Bool.{and_assoc}
use Rattle.code.specs.Instructions.{number, within}
use Rattle.code.specs.Words.{decode}
use Rattle.code.specs.Tests.{every}
use Rattle.code.specs.Rules.{closes}

-- the words before the last, and the last
pub closes_parts : (ws : List ℕ) (n : ℕ) → length ws ≡ suc n → closes (map decode ws) ≡ (every (λ w. within 2 16 (decode w)) (take n ws) && eqb (number (decode (get_or ws n 0))) 17)
closes_parts [] n e = absurd (omega arith)
closes_parts (w ∷ []) zero e = refl
closes_parts (w ∷ []) (suc n) e = absurd (omega arith)
closes_parts (w ∷ x ∷ ws) zero e = absurd (omega arith)
closes_parts (w ∷ x ∷ ws) (suc n) e =
    ap (λ t. within 2 16 (decode w) && t) (closes_parts (x ∷ ws) n (omega arith))
    ∙ sym (and_assoc (within 2 16 (decode w)) (every (λ w. within 2 16 (decode w)) (take n (x ∷ ws))) (eqb (number (decode (get_or (x ∷ ws) n 0))) 17))
