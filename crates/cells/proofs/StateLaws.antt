-- Laws of the cells in use.
use Rattle.std.proofs.Common.{◌≡◌, ℕ, ◌+◌, ◌<◌, ◌≤◌, cond, List, [], ◌∷◌, ◌++◌, length, Some, None, sym, ap, subst₂, arith}
use Rattle.std.proofs.lemmas.List.{length_push}
use Rattle.std.proofs.lemmas.Bool.{lt-ltb}
use Rattle.heap.specs.Limits.{cell_limit}
use Rattle.heap.specs.Heaps.{Heap, Names, Sound, Closed, total, arity, plain}
use Rattle.heap.specs.declared.cell.Cell.{Cell}
use Rattle.heap.specs.declared.cell.Cell.TheVariants.{Unbound, Ref, Node}
use Rattle.heap.proofs.PushLaws.{sound_none, closed_none, sound_push, closed_push, total_push}
use Rattle.matching.specs.Trails.{Kept}
use Rattle.matching.specs.declared.trail.Bound.{Bound}
use Rattle.cells.specs.States.{Fine}
use Rattle.cells.specs.Growth.{placed, grown, Spare}

plain_le : (c : Cell) → plain c ≤ 1
plain_le Unbound = omega arith
plain_le (Ref k) = omega arith
plain_le (Node f n b) = omega arith

-- no cells
pub fine_none : Fine [] 0
fine_none = record { sound = sound_none; closed = closed_none; arguments = omega arith; bindings = omega arith }

pub fine_empty : {H : Heap} {t : List Bound} → H ≡ [] → t ≡ [] → Fine H (length t)
fine_empty p q = subst₂ (λ H t. Fine H (length t)) (sym p) (sym q) fine_none

-- one more cell
pub fine_push : (H : Heap) (c : Cell) (n : ℕ) → Fine H n → ((j : ℕ) → Names c j → j < length H) → total arity H + arity c ≤ length H + 1 → Fine (H ++ c ∷ []) n
fine_push H c n f older spare = record {
  sound = sound_push H c f.closed older f.sound;
  closed = closed_push H c f.closed older;
  arguments = omega (arith, total_push arity H c, length_push H c);
  bindings = omega (arith, f.bindings, total_push plain H c, length_push H c, plain_le c);
}

pub grown_room : (H : Heap) (c : Cell) → length H < cell_limit → grown H c ≡ H ++ c ∷ []
grown_room H c h = ap (λ b. cond b (H ++ c ∷ []) H) (lt-ltb (length H) cell_limit h)

pub placed_room : (H : Heap) → length H < cell_limit → placed H ≡ Some (length H)
placed_room H h = ap (λ b. cond b (Some (length H)) None) (lt-ltb (length H) cell_limit h)

-- matching keeps what it needs
pub fine_kept : {H H' : Heap} {t t' : List Bound} → Fine H (length t) → Kept H t H' t' → Sound H' → Closed H' → Fine H' (length t')
fine_kept f k sound closed = record {
  sound = sound;
  closed = closed;
  arguments = omega (arith, f.arguments, k.fewer, k.long);
  bindings = omega (arith, f.bindings, k.bound, k.long);
}

-- a new cell without arguments may be one
pub spare_none : (H : Heap) (n : ℕ) → Fine H n → Spare H 0
spare_none H n f = omega (arith, f.arguments)

pub spare_push : (H : Heap) (c : Cell) (n : ℕ) → arity c ≡ 0 → Spare H n → Spare (H ++ c ∷ []) (n + 1)
spare_push H c n e h = omega (arith, h, total_push arity H c, length_push H c)
