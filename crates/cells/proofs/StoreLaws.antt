-- What every store has.
use mathlib.Core.HLevel.{Π_prop}
use mathlib.Core.Logic.{∥∥₁_elim}
use mathlib.Core.WellFounded.{Acc-prop}
use denote.Struct.Props.{props}
use Rattle.std.proofs.Common.{◌≡◌, ◌+◌, ◌<◌, ◌≤◌, [], ◌∷◌, ◌++◌, length, take, set, arith}
use Rattle.std.proofs.lemmas.List.{length-take-le, take_more_set}
use Rattle.heap.specs.Limits.{cell_limit}
use Rattle.heap.specs.declared.cell.Cell.{Cell}
use Rattle.cells.specs.States.{Fine}
use Rattle.cells.specs.Stores.{cells_of, bound_of}
use Rattle.cells.specs.declared.store.Store.{Store}

pub store_fine : (s : Store) → Fine (cells_of s) (length (bound_of s))
store_fine s = record {
  sound = ∥∥₁_elim s.fine (Π_prop (λ i. Acc-prop)) (λ f. f.sound);
  closed = ∥∥₁_elim s.fine (hlevel props) (λ f. f.closed);
  arguments = ∥∥₁_elim s.fine (hlevel props) (λ f. f.arguments);
  bindings = ∥∥₁_elim s.fine (hlevel props) (λ f. f.bindings);
}

pub store_top : (s : Store) → length (cells_of s) ≡ s.top
store_top s = length-take-le s.top s.cells (omega (arith, s.long, s.few))

pub store_few : (s : Store) → length (cells_of s) ≤ cell_limit
store_few s = omega (arith, store_top s, s.few)

-- one more cell
pub push_cut : (s : Store) (c : Cell) → s.top < cell_limit → take (s.top + 1) (set s.cells s.top c) ≡ cells_of s ++ c ∷ []
push_cut s c lt = take_more_set s.cells s.top c (omega (arith, s.long))
