-- Laws of a structure that is made of references to its arguments.
use Rattle.std.proofs.Common.{◌≡◌, ℕ, ◌+◌, ◌≤◌, List, [], ◌∷◌, ◌++◌, map, length, take, refl, ap, arith, length-append}
use Rattle.std.proofs.lemmas.List.{length-map, length-take-le}
use Rattle.heap.specs.Heaps.{Heap, total, arity}
use Rattle.heap.specs.declared.cell.Cell.TheVariants.{Ref}
use Rattle.cells.specs.States.{Fine}
use Rattle.cells.specs.Growth.{Spare}

total_refs : (H : Heap) (xs : List ℕ) → total arity (H ++ map Ref xs) ≡ total arity H
total_refs [] [] = refl
total_refs [] (x ∷ xs) = omega (arith, total_refs [] xs)
total_refs (c ∷ H) xs = ap (λ n. arity c + n) (total_refs H xs)

-- k arguments are there
module _ (H G : Heap) (xs : List ℕ) (k : ℕ) (have : G ≡ H ++ map Ref (take k xs)) (part : k ≤ length xs) where
  pub refs_length : length G ≡ length H + k
  refs_length = omega (arith, ap length have, length-append H (map Ref (take k xs)), length-map (take k xs) Ref, length-take-le k xs part)

  pub refs_spare : (n : ℕ) → Fine H n → Spare G k
  refs_spare n f = omega (arith, f.arguments, ap (total arity) have, total_refs H (take k xs), refs_length)
