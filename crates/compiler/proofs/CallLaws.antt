-- A goal for each call.
use Rattle.std.proofs.Common.{◌≡◌, suc, List, [], ◌∷◌, refl, ap}
use Rattle.code.specs.declared.instructions.Operand.TheVariants.{Fresh, Known, Constant}
use Rattle.code.specs.declared.instructions.Instruction.{Instruction}
use Rattle.code.specs.declared.instructions.Instruction.TheVariants.{Allocate, Get, GetStructure, Unify, Put, PutStructure, Set, Call, Proceed}
use Rattle.horn.specs.Terms.{count}
use Rattle.code.specs.Meaning.{Symbols, Terming, given, update, goals}
use Rattle.horn.specs.Terms.{var}
use Rattle.code.specs.Instructions.{within}
use Rattle.code.specs.Tests.{total}

pub goals_count : (s : Symbols) (ws : List Instruction) (σ π : Terming) → count (goals s ws σ π) ≡ total (within 16 16) ws
goals_count s [] σ π = refl
goals_count s (Allocate n ∷ ws) σ π = goals_count s ws σ π
goals_count s (GetStructure y f ∷ ws) σ π = goals_count s ws σ π
goals_count s (PutStructure y f ∷ ws) σ π = goals_count s ws σ π
goals_count s (Call p ∷ ws) σ π = ap suc (goals_count s ws σ var)
goals_count s (Proceed ∷ ws) σ π = goals_count s ws σ π
goals_count s (Get (Fresh y) a ∷ ws) σ π = goals_count s ws σ π
goals_count s (Get (Known y) a ∷ ws) σ π = goals_count s ws σ π
goals_count s (Get (Constant c) a ∷ ws) σ π = goals_count s ws σ π
goals_count s (Unify (Fresh y) ∷ ws) σ π = goals_count s ws σ π
goals_count s (Unify (Known y) ∷ ws) σ π = goals_count s ws σ π
goals_count s (Unify (Constant c) ∷ ws) σ π = goals_count s ws σ π
goals_count s (Set (Fresh y) ∷ ws) σ π = goals_count s ws σ π
goals_count s (Set (Known y) ∷ ws) σ π = goals_count s ws σ π
goals_count s (Set (Constant c) ∷ ws) σ π = goals_count s ws σ π
goals_count s (Put (Fresh y) a ∷ ws) σ π = goals_count s ws σ (update π a (given s (Fresh y) σ))
goals_count s (Put (Known y) a ∷ ws) σ π = goals_count s ws σ (update π a (given s (Known y) σ))
goals_count s (Put (Constant c) a ∷ ws) σ π = goals_count s ws σ (update π a (given s (Constant c) σ))
