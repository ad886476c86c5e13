-- What code says of terms, free of any heap, and when it says what a clause does.
use Rattle.std.specs.Prelude.{◌≡◌, ℕ, zero, suc, ◌-◌, ◌<◌, ◌≤◌, cond, List, [], ◌∷◌, length, ◌==◌}
use Rattle.horn.specs.Terms.{Name, Term, Terms, var, node, nil, cons}
use Rattle.horn.specs.Clauses.{Clause}
use Rattle.horn.specs.Instances.{Rule, clause_rule}
use Rattle.code.specs.declared.instructions.Operand.{Operand}
use Rattle.code.specs.declared.instructions.Operand.TheVariants.{Fresh, Known, Constant}
use Rattle.code.specs.declared.instructions.Instruction.{Instruction}
use Rattle.code.specs.declared.instructions.Instruction.TheVariants.{Allocate, Get, GetStructure, Unify, Put, PutStructure, Set, Call, Proceed}

-- what the numbers of symbols stand for
pub record Symbols : Type 0 where
  pub name : ℕ → Name
  pub arity : ℕ → ℕ

-- a term for each slot, and for each argument, from 1 on
abbrev pub Terming : Type 0
Terming = ℕ → Term ℕ

-- the terms α k, α (k + 1) and so on, n of them
abbrev pub span : Terming → ℕ → ℕ → Terms ℕ
span α k zero = nil
span α k (suc n) = cons (α k) (span α (suc k) n)

-- the term that an operand names, where σ has the slots
abbrev pub given : Symbols → Operand → Terming → Term ℕ
given s (Fresh y) σ = σ y
given s (Known y) σ = σ y
given s (Constant c) σ = node (s.name c) nil

-- the term that a unify or a set instruction names
abbrev pub part : Symbols → Instruction → Terming → Term ℕ
part s (Unify o) σ = given s o σ
part s (Set o) σ = given s o σ
part s (Allocate n) σ = var 0
part s (Get o a) σ = var 0
part s (GetStructure y f) σ = var 0
part s (Put o a) σ = var 0
part s (PutStructure y f) σ = var 0
part s (Call p) σ = var 0
part s Proceed σ = var 0

-- the terms that the first n instructions name in turn
abbrev pub parts : Symbols → ℕ → List Instruction → Terming → Terms ℕ
parts s zero code σ = nil
parts s (suc n) [] σ = nil
parts s (suc n) (i ∷ code) σ = cons (part s i σ) (parts s n code σ)

abbrev pub update : Terming → ℕ → Term ℕ → Terming
update α a t k = cond (k == a) t (α k)

-- the structure of the symbol f whose arguments the code gives
abbrev pub structure : Symbols → ℕ → List Instruction → Terming → Term ℕ
structure s f code σ = node (s.name f) (parts s (s.arity f) code σ)

-- the equations between the arguments α and the slots σ: a get instruction equates an argument with what it names, and a structure
-- instruction its slot with the structure that it begins
abbrev pub Says : Symbols → List Instruction → Terming → Terming → Type 0
Says s [] α σ = Unit {0}
Says s (Get o a ∷ code) α σ = (α a ≡ given s o σ) × Says s code α σ
Says s (GetStructure y f ∷ code) α σ = (σ y ≡ structure s f code σ) × Says s code α σ
Says s (PutStructure y f ∷ code) α σ = (σ y ≡ structure s f code σ) × Says s code α σ
Says s (Allocate n ∷ code) α σ = Says s code α σ
Says s (Unify o ∷ code) α σ = Says s code α σ
Says s (Put o a ∷ code) α σ = Says s code α σ
Says s (Set o ∷ code) α σ = Says s code α σ
Says s (Call p ∷ code) α σ = Says s code α σ
Says s (Proceed ∷ code) α σ = Says s code α σ

-- the goals that are left, where π has the arguments put since the last call
abbrev pub goals : Symbols → List Instruction → Terming → Terming → Terms ℕ
goals s [] σ π = nil
goals s (Put o a ∷ code) σ π = goals s code σ (update π a (given s o σ))
goals s (Call p ∷ code) σ π = cons (node (s.name p) (span π 1 (s.arity p))) (goals s code σ var)
goals s (Allocate n ∷ code) σ π = goals s code σ π
goals s (Get o a ∷ code) σ π = goals s code σ π
goals s (GetStructure y f ∷ code) σ π = goals s code σ π
goals s (Unify o ∷ code) σ π = goals s code σ π
goals s (PutStructure y f ∷ code) σ π = goals s code σ π
goals s (Set o ∷ code) σ π = goals s code σ π
goals s (Proceed ∷ code) σ π = goals s code σ π

-- the code holds of the arguments, the slots and the goals that it leaves
abbrev pub Holds : Symbols → List Instruction → Terming → Terming → Terms ℕ → Type 0
Holds s code α σ gs = Says s code α σ × (gs ≡ goals s code σ var)

-- with some slots, the code of the predicate p holds of the arguments ts and the goals gs
abbrev pub Runs : Symbols → ℕ → List Instruction → Terms ℕ → Terms ℕ → Type 0
Runs s p code ts gs = (α σ : Terming) × (ts ≡ span α 1 (s.arity p)) × Holds s code α σ gs

-- the code as a rule; a clause's code has two words more than its weight
abbrev pub code_rule : Symbols → ℕ → List Instruction → Rule
code_rule s p code = record { name = s.name p; relates = Runs s p code; weight = length code - 2 }

-- the code of the predicate p runs for just the instances of the clause
pub record Denotes (s : Symbols) (p : ℕ) (code : List Instruction) (c : Clause) : Type 0 where
  pub named : s.name p ≡ (clause_rule c).name
  pub into : (ts gs : Terms ℕ) → Runs s p code ts gs → (clause_rule c).relates ts gs
  pub back : (ts gs : Terms ℕ) → (clause_rule c).relates ts gs → Runs s p code ts gs

abbrev pub Alike : (ℕ → Type 0) → Terming → Terming → Type 0
Alike In α β = (k : ℕ) → In k → α k ≡ β k

-- the meaning is that of the arguments 1 to n and the slots below m alone, and no goal has an argument that was not put
pub record Defined (s : Symbols) (n m : ℕ) (code : List Instruction) : Type 0 where
  pub says : (α β σ τ : Terming) → Alike (λ a. (0 < a) × (a ≤ n)) α β → Alike (λ y. y < m) σ τ → Says s code α σ → Says s code β τ
  pub leaves : (σ τ π ρ : Terming) → Alike (λ y. y < m) σ τ → goals s code σ π ≡ goals s code τ ρ
