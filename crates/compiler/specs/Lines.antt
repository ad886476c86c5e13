-- The items of a clause by their places.
use Rattle.std.specs.Prelude.{◌≡◌, ℕ, suc, ◌+◌, ◌<◌, List, [], ◌∷◌, length, take, slice_index, slice_index_or}
use Rattle.horn.specs.Terms.{Terms, node, nil, cons}
use Rattle.symbol_table.specs.Symbols.{Signature, name_at, arity_at}
use Rattle.compiler.specs.Terms.{hop}
use Rattle.code.specs.Meaning.{Terming}
use Rattle.compiler.specs.Places.{Plan, values}
use Rattle.compiler.specs.Lawful.{Formed}
use Rattle.compiler.specs.declared.items.Item.{Item}
use Rattle.compiler.specs.declared.items.Item.TheVariants.{Atom, Structure, Variable}

-- the items ts, with the tables of what comes after each term and of slots
abbrev pub plan : Signature → List Item → List ℕ → List ℕ → Plan
plan sig ts es ss = record {
  sig = sig;
  tok = λ i. slice_index_or ts i (Atom 0);
  after = λ i. slice_index es i;
  slot = λ i. slice_index ss i;
  size = length ts;
}

-- how many structures
abbrev pub structures : List Item → ℕ
structures [] = 0
structures (Atom c ∷ ts) = structures ts
structures (Structure f ∷ ts) = suc (structures ts)
structures (Variable v ∷ ts) = structures ts

-- how many variables, each as often as it stands there
abbrev pub variables : List Item → ℕ
variables [] = 0
variables (Atom c ∷ ts) = variables ts
variables (Structure f ∷ ts) = variables ts
variables (Variable v ∷ ts) = suc (variables ts)

-- each variable is numbered below vars
abbrev pub Numbered : ℕ → List Item → Type 0
Numbered vars [] = Unit {0}
Numbered vars (Atom c ∷ ts) = Numbered vars ts
Numbered vars (Structure f ∷ ts) = Numbered vars ts
Numbered vars (Variable v ∷ ts) = (v < vars) × Numbered vars ts

-- the structures have the slots from vars on, in turn
abbrev pub Slotted : ℕ → List Item → List ℕ → Type 0
Slotted vars ts ss = (i : ℕ) → i < length ts → slice_index ss i ≡ vars + structures (take i ts)

-- the goals of the predicates ps, whose arguments stand from j on
abbrev pub calls : Plan → Terming → List ℕ → ℕ → Terms ℕ
calls p ρ [] j = nil
calls p ρ (q ∷ ps) j = cons (node (name_at p.sig q) (values p ρ (arity_at p.sig q) j)) (calls p ρ ps (hop p.after (arity_at p.sig q) j))

-- each symbol is known: a constant's has no arguments, a structure's some
abbrev pub Sound : Signature → Item → Type 0
Sound sig (Atom c) = (c < length sig) × (arity_at sig c ≡ 0)
Sound sig (Structure f) = Formed sig f
Sound sig (Variable v) = Unit {0}

abbrev pub Known : Signature → List Item → Type 0
Known sig ts = (i : ℕ) → i < length ts → Sound sig (slice_index_or ts i (Atom 0))

-- each number below vars is that of a variable
abbrev pub Used : ℕ → List Item → Type 0
Used vars ts = (v : ℕ) → v < vars → (i : ℕ) × (i < length ts) × (slice_index_or ts i (Atom 0) ≡ Variable v)
