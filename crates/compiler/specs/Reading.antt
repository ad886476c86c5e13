-- The clause that items spell, its terms in prefix order.
use Rattle.std.specs.Prelude.{◌≡◌, ℕ, ◌+◌, ◌≤◌, List, [], ◌∷◌, length}
use Rattle.horn.specs.Terms.{Terms, var, node, nil, cons, count, front, back, evals}
use Rattle.symbol_table.specs.Symbols.{Signature, name_at, arity_at, symbols_of}
use Rattle.code.specs.Meaning.{Terming, Runs}
use Rattle.code.specs.declared.instructions.Instruction.{Instruction}
use Rattle.compiler.specs.declared.items.Item.{Item}
use Rattle.compiler.specs.declared.items.Item.TheVariants.{Atom, Structure, Variable}

-- the terms that the items spell, one after another
abbrev pub reads : Signature → List Item → Terms ℕ
reads sig [] = nil
reads sig (Atom c ∷ ts) = cons (node (name_at sig c) nil) (reads sig ts)
reads sig (Variable v ∷ ts) = cons (var v) (reads sig ts)
reads sig (Structure f ∷ ts) = cons (node (name_at sig f) (front (arity_at sig f) (reads sig ts))) (back (arity_at sig f) (reads sig ts))

-- no structure lacks a term
abbrev pub Whole : Signature → List Item → Type 0
Whole sig [] = Unit {0}
Whole sig (Atom c ∷ ts) = Whole sig ts
Whole sig (Variable v ∷ ts) = Whole sig ts
Whole sig (Structure f ∷ ts) = (arity_at sig f ≤ count (reads sig ts)) × Whole sig ts

-- the goals of the predicates ps, their arguments in turn those of ts
abbrev pub heads : Signature → List ℕ → Terms ℕ → Terms ℕ
heads sig [] ts = nil
heads sig (p ∷ ps) ts = cons (node (name_at sig p) (front (arity_at sig p) ts)) (heads sig ps (back (arity_at sig p) ts))

-- some terms for the variables make the head's arguments ts and the goals gs, of the clause with the head p and the goals ps, whose arguments
-- the items spell in turn
abbrev pub Meant : Signature → ℕ → List ℕ → List Item → Terms ℕ → Terms ℕ → Type 0
Meant sig p ps items ts gs =
    (τ : Terming) × (evals (front (arity_at sig p) (reads sig items)) τ ≡ ts)
    × (evals (heads sig ps (back (arity_at sig p) (reads sig items))) τ ≡ gs)

-- the code runs for just these
pub record Carries (sig : Signature) (p : ℕ) (ps : List ℕ) (items : List Item) (code : List Instruction) : Type 0 where
  pub into : (ts gs : Terms ℕ) → Runs (symbols_of sig) p code ts gs → Meant sig p ps items ts gs
  pub back : (ts gs : Terms ℕ) → Meant sig p ps items ts gs → Runs (symbols_of sig) p code ts gs

abbrev pub arities : Signature → List ℕ → ℕ
arities sig [] = 0
arities sig (p ∷ ps) = arity_at sig p + arities sig ps

-- the weight of an item
abbrev pub heft : Item → ℕ
heft (Atom c) = 1
heft (Variable v) = 1
heft (Structure f) = 2

abbrev pub hefts : List Item → ℕ
hefts [] = 0
hefts (t ∷ ts) = heft t + hefts ts

abbrev pub weight : List ℕ → List Item → ℕ
weight ps ts = length ps + hefts ts
