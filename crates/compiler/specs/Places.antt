-- Terms by their places in a line.
use Rattle.std.specs.Prelude.{◌≡◌, ℕ, zero, suc, ◌+◌, ◌<◌, ◌≤◌}
use Rattle.horn.specs.Terms.{Term, Terms, var, node, nil}
use Rattle.symbol_table.specs.Symbols.{Signature, name_at, arity_at}
use Rattle.compiler.specs.Terms.{along}
use Rattle.code.specs.Meaning.{Terming}
use Rattle.compiler.specs.declared.items.Item.{Item}
use Rattle.compiler.specs.declared.items.Item.TheVariants.{Atom, Structure, Variable}

-- A line by its places: each one's item, the place after its term, and its slot if it is a structure.
pub record Plan : Type 0 where
  pub sig : Signature
  pub tok : ℕ → Item
  pub after : ℕ → ℕ
  pub slot : ℕ → ℕ
  pub size : ℕ

-- how many terms an item takes
abbrev pub width : Signature → Item → ℕ
width sig (Atom c) = 0
width sig (Structure f) = arity_at sig f
width sig (Variable v) = 0

-- the term that an item makes of these
abbrev pub shaped : Signature → Item → Terms ℕ → Term ℕ
shaped sig (Atom c) ts = node (name_at sig c) nil
shaped sig (Structure f) ts = node (name_at sig f) ts
shaped sig (Variable v) ts = var v

-- what the slots ρ give an item, y being its slot if it is a structure
abbrev pub worth : Signature → Item → ℕ → Terming → Term ℕ
worth sig (Atom c) y ρ = node (name_at sig c) nil
worth sig (Structure f) y ρ = ρ y
worth sig (Variable v) y ρ = ρ v

-- the slots ρ give a structure its arguments ts
abbrev pub Built : Signature → Item → ℕ → Terming → Terms ℕ → Type 0
Built sig (Atom c) y ρ ts = Unit {0}
Built sig (Structure f) y ρ ts = ρ y ≡ node (name_at sig f) ts
Built sig (Variable v) y ρ ts = Unit {0}

-- n terms stand from j up to m
abbrev pub Run : (ℕ → ℕ) → ℕ → ℕ → ℕ → ℕ → Type 0
Run e end zero j m = j ≡ m
Run e end (suc n) j m = (j < end) × Run e end n (e j) m

abbrev pub wide : Plan → ℕ → ℕ
wide p i = width p.sig (p.tok i)

-- the place after each term is right, from lo on
pub record Ends (p : Plan) (lo : ℕ) : Type 0 where
  pub forth : (i : ℕ) → lo ≤ i → i < p.size → i < p.after i
  pub within : (i : ℕ) → lo ≤ i → i < p.size → p.after i ≤ p.size
  pub runs : (i : ℕ) → lo ≤ i → i < p.size → Run p.after p.size (wide p i) (suc i) (p.after i)

abbrev pub value : Plan → Terming → Terming
value p ρ i = worth p.sig (p.tok i) (p.slot i) ρ

-- what the slots give the n terms from j on
abbrev pub values : Plan → Terming → ℕ → ℕ → Terms ℕ
values p ρ n j = along p.after (value p ρ) n j

-- the slots give the structure at i its arguments, if there is one
abbrev pub BuiltAt : Plan → Terming → ℕ → Type 0
BuiltAt p ρ i = Built p.sig (p.tok i) (p.slot i) ρ (values p ρ (wide p i) (suc i))

-- how many words a structure takes
abbrev pub gain : Signature → Item → ℕ
gain sig (Atom c) = 0
gain sig (Structure f) = suc (arity_at sig f)
gain sig (Variable v) = 0

abbrev pub single : Item → ℕ
single (Atom c) = 0
single (Structure f) = 1
single (Variable v) = 0

-- how many structures stand before i
abbrev pub before : Plan → ℕ → ℕ
before p zero = 0
before p (suc i) = single (p.tok i) + before p i
