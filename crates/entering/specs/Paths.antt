-- Cells that store a path: they have just the terms that its instances give.
use Rattle.std.specs.Prelude.{◌≡◌, ℕ, zero, suc, ◌-◌, ◌<◌, List, [], ◌∷◌, ◌++◌, map, length, Some, None, Option, ◌≢◌}
use Rattle.std.specs.List.{AllByRecursion}
use Rattle.horn.specs.Terms.{Term, Terms, nil, cons, evals}
use Rattle.horn.specs.Clauses.{Variable, Query}
use Rattle.horn.specs.Paths.{Path}
use Rattle.horn.specs.Instances.{Rule, Leads, rule_tree, Asks}
use Rattle.horn.specs.Search.{child}
use Rattle.heap.specs.Heaps.{Heap, Sound}
use Rattle.heap.specs.Solutions.{Valuation, Sol}
use Rattle.code.specs.declared.instructions.Instruction.{Instruction}
use Rattle.code.specs.Meaning.{Symbols, Runs}
use Rattle.entering.specs.declared.goal.Goal.{Goal}
use Rattle.entering.specs.Goals.{vals, Names, Good}
use Rattle.entering.specs.Entries.{Entered, Denied}

-- a clause by its code
pub record Coded : Type 0 where
  pub predicate : ℕ
  pub code : List Instruction

-- the clause of this number, counted from 1
abbrev pub coded_at : List Coded → ℕ → Option Coded
coded_at [] n = None
coded_at (c ∷ cs) zero = None
coded_at (c ∷ cs) (suc zero) = Some c
coded_at (c ∷ cs) (suc (suc n)) = coded_at cs (suc n)

-- the rules that clauses give by their code
abbrev pub code_rule : Symbols → Coded → Rule
code_rule s c = record { name = s.name c.predicate; relates = Runs s c.predicate c.code; weight = length c.code - 2 }

abbrev pub code_rules : Symbols → List Coded → List Rule
code_rules s cs = map (code_rule s) cs

-- the terms of cells, and of variables
abbrev pub terms : Valuation → List ℕ → Terms ℕ
terms ρ [] = nil
terms ρ (i ∷ Q) = cons (ρ i) (terms ρ Q)

abbrev pub values : (Variable → Term ℕ) → List Variable → Terms ℕ
values σ [] = nil
values σ (v ∷ vs) = cons (σ v) (values σ vs)

-- some terms for the query's variables give these to vs, and these goals
abbrev pub Posed : Query → List Variable → Terms ℕ → Terms ℕ → Type 0
Posed q vs qs gs = (σ : Variable → Term ℕ) × (values σ vs ≡ qs) × (evals q σ ≡ gs)

-- the cells Q and the goals G have just the terms that the path's instances give the query's variables vs and the goals left
pub record Stores (s : Symbols) (program : List Rule) (asks : Terms ℕ → Terms ℕ → Type 0) (path : Path) (H : Heap) (Q : List ℕ) (G : List Goal) : Type 0 where
  pub into : (ρ : Valuation) → Sol s.name H ρ → (gs : Terms ℕ) × asks (terms ρ Q) gs × Leads program gs path (vals s ρ G)
  pub back : (qs gs hs : Terms ℕ) → asks qs gs → Leads program gs path hs → (ρ : Valuation) × Sol s.name H ρ × (terms ρ Q ≡ qs) × (vals s ρ G ≡ hs)

-- the paths of the query, with the clauses by their code
abbrev pub Passes : Symbols → List Coded → Query → Path → Type 0
Passes s cs q path = (rule_tree (code_rules s cs) (Asks q) 0).passable path

abbrev pub Succeeds : Symbols → List Coded → Query → Path → Type 0
Succeeds s cs q path = (rule_tree (code_rules s cs) (Asks q) 0).successful path

abbrev pub Stored : Symbols → List Coded → Query → List Variable → Path → Heap → List ℕ → List Goal → Type 0
Stored s cs q vs path H Q G = Stores s (code_rules s cs) (Posed q vs) path H Q G

-- what clause c makes of a path that is stored, whose leftmost goal is g
pub record Onward (s : Symbols) (cs : List Coded) (q : Query) (vs : List Variable) (path : Path) (H : Heap) (Q : List ℕ) (g : Goal) (G : List Goal) (c : ℕ) : Type 0 where
  -- it has the goal's symbol: entered, the cells store the longer path; denied, that path does not pass
  pub enter : (d : Coded) → coded_at cs c ≡ Some d → d.predicate ≡ g.symbol → (H' : Heap) (B : List Goal) → Entered s H g d.code H' B → Stored s cs q vs (child path c) H' Q (B ++ G)
  pub deny : (d : Coded) → coded_at cs c ≡ Some d → d.predicate ≡ g.symbol → Denied s H g d.code → Passes s cs q (child path c) → ⊥
  -- another symbol, or no clause
  pub other : (d : Coded) → coded_at cs c ≡ Some d → (d.predicate ≢ g.symbol) → Passes s cs q (child path c) → ⊥
  pub none : coded_at cs c ≡ None → Passes s cs q (child path c) → ⊥

-- all clauses have symbols of the table
abbrev pub KnownAll : List ℕ → List Coded → Type 0
KnownAll table cs = AllByRecursion (λ d. d.predicate < length table) cs

abbrev pub PathStep : Type 0
PathStep =
    (s : Symbols) (table : List ℕ) → Names s table → (cs : List Coded) → KnownAll table cs → (q : Query) (vs : List Variable) (path : Path) (H : Heap) (Q : List ℕ) (g : Goal) (G : List Goal)
    → AllByRecursion (λ i. i < length H) Q → AllByRecursion (Good table (length H)) (g ∷ G) → Stored s cs q vs path H Q (g ∷ G) → (c : ℕ) → Onward s cs q vs path H Q g G c

-- a path that is stored passes; it succeeds just where no goals are left
pub record Reached (s : Symbols) (cs : List Coded) (q : Query) (path : Path) (G : List Goal) : Type 0 where
  pub passes : Passes s cs q path
  pub succeeds : G ≡ [] → Succeeds s cs q path
  pub empty : Succeeds s cs q path → G ≡ []

abbrev pub PathEnd : Type 0
PathEnd = (s : Symbols) (cs : List Coded) (q : Query) (vs : List Variable) (path : Path) (H : Heap) (Q : List ℕ) (G : List Goal) → Sound H → Stored s cs q vs path H Q G → Reached s cs q path G
