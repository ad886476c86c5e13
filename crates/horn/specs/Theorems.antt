-- What is proved about these definitions.
use Rattle.std.specs.Prelude.{◌≡◌, ℕ, ◌+◌, ◌⊎◌, ◌↔◌, List}
use Rattle.horn.specs.Terms.{Terms, evals}
use Rattle.horn.specs.Clauses.{Query, Callables}
use Rattle.horn.specs.Paths.{Path, Before, Rank, Nth}
use Rattle.horn.specs.Equations.{Deck, Proper}
use Rattle.horn.specs.Walk.{Tree, Grown, Hit, Trod, Answered, Exhausted, Stopped, Posable, SameTree, deck_tree}
use Rattle.horn.specs.Answers.{Values, Solution, Answer, answer_line}
use Rattle.horn.specs.Instances.{Leads, program_of, instance_tree}
use Rattle.horn.specs.Search.{Moves}
use Rattle.horn.specs.Transcript.{Prints}

-- dictionary order is a strict total order
pub record TotalOrder : Type 0 where
  pub irreflexive : (p : Path) → Before p p → ⊥
  pub asymmetric : (p q : Path) → Before p q → Before q p → ⊥
  pub transitive : (p q r : Path) → Before p q → Before q r → Before p r
  pub total : (p q : Path) → (p ≡ q) ⊎ (Before p q ⊎ Before q p)

-- n-th paths, ranks and counts are unique, and after n answers at most one of these holds: one more answer, the end, a halt
pub record OneReply (t : Tree) (fuel : ℕ) : Type 0 where
  pub one_nth : (p q : Path) (n : ℕ) → Nth (Hit t fuel) p n → Nth (Hit t fuel) q n → p ≡ q
  pub one_rank : (p : Path) (s r : ℕ) → Rank (Trod t fuel) p s → Rank (Trod t fuel) p r → s ≡ r
  pub one_answer : (p q : Path) (n s r : ℕ) → Answered t fuel p n s → Answered t fuel q n r → (p ≡ q) × (s ≡ r)
  pub one_end : (n s k r : ℕ) → Exhausted t fuel n s → Exhausted t fuel k r → (n ≡ k) × (s ≡ r)
  pub one_halt : (m n s k l r : ℕ) → Stopped t fuel m n s → Stopped t fuel k l r → (m ≡ k) × (n ≡ l) × (s ≡ r)
  pub answer_or_end : (p : Path) (n s r : ℕ) → Answered t fuel p (n + 1) s → Exhausted t fuel n r → ⊥
  pub answer_or_halt : (p : Path) (m n s r : ℕ) → Answered t fuel p (n + 1) s → Stopped t fuel m n r → ⊥
  pub end_or_halt : (m n s k r : ℕ) → Exhausted t fuel n s → Stopped t fuel m k r → ⊥

-- the definitions leave no choice
abbrev pub Decided : Type 0
Decided = (deck : Deck) (q : Query) (fuel : ℕ) → OneReply (deck_tree deck q) fuel

-- the paths of a deck and a query make a search tree
abbrev pub DeckGrown : Type 0
DeckGrown = (deck : Deck) (q : Query) → Posable q → Grown (deck_tree deck q)

-- a search that makes these moves finds exactly the answers, the end and the halt
abbrev pub SearchMoves : Type 0
SearchMoves = (deck : Deck) (q : Query) (fuel : ℕ) → Posable q → Moves (deck_tree deck q) fuel

-- solutions of the equations are instances of the clauses: the same paths, and the same values for the query's variables
pub record Agrees (deck : Deck) (q : Query) : Type 0 where
  pub tree : SameTree (deck_tree deck q) (instance_tree deck q)
  pub values : (p : Path) (σ : Values) → Solution deck q p σ ↔ ((hs : Terms ℕ) × Leads (program_of deck) (evals q σ) p hs)

-- so it is where heads and goals are no variables
abbrev pub Agreement : Type 0
Agreement = (deck : Deck) (q : Query) → Proper deck → Callables q → Agrees deck q

-- two most general solutions give one line
abbrev pub OneLine : Type 0
OneLine = (deck : Deck) (q : Query) (p : Path) (θ θ' : Values) → Answer deck q p θ → Answer deck q p θ' → answer_line q θ ≡ answer_line q θ'

-- a query prints at most one list of lines
abbrev pub OneTranscript : Type 0
OneTranscript = (deck : Deck) (q : Query) (fuel n : ℕ) (ls ls' : List (List ℕ)) → Prints deck q fuel n ls → Prints deck q fuel n ls' → ls ≡ ls'
