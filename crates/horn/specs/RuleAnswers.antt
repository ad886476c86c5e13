-- Answers where clauses are given as rules: the values that lead along a path, and the most general of them.
use Rattle.std.specs.Prelude.{◌≡◌, ℕ, List}
use Rattle.horn.specs.Terms.{Terms, evals}
use Rattle.horn.specs.Clauses.{Query}
use Rattle.horn.specs.Paths.{Path}
use Rattle.horn.specs.Answers.{Values, Instance, answer_line}
use Rattle.horn.specs.Instances.{Rule, Leads}

-- with the values σ for its variables, the query leads along the path to some goals
abbrev pub RuleSolution : List Rule → Query → Path → Values → Type 0
RuleSolution program q p σ = (hs : Terms ℕ) × Leads program (evals q σ) p hs

-- θ is such, and every such σ is an instance of it
pub record RuleAnswer (program : List Rule) (q : Query) (p : Path) (θ : Values) : Type 0 where
  pub solves : RuleSolution program q p θ
  pub general : (σ : Values) → RuleSolution program q p σ → Instance q θ σ

-- the line of the path's answer
abbrev pub RuleAnswerLine : List Rule → Query → Path → List ℕ → Type 0
RuleAnswerLine program q p line = (θ : Values) × RuleAnswer program q p θ × (line ≡ answer_line q θ)
