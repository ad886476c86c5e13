-- An answer line from left to right: unbound variables have the number that they got when they first appeared.
use Rattle.std.specs.Prelude.{ℕ, List, [], ◌∷◌, ◌++◌, length, decimal, nat_eq}
use Rattle.horn.specs.Terms.{Term, Terms, var, node, nil, cons, count}
use Rattle.horn.specs.Notation.{field, word_for}
use Rattle.horn.specs.Answers.{note, place, through, label}
use Rattle.heap.specs.Solutions.{Valuation}
use Rattle.answers.specs.declared.variable.Variable.{Variable}
use Rattle.answers.specs.Shows.{name_of}

-- the fields of a term, a comma before each, where the unbound variables us have appeared before
abbrev mutual
  pub written : Term ℕ → List ℕ → List ℕ
  written (var v) us = 44 ∷ label (place nat_eq v us)
  written (node f ts) us = (44 ∷ field (word_for f (count ts))) ++ writtens ts us

  pub writtens : Terms ℕ → List ℕ → List ℕ
  writtens nil us = []
  writtens (cons t ts) us = written t us ++ writtens ts (through (note nat_eq) t us)

-- a variable's name and its term, a comma before each field, where the unbound variables us have appeared before
abbrev pub told_one : List ℕ → Valuation → Variable → List ℕ → List ℕ
told_one line ρ v us = (44 ∷ name_of line v) ++ written (ρ v.cell) us

abbrev pub told : List ℕ → Valuation → List Variable → List ℕ → List ℕ
told line ρ [] us = []
told line ρ (v ∷ vs) us = told_one line ρ v us ++ told line ρ vs (through (note nat_eq) (ρ v.cell) us)

-- the line from left to right
abbrev pub told_all : List ℕ → Valuation → List Variable → List ℕ
told_all line ρ vs = 65 ∷ 44 ∷ (decimal (length vs) ++ told line ρ vs [])
