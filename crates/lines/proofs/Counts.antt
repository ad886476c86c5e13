-- What the check of a line's fields says of the terms that they spell.
use Rattle.std.proofs.Common.{◌≡◌, ℕ, ◌+◌, List, [], ◌∷◌, map, Ok, sym, refl, ap, ◌∙◌, subst, arith}
use Rattle.lines.specs.declared.kind.Kind.{Kind}
use Rattle.lines.specs.declared.line.Line.{Line}
use Rattle.horn.specs.Terms.{Name, Term, var, node, nil, cons, count}
use Rattle.horn.specs.Clauses.{Written}
use Rattle.horn.specs.Weights.{load}
use Rattle.horn.specs.Notation.{Word, variable, field, word_for, words, wordss}
use Rattle.lines.specs.Kinds.{least, heads}
use Rattle.lines.specs.Lines.{check, build}
use Rattle.lines.specs.Grammar.{Good, Goods}
use Rattle.lines.specs.Said.{Counted}
use Rattle.lines.specs.Tokens.{before, words_of}
use Rattle.lines.proofs.WordLaws.{word_field}
use Rattle.lines.proofs.Accepts.{Accepted, accepted}

-- the fields of terms are their words
mutual
  words_term : (t : Term Name) (ws : List Word) → Good t → words_of (map field (words t ws)) ≡ words t (words_of (map field ws))
  words_term (var v) ws h = ap (λ o. before o (words_of (map field ws))) (word_field (variable v) h)
  words_term (node f ts) ws h =
      ap (λ o. before o (words_of (map field (wordss ts ws)))) (word_field (word_for f (count ts)) h.0)
      ∙ ap (λ xs. word_for f (count ts) ∷ xs) (words_terms ts ws h.1)

  words_terms : (ts : Written) (ws : List Word) → Goods ts → words_of (map field (wordss ts ws)) ≡ wordss ts (words_of (map field ws))
  words_terms nil ws h = refl
  words_terms (cons t ts) ws h = words_term t (wordss ts ws) h.0 ∙ ap (words t) (words_terms ts ws h.1)

module _ (k : Kind) (d w : ℕ) (fs : List (List ℕ)) (e : check (heads k + d) 0 (least k) 0 3 fs ≡ Ok w) where
  all : Accepted (heads k + d) 0 (least k) 0 w fs (build fs)
  all = accepted fs (heads k + d) 0 (least k) 0 3 w (omega arith) e

  pub goals_are : heads k + d ≡ count (build fs)
  goals_are = omega (arith, all.counted)

  pub weight_is : w ≡ load (least k) (build fs)
  weight_is = omega (arith, all.weight)

  pub tokens_are : words_of fs ≡ wordss (build fs) []
  tokens_are = ap words_of (sym all.spelt) ∙ words_terms (build fs) [] all.good

-- a line counts its own terms
pub counted : (k : Kind) (l : Line) → l.kind ≡ k → Counted k l
counted k l e = subst (λ j. Counted j l) e (record { kind = refl; goals = l.counted; weight = l.weighed; tokens = l.told })
