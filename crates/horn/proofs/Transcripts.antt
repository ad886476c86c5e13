-- A query prints one list of lines.
use Rattle.std.proofs.Common.{◌≡◌, ℕ, ◌+◌, List, [], ◌∷◌, sym, ap, ◌∙◌, subst, ap₂}
use Rattle.horn.specs.Clauses.{Query}
use Rattle.horn.specs.Equations.{Deck}
use Rattle.horn.specs.Walk.{deck_tree}
use Rattle.horn.specs.Answers.{AnswerLine}
use Rattle.horn.specs.Notation.{tally_line, halt_line}
use Rattle.horn.specs.Transcript.{Prints, answer, end, halt}
use Rattle.horn.specs.Theorems.{OneReply, OneTranscript}
use Rattle.horn.proofs.Unique.{one_reply}
use Rattle.horn.proofs.Lines.{one_line}

module _ (deck : Deck) (q : Query) (fuel : ℕ) where
  one : OneReply (deck_tree deck q) fuel
  one = one_reply (deck_tree deck q) fuel

  pub decided : (n : ℕ) (ls ls' : List (List ℕ)) → Prints deck q fuel n ls → Prints deck q fuel n ls' → ls ≡ ls'
  decided n ls ls' (answer {line = y} p s a l k) (answer {lines = xs} p' s' a' l' k') =
      let e = one.one_answer p p' (n + 1) s s' a a' in
      let l'' = subst (λ r. AnswerLine deck q r y) e.0 l in
      ap₂ (λ (z : List ℕ) (zs : List (List ℕ)). z ∷ zs) (l''.2 ∙ one_line deck q p' l''.0 l'.0 l''.1 l'.1 ∙ sym l'.2) (decided (n + 1) _ xs k k')
  decided n ls ls' (answer p s a l k) (end s' e) = absurd (one.answer_or_end p n s s' a e)
  decided n ls ls' (answer p s a l k) (halt m s' h) = absurd (one.answer_or_halt p m n s s' a h)
  decided n ls ls' (end s e) (answer p s' a l k) = absurd (one.answer_or_end p n s' s a e)
  decided n ls ls' (end s e) (end s' e') = ap (λ x. tally_line n x ∷ []) (one.one_end n s n s' e e').1
  decided n ls ls' (end s e) (halt m s' h) = absurd (one.end_or_halt m n s n s' e h)
  decided n ls ls' (halt m s h) (answer p s' a l k) = absurd (one.answer_or_halt p m n s' s a h)
  decided n ls ls' (halt m s h) (end s' e) = absurd (one.end_or_halt m n s' n s e h)
  decided n ls ls' (halt m s h) (halt m' s' h') =
      let e = one.one_halt m n s m' n s' h h' in
      ap₂ (λ (x y : ℕ). halt_line x n y ∷ []) e.0 e.2

pub one_transcript : OneTranscript
one_transcript = decided
