-- V7 in turns.
use Rattle.std.proofs.Common.{◌≡◌, ℕ, ◌+◌, ◌<◌, List, map, length, get_or, drop, Option, sym, ap, ◌∙◌}
use Rattle.std.proofs.lemmas.List.{at_drop_more}
use Rattle.code.specs.declared.instructions.Operand.{Operand}
use Rattle.code.specs.declared.instructions.Instruction.{Instruction}
use Rattle.code.specs.Words.{decode}
use Rattle.code.specs.Tests.{chosen}
use Rattle.code.specs.Rules.{structure_at, structure_on, argument_one, key_by, key_of}

module _ (ws : List ℕ) (i : ℕ) (h : i < length ws) (x : Instruction) (is : x ≡ decode (get_or ws i 0)) where
  pub on_turn : (y : ℕ) (o : Option ℕ) → o ≡ structure_at y x → structure_on y (map decode (drop i ws)) ≡ chosen o (λ f. 1 + f) (structure_on y (map decode (drop (i + 1) ws)))
  on_turn y o e =
      at_drop_more (λ l. structure_on y (map decode l)) ws i 0 h
      ∙ ap (λ o. chosen o (λ f. 1 + f) (structure_on y (map decode (drop (i + 1) ws)))) (ap (structure_at y) (sym is) ∙ sym e)

  pub key_turn : (o : Option Operand) → o ≡ argument_one x → key_of (map decode (drop i ws)) ≡ chosen o (λ o. key_by o (map decode (drop (i + 1) ws))) (key_of (map decode (drop (i + 1) ws)))
  key_turn o e =
      at_drop_more (λ l. key_of (map decode l)) ws i 0 h
      ∙ ap (λ o. chosen o (λ o. key_by o (map decode (drop (i + 1) ws))) (key_of (map decode (drop (i + 1) ws)))) (ap argument_one (sym is) ∙ sym e)
