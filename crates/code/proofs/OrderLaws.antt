-- V3 as a pass.
use Rattle.std.proofs.Common.{◌≡◌, Bool, true, false, cond, not, ◌&&◌, ◌||◌, List, [], ◌∷◌, Some, None, sym, refl, ◌∙◌}
use Rattle.std.proofs.Math.Bool.{and_assoc}
use Rattle.code.specs.declared.instructions.Operand.TheVariants.{Fresh, Known, Constant}
use Rattle.code.specs.declared.instructions.Instruction.{Instruction}
use Rattle.code.specs.declared.instructions.Instruction.TheVariants.{Allocate, Get, GetStructure, Unify, Put, PutStructure, Set, Call, Proceed}
use Rattle.code.specs.declared.order.Order.{Order}
use Rattle.code.specs.declared.order.Order.TheVariants.{Head, Owing, Called}
use Rattle.code.specs.Tests.{some}
use Rattle.code.specs.Instructions.{within}
use Rattle.code.specs.Rules.{v3}
use Rattle.code.specs.Passes.{onward, walk, in_body, owing, order_step}

-- what the pass answers from a state: b, a word of 9 to 16 was met; o, a call is owed; h, a word of 2 to 8 follows; c, a call follows;
-- v, the words that follow keep V3
abbrev answer : Bool → Bool → Bool → Bool → Bool → Bool
answer b o h c v = (not b || not h) && ((not o || c) && v)

abbrev pub done : Order → Bool
done s = not (owing s)

abbrev follows : Order → List Instruction → Bool
follows s ws = answer (in_body s) (owing s) (some (within 2 8) ws) (some (within 16 16) ws) (v3 ws)

built : (s : Order) (h c v : Bool) → answer true true h c v ≡ answer (in_body s) (owing s) h c (((not true || not h) && (not true || c)) && v)
built Head h c v = sym (and_assoc (not h) c v)
built Owing true c v = refl
built Owing false true v = refl
built Owing false false v = refl
built Called true c v = refl
built Called false true v = refl
built Called false false v = refl

called : (s : Order) (h c v : Bool) → answer true false h c v ≡ answer (in_body s) (owing s) h true (((not true || not h) && true) && v)
called Head true c v = refl
called Head false c v = refl
called Owing true c v = refl
called Owing false c v = refl
called Called true c v = refl
called Called false c v = refl

gotten : (s : Order) (ws : List Instruction) → walk order_step done s ws ≡ follows s ws
    → onward (cond (in_body s) None (Some s)) (λ t. walk order_step done t ws) ≡ answer (in_body s) (owing s) true (some (within 16 16) ws) (v3 ws)
gotten Head ws ih = ih
gotten Owing ws ih = refl
gotten Called ws ih = refl

pub follow : (ws : List Instruction) (s : Order) → walk order_step done s ws ≡ follows s ws
follow [] Head = refl
follow [] Owing = refl
follow [] Called = refl
follow (Allocate n ∷ ws) s = follow ws s
follow (GetStructure y f ∷ ws) s = gotten s ws (follow ws s)
follow (PutStructure y f ∷ ws) s = follow ws Owing ∙ built s (some (within 2 8) ws) (some (within 16 16) ws) (v3 ws)
follow (Call p ∷ ws) s = follow ws Called ∙ called s (some (within 2 8) ws) (some (within 16 16) ws) (v3 ws)
follow (Proceed ∷ ws) s = follow ws s
follow (Get (Fresh y) a ∷ ws) s = gotten s ws (follow ws s)
follow (Get (Known y) a ∷ ws) s = gotten s ws (follow ws s)
follow (Get (Constant y) a ∷ ws) s = gotten s ws (follow ws s)
follow (Unify (Fresh y) ∷ ws) s = gotten s ws (follow ws s)
follow (Unify (Known y) ∷ ws) s = gotten s ws (follow ws s)
follow (Unify (Constant y) ∷ ws) s = gotten s ws (follow ws s)
follow (Put (Fresh y) a ∷ ws) s = follow ws Owing ∙ built s (some (within 2 8) ws) (some (within 16 16) ws) (v3 ws)
follow (Put (Known y) a ∷ ws) s = follow ws Owing ∙ built s (some (within 2 8) ws) (some (within 16 16) ws) (v3 ws)
follow (Put (Constant y) a ∷ ws) s = follow ws Owing ∙ built s (some (within 2 8) ws) (some (within 16 16) ws) (v3 ws)
follow (Set (Fresh y) ∷ ws) s = follow ws Owing ∙ built s (some (within 2 8) ws) (some (within 16 16) ws) (v3 ws)
follow (Set (Known y) ∷ ws) s = follow ws Owing ∙ built s (some (within 2 8) ws) (some (within 16 16) ws) (v3 ws)
follow (Set (Constant y) ∷ ws) s = follow ws Owing ∙ built s (some (within 2 8) ws) (some (within 16 16) ws) (v3 ws)

pub order_is : (ws : List Instruction) → walk order_step done Head ws ≡ v3 ws
order_is ws = follow ws Head
