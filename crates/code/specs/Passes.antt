-- The rules as passes over the instructions, with a state.
use Rattle.std.specs.Prelude.{ℕ, ◌+◌, ◌-◌, Bool, true, false, cond, not, ◌&&◌, ◌||◌, List, [], ◌∷◌, replicate, Some, None, Option, ◌==◌, nat_eq, nat_le, nat_lt, is_some, is_none, slice_index, slice_index_or, slice_set}
use Rattle.code.specs.declared.instructions.Instruction.{Instruction}
use Rattle.code.specs.declared.order.Order.{Order}
use Rattle.code.specs.declared.order.Order.TheVariants.{Head, Owing, Called}
use Rattle.code.specs.declared.structures.Due.{Due}
use Rattle.code.specs.Limits.{argument_limit}
use Rattle.code.specs.Tests.{below, chosen}
use Rattle.code.specs.Instructions.{within, sets, reads, put, called}
use Rattle.code.specs.Rules.{unifies, builds}

-- each instruction takes the state on, or ends the pass with a no
abbrev pub onward : {S : Type 0} → Option S → (S → Bool) → Bool
onward None next = false
onward (Some s) next = next s

abbrev pub walk : {S W : Type 0} → (S → W → Option S) → (S → Bool) → S → List W → Bool
walk step done s [] = done s
walk step done s (w ∷ ws) = onward (step s w) (λ t. walk step done t ws)

-- the state that the instructions take s to, if each has one
abbrev pub through : {S W : Type 0} → (S → W → Option S) → S → List W → Option S
through step s [] = Some s
through step s (w ∷ ws) = chosen (step s w) (λ t. through step t ws) None

-- V3: the states of the pass
abbrev pub Place : Type 0
Place = Order

abbrev pub head : Place
head = Head

abbrev pub owed : Place
owed = Owing

abbrev pub after_call : Place
after_call = Called

-- a word of 9 to 16 was met, and one of 9 to 15 still wants a call
abbrev pub in_body : Order → Bool
in_body Head = false
in_body Owing = true
in_body Called = true

abbrev pub owing : Order → Bool
owing Head = false
owing Owing = true
owing Called = false

abbrev pub order_step : Order → Instruction → Option Order
order_step s w =
    cond (within 9 15 w) (Some Owing)
    (cond (within 16 16 w) (Some Called)
    (cond (within 2 8 w && in_body s) None
    (Some s)))

abbrev pub due : ℕ → ℕ → Due
due u p = record { unify = u; set = p }

abbrev pub nothing_due : Due → Bool
nothing_due s = s.unify == 0 && s.set == 0

abbrev pub due_after : List ℕ → Instruction → Due
due_after arities w = due (unifies arities w) (builds arities w)

abbrev pub due_step : List ℕ → Due → Instruction → Option Due
due_step arities s w =
    cond (within 6 8 w) (cond (s.unify == 0 || not (s.set == 0)) None (Some (due (s.unify - 1) 0)))
    (cond (within 13 15 w) (cond (s.set == 0 || not (s.unify == 0)) None (Some (due 0 (s.set - 1))))
    (cond (not (s.unify == 0) || not (s.set == 0)) None (Some (due_after arities w))))

-- V5: T has for each slot that was set the place from which on it may be read.
abbrev pub held : Option ℕ → ℕ → Bool
held None i = false
held (Some t) i = nat_le t i

abbrev pub can_read : List (Option ℕ) → ℕ → Option ℕ → Bool
can_read T i None = true
can_read T i (Some y) = held (slice_index_or T y None) i

abbrev pub can_set : List (Option ℕ) → Option ℕ → Bool
can_set T None = true
can_set T (Some y) = is_none (slice_index_or T y None)

abbrev pub marked : List (Option ℕ) → Option ℕ → ℕ → List (Option ℕ)
marked T None t = T
marked T (Some y) t = slice_set T y (Some t)

abbrev pub slot_pass : ℕ → List ℕ → ℕ → List (Option ℕ) → List Instruction → Bool
slot_pass n arities i T [] = below n (λ y. is_some (slice_index_or T y None))
slot_pass n arities i T (w ∷ ws) = can_read T i (reads w) && (can_set T (sets w) && slot_pass n arities (i + 1) (marked T (sets w) (i + 1 + builds arities w)) ws)

-- the slot is below n
abbrev pub inside : ℕ → Option ℕ → Bool
inside n None = true
inside n (Some y) = nat_lt y n

-- V6: how often each argument was met, to two.
abbrev pub bump : ℕ → ℕ
bump c = cond (nat_lt c 2) (c + 1) c

abbrev pub note_arg : List ℕ → ℕ → List ℕ
note_arg counts a = slice_set counts a (bump (slice_index counts a))

abbrev pub wanted : ℕ → ℕ → ℕ
wanted m a = cond (nat_lt a m) 1 0

abbrev pub full : ℕ → List ℕ → Bool
full m counts = nat_le m argument_limit && below 8 (λ a. nat_eq (slice_index counts (a + 1)) (wanted m a))

abbrev pub notes : (Instruction → ℕ) → List ℕ → List Instruction → List ℕ
notes arg counts [] = counts
notes arg counts (w ∷ ws) = notes arg (note_arg counts (arg w)) ws

abbrev pub call_next : List ℕ → List ℕ → Instruction → Option (List ℕ)
call_next arities counts w = chosen (called w) (λ p. cond (full (slice_index arities p) counts) (Some (replicate 9 0)) None) (Some (note_arg counts (put w)))
