-- The table of opcodes.
use Rattle.std.specs.Prelude.{ℕ, ◌-◌, cond, ◌||◌, List, [], ◌∷◌, Some, None, Option, nat_lt, slice_index_or}
use Rattle.code.specs.declared.table.Entry.{Entry}
use Rattle.code.specs.declared.table.Kind.{Kind}
use Rattle.code.specs.declared.table.Kind.TheVariants.{Nothing, Slots, Slot, Argument, Constant, Structure, Predicate}

abbrev pub entry : Kind → Kind → Entry
entry a b = record { first = a; second = b }

-- the operands of the opcodes, from 1 on
abbrev pub table : List Entry
table =
    entry Slots Nothing
    ∷ entry Slot Argument
    ∷ entry Slot Argument
    ∷ entry Argument Constant
    ∷ entry Slot Structure
    ∷ entry Slot Nothing
    ∷ entry Slot Nothing
    ∷ entry Nothing Constant
    ∷ entry Slot Argument
    ∷ entry Slot Argument
    ∷ entry Argument Constant
    ∷ entry Slot Structure
    ∷ entry Slot Nothing
    ∷ entry Slot Nothing
    ∷ entry Nothing Constant
    ∷ entry Nothing Predicate
    ∷ entry Nothing Nothing
    ∷ []

abbrev pub found : ℕ → Option Entry
found o = cond (nat_lt o 1 || nat_lt 17 o) None (Some (slice_index_or table (o - 1) (entry Nothing Nothing)))
