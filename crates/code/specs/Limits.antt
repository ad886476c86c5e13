-- The limits of a clause's code.
use Rattle.std.specs.Prelude.{ℕ}

-- the slots that it opens
abbrev pub slot_limit : ℕ
slot_limit = 128

-- its words between allocate and proceed
abbrev pub word_limit : ℕ
word_limit = 128

abbrev pub call_limit : ℕ
call_limit = 8

-- the arguments of a head, goal or structure
abbrev pub argument_limit : ℕ
argument_limit = 8
