-- The number, layer, place and rule of each fault, and the line that says so.
use Rattle.std.specs.Prelude.{ℕ, List, length, Some, None, Ok, Err, Option, Result}
use Rattle.lines.specs.declared.faults.FieldFault.{FieldFault}
use Rattle.lines.specs.declared.faults.FieldFault.TheVariants.{Form}
use Rattle.lines.specs.declared.faults.LineFault.{LineFault}
use Rattle.lines.specs.declared.faults.LineFault.TheVariants.{Field, Length, Header, Missing, LeftOver, Variable, Heavy}
use Rattle.lines.specs.declared.faults.Area.{Area}
use Rattle.lines.specs.declared.faults.Area.TheVariants.{Clauses, Symbols, CodeWords}
use Rattle.lines.specs.declared.faults.CallFault.{CallFault}
use Rattle.lines.specs.declared.faults.CallFault.TheVariants.{Line, Limit, Buffer}
use Rattle.lines.specs.declared.refusals.Refusal.{Refusal}
use Rattle.horn.specs.Notation.{fault_line}
use Rattle.text.specs.Buffers.{fitting}

-- a refusal that no rule of code is the reason for
abbrev pub refusal : ℕ → ℕ → ℕ → Refusal
refusal number layer place = record { number = number; layer = layer; place = place; rule = 0 }

-- of the field reader: layer 1
abbrev pub field_refusal : FieldFault → Refusal
field_refusal (Form p) = refusal 2 1 p

-- of the line reader: layer 2; what began in a field keeps its number, layer and place
abbrev pub line_refusal : LineFault → Refusal
line_refusal (Field e) = field_refusal e
line_refusal Length = refusal 1 2 0
line_refusal (Header p) = refusal 3 2 p
line_refusal (Missing p) = refusal 4 2 p
line_refusal (LeftOver p) = refusal 5 2 p
line_refusal (Variable p) = refusal 6 2 p
line_refusal (Heavy p) = refusal 7 2 p

-- the place of an area that would pass its limit
abbrev pub area_place : Area → ℕ
area_place Clauses = 1
area_place Symbols = 2
area_place CodeWords = 3

-- of a call: layer 3; what began in a line keeps its number, layer and place
abbrev pub call_refusal : CallFault → Refusal
call_refusal (Line e) = line_refusal e
call_refusal (Limit p) = refusal 8 3 p
call_refusal Buffer = refusal 10 3 0

-- `R,number,layer,place,rule`
abbrev pub refusal_line : Refusal → List ℕ
refusal_line r = fault_line r.number r.layer r.place r.rule

abbrev pub or_buffer : Option ℕ → Result ℕ CallFault
or_buffer (Some n) = Ok n
or_buffer None = Err Buffer

-- what a writer of the line answers: its length, or that the buffer is too short
abbrev pub written : List ℕ → List ℕ → Result ℕ CallFault
written line buffer = or_buffer (fitting line (length buffer))
