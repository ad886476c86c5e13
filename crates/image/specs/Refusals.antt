-- The number, layer, place and rule of an image's fault.
use Rattle.lines.specs.declared.refusals.Refusal.{Refusal}
use Rattle.lines.specs.Refusals.{refusal}
use Rattle.image.specs.declared.faults.ImageFault.{ImageFault}
use Rattle.image.specs.declared.faults.ImageFault.TheVariants.{Header, Symbol, Layout, Row, Code}

-- of the image check: layer 4
abbrev pub image_refusal : ImageFault → Refusal
image_refusal Header = refusal 12 4 0
image_refusal (Symbol p) = refusal 13 4 p
image_refusal Layout = refusal 14 4 0
image_refusal (Row p) = refusal 14 4 p
image_refusal (Code p v) = record { number = 15; layer = 4; place = p; rule = v }
