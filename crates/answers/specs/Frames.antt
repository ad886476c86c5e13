-- Cells taken one field at a time, and the stack of arguments that are still to be written.
use Rattle.std.specs.Prelude.{◌≡◌, ℕ, cond, List, [], ◌∷◌, ◌++◌, ◌==◌, nat_eq}
use Rattle.horn.specs.Terms.{Terms, var, join}
use Rattle.horn.specs.Notation.{field, word_for}
use Rattle.horn.specs.Answers.{note, place, label}
use Rattle.heap.specs.declared.cell.Cell.{Cell}
use Rattle.heap.specs.declared.cell.Cell.TheVariants.{Unbound, Ref, Node}
use Rattle.heap.specs.Heaps.{Heap, cell}
use Rattle.heap.specs.Solutions.{Naming, Valuation, Sol, span}
use Rattle.answers.specs.declared.frame.Frame.{Frame}

-- ρ is the solution that gives each unbound cell itself
pub record Stands (names : Naming) (H : Heap) (ρ : Valuation) : Type 0 where
  pub solves : Sol names H ρ
  pub free : (i : ℕ) → cell H i ≡ Unbound → ρ i ≡ var i

-- the first field of what a cell, at i, stands for; a reference has none of its own
abbrev pub field_at : Naming → Cell → ℕ → List ℕ → List ℕ
field_at names Unbound i us = 44 ∷ label (place nat_eq i us)
field_at names (Ref k) i us = []
field_at names (Node f n b) i us = 44 ∷ field (word_for (names f) n)

-- the unbound variables that have appeared after it
abbrev pub seen_at : Cell → ℕ → List ℕ → List ℕ
seen_at Unbound i us = note nat_eq i us
seen_at (Ref k) i us = us
seen_at (Node f n b) i us = us

-- the frame of its arguments
abbrev pub frame_at : Cell → ℕ → Frame
frame_at Unbound i = record { owner = i; next = i; left = 0 }
frame_at (Ref k) i = record { owner = i; next = i; left = 0 }
frame_at (Node f n b) i = record { owner = i; next = b; left = n }

-- frames are pushed at the end, but for empty ones
abbrev pub added : Frame → List Frame → List Frame
added f fs = cond (f.left == 0) fs (fs ++ f ∷ [])

-- what the frames leave to be written: the last frame first
abbrev pub pending : Valuation → List Frame → Terms ℕ → Terms ℕ
pending ρ [] rest = rest
pending ρ (f ∷ fs) rest = pending ρ fs (join (span ρ f.next f.left) rest)
