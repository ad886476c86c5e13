-- The header of an image as it is read.
use Rattle.std.specs.Prelude.{◌≡◌, ℕ, true, false, List, Result, MatchResult, slice_index}
use Rattle.image.specs.declared.header.Header.{Header}
use Rattle.image.specs.declared.faults.ImageFault.{ImageFault}
use Rattle.image.specs.declared.faults.ImageFault.TheVariants.{Header as BadHeader}
use Rattle.image.specs.Checked.{is_header}

-- the counts after the format, or the fault where the four words are no header
abbrev pub ReadsHeader : List ℕ → Result Header ImageFault → Type 0
ReadsHeader ws r =
    let good = is_header (slice_index ws 0) (slice_index ws 1) (slice_index ws 2) (slice_index ws 3) in
    MatchResult r
    (λ h. (good ≡ true) × (h.symbols ≡ slice_index ws 1) × (h.clauses ≡ slice_index ws 2) × (h.size ≡ slice_index ws 3))
    (λ e. (good ≡ false) × (e ≡ BadHeader))
