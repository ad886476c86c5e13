use Rattle.std.proofs.Common.{◌≡◌, ◌++◌, drop, vec_items}
use Rattle.image.specs.Bytes.{bytes_of}
use Rattle.image.proofs.files.to_bytes.Given as goal

abbrev pub invariant-loop-w : goal.invariant-loop-w
invariant-loop-w l = vec_items l.out ++ bytes_of (drop l.w-index l.words) ≡ bytes_of l.words
