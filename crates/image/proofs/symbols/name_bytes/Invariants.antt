use Rattle.std.proofs.Common.{◌≡◌, ◌++◌, drop}
use Rattle.image.specs.Bytes.{bytes_of}
use Rattle.image.proofs.symbols.name_bytes.Given as goal

abbrev pub invariant-loop-word : goal.invariant-loop-word
invariant-loop-word l = l.bytes.items ++ bytes_of (drop l.word-index l.words) ≡ bytes_of l.words
