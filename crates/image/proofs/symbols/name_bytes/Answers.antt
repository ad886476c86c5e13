use Rattle.std.proofs.Common.{length, drop, ap, sym, ◌∙◌, arith}
use Rattle.std.proofs.lemmas.List.{length-append, length-drop}
use Rattle.image.specs.Bytes.{bytes_of}
use Rattle.image.proofs.NameLaws.{length_bytes}
use Rattle.image.proofs.symbols.name_bytes.Goals as goal

pub unwrap-requires : goal.unwrap-requires
unwrap-requires c =
    let ws = c.args.words.now in
    let left = drop c.loop-word.word-index ws in
    let e = sym (length-append c.loop-word.bytes.items (bytes_of left)) ∙ ap length c.loop-word.invariant in
    let four = ap length c.to_le_bytes.ensures in
    c.try_extend_from_slice.ensures.variant.1 (omega (arith, e, four, length_bytes ws, length_bytes left, length-drop c.loop-word.word-index ws, c.requires, c.loop-word-test.true))
