use Rattle.std.proofs.Common.{◌^◌, ◌<◌, sym, ap, ◌∙◌}
use Rattle.std.proofs.ByRecursion.{All-from_get_or}
use Rattle.image.specs.Bytes.{words_of}
use Rattle.image.proofs.FileLaws.{bytes_done, read_back}
use Rattle.image.proofs.files.to_bytes.Goals as goal

pub returns-clause-back : goal.returns-clause-back
returns-clause-back c =
    let ws = c.args.words.now in
    ap words_of (sym (bytes_done _ ws _ c.loop-w-test.false) ∙ c.loop-w.invariant) ∙ read_back ws (All-from_get_or (λ w. w < 2 ^ 32) ws 0 (λ i h. (c.type_inv.words i).fits))
