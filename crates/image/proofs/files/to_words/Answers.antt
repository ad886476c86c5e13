use Rattle.std.proofs.Common.{map, w32, ap, ◌∙◌, rules}
use Rattle.std.specs.Int.{from_le_bytes}
use Rattle.std.proofs.lemmas.Iterator.{YieldsList-from_slice, YieldsList-from_map, items_from_collect}
use Rattle.std.proofs.lemmas.Result.{IfOk-weaker}
use Rattle.image.proofs.FileLaws.{words_by_fours}
use Rattle.image.proofs.files.to_words.Goals as goal

pub returns : goal.returns
returns c =
    let all = items_from_collect c.collect.result c.collect.ensures.ran (YieldsList-from_map _ (from_le_bytes w32) (YieldsList-from_slice c.as_chunks.result.0.now cc) c.map.ensures.closure (λ x r q k. search rules)) in
    IfOk-weaker c.collect.result _ _ (λ v e. e ∙ ap (map (from_le_bytes w32)) c.as_chunks.ensures.front ∙ words_by_fours c.args.bytes.now) all
