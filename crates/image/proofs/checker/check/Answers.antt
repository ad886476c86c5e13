use Rattle.std.proofs.Common.{◌^◌, ◌<◌}
use Rattle.std.proofs.ByRecursion.{All-from_get_or}
use Rattle.image.specs.Said.{said}
use Rattle.image.proofs.CutLaws.{Fit}
use Rattle.image.proofs.DistinctLaws.{symbols_distinct}
use Rattle.image.proofs.ImageLaws.{one_image_lem, clauses_runnable}
use Rattle.image.proofs.checker.check.Goals as goal

pub returns : goal.returns
returns c =
    let ws = c.args.words.now in
    let r = c.check_words.result in
    let e = c.check_words.ensures in
    let fit : Fit ws = All-from_get_or (λ w. w < 2 ^ 32) ws 0 (λ i h. (c.type_inv.words i).fits) in
    record { value = e; one_image = one_image_lem (said r) ws fit e; symbols = symbols_distinct r ws fit e; clauses = clauses_runnable r ws fit e }
