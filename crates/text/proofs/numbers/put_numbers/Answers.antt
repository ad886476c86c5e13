use Rattle.std.proofs.Common.{◌≡◌, ◌+◌, ◌<◌, length, get_or, set, decimal, ap, ◌∙◌, ap₂, arith, length-set, rules}
use Rattle.text.specs.Buffers.{wrote}
use Rattle.text.proofs.Wrote.{length_wrote}
use Rattle.text.proofs.NumberLaws.{left, length_more, put_more}
use Rattle.text.proofs.numbers.put_numbers.Goals as goal

pub bounds-out-end : goal.bounds-out-end
bounds-out-end c =
    let ns = c.args.numbers.now in
    let lt : c.loop-n.n-index < length ns = search rules in
    omega (arith, c.loop-n.invariant.0, length_more ns c.loop-n.n-index lt)

pub loop-n-preserved : goal.loop-n-preserved
loop-n-preserved c =
    let ns = c.args.numbers.now in
    let i = c.loop-n.n-index in
    let out = c.loop-n.out in
    let end = c.loop-n.end in
    let d = decimal (get_or ns i 0) in
    let lt : i < length ns = search rules in
    let size = length_more ns i lt in
    let is = c.put_decimal-end.ensures.after in
    let at = c.put_decimal-end.ensures.end in
    let long : length c.put_decimal-end.new.out ≡ length out = ap length is ∙ length_wrote (set out end 44) (end + 1) d (omega (arith, size, c.loop-n.invariant.0, length-set out end 44)) ∙ length-set out end 44 in (
      omega (arith, at, size, long, c.loop-n.invariant.0),
      ap₂ (λ o k. wrote o k (left ns (i + 1))) is at ∙ put_more ns i out end lt c.loop-n.invariant.0 ∙ c.loop-n.invariant.1,
    )
