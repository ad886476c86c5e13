use Rattle.std.proofs.Common.{◌+◌, ◌<◌, ◌≤◌, [], ◌∷◌, length, set, ◌∙◌, ap₂, arith, length-set}
use Rattle.std.proofs.lemmas.List.{length_push}
use Rattle.text.specs.Buffers.{wrote}
use Rattle.text.proofs.Wrote.{wrote_one, wrote_more, length_wrote}
use Rattle.answers.proofs.buffer.WriteSink.put.Goals as goal

pub returns : goal.returns
returns c = record {
  after = λ s o bs h.
      let out = c.args.out.now in
      let b = c.args.b in
      let len = c.args.self.now.len in
      let more = length_push bs b in
      let lt : len < length out = omega arith in
      let small : s.len + length bs ≤ length o = omega (arith, h.size, h.len) in
      let lt' : s.len + length bs < length (wrote o s.len bs) = omega (arith, h.size, h.len, length_wrote o s.len bs small) in
      record {
        size = length-set out len b ∙ h.size;
        len = omega (arith, h.len, more);
        fits = omega (arith, h.size, h.len, more);
        after = ap₂ (λ xs k. set xs k b) h.after h.len ∙ wrote_one (wrote o s.len bs) (s.len + length bs) b lt' ∙ wrote_more o s.len bs (b ∷ []) small;
      };
}
