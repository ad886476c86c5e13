use Rattle.std.proofs.Common.{◌≡◌, ℕ, suc, ◌+◌, cond, map, count_by, sym, refl, ap, ◌∙◌, arith, rules}
use Rattle.std.proofs.lemmas.List.Recursion.{is_count_by}
use Rattle.code.specs.Instructions.{within}
use Rattle.code.specs.Words.{decode}
use Rattle.code.specs.Tests.{total}
use Rattle.code.proofs.frame.count_calls.Goals as goal

pub returns : goal.returns
returns c =
    let e : c.count.result ≡ count_by (λ w. within 16 16 (decode w)) c.args.code.now = search rules in
    let one_more : (n : ℕ) → suc n ≡ 1 + n = λ n. omega arith in
    e ∙ sym (is_count_by (λ ws. total (within 16 16) (map decode ws)) (λ w. within 16 16 (decode w)) refl
    (λ w ws. let n = total (within 16 16) (map decode ws) in ap (λ m. cond (within 16 16 (decode w)) m n) (one_more n)) c.args.code.now)
