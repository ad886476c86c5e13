use Rattle.std.proofs.Common.{◌++◌, sym, ap, ◌∙◌, subst}
use Rattle.std.proofs.lemmas.Result.{IfOk-weaker}
use Rattle.prolog.proofs.LineLaws.{Told, told_query, told_clause, starts_query}
use Rattle.prolog.proofs.proofread.proof_either.Goals as goal
use Rattle.prolog.proofs.proofread.proof_either.Goals.{then-starts_with, else-starts_with}

pub returns : goal.returns
returns c =
    let line = c.args.line.now in
    let is = sym (starts_query line) ∙ sym c.starts_with.ensures.value in
    let told : Told c.args.number line c.if-starts_with.read = elim c.if-starts_with.branch [
      | then-starts_with w ↦ subst (Told c.args.number line) (sym w.read-is) (told_query c.args.number line _ (is ∙ w.if-starts_with.true) w.read_query-read.ensures.kind w.read_query-read.ensures.value)
      | else-starts_with w ↦ subst (Told c.args.number line) (sym w.read-is) (told_clause c.args.number line _ (is ∙ w.if-starts_with.false) w.read_clause-read.ensures.kind w.read_clause-read.ensures.value)
    ] in
    IfOk-weaker c.proof_read.result _ _ (λ v h. (h.0 ∙ told.verdict, h.1 ∙ ap (λ x. c.args.out.now.items ++ x) told.text)) c.proof_read.ensures
