use Rattle.std.proofs.Common.{◌≡◌, ◌+◌, ◌<◌, ◌∷◌, length, Err, sym, ap, ◌∙◌, ap₂, rules}
use Rattle.std.proofs.lemmas.Result.{err_from_is_err_and}
use Rattle.lines.specs.declared.faults.LineFault.TheVariants.{Header}
use Rattle.lines.specs.Fields.{after}
use Rattle.lines.specs.Lines.{check, body}
use Rattle.lines.specs.Lines.{read as written}
use Rattle.lines.specs.Kinds.{heads, least}
use Rattle.lines.specs.Said.{said}
use Rattle.lines.proofs.Readings.{read_first, read_body, body_wrong, body_goals}
use Rattle.lines.proofs.Counts.{goals_are, weight_is, tokens_are}
use Rattle.lines.proofs.reader.read.Goals as goal
use Rattle.lines.proofs.reader.read.Goals.{After-next_field, In_ok-second, After-check_fields}

pub returns-then-not-begins_as-clause-value : goal.returns-then-not-begins_as-clause-value
returns-then-not-begins_as-clause-value c =
    let lo : 0 < length c.args.line.now = search rules in
    sym (read_first c.args.kind c.args.line.now _ _ lo c.if-line-gt-LINE_LIMIT.false c.cut.ensures.front c.cut.ensures.back (sym c.if-not-begins_as.ensures))

begun : (c : After-next_field) → written c.args.kind c.args.line.now ≡ body c.args.kind (after c.cut.result.1.now)
begun c =
    let lo : 0 < length c.args.line.now = search rules in
    read_body c.args.kind c.args.line.now _ _ lo c.if-line-gt-LINE_LIMIT.false c.cut.ensures.front c.cut.ensures.back (sym c.if-not-begins_as.ensures)

parts : (c : In_ok-second) → after c.cut.result.1.now ≡ c.in_ok-second.second.now ∷ after c.next_field.new.self.rest.now
parts c = rw c.in_ok-second.ensures.ok_part at c.next_field.ensures.value

checks : (c : After-check_fields) → check (heads c.args.kind + c.in_ok-goals.goals) 0 (least c.args.kind) 0 3 (after c.next_field.new.self.rest.now) ≡ c.check_fields.result
checks c =
    ap₂ (λ h l. check (h + c.in_ok-goals.goals) 0 l 0 3 (after c.next_field.new.self.rest.now)) (sym c.heads.ensures) (sym c.least.ensures)
    ∙ sym c.check_fields.ensures

pub returns-in_err-goals-clause-value : goal.returns-in_err-goals-clause-value
returns-in_err-goals-clause-value c =
    let s = (goal.at.returns-in_err-goals-clause-value c).In_ok-second in
    let wrong = begun (goal.at.returns-in_err-goals-clause-value c).After-next_field ∙ body_wrong c.args.kind _ c.in_ok-second.second.now _ (parts s) (sym c.goals_in.ensures.value ∙ c.in_err-goals.ensures.ok_part) in
    let p = err_from_is_err_and c.from_residual-in_err-goals.result c.from_residual-in_err-goals.ensures.1 in
    let v = rw c.in_err-goals.ensures.ok_part at c.in_err-goals.ensures.value in
    let f : c.in_err-goals.field-0.0 ≡ Header 2 = cc in
    ap said p.1 ∙ ap Err (p.2 ∙ f) ∙ sym wrong

pub returns-in_err-weight-clause-value : goal.returns-in_err-weight-clause-value
returns-in_err-weight-clause-value c =
    let s = (goal.at.returns-in_err-weight-clause-value c).In_ok-second in
    let h = (goal.at.returns-in_err-weight-clause-value c).After-check_fields in
    let p = err_from_is_err_and c.from_residual-in_err-weight.result c.from_residual-in_err-weight.ensures.1 in
    ap said p.1
    ∙ ap Err p.2
    ∙ sym (begun (goal.at.returns-in_err-weight-clause-value c).After-next_field
    ∙ body_goals c.args.kind _ c.in_ok-second.second.now _ (parts s) c.in_ok-goals.goals _ (sym c.goals_in.ensures.value ∙ c.in_ok-goals.ensures.ok_part) (checks h ∙ c.in_err-weight.was))

pub returns-clause-value : goal.returns-clause-value
returns-clause-value c =
    let s = (goal.at.returns-clause-value c).In_ok-second in
    let h = (goal.at.returns-clause-value c).After-check_fields in
    sym (begun (goal.at.returns-clause-value c).After-next_field
    ∙ body_goals c.args.kind _ c.in_ok-second.second.now _ (parts s) c.in_ok-goals.goals _ (sym c.goals_in.ensures.value ∙ c.in_ok-goals.ensures.ok_part) (checks h ∙ c.in_ok-weight.was))

pub invariant_of-result : goal.invariant_of-result
invariant_of-result c =
    let k = c.args.kind in
    let d = c.in_ok-goals.goals in
    let w = c.in_ok-weight.weight in
    let fs = after c.next_field.new.self.rest.now in
    let e = checks (goal.at.invariant_of-result c).After-check_fields ∙ c.in_ok-weight.was in
    record { counted = goals_are k d w fs e; weighed = weight_is k d w fs e; told = tokens_are k d w fs e }
