use Rattle.std.proofs.Common.{length, refl, ap, ◌∙◌, arith, rules}
use Rattle.heap.proofs.Denotes.{stands}
use Rattle.horn.specs.Answers.{answer_line}
use Rattle.text.specs.Buffers.{wrote}
use Rattle.text.proofs.NumberLaws.{fits_all, fits_not, filled_fits, filled_not}
use Rattle.answers.proofs.LineLaws.{stands_so, shows_line}
use Rattle.answers.proofs.SinkLaws.{count_refused, count_taken, write_taken, write_all}
use Rattle.answers.proofs.writer.write_answer.Goals as goal

pub returns-in_err-ok-clause-value : goal.returns-in_err-ok-clause-value
returns-in_err-ok-clause-value g c =
    let H = c.args.cells.now in
    let names = g.N.Names.naming c.args.names.now in
    let s = c.requires.sound in
    let long = count_refused _ _ _ _ _ _ refl (c.put_answer.ensures (stands names H s) (stands_so names H s)) (search rules) in
    let is = shows_line names H s c.args.line.now c.args.variables.now in
    λ q θ sh. c.from_residual.ensures ∙ fits_not (answer_line q θ) (length c.args.buffer.now) (omega (arith, long.0, ap length (is q θ sh)))

pub returns-in_err-ok-clause-after : goal.returns-in_err-ok-clause-after
returns-in_err-ok-clause-after g c =
    let H = c.args.cells.now in
    let names = g.N.Names.naming c.args.names.now in
    let s = c.requires.sound in
    let long = count_refused _ _ _ _ _ _ refl (c.put_answer.ensures (stands names H s) (stands_so names H s)) (search rules) in
    let is = shows_line names H s c.args.line.now c.args.variables.now in
    λ q θ sh. long.1 ∙ filled_not (answer_line q θ) c.args.buffer.now (omega (arith, long.0, ap length (is q θ sh)))

pub unwrap-requires : goal.unwrap-requires
unwrap-requires g c =
    let names = g.N.Names.naming c.args.names.now in
    let s = c.requires.sound in
    let short = count_taken _ _ _ _ _ _ refl (c.put_answer.ensures (stands names c.args.cells.now s) (stands_so names c.args.cells.now s)) (search rules) in
    write_taken _ _ _ _ _ _ _ refl short.1 short.0 (c.put_answer-2.ensures (stands names c.args.cells.now s) (stands_so names c.args.cells.now s))

pub returns-clause-value : goal.returns-clause-value
returns-clause-value g c =
    let H = c.args.cells.now in
    let names = g.N.Names.naming c.args.names.now in
    let s = c.requires.sound in
    let short = count_taken _ _ _ _ _ _ refl (c.put_answer.ensures (stands names H s) (stands_so names H s)) (search rules) in
    let written = write_all _ _ _ _ _ _ _ refl short.1 short.0 (c.put_answer-2.ensures (stands names H s) (stands_so names H s)) in
    let is = shows_line names H s c.args.line.now c.args.variables.now in
    λ q θ sh. fits_all (answer_line q θ) (length c.args.buffer.now) _ (written.0 ∙ ap length (is q θ sh)) (omega (arith, short.0, written.0))

pub returns-clause-after : goal.returns-clause-after
returns-clause-after g c =
    let H = c.args.cells.now in
    let names = g.N.Names.naming c.args.names.now in
    let s = c.requires.sound in
    let short = count_taken _ _ _ _ _ _ refl (c.put_answer.ensures (stands names H s) (stands_so names H s)) (search rules) in
    let written = write_all _ _ _ _ _ _ _ refl short.1 short.0 (c.put_answer-2.ensures (stands names H s) (stands_so names H s)) in
    let is = shows_line names H s c.args.line.now c.args.variables.now in
    λ q θ sh. written.1 ∙ ap (wrote c.args.buffer.now 0) (is q θ sh) ∙ filled_fits (answer_line q θ) c.args.buffer.now (omega (arith, short.0, ap length (is q θ sh)))
