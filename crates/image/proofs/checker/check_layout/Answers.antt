use Rattle.std.proofs.Common.{sym}
use Rattle.std.proofs.lemmas.Result.{err_from_is_err_and}
use Rattle.image.proofs.CheckLaws.{laid_row, laid_code, laid_ok, rows_sound}
use Rattle.image.proofs.checker.check_layout.Goals as goal

pub returns-in_err-check_rows : goal.returns-in_err-check_rows
returns-in_err-check_rows c =
    let p = err_from_is_err_and c.from_residual.result c.from_residual.ensures.1 in
    let h = c.args.header in
    rw (p.1, p.2) (laid_row c.args.symbols.now h.symbols h.clauses h.size c.args.rest.now c.split_at.result.0.now c.rows-table.result.now c.split_at.result.1.now c.args.arities.now
    (sym c.if-not-fits.ensures) c.split_at.ensures.front c.rows-table.ensures c.split_at.ensures.back c.requires _ c.in_err-check_rows.ensures)

pub check_code-requires : goal.check_code-requires
check_code-requires c =
    let h = c.args.header in
    rows_sound c.args.symbols.now h.symbols h.clauses h.size c.args.rest.now c.split_at.result.0.now c.rows-table.result.now c.split_at.result.1.now c.args.arities.now
    (sym c.if-not-fits.ensures) c.split_at.ensures.front c.rows-table.ensures c.split_at.ensures.back c.requires c.in_ok-check_rows.ensures

pub returns-in_err-check_code : goal.returns-in_err-check_code
returns-in_err-check_code c =
    let p = err_from_is_err_and c.from_residual-in_err-check_code.result c.from_residual-in_err-check_code.ensures.1 in
    let h = c.args.header in
    rw (p.1, p.2) (laid_code c.args.symbols.now h.symbols h.clauses h.size c.args.rest.now c.split_at.result.0.now c.rows-table.result.now c.split_at.result.1.now c.args.arities.now
    (sym c.if-not-fits.ensures) c.split_at.ensures.front c.rows-table.ensures c.split_at.ensures.back c.requires c.in_ok-check_rows.ensures _ c.in_err-check_code.ensures)

pub returns : goal.returns
returns c =
    let h = c.args.header in
    laid_ok c.args.symbols.now h.symbols h.clauses h.size c.args.rest.now c.split_at.result.0.now c.rows-table.result.now c.split_at.result.1.now c.args.arities.now
    (sym c.if-not-fits.ensures) c.split_at.ensures.front c.rows-table.ensures c.split_at.ensures.back c.requires c.in_ok-check_rows.ensures c.in_ok-check_code.ensures
