use Rattle.std.proofs.Common.{length, sym, ap, ◌∙◌, arith}
use Rattle.std.proofs.lemmas.Result.{err_from_is_err_and}
use Rattle.lines.specs.Said.{words_left}
use Rattle.lines.specs.Tokens.{word}
use Rattle.symbol_table.specs.Numbers.{note_words}
use Rattle.symbol_table.specs.Tables.{signature}
use Rattle.symbol_table.proofs.NoteLaws.{full_words}
use Rattle.symbol_table.proofs.noting.note_symbols.Goals as goal

pub returns-in_err-note_token-clause-full : goal.returns-in_err-note_token-clause-full
returns-in_err-note_token-clause-full c =
    let f = c.in_err-note_token.ensures.full in
    let p = err_from_is_err_and c.from_residual.result c.from_residual.ensures.1 in
    rw p.1 (omega (arith, full_words (signature c.loop-token.symbols) (word c.in-Some.token) (words_left c.next_token.new.self) 256 f.0, ap length (sym (ap (note_words (signature c.loop-token.symbols)) c.in-Some.ensures.value) ∙ c.loop-token.invariant.0)))
