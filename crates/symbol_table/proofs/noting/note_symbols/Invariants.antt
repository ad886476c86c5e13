use Rattle.std.proofs.Common.{◌≡◌, length}
use Rattle.lines.specs.Said.{words_left}
use Rattle.symbol_table.specs.Numbers.{note_words}
use Rattle.symbol_table.specs.Tables.{signature}
use Rattle.symbol_table.specs.Noting.{Fines, Begins}
use Rattle.symbol_table.proofs.noting.note_symbols.Given as goal

abbrev pub invariant-loop-token : goal.invariant-loop-token
invariant-loop-token l =
    (note_words (signature l.symbols) (words_left l.body) ≡ note_words (signature l.initial.symbols) (words_left l.initial.body))
    × Fines (words_left l.body) × Begins (signature l.initial.symbols) (signature l.symbols)

abbrev pub decreases-loop-token : goal.decreases-loop-token
decreases-loop-token l = length l.body.rest.now
