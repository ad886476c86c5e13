-- What an accepted image holds.
use Rattle.std.specs.Prelude.{◌≡◌, ℕ, false, List, map, take, drop, Ok, Err, Option, Result, MatchOption}
use Rattle.image.specs.declared.view.Image.{Image}
use Rattle.symbol_table.specs.declared.table.Symbol.{Symbol}
use Rattle.image.specs.declared.symbols.Symbols.{Symbols}
use Rattle.image.specs.declared.faults.ImageFault.{ImageFault}
use Rattle.symbol_table.specs.Tables.{symbol_of as held}
use Rattle.image.specs.Symbols.{symbol_of, extent, symbols_of, proper}
use Rattle.image.specs.Rows.{rows_of}
use Rattle.image.specs.Checked.{Parts}

abbrev pub parts_of : Image → Parts
parts_of i = record { symbols = map symbol_of (symbols_of i.symbol_count i.symbols.now); rows = rows_of i.rows.now; code = i.code.now }

-- the words of the next symbol
abbrev pub next_words : Symbols → List ℕ
next_words s = take (extent s.words.now) s.words.now

-- the next symbol and the words after it, or none and the same words where they begin with none
abbrev pub GivesNext : Symbols → Option Symbol → Symbols → Type 0
GivesNext s r t =
    MatchOption r (proper (next_words s) ≡ false) (λ x. held x ≡ symbol_of (next_words s))
    × MatchOption r (t.words.now ≡ s.words.now) (λ _. t.words.now ≡ drop (extent s.words.now) s.words.now)

abbrev pub said : Result Image ImageFault → Result Parts ImageFault
said (Ok i) = Ok (parts_of i)
said (Err e) = Err e
