-- What a deck holds.
use Rattle.std.specs.Prelude.{map}
use Rattle.symbol_table.specs.Tables.{signature}
use Rattle.deck.specs.declared.state.Deck.{Deck}
use Rattle.deck.specs.Decks.{Contents}

abbrev pub contents : Deck → Contents
contents d = record { lines = map (λ l. l.items) d.lines.items; symbols = signature d.symbols; words = d.words }
