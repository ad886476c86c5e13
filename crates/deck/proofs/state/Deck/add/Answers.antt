use Rattle.std.proofs.Common.{◌≡◌, sym, ◌∙◌, rules}
use Rattle.symbol_table.specs.Noting.{Begins}
use Rattle.deck.specs.Decks.{adding}
use Rattle.deck.specs.Held.{contents}
use Rattle.deck.proofs.AddLaws.{refused, begins_take, holding}
use Rattle.deck.proofs.state.Deck.add.Goals as goal

pub returns-then-is_err-clause-after : goal.returns-then-is_err-clause-after
returns-then-is_err-clause-after c =
    let d = contents c.args.self.now in
    let e = contents c.take_line-added.new.self in
    let lines : e.lines ≡ d.lines = search rules in
    let begins : Begins d.symbols e.symbols = search rules in
    let words : e.words ≡ d.words = search rules in
    holding _ d lines
    (c.truncate.ensures ∙ begins_take c.len-symbols.result begins c.len-symbols.ensures.value)
    words
    ∙ sym (refused d (adding d c.args.line.now) c.take_line-added.result c.take_line-added.ensures.value (sym c.if-is_err.ensures.value))
