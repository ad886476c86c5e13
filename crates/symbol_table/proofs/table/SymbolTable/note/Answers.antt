use Rattle.std.proofs.Common.{◌≡◌, ℕ, false, [], ◌∷◌, length, Some, None, Option, refl, ap, ◌∙◌, arith, rules, length-append}
use Rattle.std.specs.Option.{is_some}
use Rattle.symbol_table.specs.Tables.{signature}
use Rattle.symbol_table.proofs.SymbolLaws.{signature_long}
use Rattle.symbol_table.proofs.NameLaws.{note_new}
use Rattle.symbol_table.proofs.table.SymbolTable.note.Goals as goal

none : (o : Option ℕ) → is_some o ≡ false → None ≡ o
none None h = refl
none (Some k) h = cc

pub returns-then-self-eq-SYMBOL_LIMIT-clause-full : goal.returns-then-self-eq-SYMBOL_LIMIT-clause-full
returns-then-self-eq-SYMBOL_LIMIT-clause-full c =
    let absent : is_some c.find.result ≡ false = search rules in
    let more = note_new (signature c.args.self.now) c.args.name.now c.args.arity (none c.find.result absent ∙ c.find.ensures) in
    (omega (arith, ap length more, length-append (signature c.args.self.now) (record { name = c.args.name.now; arity = c.args.arity } ∷ []), signature_long c.args.self.now, c.if-self-eq-SYMBOL_LIMIT.true), refl)

pub add-requires-clause-few : goal.add-requires-clause-few
add-requires-clause-few c = omega (arith, signature_long c.args.self.now, c.args.self.now.few, c.if-self-eq-SYMBOL_LIMIT.false)
