use Rattle.std.proofs.Common.{◌≡◌, sym, ap, ◌∙◌, inl, inr, arith, take_all}
use Rattle.std.proofs.lemmas.Bool.{cases_lt}
use Rattle.symbol_table.specs.Tables.{up_to, symbol_in, signature}
use Rattle.symbol_table.proofs.SymbolLaws.{signature_long}
use Rattle.symbol_table.proofs.NameLaws.{up_to_take}
use Rattle.symbol_table.proofs.table.SymbolTable.truncate.Goals as goal

pub returns : goal.returns
returns c =
    elim (cases_lt c.args.len c.args.self.now.len) [
      | inl lt ↦ (let q : c.min-len.result ≡ c.args.len = omega (arith, c.min-len.ensures) in
          ap (λ k. up_to k (symbol_in c.args.self.now)) q ∙ sym (up_to_take c.args.len c.args.self.now.len (symbol_in c.args.self.now) (omega arith)))
      | inr ge ↦ (let q : c.min-len.result ≡ c.args.self.now.len = omega (arith, c.min-len.ensures) in
          ap (λ k. up_to k (symbol_in c.args.self.now)) q ∙ sym (take_all c.args.len (signature c.args.self.now) (omega (arith, signature_long c.args.self.now))))
    ]
