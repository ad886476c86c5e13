use Rattle.std.proofs.Common.{◌≡◌, ◌-◌, ◌≤◌, length, take, sym, ap, ◌∙◌, arith, rules}
use Rattle.symbol_table.proofs.SymbolLaws.{arities_up_to}
use Rattle.symbol_table.proofs.table.SymbolTable.arities.Goals as goal

pub returns : goal.returns
returns c =
    let z : c.args.self.now.len - 0 ≡ c.args.self.now.len = omega arith in
    let long : length c.args.self.now.arities ≡ 256 = search rules in
    let few : c.args.self.now.len ≤ length c.args.self.now.arities = omega (arith, c.args.self.now.few) in
    ap (λ k. take k c.args.self.now.arities) z ∙ sym (arities_up_to c.args.self.now c.args.self.now.len few)
