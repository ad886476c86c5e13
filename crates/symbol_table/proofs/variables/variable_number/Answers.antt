use Rattle.std.proofs.Common.{[], ◌∷◌, length, ap, ◌∙◌, arith, length-append}
use Rattle.symbol_table.specs.Tables.{signature}
use Rattle.symbol_table.proofs.NumberLaws.{known_some, known_none}
use Rattle.symbol_table.proofs.variables.variable_number.Goals as goal

pub returns-in-Some : goal.returns-in-Some
returns-in-Some c = record {
  number = λ V e. (known_some (signature c.args.variables.now) c.args.name.now V e c.in-Some.k c.in-Some.ensures).0;
  noted = λ V e. (known_some (signature c.args.variables.now) c.args.name.now V e c.in-Some.k c.in-Some.ensures).1;
  more = omega arith;
}

pub returns : goal.returns
returns c = record {
  number = λ V e. c.len-k.ensures.value ∙ (known_none (signature c.args.variables.now) c.args.name.now V e c.in_default.ensures).0;
  noted = λ V e. c.add.ensures ∙ (known_none (signature c.args.variables.now) c.args.name.now V e c.in_default.ensures).1;
  more = omega (arith, ap length c.add.ensures, length-append (signature c.args.variables.now) (record { name = c.args.name.now; arity = 0 } ∷ []));
}
