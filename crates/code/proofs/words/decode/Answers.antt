use Rattle.std.proofs.Common.{◌≡◌}
use Rattle.code.specs.declared.instructions.Instruction.TheVariants.{Proceed}
use Rattle.code.specs.Words.{decode}
use Rattle.code.proofs.WordLaws.{decoded_by, unknown, encode_back}
use Rattle.code.proofs.words.decode.Goals as goal

pub returns-in_default : goal.returns-in_default
returns-in_default c =
    let w = c.args.word in
    let e = unknown w c.opcode_of-opcode.result c.opcode_of-opcode.ensures c.in_default.ensures in
    record { value = e; back = encode_back w Proceed e }

pub returns : goal.returns
returns c =
    let w = c.args.word in
    let e : c.build.result ≡ decode w =
    decoded_by w c.opcode_of-opcode.result c.first_of-slot.result c.second_of-symbol.result c.argument_by-argument.result c.in-Some.entry c.build.result
    c.opcode_of-opcode.ensures c.in-Some.ensures c.first_of-slot.ensures c.second_of-symbol.ensures c.argument_by-argument.ensures c.build.ensures in
    record { value = e; back = encode_back w c.build.result e }
