use Rattle.std.proofs.Common.{◌≡◌, ◌-◌, get_or, refl}
use Rattle.code.specs.declared.table.Kind.TheVariants.{Nothing}
use Rattle.code.specs.Table.{entry, table}
use Rattle.code.specs.Words.{encode}
use Rattle.code.proofs.WordLaws.{encoded_by, back_by}
use Rattle.code.proofs.words.encode.Goals as goal

pub returns : goal.returns
returns c =
    let i = c.args.instruction in
    let x = c.operands_of-operands in
    let e : c.pack.result ≡ encode i =
    encoded_by i c.number-opcode.result c.in_first.result c.in_second.result c.pack.result (get_or table (c.number-opcode.result - 1) (entry Nothing Nothing)) x.result
    c.number-opcode.ensures.value refl x.ensures.value c.in_first.ensures c.in_second.ensures c.pack.ensures in
    record { value = e; back = back_by i c.pack.result x.result x.ensures.value x.ensures.narrow e }
