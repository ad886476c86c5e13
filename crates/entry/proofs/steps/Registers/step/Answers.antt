use Rattle.std.proofs.Common.{arith}
use Rattle.entry.specs.Runs.{setting_of}
use Rattle.entry.proofs.WordLaws.{stopped, reached_passed, reached_put, reached_get, stuck_got, structure_long, structure_taken, structure_room, stuck_structured, reached_structure, reached_call}
use Rattle.entry.proofs.steps.Registers.step.Goals as goal

pub returns-in_err-get-in-Get-clause-result : goal.returns-in_err-get-in-Get-clause-result
returns-in_err-get-in-Get-clause-result c =
    stopped _ _ c.from_residual.result c.from_residual.ensures.0
    (stuck_got c.args.rest.now (setting_of c.args.table.now c.args.goal) _ _ c.args.self.now.puts _ c.args.instruction c.in-Get.o c.in-Get.a c.in-Get.is c.requires c.in_err-get-in-Get.ensures.result)

pub returns-in_ok-get-in-Get-clause-result : goal.returns-in_ok-get-in-Get-clause-result
returns-in_ok-get-in-Get-clause-result c =
    reached_get c.args.rest.now (setting_of c.args.table.now c.args.goal) _ _ c.args.self.now.puts _ c.args.instruction c.in-Get.o c.in-Get.a c.in-Get.is c.get.auto.slots c.get.ensures.long c.in_ok-get-in-Get.ensures.result

pub split_at-requires : goal.split_at-requires
split_at-requires c =
    omega (arith, structure_long c.args.rest.now (setting_of c.args.table.now c.args.goal) _ _ c.args.self.now.puts _ c.args.instruction c.in-GetStructure.y c.in-GetStructure.f c.in-GetStructure.is c.requires, c.arity_at.ensures)

pub structure-requires-clause-taken : goal.structure-requires-clause-taken
structure-requires-clause-taken c =
    structure_taken c.args.rest.now (setting_of c.args.table.now c.args.goal) _ _ c.args.self.now.puts _ c.args.instruction c.in-GetStructure.y c.in-GetStructure.f c.in-GetStructure.is c.arity_at.result c.arity_at.ensures _ _ c.split_at.ensures.front c.split_at.ensures.back c.requires

pub structure-requires-clause-room : goal.structure-requires-clause-room
structure-requires-clause-room c =
    structure_room c.args.rest.now (setting_of c.args.table.now c.args.goal) _ _ c.args.self.now.puts _ c.args.instruction c.in-GetStructure.y c.in-GetStructure.f c.in-GetStructure.is c.arity_at.result c.arity_at.ensures _ _ c.split_at.ensures.front c.split_at.ensures.back c.requires

pub returns-in_err-structure-in-GetStructure-clause-result : goal.returns-in_err-structure-in-GetStructure-clause-result
returns-in_err-structure-in-GetStructure-clause-result c =
    stopped _ _ c.from_residual-in_err-structure-in-GetStructure.result c.from_residual-in_err-structure-in-GetStructure.ensures.0
    (stuck_structured c.args.rest.now (setting_of c.args.table.now c.args.goal) _ _ c.args.self.now.puts _ c.args.instruction c.in-GetStructure.y c.in-GetStructure.f c.in-GetStructure.is c.arity_at.result c.arity_at.ensures _ _ c.split_at.ensures.front c.split_at.ensures.back c.requires
    c.in_err-structure-in-GetStructure.ensures.result)

pub returns-in_ok-structure-in-GetStructure-clause-result : goal.returns-in_ok-structure-in-GetStructure-clause-result
returns-in_ok-structure-in-GetStructure-clause-result c =
    reached_structure c.args.rest.now (setting_of c.args.table.now c.args.goal) _ _ c.args.self.now.puts _ c.args.instruction c.in-GetStructure.y c.in-GetStructure.f c.in-GetStructure.is c.arity_at.result c.arity_at.ensures _ _ c.split_at.ensures.front c.split_at.ensures.back
    c.structure.auto.slots c.structure.ensures.long c.in_ok-structure-in-GetStructure.ensures.result

pub returns-in-Put-clause-result : goal.returns-in-Put-clause-result
returns-in-Put-clause-result c = reached_put c.args.rest.now (setting_of c.args.table.now c.args.goal) _ _ c.args.self.now.puts _ c.args.instruction c.in-Put.o c.in-Put.a c.in-Put.is

pub returns-in-Call-clause-result : goal.returns-in-Call-clause-result
returns-in-Call-clause-result c =
    rw c.push.ensures.items
    (reached_call c.args.rest.now (setting_of c.args.table.now c.args.goal) _ _ c.args.self.now.puts c.args.self.now.goals.items c.args.instruction c.in-Call.p c.arity_at-n.result c.in-Call.is c.arity_at-n.ensures c.top-first.result c.top-first.ensures.value
    c.pass.auto.slots c.pass.ensures.long c.pass.ensures.result)

pub returns-in-Unify-clause-result : goal.returns-in-Unify-clause-result
returns-in-Unify-clause-result c = reached_passed c.args.rest.now (setting_of c.args.table.now c.args.goal) _ _ c.args.self.now.puts _ c.args.instruction c.in-Unify.is
