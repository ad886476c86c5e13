use Rattle.std.proofs.Common.{◌<◌, length, rules}
use Rattle.choosers.proofs.NoteLaws.{chain_first, chain_linked, rows_more, rows_linked}
use Rattle.choosers.proofs.chains.Chains.note.Goals.{in-Some, in_default}
use Rattle.choosers.proofs.chains.Chains.note.Goals as goal

pub invariant_of-self-clause-chained : goal.invariant_of-self-clause-chained
invariant_of-self-clause-chained c =
    let s = c.args.self.now in
    let room : s.len < length s.links = search rules in
    elim c.match-self-s.branch [
      | in-Some w ↦ rw (w.self-is, w.first-is) (chain_linked s.links s.ends c.args.row s.len room (search rules) (search rules) s.chained w.in-Some.ends w.in-Some.is)
      | in_default w ↦ rw (w.self-is, w.first-is) (chain_first s.links s.ends c.args.row s.len room (search rules) (search rules) s.chained w.in_default.is)
    ]

pub returns-clause-rows : goal.returns-clause-rows
returns-clause-rows c =
    let s = c.args.self.now in
    let room : s.len < length s.links = search rules in
    elim c.match-self-s.branch [
      | in-Some w ↦ rw w.self-is (rows_linked s.links s.ends c.args.row s.len room (search rules) (search rules) s.chained w.in-Some.ends w.in-Some.is (search rules))
      | in_default w ↦ rw w.self-is (rows_more s.links s.ends c.args.row s.len room (search rules))
    ]
