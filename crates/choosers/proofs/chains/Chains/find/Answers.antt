use Rattle.std.proofs.Common.{ℕ, ◌-◌, ◌<◌, ◌≤◌, length, take, Option, sym, subst, arith}
use Rattle.choosers.specs.declared.chains.Link.{Link}
use Rattle.choosers.specs.Chained.{link_at, key_at}
use Rattle.choosers.specs.Rows.{Clash}
use Rattle.choosers.proofs.PickLaws.{Walked, told_at, ahead, walk_start, walk_next, walk_less, walk_found, walk_done}
use Rattle.choosers.proofs.chains.Chains.find.Goals as goal
use Rattle.choosers.proofs.chains.Chains.find.Goals.{else-i-after-via-then-i-after+else-not-clashes, else-i-after-via-else-i-after}

pub loop-at-init : goal.loop-at-init
loop-at-init c = walk_start (take c.args.self.now.len c.args.self.now.links) c.args.symbol c.args.key c.args.after c.start-at.result c.start-at.ensures

pub loop-at-smaller : goal.loop-at-smaller
loop-at-smaller c =
    let s = c.args.self.now in
    let xs = take s.len s.links in
    let n = c.in-Some.n in
    let w = subst (Walked xs c.args.symbol c.args.key c.args.after) c.in-Some.is c.loop-at.invariant in
    subst (λ (o : Option ℕ). ahead (length xs) (link_at s.links n).next < ahead (length xs) o) (sym c.in-Some.is)
    (subst (λ (l : Link). ahead (length xs) l.next < length xs - n) (told_at s.links s.len n w.0) (walk_less xs s.ends c.args.symbol c.args.key c.args.after n s.chained w))

pub loop-at-preserved : goal.loop-at-preserved
loop-at-preserved c =
    let s = c.args.self.now in
    let xs = take s.len s.links in
    let n = c.in-Some.n in
    let at = subst (Walked xs c.args.symbol c.args.key c.args.after) c.in-Some.is c.loop-at.invariant in
    let passed : c.args.after ≤ n → Clash c.args.key (key_at xs n) =
    λ low. elim c.else-i-after.branch [
      | else-i-after-via-then-i-after+else-not-clashes w ↦ subst (λ (l : Link). Clash c.args.key l.row.key) (sym (told_at s.links s.len n at.0)) w.if-not-clashes.ensures
      | else-i-after-via-else-i-after w ↦ absurd (omega (arith, w.if-i-after.false, low))
    ] in
    subst (λ (l : Link). Walked xs c.args.symbol c.args.key c.args.after l.next) (told_at s.links s.len n at.0)
    (walk_next xs s.ends c.args.symbol c.args.key c.args.after n s.chained at passed)

pub returns-then-not-clashes : goal.returns-then-not-clashes
returns-then-not-clashes c =
    let s = c.args.self.now in
    let xs = take s.len s.links in
    let n = c.in-Some.n in
    let w = subst (Walked xs c.args.symbol c.args.key c.args.after) c.in-Some.is c.loop-at.invariant in
    walk_found xs c.args.symbol c.args.key c.args.after n w c.if-i-after.true (subst (λ (l : Link). Clash c.args.key l.row.key → ⊥) (sym (told_at s.links s.len n w.0)) c.if-not-clashes.ensures)

pub returns : goal.returns
returns c =
    let xs = take c.args.self.now.len c.args.self.now.links in
    walk_done xs c.args.symbol c.args.key c.args.after (subst (Walked xs c.args.symbol c.args.key c.args.after) c.in_default.is c.loop-at.invariant)
