use Rattle.std.proofs.Common.{◌≡◌, ◌<◌, false, true, List, [], ◌∷◌, length, sym, refl, subst, arith}
use Rattle.horn.specs.Terms.{nil, cons}
use Rattle.heap.specs.Heaps.{cell}
use Rattle.heap.specs.Solutions.{Valuation, Sol}
use Rattle.heap.proofs.SpanLaws.{size}
use Rattle.answers.specs.declared.frame.Frame.{Frame}
use Rattle.answers.specs.Frames.{field_at, added, pending}
use Rattle.answers.specs.Streams.{writtens}
use Rattle.answers.specs.Numbering.{Numbered}
use Rattle.answers.proofs.FrameLaws.{Above, Chain, length_added, chain_next}
use Rattle.answers.proofs.TakeLaws.{puts_none, puts_stop, puts_then, refused, nothing}
use Rattle.answers.proofs.TurnLaws.{moved_start, moved_on, moved_end, field_bytes, chain_pushed, few, top_left}
use Rattle.answers.proofs.terms.Terms.put_value.Goals as goal

none_left : (fs : List Frame) → (0 < length fs → false ≡ true) → fs ≡ []
none_left [] h = refl
none_left (f ∷ fs) h = absurd (cc (h (omega arith)))

pub loop-frame-init : goal.loop-frame-init
loop-frame-init g c =
    let empty : c.clear.new.self.items ≡ [] = c.clear.ensures in
    record {
      within = c.requires;
      chain = λ ρ sol. subst (λ fs. Chain (λ i. size (ρ i)) (length c.args.self.now.cells.now) fs × Above (λ i. size (ρ i)) (size (ρ c.args.start)) fs) (sym empty) (tt, tt);
      moved = λ us n. moved_start _ _ _ us _ _ _ _ empty (puts_none c.args.sink.now c.args.out.now) n;
    }

pub returns-in_err-frame : goal.returns-in_err-frame
returns-in_err-frame g c =
    let H = c.args.self.now.cells.now in
    let fs = c.loop-frame.scratch.stack.items in
    let at = c.loop-frame.at in
    let full = refused c.from_residual.result c.from_residual.ensures.0 in
    λ us ρ n st.
    let m = c.loop-frame.invariant.moved us n in (
      puts_then (writtens (cons (ρ at) (pending ρ fs nil)) m.vs) (m.bytes ρ st) m.held
          (puts_stop _ (field_bytes _ H at c.root-place.result c.root-place.ensures ρ st (pending ρ fs nil) m.vs) full (c.in_err-frame.ensures.after m.vs m.numbered).0),
      nothing _ _ full,
    )

pub push_frame-requires : goal.push_frame-requires
push_frame-requires g c =
    let self = c.args.self.now in
    let names = g.N.Names.naming self.names.now in
    let H = self.cells.now in
    let f = c.in_ok-frame.frame in
    let less = few names H self.sound self.closed c.loop-frame.at c.root-place.result c.root-place.ensures c.loop-frame.scratch.stack.items (added f c.loop-frame.scratch.stack.items) c.in_ok-frame.frame c.in_ok-frame.ensures.frame refl c.loop-frame.invariant.chain in
    λ some. omega (arith, less, length_added f c.loop-frame.scratch.stack.items some, self.small)

pub returns-in_default : goal.returns-in_default
returns-in_default g c =
    let H = c.args.self.now.cells.now in
    let names = g.N.Names.naming c.args.self.now.names.now in
    let r = c.root-place.result in
    let empty : c.push_frame.new.stack.items ≡ [] = none_left _ c.in_default.ensures.variant.1 in
    λ us ρ n st.
    let m = c.loop-frame.invariant.moved us n in
    let p = c.in_ok-frame.ensures.after m.vs m.numbered in
    let e = moved_end names H c.loop-frame.at r c.root-place.ensures c.args.start us _ _ _ _ m c.in_ok-frame.frame c.in_ok-frame.ensures.frame _ c.push_frame.ensures empty ρ st in (
      puts_then (field_at names (cell H r) r m.vs) e.0 m.held p.0,
      subst (λ ws. Numbered ws c.put_field.new.numbering.numbers c.put_field.new.numbering.seen) (sym e.1) p.1,
    )

pub overflow_add-rest : goal.overflow_add-rest
overflow_add-rest g c =
    let self = c.args.self.now in
    let names = g.N.Names.naming self.names.now in
    let H = self.cells.now in
    let top = top_left names H self.sound self.closed c.loop-frame.at c.root-place.result c.root-place.ensures c.loop-frame.scratch.stack.items c.push_frame.new.stack.items c.in_ok-frame.frame c.in_ok-frame.ensures.frame c.push_frame.ensures c.loop-frame.invariant.chain c.pop.new.self.items c.in-Some.top c.in-Some.ensures.items in
    omega (arith, top.0, top.1, self.small)

pub overflow_sub-rest : goal.overflow_sub-rest
overflow_sub-rest g c =
    let self = c.args.self.now in
    let names = g.N.Names.naming self.names.now in
    let H = self.cells.now in
    (top_left names H self.sound self.closed c.loop-frame.at c.root-place.result c.root-place.ensures c.loop-frame.scratch.stack.items c.push_frame.new.stack.items c.in_ok-frame.frame c.in_ok-frame.ensures.frame c.push_frame.ensures c.loop-frame.invariant.chain c.pop.new.self.items c.in-Some.top c.in-Some.ensures.items).0

pub push_frame-requires-in-loop-frame : goal.push_frame-requires-in-loop-frame
push_frame-requires-in-loop-frame g c =
    let self = c.args.self.now in
    let names = g.N.Names.naming self.names.now in
    let H = self.cells.now in
    let less = few names H self.sound self.closed c.loop-frame.at c.root-place.result c.root-place.ensures c.loop-frame.scratch.stack.items c.push_frame.new.stack.items c.in_ok-frame.frame c.in_ok-frame.ensures.frame c.push_frame.ensures c.loop-frame.invariant.chain in
    λ some. omega (arith, less, c.in-Some.ensures.len, self.small)

pub loop-frame-preserved : goal.loop-frame-preserved
loop-frame-preserved g c =
    let H = c.args.self.now.cells.now in
    let names = g.N.Names.naming c.args.self.now.names.now in
    let r = c.root-place.result in
    let inv = c.loop-frame.invariant in
    let top = c.in-Some.top in
    let next = λ (ρ : Valuation) (sol : Sol names H ρ).
    chain_next (λ i. size (ρ i)) (length H) _ _ _ top c.in-Some.ensures.items c.push_frame-in-loop-frame.ensures
    (chain_pushed names H c.loop-frame.at r c.root-place.ensures c.args.self.now.closed ρ sol c.loop-frame.scratch.stack.items _ c.in_ok-frame.frame c.in_ok-frame.ensures.frame c.push_frame.ensures (inv.chain ρ sol).0 (inv.chain ρ sol).1) in
    let self = c.args.self.now in
    let left = top_left names H self.sound self.closed c.loop-frame.at c.root-place.result c.root-place.ensures c.loop-frame.scratch.stack.items c.push_frame.new.stack.items c.in_ok-frame.frame c.in_ok-frame.ensures.frame c.push_frame.ensures c.loop-frame.invariant.chain c.pop.new.self.items c.in-Some.top c.in-Some.ensures.items in
    record {
      within = omega (arith, left.0, left.1);
      chain = λ ρ sol. ((next ρ sol).0, (next ρ sol).1);
      moved = λ us n.
          let m = inv.moved us n in
          let p = c.in_ok-frame.ensures.after m.vs m.numbered in
          moved_on names H c.loop-frame.at r c.root-place.ensures c.args.start us _ _ _ _ m c.in_ok-frame.frame c.in_ok-frame.ensures.frame _ c.push_frame.ensures
          _ _ top c.in-Some.ensures.items left.0 c.push_frame-in-loop-frame.ensures _ _ _
          (puts_then (field_at names (cell H r) r m.vs) refl m.held p.0) p.1;
    }
