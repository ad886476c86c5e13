use Rattle.std.proofs.Common.{◌≡◌, ◌+◌, ◌<◌, ◌∷◌, rules, length, drop, reverse, set, sym, ◌∙◌, subst, arith}
use Rattle.std.proofs.lemmas.List.{length-reverse}
use Rattle.cells.specs.Stores.{cells_of}
use Rattle.posing.specs.Stacks.{Posing}
use Rattle.posing.specs.Queries.{Fit}
use Rattle.posing.specs.Starts.{from_top, no_goal}
use Rattle.posing.proofs.StartLaws.{top_length, top_push, piece_before, cut_before, fit_before, costs_before, started, posing_first}
use Rattle.posing.proofs.starting.start.Goals as goal

pub loop-piece-init : goal.loop-piece-init
loop-piece-init c =
    let rest : c.into_iter-piece-iterator.result.iter.rest.now ≡ c.args.pieces.now = cc in
    let h = posing_first c.args.table.now c.args.slots.now c.args.pieces.now c.into_iter-piece-iterator.result.iter.rest.now (cells_of c.args.store.now) c.new-entries.result.items c.requires.slots rest c.requires.store c.new-entries.ensures in
    record { cut = h.0; posing = h.1 }

pub start_piece-requires-clause-fit : goal.start_piece-requires-clause-fit
start_piece-requires-clause-fit c =
    let pieces = c.args.pieces.now in
    let p = c.loop-piece.invariant.posing in
    fit_before pieces c.loop-piece.piece-iterator.iter.rest.now c.next.new.self.iter.rest.now c.in-Some.piece.now c.loop-piece.invariant.cut c.in-Some.ensures.steps c.args.table.now (length c.loop-piece.slots) (length c.loop-piece.entries.items)
    (subst (λ m. Fit c.args.table.now m pieces) (sym c.loop-piece.auto.slots) c.requires.fit) (sym (length-reverse c.loop-piece.entries.items) ∙ p.count)

pub start_piece-requires-clause-few : goal.start_piece-requires-clause-few
start_piece-requires-clause-few c =
    let p = c.loop-piece.invariant.posing in
    let costs = costs_before c.args.pieces.now c.loop-piece.piece-iterator.iter.rest.now c.next.new.self.iter.rest.now c.in-Some.piece.now c.loop-piece.invariant.cut c.in-Some.ensures.steps in
    omega (arith, p.paid, costs.0, c.requires.light, length-reverse c.loop-piece.entries.items)

pub start_piece-requires-clause-room : goal.start_piece-requires-clause-room
start_piece-requires-clause-room c =
    let p = c.loop-piece.invariant.posing in
    let costs = costs_before c.args.pieces.now c.loop-piece.piece-iterator.iter.rest.now c.next.new.self.iter.rest.now c.in-Some.piece.now c.loop-piece.invariant.cut c.in-Some.ensures.steps in
    omega (arith, p.paid, costs.0, c.requires.light, length-reverse c.loop-piece.entries.items)

pub bounds-goals-count : goal.bounds-goals-count
bounds-goals-count c =
    let l = c.loop-piece in
    let next = c.in-Some-start_piece.ensures (from_top no_goal l.goals l.count) c.args.slots.now _ l.invariant.posing in
    let costs = costs_before c.args.pieces.now l.piece-iterator.iter.rest.now c.next.new.self.iter.rest.now c.in-Some.piece.now l.invariant.cut c.in-Some.ensures.steps in
    let lt : l.count < length l.goals = omega (arith, next.goals_count, top_length no_goal l.goals l.count, costs.1, c.requires.goals, l.auto.goals) in
    lt

pub offset_bounds-goals-count : goal.offset_bounds-goals-count
offset_bounds-goals-count c =
    let l = c.loop-piece in
    let next = c.in-Some-start_piece.ensures (from_top no_goal l.goals l.count) c.args.slots.now _ l.invariant.posing in
    let costs = costs_before c.args.pieces.now l.piece-iterator.iter.rest.now c.next.new.self.iter.rest.now c.in-Some.piece.now l.invariant.cut c.in-Some.ensures.steps in
    let lt : l.count < length l.goals = omega (arith, next.goals_count, top_length no_goal l.goals l.count, costs.1, c.requires.goals, l.auto.goals) in
    search rules

pub overflow_add-count : goal.overflow_add-count
overflow_add-count c =
    let l = c.loop-piece in
    let next = c.in-Some-start_piece.ensures (from_top no_goal l.goals l.count) c.args.slots.now _ l.invariant.posing in
    let costs = costs_before c.args.pieces.now l.piece-iterator.iter.rest.now c.next.new.self.iter.rest.now c.in-Some.piece.now l.invariant.cut c.in-Some.ensures.steps in
    let lt : l.count < length l.goals = omega (arith, next.goals_count, top_length no_goal l.goals l.count, costs.1, c.requires.goals, l.auto.goals) in
    search rules

pub loop-piece-preserved-in-Some-start_piece : goal.loop-piece-preserved-in-Some-start_piece
loop-piece-preserved-in-Some-start_piece c =
    let l = c.loop-piece in
    let next = c.in-Some-start_piece.ensures (from_top no_goal l.goals l.count) c.args.slots.now _ l.invariant.posing in
    let costs = costs_before c.args.pieces.now l.piece-iterator.iter.rest.now c.next.new.self.iter.rest.now c.in-Some.piece.now l.invariant.cut c.in-Some.ensures.steps in
    let lt : l.count < length l.goals = omega (arith, next.goals_count, top_length no_goal l.goals l.count, costs.1, c.requires.goals, l.auto.goals) in
    let pieces = c.args.pieces.now in
    let step = piece_before pieces l.piece-iterator.iter.rest.now c.next.new.self.iter.rest.now c.in-Some.piece.now l.invariant.cut c.in-Some.ensures.steps in
    record {
      cut = cut_before pieces l.piece-iterator.iter.rest.now c.next.new.self.iter.rest.now c.in-Some.piece.now l.invariant.cut c.in-Some.ensures.steps;
      posing = subst (λ ps. Posing c.args.table.now c.args.slots.now ps (cells_of c.start_piece.new.store) c.start_piece.new.slots (reverse c.start_piece.new.entries.items) (from_top no_goal (set l.goals l.count c.in-Some-start_piece.goal) (l.count + 1))) (sym step)
          (subst (λ B. Posing c.args.table.now c.args.slots.now (c.in-Some.piece.now ∷ drop (length l.piece-iterator.iter.rest.now) pieces) (cells_of c.start_piece.new.store) c.start_piece.new.slots (reverse c.start_piece.new.entries.items) B)
          (sym (top_push no_goal l.goals l.count c.in-Some-start_piece.goal lt)) next);
    }

pub loop-piece-preserved : goal.loop-piece-preserved
loop-piece-preserved c =
    let l = c.loop-piece in
    let G = from_top no_goal l.goals l.count in
    let next = c.in_default.ensures G c.args.slots.now _ l.invariant.posing in
    let pieces = c.args.pieces.now in
    let step = piece_before pieces l.piece-iterator.iter.rest.now c.next.new.self.iter.rest.now c.in-Some.piece.now l.invariant.cut c.in-Some.ensures.steps in
    record {
      cut = cut_before pieces l.piece-iterator.iter.rest.now c.next.new.self.iter.rest.now c.in-Some.piece.now l.invariant.cut c.in-Some.ensures.steps;
      posing = subst (λ ps. Posing c.args.table.now c.args.slots.now ps (cells_of c.start_piece.new.store) c.start_piece.new.slots (reverse c.start_piece.new.entries.items) G) (sym step) next;
    }

pub returns : goal.returns
returns c =
    let l = c.loop-piece in
    let pieces = c.args.pieces.now in
    let p = subst (λ n. Posing c.args.table.now c.args.slots.now (drop n pieces) (cells_of l.store) l.slots (reverse l.entries.items) (from_top no_goal l.goals l.count)) c.in-None.ensures.steps.0 l.invariant.posing in
    record {
      value = sym (top_length no_goal l.goals l.count) ∙ p.goals_count;
      started = started c.args.table.now c.args.slots.now pieces _ l.slots _ _ c.requires.slots (p.count ∙ c.requires.whole) p;
    }
