use Rattle.std.proofs.Common.{is_ok, sym, ◌∙◌, subst}
use Rattle.matching.specs.Trails.{Kept}
use Rattle.cells.specs.Stores.{cells_of, bound_of}
use Rattle.entry.proofs.GetLaws.{constant_same, constant_clash, constant_bound, constant_grew, constant_long}
use Rattle.entry.proofs.operands.get_constant.Goals as goal
use Rattle.entry.proofs.operands.get_constant.Goals.{else-symbol-c-via-then-symbol-c+else-arity-eq0, else-symbol-c-via-else-symbol-c}

pub returns-then-arity-eq0-clause-result : goal.returns-then-arity-eq0-clause-result
returns-then-arity-eq0-clause-result c =
    constant_same (cells_of c.args.store.now) c.args.c c.args.i c.root.result c.in-Node.symbol c.in-Node.arity c.in-Node.first c.root.ensures (sym c.get.ensures ∙ c.in-Node.is) c.if-symbol-c.true c.if-arity-eq0.true

pub returns-else-symbol-c-clause-result : goal.returns-else-symbol-c-clause-result
returns-else-symbol-c-clause-result c =
    constant_clash (cells_of c.args.store.now) c.args.c c.args.i c.root.result c.in-Node.symbol c.in-Node.arity c.in-Node.first c.root.ensures (sym c.get.ensures ∙ c.in-Node.is)
    (elim c.else-symbol-c.branch [ else-symbol-c-via-then-symbol-c+else-arity-eq0 w ↦ λ _ e. w.if-arity-eq0.false e | else-symbol-c-via-else-symbol-c w ↦ λ e _. w.if-symbol-c.false e ])

pub returns : goal.returns
returns c =
    let e = c.make_constant.ensures.cells in
    let H = cells_of c.args.store.now in
    let k = c.unify.ensures.kept in
    record {
      grew = constant_grew H _ _ _ _ c.args.c c.args.i c.top-j.result c.requires.within e c.top-j.ensures.value (subst (λ t. Kept (cells_of c.make_constant.new.store) t (cells_of c.unify.new.self) (bound_of c.unify.new.self)) c.make_constant.ensures.trail k);
      long = constant_long H _ _ _ _ c.args.c c.args.i c.top-j.result c.requires.within e c.top-j.ensures.value k;
      result = constant_bound H _ _ _ _ c.args.c c.args.i c.top-j.result c.requires.within e c.top-j.ensures.value (is_ok c.unify.result) k c.unify.ensures.result;
    }
