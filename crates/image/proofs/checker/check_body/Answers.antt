use Rattle.std.proofs.Common.{map, length, sym, ap, ◌∙◌, arith}
use Rattle.image.specs.Said.{said}
use Rattle.image.specs.Symbols.{arity}
use Rattle.image.proofs.SymbolLaws.{after_length}
use Rattle.image.proofs.CheckLaws.{alone, body_done}
use Rattle.image.proofs.checker.check_body.Goals as goal

pub overflow_sub-words : goal.overflow_sub-words
overflow_sub-words c = omega (arith, ap length c.in_ok-arities.ensures.rest, after_length c.args.header.symbols c.args.words.now)

pub check_layout-requires : goal.check_layout-requires
check_layout-requires c =
    let s = c.args.header.symbols in
    c.as_slice.ensures.value ∙ c.in_ok-arities.ensures.arities
    ∙ ap (map arity) (sym (alone s c.args.words.now c.in_ok-arities.rest.now c.split_at.result.0.now c.in_ok-arities.ensures.rest c.split_at.ensures.front))

pub returns : goal.returns
returns c =
    let h = c.args.header in
    body_done h.symbols h.clauses h.size c.args.words.now c.in_ok-arities.rest.now c.split_at.result.0.now (said c.check_layout.result) c.in_ok-arities.ensures.rest c.split_at.ensures.front c.in_ok-arities.ensures.fault c.check_layout.ensures
