use Rattle.std.proofs.Common.{◌≡◌, ◌+◌, ◌-◌, [], ◌∷◌, ◌++◌, length, Some, drop, sym, ap, ◌∙◌, arith}
use Rattle.std.specs.Option.{option_map}
use Rattle.std.proofs.lemmas.Result.{err_from_is_err_and}
use Rattle.std.proofs.lemmas.List.{length-map}
use Rattle.image.specs.declared.faults.ImageFault.TheVariants.{Symbol}
use Rattle.image.specs.Symbols.{symbol_fault, symbols_of, arity, extent}
use Rattle.image.proofs.SymbolLaws.{fault_bad, fault_again, fault_next, arities_next, after_more, symbols_count, same_arity}
use Rattle.image.proofs.symbols.check_symbols.Goals as goal

pub returns-in_err-symbol-clause-fault : goal.returns-in_err-symbol-clause-fault
returns-in_err-symbol-clause-fault c =
    let p = err_from_is_err_and c.from_residual.result c.from_residual.ensures.1 in
    let none = c.in_err-symbol.ensures.ok_part in
    let bad = rw none at c.read_symbol.ensures in
    let fault : c.in_err-symbol.field-0.0 ≡ Symbol c.loop-place.place = (let v = rw none at c.in_err-symbol.ensures.value in cc) in
    rw (p.1, p.2) (
    ap Some fault
    ∙ sym (ap (option_map Symbol) (sym c.loop-place.invariant.fault ∙ fault_bad c.loop-place.left.now c.args.count c.loop-place.place c.loop-place-test.true c.split_symbol.result.0.now c.split_symbol.ensures.symbol c.args.words.now bad)))

pub returns-then-repeats-clause-fault : goal.returns-then-repeats-clause-fault
returns-then-repeats-clause-fault c =
    let good = (rw c.in_ok-symbol.ensures.ok_part at c.read_symbol.ensures) in
    sym (ap (option_map Symbol) (sym c.loop-place.invariant.fault ∙ fault_again c.loop-place.left.now c.args.count c.loop-place.place c.loop-place-test.true c.split_symbol.result.0.now c.split_symbol.ensures.symbol c.args.words.now good.0 (sym c.if-repeats.ensures)))

pub push-requires : goal.push-requires
push-requires c =
    let n : length c.loop-place.arities.items ≡ c.loop-place.place = ap length c.loop-place.invariant.arities ∙ length-map (symbols_of c.loop-place.place c.args.words.now) arity ∙ symbols_count c.loop-place.place c.args.words.now in
    (omega arith, omega (arith, n, c.loop-place-test.true, c.requires))

pub loop-place-preserved : goal.loop-place-preserved
loop-place-preserved c =
    let left = c.loop-place.left.now in
    let words = c.args.words.now in
    let i = c.loop-place.place in
    let own = c.split_symbol.result.0.now in
    let is = c.split_symbol.ensures.symbol in
    let good = (rw c.in_ok-symbol.ensures.ok_part at c.read_symbol.ensures) in
    record {
      fault =
          ap (λ l. symbol_fault (symbols_of (i + 1) words) (symbols_of (c.args.count - (i + 1)) l)) c.split_symbol.ensures.rest
          ∙ sym (fault_next left c.args.count i c.loop-place-test.true own is words c.loop-place.invariant.rest good.0 (sym c.if-repeats.ensures)) ∙ c.loop-place.invariant.fault;
      rest = c.split_symbol.ensures.rest ∙ ap (λ l. drop (extent l) l) c.loop-place.invariant.rest ∙ sym (after_more i words);
      arities =
          c.push.ensures.items ∙ ap (λ a. c.loop-place.arities.items ++ a ∷ []) (c.arity.ensures.value ∙ ap (λ s. s.arity) good.1 ∙ same_arity own)
          ∙ arities_next left c.args.count i c.loop-place-test.true own is words c.loop-place.arities.items c.loop-place.invariant.rest c.loop-place.invariant.arities;
    }
