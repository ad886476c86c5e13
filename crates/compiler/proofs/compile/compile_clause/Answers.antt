use Rattle.std.proofs.Common.{◌≡◌, ℕ, ◌+◌, ◌-◌, List, [], ◌++◌, map, length, get_or, take, drop, sym, ap, ◌∙◌, subst, arith}
use Rattle.std.proofs.lemmas.Slice.{take-put_mid, drop-put_mid}
use Rattle.horn.specs.Terms.{count}
use Rattle.horn.specs.Weights.{load}
use Rattle.lines.specs.Said.{terms_of, words_left}
use Rattle.lines.specs.declared.kind.Kind.TheVariants.{Clause as ClauseLine}
use Rattle.lines.proofs.Counts.{counted}
use Rattle.code.specs.Words.{decode}
use Rattle.code.specs.Rules.{key_of}
use Rattle.code.specs.WellFormed.{Kept}
use Rattle.symbol_table.specs.Symbols.{arities_of}
use Rattle.symbol_table.specs.Numbers.{Shorts}
use Rattle.symbol_table.specs.Tables.{signature}
use Rattle.compiler.proofs.CompileLaws.{short_terms, Parsed, parsed, predicates_long, items_long, parts_of_lem}
use Rattle.compiler.proofs.compile.compile_clause.Goals as goal
use Rattle.compiler.proofs.compile.compile_clause.Goals.{After-as_slice-predicates, After-deref}

pub flatten-clause-requires-clause-short : goal.flatten-clause-requires-clause-short
flatten-clause-requires-clause-short c = subst Shorts (sym (counted ClauseLine c.args.line c.requires.clause).tokens) (short_terms (terms_of c.args.line) [] c.requires.proper.good tt)

pub flatten-clause-requires-clause-goals : goal.flatten-clause-requires-clause-goals
flatten-clause-requires-clause-goals c =
    omega (arith, predicates_long (signature c.args.symbols.now) (terms_of c.args.line) (words_left c.args.line.body) c.requires.proper.callable (counted ClauseLine c.args.line c.requires.clause).tokens, c.requires.proper.few)

pub flatten-clause-requires-clause-arguments : goal.flatten-clause-requires-clause-arguments
flatten-clause-requires-clause-arguments c =
    omega (arith, items_long (signature c.args.symbols.now) (terms_of c.args.line) (words_left c.args.line.body) c.requires.proper.callable c.requires.proper.some (counted ClauseLine c.args.line c.requires.clause).tokens c.requires.covered, c.requires.proper.light)

number : (c : After-as_slice-predicates) → length c.as_slice-predicates.result.now ≡ count (terms_of c.args.line)
number c =
    ap length (c.as_slice-predicates.ensures.value ∙ c.flatten-clause.ensures.predicates)
    ∙ predicates_long (signature c.args.symbols.now) (terms_of c.args.line) (words_left c.args.line.body) c.requires.proper.callable (counted ClauseLine c.args.line c.requires.clause).tokens

pub bounds-predicates-0 : goal.bounds-predicates-0
bounds-predicates-0 c = omega (arith, number (goal.at.bounds-predicates-0 c).After-as_slice-predicates, c.requires.proper.some)

pub slice_bounds-write_clause-count : goal.slice_bounds-write_clause-count
slice_bounds-write_clause-count c = omega (arith, number (goal.at.slice_bounds-write_clause-count c).After-as_slice-predicates, c.requires.proper.some)

pub slice_bounds-write_clause-start : goal.slice_bounds-write_clause-start
slice_bounds-write_clause-start c = omega (arith, number (goal.at.slice_bounds-write_clause-start c).After-as_slice-predicates, c.requires.proper.some)

made : (c : After-deref)
    → Parsed (signature c.args.symbols.now) (terms_of c.args.line) (get_or c.as_slice-predicates.result.now 0 0) (take (length c.as_slice-predicates.result.now - 1) (drop 1 c.as_slice-predicates.result.now)) c.deref.result.now c.flatten-clause.result.variables
made c =
    let found = c.as_slice-predicates.ensures.value ∙ c.flatten-clause.ensures.predicates in
    let n = ap length found ∙ predicates_long (signature c.args.symbols.now) (terms_of c.args.line) (words_left c.args.line.body) c.requires.proper.callable (counted ClauseLine c.args.line c.requires.clause).tokens in
    parsed (signature c.args.symbols.now) (terms_of c.args.line) (words_left c.args.line.body) _ _ _ _ c.requires.proper.callable c.requires.proper.some (counted ClauseLine c.args.line c.requires.clause).tokens c.requires.covered
    (parts_of_lem c.as_slice-predicates.result.now _ found (omega (arith, n, c.requires.proper.some)))
    (c.deref.ensures.0 ∙ c.flatten-clause.ensures.items)
    c.flatten-clause.ensures.variables

pub write_clause-words-requires : goal.write_clause-words-requires
write_clause-words-requires c =
    let m = made (goal.at.write_clause-words-requires c).After-deref in
    record {
      whole = m.whole;
      known = m.known;
      numbered = m.numbered;
      used = m.used;
      varied = m.varied;
      full = m.full;
      called = m.called;
      light = omega (arith, m.weighs, c.requires.proper.light);
      few = omega (arith, m.counts, c.requires.proper.few);
    }

pub slice_bounds-copy_from_slice-end : goal.slice_bounds-copy_from_slice-end
slice_bounds-copy_from_slice-end c =
    omega (arith, (made (goal.at.slice_bounds-copy_from_slice-end c).After-deref).weighs, c.write_clause-words.ensures.size, c.len.ensures.value, (counted ClauseLine c.args.line c.requires.clause).weight, c.requires.room)

pub returns : goal.returns
returns c =
    let m = made (goal.at.returns c).After-deref in
    let w = c.write_clause-words.ensures in
    let code : List ℕ = c.write_clause-words.result.items in
    let size : length code ≡ load 0 (terms_of c.args.line) + 2 = w.size ∙ ap (λ k. k + 2) m.weighs in
    let written : c.copy_from_slice.new.self ≡ code = c.copy_from_slice.ensures.after ∙ c.deref-2.ensures.0 in
    let long = ap length written in
    record {
      code = code;
      size = size;
      end = omega (arith, size, c.len.ensures.value);
      written = take-put_mid c.args.at _ c.args.out.now c.copy_from_slice.new.self _ (omega (arith, long, c.len.ensures.value)) (omega (arith, c.requires.room)) ∙ ap (λ l. take c.args.at c.args.out.now ++ l) written;
      rest = drop-put_mid c.args.at _ c.args.out.now c.copy_from_slice.new.self _ (omega arith) (omega (arith, c.requires.room)) (omega (arith, long, c.len.ensures.value));
      known = m.headed;
      denotes = λ d q. m.denotes d q (map decode code) w.carries;
      kept = subst (λ k. Kept (arities_of (signature c.args.symbols.now)) (get_or c.as_slice-predicates.result.now 0 0) k code) (sym (c.key_of.ensures ∙ ap (λ l. key_of (map decode l)) c.deref-3.ensures.0)) w.kept;
    }
