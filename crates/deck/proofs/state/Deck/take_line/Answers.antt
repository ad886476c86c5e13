use Rattle.std.proofs.Common.{◌≡◌, ◌+◌, ◌<◌, ◌≤◌, [], ◌∷◌, ◌++◌, true, false, map, length, Ok, Err, sym, ap, ◌∙◌, subst, arith, rules}
use Rattle.std.specs.Prelude.{is_ok}
use Rattle.std.proofs.lemmas.Result.{err_from_is_err_and, MatchResult-at_ok}
use Rattle.std.proofs.lemmas.List.{map-append}
use Rattle.horn.specs.Clauses.{Clause}
use Rattle.horn.specs.Weights.{clause_weight}
use Rattle.lines.specs.Clauses.{read_clause}
use Rattle.lines.specs.Refusals.{area_place}
use Rattle.lines.specs.Said.{terms_of, words_left, Counted}
use Rattle.lines.specs.declared.kind.Kind.TheVariants.{Clause as ClauseLine}
use Rattle.lines.proofs.Counts.{counted}
use Rattle.symbol_table.specs.Numbers.{note_words}
use Rattle.symbol_table.specs.Tables.{signature}
use Rattle.symbol_table.proofs.SymbolLaws.{signature_long}
use Rattle.symbol_table.specs.Noting.{Fines}
use Rattle.symbol_table.proofs.NoteLaws.{fine_terms}
use Rattle.deck.specs.Decks.{words_in, extended, reply, after}
use Rattle.deck.specs.Held.{contents}
use Rattle.lines.specs.declared.faults.CallFault.TheVariants.{Limit}
use Rattle.lines.specs.declared.faults.Area.TheVariants.{Symbols}
use Rattle.deck.proofs.AddLaws.{Spelt, spelt, adding_2, adding_3, adding_ok, lines_long, holding}
use Rattle.deck.proofs.state.Deck.take_line.Goals as goal
use Rattle.deck.proofs.state.Deck.take_line.Goals.{In_ok-clause, After-is_full, After-map_err}

-- what the line counts
counts : (c : In_ok-clause) → Counted ClauseLine c.in_ok-clause.clause
counts c = counted ClauseLine c.in_ok-clause.clause c.in_ok-clause.ensures.kind

-- the clause that the line spells
clause_of : (c : In_ok-clause) → Spelt c.args.line.now (terms_of c.in_ok-clause.clause)
clause_of c = spelt c.args.line.now (terms_of c.in_ok-clause.clause) (omega (arith, (counts c).goals)) c.in_ok-clause.ensures.one_reading

reads : (c : In_ok-clause) → Ok (clause_of c).clause ≡ read_clause c.args.line.now
reads c = sym (clause_of c).is ∙ c.in_ok-clause.ensures.value

words_are : (c : In_ok-clause) → words_in (clause_of c).clause ≡ words_left c.in_ok-clause.clause.body
words_are c = (clause_of c).words ∙ sym (counts c).tokens

light : (c : In_ok-clause) → c.in_ok-clause.clause.weight ≤ 128
light c = omega (arith, (counts c).weight, (clause_of c).proper.light)

-- there is room for one more line
room : (c : After-is_full) → c.is_full.result ≡ false → length (contents c.args.self.now).lines < 256
room c e = let few : length c.args.self.now.lines.items < 256 = search rules in omega (arith, lines_long c.args.self.now)

-- the symbols that were noted
noting : (c : After-map_err) → true ≡ is_ok c.note_symbols.result → (clause : Clause) → words_in clause ≡ words_left c.in_ok-clause.clause.body → signature c.note_symbols.new.symbols ≡ note_words (signature c.args.self.now.symbols) (words_in clause)
noting c e clause is =
    let noted : signature c.note_symbols.new.symbols ≡ note_words (signature c.args.self.now.symbols) (words_left c.in_ok-clause.clause.body) = search rules in
    noted ∙ ap (note_words (signature c.args.self.now.symbols)) (sym is)

pub note_symbols-requires : goal.note_symbols-requires
note_symbols-requires c =
    let s = (goal.at.note_symbols-requires c).In_ok-clause in
    subst Fines (sym (counts s).tokens) (fine_terms (terms_of c.in_ok-clause.clause) [] (clause_of s).proper.good tt)

pub returns-in_err-map_err-clause-value : goal.returns-in_err-map_err-clause-value
returns-in_err-map_err-clause-value c =
    let s = (goal.at.returns-in_err-map_err-clause-value c).In_ok-clause in
    let full : 256 < length (note_words (signature c.args.self.now.symbols) (words_left c.in_ok-clause.clause.body)) = search rules in
    let over : 256 < length (note_words (signature c.args.self.now.symbols) (words_in (clause_of s).clause)) = omega (arith, full, ap (λ ws. length (note_words (signature c.args.self.now.symbols) ws)) (words_are s)) in
    let is : c.in_err-map_err.field-0.0 ≡ Symbols = search rules in
    let p = err_from_is_err_and c.from_residual-in_err-map_err.result c.from_residual-in_err-map_err.ensures.1 in
    p.1 ∙ ap Err (p.2 ∙ ap (λ area. Limit (area_place area)) is) ∙ sym (ap (λ r. reply r tt) (adding_2 (contents c.args.self.now) c.args.line.now (clause_of s).clause (reads s) (room (goal.at.returns-in_err-map_err-clause-value c).After-is_full c.if-is_full.false) over))

pub overflow_add-words : goal.overflow_add-words
overflow_add-words c = omega (arith, light (goal.at.overflow_add-words c).In_ok-clause)

pub overflow_add-words-2 : goal.overflow_add-words-2
overflow_add-words-2 c = omega (arith, light (goal.at.overflow_add-words-2 c).In_ok-clause, c.args.self.now.light)

pub returns-then-words-gt-CODE_LIMIT-clause-value : goal.returns-then-words-gt-CODE_LIMIT-clause-value
returns-then-words-gt-CODE_LIMIT-clause-value c =
    let at = goal.at.returns-then-words-gt-CODE_LIMIT-clause-value c in
    let s = at.In_ok-clause in
    let noted = noting at.After-map_err c.in_ok-map_err.ensures.variant (clause_of s).clause (words_are s) in
    ap Err c.into-then-words-gt-CODE_LIMIT.ensures
    ∙ sym (ap (λ r. reply r tt) (adding_3 (contents c.args.self.now) c.args.line.now (clause_of s).clause (reads s) (room at.After-is_full c.if-is_full.false)
    (omega (arith, ap length noted, signature_long c.note_symbols.new.symbols, c.note_symbols.new.symbols.few))
    (omega (arith, (clause_of s).weight, (counts s).weight, c.if-words-gt-CODE_LIMIT.true))))

pub returns : goal.returns
returns c =
    let at = goal.at.returns c in
    let s = at.In_ok-clause in
    let noted = noting at.After-map_err c.in_ok-map_err.ensures.variant (clause_of s).clause (words_are s) in
    let weight : c.in_ok-clause.clause.weight ≡ clause_weight (clause_of s).clause = (counts s).weight ∙ sym (clause_of s).weight in
    let element = (MatchResult-at_ok _ _ c.unwrap.result c.unwrap.ensures c.try_from.ensures).0 in
    let e = adding_ok (contents c.args.self.now) c.args.line.now (clause_of s).clause (reads s) (room at.After-is_full c.if-is_full.false)
    (omega (arith, ap length noted, signature_long c.note_symbols.new.symbols, c.note_symbols.new.symbols.few))
    (omega (arith, weight, c.if-words-gt-CODE_LIMIT.false)) in
    record {
      value = sym (ap (λ r. reply r tt) e);
      taken =
          holding _ (extended (contents c.args.self.now) c.args.line.now (clause_of s).clause)
          (ap (map (λ l. l.items)) c.push.ensures.items ∙ map-append (λ l. l.items) c.args.self.now.lines.items (c.unwrap.result ∷ []) ∙ ap (λ x. (contents c.args.self.now).lines ++ x ∷ []) element)
          noted (ap (λ w. c.args.self.now.words + (w + 2)) weight)
          ∙ sym (ap (after (contents c.args.self.now)) e);
      lines = tt;
      symbols = tt;
      words = tt;
    }
