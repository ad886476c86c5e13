use Rattle.std.proofs.Common.{◌∷◌, vec_items, ap, ◌∙◌}
use Rattle.std.proofs.lemmas.Result.{on_ok_weaker}
use Rattle.lines.specs.Said.{words_left}
use Rattle.lines.specs.Tokens.{word}
use Rattle.prolog.proofs.TermLaws.{put_none, put_no_terms, put_variable_end, put_name_lem, put_structure_lem, going_start, going_more, going_end}
use Rattle.prolog.proofs.terms.+put_list_put_term.Goals as goal

pub put_list-returns-then-count-eq0-clause-text : goal.put_list-returns-then-count-eq0-clause-text
put_list-returns-then-count-eq0-clause-text t c = put_no_terms c.args.count (words_left c.args.tokens.now) (vec_items c.args.out.now) c.if-count-eq0.true

pub put_list-loop-init : goal.put_list-loop-init
put_list-loop-init t c =
    going_start c.args.count (words_left c.args.tokens.now) (words_left c.put_term.new.tokens) (vec_items c.args.out.now) (vec_items c.put_term.new.out)
    c.if-count-eq0.false c.in_ok-put_term.ensures.text c.in_ok-put_term.ensures.fewer

pub put_list-loop-preserved : goal.put_list-loop-preserved
put_list-loop-preserved t c =
    going_more c.args.count (words_left c.args.tokens.now) (vec_items c.args.out.now) c.loop.counter (words_left c.loop.tokens) (vec_items c.loop.out) c.loop.invariant
    (words_left c.put_term-in-loop.new.tokens) (vec_items c.extend_from_slice.new.self) (vec_items c.put_term-in-loop.new.out)
    c.loop-test.true c.in_ok-extend_from_slice.ensures.items c.in_ok-put_term-2.ensures.text c.in_ok-put_term-2.ensures.fewer

pub put_list-returns-clause-text : goal.put_list-returns-clause-text
put_list-returns-clause-text t c = going_end c.args.count (words_left c.args.tokens.now) (vec_items c.args.out.now) c.loop.counter (words_left c.loop.tokens) (vec_items c.loop.out) c.loop.invariant c.loop-test.false

pub put_term-returns-in_default-clause-text : goal.put_term-returns-in_default-clause-text
put_term-returns-in_default-clause-text t c = put_none (words_left c.args.tokens.now) (words_left c.next_token.new.self) (vec_items c.args.out.now) c.in_default.ensures.value

pub put_term-returns-in-Name-clause-text : goal.put_term-returns-in-Name-clause-text
put_term-returns-in-Name-clause-text t c =
    let is = c.in-Some.ensures.value ∙ ap (λ x. word x ∷ words_left c.next_token.new.self) c.in-Name.is in
    on_ok_weaker c.put_atom.result (put_name_lem (words_left c.args.tokens.now) (words_left c.next_token.new.self) (vec_items c.args.out.now) (vec_items c.put_atom.new.out) c.in-Name.name.now is) c.put_atom.ensures

pub put_term-returns-in-Variable-clause-text : goal.put_term-returns-in-Variable-clause-text
put_term-returns-in-Variable-clause-text t c =
    let is = c.in-Some.ensures.value ∙ ap (λ x. word x ∷ words_left c.next_token.new.self) c.in-Variable.is in
    put_variable_end (words_left c.args.tokens.now) (words_left c.next_token.new.self) (vec_items c.args.out.now) (vec_items c.extend_from_slice.new.self) c.in-Variable.name.now c.extend_from_slice.result is c.extend_from_slice.ensures.items

pub put_term-returns-in_ok-push-in-Structure-2-clause-text : goal.put_term-returns-in_ok-push-in-Structure-2-clause-text
put_term-returns-in_ok-push-in-Structure-2-clause-text t c =
    let is = c.in-Some.ensures.value ∙ ap (λ x. word x ∷ words_left c.next_token.new.self) c.in-Structure.is in
    put_structure_lem (words_left c.args.tokens.now) (words_left c.next_token.new.self) (words_left c.put_list.new.tokens)
    (vec_items c.args.out.now) (vec_items c.put_atom-in-Structure.new.out) (vec_items c.push.new.self) (vec_items c.put_list.new.out) (vec_items c.push-in-Structure.new.self) c.in-Structure.name.now c.in-Structure.arity
    is c.in_ok-put_atom-in-Structure.ensures c.in_ok-push-in-Structure.ensures.items c.in_ok-put_list-in-Structure.ensures.text c.in_ok-push-in-Structure-2.ensures.items
