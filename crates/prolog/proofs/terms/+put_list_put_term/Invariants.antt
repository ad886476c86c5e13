use Rattle.std.proofs.Common.{◌+◌, ◌*◌, length, vec_items}
use Rattle.lines.specs.Said.{words_left}
use Rattle.prolog.proofs.TermLaws.{Going}
use Rattle.prolog.proofs.terms.+put_list_put_term.Given as goal

abbrev pub decreases-put_list : goal.decreases-put_list
decreases-put_list l = 2 * length (words_left l.tokens.now) + 1

abbrev pub decreases-put_term : goal.decreases-put_term
decreases-put_term l = 2 * length (words_left l.tokens.now)

abbrev pub invariant-put_list-loop : goal.invariant-put_list-loop
invariant-put_list-loop l = Going l.count (words_left l.fn.tokens) (vec_items l.fn.out) l.counter (words_left l.tokens) (vec_items l.out)
