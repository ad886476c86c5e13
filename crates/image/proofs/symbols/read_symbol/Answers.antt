use Rattle.std.proofs.Common.{◌≡◌, ◌<◌, true, false, length, get_or, take, drop, sym, refl, ap, ◌∙◌, arith, rules}
use Rattle.std.proofs.lemmas.Bool.{le-leb, lt-leb, eq-eqb, ne_eqb}
use Rattle.std.proofs.lemmas.List.{length-take-le}
use Rattle.lines.specs.Words.{is_name}
use Rattle.image.specs.Bytes.{bytes_of}
use Rattle.image.specs.Symbols.{name_words, size_of, arity_of}
use Rattle.image.proofs.NameLaws.{proper_by, symbol_by, too_long, length_bytes, rest, zeros, all_zeros}
use Rattle.image.proofs.symbols.read_symbol.Goals.{then-arity-via-then-arity, then-arity-via-else-arity+then-name-div_ceil, then-arity-via-else-arity+else-name-div_ceil+then-size-gt-NAME_LIMIT}
use Rattle.image.proofs.symbols.read_symbol.Goals as goal

pub returns-then-arity : goal.returns-then-arity
returns-then-arity c =
    let xs = c.args.words.now in
    let some : 0 < length xs = search rules in
    let w = get_or xs 0 0 in
    let name = rest xs in
    elim c.then-arity.branch [
      | then-arity-via-then-arity b ↦ proper_by xs some false _ _ _ (lt-leb (arity_of w) 8 b.if-arity.true) refl refl refl
      | then-arity-via-else-arity+then-name-div_ceil b ↦
          let e = b.div_ceil.ensures in
          proper_by xs some true false _ _ (le-leb (arity_of w) 8 b.if-arity.false) (ne_eqb (length name) (name_words w) (λ q. b.if-name-div_ceil.true (omega arith))) refl refl
      | then-arity-via-else-arity+else-name-div_ceil+then-size-gt-NAME_LIMIT b ↦
          let e = b.div_ceil.ensures in
          let f = b.if-name-div_ceil.false in
          let taken : length (take (size_of w) (bytes_of name)) ≡ size_of w = length-take-le (size_of w) (bytes_of name) (omega (arith, length_bytes name)) in
          proper_by xs some true true false _ (le-leb (arity_of w) 8 b.if-arity.false) (eq-eqb (length name) (name_words w) (omega arith))
          (too_long (take (size_of w) (bytes_of name)) (omega (arith, b.if-size-gt-NAME_LIMIT.true))) refl
    ]

pub split_at-requires : goal.split_at-requires
split_at-requires c =
    omega (arith, length_bytes (rest c.args.words.now), ap length c.as_slice.ensures.value, ap length c.name_bytes-bytes.ensures, c.div_ceil.ensures, c.if-name-div_ceil.false)

pub returns : goal.returns
returns c =
    let xs = c.args.words.now in
    let some : 0 < length xs = search rules in
    let w = get_or xs 0 0 in
    let name = rest xs in
    let e = c.div_ceil.ensures in
    let f = c.if-name-div_ceil.false in
    let bytes = c.as_slice.ensures.value ∙ c.name_bytes-bytes.ensures in
    let front = c.split_at.ensures.front ∙ ap (take (size_of w)) bytes in
    let after = c.split_at.ensures.back ∙ ap (drop (size_of w)) bytes in (
      proper_by xs some true true true true (le-leb (arity_of w) 8 c.if-arity.false) (eq-eqb (length name) (name_words w) (omega arith))
          (ap is_name (sym front) ∙ sym c.if-not-is_name.ensures) (ap zeros (sym after) ∙ sym (all_zeros c.split_at.result.1.now) ∙ sym c.if-not-is_blank.ensures),
      c.new.ensures ∙ symbol_by xs some c.split_at.result.0.now front,
    )
