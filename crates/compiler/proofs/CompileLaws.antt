-- A line's clause, as it has been flattened.
use Rattle.std.proofs.Common.{◌≡◌, ℕ, zero, suc, ◌+◌, ◌-◌, ◌<◌, ◌≤◌, true, ◌&&◌, ◌||◌, eqb, leb, List, [], ◌∷◌, length, get_or, take, drop, Ok, sym, refl, ap, ◌∙◌, subst, arith}
use Rattle.std.proofs.lemmas.List.{take_all}
use Rattle.std.proofs.lemmas.Bool.{and_parts, leb-true}
use Rattle.horn.specs.Terms.{Name, Term, var, node, nil, cons, count}
use Rattle.horn.specs.Clauses.{Clause, Callables, Written, blanks, apart, aparts}
use Rattle.horn.specs.Weights.{load}
use Rattle.horn.specs.Notation.{Word, word_for, words, wordss}
use Rattle.lines.specs.Words.{upper, every, plain, is_variable}
use Rattle.lines.specs.Grammar.{Good, Goods}
use Rattle.lines.specs.Clauses.{clause_from}
use Rattle.code.specs.Meaning.{Denotes}
use Rattle.code.specs.declared.instructions.Instruction.{Instruction}
use Rattle.symbol_table.specs.Symbols.{Signature, arity_at, symbols_of}
use Rattle.symbol_table.specs.Numbers.{number_in, Covers, Short, Shorts, variables_after}
use Rattle.compiler.specs.Flatten.{items, predicates}
use Rattle.compiler.specs.Reading.{reads, Whole, arities, Carries, weight}
use Rattle.compiler.specs.Lines.{Numbered, Used, Known, variables}
use Rattle.compiler.proofs.StepLaws.{hefts_is}
use Rattle.compiler.proofs.FlattenLaws.{covers_terms}
use Rattle.compiler.proofs.ClauseLaws.{pred_g, goals_items, goals_after, goals_predicates, count_goals, is_whole, is_known, is_numbered, is_used, is_varied, is_full_lem, is_called, is_weight, denoting}
use Rattle.compiler.specs.declared.items.Item.{Item}

-- variables are short
variable_short : (v : Name) → is_variable v ≡ true → length v ≤ 31
variable_short [] h = omega arith
variable_short (b ∷ bs) h =
    let p = and_parts (upper b || eqb b 95) (leb (suc (length bs)) 31 && every plain bs) h in
    leb-true (suc (length bs)) 31 (and_parts (leb (suc (length bs)) 31) (every plain bs) p.1).0

short_for : (f : Name) (c : ℕ) → Short (word_for f c)
short_for f zero = tt
short_for f (suc c) = tt

mutual
  short_term : (t : Term Name) (ws : List Word) → Good t → Shorts ws → Shorts (words t ws)
  short_term (var v) ws g s = (variable_short v g, s)
  short_term (node f ts) ws g s = (short_for f (count ts), short_terms ts ws g.1 s)

  pub short_terms : (ts : Written) (ws : List Word) → Goods ts → Shorts ws → Shorts (wordss ts ws)
  short_terms nil ws g s = s
  short_terms (cons t ts) ws g s = short_term t (wordss ts ws) g.0 (short_terms ts ws g.1 s)

-- what the writer asks, and what its code then denotes
pub record Parsed (sig : Signature) (ts : Written) (head : ℕ) (goals : List ℕ) (its : List Item) (vars : ℕ) : Type 0 where
  pub whole : Whole sig its
  pub known : Known sig its
  pub numbered : Numbered vars its
  pub used : Used vars its
  pub varied : vars ≤ variables its
  pub full : arity_at sig head + arities sig goals ≡ count (reads sig its)
  pub called : (k : ℕ) → k < length goals → get_or goals k 0 < length sig
  pub weighs : weight goals its ≡ load 0 ts
  pub counts : suc (length goals) ≡ count ts
  pub headed : head < length sig
  pub denotes : (c : Clause) → clause_from ts ≡ Ok c → (code : List Instruction) → Carries sig head goals its code → Denotes (symbols_of sig) head code c

parsed_as : (sig : Signature) (ts : Written) (head head' : ℕ) (goals goals' : List ℕ) (its its' : List Item) (vars vars' : ℕ) → head ≡ head' → goals ≡ goals' → its ≡ its' → vars ≡ vars'
    → Parsed sig ts head' goals' its' vars' → Parsed sig ts head goals its vars
parsed_as sig ts head head' goals goals' its its' vars vars' a b c d p =
    subst (λ x. Parsed sig ts x goals its vars) (sym a) (subst (λ x. Parsed sig ts head' x its vars) (sym b) (subst (λ x. Parsed sig ts head' goals' x vars) (sym c) (subst (λ x. Parsed sig ts head' goals' its' x) (sym d) p)))

pub parsed : (sig : Signature) (ts : Written) (ws : List Word) (head : ℕ) (goals : List ℕ) (its : List Item) (vars : ℕ) → Callables ts → 1 ≤ count ts → ws ≡ wordss ts [] → Covers sig ws
    → head ∷ goals ≡ predicates sig 0 ws → its ≡ items sig [] 0 ws → vars ≡ length (variables_after [] 0 ws) → Parsed sig ts head goals its vars
parsed sig nil ws head goals its vars h some e covers a b c = absurd (omega arith)
parsed sig (cons (var v) gs) ws head goals its vars h some e covers a b c = absurd h.0
parsed sig (cons (node f us) gs) ws head goals its vars h some e covers a b c =
    let known = (covers_terms sig (cons (node f us) gs) [] (subst (Covers sig) e covers)).0 in
    let found : head ∷ goals ≡ number_in sig f (count us) ∷ pred_g sig gs = a ∙ ap (predicates sig 0) e ∙ goals_predicates sig (cons (node f us) gs) h in
    let first : head ≡ number_in sig f (count us) = cc in
    let others : goals ≡ pred_g sig gs = cc in
    parsed_as sig (cons (node f us) gs) head _ goals _ its _ vars _ first others
    (b ∙ ap (items sig [] 0) e ∙ goals_items sig [] (cons (node f us) gs) h) (c ∙ ap (λ l. length (variables_after [] 0 l)) e ∙ ap length (goals_after [] (cons (node f us) gs) h))
    (record {
      whole = is_whole sig f us gs h.1 known;
      known = is_known sig f us gs h.1 known;
      numbered = is_numbered sig f us gs h.1 known;
      used = is_used sig f us gs h.1 known;
      varied = is_varied sig f us gs h.1 known;
      full = is_full_lem sig f us gs h.1 known;
      called = is_called sig f us gs h.1 known;
      weighs = is_weight sig f us gs h.1 known;
      counts = ap suc (count_goals sig gs);
      headed = known.0.0;
      denotes = λ d q code carries.
          (let is : d ≡ record { head = apart 0 (node f us); goals = aparts (0 + blanks (node f us)) gs } = cc in
          subst (Denotes (symbols_of sig) (number_in sig f (count us)) code) (sym is) (denoting sig f us gs h.1 known code carries));
    })

-- how many there are
pub predicates_long : (sig : Signature) (ts : Written) (ws : List Word) → Callables ts → ws ≡ wordss ts [] → length (predicates sig 0 ws) ≡ count ts
predicates_long sig ts ws h e = ap (λ l. length (predicates sig 0 l)) e ∙ ap length (goals_predicates sig ts h) ∙ count_goals sig ts

-- the first and the others
pub parts_of_lem : (xs ps : List ℕ) → xs ≡ ps → 1 ≤ length xs → get_or xs 0 0 ∷ take (length xs - 1) (drop 1 xs) ≡ ps
parts_of_lem [] ps e some = absurd (omega arith)
parts_of_lem (x ∷ xs) ps e some = ap (λ l. x ∷ l) (take_all (suc (length xs) - 1) xs (omega arith)) ∙ e

whole_list : (ps : List ℕ) → 1 ≤ length ps → get_or ps 0 0 ∷ drop 1 ps ≡ ps
whole_list [] h = absurd (omega arith)
whole_list (x ∷ ps) h = refl

pub items_long : (sig : Signature) (ts : Written) (ws : List Word) → Callables ts → 1 ≤ count ts → ws ≡ wordss ts [] → Covers sig ws → length (items sig [] 0 ws) ≤ load 0 ts
items_long sig ts ws h some e covers =
    let made = parsed sig ts ws (get_or (predicates sig 0 ws) 0 0) (drop 1 (predicates sig 0 ws)) (items sig [] 0 ws) (length (variables_after [] 0 ws)) h some e covers
    (whole_list (predicates sig 0 ws) (omega (arith, predicates_long sig ts ws h e))) refl refl in
    omega (arith, made.weighs, hefts_is (items sig [] 0 ws))
