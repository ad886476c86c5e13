-- The items of a clause's heads and goals, and what code for them denotes.
use Rattle.std.proofs.Common.{◌≡◌, ℕ, zero, suc, ◌+◌, ◌<◌, ◌≤◌, List, [], ◌∷◌, ◌++◌, length, get_or, sym, refl, ap, ◌∙◌, ap₂, arith}
use native.Mathlib.Decide.{dec_lt}
use Rattle.horn.specs.Terms.{Name, Term, Terms, var, node, nil, cons, count, front, back, join, evals}
use Rattle.horn.specs.Clauses.{Variable, Callables, Written, blanks, apart, aparts}
use Rattle.horn.specs.Weights.{load}
use Rattle.horn.specs.Notation.{Word, word_for, wordss}
use Rattle.horn.proofs.JoinLaws.{front_join, back_join}
use Rattle.code.specs.Meaning.{Terming, Denotes}
use Rattle.code.specs.declared.instructions.Instruction.{Instruction}
use Rattle.symbol_table.specs.Symbols.{Signature, arity_at, symbols_of}
use Rattle.symbol_table.specs.Numbers.{number_in, blanks_in, variables_after}
use Rattle.compiler.specs.Flatten.{items, predicates}
use Rattle.compiler.specs.Reading.{reads, Whole, heads, arities, Carries, hefts, weight}
use Rattle.compiler.specs.Lines.{Numbered, Used, Known, variables}
use Rattle.symbol_table.proofs.NumberLaws.{number_is, at, Apart, apart_none, Begins, begins_all, begins_then, place, placed}
use Rattle.compiler.proofs.FlattenLaws.{note_ts, item_ts, num_ts, count_num, KnowsTs, items_terms, after_terms, predicates_terms, reads_terms, whole_terms, Sounds, sounds_known, sounds_append, sounds_terms, grown_terms, same_terms, numbered_append, numbered_terms, Has, has_left, has_right, used_by, has_terms, variables_append, varied_terms, hefts_append, hefts_terms, count_join}
use Rattle.compiler.specs.declared.items.Item.{Item}

abbrev pub note_g : List Variable → Written → List Variable
note_g V nil = V
note_g V (cons (var v) hs) = note_g V hs
note_g V (cons (node f ts) hs) = note_g (note_ts V ts) hs

abbrev pub item_g : Signature → List Variable → Written → List Item
item_g sig V nil = []
item_g sig V (cons (var v) hs) = item_g sig V hs
item_g sig V (cons (node f ts) hs) = item_ts sig V ts ++ item_g sig (note_ts V ts) hs

abbrev pub pred_g : Signature → Written → List ℕ
pred_g sig nil = []
pred_g sig (cons (var v) hs) = 0 ∷ pred_g sig hs
pred_g sig (cons (node f ts) hs) = number_in sig f (count ts) ∷ pred_g sig hs

abbrev arg_g : List Variable → Written → Terms ℕ
arg_g V nil = nil
arg_g V (cons (var v) hs) = arg_g V hs
arg_g V (cons (node f ts) hs) = join (num_ts V ts) (arg_g (note_ts V ts) hs)

abbrev num_g : List Variable → Written → Terms ℕ
num_g V nil = nil
num_g V (cons (var v) hs) = num_g V hs
num_g V (cons (node f ts) hs) = cons (node f (num_ts V ts)) (num_g (note_ts V ts) hs)

-- the words of heads and goals
first_items : (sig : Signature) (V : List Variable) (f : Name) (c : ℕ) (ws : List Word) → items sig V 0 (word_for f c ∷ ws) ≡ items sig V (c + 0) ws
first_items sig V f zero ws = refl
first_items sig V f (suc c) ws = let z : suc c ≡ suc c + 0 = omega arith in ap (λ k. items sig V k ws) z

first_after : (V : List Variable) (f : Name) (c : ℕ) (ws : List Word) → variables_after V 0 (word_for f c ∷ ws) ≡ variables_after V (c + 0) ws
first_after V f zero ws = refl
first_after V f (suc c) ws = let z : suc c ≡ suc c + 0 = omega arith in ap (λ k. variables_after V k ws) z

first_predicates : (sig : Signature) (f : Name) (c : ℕ) (ws : List Word) → predicates sig 0 (word_for f c ∷ ws) ≡ number_in sig f c ∷ predicates sig (c + 0) ws
first_predicates sig f zero ws = refl
first_predicates sig f (suc c) ws = let z : suc c ≡ suc c + 0 = omega arith in ap (λ k. number_in sig f (suc c) ∷ predicates sig k ws) z

pub goals_items : (sig : Signature) (V : List Variable) (hs : Written) → Callables hs → items sig V 0 (wordss hs []) ≡ item_g sig V hs
goals_items sig V nil h = refl
goals_items sig V (cons (var v) hs) h = absurd h.0
goals_items sig V (cons (node f ts) hs) h =
    first_items sig V f (count ts) (wordss ts (wordss hs [])) ∙ items_terms sig V 0 ts (wordss hs []) ∙ ap (λ l. item_ts sig V ts ++ l) (goals_items sig (note_ts V ts) hs h.1)

pub goals_after : (V : List Variable) (hs : Written) → Callables hs → variables_after V 0 (wordss hs []) ≡ note_g V hs
goals_after V nil h = refl
goals_after V (cons (var v) hs) h = absurd h.0
goals_after V (cons (node f ts) hs) h = first_after V f (count ts) (wordss ts (wordss hs [])) ∙ after_terms V 0 ts (wordss hs []) ∙ goals_after (note_ts V ts) hs h.1

pub goals_predicates : (sig : Signature) (hs : Written) → Callables hs → predicates sig 0 (wordss hs []) ≡ pred_g sig hs
goals_predicates sig nil h = refl
goals_predicates sig (cons (var v) hs) h = absurd h.0
goals_predicates sig (cons (node f ts) hs) h =
    first_predicates sig f (count ts) (wordss ts (wordss hs [])) ∙ ap (λ l. number_in sig f (count ts) ∷ l) (predicates_terms sig 0 ts (wordss hs []) ∙ goals_predicates sig hs h.1)

module _ (sig : Signature) where
  reads_goals : (V : List Variable) (hs : Written) → KnowsTs sig hs → reads sig (item_g sig V hs) ≡ arg_g V hs
  reads_goals V nil k = refl
  reads_goals V (cons (var v) hs) k = reads_goals V hs k.1
  reads_goals V (cons (node f ts) hs) k = reads_terms sig V ts (item_g sig (note_ts V ts) hs) k.0.1 ∙ ap (join (num_ts V ts)) (reads_goals (note_ts V ts) hs k.1)

  heads_goals : (V : List Variable) (hs : Written) → Callables hs → KnowsTs sig hs → heads sig (pred_g sig hs) (arg_g V hs) ≡ num_g V hs
  heads_goals V nil h k = refl
  heads_goals V (cons (var v) hs) h k = absurd h.0
  heads_goals V (cons (node f ts) hs) h k =
      let is = number_is sig f (count ts) k.0.0 in
      let n : arity_at sig (number_in sig f (count ts)) ≡ count (num_ts V ts) = is.1 ∙ sym (count_num V ts) in
      ap₂ (λ g m. cons (node g (front m (join (num_ts V ts) (arg_g (note_ts V ts) hs)))) (heads sig (pred_g sig hs) (back m (join (num_ts V ts) (arg_g (note_ts V ts) hs))))) is.0 n
      ∙ ap₂ (λ a b. cons (node f a) (heads sig (pred_g sig hs) b)) (front_join (num_ts V ts) (arg_g (note_ts V ts) hs)) (back_join (num_ts V ts) (arg_g (note_ts V ts) hs))
      ∙ ap (cons (node f (num_ts V ts))) (heads_goals (note_ts V ts) hs h.1 k.1)

  arities_goals : (V : List Variable) (hs : Written) → Callables hs → KnowsTs sig hs → arities sig (pred_g sig hs) ≡ count (arg_g V hs)
  arities_goals V nil h k = refl
  arities_goals V (cons (var v) hs) h k = absurd h.0
  arities_goals V (cons (node f ts) hs) h k =
      omega (arith, (number_is sig f (count ts) k.0.0).1, count_join (num_ts V ts) (arg_g (note_ts V ts) hs), count_num V ts, arities_goals (note_ts V ts) hs h.1 k.1)

  whole_goals : (V : List Variable) (hs : Written) → KnowsTs sig hs → Whole sig (item_g sig V hs)
  whole_goals V nil k = tt
  whole_goals V (cons (var v) hs) k = whole_goals V hs k.1
  whole_goals V (cons (node f ts) hs) k = whole_terms sig V ts (item_g sig (note_ts V ts) hs) k.0.1 (whole_goals (note_ts V ts) hs k.1)

  sounds_goals : (V : List Variable) (hs : Written) → KnowsTs sig hs → Sounds sig (item_g sig V hs)
  sounds_goals V nil k = tt
  sounds_goals V (cons (var v) hs) k = sounds_goals V hs k.1
  sounds_goals V (cons (node f ts) hs) k = sounds_append sig (item_ts sig V ts) (item_g sig (note_ts V ts) hs) (sounds_terms sig V ts k.0.1) (sounds_goals (note_ts V ts) hs k.1)

  grown_goals : (V : List Variable) (hs : Written) → Apart V → Begins V (note_g V hs) × Apart (note_g V hs)
  grown_goals V nil a = (begins_all V, a)
  grown_goals V (cons (var v) hs) a = grown_goals V hs a
  grown_goals V (cons (node f ts) hs) a =
      let g = grown_terms V ts a in let r = grown_goals (note_ts V ts) hs g.apart in (begins_then g.begins r.0, r.1)

  numbered_goals : (V : List Variable) (hs : Written) (m : ℕ) → Apart V → length (note_g V hs) ≤ m → Numbered m (item_g sig V hs)
  numbered_goals V nil m a h = tt
  numbered_goals V (cons (var v) hs) m a h = numbered_goals V hs m a h
  numbered_goals V (cons (node f ts) hs) m a h =
      let g = grown_terms V ts a in
      numbered_append m (item_ts sig V ts) (item_g sig (note_ts V ts) hs) (numbered_terms sig V ts m a (omega (arith, (grown_goals (note_ts V ts) hs g.apart).0.long))) (numbered_goals (note_ts V ts) hs m g.apart h)

  has_goals : (V : List Variable) (hs : Written) → Apart V → (k : ℕ) → length V ≤ k → k < length (note_g V hs) → Has k (item_g sig V hs)
  has_goals V nil a k lo hi = absurd (omega arith)
  has_goals V (cons (var v) hs) a k lo hi = has_goals V hs a k lo hi
  has_goals V (cons (node f ts) hs) a k lo hi =
      elim (dec_lt k (length (note_ts V ts))) [
        | yes l ↦ has_left k (item_ts sig V ts) (item_g sig (note_ts V ts) hs) (has_terms sig V ts a k lo l)
        | no g ↦ has_right k (item_ts sig V ts) (item_g sig (note_ts V ts) hs) (has_goals (note_ts V ts) hs (grown_terms V ts a).apart k (omega arith) hi)
      ]

  varied_goals : (V : List Variable) (hs : Written) → Apart V → length (note_g V hs) ≤ length V + variables (item_g sig V hs)
  varied_goals V nil a = omega arith
  varied_goals V (cons (var v) hs) a = varied_goals V hs a
  varied_goals V (cons (node f ts) hs) a =
      omega (arith, varied_terms sig V ts a, varied_goals (note_ts V ts) hs (grown_terms V ts a).apart, variables_append (item_ts sig V ts) (item_g sig (note_ts V ts) hs))

  pub weight_goals : (V : List Variable) (hs : Written) → Callables hs → length (pred_g sig hs) + hefts (item_g sig V hs) ≡ load 1 hs
  weight_goals V nil h = omega arith
  weight_goals V (cons (var v) hs) h = absurd h.0
  weight_goals V (cons (node f ts) hs) h =
      omega (arith, hefts_append (item_ts sig V ts) (item_g sig (note_ts V ts) hs), hefts_terms sig V ts, weight_goals (note_ts V ts) hs h.1)

  pub count_goals : (hs : Written) → length (pred_g sig hs) ≡ count hs
  count_goals nil = refl
  count_goals (cons (var v) hs) = ap suc (count_goals hs)
  count_goals (cons (node f ts) hs) = ap suc (count_goals hs)

  called_goals : (hs : Written) → Callables hs → KnowsTs sig hs → (k : ℕ) → k < length (pred_g sig hs) → get_or (pred_g sig hs) k 0 < length sig
  called_goals nil h k i lt = absurd (omega arith)
  called_goals (cons (var v) hs) h k i lt = absurd h.0
  called_goals (cons (node f ts) hs) h k zero lt = k.0.0
  called_goals (cons (node f ts) hs) h k (suc i) lt = called_goals hs h.1 k.1 i (omega arith)

  same_goals : (W : List Variable) (τ : Terming) (τ' : Variable → Term ℕ) → ((k : ℕ) → k < length W → τ k ≡ τ' (at W k)) → (V : List Variable) (hs : Written) → Callables hs → Apart V → Begins (note_g V hs) W
      → evals (num_g V hs) τ ≡ evals (aparts (blanks_in V) hs) τ'
  same_goals W τ τ' same V nil h a b = refl
  same_goals W τ τ' same V (cons (var v) hs) h a b = absurd h.0
  same_goals W τ τ' same V (cons (node f ts) hs) h a b =
      let g = grown_terms V ts a in
      ap₂ (λ x y. cons (node f x) y) (same_terms W τ τ' same V ts a (begins_then (grown_goals (note_ts V ts) hs g.apart).0 b))
      (same_goals W τ τ' same (note_ts V ts) hs h.1 g.apart b ∙ ap (λ k. evals (aparts k hs) τ') g.counts)

  -- a clause whose head is f(ts)
  module _ (f : Name) (ts : Terms Name) (gs : Written) (callable : Callables gs) (known : KnowsTs sig (cons (node f ts) gs)) where
    abbrev V₁ : List Variable
    V₁ = note_ts [] ts

    abbrev W : List Variable
    W = note_g V₁ gs

    abbrev p : ℕ
    p = number_in sig f (count ts)

    abbrev its : List Item
    its = item_ts sig [] ts ++ item_g sig V₁ gs

    start : Apart V₁
    start = (grown_terms [] ts apart_none).apart

    reads_all : reads sig its ≡ join (num_ts [] ts) (arg_g V₁ gs)
    reads_all = reads_goals [] (cons (node f ts) gs) known

    wide : arity_at sig p ≡ count (num_ts [] ts)
    wide = (number_is sig f (count ts) known.0.0).1 ∙ sym (count_num [] ts)

    front_all : front (arity_at sig p) (reads sig its) ≡ num_ts [] ts
    front_all = ap₂ front wide reads_all ∙ front_join (num_ts [] ts) (arg_g V₁ gs)

    heads_all : heads sig (pred_g sig gs) (back (arity_at sig p) (reads sig its)) ≡ num_g V₁ gs
    heads_all = ap (heads sig (pred_g sig gs)) (ap₂ back wide reads_all ∙ back_join (num_ts [] ts) (arg_g V₁ gs)) ∙ heads_goals V₁ gs callable known.1

    pub is_whole : Whole sig its
    is_whole = whole_goals [] (cons (node f ts) gs) known

    pub is_known : Known sig its
    is_known = sounds_known sig its (sounds_goals [] (cons (node f ts) gs) known)

    pub is_numbered : Numbered (length W) its
    is_numbered = numbered_goals [] (cons (node f ts) gs) (length W) apart_none (omega arith)

    pub is_used : Used (length W) its
    is_used = used_by (length W) its (λ k lt. has_goals [] (cons (node f ts) gs) apart_none k (omega arith) lt)

    pub is_varied : length W ≤ variables its
    is_varied = omega (arith, varied_goals [] (cons (node f ts) gs) apart_none)

    pub is_full_lem : arity_at sig p + arities sig (pred_g sig gs) ≡ count (reads sig its)
    is_full_lem = omega (arith, wide, arities_goals V₁ gs callable known.1, ap count reads_all, count_join (num_ts [] ts) (arg_g V₁ gs))

    pub is_called : (k : ℕ) → k < length (pred_g sig gs) → get_or (pred_g sig gs) k 0 < length sig
    is_called = called_goals gs callable known.1

    pub is_weight : weight (pred_g sig gs) its ≡ load 0 (cons (node f ts) gs)
    is_weight = omega (arith, weight_goals V₁ gs callable, hefts_append (item_ts sig [] ts) (item_g sig V₁ gs), hefts_terms sig [] ts)

    -- the same terms, by numbers and by variables
    module _ (τ : Terming) (τ' : Variable → Term ℕ) (same : (k : ℕ) → k < length W → τ k ≡ τ' (at W k)) where
      head_same : evals (front (arity_at sig p) (reads sig its)) τ ≡ evals (aparts 0 ts) τ'
      head_same = ap (λ us. evals us τ) front_all ∙ same_terms W τ τ' same [] ts apart_none (grown_goals V₁ gs start).0

      body_same : evals (heads sig (pred_g sig gs) (back (arity_at sig p) (reads sig its))) τ ≡ evals (aparts (0 + blanks (node f ts)) gs) τ'
      body_same =
          ap (λ us. evals us τ) heads_all ∙ same_goals W τ τ' same V₁ gs callable start (begins_all W)
          ∙ ap (λ k. evals (aparts k gs) τ') (grown_terms [] ts apart_none).counts

    pub denoting : (code : List Instruction) → Carries sig p (pred_g sig gs) its code → Denotes (symbols_of sig) p code (record { head = apart 0 (node f ts); goals = aparts (0 + blanks (node f ts)) gs })
    denoting code c = record {
      named = (number_is sig f (count ts) known.0.0).0;
      into = λ us hs r.
          let m = c.into us hs r in
          let τ : Terming = m.0 in
          let τ' : Variable → Term ℕ = λ x. τ (place W x) in
          let same : (k : ℕ) → k < length W → τ k ≡ τ' (at W k) = λ k h. ap τ (sym (placed W (grown_goals V₁ gs start).1 k h)) in
          (τ', ap (node f) (sym (head_same τ τ' same) ∙ m.1), sym (body_same τ τ' same) ∙ m.2);
      back = λ us hs m.
          let τ' : Variable → Term ℕ = m.0 in
          let τ : Terming = λ k. τ' (at W k) in
          let head : evals (aparts 0 ts) τ' ≡ us = (let e : node f (evals (aparts 0 ts) τ') ≡ node f us = m.1 in cc) in
          c.back us hs (τ, head_same τ τ' (λ k h. refl) ∙ head, body_same τ τ' (λ k h. refl) ∙ m.2);
    }
