-- The items of terms.
use Rattle.std.proofs.Common.{◌≡◌, ℕ, zero, suc, ◌+◌, ◌<◌, ◌≤◌, ◌⊎◌, List, [], ◌∷◌, ◌++◌, length, get_or, sym, refl, ap, ◌∙◌, subst, ap₂, inl, inr, append_assoc, arith}
use native.Mathlib.Decide.{dec_lt}
use Rattle.horn.specs.Terms.{Name, Term, Terms, var, node, nil, cons, count, front, back, join, eval, evals}
use Rattle.horn.specs.Clauses.{Variable, blanks, blankss, apart, aparts}
use Rattle.horn.specs.Weights.{own, weigh, weighs}
use Rattle.horn.specs.Notation.{Word, word_for, words, wordss}
use Rattle.horn.proofs.JoinLaws.{front_join, back_join}
use Rattle.code.specs.Meaning.{Terming}
use Rattle.symbol_table.specs.Symbols.{Signature, arity_at}
use Rattle.symbol_table.specs.Numbers.{number_in, Knows, Covers, blanks_in, number_of, noted, variables_after}
use Rattle.compiler.specs.Flatten.{items, predicates}
use Rattle.compiler.specs.Reading.{reads, Whole, heft, hefts}
use Rattle.compiler.specs.Lines.{Numbered, Sound, Known, Used, variables}
use Rattle.symbol_table.proofs.NumberLaws.{number_is, at, Apart, Begins, begins_all, begins_then, noting}
use Rattle.compiler.specs.declared.items.Item.{Item}
use Rattle.compiler.specs.declared.items.Item.TheVariants.{Atom, Structure, Variable as Var}

-- the variables after a term
abbrev mutual
  pub note_t : List Variable → Term Name → List Variable
  note_t V (var v) = noted V v
  note_t V (node f ts) = note_ts V ts

  pub note_ts : List Variable → Terms Name → List Variable
  note_ts V nil = V
  note_ts V (cons t ts) = note_ts (note_t V t) ts

abbrev pub head_item : Signature → Name → ℕ → Item
head_item sig f zero = Atom (number_in sig f 0)
head_item sig f (suc n) = Structure (number_in sig f (suc n))

-- its items, and the term with its variables numbered
abbrev mutual
  pub item_t : Signature → List Variable → Term Name → List Item
  item_t sig V (var v) = Var (number_of V v) ∷ []
  item_t sig V (node f ts) = head_item sig f (count ts) ∷ item_ts sig V ts

  pub item_ts : Signature → List Variable → Terms Name → List Item
  item_ts sig V nil = []
  item_ts sig V (cons t ts) = item_t sig V t ++ item_ts sig (note_t V t) ts

abbrev mutual
  pub num_t : List Variable → Term Name → Term ℕ
  num_t V (var v) = var (number_of V v)
  num_t V (node f ts) = node f (num_ts V ts)

  pub num_ts : List Variable → Terms Name → Terms ℕ
  num_ts V nil = nil
  num_ts V (cons t ts) = cons (num_t V t) (num_ts (note_t V t) ts)

pub count_num : (V : List Variable) (ts : Terms Name) → count (num_ts V ts) ≡ count ts
count_num V nil = refl
count_num V (cons t ts) = ap suc (count_num (note_t V t) ts)

-- words of a term, one after another
node_items : (sig : Signature) (V : List Variable) (f : Name) (c n : ℕ) (ws : List Word) → items sig V (suc n) (word_for f c ∷ ws) ≡ head_item sig f c ∷ items sig V (c + n) ws
node_items sig V f zero n ws = refl
node_items sig V f (suc c) n ws = refl

mutual
  items_term : (sig : Signature) (V : List Variable) (n : ℕ) (t : Term Name) (ws : List Word) → items sig V (suc n) (words t ws) ≡ item_t sig V t ++ items sig (note_t V t) n ws
  items_term sig V n (var v) ws = let z : 0 + n ≡ n = omega arith in ap (λ k. Var (number_of V v) ∷ items sig (noted V v) k ws) z
  items_term sig V n (node f ts) ws = node_items sig V f (count ts) n (wordss ts ws) ∙ ap (λ l. head_item sig f (count ts) ∷ l) (items_terms sig V n ts ws)

  pub items_terms : (sig : Signature) (V : List Variable) (n : ℕ) (ts : Terms Name) (ws : List Word) → items sig V (count ts + n) (wordss ts ws) ≡ item_ts sig V ts ++ items sig (note_ts V ts) n ws
  items_terms sig V n nil ws = let z : 0 + n ≡ n = omega arith in ap (λ k. items sig V k ws) z
  items_terms sig V n (cons t ts) ws =
      let z : suc (count ts) + n ≡ suc (count ts + n) = omega arith in
      ap (λ k. items sig V k (words t (wordss ts ws))) z ∙ items_term sig V (count ts + n) t (wordss ts ws)
      ∙ ap (λ l. item_t sig V t ++ l) (items_terms sig (note_t V t) n ts ws) ∙ sym (append_assoc (item_t sig V t) (item_ts sig (note_t V t) ts) (items sig (note_ts (note_t V t) ts) n ws))

node_after : (V : List Variable) (f : Name) (c n : ℕ) (ws : List Word) → variables_after V (suc n) (word_for f c ∷ ws) ≡ variables_after V (c + n) ws
node_after V f zero n ws = refl
node_after V f (suc c) n ws = refl

mutual
  after_term : (V : List Variable) (n : ℕ) (t : Term Name) (ws : List Word) → variables_after V (suc n) (words t ws) ≡ variables_after (note_t V t) n ws
  after_term V n (var v) ws = let z : 0 + n ≡ n = omega arith in ap (λ k. variables_after (noted V v) k ws) z
  after_term V n (node f ts) ws = node_after V f (count ts) n (wordss ts ws) ∙ after_terms V n ts ws

  pub after_terms : (V : List Variable) (n : ℕ) (ts : Terms Name) (ws : List Word) → variables_after V (count ts + n) (wordss ts ws) ≡ variables_after (note_ts V ts) n ws
  after_terms V n nil ws = let z : 0 + n ≡ n = omega arith in ap (λ k. variables_after V k ws) z
  after_terms V n (cons t ts) ws =
      let z : suc (count ts) + n ≡ suc (count ts + n) = omega arith in
      ap (λ k. variables_after V k (words t (wordss ts ws))) z ∙ after_term V (count ts + n) t (wordss ts ws) ∙ after_terms (note_t V t) n ts ws

node_predicates : (sig : Signature) (f : Name) (c n : ℕ) (ws : List Word) → predicates sig (suc n) (word_for f c ∷ ws) ≡ predicates sig (c + n) ws
node_predicates sig f zero n ws = refl
node_predicates sig f (suc c) n ws = refl

mutual
  predicates_term : (sig : Signature) (n : ℕ) (t : Term Name) (ws : List Word) → predicates sig (suc n) (words t ws) ≡ predicates sig n ws
  predicates_term sig n (var v) ws = let z : 0 + n ≡ n = omega arith in ap (λ k. predicates sig k ws) z
  predicates_term sig n (node f ts) ws = node_predicates sig f (count ts) n (wordss ts ws) ∙ predicates_terms sig n ts ws

  pub predicates_terms : (sig : Signature) (n : ℕ) (ts : Terms Name) (ws : List Word) → predicates sig (count ts + n) (wordss ts ws) ≡ predicates sig n ws
  predicates_terms sig n nil ws = let z : 0 + n ≡ n = omega arith in ap (λ k. predicates sig k ws) z
  predicates_terms sig n (cons t ts) ws =
      let z : suc (count ts) + n ≡ suc (count ts + n) = omega arith in
      ap (λ k. predicates sig k (words t (wordss ts ws))) z ∙ predicates_term sig (count ts + n) t (wordss ts ws) ∙ predicates_terms sig n ts ws

-- symbols that are known
abbrev mutual
  pub KnowsT : Signature → Term Name → Type 0
  KnowsT sig (var v) = Unit {0}
  KnowsT sig (node f ts) = (number_in sig f (count ts) < length sig) × KnowsTs sig ts

  pub KnowsTs : Signature → Terms Name → Type 0
  KnowsTs sig nil = Unit {0}
  KnowsTs sig (cons t ts) = KnowsT sig t × KnowsTs sig ts

knows_for : (sig : Signature) (f : Name) (c : ℕ) → Knows sig (word_for f c) → number_in sig f c < length sig
knows_for sig f zero h = h
knows_for sig f (suc c) h = h

mutual
  covers_term : (sig : Signature) (t : Term Name) (ws : List Word) → Covers sig (words t ws) → KnowsT sig t × Covers sig ws
  covers_term sig (var v) ws h = (tt, h.1)
  covers_term sig (node f ts) ws h = let r = covers_terms sig ts ws h.1 in ((knows_for sig f (count ts) h.0, r.0), r.1)

  pub covers_terms : (sig : Signature) (ts : Terms Name) (ws : List Word) → Covers sig (wordss ts ws) → KnowsTs sig ts × Covers sig ws
  covers_terms sig nil ws h = (tt, h)
  covers_terms sig (cons t ts) ws h = let a = covers_term sig t (wordss ts ws) h in let b = covers_terms sig ts ws a.1 in ((a.0, b.0), b.1)

-- reading the items gives the numbered terms
reads_node : (sig : Signature) (V : List Variable) (f : Name) (ts : Terms Name) (rest : List Item) → number_in sig f (count ts) < length sig → reads sig (item_ts sig V ts ++ rest) ≡ join (num_ts V ts) (reads sig rest)
    → reads sig (head_item sig f (count ts) ∷ (item_ts sig V ts ++ rest)) ≡ cons (node f (num_ts V ts)) (reads sig rest)
reads_node sig V f nil rest h ih = ap (λ g. cons (node g nil) (reads sig rest)) (number_is sig f 0 h).0
reads_node sig V f (cons t ts) rest h ih =
    let k = number_in sig f (suc (count ts)) in
    let is = number_is sig f (suc (count ts)) h in
    let n : arity_at sig k ≡ count (num_ts V (cons t ts)) = is.1 ∙ sym (count_num V (cons t ts)) in
    ap₂ (λ g m. cons (node g (front m (reads sig (item_ts sig V (cons t ts) ++ rest)))) (back m (reads sig (item_ts sig V (cons t ts) ++ rest)))) is.0 n
    ∙ ap (λ l. cons (node f (front (count (num_ts V (cons t ts))) l)) (back (count (num_ts V (cons t ts))) l)) ih
    ∙ ap₂ (λ a b. cons (node f a) b) (front_join (num_ts V (cons t ts)) (reads sig rest)) (back_join (num_ts V (cons t ts)) (reads sig rest))

mutual
  reads_term : (sig : Signature) (V : List Variable) (t : Term Name) (rest : List Item) → KnowsT sig t → reads sig (item_t sig V t ++ rest) ≡ cons (num_t V t) (reads sig rest)
  reads_term sig V (var v) rest h = refl
  reads_term sig V (node f ts) rest h = reads_node sig V f ts rest h.0 (reads_terms sig V ts rest h.1)

  pub reads_terms : (sig : Signature) (V : List Variable) (ts : Terms Name) (rest : List Item) → KnowsTs sig ts → reads sig (item_ts sig V ts ++ rest) ≡ join (num_ts V ts) (reads sig rest)
  reads_terms sig V nil rest h = refl
  reads_terms sig V (cons t ts) rest h =
      ap (reads sig) (append_assoc (item_t sig V t) (item_ts sig (note_t V t) ts) rest) ∙ reads_term sig V t (item_ts sig (note_t V t) ts ++ rest) h.0
      ∙ ap (cons (num_t V t)) (reads_terms sig (note_t V t) ts rest h.1)

pub count_join : (a b : Terms ℕ) → count (join a b) ≡ count a + count b
count_join nil b = omega arith
count_join (cons t a) b = ap suc (count_join a b) ∙ omega arith

-- no structure lacks a term
whole_node : (sig : Signature) (V : List Variable) (f : Name) (ts : Terms Name) (rest : List Item) → number_in sig f (count ts) < length sig → KnowsTs sig ts → Whole sig (item_ts sig V ts ++ rest)
    → Whole sig (head_item sig f (count ts) ∷ (item_ts sig V ts ++ rest))
whole_node sig V f nil rest h k w = w
whole_node sig V f (cons t ts) rest h k w =
    (omega (arith, (number_is sig f (suc (count ts)) h).1, ap count (reads_terms sig V (cons t ts) rest k), count_join (num_ts V (cons t ts)) (reads sig rest), count_num V (cons t ts)), w)

mutual
  whole_term : (sig : Signature) (V : List Variable) (t : Term Name) (rest : List Item) → KnowsT sig t → Whole sig rest → Whole sig (item_t sig V t ++ rest)
  whole_term sig V (var v) rest h w = w
  whole_term sig V (node f ts) rest h w = whole_node sig V f ts rest h.0 h.1 (whole_terms sig V ts rest h.1 w)

  pub whole_terms : (sig : Signature) (V : List Variable) (ts : Terms Name) (rest : List Item) → KnowsTs sig ts → Whole sig rest → Whole sig (item_ts sig V ts ++ rest)
  whole_terms sig V nil rest h w = w
  whole_terms sig V (cons t ts) rest h w =
      subst (Whole sig) (sym (append_assoc (item_t sig V t) (item_ts sig (note_t V t) ts) rest)) (whole_term sig V t (item_ts sig (note_t V t) ts ++ rest) h.0 (whole_terms sig (note_t V t) ts rest h.1 w))

-- each symbol is known
abbrev pub Sounds : Signature → List Item → Type 0
Sounds sig [] = Unit {0}
Sounds sig (k ∷ ks) = Sound sig k × Sounds sig ks

pub sounds_known : (sig : Signature) (ks : List Item) → Sounds sig ks → Known sig ks
sounds_known sig [] h i lt = absurd (omega arith)
sounds_known sig (k ∷ ks) h zero lt = h.0
sounds_known sig (k ∷ ks) h (suc i) lt = sounds_known sig ks h.1 i (omega arith)

pub sounds_append : (sig : Signature) (a b : List Item) → Sounds sig a → Sounds sig b → Sounds sig (a ++ b)
sounds_append sig [] b p q = q
sounds_append sig (k ∷ a) b p q = (p.0, sounds_append sig a b p.1 q)

sound_head : (sig : Signature) (f : Name) (c : ℕ) → number_in sig f c < length sig → Sound sig (head_item sig f c)
sound_head sig f zero h = (h, (number_is sig f 0 h).1)
sound_head sig f (suc c) h = (h, omega (arith, (number_is sig f (suc c) h).1))

mutual
  sounds_term : (sig : Signature) (V : List Variable) (t : Term Name) → KnowsT sig t → Sounds sig (item_t sig V t)
  sounds_term sig V (var v) h = (tt, tt)
  sounds_term sig V (node f ts) h = (sound_head sig f (count ts) h.0, sounds_terms sig V ts h.1)

  pub sounds_terms : (sig : Signature) (V : List Variable) (ts : Terms Name) → KnowsTs sig ts → Sounds sig (item_ts sig V ts)
  sounds_terms sig V nil h = tt
  sounds_terms sig V (cons t ts) h = sounds_append sig (item_t sig V t) (item_ts sig (note_t V t) ts) (sounds_term sig V t h.0) (sounds_terms sig (note_t V t) ts h.1)

-- what noting the variables of a term does
pub record Grown (V W : List Variable) (n : ℕ) : Type 0 where
  pub begins : Begins V W
  pub apart : Apart W
  pub counts : blanks_in W ≡ blanks_in V + n

grown_then : {U V W : List Variable} {m n l : ℕ} → Grown U V m → Grown V W n → m + n ≡ l → Grown U W l
grown_then p q e = record { begins = begins_then p.begins q.begins; apart = q.apart; counts = omega (arith, p.counts, q.counts) }

mutual
  pub grown_term : (V : List Variable) (t : Term Name) → Apart V → Grown V (note_t V t) (blanks t)
  grown_term V (var v) a = let n = noting V v a in record { begins = n.begins; apart = n.apart; counts = n.counts }
  grown_term V (node f ts) a = grown_terms V ts a

  pub grown_terms : (V : List Variable) (ts : Terms Name) → Apart V → Grown V (note_ts V ts) (blankss ts)
  grown_terms V nil a = record { begins = begins_all V; apart = a; counts = omega arith }
  grown_terms V (cons t ts) a = let g = grown_term V t a in grown_then g (grown_terms (note_t V t) ts g.apart) refl

-- the numbered terms, where each number's term is its variable's
module _ (W : List Variable) (τ : Terming) (τ' : Variable → Term ℕ) (same : (k : ℕ) → k < length W → τ k ≡ τ' (at W k)) where
  mutual
    same_term : (V : List Variable) (t : Term Name) → Apart V → Begins (note_t V t) W → eval (num_t V t) τ ≡ eval (apart (blanks_in V) t) τ'
    same_term V (var v) a b =
        let n = noting V v a in
        same (number_of V v) (omega (arith, n.within, b.long)) ∙ ap τ' (b.same (number_of V v) n.within ∙ n.is)
    same_term V (node f ts) a b = ap (node f) (same_terms V ts a b)

    pub same_terms : (V : List Variable) (ts : Terms Name) → Apart V → Begins (note_ts V ts) W → evals (num_ts V ts) τ ≡ evals (aparts (blanks_in V) ts) τ'
    same_terms V nil a b = refl
    same_terms V (cons t ts) a b =
        let g = grown_term V t a in
        let h = grown_terms (note_t V t) ts g.apart in
        ap₂ cons (same_term V t a (begins_then h.begins b))
        (same_terms (note_t V t) ts g.apart b ∙ ap (λ k. evals (aparts k ts) τ') g.counts)

-- numbers below m
pub numbered_append : (m : ℕ) (a b : List Item) → Numbered m a → Numbered m b → Numbered m (a ++ b)
numbered_append m [] b p q = q
numbered_append m (Atom c ∷ a) b p q = numbered_append m a b p q
numbered_append m (Structure f ∷ a) b p q = numbered_append m a b p q
numbered_append m (Var v ∷ a) b p q = (p.0, numbered_append m a b p.1 q)

numbered_head : (m : ℕ) (sig : Signature) (f : Name) (c : ℕ) (ks : List Item) → Numbered m ks → Numbered m (head_item sig f c ∷ ks)
numbered_head m sig f zero ks h = h
numbered_head m sig f (suc c) ks h = h

mutual
  numbered_term : (sig : Signature) (V : List Variable) (t : Term Name) (m : ℕ) → Apart V → length (note_t V t) ≤ m → Numbered m (item_t sig V t)
  numbered_term sig V (var v) m a h = (let n = noting V v a in omega (arith, n.within), tt)
  numbered_term sig V (node f ts) m a h = numbered_head m sig f (count ts) (item_ts sig V ts) (numbered_terms sig V ts m a h)

  pub numbered_terms : (sig : Signature) (V : List Variable) (ts : Terms Name) (m : ℕ) → Apart V → length (note_ts V ts) ≤ m → Numbered m (item_ts sig V ts)
  numbered_terms sig V nil m a h = tt
  numbered_terms sig V (cons t ts) m a h =
      let g = grown_term V t a in
      numbered_append m (item_t sig V t) (item_ts sig (note_t V t) ts)
      (numbered_term sig V t m a (omega (arith, (grown_terms (note_t V t) ts g.apart).begins.long))) (numbered_terms sig (note_t V t) ts m g.apart h)

-- each number is used
abbrev pub Has : ℕ → List Item → Type 0
Has k [] = ⊥
Has k (Atom c ∷ ks) = Has k ks
Has k (Structure f ∷ ks) = Has k ks
Has k (Var v ∷ ks) = (k ≡ v) ⊎ Has k ks

pub has_left : (k : ℕ) (a b : List Item) → Has k a → Has k (a ++ b)
has_left k [] b h = absurd h
has_left k (Atom c ∷ a) b h = has_left k a b h
has_left k (Structure f ∷ a) b h = has_left k a b h
has_left k (Var v ∷ a) b (inl q) = inl q
has_left k (Var v ∷ a) b (inr h) = inr (has_left k a b h)

pub has_right : (k : ℕ) (a b : List Item) → Has k b → Has k (a ++ b)
has_right k [] b h = h
has_right k (Atom c ∷ a) b h = has_right k a b h
has_right k (Structure f ∷ a) b h = has_right k a b h
has_right k (Var v ∷ a) b h = inr (has_right k a b h)

has_head : (k : ℕ) (sig : Signature) (f : Name) (c : ℕ) (ks : List Item) → Has k ks → Has k (head_item sig f c ∷ ks)
has_head k sig f zero ks h = h
has_head k sig f (suc c) ks h = h

has_at : (k : ℕ) (ks : List Item) → Has k ks → (i : ℕ) × (i < length ks) × (get_or ks i (Atom 0) ≡ Var k)
has_at k [] h = absurd h
has_at k (Atom c ∷ ks) h = let r = has_at k ks h in (suc r.0, omega (arith, r.1), r.2)
has_at k (Structure f ∷ ks) h = let r = has_at k ks h in (suc r.0, omega (arith, r.1), r.2)
has_at k (Var v ∷ ks) (inl q) = (0, omega arith, ap Var (sym q))
has_at k (Var v ∷ ks) (inr h) = let r = has_at k ks h in (suc r.0, omega (arith, r.1), r.2)

pub used_by : (n : ℕ) (ks : List Item) → ((k : ℕ) → k < n → Has k ks) → Used n ks
used_by n ks h = λ k lt. has_at k ks (h k lt)

mutual
  has_term : (sig : Signature) (V : List Variable) (t : Term Name) → Apart V → (k : ℕ) → length V ≤ k → k < length (note_t V t) → Has k (item_t sig V t)
  has_term sig V (var v) a k lo hi =
      let n = noting V v a in
      elim n.more [ inl q ↦ absurd (omega arith) | inr q ↦ inl (omega (arith, n.grows)) ]
  has_term sig V (node f ts) a k lo hi = has_head k sig f (count ts) (item_ts sig V ts) (has_terms sig V ts a k lo hi)

  pub has_terms : (sig : Signature) (V : List Variable) (ts : Terms Name) → Apart V → (k : ℕ) → length V ≤ k → k < length (note_ts V ts) → Has k (item_ts sig V ts)
  has_terms sig V nil a k lo hi = absurd (omega arith)
  has_terms sig V (cons t ts) a k lo hi =
      elim (dec_lt k (length (note_t V t))) [
        | yes l ↦ has_left k (item_t sig V t) (item_ts sig (note_t V t) ts) (has_term sig V t a k lo l)
        | no g ↦ has_right k (item_t sig V t) (item_ts sig (note_t V t) ts) (has_terms sig (note_t V t) ts (grown_term V t a).apart k (omega arith) hi)
      ]

-- no more variables than places
pub variables_append : (a b : List Item) → variables (a ++ b) ≡ variables a + variables b
variables_append [] b = omega arith
variables_append (Atom c ∷ a) b = variables_append a b
variables_append (Structure f ∷ a) b = variables_append a b
variables_append (Var v ∷ a) b = ap suc (variables_append a b) ∙ omega arith

variables_head : (sig : Signature) (f : Name) (c : ℕ) (ks : List Item) → variables (head_item sig f c ∷ ks) ≡ variables ks
variables_head sig f zero ks = refl
variables_head sig f (suc c) ks = refl

mutual
  varied_term : (sig : Signature) (V : List Variable) (t : Term Name) → Apart V → length (note_t V t) ≤ length V + variables (item_t sig V t)
  varied_term sig V (var v) a = (noting V v a).grows
  varied_term sig V (node f ts) a = omega (arith, varied_terms sig V ts a, variables_head sig f (count ts) (item_ts sig V ts))

  pub varied_terms : (sig : Signature) (V : List Variable) (ts : Terms Name) → Apart V → length (note_ts V ts) ≤ length V + variables (item_ts sig V ts)
  varied_terms sig V nil a = omega arith
  varied_terms sig V (cons t ts) a =
      omega (arith, varied_term sig V t a, varied_terms sig (note_t V t) ts (grown_term V t a).apart, variables_append (item_t sig V t) (item_ts sig (note_t V t) ts))

-- weights
pub hefts_append : (a b : List Item) → hefts (a ++ b) ≡ hefts a + hefts b
hefts_append [] b = omega arith
hefts_append (k ∷ a) b = ap (λ n. heft k + n) (hefts_append a b) ∙ omega arith

heft_head : (sig : Signature) (f : Name) (ts : Terms Name) → heft (head_item sig f (count ts)) ≡ own ts
heft_head sig f nil = refl
heft_head sig f (cons t ts) = refl

mutual
  hefts_term : (sig : Signature) (V : List Variable) (t : Term Name) → hefts (item_t sig V t) ≡ weigh t
  hefts_term sig V (var v) = refl
  hefts_term sig V (node f ts) = ap₂ ◌+◌ (heft_head sig f ts) (hefts_terms sig V ts)

  pub hefts_terms : (sig : Signature) (V : List Variable) (ts : Terms Name) → hefts (item_ts sig V ts) ≡ weighs ts
  hefts_terms sig V nil = refl
  hefts_terms sig V (cons t ts) = hefts_append (item_t sig V t) (item_ts sig (note_t V t) ts) ∙ ap₂ ◌+◌ (hefts_term sig V t) (hefts_terms sig (note_t V t) ts)
