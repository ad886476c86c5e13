-- Laws of the code that is left.
use Rattle.std.proofs.Common.{◌≡◌, ℕ, zero, suc, ◌+◌, ◌<◌, ◌≤◌, true, cond, eqb, List, [], ◌∷◌, length, get_or, drop, sym, refl, ap, ◌∙◌, ap₂, inl, inr, arith}
use Rattle.std.proofs.lemmas.Bool.{eq-eqb}
use Rattle.horn.specs.Terms.{Term, var, node, cons}
use Rattle.heap.specs.Solutions.{span}
use Rattle.code.specs.declared.instructions.Operand.{Operand}
use Rattle.code.specs.declared.instructions.Operand.TheVariants.{Fresh, Known, Constant}
use Rattle.code.specs.declared.instructions.Instruction.{Instruction}
use Rattle.code.specs.declared.instructions.Instruction.TheVariants.{Allocate, Get, GetStructure, Unify, Put, PutStructure, Set, Call, Proceed}
use Rattle.code.specs.Meaning.{Symbols, Terming, given, part, parts, update, Says, goals, span as term_span}
use Rattle.entering.specs.Goals.{Names}
use Rattle.entering.specs.Turns.{Takes}
use Rattle.entering.specs.Ready.{In, operand_of, Piece, Pieces, Ready, price, dues, leaves, calls}

-- terms in a row, of code and of cells
pub span_is : (α : Terming) (i n : ℕ) → term_span α i n ≡ span α i n
span_is α i zero = refl
span_is α i (suc n) = ap (cons (α i)) (span_is α (suc i) n)

-- an argument of a structure is a unify or a set instruction
piece_cases : (P : Instruction → Type 0) → ((o : Operand) → P (Unify o)) → ((o : Operand) → P (Set o)) → (w : Instruction) → Piece w → P w
piece_cases P u v (Unify o) p = u o
piece_cases P u v (Set o) p = v o
piece_cases P u v (Allocate k) p = absurd p
piece_cases P u v (Get o a) p = absurd p
piece_cases P u v (GetStructure y f) p = absurd p
piece_cases P u v (Put o a) p = absurd p
piece_cases P u v (PutStructure y f) p = absurd p
piece_cases P u v (Call q) p = absurd p
piece_cases P u v Proceed p = absurd p

piece_part : (s : Symbols) (w : Instruction) (σ : Terming) → Piece w → part s w σ ≡ given s (operand_of w) σ
piece_part s w σ p = piece_cases (λ w. part s w σ ≡ given s (operand_of w) σ) (λ o. refl) (λ o. refl) w p

pub parts_span : (s : Symbols) (σ τ : Terming) (n : ℕ) (code : List Instruction) (i : ℕ) → Pieces n code
    → ((j : ℕ) → j < n → τ (i + j) ≡ given s (operand_of (get_or code j Proceed)) σ) → parts s n code σ ≡ span τ i n
parts_span s σ τ zero code i p h = refl
parts_span s σ τ (suc n) [] i p h = absurd p
parts_span s σ τ (suc n) (w ∷ code) i p h =
    ap₂ cons (piece_part s w σ p.0 ∙ sym (h 0 (omega arith)) ∙ ap τ (omega arith))
    (parts_span s σ τ n code (suc i) p.1 (λ j l. ap τ (omega arith) ∙ h (suc j) (omega arith)))

pub pieces_long : (n : ℕ) (code : List Instruction) → Pieces n code → n ≤ length code
pieces_long zero code p = omega arith
pieces_long (suc n) [] p = absurd p
pieces_long (suc n) (w ∷ code) p = omega (arith, pieces_long n code p.1)

-- the words of a structure say nothing by themselves
module _ (s : Symbols) where
  pub says_drop : (α σ : Terming) (n : ℕ) (code : List Instruction) → Pieces n code → (Says s code α σ → Says s (drop n code) α σ) × (Says s (drop n code) α σ → Says s code α σ)
  says_drop α σ zero code p = ((λ h. h), (λ h. h))
  says_drop α σ (suc n) [] p = absurd p
  says_drop α σ (suc n) (w ∷ code) p =
      let one = piece_cases (λ w. (Says s (w ∷ code) α σ → Says s code α σ) × (Says s code α σ → Says s (w ∷ code) α σ)) (λ o. ((λ h. h), (λ h. h))) (λ o. ((λ h. h), (λ h. h))) w p.0 in
      let r = says_drop α σ n code p.1 in
      ((λ h. r.0 (one.0 h)), (λ h. one.1 (r.1 h)))

  pub says_undrop : (α σ : Terming) (n : ℕ) (code : List Instruction) → Pieces n code → Says s (drop n code) α σ → Says s code α σ
  says_undrop α σ n code p = (says_drop α σ n code p).1

  pub goals_drop : (σ π : Terming) (n : ℕ) (code : List Instruction) → Pieces n code → goals s code σ π ≡ goals s (drop n code) σ π
  goals_drop σ π zero code p = refl
  goals_drop σ π (suc n) [] p = absurd p
  goals_drop σ π (suc n) (w ∷ code) p = piece_cases (λ w. goals s (w ∷ code) σ π ≡ goals s code σ π) (λ o. refl) (λ o. refl) w p.0 ∙ goals_drop σ π n code p.1

-- what is left after them
module _ (table : List ℕ) (n m r : ℕ) (A : List ℕ) where
  piece_ready : (w : Instruction) (code : List Instruction) → Piece w → Ready table n m r A (w ∷ code) → Takes table m (operand_of w) × Ready table n m r A code
  piece_ready w code p h = piece_cases (λ w. Ready table n m r A (w ∷ code) → Takes table m (operand_of w) × Ready table n m r A code) (λ o h. h) (λ o h. h) w p h

  pub ready_drop : (c : ℕ) (code : List Instruction) → Pieces c code → Ready table n m r A code → Ready table n m r A (drop c code)
  ready_drop zero code p h = h
  ready_drop (suc c) [] p h = absurd p
  ready_drop (suc c) (w ∷ code) p h = ready_drop c code p.1 (piece_ready w code p.0 h).1

  pub ready_takes : (c : ℕ) (code : List Instruction) → Pieces c code → Ready table n m r A code → (j : ℕ) → j < c → Takes table m (operand_of (get_or code j Proceed))
  ready_takes zero code p h j l = absurd (omega arith)
  ready_takes (suc c) [] p h j l = absurd p
  ready_takes (suc c) (w ∷ code) p h zero l = (piece_ready w code p.0 h).0
  ready_takes (suc c) (w ∷ code) p h (suc j) l = ready_takes c code p.1 (piece_ready w code p.0 h).1 j (omega arith)

-- more slots do no harm
takes_more : (table : List ℕ) (m m' : ℕ) → m ≤ m' → (o : Operand) → Takes table m o → Takes table m' o
takes_more table m m' le (Fresh y) t = omega arith
takes_more table m m' le (Known y) t = omega arith
takes_more table m m' le (Constant c) t = t

pub ready_more : (table : List ℕ) (n m m' r : ℕ) → m ≤ m' → (A : List ℕ) (code : List Instruction) → Ready table n m r A code → Ready table n m' r A code
ready_more table n m m' r le A [] h = tt
ready_more table n m m' r le A (Get o a ∷ code) h = (h.0, h.1, takes_more table m m' le o h.2, ready_more table n m m' r le A code h.3)
ready_more table n m m' r le A (GetStructure y f ∷ code) h = (omega (arith, h.0), h.1, h.2, ready_more table n m m' r le A code h.3)
ready_more table n m m' r le A (PutStructure y f ∷ code) h = (omega (arith, h.0), h.1, h.2, ready_more table n m m' r le A code h.3)
ready_more table n m m' r le A (Unify o ∷ code) h = (takes_more table m m' le o h.0, ready_more table n m m' r le A code h.1)
ready_more table n m m' r le A (Set o ∷ code) h = (takes_more table m m' le o h.0, ready_more table n m m' r le A code h.1)
ready_more table n m m' r le A (Put o a ∷ code) h = (h.0, takes_more table m m' le o h.1, ready_more table n m m' r le (a ∷ A) code h.2)
ready_more table n m m' r le A (Call p ∷ code) h = (h.0, h.1, h.2, h.3, ready_more table n m m' r le [] code h.4)
ready_more table n m m' r le A (Allocate k ∷ code) h = ready_more table n m m' r le A code h
ready_more table n m m' r le A (Proceed ∷ code) h = ready_more table n m m' r le A code h

pub dues_drop : (c : ℕ) (code : List Instruction) → Pieces c code → (dues code ≡ c + dues (drop c code)) × (calls code ≡ calls (drop c code))
dues_drop zero code p = (omega arith, refl)
dues_drop (suc c) [] p = absurd p
dues_drop (suc c) (w ∷ code) p =
    let e = piece_cases (λ w. (price w ≡ 1) × (leaves w ≡ 0)) (λ o. (refl, refl)) (λ o. (refl, refl)) w p.0 in
    let r = dues_drop c code p.1 in
    (omega (arith, e.0, r.0), omega (arith, e.1, r.1))

-- arguments that agree leave the same goals
update_agree : (π π' : Terming) (a b : ℕ) (t : Term ℕ) → π b ≡ π' b → update π a t b ≡ update π' a t b
update_agree π π' a b t e = ap (λ z. cond (eqb b a) t z) e

update_in : (π π' : Terming) (a : ℕ) (A : List ℕ) (t : Term ℕ) → ((b : ℕ) → In b A → π b ≡ π' b) → (b : ℕ) → In b (a ∷ A) → update π a t b ≡ update π' a t b
update_in π π' a A t h b (inl e) =
    let q : eqb b a ≡ true = eq-eqb b a e in
    ap (λ z. cond z t (π b)) q ∙ sym (ap (λ z. cond z t (π' b)) q)
update_in π π' a A t h b (inr i) = update_agree π π' a b t (h b i)

term_ext : (π π' : Terming) (i n : ℕ) → ((b : ℕ) → i ≤ b → b < i + n → π b ≡ π' b) → term_span π i n ≡ term_span π' i n
term_ext π π' i zero h = refl
term_ext π π' i (suc n) h = ap₂ cons (h i (omega arith) (omega arith)) (term_ext π π' (suc i) n (λ b lo hi. h b (omega arith) (omega arith)))

module _ (s : Symbols) (table : List ℕ) (names : Names s table) (n m r : ℕ) (σ : Terming) where
  pub goals_agree : (code : List Instruction) (A : List ℕ) (π π' : Terming) → Ready table n m r A code → ((b : ℕ) → In b A → π b ≡ π' b) → goals s code σ π ≡ goals s code σ π'
  goals_agree [] A π π' h e = refl
  goals_agree (Get o a ∷ code) A π π' h e = goals_agree code A π π' h.3 e
  goals_agree (GetStructure y f ∷ code) A π π' h e = goals_agree code A π π' h.3 e
  goals_agree (PutStructure y f ∷ code) A π π' h e = goals_agree code A π π' h.3 e
  goals_agree (Unify o ∷ code) A π π' h e = goals_agree code A π π' h.1 e
  goals_agree (Set o ∷ code) A π π' h e = goals_agree code A π π' h.1 e
  goals_agree (Put o a ∷ code) A π π' h e = goals_agree code (a ∷ A) (update π a (given s o σ)) (update π' a (given s o σ)) h.2 (update_in π π' a A (given s o σ) e)
  goals_agree (Call p ∷ code) A π π' h e =
      ap (λ ts. cons (node (s.name p) ts) (goals s code σ var)) (term_ext π π' 1 (s.arity p) (λ b lo hi. e b (h.3 b lo (omega (arith, names.arity p)))))
  goals_agree (Allocate k ∷ code) A π π' h e = goals_agree code A π π' h e
  goals_agree (Proceed ∷ code) A π π' h e = goals_agree code A π π' h e

-- or which are the same
pub goals_same : (s : Symbols) (σ : Terming) (code : List Instruction) (π π' : Terming) → ((b : ℕ) → π b ≡ π' b) → goals s code σ π ≡ goals s code σ π'
goals_same s σ [] π π' e = refl
goals_same s σ (Get o a ∷ code) π π' e = goals_same s σ code π π' e
goals_same s σ (GetStructure y f ∷ code) π π' e = goals_same s σ code π π' e
goals_same s σ (PutStructure y f ∷ code) π π' e = goals_same s σ code π π' e
goals_same s σ (Unify o ∷ code) π π' e = goals_same s σ code π π' e
goals_same s σ (Set o ∷ code) π π' e = goals_same s σ code π π' e
goals_same s σ (Put o a ∷ code) π π' e = goals_same s σ code (update π a (given s o σ)) (update π' a (given s o σ)) (λ b. update_agree π π' a b (given s o σ) (e b))
goals_same s σ (Call p ∷ code) π π' e = ap (λ ts. cons (node (s.name p) ts) (goals s code σ var)) (term_ext π π' 1 (s.arity p) (λ b lo hi. e b))
goals_same s σ (Allocate k ∷ code) π π' e = goals_same s σ code π π' e
goals_same s σ (Proceed ∷ code) π π' e = goals_same s σ code π π' e
