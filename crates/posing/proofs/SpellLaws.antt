-- The words of a query's terms stand for them.
use Rattle.std.proofs.Common.{◌≡◌, ℕ, suc, ◌+◌, ◌<◌, ◌≤◌, List, ◌∷◌, length, get_or, sym, refl, ap, ◌∙◌, ap₂, arith}
use Rattle.horn.specs.Terms.{Name, Term, Terms, var, node, nil, cons, count, join, front, back, eval, evals}
use Rattle.horn.specs.Clauses.{Variable, blank, Query, Callables}
use Rattle.horn.specs.Weights.{weigh, weighs as weigh_terms, load, own}
use Rattle.horn.proofs.JoinLaws.{front_join, back_join}
use Rattle.code.specs.Meaning.{Symbols, Terming}
use Rattle.posing.specs.declared.pieces.Piece.{Piece}
use Rattle.posing.specs.Queries.{stack, goals_of, waits, weighs, Fit}
use Rattle.posing.specs.Spelling.{Numbers, headed, pieces, piecess, query_pieces, Right, Rights, QuerySpelled}
use Rattle.posing.proofs.StoredLaws.{values_span}

evals_count : (ts : Terms Variable) (τ : Variable → Term ℕ) → count (evals ts τ) ≡ count ts
evals_count nil τ = refl
evals_count (cons t ts) τ = ap suc (evals_count ts τ)

front_of : (n : ℕ) (ts us : Terms ℕ) → count ts ≡ n → front n (join ts us) ≡ ts
front_of n ts us e = ap (λ k. front k (join ts us)) (sym e) ∙ front_join ts us

back_of : (n : ℕ) (ts us : Terms ℕ) → count ts ≡ n → back n (join ts us) ≡ us
back_of n ts us e = ap (λ k. back k (join ts us)) (sym e) ∙ back_join ts us

module _ (s : Symbols) (table : List ℕ) (vs : List Variable) (n : Numbers) where
  -- what the words of terms put on the stack
  module _ (σ : Terming) (τ : Variable → Term ℕ) (same : (v : Variable) → n.slot v < length vs → get_or vs (n.slot v) (blank 0) ≡ v → σ (n.slot v) ≡ τ v) where
    headed_stack : (f : Name) (ts : Terms Variable) (ps : List Piece) → s.name (n.symbol f (count ts)) ≡ f → stack s σ (piecess n ts ps) ≡ join (evals ts τ) (stack s σ ps)
        → stack s σ (headed n f ts ∷ piecess n ts ps) ≡ cons (node f (evals ts τ)) (stack s σ ps)
    headed_stack f nil ps e h = ap₂ (λ (x : Name) (us : Terms ℕ). cons (node x nil) us) e h
    headed_stack f (cons t ts) ps e h =
        let k = evals_count (cons t ts) τ in
        let all = evals (cons t ts) τ in
        ap₂ (λ (x : Name) (us : Terms ℕ). cons (node x (front (count (cons t ts)) us)) (back (count (cons t ts)) us)) e h
        ∙ ap₂ (λ (xs us : Terms ℕ). cons (node f xs) us) (front_of (count (cons t ts)) all (stack s σ ps) k) (back_of (count (cons t ts)) all (stack s σ ps) k)

    mutual
      pieces_stack : (t : Term Variable) (ps : List Piece) → Right s table vs n t → stack s σ (pieces n t ps) ≡ cons (eval t τ) (stack s σ ps)
      pieces_stack (var v) ps h = ap (λ x. cons x (stack s σ ps)) (same v h.0 h.1)
      pieces_stack (node f ts) ps h = headed_stack f ts ps h.0 (piecess_stack ts ps h.3)

      piecess_stack : (ts : Terms Variable) (ps : List Piece) → Rights s table vs n ts → stack s σ (piecess n ts ps) ≡ join (evals ts τ) (stack s σ ps)
      piecess_stack nil ps h = refl
      piecess_stack (cons t ts) ps h = pieces_stack t (piecess n ts ps) h.0 ∙ ap (cons (eval t τ)) (piecess_stack ts ps h.1)

    headed_goals : (f : Name) (ts : Terms Variable) (ps : List Piece) → goals_of s σ (headed n f ts ∷ ps) ≡ goals_of s σ ps
    headed_goals f nil ps = refl
    headed_goals f (cons t ts) ps = refl

    mutual
      pieces_goals : (t : Term Variable) (ps : List Piece) → goals_of s σ (pieces n t ps) ≡ goals_of s σ ps
      pieces_goals (var v) ps = refl
      pieces_goals (node f ts) ps = headed_goals f ts (piecess n ts ps) ∙ piecess_goals ts ps

      piecess_goals : (ts : Terms Variable) (ps : List Piece) → goals_of s σ (piecess n ts ps) ≡ goals_of s σ ps
      piecess_goals nil ps = refl
      piecess_goals (cons t ts) ps = pieces_goals t (piecess n ts ps) ∙ piecess_goals ts ps

    query_stack : (q : Query) → Callables q → Rights s table vs n q → (stack s σ (query_pieces n q) ≡ nil) × (goals_of s σ (query_pieces n q) ≡ evals q τ)
    query_stack nil c h = (refl, refl)
    query_stack (cons (var v) q) c h = absurd c.0
    query_stack (cons (node f ts) q) c h =
        let r = query_stack q c.1 h.1 in
        let k = evals_count ts τ in
        let rows = piecess_stack ts (query_pieces n q) h.0.3 in (
          ap (back (count ts)) rows ∙ back_of (count ts) (evals ts τ) (stack s σ (query_pieces n q)) k ∙ r.0,
          ap₂ cons (ap₂ node h.0.0 (ap (front (count ts)) rows ∙ front_of (count ts) (evals ts τ) (stack s σ (query_pieces n q)) k)) (piecess_goals ts (query_pieces n q) ∙ r.1),
        )

  -- they fit, and weigh what the terms do
  headed_fit : (f : Name) (ts : Terms Variable) (ps : List Piece) (k : ℕ) → n.symbol f (count ts) < length table → get_or table (n.symbol f (count ts)) 0 ≡ count ts
      → Fit table (length vs) ps → waits ps ≡ count ts + k → Fit table (length vs) (headed n f ts ∷ ps) × (waits (headed n f ts ∷ ps) ≡ 1 + k)
  headed_fit f nil ps k known size h e = ((known, size, h), omega arith)
  headed_fit f (cons t ts) ps k known size h e = ((known, size, omega arith, h), omega arith)

  headed_weigh : (f : Name) (ts : Terms Variable) (ps : List Piece) → weighs (headed n f ts ∷ ps) ≡ own ts + weighs ps
  headed_weigh f nil ps = refl
  headed_weigh f (cons t ts) ps = refl

  mutual
    pieces_fit : (t : Term Variable) (ps : List Piece) → Right s table vs n t → Fit table (length vs) ps → Fit table (length vs) (pieces n t ps) × (waits (pieces n t ps) ≡ 1 + waits ps) × (weighs (pieces n t ps) ≡ weigh t + weighs ps)
    pieces_fit (var v) ps h fit = ((h.0, fit), refl, refl)
    pieces_fit (node f ts) ps h fit =
        let r = piecess_fit ts ps h.3 fit in
        let w = headed_fit f ts (piecess n ts ps) (waits ps) h.1 h.2 r.0 r.1 in
        (w.0, w.1, omega (arith, headed_weigh f ts (piecess n ts ps), r.2))

    piecess_fit : (ts : Terms Variable) (ps : List Piece) → Rights s table vs n ts → Fit table (length vs) ps → Fit table (length vs) (piecess n ts ps) × (waits (piecess n ts ps) ≡ count ts + waits ps) × (weighs (piecess n ts ps) ≡ weigh_terms ts + weighs ps)
    piecess_fit nil ps h fit = (fit, omega arith, omega arith)
    piecess_fit (cons t ts) ps h fit =
        let r = piecess_fit ts ps h.1 fit in
        let w = pieces_fit t (piecess n ts ps) h.0 r.0 in
        (w.0, omega (arith, w.1, r.1), omega (arith, w.2, r.2))

  query_fit : (q : Query) → Callables q → Rights s table vs n q → Fit table (length vs) (query_pieces n q) × (waits (query_pieces n q) ≡ 0) × (weighs (query_pieces n q) ≤ load 1 q)
  query_fit nil c h = (tt, refl, omega arith)
  query_fit (cons (var v) q) c h = absurd c.0
  query_fit (cons (node f ts) q) c h =
      let r = query_fit q c.1 h.1 in
      let w = piecess_fit ts (query_pieces n q) h.0.3 r.0 in
      ((h.0.1, h.0.2, omega (arith, w.1), w.0), omega (arith, w.1, r.1), omega (arith, w.2, r.2))

pub query_spelled : QuerySpelled
query_spelled s table vs n q c h own_numbers =
    let f = query_fit s table vs n q c h in
    record {
      fit = f.0;
      whole = f.1;
      light = f.2;
      spells = record {
        into = λ σ.
            let τ : Variable → Term ℕ = λ v. σ (n.slot v) in
            (τ, values_span τ σ vs 0 (λ y l. ap σ (own_numbers y l ∙ zero_plus y)), sym (query_stack s table vs n σ τ (λ v lt e. refl) q c h).1);
        back = λ τ. (query_stack s table vs n (λ y. τ (get_or vs y (blank 0))) τ (λ v lt e. ap τ e) q c h).1;
      };
    }
  where
    zero_plus : (y : ℕ) → y ≡ 0 + y
    zero_plus y = omega arith
