-- The line written from left to right is the answer line.
use Rattle.std.proofs.Common.{◌≡◌, ℕ, suc, Bool, true, false, cond, eqb, List, [], ◌∷◌, ◌++◌, map, decimal, sym, refl, ap, ◌∙◌, subst, ap₂}
use lib.ListN.{length-map}
use Rattle.std.specs.List.{AllByRecursion}
use Rattle.std.proofs.ByRecursion.{All-map, All-weaker}
use Rattle.std.proofs.lemmas.List.{append_assoc, append-nil}
use Rattle.std.proofs.lemmas.Bool.{cond-true, eq-eqb}
use Rattle.horn.specs.Terms.{Name, Term, Terms, var, node, nil, cons, count, eval, evals}
use Rattle.horn.specs.Clauses.{named, Query}
use Rattle.horn.specs.Notation.{Word, field, word_for, words, wordss, tails}
use Rattle.horn.specs.Answers.{Values, note, place, through, throughs, values_of, unbound, label, label_in, shown, line_of, answer_line}
use Rattle.horn.proofs.TermLaws.{count_evals}
use Rattle.horn.proofs.Lines.{line_map}
use Rattle.heap.specs.Heaps.{Heap, Sound}
use Rattle.heap.specs.Solutions.{Naming, Valuation}
use Rattle.heap.proofs.Denotes.{stands, stands_sol, stands_general, stands_free}
use Rattle.answers.specs.declared.variable.Variable.{Variable}
use Rattle.answers.specs.Frames.{Stands}
use Rattle.answers.specs.Shows.{Shows, name_of}
use Rattle.answers.specs.Streams.{told, told_all, written, writtens}

-- a place once given stays
place_note : (v : ℕ) (us r : List ℕ) → place eqb v (note eqb v us ++ r) ≡ place eqb v us
place_note v [] r = cond-true (eqb v v) _ _ (eq-eqb v v refl)
place_note v (u ∷ us) r = go (place_note v us r) (eqb u v)
  where
    go : place eqb v (note eqb v us ++ r) ≡ place eqb v us → (t : Bool) → cond t 0 (suc (place eqb v (cond t us (note eqb v us) ++ r))) ≡ cond t 0 (suc (place eqb v us))
    go ih true = refl
    go ih false = ap suc ih

abbrev Grown : List ℕ → List ℕ → Type 0
Grown us ws = (r : List ℕ) × (ws ≡ us ++ r)

grown_refl : (us : List ℕ) → Grown us us
grown_refl us = ([], sym (append-nil us))

grown_trans : (us vs ws : List ℕ) → Grown us vs → Grown vs ws → Grown us ws
grown_trans us vs ws p q = (p.0 ++ q.0, q.1 ∙ ap (λ z. z ++ q.0) p.1 ∙ append_assoc us p.0 q.0)

note_grown : (v : ℕ) (us : List ℕ) → Grown us (note eqb v us)
note_grown v [] = (v ∷ [], refl)
note_grown v (u ∷ us) = go (note_grown v us) (eqb u v)
  where
    go : Grown us (note eqb v us) → (t : Bool) → Grown (u ∷ us) (u ∷ cond t us (note eqb v us))
    go ih true = grown_refl (u ∷ us)
    go ih false = (ih.0, ap (λ (z : List ℕ). u ∷ z) ih.1)

mutual
  through_grown : (t : Term ℕ) (us : List ℕ) → Grown us (through (note eqb) t us)
  through_grown (var v) us = note_grown v us
  through_grown (node f ts) us = throughs_grown ts us

  throughs_grown : (ts : Terms ℕ) (us : List ℕ) → Grown us (throughs (note eqb) ts us)
  throughs_grown nil us = grown_refl us
  throughs_grown (cons t ts) us = grown_trans us (through (note eqb) t us) (throughs (note eqb) ts (through (note eqb) t us)) (through_grown t us) (throughs_grown ts (through (note eqb) t us))

-- with the numbers that the whole line gives
module _ (ws : List ℕ) where
  abbrev names : ℕ → Term Name
  names x = var (label_in ws x)

  mutual
    written_is : (t : Term ℕ) (us : List ℕ) (W : List Word) → Grown (through (note eqb) t us) ws → written t us ++ tails (map field W) ≡ tails (map field (words (eval t names) W))
    written_is (var v) us W g = ap (λ n. 44 ∷ (label n ++ tails (map field W))) (sym (place_note v us g.0) ∙ ap (place eqb v) (sym g.1))
    written_is (node f ts) us W g =
        append_assoc (44 ∷ field (word_for f (count ts))) (writtens ts us) (tails (map field W))
        ∙ ap₂ (λ (n : ℕ) (z : List ℕ). 44 ∷ (field (word_for f n) ++ z)) (sym (count_evals ts names)) (writtens_is ts us W g)

    writtens_is : (ts : Terms ℕ) (us : List ℕ) (W : List Word) → Grown (throughs (note eqb) ts us) ws → writtens ts us ++ tails (map field W) ≡ tails (map field (wordss (evals ts names) W))
    writtens_is nil us W g = refl
    writtens_is (cons t ts) us W g =
        let vs = through (note eqb) t us in
        append_assoc (written t us) (writtens ts vs) (tails (map field W))
        ∙ ap (λ z. written t us ++ z) (writtens_is ts vs W g)
        ∙ written_is t us (wordss (evals ts names) W) (grown_trans vs (throughs (note eqb) ts vs) ws (throughs_grown ts vs) g)

  module _ (line : List ℕ) (ρ : Valuation) (θ : Values) where
    told_is : (vs : List Variable) (us : List ℕ) → AllByRecursion (λ v. θ (named (name_of line v)) ≡ ρ v.cell) vs → Grown (throughs (note eqb) (values_of θ (map (name_of line) vs)) us) ws
        → told line ρ vs us ≡ tails (map field (wordss (shown (label_in ws) θ (map (name_of line) vs)) []))
    told_is [] us h g = refl
    told_is (v ∷ vs) us h g =
        let name = name_of line v in
        let t = ρ v.cell in
        let us' = through (note eqb) t us in
        let W = wordss (shown (label_in ws) θ (map (name_of line) vs)) [] in
        let ts = values_of θ (map (name_of line) vs) in
        let g' : Grown (throughs (note eqb) ts us') ws = subst (λ x. Grown (throughs (note eqb) ts (through (note eqb) x us)) ws) h.0 g in
        append_assoc (44 ∷ name) (written t us) (told line ρ vs us')
        ∙ ap (λ z. (44 ∷ name) ++ z)
        (ap (λ z. written t us ++ z) (told_is vs us' h.1 g')
        ∙ written_is t us W (grown_trans us' (throughs (note eqb) ts us') ws (throughs_grown ts us') g')
        ∙ ap (λ x. tails (map field (words (eval x names) W))) (sym h.0))

line_is : (line : List ℕ) (ρ : Valuation) (θ : Values) (vs : List Variable) → AllByRecursion (λ v. θ (named (name_of line v)) ≡ ρ v.cell) vs → told_all line ρ vs ≡ line_of θ (map (name_of line) vs)
line_is line ρ θ vs h =
    let ns = map (name_of line) vs in
    let us = unbound (values_of θ ns) in
    ap₂ (λ (n : ℕ) (z : List ℕ). 65 ∷ 44 ∷ (decimal n ++ z)) (sym (length-map vs (name_of line))) (told_is us line ρ θ vs [] h (grown_refl us))

-- the solution that gives each unbound cell itself
pub stands_so : (names : Naming) (H : Heap) (s : Sound H) → Stands names H (stands names H s)
stands_so names H s = record { solves = stands_sol names H s; free = stands_free names H s }

-- it has the line of every most general solution
pub shows_line : (names : Naming) (H : Heap) (s : Sound H) (line : List ℕ) (vs : List Variable) (q : Query) (θ : Values) → Shows names H line vs q θ
    → told_all line (stands names H s) vs ≡ answer_line q θ
shows_line names H s line vs q θ sh =
    let ρ = stands names H s in
    let σ = sh.σ in
    let there : (i : ℕ) → ρ i ≡ eval (σ i) ρ = sh.general.general ρ (stands_sol names H s) in
    let back : (i : ℕ) → σ i ≡ eval (ρ i) σ = stands_general names H s σ sh.general.solves in
    let P : Variable → Type 0 = λ v. θ (named (name_of line v)) ≡ σ v.cell in
    line_is line ρ (λ v. eval (θ v) ρ) vs (All-weaker P _ (λ v e. ap (λ t. eval t ρ) e ∙ sym (there v.cell)) vs sh.valued)
    ∙ sym (line_map ρ σ θ (λ v. eval (θ v) ρ) (map (name_of line) vs)
    (All-map _ (name_of line) vs (All-weaker P _ (λ v e. (refl, ap (λ t. eval (eval t ρ) σ) e ∙ ap (λ t. eval t σ) (sym (there v.cell)) ∙ sym (back v.cell) ∙ sym e)) vs sh.valued)))
    ∙ ap (line_of θ) sh.called
