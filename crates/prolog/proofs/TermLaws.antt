-- One text after another, for each token of a term.
use Rattle.std.proofs.Common.{◌≡◌, ℕ, cond, OnOk, Ok, Err, Result, ◌+◌, ◌<◌, ◌≤◌, List, [], ◌∷◌, ◌++◌, length, sym, ap, ◌∙◌, arith}
use Rattle.std.specs.Result.{is_ok}
use Rattle.std.proofs.lemmas.List.{append_assoc, append-nil}
use Rattle.horn.specs.Terms.{var, node, nil, cons, count}
use Rattle.horn.specs.Clauses.{Written}
use Rattle.horn.specs.Notation.{Word, name, structure, variable, wordss}
use Rattle.prolog.specs.Prolog.{atom, term, others, listed}
use Rattle.prolog.specs.Puts.{TermPut, ListPut}

-- no word is left, so there is no term
pub put_none : (ws rest : List Word) (o : List ℕ) → ws ≡ [] → TermPut ws rest o o
put_none ws rest o e (var v) us h = let z : ◌≡◌ {A = ℕ} 0 1 = cc in absurd (omega arith)
put_none ws rest o e (node f ts) us h = let z : ◌≡◌ {A = ℕ} 0 1 = cc in absurd (omega arith)

pub put_variable_lem : (ws rest : List Word) (o0 o1 v : List ℕ) → ws ≡ variable v ∷ rest → o1 ≡ o0 ++ v → TermPut ws rest o0 o1
put_variable_lem ws rest o0 o1 v e p (var w) us h = let q : v ≡ w = cc in let r : rest ≡ us = cc in (p ∙ ap (λ x. o0 ++ x) q, r)
put_variable_lem ws rest o0 o1 v e p (node f nil) us h = let z : ◌≡◌ {A = ℕ} 0 1 = cc in absurd (omega arith)
put_variable_lem ws rest o0 o1 v e p (node f (cons t ts)) us h = let z : ◌≡◌ {A = ℕ} 0 1 = cc in absurd (omega arith)

pub put_name_lem : (ws rest : List Word) (o0 o1 f : List ℕ) → ws ≡ name f ∷ rest → o1 ≡ o0 ++ atom f → TermPut ws rest o0 o1
put_name_lem ws rest o0 o1 f e p (var w) us h = let z : ◌≡◌ {A = ℕ} 0 1 = cc in absurd (omega arith)
put_name_lem ws rest o0 o1 f e p (node g nil) us h =
    let q : f ≡ g = cc in
    let r : rest ≡ us = cc in
    (p ∙ ap (λ x. o0 ++ atom x) q ∙ ap (λ x. o0 ++ x) (sym (append-nil (atom g))), r)
put_name_lem ws rest o0 o1 f e p (node g (cons t ts)) us h = let z : ◌≡◌ {A = ℕ} 0 1 = cc in absurd (omega arith)

pub put_variable_end : (ws rest : List Word) (o0 o1 v : List ℕ) {T E : Type 0} (r : Result T E) → ws ≡ variable v ∷ rest → o1 ≡ cond (is_ok r) (o0 ++ v) o0 → OnOk r (TermPut ws rest o0 o1)
put_variable_end ws rest o0 o1 v (Ok x) e p = put_variable_lem ws rest o0 o1 v e p
put_variable_end ws rest o0 o1 v (Err x) e p = tt

pub put_no_terms : (n : ℕ) (ws : List Word) (o : List ℕ) → n ≡ 0 → ListPut n ws ws o o
put_no_terms n ws o z nil us size q = (sym (append-nil o), q)
put_no_terms n ws o z (cons t ts) us size q = absurd (omega arith)

-- a name, and its arguments in parentheses
module _ (ws r0 r1 : List Word) (o0 o1 o2 o3 o4 f : List ℕ) (n : ℕ)
    (is : ws ≡ structure f n ∷ r0) (named : o1 ≡ o0 ++ atom f) (opened : o2 ≡ o1 ++ 40 ∷ [])
    (all : ListPut n r0 r1 o2 o3) (closed : o4 ≡ o3 ++ 41 ∷ []) where
  pub put_structure_lem : TermPut ws r1 o0 o4
  put_structure_lem (var w) us h = let z : ◌≡◌ {A = ℕ} 0 1 = cc in absurd (omega arith)
  put_structure_lem (node g nil) us h = let z : ◌≡◌ {A = ℕ} 0 1 = cc in absurd (omega arith)
  put_structure_lem (node g (cons t ts)) us h =
      let q : f ≡ g = cc in
      let size : n ≡ count (cons t ts) = cc in
      let tokens : r0 ≡ wordss (cons t ts) us = cc in
      let list = all (cons t ts) us size tokens in
      let same : (((o0 ++ atom g) ++ 40 ∷ []) ++ (term t ++ others ts)) ++ 41 ∷ [] ≡ o0 ++ (atom g ++ 40 ∷ (term t ++ (others ts ++ 41 ∷ []))) = simp append_assoc in (
        closed ∙ ap (λ o. o ++ 41 ∷ []) (list.0 ∙ ap (λ o. o ++ listed (cons t ts)) (opened ∙ ap (λ o. o ++ 40 ∷ []) (named ∙ ap (λ x. o0 ++ atom x) q))) ∙ same,
        list.1,
      )

-- i of n terms are there, where the words began as ws and the text as o
pub record Going (n : ℕ) (ws : List Word) (o : List ℕ) (i : ℕ) (rest : List Word) (out : List ℕ) : Type 0 where
  pub fewer : length rest ≤ length ws
  pub left : (ts : Written) (us : List Word) → n ≡ count ts → ws ≡ wordss ts us → (vs : Written) × (i + count vs ≡ n) × (rest ≡ wordss vs us) × (out ++ others vs ≡ o ++ listed ts)

pub going_start : (n : ℕ) (ws rest : List Word) (o out : List ℕ) → (n ≡ 0 → ⊥) → TermPut ws rest o out → length rest ≤ length ws → Going n ws o 1 rest out
going_start n ws rest o out some put short = record { fewer = short; left = go }
  where
    go : (ts : Written) (us : List Word) → n ≡ count ts → ws ≡ wordss ts us → (vs : Written) × (1 + count vs ≡ n) × (rest ≡ wordss vs us) × (out ++ others vs ≡ o ++ listed ts)
    go nil us size q = absurd (some size)
    go (cons t ts) us size q =
        let one = put t (wordss ts us) q in
        (ts, omega (arith, size), one.1, ap (λ x. x ++ others ts) one.0 ∙ append_assoc o (term t) (others ts))

module _ (n : ℕ) (ws : List Word) (o : List ℕ) (i : ℕ) (rest : List Word) (out : List ℕ) (g : Going n ws o i rest out) where
  pub going_more : (rest' : List Word) (out₁ out' : List ℕ) → i < n → out₁ ≡ out ++ 44 ∷ 32 ∷ [] → TermPut rest rest' out₁ out' → length rest' ≤ length rest → Going n ws o (i + 1) rest' out'
  going_more rest' out₁ out' lt comma put short = record { fewer = omega (arith, g.fewer); left = λ ts us e q. go ts us (g.left ts us e q).0 (g.left ts us e q).1 (g.left ts us e q).2 (g.left ts us e q).3 }
    where
      go : (ts : Written) (us : List Word) (vs : Written) → i + count vs ≡ n → rest ≡ wordss vs us → out ++ others vs ≡ o ++ listed ts
          → (vs : Written) × (i + 1 + count vs ≡ n) × (rest' ≡ wordss vs us) × (out' ++ others vs ≡ o ++ listed ts)
      go ts us nil size q text = absurd (omega arith)
      go ts us (cons v vs) size q text =
          let one = put v (wordss vs us) q in
          let same : ((out ++ 44 ∷ 32 ∷ []) ++ term v) ++ others vs ≡ out ++ 44 ∷ 32 ∷ (term v ++ others vs) = simp append_assoc in
          (vs, omega (arith, size), one.1, ap (λ x. x ++ others vs) (one.0 ∙ ap (λ x. x ++ term v) comma) ∙ same ∙ text)

  pub going_end : n ≤ i → ListPut n ws rest o out
  going_end le ts us e q = go (g.left ts us e q).0 (g.left ts us e q).1 (g.left ts us e q).2 (g.left ts us e q).3
    where
      go : (vs : Written) → i + count vs ≡ n → rest ≡ wordss vs us → out ++ others vs ≡ o ++ listed ts → (out ≡ o ++ listed ts) × (rest ≡ us)
      go nil size r text = (sym (append-nil out) ∙ text, r)
      go (cons v vs) size r text = absurd (omega arith)
