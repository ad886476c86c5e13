-- V4 as a pass.
use Rattle.std.proofs.Common.{◌≡◌, ℕ, suc, ◌-◌, Bool, true, false, cond, not, ◌&&◌, ◌||◌, eqb, List, [], ◌∷◌, Some, None, sym, refl, ap, ◌∙◌, ap₂, arith}
use Rattle.std.proofs.Math.Bool.{and-true}
use Rattle.std.proofs.lemmas.Bool.{eqb-true, eqb-false, eq-eqb, ne_eqb, and_right}
use Rattle.code.specs.declared.instructions.Operand.TheVariants.{Fresh, Known, Constant}
use Rattle.code.specs.declared.instructions.Instruction.{Instruction}
use Rattle.code.specs.declared.instructions.Instruction.TheVariants.{Allocate, Get, GetStructure, Unify, Put, PutStructure, Set, Call, Proceed}
use Rattle.code.specs.declared.structures.Due.{Due}
use Rattle.code.specs.Tests.{run, along}
use Rattle.code.specs.Instructions.{within}
use Rattle.code.specs.Rules.{unifies, builds, v4}
use Rattle.code.specs.Passes.{onward, walk, due, nothing_due, due_after, due_step}

abbrev pub done : Due → Bool
done s = nothing_due s

abbrev after : List ℕ → Instruction → List Instruction → Bool
after arities w ws = (within 6 8 w || eqb (run (within 6 8) ws) (unifies arities w)) && (within 13 15 w || eqb (run (within 13 15) ws) (builds arities w))

pub eqb_swap : (a b : ℕ) → eqb a b ≡ eqb b a
eqb_swap a b = go (eqb b a) refl
  where
    go : (t : Bool) → eqb b a ≡ t → eqb a b ≡ t
    go true e = let q = eqb-true b a e in eq-eqb a b (omega arith)
    go false e = ne_eqb a b (λ q. eqb-false b a e (sym q))

eqb_down : (a b : ℕ) → eqb b 0 ≡ false → eqb (suc a) b ≡ eqb a (b - 1)
eqb_down a b h = go (eqb a (b - 1)) refl
  where
    ne : b ≡ 0 → ⊥
    ne = eqb-false b 0 h

    go : (t : Bool) → eqb a (b - 1) ≡ t → eqb (suc a) b ≡ t
    go true e = let q = eqb-true a (b - 1) e in let n : (b ≡ 0 → ⊥) = ne in eq-eqb (suc a) b (omega arith)
    go false e = ne_eqb (suc a) b (λ q. eqb-false a (b - 1) e (omega arith))

turn₁ : (x y v : Bool) → ((x && y) && v) ≡ ((x && true) && (y && v))
turn₁ true y v = refl
turn₁ false y v = refl

turn₂ : (x y v : Bool) → ((y && x) && v) ≡ (x && ((y && true) && v))
turn₂ true true v = refl
turn₂ false true v = refl
turn₂ true false v = refl
turn₂ false false v = refl

module _ (u p r q : ℕ) (v : Bool) (k : Due → Bool) where
  unify_turn : k (due (u - 1) 0) ≡ ((eqb r (u - 1) && eqb q 0) && v)
      → onward (cond (eqb u 0 || not (eqb p 0)) None (Some (due (u - 1) 0))) k ≡ ((eqb (suc r) u && eqb 0 p) && (eqb q 0 && v))
  unify_turn ih = go (eqb u 0) (eqb p 0) refl refl
    where
      go : (t z : Bool) → eqb u 0 ≡ t → eqb p 0 ≡ z → onward (cond (t || not z) None (Some (due (u - 1) 0))) k ≡ ((eqb (suc r) u && eqb 0 p) && (eqb q 0 && v))
      go true z e f =
          let b = eqb-true u 0 e in
          ap (λ x. (x && eqb 0 p) && (eqb q 0 && v)) (sym (ne_eqb (suc r) u (λ h. omega arith)))
      go false false e f =
          sym (ap (λ x. x && (eqb q 0 && v)) (and_right (eqb (suc r) u) (eqb 0 p) (eqb_swap 0 p ∙ f)))
      go false true e f =
          ih ∙ turn₁ (eqb r (u - 1)) (eqb q 0) v
          ∙ ap₂ (λ x y. (x && y) && (eqb q 0 && v)) (sym (eqb_down r u e)) (sym (eqb_swap 0 p ∙ f))

  set_turn : k (due 0 (p - 1)) ≡ ((eqb r 0 && eqb q (p - 1)) && v)
      → onward (cond (eqb p 0 || not (eqb u 0)) None (Some (due 0 (p - 1)))) k ≡ ((eqb 0 u && eqb (suc q) p) && ((eqb r 0 && true) && v))
  set_turn ih = go (eqb p 0) (eqb u 0) refl refl
    where
      go : (t z : Bool) → eqb p 0 ≡ t → eqb u 0 ≡ z → onward (cond (t || not z) None (Some (due 0 (p - 1)))) k ≡ ((eqb 0 u && eqb (suc q) p) && ((eqb r 0 && true) && v))
      go true z e f =
          let b = eqb-true p 0 e in
          sym (ap (λ x. x && ((eqb r 0 && true) && v)) (and_right (eqb 0 u) (eqb (suc q) p) (ne_eqb (suc q) p (λ h. omega arith))))
      go false false e f =
          ap (λ x. (x && eqb (suc q) p) && ((eqb r 0 && true) && v)) (sym (eqb_swap 0 u ∙ f))
      go false true e f =
          ih ∙ turn₂ (eqb q (p - 1)) (eqb r 0) v
          ∙ ap₂ (λ x y. (x && y) && ((eqb r 0 && true) && v)) (sym (eqb_swap 0 u ∙ f)) (sym (eqb_down q p e))

  other_turn : (a b : ℕ) → k (due a b) ≡ ((eqb r a && eqb q b) && v)
      → onward (cond (not (eqb u 0) || not (eqb p 0)) None (Some (due a b))) k ≡ ((eqb 0 u && eqb 0 p) && ((eqb r a && eqb q b) && v))
  other_turn a b ih = go (eqb u 0) (eqb p 0) refl refl
    where
      go : (t z : Bool) → eqb u 0 ≡ t → eqb p 0 ≡ z → onward (cond (not t || not z) None (Some (due a b))) k ≡ ((eqb 0 u && eqb 0 p) && ((eqb r a && eqb q b) && v))
      go false z e f = ap (λ x. (x && eqb 0 p) && ((eqb r a && eqb q b) && v)) (sym (eqb_swap 0 u ∙ e))
      go true false e f = sym (ap (λ x. x && ((eqb r a && eqb q b) && v)) (and_right (eqb 0 u) (eqb 0 p) (eqb_swap 0 p ∙ f)))
      go true true e f = ih ∙ ap₂ (λ x y. (x && y) && ((eqb r a && eqb q b) && v)) (sym (eqb_swap 0 u ∙ e)) (sym (eqb_swap 0 p ∙ f))

module _ (arities : List ℕ) where
  pub dues : (ws : List Instruction) (s : Due) → walk (due_step arities) done s ws ≡ ((eqb (run (within 6 8) ws) s.unify && eqb (run (within 13 15) ws) s.set) && along (after arities) ws)
  dues [] s = ap₂ (λ x y. x && y) (eqb_swap s.unify 0) (eqb_swap s.set 0) ∙ sym (and-true (eqb 0 s.unify && eqb 0 s.set))
  dues (Allocate n ∷ ws) s = other_turn s.unify s.set (run (within 6 8) ws) (run (within 13 15) ws) (along (after arities) ws) (λ t. walk (due_step arities) done t ws) (unifies arities (Allocate n)) (builds arities (Allocate n)) (dues ws (due_after arities (Allocate n)))
  dues (GetStructure y f ∷ ws) s = other_turn s.unify s.set (run (within 6 8) ws) (run (within 13 15) ws) (along (after arities) ws) (λ t. walk (due_step arities) done t ws) (unifies arities (GetStructure y f)) (builds arities (GetStructure y f)) (dues ws (due_after arities (GetStructure y f)))
  dues (PutStructure y f ∷ ws) s = other_turn s.unify s.set (run (within 6 8) ws) (run (within 13 15) ws) (along (after arities) ws) (λ t. walk (due_step arities) done t ws) (unifies arities (PutStructure y f)) (builds arities (PutStructure y f)) (dues ws (due_after arities (PutStructure y f)))
  dues (Call p ∷ ws) s = other_turn s.unify s.set (run (within 6 8) ws) (run (within 13 15) ws) (along (after arities) ws) (λ t. walk (due_step arities) done t ws) (unifies arities (Call p)) (builds arities (Call p)) (dues ws (due_after arities (Call p)))
  dues (Proceed ∷ ws) s = other_turn s.unify s.set (run (within 6 8) ws) (run (within 13 15) ws) (along (after arities) ws) (λ t. walk (due_step arities) done t ws) (unifies arities (Proceed)) (builds arities (Proceed)) (dues ws (due_after arities (Proceed)))
  dues (Get (Fresh y) a ∷ ws) s = other_turn s.unify s.set (run (within 6 8) ws) (run (within 13 15) ws) (along (after arities) ws) (λ t. walk (due_step arities) done t ws) (unifies arities (Get (Fresh y) a)) (builds arities (Get (Fresh y) a)) (dues ws (due_after arities (Get (Fresh y) a)))
  dues (Get (Known y) a ∷ ws) s = other_turn s.unify s.set (run (within 6 8) ws) (run (within 13 15) ws) (along (after arities) ws) (λ t. walk (due_step arities) done t ws) (unifies arities (Get (Known y) a)) (builds arities (Get (Known y) a)) (dues ws (due_after arities (Get (Known y) a)))
  dues (Get (Constant y) a ∷ ws) s = other_turn s.unify s.set (run (within 6 8) ws) (run (within 13 15) ws) (along (after arities) ws) (λ t. walk (due_step arities) done t ws) (unifies arities (Get (Constant y) a)) (builds arities (Get (Constant y) a)) (dues ws (due_after arities (Get (Constant y) a)))
  dues (Unify (Fresh y) ∷ ws) s = unify_turn s.unify s.set (run (within 6 8) ws) (run (within 13 15) ws) (along (after arities) ws) (λ t. walk (due_step arities) done t ws) (dues ws (due (s.unify - 1) 0))
  dues (Unify (Known y) ∷ ws) s = unify_turn s.unify s.set (run (within 6 8) ws) (run (within 13 15) ws) (along (after arities) ws) (λ t. walk (due_step arities) done t ws) (dues ws (due (s.unify - 1) 0))
  dues (Unify (Constant y) ∷ ws) s = unify_turn s.unify s.set (run (within 6 8) ws) (run (within 13 15) ws) (along (after arities) ws) (λ t. walk (due_step arities) done t ws) (dues ws (due (s.unify - 1) 0))
  dues (Put (Fresh y) a ∷ ws) s = other_turn s.unify s.set (run (within 6 8) ws) (run (within 13 15) ws) (along (after arities) ws) (λ t. walk (due_step arities) done t ws) (unifies arities (Put (Fresh y) a)) (builds arities (Put (Fresh y) a)) (dues ws (due_after arities (Put (Fresh y) a)))
  dues (Put (Known y) a ∷ ws) s = other_turn s.unify s.set (run (within 6 8) ws) (run (within 13 15) ws) (along (after arities) ws) (λ t. walk (due_step arities) done t ws) (unifies arities (Put (Known y) a)) (builds arities (Put (Known y) a)) (dues ws (due_after arities (Put (Known y) a)))
  dues (Put (Constant y) a ∷ ws) s = other_turn s.unify s.set (run (within 6 8) ws) (run (within 13 15) ws) (along (after arities) ws) (λ t. walk (due_step arities) done t ws) (unifies arities (Put (Constant y) a)) (builds arities (Put (Constant y) a)) (dues ws (due_after arities (Put (Constant y) a)))
  dues (Set (Fresh y) ∷ ws) s = set_turn s.unify s.set (run (within 6 8) ws) (run (within 13 15) ws) (along (after arities) ws) (λ t. walk (due_step arities) done t ws) (dues ws (due 0 (s.set - 1)))
  dues (Set (Known y) ∷ ws) s = set_turn s.unify s.set (run (within 6 8) ws) (run (within 13 15) ws) (along (after arities) ws) (λ t. walk (due_step arities) done t ws) (dues ws (due 0 (s.set - 1)))
  dues (Set (Constant y) ∷ ws) s = set_turn s.unify s.set (run (within 6 8) ws) (run (within 13 15) ws) (along (after arities) ws) (λ t. walk (due_step arities) done t ws) (dues ws (due 0 (s.set - 1)))

  pub dues_are : (ws : List Instruction) → walk (due_step arities) done (due 0 0) ws ≡ v4 arities ws
  dues_are ws = dues ws (due 0 0)
