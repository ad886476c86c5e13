-- The worked case of a loop: each path of ones passes and has a goal left, up to the limits.
use Rattle.std.proofs.Common.{◌≡◌, ℕ, zero, suc, ◌+◌, ◌*◌, ◌≤◌, [], ◌∷◌, length, Some, codes, sym, refl, ap, ◌∙◌, subst, arith, lit<, lit≤, length-append}
use Rattle.std.specs.Fmt.{digits}
use Rattle.horn.specs.Terms.{Term, var, node, nil, cons, eval}
use Rattle.horn.specs.Clauses.{named}
use Rattle.horn.specs.Paths.{Path}
use Rattle.horn.specs.Equations.{Apart, Standing, Valuation, Solves, taking, taken, standing, follow, asked, clauses_weight}
use Rattle.horn.specs.Walk.{deck_tree, length_limit}
use Rattle.horn.specs.Search.{Moves, Placed, Passing, child}
use Rattle.horn.specs.Transcript.{Prints, halt}
use Rattle.sheets.specs.Worked.{ample, scant}
use Rattle.sheets.proofs.Cases.{constant, again, loops, looping}
use Rattle.horn.proofs.Following.{known, knowing, follow_append, grows}
use Rattle.horn.proofs.Placing.{moves}

-- the path of k ones
ones : ℕ → Path
ones zero = []
ones (suc k) = child (ones k) 1

-- each variable is a
ρ : Valuation
ρ v = constant (codes "a")

-- where a path of ones stands: its one goal has the value n(a), and its equations hold
record Looped (p : Path) : Type 0 where
  pub at : Standing
  pub argument : Term Apart
  pub is : standing loops looping p ≡ Some at
  pub goal : at.goals ≡ cons (node (codes "n") (cons argument nil)) nil
  pub value : eval argument ρ ≡ constant (codes "a")
  pub solved : Solves ρ at.equations

once_more : (p : Path) → Looped p → Looped (child p 1)
unfolding ρ
once_more p l =
    let g : Term Apart = node (codes "n") (cons l.argument nil) in
    record {
      at = taking l.at g nil again;
      argument = var (l.at.entries + 1, named (codes "X"));
      is = follow_append loops p (1 ∷ []) (Some (asked looping)) ∙ ap (follow loops (1 ∷ [])) l.is ∙ ap (λ gs. follow loops [] (taken l.at gs (Some again))) l.goal;
      goal = refl;
      value = refl;
      solved = (ap (λ x. node (codes "n") (cons x nil)) l.value, l.solved);
    }

looped : (k : ℕ) → Looped (ones k)
unfolding ρ ones
looped zero = record { at = asked looping; argument = constant (codes "a"); is = refl; goal = refl; value = refl; solved = tt }
looped (suc k) = once_more (ones k) (looped k)

weight_more : (p : Path) → clauses_weight loops (child p 1) ≡ clauses_weight loops p + 3
weight_more [] = refl
weight_more (c ∷ p) = omega (arith, weight_more p)

weight_ones : (k : ℕ) → clauses_weight loops (ones k) ≡ 3 * k
unfolding ones
weight_ones zero = refl
weight_ones (suc k) = omega (arith, weight_more (ones k), weight_ones k)

length_ones : (k : ℕ) → length (ones k) ≡ k
unfolding ones
length_ones zero = refl
length_ones (suc k) = omega (arith, length-append (ones k) (1 ∷ []), length_ones k)

module _ (fuel : ℕ) where
  m : Moves (deck_tree loops looping) fuel
  m = moves (deck_tree loops looping) (grows loops looping (record { some = λ e. let z : ◌≡◌ {A = ℕ} 0 1 = cc in omega arith; light = lit≤ tt })) fuel

  passes : (k : ℕ) → (deck_tree loops looping).passable (ones k)
  passes k = let l = looped k in knowing (standing loops looping (ones k)) _ l.at l.is (ρ, l.solved)

  goes_on : (k : ℕ) → (deck_tree loops looping).successful (ones k) → ⊥
  goes_on k w =
      let l = looped k in
      let h = known (standing loops looping (ones k)) _ w in
      let e : l.at ≡ h.0 = cc in
      let f : cons (node (codes "n") (cons l.argument nil)) nil ≡ nil = sym l.goal ∙ ap (λ s. s.goals) e ∙ h.2.2 in
      let z : ◌≡◌ {A = ℕ} 0 1 = cc in omega arith

  passing : (k : ℕ) → Placed (deck_tree loops looping) fuel (ones k) 0 0 k → Passing (deck_tree loops looping) fuel (ones k) 0 1 0 k
  unfolding ones
  passing k l = record { placed = l; next = (omega arith, λ d lo hi w. omega arith); passes = passes (suc k) }

  reached : (k : ℕ) → k ≤ length_limit → k ≤ fuel → Placed (deck_tree loops looping) fuel (ones k) 0 0 k
  unfolding ones
  reached zero a b = m.start
  reached (suc k) a b =
      subst (λ s. Placed (deck_tree loops looping) fuel (ones (suc k)) 0 0 s) {x = k + 1} (omega arith)
      (m.enter (ones k) 0 1 0 k (passing k (reached k (omega arith) (omega arith)))
      (record { fueled = omega arith; short = omega (arith, length_ones (suc k)); light = omega (arith, weight_ones (suc k)) }) (goes_on (suc k)))

pub endless : Prints loops looping ample 0 (codes "H,22,0,256" ∷ [])
unfolding ones digits
endless = halt 22 256 ((m ample).halt_length (ones 256) 0 1 0 256 (passing ample 256 (reached ample 256 (lit≤ tt) (lit≤ tt))) (lit< tt) (omega (arith, length_ones 257)))

pub short : Prints loops looping scant 0 (codes "H,21,0,256" ∷ [])
unfolding digits
short = halt 21 256 ((m scant).halt_fuel (ones 256) 0 1 0 256 (passing scant 256 (reached scant 256 (lit≤ tt) (lit≤ tt))) (lit≤ tt))
