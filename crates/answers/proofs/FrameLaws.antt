-- The stack of frames: owners get smaller towards the top, so there are no more frames than cells.
use Rattle.std.proofs.Common.{◌≡◌, ℕ, suc, ◌+◌, ◌-◌, ◌<◌, ◌≤◌, Bool, true, false, cond, eqb, List, [], ◌∷◌, ◌++◌, length, sym, refl, ap, subst, arith}
use Rattle.std.specs.List.{AllByRecursion}
use Rattle.std.proofs.ByRecursion.{All-weaker, All-push}
use Rattle.std.proofs.lemmas.List.{length_push}
use Rattle.std.proofs.lemmas.Bool.{eqb-true, eqb-false}
use Rattle.answers.specs.declared.frame.Frame.{Frame}
use Rattle.answers.specs.Frames.{added}
use Rattle.answers.proofs.Pigeons.{Free, Different, pigeons}

-- the frame holds arguments of its owner, each of them smaller than it
pub record Fits (w : ℕ → ℕ) (n : ℕ) (f : Frame) : Type 0 where
  pub owned : f.owner < n
  pub some : 0 < f.left
  pub within : f.next + f.left ≤ n
  pub smaller : (j : ℕ) → f.next ≤ j → j < f.next + f.left → w j < w f.owner

-- all owners are larger than m
abbrev pub Above : (ℕ → ℕ) → ℕ → List Frame → Type 0
Above w m fs = AllByRecursion (λ f. m < w f.owner) fs

abbrev pub Chain : (ℕ → ℕ) → ℕ → List Frame → Type 0
Chain w n [] = Unit {0}
Chain w n (f ∷ fs) = Fits w n f × AllByRecursion (λ g. w g.owner < w f.owner) fs × Chain w n fs

-- the frame without its next argument
abbrev pub onward : Frame → Frame
onward f = record { owner = f.owner; next = f.next + 1; left = f.left - 1 }

pub length_added : (f : Frame) (fs : List Frame) → 0 < f.left → length (added f fs) ≡ length fs + 1
length_added f fs h = go (eqb f.left 0) refl
  where
    go : (t : Bool) → eqb f.left 0 ≡ t → length (cond t fs (fs ++ f ∷ [])) ≡ length fs + 1
    go true e = absurd (omega (arith, eqb-true f.left 0 e))
    go false e = length_push fs f

all_pop : (P : Frame → Type 0) (fs : List Frame) (f : Frame) → AllByRecursion P (fs ++ f ∷ []) → AllByRecursion P fs × P f
all_pop P [] f h = (tt, h.0)
all_pop P (g ∷ fs) f h = let r = all_pop P fs f h.1 in ((h.0, r.0), r.1)

module _ (w : ℕ → ℕ) (n : ℕ) where
  chain_push : (fs : List Frame) (f : Frame) → Chain w n fs → Fits w n f → Above w (w f.owner) fs → Chain w n (fs ++ f ∷ [])
  chain_push [] f h p a = (p, tt, tt)
  chain_push (g ∷ fs) f h p a = (h.0, All-push (λ e. w e.owner < w g.owner) fs f h.1 a.0, chain_push fs f h.2 p a.1)

  chain_pop : (fs : List Frame) (f : Frame) → Chain w n (fs ++ f ∷ []) → Chain w n fs × Fits w n f × Above w (w f.owner) fs
  chain_pop [] f h = (tt, h.0, tt)
  chain_pop (g ∷ fs) f h =
      let r = chain_pop fs f h.2 in
      let a = all_pop (λ e. w e.owner < w g.owner) fs f h.1 in
      ((h.0, a.0, r.0), r.1, (a.1, r.2))

  above_less : (m k : ℕ) (fs : List Frame) → k ≤ m → Above w m fs → Above w k fs
  above_less m k fs le a = All-weaker (λ f. m < w f.owner) (λ f. k < w f.owner) (λ f l. omega arith) fs a

  -- no more frames than cells
  abbrev owners : List Frame → List ℕ
  owners [] = []
  owners (f ∷ fs) = f.owner ∷ owners fs

  length_owners : (fs : List Frame) → length (owners fs) ≡ length fs
  length_owners [] = refl
  length_owners (f ∷ fs) = ap suc (length_owners fs)

  free_owner : (o : ℕ) (fs : List Frame) → AllByRecursion (λ g. w g.owner < w o) fs → Free o (owners fs)
  free_owner o [] h = tt
  free_owner o (g ∷ fs) h = ((λ e. let l = h.0 in omega (arith, ap w e)), free_owner o fs h.1)

  different : (fs : List Frame) → Chain w n fs → Different (owners fs)
  different [] h = tt
  different (f ∷ fs) h = (free_owner f.owner fs h.1, different fs h.2)

  under : (fs : List Frame) → Chain w n fs → AllByRecursion (λ x. x < n) (owners fs)
  under [] h = tt
  under (f ∷ fs) h = (h.0.owned, under fs h.2)

  pub depth : (fs : List Frame) → Chain w n fs → length fs ≤ n
  depth fs h = omega (arith, length_owners fs, pigeons n (owners fs) (different fs h) (under fs h))

  -- the frame of a structure that is smaller than all owners goes on top
  pub chain_added : (fs : List Frame) (f : Frame) → Chain w n fs → (0 < f.left → Fits w n f) → Above w (w f.owner) fs → Chain w n (added f fs)
  chain_added fs f h p a = go (eqb f.left 0) refl
    where
      go : (t : Bool) → eqb f.left 0 ≡ t → Chain w n (cond t fs (fs ++ f ∷ []))
      go true e = h
      go false e = let ne = eqb-false f.left 0 e in chain_push fs f h (p (omega arith)) a

  above_added : (m : ℕ) (fs : List Frame) (f : Frame) → Above w m fs → m < w f.owner → Above w m (added f fs)
  above_added m fs f a l = elim (eqb f.left 0) as (λ t. Above w m (cond t fs (fs ++ f ∷ []))) [ true ↦ a | false ↦ All-push (λ g. m < w g.owner) fs f a l ]

  -- the top frame gives its next argument, and stays with the others
  pub chain_next : (fs gs hs : List Frame) (f : Frame) → gs ≡ fs ++ f ∷ [] → hs ≡ added (onward f) fs → Chain w n gs → Chain w n hs × Above w (w f.next) hs × Fits w n f
  chain_next fs gs hs f e k h =
      let r = chain_pop fs f (subst (Chain w n) e h) in
      let fit = r.1 in
      let l : w f.next < w f.owner = fit.smaller f.next (omega arith) (omega (arith, fit.some)) in (
        subst (Chain w n) (sym k)
            (chain_added fs (onward f) r.0
            (λ some. record { owned = fit.owned; some = some; within = omega (arith, fit.within, fit.some); smaller = λ j lo hi. fit.smaller j (omega arith) (omega arith) })
            r.2),
        subst (Above w (w f.next)) (sym k) (above_added (w f.next) fs (onward f) (above_less (w f.owner) (w f.next) fs (omega arith) r.2) l),
        fit,
      )
