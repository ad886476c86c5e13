-- The moves of a depth-first search, at a path p and the next clause number a to try there: all before p ++ a is done.
use Rattle.std.proofs.Common.{◌≡◌, ℕ, ◌+◌, ◌<◌, ◌≤◌, ◌⊎◌, List, [], ◌∷◌, ◌++◌, length, sym, refl, ap, ◌∙◌, subst, inl, inr, ⊎_elim, append_assoc, arith}
use native.Mathlib.Decide.{dec_lt}
use Rattle.horn.specs.Paths.{Path, Before, UpTo, In, Count}
use Rattle.horn.specs.Walk.{Tree, Grown, Step, NonEmpty, PastFuel, Breaks, past_fuel, too_long, too_heavy, length_limit, weight_limit, fuel_halt, length_halt, weight_halt}
use Rattle.horn.proofs.Order.{irreflexive, asymmetric, upto_before, before_upto, otherwise, Side, left, under, right, side, common, joined, order}
use Rattle.horn.proofs.Listing.{some_of}
use Rattle.horn.specs.Search.{Stands, child}
use Rattle.horn.proofs.Moves.{Gap, Only, steps_more}

pub nothing_more : (p : Path) → p ++ [] ≡ p
nothing_more [] = refl
nothing_more (x ∷ p) = ap (λ q. x ∷ q) (nothing_more p)

pub extends : (p : Path) (x : ℕ) (r : Path) → Before p (p ++ (x ∷ r))
extends [] x r = tt
extends (y ∷ p) x r = inr (refl, extends p x r)

pub filled_child : (p : Path) (c : ℕ) → NonEmpty (p ++ (c ∷ []))
filled_child [] c = tt
filled_child (x ∷ p) c = tt

-- by the number that follows p
branch : (p : Path) (d : ℕ) (r : Path) (c : ℕ) → Before (p ++ (d ∷ r)) (child p c) → d < c
branch p d r c h = go (common p (d ∷ r) (c ∷ []) h)
  where
    go : (d < c) ⊎ ((d ≡ c) × ⊥) → d < c
    go (inl k) = k
    go (inr k) = absurd k.1

module _ (t : Tree) (grown : Grown t) where
  -- a path under p by the number d
  through : (p : Path) (d : ℕ) (r : Path) → t.passable (p ++ (d ∷ r)) → t.passable (child p d)
  through p d r w = grown.closed (child p d) r (subst t.passable (sym (append_assoc p (d ∷ []) r)) w)

  -- from a up to c no clause is passable
  pub skip : (p : Path) (a c : ℕ) → a ≤ c → ((d : ℕ) → a ≤ d → d < c → t.passable (child p d) → ⊥) → Gap t (child p a) (child p c)
  skip p a c le no' = record { onward = on (order a c); none = λ q w l. go q w l (side p q) }
    where
      on : (a ≡ c) ⊎ ((a < c) ⊎ (c < a)) → UpTo (child p a) (child p c)
      on (inl e) = inl (ap (child p) e)
      on (inr (inl h)) = inr (joined p (a ∷ []) (c ∷ []) (inl h))
      on (inr (inr h)) = let z : ⊥ = omega arith in absurd z

      below : (d : ℕ) (r : Path) → t.passable (p ++ (d ∷ r)) → d < c → Dec (d < a) → Before (p ++ (d ∷ r)) (child p a)
      below d r w h (yes k) = joined p (d ∷ r) (a ∷ []) (inl k)
      below d r w h (no k) = absurd (no' d (omega arith) h (through p d r w))

      inside : (r : Path) → t.passable (p ++ r) → Before (p ++ r) (child p c) → Before (p ++ r) (child p a)
      inside [] w l = joined p [] (a ∷ []) tt
      inside (d ∷ r) w l = below d r w (branch p d r c l) (dec_lt d a)

      go : (q : Path) → t.passable q → Before q (child p c) → Side p q → Before q (child p a)
      go q w l (left k) = k (a ∷ [])
      go q w l (under r e) = subst (λ x. Before x (child p a)) (sym e) (inside r (subst t.passable e w) (subst (λ x. Before x (child p c)) e l))
      go q w l (right k) = absurd (asymmetric q (child p c) l (k (c ∷ [])))

  -- clause c is passable
  pub enter : (p : Path) (c : ℕ) → t.passable (child p c) → Only t (child p c) (child p c) (child (child p c) 1)
  enter p c pass = record { onward = inl refl; ends = extends (child p c) 1 []; passes = pass; filled = filled_child p c; one = λ q w l. go q w l (side (child p c) q) }
    where
      inside : (r : Path) → t.passable (child p c ++ r) → Before (child p c ++ r) (child (child p c) 1) → child p c ++ r ≡ child p c
      inside [] w l = nothing_more (child p c)
      inside (d ∷ r) w l =
          let h : d < 1 = branch (child p c) d r 1 l in
          let e : d ≡ 0 = omega arith in
          absurd (grown.counted (child p c) (subst (λ x. t.passable (child (child p c) x)) e (through (child p c) d r w)))

      go : (q : Path) → t.passable q → Before q (child (child p c) 1) → Side (child p c) q → Before q (child p c) ⊎ (q ≡ child p c)
      go q w l (left k) = inl (subst (Before q) (nothing_more (child p c)) (k []))
      go q w l (under r e) = inr (e ∙ inside r (subst t.passable e w) (subst (λ x. Before x (child (child p c) 1)) e l))
      go q w l (right k) = absurd (asymmetric q (child (child p c) 1) l (k (1 ∷ [])))

  -- no clause from a on is passable under p ++ c
  pub leave : (p : Path) (c a : ℕ) → ((d : ℕ) → a ≤ d → t.passable (child (child p c) d) → ⊥) → Gap t (child (child p c) a) (child p (c + 1))
  leave p c a no' = record { onward = inr on; none = λ q w l. go q w l (side (child p c) q) }
    where
      on : Before (child (child p c) a) (child p (c + 1))
      on = subst (λ x. Before x (child p (c + 1))) (sym (append_assoc p (c ∷ []) (a ∷ []))) (joined p (c ∷ (a ∷ [])) ((c + 1) ∷ []) (inl (omega arith)))

      below : (d : ℕ) (r : Path) → t.passable (child p c ++ (d ∷ r)) → Dec (d < a) → Before (child p c ++ (d ∷ r)) (child (child p c) a)
      below d r w (yes k) = joined (child p c) (d ∷ r) (a ∷ []) (inl k)
      below d r w (no k) = absurd (no' d (omega arith) (through (child p c) d r w))

      inside : (r : Path) → t.passable (child p c ++ r) → Before (child p c ++ r) (child (child p c) a)
      inside [] w = joined (child p c) [] (a ∷ []) tt
      inside (d ∷ r) w = below d r w (dec_lt d a)

      -- behind all under p ++ c is at p ++ (c + 1) or behind it
      behind : (q : Path) → ((r : Path) → Before (child p c ++ r) q) → Before q (child p (c + 1)) → Side p q → ⊥
      behind q k l (left h) = asymmetric q (child p c ++ []) (subst (Before q) (sym (nothing_more (child p c))) (h (c ∷ []))) (k [])
      behind q k l (right h) = asymmetric q (child p (c + 1)) l (h ((c + 1) ∷ []))
      behind q k l (under s e) = deep s (λ r. subst (λ x. Before x (p ++ s)) (append_assoc p (c ∷ []) r) (subst (Before (child p c ++ r)) e (k r))) (subst (λ x. Before x (child p (c + 1))) e l)
        where
          last : (x : ℕ) (s : Path) → ((r : Path) → Before (p ++ (c ∷ r)) (p ++ (x ∷ s))) → x < c + 1 → (c < x) ⊎ ((c ≡ x) × Before s s) → ⊥
          last x s f lt (inl h) = omega arith
          last x s f lt (inr h) = irreflexive s h.1

          deep : (s : Path) → ((r : Path) → Before (p ++ (c ∷ r)) (p ++ s)) → Before (p ++ s) (child p (c + 1)) → ⊥
          deep [] f m = common p (c ∷ []) [] (f [])
          deep (x ∷ s) f m = last x s f (branch p x s (c + 1) m) (common p (c ∷ s) (x ∷ s) (f s))

      go : (q : Path) → t.passable q → Before q (child p (c + 1)) → Side (child p c) q → Before q (child (child p c) a)
      go q w l (left k) = k (a ∷ [])
      go q w l (under r e) = subst (λ x. Before x (child (child p c) a)) (sym e) (inside r (subst t.passable e w))
      go q w l (right k) = absurd (behind q k l (side p q))

  -- no clause from a on is passable at the root
  pub exhaust : (a : ℕ) → ((d : ℕ) → a ≤ d → t.passable (d ∷ []) → ⊥) → (q : Path) → t.passable q → Before q (a ∷ [])
  exhaust a no' [] w = tt
  exhaust a no' (d ∷ r) w = go (dec_lt d a)
    where
      go : Dec (d < a) → Before (d ∷ r) (a ∷ [])
      go (yes k) = inl k
      go (no k) = absurd (no' d (omega arith) (grown.closed (d ∷ []) r w))

  -- before the first move
  pub start : (fuel : ℕ) → Stands t fuel (1 ∷ []) 0 0
  start fuel = record {
    hits = ([], record { ascends = tt; sound = λ q h. absurd h; full = λ q k. absurd (grown.goals (subst t.successful (root_only q k.0.0 k.1) k.0.1)) }, refl);
    steps = ([], record { ascends = tt; sound = λ q h. absurd h; full = λ q k. absurd (subst NonEmpty (root_only q k.0.0 k.1) k.0.1) }, refl);
    clear = λ q m o. otherwise q (1 ∷ []) (λ l. root_fine m (subst (λ x. Breaks t fuel x m) (root_only q o.0 l) o.1));
  }
    where
      root_only : (q : Path) → t.passable q → Before q (1 ∷ []) → q ≡ []
      root_only [] w l = refl
      root_only (d ∷ r) w l =
          let h : d < 1 = branch [] d r 1 l in
          let e : d ≡ 0 = omega arith in
          absurd (grown.counted [] (subst (λ x. t.passable (x ∷ [])) e (through [] d r w)))

      none_at : (q : Path) → NonEmpty q → UpTo q [] → ⊥
      none_at q f (inl e) = subst NonEmpty e f
      none_at q f (inr l) = l

      none_up : (w : List Path) → ((q : Path) → In q w → Step t q × UpTo q []) → fuel < length w → ⊥
      none_up [] f h = omega arith
      none_up (q ∷ w) f h = let k = f q (inl refl) in none_at q k.0.1 k.1

      root_fine : (m : ℕ) → Breaks t fuel [] m → ⊥
      root_fine m (past_fuel h) = none_up h.0 h.2 h.3
      root_fine m (too_long h) = omega arith
      root_fine m (too_heavy h) = omega (arith, grown.light)

  -- the limits at the next passable path
  module _ (fuel : ℕ) {b p b' : Path} {n s : ℕ} (g : Only t b p b') (h : Stands t fuel b n s) where
    pub fuel_out : fuel < s + 1 → PastFuel t fuel p
    fuel_out lt =
        let m : Count (λ q. Step t q × Before q b') (s + 1) = steps_more t fuel g h in
        (m.0, m.1.ascends, λ q k. ((m.1.sound q k).0, up q (m.1.sound q k).0.0 (m.1.sound q k).1), omega (arith, m.2))
      where
        up : (q : Path) → t.passable q → Before q b' → UpTo q p
        up q w k = ⊎_elim (λ l. inr (before_upto q b p l g.onward)) (λ e. inl e) (g.one q w k)

    pub fuel_left : s + 1 ≤ fuel → PastFuel t fuel p → ⊥
    fuel_left le f =
        let m : Count (λ q. Step t q × Before q b') (s + 1) = steps_more t fuel g h in
        let k : length f.0 ≤ length m.0 = some_of f.0 m.0 f.1 m.1.ascends (λ q i. m.1.full q ((f.2 q i).0, upto_before q p b' (f.2 q i).1 g.ends)) in
        omega (arith, m.2, f.3)

    pub within : s + 1 ≤ fuel → length p ≤ length_limit → t.weight p ≤ weight_limit → (m : ℕ) → Breaks t fuel p m → ⊥
    within a b c m (past_fuel f) = fuel_left a f
    within a b c m (too_long f) = omega arith
    within a b c m (too_heavy f) = omega arith

    pub halt_fuel : fuel < s + 1 → Breaks t fuel p fuel_halt × ((k : ℕ) → k < fuel_halt → Breaks t fuel p k → ⊥)
    halt_fuel lt = (past_fuel (fuel_out lt), low)
      where
        low : (k : ℕ) → k < fuel_halt → Breaks t fuel p k → ⊥
        low k l (past_fuel f) = omega arith
        low k l (too_long f) = omega arith
        low k l (too_heavy f) = omega arith

    pub halt_long : s + 1 ≤ fuel → length_limit < length p → Breaks t fuel p length_halt × ((k : ℕ) → k < length_halt → Breaks t fuel p k → ⊥)
    halt_long a lt = (too_long lt, low)
      where
        low : (k : ℕ) → k < length_halt → Breaks t fuel p k → ⊥
        low k l (past_fuel f) = fuel_left a f
        low k l (too_long f) = omega arith
        low k l (too_heavy f) = omega arith

    pub halt_heavy : s + 1 ≤ fuel → length p ≤ length_limit → weight_limit < t.weight p → Breaks t fuel p weight_halt × ((k : ℕ) → k < weight_halt → Breaks t fuel p k → ⊥)
    halt_heavy a b lt = (too_heavy lt, low)
      where
        low : (k : ℕ) → k < weight_halt → Breaks t fuel p k → ⊥
        low k l (past_fuel f) = fuel_left a f
        low k l (too_long f) = omega arith
        low k l (too_heavy f) = omega arith
