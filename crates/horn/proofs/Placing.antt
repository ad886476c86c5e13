-- The moves of a search keep what holds where it stands.
use Rattle.std.proofs.Common.{◌≡◌, ℕ, ◌+◌, ◌<◌, ◌≤◌, [], ◌∷◌, length, subst, arith, length-append}
use native.Mathlib.Decide.{dec_lt}
use Rattle.horn.specs.Paths.{Path}
use Rattle.horn.specs.Walk.{Tree, Grown, Breaks, Answered, Stopped, length_limit, weight_limit, fuel_halt, length_halt, weight_halt}
use Rattle.horn.specs.Search.{Stands, Placed, Next, Passing, Within, Moves, child}
use Rattle.horn.proofs.Moves.{Only, over_gap, enter_open, enter_hit, answers, exhausts, stops}
use Rattle.horn.proofs.Steps.{start, skip, enter, leave, exhaust, within, halt_fuel, halt_long, halt_heavy}

module _ (t : Tree) (grown : Grown t) (fuel : ℕ) where
  failed : (here : Path) (after c n s : ℕ) → Placed t fuel here after n s → Next t here after c → (t.passable (child here c) → ⊥) → Placed t fuel here c n s
  failed here after c n s l next no' = record {
    deep = l.deep;
    stands = over_gap t fuel (skip t grown here (after + 1) (c + 1) (omega (arith, next.0)) (λ d le lt w. go d le lt w (dec_lt d c))) l.stands;
    paid = l.paid;
    fewer = l.fewer;
  }
    where
      go : (d : ℕ) → after + 1 ≤ d → d < c + 1 → t.passable (child here d) → Dec (d < c) → ⊥
      go d le lt w (yes k) = next.1 d (omega arith) k w
      go d le lt w (no k) = let e : d ≡ c = omega arith in no' (subst (λ x. t.passable (child here x)) e w)

  module _ (here : Path) (after c n s : ℕ) (l : Passing t fuel here after c n s) where
    stands_at : Stands t fuel (child here c) n s
    stands_at = over_gap t fuel (skip t grown here (after + 1) c (omega (arith, l.next.0)) (λ d le lt w. l.next.1 d (omega arith) lt w)) l.placed.stands

    only : Only t (child here c) (child here c) (child (child here c) 1)
    only = enter t grown here c l.passes

    stop_fuel : fuel ≤ s → Stopped t fuel fuel_halt n s
    stop_fuel h = let b = halt_fuel t grown fuel only stands_at (omega arith) in stops t fuel fuel_halt only stands_at b.0 b.1

    stop_length : s < fuel → length_limit < length (child here c) → Stopped t fuel length_halt n s
    stop_length h k = let b = halt_long t grown fuel only stands_at (omega arith) k in stops t fuel length_halt only stands_at b.0 b.1

    stop_weight : s < fuel → length (child here c) ≤ length_limit → weight_limit < t.weight (child here c) → Stopped t fuel weight_halt n s
    stop_weight h k w = let b = halt_heavy t grown fuel only stands_at (omega arith) k w in stops t fuel weight_halt only stands_at b.0 b.1

    module _ (w : Within t fuel (child here c) s) where
      fine : (m : ℕ) → Breaks t fuel (child here c) m → ⊥
      fine = within t grown fuel only stands_at (omega (arith, w.fueled)) w.short w.light

      entered : (t.successful (child here c) → ⊥) → Placed t fuel (child here c) 0 n (s + 1)
      entered no' = record { deep = w.short; stands = enter_open t fuel only stands_at fine no'; paid = omega (arith, w.fueled); fewer = omega (arith, l.placed.fewer) }

      found : t.successful (child here c) → Placed t fuel (child here c) 0 (n + 1) (s + 1) × Answered t fuel (child here c) (n + 1) (s + 1)
      found k =
          let st : Stands t fuel (child (child here c) 1) (n + 1) (s + 1) = enter_hit t fuel only stands_at fine k in
          (record { deep = w.short; stands = st; paid = omega (arith, w.fueled); fewer = omega (arith, l.placed.fewer) }, answers t fuel only k st)

  pub moves : Moves t fuel
  moves = record {
    start = record { deep = omega arith; stands = start t grown fuel; paid = omega arith; fewer = omega arith };
    fail = failed;
    back = λ p c after n s l none. record {
      deep = omega (arith, l.deep, length-append p (c ∷ []));
      stands = over_gap t fuel (leave t grown p c (after + 1) (λ d le w. none d (omega arith) w)) l.stands;
      paid = l.paid;
      fewer = l.fewer;
    };
    finish = λ after n s l none. exhausts t fuel l.stands (exhaust t grown (after + 1) (λ d le w. none d (omega arith) w));
    halt_fuel = stop_fuel;
    halt_length = stop_length;
    halt_weight = stop_weight;
    enter = entered;
    hit = found;
  }
