-- Trees with the same paths have the same walk.
use Rattle.std.proofs.Common.{ℕ, ◌<◌, ◌≤◌, [], sym, ◌∙◌, subst}
use Rattle.horn.specs.Paths.{Path}
use Rattle.horn.specs.Walk.{Tree, Grown, Breaks, past_fuel, too_long, too_heavy, Over, FirstOver, Walked, Hit, Answered, Exhausted, Stopped, weight_limit, SameTree}
use Rattle.horn.proofs.Listing.{count_stays}

pub turned : {t u : Tree} → SameTree t u → SameTree u t
turned h = record {
  passable = λ p. ((h.passable p).1, (h.passable p).0);
  successful = λ p. ((h.successful p).1, (h.successful p).0);
  weight = λ p. sym (h.weight p);
}

pub chained : {t u v : Tree} → SameTree t u → SameTree u v → SameTree t v
chained h k = record {
  passable = λ p. (λ w. (k.passable p).0 ((h.passable p).0 w), λ w. (h.passable p).1 ((k.passable p).1 w));
  successful = λ p. (λ w. (k.successful p).0 ((h.successful p).0 w), λ w. (h.successful p).1 ((k.successful p).1 w));
  weight = λ p. h.weight p ∙ k.weight p;
}

pub grown_same : {t u : Tree} → SameTree t u → Grown t → Grown u
grown_same h g = record {
  root = (h.passable []).0 g.root;
  goals = λ w. g.goals ((h.successful []).1 w);
  light = subst (λ n. n ≤ weight_limit) (h.weight []) g.light;
  closed = λ p r w. (h.passable p).0 (g.closed p r ((h.passable _).1 w));
  counted = λ p w. g.counted p ((h.passable _).1 w);
}

-- one way
module _ {t u : Tree} (h : SameTree t u) (fuel : ℕ) where
  breaks_to : {p : Path} {m : ℕ} → Breaks t fuel p m → Breaks u fuel p m
  breaks_to (past_fuel w) = past_fuel (w.0, w.1, λ q i. let k = w.2 q i in (((h.passable q).0 k.0.0, k.0.1), k.1), w.3)
  breaks_to (too_long w) = too_long w
  breaks_to {p} (too_heavy w) = too_heavy (subst (λ n. weight_limit < n) (h.weight p) w)

  over_to : {p : Path} {m : ℕ} → Over t fuel p m → Over u fuel p m
  over_to {p} o = ((h.passable p).0 o.0, breaks_to o.1)

-- and both
module _ {t u : Tree} (h : SameTree t u) (fuel : ℕ) where
  walked_to : {p : Path} → Walked t fuel p → Walked u fuel p
  walked_to {p} w = record { passes = (h.passable p).0 w.passes; ahead = λ q m o. w.ahead q m (over_to (turned h) fuel o) }

  hit_to : {p : Path} → Hit t fuel p → Hit u fuel p
  hit_to {p} w = (walked_to w.0, (h.successful p).0 w.1)

  first_to : {p : Path} {m : ℕ} → FirstOver t fuel p m → FirstOver u fuel p m
  first_to f = record { over = over_to h fuel f.over; lowest = λ k l o. f.lowest k l (over_to (turned h) fuel o); first = λ q k o. f.first q k (over_to (turned h) fuel o) }

module _ {t u : Tree} (h : SameTree t u) (fuel : ℕ) where
  pub answered_same : {p : Path} {n s : ℕ} → Answered t fuel p n s → Answered u fuel p n s
  answered_same {p} {n} {s} a = record {
    nth = (hit_to h fuel a.nth.0, count_stays _ _ n a.nth.1 (λ q k. (hit_to h fuel k.0, k.1)) (λ q k. (hit_to (turned h) fuel k.0, k.1)));
    spent = count_stays _ _ s a.spent (λ q k. ((walked_to h fuel k.0.0, k.0.1), k.1)) (λ q k. ((walked_to (turned h) fuel k.0.0, k.0.1), k.1));
  }

  pub exhausted_same : {n s : ℕ} → Exhausted t fuel n s → Exhausted u fuel n s
  exhausted_same {n} {s} a = record {
    none = λ q m o. a.none q m (over_to (turned h) fuel o);
    hits = count_stays _ _ n a.hits (λ q k. hit_to h fuel k) (λ q k. hit_to (turned h) fuel k);
    spent = count_stays _ _ s a.spent (λ q k. (walked_to h fuel k.0, k.1)) (λ q k. (walked_to (turned h) fuel k.0, k.1));
  }

  pub stopped_same : {m n s : ℕ} → Stopped t fuel m n s → Stopped u fuel m n s
  stopped_same {m} {n} {s} a = record {
    at = a.at;
    first = first_to h fuel a.first;
    hits = count_stays _ _ n a.hits (λ q k. hit_to h fuel k) (λ q k. hit_to (turned h) fuel k);
    spent = count_stays _ _ s a.spent (λ q k. (walked_to h fuel k.0, k.1)) (λ q k. (walked_to (turned h) fuel k.0, k.1));
  }
