-- What a search has done when it stands at a path, and the moves that keep this.
use Rattle.std.proofs.Common.{◌≡◌, ℕ, ◌+◌, ◌<◌, ◌⊎◌, subst, inl, inr, ⊎_elim}
use Rattle.horn.specs.Paths.{Path, Before, UpTo, Count}
use Rattle.horn.specs.Walk.{Tree, Step, NonEmpty, Breaks, Over, Walked, Answered, Exhausted, Stopped}
use Rattle.horn.specs.Search.{Stands}
use Rattle.horn.proofs.Order.{irreflexive, transitive, not_both, upto_before, before_upto, otherwise}
use Rattle.horn.proofs.Listing.{count_stays, count_more}

-- No passable path stands from b up to b'
pub record Gap (t : Tree) (b b' : Path) : Type 0 where
  pub onward : UpTo b b'
  pub none : (q : Path) → t.passable q → Before q b' → Before q b

-- p is the only passable path from b up to b'
pub record Only (t : Tree) (b p b' : Path) : Type 0 where
  pub onward : UpTo b p
  pub ends : Before p b'
  pub passes : t.passable p
  pub filled : NonEmpty p
  pub one : (q : Path) → t.passable q → Before q b' → Before q b ⊎ (q ≡ p)

module _ (t : Tree) (fuel : ℕ) where
  pub over_gap : {b b' : Path} {n s : ℕ} → Gap t b b' → Stands t fuel b n s → Stands t fuel b' n s
  over_gap {b} {b'} {n} {s} g h = record {
    hits = count_stays _ _ n h.hits (λ q k. (k.0, before_upto q b b' k.1 g.onward)) (λ q k. (k.0, g.none q k.0.0 k.1));
    steps = count_stays _ _ s h.steps (λ q k. (k.0, before_upto q b b' k.1 g.onward)) (λ q k. (k.0, g.none q k.0.0 k.1));
    clear = λ q m o. otherwise q b' (λ k. not_both q b (g.none q o.0 k) (h.clear q m o));
  }

  module _ {b p b' : Path} {n s : ℕ} (g : Only t b p b') (h : Stands t fuel b n s) where
    earlier : (q : Path) → Before q b → Before q b'
    earlier q k = transitive q p b' (before_upto q b p k g.onward) g.ends

    pub steps_more : Count (λ q. Step t q × Before q b') (s + 1)
    steps_more =
        count_more _ _ s p h.steps (λ q k. (k.0, earlier q k.1)) (λ q k. ⊎_elim (λ l. inl (k.0, l)) inr (g.one q k.0.0 k.1)) ((g.passes, g.filled), g.ends) (λ q k. before_upto q b p k.1 g.onward)

    clear_more : ((m : ℕ) → Breaks t fuel p m → ⊥) → (q : Path) (m : ℕ) → Over t fuel q m → UpTo b' q
    clear_more fine q m o = otherwise q b' (λ k. go (g.one q o.0 k))
      where
        go : Before q b ⊎ (q ≡ p) → ⊥
        go (inl k) = not_both q b k (h.clear q m o)
        go (inr e) = fine m (subst (λ x. Breaks t fuel x m) e o.1)

    -- a path that fails to be successful
    pub enter_open : ((m : ℕ) → Breaks t fuel p m → ⊥) → (t.successful p → ⊥) → Stands t fuel b' n (s + 1)
    enter_open fine open' = record {
      hits = count_stays _ _ n h.hits (λ q k. (k.0, earlier q k.1)) (λ q k. (k.0, ⊎_elim (λ l. l) (λ e. absurd (open' (subst t.successful e k.0.1))) (g.one q k.0.0 k.1)));
      steps = steps_more;
      clear = clear_more fine;
    }

    pub enter_hit : ((m : ℕ) → Breaks t fuel p m → ⊥) → t.successful p → Stands t fuel b' (n + 1) (s + 1)
    enter_hit fine hit = record {
      hits = count_more _ _ n p h.hits (λ q k. (k.0, earlier q k.1)) (λ q k. ⊎_elim (λ l. inl (k.0, l)) inr (g.one q k.0.0 k.1)) ((g.passes, hit), g.ends) (λ q k. before_upto q b p k.1 g.onward);
      steps = steps_more;
      clear = clear_more fine;
    }

  -- the walk up to where the search stands
  pub walked_before : {b : Path} {n s : ℕ} → Stands t fuel b n s → (q : Path) → t.passable q → Before q b → Walked t fuel q
  walked_before {b} h q w k = record { passes = w; ahead = λ r m o. before_upto q b r k (h.clear r m o) }

  pub answers : {b p b' : Path} {n s : ℕ} → Only t b p b' → t.successful p → Stands t fuel b' n s → Answered t fuel p n s
  answers {b} {p} {b'} {n} {s} g hit h = record {
    nth = ((walked_before h p g.passes g.ends, hit), count_stays _ _ n h.hits (λ q k. ((walked_before h q k.0.0 k.1, k.0.1), up q k.0.0 k.1)) (λ q k. ((k.0.0.passes, k.0.1), upto_before q p b' k.1 g.ends)));
    spent = count_stays _ _ s h.steps (λ q k. ((walked_before h q k.0.0 k.1, k.0.1), up q k.0.0 k.1)) (λ q k. ((k.0.0.passes, k.0.1), upto_before q p b' k.1 g.ends));
  }
    where
      up : (q : Path) → t.passable q → Before q b' → UpTo q p
      up q w k = ⊎_elim (λ l. inr (before_upto q b p l g.onward)) (λ e. inl e) (g.one q w k)

  pub exhausts : {b : Path} {n s : ℕ} → Stands t fuel b n s → ((q : Path) → t.passable q → Before q b) → Exhausted t fuel n s
  exhausts {b} {n} {s} h all = record {
    none = λ q m o. not_both q b (all q o.0) (h.clear q m o);
    hits = count_stays _ _ n h.hits (λ q k. (walked_before h q k.0.0 k.1, k.0.1)) (λ q k. ((k.0.passes, k.1), all q k.0.passes));
    spent = count_stays _ _ s h.steps (λ q k. (walked_before h q k.0.0 k.1, k.0.1)) (λ q k. ((k.0.passes, k.1), all q k.0.passes));
  }

  pub stops : {b p b' : Path} {n s : ℕ} (m : ℕ) → Only t b p b' → Stands t fuel b n s → Breaks t fuel p m → ((k : ℕ) → k < m → Breaks t fuel p k → ⊥) → Stopped t fuel m n s
  stops {b} {p} {b'} {n} {s} m g h broken lowest' = record {
    at = p;
    first = record { over = (g.passes, broken); lowest = λ k l o. lowest' k l o.1; first = λ q k o. upto_p q (h.clear q k o) o.0 };
    hits = count_stays _ _ n h.hits (λ q k. (walked_before h q k.0.0 k.1, k.0.1)) (λ q k. ((k.0.passes, k.1), back q k.0));
    spent = count_stays _ _ s h.steps (λ q k. (walked_before h q k.0.0 k.1, k.0.1)) (λ q k. ((k.0.passes, k.1), back q k.0));
  }
    where
      at_most : (q : Path) → t.passable q → Before q p → Before q b
      at_most q w l = ⊎_elim (λ x. x) (λ e. absurd (irreflexive p (subst (λ x. Before x p) e l))) (g.one q w (transitive q p b' l g.ends))

      upto_p : (q : Path) → UpTo b q → t.passable q → UpTo p q
      upto_p q u w = otherwise q p (λ l. not_both q b (at_most q w l) u)

      back : (q : Path) → Walked t fuel q → Before q b
      back q w = at_most q w.passes (w.ahead p m (g.passes, broken))
