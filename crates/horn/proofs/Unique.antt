-- The law leaves one reply: the n-th path, the counts and the first path over a limit are determined.
use Rattle.std.proofs.Common.{◌≡◌, ℕ, ◌+◌, ◌<◌, ◌≤◌, ◌⊎◌, [], ◌∷◌, ◌++◌, length, sym, subst, inl, inr, arith, length-append}
use Rattle.horn.specs.Paths.{Path, Before, UpTo, In, Ascending, Count, Rank, Nth}
use Rattle.horn.specs.Walk.{Tree, Over, FirstOver, Hit, Trod, Answered}
use Rattle.horn.specs.Theorems.{OneReply}
use Rattle.horn.proofs.Order.{total, not_both, upto_before, order}
use Rattle.horn.proofs.Listing.{one_count, some_of, ascending_push, in_either}

module _ (S : Path → Type 0) where
  -- a later path with S has a higher rank
  pub rank_rises : (p q : Path) (m n : ℕ) → Before p q → Rank S p m → Nth S q n → m < n
  rank_rises p q m n l a b =
      let push : Ascending (a.0 ++ (q ∷ [])) = ascending_push a.0 q a.1.ascends (λ x h. upto_before x p q (a.1.sound x h).1 l) in
      let k : length (a.0 ++ (q ∷ [])) ≤ length b.1.0 = some_of (a.0 ++ (q ∷ [])) b.1.0 push b.1.1.ascends (λ x h. go x (in_either x a.0 (q ∷ []) h)) in
      omega (arith, length-append a.0 (q ∷ []), a.2, b.1.2)
    where
      go : (x : Path) → In x a.0 ⊎ In x (q ∷ []) → In x b.1.0
      go x (inl h) = b.1.1.full x ((a.1.sound x h).0, inr (upto_before x p q (a.1.sound x h).1 l))
      go x (inr (inl e)) = b.1.1.full x (subst S (sym e) b.0, inl e)
      go x (inr (inr h)) = absurd h

  pub one_nth : (p q : Path) (n : ℕ) → Nth S p n → Nth S q n → p ≡ q
  one_nth p q n a b = go (total p q)
    where
      go : (p ≡ q) ⊎ (Before p q ⊎ Before q p) → p ≡ q
      go (inl e) = e
      go (inr (inl l)) = let z : n < n = rank_rises p q n n l a.1 b in let w : ⊥ = omega arith in absurd w
      go (inr (inr l)) = let z : n < n = rank_rises q p n n l b.1 a in let w : ⊥ = omega arith in absurd w

  -- an n-th path is one of all
  pub nth_among : (p : Path) (m n : ℕ) → Nth S p m → Count S n → m ≤ n
  nth_among p m n a c =
      let k : length a.1.0 ≤ length c.0 = some_of a.1.0 c.0 a.1.1.ascends c.1.ascends (λ x h. c.1.full x (a.1.1.sound x h).0) in
      omega (arith, a.1.2, c.2)

pub one_first : (t : Tree) (fuel : ℕ) (p q : Path) (m n : ℕ) → FirstOver t fuel p m → FirstOver t fuel q n → (p ≡ q) × (m ≡ n)
one_first t fuel p q m n a b =
    let e : p ≡ q = same (a.first q n b.over) (b.first p m a.over) in (e, number e (order m n))
  where
    same : UpTo p q → UpTo q p → p ≡ q
    same (inl e) k = e
    same (inr l) k = absurd (not_both p q l k)

    number : p ≡ q → (m ≡ n) ⊎ ((m < n) ⊎ (n < m)) → m ≡ n
    number e (inl k) = k
    number e (inr (inl k)) = absurd (b.lowest m k (subst (λ x. Over t fuel x m) e a.over))
    number e (inr (inr k)) = absurd (a.lowest n k (subst (λ x. Over t fuel x n) (sym e) b.over))

module _ (t : Tree) (fuel : ℕ) where
  -- no answer is behind the last
  among : (p : Path) (n s : ℕ) → Count (Hit t fuel) n → Answered t fuel p (n + 1) s → ⊥
  among p n s c a = let k : n + 1 ≤ n = nth_among (Hit t fuel) p (n + 1) n a.nth c in omega arith

  pub one_reply : OneReply t fuel
  one_reply = record {
    one_nth = one_nth (Hit t fuel);
    one_rank = λ p s r. one_count (λ x. Trod t fuel x × UpTo x p) s r;
    one_answer = λ p q n s r a b.
        let e : p ≡ q = one_nth (Hit t fuel) p q n a.nth b.nth in
        (e, one_count (λ x. Trod t fuel x × UpTo x q) s r (subst (λ x. Rank (Trod t fuel) x s) e a.spent) b.spent);
    one_end = λ n s k r a b. (one_count (Hit t fuel) n k a.hits b.hits, one_count (Trod t fuel) s r a.spent b.spent);
    one_halt = λ m n s k l r a b.
        ((one_first t fuel a.at b.at m k a.first b.first).1, one_count (Hit t fuel) n l a.hits b.hits, one_count (Trod t fuel) s r a.spent b.spent);
    answer_or_end = λ p n s r a b. among p n s b.hits a;
    answer_or_halt = λ p m n s r a b. among p n s b.hits a;
    end_or_halt = λ m n s k r a b. a.none b.at m b.first.over;
  }
