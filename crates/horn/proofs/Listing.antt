-- The list of the paths with a property: there is one at most; one more at its end.
use Rattle.std.proofs.Common.{◌≡◌, ℕ, ◌+◌, ◌≤◌, ◌⊎◌, List, [], ◌∷◌, ◌++◌, length, sym, refl, ap, ◌∙◌, subst, inl, inr, ⊎_elim, arith, length-append}
use Rattle.horn.specs.Paths.{Path, Before, In, Ascending, Lists, Count}
use Rattle.horn.proofs.Order.{irreflexive, asymmetric}

-- two ascending lists with the same paths are one list
pub same_list : (v w : List Path) → Ascending v → Ascending w → ((q : Path) → In q v → In q w) → ((q : Path) → In q w → In q v) → v ≡ w
same_list [] [] a b f g = refl
same_list [] (y ∷ w) a b f g = absurd (g y (inl refl))
same_list (x ∷ v) [] a b f g = absurd (f x (inl refl))
same_list (x ∷ v) (y ∷ w) a b f g =
    let e : x ≡ y = heads (f x (inl refl)) (g y (inl refl)) in
    let t : v ≡ w = same_list v w a.1 b.1 (λ q h. later_w e q h (f q (inr h))) (λ q h. later_v e q h (g q (inr h))) in
    cc
  where
    heads : In x (y ∷ w) → In y (x ∷ v) → x ≡ y
    heads (inl e) k = e
    heads (inr h) (inl e) = sym e
    heads (inr h) (inr k) = absurd (asymmetric x y (a.0 y k) (b.0 x h))

    later_w : x ≡ y → (q : Path) → In q v → In q (y ∷ w) → In q w
    later_w e q h (inl k) = absurd (irreflexive x (subst (Before x) (k ∙ sym e) (a.0 q h)))
    later_w e q h (inr k) = k

    later_v : x ≡ y → (q : Path) → In q w → In q (x ∷ v) → In q v
    later_v e q h (inl k) = absurd (irreflexive y (subst (Before y) (k ∙ e) (b.0 q h)))
    later_v e q h (inr k) = k

pub one_list : (S : Path → Type 0) (v w : List Path) → Lists S v → Lists S w → v ≡ w
one_list S v w a b =
    same_list v w a.ascends b.ascends (λ q h. b.full q (a.sound q h)) (λ q h. a.full q (b.sound q h))

pub one_count : (S : Path → Type 0) (m n : ℕ) → Count S m → Count S n → m ≡ n
one_count S m n a b = sym a.2 ∙ ap length (one_list S a.0 b.0 a.1 b.1) ∙ b.2

pub in_front : (q : Path) (v w : List Path) → In q v → In q (v ++ w)
in_front q [] w h = absurd h
in_front q (x ∷ v) w (inl e) = inl e
in_front q (x ∷ v) w (inr h) = inr (in_front q v w h)

pub in_back : (q : Path) (v w : List Path) → In q w → In q (v ++ w)
in_back q [] w h = h
in_back q (x ∷ v) w h = inr (in_back q v w h)

pub in_either : (q : Path) (v w : List Path) → In q (v ++ w) → In q v ⊎ In q w
in_either q [] w h = inr h
in_either q (x ∷ v) w (inl e) = inl (inl e)
in_either q (x ∷ v) w (inr h) = ⊎_elim (λ k. inl (inr k)) inr (in_either q v w h)

pub ascending_push : (v : List Path) (p : Path) → Ascending v → ((q : Path) → In q v → Before q p) → Ascending (v ++ (p ∷ []))
ascending_push [] p a h = (λ q k. absurd k, tt)
ascending_push (x ∷ v) p a h = (λ q k. go q (in_either q v (p ∷ []) k), ascending_push v p a.1 (λ q k. h q (inr k)))
  where
    go : (q : Path) → In q v ⊎ In q (p ∷ []) → Before x q
    go q (inl k) = a.0 q k
    go q (inr (inl e)) = subst (Before x) (sym e) (h x (inl refl))
    go q (inr (inr k)) = absurd k

module _ (S S' : Path → Type 0) where
  -- the same paths
  pub stays : (v : List Path) → Lists S v → ((q : Path) → S q → S' q) → ((q : Path) → S' q → S q) → Lists S' v
  stays v l f g = record {
    ascends = l.ascends;
    sound = λ q h. f q (l.sound q h);
    full = λ q s. l.full q (g q s);
  }

  -- one path more, behind all the others
  pub more : (v : List Path) (p : Path) → Lists S v → ((q : Path) → S q → S' q) → ((q : Path) → S' q → S q ⊎ (q ≡ p)) → S' p → ((q : Path) → S q → Before q p) → Lists S' (v ++ (p ∷ []))
  more v p l f g s b = record {
    ascends = ascending_push v p l.ascends (λ q h. b q (l.sound q h));
    sound = λ q h. from q (in_either q v (p ∷ []) h);
    full = λ q h. to q (g q h);
  }
    where
      from : (q : Path) → In q v ⊎ In q (p ∷ []) → S' q
      from q (inl h) = f q (l.sound q h)
      from q (inr (inl e)) = subst S' (sym e) s
      from q (inr (inr h)) = absurd h

      to : (q : Path) → S q ⊎ (q ≡ p) → In q (v ++ (p ∷ []))
      to q (inl h) = in_front q v (p ∷ []) (l.full q h)
      to q (inr e) = in_back q v (p ∷ []) (inl e)

  pub count_stays : (n : ℕ) → Count S n → ((q : Path) → S q → S' q) → ((q : Path) → S' q → S q) → Count S' n
  count_stays n c f g = (c.0, stays c.0 c.1 f g, c.2)

  pub count_more : (n : ℕ) (p : Path) → Count S n → ((q : Path) → S q → S' q) → ((q : Path) → S' q → S q ⊎ (q ≡ p)) → S' p → ((q : Path) → S q → Before q p) → Count S' (n + 1)
  count_more n p c f g s b = (c.0 ++ (p ∷ []), more c.0 p c.1 f g s b, length-append c.0 (p ∷ []) ∙ ap (λ k. k + 1) c.2)

-- a list of some of the paths with S is at most as long as the list of all
pub some_of : (v w : List Path) → Ascending v → Ascending w → ((q : Path) → In q v → In q w) → length v ≤ length w
some_of [] w a b f = omega arith
some_of (x ∷ v) [] a b f = absurd (f x (inl refl))
some_of (x ∷ v) (y ∷ w) a b f =
    let h : length v ≤ length w = some_of v w a.1 b.1 (λ q h. rest q h (f q (inr h))) in omega arith
  where
    first : In x (y ∷ w) → Before x y → ⊥
    first (inl e) h = irreflexive x (subst (Before x) (sym e) h)
    first (inr k) h = asymmetric x y h (b.0 x k)

    rest : (q : Path) → In q v → In q (y ∷ w) → In q w
    rest q h (inl e) = absurd (first (f x (inl refl)) (subst (Before x) e (a.0 q h)))
    rest q h (inr k) = k
