-- Dictionary order is a strict total order, and what stands between two paths.
use Rattle.std.proofs.Common.{◌≡◌, ℕ, ◌<◌, ◌⊎◌, [], ◌∷◌, ◌++◌, sym, refl, subst, inl, inr, arith}
use native.Mathlib.Decide.{dec_lt}
use Rattle.horn.specs.Theorems.{TotalOrder}
use Rattle.horn.specs.Paths.{Path, Before, UpTo}

pub irreflexive : (p : Path) → Before p p → ⊥
irreflexive [] h = h
irreflexive (x ∷ p) (inl h) = omega arith
irreflexive (x ∷ p) (inr h) = irreflexive p h.1

pub transitive : (p q r : Path) → Before p q → Before q r → Before p r
transitive p q [] h k = k
transitive p [] (z ∷ r) h k = absurd h
transitive [] (y ∷ q) (z ∷ r) h k = tt
transitive (x ∷ p) (y ∷ q) (z ∷ r) (inl h) (inl k) = inl (omega arith)
transitive (x ∷ p) (y ∷ q) (z ∷ r) (inl h) (inr k) = inl (omega arith)
transitive (x ∷ p) (y ∷ q) (z ∷ r) (inr h) (inl k) = inl (omega arith)
transitive (x ∷ p) (y ∷ q) (z ∷ r) (inr h) (inr k) = inr (omega arith, transitive p q r h.1 k.1)

pub order : (a b : ℕ) → (a ≡ b) ⊎ ((a < b) ⊎ (b < a))
order a b = go (dec_lt a b) (dec_lt b a)
  where
    go : Dec (a < b) → Dec (b < a) → (a ≡ b) ⊎ ((a < b) ⊎ (b < a))
    go (yes h) k = inr (inl h)
    go (no h) (yes k) = inr (inr k)
    go (no h) (no k) = inl (omega arith)

pub total : (p q : Path) → (p ≡ q) ⊎ (Before p q ⊎ Before q p)
total [] [] = inl refl
total [] (y ∷ q) = inr (inl tt)
total (x ∷ p) [] = inr (inr tt)
total (x ∷ p) (y ∷ q) = go (order x y) (total p q)
  where
    go : (x ≡ y) ⊎ ((x < y) ⊎ (y < x)) → (p ≡ q) ⊎ (Before p q ⊎ Before q p) → ((x ∷ p) ≡ (y ∷ q)) ⊎ (Before (x ∷ p) (y ∷ q) ⊎ Before (y ∷ q) (x ∷ p))
    go (inr (inl h)) k = inr (inl (inl h))
    go (inr (inr h)) k = inr (inr (inl h))
    go (inl e) (inl k) = inl (cc)
    go (inl e) (inr (inl k)) = inr (inl (inr (e, k)))
    go (inl e) (inr (inr k)) = inr (inr (inr (sym e, k)))

pub asymmetric : (p q : Path) → Before p q → Before q p → ⊥
asymmetric p q h k = irreflexive p (transitive p q p h k)

pub total_order : TotalOrder
total_order = record { irreflexive = irreflexive; asymmetric = asymmetric; transitive = transitive; total = total }

-- one behind the other
pub not_both : (p q : Path) → Before p q → UpTo q p → ⊥
not_both p q h (inl e) = irreflexive p (subst (Before p) e h)
not_both p q h (inr k) = asymmetric p q h k

pub upto_before : (p q r : Path) → UpTo p q → Before q r → Before p r
upto_before p q r (inl e) k = subst (λ x. Before x r) (sym e) k
upto_before p q r (inr h) k = transitive p q r h k

pub before_upto : (p q r : Path) → Before p q → UpTo q r → Before p r
before_upto p q r h (inl e) = subst (Before p) e h
before_upto p q r h (inr k) = transitive p q r h k

pub upto_trans : (p q r : Path) → UpTo p q → UpTo q r → UpTo p r
upto_trans p q r (inl e) k = subst (λ x. UpTo x r) (sym e) k
upto_trans p q r (inr h) k = inr (before_upto p q r h k)

-- not before is at or after
pub otherwise : (p q : Path) → (Before p q → ⊥) → UpTo q p
otherwise p q n = go (total p q)
  where
    go : (p ≡ q) ⊎ (Before p q ⊎ Before q p) → UpTo q p
    go (inl e) = inl (sym e)
    go (inr (inl h)) = absurd (n h)
    go (inr (inr h)) = inr h

-- Where a path stands by another, with all that extend it: before them, among them, or behind them
pub data Side (p q : Path) : Type 0 where
  left : ((r : Path) → Before q (p ++ r)) → Side p q
  under : (r : Path) → q ≡ p ++ r → Side p q
  right : ((r : Path) → Before (p ++ r) q) → Side p q

pub side : (p q : Path) → Side p q
side [] q = under q refl
side (x ∷ p) [] = left (λ r. tt)
side (x ∷ p) (y ∷ q) = go (order x y) (side p q)
  where
    go : (x ≡ y) ⊎ ((x < y) ⊎ (y < x)) → Side p q → Side (x ∷ p) (y ∷ q)
    go (inr (inl h)) k = right (λ r. inl h)
    go (inr (inr h)) k = left (λ r. inl h)
    go (inl e) (left h) = left (λ r. inr (sym e, h r))
    go (inl e) (under r k) = under r (cc)
    go (inl e) (right h) = right (λ r. inr (e, h r))

-- what begins alike goes by the rest
pub common : (p a b : Path) → Before (p ++ a) (p ++ b) → Before a b
common [] a b h = h
common (x ∷ p) a b (inl h) = let z : ⊥ = omega arith in absurd z
common (x ∷ p) a b (inr h) = common p a b h.1

pub joined : (p a b : Path) → Before a b → Before (p ++ a) (p ++ b)
joined [] a b h = h
joined (x ∷ p) a b h = inr (refl, joined p a b h)
