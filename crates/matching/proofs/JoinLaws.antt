-- Laws of a turn of matching.
use Rattle.std.proofs.Common.{◌≡◌, ℕ, ◌+◌, ◌<◌, Bool, true, false, ◌≢◌, List, [], ◌∷◌, ◌++◌, length, set, Result, Ok, Err, IsErr, is_ok, MatchBool, sym, refl, ap, ◌∙◌, subst, subst₂, arith, length-append, length-set}
use Rattle.std.proofs.lemmas.List.{length_push, nil_from_length}
use Rattle.std.proofs.ByRecursion.{All-append, All-push}
use Rattle.heap.specs.Heaps.{Heap, cell, Sound, Closed, Reach, Rooted, total, arity}
use Rattle.heap.specs.Solutions.{Naming, Valuation, Sol, Root, Apart}
use Rattle.heap.specs.declared.cell.Cell.{Cell}
use Rattle.heap.specs.declared.cell.Cell.TheVariants.{Unbound, Ref, Node}
use Rattle.heap.proofs.HeapLaws.{sound_ref, closed_ref, total_set, node_within, reach_free, reach_constant}
use Rattle.heap.proofs.SolutionLaws.{tells_ref, bind_into, bind_back, merge_into, merge_back, constants_same, occurs, apart_swap}
use Rattle.matching.specs.Unifies.{Unified, Agree, Inside, pair, rows, Joined, Unifying}
use Rattle.matching.specs.declared.pairs.Pair.{Pair}
use Rattle.matching.proofs.RowLaws.{all_left, all_right, rows_length, rows_inside, rows_agree, agree_rows}

-- from a root without arguments no other cell is reached
pub reach_none : (H : Heap) (i j : ℕ) → Rooted (cell H j) → arity (cell H j) ≡ 0 → i ≢ j → Reach H j i → ⊥
reach_none H i j root none ne = go (cell H j) refl root none
  where
    go : (c : Cell) → cell H j ≡ c → Rooted c → arity c ≡ 0 → Reach H j i → ⊥
    go Unbound e _ _ = reach_free H i j e ne
    go (Ref k) e r _ = absurd r
    go (Node f n q) e _ z = reach_constant H i j f q (e ∙ ap (λ x. Node f x q) z) ne

inside_set : (H : Heap) (i : ℕ) (c : Cell) (ps : List Pair) → Inside H ps → Inside (set H i c) ps
inside_set H i c ps h = rw length-set h

-- the cells i and j are roots, and other ones
module _ (H : Heap) (sound : Sound H) (closed : Closed H) (i j : ℕ) (li : i < length H) (lj : j < length H) (ps : List Pair) where
  pub joined_free : cell H i ≡ Unbound → (Reach H j i → ⊥) → Joined H ps i j (set H i (Ref j)) ps
  joined_free free away = record {
    sound = sound_ref H i j li sound away;
    closed = closed_ref H i j li lj closed;
    tells = λ names. tells_ref names H i j li;
    inside = inside_set H i (Ref j) ps;
    into = λ names ρ s a. let r = bind_into names H i j li free ρ s in (r.0, a, r.1);
    back = λ names ρ s a e. (bind_back names H i j li free ρ s e, a);
    falls = omega (arith, total_set arity H i (Ref j) li, ap arity free);
  }

  pub joined_nodes : (f n p q : ℕ) → cell H i ≡ Node f n p → cell H j ≡ Node f n q → j ≢ i → (Reach H j i → ⊥)
      → Joined H ps i j (set H i (Ref j)) (ps ++ rows p q n)
  joined_nodes f n p q at_i at_j ne away = record {
    sound = sound_ref H i j li sound away;
    closed = closed_ref H i j li lj closed;
    tells = λ names. tells_ref names H i j li;
    inside = λ h. All-append _ ps (rows p q n) (inside_set H i (Ref j) ps h)
        (rows_inside (set H i (Ref j)) p q n
        (λ pos. omega (arith, length-set H i (Ref j), node_within H closed i f n p at_i pos)) (λ pos. omega (arith, length-set H i (Ref j), node_within H closed j f n q at_j pos)));
    into = λ names ρ s a.
        let r = merge_into names H i j f n p q li ne at_i at_j ρ s (agree_rows ρ p q n (all_right _ ps (rows p q n) a)) in
        (r.0, all_left _ ps (rows p q n) a, r.1);
    back = λ names ρ s a e.
        let r = merge_back names H i j f n p q li ne at_i at_j ρ s e in
        (r.0, All-append _ ps (rows p q n) a (rows_agree ρ p q n r.1));
    falls = omega (arith, total_set arity H i (Ref j) li, ap arity at_i, length-append ps (rows p q n), rows_length p q n);
  }

  -- two constants of one symbol: nothing is left to do
  pub joined_constants : (f p q : ℕ) → cell H i ≡ Node f 0 p → cell H j ≡ Node f 0 q → Joined H ps i j H ps
  joined_constants f p q at_i at_j = record {
    sound = sound;
    closed = closed;
    tells = λ names t. t;
    inside = λ h. h;
    into = λ names ρ s a. (s, a, constants_same names H i j f p q ρ at_i at_j s);
    back = λ names ρ s a e. (s, a);
    falls = omega arith;
  }

pub constants : (H : Heap) (ps : List Pair) (i j f n p g m q : ℕ) → Sound H → Closed H → i < length H → j < length H
    → cell H i ≡ Node f n p → cell H j ≡ Node g m q → f ≡ g → n ≡ m → n ≡ 0 → Joined H ps i j H ps
constants H ps i j f n p g m q sound closed li lj at_i at_j fg nm z =
    joined_constants H sound closed i j li lj ps f p q (at_i ∙ ap (λ x. Node f x p) z)
    (at_j ∙ ap (λ x. Node x m q) (sym fg) ∙ ap (λ x. Node f x q) (sym nm ∙ z))

joined_swap : {H H' : Heap} {ps ps' : List Pair} {i j : ℕ} → Joined H ps j i H' ps' → Joined H ps i j H' ps'
joined_swap n = record {
  sound = n.sound;
  closed = n.closed;
  tells = n.tells;
  inside = n.inside;
  into = λ names ρ s g. let r = n.into names ρ s g in (r.0, r.1, sym r.2);
  back = λ names ρ s g e. n.back names ρ s g (sym e);
  falls = n.falls;
}

when_map : (P Q P' Q' : Type 0) (r : Bool) → (P → P') → (Q → Q') → MatchBool r P Q → MatchBool r P' Q'
when_map P Q P' Q' true f g h = f h
when_map P Q P' Q' false f g h = g h

-- where a part of matching fails, the whole does
pub refused : {T E : Type 0} (P Q : Type 0) (r : Result T E) → IsErr r → Q → MatchBool (is_ok r) P Q
refused P Q (Ok x) h q = absurd (cc)
refused P Q (Err e) h q = q

-- what `attach` says, and what it means where the first cell is unbound
pub attached_free : (H : Heap) (ps : List Pair) (i j : ℕ) (H' : Heap) (r : Bool) → Sound H → Closed H → i < length H → j < length H
    → cell H i ≡ Unbound → Rooted (cell H j) → i ≢ j → MatchBool r ((H' ≡ set H i (Ref j)) × (Reach H j i → ⊥)) ((H' ≡ H) × Reach H j i)
    → MatchBool r (Joined H ps i j H' ps) ((H' ≡ H) × Apart H i j)
attached_free H ps i j H' r sound closed li lj free root ne =
    when_map _ _ _ _ r (λ h. subst (λ x. Joined H ps i j x ps) (sym h.0) (joined_free H sound closed i j li lj ps free h.1)) (λ h. (h.0, occurs H i j root ne h.1))

pub attached_free_swapped : (H : Heap) (ps : List Pair) (i j : ℕ) (H' : Heap) (r : Bool) → Sound H → Closed H → i < length H → j < length H
    → cell H j ≡ Unbound → Rooted (cell H i) → i ≢ j → MatchBool r ((H' ≡ set H j (Ref i)) × (Reach H i j → ⊥)) ((H' ≡ H) × Reach H i j)
    → MatchBool r (Joined H ps i j H' ps) ((H' ≡ H) × Apart H i j)
attached_free_swapped H ps i j H' r sound closed li lj free root ne h =
    when_map _ _ _ _ r (λ n. joined_swap n) (λ n. (n.0, apart_swap H i j n.1)) (attached_free H ps j i H' r sound closed lj li free root (λ q. ne (sym q)) h)

pub attached_nodes : (H : Heap) (ps qs : List Pair) (i j : ℕ) (H' : Heap) (f n p g m q : ℕ) → Sound H → Closed H → i < length H → j < length H → i ≢ j
    → cell H i ≡ Node f n p → cell H j ≡ Node g m q → f ≡ g → n ≡ m
    → (H' ≡ set H i (Ref j)) × (Reach H j i → ⊥) → qs ≡ ps ++ rows p q n → Joined H ps i j H' qs
attached_nodes H ps qs i j H' f n p g m q sound closed li lj ne at_i at_j fg nm h e =
    let at_j' : cell H j ≡ Node f n q = at_j ∙ ap (λ x. Node x m q) (sym fg) ∙ ap (λ x. Node f x q) (sym nm) in
    subst₂ (Joined H ps i j) (sym h.0) (sym e) (joined_nodes H sound closed i j li lj ps f n p q at_i at_j' (λ x. ne (sym x)) h.1)

pub pair_inside : (H : Heap) {qs : List Pair} (ps : List Pair) (p : Pair) → qs ≡ ps ++ p ∷ [] → Inside H qs → (p.left < length H) × (p.right < length H)
pair_inside H ps p taken h = (all_right _ ps (p ∷ []) (subst (Inside H) taken h)).0

-- a turn, at the roots i and j of the pair that was taken
module _ {H₀ H : Heap} {a b : ℕ} {qs : List Pair} (ps : List Pair) (p : Pair) (i j : ℕ) (taken : qs ≡ ps ++ p ∷ [])
    (was : Unifying H₀ a b H qs) (ri : Root H p.left i) (rj : Root H p.right j) where
  pair_agrees : (names : Naming) (ρ : Valuation) → Sol names H₀ ρ → ρ a ≡ ρ b → Sol names H ρ × Agree ρ ps × (ρ i ≡ ρ j)
  pair_agrees names ρ s e =
      let r = was.back names ρ s e in
      let g : Agree ρ (ps ++ p ∷ []) = subst (Agree ρ) taken r.1 in
      (r.0, all_left _ ps (p ∷ []) g, sym (ri.same names ρ r.0) ∙ (all_right _ ps (p ∷ []) g).0 ∙ rj.same names ρ r.0)

  pair_into : (names : Naming) (ρ : Valuation) → Sol names H ρ → Agree ρ ps → ρ i ≡ ρ j → Sol names H₀ ρ × (ρ a ≡ ρ b)
  pair_into names ρ s g e =
      was.into names ρ s (subst (Agree ρ) (sym taken) (All-push _ ps p g (ri.same names ρ s ∙ e ∙ sym (rj.same names ρ s))))

  pub fewer_pairs : total arity H + length ps < total arity H₀ + 1
  fewer_pairs = omega (arith, was.few, ap length taken, length_push ps p)

  -- they are one cell
  pub turn_same : i ≡ j → Unifying H₀ a b H ps
  turn_same e = record {
    sound = was.sound;
    closed = was.closed;
    tells = was.tells;
    inside = all_left _ ps (p ∷ []) (subst (Inside H) taken was.inside);
    into = λ names ρ s g. pair_into names ρ s g (ap ρ e);
    back = λ names ρ s q. let r = pair_agrees names ρ s q in (r.0, r.1);
    few = omega (arith, fewer_pairs);
  }

  pub turn_joined : {H' : Heap} {ps' : List Pair} → Joined H ps i j H' ps' → Unifying H₀ a b H' ps'
  turn_joined n = record {
    sound = n.sound;
    closed = n.closed;
    tells = λ names t. n.tells names (was.tells names t);
    inside = n.inside (all_left _ ps (p ∷ []) (subst (Inside H) taken was.inside));
    into = λ names ρ s g. let r = n.into names ρ s g in pair_into names ρ r.0 r.1 r.2;
    back = λ names ρ s q. let r = pair_agrees names ρ s q in n.back names ρ r.0 r.1 r.2;
    few = omega (arith, fewer_pairs, n.falls);
  }

  pub turn_apart : Apart H i j → Apart H₀ a b
  turn_apart apart names ρ t s e = let r = pair_agrees names ρ s e in apart names ρ (was.tells names t) r.0 r.2

pub unifying_none : (H : Heap) (a b : ℕ) (ps : List Pair) → Sound H → Closed H → a < length H → b < length H → ps ≡ pair a b ∷ [] → Unifying H a b H ps
unifying_none H a b ps sound closed la lb e =
    subst (Unifying H a b H) (sym e) (record {
      sound = sound;
      closed = closed;
      tells = λ names t. t;
      inside = ((la, lb), tt);
      into = λ names ρ s g. (s, g.0);
      back = λ names ρ s q. (s, (q, tt));
      few = omega arith;
    })

pub unifying_all : {H₀ H : Heap} {a b : ℕ} {ps : List Pair} → length ps ≡ 0 → Unifying H₀ a b H ps → Unified H₀ H a b
unifying_all {H₀} {H} {a} {b} {ps} none was =
    let u : Unifying H₀ a b H [] = subst (Unifying H₀ a b H) (nil_from_length ps none) was in
    record {
      sound = u.sound;
      closed = u.closed;
      tells = u.tells;
      into = λ names ρ s. u.into names ρ s tt;
      back = λ names ρ s e. (u.back names ρ s e).0;
    }
