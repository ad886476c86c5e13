-- Laws of the trail.
use Rattle.std.proofs.Common.{◌≡◌, ℕ, ◌<◌, ◌≤◌, List, [], ◌∷◌, ◌++◌, length, take, drop, set, sym, refl, ap, ◌∙◌, subst, append_assoc, append-nil, arith, length-append, length-set}
use native.Mathlib.Decide.{ℕ_discrete}
use Rattle.std.specs.List.{AllByRecursion}
use Rattle.std.proofs.lemmas.List.{set-set, set-get_or, drop-append-le, take-append-le, length_push, take_all, drop_all, drop_at, take_at}
use Rattle.std.proofs.ByRecursion.{All-append}
use Rattle.heap.specs.Heaps.{Heap, cell, Rooted, total, plain, arity}
use Rattle.heap.specs.declared.cell.Cell.{Cell}
use Rattle.heap.specs.declared.cell.Cell.TheVariants.{Unbound, Ref, Node}
use Rattle.heap.proofs.HeapLaws.{total_set, cell_other, cell_same}
use Rattle.matching.specs.Trails.{undone, InTrail, Kept, Undoing}
use Rattle.matching.specs.declared.trail.Bound.{Bound}
use Rattle.matching.proofs.RowLaws.{all_left, all_right}

pub undone_append : (t u : List Bound) (H : Heap) → undone (t ++ u) H ≡ undone t (undone u H)
undone_append [] u H = refl
undone_append (b ∷ t) u H = ap (λ x. set x b.at b.was) (undone_append t u H)

pub undone_length : (t : List Bound) (H : Heap) → length (undone t H) ≡ length H
undone_length [] H = refl
undone_length (b ∷ t) H = length-set (undone t H) b.at b.was ∙ undone_length t H

pub kept_none : (H : Heap) (t : List Bound) → Kept H t H t
kept_none H t = record {
  added = [];
  longer = sym (append-nil t);
  back = refl;
  long = refl;
  inside = tt;
  bound = omega arith;
  fewer = omega arith;
  nodes = λ i f n b e. e;
}

-- what is no reference may be bound
pub plain_one : (c : Cell) → Rooted c → plain c ≡ 1
plain_one Unbound r = refl
plain_one (Ref k) r = absurd r
plain_one (Node f n b) r = refl

pub bind_room : (H : Heap) (i : ℕ) → i < length H → Rooted (cell H i) → 0 < total plain H
bind_room H i lt root = omega (arith, total_set plain H i (Ref 0) lt, plain_one (cell H i) root)

-- one binding
pub kept_one : (H : Heap) (t t' : List Bound) (i j : ℕ) → i < length H → Rooted (cell H i)
    → t' ≡ t ++ record { at = i; was = cell H i } ∷ [] → Kept H t (set H i (Ref j)) t'
kept_one H t t' i j lt root e = record {
  added = record { at = i; was = cell H i } ∷ [];
  longer = e;
  back = set-set H i (Ref j) (cell H i) ∙ set-get_or H i Unbound;
  long = length-set H i (Ref j);
  inside = (lt, tt);
  bound = omega (arith, ap length e, length_push t (record { at = i; was = cell H i }), total_set plain H i (Ref j) lt, plain_one (cell H i) root);
  fewer = omega (arith, total_set arity H i (Ref j) lt);
  nodes = λ k f n b e.
      elim (ℕ_discrete k i) [
        | yes q ↦ (let r : cell (set H i (Ref j)) k ≡ Ref j = ap (cell (set H i (Ref j))) q ∙ cell_same H i (Ref j) lt in let z : ◌≡◌ {A = ℕ} 0 1 = cc in absurd (omega arith))
        | no ne ↦ sym (cell_other H i k (Ref j) ne) ∙ e
      ];
}

pub kept_trans : {H H' H'' : Heap} {t t' t'' : List Bound} → Kept H t H' t' → Kept H' t' H'' t'' → Kept H t H'' t''
kept_trans {H} {H'} {H''} {t} {t'} {t''} p q = record {
  added = p.added ++ q.added;
  longer = q.longer ∙ ap (λ x. x ++ q.added) p.longer ∙ append_assoc t p.added q.added;
  back = undone_append p.added q.added H'' ∙ ap (undone p.added) q.back ∙ p.back;
  long = q.long ∙ p.long;
  inside = All-append _ p.added q.added p.inside (subst (λ n. AllByRecursion (λ b. b.at < n) q.added) p.long q.inside);
  bound = omega (arith, p.bound, q.bound);
  fewer = omega (arith, p.fewer, q.fewer);
  nodes = λ i f n b e. p.nodes i f n b (q.nodes i f n b e);
}

all_last : {X : Type 0} (P : X → Type 0) (xs : List X) (y : X) → AllByRecursion P (xs ++ y ∷ []) → AllByRecursion P xs × P y
all_last P xs y h = (all_left P xs (y ∷ []) h, (all_right P xs (y ∷ []) h).0)

pub undoing_none : (H : Heap) (t : List Bound) (mark : ℕ) → InTrail H (drop mark t) → mark ≤ length t → Undoing H t mark H t
undoing_none H t mark inside marked = record { inside = inside; marked = marked; same = refl; front = refl }

module _ {H₀ H : Heap} {t₀ t : List Bound} {mark : ℕ} (t' : List Bound) (b : Bound) (taken : t ≡ t' ++ b ∷ []) (more : mark < length t) (was : Undoing H₀ t₀ mark H t) where
  undo_room : mark ≤ length t'
  undo_room = omega (arith, ap length taken, length_push t' b)

  undo_cut : drop mark t ≡ drop mark t' ++ b ∷ []
  undo_cut = ap (drop mark) taken ∙ drop-append-le mark t' (b ∷ []) undo_room

  pub undo_within : b.at < length H
  undo_within = (all_last _ (drop mark t') b (subst (InTrail H) undo_cut was.inside)).1

  pub undoing_more : Undoing H₀ t₀ mark (set H b.at b.was) t'
  undoing_more = record {
    inside = rw length-set (all_last _ (drop mark t') b (subst (InTrail H) undo_cut was.inside)).0;
    marked = undo_room;
    same = sym (undone_append (drop mark t') (b ∷ []) H) ∙ ap (λ x. undone x H) (sym undo_cut) ∙ was.same;
    front = sym (ap (take mark) taken ∙ take-append-le mark t' (b ∷ []) undo_room) ∙ was.front;
  }

pub undoing_all : {H₀ H : Heap} {t₀ t : List Bound} {mark : ℕ} → length t ≤ mark → Undoing H₀ t₀ mark H t → (H ≡ undone (drop mark t₀) H₀) × (t ≡ take mark t₀)
undoing_all {H₀} {H} {t₀} {t} {mark} done was =
    (ap (λ x. undone x H) (sym (drop_all mark t done)) ∙ was.same, sym (take_all mark t done) ∙ was.front)

-- what matching added is taken back
module _ {H H' : Heap} {t t' : List Bound} (k : Kept H t H' t') (n : ℕ) (e : n ≡ length t) where
  kept_cut : drop n t' ≡ k.added
  kept_cut = ap (drop n) k.longer ∙ drop_at t k.added n (sym e)

  pub kept_inside : InTrail H' (drop n t')
  kept_inside = subst (InTrail H') (sym kept_cut) (subst (λ m. AllByRecursion (λ b. b.at < m) k.added) (sym k.long) k.inside)

  pub kept_back : undone (drop n t') H' ≡ H
  kept_back = ap (λ x. undone x H') kept_cut ∙ k.back

  pub kept_front : take n t' ≡ t
  kept_front = ap (take n) k.longer ∙ take_at t k.added n (sym e)

  pub kept_longer : n ≤ length t'
  kept_longer = omega (arith, ap length k.longer, length-append t k.added)
