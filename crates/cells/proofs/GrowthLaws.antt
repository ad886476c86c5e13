-- Laws of the way back.
use Rattle.std.proofs.Common.{◌≡◌, ℕ, zero, suc, ◌<◌, ◌≤◌, Bool, true, false, cond, ltb, List, [], ◌∷◌, ◌++◌, map, length, take, drop, set, sym, refl, ap, ◌∙◌, subst, subst₂, append_assoc, append-nil, arith, length-append}
use Rattle.std.specs.List.{AllByRecursion}
use Rattle.std.proofs.lemmas.List.{length_push, take_all, take-take, drop_all, take_at, drop_at, drop-append-le}
use Rattle.std.proofs.ByRecursion.{All-append}
use Rattle.heap.specs.Limits.{cell_limit}
use Rattle.heap.specs.Heaps.{Heap}
use Rattle.heap.specs.declared.cell.Cell.{Cell}
use Rattle.heap.specs.declared.cell.Cell.TheVariants.{Ref, Node}
use Rattle.matching.specs.Trails.{undone, InTrail, Kept}
use Rattle.matching.specs.declared.trail.Bound.{Bound}
use Rattle.matching.proofs.TrailLaws.{undone_append}
use Rattle.cells.specs.States.{Fine}
use Rattle.cells.specs.Growth.{grown, fits, structured, Grew, Saves}

take_set : {X : Type 0} (n : ℕ) (xs : List X) (i : ℕ) (v : X) → take n (set xs i v) ≡ set (take n xs) i v
take_set zero [] i v = refl
take_set zero (x ∷ xs) zero v = refl
take_set zero (x ∷ xs) (suc i) v = refl
take_set (suc n) [] i v = refl
take_set (suc n) (x ∷ xs) zero v = refl
take_set (suc n) (x ∷ xs) (suc i) v = ap (λ ys. x ∷ ys) (take_set n xs i v)

pub trail_wider : (H H' : Heap) (t : List Bound) → length H ≤ length H' → InTrail H t → InTrail H' t
trail_wider H H' [] h a = tt
trail_wider H H' (b ∷ t) h a = (omega (arith, a.0), trail_wider H H' t h a.1)

pub take_undone : (n : ℕ) (t : List Bound) (H : Heap) → take n (undone t H) ≡ undone t (take n H)
take_undone n [] H = refl
take_undone n (b ∷ t) H = take_set n (undone t H) b.at b.was ∙ ap (λ X. set X b.at b.was) (take_undone n t H)

-- where the first m cells are looked at, bindings are taken back on all
pub take_undone_first : (n m : ℕ) (t : List Bound) (H : Heap) → n ≤ m → take n (undone t H) ≡ take n (undone t (take m H))
take_undone_first n m t H h = take_undone n t H ∙ ap (undone t) (sym (take-take n m H h)) ∙ sym (take_undone n t (take m H))

pub grew_none : (H : Heap) (t : List Bound) → Grew H t H t
grew_none H t = record { added = []; longer = sym (append-nil t); back = take_all (length H) H (omega arith); more = omega arith; inside = tt }

pub grew_push : (H : Heap) (t : List Bound) (c : Cell) → Grew H t (H ++ c ∷ []) t
grew_push H t c = record {
  added = [];
  longer = sym (append-nil t);
  back = take_at H (c ∷ []) (length H) refl;
  more = omega (arith, length_push H c);
  inside = tt;
}

pub grew_grown : (H : Heap) (t : List Bound) (c : Cell) → Grew H t (grown H c) t
grew_grown H t c = go (ltb (length H) cell_limit)
  where
    go : (b : Bool) → Grew H t (cond b (H ++ c ∷ []) H) t
    go true = grew_push H t c
    go false = grew_none H t

-- as the pushes say it
pub grew_by : {H H' : Heap} {t t' : List Bound} (c : Cell) → H' ≡ grown H c → t' ≡ t → Grew H t H' t'
grew_by {H} {H'} {t} {t'} c e f = subst₂ (Grew H t) (sym e) (sym f) (grew_grown H t c)

grew_append : (H : Heap) (t : List Bound) (G : Heap) → Grew H t (H ++ G) t
grew_append H t G = record {
  added = [];
  longer = sym (append-nil t);
  back = take_at H G (length H) refl;
  more = omega (arith, length-append H G);
  inside = tt;
}

pub grew_structured : {H H' : Heap} {t t' : List Bound} (f : ℕ) (args : List ℕ) → H' ≡ cond (fits H args) (structured H f args) H → t' ≡ t → Grew H t H' t'
grew_structured {H} {H'} {t} {t'} f args e q = subst₂ (Grew H t) (sym e) (sym q) (go (fits H args))
  where
    go : (b : Bool) → Grew H t (cond b (structured H f args) H) t
    go true = subst (λ X. Grew H t X t) (sym (append_assoc H (map Ref args) (Node f (length args) (length H) ∷ []))) (grew_append H t (map Ref args ++ Node f (length args) (length H) ∷ []))
    go false = grew_none H t

pub grew_kept : {H H' : Heap} {t t' : List Bound} → Kept H t H' t' → Grew H t H' t'
grew_kept {H} {H'} {t} {t'} k = record {
  added = k.added;
  longer = k.longer;
  back = ap (take (length H)) k.back ∙ take_all (length H) H (omega arith);
  more = omega (arith, k.long);
  inside = subst (λ n. AllByRecursion (λ b. b.at < n) k.added) (sym k.long) k.inside;
}

pub grew_trans : {H H' H'' : Heap} {t t' t'' : List Bound} → Grew H t H' t' → Grew H' t' H'' t'' → Grew H t H'' t''
grew_trans {H} {H'} {H''} {t} {t'} {t''} p q = record {
  added = p.added ++ q.added;
  longer = q.longer ∙ ap (λ x. x ++ q.added) p.longer ∙ append_assoc t p.added q.added;
  back = ap (take (length H)) (undone_append p.added q.added H'') ∙ take_undone (length H) p.added (undone q.added H'')
      ∙ ap (undone p.added) (sym (take-take (length H) (length H') (undone q.added H'') p.more) ∙ ap (take (length H)) q.back)
      ∙ sym (take_undone (length H) p.added H') ∙ p.back;
  more = omega (arith, p.more, q.more);
  inside = All-append _ p.added q.added (trail_wider H' H'' p.added q.more p.inside) q.inside;
}

-- where it leads
module _ {H H' : Heap} {t t' : List Bound} (g : Grew H t H' t') where
  pub grew_cells : take (length H) (undone (drop (length t) t') H') ≡ H
  grew_cells = ap (λ x. take (length H) (undone x H')) (ap (drop (length t)) g.longer ∙ drop_at t g.added (length t) refl) ∙ g.back

  pub grew_trail : take (length t) t' ≡ t
  grew_trail = ap (take (length t)) g.longer ∙ take_at t g.added (length t) refl

-- this state may be come back to, from here and from every state that grew from it
pub saves_now : (H : Heap) (t : List Bound) → Fine H (length t) → Saves H t (length t) (length H)
saves_now H t f =
    let none : drop (length t) t ≡ [] = drop_all (length t) t (omega arith) in
    record {
      marked = omega arith;
      lower = omega arith;
      inside = subst (InTrail H) (sym none) tt;
      fine = subst (λ X. Fine X (length t)) (sym (ap (λ x. take (length H) (undone x H)) none ∙ take_all (length H) H (omega arith))) f;
    }

pub saves_grew : {H H' : Heap} {t t' : List Bound} {mark top : ℕ} → Saves H t mark top → Grew H t H' t' → Saves H' t' mark top
saves_grew {H} {H'} {t} {t'} {mark} {top} s g =
    let cut : drop mark t' ≡ drop mark t ++ g.added = ap (drop mark) g.longer ∙ drop-append-le mark t g.added s.marked in
    let same : take top (undone (drop mark t') H') ≡ take top (undone (drop mark t) H) =
    ap (λ x. take top (undone x H')) cut ∙ ap (take top) (undone_append (drop mark t) g.added H') ∙ take_undone top (drop mark t) (undone g.added H')
    ∙ ap (undone (drop mark t)) (sym (take-take top (length H) (undone g.added H') s.lower) ∙ ap (take top) g.back)
    ∙ sym (take_undone top (drop mark t) H) in
    record {
      marked = omega (arith, s.marked, ap length g.longer, length-append t g.added);
      lower = omega (arith, s.lower, g.more);
      inside = subst (InTrail H') (sym cut)
          (All-append _ (drop mark t) g.added (trail_wider H H' (drop mark t) g.more s.inside) g.inside);
      fine = subst (λ X. Fine X mark) (sym same) s.fine;
    }
