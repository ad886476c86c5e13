-- Laws of stacks in arrays, and of each word.
use Rattle.std.proofs.Common.{◌≡◌, ℕ, zero, suc, ◌+◌, ◌-◌, ◌<◌, ◌≤◌, List, [], ◌∷◌, ◌++◌, length, get_or, take, drop, reverse, set, None, sym, refl, ap, ◌∙◌, subst, ap₂, inl, inr, add-one, append_assoc, append-nil, arith, length-drop, get_or-set_other, get_or-set_same}
use Rattle.std.proofs.Math.Seq.{drop-append_seam}
use Rattle.std.proofs.lemmas.List.{drop_all, get_or-reverse, length-reverse, reverse-append, take-append-drop}
use Rattle.horn.specs.Terms.{var}
use Rattle.heap.proofs.PushLaws.{closed_none}
use Rattle.heap.specs.Heaps.{Heap}
use Rattle.heap.specs.declared.cell.Cell.TheVariants.{Node}
use Rattle.entering.specs.declared.goal.Goal.{Goal}
use Rattle.entering.specs.Turns.{Slots, Stands}
use Rattle.posing.specs.declared.pieces.Piece.{Piece}
use Rattle.posing.specs.declared.pieces.Piece.TheVariants.{Constant, Variable, Structure, Goal as Asks}
use Rattle.posing.specs.declared.pieces.Entry.{Entry}
use Rattle.posing.specs.declared.pieces.Entry.TheVariants.{Constant as Atom, Variable as Slot, Cell as Place}
use Rattle.posing.specs.Stacks.{Waiting, Posing, entry_at, Seating}
use Rattle.posing.specs.Queries.{Fit, FitOne, waits, asked, weighs}
use Rattle.posing.specs.Starts.{from_top, Builds, Started}
use Rattle.posing.proofs.PoseLaws.{posing_none, posing_constant, posing_variable, posing_goal, posing_structure}

module _ {X : Type 0} (d : X) where
  pub top_length : (xs : List X) (n : ℕ) → length (from_top d xs n) ≡ n
  top_length xs zero = refl
  top_length xs (suc n) = ap suc (top_length xs n)

  top_set : (xs : List X) (n m : ℕ) (x : X) → n ≤ m → from_top d (set xs m x) n ≡ from_top d xs n
  top_set xs zero m x le = refl
  top_set xs (suc n) m x le = ap₂ (λ (y : X) (ys : List X). y ∷ ys) (get_or-set_other xs m n x d (λ e. omega arith)) (top_set xs n m x (omega arith))

  pub top_push : (xs : List X) (n : ℕ) (x : X) → n < length xs → from_top d (set xs n x) (n + 1) ≡ x ∷ from_top d xs n
  top_push xs n x lt =
      ap (from_top d (set xs n x)) (add-one n) ∙ ap₂ (λ (y : X) (ys : List X). y ∷ ys) (get_or-set_same xs n x d lt) (top_set xs n n x (omega arith))

-- an entry that is added, and those that are left below the n at the top
pub pushed : (items items' : List Entry) (e : Entry) → items' ≡ items ++ e ∷ [] → reverse items' ≡ e ∷ reverse items
pushed items items' e q = ap reverse q ∙ reverse-append items (e ∷ [])

pub from_end : (items xs : List Entry) (count k : ℕ) → xs ≡ items → count ≡ length items → k < length items → get_or xs (count - 1 - k) (Atom 0) ≡ entry_at (reverse items) k
from_end items xs count k xe ce lt =
    ap (λ z. get_or z (count - 1 - k) (Atom 0)) xe ∙ ap (λ m. get_or items (m - 1 - k) (Atom 0)) ce ∙ sym (get_or-reverse items k (Atom 0) lt)

pub left_below : (items : List Entry) (n : ℕ) → n ≤ length items → reverse (take (length items - n) items) ≡ drop n (reverse items)
left_below items n le =
    let m = length items - n in
    let front = take m items in
    let taken = drop m items in
    let parted : reverse items ≡ reverse taken ++ reverse front = ap reverse (sym (take-append-drop m items)) ∙ reverse-append front taken in
    let size : length (reverse taken) ≡ n = length-reverse taken ∙ length-drop m items ∙ omega arith in
    sym (ap (drop n) parted ∙ ap (λ z. drop z (reverse taken ++ reverse front)) (sym size) ∙ drop-append_seam (reverse taken) (reverse front))

module _ (table : List ℕ) (H : Heap) (S : Slots) (items : List Entry) (p : Piece) (fit : FitOne table (length S) (length items) p) (G : List Goal) where
  pub builds_constant : (c : ℕ) → p ≡ Constant c → (items' : List Entry) → items' ≡ items ++ Atom c ∷ [] → Builds table p H S (reverse items) G H S (reverse items') G
  builds_constant c e items' q S₀ ps was =
      let h = subst (FitOne table (length S) (length items)) e fit in
      subst (λ z. Posing table S₀ (z ∷ ps) H S (reverse items') G) (sym e)
      (subst (λ es. Posing table S₀ (Constant c ∷ ps) H S es G) (sym (pushed items items' (Atom c) q)) (posing_constant table S₀ ps H S (reverse items) G was c h.0 h.1))

  pub builds_variable : (y : ℕ) → p ≡ Variable y → (items' : List Entry) → items' ≡ items ++ Slot y ∷ [] → Builds table p H S (reverse items) G H S (reverse items') G
  builds_variable y e items' q S₀ ps was =
      subst (λ z. Posing table S₀ (z ∷ ps) H S (reverse items') G) (sym e)
      (subst (λ es. Posing table S₀ (Variable y ∷ ps) H S es G) (sym (pushed items items' (Slot y) q))
      (posing_variable table S₀ ps H S (reverse items) G was y (subst (FitOne table (length S) (length items)) e fit)))

  -- the cells of the arguments have been made
  module _ (f n : ℕ) (H₁ : Heap) (S₁ : Slots) (same : length S₁ ≡ length S) (b : Seating table H S (entry_at (reverse items)) n H₁ S₁) (i : ℕ) (first : i ≡ length H) (items₁ : List Entry)
      (left : reverse items₁ ≡ drop n (reverse items)) where
    pub builds_goal : p ≡ Asks f n → Builds table p H S (reverse items) G H₁ S₁ (reverse items₁) (record { symbol = f; arity = n; first = i } ∷ G)
    builds_goal e S₀ ps was =
        let h = subst (FitOne table (length S) (length items)) e fit in
        subst (λ z. Posing table S₀ (z ∷ ps) H₁ S₁ (reverse items₁) (record { symbol = f; arity = n; first = i } ∷ G)) (sym e)
        (subst (λ es. Posing table S₀ (Asks f n ∷ ps) H₁ S₁ es (record { symbol = f; arity = n; first = i } ∷ G)) (sym left)
        (posing_goal table S₀ ps H S (reverse items) G was f n h.0 h.1 (omega (arith, h.2, length-reverse items)) same b.long b.turned b.kept b.given (record { symbol = f; arity = n; first = i })
        (ap (λ (z : ℕ). record { symbol = f; arity = n; first = z }) first)))

    pub builds_structure : p ≡ Structure f n → (j : ℕ) → j ≡ length H₁ → (H₂ : Heap) → H₂ ≡ H₁ ++ Node f n i ∷ [] → (items₂ : List Entry) → items₂ ≡ items₁ ++ Place j ∷ []
        → Builds table p H S (reverse items) G H₂ S₁ (reverse items₂) G
    builds_structure e j ej H₂ eh items₂ q S₀ ps was =
        let h = subst (FitOne table (length S) (length items)) e fit in
        let es : reverse items₂ ≡ Place (length H₁) ∷ drop n (reverse items) = pushed items₁ items₂ (Place j) q ∙ ap₂ (λ (z : ℕ) (ys : List Entry). Place z ∷ ys) ej left in
        subst (λ z. Posing table S₀ (z ∷ ps) H₂ S₁ (reverse items₂) G) (sym e)
        (subst (λ xs. Posing table S₀ (Structure f n ∷ ps) H₂ S₁ xs G) (sym es)
        (subst (λ X. Posing table S₀ (Structure f n ∷ ps) X S₁ (Place (length H₁) ∷ drop n (reverse items)) G) (sym (eh ∙ ap (λ z. H₁ ++ Node f n z ∷ []) first))
        (posing_structure table S₀ ps H S (reverse items) G was f n h.0 h.1 (omega (arith, h.2, length-reverse items)) same b.long b.turned b.kept b.given)))

-- the words that are left
fit_one : (table : List ℕ) (m : ℕ) (p : Piece) (ps : List Piece) → Fit table m (p ∷ ps) → FitOne table m (waits ps) p × Fit table m ps
fit_one table m (Constant c) ps h = ((h.0, h.1), h.2)
fit_one table m (Variable y) ps h = (h.0, h.1)
fit_one table m (Structure f n) ps h = ((h.0, h.1, h.2), h.3)
fit_one table m (Asks f n) ps h = ((h.0, h.1, h.2), h.3)

fit_drop : (table : List ℕ) (m i : ℕ) (ps : List Piece) → Fit table m ps → Fit table m (drop i ps)
fit_drop table m zero ps h = h
fit_drop table m (suc i) [] h = tt
fit_drop table m (suc i) (p ∷ ps) h = fit_drop table m i ps (fit_one table m p ps h).1

costs : (p : Piece) (ps : List Piece) → (weighs ps ≤ weighs (p ∷ ps)) × (asked (p ∷ ps) ≡ asked (p ∷ []) + asked ps)
costs (Constant c) ps = (omega arith, omega arith)
costs (Variable y) ps = (omega arith, omega arith)
costs (Structure f n) ps = (omega arith, omega arith)
costs (Asks f n) ps = (omega arith, omega arith)

drop_costs : (i : ℕ) (ps : List Piece) → (weighs (drop i ps) ≤ weighs ps) × (asked (drop i ps) ≤ asked ps)
drop_costs zero ps = (omega arith, omega arith)
drop_costs (suc i) [] = (omega arith, omega arith)
drop_costs (suc i) (p ∷ ps) = let r = drop_costs i ps in let c = costs p ps in (omega (arith, r.0, c.0), omega (arith, r.1, c.1))

weighs_more : (p : Piece) (ps : List Piece) → weighs (p ∷ ps) ≡ weighs (p ∷ []) + weighs ps
weighs_more (Constant c) ps = omega arith
weighs_more (Variable y) ps = omega arith
weighs_more (Structure f n) ps = omega arith
weighs_more (Asks f n) ps = omega arith

-- the last of the words that are not done yet
module _ (pieces rest rest' : List Piece) (p : Piece) (cut : rest ++ drop (length rest) pieces ≡ pieces) (last : rest ≡ rest' ++ p ∷ []) where
  abbrev done : List Piece
  done = drop (length rest) pieces

  whole : rest' ++ p ∷ done ≡ pieces
  whole = sym (append_assoc rest' (p ∷ []) done) ∙ ap (λ xs. xs ++ done) (sym last) ∙ cut

  pub piece_before : drop (length rest') pieces ≡ p ∷ done
  piece_before = ap (drop (length rest')) (sym whole) ∙ drop-append_seam rest' (p ∷ done)

  pub cut_before : rest' ++ drop (length rest') pieces ≡ pieces
  cut_before = ap (λ xs. rest' ++ xs) piece_before ∙ whole

  pub fit_before : (table : List ℕ) (m n : ℕ) → Fit table m pieces → n ≡ waits done → FitOne table m n p
  fit_before table m n h e = subst (λ z. FitOne table m z p) (sym e) (fit_one table m p done (subst (Fit table m) piece_before (fit_drop table m (length rest') pieces h))).0

  pub costs_before : (weighs (p ∷ []) + weighs done ≤ weighs pieces) × (asked (p ∷ done) ≤ asked pieces)
  costs_before =
      let d = drop_costs (length rest') pieces in
      (omega (arith, weighs_more p done, ap weighs piece_before, d.0), omega (arith, ap asked piece_before, d.1))

no_wait : (y : ℕ) (es : List Entry) → length es ≡ 0 → Waiting y es → ⊥
no_wait y [] e w = w
no_wait y (x ∷ es) e w = absurd (omega arith)

-- the whole query
pub started : (table : List ℕ) (S₀ : Slots) (ps : List Piece) (H : Heap) (S : Slots) (es : List Entry) (G : List Goal) → ((y : ℕ) → get_or S₀ y None ≡ None) → length es ≡ 0 → Posing table S₀ ps H S es G → Started table ps H S G
started table S₀ ps H S es G empty none p = record {
  stands = p.turned.stands;
  goods = p.goods;
  paid = omega (arith, p.paid);
  placed = λ y o. elim (p.placed y o) [ inl w ↦ absurd (no_wait y es none w) | inr h ↦ h ];
  into = λ s names ρ σ h f. (p.turned.into s names ρ σ h f).2.1;
  back = λ s names σ.
      let r = p.turned.back s names var σ (λ i. tt) (λ y i e. let n = empty y in let z : ◌≡◌ {A = ℕ} 0 1 = cc in absurd (omega arith)) tt in
      (r.0, r.2, r.3);
}

pub stands_empty : (table : List ℕ) (S : Slots) → ((y : ℕ) → get_or S y None ≡ None) → Stands table [] S
stands_empty table S empty = record {
  closed = closed_none;
  typed = λ i f n b e. let z : ◌≡◌ {A = ℕ} 0 1 = cc in absurd (omega arith);
  inside = λ y i e. let n = empty y in let z : ◌≡◌ {A = ℕ} 0 1 = cc in absurd (omega arith);
}

pub posing_first : (table : List ℕ) (S : Slots) (pieces rest : List Piece) (H : Heap) (items : List Entry) → ((y : ℕ) → get_or S y None ≡ None) → rest ≡ pieces → H ≡ [] → items ≡ []
    → (rest ++ drop (length rest) pieces ≡ pieces) × Posing table S (drop (length rest) pieces) H S (reverse items) []
posing_first table S pieces rest H items empty er eh ei =
    let none : drop (length rest) pieces ≡ [] = ap (λ xs. drop (length xs) pieces) er ∙ drop_all (length pieces) pieces (omega arith) in (
      ap (λ xs. rest ++ xs) none ∙ append-nil rest ∙ er,
      subst (λ ps. Posing table S ps H S (reverse items) []) (sym none)
          (subst (λ X. Posing table S [] X S (reverse items) []) (sym eh) (subst (λ es. Posing table S [] [] S es []) (sym (ap reverse ei)) (posing_none table S (stands_empty table S empty)))),
    )
