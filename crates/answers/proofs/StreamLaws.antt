-- What a cell's first field leaves to be written.
use Rattle.std.proofs.Common.{◌≡◌, ℕ, zero, suc, ◌+◌, ◌-◌, ◌<◌, Bool, true, false, cond, eqb, List, [], ◌∷◌, ◌++◌, sym, refl, ap, ◌∙◌, ap₂, arith}
use Rattle.std.proofs.lemmas.List.{append_assoc}
use Rattle.std.proofs.lemmas.Bool.{eqb-true}
use Rattle.horn.specs.Terms.{Terms, var, nil, cons, count, join}
use Rattle.horn.specs.Notation.{field, word_for}
use Rattle.horn.specs.Answers.{note, through, throughs}
use Rattle.heap.specs.declared.cell.Cell.{Cell}
use Rattle.heap.specs.declared.cell.Cell.TheVariants.{Unbound, Ref, Node}
use Rattle.heap.specs.Heaps.{Rooted}
use Rattle.heap.specs.Solutions.{Naming, Valuation, Says, span}
use Rattle.answers.specs.declared.frame.Frame.{Frame}
use Rattle.answers.specs.Frames.{field_at, seen_at, frame_at, added, pending}
use Rattle.answers.specs.Streams.{written, writtens}

count_span : (ρ : Valuation) (i n : ℕ) → count (span ρ i n) ≡ n
count_span ρ i zero = refl
count_span ρ i (suc n) = ap suc (count_span ρ (suc i) n)

pub writtens_join : (ts us : Terms ℕ) (vs : List ℕ) → writtens (join ts us) vs ≡ writtens ts vs ++ writtens us (throughs (note eqb) ts vs)
writtens_join nil us vs = refl
writtens_join (cons t ts) us vs =
    ap (λ z. written t vs ++ z) (writtens_join ts us (through (note eqb) t vs)) ∙ sym (append_assoc (written t vs) _ _)

pub throughs_join : (ts us : Terms ℕ) (vs : List ℕ) → throughs (note eqb) (join ts us) vs ≡ throughs (note eqb) us (throughs (note eqb) ts vs)
throughs_join nil us vs = refl
throughs_join (cons t ts) us vs = throughs_join ts us (through (note eqb) t vs)

-- the terms of the frame's cells
abbrev pub terms : Valuation → Frame → Terms ℕ
terms ρ f = span ρ f.next f.left

module _ (names : Naming) (ρ : Valuation) (i : ℕ) (rest : Terms ℕ) (vs : List ℕ) where
  pub cell_written : (c : Cell) → Rooted c → Says names c i ρ → (c ≡ Unbound → ρ i ≡ var i)
      → writtens (cons (ρ i) rest) vs ≡ field_at names c i vs ++ writtens (join (terms ρ (frame_at c i)) rest) (seen_at c i vs)
  cell_written Unbound r s free = ap (λ t. writtens (cons t rest) vs) (free refl)
  cell_written (Ref k) r s free = absurd r
  cell_written (Node f n b) r s free =
      ap (λ t. writtens (cons t rest) vs) s
      ∙ ap (λ m. ((44 ∷ field (word_for (names f) m)) ++ writtens (span ρ b n) vs) ++ writtens rest (throughs (note eqb) (span ρ b n) vs)) (count_span ρ b n)
      ∙ append_assoc (44 ∷ field (word_for (names f) n)) _ _
      ∙ ap (λ z. (44 ∷ field (word_for (names f) n)) ++ z) (sym (writtens_join (span ρ b n) rest vs))

  pub cell_seen : (c : Cell) → Rooted c → Says names c i ρ → (c ≡ Unbound → ρ i ≡ var i)
      → throughs (note eqb) (cons (ρ i) rest) vs ≡ throughs (note eqb) (join (terms ρ (frame_at c i)) rest) (seen_at c i vs)
  cell_seen Unbound r s free = ap (λ t. throughs (note eqb) (cons t rest) vs) (free refl)
  cell_seen (Ref k) r s free = absurd r
  cell_seen (Node f n b) r s free = ap (λ t. throughs (note eqb) (cons t rest) vs) s ∙ sym (throughs_join (span ρ b n) rest vs)

pub pending_push : (ρ : Valuation) (fs : List Frame) (g : Frame) (rest : Terms ℕ) → pending ρ (fs ++ g ∷ []) rest ≡ join (terms ρ g) (pending ρ fs rest)
pending_push ρ [] g rest = refl
pending_push ρ (f ∷ fs) g rest = pending_push ρ fs g (join (terms ρ f) rest)

pub pending_added : (ρ : Valuation) (fs : List Frame) (g : Frame) → pending ρ (added g fs) nil ≡ join (terms ρ g) (pending ρ fs nil)
pending_added ρ fs g = go (eqb g.left 0) refl
  where
    go : (t : Bool) → eqb g.left 0 ≡ t → pending ρ (cond t fs (fs ++ g ∷ [])) nil ≡ join (terms ρ g) (pending ρ fs nil)
    go true e = ap (λ n. join (span ρ g.next n) (pending ρ fs nil)) (sym (eqb-true g.left 0 e))
    go false e = pending_push ρ fs g nil

-- the first of a frame's terms, and the others
pub span_first : (ρ : Valuation) (i n : ℕ) → 0 < n → span ρ i n ≡ cons (ρ i) (span ρ (i + 1) (n - 1))
span_first ρ i zero h = absurd (omega arith)
span_first ρ i (suc n) h =
    let a : suc i ≡ i + 1 = omega arith in
    let b : n ≡ suc n - 1 = omega arith in
    ap₂ (λ j m. cons (ρ i) (span ρ j m)) a b
