-- A term written field by field, turn by turn.
use Rattle.std.proofs.Common.{◌≡◌, ℕ, ◌+◌, ◌<◌, ◌≤◌, eqb, List, [], ◌∷◌, ◌++◌, length, Option, sym, refl, ap, ◌∙◌, subst, arith}
use Rattle.std.proofs.lemmas.List.{append_assoc, append-nil}
use Rattle.horn.specs.Terms.{Terms, node, nil, cons, join}
use Rattle.horn.specs.Answers.{note, through, throughs}
use Rattle.heap.specs.declared.cell.Cell.{Cell}
use Rattle.heap.specs.declared.cell.Cell.TheVariants.{Unbound, Ref, Node}
use Rattle.heap.specs.Heaps.{Heap, Sound, Closed, cell}
use Rattle.heap.specs.Solutions.{Naming, Valuation, Sol, Says, Root, span}
use Rattle.heap.proofs.HeapLaws.{node_within}
use Rattle.heap.proofs.SpanLaws.{size, span_size}
use Rattle.heap.proofs.Denotes.{stands, stands_sol}
use Rattle.answers.specs.declared.frame.Frame.{Frame}
use Rattle.answers.specs.Frames.{Stands, field_at, seen_at, frame_at, added, pending}
use Rattle.answers.specs.Streams.{written, writtens}
use Rattle.answers.specs.Numbering.{Numbered}
use Rattle.answers.proofs.FrameLaws.{Fits, Above, Chain, onward, depth, chain_added, chain_next}
use Rattle.answers.proofs.StreamLaws.{terms, cell_written, cell_seen, pending_push, pending_added, span_first}

-- what is done since the term at start was begun, and what is left: the term at `at` and those of the frames
pub record Moved (names : Naming) (H : Heap) (start : ℕ) (us : List ℕ) (Held : List ℕ → Type 0) (numbers : List (Option ℕ)) (seen at : ℕ) (fs : List Frame) : Type 0 where
  pub vs : List ℕ
  pub done : List ℕ
  pub held : Held done
  pub numbered : Numbered vs numbers seen
  pub bytes : (ρ : Valuation) → Stands names H ρ → written (ρ start) us ≡ done ++ writtens (cons (ρ at) (pending ρ fs nil)) vs
  pub seens : (ρ : Valuation) → Stands names H ρ → through (note eqb) (ρ start) us ≡ throughs (note eqb) (cons (ρ at) (pending ρ fs nil)) vs

pub moved_start : (names : Naming) (H : Heap) (start : ℕ) (us : List ℕ) (Held : List ℕ → Type 0) (numbers : List (Option ℕ)) (seen : ℕ) (fs : List Frame)
    → fs ≡ [] → Held [] → Numbered us numbers seen → Moved names H start us Held numbers seen start fs
moved_start names H start us Held numbers seen fs e h n = record {
  vs = us;
  done = [];
  held = h;
  numbered = n;
  bytes = λ ρ st. sym (append-nil (written (ρ start) us)) ∙ ap (λ gs. writtens (cons (ρ start) (pending ρ gs nil)) us) (sym e);
  seens = λ ρ st. ap (λ gs. throughs (note eqb) (cons (ρ start) (pending ρ gs nil)) us) (sym e);
}

-- the cell at r is where the references from `at` lead
module _ (names : Naming) (H : Heap) (at r : ℕ) (root : Root H at r) where
  -- the next field, and what it leaves
  module _ (ρ : Valuation) (st : Stands names H ρ) (rest : Terms ℕ) (vs : List ℕ) where
    pub field_bytes : writtens (cons (ρ at) rest) vs ≡ field_at names (cell H r) r vs ++ writtens (join (terms ρ (frame_at (cell H r) r)) rest) (seen_at (cell H r) r vs)
    field_bytes =
        ap (λ t. writtens (cons t rest) vs) (root.same names ρ st.solves)
        ∙ cell_written names ρ r rest vs (cell H r) root.rooted (st.solves r) (st.free r)

    pub field_seens : throughs (note eqb) (cons (ρ at) rest) vs ≡ throughs (note eqb) (join (terms ρ (frame_at (cell H r) r)) rest) (seen_at (cell H r) r vs)
    field_seens =
        ap (λ t. throughs (note eqb) (cons t rest) vs) (root.same names ρ st.solves)
        ∙ cell_seen names ρ r rest vs (cell H r) root.rooted (st.solves r) (st.free r)

  module _ (start : ℕ) (us : List ℕ) (Held : List ℕ → Type 0) (numbers : List (Option ℕ)) (seen : ℕ) (fs : List Frame) (m : Moved names H start us Held numbers seen at fs)
      (f : Frame) (is : f ≡ frame_at (cell H r) r) (gs : List Frame) (pushed : gs ≡ added f fs) where
    left : (ρ : Valuation) → pending ρ gs nil ≡ join (terms ρ (frame_at (cell H r) r)) (pending ρ fs nil)
    left ρ = ap (λ z. pending ρ z nil) pushed ∙ pending_added ρ fs f ∙ ap (λ z. join (terms ρ z) (pending ρ fs nil)) is

    half_bytes : (ρ : Valuation) → Stands names H ρ → written (ρ start) us ≡ (m.done ++ field_at names (cell H r) r m.vs) ++ writtens (pending ρ gs nil) (seen_at (cell H r) r m.vs)
    half_bytes ρ st =
        m.bytes ρ st
        ∙ ap (λ z. m.done ++ z) (field_bytes ρ st (pending ρ fs nil) m.vs ∙ ap (λ z. field_at names (cell H r) r m.vs ++ writtens z (seen_at (cell H r) r m.vs)) (sym (left ρ)))
        ∙ sym (append_assoc m.done (field_at names (cell H r) r m.vs) _)

    half_seens : (ρ : Valuation) → Stands names H ρ → through (note eqb) (ρ start) us ≡ throughs (note eqb) (pending ρ gs nil) (seen_at (cell H r) r m.vs)
    half_seens ρ st =
        m.seens ρ st
        ∙ field_seens ρ st (pending ρ fs nil) m.vs
        ∙ ap (λ z. throughs (note eqb) z (seen_at (cell H r) r m.vs)) (sym (left ρ))

    -- nothing is left
    pub moved_end : gs ≡ [] → (ρ : Valuation) → Stands names H ρ
        → (written (ρ start) us ≡ m.done ++ field_at names (cell H r) r m.vs) × (through (note eqb) (ρ start) us ≡ seen_at (cell H r) r m.vs)
    moved_end e ρ st = (
      half_bytes ρ st
          ∙ ap (λ z. (m.done ++ field_at names (cell H r) r m.vs) ++ writtens (pending ρ z nil) (seen_at (cell H r) r m.vs)) e
          ∙ append-nil (m.done ++ field_at names (cell H r) r m.vs),
      half_seens ρ st ∙ ap (λ z. throughs (note eqb) (pending ρ z nil) (seen_at (cell H r) r m.vs)) e,
    )

    -- a turn
    pub moved_on : (hs ks : List Frame) (top : Frame) → gs ≡ hs ++ top ∷ [] → 0 < top.left → ks ≡ added (onward top) hs
        → (Held' : List ℕ → Type 0) (numbers' : List (Option ℕ)) (seen' : ℕ) → Held' (m.done ++ field_at names (cell H r) r m.vs) → Numbered (seen_at (cell H r) r m.vs) numbers' seen'
        → Moved names H start us Held' numbers' seen' top.next ks
    moved_on hs ks top e some k Held' numbers' seen' h n =
        let next : (ρ : Valuation) → pending ρ gs nil ≡ cons (ρ top.next) (pending ρ ks nil) = λ ρ.
        ap (λ z. pending ρ z nil) e
        ∙ pending_push ρ hs top nil
        ∙ ap (λ z. join z (pending ρ hs nil)) (span_first ρ top.next top.left some)
        ∙ ap (cons (ρ top.next)) (sym (ap (λ z. pending ρ z nil) k ∙ pending_added ρ hs (onward top))) in
        record {
          vs = seen_at (cell H r) r m.vs;
          done = m.done ++ field_at names (cell H r) r m.vs;
          held = h;
          numbered = n;
          bytes = λ ρ st. half_bytes ρ st ∙ ap (λ z. (m.done ++ field_at names (cell H r) r m.vs) ++ writtens z (seen_at (cell H r) r m.vs)) (next ρ);
          seens = λ ρ st. half_seens ρ st ∙ ap (λ z. throughs (note eqb) z (seen_at (cell H r) r m.vs)) (next ρ);
        }

  -- sizes
  module _ (closed : Closed H) (ρ : Valuation) (sol : Sol names H ρ) where
    abbrev w : ℕ → ℕ
    w i = size (ρ i)

    frame_fits : 0 < (frame_at (cell H r) r).left → Fits w (length H) (frame_at (cell H r) r)
    frame_fits some = go (cell H r) refl some
      where
        go : (c : Cell) → cell H r ≡ c → 0 < (frame_at c r).left → Fits w (length H) (frame_at c r)
        go Unbound e l = absurd (omega arith)
        go (Ref k) e l = absurd (omega arith)
        go (Node f n b) e l =
            let says : ρ r ≡ node (names f) (span ρ b n) = subst (λ x. Says names x r ρ) e (sol r) in
            record {
              owned = root.within;
              some = l;
              within = node_within H closed r f n b e l;
              smaller = λ j lo hi. omega (arith, ap size says, span_size ρ b n j lo hi);
            }

    pub chain_pushed : (fs gs : List Frame) (f : Frame) → f ≡ frame_at (cell H r) r → gs ≡ added f fs → Chain w (length H) fs → Above w (w at) fs → Chain w (length H) gs
    chain_pushed fs gs f is k h a =
        let same : w at ≡ w r = ap size (root.same names ρ sol) in
        let owner : (frame_at (cell H r) r).owner ≡ r = owner_is (cell H r) in
        subst (Chain w (length H)) (sym (k ∙ ap (λ z. added z fs) is))
        (chain_added w (length H) fs (frame_at (cell H r) r) h frame_fits (subst (λ x. Above w x fs) (same ∙ ap w (sym owner)) a))
      where
        owner_is : (c : Cell) → (frame_at c r).owner ≡ r
        owner_is Unbound = refl
        owner_is (Ref k) = refl
        owner_is (Node f n b) = refl

-- a frame was pushed, in sound cells
module _ (names : Naming) (H : Heap) (sound : Sound H) (closed : Closed H) (at r : ℕ) (root : Root H at r) (fs gs : List Frame) (f : Frame) (is : f ≡ frame_at (cell H r) r) (pushed : gs ≡ added f fs)
    (chained : (ρ : Valuation) → Sol names H ρ → Chain (λ i. size (ρ i)) (length H) fs × Above (λ i. size (ρ i)) (size (ρ at)) fs) where
  abbrev weight : ℕ → ℕ
  weight i = size (stands names H sound i)

  chain : Chain weight (length H) gs
  chain =
      let sol = stands_sol names H sound in
      let before = chained (stands names H sound) sol in
      chain_pushed names H at r root closed (stands names H sound) sol fs gs f is pushed before.0 before.1

  -- there are no more frames than cells
  pub few : length gs ≤ length H
  few = depth weight (length H) gs chain

  -- the top frame has an argument left, and all that it has left are cells
  pub top_left : (hs : List Frame) (top : Frame) → gs ≡ hs ++ top ∷ [] → (0 < top.left) × (top.next + top.left ≤ length H)
  top_left hs top e = let fit = (chain_next weight (length H) hs gs _ top e refl chain).2 in (fit.some, fit.within)
