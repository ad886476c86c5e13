-- What the rules give, word by word.
use Rattle.std.proofs.Common.{◌≡◌, ℕ, zero, suc, ◌<◌, ◌≤◌, Bool, true, false, cond, ◌&&◌, eqb, leb, List, [], ◌∷◌, map, length, get_or, Some, None, Option, sym, refl, ap, ◌∙◌, inl, inr, arith}
use Rattle.std.proofs.lemmas.Bool.{and_parts, or_cases, eqb-true, leb-true}
use Rattle.code.specs.declared.instructions.Instruction.{Instruction}
use Rattle.code.specs.declared.rules.Rule.{Rule}
use Rattle.code.specs.declared.rules.Rule.TheVariants.{Ranges, Frame, Order, Structures, Slots, Arguments, Key}
use Rattle.code.specs.Instructions.{sets, reads}
use Rattle.code.specs.Words.{decode, opcode, first, second}
use Rattle.code.specs.Tests.{every, each_at, is, below, total}
use Rattle.code.specs.Rules.{builds, set_before, ready, opened, legal, ranged, allowed, v1, v2, v3, v4, v5, v6, v7, broken}
use Rattle.code.specs.Table.{found}
use Rattle.code.specs.WellFormed.{Kept, WellFormed, word_at}
use Rattle.code.proofs.WordLaws.{never}
use Rattle.code.proofs.RangeLaws.{all_ranged}

-- no rule is broken only if all are kept
step : (rule : Rule) (kept : Bool) (next : Option Rule) → cond kept next (Some rule) ≡ None → (kept ≡ true) × (next ≡ None)
step rule true next e = (refl, e)
step rule false next e = cc

pub kept : (arities : List ℕ) (predicate key : ℕ) (ws : List ℕ) → broken arities predicate key ws ≡ None → Kept arities predicate key ws
kept ar p k ws e =
    let code = map decode ws in
    let a = step Ranges (v1 ar ws) _ e in
    let b = step Frame (v2 code) _ a.1 in
    let c = step Order (v3 code) _ b.1 in
    let d = step Structures (v4 ar code) _ c.1 in
    let f = step Slots (v5 (opened ws) ar code) _ d.1 in
    let g = step Arguments (v6 (get_or ar p 0) ar code) _ f.1 in
    let h = step Key (v7 k code) _ g.1 in
    record { v1_kept = a.0; v2_kept = b.0; v3_kept = c.0; v4_kept = d.0; v5_kept = f.0; v6_kept = g.0; v7_kept = h.0 }

-- by place
every_at : (p : Instruction → Bool) (ws : List ℕ) (i : ℕ) → every p (map decode ws) ≡ true → i < length ws → p (word_at ws i) ≡ true
every_at p [] i h l = absurd (omega arith)
every_at p (w ∷ ws) zero h l = (and_parts (p (decode w)) (every p (map decode ws)) h).0
every_at p (w ∷ ws) (suc i) h l = every_at p ws i (and_parts (p (decode w)) (every p (map decode ws)) h).1 (omega arith)

each_at_word : (p : ℕ → Instruction → Bool) (ws : List ℕ) (i : ℕ) → each_at p (map decode ws) ≡ true → i < length ws → p i (word_at ws i) ≡ true
each_at_word p [] i h l = absurd (omega arith)
each_at_word p (w ∷ ws) zero h l = (and_parts (p 0 (decode w)) (each_at (λ j. p (suc j)) (map decode ws)) h).0
each_at_word p (w ∷ ws) (suc i) h l = each_at_word (λ j. p (suc j)) ws i (and_parts (p 0 (decode w)) (each_at (λ j. p (suc j)) (map decode ws)) h).1 (omega arith)

pub is_some : (o : Option ℕ) (y : ℕ) → is o y ≡ true → o ≡ Some y
is_some None y e = never e
is_some (Some z) y e = ap Some (eqb-true z y e)

-- a slot that is set before word j was set by an earlier word
pub set_earlier : (ar ws : List ℕ) (y j : ℕ) → set_before ar (map decode ws) y j ≡ true → (k : ℕ) × ((k < j) × (sets (word_at ws k) ≡ Some y))
set_earlier ar [] y j h = never h
set_earlier ar (w ∷ ws) y zero h = never h
set_earlier ar (w ∷ ws) y (suc j) h =
    elim (or_cases (is (sets (decode w)) y && leb (builds ar (decode w)) j) (set_before ar (map decode ws) y j) h) [
      | inl a ↦ (0, (omega arith, is_some (sets (decode w)) y (and_parts (is (sets (decode w)) y) (leb (builds ar (decode w)) j) a).0))
      | inr b ↦ let ih = set_earlier ar ws y j b in (suc ih.0, (omega (arith, ih.1.0), ih.1.1))
    ]

-- the slots that a legal first word opens
few_at : (n : ℕ) (ar : List ℕ) (w : ℕ) → legal n ar w ≡ true → opcode w ≡ 1 → first w ≤ 128
few_at n ar w h e =
    leb-true (first w) 128 (and_parts (leb (first w) 128) (eqb (second w) 0) (ap (λ o. allowed n ar (found o) (first w) (second w)) (sym e) ∙ h)).0

few_opened : (ar ws : List ℕ) → v1 ar ws ≡ true → opened ws ≤ 128
few_opened ar [] h = omega arith
few_opened ar (w ∷ ws) h = go (eqb (opcode w) 1) refl
  where
    l : legal (opened (w ∷ ws)) ar w ≡ true
    l = (and_parts (legal (opened (w ∷ ws)) ar w) (every (legal (opened (w ∷ ws)) ar) ws) h).0

    go : (t : Bool) → eqb (opcode w) 1 ≡ t → cond t (first w) 0 ≤ 128
    go true e = few_at (opened (w ∷ ws)) ar w l (eqb-true (opcode w) 1 e)
    go false e = omega arith

pub well_formed : (arities : List ℕ) (predicate key : ℕ) (ws : List ℕ) → Kept arities predicate key ws → WellFormed arities ws
well_formed ar p k ws h =
    record {
      few = few_opened ar ws h.v1_kept;
      ranges = λ i l. every_at (ranged (opened ws) ar) ws i (all_ranged ar ws h.v1_kept) l;
      earlier = λ i y l e. set_earlier ar ws y i (ready_at i y l e);
    }
  where
    parts : below (opened ws) (λ y. eqb (total (λ w. is (sets w) y) (map decode ws)) 1) ≡ true × each_at (λ j w. ready ar (map decode ws) j (reads w)) (map decode ws) ≡ true
    parts = and_parts (below (opened ws) (λ y. eqb (total (λ w. is (sets w) y) (map decode ws)) 1)) (each_at (λ j w. ready ar (map decode ws) j (reads w)) (map decode ws)) h.v5_kept

    ready_at : (i y : ℕ) → i < length ws → reads (word_at ws i) ≡ Some y → set_before ar (map decode ws) y i ≡ true
    ready_at i y l e = ap (ready ar (map decode ws) i) (sym e) ∙ each_at_word (λ j w. ready ar (map decode ws) j (reads w)) ws i parts.1 l
