-- Writing one text after another.
use Rattle.std.proofs.Common.{◌≡◌, ℕ, suc, ◌+◌, ◌<◌, ◌≤◌, List, [], ◌∷◌, ◌++◌, length, take, drop, set, sym, ap, ◌∙◌, ap₂, arith}
use Rattle.std.proofs.lemmas.List.{append_assoc, length-append, length-take-le, length-drop, take_at, drop_at, drop-drop, set_split, take-append-drop}
use Rattle.text.specs.Buffers.{wrote}

pub length_wrote : (out : List ℕ) (at : ℕ) (bs : List ℕ) → at + length bs ≤ length out → length (wrote out at bs) ≡ length out
length_wrote out at bs h =
    length-append (take at out) (bs ++ drop (at + length bs) out)
    ∙ omega (arith, length-take-le at out (omega arith), length-append bs (drop (at + length bs) out), length-drop (at + length bs) out)

pub wrote_none : (out : List ℕ) (at : ℕ) → wrote out at [] ≡ out
wrote_none out at = ap (λ k. take at out ++ drop k out) {x = at + 0} {y = at} (omega arith) ∙ take-append-drop at out

pub wrote_one : (out : List ℕ) (at b : ℕ) → at < length out → set out at b ≡ wrote out at (b ∷ [])
wrote_one out at b h = set_split out at b h ∙ ap (λ k. take at out ++ b ∷ drop k out) {x = suc at} {y = at + 1} (omega arith)

pub wrote_more : (out : List ℕ) (at : ℕ) (xs ys : List ℕ) → at + length xs ≤ length out → wrote (wrote out at xs) (at + length xs) ys ≡ wrote out at (xs ++ ys)
wrote_more out at xs ys h =
    let front = take at out ++ xs in
    let size : length front ≡ at + length xs = length-append (take at out) xs ∙ omega (arith, length-take-le at out (omega arith)) in
    let is : wrote out at xs ≡ front ++ drop (at + length xs) out = sym (append_assoc (take at out) xs (drop (at + length xs) out)) in
    let t : take (at + length xs) (wrote out at xs) ≡ front = ap (take (at + length xs)) is ∙ take_at front (drop (at + length xs) out) (at + length xs) size in
    let d : drop (at + length xs + length ys) (wrote out at xs) ≡ drop (at + length (xs ++ ys)) out =
    sym (drop-drop (length ys) (at + length xs) (wrote out at xs))
    ∙ ap (drop (length ys)) (ap (drop (at + length xs)) is ∙ drop_at front (drop (at + length xs) out) (at + length xs) size)
    ∙ drop-drop (length ys) (at + length xs) out
    ∙ ap (λ k. drop k out) (omega (arith, length-append xs ys)) in
    ap₂ (λ (x z : List ℕ). x ++ (ys ++ z)) t d
    ∙ append_assoc (take at out) xs (ys ++ drop (at + length (xs ++ ys)) out)
    ∙ ap (λ z. take at out ++ z) (sym (append_assoc xs ys (drop (at + length (xs ++ ys)) out)))
