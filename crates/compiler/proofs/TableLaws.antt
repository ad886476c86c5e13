-- The tables of a line, as they are filled.
use Rattle.std.proofs.Common.{◌≡◌, ℕ, zero, suc, ◌+◌, ◌-◌, ◌<◌, ◌≤◌, ◌≢◌, List, [], ◌∷◌, ◌++◌, length, get_or, take, set, sym, refl, ap, ◌∙◌, subst, add-one, arith, get_or-set_other, get_or-set_same}
use native.Mathlib.Decide.{ℕ_discrete}
use mathlib.Core.List.{map-append}
use Rattle.std.proofs.Math.Seq.{get_or-append_seam}
use Rattle.std.proofs.lemmas.List.{get_or-map, length-map, get_or_append_left}
use Rattle.horn.specs.Terms.{count}
use Rattle.symbol_table.specs.Symbols.{Signature, arity_at}
use Rattle.compiler.specs.Terms.{hop}
use Rattle.compiler.specs.Reading.{Whole}
use Rattle.compiler.specs.Places.{Plan, width, Run, Ends}
use Rattle.compiler.specs.Lines.{plan, structures, Numbered}
use Rattle.compiler.specs.Tables.{items_of, ends_of, slots_of, table, laid}
use Rattle.compiler.proofs.PlaceLaws.{run_up, run_within}
use Rattle.compiler.proofs.ReadLaws.{stack, run_there}
use Rattle.compiler.specs.declared.flat.Flat.{Flat}
use Rattle.compiler.specs.declared.flat.Place.{Place}
use Rattle.compiler.specs.declared.items.Item.{Item}
use Rattle.compiler.specs.declared.items.Item.TheVariants.{Atom, Structure, Variable}

hop_suc : (e : ℕ → ℕ) (k j : ℕ) → hop e (suc k) j ≡ e (hop e k j)
hop_suc e zero j = refl
hop_suc e (suc k) j = hop_suc e k (e j)

pub hop_more : (e : ℕ → ℕ) (k j : ℕ) → hop e (k + 1) j ≡ e (hop e k j)
hop_more e k j = ap (λ n. hop e n j) (add-one k) ∙ hop_suc e k j

pub run_at : (e : ℕ → ℕ) (end n j m k : ℕ) → Run e end n j m → k < n → hop e k j < end
run_at e end zero j m k r h = absurd (omega arith)
run_at e end (suc n) j m zero r h = r.0
run_at e end (suc n) j m (suc k) r h = run_at e end n (e j) m k r.1 (omega arith)

pub run_hop : (e : ℕ → ℕ) (end n j m : ℕ) → Run e end n j m → m ≡ hop e n j
run_hop e end zero j m r = sym r
run_hop e end (suc n) j m r = run_hop e end n (e j) m r.1

-- a run, with its number and its end as the code has them
pub run_own : (e : ℕ → ℕ) (end n j m k : ℕ) → Run e end n j m → k ≡ n → Run e end k j (hop e k j)
run_own e end n j m k r q = subst (λ x. Run e end x j (hop e x j)) (sym q) (subst (λ x. Run e end n j x) (run_hop e end n j m r) r)

pub run_to : (e : ℕ → ℕ) (end n j m k : ℕ) → Run e end n j (hop e n j) → k ≡ n → m ≡ hop e k j → Run e end n j m
run_to e end n j m k r q is = subst (λ x. Run e end n j x) (sym (is ∙ ap (λ x. hop e x j) q)) r

pub whole_at : (sig : Signature) (ts : List Item) (i : ℕ) → Whole sig ts → i < length ts → width sig (get_or ts i (Atom 0)) ≤ count (stack sig ts (suc i))
whole_at sig [] i w lt = absurd (omega arith)
whole_at sig (Atom c ∷ ts) zero w lt = omega arith
whole_at sig (Structure f ∷ ts) zero w lt = w.0
whole_at sig (Variable v ∷ ts) zero w lt = omega arith
whole_at sig (Atom c ∷ ts) (suc i) w lt = whole_at sig ts i w (omega arith)
whole_at sig (Structure f ∷ ts) (suc i) w lt = whole_at sig ts i w.1 (omega arith)
whole_at sig (Variable v ∷ ts) (suc i) w lt = whole_at sig ts i w (omega arith)

module _ {p : Plan} {lo : ℕ} (ends : Ends p lo) (e : ℕ → ℕ) (same : (k : ℕ) → lo ≤ k → e k ≡ p.after k) where
  run_same : (n j m : ℕ) → lo ≤ j → Run p.after p.size n j m → Run e p.size n j m
  run_same zero j m low r = r
  run_same (suc n) j m low r =
      let f = ends.forth j low r.0 in
      (r.0, subst (λ x. Run e p.size n x m) (sym (same j low)) (run_same n (p.after j) m (omega arith) r.1))

module _ (sig : Signature) (ts : List Item) (es ss : List ℕ) (i : ℕ) (whole : Whole sig ts) (ends : Ends (plan sig ts es ss) (i + 1)) (lt : i < length ts) where
  abbrev wd : ℕ
  wd = width sig (get_or ts i (Atom 0))

  abbrev stop : ℕ
  stop = hop (table es) wd (i + 1)

  pub next_run : Run (table es) (length ts) wd (i + 1) stop
  next_run = run_there sig ts es ss (i + 1) ends wd (i + 1) (omega arith) (subst (λ k. wd ≤ count (stack sig ts k)) (sym (add-one i)) (whole_at sig ts i whole lt))

  module _ (long : length es ≡ length ts) where
    other : (k : ℕ) → i + 1 ≤ k → table (set es i stop) k ≡ table es k
    other k h = let ne : k ≢ i = omega arith in get_or-set_other es i k stop 0 ne

    this : table (set es i stop) i ≡ stop
    this = get_or-set_same es i stop 0 (omega arith)

    pub ends_more : Ends (plan sig ts (set es i stop) ss) i
    ends_more = record {
      forth = λ k lo hi.
          elim (ℕ_discrete k i) [
            | yes q ↦ omega (arith, ap (table (set es i stop)) q, this, run_up ends wd (i + 1) stop (omega arith) next_run)
            | no ne ↦ omega (arith, other k (omega arith), ends.forth k (omega arith) hi)
          ];
      within = λ k lo hi.
          elim (ℕ_discrete k i) [
            | yes q ↦ omega (arith, ap (table (set es i stop)) q, this, run_within ends wd (i + 1) stop (omega arith) next_run (omega arith))
            | no ne ↦ omega (arith, other k (omega arith), ends.within k (omega arith) hi)
          ];
      runs = λ k lo hi.
          elim (ℕ_discrete k i) [
            | yes q ↦
                subst (λ x. Run (table (set es i stop)) (length ts) (width sig (get_or ts x (Atom 0))) (suc x) (table (set es i stop) x)) (sym q)
                (subst (λ x. Run (table (set es i stop)) (length ts) wd (suc i) x) (sym this)
                (subst (λ x. Run (table (set es i stop)) (length ts) wd x stop) (add-one i) (run_same ends (table (set es i stop)) other wd (i + 1) stop (omega arith) next_run)))
            | no ne ↦
                subst (λ x. Run (table (set es i stop)) (length ts) (width sig (get_or ts k (Atom 0))) (suc k) x) (sym (other k (omega arith)))
                (run_same ends (table (set es i stop)) other (width sig (get_or ts k (Atom 0))) (suc k) (table es k) (omega arith) (ends.runs k (omega arith) hi))
          ];
    }

-- the same turn, as the code has it: i is one more than the place that is filled
module _ (sig : Signature) (ts : List Item) (es ss : List ℕ) (i w : ℕ) (whole : Whole sig ts) (ends : Ends (plan sig ts es ss) i) (some : 0 < i) (lt : i ≤ length ts)
    (long : length es ≡ length ts) (wide : w ≡ width sig (get_or ts (i - 1) (Atom 0))) where
  ends_back : Ends (plan sig ts es ss) (i - 1 + 1)
  ends_back = let q : i ≡ i - 1 + 1 = omega arith in subst (λ k. Ends (plan sig ts es ss) k) q ends

  pub turn_run : Run (table es) (length ts) w (i - 1 + 1) (hop (table es) w (i - 1 + 1))
  turn_run = subst (λ n. Run (table es) (length ts) n (i - 1 + 1) (hop (table es) n (i - 1 + 1))) (sym wide) (next_run sig ts es ss (i - 1) whole ends_back (omega arith))

  pub turn_ends : (r : ℕ) → r ≡ hop (table es) w (i - 1 + 1) → Ends (plan sig ts (set es (i - 1) r) ss) (i - 1)
  turn_ends r q =
      subst (λ x. Ends (plan sig ts (set es (i - 1) x) ss) (i - 1)) (sym (q ∙ ap (λ n. hop (table es) n (i - 1 + 1)) wide))
      (ends_more sig ts es ss (i - 1) whole ends_back (omega arith) long)

pub numbered_at : (n : ℕ) (ts : List Item) (i v : ℕ) → Numbered n ts → get_or ts i (Atom 0) ≡ Variable v → v < n
numbered_at n [] i v num q = let z : ◌≡◌ {A = ℕ} 0 1 = cc in absurd (omega arith)
numbered_at n (Atom c ∷ ts) zero v num q = let z : ◌≡◌ {A = ℕ} 0 1 = cc in absurd (omega arith)
numbered_at n (Structure f ∷ ts) zero v num q = let z : ◌≡◌ {A = ℕ} 0 1 = cc in absurd (omega arith)
numbered_at n (Variable w ∷ ts) zero v num q = let z : w ≡ v = cc in subst (λ x. x < n) z num.0
numbered_at n (Atom c ∷ ts) (suc i) v num q = numbered_at n ts i v num q
numbered_at n (Structure f ∷ ts) (suc i) v num q = numbered_at n ts i v num q
numbered_at n (Variable w ∷ ts) (suc i) v num q = numbered_at n ts i v num.1 q

-- the terms of a structure stand after it
pub structure_run : (p : Plan) → Ends p 0 → (i f : ℕ) → i < p.size → p.tok i ≡ Structure f → Run p.after p.size (arity_at p.sig f) (i + 1) (hop p.after (arity_at p.sig f) (i + 1))
structure_run p ends i f lt is =
    let r = ends.runs i (omega arith) lt in
    let q = subst (λ k. Run p.after p.size (width p.sig k) (suc i) (p.after i)) is r in
    subst (λ j. Run p.after p.size (arity_at p.sig f) j (hop p.after (arity_at p.sig f) j)) (sym (add-one i))
    (subst (λ m. Run p.after p.size (arity_at p.sig f) (suc i) m) (run_hop p.after p.size (arity_at p.sig f) (suc i) (p.after i) q) q)

-- what stands at a place
module _ (ps : List Place) (i : ℕ) (d : Place) (lt : i < length ps) where
  pub item_at : get_or (items_of ps) i (Atom 0) ≡ (get_or ps i d).item
  item_at = get_or-map (λ p. p.item) ps i d (Atom 0) lt

  pub after_at : table (ends_of ps) i ≡ (get_or ps i d).after
  after_at = get_or-map (λ p. p.after) ps i d 0 lt

  pub slot_at : table (slots_of ps) i ≡ (get_or ps i d).slot
  slot_at = get_or-map (λ p. p.slot) ps i d 0 lt

pub places_long : (ps : List Place) → length (items_of ps) ≡ length ps
places_long ps = length-map ps (λ p. p.item)

-- one place more
pub places_more : (ps : List Place) (p : Place) → (items_of (ps ++ p ∷ []) ≡ items_of ps ++ p.item ∷ []) × (slots_of (ps ++ p ∷ []) ≡ slots_of ps ++ p.slot ∷ [])
places_more ps p = (map-append (λ p. p.item) ps (p ∷ []), map-append (λ p. p.slot) ps (p ∷ []))

pub slots_more : (vars : ℕ) (ts : List Item) (ss : List ℕ) (i y : ℕ) → length ss ≡ i → y ≡ vars + structures (take i ts)
    → ((k : ℕ) → k < i → get_or ss k 0 ≡ vars + structures (take k ts)) → (k : ℕ) → k < i + 1 → get_or (ss ++ y ∷ []) k 0 ≡ vars + structures (take k ts)
slots_more vars ts ss i y long is was k below =
    elim (ℕ_discrete k i) [
      | yes q ↦ ap (λ x. get_or (ss ++ y ∷ []) x 0) (q ∙ sym long) ∙ get_or-append_seam ss y [] 0 ∙ is ∙ ap (λ x. vars + structures (take x ts)) (sym q)
      | no ne ↦ get_or_append_left ss (y ∷ []) 0 k (omega arith) ∙ was k (omega arith)
    ]

-- a place, as it is laid out
module _ (l : Flat) (i : ℕ) (lt : i < length l.places.now) where
  pub laid_within : i < (laid l).size
  laid_within = subst (λ n. i < n) (sym (places_long l.places.now)) lt

  pub laid_item : (d : Place) (k : Item) → (get_or l.places.now i d).item ≡ k → (laid l).tok i ≡ k
  laid_item d k is = item_at l.places.now i d lt ∙ is
