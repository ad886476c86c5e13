-- Laws of a query that is built from the right.
use Rattle.std.proofs.Common.{◌≡◌, ℕ, zero, suc, ◌+◌, ◌<◌, ◌≤◌, ◌⊎◌, List, [], ◌∷◌, ◌++◌, length, get_or, drop, Some, None, Option, sym, refl, ap, ◌∙◌, subst, ap₂, inl, inr, arith, length-drop, get_or-set_other, get_or-set_same}
use borrow.Author.Count.{below_more}
use native.Mathlib.Decide.{dec_lt, ℕ_discrete}
use Rattle.std.specs.List.{AllByRecursion}
use Rattle.std.proofs.lemmas.List.{length_push}
use Rattle.std.proofs.ByRecursion.{All-weaker}
use Rattle.horn.specs.Terms.{node, nil, cons, front, back}
use Rattle.heap.specs.Heaps.{Heap, arity}
use Rattle.heap.specs.Solutions.{Valuation, span}
use Rattle.heap.specs.declared.cell.Cell.TheVariants.{Ref, Node}
use Rattle.cells.specs.States.{Fine}
use Rattle.cells.specs.Growth.{Spare}
use Rattle.cells.proofs.StateLaws.{spare_none, spare_push}
use Rattle.code.specs.declared.instructions.Operand.TheVariants.{Known, Constant as Fixed}
use Rattle.code.specs.Meaning.{Symbols, Terming}
use Rattle.entering.specs.declared.goal.Goal.{Goal}
use Rattle.entering.specs.Goals.{worth, Good}
use Rattle.entering.specs.Turns.{Slots, Nothing, Stands, Turned, slot_set}
use Rattle.entering.proofs.TurnLaws.{turned_map, turned_then, turned_still, turned_push}
use Rattle.entering.proofs.OperandLaws.{turned_made}
use Rattle.entering.proofs.StepLaws.{goods_more}
use Rattle.entry.proofs.StructureLaws.{slot_arity}
use Rattle.posing.specs.declared.pieces.Piece.{Piece}
use Rattle.posing.specs.declared.pieces.Piece.TheVariants.{Constant, Variable, Structure, Goal as Asks}
use Rattle.posing.specs.declared.pieces.Entry.{Entry}
use Rattle.posing.specs.declared.pieces.Entry.TheVariants.{Constant as Atom, Variable as Slot, Cell as Place}
use Rattle.posing.specs.Queries.{stack}
use Rattle.posing.specs.Stacks.{term, terms_of, Laid, Sits, Reads, seated, seated_slots, Has, Waiting, Posing, Seating}

-- a cell for an entry
pub turned_seated : (table : List ℕ) (H : Heap) (S : Slots) (e : Entry) → Stands table H S → Sits table (length S) (length H) e
    → Turned table H S Nothing (λ s ρ σ. ρ (length H) ≡ term s ρ σ e) (H ++ seated S e ∷ []) (seated_slots S e (length H))
turned_seated table H S (Atom c) st h = turned_made table H S st (Fixed c) h
turned_seated table H S (Slot y) st h = turned_made table H S st (Known y) h
turned_seated table H S (Place i) st h = turned_push table H S (Ref i) st (λ j q. omega arith) (λ f n b q. let z : ◌≡◌ {A = ℕ} 0 1 = cc in absurd (omega arith))

pub laid_none : (table : List ℕ) (H : Heap) (S : Slots) (en : ℕ → Entry) → Stands table H S → Turned table H S Nothing (Laid (length H) en 0) H S
laid_none table H S en st = turned_still table H S Nothing (Laid (length H) en 0) st (λ s n ρ σ h f j l. absurd (omega arith))

pub laid_more : (table : List ℕ) (en : ℕ → Entry) {H H₁ H₂ : Heap} {S S₁ S₂ : Slots} (k : ℕ) → length H₁ ≡ length H + k → Turned table H S Nothing (Laid (length H) en k) H₁ S₁
    → Turned table H₁ S₁ Nothing (λ s ρ σ. ρ (length H₁) ≡ term s ρ σ (en k)) H₂ S₂ → Turned table H S Nothing (Laid (length H) en (k + 1)) H₂ S₂
laid_more table en {H} {H₁} k long first second =
    turned_then table Nothing (Laid (length H) en k) Nothing Nothing first (λ s n ρ σ d. tt) (λ s n ρ τ σ same h f e d. tt)
    (λ s ρ σ. ρ (length H₁) ≡ term s ρ σ (en k)) (Laid (length H) en (k + 1)) second
    (λ s n ρ σ h f e d. below_more (λ j. ρ (length H + j) ≡ term s ρ σ (en j)) k e (ap ρ (sym long) ∙ d))

-- the first n entries, and the others
laid_front : (s : Symbols) (ρ : Valuation) (σ : Terming) (n : ℕ) (es : List Entry) (b : ℕ) → n ≤ length es → ((j : ℕ) → j < n → ρ (b + j) ≡ term s ρ σ (get_or es j (Atom 0))) → span ρ b n ≡ front n (terms_of s ρ σ es)
laid_front s ρ σ zero es b le h = refl
laid_front s ρ σ (suc n) [] b le h = absurd (omega arith)
laid_front s ρ σ (suc n) (e ∷ es) b le h =
    ap₂ cons (ap ρ (omega arith) ∙ h 0 (omega arith)) (laid_front s ρ σ n es (suc b) (omega arith) (λ j l. ap ρ (omega arith) ∙ h (suc j) (omega arith)))

drop_back : (s : Symbols) (ρ : Valuation) (σ : Terming) (n : ℕ) (es : List Entry) → terms_of s ρ σ (drop n es) ≡ back n (terms_of s ρ σ es)
drop_back s ρ σ zero es = refl
drop_back s ρ σ (suc n) [] = refl
drop_back s ρ σ (suc n) (e ∷ es) = drop_back s ρ σ n es

all_drop : {X : Type 0} (P : X → Type 0) (n : ℕ) (xs : List X) → AllByRecursion P xs → AllByRecursion P (drop n xs)
all_drop P zero xs h = h
all_drop P (suc n) [] h = tt
all_drop P (suc n) (x ∷ xs) h = all_drop P n xs h.1

sits_more : (table : List ℕ) (m m' n n' : ℕ) (e : Entry) → m' ≡ m → n ≤ n' → Sits table m n e → Sits table m' n' e
sits_more table m m' n n' (Atom c) em le h = h
sits_more table m m' n n' (Slot y) em le h = omega arith
sits_more table m m' n n' (Place i) em le h = omega arith

pub sits_all : (table : List ℕ) (m m' n n' : ℕ) (es : List Entry) → m' ≡ m → n ≤ n' → AllByRecursion (Sits table m n) es → AllByRecursion (Sits table m' n') es
sits_all table m m' n n' es em le h = All-weaker (Sits table m n) (Sits table m' n') (λ e. sits_more table m m' n n' e em le) es h

wait_drop : (S : Slots) (y n : ℕ) (es : List Entry) → Waiting y es → ((j : ℕ) → j < n → get_or es j (Atom 0) ≡ Slot y → Has S y) → Waiting y (drop n es) ⊎ Has S y
wait_drop S y zero es w h = inl w
wait_drop S y (suc n) [] w h = absurd w
wait_drop S y (suc n) (e ∷ es) (inl q) h = inr (h 0 (omega arith) q)
wait_drop S y (suc n) (e ∷ es) (inr w) h = wait_drop S y n es w (λ j l q. h (suc j) (omega arith) q)

module _ (table : List ℕ) (S₀ : Slots) where
  pub posing_none : Stands table [] S₀ → Posing table S₀ [] [] S₀ [] []
  posing_none st = record {
    turned = turned_still table [] S₀ Nothing (Reads [] [] []) st (λ s n ρ σ h f. (refl, refl));
    sits = tt;
    goods = tt;
    count = refl;
    goals_count = refl;
    paid = omega arith;
    placed = λ y o. absurd o;
  }

  module _ (ps : List Piece) (H : Heap) (S : Slots) (es : List Entry) (G : List Goal) (p : Posing table S₀ ps H S es G) where
    pub posing_constant : (c : ℕ) → c < length table → get_or table c 0 ≡ 0 → Posing table S₀ (Constant c ∷ ps) H S (Atom c ∷ es) G
    posing_constant c known none = record {
      turned = turned_map table Nothing (Reads es G ps) Nothing (Reads (Atom c ∷ es) G (Constant c ∷ ps)) p.turned (λ s n ρ σ h f q. tt)
          (λ s n ρ σ h f e. (ap (cons (node (s.name c) nil)) e.0, e.1));
      sits = ((known, none), p.sits);
      goods = p.goods;
      count = omega (arith, p.count);
      goals_count = p.goals_count;
      paid = omega (arith, p.paid);
      placed = λ y o. elim (p.placed y o) [ inl w ↦ inl (inr w) | inr h ↦ inr h ];
    }

    pub posing_variable : (y : ℕ) → y < length S → Posing table S₀ (Variable y ∷ ps) H S (Slot y ∷ es) G
    posing_variable y lt = record {
      turned = turned_map table Nothing (Reads es G ps) Nothing (Reads (Slot y ∷ es) G (Variable y ∷ ps)) p.turned (λ s n ρ σ h f q. tt)
          (λ s n ρ σ h f e. (ap (cons (σ y)) e.0, e.1));
      sits = (lt, p.sits);
      goods = p.goods;
      count = omega (arith, p.count);
      goals_count = p.goals_count;
      paid = omega (arith, p.paid);
      placed = λ z o. elim o [ inl e ↦ inl (inl (ap Slot (sym e))) | inr q ↦ elim (p.placed z q) [ inl w ↦ inl (inr w) | inr h ↦ inr h ] ];
    }

    -- n cells have been made for the first n entries
    module _ (f n : ℕ) (known : f < length table) (size : get_or table f 0 ≡ n) (enough : n ≤ length es) {H₁ : Heap} {S₁ : Slots} (same : length S₁ ≡ length S) (long : length H₁ ≡ length H + n)
        (t : Turned table H S Nothing (Laid (length H) (λ j. get_or es j (Atom 0)) n) H₁ S₁)
        (kept : (y : ℕ) → Has S y → Has S₁ y) (given : (j y : ℕ) → j < n → get_or es j (Atom 0) ≡ Slot y → Has S₁ y) where
      -- a variable waits still, or has its cell now
      placed_on : (y : ℕ) → Waiting y es ⊎ Has S y → Waiting y (drop n es) ⊎ Has S₁ y
      placed_on y (inl w) = wait_drop S₁ y n es w (λ j l e. given j y l e)
      placed_on y (inr h) = inr (kept y h)

      both : Turned table [] S₀ Nothing (λ s ρ σ. Reads es G ps s ρ σ × Laid (length H) (λ j. get_or es j (Atom 0)) n s ρ σ) H₁ S₁
      both = turned_then table Nothing (Reads es G ps) Nothing Nothing p.turned (λ s n ρ σ d. tt) (λ s n ρ τ σ same h f e d. tt)
          (Laid (length H) (λ j. get_or es j (Atom 0)) n) (λ s ρ σ. Reads es G ps s ρ σ × Laid (length H) (λ j. get_or es j (Atom 0)) n s ρ σ) t (λ s n ρ σ h f e d. (e, d))

      args_are : (s : Symbols) (ρ : Valuation) (σ : Terming) → Reads es G ps s ρ σ → Laid (length H) (λ j. get_or es j (Atom 0)) n s ρ σ → span ρ (length H) n ≡ front n (stack s σ ps)
      args_are s ρ σ e d = laid_front s ρ σ n es (length H) enough d ∙ ap (front n) e.0

      rest_are : (s : Symbols) (ρ : Valuation) (σ : Terming) → Reads es G ps s ρ σ → terms_of s ρ σ (drop n es) ≡ back n (stack s σ ps)
      rest_are s ρ σ e = drop_back s ρ σ n es ∙ ap (back n) e.0

      pub posing_goal : (g : Goal) → g ≡ record { symbol = f; arity = n; first = length H } → Posing table S₀ (Asks f n ∷ ps) H₁ S₁ (drop n es) (g ∷ G)
      posing_goal g is = record {
        turned = turned_map table Nothing (λ s ρ σ. Reads es G ps s ρ σ × Laid (length H) (λ j. get_or es j (Atom 0)) n s ρ σ) Nothing (Reads (drop n es) (g ∷ G) (Asks f n ∷ ps)) both (λ s n ρ σ h f q. tt)
            (λ s names ρ σ h ft e. (rest_are s ρ σ e.0, ap₂ cons (ap (worth s ρ) is ∙ ap (node (s.name f)) (args_are s ρ σ e.0 e.1)) e.0.1));
        sits = sits_all table (length S) (length S₁) (length H) (length H₁) (drop n es) same (omega arith) (all_drop (Sits table (length S) (length H)) n es p.sits);
        goods = (subst (Good table (length H₁)) (sym is) (record { known = known; size = size; held = λ j l. omega arith }), goods_more table (length H) (length H₁) G (omega arith) p.goods);
        count = omega (arith, length-drop n es, p.count);
        goals_count = omega (arith, p.goals_count);
        paid = omega (arith, length-drop n es, p.paid, p.count);
        placed = λ y o. placed_on y (p.placed y o);
      }

      pub posing_structure : Posing table S₀ (Structure f n ∷ ps) (H₁ ++ Node f n (length H) ∷ []) S₁ (Place (length H₁) ∷ drop n es) G
      posing_structure =
          let pushed = turned_push table H₁ S₁ (Node f n (length H)) t.stands (λ j q. omega (arith, q.1))
          (λ g m b q. let eg : f ≡ g = cc in let em : n ≡ m = cc in (omega arith, ap (λ x. get_or table x 0) (sym eg) ∙ size ∙ em)) in
          let grow = length_push H₁ (Node f n (length H)) in
          record {
            turned = turned_then table Nothing (λ s ρ σ. Reads es G ps s ρ σ × Laid (length H) (λ j. get_or es j (Atom 0)) n s ρ σ) Nothing Nothing both (λ s n ρ σ d. tt) (λ s n ρ τ σ same h f e d. tt)
                (λ s ρ σ. ρ (length H₁) ≡ node (s.name f) (span ρ (length H) n)) (Reads (Place (length H₁) ∷ drop n es) G (Structure f n ∷ ps)) pushed
                (λ s names ρ σ h ft e d. (ap₂ cons (d ∙ ap (node (s.name f)) (args_are s ρ σ e.0 e.1)) (rest_are s ρ σ e.0), e.0.1));
            sits = (omega (arith, grow), sits_all table (length S) (length S₁) (length H) (length (H₁ ++ Node f n (length H) ∷ [])) (drop n es) same (omega (arith, grow)) (all_drop (Sits table (length S) (length H)) n es p.sits));
            goods = goods_more table (length H) (length (H₁ ++ Node f n (length H) ∷ [])) G (omega (arith, grow)) p.goods;
            count = omega (arith, length-drop n es, p.count);
            goals_count = p.goals_count;
            paid = omega (arith, grow, length-drop n es, p.paid, p.count);
            placed = λ y o. elim (placed_on y (p.placed y o)) [ inl w ↦ inl (inr w) | inr h ↦ inr h ];
          }

seated_arity : (S : Slots) (e : Entry) → arity (seated S e) ≡ 0
seated_arity S (Atom c) = refl
seated_arity S (Slot y) = slot_arity (get_or S y None)
seated_arity S (Place i) = refl

-- what becomes of the slots
slot_keeps : (S : Slots) (y i : ℕ) (x : Option ℕ) → get_or S y None ≡ x → (z : ℕ) → Has S z → Has (slot_set x S y i) z
slot_keeps S y i None e z h =
    elim (ℕ_discrete z y) [
      | yes q ↦ (let n : get_or S z None ≡ None = ap (λ w. get_or S w None) q ∙ e in let s = h.1 in let c : ◌≡◌ {A = ℕ} 0 1 = cc in absurd (omega arith))
      | no ne ↦ (h.0, get_or-set_other S y z (Some i) None ne ∙ h.1)
    ]
slot_keeps S y i (Some j) e z h = h

slot_gives : (S : Slots) (y i : ℕ) → y < length S → (x : Option ℕ) → get_or S y None ≡ x → Has (slot_set x S y i) y
slot_gives S y i lt None e = (i, get_or-set_same S y (Some i) None lt)
slot_gives S y i lt (Some j) e = (j, e)

seat_keeps : (S : Slots) (e : Entry) (i z : ℕ) → Has S z → Has (seated_slots S e i) z
seat_keeps S (Atom c) i z h = h
seat_keeps S (Slot y) i z h = slot_keeps S y i (get_or S y None) refl z h
seat_keeps S (Place j) i z h = h

seat_gives : (table : List ℕ) (S : Slots) (e : Entry) (i n y : ℕ) → Sits table (length S) n e → e ≡ Slot y → Has (seated_slots S e i) y
seat_gives table S (Atom c) i n y h q = let z : ◌≡◌ {A = ℕ} 0 1 = cc in absurd (omega arith)
seat_gives table S (Slot z) i n y h q = let e : z ≡ y = cc in subst (Has (slot_set (get_or S z None) S z i)) e (slot_gives S z i h (get_or S z None) refl)
seat_gives table S (Place j) i n y h q = let z : ◌≡◌ {A = ℕ} 0 1 = cc in absurd (omega arith)

-- the loop over entries
module _ (table : List ℕ) (H : Heap) (S : Slots) (en : ℕ → Entry) where
  pub seating_none : (n : ℕ) → Fine H n → Stands table H S → Seating table H S en 0 H S
  seating_none n fine st = record { turned = laid_none table H S en st; long = omega arith; spare = spare_none H n fine; kept = λ y h. h; given = λ j y l e. absurd (omega arith) }

  pub seating_more : (k : ℕ) (H₁ H₂ : Heap) (S₁ S₂ : Slots) (e : Entry) → e ≡ en k → length S₁ ≡ length S → Sits table (length S) (length H) (en k)
      → H₂ ≡ H₁ ++ seated S₁ e ∷ [] → S₂ ≡ seated_slots S₁ e (length H₁) → Seating table H S en k H₁ S₁ → Seating table H S en (k + 1) H₂ S₂
  seating_more k H₁ H₂ S₁ S₂ e ee same sits eh es b =
      let here : Sits table (length S₁) (length H₁) e = sits_more table (length S) (length S₁) (length H) (length H₁) e same b.turned.longer (subst (Sits table (length S) (length H)) (sym ee) sits) in
      let one = turned_seated table H₁ S₁ e b.turned.stands here in
      record {
        turned = laid_more table en k b.long b.turned
            (subst (λ z. Turned table H₁ S₁ Nothing (λ s ρ σ. ρ (length H₁) ≡ term s ρ σ z) H₂ S₂) ee
            (subst (λ X. Turned table H₁ S₁ Nothing (λ s ρ σ. ρ (length H₁) ≡ term s ρ σ e) X S₂) (sym eh)
            (subst (λ X. Turned table H₁ S₁ Nothing (λ s ρ σ. ρ (length H₁) ≡ term s ρ σ e) (H₁ ++ seated S₁ e ∷ []) X) (sym es) one)));
        long = omega (arith, b.long, ap length eh, length_push H₁ (seated S₁ e));
        spare = subst (λ X. Spare X (k + 1)) (sym eh) (spare_push H₁ (seated S₁ e) k (seated_arity S₁ e) b.spare);
        kept = λ y h. subst (λ X. Has X y) (sym es) (seat_keeps S₁ e (length H₁) y (b.kept y h));
        given = λ j y l q. subst (λ X. Has X y) (sym es) (elim (dec_lt j k) [
          | yes lt ↦ seat_keeps S₁ e (length H₁) y (b.given j y lt q)
          | no ge ↦ (let ej : k ≡ j = omega arith in seat_gives table S₁ e (length H₁) (length H₁) y here (ee ∙ ap en ej ∙ q))
        ]);
      }

  pub seating_sits : (k : ℕ) (H₁ : Heap) (S₁ : Slots) (e : Entry) → e ≡ en k → length S₁ ≡ length S → Sits table (length S) (length H) (en k) → Seating table H S en k H₁ S₁ → Sits table (length S₁) (length H₁) e
  seating_sits k H₁ S₁ e ee same sits b = sits_more table (length S) (length S₁) (length H) (length H₁) e same b.turned.longer (subst (Sits table (length S) (length H)) (sym ee) sits)
