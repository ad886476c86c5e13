-- The instructions, one by one.
use Rattle.std.proofs.Common.{◌≡◌, ℕ, ◌+◌, ◌-◌, ◌<◌, ◌≤◌, cond, List, [], ◌∷◌, ◌++◌, length, get_or, drop, set, sym, refl, ap, ◌∙◌, subst, ap₂, inl, inr, arith, length-set, get_or-set_other, get_or-set_same}
use native.Mathlib.Decide.{ℕ_discrete}
use Rattle.std.specs.List.{AllByRecursion}
use Rattle.std.proofs.lemmas.List.{length_push}
use Rattle.std.proofs.ByRecursion.{All-append, All-weaker}
use Rattle.std.proofs.lemmas.Bool.{eq-eqb, ne_eqb}
use Rattle.horn.specs.Terms.{Terms, var, node, cons, join}
use Rattle.heap.specs.Heaps.{Heap}
use Rattle.heap.specs.Solutions.{Valuation, Sol, span}
use Rattle.heap.proofs.SpanLaws.{span_ext, span_at}
use Rattle.code.specs.declared.instructions.Operand.{Operand}
use Rattle.code.specs.declared.instructions.Operand.TheVariants.{Fresh}
use Rattle.code.specs.declared.instructions.Instruction.{Instruction}
use Rattle.code.specs.declared.instructions.Instruction.TheVariants.{Get, Put, Call, Proceed}
use Rattle.code.specs.Meaning.{Symbols, Terming, given, parts, update, Says, goals}
use Rattle.entering.specs.declared.goal.Goal.{Goal}
use Rattle.entering.specs.Goals.{worth, vals, Names, Good}
use Rattle.entering.specs.Entries.{Same}
use Rattle.entering.specs.Turns.{Slots, Fits, Claim, Nothing, Stands, Turned, Unmet, Takes, Is, Rows, SlotIs}
use Rattle.entering.specs.Ready.{In, operand_of, Pieces, Ready, dues, calls}
use Rattle.entering.specs.States.{laid, State, state, Setting, Steps, Stuck, Going, Stepped}
use Rattle.entering.proofs.TurnLaws.{same_trans, turned_still}
use Rattle.entering.proofs.ReadyLaws.{span_is, parts_span, says_drop, says_undrop, goals_drop, ready_drop, dues_drop, goals_agree, goals_same}

pub worth_same : (s : Symbols) (g : Goal) (n : ℕ) (ρ τ : Valuation) → ((k : ℕ) → k < g.arity → g.first + k < n) → Same n ρ τ → worth s ρ g ≡ worth s τ g
worth_same s g n ρ τ held same = ap (node (s.name g.symbol)) (span_ext ρ τ g.first g.first g.arity (λ k l. same (g.first + k) (held k l)))

pub vals_same : (s : Symbols) (table : List ℕ) (G : List Goal) (n : ℕ) (ρ τ : Valuation) → AllByRecursion (Good table n) G → Same n ρ τ → vals s ρ G ≡ vals s τ G
vals_same s table [] n ρ τ good same = refl
vals_same s table (g ∷ G) n ρ τ good same = ap₂ cons (worth_same s g n ρ τ good.0.held same) (vals_same s table G n ρ τ good.1 same)

pub vals_append : (s : Symbols) (ρ : Valuation) (G B : List Goal) → vals s ρ (G ++ B) ≡ join (vals s ρ G) (vals s ρ B)
vals_append s ρ [] B = refl
vals_append s ρ (g ∷ G) B = ap (cons (worth s ρ g)) (vals_append s ρ G B)

pub good_more : (table : List ℕ) (n m : ℕ) (g : Goal) → n ≤ m → Good table n g → Good table m g
good_more table n m g le h = record { known = h.known; size = h.size; held = λ k l. let w = h.held k l in omega arith }

pub goods_more : (table : List ℕ) (n m : ℕ) (G : List Goal) → n ≤ m → AllByRecursion (Good table n) G → AllByRecursion (Good table m) G
goods_more table n m G le h = All-weaker (Good table n) (Good table m) (λ g p. good_more table n m g le p) G h

pub steps_none : (k : Setting) (m : State) → Steps k m m
steps_none k m = record { longer = omega arith; into = λ s n ρ α σ gs h. h; back = λ s n ρ α σ gs h. (ρ, (λ k l. refl), h) }

pub steps_trans : {k : Setting} {m m' m'' : State} → Steps k m m' → Steps k m' m'' → Steps k m m''
steps_trans p q = record {
  longer = omega (arith, p.longer, q.longer);
  into = λ s n ρ α σ gs h. p.into s n ρ α σ gs (q.into s n ρ α σ gs h);
  back = λ s n ρ α σ gs h.
      let r = p.back s n ρ α σ gs h in
      let w = q.back s n r.0 α σ gs r.2 in
      (w.0, same_trans p.longer r.1 w.1, w.2);
}

pub stuck_later : {k : Setting} {m m' : State} → Steps k m m' → Stuck k m' → Stuck k m
stuck_later p q s n ρ α σ gs h = let r = p.back s n ρ α σ gs h in q s n r.0 α σ gs r.2

pub stepped_none : (k : Setting) (m : State) (go : Going k m) → Stepped k m m go
stepped_none k m go = record { going = go; steps = steps_none k m; paid = omega arith }

pub stepped_trans : {k : Setting} {m m' m'' : State} (go : Going k m) (p : Stepped k m m' go) → Stepped k m' m'' p.going → Stepped k m m'' go
stepped_trans go p q = record { going = q.going; steps = steps_trans p.steps q.steps; paid = omega (arith, p.paid, q.paid) }

module _ (k : Setting) (R : List Operand) (G : List Goal) {H : Heap} {S : Slots} (code : List Instruction) (go : Going k (state H S R G code)) where
  -- arguments and goals stay: cells and slots turn, and the code that is left says the rest
  module _ (P : Claim) (code' : List Instruction)
      (ask : (s : Symbols) → Names s k.table → (ρ : Valuation) (α σ : Terming) → span α 1 k.args ≡ span ρ k.first k.args → Says s code α σ → P s ρ σ × Says s code' α σ) where
    pub steps_turned : {H' : Heap} {S' : Slots} (E : Claim) → Turned k.table H S P E H' S'
        → ((s : Symbols) → Names s k.table → (ρ : Valuation) (α σ : Terming) → span α 1 k.args ≡ span ρ k.first k.args → E s ρ σ → Says s code' α σ → Says s code α σ)
        → ((s : Symbols) (σ π : Terming) → Names s k.table → goals s code σ π ≡ goals s code' σ π)
        → Steps k (state H S R G code) (state H' S' R G code')
    steps_turned E t gain same = record {
      longer = t.longer;
      into = λ s n ρ α σ gs h.
          let w = t.into s n ρ σ h.sol h.fits in
          record {
            sol = w.0;
            args = h.args;
            fits = w.1;
            says = gain s n ρ α σ h.args w.2 h.says;
            goal = h.goal ∙ ap (join (vals s ρ G)) (sym (same s σ (laid s R σ) n));
          };
      back = λ s n ρ α σ gs h.
          let a = ask s n ρ α σ h.args h.says in
          let w = t.back s n ρ σ h.sol h.fits a.0 in (
            w.0,
            w.1,
            record {
              sol = w.2;
              fits = w.3;
              says = a.1;
              args = h.args ∙ span_ext ρ w.0 k.first k.first k.args (λ j l. w.1 (k.first + j) (go.args_in j l));
              goal = h.goal ∙ ap₂ join (vals_same s k.table G (length H) ρ w.0 go.goals_in w.1) (same s σ (laid s R σ) n);
            },
          );
    }

    pub stuck_unmet : Unmet k.table H S P → Stuck k (state H S R G code)
    stuck_unmet un s n ρ α σ gs h = un s n ρ σ h.sol h.fits (ask s n ρ α σ h.args h.says).0

  -- what stays so
  abbrev pub going_on : {H' : Heap} {S' : Slots} (code' : List Instruction) → length H ≤ length H' → length S' ≡ length S → Stands k.table H' S'
      → Ready k.table k.args (length S) (length R) go.put code' → length H' + dues code' ≤ length H + dues code → calls code' ≤ calls code
      → Going k (state H' S' R G code')
  going_on {H'} code' le same st ready paid few = record {
    stands = st;
    goals_in = goods_more k.table (length H) (length H') G le go.goals_in;
    args_in = λ j l. let w = go.args_in j l in omega arith;
    put = go.put;
    takes = λ a i. subst (λ m. Takes k.table m (get_or R a (Fresh 0))) (sym same) (go.takes a i);
    ready = subst (λ m. Ready k.table k.args m (length R) go.put code') (sym same) ready;
    cells_room = omega (arith, go.cells_room);
    goals_room = omega (arith, go.goals_room);
  }

takes_put : (table : List ℕ) (m : ℕ) (R : List Operand) (A : List ℕ) (o : Operand) (a : ℕ) → a < length R → Takes table m o
    → ((b : ℕ) → In b A → Takes table m (get_or R b (Fresh 0))) → (b : ℕ) → In b (a ∷ A) → Takes table m (get_or (set R a o) b (Fresh 0))
takes_put table m R A o a lt t h b i =
    elim (ℕ_discrete b a) [
      | yes e ↦ subst (Takes table m) (sym (ap (λ z. get_or (set R a o) z (Fresh 0)) e ∙ get_or-set_same R a o (Fresh 0) lt)) t
      | no ne ↦ subst (Takes table m) (sym (get_or-set_other R a b o (Fresh 0) ne)) (elim i [ inl e ↦ absurd (ne e) | inr j ↦ h b j ])
    ]

laid_put : (R : List Operand) (s : Symbols) (σ : Terming) (o : Operand) (a : ℕ) → a < length R → (b : ℕ) → update (laid s R σ) a (given s o σ) b ≡ laid s (set R a o) σ b
laid_put R s σ o a lt b =
    elim (ℕ_discrete b a) [
      | yes e ↦ ap (λ z. cond z (given s o σ) (laid s R σ b)) (eq-eqb b a e) ∙ ap (λ z. given s z σ) (sym (ap (λ z. get_or (set R a o) z (Fresh 0)) e ∙ get_or-set_same R a o (Fresh 0) lt))
      | no ne ↦ ap (λ z. cond z (given s o σ) (laid s R σ b)) (ne_eqb b a ne) ∙ ap (λ z. given s z σ) (sym (get_or-set_other R a b o (Fresh 0) ne))
    ]

module _ (k : Setting) (R : List Operand) (G : List Goal) {H : Heap} {S : Slots} (rest : List Instruction) where
  -- a word that says nothing by itself
  pub step_passed : (w : Instruction) → ((s : Symbols) (α σ : Terming) → Says s (w ∷ rest) α σ ≡ Says s rest α σ) → ((s : Symbols) (σ π : Terming) → goals s (w ∷ rest) σ π ≡ goals s rest σ π)
      → (go : Going k (state H S R G (w ∷ rest))) → Ready k.table k.args (length S) (length R) go.put rest → dues rest ≤ dues (w ∷ rest) → calls rest ≤ calls (w ∷ rest)
      → Stepped k (state H S R G (w ∷ rest)) (state H S R G rest) go
  step_passed w says leave go ready cost few = record {
    going = going_on k R G (w ∷ rest) go rest (omega arith) refl go.stands ready (omega arith) few;
    steps = steps_turned k R G (w ∷ rest) go Nothing rest (λ s n ρ α σ e h. (tt, subst (λ X. X) (says s α σ) h)) Nothing (turned_still k.table H S Nothing Nothing go.stands (λ s n ρ σ h f. tt))
        (λ s n ρ α σ e x h. subst (λ X. X) (sym (says s α σ)) h) (λ s σ π n. leave s σ π);
    paid = omega arith;
  }

  -- an argument of the goal
  module _ (o : Operand) (a : ℕ) (go : Going k (state H S R G (Get o a ∷ rest))) where
    pub get_within : k.first + (a - 1) < length H
    get_within = go.args_in (a - 1) (let lo : 0 < a = go.ready.0 in let hi : a ≤ k.args = go.ready.1 in omega arith)

    get_at : (ρ : Valuation) (α : Terming) → span α 1 k.args ≡ span ρ k.first k.args → α a ≡ ρ (k.first + (a - 1))
    get_at ρ α e =
        let lo : 0 < a = go.ready.0 in
        let hi : a ≤ k.args = go.ready.1 in
        ap α (omega arith) ∙ span_at α ρ 1 k.first k.args e (a - 1) (omega arith)

    get_ask : (s : Symbols) → Names s k.table → (ρ : Valuation) (α σ : Terming) → span α 1 k.args ≡ span ρ k.first k.args → Says s (Get o a ∷ rest) α σ → Is o (k.first + (a - 1)) s ρ σ × Says s rest α σ
    get_ask s n ρ α σ e h = (sym (get_at ρ α e) ∙ h.0, h.1)

    pub step_get : {H' : Heap} {S' : Slots} → length S' ≡ length S → length H' ≤ length H + 1
        → Turned k.table H S (Is o (k.first + (a - 1))) (Is o (k.first + (a - 1))) H' S' → Stepped k (state H S R G (Get o a ∷ rest)) (state H' S' R G rest) go
    step_get {H'} {S'} same le t = record {
      going = going_on k R G (Get o a ∷ rest) go rest t.longer same t.stands go.ready.3 (omega arith) (omega arith);
      steps = steps_turned k R G (Get o a ∷ rest) go (Is o (k.first + (a - 1))) rest get_ask (Is o (k.first + (a - 1))) t (λ s n ρ α σ e x h. (get_at ρ α e ∙ x, h)) (λ s σ π n. refl);
      paid = omega arith;
    }

    pub stuck_get : Unmet k.table H S (Is o (k.first + (a - 1))) → Stuck k (state H S R G (Get o a ∷ rest))
    stuck_get un = stuck_unmet k R G (Get o a ∷ rest) go (Is o (k.first + (a - 1))) rest get_ask un

  -- a structure: either word says the same
  module _ (w : Instruction) (y f n : ℕ) (op : ℕ → Operand) (size : get_or k.table f 0 ≡ n) (pieces : Pieces n rest)
      (ops : (j : ℕ) → j < n → op j ≡ operand_of (get_or rest j Proceed))
      (says : (s : Symbols) (α σ : Terming) → Says s (w ∷ rest) α σ ≡ ((σ y ≡ node (s.name f) (parts s (s.arity f) rest σ)) × Says s rest α σ))
      (leave : (s : Symbols) (σ π : Terming) → goals s (w ∷ rest) σ π ≡ goals s rest σ π)
      (go : Going k (state H S R G (w ∷ rest))) (ready : Ready k.table k.args (length S) (length R) go.put rest)
      (cost : dues (w ∷ rest) ≡ 1 + dues rest) (none : calls (w ∷ rest) ≡ calls rest) where
    parts_is : (s : Symbols) → Names s k.table → (σ : Terming) → parts s (s.arity f) rest σ ≡ span (λ j. given s (op j) σ) 0 n
    parts_is s names σ =
        ap (λ z. parts s z rest σ) (names.arity f ∙ size) ∙
        parts_span s σ (λ j. given s (op j) σ) n rest 0 pieces (λ j l. ap (λ z. given s (op z) σ) (omega arith) ∙ ap (λ o. given s o σ) (ops j l))

    structure_ask : (s : Symbols) → Names s k.table → (ρ : Valuation) (α σ : Terming) → span α 1 k.args ≡ span ρ k.first k.args → Says s (w ∷ rest) α σ
        → SlotIs y f op n s ρ σ × Says s (drop n rest) α σ
    structure_ask s names ρ α σ e h =
        let q = subst (λ X. X) (says s α σ) h in
        (q.0 ∙ ap (node (s.name f)) (parts_is s names σ), (says_drop s α σ n rest pieces).0 q.1)

    pub step_structure : {H' : Heap} {S' : Slots} → length S' ≡ length S → length H' ≤ length H + 1 + n
        → Turned k.table H S (SlotIs y f op n) (SlotIs y f op n) H' S' → Stepped k (state H S R G (w ∷ rest)) (state H' S' R G (drop n rest)) go
    step_structure {H'} {S'} same le t =
        let d = dues_drop n rest pieces in
        let paid : length H' + dues (drop n rest) ≤ length H + dues (w ∷ rest) = omega (arith, d.0, cost) in
        record {
          going = going_on k R G (w ∷ rest) go (drop n rest) t.longer same t.stands (ready_drop k.table k.args (length S) (length R) go.put n rest pieces ready) paid (omega (arith, d.1, none));
          steps = steps_turned k R G (w ∷ rest) go (SlotIs y f op n) (drop n rest) structure_ask (SlotIs y f op n) t
              (λ s names ρ α σ e x h. subst (λ X. X) (sym (says s α σ)) (x ∙ ap (node (s.name f)) (sym (parts_is s names σ)), says_undrop s α σ n rest pieces h))
              (λ s σ π names. leave s σ π ∙ goals_drop s σ π n rest pieces);
          paid = omega arith;
        }

    pub stuck_structure : Unmet k.table H S (SlotIs y f op n) → Stuck k (state H S R G (w ∷ rest))
    stuck_structure un = stuck_unmet k R G (w ∷ rest) go (SlotIs y f op n) (drop n rest) structure_ask un

  -- an operand is put into an argument
  pub step_put : (o : Operand) (a : ℕ) (go : Going k (state H S R G (Put o a ∷ rest))) → Stepped k (state H S R G (Put o a ∷ rest)) (state H S (set R a o) G rest) go
  step_put o a go = record {
    going = record {
      stands = go.stands;
      goals_in = go.goals_in;
      args_in = go.args_in;
      put = a ∷ go.put;
      takes = takes_put k.table (length S) R go.put o a go.ready.0 go.ready.1 go.takes;
      ready = subst (λ r. Ready k.table k.args (length S) r (a ∷ go.put) rest) (sym (length-set R a o)) go.ready.2;
      cells_room = omega (arith, go.cells_room);
      goals_room = omega (arith, go.goals_room);
    };
    steps = record {
      longer = omega arith;
      into = λ s n ρ α σ gs h. record {
        sol = h.sol;
        args = h.args;
        fits = h.fits;
        says = h.says;
        goal = h.goal ∙ ap (join (vals s ρ G)) (sym (goals_same s σ rest _ _ (laid_put R s σ o a go.ready.0)));
      };
      back = λ s n ρ α σ gs h. (
        ρ,
        (λ j l. refl),
        record {
          sol = h.sol;
          args = h.args;
          fits = h.fits;
          says = h.says;
          goal = h.goal ∙ ap (join (vals s ρ G)) (goals_same s σ rest _ _ (laid_put R s σ o a go.ready.0));
        },
      );
    };
    paid = omega arith;
  }

  -- a goal is left
  module _ (p n : ℕ) (size : get_or k.table p 0 ≡ n) (go : Going k (state H S R G (Call p ∷ rest))) {H' : Heap} {S' : Slots}
      (t : Turned k.table H S Nothing (Rows (length H) (λ j. get_or R (1 + j) (Fresh 0)) n) H' S') (same : length S' ≡ length S) (long : length H' ≡ length H + n)
      (g : Goal) (is : g ≡ record { symbol = p; arity = n; first = length H }) where
    call_goals : (s : Symbols) → Names s k.table → (ρ : Valuation) (σ : Terming) → Sol s.name H' ρ → Fits S' ρ σ
        → cons (worth s ρ g) (goals s rest σ (laid s R σ)) ≡ goals s (Call p ∷ rest) σ (laid s R σ)
    call_goals s names ρ σ h f =
        let rows = (t.into s names ρ σ h f).2 in
        let row : span ρ (length H) n ≡ span (laid s R σ) 1 n = span_ext ρ (laid s R σ) (length H) 1 n rows in
        let args : span ρ (length H) n ≡ span (laid s R σ) 1 (s.arity p) = row ∙ ap (span (laid s R σ) 1) (sym (names.arity p ∙ size)) in
        ap₂ cons (ap (worth s ρ) is ∙ ap (node (s.name p)) (args ∙ sym (span_is (laid s R σ) 1 (s.arity p))))
        (goals_agree s k.table names k.args (length S) (length R) σ rest [] (laid s R σ) var go.ready.4 (λ b i. absurd i))

    left_join : (s : Symbols) (ρ : Valuation) (ts : Terms ℕ) → join (vals s ρ (G ++ g ∷ [])) ts ≡ join (vals s ρ G) (cons (worth s ρ g) ts)
    left_join s ρ ts = into G
      where
        into : (G : List Goal) → join (vals s ρ (G ++ g ∷ [])) ts ≡ join (vals s ρ G) (cons (worth s ρ g) ts)
        into [] = refl
        into (x ∷ G) = ap (cons (worth s ρ x)) (into G)

    pub step_call : Stepped k (state H S R G (Call p ∷ rest)) (state H' S' R (G ++ g ∷ []) rest) go
    step_call = record {
      going = record {
        stands = t.stands;
        goals_in = All-append (Good k.table (length H')) G (g ∷ []) (goods_more k.table (length H) (length H') G t.longer go.goals_in)
            (subst (Good k.table (length H')) (sym is) (record { known = go.ready.0; size = size; held = λ j l. omega arith }), tt);
        args_in = λ j l. let w = go.args_in j l in omega arith;
        put = [];
        takes = λ a i. absurd i;
        ready = subst (λ m. Ready k.table k.args m (length R) [] rest) (sym same) go.ready.4;
        cells_room = omega (arith, go.cells_room, go.ready.2);
        goals_room = omega (arith, go.goals_room, length_push G g);
      };
      steps = record {
        longer = t.longer;
        into = λ s names ρ α σ gs h.
            let w = t.into s names ρ σ h.sol h.fits in
            record {
              sol = w.0;
              args = h.args;
              fits = w.1;
              says = h.says;
              goal = h.goal ∙ left_join s ρ _ ∙ ap (join (vals s ρ G)) (call_goals s names ρ σ h.sol h.fits);
            };
        back = λ s names ρ α σ gs h.
            let w = t.back s names ρ σ h.sol h.fits tt in (
              w.0,
              w.1,
              record {
                sol = w.2;
                fits = w.3;
                says = h.says;
                args = h.args ∙ span_ext ρ w.0 k.first k.first k.args (λ j l. w.1 (k.first + j) (go.args_in j l));
                goal = h.goal ∙ ap₂ join (vals_same s k.table G (length H) ρ w.0 go.goals_in w.1) (sym (call_goals s names w.0 σ w.2 w.3)) ∙ sym (left_join s w.0 _);
              },
            );
      };
      paid = omega (arith, go.cells_room, go.ready.2);
    }
