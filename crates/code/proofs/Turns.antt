-- The turns of a loop over code words.
use Rattle.std.proofs.Common.{◌≡◌, ℕ, ◌+◌, ◌<◌, ◌≤◌, Bool, List, [], ◌∷◌, map, length, get_or, drop, Some, None, Option, sym, refl, ap, ◌∙◌, subst}
use denote.Param.Members.{Mut}
use Rattle.std.specs.Fn.{Called}
use Rattle.std.specs.Iterator.{Yields, YieldsThen, AlwaysYields}
use Rattle.std.specs.List.{FoldsTo}
use Rattle.std.specs.Option.{MatchOption}
use Rattle.std.proofs.lemmas.Iterator.{YieldsList}
use Rattle.std.proofs.lemmas.List.{at_drop_more, at_drop_all}
use Rattle.code.specs.declared.instructions.Instruction.{Instruction}
use Rattle.code.specs.Words.{decode}
use Rattle.code.specs.Tests.{chosen}
use Rattle.code.specs.Passes.{onward, walk, through}

module _ {S : Type 0} (step : S → Instruction → Option S) (done : S → Bool) (s : S) (ws : List ℕ) (i : ℕ) where
  pub walk_turn : (x : Instruction) (o : Option S) → i < length ws → x ≡ decode (get_or ws i 0) → o ≡ step s x
      → walk step done s (map decode (drop i ws)) ≡ onward o (λ t. walk step done t (map decode (drop (i + 1) ws)))
  walk_turn x o h p q =
      at_drop_more (λ l. walk step done s (map decode l)) ws i 0 h
      ∙ ap (λ r. onward r (λ t. walk step done t (map decode (drop (i + 1) ws)))) (ap (step s) (sym p) ∙ sym q)

  pub walk_end : length ws ≤ i → walk step done s (map decode (drop i ws)) ≡ done s
  walk_end h = at_drop_all (λ l. walk step done s (map decode l)) ws i h

pub walk_through : {S W : Type 0} (step : S → W → Option S) (done : S → Bool) (ws : List W) (s : S) → walk step done s ws ≡ onward (through step s ws) done
walk_through step done [] s = refl
walk_through {S} step done (w ∷ ws) s = go (step s w) (walk_through step done ws)
  where
    go : (o : Option S) → ((t : S) → walk step done t ws ≡ onward (through step t ws) done) → onward o (λ t. walk step done t ws) ≡ onward (chosen o (λ t. through step t ws) None) done
    go None h = refl
    go (Some t) h = h t

abbrev Turn : {A F T : Type 0} → Mut F (T × (A × Unit {0})) (Option T) → F × T → A → F × T → Type 0
Turn {T = T} g p x q = (r : Option T) × Called g p.0 (p.1, (x, tt)) r q.0 × (r ≡ Some q.1)

abbrev Ended : {A F T : Type 0} → Type 0 → Mut F (T × (A × Unit {0})) (Option T) → F → T → Option T → Option A → Type 0
Ended {F = F} {T = T} E g h b r o = MatchOption o (r ≡ Some b) (λ x. (w : Option T) × (j : F) × (e : E) × Called g h (b, (x, tt)) w j × (w ≡ None) × (r ≡ None))

-- what `try_fold` gives of code words, where its closure takes a state on by an instruction
module _ {S A F T : Type 0} (E : Type 0) (steps : S → Option A → S → Type 0) (v : A → ℕ) (g : Mut F (T × (A × Unit {0})) (Option T)) (step : T → Instruction → Option T) (f : F)
    (k : (a : T) (x : A) (r : Option T) (q : F) → Called g f (a, (x, tt)) r q → (q ≡ f) × (r ≡ step a (decode (v x)))) where
  folds : (all : List ℕ) (xs : List A) (o : Option A) (s t u : S) (a b : T) (h : F) (r : Option T)
      → AlwaysYields steps v s all → Yields steps s xs t → steps t o u → FoldsTo {P = F × T} (Turn g) (f, a) xs (h, b) → Ended E g h b r o → r ≡ through step a (map decode all)
  folds [] [] None s t u a b h r e y p c m = m ∙ ap (λ (q : F × T). Some q.1) (sym c)
  folds [] [] (Some x) s t u a b h r e y p c m = absurd (e x u (subst (λ i. steps i (Some x) u) (sym y) p))
  folds (z ∷ all) [] None s t u a b h r e y p c m = absurd (e.0 u (subst (λ i. steps i None u) (sym y) p))
  folds (z ∷ all) [] (Some x) s t u a b h r e y p c m =
      let told = k b x m.0 m.1 (subst (λ i. Called g i (b, (x, tt)) m.0 m.1) (ap (λ (q : F × T). q.0) (sym c)) m.3) in
      let same : v x ≡ z = (e.1 x u (subst (λ i. steps i (Some x) u) (sym y) p)).0 in
      let stopped : None ≡ step a (decode z) = sym m.4 ∙ told.1 ∙ ap (λ i. step b (decode i)) same ∙ ap (λ i. step i (decode z)) (ap (λ (q : F × T). q.1) (sym c)) in
      m.5 ∙ ap (λ i. chosen i (λ t. through step t (map decode all)) None) stopped
  folds [] (x ∷ xs) o s t u a b h r e y p c m = absurd (e x y.0 y.1)
  folds (z ∷ all) (x ∷ xs) o s t u a b h r e y p c m =
      let told = k a x c.1.0 c.0.0 c.1.1 in
      let next = e.1 x y.0 y.1 in
      let went : Some c.0.1 ≡ step a (decode z) = sym c.1.2 ∙ told.1 ∙ ap (λ i. step a (decode i)) next.0 in
      folds all xs o y.0 t u c.0.1 b h r next.1 y.2 p (subst (λ i. FoldsTo {P = F × T} (Turn g) (i, c.0.1) xs (h, b)) told.0 c.2) m
      ∙ ap (λ i. chosen i (λ t. through step t (map decode all)) None) went

pub through_words : {S A F T E : Type 0} {steps : S → Option A → S → Type 0} {v : A → ℕ} {g : Mut F (T × (A × Unit {0})) (Option T)} {s : S} {all : List ℕ} (step : T → Instruction → Option T) (f : F) (u : S) (a : T) (r : Option T)
    → ((a : T) (x : A) (r : Option T) (q : F) → Called g f (a, (x, tt)) r q → (q ≡ f) × (r ≡ step a (decode (v x))))
    → (xs : List A) × (o : Option A) × (h : F) × (b : T) × YieldsThen steps s xs o u × FoldsTo {P = F × T} (Turn g) (f, a) xs (h, b) × Ended E g h b r o
    → YieldsList steps v s all → r ≡ through step a (map decode all)
through_words {E = E} {steps = steps} {v = v} {g = g} {s = s} {all = all} step f u a r k d e = folds E steps v g step f k all d.0 d.1 s d.4.0 u a d.3 d.2 r e.runs d.4.1 d.4.2 d.5 d.6
