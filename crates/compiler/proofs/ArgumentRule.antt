-- Rule V6 of scripts, and the range of their arguments.
use Rattle.std.proofs.Common.{◌≡◌, ℕ, zero, suc, ◌+◌, ◌<◌, ◌≤◌, Bool, true, false, cond, eqb, leb, List, [], ◌∷◌, ◌++◌, length, get_or, sym, refl, ap, ◌∙◌, subst, inl, inr, append_assoc, append-nil, arith}
use Rattle.std.proofs.lemmas.Bool.{eq-eqb, ne_eqb, le-leb, and_from, and_parts, cases_eq, cond-true, cond-false}
use Rattle.code.specs.declared.instructions.Operand.{Operand}
use Rattle.code.specs.declared.instructions.Instruction.{Instruction}
use Rattle.code.specs.declared.instructions.Instruction.TheVariants.{Allocate, Get, GetStructure, Unify, Put, PutStructure, Set, Call, Proceed}
use Rattle.symbol_table.specs.Symbols.{Signature, arity_at}
use Rattle.compiler.specs.Rows.{row}
use Rattle.compiler.specs.Scripts.{Phase, start, top, inside, between, goal, over, Script, stay, next, allocates, gets, takes, turns, begins, builds, calls, ends}
use Rattle.compiler.specs.Rows.{Role}
use Rattle.compiler.specs.Rows.{Gets, Unifies, Puts, Sets}
use Rattle.code.specs.Instructions.{got, put}
use Rattle.code.specs.Tests.{every, total, below}
use Rattle.code.specs.Rules.{filled, v6}
use Rattle.code.specs.Rules.{calls as calls_filled}
use Rattle.code.proofs.ArgumentLaws.{below_all}

-- how often b stands among the n numbers from k on
abbrev hits : ℕ → ℕ → ℕ → ℕ
hits b k zero = 0
hits b k (suc n) = cond (eqb k b) 1 0 + hits b (suc k) n

hits_before : (b k n : ℕ) → b < k → hits b k n ≡ 0
hits_before b k zero h = refl
hits_before b k (suc n) h = omega (arith, cond-false {A = ℕ} (eqb k b) 1 0 (ne_eqb k b (λ q. omega arith)), hits_before b (suc k) n (omega arith))

hits_one : (b k n : ℕ) → k ≤ b → b < k + n → hits b k n ≡ 1
hits_one b k zero lo hi = absurd (omega arith)
hits_one b k (suc n) lo hi =
    elim (cases_eq k b) [
      | inl q ↦ omega (arith, cond-true {A = ℕ} (eqb k b) 1 0 (eq-eqb k b q), hits_before b (suc k) n (omega arith))
      | inr ne ↦ omega (arith, cond-false {A = ℕ} (eqb k b) 1 0 (ne_eqb k b ne), hits_one b (suc k) n (let z : (k ≡ b → ⊥) = ne in omega arith) (omega arith))
    ]

abbrev Silent : (Instruction → ℕ) → List Instruction → Type 0
Silent arg [] = Unit {0}
Silent arg (w ∷ ws) = (arg w ≡ 0) × Silent arg ws

met : (Instruction → ℕ) → ℕ → List Instruction → ℕ
met arg b ws = total (λ w. eqb (arg w) b) ws

silent_met : (arg : Instruction → ℕ) (b : ℕ) (ws : List Instruction) → 0 < b → Silent arg ws → met arg b ws ≡ 0
unfolding met
silent_met arg b [] h s = refl
silent_met arg b (w ∷ ws) h s =
    cond-false (eqb (arg w) b) _ _ (ne_eqb (arg w) b (λ q. let z : arg w ≡ 0 = s.0 in omega arith)) ∙ silent_met arg b ws h s.1

silent_every : (arg : Instruction → ℕ) (m : ℕ) (ws : List Instruction) → Silent arg ws → every (λ w. leb (arg w) m) ws ≡ true
silent_every arg m [] s = refl
silent_every arg m (w ∷ ws) s = and_from _ _ (le-leb (arg w) m (let z : arg w ≡ 0 = s.0 in omega arith)) (silent_every arg m ws s.1)

silent_row : (arg : Instruction → ℕ) (r : Role) → ((o : Operand) (a : ℕ) → Silent arg (row r a (o ∷ []))) → (a : ℕ) (os : List Operand) (rest : List Instruction) → Silent arg rest → Silent arg (row r a os ++ rest)
silent_row arg r h a [] rest s = s
silent_row arg r h a (o ∷ os) rest s = ((h o a).0, silent_row arg r h (suc a) os rest s)

-- the head's arguments
met_gets : (b k : ℕ) (os : List Operand) (rest : List Instruction) → met got b (row Gets k os ++ rest) ≡ hits b k (length os) + met got b rest
unfolding met
met_gets b k [] rest = omega arith
met_gets b k (o ∷ os) rest = go (eqb k b) _ (hits b (suc k) (length os)) (met got b rest) (met_gets b (suc k) os rest)
  where
    go : (t : Bool) (x y z : ℕ) → x ≡ y + z → cond t (suc x) x ≡ cond t 1 0 + y + z
    go true x y z e = omega arith
    go false x y z e = omega arith

every_gets : (m k : ℕ) (os : List Operand) (rest : List Instruction) → k + length os ≤ suc m → every (λ w. leb (got w) m) rest ≡ true → every (λ w. leb (got w) m) (row Gets k os ++ rest) ≡ true
every_gets m k [] rest h e = e
every_gets m k (o ∷ os) rest h e = and_from _ _ (le-leb k m (omega arith)) (every_gets m (suc k) os rest (omega arith) e)

filled_gets : (m : ℕ) (os : List Operand) (rest : List Instruction) → length os ≡ m → Silent got rest → filled got m (row Gets 1 os ++ rest) ≡ true
unfolding met
filled_gets m os rest long s =
    and_from _ _
    (below_all m _ (λ a h. eq-eqb _ 1 (met_gets (a + 1) 1 os rest ∙ omega (arith, hits_one (a + 1) 1 (length os) (omega arith) (omega arith), silent_met got (a + 1) rest (omega arith) s))))
    (every_gets m 1 os rest (omega arith) (silent_every got m rest s))

-- a goal's arguments: the put instructions since the last call, the last first
abbrev piled : ℕ → List Operand → List Instruction → List Instruction
piled a [] since = since
piled a (o ∷ os) since = piled (suc a) os (Put o a ∷ since)

met_piled : (b k : ℕ) (os : List Operand) (since : List Instruction) → met put b (piled k os since) ≡ hits b k (length os) + met put b since
unfolding met
met_piled b k [] since = omega arith
met_piled b k (o ∷ os) since = met_piled b (suc k) os (Put o k ∷ since) ∙ go (eqb k b) (hits b (suc k) (length os)) (met put b since)
  where
    go : (t : Bool) (y z : ℕ) → y + cond t (suc z) z ≡ cond t 1 0 + y + z
    go true y z = omega arith
    go false y z = omega arith

every_piled : (m k : ℕ) (os : List Operand) (since : List Instruction) → k + length os ≤ suc m → every (λ w. leb (put w) m) since ≡ true → every (λ w. leb (put w) m) (piled k os since) ≡ true
every_piled m k [] since h e = e
every_piled m k (o ∷ os) since h e = every_piled m (suc k) os (Put o k ∷ since) (omega arith) (and_from _ _ (le-leb k m (omega arith)) e)

filled_puts : (m : ℕ) (os : List Operand) (since : List Instruction) → length os ≡ m → Silent put since → filled put m (piled 1 os since) ≡ true
unfolding met
filled_puts m os since long s =
    and_from _ _
    (below_all m _ (λ a h. eq-eqb _ 1 (met_piled (a + 1) 1 os since ∙ omega (arith, hits_one (a + 1) 1 (length os) (omega arith) (omega arith), silent_met put (a + 1) since (omega arith) s))))
    (every_piled m 1 os since (omega arith) (silent_every put m since s))

module _ (sig : Signature) (ar : List ℕ) (same : (f : ℕ) → get_or ar f 0 ≡ arity_at sig f) where
  -- what is left, whatever came since the last call, if it put nothing
  abbrev Filling : List Instruction → Type 0
  Filling ws = (since : List Instruction) → Silent put since → calls_filled ar since ws ≡ true

  abbrev Full : Phase → List Instruction → Type 0
  Full (start n) ws = (filled got n ws ≡ true) × Filling ws
  Full (top n) ws = (filled got n ws ≡ true) × Filling ws
  Full inside ws = Silent got ws × Filling ws
  Full between ws = Silent got ws × Filling ws
  Full goal ws = Silent got ws × Filling ws
  Full over ws = Silent got ws × Filling ws

  calls_gets : (a : ℕ) (os : List Operand) (rest : List Instruction) → Filling rest → Filling (row Gets a os ++ rest)
  calls_gets a [] rest h = h
  calls_gets a (o ∷ os) rest h = λ since s. calls_gets (suc a) os rest h (Get o a ∷ since) (refl, s)

  calls_unifies : (a : ℕ) (os : List Operand) (rest : List Instruction) → Filling rest → Filling (row Unifies a os ++ rest)
  calls_unifies a [] rest h = h
  calls_unifies a (o ∷ os) rest h = λ since s. calls_unifies (suc a) os rest h (Unify o ∷ since) (refl, s)

  calls_sets : (a : ℕ) (os : List Operand) (rest : List Instruction) → Filling rest → Filling (row Sets a os ++ rest)
  calls_sets a [] rest h = h
  calls_sets a (o ∷ os) rest h = λ since s. calls_sets (suc a) os rest h (Set o ∷ since) (refl, s)

  calls_puts : (a : ℕ) (os : List Operand) (rest since : List Instruction) → calls_filled ar since (row Puts a os ++ rest) ≡ calls_filled ar (piled a os since) rest
  calls_puts a [] rest since = refl
  calls_puts a (o ∷ os) rest since = calls_puts (suc a) os rest (Put o a ∷ since)

  full_on : {a b : Phase} {ws : List Instruction} → Script sig a b ws → (rest : List Instruction) → Full b rest → Full a (ws ++ rest)
  full_on stay rest h = h
  full_on {a = a} (next {u = u} {v = v} p q) rest h = subst (Full a) (sym (append_assoc u v rest)) (full_on p (v ++ rest) (full_on q rest h))
  full_on (allocates {n = n} {m = m}) rest h = (skipped n m rest h.0, λ since s. h.1 (Allocate m ∷ since) (refl, s))
    where
      skipped : (n m : ℕ) (ws : List Instruction) → filled got n ws ≡ true → filled got n (Allocate m ∷ ws) ≡ true
      skipped n m ws h =
          let parts = and_parts (below n (λ a. eqb (total (λ w. eqb (got w) (a + 1)) ws) 1)) (every (λ w. leb (got w) n) ws) h in
          and_from _ _
          (below_all n _ (λ a l. ap (λ k. eqb k 1) (cond-false (eqb 0 (a + 1)) _ _ (ne_eqb 0 (a + 1) (λ q. omega arith))) ∙ at n (λ a. eqb (total (λ w. eqb (got w) (a + 1)) ws) 1) parts.0 a l))
          (and_from _ _ (le-leb 0 n (omega arith)) parts.1)
        where
          at : (n : ℕ) (p : ℕ → Bool) → below n p ≡ true → (a : ℕ) → a < n → p a ≡ true
          at zero p h a l = absurd (omega arith)
          at (suc n) p h a l =
              let parts = and_parts (below n p) (p n) h in
              elim (cases_eq a n) [ inl q ↦ ap p q ∙ parts.1 | inr ne ↦ at n p parts.0 a (let z : (a ≡ n → ⊥) = ne in omega arith) ]
  full_on (gets {n = n} os e) rest h = (filled_gets n os rest e h.0, calls_gets 1 os rest h.1)
  full_on (takes {y = y} {f = f} os e) rest h =
      ((refl, silent_row got Unifies (λ o a. (refl, tt)) 1 os rest h.0), λ since s. calls_unifies 1 os rest h.1 (GetStructure y f ∷ since) (refl, s))
  full_on turns rest h = h
  full_on begins rest h = h
  full_on (builds {y = y} {f = f} os e) rest h =
      ((refl, silent_row got Sets (λ o a. (refl, tt)) 1 os rest h.0), λ since s. calls_sets 1 os rest h.1 (PutStructure y f ∷ since) (refl, s))
  full_on (calls p os e) rest h =
      subst (Full goal) (sym (append_assoc (row Puts 1 os) (Call p ∷ []) rest)) (
        silent_row got Puts (λ o a. (refl, tt)) 1 os (Call p ∷ rest) (refl, h.0),
        λ since s. calls_puts 1 os (Call p ∷ rest) since
            ∙ and_from _ _ (filled_puts (get_or ar p 0) os since (e ∙ sym (same p)) s) (h.1 [] tt),
      )
  full_on ends rest h = ((refl, h.0), λ since s. h.1 (Proceed ∷ since) (refl, s))

  pub full : {n : ℕ} {ws : List Instruction} → Script sig (start n) over ws → v6 n ar ws ≡ true
  full {n} {ws} p =
      let r = subst (λ l. (filled got n l ≡ true) × Filling l) (append-nil ws) (full_on p [] (tt, λ since s. refl)) in
      and_from _ _ r.0 (r.1 [] tt)

-- arguments are from 1 to 8
abbrev pub Argued : Instruction → Type 0
Argued (Allocate n) = Unit {0}
Argued (Get o a) = (1 ≤ a) × (a ≤ 8)
Argued (GetStructure y f) = Unit {0}
Argued (Unify o) = Unit {0}
Argued (Put o a) = (1 ≤ a) × (a ≤ 8)
Argued (PutStructure y f) = Unit {0}
Argued (Set o) = Unit {0}
Argued (Call p) = Unit {0}
Argued Proceed = Unit {0}

abbrev pub Argueds : List Instruction → Type 0
Argueds [] = Unit {0}
Argueds (w ∷ ws) = Argued w × Argueds ws

argued_append : (a b : List Instruction) → Argueds a → Argueds b → Argueds (a ++ b)
argued_append [] b p q = q
argued_append (w ∷ a) b p q = (p.0, argued_append a b p.1 q)

argued_row : (r : Role) (a : ℕ) (os : List Operand) → 1 ≤ a → a + length os ≤ 9 → Argueds (row r a os)
argued_row r a [] lo hi = tt
argued_row Gets a (o ∷ os) lo hi = ((lo, omega arith), argued_row Gets (suc a) os (omega arith) (omega arith))
argued_row Unifies a (o ∷ os) lo hi = (tt, argued_row Unifies (suc a) os (omega arith) (omega arith))
argued_row Puts a (o ∷ os) lo hi = ((lo, omega arith), argued_row Puts (suc a) os (omega arith) (omega arith))
argued_row Sets a (o ∷ os) lo hi = (tt, argued_row Sets (suc a) os (omega arith) (omega arith))

abbrev Small : Phase → Type 0
Small (start n) = n ≤ 8
Small (top n) = n ≤ 8
Small inside = Unit {0}
Small between = Unit {0}
Small goal = Unit {0}
Small over = Unit {0}

argued_on : {sig : Signature} → ((f : ℕ) → arity_at sig f ≤ 8) → {a b : Phase} {ws : List Instruction} → Script sig a b ws → Small a → Argueds ws × Small b
argued_on small stay h = (tt, h)
argued_on small (next {u = u} {v = v} p q) h = let one = argued_on small p h in let two = argued_on small q one.1 in (argued_append u v one.0 two.0, two.1)
argued_on small allocates h = ((tt, tt), h)
argued_on small (gets os e) h = (argued_row Gets 1 os (omega arith) (omega arith), tt)
argued_on small (takes {f = f} os e) h = ((tt, argued_row Unifies 1 os (omega arith) (omega (arith, small f))), tt)
argued_on small turns h = (tt, tt)
argued_on small begins h = (tt, tt)
argued_on small (builds {f = f} os e) h = ((tt, argued_row Sets 1 os (omega arith) (omega (arith, small f))), tt)
argued_on small (calls p os e) h = (argued_append (row Puts 1 os) (Call p ∷ []) (argued_row Puts 1 os (omega arith) (omega (arith, small p))) (tt, tt), tt)
argued_on small ends h = ((tt, tt), tt)

pub argued : {sig : Signature} {n : ℕ} {ws : List Instruction} → ((f : ℕ) → arity_at sig f ≤ 8) → n ≤ 8 → Script sig (start n) over ws → Argueds ws
argued small le p = (argued_on small p le).0
