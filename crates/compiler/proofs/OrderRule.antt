-- Rules V3 and V4 of scripts.
use Rattle.std.proofs.Common.{◌≡◌, ℕ, suc, ◌-◌, Bool, true, cond, not, ◌||◌, eqb, List, [], ◌∷◌, ◌++◌, length, get_or, Some, None, Option, sym, refl, ap, ◌∙◌, subst, append_assoc, append-nil, arith}
use Rattle.std.proofs.lemmas.Bool.{ne_eqb}
use Rattle.code.specs.declared.instructions.Operand.{Operand}
use Rattle.code.specs.declared.instructions.Operand.TheVariants.{Fresh, Known, Constant}
use Rattle.code.specs.declared.instructions.Instruction.{Instruction}
use Rattle.code.specs.declared.instructions.Instruction.TheVariants.{Get, Unify, Put, Set, Call}
use Rattle.symbol_table.specs.Symbols.{Signature, arity_at}
use Rattle.compiler.specs.Rows.{row}
use Rattle.compiler.specs.Scripts.{Phase, start, top, inside, between, goal, over, Script, stay, next, allocates, gets, takes, turns, begins, builds, calls, ends}
use Rattle.compiler.specs.Rows.{Gets, Unifies, Puts, Sets}
use Rattle.code.specs.Rules.{v3, v4}
use Rattle.code.specs.Passes.{onward, walk, Place, head, owed, after_call, order_step, due, due_step}
use Rattle.code.proofs.OrderLaws.{done as orderly_done, order_is}
use Rattle.code.proofs.DueLaws.{done as due_done, dues_are}

abbrev passes : Place → List Instruction → Bool
passes s ws = walk order_step orderly_done s ws

-- one instruction more
pub onward_by : {S : Type 0} (o : Option S) (t : S) (k : S → Bool) → o ≡ Some t → k t ≡ true → onward o k ≡ true
onward_by o t k e h = ap (λ x. onward x k) e ∙ h

-- V3
abbrev Ordered : Phase → List Instruction → Type 0
Ordered (start n) ws = passes head ws ≡ true
Ordered (top n) ws = passes head ws ≡ true
Ordered inside ws = passes head ws ≡ true
Ordered between ws = (s : Place) → orderly_done s ≡ true → passes s ws ≡ true
Ordered goal ws = (s : Place) → passes s ws ≡ true
Ordered over ws = (s : Place) → orderly_done s ≡ true → passes s ws ≡ true

order_get : (o : Operand) (a : ℕ) → order_step head (Get o a) ≡ Some head
order_get (Fresh y) a = refl
order_get (Known y) a = refl
order_get (Constant c) a = refl

order_unify : (o : Operand) → order_step head (Unify o) ≡ Some head
order_unify (Fresh y) = refl
order_unify (Known y) = refl
order_unify (Constant c) = refl

order_put : (s : Place) (o : Operand) (a : ℕ) → order_step s (Put o a) ≡ Some owed
order_put s (Fresh y) a = refl
order_put s (Known y) a = refl
order_put s (Constant x) a = refl

order_set : (s : Place) (o : Operand) → order_step s (Set o) ≡ Some owed
order_set s (Fresh y) = refl
order_set s (Known y) = refl
order_set s (Constant x) = refl

order_gets : (a : ℕ) (os : List Operand) (rest : List Instruction) → passes head rest ≡ true → passes head (row Gets a os ++ rest) ≡ true
order_gets a [] rest h = h
order_gets a (o ∷ os) rest h = onward_by _ _ (λ t. walk order_step orderly_done t (row Gets (suc a) os ++ rest)) (order_get o a) (order_gets (suc a) os rest h)

order_unifies : (a : ℕ) (os : List Operand) (rest : List Instruction) → passes head rest ≡ true → passes head (row Unifies a os ++ rest) ≡ true
order_unifies a [] rest h = h
order_unifies a (o ∷ os) rest h = onward_by _ _ (λ t. walk order_step orderly_done t (row Unifies (suc a) os ++ rest)) (order_unify o) (order_unifies (suc a) os rest h)

order_puts : (a : ℕ) (os : List Operand) (rest : List Instruction) → Ordered goal rest → Ordered goal (row Puts a os ++ rest)
order_puts a [] rest h = h
order_puts a (x ∷ os) rest h = λ s. onward_by _ _ (λ t. walk order_step orderly_done t (row Puts (suc a) os ++ rest)) (order_put s x a) (order_puts (suc a) os rest h owed)

order_sets : (a : ℕ) (os : List Operand) (rest : List Instruction) → Ordered goal rest → Ordered goal (row Sets a os ++ rest)
order_sets a [] rest h = h
order_sets a (x ∷ os) rest h = λ s. onward_by _ _ (λ t. walk order_step orderly_done t (row Sets (suc a) os ++ rest)) (order_set s x) (order_sets (suc a) os rest h owed)

ordered_on : {sig : Signature} {a b : Phase} {ws : List Instruction} → Script sig a b ws → (rest : List Instruction) → Ordered b rest → Ordered a (ws ++ rest)
ordered_on stay rest h = h
ordered_on {a = a} (next {u = u} {v = v} p q) rest h = subst (Ordered a) (sym (append_assoc u v rest)) (ordered_on p (v ++ rest) (ordered_on q rest h))
ordered_on allocates rest h = h
ordered_on (gets os e) rest h = order_gets 1 os rest h
ordered_on (takes os e) rest h = order_unifies 1 os rest h
ordered_on turns rest h = h head refl
ordered_on begins rest h = λ s e. h s
ordered_on (builds os e) rest h = λ s. order_sets 1 os rest h owed
ordered_on (calls p os e) rest h = subst (Ordered goal) (sym (append_assoc (row Puts 1 os) (Call p ∷ []) rest)) (order_puts 1 os (Call p ∷ rest) (λ s. h after_call refl))
ordered_on ends rest h = h

pub ordered : {sig : Signature} {n : ℕ} {ws : List Instruction} → Script sig (start n) over ws → v3 ws ≡ true
ordered {ws = ws} p = sym (order_is ws) ∙ ap (passes head) (sym (append-nil ws)) ∙ ordered_on p [] (λ s e. e)

-- V4
module _ (sig : Signature) (ar : List ℕ) (same : (f : ℕ) → get_or ar f 0 ≡ arity_at sig f) where
  abbrev counts : ℕ → ℕ → List Instruction → Bool
  counts u s ws = walk (due_step ar) due_done (due u s) ws

  due_get : (o : Operand) (a : ℕ) → due_step ar (due 0 0) (Get o a) ≡ Some (due 0 0)
  due_get (Fresh y) a = refl
  due_get (Known y) a = refl
  due_get (Constant c) a = refl

  due_put : (o : Operand) (a : ℕ) → due_step ar (due 0 0) (Put o a) ≡ Some (due 0 0)
  due_put (Fresh y) a = refl
  due_put (Known y) a = refl
  due_put (Constant c) a = refl

  down : (n : ℕ) → cond (eqb (suc n) 0 || not (eqb 0 0)) None (Some (due (suc n - 1) 0)) ≡ Some (due n 0)
  down n = let z : suc n - 1 ≡ n = omega arith in ap (λ b. cond (b || not (eqb 0 0)) None (Some (due (suc n - 1) 0))) (ne_eqb (suc n) 0 (λ q. omega arith)) ∙ ap (λ k. Some (due k 0)) z

  due_unify : (o : Operand) (n : ℕ) → due_step ar (due (suc n) 0) (Unify o) ≡ Some (due n 0)
  due_unify (Fresh y) n = down n
  due_unify (Known y) n = down n
  due_unify (Constant c) n = down n

  lower : (n : ℕ) → cond (eqb (suc n) 0 || not (eqb 0 0)) None (Some (due 0 (suc n - 1))) ≡ Some (due 0 n)
  lower n = let z : suc n - 1 ≡ n = omega arith in ap (λ b. cond (b || not (eqb 0 0)) None (Some (due 0 (suc n - 1)))) (ne_eqb (suc n) 0 (λ q. omega arith)) ∙ ap (λ k. Some (due 0 k)) z

  due_set : (o : Operand) (n : ℕ) → due_step ar (due 0 (suc n)) (Set o) ≡ Some (due 0 n)
  due_set (Fresh y) n = lower n
  due_set (Known y) n = lower n
  due_set (Constant c) n = lower n

  due_gets : (a : ℕ) (os : List Operand) (rest : List Instruction) → counts 0 0 rest ≡ true → counts 0 0 (row Gets a os ++ rest) ≡ true
  due_gets a [] rest h = h
  due_gets a (o ∷ os) rest h = onward_by _ _ (λ t. walk (due_step ar) due_done t (row Gets (suc a) os ++ rest)) (due_get o a) (due_gets (suc a) os rest h)

  due_puts : (a : ℕ) (os : List Operand) (rest : List Instruction) → counts 0 0 rest ≡ true → counts 0 0 (row Puts a os ++ rest) ≡ true
  due_puts a [] rest h = h
  due_puts a (o ∷ os) rest h = onward_by _ _ (λ t. walk (due_step ar) due_done t (row Puts (suc a) os ++ rest)) (due_put o a) (due_puts (suc a) os rest h)

  due_unifies : (a : ℕ) (os : List Operand) (rest : List Instruction) → counts 0 0 rest ≡ true → counts (length os) 0 (row Unifies a os ++ rest) ≡ true
  due_unifies a [] rest h = h
  due_unifies a (o ∷ os) rest h = onward_by _ _ (λ t. walk (due_step ar) due_done t (row Unifies (suc a) os ++ rest)) (due_unify o (length os)) (due_unifies (suc a) os rest h)

  due_sets : (a : ℕ) (os : List Operand) (rest : List Instruction) → counts 0 0 rest ≡ true → counts 0 (length os) (row Sets a os ++ rest) ≡ true
  due_sets a [] rest h = h
  due_sets a (o ∷ os) rest h = onward_by _ _ (λ t. walk (due_step ar) due_done t (row Sets (suc a) os ++ rest)) (due_set o (length os)) (due_sets (suc a) os rest h)

  counted_on : {a b : Phase} {ws : List Instruction} → Script sig a b ws → (rest : List Instruction) → counts 0 0 rest ≡ true → counts 0 0 (ws ++ rest) ≡ true
  counted_on stay rest h = h
  counted_on (next {u = u} {v = v} p q) rest h = ap (counts 0 0) (append_assoc u v rest) ∙ counted_on p (v ++ rest) (counted_on q rest h)
  counted_on allocates rest h = h
  counted_on (gets os e) rest h = due_gets 1 os rest h
  counted_on (takes {f = f} os e) rest h = ap (λ n. counts n 0 (row Unifies 1 os ++ rest)) (same f ∙ sym e) ∙ due_unifies 1 os rest h
  counted_on turns rest h = h
  counted_on begins rest h = h
  counted_on (builds {f = f} os e) rest h = ap (λ n. counts 0 n (row Sets 1 os ++ rest)) (same f ∙ sym e) ∙ due_sets 1 os rest h
  counted_on (calls p os e) rest h = ap (counts 0 0) (append_assoc (row Puts 1 os) (Call p ∷ []) rest) ∙ due_puts 1 os (Call p ∷ rest) h
  counted_on ends rest h = h

  pub counted : {n : ℕ} {ws : List Instruction} → Script sig (start n) over ws → v4 ar ws ≡ true
  counted {ws = ws} p = sym (dues_are ar ws) ∙ ap (counts 0 0) (sym (append-nil ws)) ∙ counted_on p [] refl
