-- Rule V2 of scripts, but for the counts.
use Rattle.std.proofs.Common.{◌≡◌, ℕ, suc, true, eqb, List, [], ◌∷◌, ◌++◌, sym, refl, ap, ◌∙◌, subst, append_assoc, append-nil, arith}
use Rattle.std.proofs.lemmas.Bool.{and_from}
use Rattle.code.specs.declared.instructions.Operand.{Operand}
use Rattle.code.specs.declared.instructions.Operand.TheVariants.{Fresh, Known, Constant}
use Rattle.code.specs.declared.instructions.Instruction.{Instruction}
use Rattle.code.specs.declared.instructions.Instruction.TheVariants.{Get, GetStructure, Unify, Put, PutStructure, Set, Call, Proceed}
use Rattle.symbol_table.specs.Symbols.{Signature}
use Rattle.compiler.specs.Rows.{row}
use Rattle.compiler.specs.Scripts.{Phase, start, top, inside, between, goal, over, Script, stay, next, allocates, gets, takes, turns, begins, builds, calls, ends}
use Rattle.compiler.specs.Rows.{Role}
use Rattle.compiler.specs.Rows.{Gets, Unifies, Puts, Sets}
use Rattle.code.specs.Instructions.{number, within}
use Rattle.code.specs.Rules.{closes}

abbrev pub Framed : Phase → List Instruction → Type 0
Framed (start n) [] = ⊥
Framed (start n) (w ∷ ws) = (eqb (number w) 1 ≡ true) × (closes ws ≡ true)
Framed (top n) ws = closes ws ≡ true
Framed inside ws = closes ws ≡ true
Framed between ws = closes ws ≡ true
Framed goal ws = closes ws ≡ true
Framed over ws = ws ≡ []

closes_cons : (w : Instruction) (ws : List Instruction) → within 2 16 w ≡ true → closes ws ≡ true → closes (w ∷ ws) ≡ true
closes_cons w [] p h = let z : ◌≡◌ {A = ℕ} 0 1 = cc in absurd (omega arith)
closes_cons w (x ∷ ws) p h = and_from (within 2 16 w) (closes (x ∷ ws)) p h

within_get : (o : Operand) (a : ℕ) → within 2 16 (Get o a) ≡ true
within_get (Fresh y) a = refl
within_get (Known y) a = refl
within_get (Constant c) a = refl

within_unify : (o : Operand) → within 2 16 (Unify o) ≡ true
within_unify (Fresh y) = refl
within_unify (Known y) = refl
within_unify (Constant c) = refl

within_put : (o : Operand) (a : ℕ) → within 2 16 (Put o a) ≡ true
within_put (Fresh y) a = refl
within_put (Known y) a = refl
within_put (Constant c) a = refl

within_set : (o : Operand) → within 2 16 (Set o) ≡ true
within_set (Fresh y) = refl
within_set (Known y) = refl
within_set (Constant c) = refl

closes_row : (r : Role) (a : ℕ) (os : List Operand) (rest : List Instruction) → closes rest ≡ true → closes (row r a os ++ rest) ≡ true
closes_row r a [] rest h = h
closes_row Gets a (o ∷ os) rest h = closes_cons (Get o a) (row Gets (suc a) os ++ rest) (within_get o a) (closes_row Gets (suc a) os rest h)
closes_row Unifies a (o ∷ os) rest h = closes_cons (Unify o) (row Unifies (suc a) os ++ rest) (within_unify o) (closes_row Unifies (suc a) os rest h)
closes_row Puts a (o ∷ os) rest h = closes_cons (Put o a) (row Puts (suc a) os ++ rest) (within_put o a) (closes_row Puts (suc a) os rest h)
closes_row Sets a (o ∷ os) rest h = closes_cons (Set o) (row Sets (suc a) os ++ rest) (within_set o) (closes_row Sets (suc a) os rest h)

framed_on : {sig : Signature} {a b : Phase} {ws : List Instruction} → Script sig a b ws → (rest : List Instruction) → Framed b rest → Framed a (ws ++ rest)
framed_on stay rest h = h
framed_on {a = a} (next {u = u} {v = v} p q) rest h = subst (Framed a) (sym (append_assoc u v rest)) (framed_on p (v ++ rest) (framed_on q rest h))
framed_on allocates rest h = (refl, h)
framed_on (gets os e) rest h = closes_row Gets 1 os rest h
framed_on (takes {y = y} {f = f} os e) rest h = closes_cons (GetStructure y f) (row Unifies 1 os ++ rest) refl (closes_row Unifies 1 os rest h)
framed_on turns rest h = h
framed_on begins rest h = h
framed_on (builds {y = y} {f = f} os e) rest h = closes_cons (PutStructure y f) (row Sets 1 os ++ rest) refl (closes_row Sets 1 os rest h)
framed_on (calls p os e) rest h =
    ap closes (append_assoc (row Puts 1 os) (Call p ∷ []) rest) ∙ closes_row Puts 1 os (Call p ∷ rest) (closes_cons (Call p) rest refl h)
framed_on ends rest h = ap (λ l. closes (Proceed ∷ l)) h

pub framed : {sig : Signature} {n : ℕ} {ws : List Instruction} → Script sig (start n) over ws → Framed (start n) ws
framed {n = n} {ws = ws} p = subst (Framed (start n)) (append-nil ws) (framed_on p [] refl)
