-- Words and instructions, there and back.
use Rattle.std.proofs.Common.{◌≡◌, ℕ, zero, suc, ◌+◌, ◌-◌, ◌*◌, ◌/◌, ◌%◌, ◌<◌, ◌≤◌, true, false, ◌||◌, eqb, ltb, ◌∷◌, get_or, Some, None, sym, refl, ap, ◌∙◌, subst, ap₂, inl, inr, mod-eq_of_lt, arith}
use native.Mathlib.Nat.{div-div-eq-div-mul}
use Rattle.std.proofs.lemmas.List.{get_or_past}
use Rattle.std.proofs.lemmas.Bool.{and_parts, or_right, lt-ltb, ltb-true, eqb-true, cond-true, cases_eq}
use Rattle.code.specs.declared.table.Entry.{Entry}
use Rattle.code.specs.declared.words.Operands.{Operands}
use Rattle.code.specs.declared.instructions.Operand.TheVariants.{Fresh, Known, Constant as Fixed}
use Rattle.code.specs.declared.instructions.Instruction.{Instruction}
use Rattle.code.specs.declared.instructions.Instruction.TheVariants.{Allocate, Get, GetStructure, Unify, Put, PutStructure, Set, Call, Proceed}
use Rattle.code.specs.declared.table.Kind.TheVariants.{Nothing}
use Rattle.code.specs.Table.{entry, table, found}
use Rattle.code.specs.Instructions.{number}
use Rattle.code.specs.Words.{opcode, first, second, packed, operands, operands_of, Narrow, in_first, in_second, entry_of, encode, argument_by, decode, forms, built, spread, fillables, is_instruction}

pub never : {A : Type 0} → false ≡ true → A
never e = let z : ◌≡◌ {A = ℕ} 0 1 = cc in absurd (omega arith)

pub found_none : (o : ℕ) → 17 < o → found o ≡ None
found_none o h = cond-true (ltb o 1 || ltb 17 o) _ _ (or_right (ltb o 1) (ltb 17 o) (lt-ltb 17 o h))

pub byte : (a : ℕ) → a < 256 → a % 256 ≡ a
byte a h = mod-eq_of_lt h

-- no opcode past 16 builds another instruction than proceed
pub built_past : (n : ℕ) (o : Operands) → (1 ≤ n → 16 < n) → Proceed ≡ built n o
built_past zero o h = refl
built_past (suc k) o h =
    elim (cases_eq (suc k) 17) [
      | inl e ↦ ap (λ n. built n o) (sym e)
      | inr ne ↦ sym (ap (λ (f : Operands → Instruction). f o) (get_or_past ((λ x. Proceed) ∷ forms) (suc k) (λ x. Proceed) (let l : 16 < suc k = h (omega arith) in omega arith)))
    ]

-- the parts of a word
module _ (o a b : ℕ) (l : a < 256) (m : b < 65536) where
  pub opcode_packed : opcode (packed o a b) ≡ o
  opcode_packed = omega arith

  pub first_packed : first (packed o a b) ≡ a
  first_packed = omega arith

  pub second_packed : second (packed o a b) ≡ b
  second_packed = omega arith

  decode_packed : decode (packed o a b) ≡ spread (found o) o a b
  decode_packed =
      ap (λ x. spread (found x) x (first (packed o a b)) (second (packed o a b))) opcode_packed
      ∙ ap₂ (λ x y. spread (found o) o x y) first_packed second_packed

pub whole : (w : ℕ) → packed (opcode w) (first w) (second w) ≡ w
whole w = parts (w / 65536) (w % 65536) (w / 16777216) (div-div-eq-div-mul w 65536 256) (omega arith)
  where
    parts : (q r o : ℕ) → q / 256 ≡ o → q * 65536 + r ≡ w → packed o (q % 256) r ≡ w
    parts q r o e f = omega arith

-- an instruction's word is read as that instruction
pub decode_encode : (i : Instruction) → Narrow (operands_of i) → decode (encode i) ≡ i
decode_encode (Allocate n) h = decode_packed 1 n 0 (omega arith) (omega arith)
decode_encode (Get (Fresh y) a) h = decode_packed 2 y a (omega arith) (omega arith) ∙ ap (Get (Fresh y)) (byte a h.1.0)
decode_encode (Get (Known y) a) h = decode_packed 3 y a (omega arith) (omega arith) ∙ ap (Get (Known y)) (byte a h.1.0)
decode_encode (Get (Fixed c) a) h = decode_packed 4 a c (omega arith) (omega arith)
decode_encode (Put (Fresh y) a) h = decode_packed 9 y a (omega arith) (omega arith) ∙ ap (Put (Fresh y)) (byte a h.1.0)
decode_encode (Put (Known y) a) h = decode_packed 10 y a (omega arith) (omega arith) ∙ ap (Put (Known y)) (byte a h.1.0)
decode_encode (Put (Fixed c) a) h = decode_packed 11 a c (omega arith) (omega arith)
decode_encode (GetStructure y f) h = decode_packed 5 y f (omega arith) (omega arith)
decode_encode (PutStructure y f) h = decode_packed 12 y f (omega arith) (omega arith)
decode_encode (Unify (Fresh y)) h = decode_packed 6 y 0 (omega arith) (omega arith)
decode_encode (Unify (Known y)) h = decode_packed 7 y 0 (omega arith) (omega arith)
decode_encode (Unify (Fixed c)) h = decode_packed 8 0 c (omega arith) (omega arith)
decode_encode (Set (Fresh y)) h = decode_packed 13 y 0 (omega arith) (omega arith)
decode_encode (Set (Known y)) h = decode_packed 14 y 0 (omega arith) (omega arith)
decode_encode (Set (Fixed c)) h = decode_packed 15 0 c (omega arith) (omega arith)
decode_encode (Call p) h = decode_packed 16 0 p (omega arith) (omega arith)
decode_encode Proceed h = decode_packed 17 0 0 (omega arith) (omega arith)

-- a word that is an instruction is that instruction's word
by_opcode : (o a b : ℕ) → fillables (found o) a b ≡ true → encode (spread (found o) o a b) ≡ packed o a b
by_opcode zero a b h = never h
by_opcode (suc zero) a b h = ap (packed 1 a) (sym (eqb-true b 0 (and_parts true (eqb b 0) h).1))
by_opcode (suc (suc zero)) a b h = ap (packed 2 a) (byte b (ltb-true b 256 (and_parts true (ltb b 256) h).1))
by_opcode (suc (suc (suc zero))) a b h = ap (packed 3 a) (byte b (ltb-true b 256 (and_parts true (ltb b 256) h).1))
by_opcode (suc (suc (suc (suc zero)))) a b h = refl
by_opcode (suc (suc (suc (suc (suc zero))))) a b h = refl
by_opcode (suc (suc (suc (suc (suc (suc zero)))))) a b h = ap (packed 6 a) (sym (eqb-true b 0 (and_parts true (eqb b 0) h).1))
by_opcode (suc (suc (suc (suc (suc (suc (suc zero))))))) a b h = ap (packed 7 a) (sym (eqb-true b 0 (and_parts true (eqb b 0) h).1))
by_opcode (suc (suc (suc (suc (suc (suc (suc (suc zero)))))))) a b h = ap (λ x. packed 8 x b) (sym (eqb-true a 0 (and_parts (eqb a 0) true h).0))
by_opcode (suc (suc (suc (suc (suc (suc (suc (suc (suc zero))))))))) a b h = ap (packed 9 a) (byte b (ltb-true b 256 (and_parts true (ltb b 256) h).1))
by_opcode (suc (suc (suc (suc (suc (suc (suc (suc (suc (suc zero)))))))))) a b h = ap (packed 10 a) (byte b (ltb-true b 256 (and_parts true (ltb b 256) h).1))
by_opcode (suc (suc (suc (suc (suc (suc (suc (suc (suc (suc (suc zero))))))))))) a b h = refl
by_opcode (suc (suc (suc (suc (suc (suc (suc (suc (suc (suc (suc (suc zero)))))))))))) a b h = refl
by_opcode (suc (suc (suc (suc (suc (suc (suc (suc (suc (suc (suc (suc (suc zero))))))))))))) a b h = ap (packed 13 a) (sym (eqb-true b 0 (and_parts true (eqb b 0) h).1))
by_opcode (suc (suc (suc (suc (suc (suc (suc (suc (suc (suc (suc (suc (suc (suc zero)))))))))))))) a b h = ap (packed 14 a) (sym (eqb-true b 0 (and_parts true (eqb b 0) h).1))
by_opcode (suc (suc (suc (suc (suc (suc (suc (suc (suc (suc (suc (suc (suc (suc (suc zero))))))))))))))) a b h = ap (λ x. packed 15 x b) (sym (eqb-true a 0 (and_parts (eqb a 0) true h).0))
by_opcode (suc (suc (suc (suc (suc (suc (suc (suc (suc (suc (suc (suc (suc (suc (suc (suc zero)))))))))))))))) a b h = ap (λ x. packed 16 x b) (sym (eqb-true a 0 (and_parts (eqb a 0) true h).0))
by_opcode (suc (suc (suc (suc (suc (suc (suc (suc (suc (suc (suc (suc (suc (suc (suc (suc (suc zero))))))))))))))))) a b h = let p = and_parts (eqb a 0) (eqb b 0) h in ap₂ (packed 17) (sym (eqb-true a 0 p.0)) (sym (eqb-true b 0 p.1))
by_opcode (suc (suc (suc (suc (suc (suc (suc (suc (suc (suc (suc (suc (suc (suc (suc (suc (suc (suc k)))))))))))))))))) a b h = never (ap (λ e. fillables e a b) (sym (found_none (suc (suc (suc (suc (suc (suc (suc (suc (suc (suc (suc (suc (suc (suc (suc (suc (suc (suc k)))))))))))))))))) (omega arith))) ∙ h)

pub encode_decode : (w : ℕ) → is_instruction w ≡ true → encode (decode w) ≡ w
encode_decode w h = by_opcode (opcode w) (first w) (second w) h ∙ whole w

-- the steps of encoding
pub encoded_by : (i : Instruction) (o a b r : ℕ) (e : Entry) (x : Operands) → o ≡ number i → e ≡ get_or table (o - 1) (entry Nothing Nothing) → x ≡ operands_of i
    → a ≡ in_first e.first x → b ≡ in_second e.second x → r ≡ packed o a b → r ≡ encode i
encoded_by i o a b r e x p q s u v z =
    z ∙ ap₂ (packed o) u v
    ∙ ap (λ (k : Entry). packed o (in_first k.first x) (in_second k.second x)) q
    ∙ ap (λ n. packed n (in_first (get_or table (n - 1) (entry Nothing Nothing)).first x) (in_second (get_or table (n - 1) (entry Nothing Nothing)).second x)) p
    ∙ ap (λ k. packed (number i) (in_first (entry_of i).first k) (in_second (entry_of i).second k)) s

pub back_by : (i : Instruction) (r : ℕ) (x : Operands) → x ≡ operands_of i → Narrow x → r ≡ encode i → decode r ≡ i
back_by i r x s n e = ap decode e ∙ decode_encode i (subst Narrow s n)

-- and of decoding
pub decoded_by : (w o a b k : ℕ) (e : Entry) (i : Instruction) → o ≡ opcode w → Some e ≡ found o → a ≡ first w → b ≡ second w → k ≡ argument_by e.first a b → i ≡ built o (operands a k b) → i ≡ decode w
decoded_by w o a b k e i p q u v s z =
    z ∙ ap (λ x. built o (operands a x b)) s ∙ ap (λ x. spread x o a b) q
    ∙ ap (λ x. spread (found x) x a b) p ∙ ap₂ (spread (found (opcode w)) (opcode w)) u v

pub unknown : (w o : ℕ) → o ≡ opcode w → None ≡ found o → Proceed ≡ decode w
unknown w o p q = ap (λ x. spread x (opcode w) (first w) (second w)) (q ∙ ap found p)

pub encode_back : (w : ℕ) (i : Instruction) → i ≡ decode w → is_instruction w ≡ true → encode i ≡ w
encode_back w i e h = ap encode e ∙ encode_decode w h
