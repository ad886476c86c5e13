-- What V1 says of the instructions.
use Rattle.std.proofs.Common.{◌≡◌, ℕ, zero, suc, ◌%◌, Bool, true, ◌&&◌, eqb, leb, List, [], ◌∷◌, map, sym, refl, ap, ◌∙◌, arith}
use Rattle.std.proofs.lemmas.Bool.{and_parts, and_from, leb-true}
use Rattle.code.specs.declared.table.Kind.TheVariants.{Nothing, Slots, Slot, Argument, Constant, Structure, Predicate}
use Rattle.code.specs.declared.instructions.Operand.TheVariants.{Fresh, Known, Constant as Fixed}
use Rattle.code.specs.declared.instructions.Instruction.{Instruction}
use Rattle.code.specs.declared.instructions.Instruction.TheVariants.{Allocate, Get, GetStructure, Unify, Put, PutStructure, Set, Call, Proceed}
use Rattle.code.specs.Table.{found}
use Rattle.code.specs.Instructions.{sets, got, put}
use Rattle.code.specs.Words.{opcode, first, second, decode, spread}
use Rattle.code.specs.Tests.{every}
use Rattle.code.specs.Rules.{in_range, allowed, legal, opened, v1, ranged}
use Rattle.code.specs.Passes.{inside}
use Rattle.code.proofs.WordLaws.{never, found_none, byte}

module _ (n : ℕ) (ar : List ℕ) where
  none_zero : (b : ℕ) (x : Bool) → (x && in_range n ar Nothing b) ≡ true → (x && in_range n ar Nothing 0) ≡ true
  none_zero b x h = let p = and_parts x (eqb b 0) h in and_from x true p.0 refl

  zero_none : (a : ℕ) (x : Bool) → (in_range n ar Nothing a && x) ≡ true → (in_range n ar Nothing 0 && x) ≡ true
  zero_none a x h = let p = and_parts (eqb a 0) x h in p.1

  arg_byte : (a b : ℕ) → (in_range n ar Slot a && in_range n ar Argument b) ≡ true → (in_range n ar Slot a && in_range n ar Argument (b % 256)) ≡ true
  arg_byte a b h =
      let p = and_parts (in_range n ar Slot a) (in_range n ar Argument b) h in
      let l = leb-true b 8 (and_parts (leb 1 b) (leb b 8) p.1).1 in
      ap (λ k. in_range n ar Slot a && in_range n ar Argument k) (byte b (omega arith)) ∙ h

  by_opcode : (o a b : ℕ) → allowed n ar (found o) a b ≡ true → ranged n ar (spread (found o) o a b) ≡ true
  by_opcode zero a b h = never h
  by_opcode (suc zero) a b h = none_zero b (in_range n ar Slots a) h
  by_opcode (suc (suc zero)) a b h = arg_byte a b h
  by_opcode (suc (suc (suc zero))) a b h = arg_byte a b h
  by_opcode (suc (suc (suc (suc zero)))) a b h = h
  by_opcode (suc (suc (suc (suc (suc zero))))) a b h = h
  by_opcode (suc (suc (suc (suc (suc (suc zero)))))) a b h = none_zero b (in_range n ar Slot a) h
  by_opcode (suc (suc (suc (suc (suc (suc (suc zero))))))) a b h = none_zero b (in_range n ar Slot a) h
  by_opcode (suc (suc (suc (suc (suc (suc (suc (suc zero)))))))) a b h = zero_none a (in_range n ar Constant b) h
  by_opcode (suc (suc (suc (suc (suc (suc (suc (suc (suc zero))))))))) a b h = arg_byte a b h
  by_opcode (suc (suc (suc (suc (suc (suc (suc (suc (suc (suc zero)))))))))) a b h = arg_byte a b h
  by_opcode (suc (suc (suc (suc (suc (suc (suc (suc (suc (suc (suc zero))))))))))) a b h = h
  by_opcode (suc (suc (suc (suc (suc (suc (suc (suc (suc (suc (suc (suc zero)))))))))))) a b h = h
  by_opcode (suc (suc (suc (suc (suc (suc (suc (suc (suc (suc (suc (suc (suc zero))))))))))))) a b h = none_zero b (in_range n ar Slot a) h
  by_opcode (suc (suc (suc (suc (suc (suc (suc (suc (suc (suc (suc (suc (suc (suc zero)))))))))))))) a b h = none_zero b (in_range n ar Slot a) h
  by_opcode (suc (suc (suc (suc (suc (suc (suc (suc (suc (suc (suc (suc (suc (suc (suc zero))))))))))))))) a b h = zero_none a (in_range n ar Constant b) h
  by_opcode (suc (suc (suc (suc (suc (suc (suc (suc (suc (suc (suc (suc (suc (suc (suc (suc zero)))))))))))))))) a b h = zero_none a (in_range n ar Predicate b) h
  by_opcode (suc (suc (suc (suc (suc (suc (suc (suc (suc (suc (suc (suc (suc (suc (suc (suc (suc zero))))))))))))))))) a b h = refl
  by_opcode (suc (suc (suc (suc (suc (suc (suc (suc (suc (suc (suc (suc (suc (suc (suc (suc (suc (suc k)))))))))))))))))) a b h = never (ap (λ e. allowed n ar e a b) (sym (found_none (suc (suc (suc (suc (suc (suc (suc (suc (suc (suc (suc (suc (suc (suc (suc (suc (suc (suc k)))))))))))))))))) (omega arith))) ∙ h)

  legal_ranged : (ws : List ℕ) → every (legal n ar) ws ≡ true → every (ranged n ar) (map decode ws) ≡ true
  legal_ranged [] h = refl
  legal_ranged (w ∷ ws) h =
      let p = and_parts (legal n ar w) (every (legal n ar) ws) h in
      and_from (ranged n ar (decode w)) (every (ranged n ar) (map decode ws)) (by_opcode (opcode w) (first w) (second w) p.0) (legal_ranged ws p.1)

  pub sets_inside : (w : Instruction) → ranged n ar w ≡ true → inside n (sets w) ≡ true
  sets_inside (Allocate m) h = refl
  sets_inside (Get (Fresh y) a) h = (and_parts (in_range n ar Slot y) (in_range n ar Argument a) h).0
  sets_inside (Get (Known y) a) h = refl
  sets_inside (Get (Fixed y) a) h = refl
  sets_inside (GetStructure y f) h = refl
  sets_inside (Unify (Fresh y)) h = (and_parts (in_range n ar Slot y) (in_range n ar Nothing 0) h).0
  sets_inside (Unify (Known y)) h = refl
  sets_inside (Unify (Fixed y)) h = refl
  sets_inside (Put (Fresh y) a) h = (and_parts (in_range n ar Slot y) (in_range n ar Argument a) h).0
  sets_inside (Put (Known y) a) h = refl
  sets_inside (Put (Fixed y) a) h = refl
  sets_inside (PutStructure y f) h = (and_parts (in_range n ar Slot y) (in_range n ar Structure f) h).0
  sets_inside (Set (Fresh y)) h = (and_parts (in_range n ar Slot y) (in_range n ar Nothing 0) h).0
  sets_inside (Set (Known y)) h = refl
  sets_inside (Set (Fixed y)) h = refl
  sets_inside (Call p) h = refl
  sets_inside (Proceed) h = refl

  got_small : (w : Instruction) → ranged n ar w ≡ true → leb (got w) 8 ≡ true
  got_small (Allocate m) h = refl
  got_small (Get (Fresh y) a) h = (and_parts (leb 1 a) (leb a 8) (and_parts (in_range n ar Slot y) (in_range n ar Argument a) h).1).1
  got_small (Get (Known y) a) h = (and_parts (leb 1 a) (leb a 8) (and_parts (in_range n ar Slot y) (in_range n ar Argument a) h).1).1
  got_small (Get (Fixed y) a) h = (and_parts (leb 1 a) (leb a 8) (and_parts (in_range n ar Argument a) (in_range n ar Constant y) h).0).1
  got_small (GetStructure y f) h = refl
  got_small (Unify (Fresh y)) h = refl
  got_small (Unify (Known y)) h = refl
  got_small (Unify (Fixed y)) h = refl
  got_small (Put (Fresh y) a) h = refl
  got_small (Put (Known y) a) h = refl
  got_small (Put (Fixed y) a) h = refl
  got_small (PutStructure y f) h = refl
  got_small (Set (Fresh y)) h = refl
  got_small (Set (Known y)) h = refl
  got_small (Set (Fixed y)) h = refl
  got_small (Call p) h = refl
  got_small (Proceed) h = refl

  put_small : (w : Instruction) → ranged n ar w ≡ true → leb (put w) 8 ≡ true
  put_small (Allocate m) h = refl
  put_small (Get (Fresh y) a) h = refl
  put_small (Get (Known y) a) h = refl
  put_small (Get (Fixed y) a) h = refl
  put_small (GetStructure y f) h = refl
  put_small (Unify (Fresh y)) h = refl
  put_small (Unify (Known y)) h = refl
  put_small (Unify (Fixed y)) h = refl
  put_small (Put (Fresh y) a) h = (and_parts (leb 1 a) (leb a 8) (and_parts (in_range n ar Slot y) (in_range n ar Argument a) h).1).1
  put_small (Put (Known y) a) h = (and_parts (leb 1 a) (leb a 8) (and_parts (in_range n ar Slot y) (in_range n ar Argument a) h).1).1
  put_small (Put (Fixed y) a) h = (and_parts (leb 1 a) (leb a 8) (and_parts (in_range n ar Argument a) (in_range n ar Constant y) h).0).1
  put_small (PutStructure y f) h = refl
  put_small (Set (Fresh y)) h = refl
  put_small (Set (Known y)) h = refl
  put_small (Set (Fixed y)) h = refl
  put_small (Call p) h = refl
  put_small (Proceed) h = refl

  pub every_map : (p q : Instruction → Bool) → ((w : Instruction) → p w ≡ true → q w ≡ true) → (ws : List Instruction) → every p ws ≡ true → every q ws ≡ true
  every_map p q f [] h = refl
  every_map p q f (w ∷ ws) h = let a = and_parts (p w) (every p ws) h in and_from (q w) (every q ws) (f w a.0) (every_map p q f ws a.1)

module _ (ar : List ℕ) (ws : List ℕ) (h : v1 ar ws ≡ true) where
  pub all_ranged : every (ranged (opened ws) ar) (map decode ws) ≡ true
  all_ranged = legal_ranged (opened ws) ar ws h

  pub all_inside : every (λ w. inside (opened ws) (sets w)) (map decode ws) ≡ true
  all_inside = every_map (opened ws) ar (ranged (opened ws) ar) (λ w. inside (opened ws) (sets w)) (sets_inside (opened ws) ar) (map decode ws) all_ranged

  pub all_got : every (λ w. leb (got w) 8) (map decode ws) ≡ true
  all_got = every_map (opened ws) ar (ranged (opened ws) ar) (λ w. leb (got w) 8) (got_small (opened ws) ar) (map decode ws) all_ranged

  pub all_put : every (λ w. leb (put w) 8) (map decode ws) ≡ true
  all_put = every_map (opened ws) ar (ranged (opened ws) ar) (λ w. leb (put w) 8) (put_small (opened ws) ar) (map decode ws) all_ranged
