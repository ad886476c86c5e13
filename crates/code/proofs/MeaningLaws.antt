-- Code that is ready to run has a meaning of its arguments and slots alone.
use Rattle.std.proofs.Common.{◌≡◌, ℕ, zero, suc, ◌+◌, ◌<◌, ◌≤◌, Bool, true, false, cond, eqb, List, [], ◌∷◌, length, sym, refl, ap, ◌∙◌, ap₂, inl, inr, arith}
use Rattle.std.proofs.lemmas.Bool.{eqb-false}
use Rattle.horn.specs.Clauses.{Clause}
use Rattle.horn.specs.Weights.{clause_weight}
use Rattle.horn.specs.Instances.{SameRule, clause_rule}
use Rattle.horn.specs.Terms.{Term, Terms, var, node, cons}
use Rattle.code.specs.declared.instructions.Operand.{Operand}
use Rattle.code.specs.declared.instructions.Operand.TheVariants.{Fresh, Known, Constant}
use Rattle.code.specs.declared.instructions.Instruction.{Instruction}
use Rattle.code.specs.declared.instructions.Instruction.TheVariants.{Allocate, Get, GetStructure, Unify, Put, PutStructure, Set, Call, Proceed}
use Rattle.code.specs.Ready.{In, Takes, fills, Pieces, Ready}
use Rattle.code.specs.Meaning.{Symbols, Terming, span, given, parts, update, Says, goals, code_rule, Denotes, Alike, Defined}

span_same : (π ρ : Terming) (k n : ℕ) → ((a : ℕ) → k ≤ a → a < k + n → π a ≡ ρ a) → span π k n ≡ span ρ k n
span_same π ρ k zero h = refl
span_same π ρ k (suc n) h = ap₂ cons (h k (omega arith) (omega arith)) (span_same π ρ (suc k) n (λ a l u. h a (omega arith) (omega arith)))

update_same : (a : ℕ) (A : List ℕ) (π ρ : Terming) (t u : Term ℕ) → t ≡ u → ((b : ℕ) → In b A → π b ≡ ρ b) → (b : ℕ) → In b (a ∷ A) → update π a t b ≡ update ρ a u b
update_same a A π ρ t u e h b i = go (eqb b a) refl i
  where
    go : (x : Bool) → eqb b a ≡ x → In b (a ∷ A) → cond x t (π b) ≡ cond x u (ρ b)
    go true q j = e
    go false q (inl same) = absurd (eqb-false b a q same)
    go false q (inr j) = h b j

module _ (s : Symbols) (n m r : ℕ) (α β σ τ : Terming) (same_arguments : Alike (λ a. (0 < a) × (a ≤ n)) α β) (same_slots : Alike (λ y. y < m) σ τ) where
  given_same : (o : Operand) (D : List ℕ) → Takes m D o → given s o σ ≡ given s o τ
  given_same (Fresh y) D h = same_slots y h.0
  given_same (Known y) D h = same_slots y h.0
  given_same (Constant c) D h = refl

  parts_same : (k : ℕ) (code : List Instruction) (D A : List ℕ) → Pieces k code → Ready s.arity n m r D A code → parts s k code σ ≡ parts s k code τ
  parts_same zero code D A h r = refl
  parts_same (suc k) [] D A h r = refl
  parts_same (suc k) (Allocate l ∷ code) D A h r = absurd h.0
  parts_same (suc k) (Get o a ∷ code) D A h r = absurd h.0
  parts_same (suc k) (GetStructure y f ∷ code) D A h r = absurd h.0
  parts_same (suc k) (Unify o ∷ code) D A h r = ap₂ cons (given_same o D r.0) (parts_same k code (fills o D) A h.1 r.1)
  parts_same (suc k) (Put o a ∷ code) D A h r = absurd h.0
  parts_same (suc k) (PutStructure y f ∷ code) D A h r = absurd h.0
  parts_same (suc k) (Set o ∷ code) D A h r = ap₂ cons (given_same o D r.0) (parts_same k code (fills o D) A h.1 r.1)
  parts_same (suc k) (Call p ∷ code) D A h r = absurd h.0
  parts_same (suc k) (Proceed ∷ code) D A h r = absurd h.0

  says_same : (code : List Instruction) (D A : List ℕ) → Ready s.arity n m r D A code → Says s code α σ → Says s code β τ
  says_same [] D A r h = tt
  says_same (Allocate k ∷ code) D A r h = says_same code D A r h
  says_same (Get o a ∷ code) D A r h = (sym (same_arguments a (r.0, r.1)) ∙ h.0 ∙ given_same o D r.2, says_same code (fills o D) A r.3 h.1)
  says_same (GetStructure y f ∷ code) D A r h = (sym (same_slots y r.0) ∙ h.0 ∙ ap (node (s.name f)) (parts_same (s.arity f) code D A r.2 r.3), says_same code D A r.3 h.1)
  says_same (Unify o ∷ code) D A r h = says_same code (fills o D) A r.1 h
  says_same (Put o a ∷ code) D A r h = says_same code (fills o D) (a ∷ A) r.2 h
  says_same (PutStructure y f ∷ code) D A r h = (sym (same_slots y r.0) ∙ h.0 ∙ ap (node (s.name f)) (parts_same (s.arity f) code (y ∷ D) A r.2 r.4), says_same code (y ∷ D) A r.4 h.1)
  says_same (Set o ∷ code) D A r h = says_same code (fills o D) A r.1 h
  says_same (Call p ∷ code) D A r h = says_same code D [] r.2 h
  says_same (Proceed ∷ code) D A r h = says_same code D A r h

  goals_same : (code : List Instruction) (D A : List ℕ) → Ready s.arity n m r D A code → (π ρ : Terming) → ((a : ℕ) → In a A → π a ≡ ρ a) → goals s code σ π ≡ goals s code τ ρ
  goals_same [] D A r π ρ h = refl
  goals_same (Allocate k ∷ code) D A r π ρ h = goals_same code D A r π ρ h
  goals_same (Get o a ∷ code) D A r π ρ h = goals_same code (fills o D) A r.3 π ρ h
  goals_same (GetStructure y f ∷ code) D A r π ρ h = goals_same code D A r.3 π ρ h
  goals_same (Unify o ∷ code) D A r π ρ h = goals_same code (fills o D) A r.1 π ρ h
  goals_same (Put o a ∷ code) D A r π ρ h = goals_same code (fills o D) (a ∷ A) r.2 (update π a (given s o σ)) (update ρ a (given s o τ)) (update_same a A π ρ (given s o σ) (given s o τ) (given_same o D r.1) h)
  goals_same (PutStructure y f ∷ code) D A r π ρ h = goals_same code (y ∷ D) A r.4 π ρ h
  goals_same (Set o ∷ code) D A r π ρ h = goals_same code (fills o D) A r.1 π ρ h
  goals_same (Call p ∷ code) D A r π ρ h = ap₂ (λ (ts gs : Terms ℕ). cons (node (s.name p) ts) gs) (span_same π ρ 1 (s.arity p) (λ a l u. h a (r.1 a (omega arith) (omega arith)))) (goals_same code D [] r.2 var var (λ a i. absurd i))
  goals_same (Proceed ∷ code) D A r π ρ h = goals_same code D A r π ρ h

pub defined : (s : Symbols) (n m r : ℕ) (code : List Instruction) → Ready s.arity n m r [] [] code → Defined s n m code
defined s n m r code h =
    record {
      says = λ α β σ τ p q. says_same s n m r α β σ τ p q code [] [] h;
      leaves = λ σ τ π ρ q. goals_same s n m r var var σ τ (λ a l. refl) q code [] [] h π ρ (λ a i. absurd i);
    }

-- code of the right length that denotes a clause is that clause's rule
pub same_rule : (s : Symbols) (p : ℕ) (code : List Instruction) (c : Clause) → Denotes s p code c → length code ≡ clause_weight c + 2 → SameRule (code_rule s p code) (clause_rule c)
same_rule s p code c d e =
    record {
      name = d.named;
      relates = λ ts gs. (d.into ts gs, d.back ts gs);
      weight = omega arith;
    }
