-- Laws of keys.
use Rattle.std.proofs.Common.{◌≡◌, ℕ, zero, suc, ◌+◌, ◌-◌, ◌<◌, Bool, true, false, cond, eqb, List, [], ◌∷◌, map, length, get_or, Some, None, sym, refl, ap, ◌∙◌, subst, arith}
use Rattle.std.proofs.lemmas.Bool.{eqb-true}
use Rattle.horn.specs.Terms.{Term, Terms, node, nil, count}
use Rattle.heap.specs.Heaps.{cell}
use Rattle.heap.specs.Solutions.{Valuation, Says as CellSays, span}
use Rattle.heap.specs.declared.cell.Cell.{Cell}
use Rattle.heap.specs.declared.cell.Cell.TheVariants.{Unbound, Ref, Node}
use Rattle.heap.proofs.SpanLaws.{span_at}
use Rattle.code.specs.declared.instructions.Operand.{Operand}
use Rattle.code.specs.declared.instructions.Operand.TheVariants.{Fresh, Known, Constant}
use Rattle.code.specs.declared.instructions.Instruction.{Instruction}
use Rattle.code.specs.declared.instructions.Instruction.TheVariants.{Allocate, Get, GetStructure, Unify, Put, PutStructure, Set, Call, Proceed}
use Rattle.code.specs.Words.{decode}
use Rattle.code.specs.Rules.{structure_on, key_by, key_of, opened}
use Rattle.code.specs.Tests.{chosen}
use Rattle.code.specs.Meaning.{Symbols, Terming, given, parts, Says}
use Rattle.entering.specs.Goals.{Names}
use Rattle.entering.specs.Ready.{operand_of, Pieces, Ready}
use Rattle.entering.specs.Keys.{key_in, KeyDenies}
use Rattle.entering.proofs.ReadyLaws.{span_is, parts_span}
use Rattle.entering.proofs.CheckLaws.{runnable_ready}

span_count : (ρ : Valuation) (b n : ℕ) → count (span ρ b n) ≡ n
span_count ρ b zero = refl
span_count ρ b (suc n) = ap suc (span_count ρ (suc b) n)

parts_count : (s : Symbols) (n : ℕ) (code : List Instruction) (σ : Terming) → Pieces n code → count (parts s n code σ) ≡ n
parts_count s n code σ p =
    let τ : Terming = λ j. given s (operand_of (get_or code j Proceed)) σ in
    ap count (parts_span s σ τ n code 0 p (λ j l. ap τ (omega arith))) ∙ span_count τ 0 n

-- a term of the symbol f
pub record Headed (s : Symbols) (table : List ℕ) (f : ℕ) (t : Term ℕ) : Type 0 where
  pub args : Terms ℕ
  pub is : t ≡ node (s.name f) args
  pub size : count args ≡ get_or table f 0
  pub known : f < length table

module _ (s : Symbols) (table : List ℕ) (names : Names s table) (n m r : ℕ) (α σ : Terming) where
  structure_headed : (y f : ℕ) (code : List Instruction) (A : List ℕ) → Ready table n m r A code → Says s code α σ → structure_on y code ≡ suc f → Headed s table f (σ y)
  structure_headed y f [] A h c e = absurd (omega arith)
  structure_headed y f (GetStructure z g ∷ code) A h c e = go (eqb z y) refl e (structure_headed y f code A h.3 c.1)
    where
      go : (b : Bool) → eqb z y ≡ b → chosen (cond b (Some g) None) (λ f. 1 + f) (structure_on y code) ≡ suc f → (structure_on y code ≡ suc f → Headed s table f (σ y)) → Headed s table f (σ y)
      go true q e ih =
          let eg : g ≡ f = omega arith in
          let p : Pieces (s.arity g) code = subst (λ k. Pieces k code) (sym (names.arity g)) h.2 in
          record {
            args = parts s (s.arity g) code σ;
            is = ap σ (sym (eqb-true z y q)) ∙ c.0 ∙ ap (λ k. node (s.name k) (parts s (s.arity g) code σ)) eg;
            size = parts_count s (s.arity g) code σ p ∙ names.arity g ∙ ap (λ k. get_or table k 0) eg;
            known = omega (arith, h.1);
          }
      go false q e ih = ih e
  structure_headed y f (Get o a ∷ code) A h c e = structure_headed y f code A h.3 c.1 e
  structure_headed y f (PutStructure z g ∷ code) A h c e = structure_headed y f code A h.3 c.1 e
  structure_headed y f (Unify o ∷ code) A h c e = structure_headed y f code A h.1 c e
  structure_headed y f (Set o ∷ code) A h c e = structure_headed y f code A h.1 c e
  structure_headed y f (Put o a ∷ code) A h c e = structure_headed y f code (a ∷ A) h.2 c e
  structure_headed y f (Call p ∷ code) A h c e = structure_headed y f code [] h.4 c e
  structure_headed y f (Allocate k ∷ code) A h c e = structure_headed y f code A h c e
  structure_headed y f (Proceed ∷ code) A h c e = structure_headed y f code A h c e

  operand_headed : (o : Operand) (f : ℕ) (code : List Instruction) (A : List ℕ) → Ready table n m r A (Get o 1 ∷ code) → Says s (Get o 1 ∷ code) α σ → key_by o code ≡ suc f → Headed s table f (α 1)
  operand_headed (Fresh y) f code A h c e = subst (Headed s table f) (sym c.0) (structure_headed y f code A h.3 c.1 e)
  operand_headed (Known y) f code A h c e = absurd (omega arith)
  operand_headed (Constant k) f code A h c e =
      let ek : k ≡ f = omega arith in
      record {
        args = nil;
        is = c.0 ∙ ap (λ z. node (s.name z) nil) ek;
        size = sym h.2.1 ∙ ap (λ z. get_or table z 0) ek;
        known = omega (arith, h.2.0);
      }

  key_headed : (f : ℕ) (code : List Instruction) (A : List ℕ) → Ready table n m r A code → Says s code α σ → key_of code ≡ suc f → Headed s table f (α 1)
  key_headed f [] A h c e = absurd (omega arith)
  key_headed f (Get o a ∷ code) A h c e = go (eqb a 1) refl e (key_headed f code A h.3 c.1)
    where
      go : (b : Bool) → eqb a 1 ≡ b → chosen (cond b (Some o) None) (λ o. key_by o code) (key_of code) ≡ suc f → (key_of code ≡ suc f → Headed s table f (α 1)) → Headed s table f (α 1)
      go true q e ih =
          let one = eqb-true a 1 q in
          operand_headed o f code A (subst (λ z. Ready table n m r A (Get o z ∷ code)) one h) (subst (λ z. Says s (Get o z ∷ code) α σ) one c) e
      go false q e ih = ih e
  key_headed f (GetStructure z g ∷ code) A h c e = key_headed f code A h.3 c.1 e
  key_headed f (PutStructure z g ∷ code) A h c e = key_headed f code A h.3 c.1 e
  key_headed f (Unify o ∷ code) A h c e = key_headed f code A h.1 c e
  key_headed f (Set o ∷ code) A h c e = key_headed f code A h.1 c e
  key_headed f (Put o a ∷ code) A h c e = key_headed f code (a ∷ A) h.2 c e
  key_headed f (Call p ∷ code) A h c e = key_headed f code [] h.4 c e
  key_headed f (Allocate k ∷ code) A h c e = key_headed f code A h c e
  key_headed f (Proceed ∷ code) A h c e = key_headed f code A h c e

pub key_denies : KeyDenies
key_denies s table words H g r names c typed good some root clash ρ gs h run = go (cell H r) refl clash.1 clash.2
  where
    go : (x : Cell) → cell H r ≡ x → 0 < key_in x → (c.key ≡ key_in x → ⊥) → ⊥
    go Unbound e l ne = absurd (omega arith)
    go (Ref i) e l ne = absurd (omega arith)
    go (Node k a b) e l ne =
        let code = map decode words in
        let f = c.key - 1 in
        let size = names.arity g.symbol ∙ good.size in
        let key : key_of code ≡ suc f = (let q = eqb-true c.key (key_of code) c.kept.v7_kept in let p = clash.0 in omega arith) in
        let hd = key_headed s table names g.arity (opened words) 9 run.0 run.1 f code [] (runnable_ready table g.symbol words c g.arity 9 good.size (omega arith)) run.3.0 key in
        let args : span ρ g.first g.arity ≡ span run.0 1 g.arity = run.2 ∙ span_is run.0 1 (s.arity g.symbol) ∙ ap (span run.0 1) size in
        let first : ρ g.first ≡ run.0 1 = ap ρ (omega arith) ∙ span_at ρ run.0 g.first 1 g.arity args 0 some ∙ ap run.0 (omega arith) in
        let there : ρ g.first ≡ node (s.name k) (span ρ b a) = root.same s.name ρ h ∙ subst (λ z. CellSays s.name z r ρ) e (h r) in
        let is = hd.is in
        let name : s.name k ≡ s.name f = cc in
        let rows : span ρ b a ≡ hd.args = cc in
        let t = typed r k a b e in
        let arity : get_or table k 0 ≡ get_or table f 0 = t.1 ∙ sym (span_count ρ b a) ∙ ap count rows ∙ hd.size in
        let same : k ≡ f = names.apart k f t.0 hd.known arity name in
        ne (let p = clash.0 in omega arith)
