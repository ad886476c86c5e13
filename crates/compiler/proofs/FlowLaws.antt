-- Words and the slots that they fill.
use Rattle.std.proofs.Common.{◌≡◌, ℕ, suc, ◌+◌, ◌<◌, ◌≤◌, Bool, true, List, [], ◌∷◌, ◌++◌, map, length, set, sym, refl, ap, ◌∙◌, subst, ap₂, subst₂, append_assoc, add-one, arith}
use Rattle.horn.specs.Terms.{nil}
use Rattle.symbol_table.specs.Symbols.{Signature, arity_at}
use Rattle.compiler.specs.Terms.{hop}
use Rattle.compiler.specs.Places.{Plan, values, Built, width, wide, gain}
use Rattle.compiler.specs.Filling.{Empty, Filled, Fills, still, then, Marked, MarkedAt, Off, OffAt}
use Rattle.compiler.specs.Order.{Orderly}
use Rattle.compiler.specs.Scripts.{Phase, inside, goal, takes, builds}
use Rattle.compiler.specs.Rows.{row}
use Rattle.compiler.specs.Lawful.{Formed}
use Rattle.code.specs.Words.{encode, decode}
use Rattle.compiler.specs.Emits.{Added, Struck, Rowed, Named}
use Rattle.compiler.proofs.EmitLaws.{added_none, emits_get_structure, emits_put_structure, named_long, row_long, row_lawful}
use Rattle.compiler.proofs.FillLaws.{fills_more, filled_more, empty_other}
use Rattle.compiler.specs.declared.items.Item.{Item}
use Rattle.compiler.specs.declared.items.Item.TheVariants.{Atom, Structure, Variable}
use Rattle.code.specs.declared.instructions.Operand.{Operand}
use Rattle.code.specs.declared.instructions.Instruction.{Instruction}
use Rattle.code.specs.declared.instructions.Instruction.TheVariants.{GetStructure, PutStructure}
use Rattle.compiler.specs.Rows.{Role}
use Rattle.compiler.specs.Rows.{Gets, Unifies, Puts, Sets}

-- a row of words, when no slot is due
pub row_flows : {os : List Operand} {s s' : List Bool} (sig : Signature) (r : Role) (a : ℕ) (rest : List Instruction) → Fills os s s' → Orderly sig 0 0 rest s' → Orderly sig 0 0 (row r a os ++ rest) s
row_flows sig r a rest still h = h
row_flows sig Gets a rest (then f more) h = (f, row_flows sig Gets (suc a) rest more h)
row_flows sig Unifies a rest (then f more) h = (f, row_flows sig Unifies (suc a) rest more h)
row_flows sig Puts a rest (then f more) h = (f, row_flows sig Puts (suc a) rest more h)
row_flows sig Sets a rest (then f more) h = (f, row_flows sig Sets (suc a) rest more h)

-- set words, when the slot z is due after them
pub sets_flow : {o : Operand} {os : List Operand} {s s' : List Bool} (sig : Signature) (a z : ℕ) (rest : List Instruction) → Fills (o ∷ os) s s' → Empty s' z → Orderly sig 0 0 rest (set s' z true)
    → Orderly sig (suc (length os)) z (row Sets a (o ∷ os) ++ rest) s
sets_flow sig a z rest (then f still) e h = (tt, f, e, h)
sets_flow sig a z rest (then f (then g more)) e h = (tt, f, sets_flow sig (suc a) z rest (then g more) e h)

sets_flow_some : (os : List Operand) (s s' : List Bool) (sig : Signature) (n z : ℕ) (rest : List Instruction) → length os ≡ n → 1 ≤ n → Fills os s s' → Empty s' z → Orderly sig 0 0 rest (set s' z true)
    → Orderly sig n z (row Sets 1 os ++ rest) s
sets_flow_some [] s s' sig n z rest long some f e h = absurd (omega arith)
sets_flow_some (o ∷ os) s s' sig n z rest long some f e h = subst (λ k. Orderly sig k z (row Sets 1 (o ∷ os) ++ rest) s) long (sets_flow sig 1 z rest f e h)

-- what the record of a structure says, by the token
abbrev StruckAs : Plan → Phase → Item → ℕ → List ℕ → List ℕ → List Bool → List Bool → Type 0
StruckAs p a k i out out' s s' =
    Added p.sig a a out out' (gain p.sig k) (λ α ρ. Built p.sig k (p.slot i) ρ (values p ρ (width p.sig k) (suc i))) (λ ρ. nil) s s'
    × ((j : ℕ) → j < width p.sig k → MarkedAt p s' (hop p.after j (suc i)))
    × ((z : ℕ) → Off k (p.slot i) z → ((j : ℕ) → j < width p.sig k → OffAt p z (hop p.after j (suc i))) → Empty s z → Empty s' z)

struck : (p : Plan) (a : Phase) (i : ℕ) (k : Item) (out out' : List ℕ) (s s' : List Bool) → p.tok i ≡ k → StruckAs p a k i out out' s s' → Struck p a i out out' s s'
struck p a i k out out' s s' is h =
    let back = subst (λ x. StruckAs p a x i out out' s s') (sym is) h in
    record { added = back.0; all = back.1; keeps = back.2 }

-- a structure is taken apart
pub struck_get : (p : Plan) (out out₁ out₂ : List ℕ) (s s' : List Bool) (i f n : ℕ) (w : Instruction) → p.tok i ≡ Structure f → n ≡ arity_at p.sig f → w ≡ GetStructure (p.slot i) f
    → out₁ ≡ out ++ encode w ∷ [] → decode (encode w) ≡ w → Formed p.sig f → MarkedAt p s i → Rowed p Unifies out₁ out₂ s s' n (i + 1) → Struck p inside i out out₂ s s'
struck_get p out out₁ out₂ s s' i f n w is wide word pushed exact formed marked rowed =
    let named : Named p rowed.os (arity_at p.sig f) (suc i) = subst₂ (λ k j. Named p rowed.os k j) wide (add-one i) rowed.named in
    let full : Filled s (p.slot i) = subst (λ k. Marked k (p.slot i) s) is marked in
    struck p inside i (Structure f) out out₂ s s' is (
      record {
        words = GetStructure (p.slot i) f ∷ row Unifies 1 rowed.os;
        longer = rowed.longer ∙ ap (λ l. l ++ map encode (row Unifies 1 rowed.os)) (pushed ∙ ap (λ x. out ++ encode x ∷ []) word) ∙ append_assoc out (encode (GetStructure (p.slot i) f) ∷ []) (map encode (row Unifies 1 rowed.os));
        exact = ap₂ ◌∷◌ (subst (λ x. decode (encode x) ≡ x) word exact) rowed.exact;
        lawful = (formed, row_lawful p.sig Unifies 1 rowed.os rowed.fair);
        size = ap suc (row_long Unifies 1 rowed.os ∙ named_long named);
        emits = emits_get_structure p (p.slot i) f named;
        script = takes rowed.os (named_long named);
        flows = λ rest h. (full, row_flows p.sig Unifies 1 rest rowed.fills h);
        more = fills_more rowed.fills;
      },
      λ j lt. subst (λ x. MarkedAt p s' (hop p.after j x)) (add-one i) (rowed.all j (omega arith)),
      λ z off offs e. rowed.keeps z (λ j lt. subst (λ x. OffAt p z (hop p.after j x)) (sym (add-one i)) (offs j (omega arith))) e,
    )

-- a structure is built
pub struck_put : (p : Plan) (out out₁ out₂ : List ℕ) (s s' : List Bool) (i f n : ℕ) (w : Instruction) → p.tok i ≡ Structure f → n ≡ arity_at p.sig f → 1 ≤ arity_at p.sig f → w ≡ PutStructure (p.slot i) f
    → out₁ ≡ out ++ encode w ∷ [] → decode (encode w) ≡ w → Formed p.sig f → Empty s' (p.slot i) → Rowed p Sets out₁ out₂ s s' n (i + 1) → Struck p goal i out out₂ s (set s' (p.slot i) true)
struck_put p out out₁ out₂ s s' i f n w is wide some word pushed exact formed empty rowed =
    let named : Named p rowed.os (arity_at p.sig f) (suc i) = subst₂ (λ k j. Named p rowed.os k j) wide (add-one i) rowed.named in
    struck p goal i (Structure f) out out₂ s (set s' (p.slot i) true) is (
      record {
        words = PutStructure (p.slot i) f ∷ row Sets 1 rowed.os;
        longer = rowed.longer ∙ ap (λ l. l ++ map encode (row Sets 1 rowed.os)) (pushed ∙ ap (λ x. out ++ encode x ∷ []) word) ∙ append_assoc out (encode (PutStructure (p.slot i) f) ∷ []) (map encode (row Sets 1 rowed.os));
        exact = ap₂ ◌∷◌ (subst (λ x. decode (encode x) ≡ x) word exact) rowed.exact;
        lawful = (formed, row_lawful p.sig Sets 1 rowed.os rowed.fair);
        size = ap suc (row_long Sets 1 rowed.os ∙ named_long named);
        emits = emits_put_structure p (p.slot i) f named;
        script = builds rowed.os (named_long named);
        flows = λ rest h. (tt, sets_flow_some rowed.os s s' p.sig (arity_at p.sig f) (p.slot i) rest (named_long named) some rowed.fills empty h);
        more = λ z h. filled_more s' (p.slot i) z (fills_more rowed.fills z h);
      },
      λ j lt. marked_set (p.tok (hop p.after j (suc i))) (p.slot (hop p.after j (suc i))) s' (p.slot i)
          (subst (λ x. MarkedAt p s' (hop p.after j x)) (add-one i) (rowed.all j (omega arith))),
      λ z off offs e. empty_other s' (p.slot i) z off (rowed.keeps z (λ j lt. subst (λ x. OffAt p z (hop p.after j x)) (sym (add-one i)) (offs j (omega arith))) e),
    )
  where
    marked_set : (k : Item) (y : ℕ) (s : List Bool) (z : ℕ) → Marked k y s → Marked k y (set s z true)
    marked_set (Atom c) y s z m = tt
    marked_set (Structure f) y s z m = filled_more s z y m
    marked_set (Variable v) y s z m = filled_more s z v m

-- what is no structure takes no words
pub struck_leaf : (p : Plan) (a : Phase) (out : List ℕ) (i : ℕ) (s : List Bool) (k : Item) → p.tok i ≡ k → ((f : ℕ) → k ≡ Structure f → ⊥) → Struck p a i out out s s
struck_leaf p a out i s (Atom c) is none = struck p a i (Atom c) out out s s is (added_none p.sig a out s, λ j lt. absurd (omega arith), λ z off offs e. e)
struck_leaf p a out i s (Structure f) is none = absurd (none f refl)
struck_leaf p a out i s (Variable v) is none = struck p a i (Variable v) out out s s is (added_none p.sig a out s, λ j lt. absurd (omega arith), λ z off offs e. e)
