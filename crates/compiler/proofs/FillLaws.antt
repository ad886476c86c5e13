-- Slots as they are filled.
use Rattle.std.proofs.Common.{◌≡◌, ℕ, zero, suc, ◌+◌, Bool, true, false, ◌≢◌, List, [], ◌∷◌, ◌++◌, map, length, set, sym, refl, ap, ◌∙◌, subst, ap₂, append_assoc, append-nil, add-one, arith, length-set, get_or-set_other}
use mathlib.Core.List.{map-append}
use native.Mathlib.Decide.{ℕ_discrete}
use Rattle.symbol_table.specs.Symbols.{Signature}
use Rattle.compiler.specs.Terms.{hop}
use Rattle.code.specs.Meaning.{Terming}
use Rattle.compiler.specs.Places.{Plan, worth}
use Rattle.compiler.specs.Filling.{Empty, Filled, Fits, fill, Fills, still, then, Marked, MarkedAt, Off, OffAt}
use Rattle.compiler.specs.Rows.{row, instruction}
use Rattle.compiler.specs.Lawful.{Fair, Fairs}
use Rattle.code.specs.Words.{encode, decode}
use Rattle.compiler.specs.Emits.{Picked, Chosen, Names, Named, none, Rowed}
use Rattle.compiler.proofs.EmitLaws.{named_push, named_long, exact_append}
use Rattle.compiler.specs.declared.items.Item.{Item}
use Rattle.compiler.specs.declared.items.Item.TheVariants.{Atom, Structure, Variable}
use Rattle.code.specs.declared.instructions.Operand.{Operand}
use Rattle.code.specs.declared.instructions.Operand.TheVariants.{Fresh, Known, Constant}
use Rattle.compiler.specs.Rows.{Role}
use Rattle.code.specs.declared.instructions.Instruction.{Instruction}

pub empty_other : (s : List Bool) (y z : ℕ) → (y ≡ z → ⊥) → Empty s z → Empty (set s y true) z
empty_other s y z ne e = let other : z ≢ y = λ q. ne (sym q) in get_or-set_other s y z true true other ∙ e

-- what is filled stays filled
pub filled_more : (s : List Bool) (y z : ℕ) → Filled s z → Filled (set s y true) z
filled_more s y z h =
    elim (ℕ_discrete z y) [
      | yes q ↦ subst (λ x. Filled (set s x true) z) q (go s z h)
      | no ne ↦ get_or-set_other s y z true false ne ∙ h
    ]
  where
    go : (s : List Bool) (z : ℕ) → Filled s z → Filled (set s z true) z
    go [] z h = h
    go (b ∷ s) zero h = refl
    go (b ∷ s) (suc z) h = go s z h

pub fill_more : (o : Operand) (s : List Bool) (z : ℕ) → Filled s z → Filled (fill o s) z
fill_more (Fresh y) s z h = filled_more s y z h
fill_more (Known y) s z h = h
fill_more (Constant c) s z h = h

pub fills_more : {os : List Operand} {s s' : List Bool} → Fills os s s' → (z : ℕ) → Filled s z → Filled s' z
fills_more still z h = h
fills_more (then {o = o} {s = s} f r) z h = fills_more r z (fill_more o s z h)

pub marked_more : (k : Item) (y : ℕ) (s s' : List Bool) → ((z : ℕ) → Filled s z → Filled s' z) → Marked k y s → Marked k y s'
marked_more (Atom c) y s s' h m = tt
marked_more (Structure f) y s s' h m = h y m
marked_more (Variable v) y s s' h m = h v m

pub fill_long : (o : Operand) (s : List Bool) → length (fill o s) ≡ length s
fill_long (Fresh y) s = length-set s y true
fill_long (Known y) s = refl
fill_long (Constant c) s = refl

pub fills_push : {os : List Operand} {s s' : List Bool} (o : Operand) → Fills os s s' → Fits o s' → Fills (os ++ o ∷ []) s (fill o s')
fills_push o still f = then f still
fills_push o (then g r) f = then g (fills_push o r f)

-- an operand for the slot of the token k
pub chosen : (p : Plan) (i y : ℕ) (k : Item) (o : Operand) (s s' : List Bool) → p.tok i ≡ k → ((ρ : Terming) → worth p.sig k (p.slot i) ρ ≡ ρ y)
    → (Filled s' y → Marked k (p.slot i) s') → ((z : ℕ) → Off k (p.slot i) z → y ≡ z → ⊥) → Picked y o s s' → Chosen p i o s s'
chosen p i y k o s s' is reads marks off b = record {
  names = λ ρ. b.names p.sig ρ ∙ sym (reads ρ) ∙ ap (λ x. worth p.sig x (p.slot i) ρ) (sym is);
  fair = b.fair p.sig;
  fits = b.fits;
  after = b.after;
  marked = subst (λ x. Marked x (p.slot i) s') (sym is) (marks b.filled);
  keeps = λ z f e. b.keeps z (off z (subst (λ x. Off x (p.slot i) z) is f)) e;
}

pub chosen_constant : (p : Plan) (i c : ℕ) (s : List Bool) → p.tok i ≡ Atom c → Fair p.sig (Constant c) → Chosen p i (Constant c) s s
chosen_constant p i c s is fair = record {
  fair = fair;
  names = λ ρ. ap (λ x. worth p.sig x (p.slot i) ρ) (sym is);
  fits = tt;
  after = refl;
  marked = subst (λ x. Marked x (p.slot i) s) (sym is) tt;
  keeps = λ z f e. e;
}

row_push : (r : Role) (a : ℕ) (os : List Operand) (o : Operand) → row r a (os ++ o ∷ []) ≡ row r a os ++ instruction r o (length os + a) ∷ []
row_push r a [] o = ap (λ k. instruction r o k ∷ []) (omega arith)
row_push r a (p ∷ os) o = ap (λ l. instruction r p a ∷ l) (row_push r (suc a) os o ∙ ap (λ k. row r (suc a) os ++ instruction r o k ∷ []) (omega arith))

pub rowed_none : (p : Plan) (r : Role) (out : List ℕ) (s : List Bool) (j : ℕ) → Rowed p r out out s s 0 j
rowed_none p r out s j = record { os = []; longer = sym (append-nil out); exact = refl; fair = tt; named = none; fills = still; all = λ k h. absurd (omega arith); keeps = λ z h e. e }

map_push : (os : List Instruction) (o : Instruction) → map decode (map encode os) ≡ os → decode (encode o) ≡ o → map decode (map encode (os ++ o ∷ [])) ≡ os ++ o ∷ []
map_push os o p q = exact_append os (o ∷ []) p (ap (λ x. x ∷ []) q)

fairs_push : (sig : Signature) (os : List Operand) (o : Operand) → Fairs sig os → Fair sig o → Fairs sig (os ++ o ∷ [])
fairs_push sig [] o p q = (q, tt)
fairs_push sig (x ∷ os) o p q = (p.0, fairs_push sig os o p.1 q)

module _ {p : Plan} {r : Role} {out out' : List ℕ} {s s' : List Bool} {n j : ℕ} (was : Rowed p r out out' s s' n j) where
  pub rowed_more : (at : ℕ) (o : Operand) (w : Instruction) (out'' : List ℕ) (s'' : List Bool) → at ≡ hop p.after n j → Chosen p at o s' s'' → w ≡ instruction r o (n + 1) → out'' ≡ out' ++ encode w ∷ [] → decode (encode w) ≡ w
      → Rowed p r out out'' s s'' (n + 1) j
  rowed_more at o w out'' s'' is ch says longer exact =
      let long = named_long was.named in
      let same : w ≡ instruction r o (length was.os + 1) = says ∙ ap (λ k. instruction r o (k + 1)) (sym long) in
      record {
        os = was.os ++ o ∷ [];
        longer =
            longer ∙ ap₂ (λ l x. l ++ encode x ∷ []) was.longer same ∙ append_assoc out (map encode (row r 1 was.os)) (encode (instruction r o (length was.os + 1)) ∷ [])
            ∙ ap (λ l. out ++ l) (sym (ap (map encode) (row_push r 1 was.os o) ∙ map-append encode (row r 1 was.os) (instruction r o (length was.os + 1) ∷ [])));
        exact =
            ap (λ l. map decode (map encode l)) (row_push r 1 was.os o)
            ∙ map_push (row r 1 was.os) (instruction r o (length was.os + 1)) was.exact (subst (λ x. decode (encode x) ≡ x) same exact)
            ∙ sym (row_push r 1 was.os o);
        fair = fairs_push p.sig was.os o was.fair ch.fair;
        named = subst (λ k. Named p (was.os ++ o ∷ []) k j) (sym (add-one n)) (named_push o was.named (subst (λ x. Names p o x) is ch.names));
        fills = subst (λ x. Fills (was.os ++ o ∷ []) s x) (sym ch.after) (fills_push o was.fills ch.fits);
        all = λ k h.
            elim (ℕ_discrete k n) [
              | yes q ↦ subst (λ x. MarkedAt p s'' x) (is ∙ ap (λ x. hop p.after x j) (sym q)) ch.marked
              | no ne ↦
                  marked_more (p.tok (hop p.after k j)) (p.slot (hop p.after k j)) s' s''
                  (λ z f. subst (λ x. Filled x z) (sym ch.after) (fill_more o s' z f)) (was.all k (omega arith))
            ];
        keeps = λ z h e. ch.keeps z (subst (λ x. OffAt p z x) (sym is) (h n (omega arith))) (was.keeps z (λ k lt. h k (omega arith)) e);
      }
