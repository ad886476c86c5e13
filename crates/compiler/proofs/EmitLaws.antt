-- Words one after another.
use Rattle.std.proofs.Common.{◌≡◌, ℕ, suc, ◌+◌, ◌<◌, Bool, cond, List, [], ◌∷◌, ◌++◌, map, length, sym, refl, ap, ◌∙◌, subst, ap₂, append_assoc, append-nil, arith, length-append, eq-eqb, ne_eqb}
use mathlib.Core.List.{map-append}
use Rattle.std.proofs.lemmas.List.{length-map}
use Rattle.horn.specs.Terms.{Term, Terms, var, node, nil, cons, join}
use Rattle.symbol_table.specs.Symbols.{Signature, name_at, arity_at, symbols_of}
use Rattle.compiler.specs.Terms.{hop}
use Rattle.code.specs.Meaning.{Terming, span}
use Rattle.code.specs.Meaning.{given, parts, Says, goals, update}
use Rattle.compiler.specs.Places.{Plan, value, values}
use Rattle.compiler.specs.Order.{Orderly}
use Rattle.compiler.specs.Scripts.{Phase, Script, stay, next}
use Rattle.compiler.specs.Rows.{row}
use Rattle.compiler.specs.Lawful.{Fairs, Lawfuls}
use Rattle.code.specs.Words.{encode, decode}
use Rattle.compiler.specs.Emits.{Emits, Added, Names, Named, none, more}
use Rattle.code.specs.declared.instructions.Operand.{Operand}
use Rattle.code.specs.declared.instructions.Instruction.{Instruction}
use Rattle.code.specs.declared.instructions.Instruction.TheVariants.{Allocate, GetStructure, PutStructure, Call, Proceed}
use Rattle.compiler.specs.Rows.{Role}
use Rattle.compiler.specs.Rows.{Gets, Unifies, Puts, Sets}

pub join_assoc : (a b c : Terms ℕ) → join (join a b) c ≡ join a (join b c)
join_assoc nil b c = refl
join_assoc (cons t a) b c = ap (cons t) (join_assoc a b c)

pub emits_then : (sig : Signature) (a b : List Instruction) (X Y : Terming → Terming → Type 0) (G K : Terming → Terms ℕ)
    → Emits sig a X G → Emits sig b Y K → Emits sig (a ++ b) (λ α ρ. X α ρ × Y α ρ) (λ ρ. join (G ρ) (K ρ))
emits_then sig a b X Y G K p q = record {
  into = λ α ρ rest h.
      let one = p.into α ρ (b ++ rest) (subst (λ l. Says (symbols_of sig) l α ρ) (append_assoc a b rest) h) in
      let two = q.into α ρ rest one.1 in
      ((one.0, two.0), two.1);
  back = λ α ρ rest x h. subst (λ l. Says (symbols_of sig) l α ρ) (sym (append_assoc a b rest)) (p.back α ρ (b ++ rest) x.0 (q.back α ρ rest x.1 h));
  leaves = λ ρ rest. ap (λ l. goals (symbols_of sig) l ρ var) (append_assoc a b rest) ∙ p.leaves ρ (b ++ rest) ∙ ap (join (G ρ)) (q.leaves ρ rest) ∙ sym (join_assoc (G ρ) (K ρ) _);
}

pub emits_as : (sig : Signature) (a : List Instruction) (X Y : Terming → Terming → Type 0) (G : Terming → Terms ℕ)
    → ((α ρ : Terming) → X α ρ → Y α ρ) → ((α ρ : Terming) → Y α ρ → X α ρ) → Emits sig a X G → Emits sig a Y G
emits_as sig a X Y G f g p = record {
  into = λ α ρ rest h. let one = p.into α ρ rest h in (f α ρ one.0, one.1);
  back = λ α ρ rest y h. p.back α ρ rest (g α ρ y) h;
  leaves = p.leaves;
}

-- one operand more
pub named_push : {p : Plan} {os : List Operand} {n j : ℕ} (o : Operand) → Named p os n j → Names p o (hop p.after n j) → Named p (os ++ o ∷ []) (suc n) j
named_push o none q = more q none
named_push o (more h r) q = more h (named_push o r q)

pub named_long : {p : Plan} {os : List Operand} {n j : ℕ} → Named p os n j → length os ≡ n
named_long none = refl
named_long (more h r) = ap suc (named_long r)

-- the get words equate the arguments with what they name
pub gets_into : (p : Plan) {os : List Operand} {n j : ℕ} (α ρ : Terming) (rest : List Instruction) (a : ℕ) → Named p os n j
    → Says (symbols_of p.sig) (row Gets a os ++ rest) α ρ → (span α a n ≡ values p ρ n j) × Says (symbols_of p.sig) rest α ρ
gets_into p α ρ rest a none s = (refl, s)
gets_into p α ρ rest a (more h r) s =
    let more = gets_into p α ρ rest (suc a) r s.1 in
    (ap₂ cons (s.0 ∙ h ρ) more.0, more.1)

pub gets_back : (p : Plan) {os : List Operand} {n j : ℕ} (α ρ : Terming) (rest : List Instruction) (a : ℕ) → Named p os n j
    → span α a n ≡ values p ρ n j → Says (symbols_of p.sig) rest α ρ → Says (symbols_of p.sig) (row Gets a os ++ rest) α ρ
gets_back p α ρ rest a none q s = s
gets_back p α ρ rest a (more {n = n} {j = j} h r) q s =
    let one : α a ≡ value p ρ j = cc in
    let others : span α (suc a) n ≡ values p ρ n (p.after j) = cc in
    (one ∙ sym (h ρ), gets_back p α ρ rest (suc a) r others s)

pub gets_goals : (sig : Signature) (ρ π : Terming) (rest : List Instruction) (os : List Operand) (a : ℕ) → goals (symbols_of sig) (row Gets a os ++ rest) ρ π ≡ goals (symbols_of sig) rest ρ π
gets_goals sig ρ π rest [] a = refl
gets_goals sig ρ π rest (o ∷ os) a = gets_goals sig ρ π rest os (suc a)

-- the words of a structure name its arguments
pub unifies_parts : (p : Plan) {os : List Operand} {n j : ℕ} (ρ : Terming) (rest : List Instruction) (a : ℕ) → Named p os n j → parts (symbols_of p.sig) n (row Unifies a os ++ rest) ρ ≡ values p ρ n j
unifies_parts p ρ rest a none = refl
unifies_parts p ρ rest a (more h r) = ap₂ cons (h ρ) (unifies_parts p ρ rest (suc a) r)

pub sets_parts : (p : Plan) {os : List Operand} {n j : ℕ} (ρ : Terming) (rest : List Instruction) (a : ℕ) → Named p os n j → parts (symbols_of p.sig) n (row Sets a os ++ rest) ρ ≡ values p ρ n j
sets_parts p ρ rest a none = refl
sets_parts p ρ rest a (more h r) = ap₂ cons (h ρ) (sets_parts p ρ rest (suc a) r)

-- rows that say nothing themselves
pub unifies_says : (sig : Signature) (α ρ : Terming) (rest : List Instruction) (os : List Operand) (a : ℕ) → Says (symbols_of sig) (row Unifies a os ++ rest) α ρ ≡ Says (symbols_of sig) rest α ρ
unifies_says sig α ρ rest [] a = refl
unifies_says sig α ρ rest (o ∷ os) a = unifies_says sig α ρ rest os (suc a)

pub unifies_goals : (sig : Signature) (ρ π : Terming) (rest : List Instruction) (os : List Operand) (a : ℕ) → goals (symbols_of sig) (row Unifies a os ++ rest) ρ π ≡ goals (symbols_of sig) rest ρ π
unifies_goals sig ρ π rest [] a = refl
unifies_goals sig ρ π rest (o ∷ os) a = unifies_goals sig ρ π rest os (suc a)

pub sets_says : (sig : Signature) (α ρ : Terming) (rest : List Instruction) (os : List Operand) (a : ℕ) → Says (symbols_of sig) (row Sets a os ++ rest) α ρ ≡ Says (symbols_of sig) rest α ρ
sets_says sig α ρ rest [] a = refl
sets_says sig α ρ rest (o ∷ os) a = sets_says sig α ρ rest os (suc a)

pub sets_goals : (sig : Signature) (ρ π : Terming) (rest : List Instruction) (os : List Operand) (a : ℕ) → goals (symbols_of sig) (row Sets a os ++ rest) ρ π ≡ goals (symbols_of sig) rest ρ π
sets_goals sig ρ π rest [] a = refl
sets_goals sig ρ π rest (o ∷ os) a = sets_goals sig ρ π rest os (suc a)

pub puts_says : (sig : Signature) (α ρ : Terming) (rest : List Instruction) (os : List Operand) (a : ℕ) → Says (symbols_of sig) (row Puts a os ++ rest) α ρ ≡ Says (symbols_of sig) rest α ρ
puts_says sig α ρ rest [] a = refl
puts_says sig α ρ rest (o ∷ os) a = puts_says sig α ρ rest os (suc a)

-- the arguments that a row of put words leaves
abbrev putting : Signature → ℕ → List Operand → Terming → Terming → Terming
putting sig a [] ρ π = π
putting sig a (o ∷ os) ρ π = putting sig (suc a) os ρ (update π a (given (symbols_of sig) o ρ))

puts_goals : (sig : Signature) (ρ π : Terming) (rest : List Instruction) (os : List Operand) (a : ℕ) → goals (symbols_of sig) (row Puts a os ++ rest) ρ π ≡ goals (symbols_of sig) rest ρ (putting sig a os ρ π)
puts_goals sig ρ π rest [] a = refl
puts_goals sig ρ π rest (o ∷ os) a = puts_goals sig ρ (update π a (given (symbols_of sig) o ρ)) rest os (suc a)

update_same : (π : Terming) (a : ℕ) (t : Term ℕ) → update π a t a ≡ t
update_same π a t = ap (λ b. cond b t (π a)) (eq-eqb a a refl)

update_other : (π : Terming) (a k : ℕ) (t : Term ℕ) → (k ≡ a → ⊥) → update π a t k ≡ π k
update_other π a k t ne = ap (λ b. cond b t (π k)) (ne_eqb k a ne)

putting_before : (sig : Signature) (os : List Operand) (a k : ℕ) (ρ π : Terming) → k < a → putting sig a os ρ π k ≡ π k
putting_before sig [] a k ρ π h = refl
putting_before sig (o ∷ os) a k ρ π h = putting_before sig os (suc a) k ρ (update π a (given (symbols_of sig) o ρ)) (omega arith) ∙ update_other π a k _ (λ q. omega arith)

putting_span : (p : Plan) {os : List Operand} {n j : ℕ} (ρ π : Terming) (a : ℕ) → Named p os n j → span (putting p.sig a os ρ π) a n ≡ values p ρ n j
putting_span p ρ π a none = refl
putting_span p ρ π a (more {o = o} {os = os} h r) =
    ap₂ cons (putting_before p.sig os (suc a) a ρ (update π a (given (symbols_of p.sig) o ρ)) (omega arith) ∙ update_same π a (given (symbols_of p.sig) o ρ) ∙ h ρ)
    (putting_span p ρ (update π a (given (symbols_of p.sig) o ρ)) (suc a) r)

pub emits_gets : (p : Plan) {os : List Operand} {n j : ℕ} → Named p os n j → Emits p.sig (row Gets 1 os) (λ α ρ. span α 1 n ≡ values p ρ n j) (λ ρ. nil)
emits_gets p {os} h = record {
  into = λ α ρ rest s. gets_into p α ρ rest 1 h s;
  back = λ α ρ rest x s. gets_back p α ρ rest 1 h x s;
  leaves = λ ρ rest. gets_goals p.sig ρ var rest os 1;
}

pub emits_get_structure : (p : Plan) {os : List Operand} {j : ℕ} (y f : ℕ) → Named p os (arity_at p.sig f) j
    → Emits p.sig (GetStructure y f ∷ row Unifies 1 os) (λ α ρ. ρ y ≡ node (name_at p.sig f) (values p ρ (arity_at p.sig f) j)) (λ ρ. nil)
emits_get_structure p {os} y f h = record {
  into = λ α ρ rest s. (s.0 ∙ ap (node (name_at p.sig f)) (unifies_parts p ρ rest 1 h), subst (λ X. X) (unifies_says p.sig α ρ rest os 1) s.1);
  back = λ α ρ rest x s. (x ∙ ap (node (name_at p.sig f)) (sym (unifies_parts p ρ rest 1 h)), subst (λ X. X) (sym (unifies_says p.sig α ρ rest os 1)) s);
  leaves = λ ρ rest. unifies_goals p.sig ρ var rest os 1;
}

pub emits_put_structure : (p : Plan) {os : List Operand} {j : ℕ} (y f : ℕ) → Named p os (arity_at p.sig f) j
    → Emits p.sig (PutStructure y f ∷ row Sets 1 os) (λ α ρ. ρ y ≡ node (name_at p.sig f) (values p ρ (arity_at p.sig f) j)) (λ ρ. nil)
emits_put_structure p {os} y f h = record {
  into = λ α ρ rest s. (s.0 ∙ ap (node (name_at p.sig f)) (sets_parts p ρ rest 1 h), subst (λ X. X) (sets_says p.sig α ρ rest os 1) s.1);
  back = λ α ρ rest x s. (x ∙ ap (node (name_at p.sig f)) (sym (sets_parts p ρ rest 1 h)), subst (λ X. X) (sym (sets_says p.sig α ρ rest os 1)) s);
  leaves = λ ρ rest. sets_goals p.sig ρ var rest os 1;
}

pub emits_goal : (p : Plan) {os : List Operand} {j : ℕ} (q : ℕ) → Named p os (arity_at p.sig q) j
    → Emits p.sig (row Puts 1 os ++ Call q ∷ []) (λ α ρ. Unit {0}) (λ ρ. cons (node (name_at p.sig q) (values p ρ (arity_at p.sig q) j)) nil)
emits_goal p {os} q h = record {
  into = λ α ρ rest s. (tt, subst (λ X. X) (puts_says p.sig α ρ (Call q ∷ rest) os 1) (subst (λ l. Says (symbols_of p.sig) l α ρ) (append_assoc (row Puts 1 os) (Call q ∷ []) rest) s));
  back = λ α ρ rest x s. subst (λ l. Says (symbols_of p.sig) l α ρ) (sym (append_assoc (row Puts 1 os) (Call q ∷ []) rest)) (subst (λ X. X) (sym (puts_says p.sig α ρ (Call q ∷ rest) os 1)) s);
  leaves = λ ρ rest.
      ap (λ l. goals (symbols_of p.sig) l ρ var) (append_assoc (row Puts 1 os) (Call q ∷ []) rest)
      ∙ puts_goals p.sig ρ var (Call q ∷ rest) os 1
      ∙ ap (λ ts. cons (node (name_at p.sig q) ts) (goals (symbols_of p.sig) rest ρ var)) (putting_span p ρ var 1 h);
}

pub emits_none : (sig : Signature) → Emits sig [] (λ α ρ. Unit {0}) (λ ρ. nil)
emits_none sig = record { into = λ α ρ rest s. (tt, s); back = λ α ρ rest x s. s; leaves = λ ρ rest. refl }

pub emits_allocate : (sig : Signature) (n : ℕ) → Emits sig (Allocate n ∷ []) (λ α ρ. Unit {0}) (λ ρ. nil)
emits_allocate sig n = record { into = λ α ρ rest s. (tt, s); back = λ α ρ rest x s. s; leaves = λ ρ rest. refl }

pub emits_proceed : (sig : Signature) → Emits sig (Proceed ∷ []) (λ α ρ. Unit {0}) (λ ρ. nil)
emits_proceed sig = record { into = λ α ρ rest s. (tt, s); back = λ α ρ rest x s. s; leaves = λ ρ rest. refl }

pub row_long : (r : Role) (a : ℕ) (os : List Operand) → length (row r a os) ≡ length os
row_long r a [] = refl
row_long r a (o ∷ os) = ap suc (row_long r (suc a) os)

pub exact_append : (a b : List Instruction) → map decode (map encode a) ≡ a → map decode (map encode b) ≡ b → map decode (map encode (a ++ b)) ≡ a ++ b
exact_append a b p q = ap (map decode) (map-append encode a b) ∙ map-append decode (map encode a) (map encode b) ∙ ap₂ ◌++◌ p q

pub lawful_append : (sig : Signature) (a b : List Instruction) → Lawfuls sig a → Lawfuls sig b → Lawfuls sig (a ++ b)
lawful_append sig [] b p q = q
lawful_append sig (w ∷ a) b p q = (p.0, lawful_append sig a b p.1 q)

pub row_lawful : (sig : Signature) (r : Role) (a : ℕ) (os : List Operand) → Fairs sig os → Lawfuls sig (row r a os)
row_lawful sig r a [] h = tt
row_lawful sig Gets a (o ∷ os) h = (h.0, row_lawful sig Gets (suc a) os h.1)
row_lawful sig Unifies a (o ∷ os) h = (h.0, row_lawful sig Unifies (suc a) os h.1)
row_lawful sig Puts a (o ∷ os) h = (h.0, row_lawful sig Puts (suc a) os h.1)
row_lawful sig Sets a (o ∷ os) h = (h.0, row_lawful sig Sets (suc a) os h.1)

pub added_none : (sig : Signature) (a : Phase) (out : List ℕ) (s : List Bool) → Added sig a a out out 0 (λ α ρ. Unit {0}) (λ ρ. nil) s s
added_none sig a out s = record { script = stay; words = []; longer = sym (append-nil out); exact = refl; lawful = tt; size = refl; emits = emits_none sig; flows = λ rest h. h; more = λ z h. h }

pub added_then : {sig : Signature} {a b c : Phase} {out out' out'' : List ℕ} {n m : ℕ} {X Y : Terming → Terming → Type 0} {G K : Terming → Terms ℕ} {s s' s'' : List Bool}
    → Added sig a b out out' n X G s s' → Added sig b c out' out'' m Y K s' s'' → Added sig a c out out'' (n + m) (λ α ρ. X α ρ × Y α ρ) (λ ρ. join (G ρ) (K ρ)) s s''
added_then {sig} {out = out} {X = X} {Y = Y} {G = G} {K = K} {s = s} p q = record {
  words = p.words ++ q.words;
  longer = q.longer ∙ ap (λ l. l ++ map encode q.words) p.longer ∙ append_assoc out (map encode p.words) (map encode q.words) ∙ ap (λ l. out ++ l) (sym (map-append encode p.words q.words));
  exact = exact_append p.words q.words p.exact q.exact;
  lawful = lawful_append sig p.words q.words p.lawful q.lawful;
  size = length-append p.words q.words ∙ ap₂ ◌+◌ p.size q.size;
  emits = emits_then sig p.words q.words X Y G K p.emits q.emits;
  flows = λ rest h. subst (λ l. Orderly sig 0 0 l s) (sym (append_assoc p.words q.words rest)) (p.flows (q.words ++ rest) (q.flows rest h));
  more = λ z h. q.more z (p.more z h);
  script = next p.script q.script;
}

pub added_as : {sig : Signature} {a b : Phase} {out out' : List ℕ} {n : ℕ} {X : Terming → Terming → Type 0} {G : Terming → Terms ℕ} {s s' : List Bool} (m : ℕ) (Y : Terming → Terming → Type 0)
    → n ≡ m → ((α ρ : Terming) → X α ρ → Y α ρ) → ((α ρ : Terming) → Y α ρ → X α ρ) → Added sig a b out out' n X G s s' → Added sig a b out out' m Y G s s'
added_as {sig} {X = X} {G = G} m Y q f g p = record {
  words = p.words;
  longer = p.longer;
  exact = p.exact;
  lawful = p.lawful;
  size = p.size ∙ q;
  emits = emits_as sig p.words X Y G f g p.emits;
  flows = p.flows;
  more = p.more;
  script = p.script;
}

pub added_goals : {sig : Signature} {a b : Phase} {out out' : List ℕ} {n : ℕ} {X : Terming → Terming → Type 0} {G : Terming → Terms ℕ} {s s' : List Bool} (K : Terming → Terms ℕ)
    → ((ρ : Terming) → G ρ ≡ K ρ) → Added sig a b out out' n X G s s' → Added sig a b out out' n X K s s'
added_goals {sig} K same p = record {
  words = p.words;
  longer = p.longer;
  exact = p.exact;
  lawful = p.lawful;
  size = p.size;
  flows = p.flows;
  more = p.more;
  script = p.script;
  emits = record { into = p.emits.into; back = p.emits.back; leaves = λ ρ rest. p.emits.leaves ρ rest ∙ ap (λ g. join g (goals (symbols_of sig) rest ρ var)) (same ρ) };
}

-- the script goes on with no words
pub added_on : {sig : Signature} {a b c : Phase} {out out' : List ℕ} {n : ℕ} {X : Terming → Terming → Type 0} {G : Terming → Terms ℕ} {s s' : List Bool}
    → Script sig b c [] → Added sig a b out out' n X G s s' → Added sig a c out out' n X G s s'
added_on {sig} {a} {c = c} on p = record {
  words = p.words;
  longer = p.longer;
  exact = p.exact;
  lawful = p.lawful;
  size = p.size;
  emits = p.emits;
  flows = p.flows;
  more = p.more;
  script = subst (λ l. Script sig a c l) (append-nil p.words) (next p.script on);
}

pub added_from : {sig : Signature} {a b c : Phase} {out out' : List ℕ} {n : ℕ} {X : Terming → Terming → Type 0} {G : Terming → Terms ℕ} {s s' : List Bool}
    → Script sig a b [] → Added sig b c out out' n X G s s' → Added sig a c out out' n X G s s'
added_from on p = record {
  words = p.words;
  longer = p.longer;
  exact = p.exact;
  lawful = p.lawful;
  size = p.size;
  emits = p.emits;
  flows = p.flows;
  more = p.more;
  script = next on p.script;
}

-- so many words more
pub added_long : {sig : Signature} {a b : Phase} {out out' : List ℕ} {n : ℕ} {X : Terming → Terming → Type 0} {G : Terming → Terms ℕ} {s s' : List Bool} → Added sig a b out out' n X G s s' → length out' ≡ length out + n
added_long {out = out} p = ap length p.longer ∙ length-append out (map encode p.words) ∙ ap (λ k. length out + k) (length-map p.words encode ∙ p.size)
