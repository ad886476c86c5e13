-- From entry to paths.
use Rattle.std.proofs.Common.{◌≡◌, ℕ, zero, suc, ◌<◌, List, [], ◌∷◌, ◌++◌, length, Some, None, sym, refl, ap, ◌∙◌, subst, ap₂, arith}
use Rattle.std.specs.List.{AllByRecursion}
use Rattle.horn.specs.Terms.{Terms, node, nil, cons, join, count}
use Rattle.horn.specs.Paths.{Path}
use Rattle.horn.specs.Instances.{Rule, no_rule, rule_at, Leads}
use Rattle.horn.specs.Search.{child}
use Rattle.horn.proofs.Leading.{leads_more, leads_last}
use Rattle.heap.specs.Heaps.{Heap}
use Rattle.heap.specs.Solutions.{Valuation, Sol, span}
use Rattle.heap.proofs.Denotes.{general}
use Rattle.code.specs.declared.instructions.Instruction.{Instruction}
use Rattle.code.specs.Meaning.{Symbols, Runs}
use Rattle.entering.specs.declared.goal.Goal.{Goal}
use Rattle.entering.specs.Goals.{worth, vals, Names, Good}
use Rattle.entering.specs.Entries.{Same, Entered, Denied}
use Rattle.entering.specs.Paths.{Coded, coded_at, code_rule, code_rules, terms, Posed, Stores, KnownAll, PathStep, PathEnd}
use Rattle.entering.proofs.StepLaws.{vals_same, vals_append}
use Rattle.entering.proofs.ReadyLaws.{span_is}

terms_same : (Q : List ℕ) (n : ℕ) (ρ τ : Valuation) → AllByRecursion (λ i. i < n) Q → Same n ρ τ → terms ρ Q ≡ terms τ Q
terms_same [] n ρ τ h same = refl
terms_same (i ∷ Q) n ρ τ h same = ap₂ cons (same i h.0) (terms_same Q n ρ τ h.1 same)

module _ (s : Symbols) (table : List ℕ) (program : List Rule) (asks : Terms ℕ → Terms ℕ → Type 0) (path : Path) (H : Heap) (Q : List ℕ) (g : Goal) (G : List Goal)
    (vars : AllByRecursion (λ i. i < length H) Q) (goods : AllByRecursion (Good table (length H)) (g ∷ G)) (st : Stores s program asks path H Q (g ∷ G)) (c : ℕ) where
  -- the rule c is that of some code, with the goal's name
  module _ (p : ℕ) (code : List Instruction) (rule : rule_at program c ≡ code_rule s (record { predicate = p; code = code })) where
    -- an instance of the longer path, as a solution
    found : (qs gs hs : Terms ℕ) → asks qs gs → Leads program gs (child path c) hs
        → (ρ : Valuation) × (ts us bs : Terms ℕ) × Sol s.name H ρ × (terms ρ Q ≡ qs) × (worth s ρ g ≡ node (s.name p) ts) × (vals s ρ G ≡ us) × Runs s p code ts bs × (join bs us ≡ hs)
    found qs gs hs a l =
        let r = leads_last program path c gs hs l in
        let v = st.back qs gs (cons (node (rule_at program c).name r.0) r.1) a r.3 in
        let e = v.3 in
        let named : (rule_at program c).name ≡ s.name p = ap (λ x. x.name) rule in
        let first : worth s v.0 g ≡ node (rule_at program c).name r.0 = cc in
        let rest : vals s v.0 G ≡ r.1 = cc in
        (v.0, r.0, r.1, r.2, v.1, v.2, first ∙ ap (λ x. node x r.0) named, rest, subst (λ x. x.relates r.0 r.2) rule r.4, r.5)

    module _ (same : p ≡ g.symbol) where
      here : (ρ : Valuation) (ts : Terms ℕ) → worth s ρ g ≡ node (s.name p) ts → span ρ g.first g.arity ≡ ts
      here ρ ts e = cc

      runs_here : (ρ : Valuation) (ts bs : Terms ℕ) → worth s ρ g ≡ node (s.name p) ts → Runs s p code ts bs → Runs s g.symbol code (span ρ g.first g.arity) bs
      runs_here ρ ts bs e r = subst (λ z. Runs s z code (span ρ g.first g.arity) bs) same (subst (λ z. Runs s p code z bs) (sym (here ρ ts e)) r)

      pub stores_entered : (H' : Heap) (B : List Goal) → Entered s H g code H' B → Stores s program asks (child path c) H' Q (B ++ G)
      stores_entered H' B en = record {
        into = λ ρ h.
            let r = en.into ρ h in
            let w = st.into ρ r.0 in
            let ts = span ρ g.first g.arity in
            let named : s.name g.symbol ≡ (rule_at program c).name = ap s.name (sym same) ∙ sym (ap (λ x. x.name) rule) in
            let lead : Leads program w.0 path (cons (node (rule_at program c).name ts) (vals s ρ G)) = subst (λ z. Leads program w.0 path (cons (node z ts) (vals s ρ G))) named w.2 in
            let rel : (rule_at program c).relates ts (vals s ρ B) = subst (λ x. x.relates ts (vals s ρ B)) (sym rule) (subst (λ z. Runs s z code ts (vals s ρ B)) (sym same) r.1) in
            (w.0, w.1, subst (Leads program w.0 (child path c)) (sym (vals_append s ρ B G)) (leads_more program path c w.0 ts (vals s ρ G) (vals s ρ B) lead rel));
        back = λ qs gs hs a l.
            let v = found qs gs hs a l in
            let r = en.back v.0 v.3 v.4 (runs_here v.0 v.1 v.3 v.6 v.8) in (
              r.0,
              r.2,
              sym (terms_same Q (length H) v.0 r.0 vars r.1) ∙ v.5,
              vals_append s r.0 B G ∙ ap₂ join r.3 (sym (vals_same s table G (length H) v.0 r.0 goods.1 r.1) ∙ v.7) ∙ v.9,
            );
      }

      pub stores_denied : Denied s H g code → (qs gs hs : Terms ℕ) → asks qs gs → Leads program gs (child path c) hs → ⊥
      stores_denied de qs gs hs a l =
          let v = found qs gs hs a l in
          de v.0 v.3 v.4 (runs_here v.0 v.1 v.3 v.6 v.8)

    span_count : (ρ : Valuation) (b n : ℕ) → count (span ρ b n) ≡ n
    span_count ρ b zero = refl
    span_count ρ b (suc n) = ap suc (span_count ρ (suc b) n)

    -- another symbol has another name or arity
    pub stores_other : Names s table → p < length table → (p ≡ g.symbol → ⊥) → (qs gs hs : Terms ℕ) → asks qs gs → Leads program gs (child path c) hs → ⊥
    stores_other names known ne qs gs hs a l =
        let v = found qs gs hs a l in
        let e = v.6 in
        let name : s.name g.symbol ≡ s.name p = cc in
        let args : span v.0 g.first g.arity ≡ v.1 = cc in
        let run = v.8 in
        let size : g.arity ≡ s.arity p =
        sym (span_count v.0 g.first g.arity) ∙ ap count (args ∙ run.2 ∙ span_is run.0 1 (s.arity p)) ∙ span_count run.0 1 (s.arity p) in
        let good = goods.0 in
        ne (sym (names.apart g.symbol p good.known known (good.size ∙ size ∙ names.arity p) name))

  -- no rule relates nothing
  pub stores_none : rule_at program c ≡ no_rule → (gs hs : Terms ℕ) → Leads program gs (child path c) hs → ⊥
  stores_none rule gs hs l =
      let r = leads_last program path c gs hs l in
      subst (λ x. x.relates r.0 r.2) rule r.4

code_rule_lem : (s : Symbols) (cs : List Coded) (c : ℕ) (d : Coded) → coded_at cs c ≡ Some d → rule_at (code_rules s cs) c ≡ code_rule s d
code_rule_lem s [] c d e = let z : ◌≡◌ {A = ℕ} 0 1 = cc in absurd (omega arith)
code_rule_lem s (x ∷ cs) zero d e = let z : ◌≡◌ {A = ℕ} 0 1 = cc in absurd (omega arith)
code_rule_lem s (x ∷ cs) (suc zero) d e = let k : x ≡ d = cc in ap (code_rule s) k
code_rule_lem s (x ∷ cs) (suc (suc c)) d e = code_rule_lem s cs (suc c) d e

code_none : (s : Symbols) (cs : List Coded) (c : ℕ) → coded_at cs c ≡ None → rule_at (code_rules s cs) c ≡ no_rule
code_none s [] c e = refl
code_none s (x ∷ cs) zero e = refl
code_none s (x ∷ cs) (suc zero) e = let z : ◌≡◌ {A = ℕ} 0 1 = cc in absurd (omega arith)
code_none s (x ∷ cs) (suc (suc c)) e = code_none s cs (suc c) e

coded_known : (table : List ℕ) (cs : List Coded) (c : ℕ) (d : Coded) → KnownAll table cs → coded_at cs c ≡ Some d → d.predicate < length table
coded_known table [] c d h e = let z : ◌≡◌ {A = ℕ} 0 1 = cc in absurd (omega arith)
coded_known table (x ∷ cs) zero d h e = let z : ◌≡◌ {A = ℕ} 0 1 = cc in absurd (omega arith)
coded_known table (x ∷ cs) (suc zero) d h e = let k : x ≡ d = cc in subst (λ y. y.predicate < length table) k h.0
coded_known table (x ∷ cs) (suc (suc c)) d h e = coded_known table cs (suc c) d h.1 e

pub path_step : PathStep
path_step s table names cs known q vs path H Q g G vars goods st c = record {
  enter = λ d e same H' B en. stores_entered s table (code_rules s cs) (Posed q vs) path H Q g G vars goods st c d.predicate d.code (code_rule_lem s cs c d e) same H' B en;
  deny = λ d e same de p.
      stores_denied s table (code_rules s cs) (Posed q vs) path H Q g G vars goods st c d.predicate d.code (code_rule_lem s cs c d e) same de _ p.0 p.1 (p.2.0, refl, p.2.1) p.3;
  other = λ d e ne p.
      stores_other s table (code_rules s cs) (Posed q vs) path H Q g G vars goods st c d.predicate d.code (code_rule_lem s cs c d e) names (coded_known table cs c d known e) ne _ p.0 p.1 (p.2.0, refl, p.2.1) p.3;
  none = λ e p. stores_none s table (code_rules s cs) (Posed q vs) path H Q g G vars goods st c (code_none s cs c e) p.0 p.1 p.3;
}

pub path_end : PathEnd
path_end s cs q vs path H Q G sound st =
    let m = general s.name H sound in
    let w = st.into m.0 m.1.solves in
    record {
      passes = (w.0, vals s m.0 G, (w.1.0, w.1.2), w.2);
      succeeds = λ e. (w.0, (w.1.0, w.1.2), subst (λ B. Leads (code_rules s cs) w.0 path (vals s m.0 B)) e w.2);
      empty = λ p. let v = st.back _ p.0 nil (p.1.0, refl, p.1.1) p.2 in none G v.0 v.3;
    }
  where
    none : (G : List Goal) (ρ : Valuation) → vals s ρ G ≡ nil → G ≡ []
    none [] ρ e = refl
    none (g ∷ G) ρ e = let z : ◌≡◌ {A = ℕ} 0 1 = cc in absurd (omega arith)
