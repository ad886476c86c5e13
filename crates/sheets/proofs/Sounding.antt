-- Answers to accepted lines have only symbols that a field can spell.
use Rattle.std.proofs.Common.{◌≡◌, ℕ, zero, suc, List, [], ◌∷◌, Some, Ok, sym, ap, ◌∙◌, subst, arith}
use Rattle.std.specs.List.{AllByRecursion}
use Rattle.horn.specs.Terms.{Term, Terms, var}
use Rattle.horn.specs.Clauses.{Variable, Clause, Query, called}
use Rattle.horn.specs.Paths.{Path}
use Rattle.horn.specs.Equations.{Deck, Apart, Equation, Standing, Valuation, Solves, clause_at, taking, taken, follow, asked, standing}
use Rattle.horn.specs.Answers.{OccursIn, Values, Solution, Answer}
use Rattle.horn.proofs.Following.{known, knowing, took, from_some}
use Rattle.lines.specs.Clauses.{read_clause, read_query}
use Rattle.lines.proofs.ClauseLaws.{one_clause, one_query}
use Rattle.sheets.specs.Sheets.{deck_of}
use Rattle.sheets.proofs.Decks.{each_clause}
use Rattle.sheets.proofs.Spellable.{Sound, Sounds, good_sound, goods_sound, sound_off, sounds_off, sound_eval, sounds_eval, sounds_join, clean, sound_clean, clean_eval}

-- a clause's symbols can be spelt
abbrev SoundClause : Clause → Type 0
SoundClause c = Sound c.head × Sounds c.goals

-- the symbols of all equations can be spelt
abbrev SoundAll : List Equation → Type 0
SoundAll [] = Unit {0}
SoundAll (e ∷ es) = (Sound e.0 × Sound e.1) × SoundAll es

-- the symbols of a standing can be spelt
record SoundAt (s : Standing) : Type 0 where
  pub equations : SoundAll s.equations
  pub goals : Sounds s.goals

sound_clause : (deck : Deck) (n : ℕ) (c : Clause) → AllByRecursion SoundClause deck → clause_at deck n ≡ Some c → SoundClause c
sound_clause [] n c h e = let z : ◌≡◌ {A = ℕ} 0 1 = cc in absurd (omega arith)
sound_clause (d ∷ deck) zero c h e = let z : ◌≡◌ {A = ℕ} 0 1 = cc in absurd (omega arith)
sound_clause (d ∷ deck) (suc zero) c h e = let k : d ≡ c = cc in subst SoundClause k h.0
sound_clause (d ∷ deck) (suc (suc n)) c h e = sound_clause deck (suc n) c h.1 e

module _ (deck : Deck) (sound : AllByRecursion SoundClause deck) where
  sound_taking : (s : Standing) (g : Term Apart) (gs : Terms Apart) (c : Clause) → SoundAll s.equations → Sound g → Sounds gs → SoundClause c → SoundAt (taking s g gs c)
  sound_taking s g gs c es h hs k = record {
    equations = ((h, sound_eval c.head _ k.0 (λ v. tt)), es);
    goals = sounds_join _ gs (sounds_eval c.goals _ k.1 (λ v. tt)) hs;
  }

  sound_taken : (n : ℕ) (s s' : Standing) → SoundAt s → taken s s.goals (clause_at deck n) ≡ Some s' → SoundAt s'
  sound_taken n s s' h e =
      let t = took s s.goals (clause_at deck n) s' e in
      let gs = subst Sounds t.goals_are h.goals in
      subst SoundAt (sym t.is) (sound_taking s t.goal t.rest t.clause h.equations gs.0 gs.1 (sound_clause deck n t.clause sound t.clause_is))

  sound_follow : (p : Path) (s s' : Standing) → SoundAt s → follow deck p (Some s) ≡ Some s' → SoundAt s'
  sound_follow [] s s' h e = let k : s ≡ s' = cc in subst SoundAt k h
  sound_follow (c ∷ p) s s' h e =
      let m = from_some deck p (taken s s.goals (clause_at deck c)) s' e in
      sound_follow p m.0 s' (sound_taken c s m.0 h m.1) (subst (λ o. follow deck p o ≡ Some s') m.1 e)

solves_clean : (ρ : Valuation) (es : List Equation) → SoundAll es → Solves ρ es → Solves (λ v. clean (ρ v)) es
solves_clean ρ [] h k = tt
solves_clean ρ (e ∷ es) h k =
    (sym (clean_eval e.0 ρ h.0.0) ∙ ap clean k.0 ∙ clean_eval e.1 ρ h.0.1, solves_clean ρ es h.1 k.1)

module _ (deck : Deck) (q : Query) (p : Path) (sound : AllByRecursion SoundClause deck) (asks : Sounds q) where
  solution_clean : (σ : Values) → Solution deck q p σ → Solution deck q p (λ v. clean (σ v))
  solution_clean σ w =
      let h = known (standing deck q p) _ w in
      let start : SoundAt (asked q) = record { equations = tt; goals = sounds_eval q _ asks (λ v. tt) } in
      let s = sound_follow deck sound p (asked q) h.0 start h.1 in
      knowing (standing deck q p) _ h.0 h.1 (λ v. clean (h.2.0 v), solves_clean h.2.0 h.0.equations s.equations h.2.1, λ v. ap clean (h.2.2 v))

  -- an answer without such symbols would be an instance of it, and instances keep all symbols
  pub answer_sound : (θ : Values) → Answer deck q p θ → (v : Variable) → OccursIn v q → Sound (θ v)
  answer_sound θ a v o =
      let i = a.general (λ v. clean (θ v)) (solution_clean θ a.solves) in
      sound_off (θ v) i.0 (subst Sound (i.1 v o) (sound_clean (θ v)))

clause_sound : (line : List ℕ) (c : Clause) → read_clause line ≡ Ok c → SoundClause c
clause_sound line c e =
    let g = ((one_clause line c).0 e).reading.proper.good in
    (sound_off c.head (λ v. var (called v)) (good_sound _ g.0), sounds_off c.goals (λ v. var (called v)) (goods_sound _ g.1))

pub deck_sound : (lines : List (List ℕ)) (deck : Deck) → deck_of lines ≡ Ok deck → AllByRecursion SoundClause deck
deck_sound = each_clause SoundClause clause_sound

pub query_sound : (line : List ℕ) (q : Query) → read_query line ≡ Ok q → Sounds q
query_sound line q e = sounds_off q (λ v. var (called v)) (goods_sound _ ((one_query line q).0 e).reading.proper.good)
