-- The query's variables, one after another.
use Rattle.std.proofs.Common.{◌≡◌, ℕ, ◌+◌, ◌<◌, ◌≤◌, eqb, List, [], ◌++◌, length, Option, get_or, drop, sym, refl, ap, ◌∙◌}
use Rattle.std.proofs.lemmas.List.{append_assoc, append-nil, at_drop_more, at_drop_all}
use Rattle.horn.specs.Answers.{note, through}
use Rattle.heap.specs.Solutions.{Valuation}
use Rattle.answers.specs.declared.variable.Variable.{Variable}
use Rattle.answers.specs.Numbering.{Numbered}
use Rattle.answers.specs.Streams.{told, told_one}

-- what is done of the variables, and what is left from the i-th on
pub record Partly (line : List ℕ) (ρ : Valuation) (vars : List Variable) (i : ℕ) (us : List ℕ) (Held : List ℕ → Type 0) (numbers : List (Option ℕ)) (seen : ℕ) : Type 0 where
  pub vs : List ℕ
  pub done : List ℕ
  pub held : Held done
  pub numbered : Numbered vs numbers seen
  pub bytes : told line ρ vars us ≡ done ++ told line ρ (drop i vars) vs

module _ (line : List ℕ) (ρ : Valuation) (vars : List Variable) (us : List ℕ) where
  pub partly_none : (Held : List ℕ → Type 0) (numbers : List (Option ℕ)) (seen : ℕ) → Held [] → Numbered us numbers seen → Partly line ρ vars 0 us Held numbers seen
  partly_none Held numbers seen h n = record { vs = us; done = []; held = h; numbered = n; bytes = refl }

  module _ (i : ℕ) (d : Variable) (Held : List ℕ → Type 0) (numbers : List (Option ℕ)) (seen : ℕ) (m : Partly line ρ vars i us Held numbers seen) where
    abbrev v : Variable
    v = get_or vars i d

    pub partly_next : i < length vars → told line ρ (drop i vars) m.vs ≡ told_one line ρ v m.vs ++ told line ρ (drop (i + 1) vars) (through (note eqb) (ρ v.cell) m.vs)
    partly_next lt = at_drop_more (λ ws. told line ρ ws m.vs) vars i d lt

    pub partly_more : i < length vars → (Held' : List ℕ → Type 0) (numbers' : List (Option ℕ)) (seen' : ℕ) → Held' (m.done ++ told_one line ρ v m.vs) → Numbered (through (note eqb) (ρ v.cell) m.vs) numbers' seen'
        → Partly line ρ vars (i + 1) us Held' numbers' seen'
    partly_more lt Held' numbers' seen' h n = record {
      vs = through (note eqb) (ρ v.cell) m.vs;
      done = m.done ++ told_one line ρ v m.vs;
      held = h;
      numbered = n;
      bytes = m.bytes ∙ ap (λ z. m.done ++ z) (partly_next lt) ∙ sym (append_assoc m.done (told_one line ρ v m.vs) _);
    }

    pub partly_all : length vars ≤ i → m.done ≡ told line ρ vars us
    partly_all le = sym (m.bytes ∙ ap (λ z. m.done ++ z) (at_drop_all (λ ws. told line ρ ws m.vs) vars i le) ∙ append-nil m.done)
