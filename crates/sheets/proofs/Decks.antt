-- What holds of each accepted clause line holds of each clause of a deck.
use Rattle.std.proofs.Common.{◌≡◌, ℕ, List, [], ◌∷◌, Ok, Err, Result, refl, subst, arith}
use Rattle.std.specs.List.{AllByRecursion}
use Rattle.horn.specs.Clauses.{Clause}
use Rattle.horn.specs.Equations.{Deck}
use Rattle.lines.specs.declared.faults.LineFault.{LineFault}
use Rattle.lines.specs.Lines.{then}
use Rattle.lines.specs.Clauses.{read_clause}
use Rattle.sheets.specs.Sheets.{deck_of}

pub each_clause : (P : Clause → Type 0) → ((line : List ℕ) (c : Clause) → read_clause line ≡ Ok c → P c) → (lines : List (List ℕ)) (deck : Deck) → deck_of lines ≡ Ok deck → AllByRecursion P deck
each_clause P h [] deck e = let k : [] ≡ deck = cc in subst (AllByRecursion P) k tt
each_clause P h (line ∷ lines) deck e = go (each_clause P h lines) (read_clause line) refl (deck_of lines) refl e
  where
    go : ((cs : Deck) → deck_of lines ≡ Ok cs → AllByRecursion P cs) → (r : Result Clause LineFault) → read_clause line ≡ r → (rs : Result Deck LineFault) → deck_of lines ≡ rs → then (λ e. e) r (λ c. then (λ e. e) rs (λ cs. Ok (c ∷ cs))) ≡ Ok deck → AllByRecursion P deck
    go ih (Err x) a rs b e = let z : ◌≡◌ {A = ℕ} 0 1 = cc in absurd (omega arith)
    go ih (Ok c) a (Err x) b e = let z : ◌≡◌ {A = ℕ} 0 1 = cc in absurd (omega arith)
    go ih (Ok c) a (Ok cs) b e = let k : c ∷ cs ≡ deck = cc in subst (AllByRecursion P) k (h line c a, ih cs b)
