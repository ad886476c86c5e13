-- Answers: the most general solution of a path for the query's variables, and how it is written.
use Rattle.std.specs.Prelude.{◌≡◌, ℕ, suc, Bool, cond, ◌⊎◌, List, [], ◌∷◌, map, length, decimal, MatchOption, nat_eq}
use Rattle.horn.specs.Terms.{Name, Term, Terms, var, node, nil, cons, eval}
use Rattle.horn.specs.Clauses.{Variable, named, blank, Query}
use Rattle.horn.specs.Notation.{field, wordss, joined}
use Rattle.horn.specs.Paths.{Path}
use Rattle.horn.specs.Equations.{Deck, Valuation, Solves, standing, same_name}

-- the variable v stands in a term, or in one of several
abbrev mutual
  pub Occurs : {V : Type 0} → V → Term V → Type 0
  Occurs v (var u) = v ≡ u
  Occurs v (node f ts) = OccursIn v ts

  pub OccursIn : {V : Type 0} → V → Terms V → Type 0
  OccursIn v nil = ⊥
  OccursIn v (cons t ts) = Occurs v t ⊎ OccursIn v ts

-- values for the query's variables
abbrev pub Values : Type 0
Values = Variable → Term ℕ

-- some solution of the path's equations gives the query's variables the values σ
abbrev pub Solution : Deck → Query → Path → Values → Type 0
Solution deck q p σ = MatchOption (standing deck q p) ⊥ (λ s. (ρ : Valuation) × Solves ρ s.equations × ((v : Variable) → ρ (0, v) ≡ σ v))

-- σ comes from θ by terms for θ's variables
abbrev pub Instance : Query → Values → Values → Type 0
Instance q θ σ = (ρ : ℕ → Term ℕ) × ((v : Variable) → OccursIn v q → σ v ≡ eval (θ v) ρ)

-- θ is a solution, and every solution is an instance of it
pub record Answer (deck : Deck) (q : Query) (p : Path) (θ : Values) : Type 0 where
  pub solves : Solution deck q p θ
  pub general : (σ : Values) → Solution deck q p σ → Instance q θ σ

-- x after the others, unless it is one of them by `same`
abbrev pub note : {A : Type 0} → (A → A → Bool) → A → List A → List A
note same x [] = x ∷ []
note same x (y ∷ ys) = y ∷ cond (same y x) ys (note same x ys)

-- how many stand before the first that is x by `same`
abbrev pub place : {A : Type 0} → (A → A → Bool) → A → List A → ℕ
place same x [] = 0
place same x (y ∷ ys) = cond (same y x) 0 (suc (place same x ys))

-- f of each variable in turn, from the left, and of what the earlier ones left
abbrev mutual
  pub through : {V A : Type 0} → (V → A → A) → Term V → A → A
  through f (var v) a = f v a
  through f (node g ts) a = throughs f ts a

  pub throughs : {V A : Type 0} → (V → A → A) → Terms V → A → A
  throughs f nil a = a
  throughs f (cons t ts) a = throughs f ts (through f t a)

-- a name after the others, unless it is one of them; a blank has none
abbrev pub note_name : Variable → List Name → List Name
note_name (named v) vs = note same_name v vs
note_name (blank n) vs = vs

-- the names of the query's variables other than blanks, each once, by first occurrence
abbrev pub names_of : Query → List Name
names_of q = throughs note_name q []

-- the values of the names
abbrev pub values_of : Values → List Name → Terms ℕ
values_of θ [] = nil
values_of θ (v ∷ vs) = cons (θ (named v)) (values_of θ vs)

-- the variables left unbound, each once, by first appearance
abbrev pub unbound : Terms ℕ → List ℕ
unbound ts = throughs (note nat_eq) ts []

-- `_1`, `_2` ..: what the (n+1)-th unbound variable is called
abbrev pub label : ℕ → Name
label n = 95 ∷ decimal (suc n)

-- what x is called, if the unbound variables are us
abbrev pub label_in : List ℕ → ℕ → Name
label_in us x = label (place nat_eq x us)

-- each name before its value, and the unbound variables by the given names
abbrev pub shown : (ℕ → Name) → Values → List Name → Terms Name
shown name θ [] = nil
shown name θ (v ∷ vs) = cons (var v) (cons (eval (θ (named v)) (λ x. var (name x))) (shown name θ vs))

-- the line for the given names
abbrev pub line_of : Values → List Name → List ℕ
line_of θ vs = joined ((65 ∷ []) ∷ decimal (length vs) ∷ map field (wordss (shown (label_in (unbound (values_of θ vs))) θ vs) []))

-- `A`, how many names, and each name with its value
abbrev pub answer_line : Query → Values → List ℕ
answer_line q θ = line_of θ (names_of q)

-- the line of the path's answer
abbrev pub AnswerLine : Deck → Query → Path → List ℕ → Type 0
AnswerLine deck q p line = (θ : Values) × Answer deck q p θ × (line ≡ answer_line q θ)
