-- Terms one after another, each leading to the next.
use Rattle.std.specs.Prelude.{ℕ, zero, suc}
use Rattle.horn.specs.Terms.{Term, Terms, var, nil, cons}
use Rattle.code.specs.Meaning.{Terming}

abbrev pub first : Terms ℕ → Term ℕ
first nil = var 0
first (cons t ts) = t

-- the place n steps on from j
abbrev pub hop : (ℕ → ℕ) → ℕ → ℕ → ℕ
hop e zero j = j
hop e (suc n) j = hop e n (e j)

-- what σ gives the n places from j on, each leading to the next by e
abbrev pub along : (ℕ → ℕ) → Terming → ℕ → ℕ → Terms ℕ
along e σ zero j = nil
along e σ (suc n) j = cons (σ j) (along e σ n (e j))
