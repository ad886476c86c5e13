-- The clauses and queries of the worked cases, as terms.
use Rattle.std.proofs.Common.{[], ◌∷◌, codes}
use Rattle.horn.specs.Terms.{Name, Term, var, node, nil, cons}
use Rattle.horn.specs.Clauses.{Variable, named, Clause, Query}
use Rattle.horn.specs.Equations.{Deck}

-- a name alone
abbrev pub constant : {V : Type 0} → Name → Term V
constant f = node f nil

-- a variable by its name
abbrev pub variable : Name → Term Variable
variable v = var (named v)

-- a clause without goals
abbrev pub fact : Term Variable → Clause
fact t = record { head = t; goals = nil }

-- half/2,ka,ka.half; half/2,ta,ta.half; pair/3,X,Y,lig/2,H,Y if half/2,X,H
abbrev pub pairs : Deck
pairs =
    fact (node (codes "half") (cons (constant (codes "ka")) (cons (constant (codes "ka.half")) nil)))
    ∷ fact (node (codes "half") (cons (constant (codes "ta")) (cons (constant (codes "ta.half")) nil)))
    ∷ record {
      head = node (codes "pair") (cons (variable (codes "X")) (cons (variable (codes "Y")) (cons (node (codes "lig") (cons (variable (codes "H")) (cons (variable (codes "Y")) nil))) nil)));
      goals = cons (node (codes "half") (cons (variable (codes "X")) (cons (variable (codes "H")) nil))) nil;
    }
    ∷ []

-- pair/3,G,ya,L
abbrev pub pairing : Query
pairing = cons (node (codes "pair") (cons (variable (codes "G")) (cons (constant (codes "ya")) (cons (variable (codes "L")) nil)))) nil

-- p/2,X,f/1,X
abbrev pub nested : Deck
nested = fact (node (codes "p") (cons (variable (codes "X")) (cons (node (codes "f") (cons (variable (codes "X")) nil)) nil))) ∷ []

-- p/2,Z,Z
abbrev pub twin : Query
twin = cons (node (codes "p") (cons (variable (codes "Z")) (cons (variable (codes "Z")) nil))) nil

-- k/1,a twice
abbrev pub doubled : Deck
doubled = fact (node (codes "k") (cons (constant (codes "a")) nil)) ∷ fact (node (codes "k") (cons (constant (codes "a")) nil)) ∷ []

-- k/1,X
abbrev pub single : Query
single = cons (node (codes "k") (cons (variable (codes "X")) nil)) nil

-- any/1,X
abbrev pub every : Deck
every = fact (node (codes "any") (cons (variable (codes "X")) nil)) ∷ []

-- any/1,f/2,B,B
abbrev pub both : Query
both = cons (node (codes "any") (cons (node (codes "f") (cons (variable (codes "B")) (cons (variable (codes "B")) nil))) nil)) nil

-- n/1,X if n/1,X
abbrev pub again : Clause
again = record { head = node (codes "n") (cons (variable (codes "X")) nil); goals = cons (node (codes "n") (cons (variable (codes "X")) nil)) nil }

-- that clause alone
abbrev pub loops : Deck
loops = again ∷ []

-- n/1,a
abbrev pub looping : Query
looping = cons (node (codes "n") (cons (constant (codes "a")) nil)) nil
