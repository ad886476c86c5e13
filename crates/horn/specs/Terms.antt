-- Finite terms over any variables. A symbol is a name with its arity, and the arity is the number of arguments.
use Rattle.std.specs.Prelude.{ℕ, zero, suc, List}

abbrev pub Name : Type 0
Name = List ℕ

-- a variable, or a name with its arguments; a constant has none
mutual
  pub data Term (V : Type 0) : Type 0 where
    var : V → Term V
    node : Name → Terms V → Term V

  pub data Terms (V : Type 0) : Type 0 where
    nil : Terms V
    cons : Term V → Terms V → Terms V

abbrev pub count : {V : Type 0} → Terms V → ℕ
count nil = 0
count (cons t ts) = suc (count ts)

-- one list of terms after another
abbrev pub join : {V : Type 0} → Terms V → Terms V → Terms V
join nil us = us
join (cons t ts) us = cons t (join ts us)

-- the first n, and the others
abbrev pub front : {V : Type 0} → ℕ → Terms V → Terms V
front zero ts = nil
front (suc n) nil = nil
front (suc n) (cons t ts) = cons t (front n ts)

abbrev pub back : {V : Type 0} → ℕ → Terms V → Terms V
back zero ts = ts
back (suc n) nil = nil
back (suc n) (cons t ts) = back n ts

-- a term in each variable's stead
abbrev mutual
  pub eval : {V W : Type 0} → Term V → (V → Term W) → Term W
  eval (var v) τ = τ v
  eval (node f ts) τ = node f (evals ts τ)

  pub evals : {V W : Type 0} → Terms V → (V → Term W) → Terms W
  evals nil τ = nil
  evals (cons t ts) τ = cons (eval t τ) (evals ts τ)
