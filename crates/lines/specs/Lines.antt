-- What a line says: its terms as they are written, or its first fault.
use Rattle.std.specs.Prelude.{ℕ, zero, suc, ◌+◌, ◌-◌, Bool, false, cond, ◌&&◌, ◌||◌, List, [], ◌∷◌, length, Some, None, Ok, Err, Option, Result, ◌==◌, nat_le, nat_lt}
use Rattle.lines.specs.declared.faults.FieldFault.{FieldFault}
use Rattle.lines.specs.declared.faults.FieldFault.TheVariants.{Form}
use Rattle.lines.specs.declared.kind.Kind.{Kind}
use Rattle.lines.specs.declared.faults.LineFault.{LineFault}
use Rattle.lines.specs.declared.faults.LineFault.TheVariants.{Field, Length, Header, Missing, LeftOver, Variable, Heavy}
use Rattle.horn.specs.Terms.{var, node, nil, cons, front, back}
use Rattle.horn.specs.Clauses.{Written}
use Rattle.horn.specs.Weights.{line_weight_limit}
use Rattle.horn.specs.Notation.{Word, name, structure, variable, arity}
use Rattle.lines.specs.Limits.{line_limit, goal_limit}
use Rattle.lines.specs.Kinds.{mark, least, heads}
use Rattle.lines.specs.Words.{word_of}
use Rattle.lines.specs.Fields.{split}

-- what comes of r: `next` of its value, or its fault carried up by `lift`
abbrev pub then : {X Y E F : Type 0} → (E → F) → Result X E → (X → Result Y F) → Result Y F
then lift (Ok x) next = next x
then lift (Err e) next = Err (lift e)

abbrev pub ok_or : {X E : Type 0} → E → Option X → Result X E
ok_or e (Some x) = Ok x
ok_or e None = Err e

-- the word of the field at place p
abbrev pub word_at : ℕ → List ℕ → Result Word FieldFault
word_at p f = ok_or (Form p) (word_of f)

-- what a word weighs as an argument
abbrev pub cost : Word → ℕ
cost (name f) = 1
cost (structure f n) = 2
cost (variable v) = 1

abbrev pub weighed : ℕ → ℕ → Result ℕ LineFault → Result ℕ LineFault
weighed p w next = cond (nat_lt line_weight_limit w) (Err (Heavy p)) next

-- a head or goal is no variable
abbrev pub goal_only : ℕ → Word → Result ℕ LineFault → Result ℕ LineFault
goal_only p (name f) next = next
goal_only p (structure f n) next = next
goal_only p (variable v) next = Err (Variable p)

-- the fields from place p on, where n arguments and then g heads or goals are awaited, the first of these of weight `price`,
-- and w is the weight so far: the whole weight, or the first fault
abbrev pub check : (g n price w p : ℕ) → List (List ℕ) → Result ℕ LineFault
check zero zero price w p [] = Ok w
check (suc g) zero price w p [] = Err (Missing p)
check g (suc n) price w p [] = Err (Missing p)
check zero zero price w p (f ∷ fs) = Err (LeftOver p)
check (suc g) zero price w p (f ∷ fs) =
    then Field (word_at p f) (λ x. goal_only p x (weighed p (w + price) (check g (arity x) 1 (w + price) (suc p) fs)))
check g (suc n) price w p (f ∷ fs) =
    then Field (word_at p f) (λ x. weighed p (w + cost x) (check g (arity x + n) price (w + cost x) (suc p) fs))

-- the terms that words in prefix order stand for
abbrev pub push : Word → Written → Written
push (name f) ts = cons (node f nil) ts
push (structure f n) ts = cons (node f (front n ts)) (back n ts)
push (variable v) ts = cons (var v) ts

abbrev pub noted : Option Word → Written → Written
noted (Some x) ts = push x ts
noted None ts = ts

abbrev pub build : List (List ℕ) → Written
build [] = nil
build (f ∷ fs) = noted (word_of f) (build fs)

abbrev pub begins : Kind → List ℕ → Bool
begins k [] = false
begins k (b ∷ []) = b == mark k
begins k (b ∷ c ∷ bs) = false

abbrev pub goals_of : Kind → List ℕ → Option ℕ
goals_of k [] = None
goals_of k (b ∷ []) = cond (nat_le (48 + least k) b && nat_le b (48 + goal_limit)) (Some (b - 48)) None
goals_of k (b ∷ c ∷ bs) = None

abbrev pub body : Kind → List (List ℕ) → Result Written LineFault
body k [] = Err (Missing 2)
body k (f ∷ fs) =
    then (λ e. e) (ok_or (Header 2) (goals_of k f)) (λ d. then (λ e. e) (check (heads k + d) 0 (least k) 0 3 fs) (λ w. Ok (build fs)))

abbrev pub whole : Kind → List (List ℕ) → Result Written LineFault
whole k [] = Err Length
whole k (f ∷ fs) = cond (begins k f) (body k fs) (Err (Header 1))

abbrev pub read : Kind → List ℕ → Result Written LineFault
read k line = cond (length line == 0 || nat_lt line_limit (length line)) (Err Length) (whole k (split line))
