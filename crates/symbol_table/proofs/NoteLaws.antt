-- Symbols noted one after another.
use Rattle.std.proofs.Common.{◌≡◌, ℕ, zero, suc, ◌<◌, ◌≤◌, Bool, true, false, cond, ◌&&◌, ltb, leb, List, [], ◌∷◌, ◌++◌, length, sym, refl, ap, ◌∙◌, append_assoc, append-nil, arith, length-append}
use Rattle.std.proofs.lemmas.Bool.{and_parts, leb-true}
use Rattle.horn.specs.Terms.{Name, Term, var, node, nil, cons, count}
use Rattle.horn.specs.Clauses.{Written}
use Rattle.horn.specs.Notation.{Word, name, structure, variable, word_for, words, wordss}
use Rattle.lines.specs.Words.{lower, every, namely, is_name, GoodWord}
use Rattle.lines.specs.Grammar.{Good, Goods}
use Rattle.symbol_table.specs.Symbols.{Signature}
use Rattle.symbol_table.specs.Numbers.{number_in, note_symbol, note_word, note_words}
use Rattle.symbol_table.specs.Noting.{Fine, Fines, Begins}

pub begins_self : (a : Signature) → Begins a a
begins_self a = record { more = []; is = sym (append-nil a) }

pub begins_then : {a b c : Signature} → Begins a b → Begins b c → Begins a c
begins_then {a} p q = record { more = p.more ++ q.more; is = q.is ∙ ap (λ l. l ++ q.more) p.is ∙ append_assoc a p.more q.more }

note_begins : (sig : Signature) (f : Name) (n : ℕ) → Begins sig (note_symbol sig f n)
note_begins sig f n = go (ltb (number_in sig f n) (length sig))
  where
    go : (t : Bool) → Begins sig (cond t sig (sig ++ record { name = f; arity = n } ∷ []))
    go true = begins_self sig
    go false = record { more = record { name = f; arity = n } ∷ []; is = refl }

pub word_begins : (sig : Signature) (w : Word) → Begins sig (note_word sig w)
word_begins sig (name f) = note_begins sig f 0
word_begins sig (structure f n) = note_begins sig f n
word_begins sig (variable v) = begins_self sig

words_begins : (sig : Signature) (ws : List Word) → Begins sig (note_words sig ws)
words_begins sig [] = begins_self sig
words_begins sig (w ∷ ws) = begins_then (word_begins sig w) (words_begins (note_word sig w) ws)

begins_long : {a b : Signature} → Begins a b → length a ≤ length b
begins_long {a} p = omega (arith, ap length p.is, length-append a p.more)

-- a symbol that finds no room
pub full_words : (sig : Signature) (w : Word) (ws : List Word) (limit : ℕ) → limit < length (note_word sig w) → limit < length (note_words sig (w ∷ ws))
full_words sig w ws limit h = omega (arith, begins_long (words_begins (note_word sig w) ws))

-- the words of good terms
name_short : (f : Name) → is_name f ≡ true → length f ≤ 31
name_short [] h = omega arith
name_short (b ∷ bs) h =
    let p = and_parts (lower b) (leb (suc (length bs)) 31 && every namely bs) h in
    leb-true (suc (length bs)) 31 (and_parts (leb (suc (length bs)) 31) (every namely bs) p.1).0

fine_for : (f : Name) (c : ℕ) → GoodWord (word_for f c) → Fine (word_for f c)
fine_for f zero h = name_short f h
fine_for f (suc c) h = (name_short f h.0, leb-true (suc c) 8 h.1.1)

mutual
  fine_term : (t : Term Name) (ws : List Word) → Good t → Fines ws → Fines (words t ws)
  fine_term (var v) ws g s = (tt, s)
  fine_term (node f ts) ws g s = (fine_for f (count ts) g.0, fine_terms ts ws g.1 s)

  pub fine_terms : (ts : Written) (ws : List Word) → Goods ts → Fines ws → Fines (wordss ts ws)
  fine_terms nil ws g s = s
  fine_terms (cons t ts) ws g s = fine_term t (wordss ts ws) g.0 (fine_terms ts ws g.1 s)
