-- A compiled clause: where its code stands, what it denotes, and the rules that it keeps.
use Rattle.std.specs.Prelude.{◌≡◌, ℕ, ◌+◌, ◌<◌, List, ◌++◌, map, length, take, drop, Ok}
use Rattle.horn.specs.Clauses.{Clause, Written}
use Rattle.horn.specs.Weights.{load}
use Rattle.lines.specs.Clauses.{clause_from}
use Rattle.code.specs.Words.{decode}
use Rattle.code.specs.Meaning.{Denotes}
use Rattle.code.specs.WellFormed.{Kept}
use Rattle.symbol_table.specs.Symbols.{Signature, symbols_of, arities_of}
use Rattle.compiler.specs.declared.compiled.Compiled.{Compiled}

-- the clause's code stands from `at` on: two words more than it weighs, denoting the clause, with rules V1 to V7 kept for the row;
-- the other words are as they were
pub record CodeOf (sig : Signature) (ts : Written) (words words' : List ℕ) (at : ℕ) (r : Compiled) : Type 0 where
  pub code : List ℕ
  pub size : length code ≡ load 0 ts + 2
  pub end : r.end ≡ at + (load 0 ts + 2)
  pub written : take r.end words' ≡ take at words ++ code
  pub rest : drop r.end words' ≡ drop r.end words
  pub known : r.predicate < length sig
  pub denotes : (c : Clause) → clause_from ts ≡ Ok c → Denotes (symbols_of sig) r.predicate (map decode code) c
  pub kept : Kept (arities_of sig) r.predicate r.key code
