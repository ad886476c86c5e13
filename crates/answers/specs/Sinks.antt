-- What the two sinks have done since they were in an earlier state.
use Rattle.std.specs.Prelude.{◌≡◌, ℕ, ◌+◌, ◌-◌, ◌≤◌, List, length}
use Rattle.text.specs.Buffers.{wrote}
use Rattle.answers.specs.declared.buffer.Count.{Count}
use Rattle.answers.specs.declared.buffer.Write.{Write}

-- the bytes were counted, and the buffer was left alone
pub record Counted (s : Count) (o : List ℕ) (t : Count) (q bytes : List ℕ) : Type 0 where
  pub limit : t.limit ≡ s.limit
  pub len : t.len ≡ s.len + length bytes
  pub fits : length bytes ≤ s.limit - s.len
  pub same : q ≡ o

-- the bytes were written into the buffer
pub record Wrote (s : Write) (o : List ℕ) (t : Write) (q bytes : List ℕ) : Type 0 where
  pub size : length q ≡ length o
  pub len : t.len ≡ s.len + length bytes
  pub fits : length bytes ≤ length o - s.len
  pub after : q ≡ wrote o s.len bytes
