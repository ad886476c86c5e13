-- Bytes written into a buffer.
use Rattle.std.specs.Prelude.{ℕ, ◌+◌, cond, List, ◌++◌, length, take, drop, Some, None, Option, nat_le}

-- what a buffer holds once the bytes stand from `at` on
abbrev pub wrote : List ℕ → ℕ → List ℕ → List ℕ
wrote buffer at bytes = take at buffer ++ (bytes ++ drop (at + length bytes) buffer)

-- the length of a line that is no longer than the limit
abbrev pub fitting : List ℕ → ℕ → Option ℕ
fitting line limit = cond (nat_le (length line) limit) (Some (length line)) None

-- what a buffer holds once a line is written: the line at its beginning, and then what it held; a line that is longer is not written
abbrev pub filled : List ℕ → List ℕ → List ℕ
filled line buffer = cond (nat_le (length line) (length buffer)) (line ++ drop (length line) buffer) buffer
