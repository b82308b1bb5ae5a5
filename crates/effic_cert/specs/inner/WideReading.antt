-- How wide numbers, and lines of a word and two numbers, are read. Wide numbers are read up to 2^128 - 1, which is
-- above each range.
use Rattle.std.specs.Prelude.{ℕ, ◌-◌, ◌^◌, min, cond, bytes_eq, List, Option, Some, None}
use Rattle.line_io.specs.Lines.{value_of}
use Rattle.cert_lines.specs.Words.{◌>>=◌, parts_at, number_in, number_first}

-- the greatest number that is told apart from greater ones
abbrev pub widest : ℕ
widest = 2 ^ 128 - 1

-- the number that a word is
unfoldable pub wide_in : List ℕ → Option ℕ
wide_in word = do
  n ← number_in word
  Some (min (value_of word) widest)

-- the wide number behind a word
unfoldable pub wide_keyed_in : List ℕ → List ℕ → Option ℕ
wide_keyed_in key line = do
  p ← parts_at 32 line
  cond (bytes_eq p.0 key) (wide_in p.1) None

-- two numbers with a blank between
unfoldable pub two_in : List ℕ → Option (ℕ × ℕ)
two_in bytes = do
  a ← number_first bytes
  b ← number_in a.1
  Some (a.0, b)

-- the two numbers behind a word
unfoldable pub span_in : List ℕ → List ℕ → Option (ℕ × ℕ)
span_in key line = do
  p ← parts_at 32 line
  cond (bytes_eq p.0 key) (two_in p.1) None
