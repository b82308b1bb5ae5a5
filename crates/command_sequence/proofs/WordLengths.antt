-- How long numbers are, and lines of words.
use Rattle.std.proofs.Common.{◌≡◌, ℕ, zero, suc, ◌+◌, ◌*◌, ◌/◌, ◌%◌, ◌<◌, ◌≤◌, List, [], ◌∷◌, ◌++◌, length, ap}
use Rattle.std.proofs.Common.{arith, length-append, inl, inr}
use Rattle.std.proofs.lemmas.Bool.{cases_lt}
use Rattle.cert_lines.specs.Numbers.{number_text}
use Rattle.cert_lines.specs.Rows.{Row, row_text, line_text, rows_text, spaced}
use Rattle.cert_lines.proofs.Digits.{number_small, number_more}

-- the least number that has more than so many digits and one
abbrev top : ℕ → ℕ
top zero = 10
top (suc d) = 10 * top d

pub digits_few : (d n : ℕ) → n < top d → length (number_text n) ≤ suc d
digits_few zero n h = omega (arith, ap length (number_small n h))
digits_few (suc d) n h = elim (cases_lt n 10) [
  | inl s ↦ omega (arith, ap length (number_small n s))
  | inr m ↦ omega (
    arith,
    digits_few d (n / 10) (omega (arith, h)),
    ap length (number_more n m),
    length-append (number_text (n / 10)) ((48 + n % 10) ∷ []),
  )
]

-- words, each with a byte behind it
abbrev pub words_length : List (List ℕ) → ℕ
words_length [] = 0
words_length (w ∷ ws) = length w + suc (words_length ws)

spaced_length : (w : List ℕ) (ws : List (List ℕ)) → suc (length (spaced (w ∷ ws))) ≡ words_length (w ∷ ws)
spaced_length w [] = omega arith
spaced_length w (v ∷ ws) = omega (arith, spaced_length v ws, length-append w (32 ∷ spaced (v ∷ ws)))

-- a line of words
pub line_length : (r : Row) (w : List ℕ) (ws : List (List ℕ)) → row_text r ≡ spaced (w ∷ ws)
    → length (line_text r) ≡ words_length (w ∷ ws)
line_length r w ws e = omega (arith, ap length e, spaced_length w ws, length-append (row_text r) (10 ∷ []))

-- lines one behind the other
pub lines_length : (rs qs : List Row) → length (rows_text (rs ++ qs)) ≡ length (rows_text rs) + length (rows_text qs)
lines_length [] qs = omega arith
lines_length (r ∷ rs) qs = omega (
  arith,
  lines_length rs qs,
  length-append (line_text r) (rows_text (rs ++ qs)),
  length-append (line_text r) (rows_text rs),
)
