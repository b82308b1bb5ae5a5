-- How long notes are.
use Rattle.std.proofs.Common.{ℕ, ◌<◌, ◌≤◌, ◌^◌, ◌++◌, length, length-append, arith, codes, decimal}
use Rattle.std.proofs.lemmas.Fmt.{length-decimal-le}

-- a number of 64 bits has at most 20 digits
pub digits_few : (n : ℕ) → n < 2 ^ 64 → length (decimal n) ≤ 20
digits_few n h = length-decimal-le 20 n (omega arith) (omega (arith, h)) h

-- a count and its word are no longer than a note
pub count_short : (n : ℕ) → n < 2 ^ 64 → length (decimal n ++ codes " tasks") ≤ 40
count_short n h = omega (arith, length-append (decimal n) (codes " tasks"), digits_few n h)
