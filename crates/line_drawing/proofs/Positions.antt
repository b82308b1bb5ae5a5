-- Positions in a row: they rise with the sum, and a cycle is 800 long.
use Rattle.std.proofs.Common.{◌≡◌, ℕ, ◌+◌, ◌*◌, ◌<◌, ◌≤◌, ap, arith}
use Rattle.std.proofs.Math.Nat.{mul-div-le, lt-mul-div-succ, lt_of_mul-lt-mul_left, mul-div_cancel, zero-div}
use Rattle.std.proofs.lemmas.Nat.{le-div}
use Rattle.line_drawing.specs.Segments.{position}

module _ (c : ℕ) (some : 1 ≤ c) where
  -- a position is the whole part of so many units: no more, and less than one unit less
  pub under : (a : ℕ) → c * position c a ≤ 800 * a
  under a = mul-div-le (800 * a) c

  pub over : (a : ℕ) → 800 * a < c * position c a + c
  over a = omega (arith, lt-mul-div-succ (800 * a) some)

  pub rises : (a b : ℕ) → a ≤ b → position c a ≤ position c b
  rises a b h = le-div (position c a) (800 * b) c some (omega (arith, under a, h))

  pub whole : position c c ≡ 800
  whole = mul-div_cancel 800 some

  pub most : (a : ℕ) → a ≤ c → position c a ≤ 800
  most a h = omega (arith, rises a c h, whole)

  pub start : position c 0 ≡ 0
  start = zero-div c

  -- the lengths of two sums that fit a cycle together fit the row
  pub both_fit : (a b : ℕ) → a + b ≤ c → position c a + position c b ≤ 800
  both_fit a b h =
      let less : c * (position c a + position c b) < c * 801 = omega (arith, under a, under b, h, some) in
      omega (arith, lt_of_mul-lt-mul_left c less)

  -- what lies between the positions of a sum and of a greater one is nearly the time between
  pub between_above : (a t w : ℕ) → position c (a + t) ≡ position c a + w → c * w < 800 * t + c
  between_above a t w e =
      let joined : c * position c (a + t) ≡ c * (position c a + w) = ap (λ n. c * n) e in
      omega (arith, under (a + t), over a, joined)

  pub between_below : (a t w : ℕ) → position c (a + t) ≡ position c a + w → 800 * t < c * w + c
  between_below a t w e =
      let joined : c * position c (a + t) ≡ c * (position c a + w) = ap (λ n. c * n) e in
      omega (arith, over (a + t), under a, joined)
