-- Positions in a panel: they rise with the time, and the scale is 120 long.
use Rattle.std.proofs.Common.{◌≡◌, ℕ, ◌+◌, ◌*◌, ◌<◌, ◌≤◌, ap, arith, zero, suc, ◌∙◌}
use Rattle.std.proofs.Math.Nat.{mul-div-le, lt-mul-div-succ, mul-div_cancel, zero-div}
use Rattle.std.proofs.lemmas.Nat.{le-div}
use Rattle.timeline_drawing.specs.Figures.{position}

-- a position is the whole part of so many units: no more, and less than one unit less
pub under : (m a : ℕ) → m * position m a ≤ 120 * a
under m a = mul-div-le (120 * a) m

pub over : (m a : ℕ) → 1 ≤ m → 120 * a < m * position m a + m
over m a some = omega (arith, lt-mul-div-succ (120 * a) some)

pub at_start : (m : ℕ) → position m 0 ≡ 0
at_start m = zero-div m

-- nothing is in a panel without a scale
pub at_nothing : (m a : ℕ) → m ≡ 0 → a ≤ m → position m a ≡ 0
at_nothing m a e h =
    let nought : a ≡ 0 = omega (arith, e, h) in
    ap (λ n. position m n) nought ∙ at_start m

rises_in : (m a b : ℕ) → 1 ≤ m → a ≤ b → position m a ≤ position m b
rises_in m a b some h = le-div (position m a) (120 * b) m some (omega (arith, under m a, h))

-- positions rise
pub rises : (m a b : ℕ) → b ≤ m → a ≤ b → position m a ≤ position m b
rises zero a b l h = omega (arith, at_nothing 0 a (omega arith) (omega (arith, l, h)))
rises (suc m) a b l h = rises_in (suc m) a b (omega arith) h

most_in : (m a : ℕ) → 1 ≤ m → a ≤ m → position m a ≤ 120
most_in m a some h =
    let whole : position m m ≡ 120 = mul-div_cancel 120 some in
    omega (arith, rises_in m a m some h, whole)

-- no time within the scale goes past the panel
pub most : (m a : ℕ) → a ≤ m → position m a ≤ 120
most zero a h = omega (arith, at_nothing 0 a (omega arith) h)
most (suc m) a h = most_in (suc m) a (omega arith) h

-- what lies between the positions of two times is nearly the time between
pub between_above : (m a t w : ℕ) → 1 ≤ m → position m (a + t) ≡ position m a + w → m * w < 120 * t + m
between_above m a t w some e =
    let joined : m * position m (a + t) ≡ m * (position m a + w) = ap (λ n. m * n) e in
    omega (arith, under m (a + t), over m a some, joined)

pub between_below : (m a t w : ℕ) → 1 ≤ m → position m (a + t) ≡ position m a + w → 120 * t < m * w + m
between_below m a t w some e =
    let joined : m * position m (a + t) ≡ m * (position m a + w) = ap (λ n. m * n) e in
    omega (arith, over m (a + t) some, under m a, joined)
