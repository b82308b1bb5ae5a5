-- What a file says of a line of which no two tasks are apart.
use Rattle.std.proofs.Common.{ℕ, [], inl, inr, arith}
use Rattle.line_instance.specs.Walks.{IsGiven}

-- no pair is given
pub none_given : (i j : ℕ) → IsGiven [] i j → ⊥
none_given i j (inl a) = absurd (omega (arith, a.1))
none_given i j (inr a) = absurd (omega (arith, a.1))
