-- Which numbers of stations the entries close below a bound.
use Rattle.std.proofs.Common.{◌≡◌, ℕ, ◌<◌, List, arith}
use Rattle.line_instance.specs.Line.{Line}
use Rattle.line_rules.specs.Balance.{all_tasks}
use Rattle.line_rules.specs.Entries.{HasAnswer}
use Rattle.line_rules.specs.Ranges.{AreEntries}
use Rattle.line_rules.specs.declared.types.Entry.{Entry}
use Rattle.effic_check.specs.Accepted.{IsClosed, cycle_below}

module _ (line : Line) (es : List Entry) (bound m : ℕ) where
  pub closed_zero : cycle_below bound m ≡ 0 → IsClosed line es bound m
  closed_zero z one = absurd (omega (arith, z, one))

  -- no entry has a cycle above the greatest one
  pub closed_not : (n : ℕ) → AreEntries n es → 1000000000000000000 < cycle_below bound m → IsClosed line es bound m → ⊥
  closed_not n r over h =
      let a : HasAnswer es (all_tasks line) m (cycle_below bound m) = h (omega (arith, over)) in
      omega (arith, over, a.2.1.long, (r.each a.0 a.1 a.2.0).cycle.limit)
