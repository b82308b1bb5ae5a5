use Rattle.line_rules.specs.Ranges.{IsEntry}
use Rattle.cert_ranges.proofs.Items.{EachBelow}
use Rattle.cert_ranges.proofs.entries.are_entries.Given as goal

abbrev pub invariant-loop-k : goal.invariant-loop-k
invariant-loop-k l = EachBelow (IsEntry l.tasks l.count) l.entries l.k
