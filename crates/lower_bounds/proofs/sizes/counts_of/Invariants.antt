use Rattle.line_rules.proofs.SizeClasses.{Counting}
use Rattle.lower_bounds.proofs.sizes.counts_of.Given as goal

abbrev pub invariant-loop-i : goal.invariant-loop-i
invariant-loop-i l = record {
  can_next : (goal.iterator-loop-i).can_next l.i-iterator;
  finite : (goal.iterator-loop-i).is_finite l.i-iterator;
  counting : Counting l.inst l.cycle l.set l.counts.too_long l.counts.above_half l.counts.at_half l.counts.sixths
      l.i-iterator;
}
