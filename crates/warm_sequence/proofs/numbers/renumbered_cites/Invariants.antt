use Rattle.std.proofs.Common.{◌≡◌, drop}
use Rattle.warm_sequence.specs.Warm.{renumbered_cites}
use Rattle.warm_sequence.proofs.NumberFacts.{behind}
use Rattle.warm_sequence.proofs.numbers.renumbered_cites.Given as goal

abbrev pub invariant-loop-cite : goal.invariant-loop-cite
invariant-loop-cite l =
    renumbered_cites l.numbers l.cites ≡ behind l.made.items (renumbered_cites l.numbers (drop l.cite-index l.cites))
