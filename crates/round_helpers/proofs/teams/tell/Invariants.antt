use Rattle.round_helpers.specs.inner.Teams.{NoneEnded}
use Rattle.round_helpers.specs.declared.question_work.End.TheVariants as ends
use Rattle.round_helpers.proofs.teams.tell.Given as goal

abbrev pub invariant-loop-k : goal.invariant-loop-k
invariant-loop-k l = record { none : NoneEnded ends.Spent l.k l.helpers }
