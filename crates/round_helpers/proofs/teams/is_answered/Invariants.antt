use Rattle.round_helpers.specs.inner.Teams.{NoneEnded}
use Rattle.round_helpers.specs.declared.question_work.End.TheVariants as ends
use Rattle.round_helpers.proofs.teams.is_answered.Given as goal

abbrev pub invariant-loop-k : goal.invariant-loop-k
invariant-loop-k l = record { none : NoneEnded ends.Answered l.k l.helpers }
