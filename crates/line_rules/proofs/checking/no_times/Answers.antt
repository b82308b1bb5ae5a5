use Rattle.line_rules.proofs.Stations.{none_at}
use Rattle.line_rules.proofs.checking.no_times.Goals as goal

pub returns-clause-none : goal.returns-clause-none
returns-clause-none c = λ s. none_at 1025 s
