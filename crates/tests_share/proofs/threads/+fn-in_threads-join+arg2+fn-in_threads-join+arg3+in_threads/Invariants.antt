use Rattle.std.proofs.Common.{◌-◌}
use Rattle.tests_share.proofs.threads.+fn-in_threads-join+arg2+fn-in_threads-join+arg3+in_threads.Given as goal

abbrev pub decreases-join+arg2 : goal.decreases-join+arg2
decreases-join+arg2 g l = l.half

abbrev pub decreases-join+arg3 : goal.decreases-join+arg3
decreases-join+arg3 g l = l.count - l.half

abbrev pub decreases-in_threads : goal.decreases-in_threads
decreases-in_threads g l = l.count
