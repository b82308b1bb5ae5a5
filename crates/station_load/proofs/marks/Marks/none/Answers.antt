use Rattle.std.proofs.Common.{replicate}
use Rattle.line_instance.proofs.Bits.{truths-zeros}
use Rattle.line_instance.specs.inner.Words.{length-truths}
use Rattle.station_load.proofs.marks.Marks.none.Goals as goal

pub returns-clause-value : goal.returns-clause-value
returns-clause-value c = truths-zeros

pub returns-clause-truths : goal.returns-clause-truths
returns-clause-truths c = length-truths (replicate 16 0)
