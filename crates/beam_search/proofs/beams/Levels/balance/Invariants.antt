use Rattle.std.proofs.Common.{◌≡◌, length}
use Rattle.line_instance.specs.Line.{tasks}
use Rattle.beam_search.proofs.beams.Levels.balance.Given as goal

abbrev pub invariant-loop-level : goal.invariant-loop-level
invariant-loop-level l = length l.seats.items ≡ tasks l.inst
