use Rattle.std.proofs.Common.{◌≡◌, take, min}
use Rattle.line_io.specs.Lines.{value_of}
use Rattle.effic_cert.specs.inner.WideReading.{widest}
use Rattle.effic_cert.proofs.words.value.Given as goal

abbrev pub invariant-loop-b : goal.invariant-loop-b
invariant-loop-b l = l.value ≡ min (value_of (take l.b-index l.digits)) widest
