use Rattle.std.proofs.Common.{◌≡◌, drop}
use Rattle.line_io.specs.Kept.{keep_of}
use Rattle.line_io.proofs.calls.kept_of.Given as goal

abbrev pub invariant-loop-tear : goal.invariant-loop-tear
invariant-loop-tear l = keep_of (drop l.tear-index l.tears) l.call ≡ keep_of l.tears l.call
