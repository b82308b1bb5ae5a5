use Rattle.std.proofs.Common.{◌≡◌, ◌<◌, ◌+◌, ◌-◌, ◌^◌, length}
use Rattle.in2_reader.specs.Contents.{contents_from, lines_in}
use Rattle.in2_reader.specs.inner.Draft.{times_in}
use Rattle.in2_reader.proofs.LinesSoFar.{with_front}
use Rattle.in2_reader.proofs.draft.read_times.Given as goal

abbrev pub invariant-loop-i : goal.invariant-loop-i
invariant-loop-i l = record {
  same : lines_in l.at l.left ≡ lines_in l.line l.text;
  room : l.at + length l.left < 2 ^ 64;
  told : with_front l.times.items (times_in (lines_in l.line l.text) (l.tasks - l.i) (contents_from l.at l.left))
      ≡ times_in (lines_in l.line l.text) l.tasks (contents_from l.line l.text);
}
