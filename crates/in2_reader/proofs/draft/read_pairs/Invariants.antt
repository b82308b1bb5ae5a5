use Rattle.std.proofs.Common.{◌≡◌, ◌<◌, ◌≤◌, ◌+◌, ◌-◌, ◌^◌, length, vec_len}
use Rattle.in2_reader.specs.Contents.{contents_from, lines_in}
use Rattle.in2_reader.specs.inner.Draft.{pairs_in}
use Rattle.in2_reader.proofs.LinesSoFar.{with_front}
use Rattle.in2_reader.proofs.draft.read_pairs.Given as goal

abbrev pub decreases-pairs : goal.decreases-pairs
decreases-pairs l = length l.left

abbrev pub invariant-pairs : goal.invariant-pairs
invariant-pairs l = record {
  few : vec_len l.arcs ≤ l.most;
  same : lines_in l.at l.left ≡ lines_in l.line l.text;
  room : l.at + length l.left < 2 ^ 64;
  told : with_front l.arcs.items (pairs_in (lines_in l.line l.text) l.meaning l.tasks (l.most - vec_len l.arcs)
      (contents_from l.at l.left)) ≡ pairs_in (lines_in l.line l.text) l.meaning l.tasks l.most
      (contents_from l.line l.text);
}
