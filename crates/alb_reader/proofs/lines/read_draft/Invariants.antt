use Rattle.std.proofs.Common.{◌≡◌, ◌<◌, ◌+◌, ◌^◌, length}
use Rattle.in2_reader.specs.Contents.{contents_from, lines_in}
use Rattle.alb_reader.specs.inner.Drafts.{IsAmid}
use Rattle.alb_reader.proofs.lines.read_draft.Given as goal

abbrev pub invariant-lines : goal.invariant-lines
invariant-lines l = record {
  amid : IsAmid (contents_from 1 l.bytes) l.draft (contents_from l.at l.left);
  same : lines_in l.at l.left ≡ lines_in 1 l.bytes;
  room : l.at + length l.left < 2 ^ 64;
}

abbrev pub decreases-lines : goal.decreases-lines
decreases-lines l = length l.left
