use Rattle.std.proofs.Common.{◌≡◌, ◌<◌, ◌≤◌, ◌-◌, suc, List, ℕ, length}
use Rattle.cert_files.specs.inner.Pieces.{bytes_of}
use Rattle.cert_files.proofs.file_lines.read_on.Given as goal

abbrev pub decreases-pieces : goal.decreases-pieces
decreases-pieces g l = suc l.limit - l.at

abbrev pub invariant-pieces : goal.invariant-pieces
invariant-pieces g l = record {
  within : l.at ≤ l.limit;
  from : l.from ≤ l.at;
  count : g.S.Shelf.fetch_faults l.fn.shelf ≤ g.S.Shelf.fetch_faults l.shelf;
  writes : g.S.Shelf.write_faults l.shelf ≡ g.S.Shelf.write_faults l.fn.shelf;
  files : g.S.Shelf.tells → (q : List ℕ) → g.S.Shelf.file l.shelf q ≡ g.S.Shelf.file l.fn.shelf q;
  reached : g.S.Shelf.tells → l.from < l.at → l.at ≤ length (bytes_of (g.S.Shelf.file l.fn.shelf l.name));
}
