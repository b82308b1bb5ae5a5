use Rattle.std.proofs.Common.{◌≡◌, ◌≤◌, ◌-◌, suc, List, ℕ, ◌++◌}
use Rattle.std.specs.Prelude.{slice_range}
use Rattle.cert_lines.specs.Faults.{IsLine}
use Rattle.cert_files.specs.inner.Rest.{bytes_from}
use Rattle.cert_files.proofs.file_lines.next_line.Given as goal

abbrev pub decreases-pieces : goal.decreases-pieces
decreases-pieces g l = suc l.limit - l.at

abbrev pub invariant-pieces : goal.invariant-pieces
invariant-pieces g l = record {
  within : l.at ≤ l.limit;
  count : g.S.Shelf.fetch_faults l.fn.shelf ≤ g.S.Shelf.fetch_faults l.shelf;
  writes : g.S.Shelf.write_faults l.shelf ≡ g.S.Shelf.write_faults l.fn.shelf;
  files : g.S.Shelf.tells → (q : List ℕ) → g.S.Shelf.file l.shelf q ≡ g.S.Shelf.file l.fn.shelf q;
  left : g.S.Shelf.tells → slice_range l.fn.window.piece.items l.fn.window.from l.fn.window.to
      ++ bytes_from l.fn.at (g.S.Shelf.file l.fn.shelf l.name) ≡ l.line.items
      ++ (slice_range l.window.piece.items l.window.from l.window.to
      ++ bytes_from l.at (g.S.Shelf.file l.fn.shelf l.name));
  line : IsLine l.line.items;
}
