use Rattle.std.proofs.Common.{◌≡◌, ◌++◌, drop, string_bytes}
use Rattle.timeline_drawing.specs.Rows.{bar_text, each_where, has_work}
use Rattle.timeline_drawing.proofs.rows.push_bars.Given as goal

abbrev pub invariant-loop-visit : goal.invariant-loop-visit
invariant-loop-visit l =
    string_bytes l.text ++ each_where has_work (bar_text l.figures l.name) (drop l.visit-index l.row)
    ≡ string_bytes l.fn.text ++ each_where has_work (bar_text l.figures l.name) l.row
