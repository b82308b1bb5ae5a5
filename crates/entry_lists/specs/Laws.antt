-- Laws of trimmed lists.
use Rattle.std.specs.Prelude.{List}
use Rattle.line_rules.specs.lines.Line.{Line}
use Rattle.line_rules.specs.Entries.{IsDerived}
use Rattle.line_rules.specs.declared.types.LineKind.{LineKind}
use Rattle.line_rules.specs.declared.types.Entry.{Entry}
use Rattle.entry_lists.specs.Trim.{CitesEarlier}

-- each entry of a derived list cites entries before it alone
abbrev pub DerivedCitesEarlier : Type 0
DerivedCitesEarlier = (kind : LineKind) (line : Line) (es : List Entry) → IsDerived kind line es → CitesEarlier es
