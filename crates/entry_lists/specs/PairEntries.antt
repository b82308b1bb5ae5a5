-- Entries by pairs, which texts of the older versions can't say. Own.
use Rattle.std.specs.Prelude.{Bool, true, false, List}
use Rattle.std.specs.List.{list_any}
use Rattle.line_rules.specs.declared.types.Entry.{Entry}
use Rattle.line_rules.specs.declared.types.Why.{Why}
use Rattle.line_rules.specs.declared.types.Why.TheVariants as why

-- whether an entry holds by pairs
abbrev pub is_by_pairs : Why → Bool
is_by_pairs why.Bound = false
is_by_pairs (why.Branch mode cites) = false
is_by_pairs (why.Swap cite out into) = false
is_by_pairs (why.Pairs two) = true

-- whether some entry of a list holds by pairs
abbrev pub has_pairs : List Entry → Bool
has_pairs es = list_any (λ e. is_by_pairs e.why) es
