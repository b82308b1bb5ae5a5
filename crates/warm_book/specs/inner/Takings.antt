-- A book that takes in old entries, as its code keeps it, and what is found of one old entry.
use Rattle.std.specs.Prelude.{ℕ, Option, Some, None}
use Rattle.line_rules.specs.declared.types.Entry.{Entry}
use Rattle.warm_book.specs.declared.warming.Warming.{Warming}
use Rattle.warm_book.specs.declared.warming.Judged.{Judged}
use Rattle.warm_book.specs.Warm.{Taking, IsKept}

abbrev pub taking : Warming → Taking
taking w = record { book = w.book; numbers = w.numbers.items; kept = w.kept; units = w.units }

-- what is found of an old entry: that it is kept so, or that it isn't kept
abbrev pub IsJudged : ℕ → Taking → Entry → Option Judged → Type 0
IsJudged room t old None = (new : Entry) (units : ℕ) → IsKept room t old new units → ⊥
IsJudged room t old (Some j) = IsKept room t old j.entry j.units
