-- The tries of a round.
use Rattle.std.specs.Prelude.{ℕ, max}
use Rattle.line_rules.specs.Loads.{Belongs}
use Rattle.line_rules.specs.declared.types.LineKind.{LineKind}
use Rattle.line_seek.specs.declared.tries.Try.{Try}
use Rattle.line_seek.specs.declared.tries.Try.TheVariants as tries

-- a try suits a line's kind where its mode belongs to it; a drift has no mode, and suits both kinds
abbrev pub Suits : LineKind → Try → Type 0
Suits kind tries.Drift = Unit {0}
Suits kind (tries.Beam mode) = Belongs kind mode
Suits kind (tries.Search mode) = Belongs kind mode

-- how many loads a try counts as that lists so many, or uses so many units: a beam and a search count as one at least
abbrev pub counted : Try → ℕ → ℕ
counted tries.Drift listed = listed
counted (tries.Beam mode) listed = max listed 1
counted (tries.Search mode) listed = max listed 1

-- 1 for a try that may count as nothing, which a drift alone may; none follows on another
abbrev pub lag : Try → ℕ
lag tries.Drift = 1
lag (tries.Beam mode) = 0
lag (tries.Search mode) = 0
