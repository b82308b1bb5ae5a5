-- The end from which the stations of a set of tasks are filled.
use Rattle.std.specs.Prelude.{ℕ, Bool, cond, nat_eq, nat_le, List, Option, Some, None}
use Rattle.std.specs.List.{count_by}
use Rattle.line_instance.specs.Truths.{members_of}
use Rattle.line_instance.specs.Line.{Line, is_before}
use Rattle.line_rules.specs.declared.types.LineKind.{LineKind}
use Rattle.line_rules.specs.declared.types.LineKind.TheVariants.{Straight, U}
use Rattle.line_rules.specs.declared.types.Mode.{Mode}
use Rattle.line_rules.specs.declared.types.Mode.TheVariants as mode

-- whether no member of R is before j, and whether none is after j
abbrev pub is_source : Line → List Bool → ℕ → Bool
is_source line R j = nat_eq (count_by (λ i. is_before line i j) (members_of R)) 0

abbrev pub is_sink : Line → List Bool → ℕ → Bool
is_sink line R j = nat_eq (count_by (λ i. is_before line j i) (members_of R)) 0

-- how many tasks of R have no predecessor in R, and how many have no successor in R
unfoldable pub sources : Line → List Bool → ℕ
sources line R = count_by (is_source line R) (members_of R)

unfoldable pub sinks : Line → List Bool → ℕ
sinks line R = count_by (is_sink line R) (members_of R)

-- The mode of a set: both ends on a U-line. On a straight line the front, where the tasks without predecessor in R are
-- at most as many as those without successor in R, and otherwise the back.
unfoldable pub mode_of : LineKind → Line → List Bool → Mode
mode_of Straight line R = cond (nat_le (sources line R) (sinks line R)) mode.Fore mode.Back
mode_of U line R = mode.Both

-- the mode of a frame: the one that was asked for, and where none was the mode of its set
abbrev pub frame_mode : Option Mode → LineKind → Line → List Bool → Mode
frame_mode None kind line R = mode_of kind line R
frame_mode (Some mode) kind line R = mode
