-- The parts of a text of version 1 as grammars.
use Rattle.std.specs.Prelude.{◌≡◌, ℕ, ◌≤◌, List, [], ◌∷◌, length, slice_get, Some}
use Rattle.line_rules.specs.Ranges.{IsFrame}
use Rattle.line_rules.specs.declared.types.OpenFrame.{OpenFrame}
use Rattle.cert_lines.specs.Faults.{Grammar}
use Rattle.entry_lists.specs.OldRanges.{IsPart, AreParts}
use Rattle.entry_lists.specs.declared.version_one.Part.{Part}
use Rattle.cert_text.specs.OldCert.{old_trail_rows, part_rows, parts_rows, counted_rows}

-- frames beside so many entries, where there is room for so many
pub record AreFrames (n count room : ℕ) (fs : List OpenFrame) : Type 0 where
  pub few : length fs ≤ room
  pub each : (k : ℕ) (f : OpenFrame) → slice_get fs k ≡ Some f → IsFrame n count f

-- frames behind their number
abbrev pub old_trails : ℕ → ℕ → ℕ → Grammar (List OpenFrame)
old_trails n count room = record { rows = old_trail_rows n; ranged = AreFrames n count room }

-- how many frames may stand behind those of a part: none where it has some
abbrev pub room_of : List OpenFrame → ℕ
room_of [] = 1024
room_of (f ∷ fs) = 0

abbrev pub room_left : Part → ℕ
room_left p = room_of p.frames

-- a part with room for so many frames
abbrev pub one_part : ℕ → ℕ → Grammar Part
one_part n room = record { rows = part_rows n; ranged = λ p. IsPart n p × (length p.frames ≤ room) }

-- so many parts
abbrev pub so_many : ℕ → ℕ → Grammar (List Part)
so_many n count = record { rows = parts_rows n; ranged = λ ps. AreParts n ps × (length ps ≡ count) }

-- parts behind their number
abbrev pub counted : ℕ → Grammar (List Part)
counted n = record { rows = counted_rows n; ranged = AreParts n }
