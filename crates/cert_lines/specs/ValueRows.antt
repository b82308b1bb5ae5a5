-- The line that says one value: a kind of line, a question, a place, an entry, a frame.
use Rattle.std.specs.Prelude.{ℕ, suc, Option, Some, codes}
use Rattle.line_rules.specs.declared.types.LineKind.{LineKind}
use Rattle.line_rules.specs.declared.types.LineKind.TheVariants.{Straight, U}
use Rattle.line_rules.specs.declared.types.Seatplace.{Seatplace}
use Rattle.line_rules.specs.declared.types.Entry.{Entry}
use Rattle.line_rules.specs.declared.types.Why.{Why}
use Rattle.line_rules.specs.declared.types.Why.TheVariants as why
use Rattle.line_rules.specs.declared.types.OpenFrame.{OpenFrame}
use Rattle.line_rules.specs.declared.types.Ask.{Ask}
use Rattle.line_rules.specs.declared.types.Ask.TheVariants as ask
use Rattle.cert_lines.specs.Rows.{Row, fixed, keyed, seat, bound, branch, swap, pairs, frame}

-- the line of the kind of line
abbrev pub kind_row : LineKind → Row
kind_row Straight = fixed (codes "line straight")
kind_row U = fixed (codes "line u")

-- the line of the question
abbrev pub ask_row : Ask → Row
ask_row (ask.Stations cycle) = keyed (codes "cycle") cycle
ask_row (ask.Cycle stations) = keyed (codes "stations") stations

-- the line of a place
abbrev pub seat_row : LineKind → Seatplace → Row
seat_row kind p = seat kind p.station p.side

-- the line of an entry over n tasks, with the cycle that is given; tasks are counted from 1
abbrev pub why_row : ℕ → Option ℕ → Entry → Why → Row
why_row n c e why.Bound = bound n c e.set e.most
why_row n c e (why.Branch mode cites) = branch n c mode e.set e.most cites
why_row n c e (why.Swap cite out into) = swap n c e.set e.most cite (suc out) (suc into)
why_row n c e (why.Pairs two) = pairs n c e.set e.most two

-- the line of an entry with its cycle
abbrev pub entry_row : ℕ → Entry → Row
entry_row n e = why_row n (Some e.cycle) e e.why

-- the line of a frame
abbrev pub frame_row : ℕ → OpenFrame → Row
frame_row n f = frame n f.mode f.set f.most f.last f.cites
