-- The line that is printed of the check of a certificate.
use Rattle.std.specs.Prelude.{◌≡◌, ◌⊎◌, ℕ, ◌+◌, List, ◌++◌, Option, Some, None, slice_get, codes, decimal}
use Rattle.line_rules.specs.declared.types.LineKind.{LineKind}
use Rattle.line_rules.specs.declared.types.LineKind.TheVariants.{Straight, U}
use Rattle.line_rules.specs.declared.types.Mode.{Mode}
use Rattle.line_rules.specs.declared.types.Mode.TheVariants.{Fore}
use Rattle.line_rules.specs.declared.types.Why.{Why}
use Rattle.line_rules.specs.declared.types.Why.TheVariants as why
use Rattle.line_rules.specs.declared.types.Entry.{Entry}
use Rattle.line_rules.specs.declared.types.OpenFrame.{OpenFrame}
use Rattle.line_rules.specs.declared.types.Trail.{Trail}
use Rattle.line_rules.specs.declared.types.Ask.{Ask}
use Rattle.line_rules.specs.declared.types.Ask.TheVariants as ask
use Rattle.line_rules.specs.declared.types.Claim.{Claim}
use Rattle.line_rules.specs.declared.types.Claim.TheVariants as claim
use Rattle.line_rules.specs.declared.types.Certificate.{Certificate}
use Rattle.cert_lines.specs.Numbers.{load_text}
use Rattle.line_check.specs.declared.types.EntryFault.{EntryFault}
use Rattle.line_check.specs.declared.types.EntryFault.TheVariants as entries
use Rattle.line_check.specs.declared.types.FrameFault.{FrameFault}
use Rattle.line_check.specs.declared.types.FrameFault.TheVariants as frames
use Rattle.line_check.specs.declared.types.Place.{Place}
use Rattle.line_check.specs.declared.types.Place.TheVariants as place
use Rattle.line_check.specs.declared.types.Verified.{Verified}
use Rattle.line_check.specs.declared.types.Verified.TheVariants as verified
use Rattle.command_outcome.specs.declared.status.Status.{Status}
use Rattle.command_outcome.specs.declared.status.Status.TheVariants as ends

-- the word of the kind of line
abbrev pub kind_text : LineKind → List ℕ
kind_text Straight = codes "straight"
kind_text U = codes "u"

-- the question of a certificate
abbrev pub ask_text : Ask → List ℕ
ask_text (ask.Stations cycle) = codes "cycle " ++ decimal cycle
ask_text (ask.Cycle stations) = codes "stations " ++ decimal stations

-- the mode of an entry, in which its loads are printed
abbrev pub mode_of : Why → Mode
mode_of why.Bound = Fore
mode_of (why.Branch mode cites) = mode
mode_of (why.Swap cite out into) = Fore
mode_of (why.Pairs two) = Fore

abbrev pub entry_mode : Option Entry → Mode
entry_mode None = Fore
entry_mode (Some e) = mode_of e.why

abbrev pub frame_mode : Option OpenFrame → Mode
frame_mode None = Fore
frame_mode (Some f) = f.mode

abbrev pub frame_of : Option Trail → ℕ → Option OpenFrame
frame_of None j = None
frame_of (Some t) j = slice_get t.frames j

-- the mode of the entry, and of the frame, of this number
abbrev pub mode_at_entry : Claim → ℕ → Mode
mode_at_entry (claim.TooLong task) k = Fore
mode_at_entry (claim.Bounds lower upper b es trail) k = entry_mode (slice_get es k)

abbrev pub mode_at_frame : Claim → ℕ → Mode
mode_at_frame (claim.TooLong task) j = Fore
mode_at_frame (claim.Bounds lower upper b es trail) j = frame_mode (frame_of trail j)

-- why an entry is refused; loads are written over n tasks, as the parts that the mode has
abbrev pub entry_fault_text : ℕ → Mode → EntryFault → List ℕ
entry_fault_text n mode (entries.Bound stations) = codes " bound " ++ decimal stations
entry_fault_text n mode entries.Mode = codes " mode"
entry_fault_text n mode entries.Most = codes " most"
entry_fault_text n mode (entries.Cite cite) = codes " cite " ++ decimal cite
entry_fault_text n mode (entries.Uncovered load) = codes " uncovered " ++ load_text n mode load
entry_fault_text n mode entries.Spare = codes " spare"
entry_fault_text n mode entries.Swap = codes " swap"
entry_fault_text n mode entries.Pairs = codes " pairs"

-- why a frame is refused
abbrev pub frame_fault_text : ℕ → Mode → FrameFault → List ℕ
frame_fault_text n mode frames.Allowed = codes " allowed"
frame_fault_text n mode frames.Set = codes " set"
frame_fault_text n mode frames.Mode = codes " mode"
frame_fault_text n mode frames.Last = codes " last"
frame_fault_text n mode (frames.Cite cite) = codes " cite " ++ decimal cite
frame_fault_text n mode (frames.Uncovered load) = codes " uncovered " ++ load_text n mode load
frame_fault_text n mode frames.Spare = codes " spare"

-- two numbers with a blank between
abbrev pub two_text : ℕ → ℕ → List ℕ
two_text a b = decimal a ++ codes " " ++ decimal b

-- where a certificate is refused, with the values; tasks are counted from 1, entries and frames from 0
abbrev pub place_text : Certificate → Place → List ℕ
place_text cert (place.Tasks said real) = codes "tasks " ++ two_text said real
place_text cert (place.Infeasible task time) = codes "infeasible " ++ decimal (task + 1) ++ codes " time "
    ++ decimal time
place_text cert (place.Earlier task least) = codes "infeasible " ++ decimal (task + 1) ++ codes " earlier "
    ++ decimal (least + 1)
place_text cert (place.Stations stations) = codes "balance stations " ++ decimal stations
place_text cert (place.Station task) = codes "balance station " ++ decimal (task + 1)
place_text cert (place.Side task) = codes "balance side " ++ decimal (task + 1)
place_text cert (place.Overfull station time) = codes "balance overfull " ++ two_text station time
place_text cert (place.Broken i j) = codes "balance broken " ++ two_text (i + 1) (j + 1)
place_text cert (place.Together i j) = codes "balance together " ++ two_text (i + 1) (j + 1)
place_text cert (place.Entry k why) = codes "entry " ++ decimal k
    ++ entry_fault_text cert.tasks (mode_at_entry cert.claim k) why
place_text cert place.Goal = codes "goal"
place_text cert (place.Frame j why) = codes "frame " ++ decimal j
    ++ frame_fault_text cert.tasks (mode_at_frame cert.claim j) why

-- what was found of a certificate
abbrev pub found_text : Certificate → Verified → List ℕ
found_text cert (verified.Accepted lower upper units) =
    codes "accepted " ++ kind_text cert.kind ++ codes " " ++ ask_text cert.ask ++ codes " lower " ++ decimal lower
    ++ codes " upper " ++ decimal upper ++ codes " units " ++ decimal units
found_text cert (verified.TooLong task) = codes "accepted " ++ kind_text cert.kind ++ codes " " ++ ask_text cert.ask
    ++ codes " infeasible " ++ decimal (task + 1)
found_text cert (verified.Refused at) = codes "refused: " ++ place_text cert at
found_text cert (verified.StepsEnded steps) = codes "steps ended at " ++ decimal steps

-- The line about it.
abbrev pub verdict_text : Certificate → Verified → List ℕ
verdict_text cert found = found_text cert found ++ codes "\n"

-- the status of what was found
abbrev pub verdict_status : Verified → Status
verdict_status (verified.Accepted lower upper units) = ends.Done
verdict_status (verified.TooLong task) = ends.Done
verdict_status (verified.Refused at) = ends.Refused
verdict_status (verified.StepsEnded steps) = ends.Steps

-- the status of a verdict on a certificate
abbrev pub IsVerdictStatus : Status → Type 0
IsVerdictStatus s = (s ≡ ends.Done) ⊎ (s ≡ ends.Refused) ⊎ (s ≡ ends.Steps)
