-- The line that is printed of the check of a certificate of a sequence.
use Rattle.std.specs.Prelude.{◌≡◌, ◌⊎◌, ℕ, ◌+◌, List, ◌++◌, codes, decimal}
use Rattle.command_outcome.specs.declared.status.Status.{Status}
use Rattle.command_outcome.specs.declared.status.Status.TheVariants as ends
use Rattle.sequence_check.specs.declared.types.SeqEntryFault.{SeqEntryFault}
use Rattle.sequence_check.specs.declared.types.SeqEntryFault.TheVariants as entry
use Rattle.sequence_check.specs.declared.types.SeqFrameFault.{SeqFrameFault}
use Rattle.sequence_check.specs.declared.types.SeqFrameFault.TheVariants as frame
use Rattle.sequence_check.specs.declared.types.SeqPlace.{SeqPlace}
use Rattle.sequence_check.specs.declared.types.SeqPlace.TheVariants as place
use Rattle.sequence_check.specs.declared.types.SeqVerified.{SeqVerified}
use Rattle.sequence_check.specs.declared.types.SeqVerified.TheVariants as verified

-- why an entry is refused; models are counted from 1, entries from 0
abbrev pub entry_fault_text : SeqEntryFault → List ℕ
entry_fault_text (entry.Bound bound) = codes " bound " ++ decimal bound
entry_fault_text entry.Empty = codes " empty"
entry_fault_text (entry.Cite cite) = codes " cite " ++ decimal cite
entry_fault_text (entry.Uncovered model) = codes " uncovered " ++ decimal (model + 1)
entry_fault_text entry.Spare = codes " spare"

-- why a frame is refused
abbrev pub frame_fault_text : SeqFrameFault → List ℕ
frame_fault_text frame.Allowed = codes " allowed"
frame_fault_text frame.Set = codes " set"
frame_fault_text frame.Last = codes " last"
frame_fault_text (frame.Cite cite) = codes " cite " ++ decimal cite
frame_fault_text (frame.Uncovered model) = codes " uncovered " ++ decimal (model + 1)
frame_fault_text frame.Spare = codes " spare"

-- where a certificate is refused, with the values
abbrev pub place_text : SeqPlace → List ℕ
place_text (place.Models models) = codes "models " ++ decimal models
place_text (place.Stations stations) = codes "stations " ++ decimal stations
place_text place.Sequence = codes "sequence"
place_text (place.Total total) = codes "total " ++ decimal total
place_text (place.Entry k why) = (codes "entry " ++ decimal k) ++ entry_fault_text why
place_text place.Goal = codes "goal"
place_text (place.Frame j why) = (codes "frame " ++ decimal j) ++ frame_fault_text why

-- the bounds that are accepted, and the units
abbrev pub accepted_text : ℕ → ℕ → ℕ → List ℕ
accepted_text lower upper units =
    (codes "accepted utility lower " ++ decimal lower) ++ (codes " upper " ++ decimal upper)
    ++ (codes " units " ++ decimal units)

-- what was found of a certificate
abbrev pub found_text : SeqVerified → List ℕ
found_text (verified.Accepted lower upper units) = accepted_text lower upper units
found_text (verified.Refused at) = codes "refused: " ++ place_text at
found_text (verified.StepsEnded steps) = codes "steps ended at " ++ decimal steps

-- The line about it.
abbrev pub verdict_text : SeqVerified → List ℕ
verdict_text found = found_text found ++ codes "\n"

-- a verdict has one of three statuses
abbrev pub IsVerdictStatus : Status → Type 0
IsVerdictStatus status = (status ≡ ends.Done) ⊎ (status ≡ ends.Refused) ⊎ (status ≡ ends.Steps)

-- the status of what was found
abbrev pub verdict_status : SeqVerified → Status
verdict_status (verified.Accepted lower upper units) = ends.Done
verdict_status (verified.Refused at) = ends.Refused
verdict_status (verified.StepsEnded steps) = ends.Steps
