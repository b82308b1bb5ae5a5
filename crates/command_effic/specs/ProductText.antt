-- The line that is printed of the check of a certificate of a product.
use Rattle.std.specs.Prelude.{ℕ, ◌+◌, List, ◌++◌, slice_get, codes, decimal}
use Rattle.printed_verdict.specs.VerdictText.{kind_text, two_text, entry_fault_text, entry_mode}
use Rattle.printed_verdict.specs.VerdictText.{frame_fault_text, frame_mode, frame_of}
use Rattle.command_outcome.specs.declared.status.Status.{Status}
use Rattle.command_outcome.specs.declared.status.Status.TheVariants as ends
use Rattle.line_rules.specs.declared.products.EfficCert.{EfficCert}
use Rattle.effic_check.specs.declared.verdict.EfficPlace.{EfficPlace}
use Rattle.effic_check.specs.declared.verdict.EfficPlace.TheVariants as place
use Rattle.effic_check.specs.declared.verdict.EfficVerified.{EfficVerified}
use Rattle.effic_check.specs.declared.verdict.EfficVerified.TheVariants as verified

-- where a certificate is refused, with the values; tasks are counted from 1, entries and frames from 0
abbrev pub place_text : EfficCert → EfficPlace → List ℕ
place_text cert (place.Tasks said real) = codes "tasks " ++ two_text said real
place_text cert (place.Stations stations) = codes "balance stations " ++ decimal stations
place_text cert (place.Station task) = codes "balance station " ++ decimal (task + 1)
place_text cert (place.Side task) = codes "balance side " ++ decimal (task + 1)
place_text cert (place.Overfull station time) = codes "balance overfull " ++ two_text station time
place_text cert (place.Broken i j) = codes "balance broken " ++ two_text (i + 1) (j + 1)
place_text cert (place.Upper upper) = codes "upper " ++ decimal upper
place_text cert (place.Entry k why) =
    codes "entry " ++ decimal k ++ entry_fault_text cert.tasks (entry_mode (slice_get cert.entries k)) why
place_text cert (place.Goal stations) = codes "goal " ++ decimal stations
place_text cert (place.Frame j why) =
    codes "frame " ++ decimal j ++ frame_fault_text cert.tasks (frame_mode (frame_of cert.trail j)) why

-- the kind of line and the range of stations
abbrev pub accepted_text : EfficCert → List ℕ
accepted_text cert =
    codes "accepted " ++ kind_text cert.kind ++ (codes " product " ++ two_text cert.least_m cert.most_m)

-- the bounds and the units
abbrev pub bounds_text : ℕ → ℕ → ℕ → List ℕ
bounds_text lower upper units =
    (codes " lower " ++ decimal lower) ++ (codes " upper " ++ decimal upper) ++ (codes " units " ++ decimal units)

-- what was found of a certificate
abbrev pub found_text : EfficCert → EfficVerified → List ℕ
found_text cert (verified.Accepted lower upper units) = accepted_text cert ++ bounds_text lower upper units
found_text cert (verified.Refused at) = codes "refused: " ++ place_text cert at
found_text cert (verified.StepsEnded steps) = codes "steps ended at " ++ decimal steps

-- The line about it.
abbrev pub verdict_text : EfficCert → EfficVerified → List ℕ
verdict_text cert found = found_text cert found ++ codes "\n"

-- the status of what was found
abbrev pub verdict_status : EfficVerified → Status
verdict_status (verified.Accepted lower upper units) = ends.Done
verdict_status (verified.Refused at) = ends.Refused
verdict_status (verified.StepsEnded steps) = ends.Steps
