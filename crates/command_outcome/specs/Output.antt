-- What is put at the end of a run.
use Rattle.std.specs.Prelude.{◌≡◌, ◌⊎◌, ℕ, List, ◌++◌, take, codes}
use Rattle.std.specs.declared.result.Result.{Result}
use Rattle.std.specs.declared.result.Result.TheVariants.{Ok, Err}
use Rattle.line_io.specs.Outside.{up, Rises}
use Rattle.command_outcome.specs.declared.report.Kept.{Kept}
use Rattle.command_outcome.specs.declared.report.Kept.TheVariants.{Nothing}
use Rattle.command_outcome.specs.declared.report.Report.{Report}
use Rattle.command_outcome.specs.declared.report.EarlyEnd.{EarlyEnd}
use Rattle.command_outcome.specs.declared.report.EarlyEnd.TheVariants as stop
use Rattle.command_outcome.specs.declared.status.Status.{Status}
use Rattle.command_outcome.specs.declared.status.Status.TheVariants as ends

-- the whole text is put, the status is this one and what was made is kept; or the put failed, the sink's faults rose, a
-- prefix of the text is put and nothing is kept
abbrev pub Puts : Status → List ℕ → Kept → List ℕ → List ℕ → ℕ → ℕ → Status → Kept → Type 0
Puts status text made old new before after result kept =
    ((result ≡ status) × (new ≡ old ++ text) × (kept ≡ made))
    ⊎ ((result ≡ ends.WriteFault) × Rises before after × ((k : ℕ) × (new ≡ old ++ take k text)) × (kept ≡ Nothing))

-- something was put at most once
abbrev pub IsOnePut : ℕ → ℕ → Type 0
IsOnePut before after = (after ≡ before) ⊎ (after ≡ up before)

-- the line about memory
abbrev pub memory_line : List ℕ
memory_line = codes "memory\n"

-- what is put and kept of what a run ended with
abbrev pub Finishes : Result Report EarlyEnd → List ℕ → List ℕ → ℕ → ℕ → Status → Kept → Type 0
Finishes (Ok r) old new before after result kept = Puts r.status r.text.items r.kept old new before after result kept
Finishes (Err (stop.Report r)) old new before after result kept =
    Puts r.status r.text.items r.kept old new before after result kept
Finishes (Err stop.Memory) old new before after result kept =
    Puts ends.Memory memory_line Nothing old new before after result kept
Finishes (Err stop.Unwritten) old new before after result kept =
    (result ≡ ends.WriteFault) × (new ≡ old) × (kept ≡ Nothing)

-- the status that a run ended with
abbrev pub status_of : Result Report EarlyEnd → Status
status_of (Ok r) = r.status
status_of (Err (stop.Report r)) = r.status
status_of (Err stop.Memory) = ends.Memory
status_of (Err stop.Unwritten) = ends.WriteFault

-- the certificate that is kept of what a run ended with, once it is put
abbrev pub kept_of : Result Report EarlyEnd → Kept
kept_of (Ok r) = r.kept
kept_of (Err (stop.Report r)) = r.kept
kept_of (Err stop.Memory) = Nothing
kept_of (Err stop.Unwritten) = Nothing
