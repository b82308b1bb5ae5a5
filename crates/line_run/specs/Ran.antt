-- What a run does: with the words, with a job that they ask for, and as a whole.
use Rattle.std.specs.Prelude.{◌≡◌, ◌≢◌, ◌⊎◌, ℕ, Bool, List, Some}
use Rattle.std.specs.declared.result.Result.{Result}
use Rattle.std.specs.declared.result.Result.TheVariants.{Err}
use Rattle.line_io.specs.Outside.{Rises}
use Rattle.line_words.specs.Words.{Text}
use Rattle.command_outcome.specs.Outcome.{Files, Outside, Ends, outside}
use Rattle.command_outcome.specs.Output.{IsOnePut, kept_of, status_of}
use Rattle.command_outcome.specs.Ending.{IsEnding}
use Rattle.command_outcome.specs.declared.report.Kept.{Kept}
use Rattle.command_outcome.specs.declared.report.Kept.TheVariants.{Nothing}
use Rattle.command_outcome.specs.declared.report.Report.{Report}
use Rattle.command_outcome.specs.declared.report.EarlyEnd.{EarlyEnd}
use Rattle.command_outcome.specs.declared.report.EarlyEnd.TheVariants.{Unwritten}
use Rattle.command_outcome.specs.declared.status.Status.{Status}
use Rattle.command_outcome.specs.declared.status.Status.TheVariants.{Done, Stopped, Usage, ReadFault, WriteFault}
use Rattle.line_run.specs.Usage.{HasFault}
use Rattle.line_run.specs.Run.{Meaning, IsAnswer, IsOutcome, IsPlainEnd, IsPlainOutcome, IsPut, IsLeft, IsWriting}
use Rattle.line_run.specs.Run.{AsksFiles, IsTrueRun}
use Rattle.line_run.specs.Headline.{IsAnswered, IsHeadline, AsksPromise, Reports}

-- What is seen of a shelf: whether its contents are observable, the files before a call and after it, on whose file the
-- last call failed that did, and how often a fetch and a write had failed before it and after it.
pub record ShelfSeen : Type 1 where
  pub tells : Type 0
  pub files : Files
  pub after : Files
  pub blames : List ℕ → Bool
  pub fetch_faults_before : ℕ
  pub fetch_faults : ℕ
  pub write_faults_before : ℕ
  pub write_faults : ℕ

-- What is seen of an output: whether its contents are observable; and, before a call and after it, what is put, how
-- often something was put, and how often that had failed.
pub record SinkSeen : Type 1 where
  pub tells : Type 0
  pub shown_before : List ℕ
  pub shown : List ℕ
  pub puts_before : ℕ
  pub puts : ℕ
  pub faults_before : ℕ
  pub faults : ℕ

-- the outside that a shelf shows
abbrev pub shown_by : ShelfSeen → Outside
shown_by shelf = outside shelf.files shelf.blames

-- a shelf, seen so
abbrev pub shelf_seen : Type 0 → Files → Files → (List ℕ → Bool) → ℕ → ℕ → ℕ → ℕ → ShelfSeen
shelf_seen tells files after blames fetches_before fetches writes_before writes = record {
  tells = tells;
  files = files;
  after = after;
  blames = blames;
  fetch_faults_before = fetches_before;
  fetch_faults = fetches;
  write_faults_before = writes_before;
  write_faults = writes;
}

-- What a job of this meaning has done that ended with this result: it came to an outcome of the job; one that reads no
-- file ended as such a job does; its status is never that of a usage fault, and that of a failed fetch or write only
-- where one failed; a certificate is kept only where it answers; and then what it has proved is true, and what it
-- promises is so.
pub record Does (shelf : ShelfSeen) (meaning : Meaning) (result : Result Report EarlyEnd) : Type 0 where
  pub ends : shelf.tells → Ends (shown_by shelf) (meaning.outcome (shown_by shelf)) shelf.after result
  pub plain : meaning.reads ⊎ IsPlainEnd meaning.page result
  pub usage : status_of result ≢ Usage
  pub read : status_of result ≡ ReadFault → Rises shelf.fetch_faults_before shelf.fetch_faults
  pub write : status_of result ≡ WriteFault → result ≡ Err Unwritten
  pub unwritten : result ≡ Err Unwritten → ((name : Text) × (meaning.writes ≡ Some name))
      × Rises shelf.write_faults_before shelf.write_faults
  pub kept : status_of result ≢ Done → status_of result ≢ Stopped → kept_of result ≡ Nothing
  pub true_bounds : shelf.tells → status_of result ≡ Done → meaning.truth shelf.files
  pub promise : shelf.tells → IsAnswered (status_of result)
      → Reports (λ r. meaning.promise shelf.files shelf.after r.status r.text.items r.kept) result

-- The same of what the words ask for, or of their fault.
pub record DoesWords (words : List Text) (shelf : ShelfSeen) (result : Result Report EarlyEnd) : Type 0 where
  pub ends : shelf.tells → Ends (shown_by shelf) (IsAnswer words (shown_by shelf)) shelf.after result
  pub plain : AsksFiles words ⊎ IsPlainEnd (IsPlainOutcome words) result
  pub usage : status_of result ≡ Usage → HasFault words
  pub read : status_of result ≡ ReadFault → Rises shelf.fetch_faults_before shelf.fetch_faults
  pub write : status_of result ≡ WriteFault → result ≡ Err Unwritten
  pub unwritten : result ≡ Err Unwritten → IsWriting words × Rises shelf.write_faults_before shelf.write_faults
  pub kept : status_of result ≢ Done → status_of result ≢ Stopped → kept_of result ≡ Nothing
  pub true_bounds : shelf.tells → status_of result ≡ Done → IsTrueRun words shelf.files
  pub promise : shelf.tells → IsAnswered (status_of result) → AsksPromise words shelf.files shelf.after result

-- What a run of these words does that ends with this status and keeps what is held: the statement of the project.
pub record IsRun (words : List Text) (shelf : ShelfSeen) (out : SinkSeen) (status : Status) (held : Kept)
    : Type 0 where
  pub headline : shelf.tells → out.tells → IsAnswered status
      → IsHeadline words shelf.files shelf.after out.shown_before out.shown status held
  pub ends : shelf.tells → out.tells → IsEnding (shown_by shelf) (IsOutcome words (shown_by shelf)) (record {
    status = status;
    files = shelf.after;
    kept = held;
    shown_before = out.shown_before;
    shown = out.shown;
    faults_before = out.faults_before;
    faults = out.faults;
  })
  pub plain : out.tells → AsksFiles words
      ⊎ IsPut (IsPlainOutcome words) out.shown_before out.shown out.faults_before out.faults status held
  pub one_put : IsOnePut out.puts_before out.puts
  pub usage : status ≡ Usage → HasFault words
  pub read : status ≡ ReadFault → Rises shelf.fetch_faults_before shelf.fetch_faults
  pub write : status ≡ WriteFault → Rises out.faults_before out.faults
      ⊎ (IsWriting words × Rises shelf.write_faults_before shelf.write_faults)
  pub files : shelf.tells → IsLeft (shown_by shelf) (IsOutcome words (shown_by shelf)) status shelf.after
  pub kept : status ≢ Done → status ≢ Stopped → held ≡ Nothing
  pub true_bounds : shelf.tells → status ≡ Done → IsTrueRun words shelf.files
