-- The headline: what a run promises that answers a question with status 0 or 1.
use Rattle.std.specs.Prelude.{◌≡◌, ◌⊎◌, ℕ, List, ◌++◌}
use Rattle.std.specs.declared.result.Result.{Result}
use Rattle.std.specs.declared.result.Result.TheVariants.{Ok, Err}
use Rattle.line_words.specs.Words.{Text}
use Rattle.line_words.specs.Jobs.{IsJob}
use Rattle.line_words.specs.declared.job.Job.{Job}
use Rattle.command_outcome.specs.Outcome.{Files}
use Rattle.command_outcome.specs.declared.report.Kept.{Kept}
use Rattle.command_outcome.specs.declared.report.Report.{Report}
use Rattle.command_outcome.specs.declared.report.EarlyEnd.{EarlyEnd}
use Rattle.command_outcome.specs.declared.status.Status.{Status}
use Rattle.command_outcome.specs.declared.status.Status.TheVariants as ends
use Rattle.line_run.specs.Run.{meaning_of}

-- the run answers the question of its words: with status 0, or with status 1 where it stopped by units
abbrev pub IsAnswered : Status → Type 0
IsAnswered status = (status ≡ ends.Done) ⊎ (status ≡ ends.Stopped)

-- what a job promises of a status, a text and what is kept, with the files before and after it
abbrev pub PromisesOf : Files → Files → Job → Status → List ℕ → Kept → Type 0
PromisesOf files after job status text kept = (meaning_of job).promise files after status text kept

-- The headline of a run that answers: the words ask for a job, its whole text is put behind what was put before, and
-- what the job promises holds of that text, of the status, and of the certificate that is kept.
pub record IsHeadline (words : List Text) (files after : Files) (old new : List ℕ) (status : Status)
    (kept : Kept) : Type 0 where
  pub job : Job
  pub asked : IsJob words job
  pub text : List ℕ
  pub shown : new ≡ old ++ text
  pub promise : PromisesOf files after job status text kept

-- a job ended with a report of which this is true
abbrev pub Reports : (Report → Type 0) → Result Report EarlyEnd → Type 0
Reports P (Ok r) = P r
Reports P (Err stop) = ⊥

-- the report of a job has what the job promises
abbrev pub HasPromise : Files → Files → Job → Result Report EarlyEnd → Type 0
HasPromise files after job result = Reports (λ r. PromisesOf files after job r.status r.text.items r.kept) result

-- the words ask for a job whose report has what it promises
pub record AsksPromise (words : List Text) (files after : Files) (result : Result Report EarlyEnd) : Type 0 where
  pub job : Job
  pub asked : IsJob words job
  pub promise : HasPromise files after job result
