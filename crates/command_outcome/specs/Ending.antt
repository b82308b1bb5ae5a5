-- How a run ends that comes to an outcome: done, or cut short by the output or by the file that it writes.
use Rattle.std.specs.Prelude.{◌≡◌, ◌≢◌, ◌⊎◌, ℕ, true, List, ◌++◌, take, Some}
use Rattle.line_io.specs.Outside.{Rises}
use Rattle.line_io.specs.Whole.{IsPrefixWritten}
use Rattle.command_outcome.specs.Outcome.{Files, Outside, Page, Outcome, IsWritten}
use Rattle.command_outcome.specs.declared.report.Kept.{Kept}
use Rattle.command_outcome.specs.declared.report.Kept.TheVariants.{Nothing}
use Rattle.command_outcome.specs.declared.status.Status.{Status}
use Rattle.command_outcome.specs.declared.status.Status.TheVariants as ends

-- What a run leaves: its status; the files; the certificate that it keeps; what was put before it and after it; and how
-- often the output had failed before it and after it.
pub record Ending : Type 0 where
  pub status : Status
  pub files : Files
  pub kept : Kept
  pub shown_before : List ℕ
  pub shown : List ℕ
  pub faults_before : ℕ
  pub faults : ℕ

-- The run came to an outcome that P is true of: the status is that of the outcome, its whole text is put behind what
-- was put before, its page is written, and its certificate is kept.
pub record IsDone (o : Outside) (P : Outcome → Type 0) (e : Ending) : Type 0 where
  pub outcome : Outcome
  pub reached : P outcome
  pub status : e.status ≡ outcome.status
  pub shown : e.shown ≡ e.shown_before ++ outcome.text
  pub written : IsWritten o.files outcome.page e.files
  pub kept : e.kept ≡ outcome.kept

-- The output failed: its faults rose, a prefix of the outcome's text is put, its page is written, and nothing is kept.
pub record IsTorn (o : Outside) (P : Outcome → Type 0) (e : Ending) : Type 0 where
  pub outcome : Outcome
  pub reached : P outcome
  pub status : e.status ≡ ends.WriteFault
  pub failed : Rises e.faults_before e.faults
  pub long : ℕ
  pub shown : e.shown ≡ e.shown_before ++ take long outcome.text
  pub written : IsWritten o.files outcome.page e.files
  pub kept : e.kept ≡ Nothing

-- The page could not be written: the last call that failed was on its file, which is as before or has a prefix of the
-- page's bytes; the other files stay, nothing is put, and nothing is kept.
pub record IsUnwritten (o : Outside) (P : Outcome → Type 0) (e : Ending) : Type 0 where
  pub outcome : Outcome
  pub reached : P outcome
  pub status : e.status ≡ ends.WriteFault
  pub page : Page
  pub has : outcome.page ≡ Some page
  pub blamed : o.blames page.name ≡ true
  pub cut : IsPrefixWritten (o.files page.name) page.bytes (e.files page.name)
  pub others : (q : List ℕ) → q ≢ page.name → e.files q ≡ o.files q
  pub shown : e.shown ≡ e.shown_before
  pub kept : e.kept ≡ Nothing

-- how a run ends that comes to an outcome which P is true of
abbrev pub IsEnding : Outside → (Outcome → Type 0) → Ending → Type 0
IsEnding o P e = IsDone o P e ⊎ IsTorn o P e ⊎ IsUnwritten o P e
