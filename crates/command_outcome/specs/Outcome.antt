-- What a command comes to, over the outside as it stands.
use Rattle.std.specs.Prelude.{◌≡◌, ◌≢◌, ℕ, Bool, true, List, Option, Some, None}
use Rattle.std.specs.declared.result.Result.{Result}
use Rattle.std.specs.declared.result.Result.TheVariants.{Ok, Err}
use Rattle.line_io.specs.Whole.{IsPrefixWritten}
use Rattle.command_outcome.specs.declared.report.Kept.{Kept}
use Rattle.command_outcome.specs.declared.report.Kept.TheVariants.{Nothing}
use Rattle.command_outcome.specs.declared.report.Report.{Report}
use Rattle.command_outcome.specs.declared.report.EarlyEnd.{EarlyEnd}
use Rattle.command_outcome.specs.declared.report.EarlyEnd.TheVariants as stop
use Rattle.command_outcome.specs.declared.status.Status.{Status}
use Rattle.command_outcome.specs.declared.status.Status.TheVariants as ends

-- files by their names
abbrev pub Files : Type 0
Files = List ℕ → Option (List ℕ)

-- The outside of a run: the files as they stood before it; and of each name, whether the last call that failed was on
-- its file.
pub record Outside : Type 0 where
  pub files : Files
  pub blames : List ℕ → Bool

-- a file that is written: its name, and its bytes
pub record Page : Type 0 where
  pub name : List ℕ
  pub bytes : List ℕ

-- what a command comes to: a status, the text that is put, the page that is written, where there is one, and the
-- certificate that is kept, where there is one
pub record Outcome : Type 0 where
  pub status : Status
  pub text : List ℕ
  pub page : Option Page
  pub kept : Kept

-- a status and a text, no page, and nothing kept
abbrev pub told : Status → List ℕ → Outcome
told status text = record { status = status; text = text; page = None; kept = Nothing }

-- what a report with a page, or with none, comes to
abbrev pub outcome_of : Report → Option Page → Outcome
outcome_of r page = record { status = r.status; text = r.text.items; page = page; kept = r.kept }

-- all files stay
abbrev pub Stay : Files → Files → Type 0
Stay files after = (q : List ℕ) → after q ≡ files q

-- the file of the page has its bytes, and the other files stay
abbrev pub IsWritten : Files → Option Page → Files → Type 0
IsWritten files None after = Stay files after
IsWritten files (Some page) after = (after page.name ≡ Some page.bytes)
    × ((q : List ℕ) → q ≢ page.name → after q ≡ files q)

-- A command that P is true of comes to this report, and the page is written.
pub record Comes (o : Outside) (P : Outcome → Type 0) (after : Files) (r : Report) : Type 0 where
  pub page : Option Page
  pub reached : P (outcome_of r page)
  pub written : IsWritten o.files page after

-- A command that P is true of could not write its page: the last call that failed was on that file, which is as before
-- or has a prefix of the page's bytes, and the other files stay.
pub record IsCut (o : Outside) (P : Outcome → Type 0) (after : Files) : Type 0 where
  pub outcome : Outcome
  pub reached : P outcome
  pub page : Page
  pub has : outcome.page ≡ Some page
  pub blamed : o.blames page.name ≡ true
  pub cut : IsPrefixWritten (o.files page.name) page.bytes (after page.name)
  pub others : (q : List ℕ) → q ≢ page.name → after q ≡ o.files q

-- What a command ended with: a report that P is true of; its page could not be written; or out of memory, and all files
-- stay.
abbrev pub Ends : Outside → (Outcome → Type 0) → Files → Result Report EarlyEnd → Type 0
Ends o P after (Ok r) = Comes o P after r
Ends o P after (Err (stop.Report r)) = Comes o P after r
Ends o P after (Err stop.Memory) = Stay o.files after
Ends o P after (Err stop.Unwritten) = IsCut o P after

-- Why a file could not be taken in: a refusal that Q is true of, which writes no page; or out of memory.
abbrev pub Stops : (Outcome → Type 0) → EarlyEnd → Type 0
Stops Q (stop.Report r) = Q (outcome_of r None)
Stops Q stop.Memory = Unit {0}
Stops Q stop.Unwritten = ⊥

-- A refusal of the input: its status is Input, ReadFault or Refused, and ReadFault only where R; nothing is kept.
pub record IsRefusal (R : Type 0) (r : Report) : Type 0 where
  pub read : r.status ≡ ends.ReadFault → R
  pub write : r.status ≢ ends.WriteFault
  pub usage : r.status ≢ ends.Usage
  pub done : r.status ≢ ends.Done
  pub stopped : r.status ≢ ends.Stopped
  pub kept : r.kept ≡ Nothing

-- the same of what stopped
abbrev pub MayStop : Type 0 → EarlyEnd → Type 0
MayStop R (stop.Report r) = IsRefusal R r
MayStop R stop.Memory = Unit {0}
MayStop R stop.Unwritten = ⊥

-- the outside of these files and this blame
abbrev pub outside : Files → (List ℕ → Bool) → Outside
outside files blames = record { files = files; blames = blames }

-- the same of a command that writes a file: it couldn't be written only where W
abbrev pub MayEnd : Type 0 → Type 0 → EarlyEnd → Type 0
MayEnd R W (stop.Report r) = IsRefusal R r
MayEnd R W stop.Memory = Unit {0}
MayEnd R W stop.Unwritten = W
