-- The certificate of a report is written to a file.
use Rattle.std.proofs.Common.{◌≡◌, ◌≢◌, ◌∙◌, ℕ, Bool, true, List, Option, Some, refl, ap, subst}
use Rattle.line_io.specs.Whole.{IsPrefixWritten}
use Rattle.command_outcome.specs.Outcome.{Files, Page, Outcome, Comes, IsCut, Stay, outcome_of, outside, told}
use Rattle.command_outcome.specs.Wrote.{wrote, written_line}
use Rattle.command_outcome.specs.declared.report.Kept.TheVariants.{Nothing}
use Rattle.command_outcome.specs.declared.report.Report.{Report}
use Rattle.command_outcome.specs.declared.status.Status.{Status}
use Rattle.command_outcome.specs.declared.status.Status.TheVariants as ends
use Rattle.command_outcome.proofs.OutcomeFacts.{told_as}

-- an outcome, with this page in place of its own
abbrev pub paged : Option Page → Outcome → Outcome
paged page out = record { status = out.status; text = out.text; page = page; kept = out.kept }

-- what a report of this status and text comes to with a page, where it keeps nothing
pub told_with : (page : Page) (r : Report) (status : Status) (text : List ℕ) → r.status ≡ status
    → r.text.items ≡ text → r.kept ≡ Nothing → outcome_of r (Some page) ≡ paged (Some page) (told status text)
told_with page r status text s t k = ap (paged (Some page)) (told_as r status text s t k)

-- what the report about a file that was written comes to
pub wrote_as : (r : Report) (name bytes : List ℕ) → r.status ≡ ends.Done → r.text.items ≡ written_line name
    → r.kept ≡ Nothing → outcome_of r (Some (record { name = name; bytes = bytes })) ≡ wrote name bytes
wrote_as r name bytes s t k =
    told_with (record { name = name; bytes = bytes }) r ends.Done (written_line name) s t k

-- A report that comes to P with a page of these bytes, of which as many are put into its file as could be.
module _ (P : Outcome → Type 0) (r : Report) (name bytes put : List ℕ) (files mid after : Files)
    (blames : List ℕ → Bool) where
  abbrev whole : Page
  whole = record { name = name; bytes = bytes }

  -- the page is written
  pub comes : P (outcome_of r (Some whole)) → put ≡ bytes → Stay files mid → after name ≡ Some put
      → ((q : List ℕ) → q ≢ name → after q ≡ mid q) → Comes (outside files blames) P after r
  comes reached is same written others = record {
    page = Some whole;
    reached = reached;
    written = (written ∙ ap (λ (x : List ℕ). Some x) is, λ q n. others q n ∙ same q);
  }

  -- the page could not be written
  pub cut : P (outcome_of r (Some whole)) → put ≡ bytes → Stay files mid → blames name ≡ true
      → IsPrefixWritten (mid name) put (after name) → ((q : List ℕ) → q ≢ name → after q ≡ mid q)
      → IsCut (outside files blames) P after
  cut reached is same blamed prefix others = record {
    outcome = outcome_of r (Some whole);
    reached = reached;
    page = whole;
    has = refl;
    blamed = blamed;
    cut =
        let B : List ℕ → Type 0 = λ x. IsPrefixWritten (mid name) x (after name) in
        let F : Option (List ℕ) → Type 0 = λ f. IsPrefixWritten f bytes (after name) in
        subst F (same name) (subst B is prefix);
    others = λ q n. others q n ∙ same q;
  }
