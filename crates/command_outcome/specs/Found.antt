-- What a search comes to that is asked by words: one shape for every command that searches (own).
use Rattle.std.specs.Prelude.{◌≡◌, ◌⊎◌, ℕ, ◌<◌, List, Option, Some, None}
use Rattle.command_outcome.specs.Bounds.{cut_short_text}
use Rattle.command_outcome.specs.Outcome.{Files, Page, Outcome, told}
use Rattle.command_outcome.specs.declared.report.Kept.{Kept}
use Rattle.command_outcome.specs.declared.status.Status.{Status}
use Rattle.command_outcome.specs.declared.status.Status.TheVariants as ends

-- A search that answers by certificates of one kind: the kind, how such a certificate is kept, and its text; what is so
-- of it and of the printed text where the question is solved, and where the search stopped; and what is so of a lower
-- and an upper bound where memory cut it short.
pub record Search : Type 1 where
  pub Cert : Type 0
  pub keep : Cert → Kept
  pub tell : Cert → List ℕ
  pub Solved : Cert → List ℕ → Type 0
  pub Stopped : Cert → List ℕ → Type 0
  pub Bounds : ℕ → ℕ → Type 0

-- What a search found: a certificate, which is kept. The question is solved, or the search stopped, as the status says.
pub record IsFound (s : Search) (status : Status) (text : List ℕ) (kept : Kept) : Type 0 where
  pub certificate : s.Cert
  pub keeps : kept ≡ s.keep certificate
  pub answer : ((status ≡ ends.Done) × s.Solved certificate text)
      ⊎ ((status ≡ ends.Stopped) × s.Stopped certificate text)

-- the page that the words ask for: this text, in the file that they name, where they name one
abbrev pub page_of : Option (List ℕ) → List ℕ → Option Page
page_of None text = None
page_of (Some name) text = Some (record { name = name; bytes = text })

-- the file that the words name, where they name one, has this text
abbrev pub HasText : Option (List ℕ) → Files → List ℕ → Type 0
HasText None after text = Unit {0}
HasText (Some name) after text = after name ≡ Some text

-- the outcome of a search that found something: its page is the text of the certificate, where the words name a file
pub record IsReported (s : Search) (name : Option (List ℕ)) (out : Outcome) : Type 0 where
  pub found : IsFound s out.status out.text out.kept
  pub page : out.page ≡ page_of name (s.tell found.certificate)

-- the outcome of a search that memory cut short: the bounds that are printed differ, and are the search's
pub record IsCutShort (s : Search) (out : Outcome) : Type 0 where
  pub lower : ℕ
  pub upper : ℕ
  pub below : lower < upper
  pub bounds : s.Bounds lower upper
  pub shown : out ≡ told ends.Memory (cut_short_text lower upper)

-- what a search comes to
abbrev pub IsAnswer : Search → Option (List ℕ) → Outcome → Type 0
IsAnswer s name out = IsReported s name out ⊎ IsCutShort s out

-- What a search promises that answered with status 0 or 1: what was found, and its certificate in the file that the
-- words name.
pub record IsFiled (s : Search) (name : Option (List ℕ)) (after : Files) (status : Status) (text : List ℕ) (kept : Kept)
    : Type 0 where
  pub found : IsFound s status text kept
  pub written : HasText name after (s.tell found.certificate)

-- a search with a certificate is done, or it stopped
abbrev pub IsSearchStatus : Status → Type 0
IsSearchStatus status = (status ≡ ends.Done) ⊎ (status ≡ ends.Stopped)
