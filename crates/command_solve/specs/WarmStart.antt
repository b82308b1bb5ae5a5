-- What the search of a run begins with: the old entries that a file says, why it says none, and which of them the run
-- keeps; what a first search adds; and the lemmas of a seek.
use Rattle.std.specs.Prelude.{◌≤◌, ◌≡◌, ◌≢◌, ◌⊎◌, ℕ, zero, suc, max, ◌-◌, ◌*◌, List, [], length, ◌++◌, Option, Some, None}
use Rattle.std.specs.Prelude.{codes, decimal}
use Rattle.line_instance.specs.Line.{Line, tasks}
use Rattle.line_rules.specs.Ranked.{IsRankedBalance}
use Rattle.line_rules.specs.declared.types.LineKind.{LineKind}
use Rattle.line_rules.specs.declared.types.Balance.{Balance as Assignment}
use Rattle.line_rules.specs.declared.types.Entry.{Entry}
use Rattle.line_rules.specs.declared.types.Claim.{Claim}
use Rattle.line_rules.specs.declared.types.Claim.TheVariants as claim
use Rattle.line_rules.specs.declared.types.Certificate.{Certificate}
use Rattle.lemma_core.specs.Books.{BookView}
use Rattle.warm_book.specs.Warm.{Taking, TakesAll, untaken}
use Rattle.command_outcome.specs.Bounds.{seek_line}
use Rattle.line_seek.specs.Seeking.{HasSought}
use Rattle.command_solve.specs.Effort.{SearchesFirst, first_room}
use Rattle.command_solve.specs.declared.effort.Effort.{Effort}
use Rattle.round_run.specs.declared.plans.Plan.{Plan}
use Rattle.command_outcome.specs.Outcome.{Files, Outside, Outcome, told}
use Rattle.command_outcome.specs.declared.status.Status.TheVariants as ends
use Rattle.input_files.specs.Certificate.{IsCertificateOf, IsNoCertificate}

-- the entries of a claim; none where it says that there is no balance
abbrev pub entries_of : Claim → List Entry
entries_of (claim.TooLong task) = []
entries_of (claim.Bounds lower upper b es trail) = es

-- a certificate that a run over the line may begin with: it is of as many tasks, and of the kind; the old entries are
-- its
pub record IsOldOf (kind : LineKind) (line : Line) (cert : Certificate) (old : List Entry) : Type 0 where
  pub as_many : cert.tasks ≡ tasks line
  pub same_kind : cert.kind ≡ kind
  pub entries : old ≡ entries_of cert.claim

-- the line about a certificate of another number of tasks
abbrev pub tasks_line : ℕ → ℕ → List ℕ
tasks_line said real = codes "refused: tasks " ++ decimal said ++ codes " " ++ decimal real ++ codes "\n"

-- the line about a certificate of another kind of line
abbrev pub kind_line : List ℕ
kind_line = codes "refused: kind\n"

-- a run over the line may not begin with the certificate: it is of another number of tasks; else of another kind
abbrev pub IsOther : LineKind → Line → Certificate → Outcome → Type 0
IsOther kind line cert out =
    ((cert.tasks ≢ tasks line) × (out ≡ told ends.Refused (tasks_line cert.tasks (tasks line))))
    ⊎ ((cert.tasks ≡ tasks line) × (cert.kind ≢ kind) × (out ≡ told ends.Refused kind_line))

-- the old entries are those of the certificate that the file says, where there is one
abbrev pub AreOld : Files → Option (List ℕ) → LineKind → Line → Option (List Entry) → Type 0
AreOld files None kind line olds = olds ≡ None
AreOld files (Some name) kind line olds =
    (cert : Certificate) × (old : List Entry)
    × (IsCertificateOf files name cert × IsOldOf kind line cert old × (olds ≡ Some old))

-- the file says no certificate, or none that a run over the line may begin with
abbrev pub IsUnwarmed : Outside → Option (List ℕ) → LineKind → Line → Outcome → Type 0
IsUnwarmed o None kind line out = ⊥
IsUnwarmed o (Some name) kind line out =
    IsNoCertificate o name out
    ⊎ ((cert : Certificate) × (IsCertificateOf o.files name cert × IsOther kind line cert out))

-- the room for old entries, and for their units, of a run with so many units of its own
abbrev pub old_room : ℕ → ℕ
old_room N = 6000000 - 2 * N

-- the line that says how many of the old entries were kept
abbrev pub warm_line : ℕ → ℕ → List ℕ
warm_line kept all = codes "warm " ++ decimal kept ++ codes " of " ++ decimal all ++ codes "\n"

-- with what a run begins: old entries, where there are any, and what it spends before its search
pub record Start : Type 0 where
  pub olds : Option (List Entry)
  pub effort : Effort

-- an empty book about the line, with the ranked balance
pub record IsOpened (kind : LineKind) (line : Line) (c : ℕ) (book : BookView) : Type 0 where
  pub best : Assignment
  pub ranked : IsRankedBalance kind line c best
  pub about : book.about ≡ record { line = line; kind = kind; cycle = c }
  pub state : book.state ≡ record { entries = []; best = best }

-- the book takes in the old entries, where there are any, and this line says how many were kept
abbrev pub TakesOld : ℕ → BookView → Option (List Entry) → Taking → List ℕ → Type 0
TakesOld N book None end said = (end ≡ untaken book) × (said ≡ [])
TakesOld N book (Some old) end said =
    TakesAll (old_room N) (untaken book) old end × (said ≡ warm_line end.kept (length old))

-- the room for the lemmas of a seek, and for their units: what the kept old entries and their units leave, less the
-- most entries that a first search of so many units adds
abbrev pub seek_room : ℕ → ℕ → Taking → ℕ
seek_room N first at = old_room N - max at.kept at.units - first_room first

-- A book takes in the lemmas of a seek over it, as many as there is room for, and this line says how many were kept.
-- The number of stations is at most that of the balance of the seek.
pub record TakesSought (room limit : ℕ) (book : BookView) (end : Taking) (said : List ℕ) (top : ℕ) : Type 0 where
  pub best : Assignment
  pub offered : top ≤ best.stations
  pub lemmas : List Entry
  pub used : ℕ
  pub sought : HasSought book limit best lemmas used
  pub taken : TakesAll room (untaken book) lemmas end
  pub said_so : said ≡ seek_line used limit end.kept

-- the same where there is a seek; else the book stays, and there is no line
abbrev pub Seeks : ℕ → ℕ → BookView → Taking → List ℕ → ℕ → Type 0
Seeks room zero book end said top = (end ≡ untaken book) × (said ≡ [])
Seeks room (suc loads) book end said top = TakesSought room (suc loads) book end said top

-- The entries with which the search of a run begins, the first lines of its text, and a number of stations. The entries
-- are those that an empty book with the ranked balance has after it took in the old entries, went through a first
-- search, and took in the lemmas of a seek. The number is at most that of the ranked balance, at most that of the best
-- balance of the first search, and at most that of a right balance that the seek names.
pub record BeginsWith (kind : LineKind) (line : Line) (c : ℕ) (plan : Plan) (start : Start) (before : List Entry)
    (first : List ℕ) (top : ℕ) : Type 0 where
  pub book : BookView
  pub opened : IsOpened kind line c book
  pub ranked : top ≤ opened.best.stations
  pub at : Taking
  pub warm_said : List ℕ
  pub took : TakesOld plan.units book start.olds at warm_said
  pub mid : BookView
  pub searches : SearchesFirst kind line c start.effort.first plan at.book mid
  pub better : top ≤ mid.state.best.stations
  pub end : Taking
  pub seek_said : List ℕ
  pub seeks : Seeks (seek_room plan.units start.effort.first at) start.effort.seek mid end seek_said top
  pub entries : end.book.state.entries ≡ before
  pub said : first ≡ warm_said ++ seek_said
