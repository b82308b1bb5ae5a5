-- The kinds of lines of a certificate, and which values they may say.
use Rattle.std.specs.Prelude.{◌≡◌, ℕ, suc, ◌-◌, ◌<◌, ◌≤◌, Bool, true, List, Option, Some, None, codes}
use Rattle.line_rules.specs.Ranges.{IsCycle, AreCites, IsEntry}
use Rattle.line_rules.specs.declared.types.Entry.{Entry}
use Rattle.line_rules.specs.declared.types.Why.{Why}
use Rattle.line_rules.specs.declared.types.Why.TheVariants as whys
use Rattle.line_rules.specs.declared.types.Ask.{Ask}
use Rattle.line_rules.specs.declared.types.Ask.TheVariants as ask
use Rattle.cert_lines.specs.Rows.{Row, fixed, keyed}
use Rattle.cert_lines.specs.ValueRows.{why_row}
use Rattle.cert_lines.specs.declared.draft.Draft.{Draft}
use Rattle.cert_lines.specs.declared.draft.DraftWhy.{DraftWhy}
use Rattle.cert_lines.specs.declared.draft.DraftWhy.TheVariants as drafts
use Rattle.cert_lines.specs.declared.draft.FrameDraft.{FrameDraft}
use Rattle.line_rules.specs.declared.types.OpenFrame.{OpenFrame}
use Rattle.cert_lines.specs.declared.line_forms.Key.{Key}
use Rattle.cert_lines.specs.declared.line_forms.Key.TheVariants as keys
use Rattle.cert_lines.specs.declared.line_forms.Opening.{Opening}
use Rattle.cert_lines.specs.declared.line_forms.Opening.TheVariants as opening
use Rattle.cert_lines.specs.declared.line_forms.Version.{Version}
use Rattle.cert_lines.specs.declared.line_forms.Version.TheVariants as version

-- the word of a key
abbrev pub key_text : Key → List ℕ
key_text keys.Tasks = codes "tasks"
key_text keys.Cycle = codes "cycle"
key_text keys.Stations = codes "stations"
key_text keys.Infeasible = codes "infeasible"
key_text keys.Lower = codes "lower"
key_text keys.Upper = codes "upper"
key_text keys.Balance = codes "balance"
key_text keys.Entries = codes "entries"
key_text keys.Parts = codes "parts"
key_text keys.Part = codes "part"
key_text keys.Trail = codes "trail"
key_text keys.Models = codes "models"
key_text keys.Units = codes "units"

-- the first line of a version
abbrev pub version_row : Version → Row
version_row version.One = fixed (codes "line balance certificate 1")
version_row version.Two = fixed (codes "line balance certificate 2")
version_row version.Three = fixed (codes "line balance certificate 3")

-- the line behind the question: a task, or a lower bound
abbrev pub opening_row : Opening → Row
opening_row (opening.TooLong task) = keyed (codes "infeasible") (suc task)
opening_row (opening.Lower lower) = keyed (codes "lower") lower

-- a task only where the question names a cycle
abbrev pub IsOpening : Ask → ℕ → Opening → Type 0
IsOpening (ask.Stations c) n (opening.TooLong task) = task < n
IsOpening (ask.Cycle m) n (opening.TooLong task) = ⊥
IsOpening a n (opening.Lower lower) = IsCycle lower

-- a trail's number of frames and its cycle
abbrev pub IsHead : Option (ℕ × ℕ) → Type 0
IsHead None = Unit {0}
IsHead (Some t) = (1 ≤ t.0) × (t.0 ≤ 1024) × IsCycle t.1

-- numbers of the line of an entry within their ranges; tasks are counted from 1, and a set has none past the last task
abbrev pub IsWhyWithin : ℕ → ℕ → DraftWhy → Type 0
IsWhyWithin n count drafts.Bound = Unit {0}
IsWhyWithin n count (drafts.Branch mode cites) = AreCites count cites
IsWhyWithin n count (drafts.Swap cite out into) = (cite < count) × ((1 ≤ out) × (out ≤ n)) × ((1 ≤ into) × (into ≤ n))
IsWhyWithin n count (drafts.Pairs two) = Unit {0}

pub record IsWithin (n count : ℕ) (d : Draft) : Type 0 where
  pub cycle : IsCycle d.cycle
  pub most : d.most ≤ 1024
  pub why : IsWhyWithin n count d.why

-- the entry of a line
abbrev pub why_of : DraftWhy → Why
why_of drafts.Bound = whys.Bound
why_of (drafts.Branch mode cites) = whys.Branch mode cites
why_of (drafts.Swap cite out into) = whys.Swap cite (out - 1) (into - 1)
why_of (drafts.Pairs two) = whys.Pairs two

abbrev pub entry_of : Draft → Entry
entry_of d = record { set = d.set; most = d.most; cycle = d.cycle; why = why_of d.why }

-- numbers of the line of a frame within their ranges
pub record IsFrameWithin (count : ℕ) (d : FrameDraft) : Type 0 where
  pub most : d.most ≤ 1024
  pub cites : AreCites count d.cites

-- the frame of a line
abbrev pub frame_of : FrameDraft → OpenFrame
frame_of d = record { set = d.set; most = d.most; mode = d.mode; last = d.last; cites = d.cites }

-- the cycle that the line of an entry has, where none is given
abbrev pub written : Option ℕ → ℕ → Option ℕ
written None c = Some c
written (Some g) c = None

-- the cycle of an entry is the one that is given
abbrev pub IsGiven : Option ℕ → ℕ → Type 0
IsGiven None c = Unit {0}
IsGiven (Some g) c = c ≡ g

-- a reason that may stand in a text: one by pairs only where the text may have such entries. Own.
abbrev pub MayStand : Bool → Why → Type 0
MayStand pairs whys.Bound = Unit {0}
MayStand pairs (whys.Branch mode cites) = Unit {0}
MayStand pairs (whys.Swap cite out into) = Unit {0}
MayStand pairs (whys.Pairs two) = pairs ≡ true

-- an entry that a line may say, of a text with entries by pairs or without
abbrev pub IsSaid : ℕ → ℕ → Option ℕ → Bool → Entry → Type 0
IsSaid n count g pairs e = IsEntry n count e × IsGiven g e.cycle × MayStand pairs e.why

-- the line of an entry, whose cycle may be given
abbrev pub given_row : ℕ → Option ℕ → Entry → Row
given_row n g e = why_row n (written g e.cycle) e e.why

-- a given cycle is within its range
abbrev pub IsGivenCycle : Option ℕ → Type 0
IsGivenCycle None = Unit {0}
IsGivenCycle (Some g) = IsCycle g
