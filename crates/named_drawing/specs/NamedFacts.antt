-- What is true of a picture with names: each task has its entry in the list, and its label or a place in a note.
use Rattle.std.specs.Prelude.{◌≡◌, ℕ, ◌+◌, ◌*◌, ◌<◌, ◌≤◌, true, false, List, ◌++◌, length, slice_get, decimal, Some}
use Rattle.task_names.specs.TaskNames.{name_at}
use Rattle.line_instance.specs.Line.{Line, tasks}
use Rattle.line_rules.specs.Accepted.{upper_cycle}
use Rattle.line_rules.specs.declared.types.Seatplace.{Seatplace}
use Rattle.line_rules.specs.declared.types.Ask.{Ask}
use Rattle.line_rules.specs.declared.types.Claim.{Claim}
use Rattle.line_rules.specs.declared.types.Claim.TheVariants.{TooLong, Bounds}
use Rattle.line_rules.specs.declared.types.Certificate.{Certificate}
use Rattle.line_drawing.specs.Parts.{text_of}
use Rattle.line_drawing.specs.Notes.{number_of}
use Rattle.line_drawing.specs.Segments.{segments_at}
use Rattle.line_drawing.specs.Rows.{margin_text}
use Rattle.line_drawing.specs.declared.figures.Figures.{Figures}
use Rattle.line_drawing.specs.declared.segments.Segment.{Segment}
use Rattle.named_drawing.specs.Widths.{fits, is_blank_at, part_before, part_behind, wider_part}
use Rattle.named_drawing.specs.Labels.{label_of, named_note, unlabelled}
use Rattle.named_drawing.specs.NamedRows.{labels_text}
use Rattle.named_drawing.specs.TaskList.{entry_of}
use Rattle.named_drawing.specs.NamedDrawing.{named_drawing_text}
use Rattle.named_drawing.specs.declared.labels.Label.{Label}
use Rattle.named_drawing.specs.declared.labels.Label.TheVariants.{Name, Parts, Number, Nothing}
use Rattle.named_drawing.specs.declared.page.Page.{Page}

-- a text has a list with one entry for each task, in their order, and no other entry; no two entries are the same
pub record HasList (line : Line) (names : List (List ℕ)) (places : List Seatplace) (text : List ℕ) : Type 0 where
  pub page : Page
  pub before : List ℕ
  pub entries : List (List ℕ)
  pub behind : List ℕ
  pub whole : text ≡ before ++ text_of entries ++ behind
  pub many : length entries ≡ tasks line
  pub each : (i : ℕ) → i < tasks line → slice_get entries i ≡ Some (entry_of line page names places i)
  pub once : (i j : ℕ) → i < tasks line → j < tasks line
      → entry_of line page names places i ≡ entry_of line page names places j → i ≡ j

-- the picture of what is claimed has such a list
abbrev pub ListsOfClaim : Line → List (List ℕ) → Claim → List ℕ → Type 0
ListsOfClaim line names (TooLong task) text = Unit {0}
ListsOfClaim line names (Bounds lower upper b es trail) text = HasList line names b.place text

-- The picture has one entry for each task, with its name, its time and its station.
abbrev pub ListsEachTask : Line → List (List ℕ) → Certificate → Type 0
ListsEachTask line names cert = ListsOfClaim line names cert.claim (named_drawing_text line names cert)

-- a blank of a name, around which the wider part is least wide, and the first of such
pub record IsBestBlank (name : List ℕ) (at : ℕ) : Type 0 where
  pub within : at < length name
  pub blank : is_blank_at name at ≡ true
  pub least : (j : ℕ) → j < length name → is_blank_at name j ≡ true → wider_part name at ≤ wider_part name j
  pub first : (j : ℕ) → j < at → is_blank_at name j ≡ true → wider_part name at < wider_part name j

-- a name does not fit as a whole, but in its two parts around the best of its blanks
pub record ArePartsThatFit (name : List ℕ) (room at : ℕ) : Type 0 where
  pub too_wide : fits room name ≡ false
  pub best : IsBestBlank name at
  pub before : fits room (part_before name at) ≡ true
  pub behind : fits room (part_behind name at) ≡ true

-- a name does not fit, but the number of its task does: it has 8 for each digit, and 2
pub record IsNumberThatFits (name : List ℕ) (s : Segment) : Type 0 where
  pub too_wide : fits s.width name ≡ false
  pub fits : 8 * length (decimal (number_of s)) + 2 ≤ s.width

-- a label says what fits; a task without a label is one of those that the station's note is of
abbrev pub IsLabel : List (List ℕ) → List Segment → Segment → Label → Type 0
IsLabel names segments s Name = fits s.width (name_at names s.task) ≡ true
IsLabel names segments s (Parts at) = ArePartsThatFit (name_at names s.task) s.width at
IsLabel names segments s Number = IsNumberThatFits (name_at names s.task) s
IsLabel names segments s Nothing = (p : ℕ) × (slice_get (unlabelled names segments) p ≡ Some (number_of s))

-- a text stands in another one
abbrev pub StandsIn : List ℕ → List ℕ → Type 0
StandsIn part text = (before : List ℕ) × ((behind : List ℕ) × (text ≡ before ++ part ++ behind))

-- the labels and the note of each station stand in a text, and each segment's label says what fits
pub record HasLabels (line : Line) (names : List (List ℕ)) (cycle : ℕ) (places : List Seatplace)
    (stations : ℕ) (text : List ℕ) : Type 0 where
  pub figures : Figures
  pub drawn : (k : ℕ) → 1 ≤ k → k ≤ stations → StandsIn (labels_text names (segments_at line cycle places k)) text
  pub noted : (k : ℕ) → 1 ≤ k → k ≤ stations
      → StandsIn (margin_text figures (named_note names (segments_at line cycle places k))) text
  pub each : (k p : ℕ) (s : Segment) → slice_get (segments_at line cycle places k) p ≡ Some s
      → IsLabel names (segments_at line cycle places k) s (label_of (name_at names s.task) s)

-- the picture of what is claimed has such labels
abbrev pub LabelsOfClaim : Line → List (List ℕ) → Ask → Claim → List ℕ → Type 0
LabelsOfClaim line names a (TooLong task) text = Unit {0}
LabelsOfClaim line names a (Bounds lower upper b es trail) text = HasLabels line names (upper_cycle a upper) b.place
    b.stations text

-- Each task has its name in its segment, or its number where no name fits, or is noted beside the row.
abbrev pub LabelsEachTask : Line → List (List ℕ) → Certificate → Type 0
LabelsEachTask line names cert = LabelsOfClaim line names cert.ask cert.claim (named_drawing_text line names cert)
