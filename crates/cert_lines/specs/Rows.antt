-- The lines of a certificate: what may stand in a line, and how it is written.
use Rattle.std.specs.Prelude.{ℕ, Bool, true, false, List, [], ◌∷◌, ◌++◌, Option, Some, None, codes, length}
use Rattle.std.specs.List.{flat_map}
use Rattle.line_rules.specs.declared.types.LineKind.{LineKind}
use Rattle.line_rules.specs.declared.types.LineKind.TheVariants.{Straight, U}
use Rattle.line_rules.specs.declared.types.Side.{Side}
use Rattle.line_rules.specs.declared.types.Side.TheVariants.{Front, Back as AtBack}
use Rattle.line_rules.specs.declared.types.Mode.{Mode}
use Rattle.line_rules.specs.declared.types.Load.{Load}
use Rattle.cert_lines.specs.Numbers.{number_text, set_text, cites_text, mode_letter, last_text}

-- What a line says, its numbers as they are written and of any size: a fixed text; a word and a number; a word and two
-- numbers; a station, and a side on a U-line; an entry over so many tasks, with its cycle or without, of which one by
-- pairs ends with the set of the tasks that count twice; the head of a trail, its number of frames and its cycle where
-- it has frames; a frame; an entry of a state, what is left and the starts, with its least value, and its cites where
-- it branches; a frame of a state, with its need, its last model where it has one, and its cites; an entry of rows, with
-- its base and its cites; a word and numbers.
pub data Row : Type 0 where
  fixed : List ℕ → Row
  keyed : List ℕ → ℕ → Row
  span : List ℕ → ℕ → ℕ → Row
  seat : LineKind → ℕ → Side → Row
  bound : ℕ → Option ℕ → List Bool → ℕ → Row
  branch : ℕ → Option ℕ → Mode → List Bool → ℕ → List ℕ → Row
  swap : ℕ → Option ℕ → List Bool → ℕ → ℕ → ℕ → ℕ → Row
  pairs : ℕ → Option ℕ → List Bool → ℕ → List Bool → Row
  trail : Option (ℕ × ℕ) → Row
  frame : ℕ → Mode → List Bool → ℕ → Option Load → List ℕ → Row
  state_entry : List ℕ → List ℕ → ℕ → Option (List ℕ) → Row
  state_frame : List ℕ → List ℕ → ℕ → Option ℕ → List ℕ → Row
  row_entry : List ℕ → List ℕ → ℕ → List ℕ → Row
  joined : List ℕ → List ℕ → Row

-- the form of a line: a fixed text, a word before a number, a word before two, a place on such a line, an entry over so
-- many tasks and one by pairs, which not each text may have, the head of a trail, a frame over so many tasks, an entry
-- or a frame of a state of so many models and so many stations, an entry of rows with so many numbers of units and so
-- many stations, a word before so many numbers
pub data Form : Type 0 where
  text : List ℕ → Form
  number : List ℕ → Form
  two_numbers : List ℕ → Form
  place : LineKind → Form
  entry : ℕ → Bool → Form
  entry_by_pairs : ℕ → Bool → Form
  head : Form
  open_frame : ℕ → Form
  entry_of_state : ℕ → ℕ → Form
  frame_of_state : ℕ → ℕ → Form
  entry_of_rows : ℕ → ℕ → Form
  many_numbers : List ℕ → ℕ → Form

-- whether a cycle is given
abbrev pub given : Option ℕ → Bool
given None = false
given (Some c) = true

-- the form of what a line says
abbrev pub form_of : Row → Form
form_of (fixed t) = text t
form_of (keyed key v) = number key
form_of (span key v w) = two_numbers key
form_of (seat kind station side) = place kind
form_of (bound n c s m) = entry n (given c)
form_of (branch n c mode s m cites) = entry n (given c)
form_of (swap n c s m cite out into) = entry n (given c)
form_of (pairs n c s m two) = entry_by_pairs n (given c)
form_of (trail t) = head
form_of (frame n mode s m last cites) = open_frame n
form_of (state_entry rem starts least cites) = entry_of_state (length rem) (length starts)
form_of (state_frame rem starts need last cites) = frame_of_state (length rem) (length starts)
form_of (row_entry units starts base cites) = entry_of_rows (length units) (length starts)
form_of (joined key ns) = many_numbers key (length ns)

-- the words with one blank between
abbrev pub spaced : List (List ℕ) → List ℕ
spaced [] = []
spaced (w ∷ []) = w
spaced (w ∷ v ∷ ws) = w ++ 32 ∷ spaced (v ∷ ws)

-- the word of a cycle, where there is one
abbrev pub cycle_word : Option ℕ → List (List ℕ)
cycle_word None = []
cycle_word (Some c) = number_text c ∷ []

-- the words of a place
abbrev pub seat_words : LineKind → ℕ → Side → List (List ℕ)
seat_words Straight station side = number_text station ∷ []
seat_words U station Front = number_text station ∷ codes "f" ∷ []
seat_words U station AtBack = number_text station ∷ codes "b" ∷ []

-- the words of the head of a trail
abbrev pub trail_words : Option (ℕ × ℕ) → List (List ℕ)
trail_words None = codes "trail" ∷ codes "0" ∷ []
trail_words (Some t) = codes "trail" ∷ number_text t.0 ∷ codes "at" ∷ number_text t.1 ∷ []

-- the words of an entry of a state: numbers that are joined are written as cites are
abbrev pub state_words : List ℕ → List ℕ → ℕ → Option (List ℕ) → List (List ℕ)
state_words rem starts least None = codes "bound" ∷ cites_text rem ∷ cites_text starts ∷ number_text least ∷ []
state_words rem starts least (Some cites) =
    codes "branch" ∷ cites_text rem ∷ cites_text starts ∷ number_text least ∷ cites_text cites ∷ []

-- a number where there is one, else `-`
abbrev pub number_or_none : Option ℕ → List ℕ
number_or_none None = 45 ∷ []
number_or_none (Some n) = number_text n

-- the text of a line
unfoldable pub row_text : Row → List ℕ
row_text (fixed t) = t
row_text (keyed key v) = spaced (key ∷ number_text v ∷ [])
row_text (span key v w) = spaced (key ∷ number_text v ∷ number_text w ∷ [])
row_text (seat kind station side) = spaced (seat_words kind station side)
row_text (bound n c s m) = spaced (codes "bound" ∷ cycle_word c ++ (set_text n s ∷ number_text m ∷ []))
row_text (branch n c mode s m cites) =
    spaced (codes "branch" ∷ (mode_letter mode ∷ []) ∷ cycle_word c
    ++ (set_text n s ∷ number_text m ∷ cites_text cites ∷ []))
row_text (swap n c s m cite out into) =
    spaced (codes "swap" ∷ cycle_word c ++ (set_text n s ∷ number_text m ∷ number_text cite ∷ number_text
    out ∷ number_text into ∷ []))
row_text (pairs n c s m two) =
    spaced (codes "pairs" ∷ cycle_word c ++ (set_text n s ∷ number_text m ∷ set_text n two ∷ []))
row_text (trail t) = spaced (trail_words t)
row_text (frame n mode s m last cites) =
    spaced (codes "open" ∷ (mode_letter mode ∷ []) ∷ set_text n s ∷ number_text m ∷ last_text n mode last ∷ cites_text
    cites ∷ [])
row_text (state_entry rem starts least cites) = spaced (state_words rem starts least cites)
row_text (state_frame rem starts need last cites) =
    spaced (codes "open" ∷ cites_text rem ∷ cites_text starts ∷ number_text need ∷ number_or_none last ∷ cites_text
    cites ∷ [])
row_text (row_entry units starts base cites) =
    spaced (codes "charge" ∷ cites_text units ∷ cites_text starts ∷ number_text base ∷ cites_text cites ∷ [])
row_text (joined key ns) = spaced (key ∷ cites_text ns ∷ [])

-- the text of lines, each with an LF at its end
abbrev pub lines_text : List (List ℕ) → List ℕ
lines_text lines = flat_map (λ l. l ++ 10 ∷ []) lines

-- a line with its LF
abbrev pub line_text : Row → List ℕ
line_text r = row_text r ++ 10 ∷ []

abbrev pub rows_text : List Row → List ℕ
rows_text rows = flat_map line_text rows
