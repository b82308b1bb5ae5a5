-- The rows of stations are written of some content.
use Rattle.std.proofs.Common.{ℕ, ◌+◌, ◌-◌, ◌*◌, cond, nat_eq, nat_lt, List, [], ◌∷◌, ◌++◌, length}
use Rattle.std.proofs.Common.{refl, codes, decimal, Option, Some, None}
use Rattle.task_names.specs.TaskNames.{name_at}
use Rattle.line_rules.specs.declared.types.LineKind.{LineKind}
use Rattle.line_rules.specs.declared.types.LineKind.TheVariants.{Straight, U}
use Rattle.line_rules.specs.declared.types.Side.{Side}
use Rattle.line_rules.specs.declared.types.Side.TheVariants.{Front, Back}
use Rattle.line_drawing.specs.declared.figures.Figures.{Figures}
use Rattle.line_drawing.specs.declared.segments.Segment.{Segment}
use Rattle.line_drawing.specs.Parts.{text_of}
use Rattle.line_drawing.specs.Notes.{blanked, joined, number_of}
use Rattle.line_drawing.specs.Rows.{columns_parts, columns_text, each_where, is_of, margin_parts, margin_text}
use Rattle.line_drawing.specs.Rows.{slowest_parts, slowest_text, times_parts}
use Rattle.named_drawing.specs.declared.labels.Label.{Label}
use Rattle.named_drawing.specs.declared.labels.Label.TheVariants.{Name, Parts, Number, Nothing}
use Rattle.named_drawing.specs.Widths.{part_before, part_behind}
use Rattle.named_drawing.specs.Escapes.{escaped}
use Rattle.named_drawing.specs.Labels.{label_of, named_note, unlabelled}
use Rattle.named_drawing.specs.NamedRows.{above_parts, back_text, below_parts, front_text, label_line, label_lines}
use Rattle.named_drawing.specs.NamedRows.{label_text, labels_text, lead, middle_of, name_parts, name_text, named_row}
use Rattle.named_drawing.specs.NamedRows.{names_text, number_parts, parts_text, path_text, place_parts, shape_parts}
use Rattle.named_drawing.specs.NamedRows.{shown_name, time_parts}
use Rattle.named_drawing.specs.Xml.{IsText}
use Rattle.named_drawing.specs.inner.Cuts.{IsCutLabel}
use Rattle.named_drawing.proofs.NameFacts.{parted}
use Rattle.named_drawing.proofs.SplitFacts.{label_cut}
use Rattle.named_drawing.proofs.XmlTexts.{Shown, either_words, empty, joined_words, number}
use Rattle.named_drawing.proofs.XmlTexts.{number_value, plain}
use Rattle.named_drawing.proofs.XmlPieces.{ArePieces, Field, IsPiece, alone, alone_parts, both, either, element}
use Rattle.named_drawing.proofs.XmlPieces.{element_parts, more, none, one, piece_of, words}
use Rattle.named_drawing.proofs.XmlPieces.Shape.{Single, Several, Joined}

-- the end of a line
pub line_end : ArePieces (codes "\n" ∷ [])
line_end = one (codes "\n") (words (codes "\n") (plain (codes "\n") refl refl))

-- a field with a number, and one with a text
abbrev pub numbered : List ℕ → ℕ → Field
numbered name n = record { name = name; parts = decimal n ∷ [] }

abbrev pub fixed : List ℕ → List ℕ → Field
fixed name value = record { name = name; parts = value ∷ [] }

-- a name as it is shown
shown : (name : List ℕ) → IsText name → Shown (escaped name)
shown name h = record { raw = name; same = refl; proper = h }

-- the line of a label
name_piece : (name : List ℕ) (s : Segment) → Shown (escaped name) → IsPiece (name_text name s)
name_piece name s w =
    let fs : List Field = numbered (codes "x") (middle_of s) ∷ [] in
    piece_of
    (Joined (Joined (Several (name_parts s)) (Single (escaped name))) (Single (codes "</text>\n")))
    (element_parts (codes "text") fs (escaped name ∷ []) [] ++ (codes "\n" ∷ [])) refl
    (more (element_parts (codes "text") fs (escaped name ∷ []) []) (codes "\n" ∷ [])
    (element (codes "text") fs (escaped name ∷ []) [] refl ((refl, (number_value (middle_of s), tt)), tt) refl
    (w, tt) none) line_end)

parts_piece : (name : List ℕ) (s : Segment) (at : ℕ) → Shown (escaped (part_before name at))
    → Shown (escaped (part_behind name at))
    → IsPiece (parts_text name s at)
parts_piece name s at v w =
    let above : List Field = numbered (codes "x") (middle_of s) ∷ fixed (codes "y") (codes "-7") ∷ [] in
    let below : List Field = numbered (codes "x") (middle_of s) ∷ fixed (codes "y") (codes "7") ∷ [] in
    let first : List (List ℕ) = element_parts (codes "text") above (escaped (part_before name at) ∷ []) [] in
    let second : List (List ℕ) = element_parts (codes "text") below (escaped (part_behind name at) ∷ []) [] in
    piece_of
    (Joined
    (Joined
    (Joined (Joined (Several (above_parts s)) (Single (escaped (part_before name at))))
    (Several (below_parts s)))
    (Single (escaped (part_behind name at))))
    (Single (codes "</text>\n")))
    (first ++ (second ++ (codes "\n" ∷ []))) refl
    (more first (second ++ (codes "\n" ∷ []))
    (element (codes "text") above (escaped (part_before name at) ∷ []) [] refl
    ((refl, (number_value (middle_of s), tt)), ((refl, (refl, tt)), tt)) refl (v, tt) none)
    (more second (codes "\n" ∷ [])
    (element (codes "text") below (escaped (part_behind name at) ∷ []) [] refl
    ((refl, (number_value (middle_of s), tt)), ((refl, (refl, tt)), tt)) refl (w, tt) none) line_end))

number_piece : (s : Segment) → IsPiece (text_of (number_parts s))
number_piece s =
    let fs : List Field = numbered (codes "x") (middle_of s) ∷ fixed (codes "font-style") (codes "italic") ∷ [] in
    piece_of (Several (number_parts s))
    (element_parts (codes "text") fs (decimal (number_of s) ∷ []) [] ++ (codes "\n" ∷ [])) refl
    (more (element_parts (codes "text") fs (decimal (number_of s) ∷ []) []) (codes "\n" ∷ [])
    (element (codes "text") fs (decimal (number_of s) ∷ []) [] refl
    ((refl, (number_value (middle_of s), tt)), ((refl, (refl, tt)), tt)) refl (number (number_of s), tt) none)
    line_end)

module _ (names : List (List ℕ)) (proper : (i : ℕ) → IsText (name_at names i)) where
  shown_at : (s : Segment) → Shown (shown_name names s)
  shown_at s = shown (name_at names s.task) (proper s.task)

  label_piece : (s : Segment) (label : Label) → IsCutLabel (name_at names s.task) label
      → IsPiece (label_text (name_at names s.task) s label)
  label_piece s Name cut = name_piece (name_at names s.task) s (shown_at s)
  label_piece s (Parts at) cut =
      let name : List ℕ = name_at names s.task in
      let parts : IsText (part_before name at) × IsText (part_behind name at) = parted name at (proper s.task) cut in
      parts_piece name s at (shown (part_before name at) parts.0) (shown (part_behind name at) parts.1)
  label_piece s Number cut = number_piece s
  label_piece s Nothing cut = none

  lines_piece : (ss : List Segment) → IsPiece (label_lines names ss)
  lines_piece [] = none
  lines_piece (s ∷ ss) = both (label_line names s) (label_lines names ss)
      (label_piece s (label_of (name_at names s.task) s) (label_cut (name_at names s.task) s)) (lines_piece ss)

  labels_piece : (ss : List Segment) → IsPiece (labels_text names ss)
  labels_piece ss =
      let fs : List Field = fixed (codes "text-anchor") (codes "middle") ∷ fixed (codes "pointer-events")
      (codes "none") ∷ [] in
      let lines : List ℕ = label_lines names ss in
      piece_of
      (Joined (Joined (Single (codes "<g text-anchor=\"middle\" pointer-events=\"none\">\n")) (Single lines))
      (Single (codes "</g>\n")))
      (element_parts (codes "g") fs (codes "\n" ∷ []) (lines ∷ []) ++ (codes "\n" ∷ [])) refl
      (more (element_parts (codes "g") fs (codes "\n" ∷ []) (lines ∷ [])) (codes "\n" ∷ [])
      (element (codes "g") fs (codes "\n" ∷ []) (lines ∷ []) refl ((refl, (refl, tt)), ((refl, (refl, tt)), tt)) refl
      (plain (codes "\n") refl refl, tt) (one lines (lines_piece ss))) line_end)

  -- the segment of a task
  path_piece : (s : Segment) → IsPiece (path_text names s)
  path_piece s =
      let d : Field = record {
        name = codes "d";
        parts = codes "M" ∷ decimal s.x ∷ codes "-20v32h" ∷ decimal s.width ∷ codes "v-32z" ∷ [];
      } in
      let title : List (List ℕ) = decimal (number_of s) ∷ codes " " ∷ shown_name names s ∷ codes ", time "
      ∷ decimal s.time ∷ [] in
      let inside : List (List ℕ) = element_parts (codes "title") [] title [] in
      piece_of
      (Joined (Joined (Several (shape_parts s)) (Single (shown_name names s))) (Several (time_parts s)))
      (element_parts (codes "path") (d ∷ []) [] inside ++ (codes "\n" ∷ [])) refl
      (more (element_parts (codes "path") (d ∷ []) [] inside) (codes "\n" ∷ [])
      (element (codes "path") (d ∷ []) [] inside refl
      ((refl, (refl, (number_value s.x, (refl, (number_value s.width, (refl, tt)))))), tt) refl tt
      (element (codes "title") [] title [] refl tt refl (
        number (number_of s),
        (
          plain (codes " ") refl refl,
          (shown_at s, (plain (codes ", time ") refl refl, (number s.time, tt))),
        ),
      ) none))
      line_end)

  paths_piece : (side : Side) (ss : List Segment) → IsPiece (each_where (is_of side) (path_text names) ss)
  paths_piece side [] = none
  paths_piece side (s ∷ ss) = both (cond (is_of side s) (path_text names s) [])
      (each_where (is_of side) (path_text names) ss)
      (either (is_of side s) (path_text names s) [] (path_piece s) none) (paths_piece side ss)

  front_piece : (ss : List Segment) → IsPiece (front_text names ss)
  front_piece ss =
      let frame : List Field = fixed (codes "fill") (codes "#fff") ∷ fixed (codes "stroke") (codes "#888")
      ∷ fixed (codes "d") (codes "M0-20v32h800v-32z") ∷ [] in
      let fs : List Field = fixed (codes "fill") (codes "#cfe2f6") ∷ fixed (codes "stroke") (codes "#467") ∷ [] in
      let paths : List ℕ = each_where (is_of Front) (path_text names) ss in
      let group : List (List ℕ) = element_parts (codes "g") fs (codes "\n" ∷ []) (paths ∷ []) in
      piece_of
      (Joined
      (Joined
      (Single (codes
      "<path fill=\"#fff\" stroke=\"#888\" d=\"M0-20v32h800v-32z\"/>\n<g fill=\"#cfe2f6\" stroke=\"#467\">\n"))
      (Single paths))
      (Single (codes "</g>\n")))
      (alone_parts (codes "path") frame ++ (codes "\n" ∷ (group ++ (codes "\n" ∷ [])))) refl
      (more (alone_parts (codes "path") frame) (codes "\n" ∷ (group ++ (codes "\n" ∷ [])))
      (alone (codes "path") frame refl ((refl, (refl, tt)), ((refl, (refl, tt)), ((refl, (refl, tt)), tt))) refl)
      (more (codes "\n" ∷ []) (group ++ (codes "\n" ∷ [])) line_end
      (more group (codes "\n" ∷ [])
      (element (codes "g") fs (codes "\n" ∷ []) (paths ∷ []) refl
      ((refl, (refl, tt)), ((refl, (refl, tt)), tt)) refl (plain (codes "\n") refl refl, tt)
      (one paths (paths_piece Front ss))) line_end)))

  back_piece : (kind : LineKind) (ss : List Segment) → IsPiece (back_text kind names ss)
  back_piece Straight ss = none
  back_piece U ss =
      let fs : List Field = fixed (codes "fill") (codes "#76a5d8") ∷ fixed (codes "stroke") (codes "#000") ∷ [] in
      let paths : List ℕ = each_where (is_of Back) (path_text names) ss in
      let group : List (List ℕ) = element_parts (codes "g") fs (codes "\n" ∷ []) (paths ∷ []) in
      piece_of
      (Joined (Joined (Single (codes "<g fill=\"#76a5d8\" stroke=\"#000\">\n")) (Single paths))
      (Single (codes "</g>\n")))
      (group ++ (codes "\n" ∷ [])) refl
      (more group (codes "\n" ∷ [])
      (element (codes "g") fs (codes "\n" ∷ []) (paths ∷ []) refl ((refl, (refl, tt)), ((refl, (refl, tt)), tt)) refl
      (plain (codes "\n") refl refl, tt) (one paths (paths_piece Back ss))) line_end)

  -- the names of a station
  lead_shown : (before : Option Side) (side : Side) → Shown (lead before side)
  lead_shown None Front = plain (codes " ") refl refl
  lead_shown None Back = plain (codes " back: ") refl refl
  lead_shown (Some Front) Front = plain (codes "; ") refl refl
  lead_shown (Some Front) Back = plain (codes "; back: ") refl refl
  lead_shown (Some Back) side = plain (codes "; ") refl refl

  names_shown : (before : Option Side) (ss : List Segment) → Shown (names_text names before ss)
  names_shown before [] = empty
  names_shown before (s ∷ ss) = joined_words (lead before s.side ++ shown_name names s)
      (names_text names (Some s.side) ss)
      (joined_words (lead before s.side) (shown_name names s) (lead_shown before s.side) (shown_at s))
      (names_shown (Some s.side) ss)

  -- the station, its time and its idle time
  columns_piece : (f : Figures) (k sum : ℕ) → IsPiece (columns_text f k sum)
  columns_piece f k sum =
      let a : List Field = fixed (codes "x") (codes "-8") ∷ [] in
      let b : List Field = numbered (codes "x") (800 + f.column) ∷ [] in
      let c : List Field = numbered (codes "x") (800 + 2 * f.column) ∷ [] in
      let first : List (List ℕ) = element_parts (codes "text") a (decimal k ∷ []) [] in
      let second : List (List ℕ) = element_parts (codes "text") b (decimal sum ∷ []) [] in
      let third : List (List ℕ) = element_parts (codes "text") c (decimal (f.cycle - sum) ∷ []) [] in
      piece_of (Several (columns_parts f k sum)) (first ++ (second ++ (third ++ (codes "\n" ∷ [])))) refl
      (more first (second ++ (third ++ (codes "\n" ∷ [])))
      (element (codes "text") a (decimal k ∷ []) [] refl ((refl, (refl, tt)), tt) refl (number k, tt) none)
      (more second (third ++ (codes "\n" ∷ []))
      (element (codes "text") b (decimal sum ∷ []) [] refl ((refl, (number_value (800 + f.column), tt)), tt) refl
      (number sum, tt) none)
      (more third (codes "\n" ∷ [])
      (element (codes "text") c (decimal (f.cycle - sum) ∷ []) [] refl
      ((refl, (number_value (800 + 2 * f.column), tt)), tt) refl (number (f.cycle - sum), tt) none)
      line_end)))

  slowest_piece : (f : Figures) (sum : ℕ) → IsPiece (slowest_text f sum)
  slowest_piece f sum =
      let fs : List Field = numbered (codes "x") (860 + 2 * f.column) ∷ [] in
      let line : List (List ℕ) = element_parts (codes "text") fs (codes "slowest" ∷ []) [] in
      either (nat_eq sum f.longest) (text_of (slowest_parts f)) []
      (piece_of (Several (slowest_parts f)) (line ++ (codes "\n" ∷ [])) refl
      (more line (codes "\n" ∷ [])
      (element (codes "text") fs (codes "slowest" ∷ []) [] refl
      ((refl, (number_value (860 + 2 * f.column), tt)), tt) refl (plain (codes "slowest") refl refl, tt)
      none) line_end)) none

  -- the note
  blanked_shown : (ns : List ℕ) → Shown (blanked ns)
  blanked_shown [] = empty
  blanked_shown (n ∷ ns) = joined_words (codes " " ++ decimal n) (blanked ns)
      (joined_words (codes " ") (decimal n) (plain (codes " ") refl refl) (number n)) (blanked_shown ns)

  joined_shown : (ns : List ℕ) → Shown (joined ns)
  joined_shown [] = empty
  joined_shown (n ∷ ns) = joined_words (decimal n) (blanked ns) (number n) (blanked_shown ns)

  note_shown : (ss : List Segment) → Shown (named_note names ss)
  note_shown ss =
      let ns : List ℕ = unlabelled names ss in
      either_words (nat_lt 40 (length (joined ns))) (decimal (length ns) ++ codes " tasks") (joined ns)
      (joined_words (decimal (length ns)) (codes " tasks") (number (length ns)) (plain (codes " tasks") refl refl))
      (joined_shown ns)

  margin_piece : (f : Figures) (note : List ℕ) → Shown note → IsPiece (margin_text f note)
  margin_piece f note w =
      let fs : List Field = numbered (codes "x") (872 + 2 * f.column) ∷ fixed (codes "text-anchor")
      (codes "start") ∷ [] in
      let line : List (List ℕ) = element_parts (codes "text") fs (note ∷ []) [] in
      either (nat_eq (length note) 0) [] (text_of (margin_parts f note)) none
      (piece_of (Several (margin_parts f note)) (line ++ (codes "\n" ∷ [])) refl
      (more line (codes "\n" ∷ [])
      (element (codes "text") fs (note ∷ []) [] refl
      ((refl, (number_value (872 + 2 * f.column), tt)), ((refl, (refl, tt)), tt)) refl (w, tt) none)
      line_end))

  -- The row of a station.
  pub row_piece : (f : Figures) (k sum : ℕ) (ss : List Segment)
      → IsPiece (named_row f names k sum ss (named_note names ss))
  row_piece f k sum ss =
      let note : List ℕ = named_note names ss in
      let place : Field = record {
        name = codes "transform";
        parts = codes "translate(64 " ∷ decimal (76 + 36 * k) ∷ codes ")" ∷ [];
      } in
      let title : List (List ℕ) = codes "station " ∷ decimal k ∷ codes ":" ∷ names_text names None ss ∷ codes
      ", time " ∷ decimal sum ∷ codes ", idle " ∷ decimal (f.cycle - sum) ∷ [] in
      let opening : List (List ℕ) = element_parts (codes "title") [] title [] in
      let front : List ℕ = front_text names ss in
      let back : List ℕ = back_text f.kind names ss in
      let labels : List ℕ = labels_text names ss in
      let columns : List ℕ = columns_text f k sum in
      let slowest : List ℕ = slowest_text f sum in
      let margin : List ℕ = margin_text f note in
      let lines : List (List ℕ) = front ∷ back ∷ labels ∷ columns ∷ slowest ∷ margin ∷ [] in
      let inside : List (List ℕ) = opening ++ (codes "\n" ∷ lines) in
      piece_of
      (Joined
      (Joined
      (Joined
      (Joined
      (Joined
      (Joined
      (Joined
      (Joined
      (Joined (Several (place_parts k)) (Single (names_text names None ss)))
      (Several (times_parts f sum)))
      (Single front))
      (Single back))
      (Single labels))
      (Single columns))
      (Single slowest))
      (Single margin))
      (Single (codes "</g>\n")))
      (element_parts (codes "g") (place ∷ []) [] inside ++ (codes "\n" ∷ [])) refl
      (more (element_parts (codes "g") (place ∷ []) [] inside) (codes "\n" ∷ [])
      (element (codes "g") (place ∷ []) [] inside refl
      ((refl, (refl, (number_value (76 + 36 * k), (refl, tt)))), tt) refl tt
      (more opening (codes "\n" ∷ lines)
      (element (codes "title") [] title [] refl tt refl (
        plain (codes "station ") refl refl,
        (
          number k,
          (
            plain (codes ":") refl refl,
            (
              names_shown None ss,
              (
                plain (codes ", time ") refl refl,
                (number sum, (plain (codes ", idle ") refl refl, (number (f.cycle - sum), tt))),
              ),
            ),
          ),
        ),
      ) none)
      (more (codes "\n" ∷ []) lines line_end
      (both front (text_of (back ∷ labels ∷ columns ∷ slowest ∷ margin ∷ [])) (front_piece ss)
      (both back (text_of (labels ∷ columns ∷ slowest ∷ margin ∷ [])) (back_piece f.kind ss)
      (both labels (text_of (columns ∷ slowest ∷ margin ∷ [])) (labels_piece ss)
      (both columns (text_of (slowest ∷ margin ∷ [])) (columns_piece f k sum)
      (both slowest (text_of (margin ∷ [])) (slowest_piece f sum)
      (one margin (margin_piece f note (note_shown ss)))))))))))
      line_end)
