-- How long the rows and the list of a picture with names are.
use Rattle.std.proofs.Common.{ℕ, suc, ◌+◌, ◌-◌, ◌*◌, ◌<◌, ◌≤◌, Bool, true, false, cond, nat_eq}
use Rattle.std.proofs.Common.{nat_lt, List, [], ◌∷◌, ◌++◌, length, length-append, refl, arith}
use Rattle.std.proofs.Common.{codes, decimal, Option, Some, None, length-take, length-drop}
use Rattle.std.specs.Prelude.{filter, map}
use Rattle.std.proofs.Math.Nat.{div-le_self}
use Rattle.line_rules.specs.declared.types.LineKind.{LineKind}
use Rattle.line_rules.specs.declared.types.LineKind.TheVariants.{Straight, U}
use Rattle.line_rules.specs.declared.types.Side.{Side}
use Rattle.line_rules.specs.declared.types.Side.TheVariants.{Front, Back}
use Rattle.task_names.specs.TaskNames.{name_at}
use Rattle.line_drawing.specs.declared.figures.Figures.{Figures}
use Rattle.line_drawing.specs.declared.segments.Segment.{Segment}
use Rattle.line_drawing.specs.Parts.{text_of}
use Rattle.line_drawing.specs.Notes.{blanked, number_of, joined}
use Rattle.line_drawing.specs.Figures.{AreFigures}
use Rattle.line_drawing.specs.Rows.{columns_text, each_where, is_of, margin_parts, margin_text, slowest_text}
use Rattle.line_drawing.specs.Rows.{times_parts}
use Rattle.line_drawing.specs.Rows.{times_text}
use Rattle.line_drawing.proofs.SizeFacts.{AreSmall, IsSmall, columns_most, cond_most, each_first, eighteen_digits}
use Rattle.line_drawing.proofs.SizeFacts.{fifteen_digits, five_digits, four_digits, len3, len5, len8, length-text_of}
use Rattle.line_drawing.proofs.SizeFacts.{nineteen_digits, note_cases, number_most, one_side, slowest_most}
use Rattle.line_drawing.proofs.SizeFacts.{three_digits}
use Rattle.named_drawing.specs.declared.labels.Label.{Label}
use Rattle.named_drawing.specs.declared.labels.Label.TheVariants.{Name, Parts, Number, Nothing}
use Rattle.named_drawing.specs.Widths.{part_before, part_behind}
use Rattle.named_drawing.specs.Escapes.{escaped, escaped_byte}
use Rattle.named_drawing.specs.Labels.{is_nothing, is_unlabelled, label_of, named_note, unlabelled}
use Rattle.named_drawing.specs.NamedRows.{above_parts, back_text, below_parts, front_text, label_line, label_lines}
use Rattle.named_drawing.specs.NamedRows.{label_text, labels_text, lead, middle_of, name_parts, named_row, names_text}
use Rattle.named_drawing.specs.NamedRows.{number_parts, opening_text, path_text, place_parts, place_text, shape_parts}
use Rattle.named_drawing.specs.NamedRows.{shown_name, time_parts}

-- a name takes at most five bytes for each of its own
byte_most : (b : ℕ) → length (escaped_byte b) ≤ 5
byte_most b = by (nat_eq b 38) (nat_eq b 60) (nat_eq b 62)
  where
    by : (p q r : Bool)
        → length (cond p (codes "&amp;") (cond q (codes "&lt;") (cond r (codes "&gt;") (b ∷ [])))) ≤ 5
    by true q r = omega arith
    by false true r = omega arith
    by false false true = omega arith
    by false false false = omega arith

pub escaped_most : (bs : List ℕ) → length (escaped bs) ≤ 5 * length bs
escaped_most [] = omega arith
escaped_most (b ∷ bs) = omega (arith, length-append (escaped_byte b) (escaped bs), byte_most b, escaped_most bs)

-- the parts of a name are no longer than the name
parts_most : (bs : List ℕ) (at : ℕ) → length (part_before bs at) + length (part_behind bs at) ≤ length bs
parts_most bs at = omega (arith, length-take at bs, length-drop (at + 1) bs)

lead_most : (before : Option Side) (side : Side) → length (lead before side) ≤ 8
lead_most None Front = omega arith
lead_most None Back = omega arith
lead_most (Some Front) Front = omega arith
lead_most (Some Front) Back = omega arith
lead_most (Some Back) side = omega arith

middle_most : (s : Segment) → IsSmall s → length (decimal (middle_of s)) ≤ 3
middle_most s h = three_digits (middle_of s) (omega (arith, h.within, div-le_self s.width 2))

module _ (names : List (List ℕ)) (short : (i : ℕ) → length (name_at names i) ≤ 64) where
  shown_most : (s : Segment) → length (shown_name names s) ≤ 320
  shown_most s = omega (arith, escaped_most (name_at names s.task), short s.task)

  named_most : (s : Segment) (before : Option Side) → length (lead before s.side ++ shown_name names s) ≤ 328
  named_most s before = omega (
    arith,
    length-append (lead before s.side) (shown_name names s),
    lead_most before s.side,
    shown_most s,
  )

  path_most : (s : Segment) → IsSmall s → length (path_text names s) ≤ 400
  path_most s h = omega (
    arith,
    len3 (text_of (shape_parts s)) (shown_name names s) (text_of (time_parts s)),
    length-text_of (shape_parts s),
    length-text_of (time_parts s),
    three_digits s.x (omega (arith, h.within)),
    three_digits s.width (omega (arith, h.within)),
    number_most s h,
    fifteen_digits s.time (omega (arith, h.time)),
    shown_most s,
  )

  -- a label, or a place in the note
  label_most : (s : Segment) (rest : List Segment) (label : Label) → IsSmall s
      → length (label_text (name_at names s.task) s label)
      + length (blanked (map number_of (cond (is_nothing label) (s ∷ rest) rest)))
      ≤ 380 + length (blanked (map number_of rest))
  label_most s rest Name h =
      let name : List ℕ = name_at names s.task in
      omega (
        arith,
        len3 (text_of (name_parts s)) (escaped name) (codes "</text>\n"),
        length-text_of (name_parts s),
        middle_most s h,
        escaped_most name,
        short s.task,
      )
  label_most s rest (Parts at) h =
      let name : List ℕ = name_at names s.task in
      omega (
        arith,
        len5 (text_of (above_parts s)) (escaped (part_before name at)) (text_of (below_parts s))
            (escaped (part_behind name at)) (codes "</text>\n"),
        length-text_of (above_parts s),
        length-text_of (below_parts s),
        middle_most s h,
        escaped_most (part_before name at),
        escaped_most (part_behind name at),
        parts_most name at,
        short s.task,
      )
  label_most s rest Number h = omega (arith, length-text_of (number_parts s), middle_most s h, number_most s h)
  label_most s rest Nothing h = omega (
    arith,
    length-append (codes " " ++ decimal (number_of s)) (blanked (map number_of rest)),
    length-append (codes " ") (decimal (number_of s)),
    number_most s h,
  )

  -- what stands of segments in a row
  spread_most : (ss : List Segment) (before : Option Side) → AreSmall ss
      → length (names_text names before ss)
      + (length (each_where (is_of Front) (path_text names) ss) + length (each_where (is_of Back) (path_text names) ss))
      + (length (label_lines names ss) + length (blanked (unlabelled names ss)))
      ≤ 1110 * length ss
  spread_most [] before h = omega arith
  spread_most (s ∷ ss) before h = omega (
    arith,
    spread_most ss (Some s.side) h.1,
    length-append (lead before s.side ++ shown_name names s) (names_text names (Some s.side) ss),
    named_most s before,
    each_first (is_of Front) (path_text names) s ss,
    each_first (is_of Back) (path_text names) s ss,
    one_side s.side (path_text names s),
    path_most s h.0,
    length-append (label_line names s) (label_lines names ss),
    label_most s (filter (is_unlabelled names) ss) (label_of (name_at names s.task) s) h.0,
  )

  few_unlabelled : (ss : List Segment) → length (unlabelled names ss) ≤ length ss
  few_unlabelled [] = omega arith
  few_unlabelled (s ∷ ss) = by (is_unlabelled names s) (few_unlabelled ss)
    where
      by : (b : Bool) → length (map number_of (filter (is_unlabelled names) ss)) ≤ length ss
          → length (map number_of (cond b (s ∷ filter (is_unlabelled names) ss) (filter (is_unlabelled names) ss)))
          ≤ suc (length ss)
      by true h = omega (arith, h)
      by false h = omega (arith, h)

  pub note_most : (ss : List Segment) → length ss ≤ 1024
      → (length (named_note names ss) ≤ length (blanked (unlabelled names ss))) × (length (named_note names ss) ≤ 40)
  note_most ss few = note_cases (nat_lt 40 (length (joined (unlabelled names ss)))) (unlabelled names ss) refl
      (omega (arith, few_unlabelled ss, few))

  back_most : (kind : LineKind) (ss : List Segment) → length (back_text kind names ss)
      ≤ 38 + length (each_where (is_of Back) (path_text names) ss)
  back_most Straight ss = omega arith
  back_most U ss = omega (
    arith,
    len3 (codes "<g fill=\"#76a5d8\" stroke=\"#000\">\n")
        (each_where (is_of Back) (path_text names) ss) (codes "</g>\n"),
  )

  front_most : (ss : List Segment) → length (front_text names ss)
      ≤ 94 + length (each_where (is_of Front) (path_text names) ss)
  front_most ss = omega (
    arith,
    len3 (codes "<path fill=\"#fff\" stroke=\"#888\" d=\"M0-20v32h800v-32z\"/>\n<g fill=\"#cfe2f6\" stroke=\"#467\">\n")
        (each_where (is_of Front) (path_text names) ss) (codes "</g>\n"),
  )

  labels_most : (ss : List Segment) → length (labels_text names ss) ≤ 52 + length (label_lines names ss)
  labels_most ss = omega (
    arith,
    len3 (codes "<g text-anchor=\"middle\" pointer-events=\"none\">\n") (label_lines names ss) (codes "</g>\n"),
  )

  margin_most : (f : Figures) (note : List ℕ) → f.column ≤ 172 → length (margin_text f note) ≤ 43 + length note
  margin_most f note column = cond_most (nat_eq (length note) 0) [] (text_of (margin_parts f note)) (43 + length note)
      (omega arith)
      (omega (
        arith,
        length-text_of (margin_parts f note),
        four_digits (872 + 2 * f.column) (omega (arith, column)),
      ))

  opening_most : (f : Figures) (k sum : ℕ) (ss : List Segment) → k ≤ 1024 → sum < 1000000000000000000
      → f.cycle ≤ 1000000000000000000
      → length (opening_text f names k sum ss) ≤ 120 + length (names_text names None ss)
  opening_most f k sum ss one below limit = omega (
    arith,
    len3 (place_text k) (names_text names None ss) (times_text f sum),
    length-text_of (place_parts k),
    five_digits (76 + 36 * k) (omega (arith, one)),
    four_digits k (omega (arith, one)),
    length-text_of (times_parts f sum),
    eighteen_digits sum below,
    nineteen_digits (f.cycle - sum) (omega (arith, limit)),
  )

  -- a row has room for itself and for its tasks
  pub row_most : (f : Figures) (ok : AreFigures f) (k sum : ℕ) (one : k ≤ 1024) (below : sum < 1000000000000000000)
      (ss : List Segment) (few : length ss ≤ 1024) (small : AreSmall ss)
      → length (named_row f names k sum ss (named_note names ss)) ≤ 500 + 1110 * length ss
  row_most f ok k sum one below ss few small = omega (
    arith,
    len8 (opening_text f names k sum ss) (front_text names ss) (back_text f.kind names ss) (labels_text names ss)
        (columns_text f k sum) (slowest_text f sum) (margin_text f (named_note names ss)) (codes "</g>\n"),
    opening_most f k sum ss one below ok.limit,
    front_most ss,
    back_most f.kind ss,
    labels_most ss,
    columns_most f ok k sum one below ss few small,
    slowest_most f ok k sum one below ss few small,
    margin_most f (named_note names ss) ok.column,
    (note_most ss few).0,
    spread_most ss None small,
  )
