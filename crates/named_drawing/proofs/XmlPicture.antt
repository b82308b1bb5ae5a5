-- The text of a picture with names is well-formed XML.
use Rattle.std.proofs.Common.{◌≡◌, ℕ, zero, suc, ◌+◌, ◌*◌, ◌/◌, ◌%◌, cond, nat_eq, List, [], ◌∷◌}
use Rattle.std.proofs.Common.{◌++◌, refl, codes, decimal}
use Rattle.task_names.specs.TaskNames.{name_at}
use Rattle.line_instance.specs.Line.{Line, tasks, time}
use Rattle.line_rules.specs.Accepted.{upper_cycle}
use Rattle.line_rules.specs.Balance.{seat}
use Rattle.line_rules.specs.declared.types.LineKind.{LineKind}
use Rattle.line_rules.specs.declared.types.LineKind.TheVariants.{Straight, U}
use Rattle.line_rules.specs.declared.types.Seatplace.{Seatplace}
use Rattle.line_rules.specs.declared.types.Balance.{Balance as Assignment}
use Rattle.line_rules.specs.declared.types.Ask.{Ask}
use Rattle.line_rules.specs.declared.types.Ask.TheVariants.{Stations, Cycle}
use Rattle.line_rules.specs.declared.types.Claim.{Claim}
use Rattle.line_rules.specs.declared.types.Claim.TheVariants.{TooLong, Bounds}
use Rattle.line_rules.specs.declared.types.Certificate.{Certificate}
use Rattle.line_drawing.specs.declared.figures.Figures.{Figures}
use Rattle.line_drawing.specs.Parts.{text_of}
use Rattle.line_drawing.specs.Segments.{segments_at}
use Rattle.line_drawing.specs.Figures.{efficiency_of, idle_of, sum_at, width_of}
use Rattle.line_drawing.specs.Drawing.{ask_word, bounds_text, head_text, headings_parts, kind_word, legend_text}
use Rattle.line_drawing.specs.Drawing.{notes_parts, notes_text, station_word, totals_parts}
use Rattle.line_drawing.specs.Facts.{ClaimIsRight, HasRightBalance}
use Rattle.named_drawing.specs.declared.page.Page.{Page}
use Rattle.named_drawing.specs.Escapes.{escaped}
use Rattle.named_drawing.specs.Page.{entry_x, entry_y, filled_columns, list_top, page_height, page_of, stations_x}
use Rattle.named_drawing.specs.Page.{times_x}
use Rattle.named_drawing.specs.TaskList.{entries_from, entries_text, entry_of, entry_text, heading_of, heading_text}
use Rattle.named_drawing.specs.TaskList.{headings_from, name_word_parts, number_parts, number_word_parts, start_parts}
use Rattle.named_drawing.specs.TaskList.{station_parts, time_parts}
use Rattle.named_drawing.specs.NamedDrawing.{end_parts, ground_parts, named_claim, named_drawing_text, named_picture}
use Rattle.named_drawing.specs.NamedDrawing.{rows_from, size_parts, station_text}
use Rattle.named_drawing.specs.Xml.{IsText, IsWellFormed}
use Rattle.named_drawing.proofs.XmlTexts.{Shown, either_words, joined_words, number, number_value, plain}
use Rattle.named_drawing.proofs.XmlPieces.{ArePieces, Field, IsPiece, Shape, alone, alone_parts, both, either, element}
use Rattle.named_drawing.proofs.XmlPieces.{element_parts, more, none, one, piece_of, root, shape_flat, shape_text}
use Rattle.named_drawing.proofs.XmlPieces.Shape.{Single, Several, Joined}
use Rattle.named_drawing.proofs.XmlRows.{fixed, line_end, numbered, row_piece}

-- a place in the picture
abbrev placed : ℕ → ℕ → List Field
placed x y = numbered (codes "x") x ∷ numbered (codes "y") y ∷ []

abbrev placed_with : ℕ → ℕ → List ℕ → List ℕ → List Field
placed_with x y name value = numbered (codes "x") x ∷ numbered (codes "y") y ∷ fixed name value ∷ []

-- a text at a place
text_at : (x y : ℕ) (t : List ℕ) → Shown t → ArePieces (element_parts (codes "text") (placed x y) (t ∷ []) [])
text_at x y t w = element (codes "text") (placed x y) (t ∷ []) [] refl
    ((refl, (number_value x, tt)), ((refl, (number_value y, tt)), tt)) refl (w, tt) none

start_at : (x y : ℕ) (t : List ℕ) → Shown t
    → ArePieces (element_parts (codes "text") (placed_with x y (codes "text-anchor") (codes "start")) (t ∷ []) [])
start_at x y t w = element (codes "text") (placed_with x y (codes "text-anchor") (codes "start")) (t ∷ []) [] refl
    ((refl, (number_value x, tt)), ((refl, (number_value y, tt)), ((refl, (refl, tt)), tt))) refl (w, tt) none

italic_at : (x y : ℕ) (t : List ℕ) → Shown t
    → ArePieces (element_parts (codes "text") (placed_with x y (codes "font-style") (codes "italic")) (t ∷ []) [])
italic_at x y t w = element (codes "text") (placed_with x y (codes "font-style") (codes "italic")) (t ∷ []) [] refl
    ((refl, (number_value x, tt)), ((refl, (number_value y, tt)), ((refl, (refl, tt)), tt))) refl (w, tt) none

-- the heading of a column
heading_piece : (p : Page) (x : ℕ) → IsPiece (heading_of p x)
heading_piece p x =
    let y : ℕ = list_top p + 12 in
    let first : List (List ℕ) = element_parts (codes "text")
    (placed_with (x + 40) y (codes "text-anchor") (codes "start")) (codes "task" ∷ []) [] in
    let second : List (List ℕ) = element_parts (codes "text") (placed (times_x p x) y) (codes "time" ∷ []) [] in
    let third : List (List ℕ) = element_parts (codes "text") (placed (stations_x p x) y) (codes "station" ∷ []) [] in
    piece_of (Joined (Several (name_word_parts (x + 40) y))
    (Several (number_word_parts (times_x p x) (stations_x p x) y)))
    (first ++ (second ++ (third ++ (codes "\n" ∷ [])))) refl
    (more first (second ++ (third ++ (codes "\n" ∷ [])))
    (start_at (x + 40) y (codes "task") (plain (codes "task") refl refl))
    (more second (third ++ (codes "\n" ∷ []))
    (text_at (times_x p x) y (codes "time") (plain (codes "time") refl refl))
    (more third (codes "\n" ∷ [])
    (text_at (stations_x p x) y (codes "station") (plain (codes "station") refl refl)) line_end)))

headings_piece : (p : Page) (n q : ℕ) → IsPiece (headings_from p q n)
headings_piece p zero q = none
headings_piece p (suc n) q = both (heading_text p q) (headings_from p (suc q) n)
    (heading_piece p (64 + (128 + p.names + 8 * p.digits) * q)) (headings_piece p n (suc q))

-- the entry of a task
entry_piece : (p : Page) (i : ℕ) (name : List ℕ) (t station : ℕ) → Shown (escaped name)
    → IsPiece (entry_text p i name t station)
entry_piece p i name t station w =
    let x : ℕ = entry_x p i in
    let y : ℕ = entry_y p i in
    let first : List (List ℕ) = element_parts (codes "text")
    (placed_with (x + 32) y (codes "font-style") (codes "italic")) (decimal (i + 1) ∷ []) [] in
    let second : List (List ℕ) = element_parts (codes "text")
    (placed_with (x + 40) y (codes "text-anchor") (codes "start")) (escaped name ∷ []) [] in
    let third : List (List ℕ) = element_parts (codes "text") (placed (times_x p x) y) (decimal t ∷ []) [] in
    let fourth : List (List ℕ) = element_parts (codes "text") (placed (stations_x p x) y) (decimal station ∷ []) [] in
    piece_of
    (Joined
    (Joined
    (Joined (Joined (Several (number_parts p i)) (Several (start_parts p i))) (Single (escaped name)))
    (Several (time_parts p i t)))
    (Several (station_parts p i station)))
    (first ++ (second ++ (third ++ (fourth ++ (codes "\n" ∷ []))))) refl
    (more first (second ++ (third ++ (fourth ++ (codes "\n" ∷ []))))
    (italic_at (x + 32) y (decimal (i + 1)) (number (i + 1)))
    (more second (third ++ (fourth ++ (codes "\n" ∷ []))) (start_at (x + 40) y (escaped name) w)
    (more third (fourth ++ (codes "\n" ∷ [])) (text_at (times_x p x) y (decimal t) (number t))
    (more fourth (codes "\n" ∷ [])
    (text_at (stations_x p x) y (decimal station) (number station)) line_end))))

module _ (line : Line) (names : List (List ℕ)) (proper : (i : ℕ) → IsText (name_at names i)) where
  entries_piece : (p : Page) (places : List Seatplace) (n k : ℕ)
      → IsPiece (text_of (entries_from line p names places k n))
  entries_piece p places zero k = none
  entries_piece p places (suc n) k = both (entry_of line p names places k)
      (text_of (entries_from line p names places (suc k) n))
      (entry_piece p k (name_at names k) (time line k) (seat places k).station
      (record { raw = name_at names k; same = refl; proper = proper k }))
      (entries_piece p places n (suc k))

  rows_piece : (f : Figures) (places : List Seatplace) (n k : ℕ) → IsPiece (rows_from line f names places k n)
  rows_piece f places zero k = none
  rows_piece f places (suc n) k = both (station_text line f names places k) (rows_from line f names places (suc k) n)
      (row_piece names proper f k (sum_at line places k) (segments_at line f.cycle places k))
      (rows_piece f places n (suc k))

-- the words of the heading
kind_shown : (k : LineKind) → Shown (kind_word k)
kind_shown Straight = plain (codes "Straight line, ") refl refl
kind_shown U = plain (codes "U-line, ") refl refl

head_shown : (f : Figures) → Shown (head_text f)
head_shown f =
    let word : List ℕ = station_word f.stations in
    joined_words (kind_word f.kind) (decimal f.stations ++ (word ++ decimal f.cycle)) (kind_shown f.kind)
    (joined_words (decimal f.stations) (word ++ decimal f.cycle) (number f.stations)
    (joined_words word (decimal f.cycle)
    (either_words (nat_eq f.stations 1) (codes " station, cycle time ") (codes " stations, cycle time ")
    (plain (codes " station, cycle time ") refl refl) (plain (codes " stations, cycle time ") refl refl))
    (number f.cycle)))

ask_shown : (a : Ask) → Shown (ask_word a)
ask_shown (Stations cycle) = plain (codes "Stations: ") refl refl
ask_shown (Cycle stations) = plain (codes "Cycle time: ") refl refl

bounds_shown : (a : Ask) (lower upper : ℕ) → Shown (bounds_text a lower upper)
bounds_shown a lower upper =
    let from : List ℕ = codes "at least " ++ decimal lower in
    let wide : List ℕ = from ++ codes ", at most " ++ decimal upper in
    joined_words (ask_word a) (cond (nat_eq lower upper) (codes "optimal") wide) (ask_shown a)
    (either_words (nat_eq lower upper) (codes "optimal") wide (plain (codes "optimal") refl refl)
    (joined_words (from ++ codes ", at most ") (decimal upper)
    (joined_words from (codes ", at most ")
    (joined_words (codes "at least ") (decimal lower) (plain (codes "at least ") refl refl) (number lower))
    (plain (codes ", at most ") refl refl))
    (number upper)))

legend_piece : (k : LineKind) → IsPiece (legend_text k)
legend_piece Straight = none
legend_piece U =
    let words : List ℕ = codes "light: front tasks, dark: back tasks" in
    let fs : List Field = fixed (codes "x") (codes "104") ∷ fixed (codes "y") (codes "88") ∷ [] in
    let line : List (List ℕ) = element_parts (codes "text") fs (words ∷ []) [] in
    piece_of (Single (codes "<text x=\"104\" y=\"88\">light: front tasks, dark: back tasks</text>\n"))
    (line ++ (codes "\n" ∷ [])) refl
    (more line (codes "\n" ∷ [])
    (element (codes "text") fs (words ∷ []) [] refl ((refl, (refl, tt)), ((refl, (refl, tt)), tt)) refl
    (plain words refl refl, tt) none) line_end)

notes_piece : (f : Figures) → IsPiece (notes_text f)
notes_piece f =
    let fs : List Field = numbered (codes "x") (936 + 2 * f.column) ∷ fixed (codes "y") (codes "88") ∷ [] in
    let line : List (List ℕ) = element_parts (codes "text") fs (codes "narrow tasks" ∷ []) [] in
    either (nat_eq f.notes 0) [] (text_of (notes_parts f)) none
    (piece_of (Several (notes_parts f)) (line ++ (codes "\n" ∷ [])) refl
    (more line (codes "\n" ∷ [])
    (element (codes "text") fs (codes "narrow tasks" ∷ []) [] refl
    ((refl, (number_value (936 + 2 * f.column), tt)), ((refl, (refl, tt)), tt)) refl
    (plain (codes "narrow tasks") refl refl, tt) none) line_end))

module _ (line : Line) (names : List (List ℕ)) (proper : (i : ℕ) → IsText (name_at names i))
    (p : Page) (a : Ask) (lower upper : ℕ) (b : Assignment) where
  abbrev f : Figures
  f = p.figures

  abbrev head : List ℕ
  head = head_text f

  abbrev rows : List ℕ
  rows = rows_from line f names b.place 1 b.stations

  abbrev heads : List ℕ
  heads = headings_from p 0 (filled_columns p (tasks line))

  abbrev entries : List ℕ
  entries = entries_text line p names b.place

  -- the whole text as it is put together
  abbrev whole : Shape
  whole =
      let top : Shape = Joined
      (Joined (Joined (Joined (Several (size_parts p)) (Single head)) (Several (ground_parts p)))
      (Single head)) (Single (codes "</text>\n<text x=\"64\" y=\"48\">")) in
      let above : Shape = Joined (Joined (Joined (Joined (Joined top (Single (bounds_text a lower upper)))
      (Several (totals_parts f))) (Single (legend_text f.kind))) (Single (notes_text f))) (Several (headings_parts f))
      in
      let list : Shape = Joined (Joined (Joined (Single (codes "<g text-anchor=\"end\">\n")) (Single heads))
      (Single entries)) (Single (codes "</g>\n</svg>\n")) in
      Joined (Joined (Joined above (Single rows)) (Several (end_parts f))) list

  -- the fields of the picture
  abbrev svg : List Field
  svg =
      fixed (codes "xmlns") (codes "http://www.w3.org/2000/svg")
      ∷ fixed (codes "version") (codes "1.1")
      ∷ numbered (codes "width") (width_of f)
      ∷ numbered (codes "height") (page_height p)
      ∷ record {
        name = codes "viewBox";
        parts = codes "0 0 " ∷ decimal (width_of f) ∷ codes " " ∷ decimal (page_height p) ∷ [];
      }
      ∷ fixed (codes "role") (codes "img")
      ∷ fixed (codes "font-family") (codes "Arial,sans-serif")
      ∷ fixed (codes "font-size") (codes "12")
      ∷ fixed (codes "shape-rendering") (codes "crispEdges")
      ∷ []

  -- its lines above the rows
  abbrev title : List (List ℕ)
  title = element_parts (codes "title") [] (head ∷ []) []

  abbrev ground_fields : List Field
  ground_fields = numbered (codes "width") (width_of f) ∷ numbered (codes "height") (page_height p)
      ∷ fixed (codes "fill") (codes "#fff") ∷ []

  abbrev heading_fields : List Field
  heading_fields = fixed (codes "x") (codes "64") ∷ fixed (codes "y") (codes "28") ∷ fixed (codes "font-size")
      (codes "18") ∷ []

  abbrev heading_line : List (List ℕ)
  heading_line = element_parts (codes "text") heading_fields (head ∷ []) []

  abbrev at : List ℕ → List ℕ → List Field
  at x y = fixed (codes "x") x ∷ fixed (codes "y") y ∷ []

  abbrev bounds_line : List (List ℕ)
  bounds_line = element_parts (codes "text") (at (codes "64") (codes "48"))
      (bounds_text a lower upper ∷ codes " (by the certificate)" ∷ []) []

  abbrev totals : List (List ℕ)
  totals =
      codes "Efficiency " ∷ decimal (efficiency_of f / 10) ∷ codes "." ∷ decimal (efficiency_of f % 10)
      ∷ codes " %, total time " ∷ decimal f.total ∷ codes ", idle time " ∷ decimal (idle_of f)
      ∷ codes ", longest station time " ∷ decimal f.longest ∷ []

  abbrev totals_line : List (List ℕ)
  totals_line = element_parts (codes "text") (at (codes "64") (codes "66")) totals []

  -- the headings of the rows, the rows, and the line where the cycle ends
  abbrev end_group : List Field
  end_group = fixed (codes "text-anchor") (codes "end") ∷ []

  abbrev station_word_line : List (List ℕ)
  station_word_line = element_parts (codes "text") (at (codes "56") (codes "88")) (codes "station" ∷ []) []

  abbrev cycle_line : List (List ℕ)
  cycle_line = element_parts (codes "text") (at (codes "864") (codes "88")) (codes "cycle time " ∷ decimal f.cycle ∷ [])
      []

  abbrev beside : ℕ → List Field
  beside x = numbered (codes "x") x ∷ fixed (codes "y") (codes "88") ∷ []

  abbrev time_line : List (List ℕ)
  time_line = element_parts (codes "text") (beside (864 + f.column)) (codes "time" ∷ []) []

  abbrev idle_line : List (List ℕ)
  idle_line = element_parts (codes "text") (beside (864 + 2 * f.column)) (codes "idle" ∷ []) []

  abbrev axis : List Field
  axis =
      fixed (codes "stroke") (codes "#000")
      ∷ fixed (codes "stroke-width") (codes "3")
      ∷ record { name = codes "d"; parts = codes "M864 92v" ∷ decimal (36 * f.stations + 6) ∷ [] }
      ∷ []

  abbrev axis_line : List (List ℕ)
  axis_line = alone_parts (codes "path") axis

  abbrev n : List (List ℕ)
  n = codes "\n" ∷ []

  abbrev rows_inside : List (List ℕ)
  rows_inside = station_word_line
      ++ (cycle_line ++ (time_line ++ (idle_line ++ (n ++ ((rows ∷ []) ++ (axis_line ++ n))))))

  abbrev rows_group : List (List ℕ)
  rows_group = element_parts (codes "g") end_group n rows_inside

  abbrev list_group : List (List ℕ)
  list_group = element_parts (codes "g") end_group n (heads ∷ entries ∷ [])

  abbrev inside : List (List ℕ)
  inside =
      title
      ++ (n ++ (alone_parts (codes "rect") ground_fields
      ++ (n ++ (heading_line ++ (n ++ (bounds_line ++ (n ++ (totals_line ++ (n
      ++ ((legend_text f.kind ∷ notes_text f ∷ []) ++ (rows_group ++ (n ++ (list_group ++ n)))))))))))))

  same_text : shape_text whole ≡ text_of (element_parts (codes "svg") svg n inside ++ n)
  same_text = shape_flat whole

  next_line : (a b : List (List ℕ)) → ArePieces a → ArePieces b → ArePieces (a ++ (n ++ b))
  next_line a b x y = more a (n ++ b) x (more n b line_end y)

  line_shown : Shown (codes "\n")
  line_shown = plain (codes "\n") refl refl

  beside_piece : (x : ℕ) (t : List ℕ) → Shown t → ArePieces (element_parts (codes "text") (beside x) (t ∷ []) [])
  beside_piece x t w = element (codes "text") (beside x) (t ∷ []) [] refl
      ((refl, (number_value x, tt)), ((refl, (refl, tt)), tt)) refl (w, tt) none

  rows_inside_piece : ArePieces rows_inside
  rows_inside_piece =
      more station_word_line (cycle_line ++ (time_line ++ (idle_line ++ (n ++ ((rows ∷ []) ++ (axis_line ++ n))))))
      (element (codes "text") (at (codes "56") (codes "88")) (codes "station" ∷ []) [] refl
      ((refl, (refl, tt)), ((refl, (refl, tt)), tt)) refl (plain (codes "station") refl refl, tt) none)
      (more cycle_line (time_line ++ (idle_line ++ (n ++ ((rows ∷ []) ++ (axis_line ++ n)))))
      (element (codes "text") (at (codes "864") (codes "88")) (codes "cycle time " ∷ decimal f.cycle ∷ []) [] refl
      ((refl, (refl, tt)), ((refl, (refl, tt)), tt)) refl
      (plain (codes "cycle time ") refl refl, (number f.cycle, tt)) none)
      (more time_line (idle_line ++ (n ++ ((rows ∷ []) ++ (axis_line ++ n))))
      (beside_piece (864 + f.column) (codes "time") (plain (codes "time") refl refl))
      (next_line idle_line ((rows ∷ []) ++ (axis_line ++ n))
      (beside_piece (864 + 2 * f.column) (codes "idle") (plain (codes "idle") refl refl))
      (more (rows ∷ []) (axis_line ++ n) (one rows (rows_piece line names proper f b.place b.stations 1))
      (more axis_line n
      (alone (codes "path") axis refl (
        (refl, (refl, tt)),
        (
          (refl, (refl, tt)),
          ((refl, (refl, (number_value (36 * f.stations + 6), tt))), tt),
        ),
      ) refl)
      line_end)))))

  groups_piece : ArePieces (rows_group ++ (n ++ (list_group ++ n)))
  groups_piece =
      next_line rows_group (list_group ++ n)
      (element (codes "g") end_group n rows_inside refl ((refl, (refl, tt)), tt) refl (line_shown, tt)
      rows_inside_piece)
      (more list_group n
      (element (codes "g") end_group n (heads ∷ entries ∷ []) refl ((refl, (refl, tt)), tt) refl (line_shown, tt)
      (both heads (text_of (entries ∷ [])) (headings_piece p (filled_columns p (tasks line)) 0)
      (one entries (entries_piece line names proper p b.place (tasks line) 0))))
      line_end)

  marks_piece : ArePieces ((legend_text f.kind ∷ notes_text f ∷ []) ++ (rows_group ++ (n ++ (list_group ++ n))))
  marks_piece = more (legend_text f.kind ∷ notes_text f ∷ []) (rows_group ++ (n ++ (list_group ++ n)))
      (both (legend_text f.kind) (text_of (notes_text f ∷ [])) (legend_piece f.kind)
      (one (notes_text f) (notes_piece f))) groups_piece

  totals_shown : ArePieces totals_line
  totals_shown = element (codes "text") (at (codes "64") (codes "66")) totals [] refl
      ((refl, (refl, tt)), ((refl, (refl, tt)), tt)) refl (
        plain (codes "Efficiency ") refl refl,
        (
          number (efficiency_of f / 10),
          (
            plain (codes ".") refl refl,
            (
              number (efficiency_of f % 10),
              (
                plain (codes " %, total time ") refl refl,
                (
                  number f.total,
                  (
                    plain (codes ", idle time ") refl refl,
                    (
                      number (idle_of f),
                      (plain (codes ", longest station time ") refl refl, (number f.longest, tt)),
                    ),
                  ),
                ),
              ),
            ),
          ),
        ),
      ) none

  inside_piece : ArePieces inside
  inside_piece =
      let marks : List (List ℕ) = (legend_text f.kind ∷ notes_text f ∷ []) ++ (rows_group ++ (n ++ (list_group ++ n)))
      in
      next_line title
      (alone_parts (codes "rect") ground_fields
      ++ (n ++ (heading_line ++ (n ++ (bounds_line ++ (n ++ (totals_line ++ (n ++ marks))))))))
      (element (codes "title") [] (head ∷ []) [] refl tt refl (head_shown f, tt) none)
      (next_line (alone_parts (codes "rect") ground_fields)
      (heading_line ++ (n ++ (bounds_line ++ (n ++ (totals_line ++ (n ++ marks))))))
      (alone (codes "rect") ground_fields refl (
        (refl, (number_value (width_of f), tt)),
        ((refl, (number_value (page_height p), tt)), ((refl, (refl, tt)), tt)),
      ) refl)
      (next_line heading_line (bounds_line ++ (n ++ (totals_line ++ (n ++ marks))))
      (element (codes "text") heading_fields (head ∷ []) [] refl
      ((refl, (refl, tt)), ((refl, (refl, tt)), ((refl, (refl, tt)), tt))) refl (head_shown f, tt) none)
      (next_line bounds_line (totals_line ++ (n ++ marks))
      (element (codes "text") (at (codes "64") (codes "48"))
      (bounds_text a lower upper ∷ codes " (by the certificate)" ∷ []) [] refl
      ((refl, (refl, tt)), ((refl, (refl, tt)), tt)) refl
      (bounds_shown a lower upper, (plain (codes " (by the certificate)") refl refl, tt)) none)
      (next_line totals_line marks totals_shown marks_piece))))

  pub picture_formed : IsWellFormed (named_picture line p names a lower upper b)
  picture_formed = root (codes "svg") svg n inside refl (
    (refl, (refl, tt)),
    (
      (refl, (refl, tt)),
      (
        (refl, (number_value (width_of f), tt)),
        (
          (refl, (number_value (page_height p), tt)),
          (
            (
              refl,
              (refl, (number_value (width_of f), (refl, (number_value (page_height p), tt)))),
            ),
            (
              (refl, (refl, tt)),
              ((refl, (refl, tt)), ((refl, (refl, tt)), ((refl, (refl, tt)), tt))),
            ),
          ),
        ),
      ),
    ),
  ) refl (line_shown, tt) inside_piece (named_picture line p names a lower upper b) same_text

claim_formed : (line : Line) (names : List (List ℕ)) (kind : LineKind) (a : Ask) (claim : Claim)
    → ClaimIsRight kind line a claim → ((i : ℕ) → IsText (name_at names i))
    → IsWellFormed (named_claim line names kind a claim)
claim_formed line names kind a (TooLong task) right proper = absurd right
claim_formed line names kind a (Bounds lower upper b es trail) right proper = picture_formed line names proper
    (page_of line kind (upper_cycle a upper) names b) a lower upper b

-- the text of a picture with names is well-formed
pub drawing_formed : (line : Line) (names : List (List ℕ)) (cert : Certificate) → HasRightBalance line cert
    → ((i : ℕ) → IsText (name_at names i))
    → IsWellFormed (named_drawing_text line names cert)
drawing_formed line names cert right proper = claim_formed line names cert.kind cert.ask cert.claim right proper
