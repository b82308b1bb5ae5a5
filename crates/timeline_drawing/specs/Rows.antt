-- The row of a unit, line by line.
use Rattle.std.specs.Prelude.{ℕ, ◌+◌, ◌-◌, ◌*◌, ◌%◌, Bool, nat_eq, nat_lt, cond, List, [], ◌∷◌, ◌++◌, codes, decimal}
use Rattle.timeline_drawing.specs.Parts.{text_of}
use Rattle.timeline_drawing.specs.Visits.{row_utility}
use Rattle.timeline_drawing.specs.Figures.{bar_width, bar_x, panel_x, red_width, red_x}
use Rattle.timeline_drawing.specs.declared.visits.Visit.{Visit}
use Rattle.timeline_drawing.specs.declared.figures.Figures.{Figures}

-- the texts of the visits that pass a test, in order
abbrev pub each_where : (Visit → Bool) → (Visit → List ℕ) → List Visit → List ℕ
each_where p text [] = []
each_where p text (v ∷ vs) = cond (p v) (text v) [] ++ each_where p text vs

-- whether a unit has work at a station, and whether it has utility work there
abbrev pub has_work : Visit → Bool
has_work v = nat_lt 0 v.work

abbrev pub has_utility : Visit → Bool
has_utility v = nat_lt 0 v.utility

-- COLOUR: the colour of a model, one of eight in turn
abbrev pub colour_of : ℕ → List ℕ
colour_of m =
    cond (nat_eq (m % 8) 0) (codes "#0072b2") (
    cond (nat_eq (m % 8) 1) (codes "#e69f00") (
    cond (nat_eq (m % 8) 2) (codes "#009e73") (
    cond (nat_eq (m % 8) 3) (codes "#56b4e9") (
    cond (nat_eq (m % 8) 4) (codes "#cc79a7") (
    cond (nat_eq (m % 8) 5) (codes "#f0e442") (
    cond (nat_eq (m % 8) 6) (codes "#332288") (codes "#fc8")))))))

-- a shape of this width, behind so many units of the picture
abbrev pub shape_parts : ℕ → ℕ → List (List ℕ)
shape_parts x width =
    codes "<path d=\"M" ∷ decimal x ∷ codes "-10v12h" ∷ decimal width ∷ codes "v-12z\"><title>station " ∷ []

abbrev pub shape_text : ℕ → ℕ → List ℕ
shape_text x width = text_of (shape_parts x width)

-- the record of a visit, which shows where the shape is pointed at
abbrev pub where_parts : List ℕ → Visit → List (List ℕ)
where_parts name v = decimal (v.station + 1) ∷ codes ", unit " ∷ decimal (v.unit + 1) ∷ codes ", " ∷ name ∷ []

abbrev pub times_parts : Visit → List (List ℕ)
times_parts v =
    codes ": start " ∷ decimal v.start ∷ codes ", work " ∷ decimal v.work ∷ codes ", utility " ∷ decimal v.utility
    ∷ codes "</title></path>\n" ∷ []

abbrev pub tip_text : List ℕ → Visit → List ℕ
tip_text name v = text_of (where_parts name v) ++ text_of (times_parts v)

-- the bar of a visit: the work until the station's end
abbrev pub bar_text : Figures → List ℕ → Visit → List ℕ
bar_text f name v = shape_text (panel_x f v.station + bar_x f v) (bar_width f v) ++ tip_text name v

-- the red part of a visit: the utility work
abbrev pub red_text : Figures → List ℕ → Visit → List ℕ
red_text f name v = shape_text (panel_x f v.station + red_x f v) (red_width f v) ++ tip_text name v

-- the place of a row and the line below it
abbrev pub place_parts : Figures → ℕ → List (List ℕ)
place_parts f unit =
    codes "<g transform=\"translate(0 " ∷ decimal (110 + 18 * unit) ∷ codes ")\">\n<path stroke=\"#bbb\" d=\"M16 5h"
    ∷ decimal (f.right - 16) ∷ codes "\"/>\n" ∷ []

abbrev pub place_text : Figures → ℕ → List ℕ
place_text f unit = text_of (place_parts f unit)

-- the model's name and the unit's number
abbrev pub label_parts : Figures → List ℕ → ℕ → List (List ℕ)
label_parts f name unit =
    codes "<text x=\"16\">" ∷ name ∷ codes "</text><text x=\"" ∷ decimal (f.left - 8) ∷ codes "\" text-anchor=\"end\">"
    ∷ decimal (unit + 1) ∷ codes "</text>\n" ∷ []

abbrev pub label_text : Figures → List ℕ → ℕ → List ℕ
label_text f name unit = text_of (label_parts f name unit)

-- the colour of the bars; models from 8 on have an outline
abbrev pub outline_text : ℕ → List ℕ
outline_text model = cond (nat_lt model 8) (codes "\">\n") (codes "\" stroke=\"#000\">\n")

abbrev pub group_text : ℕ → List ℕ
group_text model = codes "<g fill=\"" ++ colour_of model ++ outline_text model

-- the bars: one at each station where the unit has work, in order
abbrev pub bars_text : Figures → List ℕ → ℕ → List Visit → List ℕ
bars_text f name model row =
    group_text model ++ each_where has_work (bar_text f name) row ++ codes "</g>\n"

-- the unit's sum
abbrev pub sum_parts : Figures → ℕ → List (List ℕ)
sum_parts f utility =
    codes "<text x=\"" ∷ decimal f.right ∷ codes "\" text-anchor=\"end\">" ∷ decimal utility ∷ codes "</text>\n</g>\n"
    ∷ []

-- the red parts, one at each station where the unit has utility work, in order, and their sum; where it has some
abbrev pub reds_text : Figures → List ℕ → List Visit → List ℕ
reds_text f name row =
    codes "<g fill=\"#d00\">\n"
    ++ each_where has_utility (red_text f name) row
    ++ text_of (sum_parts f (row_utility row))

abbrev pub late_text : Figures → List ℕ → List Visit → List ℕ
late_text f name row = cond (nat_lt 0 (row_utility row)) (reds_text f name row) []

-- The row of a unit with this name and this model, at all stations.
abbrev pub row_text : Figures → List ℕ → ℕ → ℕ → List Visit → List ℕ
row_text f name model unit row =
    place_text f unit
    ++ label_text f name unit
    ++ bars_text f name model row
    ++ late_text f name row
    ++ codes "</g>\n"
