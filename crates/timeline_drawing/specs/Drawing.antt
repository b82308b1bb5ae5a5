-- The whole picture of a timeline.
use Rattle.std.specs.Prelude.{◌≡◌, ℕ, zero, suc, ◌+◌, ◌-◌, ◌≤◌, ◌<◌, ◌⊎◌, nat_eq, nat_lt, cond, List, [], ◌∷◌, ◌++◌}
use Rattle.std.specs.Prelude.{length, codes, decimal}
use Rattle.timeline_drawing.specs.Parts.{text_of}
use Rattle.timeline_drawing.specs.Visits.{Course, model_of, name_of, row_of}
use Rattle.timeline_drawing.specs.Figures.{figures_of, height_of, panel_of, panel_x, position, station_sum, width_of}
use Rattle.timeline_drawing.specs.Rows.{row_text}
use Rattle.timeline_drawing.specs.declared.figures.Figures.{Figures}
use Rattle.timeline_drawing.specs.declared.drawing.TimelineRead.{TimelineRead}
use Rattle.timeline_drawing.specs.declared.drawing.TimelineRead.TheVariants.{Text, TooLarge, NoMemory}

-- the words for so many stations, and for so many units
abbrev pub station_word : ℕ → List ℕ
station_word n = cond (nat_eq n 1) (codes " station, ") (codes " stations, ")

abbrev pub unit_word : ℕ → List ℕ
unit_word n = cond (nat_eq n 1) (codes " unit") (codes " units")

-- UNITS
abbrev pub units_text : ℕ → List ℕ
units_text n = decimal n ++ unit_word n

-- the launch interval and the length of a station
abbrev pub pace_text : Figures → List ℕ
pace_text f = codes ", launch interval " ++ decimal f.interval ++ codes ", station length " ++ decimal f.reach

-- HEAD: the stations, the units, and these
abbrev pub head_text : Figures → List ℕ
head_text f = (decimal f.stations ++ station_word f.stations) ++ units_text f.units ++ pace_text f

-- the first lines: the size, and the title
abbrev pub size_parts : Figures → List (List ℕ)
size_parts f =
    codes "<svg xmlns=\"http://www.w3.org/2000/svg\" version=\"1.1\" width=\"" ∷ decimal (width_of f) ∷ codes
    "\" height=\"" ∷ decimal (height_of f)
    ∷ codes "\" viewBox=\"0 0 " ∷ decimal (width_of f) ∷ codes " " ∷ decimal (height_of f)
    ∷ codes "\" role=\"img\" font-family=\"Arial,sans-serif\" font-size=\"12\" shape-rendering=\"crispEdges\">\n<title>" ∷ []

abbrev pub size_text : Figures → List ℕ
size_text f = text_of (size_parts f)

abbrev pub ground_parts : Figures → List (List ℕ)
ground_parts f =
    codes "</title>\n<rect width=\"" ∷ decimal (width_of f) ∷ codes "\" height=\"" ∷ decimal (height_of f)
    ∷ codes "\" fill=\"#fff\"/>\n<text x=\"16\" y=\"28\" font-size=\"18\">" ∷ []

abbrev pub ground_text : Figures → List ℕ
ground_text f = text_of (ground_parts f)

-- the sums of the whole line
abbrev pub totals_parts : Figures → List (List ℕ)
totals_parts f =
    codes "</text>\n<text x=\"16\" y=\"48\">Utility work " ∷ decimal f.total ∷ codes ", at " ∷ decimal f.late ∷ codes
    " of " ∷ []

abbrev pub totals_text : Figures → List ℕ
totals_text f = text_of (totals_parts f) ++ units_text f.units

-- what the marks mean
abbrev pub legend_text : List ℕ
legend_text =
    codes "</text>\n<text x=\"16\" y=\"66\">Row: a launch. Bar: its work, from where it begins in the station. Dashed: launch interval. Red: utility work.</text>\n"

-- the headings of the columns
abbrev pub headings_parts : Figures → List (List ℕ)
headings_parts f =
    codes "<text x=\"16\" y=\"88\">model</text><text x=\"" ∷ decimal (f.left - 8) ∷ codes
    "\" y=\"88\" text-anchor=\"end\">unit</text><text x=\"" ∷ decimal f.right ∷ codes
    "\" y=\"88\" text-anchor=\"end\">utility</text>\n" ∷ []

abbrev pub headings_text : Figures → List ℕ
headings_text f = text_of (headings_parts f)

-- what stands above the panels
abbrev pub above_text : Figures → List ℕ
above_text f =
    size_text f ++ head_text f ++ ground_text f ++ head_text f ++ totals_text f ++ legend_text ++ headings_text f

-- the heading and the ground of station k: as far as the station reaches
abbrev pub heading_parts : Figures → ℕ → List (List ℕ)
heading_parts f k =
    codes "<text x=\"" ∷ decimal (panel_x f k) ∷ codes "\" y=\"88\">station " ∷ decimal (k + 1) ∷ codes "</text>\n" ∷ []

abbrev pub reach_parts : Figures → ℕ → List (List ℕ)
reach_parts f k =
    codes "<path fill=\"#eee\" d=\"M" ∷ decimal (panel_x f k) ∷ codes " 97v" ∷ decimal (panel_of f) ∷ codes "h"
    ∷ decimal (position f.scale f.reach) ∷ codes "v-" ∷ decimal (panel_of f) ∷ codes "z\"/>\n" ∷ []

abbrev pub panel_text : Figures → ℕ → List ℕ
panel_text f k = text_of (heading_parts f k) ++ text_of (reach_parts f k)

-- the panels of the first n stations
abbrev pub panels_to : Figures → ℕ → List ℕ
panels_to f zero = []
panels_to f (suc n) = panels_to f n ++ panel_text f n

-- the row of unit j
abbrev pub unit_text : Course → Figures → ℕ → List ℕ
unit_text d f j = row_text f (name_of d j) (model_of d j) j (row_of d j)

-- the rows of the first n units
abbrev pub rows_to : Course → Figures → ℕ → List ℕ
rows_to d f zero = []
rows_to d f (suc n) = rows_to d f n ++ unit_text d f n

-- the lines of station k where it begins and ends, and that of the launch interval
abbrev pub ends_parts : Figures → ℕ → List (List ℕ)
ends_parts f k =
    codes "<path stroke=\"#000\" d=\"M" ∷ decimal (panel_x f k) ∷ codes " 97v" ∷ decimal (panel_of f) ∷ codes "M"
    ∷ decimal (panel_x f k + position f.scale f.reach) ∷ codes " 97v" ∷ decimal (panel_of f) ∷ codes "\"/>\n" ∷ []

abbrev pub interval_parts : Figures → ℕ → List (List ℕ)
interval_parts f k =
    codes "<path stroke=\"#000\" stroke-dasharray=\"3 3\" d=\"M" ∷ decimal (panel_x f k + position f.scale f.interval)
    ∷ codes " 97v" ∷ decimal (panel_of f) ∷ codes "\"/>\n" ∷ []

-- its sum, where it is above 0
abbrev pub sum_parts : Figures → ℕ → ℕ → List (List ℕ)
sum_parts f k sum =
    codes "<text x=\"" ∷ decimal (panel_x f k) ∷ codes "\" y=\"" ∷ decimal (panel_of f + 115)
    ∷ codes "\" fill=\"#d00\">" ∷ decimal sum ∷ codes "</text>\n" ∷ []

abbrev pub sum_text : Figures → ℕ → ℕ → List ℕ
sum_text f k sum = cond (nat_lt 0 sum) (text_of (sum_parts f k sum)) []

abbrev pub marks_text : Figures → ℕ → ℕ → List ℕ
marks_text f k sum = text_of (ends_parts f k) ++ text_of (interval_parts f k) ++ sum_text f k sum

-- the marks of the first n stations
abbrev pub marks_to : Course → Figures → ℕ → List ℕ
marks_to d f zero = []
marks_to d f (suc n) = marks_to d f n ++ marks_text f n (station_sum d n)

-- the sum of all, and the end
abbrev pub end_parts : Figures → List (List ℕ)
end_parts f =
    codes "<text x=\"16\" y=\"" ∷ decimal (panel_of f + 115) ∷ codes "\">utility</text><text x=\"" ∷ decimal f.right
    ∷ codes "\" y=\"" ∷ decimal (panel_of f + 115) ∷ codes "\" text-anchor=\"end\">" ∷ decimal f.total
    ∷ codes "</text>\n</svg>\n" ∷ []

abbrev pub end_text : Figures → List ℕ
end_text f = text_of (end_parts f)

-- The picture with these figures.
abbrev pub picture_text : Course → Figures → List ℕ
picture_text d f =
    above_text f ++ panels_to f f.stations ++ rows_to d f f.units ++ marks_to d f f.stations ++ end_text f

-- The picture of a timeline.
abbrev pub timeline_text : Course → List ℕ
timeline_text d = picture_text d (figures_of d)

-- Each answer with its cause: the whole text, of at most 1,000 units and 64 stations; or there are more of either.
abbrev pub IsTimelineRead : Course → TimelineRead → Type 0
IsTimelineRead d (Text bytes) =
    (bytes.items ≡ timeline_text d) × (length d.units ≤ 1000) × (d.balance.stations ≤ 64)
IsTimelineRead d TooLarge = (1000 < length d.units) ⊎ (64 < d.balance.stations)
IsTimelineRead d NoMemory = Unit {0}
