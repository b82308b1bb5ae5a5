-- The whole picture of a certificate's balance.
use Rattle.std.specs.Prelude.{ℕ, zero, suc, ◌+◌, ◌*◌, ◌/◌, ◌%◌, nat_eq, cond, List, [], ◌∷◌, ◌++◌, codes, decimal}
use Rattle.line_instance.specs.Line.{Line}
use Rattle.line_rules.specs.Accepted.{upper_cycle}
use Rattle.line_rules.specs.declared.types.LineKind.{LineKind}
use Rattle.line_rules.specs.declared.types.LineKind.TheVariants.{Straight, U}
use Rattle.line_rules.specs.declared.types.Seatplace.{Seatplace}
use Rattle.line_rules.specs.declared.types.Balance.{Balance as Assignment}
use Rattle.line_rules.specs.declared.types.Ask.{Ask}
use Rattle.line_rules.specs.declared.types.Ask.TheVariants.{Stations, Cycle}
use Rattle.line_rules.specs.declared.types.Claim.{Claim}
use Rattle.line_rules.specs.declared.types.Claim.TheVariants.{TooLong, Bounds}
use Rattle.line_rules.specs.declared.types.Certificate.{Certificate}
use Rattle.line_drawing.specs.Segments.{segments_at}
use Rattle.line_drawing.specs.Notes.{note_of}
use Rattle.line_drawing.specs.Figures.{efficiency_of, figures_of, height_of, idle_of, sum_at, width_of}
use Rattle.line_drawing.specs.Parts.{text_of}
use Rattle.line_drawing.specs.Rows.{row_text}
use Rattle.line_drawing.specs.declared.figures.Figures.{Figures}

-- the kind of line
abbrev pub kind_word : LineKind → List ℕ
kind_word Straight = codes "Straight line, "
kind_word U = codes "U-line, "

-- the word for so many stations
abbrev pub station_word : ℕ → List ℕ
station_word n = cond (nat_eq n 1) (codes " station, cycle time ") (codes " stations, cycle time ")

-- HEAD: the kind of line, the stations and the cycle time
abbrev pub head_text : Figures → List ℕ
head_text f = kind_word f.kind ++ (decimal f.stations ++ (station_word f.stations ++ decimal f.cycle))

-- BOUNDS: what is asked, and the bounds of the certificate
abbrev pub ask_word : Ask → List ℕ
ask_word (Stations cycle) = codes "Stations: "
ask_word (Cycle stations) = codes "Cycle time: "

abbrev pub bounds_text : Ask → ℕ → ℕ → List ℕ
bounds_text a lower upper =
    ask_word a
    ++ cond (nat_eq lower upper) (codes "optimal") (codes "at least " ++ decimal lower ++ codes ", at most "
    ++ decimal upper)

-- the first lines: the size, and the title
abbrev pub size_parts : Figures → List (List ℕ)
size_parts f =
    codes "<svg xmlns=\"http://www.w3.org/2000/svg\" version=\"1.1\" width=\"" ∷ decimal (width_of f) ∷ codes
    "\" height=\"" ∷ decimal (height_of f)
    ∷ codes "\" viewBox=\"0 0 " ∷ decimal (width_of f) ∷ codes " " ∷ decimal (height_of f)
    ∷ codes "\" role=\"img\" font-family=\"Arial,sans-serif\" font-size=\"12\" shape-rendering=\"crispEdges\">\n<title>" ∷ []

abbrev pub size_text : Figures → List ℕ
size_text f = text_of (size_parts f)

abbrev pub ground_parts : Figures → List (List ℕ)
ground_parts f =
    codes "</title>\n<rect width=\"" ∷ decimal (width_of f) ∷ codes "\" height=\"" ∷ decimal (height_of f)
    ∷ codes "\" fill=\"#fff\"/>\n<text x=\"64\" y=\"28\" font-size=\"18\">" ∷ []

abbrev pub ground_text : Figures → List ℕ
ground_text f = text_of (ground_parts f)

abbrev pub top_text : Figures → List ℕ
top_text f = size_text f ++ head_text f ++ ground_text f ++ head_text f ++ codes "</text>\n<text x=\"64\" y=\"48\">"

-- the line of the totals
abbrev pub totals_parts : Figures → List (List ℕ)
totals_parts f =
    codes " (by the certificate)</text>\n<text x=\"64\" y=\"66\">Efficiency " ∷ decimal (efficiency_of f / 10) ∷ codes
    "." ∷ decimal (efficiency_of f % 10)
    ∷ codes " %, total time " ∷ decimal f.total ∷ codes ", idle time " ∷ decimal (idle_of f)
    ∷ codes ", longest station time " ∷ decimal f.longest ∷ codes "</text>\n" ∷ []

abbrev pub totals_text : Figures → List ℕ
totals_text f = text_of (totals_parts f)

-- what the colours mean, on a U-line
abbrev pub legend_text : LineKind → List ℕ
legend_text Straight = []
legend_text U = codes "<text x=\"104\" y=\"88\">light: front tasks, dark: back tasks</text>\n"

-- the heading of the notes, where there are some
abbrev pub notes_parts : Figures → List (List ℕ)
notes_parts f = codes "<text x=\"" ∷ decimal (936 + 2 * f.column) ∷ codes "\" y=\"88\">narrow tasks</text>\n" ∷ []

abbrev pub notes_text : Figures → List ℕ
notes_text f = cond (nat_eq f.notes 0) [] (text_of (notes_parts f))

-- the headings of the columns
abbrev pub headings_parts : Figures → List (List ℕ)
headings_parts f =
    codes "<g text-anchor=\"end\">\n<text x=\"56\" y=\"88\">station</text><text x=\"864\" y=\"88\">cycle time " ∷ decimal f.cycle
    ∷ codes "</text><text x=\"" ∷ decimal (864 + f.column) ∷ codes "\" y=\"88\">time</text><text x=\"" ∷ decimal
    (864 + 2 * f.column)
    ∷ codes "\" y=\"88\">idle</text>\n" ∷ []

abbrev pub headings_text : Figures → List ℕ
headings_text f = text_of (headings_parts f)

-- the row of a station
abbrev pub station_text : Line → Figures → List Seatplace → ℕ → List ℕ
station_text line f places k =
    let segments = segments_at line f.cycle places k in
    row_text f k (sum_at line places k) segments (note_of segments)

-- the rows of n stations, from station k on
abbrev pub rows_from : Line → Figures → List Seatplace → ℕ → ℕ → List ℕ
rows_from line f places k zero = []
rows_from line f places k (suc n) = station_text line f places k ++ rows_from line f places (suc k) n

-- the line where the cycle ends, and the end
abbrev pub end_parts : Figures → List (List ℕ)
end_parts f =
    codes "<path stroke=\"#000\" stroke-width=\"3\" d=\"M864 92v" ∷ decimal (24 * f.stations + 6) ∷ codes
    "\"/>\n</g>\n</svg>\n" ∷ []

abbrev pub end_text : Figures → List ℕ
end_text f = text_of (end_parts f)

-- what stands above the rows
abbrev pub above_text : Figures → Ask → ℕ → ℕ → List ℕ
above_text f a lower upper = top_text f ++ bounds_text a lower upper ++ totals_text f ++ legend_text f.kind
    ++ notes_text f ++ headings_text f

-- The picture of a balance, with the bounds that are claimed.
abbrev pub picture_text : Line → Figures → Ask → ℕ → ℕ → Assignment → List ℕ
picture_text line f a lower upper b = above_text f a lower upper ++ rows_from line f b.place 1 b.stations ++ end_text f

-- the picture of what is claimed; there is none of a task that is too long
abbrev pub claim_text : Line → LineKind → Ask → Claim → List ℕ
claim_text line kind a (TooLong task) = []
claim_text line kind a (Bounds lower upper b es trail) = picture_text line
    (figures_of line kind (upper_cycle a upper) b) a lower upper b

-- The picture of a certificate.
abbrev pub drawing_text : Line → Certificate → List ℕ
drawing_text line cert = claim_text line cert.kind cert.ask cert.claim
