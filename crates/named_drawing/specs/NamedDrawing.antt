-- The whole picture of a certificate's balance, with the names of the tasks.
use Rattle.std.specs.Prelude.{ℕ, zero, suc, ◌+◌, ◌*◌, List, [], ◌∷◌, ◌++◌, codes, decimal}
use Rattle.line_instance.specs.Line.{Line}
use Rattle.line_rules.specs.Accepted.{upper_cycle}
use Rattle.line_rules.specs.declared.types.LineKind.{LineKind}
use Rattle.line_rules.specs.declared.types.Seatplace.{Seatplace}
use Rattle.line_rules.specs.declared.types.Balance.{Balance as Assignment}
use Rattle.line_rules.specs.declared.types.Ask.{Ask}
use Rattle.line_rules.specs.declared.types.Claim.{Claim}
use Rattle.line_rules.specs.declared.types.Claim.TheVariants.{TooLong, Bounds}
use Rattle.line_rules.specs.declared.types.Certificate.{Certificate}
use Rattle.line_drawing.specs.Segments.{segments_at}
use Rattle.line_drawing.specs.Figures.{sum_at, width_of}
use Rattle.line_drawing.specs.Parts.{text_of}
use Rattle.line_drawing.specs.Drawing.{bounds_text, head_text, headings_text, legend_text, notes_text, totals_text}
use Rattle.line_drawing.specs.declared.figures.Figures.{Figures}
use Rattle.named_drawing.specs.Labels.{named_note}
use Rattle.named_drawing.specs.Page.{page_height, page_of}
use Rattle.named_drawing.specs.NamedRows.{named_row}
use Rattle.named_drawing.specs.TaskList.{list_text}
use Rattle.named_drawing.specs.declared.page.Page.{Page}

-- the first lines: the size, and the title
abbrev pub size_parts : Page → List (List ℕ)
size_parts p =
    codes "<svg xmlns=\"http://www.w3.org/2000/svg\" version=\"1.1\" width=\"" ∷ decimal (width_of p.figures)
    ∷ codes "\" height=\"" ∷ decimal (page_height p)
    ∷ codes "\" viewBox=\"0 0 " ∷ decimal (width_of p.figures) ∷ codes " " ∷ decimal (page_height p)
    ∷ codes "\" role=\"img\" font-family=\"Arial,sans-serif\" font-size=\"12\" shape-rendering=\"crispEdges\">\n<title>" ∷ []

abbrev pub size_text : Page → List ℕ
size_text p = text_of (size_parts p)

abbrev pub ground_parts : Page → List (List ℕ)
ground_parts p =
    codes "</title>\n<rect width=\"" ∷ decimal (width_of p.figures) ∷ codes "\" height=\"" ∷ decimal (page_height p)
    ∷ codes "\" fill=\"#fff\"/>\n<text x=\"64\" y=\"28\" font-size=\"18\">" ∷ []

abbrev pub ground_text : Page → List ℕ
ground_text p = text_of (ground_parts p)

abbrev pub top_text : Page → List ℕ
top_text p =
    size_text p ++ head_text p.figures ++ ground_text p ++ head_text p.figures
    ++ codes "</text>\n<text x=\"64\" y=\"48\">"

-- what stands above the rows
abbrev pub above_text : Page → Ask → ℕ → ℕ → List ℕ
above_text p a lower upper =
    top_text p ++ bounds_text a lower upper ++ totals_text p.figures ++ legend_text p.figures.kind
    ++ notes_text p.figures ++ headings_text p.figures

-- the row of a station
abbrev pub station_text : Line → Figures → List (List ℕ) → List Seatplace → ℕ → List ℕ
station_text line f names places k =
    let segments = segments_at line f.cycle places k in
    named_row f names k (sum_at line places k) segments (named_note names segments)

-- the rows of n stations, from station k on
abbrev pub rows_from : Line → Figures → List (List ℕ) → List Seatplace → ℕ → ℕ → List ℕ
rows_from line f names places k zero = []
rows_from line f names places k (suc n) = station_text line f names places k
    ++ rows_from line f names places (suc k) n

-- the line where the cycle ends
abbrev pub end_parts : Figures → List (List ℕ)
end_parts f =
    codes "<path stroke=\"#000\" stroke-width=\"3\" d=\"M864 92v" ∷ decimal (36 * f.stations + 6) ∷ codes
    "\"/>\n</g>\n" ∷ []

abbrev pub end_text : Figures → List ℕ
end_text f = text_of (end_parts f)

-- The picture of a balance with names, with the bounds that are claimed.
abbrev pub named_picture : Line → Page → List (List ℕ) → Ask → ℕ → ℕ → Assignment → List ℕ
named_picture line p names a lower upper b =
    above_text p a lower upper
    ++ rows_from line p.figures names b.place 1 b.stations
    ++ end_text p.figures
    ++ list_text line p names b.place

-- the picture of what is claimed; there is none of a task that is too long
abbrev pub named_claim : Line → List (List ℕ) → LineKind → Ask → Claim → List ℕ
named_claim line names kind a (TooLong task) = []
named_claim line names kind a (Bounds lower upper b es trail) =
    named_picture line (page_of line kind (upper_cycle a upper) names b) names a lower upper b

-- The picture of a certificate, with the names of the tasks.
abbrev pub named_drawing_text : Line → List (List ℕ) → Certificate → List ℕ
named_drawing_text line names cert = named_claim line names cert.kind cert.ask cert.claim
