-- The text of a certificate of a sequence of least utility work: version 1, or version 2 where there are charges.
use Rattle.std.specs.Prelude.{ℕ, suc, List, [], ◌∷◌, ◌++◌, length, map, Option, Some, None, codes}
use Rattle.line_rules.specs.declared.types.LineKind.TheVariants.{Straight}
use Rattle.line_rules.specs.declared.types.Side.TheVariants.{Front}
use Rattle.cert_lines.specs.Rows.{Row, fixed, keyed, seat, state_entry, state_frame, row_entry, joined, rows_text}
use Rattle.sequence_values.specs.declared.types.SeqEntry.{SeqEntry}
use Rattle.sequence_values.specs.declared.types.SeqFrame.{SeqFrame}
use Rattle.sequence_values.specs.declared.types.SeqWhy.{SeqWhy}
use Rattle.sequence_values.specs.declared.types.SeqWhy.TheVariants as why
use Rattle.sequence_values.specs.declared.types.SeqCert.{SeqCert}

-- the line of a unit: its model, counted from 1
abbrev pub unit_row : ℕ → Row
unit_row model = seat Straight (suc model) Front

-- the line of an entry by its reason: by Charge the units of the rows stand in place of what is left of each model
-- (own)
abbrev pub row_by : SeqEntry → SeqWhy → Row
row_by e why.Bound = state_entry e.rem e.starts e.least None
row_by e (why.Branch cites) = state_entry e.rem e.starts e.least (Some cites)
row_by e (why.Charge cites) = row_entry e.rem e.starts e.least cites

-- the line of an entry
abbrev pub entry_row : SeqEntry → Row
entry_row e = row_by e e.why

-- a model, where there is one, counted from 1
abbrev pub counted : Option ℕ → Option ℕ
counted None = None
counted (Some model) = Some (suc model)

-- the line of a frame
abbrev pub frame_row : SeqFrame → Row
frame_row f = state_frame f.rem f.starts f.need (counted f.last) f.cites

-- how many values there are, behind a word, and a line for each of them
abbrev pub counted_rows : {V : Type 0} → List ℕ → (V → Row) → List V → List Row
counted_rows key row vs = keyed key (length vs) ∷ map row vs

-- the first line: version 2 where there are charges, else version 1 (own)
abbrev pub first_line : Option (List ℕ) → List ℕ
first_line None = codes "utility sequence certificate 1"
first_line (Some charges) = codes "utility sequence certificate 2"

-- the lines of the numbers of models and of stations
abbrev pub size_rows : ℕ → ℕ → List Row
size_rows models stations = keyed (codes "models") models ∷ keyed (codes "stations") stations ∷ []

-- the line of the charges of the models (own)
abbrev pub charges_row : List ℕ → Row
charges_row charges = joined (codes "charges") charges

-- the same, where there are charges; else no line (own)
abbrev pub charges_rows : Option (List ℕ) → List Row
charges_rows None = []
charges_rows (Some charges) = charges_row charges ∷ []

-- the lines of the bounds
abbrev pub bound_rows : ℕ → ℕ → List Row
bound_rows lower upper = keyed (codes "lower") lower ∷ keyed (codes "upper") upper ∷ []

-- the lines of the sequence, of the entries and of the frames
abbrev pub unit_rows : List ℕ → List Row
unit_rows sequence = counted_rows (codes "units") unit_row sequence

abbrev pub entry_rows : List SeqEntry → List Row
entry_rows entries = counted_rows (codes "entries") entry_row entries

abbrev pub frame_rows : List SeqFrame → List Row
frame_rows frames = counted_rows (codes "trail") frame_row frames

-- the lines behind the bounds
abbrev pub list_rows : List ℕ → List SeqEntry → List SeqFrame → List Row
list_rows sequence entries frames =
    unit_rows sequence ++ (entry_rows entries ++ (frame_rows frames ++ fixed (codes "end") ∷ []))

-- the lines behind the first one
abbrev pub body_rows : SeqCert → List Row
body_rows cert = size_rows cert.models cert.stations
    ++ (charges_rows cert.charges
    ++ (bound_rows cert.lower cert.upper ++ list_rows cert.sequence cert.entries cert.frames))

-- The lines of a certificate.
unfoldable pub sequence_rows : SeqCert → List Row
sequence_rows cert = fixed (first_line cert.charges) ∷ body_rows cert

-- The text of a certificate.
abbrev pub sequence_text : SeqCert → List ℕ
sequence_text cert = rows_text (sequence_rows cert)
