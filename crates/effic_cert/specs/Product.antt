-- The text of a certificate of the least product of stations and cycle: that of the least version that can hold it,
-- which is written; and that of version 2, which is read as well.
use Rattle.std.specs.Prelude.{List, ℕ, Bool, true, false, cond, [], ◌∷◌, ◌++◌, map, codes}
use Rattle.cert_lines.specs.Rows.{Row, fixed, keyed, span, rows_text}
use Rattle.cert_lines.specs.ValueRows.{kind_row, seat_row}
use Rattle.cert_text.specs.Cert.{list_rows, has_pairs}
use Rattle.line_rules.specs.declared.types.Entry.{Entry}
use Rattle.line_rules.specs.declared.products.EfficCert.{EfficCert}
use Rattle.effic_cert.specs.declared.version.Version.{Version}
use Rattle.effic_cert.specs.declared.version.Version.TheVariants as version

-- the lines up to the numbers of stations that are asked for
abbrev pub asked_rows : EfficCert → List Row
asked_rows cert = kind_row cert.kind ∷ keyed (codes "tasks") cert.tasks ∷ span
    (codes "stations") cert.least_m cert.most_m ∷ []

-- the lines of the cycle and of the bounds on the product
abbrev pub bound_rows : EfficCert → List Row
bound_rows cert = keyed (codes "cycle") cert.cycle ∷ keyed (codes "lower") cert.lower ∷ keyed
    (codes "upper") cert.upper ∷ []

-- the lines of the balance
abbrev pub balance_rows : EfficCert → List Row
balance_rows cert = keyed (codes "balance") cert.balance.stations ∷ map (seat_row cert.kind) cert.balance.place

-- the lines behind the first one
abbrev pub body_rows : EfficCert → List Row
body_rows cert = asked_rows cert
    ++ (bound_rows cert ++
    (balance_rows cert ++ (list_rows cert.tasks cert.entries cert.trail ++ fixed (codes "end") ∷ [])))

-- the first line of a version
abbrev pub version_line : Version → List ℕ
version_line version.One = codes "line balance product 1"
version_line version.Two = codes "line balance product 2"

-- whether a text of the version may have entries by pairs
abbrev pub may_have_pairs : Version → Bool
may_have_pairs version.One = false
may_have_pairs version.Two = true

-- the least version that can hold the entries: version 2 where one is by pairs, else version 1
abbrev pub least_version : List Entry → Version
least_version es = cond (has_pairs es) version.Two version.One

-- The lines of a certificate behind the first line of a version.
abbrev pub rows_in : Version → EfficCert → List Row
rows_in v cert = fixed (version_line v) ∷ body_rows cert

-- The lines of a certificate: those of version 2 where an entry is by pairs, else those of version 1.
unfoldable pub product_rows : EfficCert → List Row
product_rows cert = rows_in (least_version cert.entries) cert

-- The text of a certificate.
abbrev pub product_text : EfficCert → List ℕ
product_text cert = rows_text (product_rows cert)

-- The text of a certificate in version 2, with an entry by pairs or without.
abbrev pub newer_text : EfficCert → List ℕ
newer_text cert = rows_text (rows_in version.Two cert)
