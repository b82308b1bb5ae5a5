-- The text of a certificate: that of the least version that can hold it, which is written; and that of version 3, which
-- is read as well.
use Rattle.std.specs.Prelude.{ℕ, suc, cond, List, [], ◌∷◌, ◌++◌, length, map, Option, Some, None, codes}
use Rattle.line_rules.specs.declared.types.LineKind.{LineKind}
use Rattle.line_rules.specs.declared.types.Balance.{Balance as Assignment}
use Rattle.line_rules.specs.declared.types.Entry.{Entry}
use Rattle.line_rules.specs.declared.types.Trail.{Trail}
use Rattle.line_rules.specs.declared.types.Ask.{Ask}
use Rattle.line_rules.specs.declared.types.Claim.{Claim}
use Rattle.line_rules.specs.declared.types.Claim.TheVariants as claim
use Rattle.line_rules.specs.declared.types.Certificate.{Certificate}
use Rattle.cert_lines.specs.Rows.{Row, fixed, keyed, trail, rows_text}
use Rattle.cert_lines.specs.ValueRows.{kind_row, ask_row, seat_row, entry_row, frame_row}
use Rattle.cert_lines.specs.LineForms.{version_row}
use Rattle.cert_lines.specs.declared.line_forms.Version.{Version}
use Rattle.cert_lines.specs.declared.line_forms.Version.TheVariants as version
pub use Rattle.entry_lists.specs.PairEntries.{has_pairs}

-- the lines of a trail, or of none
abbrev pub trail_rows : ℕ → Option Trail → List Row
trail_rows n None = trail None ∷ []
trail_rows n (Some t) = trail (Some (length t.frames, t.cycle)) ∷ map (frame_row n) t.frames

-- the lines of entries and a trail
abbrev pub list_rows : ℕ → List Entry → Option Trail → List Row
list_rows n es left = keyed (codes "entries") (length es) ∷ (map (entry_row n) es ++ trail_rows n left)

-- the lines of bounds, up to the places
abbrev pub bounds_rows : LineKind → ℕ → ℕ → Assignment → List Row
bounds_rows kind lower upper b =
    keyed (codes "lower") lower ∷ keyed (codes "upper") upper ∷ keyed (codes "balance") b.stations ∷ map (seat_row kind)
    b.place

-- the lines of a claim that a task is too long
abbrev pub infeasible_rows : ℕ → List Row
infeasible_rows task = keyed (codes "infeasible") (suc task) ∷ fixed (codes "end") ∷ []

-- the lines of a claim
abbrev pub claim_rows : LineKind → ℕ → Claim → List Row
claim_rows kind n (claim.TooLong task) = infeasible_rows task
claim_rows kind n (claim.Bounds lower upper b es left) = bounds_rows kind lower upper b
    ++ (list_rows n es left ++ fixed (codes "end") ∷ [])

-- the lines of the kind of line, the number of tasks and the question
abbrev pub head_rows : LineKind → ℕ → Ask → List Row
head_rows kind n a = kind_row kind ∷ keyed (codes "tasks") n ∷ ask_row a ∷ []

-- the least version of a text with one list of entries that can hold the claim: version 3 where an entry is by pairs,
-- else version 2
abbrev pub least_version : Claim → Version
least_version (claim.TooLong task) = version.Two
least_version (claim.Bounds lower upper b es left) = cond (has_pairs es) version.Three version.Two

-- The lines of a certificate behind the first line of a version.
abbrev pub rows_in : Version → Certificate → List Row
rows_in v cert = version_row v ∷ (head_rows cert.kind cert.tasks cert.ask
    ++ claim_rows cert.kind cert.tasks cert.claim)

-- The lines of a certificate: those of version 3 where an entry is by pairs, else those of version 2.
unfoldable pub cert_rows : Certificate → List Row
cert_rows cert = rows_in (least_version cert.claim) cert

-- The text of a certificate.
abbrev pub cert_text : Certificate → List ℕ
cert_text cert = rows_text (cert_rows cert)

-- The text of a certificate in version 3, with an entry by pairs or without.
abbrev pub newest_text : Certificate → List ℕ
newest_text cert = rows_text (rows_in version.Three cert)
