-- The text of a certificate of version 1, which is read and not written.
use Rattle.std.specs.Prelude.{ℕ, List, [], ◌∷◌, ◌++◌, length, map, None, codes}
use Rattle.line_rules.specs.declared.types.LineKind.{LineKind}
use Rattle.line_rules.specs.declared.types.Entry.{Entry}
use Rattle.line_rules.specs.declared.types.OpenFrame.{OpenFrame}
use Rattle.cert_lines.specs.Rows.{Row, fixed, keyed, rows_text}
use Rattle.cert_lines.specs.ValueRows.{why_row, frame_row}
use Rattle.entry_lists.specs.declared.version_one.Part.{Part}
use Rattle.entry_lists.specs.declared.version_one.OldClaim.{OldClaim}
use Rattle.entry_lists.specs.declared.version_one.OldClaim.TheVariants as claim
pub use Rattle.entry_lists.specs.declared.version_one.OldCertificate.{OldCertificate}
pub use Rattle.entry_lists.specs.OldRanges.{IsOldInRange}
use Rattle.cert_text.specs.Cert.{head_rows, bounds_rows, infeasible_rows}

-- the line of an entry without its cycle
abbrev pub short_row : ℕ → Entry → Row
short_row n e = why_row n None e e.why

-- the lines of frames behind their number
abbrev pub old_trail_rows : ℕ → List OpenFrame → List Row
old_trail_rows n fs = keyed (codes "trail") (length fs) ∷ map (frame_row n) fs

-- the lines of a part: its cycle, its entries, its frames
abbrev pub part_rows : ℕ → Part → List Row
part_rows n p = keyed (codes "part") p.cycle ∷ keyed (codes "entries")
    (length p.entries) ∷ (map (short_row n) p.entries ++ old_trail_rows n p.frames)

-- the lines of parts, one behind the other
abbrev pub parts_rows : ℕ → List Part → List Row
parts_rows n [] = []
parts_rows n (p ∷ ps) = part_rows n p ++ parts_rows n ps

-- the lines of parts behind their number
abbrev pub counted_rows : ℕ → List Part → List Row
counted_rows n ps = keyed (codes "parts") (length ps) ∷ parts_rows n ps

-- the lines of a claim
abbrev pub old_claim_rows : LineKind → ℕ → OldClaim → List Row
old_claim_rows kind n (claim.TooLong task) = infeasible_rows task
old_claim_rows kind n (claim.Bounds lower upper b ps) = bounds_rows kind lower upper b
    ++ (counted_rows n ps ++ fixed (codes "end") ∷ [])

-- The lines of a certificate in version 1.
unfoldable pub old_rows : OldCertificate → List Row
old_rows old = fixed (codes "line balance certificate 1") ∷ (head_rows old.kind old.tasks old.ask
    ++ old_claim_rows old.kind old.tasks old.claim)

-- The text of a certificate of version 1.
abbrev pub old_text : OldCertificate → List ℕ
old_text old = rows_text (old_rows old)
