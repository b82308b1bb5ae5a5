-- The text of records that are written one behind the other, and that those with commas between their fields are read
-- again.
use Rattle.std.proofs.Common.{◌≡◌, ◌≤◌, ℕ, zero, suc, ◌+◌, List, [], ◌∷◌, ◌++◌, length, refl, sym, ◌∙◌, ap, arith}
use Rattle.std.proofs.Common.{length-append, append-nil, append_assoc}
use Rattle.std.specs.Prelude.{map, if◌then◌else◌}
use Rattle.csv.specs.Machine.{next_record}
use Rattle.csv.specs.Reading.{default_config, records_from, records_next}
use Rattle.csv.specs.Writing.{default_writer, is_blank, read_back, row_body, row_text}
use Rattle.csv.specs.declared.parser.State.TheVariants as st
use Rattle.csv.proofs.RoundTrip.{read-write}
use Rattle.sheet_rows.specs.SheetRows.{EverySheetIsRead, Sheet, rows_text, with_row, with_rows, written_with}

-- records are behind a text as their own text is
pub rows_behind : (sheet : Sheet) (rows : List (List (List ℕ)))
    → with_rows sheet rows ≡ record sheet { text = sheet.text ++ rows_text sheet.mark rows }
rows_behind sheet [] =
    let same : sheet.text ≡ sheet.text ++ [] = sym (append-nil sheet.text) in
    ap (λ (t : List ℕ). record sheet { text = t }) same
rows_behind sheet (row ∷ rows) =
    let first : List ℕ = row_text (written_with sheet.mark) row in
    rows_behind (with_row sheet row) rows
    ∙ ap (λ (t : List ℕ). record sheet { text = t }) (append_assoc sheet.text first (rows_text sheet.mark rows))

pub rows_alone : (mark : ℕ) (rows : List (List (List ℕ)))
    → (with_rows (record { mark = mark; text = [] }) rows).text ≡ rows_text mark rows
rows_alone mark rows = ap (λ (s : Sheet). s.text) (rows_behind (record { mark = mark; text = [] }) rows)

-- records behind others
pub rows_after : (sheet : Sheet) (rows more : List (List (List ℕ)))
    → with_rows sheet (rows ++ more) ≡ with_rows (with_rows sheet rows) more
rows_after sheet [] more = refl
rows_after sheet (row ∷ rows) more = rows_after (with_row sheet row) rows more

-- a record takes a byte or more
row_some : (r : List (List ℕ)) → 1 ≤ length (row_text default_writer r)
row_some r =
    let end : List ℕ = 10 ∷ [] in
    let blank : List ℕ = if is_blank default_writer r then 34 ∷ 34 ∷ [] else [] in
    omega (
      arith,
      length-append (row_body default_writer r) (blank ++ end),
      length-append blank end,
    )

rows_some : (rows : List (List (List ℕ))) → length rows ≤ length (rows_text 44 rows)
rows_some [] = omega arith
rows_some (r ∷ rows) =
    omega (arith, length-append (row_text default_writer r) (rows_text 44 rows), row_some r, rows_some rows)

-- where enough records are asked for, they are those that were written
asked : (n : ℕ) (rows : List (List (List ℕ))) → length rows ≤ n
    → records_from default_config n st.StartRecord (rows_text 44 rows) ≡ map read_back rows
unfolding records_from next_record
asked zero [] l = refl
asked (suc n) [] l = refl
asked zero (r ∷ rows) l = absurd (omega (arith, l))
asked (suc n) (r ∷ rows) l =
    ap (records_next (records_from default_config n)) (read-write r (rows_text 44 rows))
    ∙ ap (λ (t : List (List (List ℕ))). read_back r ∷ t) (asked n rows (omega (arith, l)))

pub read_again : EverySheetIsRead
read_again rows = asked (length (rows_text 44 rows) + 1) rows (omega (arith, rows_some rows))
