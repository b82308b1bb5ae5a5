-- Lists of numbers that stand in rows, one row behind the other (own).
use Rattle.std.specs.Prelude.{ℕ, ◌+◌, ◌*◌, List, [], length, slice_range, nat_le, if◌then◌else◌}

-- row k of a list whose rows have so many numbers each; no number where the list doesn't hold all of that row (own)
abbrev pub row_at : List ℕ → ℕ → ℕ → List ℕ
row_at all width k =
    if nat_le (k * width + width) (length all) then slice_range all (k * width) (k * width + width) else []
