-- The printed texts of bounds, and of a seek before a search.
use Rattle.std.specs.Prelude.{ℕ, List, [], ◌++◌, cond, nat_eq, codes, decimal}

-- the line with both bounds
abbrev pub bounds_line : ℕ → ℕ → List ℕ
bounds_line lower upper = codes "bounds " ++ decimal lower ++ codes " " ++ decimal upper ++ codes "\n"

-- the report of a search that memory ended: its bounds
abbrev pub cut_short_text : ℕ → ℕ → List ℕ
cut_short_text lower upper = codes "stopped by memory\n" ++ bounds_line lower upper

-- the line that says how many units a seek used of those that it might use, and how many of its lemmas were kept
abbrev pub seek_line : ℕ → ℕ → ℕ → List ℕ
seek_line used limit kept =
    codes "seek used " ++ decimal used ++ codes " of " ++ decimal limit ++ codes " kept " ++ decimal kept ++ codes "\n"

-- the first line of a report on a search whose tries may each seek with so many loads: that on all their seeks, and none
-- where there are no loads
abbrev pub seek_text : ℕ → ℕ → ℕ → ℕ → List ℕ
seek_text loads used limit kept = cond (nat_eq loads 0) [] (seek_line used limit kept)
