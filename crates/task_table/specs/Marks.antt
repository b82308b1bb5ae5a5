-- How a text is known to be a table: by its first word and the mark behind it (own).
use Rattle.std.specs.Prelude.{ℕ, Bool, ◌||◌, nat_eq, bytes_eq, cond, codes, List, [], ◌∷◌, length, take, drop, map}
use Rattle.std.specs.Prelude.{Option, Some, None}
use Rattle.std.specs.Char.{to_ascii_lowercase}
use Rattle.csv.specs.Reading.{strip_bom}

-- whether a text begins with a byte-order mark
abbrev pub has_bom : List ℕ → Bool
has_bom bytes = bytes_eq (take 3 bytes) (239 ∷ 187 ∷ 191 ∷ [])

-- a text from its first byte on that is neither CR nor LF
abbrev pub past_ends : List ℕ → List ℕ
past_ends [] = []
past_ends (b ∷ bytes) = cond (nat_eq b 13 || nat_eq b 10) (past_ends bytes) (b ∷ bytes)

-- a text with its letters A to Z as a to z
abbrev pub lowered : List ℕ → List ℕ
lowered bytes = map to_ascii_lowercase bytes

-- what may stand between two fields: a comma, a semicolon or a tab
abbrev pub is_mark : ℕ → Bool
is_mark b = nat_eq b 44 || (nat_eq b 59 || nat_eq b 9)

-- the mark that a text begins with
abbrev pub first_mark : List ℕ → Option ℕ
first_mark [] = None
first_mark (b ∷ bytes) = cond (is_mark b) (Some b) None

-- the mark behind a word, where a text begins with the word
abbrev pub mark_behind : List ℕ → List ℕ → Option ℕ
mark_behind word text =
    cond (bytes_eq (lowered (take (length word) text)) word) (first_mark (drop (length word) text)) None

-- the one mark, or else the other
abbrev pub either_mark : Option ℕ → Option ℕ → Option ℕ
either_mark (Some mark) other = Some mark
either_mark None other = other

-- The mark of a table, and none where a text is no table's: behind a byte-order mark, where there is one, and then any
-- CR and LF, the text goes on with `task`, with or without double quotes, and the mark.
abbrev pub table_mark : List ℕ → Option ℕ
table_mark bytes = let text = past_ends (strip_bom bytes) in
    either_mark (mark_behind (codes "task") text) (mark_behind (codes "\"task\"") text)
