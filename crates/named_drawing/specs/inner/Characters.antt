-- The pass over the characters of a name.
use Rattle.std.specs.Prelude.{ℕ, nat_eq, cond, List, codes}
use Rattle.std.specs.Char.{encode_utf8}

-- a character as it stands in the text
abbrev pub escaped_char : ℕ → List ℕ
escaped_char c =
    cond (nat_eq c 38) (codes "&amp;") (cond (nat_eq c 60) (codes "&lt;") (cond (nat_eq c 62) (codes "&gt;")
    (encode_utf8 c)))
