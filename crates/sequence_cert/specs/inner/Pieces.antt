-- Pieces of lines as they are put.
use Rattle.std.specs.Prelude.{ℕ, List, [], ◌∷◌, ◌++◌}
use Rattle.cert_lines.specs.Numbers.{number_text, cites_text}

-- what is left and the starts, each behind a blank, and a blank
abbrev pub state_text : List ℕ → List ℕ → List ℕ
state_text rem starts = 32 ∷ (cites_text rem ++ 32 ∷ (cites_text starts ++ 32 ∷ []))

-- what an entry with cites says behind its first word
abbrev pub cited_text : List ℕ → List ℕ → ℕ → List ℕ → List ℕ
cited_text rem starts least cites =
    state_text rem starts ++ (number_text least ++ (32 ∷ (cites_text cites ++ 10 ∷ [])))
