-- A piece of a line that several lines have.
use Rattle.std.specs.Prelude.{ℕ, List, ◌∷◌, ◌++◌, suc}
use Rattle.line_rules.specs.declared.types.Entry.{Entry}
use Rattle.cert_lines.specs.Numbers.{number_text, set_text}

-- the cycle, the set and the number of stations of an entry, each behind a blank
abbrev pub question_text : ℕ → Entry → List ℕ
question_text n e = 32 ∷ number_text e.cycle ++ 32 ∷ set_text n e.set ++ 32 ∷ number_text e.most

-- the cite and the tasks of a swap, counted from 1, each behind a blank
abbrev pub swap_text : ℕ → ℕ → ℕ → List ℕ
swap_text cite out into = 32 ∷ number_text cite ++ 32 ∷ number_text (suc out) ++ 32 ∷ number_text (suc into)
