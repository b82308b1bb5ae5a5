-- The printed lines of `try`.
use Rattle.std.specs.Prelude.{ℕ, List, ◌++◌, codes, decimal}

-- the line and its status
abbrev pub status_words : ℕ → ℕ → ℕ → List ℕ
status_words seed n code = codes "try seed " ++ decimal seed ++ codes " tasks " ++ decimal n ++ codes " status "
    ++ decimal code

-- the bounds, which are accepted
abbrev pub bounds_words : ℕ → ℕ → List ℕ
bounds_words lower upper = codes " lower " ++ decimal lower ++ codes " upper " ++ decimal upper ++ codes " accepted\n"

-- the line of bounds, with the exit code of the solve
abbrev pub bounds_line : ℕ → ℕ → ℕ → ℕ → ℕ → List ℕ
bounds_line seed n code lower upper = status_words seed n code ++ bounds_words lower upper

-- the line where a task is longer than the cycle
abbrev pub none_line : ℕ → ℕ → List ℕ
none_line seed n = codes "try seed " ++ decimal seed ++ codes " tasks " ++ decimal n ++ codes " infeasible\n"
