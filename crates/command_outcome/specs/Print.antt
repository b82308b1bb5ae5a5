-- How names are printed.
use Rattle.std.specs.Prelude.{ℕ, cond, ◌||◌, nat_lt, nat_eq, List, map}

-- a byte of a name as it is printed: one below 32 or equal to 127 stands as `?`, so that no name makes a second line
abbrev pub printed_byte : ℕ → ℕ
printed_byte b = cond (nat_lt b 32 || nat_eq b 127) 63 b

-- a name as it is printed
abbrev pub printed : List ℕ → List ℕ
printed name = map printed_byte name
