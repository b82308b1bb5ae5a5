-- How numbers, sets of tasks, lists of cites and loads are written.
use Rattle.std.specs.Prelude.{ℕ, zero, suc, ◌+◌, ◌*◌, ◌/◌, ◌%◌, nat_lt, cond, Bool, ◌&&◌, false, List, [], ◌∷◌, ◌++◌}
use Rattle.std.specs.Prelude.{map, Option, Some, None, slice_index_or}
use Rattle.std.specs.List.{range_with_len, flat_map}
pub use Rattle.line_rules.specs.lines.Truths.{IsEmpty}
use Rattle.line_rules.specs.declared.types.Mode.{Mode}
use Rattle.line_rules.specs.declared.types.Mode.TheVariants.{Fore, Back, Both}
use Rattle.line_rules.specs.declared.types.Load.{Load}

-- the digits of a number, at most so many
unfoldable pub digits_within : ℕ → ℕ → List ℕ
digits_within zero n = []
digits_within (suc room) n = cond (nat_lt n 10) ((48 + n) ∷ []) (digits_within room (n / 10) ++ (48 + n % 10) ∷ [])

-- the text of a number: its last digit behind those of a tenth of it, so without a needless 0 in front
unfoldable pub number_text : ℕ → List ℕ
number_text n = digits_within (suc n) n

-- 1 where i is one of the n tasks and a member of the set
abbrev pub member : ℕ → List Bool → ℕ → ℕ
member n s i = cond (nat_lt i n && slice_index_or s i false) 1 0

-- the four tasks from 4k on as a number below 16, the first of them as its highest bit
abbrev pub four : ℕ → List Bool → ℕ → ℕ
four n s k = 8 * member n s (4 * k) + 4 * member n s (4 * k + 1) + 2 * member n s (4 * k + 2) + member n s (4 * k + 3)

-- the digit of a number below 16: 0 to 9, a to f
abbrev pub hex_digit : ℕ → ℕ
hex_digit d = cond (nat_lt d 10) (48 + d) (87 + d)

-- the text of a set of n tasks: a digit for each four of them
unfoldable pub set_text : ℕ → List Bool → List ℕ
set_text n s = map (λ k. hex_digit (four n s k)) (range_with_len 0 ((n + 3) / 4))

-- the text of cites: `-` for none, else the first number, and each further one behind a comma
abbrev pub cites_text : List ℕ → List ℕ
cites_text [] = 45 ∷ []
cites_text (c ∷ cs) = number_text c ++ flat_map (λ d. 44 ∷ number_text d) cs

-- the letter of a mode: f, b or u
abbrev pub mode_letter : Mode → ℕ
mode_letter Fore = 102
mode_letter Back = 98
mode_letter Both = 117

-- the text of a load: its front or its back, and both with a stroke between where the mode has both
abbrev pub load_text : ℕ → Mode → Load → List ℕ
load_text n Fore l = set_text n l.front
load_text n Back l = set_text n l.back
load_text n Both l = set_text n l.front ++ 47 ∷ set_text n l.back

-- the text of a last load: `-` for none
abbrev pub last_text : ℕ → Mode → Option Load → List ℕ
last_text n mode None = 45 ∷ []
last_text n mode (Some l) = load_text n mode l
