-- How words and lines are read. Numbers are read up to 2^64 - 1, which is above each range.
use Rattle.std.specs.Prelude.{ℕ, zero, suc, ◌+◌, ◌-◌, ◌*◌, ◌/◌, ◌%◌, ◌^◌, min, Bool, true, false, cond, ◌&&◌, ◌||◌, not}
use Rattle.std.specs.Prelude.{nat_eq, nat_le, nat_lt, List, [], ◌∷◌, length, slice_set, Option, Some, None, replicate}
use Rattle.line_io.specs.Lines.{is_digit, all_digits, value_of, onto_first}
use Rattle.line_rules.specs.declared.types.Mode.{Mode}
use Rattle.line_rules.specs.declared.types.Mode.TheVariants.{Fore, Back, Both}

infixl 10 ◌>>=◌
abbrev pub ◌>>=◌ : {A B : Type 0} → Option A → (A → Option B) → Option B
None >>= f = None
(Some x) >>= f = f x

-- a byte in front of a first part
abbrev pub onto_part : ℕ → Option (List ℕ × List ℕ) → Option (List ℕ × List ℕ)
onto_part b None = None
onto_part b (Some p) = Some (b ∷ p.0, p.1)

-- what stands before the first byte of this value and behind it
unfoldable pub parts_at : ℕ → List ℕ → Option (List ℕ × List ℕ)
parts_at mark [] = None
parts_at mark (b ∷ bytes) = cond (nat_eq b mark) (Some ([], bytes)) (onto_part b (parts_at mark bytes))

-- the greatest number that is told apart from greater ones
abbrev pub greatest : ℕ
greatest = 2 ^ 64 - 1

-- no digit, or a needless 0 in front
abbrev pub is_unplain : List ℕ → Bool
is_unplain [] = true
is_unplain (b ∷ []) = false
is_unplain (b ∷ c ∷ bytes) = nat_eq b 48

-- the number that a word is
unfoldable pub number_in : List ℕ → Option ℕ
number_in word = cond (is_unplain word || not (all_digits word)) None (Some (min (value_of word) greatest))

-- the number in front of a blank, and what stands behind it
unfoldable pub number_first : List ℕ → Option (ℕ × List ℕ)
number_first bytes = do
  p ← parts_at 32 bytes
  n ← number_in p.0
  Some (n, p.1)

-- the mode of a letter
abbrev pub mode_of_letter : ℕ → Option Mode
mode_of_letter b = cond (nat_eq b 102) (Some Fore) (cond (nat_eq b 98) (Some Back)
    (cond (nat_eq b 117) (Some Both) None))

-- the mode that a word is
unfoldable pub mode_in : List ℕ → Option Mode
mode_in [] = None
mode_in (b ∷ []) = mode_of_letter b
mode_in (b ∷ c ∷ bytes) = None

-- the pieces of a text between marks of this value
unfoldable pub pieces_at : ℕ → List ℕ → List (List ℕ)
pieces_at mark [] = [] ∷ []
pieces_at mark (b ∷ bytes) = cond (nat_eq b mark) ([] ∷ pieces_at mark bytes) (onto_first b (pieces_at mark bytes))

-- the numbers that pieces are
unfoldable pub numbers_in : List (List ℕ) → Option (List ℕ)
numbers_in [] = Some []
numbers_in (p ∷ ps) = do
  n ← number_in p
  ns ← numbers_in ps
  Some (n ∷ ns)

-- a word is the mark of no cites
abbrev pub is_none : List ℕ → Bool
is_none [] = false
is_none (b ∷ []) = nat_eq b 45
is_none (b ∷ c ∷ bytes) = false

-- the cites that a word is
unfoldable pub cites_in : List ℕ → Option (List ℕ)
cites_in word = cond (is_none word) (Some []) (numbers_in (pieces_at 44 word))

-- a digit of four tasks
abbrev pub is_hex : ℕ → Bool
is_hex b = is_digit b || (nat_le 97 b && nat_le b 102)

-- what it stands for
abbrev pub hex_value : ℕ → ℕ
hex_value b = cond (nat_le 97 b) (b - 87) (b - 48)

-- the j-th of four tasks is there, the first as the highest bit
abbrev pub bit_of : ℕ → ℕ → Bool
bit_of d zero = nat_eq (d / 8 % 2) 1
bit_of d (suc zero) = nat_eq (d / 4 % 2) 1
bit_of d (suc (suc zero)) = nat_eq (d / 2 % 2) 1
bit_of d (suc (suc (suc j))) = nat_eq (d % 2) 1

-- a digit of the four tasks from 4k on has no task past the n tasks
abbrev pub is_spare : ℕ → ℕ → ℕ → Bool
is_spare n k d =
    (nat_lt (4 * k) n || not (bit_of d 0)) && ((nat_lt (4 * k + 1) n || not (bit_of d 1))
    && ((nat_lt (4 * k + 2) n || not (bit_of d 2)) && (nat_lt (4 * k + 3) n || not (bit_of d 3))))

-- the set with the task i, where it is there
abbrev pub with_task : List Bool → ℕ → Bool → List Bool
with_task s i is_there = cond is_there (slice_set s i true) s

-- the set with the tasks of a digit
abbrev pub with_digit : List Bool → ℕ → ℕ → List Bool
with_digit s k d = with_task (with_task (with_task (with_task s (4 * k) (bit_of d 0)) (4 * k + 1) (bit_of d 1))
    (4 * k + 2) (bit_of d 2)) (4 * k + 3) (bit_of d 3)

-- from the digit of number k on, each one is a digit and has no task past the n tasks
unfoldable pub are_digits : ℕ → ℕ → List ℕ → Bool
are_digits n k [] = true
are_digits n k (b ∷ word) = is_hex b && (is_spare n k (hex_value b) && are_digits n (suc k) word)

-- the set with the tasks of the digits, from number k on
unfoldable pub with_digits : List Bool → ℕ → List ℕ → List Bool
with_digits s k [] = s
with_digits s k (b ∷ word) = with_digits (with_digit s k (hex_value b)) (suc k) word

-- the set of n tasks that a word is
unfoldable pub set_in : ℕ → List ℕ → Option (List Bool)
set_in n word = cond (nat_eq (length word) ((n + 3) / 4) && are_digits n 0 word)
    (Some (with_digits (replicate 1024 false) 0 word)) None
