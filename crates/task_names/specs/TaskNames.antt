-- Names of tasks, as a planner gives them in a sheet (own).
use Rattle.std.specs.Prelude.{◌≡◌, ℕ, zero, suc, ◌<◌, ◌&&◌, not, nat_eq, nat_lt, nat_le, Bool, true}
use Rattle.std.specs.Prelude.{List, [], ◌∷◌, ◌-◌, length, slice_index_or, bytes_eq, decimal, position, Option}
use Rattle.std.specs.List.{list_all, All}
use Rattle.std.specs.Str.{is_utf8, chars}

-- a character that a name may have: no control character, no semicolon, since that stands between the members of a
-- list, and neither of the two codes that are no character
abbrev pub is_name_char : ℕ → Bool
is_name_char c = nat_le 32 c && (not (nat_le 127 c && nat_le c 159)
    && (not (nat_eq c 59) && (not (nat_eq c 65534) && not (nat_eq c 65535))))

-- a text neither begins nor ends with a blank
abbrev pub has_no_edge : List ℕ → Bool
has_no_edge name = not (nat_eq (slice_index_or name 0 0) 32)
    && not (nat_eq (slice_index_or name (length name - 1) 0) 32)

-- a name: 1 to 64 bytes of UTF-8, each character one that a name may have, without a blank at either end
abbrev pub is_task_name : List ℕ → Bool
is_task_name name = nat_lt 0 (length name) && (nat_le (length name) 64
    && (is_utf8 name && (list_all is_name_char (chars name) && has_no_edge name)))

-- the name of a task
abbrev pub name_at : List (List ℕ) → ℕ → List ℕ
name_at names i = slice_index_or names i []

-- the first task of a name
abbrev pub task_named : List (List ℕ) → List ℕ → Option ℕ
task_named names name = position (λ n. bytes_eq n name) names

-- no two tasks have the same name
abbrev pub AreDistinct : List (List ℕ) → Type 0
AreDistinct names = (i j : ℕ) → i < length names → j < length names → name_at names i ≡ name_at names j → i ≡ j

-- each is a name
abbrev pub AreNames : List (List ℕ) → Type 0
AreNames names = All (λ n. is_task_name n ≡ true) names

-- the names of n tasks that have none of their own, from number k on: their numbers
abbrev pub numbers_from : ℕ → ℕ → List (List ℕ)
numbers_from k zero = []
numbers_from k (suc n) = decimal k ∷ numbers_from (suc k) n

-- the numbers of n tasks, counted from 1
abbrev pub numbers : ℕ → List (List ℕ)
numbers n = numbers_from 1 n
