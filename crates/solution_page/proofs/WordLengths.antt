-- How long words are: numbers, sets of tasks, cites and loads; and lines of words.
use Rattle.std.proofs.Common.{◌≡◌, ℕ, zero, suc, ◌+◌, ◌*◌, ◌/◌, ◌%◌, ◌<◌, ◌≤◌, Bool, List, [], ◌∷◌, ◌++◌, length, refl, ap}
use Rattle.std.proofs.Common.{arith, length-append, Option, Some, None, inl, inr}
use Rattle.std.specs.List.{flat_map}
use Rattle.std.proofs.lemmas.Bool.{cases_lt}
use Rattle.std.proofs.lemmas.List.FromFn.{length-map-range_with_len}
use Rattle.line_rules.specs.Ranges.{AreCites, IsCycle}
use Rattle.line_rules.specs.declared.types.Mode.{Mode}
use Rattle.line_rules.specs.declared.types.Mode.TheVariants.{Fore, Back, Both}
use Rattle.line_rules.specs.declared.types.Load.{Load}
use Rattle.cert_lines.specs.Numbers.{number_text, set_text, hex_digit, four, cites_text, load_text, last_text}
use Rattle.cert_lines.specs.Rows.{Row, row_text, line_text, rows_text, spaced}
use Rattle.cert_lines.proofs.Digits.{number_small, number_more}

-- the least number that has more than so many digits and one
abbrev pub top : ℕ → ℕ
top zero = 10
top (suc d) = 10 * top d

pub digits_few : (d n : ℕ) → n < top d → length (number_text n) ≤ suc d
digits_few zero n h = omega (arith, ap length (number_small n h))
digits_few (suc d) n h = elim (cases_lt n 10) [
  | inl s ↦ omega (arith, ap length (number_small n s))
  | inr m ↦ omega (
    arith,
    digits_few d (n / 10) (omega (arith, h)),
    ap length (number_more n m),
    length-append (number_text (n / 10)) ((48 + n % 10) ∷ []),
  )
]

-- a number of stations or of a task, a cycle, a number of entries or of one of them
pub count_length : (n : ℕ) → n ≤ 1024 → length (number_text n) ≤ 4
count_length n h = digits_few 3 n (omega (arith, h))

pub cycle_length : (c : ℕ) → IsCycle c → length (number_text c) ≤ 19
cycle_length c h = digits_few 18 c (omega (arith, h.limit))

pub cite_length : (n : ℕ) → n ≤ 20000000 → length (number_text n) ≤ 8
cite_length n h = digits_few 7 n (omega (arith, h))

-- a set of tasks
pub set_length : (n : ℕ) (s : List Bool) → n ≤ 1024 → length (set_text n s) ≤ 256
unfolding set_text
set_length n s h = omega (arith, length-map-range_with_len (λ k. hex_digit (four n s k)) 0 ((n + 3) / 4))

-- cites of entries, of which there are at most 20,000,000
further_length : (count : ℕ) (cites : List ℕ) → count ≤ 20000000 → AreCites count cites
    → length (flat_map (λ d. 44 ∷ number_text d) cites) ≤ 9 * length cites
further_length count [] many are = omega arith
further_length count (c ∷ cs) many are =
    let less : c < count = are 0 c refl in
    omega (
      arith,
      cite_length c (omega arith),
      further_length count cs many (λ p x e. are (suc p) x e),
      length-append (44 ∷ number_text c) (flat_map (λ d. 44 ∷ number_text d) cs),
    )

pub cites_length : (count : ℕ) (cites : List ℕ) → count ≤ 20000000 → AreCites count cites
    → length (cites_text cites) ≤ 9 * length cites + 1
cites_length count [] many are = omega arith
cites_length count (c ∷ cs) many are =
    let less : c < count = are 0 c refl in
    omega (
      arith,
      cite_length c (omega arith),
      further_length count cs many (λ p x e. are (suc p) x e),
      length-append (number_text c) (flat_map (λ d. 44 ∷ number_text d) cs),
    )

-- a last load, where there is one
load_length : (n : ℕ) (mode : Mode) (l : Load) → n ≤ 1024 → length (load_text n mode l) ≤ 513
load_length n Fore l h = omega (arith, set_length n l.front h)
load_length n Back l h = omega (arith, set_length n l.back h)
load_length n Both l h = omega (
  arith,
  set_length n l.front h,
  set_length n l.back h,
  length-append (set_text n l.front) (47 ∷ set_text n l.back),
)

pub last_length : (n : ℕ) (mode : Mode) (last : Option Load) → n ≤ 1024 → length (last_text n mode last) ≤ 513
last_length n mode None h = omega arith
last_length n mode (Some l) h = load_length n mode l h

-- words, each with a byte behind it
abbrev pub words_length : List (List ℕ) → ℕ
words_length [] = 0
words_length (w ∷ ws) = length w + suc (words_length ws)

spaced_length : (w : List ℕ) (ws : List (List ℕ)) → suc (length (spaced (w ∷ ws))) ≡ words_length (w ∷ ws)
spaced_length w [] = omega arith
spaced_length w (v ∷ ws) = omega (arith, spaced_length v ws, length-append w (32 ∷ spaced (v ∷ ws)))

-- a line of words
pub line_length : (r : Row) (w : List ℕ) (ws : List (List ℕ)) → row_text r ≡ spaced (w ∷ ws)
    → length (line_text r) ≡ words_length (w ∷ ws)
line_length r w ws e = omega (arith, ap length e, spaced_length w ws, length-append (row_text r) (10 ∷ []))

-- lines one behind the other
pub lines_length : (rs qs : List Row) → length (rows_text (rs ++ qs)) ≡ length (rows_text rs) + length (rows_text qs)
lines_length [] qs = omega arith
lines_length (r ∷ rs) qs = omega (
  arith,
  lines_length rs qs,
  length-append (line_text r) (rows_text (rs ++ qs)),
  length-append (line_text r) (rows_text rs),
)
