-- How long the text of a picture is: at most 1,000 bytes, 500 for each station and 120 for each task.
use Rattle.std.proofs.Common.{◌≡◌, ℕ, suc, ◌+◌, ◌-◌, ◌*◌, ◌/◌, ◌%◌, ◌^◌, ◌<◌, ◌≤◌, Bool, true, false, cond, not, nat_eq}
use Rattle.std.proofs.Common.{nat_lt, List, [], ◌∷◌, ◌++◌, length, length-append, refl, ap, ◌∙◌, ◌⊎◌, inl, inr, arith}
use Rattle.std.proofs.Common.{codes, decimal}
use Rattle.std.specs.Prelude.{filter, map}
use Rattle.std.proofs.Math.Nat.{div-le_of_le-mul, div-le_self, mod-lt, mul-le-mul_right}
use Rattle.std.proofs.lemmas.Bool.{cases_lt}
use Rattle.std.proofs.lemmas.Bool.Decides.{nat_tests}
use Rattle.std.proofs.lemmas.Fmt.{length-decimal-le_wide}
use Rattle.line_rules.specs.declared.types.LineKind.{LineKind}
use Rattle.line_rules.specs.declared.types.LineKind.TheVariants.{Straight, U}
use Rattle.line_rules.specs.declared.types.Side.{Side}
use Rattle.line_rules.specs.declared.types.Side.TheVariants.{Front, Back}
use Rattle.line_rules.specs.declared.types.Ask.{Ask}
use Rattle.line_rules.specs.declared.types.Ask.TheVariants.{Stations, Cycle}
use Rattle.line_drawing.specs.declared.figures.Figures.{Figures}
use Rattle.line_drawing.specs.declared.segments.Segment.{Segment}
use Rattle.line_drawing.specs.Parts.{text_of}
use Rattle.line_drawing.specs.Segments.{end_of, is_side}
use Rattle.line_drawing.specs.Notes.{blanked, is_narrow, joined, narrow_numbers, note_of, number_of}
use Rattle.line_drawing.specs.Figures.{AreFigures, efficiency_of, height_of, idle_of, width_of}
use Rattle.line_drawing.specs.Rows.{back_text, backs_text, columns_parts, columns_text, each_where, front_text}
use Rattle.line_drawing.specs.Rows.{has_side, is_of, label_parts, label_text, labels_text, margin_parts, margin_text}
use Rattle.line_drawing.specs.Rows.{number_text, numbers_text, opening_text, path_parts, path_text, place_parts}
use Rattle.line_drawing.specs.Rows.{place_text, row_text, slowest_parts, slowest_text, tasks_text, times_parts}
use Rattle.line_drawing.specs.Rows.{times_text}
use Rattle.line_drawing.specs.Drawing.{above_text, ask_word, bounds_text, end_parts, end_text, ground_parts}
use Rattle.line_drawing.specs.Drawing.{ground_text, head_text, headings_parts, headings_text, kind_word, legend_text}
use Rattle.line_drawing.specs.Drawing.{notes_parts, notes_text, size_parts, size_text, station_word, top_text}
use Rattle.line_drawing.specs.Drawing.{totals_parts, totals_text}
use Rattle.line_drawing.proofs.NoteFacts.{count_short}

-- the lengths of parts together
abbrev pub lengths : List (List ℕ) → ℕ
lengths [] = 0
lengths (p ∷ ps) = length p + lengths ps

pub length-text_of : (ps : List (List ℕ)) → length (text_of ps) ≡ lengths ps
length-text_of [] = refl
length-text_of (p ∷ ps) = length-append p (text_of ps) ∙ ap (λ n. length p + n) (length-text_of ps)

pub len3 : (a b c : List ℕ) → length (a ++ b ++ c) ≡ length a + length b + length c
len3 a b c = omega (arith, length-append (a ++ b) c, length-append a b)

pub len5 : (a b c d e : List ℕ) → length (a ++ b ++ c ++ d ++ e) ≡ length a + length b + length c + length d + length e
len5 a b c d e = omega (arith, len3 (a ++ b ++ c) d e, len3 a b c)

pub len6 : (a b c d e f : List ℕ) → length (a ++ b ++ c ++ d ++ e ++ f)
    ≡ length a + length b + length c + length d + length e + length f
len6 a b c d e f = omega (arith, len3 (a ++ b ++ c ++ d) e f, len3 (a ++ b) c d, length-append a b)

pub len8 : (a b c d e f g h : List ℕ) → length (a ++ b ++ c ++ d ++ e ++ f ++ g ++ h)
    ≡ length a + length b + length c + length d + length e + length f + length g + length h
len8 a b c d e f g h = omega (arith, len3 (a ++ b ++ c ++ d ++ e ++ f) g h, len6 a b c d e f)

-- a number below a power of ten has as few digits
digits_below : (k n m : ℕ) → 0 < k → n < m → m ≡ 10 ^ k → m ≤ 10 ^ 64 → length (decimal n) ≤ k
digits_below k n m some h is small = length-decimal-le_wide k n some (omega (arith, h, is)) (omega (arith, h, small))

pub one_digit : (n : ℕ) → n < 10 → length (decimal n) ≤ 1
one_digit n h = digits_below 1 n 10 (omega arith) h refl (omega arith)

pub three_digits : (n : ℕ) → n < 1000 → length (decimal n) ≤ 3
three_digits n h = digits_below 3 n 1000 (omega arith) h refl (omega arith)

pub four_digits : (n : ℕ) → n < 10000 → length (decimal n) ≤ 4
four_digits n h = digits_below 4 n 10000 (omega arith) h refl (omega arith)

pub five_digits : (n : ℕ) → n < 100000 → length (decimal n) ≤ 5
five_digits n h = digits_below 5 n 100000 (omega arith) h refl (omega arith)

pub fifteen_digits : (n : ℕ) → n < 1000000000000000 → length (decimal n) ≤ 15
fifteen_digits n h = digits_below 15 n 1000000000000000 (omega arith) h refl (omega arith)

pub eighteen_digits : (n : ℕ) → n < 1000000000000000000 → length (decimal n) ≤ 18
eighteen_digits n h = digits_below 18 n 1000000000000000000 (omega arith) h refl (omega arith)

pub nineteen_digits : (n : ℕ) → n < 10000000000000000000 → length (decimal n) ≤ 19
nineteen_digits n h = digits_below 19 n 10000000000000000000 (omega arith) h refl (omega arith)

pub digits_22 : (n : ℕ) → n < 10000000000000000000000 → length (decimal n) ≤ 22
digits_22 n h = digits_below 22 n 10000000000000000000000 (omega arith) h refl (omega arith)

pub cond_most : (b : Bool) (x y : List ℕ) (m : ℕ) → length x ≤ m → length y ≤ m → length (cond b x y) ≤ m
cond_most true x y m h k = h
cond_most false x y m h k = k

-- what stands above the rows and below them
word_most : (n : ℕ) → length (station_word n) ≤ 22
word_most n = cond_most (nat_eq n 1) (codes " station, cycle time ") (codes " stations, cycle time ") 22 (omega arith)
    (omega arith)

-- the name of the kind, twice, and the legend
pub kind_most : (k : LineKind) → length (kind_word k) + length (kind_word k) + length (legend_text k) ≤ 81
kind_most Straight = omega arith
kind_most U = omega arith

ask_most : (a : Ask) → length (ask_word a) ≤ 12
ask_most (Stations cycle) = omega arith
ask_most (Cycle stations) = omega arith

pub bounds_most : (a : Ask) (lower upper : ℕ) → lower ≤ 1000000000000000000 → upper ≤ 1000000000000000000
    → length (bounds_text a lower upper) ≤ 69
bounds_most a lower upper l u =
    let wide : List ℕ = codes "at least " ++ decimal lower ++ codes ", at most " ++ decimal upper in
    let wide_most : length wide ≤ 57 = omega (
      arith,
      len3 (codes "at least " ++ decimal lower) (codes ", at most ") (decimal upper),
      length-append (codes "at least ") (decimal lower),
      nineteen_digits lower (omega (arith, l)),
      nineteen_digits upper (omega (arith, u)),
    ) in
    omega (
      arith,
      length-append (ask_word a) (cond (nat_eq lower upper) (codes "optimal") wide),
      cond_most (nat_eq lower upper) (codes "optimal") wide 57 (omega arith) wide_most,
      ask_most a,
    )

module _ (f : Figures) (ok : AreFigures f) (total : f.total < 1000000000000000000)
    (longest : f.longest < 1000000000000000000) (percent : efficiency_of f ≤ 1000) where
  pub wide : length (decimal (width_of f)) ≤ 4
  wide = four_digits (width_of f) (omega (arith, ok.column, ok.notes))

  cycle_most : length (decimal f.cycle) ≤ 19
  cycle_most = nineteen_digits f.cycle (omega (arith, ok.limit))

  pub head_most : length (head_text f) ≤ length (kind_word f.kind) + length (decimal f.stations) + 41
  head_most =
      let rest : List ℕ = station_word f.stations ++ decimal f.cycle in
      omega (
        arith,
        length-append (kind_word f.kind) (decimal f.stations ++ rest),
        length-append (decimal f.stations) rest,
        length-append (station_word f.stations) (decimal f.cycle),
        word_most f.stations,
        cycle_most,
      )

  percent_most : length (decimal (efficiency_of f / 10)) ≤ 3
  percent_most = three_digits (efficiency_of f / 10) (omega
      (arith, div-le_of_le-mul 10 {m = efficiency_of f} {n = 100} (omega (arith, percent))))

  tenths_most : length (decimal (efficiency_of f % 10)) ≤ 1
  tenths_most = one_digit (efficiency_of f % 10) (mod-lt (efficiency_of f) (omega arith))

  pub totals_most : length (totals_text f) ≤ 159 + length (decimal (idle_of f))
  totals_most = omega (
    arith,
    length-text_of (totals_parts f),
    percent_most,
    tenths_most,
    eighteen_digits f.total total,
    eighteen_digits f.longest longest,
  )

  pub notes_most : length (notes_text f) ≤ 42
  notes_most = cond_most (nat_eq f.notes 0) [] (text_of (notes_parts f)) 42 (omega arith)
      (omega (arith, length-text_of (notes_parts f), four_digits (936 + 2 * f.column) (omega (arith, ok.column))))

  pub headings_most : length (headings_text f) ≤ 181
  headings_most = omega (
    arith,
    length-text_of (headings_parts f),
    cycle_most,
    four_digits (864 + f.column) (omega (arith, ok.column)),
    four_digits (864 + 2 * f.column) (omega (arith, ok.column)),
  )

  size_most : length (size_text f) ≤ 191 + 2 * length (decimal (height_of f))
  size_most = omega (arith, length-text_of (size_parts f), wide)

  ground_most : length (ground_text f) ≤ 87 + length (decimal (height_of f))
  ground_most = omega (arith, length-text_of (ground_parts f), wide)

  end_most : length (end_text f) ≤ 64 + length (decimal (24 * f.stations + 6))
  end_most = omega (arith, length-text_of (end_parts f))

  -- all of it, but for the digits of numbers that few stations keep small
  around_most : (a : Ask) (lower upper : ℕ) → lower ≤ 1000000000000000000 → upper ≤ 1000000000000000000
      → length (above_text f a lower upper) + length (end_text f)
      ≤ 984 + 2 * length (decimal f.stations) + 3 * length (decimal (height_of f)) + length
      (decimal (idle_of f)) + length (decimal (24 * f.stations + 6))
  around_most a lower upper l u = omega (
    arith,
    len6 (top_text f) (bounds_text a lower upper) (totals_text f) (legend_text f.kind) (notes_text f) (headings_text f),
    len5 (size_text f) (head_text f) (ground_text f) (head_text f) (codes "</text>\n<text x=\"64\" y=\"48\">"),
    size_most,
    head_most,
    ground_most,
    kind_most f.kind,
    bounds_most a lower upper l u,
    totals_most,
    notes_most,
    headings_most,
    end_most,
  )

  idle_small : f.stations ≤ 9 → length (decimal (idle_of f)) ≤ 19
  idle_small h = nineteen_digits (idle_of f) (omega (arith, mul-le-mul_right f.cycle h, ok.limit))

  pub idle_most : length (decimal (idle_of f)) ≤ 22
  idle_most = digits_22 (idle_of f) (omega (arith, mul-le-mul_right f.cycle ok.few, ok.limit))

  around_small : (a : Ask) (lower upper : ℕ) → lower ≤ 1000000000000000000 → upper ≤ 1000000000000000000
      → f.stations ≤ 9
      → length (above_text f a lower upper) + length (end_text f) ≤ 1017
  around_small a lower upper l u h = omega (
    arith,
    around_most a lower upper l u,
    one_digit f.stations (omega (arith, h)),
    three_digits (height_of f) (omega (arith, h)),
    idle_small h,
    three_digits (24 * f.stations + 6) (omega (arith, h)),
  )

  around_large : (a : Ask) (lower upper : ℕ) → lower ≤ 1000000000000000000 → upper ≤ 1000000000000000000
      → length (above_text f a lower upper) + length (end_text f) ≤ 1034
  around_large a lower upper l u = omega (
    arith,
    around_most a lower upper l u,
    four_digits f.stations (omega (arith, ok.few)),
    five_digits (height_of f) (omega (arith, ok.few)),
    idle_most,
    five_digits (24 * f.stations + 6) (omega (arith, ok.few)),
  )

  -- what stands around the rows has room beside what is left of stations and tasks
  pub around_fits : (a : Ask) (lower upper n : ℕ) → lower ≤ 1000000000000000000 → upper ≤ 1000000000000000000 → 1 ≤ n
      → length (above_text f a lower upper) + length (end_text f) ≤ 1000 + 12 * f.stations + 5 * n
  around_fits a lower upper n l u some = elim (cases_few f.stations) [
    | inl h ↦ omega (arith, around_small a lower upper l u h, ok.some, some)
    | inr h ↦ omega (arith, around_large a lower upper l u, h)
  ]
    where
      cases_few : (s : ℕ) → (s ≤ 9) ⊎ (10 ≤ s)
      cases_few s = elim (cases_lt s 10) [ inl l ↦ inl (omega (arith, l)) | inr g ↦ inr (omega (arith, g)) ]

-- a segment of a small task, with a time and a place within their limits
pub record IsSmall (s : Segment) : Type 0 where
  pub task : s.task < 1024
  pub time : s.time ≤ 200000000000000
  pub within : end_of s ≤ 800

abbrev pub AreSmall : List Segment → Type 0
AreSmall [] = Unit {0}
AreSmall (s ∷ ss) = IsSmall s × AreSmall ss

pub number_most : (s : Segment) → IsSmall s → length (decimal (number_of s)) ≤ 4
number_most s h = four_digits (number_of s) (omega (arith, h.task))

path_most : (s : Segment) → IsSmall s → length (path_text s) ≤ 84
path_most s h = omega (
  arith,
  length-text_of (path_parts s),
  three_digits s.x (omega (arith, h.within)),
  three_digits s.width (omega (arith, h.within)),
  number_most s h,
  fifteen_digits s.time (omega (arith, h.time)),
)

label_most : (s : Segment) → IsSmall s → length (label_text s) ≤ 26
label_most s h = omega (
  arith,
  length-text_of (label_parts s),
  three_digits (s.x + s.width / 2) (omega (arith, h.within, div-le_self s.width 2)),
  number_most s h,
)

named_most : (s : Segment) → IsSmall s → length (number_text s) ≤ 5
named_most s h = omega (arith, length-append (codes " ") (decimal (number_of s)), number_most s h)

-- a text that stands on one of two sides
pub one_side : (side : Side) (x : List ℕ)
    → length (cond (is_side side Front) x []) + length (cond (is_side side Back) x [])
    ≡ length x
one_side Front x = omega arith
one_side Back x = omega arith

-- a number stands in its segment or in the note
noted_or : (b : Bool) (s : Segment) (rest : List Segment) → IsSmall s
    → length (cond (not b) (label_text s) []) + length (blanked (map number_of (cond b (s ∷ rest) rest)))
    ≤ 26 + length (blanked (map number_of rest))
noted_or true s rest h = omega (
  arith,
  length-append (codes " " ++ decimal (number_of s))
      (blanked (map number_of rest)),
  named_most s h,
)
noted_or false s rest h = omega (arith, label_most s h)

pub each_first : (p : Segment → Bool) (t : Segment → List ℕ) (s : Segment) (ss : List Segment)
    → length (each_where p t (s ∷ ss)) ≡ length (cond (p s) (t s) []) + length (each_where p t ss)
each_first p t s ss = length-append (cond (p s) (t s) []) (each_where p t ss)

-- what stands of segments in a row, with the numbers of the narrow ones
spread_most : (ss : List Segment) → AreSmall ss
    → length (numbers_text Front ss) + length (numbers_text Back ss)
    + (length (each_where (is_of Front) path_text ss) + length (each_where (is_of Back) path_text ss))
    + (length (each_where (λ s. not (is_narrow s)) label_text ss) + length (blanked (narrow_numbers ss)))
    ≤ 115 * length ss
spread_most [] h = omega arith
spread_most (s ∷ ss) h = omega (
  arith,
  spread_most ss h.1,
  each_first (is_of Front) number_text s ss,
  each_first (is_of Back) number_text s ss,
  one_side s.side (number_text s),
  named_most s h.0,
  each_first (is_of Front) path_text s ss,
  each_first (is_of Back) path_text s ss,
  one_side s.side (path_text s),
  path_most s h.0,
  each_first (λ r. not (is_narrow r)) label_text s ss,
  noted_or (is_narrow s) s (filter is_narrow ss) h.0,
)

pub joined_most : (ns : List ℕ) → length (joined ns) ≤ length (blanked ns)
joined_most [] = omega arith
joined_most (n ∷ ns) = omega (
  arith,
  length-append (decimal n) (blanked ns),
  length-append (codes " " ++ decimal n) (blanked ns),
  length-append (codes " ") (decimal n),
)

-- a note is no longer than the numbers that it stands for, and at most 40 bytes
pub note_cases : (b : Bool) (ns : List ℕ) → nat_lt 40 (length (joined ns)) ≡ b → length ns < 2 ^ 64
    → (length (cond b (decimal (length ns) ++ codes " tasks") (joined ns)) ≤ length (blanked ns))
    × (length (cond b (decimal (length ns) ++ codes " tasks") (joined ns)) ≤ 40)
note_cases true ns e h =
    let long : 40 < length (joined ns) = grind (arith, nat_tests, e) in
    (omega (arith, long, joined_most ns, count_short (length ns) h), count_short (length ns) h)
note_cases false ns e h =
    let short : length (joined ns) ≤ 40 = grind (arith, nat_tests, e) in
    (joined_most ns, short)

few_narrow : (ss : List Segment) → length (narrow_numbers ss) ≤ length ss
few_narrow [] = omega arith
few_narrow (s ∷ ss) = by (is_narrow s) (few_narrow ss)
  where
    by : (b : Bool) → length (map number_of (filter is_narrow ss)) ≤ length ss
        → length (map number_of (cond b (s ∷ filter is_narrow ss) (filter is_narrow ss))) ≤ suc (length ss)
    by true h = omega (arith, h)
    by false h = omega (arith, h)

pub note_most : (ss : List Segment) → length ss ≤ 1024 → (length (note_of ss) ≤ length (blanked (narrow_numbers ss)))
    × (length (note_of ss) ≤ 40)
note_most ss few = note_cases (nat_lt 40 (length (joined (narrow_numbers ss)))) (narrow_numbers ss) refl
    (omega (arith, few_narrow ss, few))

back_most : (kind : LineKind) (ss : List Segment) → length (back_text kind ss)
    ≤ 38 + length (each_where (is_of Back) path_text ss)
back_most Straight ss = omega arith
back_most U ss = omega (
  arith,
  len3 (codes "<g fill=\"#76a5d8\" stroke=\"#000\">\n")
      (each_where (is_of Back) path_text ss) (codes "</g>\n"),
)

module _ (f : Figures) (ok : AreFigures f) (k sum : ℕ) (one : k ≤ 1024) (below : sum < 1000000000000000000)
    (ss : List Segment) (few : length ss ≤ 1024) (small : AreSmall ss) where
  left : length (decimal (f.cycle - sum)) ≤ 19
  left = nineteen_digits (f.cycle - sum) (omega (arith, ok.limit))

  opening_most : length (opening_text f k sum ss) ≤ 120 + length (numbers_text Front ss) + length (numbers_text Back ss)
  opening_most = omega (
    arith,
    len3 (place_text k) (tasks_text ss) (times_text f sum),
    length-text_of (place_parts k),
    five_digits (88 + 24 * k) (omega (arith, one)),
    four_digits k (omega (arith, one)),
    length-append (numbers_text Front ss) (backs_text ss),
    cond_most (has_side Back ss) (codes " back" ++ numbers_text Back ss) [] (5 + length (numbers_text Back ss))
        (omega (arith, length-append (codes " back") (numbers_text Back ss))) (omega arith),
    length-text_of (times_parts f sum),
    eighteen_digits sum below,
    left,
  )

  front_most : length (front_text ss) ≤ 94 + length (each_where (is_of Front) path_text ss)
  front_most = omega (
    arith,
    len3 (codes "<path fill=\"#fff\" stroke=\"#888\" d=\"M0-14v20h800v-20z\"/>\n<g fill=\"#cfe2f6\" stroke=\"#467\">\n")
        (each_where (is_of Front) path_text ss) (codes "</g>\n"),
  )

  labels_most : length (labels_text ss) ≤ 52 + length (each_where (λ s. not (is_narrow s)) label_text ss)
  labels_most = omega (
    arith,
    len3 (codes "<g text-anchor=\"middle\" pointer-events=\"none\">\n")
        (each_where (λ s. not (is_narrow s)) label_text ss) (codes "</g>\n"),
  )

  pub columns_most : length (columns_text f k sum) ≤ 106
  columns_most = omega (
    arith,
    length-text_of (columns_parts f k sum),
    four_digits k (omega (arith, one)),
    three_digits (800 + f.column) (omega (arith, ok.column)),
    eighteen_digits sum below,
    four_digits (800 + 2 * f.column) (omega (arith, ok.column)),
    left,
  )

  pub slowest_most : length (slowest_text f sum) ≤ 30
  slowest_most = cond_most (nat_eq sum f.longest) (text_of (slowest_parts f)) [] 30
      (omega (arith, length-text_of (slowest_parts f), four_digits (860 + 2 * f.column) (omega (arith, ok.column))))
      (omega arith)

  margin_most : length (margin_text f (note_of ss)) ≤ 43 + length (note_of ss)
  margin_most = cond_most (nat_eq (length (note_of ss)) 0) [] (text_of (margin_parts f (note_of ss)))
      (43 + length (note_of ss)) (omega arith)
      (omega (
        arith,
        length-text_of (margin_parts f (note_of ss)),
        four_digits (872 + 2 * f.column) (omega (arith, ok.column)),
      ))

  -- a row has room for itself and for its tasks
  pub row_most : length (row_text f k sum ss (note_of ss)) ≤ 488 + 115 * length ss
  row_most = omega (
    arith,
    len8 (opening_text f k sum ss) (front_text ss) (back_text f.kind ss) (labels_text ss) (columns_text f k sum)
        (slowest_text f sum) (margin_text f (note_of ss)) (codes "</g>\n"),
    opening_most,
    front_most,
    back_most f.kind ss,
    labels_most,
    columns_most,
    slowest_most,
    margin_most,
    (note_most ss few).0,
    spread_most ss small,
  )
