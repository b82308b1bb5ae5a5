-- The layout of a picture: each column of the list finds room, and each name has a small width.
use Rattle.std.proofs.Common.{◌≡◌, ℕ, zero, suc, ◌+◌, ◌-◌, ◌*◌, ◌/◌, ◌%◌, ◌^◌, ◌<◌, ◌≤◌, Bool, true, false, ◌&&◌}
use Rattle.std.proofs.Common.{nat_eq, List, [], ◌∷◌, ◌++◌, length, length-append, slice_index_or, refl, ap, ◌∙◌, arith}
use Rattle.std.proofs.Common.{decimal, codes, cond, ◌||◌, nat_le, add-one}
use Rattle.std.proofs.Math.Nat.{div-le_of_le-mul, pow-succ'}
use Rattle.std.proofs.lemmas.Nat.{le-div}
use Rattle.std.proofs.lemmas.List.Sums.{sum_by-le}
use Rattle.std.proofs.lemmas.Bool.{and_from, eq-eqb}
use Rattle.std.proofs.lemmas.Fmt.{decimal_by_steps_wide, decimal_nonempty, length-decimal-le_wide}
use Rattle.line_instance.specs.Line.{Line, IsLine, has, tasks, time}
use Rattle.line_instance.proofs.Sums.{weigh-one}
use Rattle.line_rules.specs.Balance.{IsRight, all_tasks, seat}
use Rattle.line_rules.specs.Bounds.{greatest_below}
use Rattle.line_rules.specs.declared.types.LineKind.{LineKind}
use Rattle.line_rules.specs.declared.types.Balance.{Balance as Assignment}
use Rattle.line_rules.proofs.All.{In-all}
use Rattle.line_rules.proofs.BoundIsTrue.{greatest_le}
use Rattle.line_drawing.specs.Figures.{AreFigures, width_of}
use Rattle.line_drawing.proofs.NoteFacts.{digits_few}
use Rattle.task_names.specs.TaskNames.{name_at}
use Rattle.named_drawing.specs.Widths.{byte_width, is_among, width}
use Rattle.named_drawing.specs.Page.{IsPage, column_width, columns_of, longest_time, named_figures, page_of}
use Rattle.named_drawing.specs.Page.{time_digits, widest_name}

-- a number is below a power of ten with as many zeros as it has digits
below_power : (n : ℕ) → n < 10 ^ 64 → n < 10 ^ length (decimal n)
below_power n h = decimal_by_steps_wide (λ m ds. m < 10 ^ length ds) one more n h
  where
    one : (m : ℕ) → m < 10 → m < 10 ^ length ((48 + m) ∷ [])
    one m l = omega (arith, l)

    power_more : (k : ℕ) → 10 ^ (k + 1) ≡ 10 * 10 ^ k
    power_more k = ap (λ j. 10 ^ j) (add-one k) ∙ pow-succ' 10 k

    more : (m : ℕ) (ds : List ℕ) → 10 ≤ m → m / 10 < 10 ^ length ds → m < 10 ^ length (ds ++ ((48 + m % 10) ∷ []))
    more m ds l h =
        let longer : length (ds ++ ((48 + m % 10) ∷ [])) ≡ length ds + 1 =
        length-append ds ((48 + m % 10) ∷ []) in
        omega (arith, h, ap (λ k. 10 ^ k) longer, power_more (length ds))

-- a smaller number has no more digits
pub digits_rise : (a b : ℕ) → a ≤ b → b < 2 ^ 64 → length (decimal a) ≤ length (decimal b)
digits_rise a b l small =
    let wide : b < 10 ^ 64 = omega (arith, small) in
    length-decimal-le_wide (length (decimal b)) a (decimal_nonempty b small) (omega (arith, l, below_power b wide))
    (omega (arith, l, wide))

module _ (kind : LineKind) (line : Line) (c : ℕ) (b : Assignment) (ok : IsLine line) (right : IsRight kind line c b)
  where
    -- the time of a task is no longer than the cycle
    time_fits : (i : ℕ) → i < tasks line → time line i ≤ c
    time_fits i l =
        let k : ℕ = (seat b.place i).station in
        let mine : (has (all_tasks line) i && nat_eq (seat b.place i).station k) ≡ true =
        and_from (has (all_tasks line) i) (nat_eq (seat b.place i).station k) (In-all line i ok.small l)
        (eq-eqb (seat b.place i).station k refl) in
        omega (
          arith,
          weigh-one (λ t. t) (λ j. has (all_tasks line) j && nat_eq (seat b.place j).station k) i line.times l mine,
          right.balance.fits k,
        )

    longest_below : (n : ℕ) → n ≤ tasks line → greatest_below n (time line) ≤ c
    longest_below zero h = omega arith
    longest_below (suc n) h = omega (arith, time_fits n (omega (arith, h)), longest_below n (omega (arith, h)))

    -- the list has room for a column
    pub column_fits : (names : List (List ℕ)) (widest : ℕ) → widest ≤ 768 → c ≤ 1000000000000000000
        → column_width widest (time_digits line) ≤ width_of (named_figures line kind c names b) - 64
    column_fits names widest w small = omega (
      arith,
      w,
      digits_rise (longest_time line) c (longest_below (tasks line) (omega arith)) (omega (arith, small)),
    )

    -- one column or more finds room
    pub some_columns : (names : List (List ℕ)) (widest : ℕ) → widest ≤ 768 → c ≤ 1000000000000000000
        → 1 ≤ columns_of (named_figures line kind c names b) widest (time_digits line)
    some_columns names widest w small = le-div 1 (width_of (named_figures line kind c names b) - 64)
        (column_width widest (time_digits line)) (omega arith) (omega (arith, column_fits names widest w small))

    time_digits_most : time_digits line ≤ 20
    time_digits_most = omega (
      arith,
      digits_few (longest_time line) (omega (
        arith,
        greatest_le (tasks line) (time line) 200000000000000 (λ i. ok.times i),
      )),
    )

-- how many rows a list has
pub rows_some : (n c : ℕ) → 0 < n → 1 ≤ c → 1 ≤ (n + (c - 1)) / c
rows_some n c some h = le-div 1 (n + (c - 1)) c (omega (arith, h)) (omega (arith, some, h))

pub rows_few : (n c : ℕ) → n ≤ 1024 → 0 < n → 1 ≤ c → (n + (c - 1)) / c ≤ 1024
rows_few n c few some h =
    let most : (n + (c - 1)) / c ≤ n = div-le_of_le-mul c {m = n + (c - 1)} {n = n} (grind arith) in
    omega (arith, most, few)

-- the widest name of names of at most 64 bytes
width_most : (bs : List ℕ) → width bs ≤ length bs * 12
width_most bs = sum_by-le byte_width 12 bs (λ k d l. byte_most (slice_index_or bs k d))
  where
    byte_most : (b : ℕ) → byte_width b ≤ 12
    byte_most b = by (nat_le 128 b && nat_le b 191) (nat_le 225 b || is_among (codes "%@MWm") b)
        (is_among (codes " Ifijlrt!'(),-./:[\\]`{|}") b)
      where
        by : (p q r : Bool) → cond p 0 (cond q 12 (cond r 4 8)) ≤ 12
        by true q r = omega arith
        by false true r = omega arith
        by false false true = omega arith
        by false false false = omega arith

pub widest_most : (names : List (List ℕ)) → ((i : ℕ) → length (name_at names i) ≤ 64) → widest_name names ≤ 768
widest_most names short = greatest_le (length names) (λ i. width (name_at names i)) 768
    (λ i. omega (arith, width_most (name_at names i), short i))

module _ (kind : LineKind) (line : Line) (c : ℕ) (b : Assignment) (ok : IsLine line) (right : IsRight kind line c b)
    (names : List (List ℕ)) (named : (i : ℕ) → length (name_at names i) ≤ 64) (limit : c ≤ 1000000000000000000)
    (figures : AreFigures (named_figures line kind c names b)) where
  pub columns_some : 1 ≤ columns_of (named_figures line kind c names b) (widest_name names) (time_digits line)
  columns_some = some_columns kind line c b ok right names (widest_name names) (widest_most names named) limit

  -- the numbers of a page are such numbers
  pub is_page : IsPage (page_of line kind c names b)
  is_page = record {
    figures = figures;
    names = widest_most names named;
    digits = time_digits_most kind line c b ok right;
    some = rows_some (tasks line)
        (columns_of (named_figures line kind c names b) (widest_name names) (time_digits line)) ok.some columns_some;
    few = rows_few (tasks line)
        (columns_of (named_figures line kind c names b) (widest_name names) (time_digits line)) ok.small ok.some
        columns_some;
  }
