-- A text says a line that is an instance, but that nothing is known of the form of its rows of tasks apart. An instance
-- with the same times, the same tasks before others and the same tasks apart is at hand.
use Rattle.std.proofs.Common.{◌≡◌, ◌∙◌, ℕ, ◌<◌, ◌≤◌, ◌⊎◌, Bool, false, List, [], length, map, get_or, Option}
use Rattle.std.proofs.Common.{Some, None, refl, sym, ap, subst, subst₂, inl, inr, arith}
use Rattle.std.specs.Prelude.{◌↔◌}
use Rattle.std.specs.List.{range_with_len}
use Rattle.std.proofs.lemmas.Bool.{cases_lt, false≢true}
use Rattle.std.proofs.lemmas.List.{get_or_past, get_or_read}
use Rattle.std.proofs.lemmas.List.FromFn.{get_or-map-range_with_len, length-map-range_with_len}
use Rattle.line_instance.specs.Line.{Line, IsLine, IsRanked, Apart, has, is_apart, tasks}
use Rattle.line_instance.specs.Made.{IsInstanceOf}
use Rattle.line_instance.specs.Walks.{ArePairs, IsGiven, Leads, Names, arc_at}
use Rattle.line_instance.specs.declared.arcs.Prec.{Prec}
use Rattle.line_instance.proofs.Unique.{ranks_are_permutation}
use Rattle.in2_reader.proofs.ApartFacts.{are_pairs}
use Rattle.task_table.specs.Lists.{members_in, pairs_of}
use Rattle.task_table.specs.Records.{Fields, behind, names_in, table_records}
use Rattle.task_table.specs.Tables.{IsSheetOf}
use Rattle.task_table.proofs.LinkFacts.{fine_members, pairs_named}
use Rattle.task_table.proofs.RightTasks.{same_many}
use Rattle.command_outcome.specs.Outcome.{Files}
use Rattle.input_files.specs.InputFile.{max_file, Reads}
use Rattle.input_files.specs.Instance.{IsParted, IsPartedBy, Parts, Says}

-- all but the rows of tasks apart are those of an instance, and what is apart is right
pub record IsNear (line : Line) : Type 0 where
  pub whole : Line
  pub line_is : IsLine whole
  pub ranked : IsRanked whole
  pub times : line.times ≡ whole.times
  pub before : line.before ≡ whole.before
  pub order : line.order ≡ whole.order
  pub both_ways : (i j : ℕ) → Apart line i j → Apart line j i
  pub of_two : (i : ℕ) → Apart line i i → ⊥
  pub tasks_are : (i j : ℕ) → Apart line i j → i < tasks line

-- the instance: the same line with rows of 1,024 truths
module _ (line : Line) (near : IsNear line) where
  abbrev n : ℕ
  n = length line.times

  abbrev row : ℕ → List Bool
  row j = map (λ i. is_apart line i j) (range_with_len 0 1024)

  abbrev rows : List (List Bool)
  rows = map row (range_with_len 0 n)

  abbrev made : List ℕ → List (List Bool) → List ℕ → Line
  made ts bs os = record { times = ts; before = bs; apart = rows; order = os }

  abbrev pub fitted : Line
  fitted = made line.times line.before line.order

  many : n ≡ tasks near.whole
  many = ap length near.times

  few : n ≤ 1024
  few = (let small = near.line_is.small in omega (arith, many, small))

  row_at : (j : ℕ) → j < n → get_or rows j [] ≡ row j
  row_at j l = get_or-map-range_with_len row 0 n j j [] l (omega arith)

  truth_at : (i j : ℕ) → i < 1024 → j < n → has (get_or rows j []) i ≡ is_apart line i j
  truth_at i j h l = ap (λ r. has r i) (row_at j l)
      ∙ get_or-map-range_with_len (λ k. is_apart line k j) 0 1024 i i false h (omega arith)

  past_row : (i j : ℕ) → n ≤ j → has (get_or rows j []) i ≡ false
  past_row i j g = ap (λ r. has r i)
      (get_or_past rows j [] (omega (arith, g, length-map-range_with_len row 0 n)))

  past_truth : (i j : ℕ) → 1024 ≤ i → j < n → has (get_or rows j []) i ≡ false
  past_truth i j g l = ap (λ r. has r i) (row_at j l)
      ∙ get_or_past (row j) i false
      (omega (arith, g, length-map-range_with_len (λ k. is_apart line k j) 0 1024))

  apart_there : (i j : ℕ) → Apart fitted i j → Apart line i j
  apart_there i j a = elim (cases_lt j n) [
    | inl l ↦ elim (cases_lt i 1024) [
      | inl h ↦ sym (truth_at i j h l) ∙ a
      | inr g ↦ absurd (false≢true (sym (past_truth i j g l) ∙ a))
    ]
    | inr g ↦ absurd (false≢true (sym (past_row i j g) ∙ a))
  ]

  apart_back : (i j : ℕ) → Apart line i j → Apart fitted i j
  apart_back i j a =
      let h = near.tasks_are i j a in
      let l = near.tasks_are j i (near.both_ways i j a) in
      truth_at i j (omega (arith, h, few)) l ∙ a

  pub same_apart : (i j : ℕ) → Apart fitted i j ↔ Apart line i j
  same_apart i j = (apart_there i j, apart_back i j)

  whole_line : IsLine (made near.whole.times near.whole.before near.whole.order)
  whole_line =
      let old = near.line_is in
      record {
        some = old.some;
        small = old.small;
        times = old.times;
        before_rows = old.before_rows;
        before = λ j l. record { truths = (old.before j l).truths; tasks = (old.before j l).tasks };
        leads_on = old.leads_on;
        not_itself = old.not_itself;
        apart_rows = length-map-range_with_len row 0 n ∙ many;
        apart = λ j l.
            let small : j < n = omega (arith, l, many) in
            record {
              truths = ap length (row_at j small)
                  ∙ length-map-range_with_len (λ k. is_apart line k j) 0 1024;
              tasks = λ i a. let below = near.tasks_are i j (apart_there i j a) in omega (arith, below, many);
            };
        both_ways = λ i j a. apart_back j i (near.both_ways i j (apart_there i j a));
        of_two = λ i a. near.of_two i (apart_there i i a);
      }

  whole_ranked : IsRanked (made near.whole.times near.whole.before near.whole.order)
  whole_ranked =
      let old = near.ranked in
      record { many = old.many; task = old.task; rank = old.rank; once = old.once; rises = old.rises }

  -- from the parts of the instance to those of the line
  over : (P : Line → Type 0) → P (made near.whole.times near.whole.before near.whole.order) → P fitted
  over P p =
      let Q : List ℕ → List (List Bool) → Type 0 = λ ts bs. P (made ts bs near.whole.order) in
      let R : List ℕ → Type 0 = λ os. P (made line.times line.before os) in
      subst R (sym near.order) (subst₂ Q (sym near.times) (sym near.before) p)

  pub fitted_line : IsLine fitted
  fitted_line = over IsLine whole_line

  pub fitted_ranked : IsRanked fitted
  fitted_ranked = over IsRanked whole_ranked

-- an instance of times and arcs
pub near_instance : (ts : List ℕ) (arcs : List Prec) (line : Line) → IsInstanceOf ts arcs line → IsNear line
near_instance ts arcs line is = record {
  whole = line;
  line_is = is.line_is;
  ranked = ranks_are_permutation line is.line_is is.ranks;
  times = refl;
  before = refl;
  order = refl;
  both_ways = is.line_is.both_ways;
  of_two = is.line_is.of_two;
  tasks_are = λ i j a. absurd (is.apart i j a);
}

-- pairs that are given are of two tasks each, in either order
swapped : (pairs : List Prec) (i j : ℕ) → IsGiven pairs i j → IsGiven pairs j i
swapped pairs i j (inl l) = inr l
swapped pairs i j (inr l) = inl l

abbrev AreTwo : ℕ → ℕ → ℕ → Type 0
AreTwo n i j = (i < n) × (j < n) × (i ≡ j → ⊥)

two_led : (n : ℕ) (pairs : List Prec) (i j : ℕ) → ArePairs n pairs → Leads pairs i j → AreTwo n i j
two_led n pairs i j h l =
    let is : record { first = i; «then» = j } ≡ arc_at pairs l.0 =
    get_or_read pairs l.0 (record { first = i; «then» = j }) l.1 (sym l.2) (record { first = 0; «then» = 0 }) in
    let P : Prec → Type 0 = λ p. Names n p × (p.first ≡ p.«then» → ⊥) in
    let two : P (record { first = i; «then» = j }) = subst P (sym is) (h l.0 l.1) in
    (two.0.0, two.0.1, two.1)

two_given : (n : ℕ) (pairs : List Prec) (i j : ℕ) → ArePairs n pairs → IsGiven pairs i j → AreTwo n i j
two_given n pairs i j h (inl l) = two_led n pairs i j h l
two_given n pairs i j h (inr l) =
    let two = two_led n pairs j i h l in
    (two.1, two.0, λ e. two.2 (sym e))

-- a table
pub near_sheet : (records : List Fields) (line : Line) → IsSheetOf records line → IsNear line
near_sheet records line sheet =
    let names : List (List ℕ) = names_in (behind records) in
    let pairs : List Prec = pairs_of names (members_in (behind records)) in
    let right : ArePairs (length names) pairs =
    pairs_named names (members_in (behind records)) (fine_members (behind records) sheet.known) in
    let many : length line.times ≡ length names =
    ap length (sheet.times ∙ sheet.made.times) ∙ same_many (behind records) in
    record {
      whole = sheet.whole;
      line_is = sheet.made.line_is;
      ranked = ranks_are_permutation sheet.whole sheet.made.line_is sheet.made.ranks;
      times = sheet.times;
      before = sheet.before;
      order = sheet.order;
      both_ways = λ i j a. (sheet.apart j i).1 (swapped pairs i j ((sheet.apart i j).0 a));
      of_two = λ i a. (two_given (length names) pairs i i right ((sheet.apart i i).0 a)).2 refl;
      tasks_are = λ i j a.
          let two = two_given (length names) pairs i j right ((sheet.apart i j).0 a) in omega (arith, two.0, many);
    }

-- more tasks apart
either_swapped : (whole : Line) (near : IsNear whole) (pairs : List Prec) (i j : ℕ)
    → Apart whole i j ⊎ IsGiven pairs i j → Apart whole j i ⊎ IsGiven pairs j i
either_swapped whole near pairs i j (inl a) = inl (near.both_ways i j a)
either_swapped whole near pairs i j (inr g) = inr (swapped pairs i j g)

either_two : (whole : Line) (near : IsNear whole) (pairs : List Prec) (i : ℕ) → ArePairs (tasks whole) pairs
    → Apart whole i i ⊎ IsGiven pairs i i → ⊥
either_two whole near pairs i h (inl a) = near.of_two i a
either_two whole near pairs i h (inr g) = (two_given (tasks whole) pairs i i h g).2 refl

either_task : (whole : Line) (near : IsNear whole) (pairs : List Prec) (i j : ℕ) → ArePairs (tasks whole) pairs
    → Apart whole i j ⊎ IsGiven pairs i j → i < tasks whole
either_task whole near pairs i j h (inl a) = near.tasks_are i j a
either_task whole near pairs i j h (inr g) = (two_given (tasks whole) pairs i j h g).0

near_parted : (pairs : List Prec) (whole line : Line) → IsNear whole → ArePairs (tasks whole) pairs
    → IsParted pairs whole line → IsNear line
near_parted pairs whole line near h p = record {
  whole = near.whole;
  line_is = near.line_is;
  ranked = near.ranked;
  times = p.times ∙ near.times;
  before = p.before ∙ near.before;
  order = p.order ∙ near.order;
  both_ways = λ i j a. (p.apart j i).1 (either_swapped whole near pairs i j ((p.apart i j).0 a));
  of_two = λ i a. either_two whole near pairs i h ((p.apart i i).0 a);
  tasks_are = λ i j a.
      let below = either_task whole near pairs i j h ((p.apart i j).0 a) in omega (arith, below, ap length p.times);
}

-- a line as a file of tasks apart leaves it, or as it is
pub record IsLeft (whole line : Line) : Type 0 where
  pub near : IsNear line
  pub times : line.times ≡ whole.times
  pub before : line.before ≡ whole.before

left_by_file : (file : Option (List ℕ)) (whole line : Line) → IsNear whole → Reads max_file file (Parts whole line)
    → IsLeft whole line
left_by_file None whole line near r = absurd r
left_by_file (Some bytes) whole line near r =
    let pairs : List Prec = r.1.0 in
    let said = r.1.1 in
    let parted = r.1.2 in
    record {
      near = near_parted pairs whole line near (are_pairs (tasks whole) said.paired pairs said.are.pairs) parted;
      times = parted.times;
      before = parted.before;
    }

pub left_by : (files : Files) (apart : Option (List ℕ)) (whole line : Line) → IsNear whole
    → IsPartedBy files apart whole line → IsLeft whole line
left_by files None whole line near e = record {
  near = subst IsNear (sym e) near;
  times = ap (λ l. l.times) e;
  before = ap (λ l. l.before) e;
}
left_by files (Some name) whole line near r = left_by_file (files name) whole line near r

-- what a text says
pub says_near : (bytes : List ℕ) (line : Line) (given : Option ℕ) → Says bytes line given → IsNear line
says_near bytes line given (inl a) = near_instance _ _ line a.2.is
says_near bytes line given (inr (inl i)) = near_instance _ _ line i.2.is
says_near bytes line given (inr (inr t)) = near_sheet (table_records t.mark bytes) line t.sheet
