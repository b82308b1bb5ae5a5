-- The times of a set and its counts by size.
use Rattle.std.proofs.Common.{[], ◌∷◌, sym, ◌≡◌, ℕ, ◌+◌, ◌*◌, ◌<◌, ◌≤◌, max, Bool, true, false, cond, nat_eq, nat_le}
use Rattle.std.proofs.Common.{nat_lt, List, length, get_or, refl, ap, ◌∙◌, arith}
use Rattle.std.proofs.lemmas.Bool.Decides.{nat_tests}
use mir.Val.{bool_byte}
use Rattle.line_instance.specs.Truths.{In, members_of}
use Rattle.line_instance.specs.Line.{Line, IsLine, IsTaskSet, has, tasks, time}
use Rattle.line_instance.specs.Sums.{weigh, sum_where, count_where}
use Rattle.line_instance.proofs.Sums.{weigh-most}
use Rattle.line_rules.specs.Bounds.{sixths}
use Rattle.line_rules.specs.Times.{AreCounts, AreTimes, longest_of}
use Rattle.line_rules.proofs.SumsOverMembers.{AllIn, all_in_start, all_in_turn, weight_of, weight_start, weight_turn}
use Rattle.line_rules.proofs.SumsOverMembers.{weight_end, greatest_of, greatest_listed, greatest_end}
use Rattle.line_rules.proofs.SumsOverMembers.{below_at, weightless}
use Rattle.line_rules.proofs.BoundIsTrue.{sixths_whole, cond_le, greatest_le}

once : (b : Bool) → cond b 1 0 ≤ 1
once true = omega arith
once false = omega arith

-- a truth counts for at most one
pub one_more : (b : Bool) → bool_byte b ≤ 1
one_more true = omega arith
one_more false = omega arith

-- a truth counts for one or for nothing
pub byte_is : (b : Bool) → bool_byte b ≡ cond b 1 0
byte_is true = refl
byte_is false = refl

-- the sixths of a time, in four steps
pub sixths_steps : (c t : ℕ) → 1 ≤ c
    → 2 * cond (nat_le c (3 * t)) 1 0 + cond (nat_lt c (3 * t)) 1 0 + cond (nat_le (2 * c) (3 * t)) 1 0 + 2 * cond
    (nat_lt (2 * c) (3 * t)) 1 0 ≡ sixths c t
unfolding sixths
sixths_steps c t o = grind (arith, nat_tests, o)

-- at most all tasks are counted
pub count_most : (test p : ℕ → Bool) (ts : List ℕ) → count_where test p ts ≤ length ts
count_most test p ts = omega (arith, weigh-most (λ t. cond (test t) 1 0) p 1 ts (λ i l. once (test (get_or ts i 0))))

-- each task counts for at most a whole station
pub sixths_most : (c : ℕ) (p : ℕ → Bool) (ts : List ℕ) → weigh (sixths c) p ts ≤ length ts * 6
sixths_most c p ts = weigh-most (sixths c) p 6 ts (λ i l. sixths_whole c (get_or ts i 0))

-- each member takes at most the greatest time
pub longest_least : (line : Line) (R : List Bool) → IsTaskSet line R → (i : ℕ) → In R i
    → time line i ≤ longest_of line R
unfolding longest_of
longest_least line R set i m =
    let e : cond (has R i) (time line i) 0 ≡ time line i = ap (λ b. cond b (time line i) 0) m in
    omega (arith, e, below_at (tasks line) (λ j. cond (has R j) (time line j) 0) i (set.tasks i m))

-- what a walk over the members starts with
pub longest_start : (line : Line) (left : List ℕ) (R : List Bool) → ((i : ℕ) → In R i → i < tasks line)
    → left ≡ members_of R → max 0 (greatest_of (time line) left) ≡ longest_of line R
unfolding longest_of
longest_start line left R h e =
    let f : greatest_of (time line) left ≡ greatest_of (time line) (members_of R) = ap (greatest_of (time line)) e in
    omega (arith, f, greatest_listed (tasks line) (time line) R h)

pub longest_most : (line : Line) (R : List Bool) (m : ℕ) → ((i : ℕ) → time line i ≤ m) → longest_of line R ≤ m
unfolding longest_of
longest_most line R m h = greatest_le (tasks line) (λ i. cond (has R i) (time line i) 0) m
    (λ i. cond_le (has R i) (time line i) m (λ e. h i))

-- times over the members of R: the next one fits a sum of 64 bits, and at the end the sum and the greatest are those of
-- R
times_limit : {line : Line} (R : List Bool) → IsLine line → sum_where (has R) line.times ≤ 204800000000000000
times_limit {line} R ok = omega (
  arith,
  ok.small,
  weigh-most (λ t. t) (has R) 200000000000000 line.times
      (λ i l. ok.times i),
)

pub next_fits : {line : Line} {i : ℕ} {left more : List ℕ} (R : List Bool) (total : ℕ) → IsLine line → left ≡ i ∷ more
    → total + weight_of (λ t. t) line.times left ≡ sum_where (has R) line.times
    → total + time line i ≤ 204800000000000000
next_fits {line} {i} {left} {more} R total ok e h = omega (
  arith,
  times_limit R ok,
  weight_turn (λ t. t) line.times left more i total (sum_where (has R) line.times) e h,
)

pub times_end : {line : Line} {R : List Bool} {total most : ℕ} {left : List ℕ} → IsLine line → IsTaskSet line R
    → left ≡ [] → total + weight_of (λ t. t) line.times left ≡ sum_where (has R) line.times
    → max most (greatest_of (time line) left) ≡ longest_of line R → AreTimes line R total most
times_end {line} {R} {total} {most} {left} ok set e sum long =
    let whole : total ≡ sum_where (has R) line.times = weight_end (λ t. t) line.times left total
    (sum_where (has R) line.times) e sum in
    let longest : most ≡ longest_of line R = greatest_end (time line) left most (longest_of line R) e long in
    record {
      total = whole;
      total_limit = omega (arith, whole, times_limit R ok);
      longest = λ i m. omega (arith, longest, longest_least line R set i m);
      longest_limit = omega (arith, longest, longest_most line R 200000000000000 ok.times);
    }

-- how great the counts can be
pub record Few (line : Line) (long above half six : ℕ) : Type 0 where
  pub too_long : long ≤ length line.times
  pub above_half : above ≤ length line.times
  pub at_half : half ≤ length line.times
  pub sixths : six ≤ length line.times * 6

-- the counts of the members of R that were gone over, and what the listed ones, which are left, add to them
record Listed (line : Line) (c : ℕ) (R : List Bool) (long above half six : ℕ) (left : List ℕ) : Type 0 where
  too_long : long + weight_of (λ t. cond (nat_lt c t) 1 0) line.times left
      ≡ count_where (λ t. nat_lt c t) (has R) line.times
  above_half : above + weight_of (λ t. cond (nat_lt c (2 * t)) 1 0) line.times left
      ≡ count_where (λ t. nat_lt c (2 * t)) (has R) line.times
  at_half : half + weight_of (λ t. cond (nat_eq (2 * t) c) 1 0) line.times left
      ≡ count_where (λ t. nat_eq (2 * t) c) (has R) line.times
  sixths : six + weight_of (sixths c) line.times left ≡ weigh (sixths c) (has R) line.times

pub record Counting (line : Line) (c : ℕ) (R : List Bool) (long above half six : ℕ) (left : List ℕ) : Type 0 where
  pub members : AllIn R left
  listed : Listed line c R long above half six left
  pub few : Few line long above half six

counting_of : {line : Line} {c : ℕ} {R : List Bool} {long above half six : ℕ} {left : List ℕ} → AllIn R left
    → Listed line c R long above half six left → Counting line c R long above half six left
counting_of {line} {c} {R} {long} {above} {half} {six} {left} all h = record {
  members = all;
  listed = h;
  few = record {
    too_long = omega (arith, h.too_long, count_most (λ t. nat_lt c t) (has R) line.times);
    above_half = omega (arith, h.above_half, count_most (λ t. nat_lt c (2 * t)) (has R) line.times);
    at_half = omega (arith, h.at_half, count_most (λ t. nat_eq (2 * t) c) (has R) line.times);
    sixths = omega (arith, h.sixths, sixths_most c (has R) line.times);
  };
}

pub count_start : {line : Line} (c : ℕ) {R : List Bool} {left : List ℕ} → IsTaskSet line R → left ≡ members_of R
    → Counting line c R 0 0 0 0 left
count_start {line} c {R} {left} set e = counting_of (all_in_start R left e) (record {
  too_long = weight_start (λ t. cond (nat_lt c t) 1 0) line.times left R set.tasks e;
  above_half = weight_start (λ t. cond (nat_lt c (2 * t)) 1 0) line.times left R set.tasks e;
  at_half = weight_start (λ t. cond (nat_eq (2 * t) c) 1 0) line.times left R set.tasks e;
  sixths = weight_start (sixths c) line.times left R set.tasks e;
})

pub count_turn : {line : Line} {c : ℕ} {R : List Bool} {long above half six : ℕ} {left : List ℕ}
    → Counting line c R long above half six left → {i t p q r w : ℕ} {more : List ℕ} → left ≡ i ∷ more → t ≡ time line i
    → p ≡ bool_byte (nat_lt c t) → q ≡ bool_byte (nat_lt c (2 * t)) → r ≡ bool_byte (nat_eq (2 * t) c) → w ≡ sixths c t
    → Counting line c R (long + p) (above + q) (half + r) (six + w) more
count_turn {line} {c} {R} {long} {above} {half} {six} {left} at {i} {t} {p} {q} {r} {w} {more} e is ep eq er ew =
    let h : Listed line c R long above half six left = at.listed in
    let bp : p ≡ cond (nat_lt c (get_or line.times i 0)) 1 0 =
    ep ∙ ap (λ n. bool_byte (nat_lt c n)) is ∙ byte_is (nat_lt c (get_or line.times i 0)) in
    let bq : q ≡ cond (nat_lt c (2 * get_or line.times i 0)) 1 0 =
    eq ∙ ap (λ n. bool_byte (nat_lt c (2 * n))) is ∙ byte_is (nat_lt c (2 * get_or line.times i 0)) in
    let br : r ≡ cond (nat_eq (2 * get_or line.times i 0) c) 1 0 =
    er ∙ ap (λ n. bool_byte (nat_eq (2 * n) c)) is ∙ byte_is (nat_eq (2 * get_or line.times i 0) c) in
    let bw : w ≡ sixths c (get_or line.times i 0) = ew ∙ ap (λ n. sixths c n) is in
    counting_of (all_in_turn R left more i e at.members).1 (record {
      too_long = omega (
        arith,
        bp,
        weight_turn (λ t. cond (nat_lt c t) 1 0) line.times left more i long
            (count_where (λ t. nat_lt c t) (has R) line.times) e h.too_long,
      );
      above_half = omega (
        arith,
        bq,
        weight_turn (λ t. cond (nat_lt c (2 * t)) 1 0) line.times left more i above
            (count_where (λ t. nat_lt c (2 * t)) (has R) line.times) e h.above_half,
      );
      at_half = omega (
        arith,
        br,
        weight_turn (λ t. cond (nat_eq (2 * t) c) 1 0) line.times left more i half
            (count_where (λ t. nat_eq (2 * t) c) (has R) line.times) e h.at_half,
      );
      sixths = omega (
        arith,
        bw,
        weight_turn (sixths c) line.times left more i six (weigh (sixths c) (has R) line.times)
            e h.sixths,
      );
    })

pub count_end : {line : Line} {c : ℕ} {R : List Bool} {long above half six : ℕ} {left : List ℕ}
    → Counting line c R long above half six left → IsLine line → left ≡ [] → AreCounts line c R long above half six
count_end {line} {c} {R} {long} {above} {half} {six} {left} at ok e =
    let h : Listed line c R long above half six left = at.listed in
    record {
      too_long = weight_end (λ t. cond (nat_lt c t) 1 0) line.times left long
          (count_where (λ t. nat_lt c t) (has R) line.times) e h.too_long;
      above_half = weight_end (λ t. cond (nat_lt c (2 * t)) 1 0) line.times left above
          (count_where (λ t. nat_lt c (2 * t)) (has R) line.times) e h.above_half;
      at_half = weight_end (λ t. cond (nat_eq (2 * t) c) 1 0) line.times left half
          (count_where (λ t. nat_eq (2 * t) c) (has R) line.times) e h.at_half;
      sixths = weight_end (sixths c) line.times left six (weigh (sixths c) (has R) line.times) e h.sixths;
      most_halves = omega (arith, at.few.above_half, ok.small);
      most_half = omega (arith, at.few.at_half, ok.small);
      most_sixths = omega (arith, at.few.sixths, ok.small);
    }

-- where no member takes a third of the cycle, none counts by its size
module _ (line : Line) (R : List Bool) (set : IsTaskSet line R) (c longest : ℕ)
    (at_most : (i : ℕ) → In R i → time line i ≤ longest) (short : 3 * longest < c) where
  none_counts : (w : ℕ → ℕ) → ((t : ℕ) → 3 * t < c → w t ≡ 0) → weigh w (has R) line.times ≡ 0
  none_counts w h = weightless w (has R) line.times (λ i l m. h (time line i) (omega (arith, short, at_most i m)))

  pub none_long : count_where (λ t. nat_lt c t) (has R) line.times ≡ 0
  none_long = none_counts (λ t. cond (nat_lt c t) 1 0) (λ t l. grind (arith, nat_tests, l))

  pub none_above : count_where (λ t. nat_lt c (2 * t)) (has R) line.times ≡ 0
  none_above = none_counts (λ t. cond (nat_lt c (2 * t)) 1 0) (λ t l. grind (arith, nat_tests, l))

  pub none_half : count_where (λ t. nat_eq (2 * t) c) (has R) line.times ≡ 0
  none_half = none_counts (λ t. cond (nat_eq (2 * t) c) 1 0) (λ t l. grind (arith, nat_tests, l))

  no_sixths : (t : ℕ) → 3 * t < c → sixths c t ≡ 0
  unfolding sixths
  no_sixths t l = grind (arith, nat_tests, l)

  pub none_sixths : weigh (sixths c) (has R) line.times ≡ 0
  none_sixths = none_counts (sixths c) no_sixths

  -- so all counts are 0
  pub nothing_counts : AreCounts line c R 0 0 0 0
  nothing_counts = record {
    too_long = sym none_long;
    above_half = sym none_above;
    at_half = sym none_half;
    sixths = sym none_sixths;
    most_halves = omega arith;
    most_half = omega arith;
    most_sixths = omega arith;
  }
