-- The numbers of a picture: the sums of the stations, and what is idle.
use Rattle.std.proofs.Common.{◌≡◌, ℕ, zero, suc, ◌+◌, ◌*◌, ◌/◌, ◌≤◌, Bool, true, false, ◌&&◌, not, nat_eq, nat_le, List}
use Rattle.std.proofs.Common.{refl, sym, ap, ◌∙◌, arith}
use Rattle.std.proofs.Math.Nat.{mul-div-le, div-le_of_le-mul}
use Rattle.std.proofs.lemmas.Bool.{and_parts, and_from, false≢true, le-leb, leb-true}
use Rattle.std.proofs.lemmas.Bool.Decides.{nat_tests}
use Rattle.line_instance.specs.Truths.{In}
use Rattle.line_instance.specs.Line.{Line, has}
use Rattle.line_instance.specs.Sums.{sum_where}
use Rattle.line_instance.proofs.Sums.{weigh-none, weigh-same, weigh-split, same_truth}
use Rattle.line_rules.specs.Balance.{IsRight, all_tasks, seat}
use Rattle.line_rules.specs.Bounds.{total_time}
use Rattle.line_rules.specs.declared.types.LineKind.{LineKind}
use Rattle.line_rules.specs.declared.types.Seatplace.{Seatplace}
use Rattle.line_rules.specs.declared.types.Balance.{Balance as Assignment}
use Rattle.line_drawing.specs.Figures.{sum_at}
use Rattle.line_drawing.specs.Facts.{AreTrueNumbers, idle_to}

-- the sums of the first n stations together
abbrev pub sums_to : Line → List Seatplace → ℕ → ℕ
sums_to line places zero = 0
sums_to line places (suc n) = sums_to line places n + sum_at line places (suc n)

-- whether a task stands at one of the first n stations
abbrev within : Line → List Seatplace → ℕ → ℕ → Bool
within line places n i = has (all_tasks line) i && nat_le (seat places i).station n

-- of a truth and a test of a number up to one more: the last one, and those below
last_one : (a : Bool) (m n : ℕ) → ((a && nat_le m (suc n)) && nat_eq m (suc n)) ≡ (a && nat_eq m (suc n))
last_one true m n = grind (arith, nat_tests)
last_one false m n = refl

below_it : (a : Bool) (m n : ℕ) → ((a && nat_le m (suc n)) && not (nat_eq m (suc n))) ≡ (a && nat_le m n)
below_it true m n = grind (arith, nat_tests)
below_it false m n = refl

module _ (line : Line) (places : List Seatplace) (first : (i : ℕ) → In (all_tasks line) i
    → 1 ≤ (seat places i).station) where
  sums_within : (n : ℕ) → sums_to line places n ≡ sum_where (within line places n) line.times
  sums_within zero = sym (weigh-none (λ t. t) (within line places 0) none line.times)
    where
      none : (i : ℕ) → within line places 0 i ≡ false
      none i = same_truth (within line places 0 i) false
          (λ e. let q : (has (all_tasks line) i ≡ true) × (nat_le (seat places i).station 0 ≡ true) =
          and_parts (has (all_tasks line) i) (nat_le (seat places i).station 0) e in
          absurd (omega (arith, first i q.0, leb-true (seat places i).station 0 q.1)))
          (λ e. absurd (false≢true e))
  sums_within (suc n) =
      let last : ℕ → Bool = λ i. nat_eq (seat places i).station (suc n) in
      omega (
        arith,
        sums_within n,
        weigh-split (λ t. t) (within line places (suc n)) last line.times,
        weigh-same (λ t. t) (λ i. within line places (suc n) i && last i) (λ i. has (all_tasks line) i && last i)
            (λ i. last_one (has (all_tasks line) i) (seat places i).station n) line.times,
        weigh-same (λ t. t) (λ i. within line places (suc n) i && not (last i)) (within line places n)
            (λ i. below_it (has (all_tasks line) i) (seat places i).station n) line.times,
      )

  -- the sums of all stations are the total time
  pub sums_all : (n : ℕ) → ((i : ℕ) → In (all_tasks line) i → (seat places i).station ≤ n)
      → sums_to line places n ≡ total_time line
  sums_all n last = sums_within n ∙ weigh-same (λ t. t) (within line places n) (has (all_tasks line)) each line.times
    where
      each : (i : ℕ) → within line places n i ≡ has (all_tasks line) i
      each i = same_truth (within line places n i) (has (all_tasks line) i)
          (λ e. (and_parts (has (all_tasks line) i) (nat_le (seat places i).station n) e).0)
          (λ m. and_from (has (all_tasks line) i) (nat_le (seat places i).station n) m
          (le-leb (seat places i).station n (last i m)))

-- what is idle, and the sums, fill the stations
idle_and_sums : (line : Line) (c : ℕ) (places : List Seatplace) → ((k : ℕ) → sum_at line places k ≤ c) → (n : ℕ)
    → idle_to line c places n + sums_to line places n ≡ n * c
idle_and_sums line c places fits zero = omega arith
idle_and_sums line c places fits (suc n) = omega (arith, fits (suc n), idle_and_sums line c places fits n)

module _ (line : Line) (kind : LineKind) (c : ℕ) (b : Assignment) (right : IsRight kind line c b) where
  all_sums : sums_to line b.place b.stations ≡ total_time line
  all_sums = sums_all line b.place right.balance.first b.stations right.balance.last

  filled : idle_to line c b.place b.stations + total_time line ≡ b.stations * c
  filled = omega (arith, all_sums, idle_and_sums line c b.place right.balance.fits b.stations)

  pub has_room : total_time line ≤ b.stations * c
  has_room = omega (arith, filled)

  part_most : (r t : ℕ) → t ≤ r → 1000 * t / r ≤ 1000
  part_most r t l = div-le_of_le-mul r {m = 1000 * t} {n = 1000} (omega (arith, l))

  part_full : (r t : ℕ) → 1000 * t / r ≡ 1000 → r ≤ t
  part_full r t e = omega (arith, mul-div-le (1000 * t) r, times)
    where
      times : r * (1000 * t / r) ≡ r * 1000
      times = ap (λ x. r * x) e

  pub true_numbers : AreTrueNumbers line kind c b
  true_numbers = record {
    fits = right.balance.fits;
    idle = omega (arith, filled);
    percent = part_most (b.stations * c) (total_time line) has_room;
    full = λ e. omega (arith, part_full (b.stations * c) (total_time line) e);
  }
