-- The cases of the bound, and that it is small.
use Rattle.std.proofs.Common.{◌≡◌, ◌≢◌, ◌↔◌, ◌⊎◌, IsTrue, refl, sym, ℕ, zero, suc, ◌+◌, ◌*◌, ◌<◌, ◌≤◌, max, Bool, true}
use Rattle.std.proofs.Common.{false, cond, nat_eq, nat_lt, List, [], ◌∷◌, length, get_or, ap, ◌∙◌, inl, inr, arith}
use Rattle.std.proofs.lemmas.Bool.{false≢true, cases_lt, cases_eq}
use Rattle.std.proofs.lemmas.Bool.Decides.{nat_tests}
use Rattle.std.specs.Int.{div_ceil}
use Rattle.line_instance.specs.Truths.{In, IsEmpty, count}
use Rattle.line_instance.proofs.Counts.{count_first}
use Rattle.line_instance.specs.Line.{Line, IsLine, IsRanked, IsTaskSet, tasks, time, has}
use Rattle.line_instance.specs.Sums.{weigh, sum_where, count_where}
use Rattle.line_instance.proofs.Sums.{weigh-one}
use Rattle.line_rules.specs.Balance.{IsBalance}
use Rattle.line_rules.specs.Bounds.{up, sixths, lm1, lm2, lm3, chained, bound}
use Rattle.line_rules.specs.declared.types.LineKind.{LineKind}
use Rattle.line_rules.specs.declared.types.Seatplace.{Seatplace}
use Rattle.line_rules.proofs.Monotone.{stands_alone}
use Rattle.line_rules.proofs.OneTaskPerStation.{count_below}
use Rattle.line_rules.proofs.BoundIsTrue.{bound_le, some_member}
use Rattle.line_rules.proofs.Nonempty.{bound_some, member_or_empty}
use Rattle.line_rules.specs.Times.{AreCounts}
use Rattle.line_rules.proofs.HeadTail.{up_ceil}

-- the tasks of R longer than the cycle
abbrev pub long_ones : Line → ℕ → List Bool → ℕ
long_ones line c R = count_where (λ t. nat_lt c t) (has R) line.times

-- the parts of the bound
abbrev pub greatest_part : LineKind → Line → ℕ → List Bool → ℕ
greatest_part kind line c R = max 1 (max (lm1 line c R) (max (lm2 line c R)
    (max (lm3 line c R) (chained kind line c R))))

none_counted : (R : List Bool) → IsEmpty R → count R ≡ 0
none_counted R h = elim (cases_eq (count R) 0) [
  | inl e ↦ e
  | inr n ↦
      (let m : (i : ℕ) × In R i = some_member R n in absurd (h m.0 m.1))
]

-- a set without a count has no member
count_some : (R : List Bool) → count R ≡ 0 → (i : ℕ) → In R i → ⊥
count_some [] e i m = false≢true m
count_some (true ∷ bs) e i m = omega (arith, e, count_first true bs)
count_some (false ∷ bs) e zero m = false≢true m
count_some (false ∷ bs) e (suc i) m = count_some bs (omega (arith, e, count_first false bs)) i m

pub empty_bound : (kind : LineKind) (line : Line) (c : ℕ) (R : List Bool) → IsEmpty R → bound kind line c R ≡ 0
unfolding bound
empty_bound kind line c R h =
    ap (λ n. cond (nat_eq n 0) 0 (cond (nat_lt 0 (long_ones line c R)) 1025 (greatest_part kind line c R)))
    (none_counted R h)

module _ (kind : LineKind) (line : Line) (c : ℕ) (R : List Bool) (some : IsEmpty R → ⊥) where
  counted : count R ≢ 0
  counted e = elim (member_or_empty R) [ inl m ↦ absurd (count_some R e m.0 m.1) | inr h ↦ some h ]

  pub at_least_one : 1 ≤ bound kind line c R
  at_least_one = elim (member_or_empty R) [ inl m ↦ bound_some kind line c R m.0 m.1 | inr h ↦ absurd (some h) ]

  pub long_bound : 0 < long_ones line c R → bound kind line c R ≡ 1025
  unfolding bound
  long_bound l = let n : count R ≢ 0 = counted in grind (arith, nat_tests)

  pub parts_bound : long_ones line c R ≡ 0 → bound kind line c R ≡ greatest_part kind line c R
  unfolding bound
  parts_bound l = let n : count R ≢ 0 = counted in grind (arith, nat_tests)

  -- what is below each part that counts is below the bound
  pub below_bound : (most : ℕ) → most < 1025 → (long_ones line c R ≡ 0 → most < greatest_part kind line c R)
      → most < bound kind line c R
  below_bound most l h = elim (cases_eq (long_ones line c R) 0) [
    | inl e ↦ omega (arith, h e, parts_bound e)
    | inr n ↦ omega (arith, long_bound (omega arith))
  ]

-- where no time is too long, the bound is at most the number of tasks
none_long : (c : ℕ) (p : ℕ → Bool) (ts : List ℕ) → count_where (λ t. nat_lt c t) p ts ≡ 0 → (i : ℕ) → i < length ts
    → p i ≡ true → get_or ts i 0 ≤ c
none_long c p ts z i l e = elim (cases_lt c (get_or ts i 0)) [
  | inl more ↦ (let one : 1 ≤ cond (nat_lt c (get_or ts i 0)) 1 0 = grind (arith, nat_tests) in
      absurd (omega (arith, one, z, weigh-one (λ t. cond (nat_lt c t) 1 0) p i ts l e)))
  | inr less ↦ less
]

pub small_bound : (kind : LineKind) (line : Line) (c : ℕ) (R : List Bool) → IsLine line → IsRanked line
    → IsTaskSet line R → 1 ≤ c → long_ones line c R ≡ 0 → bound kind line c R ≤ tasks line
small_bound kind line c R ok ranked set o z =
    let alone : (place : ℕ → Seatplace) × IsBalance kind line c R (count R) place
    × ((i j : ℕ) → In R i → In R j → (place i).station ≡ (place j).station → i ≡ j) =
    stands_alone kind line c R ok ranked set (λ i m. none_long c (has R) line.times z i (set.tasks i m) m) in
    omega (arith, bound_le kind line c o R (count R) alone.0 alone.1, count_below R (tasks line) set.tasks)

-- no bound is more than 1,025
pub most_bound : (kind : LineKind) (line : Line) (c : ℕ) (R : List Bool) → IsLine line → IsRanked line
    → IsTaskSet line R → 1 ≤ c → bound kind line c R ≤ 1025
most_bound kind line c R ok ranked set o = elim (cases_eq (long_ones line c R) 0) [
  | inl e ↦ omega (arith, small_bound kind line c R ok ranked set o e, ok.small)
  | inr n ↦ elim (member_or_empty R) [
    | inl m ↦ omega (arith, long_bound kind line c R (λ h. h m.0 m.1) (omega arith))
    | inr h ↦ omega (arith, empty_bound kind line c R h)
  ]
]

-- the parts of the bound from the total time and from the counts
pub time_part : (line : Line) (c : ℕ) (R : List Bool) (time stations : ℕ) → 1 ≤ c → time ≡ sum_where (has R) line.times
    → stations ≡ div_ceil time c → stations ≡ lm1 line c R
unfolding lm1
time_part line c R time stations o e f = f ∙ up_ceil time c o ∙ ap (λ t. up t c) e

pub count_parts : (line : Line) (c : ℕ) (R : List Bool) (above at six stations : ℕ)
    → above ≡ count_where (λ t. nat_lt c (2 * t)) (has R) line.times
    → at ≡ count_where (λ t. nat_eq (2 * t) c) (has R) line.times
    → six ≡ weigh (sixths c) (has R) line.times → stations ≡ max 1 (max (above + up at 2) (up six 6))
    → stations ≡ max 1 (max (lm2 line c R) (lm3 line c R))
unfolding lm2 lm3
count_parts line c R above at six stations e f g h = h ∙ ap (λ n. max 1 (max (n + up at 2) (up six 6))) e
    ∙ ap (λ n. max 1 (max (count_where (λ t. nat_lt c (2 * t)) (has R) line.times + up n 2) (up six 6))) f
    ∙ ap (λ n. max 1 (max (count_where (λ t. nat_lt c (2 * t)) (has R) line.times + up
    (count_where (λ t. nat_eq (2 * t) c) (has R) line.times) 2) (up n 6))) g

-- Whether the bound of R exceeds most, test by test. It doesn't where R has no task, or where no bound is so large.
pub not_exceeded : {line : Line} {R : List Bool} (kind : LineKind) (c most : ℕ) → IsLine line → IsRanked line
    → IsTaskSet line R → 1 ≤ c → (IsEmpty R ⊎ (1025 ≤ most)) → IsTrue false ↔ most < bound kind line c R
not_exceeded {line} {R} kind c most ok ranked set o why = (
  λ e. absurd (false≢true e),
  λ l. absurd (elim why [
    | inl h ↦ omega (arith, l, empty_bound kind line c R h)
    | inr g ↦ omega (arith, l, g, most_bound kind line c R ok ranked set o)
  ]),
)

module _ (kind : LineKind) (line : Line) (c : ℕ) (R : List Bool) {empty : Bool} (told : IsTrue empty ↔ IsEmpty R)
    (isnt : empty ≡ false) (most : ℕ) where
  some_task : IsEmpty R → ⊥
  some_task h = false≢true (sym isnt ∙ told.1 h)

  pub none_is_exceeded : most ≡ 0 → IsTrue true ↔ most < bound kind line c R
  none_is_exceeded z = (λ _. omega (arith, z, at_least_one kind line c R some_task), λ _. refl)

  pub time_exceeds : {time stations m : ℕ} → m ≡ most → m < 1025 → 1 ≤ c → time ≡ sum_where (has R) line.times
      → stations ≡ div_ceil time c → m < stations → IsTrue true ↔ most < bound kind line c R
  time_exceeds {time} {stations} {m} same small o total is more = (
    λ _. below_bound kind line c R some_task most (omega (arith, same, small))
        (λ _. omega (arith, same, more, time_part line c R time stations o total is)),
    λ _. refl,
  )

  module _ {long above half six : ℕ} (counts : AreCounts line c R long above half six) where
    pub long_exceeds : most < 1025 → 0 < long → IsTrue true ↔ most < bound kind line c R
    long_exceeds small more = (
      λ _. omega (
        arith,
        small,
        long_bound kind line c R some_task
            (omega (arith, more, counts.too_long)),
      ),
      λ _. refl,
    )

    module _ {stations m : ℕ} (same : m ≡ most) (is : stations ≡ max 1 (max (above + up half 2) (up six 6))) where
      parts : stations ≡ max 1 (max (lm2 line c R) (lm3 line c R))
      parts = count_parts line c R above half six stations counts.above_half counts.at_half counts.sixths is

      pub counts_exceed : most < 1025 → m < stations → IsTrue true ↔ most < bound kind line c R
      counts_exceed small more = (
        λ _. below_bound kind line c R some_task most small
            (λ _. omega (arith, same, more, parts)),
        λ _. refl,
      )

      -- where nothing else exceeds it, what the head and the tail of a task need decides
      pub chains_decide : {time by_time : ℕ} {longer : Bool} → 1 ≤ c → time ≡ sum_where (has R) line.times
          → by_time ≡ div_ceil time c → by_time ≤ m → long ≤ 0 → stations ≤ m
          → (IsTrue longer ↔ m < chained kind line c R) → 1 ≤ m
          → IsTrue longer ↔ most < bound kind line c R
      chains_decide {time} {by_time} {longer} o total by fits none few tells one =
          let whole : bound kind line c R ≡ greatest_part kind line c R =
          parts_bound kind line c R some_task (omega (arith, none, counts.too_long)) in
          let first : by_time ≡ lm1 line c R = time_part line c R time by_time o total by in (
            λ e. omega (arith, whole, same, tells.0 e),
            λ l. tells.1 (omega (arith, l, whole, same, first, parts, fits, few, one)),
          )
