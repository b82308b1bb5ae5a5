-- The first ends of a search: no cycle below the lower one serves, and all tasks at the first station serve at the
-- upper one.
use Rattle.std.proofs.Common.{◌≡◌, ℕ, zero, suc, ◌+◌, ◌-◌, ◌*◌, ◌/◌, ◌<◌, ◌≤◌, true, cond, ◌&&◌, List}
use Rattle.std.proofs.Common.{[], ◌∷◌, length, replicate, refl, sym, ap, subst, inl, inr, arith}
use Rattle.std.specs.Prelude.{nat_eq, nat_lt}
use Rattle.std.proofs.lemmas.Bool.{cases_lt, and_parts}
use Rattle.std.proofs.lemmas.Bool.Decides.{nat_tests}
use Rattle.std.proofs.lemmas.List.{get_or-replicate, length-replicate}
use Rattle.std.proofs.Math.Nat.{mul-le-mul_left}
use Rattle.line_instance.specs.Truths.{In}
use Rattle.line_instance.proofs.Members.{In-full_to_below}
use Rattle.line_instance.specs.Line.{Line, IsLine, tasks, time, has}
use Rattle.line_instance.proofs.Sums.{weigh-one, sum_where-le}
use Rattle.line_rules.specs.Balance.{IsRight, IsSide, Keeps, all_tasks, seat}
use Rattle.line_rules.specs.Bounds.{up, bound, lm1, total_time, IsTooLong}
use Rattle.line_rules.specs.Units.{UnitsOf}
use Rattle.line_rules.specs.declared.types.LineKind.{LineKind}
use Rattle.line_rules.specs.declared.types.LineKind.TheVariants.{Straight, U}
use Rattle.line_rules.specs.declared.types.Side.TheVariants.{Front}
use Rattle.line_rules.specs.declared.types.Seatplace.{Seatplace}
use Rattle.line_rules.specs.declared.types.Balance.{Balance as Assignment}
use Rattle.line_rules.specs.declared.types.Entry.{Entry}
use Rattle.line_rules.proofs.All.{In-all}
use Rattle.line_rules.proofs.BoundIsTrue.{up_le, cond_le, greatest_le}
use Rattle.line_rules.specs.Times.{longest_of}
use Rattle.line_rules.proofs.SumsOverMembers.{below_at}
use Rattle.line_rules.proofs.BoundCases.{long_ones, below_bound}
use Rattle.lemma_core.specs.Books.{MayBeBest}
use Rattle.round_run.specs.Rounds.{by_bound}
use Rattle.round_run.specs.declared.plans.Plan.{Plan}
use Rattle.cycle_search.specs.Ends.{NoneApart, first_lower, first_upper, at_first}
use Rattle.cycle_search.specs.Outcomes.{IsRightIn, IsBelow}
use Rattle.cycle_search.specs.Seek.{try_room, AreSeeks}
use Rattle.cycle_search.specs.inner.Searching.{AreOutside, IsKept, IsBetween, IsFirstBook}
use Rattle.cycle_search.specs.declared.halving.Halving.{Halving}

-- no task is longer than a cycle from the first lower end on
pub none_long : (line : Line) (m X : ℕ) → IsLine line → first_lower line m ≤ X → (i : ℕ) → IsTooLong line X i → ⊥
unfolding longest_of
none_long line m X ok from i long =
    let here : has (all_tasks line) i ≡ true = In-all line i ok.small long.0 in
    let e : cond (has (all_tasks line) i) (time line i) 0 ≡ time line i = ap (λ b. cond b (time line i) 0) here in
    omega (
      arith,
      long.1,
      from,
      e,
      below_at (tasks line) (λ j. cond (has (all_tasks line) j) (time line j) 0) i long.0,
    )

-- a divided by b and rounded up, from a product below a
up_above : (a b r : ℕ) → 1 ≤ b → b * r < a → r < up a b
up_above a b r o l = elim (cases_lt r (up a b)) [
  | inl more ↦ more
  | inr less ↦
      let g : a ≤ b * ((a + (b - 1)) / b) = omega arith in
      let m : b * ((a + (b - 1)) / b) ≤ b * r = mul-le-mul_left b less in
      absurd (omega (arith, g, m, l))
]

up_small : (a b : ℕ) → 1 ≤ b → up a b ≤ a
up_small a b o = up_le a b a o (let m : a * 1 ≤ a * b = mul-le-mul_left a o in omega (arith, m))

-- what is rounded up to more than r is more than b times r
above_up : (a b r : ℕ) → 1 ≤ b → r < up a b → b * r < a
above_up a b r o l = elim (cases_lt (b * r) a) [
  | inl more ↦ more
  | inr less ↦
      let p : b * r ≡ r * b = omega arith in
      absurd (omega (arith, l, up_le a b r o (omega (arith, less, p))))
]

-- where no task of all is counted as too long, each time is at most the cycle
each_short : (line : Line) (c : ℕ) → long_ones line c (all_tasks line) ≡ 0 → (i : ℕ) → has (all_tasks line) i ≡ true
    → time line i ≤ c
each_short line c z i here = elim (cases_lt c (time line i)) [
  | inl more ↦
      let one : 1 ≤ cond (nat_lt c (time line i)) 1 0 = grind (arith, nat_tests) in
      absurd (omega (
        arith,
        one,
        z,
        weigh-one (λ t. cond (nat_lt c t) 1 0) (has (all_tasks line)) i line.times
            (In-full_to_below (tasks line) i here) here,
      ))
  | inr less ↦ less
]

longest_short : (line : Line) (c : ℕ) → long_ones line c (all_tasks line) ≡ 0 → longest_of line (all_tasks line) ≤ c
unfolding longest_of
longest_short line c z =
    greatest_le (tasks line) (λ j. cond (has (all_tasks line) j) (time line j) 0) c
    (λ j. cond_le (has (all_tasks line) j) (time line j) c (each_short line c z j))

longest_total : (line : Line) → longest_of line (all_tasks line) ≤ total_time line
unfolding longest_of
longest_total line =
    greatest_le (tasks line) (λ j. cond (has (all_tasks line) j) (time line j) 0) (total_time line)
    (λ j. cond_le (has (all_tasks line) j) (time line j) (total_time line)
    (λ here. weigh-one (λ t. t) (has (all_tasks line)) j line.times (In-full_to_below (tasks line) j here) here))

-- the bound refutes the cycle below the first lower end, where that is above 1
pub first_refuted : (kind : LineKind) (line : Line) (m : ℕ) → IsLine line → 1 ≤ m → m ≤ 1024 → 1 < first_lower line m
    → m < bound kind line (first_lower line m - 1) (all_tasks line)
unfolding lm1
first_refuted kind line m ok some few more =
    let c : ℕ = first_lower line m - 1 in
    below_bound kind line c (all_tasks line) (λ none. none 0 (In-all line 0 ok.small ok.some)) m (omega arith)
    (λ z.
    let l : longest_of line (all_tasks line) ≤ c = longest_short line c z in
    let t : m * c < total_time line = above_up (total_time line) m c some (omega (arith, l, more)) in
    let s : c * m < total_time line = (let p : m * c ≡ c * m = omega arith in omega (arith, t, p)) in
    let b : m < up (total_time line) c = up_above (total_time line) c m (omega (arith, more)) s in
    omega (arith, b))

pub first_met : (line : Line) (m : ℕ) → 1 ≤ m → first_lower line m ≤ first_upper line
first_met line m some = omega (arith, longest_total line, up_small (total_time line) m some)

keeps_first : (kind : LineKind) → Keeps kind at_first at_first
keeps_first Straight = omega arith
keeps_first U = record { front = λ e. (refl, omega arith); back = λ e. absurd (cc) }

front_is : (kind : LineKind) → IsSide kind Front
front_is Straight = refl
front_is U = tt

-- all tasks at the first of m stations are a right balance at a cycle of their total time
pub first_right : (kind : LineKind) (line : Line) (m c : ℕ) → IsLine line → NoneApart line → 1 ≤ m
    → total_time line ≤ c → IsRight kind line c (record { stations = m; place = replicate (tasks line) at_first })
first_right kind line m c ok none some long =
    let places : List Seatplace = replicate (tasks line) at_first in
    let at : (i : ℕ) → In (all_tasks line) i → at_first ≡ seat places i =
    λ i here. sym (get_or-replicate (tasks line) i at_first (record { station = 0; side = Front })
    (In-full_to_below (tasks line) i here)) in
    record {
      each = length-replicate (tasks line) at_first;
      sides = λ i here. (let P : Seatplace → Type 0 = λ p. IsSide kind p.side in subst P (at i here) (front_is kind));
      balance = record {
        first = λ i here. (let P : Seatplace → Type 0 = λ p. 1 ≤ p.station in subst P (at i here) (omega arith));
        last = λ i here. (let P : Seatplace → Type 0 = λ p. p.station ≤ m in subst P (at i here) some);
        keeps = λ i j here there b.
            let P : Seatplace → Type 0 = λ p. Keeps kind p at_first in
            let Q : Seatplace → Type 0 = λ p. Keeps kind (seat places i) p in
            subst Q (at j there) (subst P (at i here) (keeps_first kind));
        parted = λ i j here there a. absurd (none i j a);
        fits = λ s.
            omega (
              arith,
              long,
              sum_where-le (λ i. has (all_tasks line) i && nat_eq (seat places i).station s)
                  (has (all_tasks line))
                  (λ i e. (and_parts (has (all_tasks line) i) (nat_eq (seat places i).station s) e).0) line.times,
            );
      };
    }

-- all tasks at the only station may be the best balance of a book
pub first_best : (kind : LineKind) (line : Line) (c : ℕ) (b : Assignment) → IsLine line → NoneApart line
    → total_time line ≤ c → b ≡ record { stations = 1; place = replicate (tasks line) at_first }
    → MayBeBest (record { line = line; kind = kind; cycle = c }) b
first_best kind line c b ok none long e =
    let P : Assignment → Type 0 = λ z. MayBeBest (record { line = line; kind = kind; cycle = c }) z in
    subst P (sym e) (record {
      right = first_right kind line 1 c ok none (omega arith) long;
      few = omega (arith, ok.some);
    })

-- the search before its first try
pub begun : (kind : LineKind) (line : Line) (m : ℕ) (plan : Plan) (h : Halving) → IsLine line → NoneApart line → 1 ≤ m
    → m ≤ 1024
    → h.lower ≡ first_lower line m → h.upper ≡ first_upper line → h.upper ≤ 204800000000000000
    → h.balance ≡ record { stations = m; place = replicate (tasks line) at_first } → h.proof ≡ []
    → IsFirstBook kind line m h.book → h.paid ≡ 0 → AreSeeks plan h.seeks → IsBetween kind line m plan h
begun kind line m plan h ok none some few lower upper limit balance proof book paid seeks =
    let B : Assignment → Type 0 = λ b. IsRightIn kind line m h.upper b in
    let K : List Entry → Type 0 = λ es. IsKept kind line m (try_room plan) h.lower h.upper es in
    let E : List Entry → Type 0 = λ es. IsBelow line m es h.lower in
    let O : List Entry → Type 0 = λ es. AreOutside h.lower h.upper es in
    let V : List Entry → Type 0 = λ es. UnitsOf line es 0 in
    record {
      ends = record {
        line_is = book.line_is;
        kind_is = book.kind_is;
        reserved = book.reserved;
        from = omega (arith, lower);
        met = omega (arith, lower, upper, first_met line m some);
        most = omega (arith, upper);
        limit = limit;
        balance = subst B (sym balance) (record {
          right = first_right kind line m h.upper ok none some (omega (arith, upper));
          stations = refl;
        });
        proof = subst K (sym proof) (record {
          derived = λ k e g. absurd (cc);
          statable = λ k e g. absurd (cc);
          outside = λ k e g. absurd (cc);
          goal = λ l. absurd (omega (arith, l));
          few = omega arith;
          units = 0;
          counted = refl;
          within = omega arith;
        });
        goal = λ z. elim book.entries [
          | inl e ↦ λ l. absurd (omega (arith, l, lower, e.0))
          | inr e ↦ subst E (sym e.1) (λ l. (
            0,
            by_bound line m (first_lower line m - 1),
            (
              refl,
              record {
                same = refl;
                stations = omega arith;
                long = omega (arith, lower);
              },
            ),
          ))
        ];
        seeks = seeks;
      };
      outside = elim book.entries [
        | inl e ↦ subst O (sym e.1) (λ k x g. absurd (cc))
        | inr e ↦ subst O (sym e.1) (one_outside (by_bound line m (first_lower line m - 1)) (omega (arith, lower, e.0)))
      ];
      few = elim book.entries [
        | inl e ↦ omega (arith, ap (λ (es : List Entry). length es) e.1)
        | inr e ↦ omega (arith, ap (λ (es : List Entry). length es) e.1)
      ];
      units = 0;
      counted = elim book.entries [
        | inl e ↦ subst V (sym e.1) refl
        | inr e ↦ subst V (sym e.1) (0, 0, (refl, refl, refl))
      ];
      paid = omega arith;
      within = omega (arith, paid);
    }
  where
    one_outside : (x : Entry) → x.cycle < h.lower → AreOutside h.lower h.upper (x ∷ [])
    one_outside x l zero e g = let s : x ≡ e = cc in inl (omega (arith, l, ap (λ (z : Entry). z.cycle) s))
    one_outside x l (suc k) e g = absurd (cc)
