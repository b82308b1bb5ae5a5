-- How large a book can become: at each cycle its units are fewer than (n + 1) x 4^n, and so are its entries.
use Rattle.std.proofs.Common.{◌≡◌, ℕ, suc, ◌+◌, ◌*◌, ◌^◌, ◌<◌, ◌≤◌, ◌⊎◌, Bool, true, false, cond, max, List, []}
use Rattle.std.proofs.Common.{◌∷◌}
use Rattle.std.proofs.Common.{length, refl, sym, ◌∙◌, subst, inl, inr, arith, Some, None}
use Rattle.std.specs.Prelude.{◌≢◌, nat_eq, slice_get}
use Rattle.std.proofs.lemmas.Bool.{cases_lt, cases_Bool, eqb-true}
use Rattle.std.proofs.lemmas.List.{ext_get_or}
use Rattle.std.proofs.Math.Nat.{mul-le-mul_left, mul-le-mul_right, pow-le-pow_left}
use Rattle.line_instance.specs.Truths.{In, count}
use Rattle.line_instance.proofs.Members.{In-full_to}
use Rattle.line_instance.specs.Line.{Line, IsLine, IsRanked, IsTaskSet, tasks, time, has}
use Rattle.line_rules.specs.Balance.{IsBalance, Holds, all_tasks}
use Rattle.line_rules.specs.Bounds.{IsTooLong, total_time}
use Rattle.line_rules.specs.Entries.{IsDerived, IsFresh}
use Rattle.line_rules.specs.Units.{UnitsBy, UnitsOf, entries_at}
use Rattle.line_rules.specs.declared.types.LineKind.{LineKind}
use Rattle.line_rules.specs.declared.types.LineKind.TheVariants.{Straight, U}
use Rattle.line_rules.specs.declared.types.Seatplace.{Seatplace}
use Rattle.line_rules.specs.declared.types.Entry.{Entry}
use Rattle.line_rules.specs.declared.types.Why.{Why}
use Rattle.line_rules.specs.declared.types.Why.TheVariants as why
use Rattle.line_rules.proofs.Monotone.{stands_alone}
use Rattle.line_rules.proofs.FreeSets.{all_of}
use Rattle.line_rules.proofs.OneTaskPerStation.{count_below}
use Rattle.line_rules.proofs.SubBalance.{restricted}
use Rattle.line_rules.proofs.LemmasHold.{sound}
use Rattle.line_rules.specs.Times.{longest_of}
use Rattle.line_rules.proofs.SizeClasses.{longest_least}
use Rattle.budget_law.specs.Budget.{states}
use Rattle.budget_law.proofs.DistinctNumbers.{Has, Differ, few_below}
use Rattle.budget_law.proofs.TripleCodes.{low, code, code_same, code_lt}
use Rattle.budget_law.proofs.FewUnits.{units_few}
use Rattle.effic_search.specs.Counted.{other, others}
use Rattle.effic_search.specs.inner.Going.{HaveCycles}
use Rattle.effic_search.proofs.CycleSums.{SumOf, sum_few}
use Rattle.effic_search.proofs.CountFacts.{other_few}

bit : Bool → ℕ
bit true = 1
bit false = 0

bit_lt : (b : Bool) → bit b < 2
unfolding bit
bit_lt true = omega arith
bit_lt false = omega arith

same_truth : (a b : Bool) → bit a ≡ bit b → a ≡ b
unfolding bit
same_truth true true q = refl
same_truth true false q = absurd (omega (arith, q))
same_truth false true q = absurd (omega (arith, q))
same_truth false false q = refl

-- what an entry is to a task: 1 where its set has it
digit : Entry → ℕ → ℕ
digit e i = bit (has e.set i)

digit_lt : (e : Entry) (i : ℕ) → digit e i < 2
unfolding digit
digit_lt e i = bit_lt (has e.set i)

four : (kind : LineKind) → states kind ≤ 4
four Straight = omega arith
four U = omega arith

-- the greatest number of units at a cycle, and more than the entries there
pub space : Line → ℕ
space line = (tasks line + 1) * 4 ^ tasks line

-- an entry of so few stations stands for a number, by its set and its stations
number : Line → Entry → ℕ
number line e = code 2 (digit e) (tasks line) + 2 ^ tasks line * e.most

number_lt : (line : Line) (e : Entry) → e.most < tasks line → number line e < space line
unfolding number space
number_lt line e few =
    let n : ℕ = tasks line in
    let a : code 2 (digit e) n < 2 ^ n = code_lt 2 (digit e) n (digit_lt e) in
    let b : 2 ^ n * (e.most + 1) ≤ 2 ^ n * (n + 1) = mul-le-mul_left (2 ^ n) (omega (arith, few)) in
    let two : 2 ≤ 4 = omega arith in
    let c : 2 ^ n * (n + 1) ≤ 4 ^ n * (n + 1) = mul-le-mul_right (n + 1) (pow-le-pow_left two n) in
    omega (arith, a, b, c)

module _ (kind : LineKind) (line : Line) (ok : IsLine line) (ranked : IsRanked line) (es : List Entry)
    (derived : IsDerived kind line es) (fresh : IsFresh es) where
  module _ (X : ℕ) (short : (i : ℕ) → IsTooLong line X i → ⊥) where
    -- what is known of an entry of the cycle
    record IsKnown (e : Entry) : Type 0 where
      set : IsTaskSet line e.set
      few : e.most < tasks line

    known : (k : ℕ) (e : Entry) → slice_get es k ≡ Some e → e.cycle ≡ X → IsKnown e
    known k e g c =
        let f = derived k e g in
        let P : ℕ → Type 0 = λ z. Holds kind line z e.set e.most in
        let none : Holds kind line X e.set e.most = subst P c (sound kind line ok es derived k e g) in
        let alone : (place : ℕ → Seatplace) × IsBalance kind line X e.set (count e.set) place
        × ((i j : ℕ) → In e.set i → In e.set j → (place i).station ≡ (place j).station → i ≡ j) =
        stands_alone kind line X e.set ok ranked f.set (λ i m. elim (cases_lt X (time line i))
        [ inl l ↦ absurd (short i (f.set.tasks i m, l)) | inr more ↦ more ]) in
        record {
          set = f.set;
          few = elim (cases_lt e.most (tasks line)) [
            | inl l ↦ l
            | inr more ↦
                absurd (none alone.0 (restricted kind line X X e.set e.set (count e.set) e.most alone.0 (omega arith)
                (omega (arith, more, count_below e.set (tasks line) f.set.tasks)) (λ i m. m) alone.1))
          ];
        }

    -- entries with equal numbers have the set and the stations in common
    same_number : (a b : Entry) → IsKnown a → IsKnown b → number line a ≡ number line b
        → (a.set ≡ b.set) × (a.most ≡ b.most)
    unfolding number digit
    same_number a b p q e =
        let n : ℕ = tasks line in
        let r : (code 2 (digit a) n ≡ code 2 (digit b) n) × (a.most ≡ b.most) =
        low (2 ^ n) (code 2 (digit a) n) (code 2 (digit b) n) a.most b.most (code_lt 2 (digit a) n (digit_lt a))
        (code_lt 2 (digit b) n (digit_lt b)) e in (
          ext_get_or false a.set b.set (p.set.truths ∙ sym q.set.truths) (λ i l. elim (cases_lt i n) [
            | inl less ↦
                same_truth (has a.set i) (has b.set i)
                (code_same 2 (digit a) (digit b) n (digit_lt a) (digit_lt b) r.0 i less)
            | inr out ↦ outside a.set p.set i out ∙ sym (outside b.set q.set i out)
          ]),
          r.1,
        )
      where
        outside : (s : List Bool) → IsTaskSet line s → (i : ℕ) → tasks line ≤ i → has s i ≡ false
        outside s of i out =
            elim (cases_Bool (has s i)) [ inl t ↦ absurd (omega (arith, of.tasks i t, out)) | inr f ↦ f ]

    numbers : List Entry → List ℕ
    numbers [] = []
    numbers (e ∷ xs) = cond (nat_eq e.cycle X) (number line e ∷ numbers xs) (numbers xs)

    AreKnown : List Entry → Type 0
    AreKnown xs = (k : ℕ) (e : Entry) → slice_get xs k ≡ Some e → e.cycle ≡ X → IsKnown e

    -- an entry of the cycle with the number z
    record Numbered (xs : List Entry) (z : ℕ) : Type 0 where
      at : ℕ
      entry : Entry
      there : slice_get xs at ≡ Some entry
      cycle : entry.cycle ≡ X
      same : number line entry ≡ z

    later : (e : Entry) (xs : List Entry) (z : ℕ) → Numbered xs z → Numbered (e ∷ xs) z
    later e xs z r = record {
      at = suc r.at;
      entry = r.entry;
      there = r.there;
      cycle = r.cycle;
      same = r.same;
    }

    number_step : (e : Entry) (xs : List Entry) (z : ℕ) → (Has (numbers xs) z → Numbered xs z) → (b : Bool)
        → nat_eq e.cycle X ≡ b → Has (cond b (number line e ∷ numbers xs) (numbers xs)) z → Numbered (e ∷ xs) z
    number_step e xs z rest true p (inl q) =
        record { at = 0; entry = e; there = refl; cycle = eqb-true e.cycle X p; same = q }
    number_step e xs z rest true p (inr h) = later e xs z (rest h)
    number_step e xs z rest false p h = later e xs z (rest h)

    has_number : (xs : List Entry) (z : ℕ) → Has (numbers xs) z → Numbered xs z
    unfolding numbers
    has_number [] z h = absurd h
    has_number (e ∷ xs) z h = number_step e xs z (has_number xs z) (nat_eq e.cycle X) refl h

    differ_step : (e : Entry) (xs : List Entry) → AreKnown (e ∷ xs) → IsFresh (e ∷ xs) → Differ (numbers xs)
        → (b : Bool) → nat_eq e.cycle X ≡ b → Differ (cond b (number line e ∷ numbers xs) (numbers xs))
    unfolding AreKnown
    differ_step e xs are new rest true p =
        let c : e.cycle ≡ X = eqb-true e.cycle X p in (
          λ h.
              let r : Numbered xs (number line e) = has_number xs (number line e) h in
              let q : (e.set ≡ r.entry.set) × (e.most ≡ r.entry.most) =
              same_number e r.entry (are 0 e refl c) (are (suc r.at) r.entry r.there r.cycle) (sym r.same) in
              new 0 (suc r.at) e r.entry (omega arith) refl r.there (record {
                same = q.0;
                stations = omega (arith, q.1);
                long = omega (arith, c, r.cycle);
              }),
          rest,
        )
    differ_step e xs are new rest false p = rest

    differ : (xs : List Entry) → AreKnown xs → IsFresh xs → Differ (numbers xs)
    unfolding numbers AreKnown
    differ [] are new = tt
    differ (e ∷ xs) are new =
        differ_step e xs are new (differ xs (λ k x g c. are (suc k) x g c)
        (λ j k a b l f g. new (suc j) (suc k) a b (omega (arith, l)) f g)) (nat_eq e.cycle X) refl

    long_step : (e : Entry) (xs : List Entry) → length (numbers xs) ≡ length (entries_at X xs) → (b : Bool)
        → length (cond b (number line e ∷ numbers xs) (numbers xs))
        ≡ length (cond b (e ∷ entries_at X xs) (entries_at X xs))
    long_step e xs rest true = omega (arith, rest)
    long_step e xs rest false = rest

    long : (xs : List Entry) → length (numbers xs) ≡ length (entries_at X xs)
    unfolding numbers
    long [] = refl
    long (e ∷ xs) = long_step e xs (long xs) (nat_eq e.cycle X)

    below : (xs : List Entry) → AreKnown xs → (z : ℕ) → Has (numbers xs) z → z < space line
    unfolding AreKnown
    below xs are z h =
        let r : Numbered xs z = has_number xs z h in
        let P : ℕ → Type 0 = λ y. y < space line in
        subst P r.same (number_lt line r.entry (are r.at r.entry r.there r.cycle).few)

    -- the entries of the cycle are few
    entries_few : length (entries_at X es) ≤ space line
    unfolding AreKnown
    entries_few = omega (arith, long es, few_below (numbers es) (space line) (differ es known fresh) (below es known))

    -- their units are few
    units_at_few : (u : ℕ) → UnitsOf line (entries_at X es) u → u ≤ space line
    unfolding space
    units_at_few u h =
        let n : ℕ = tasks line in
        let a : u < (n + 1) * states kind ^ n =
        units_few kind line ok ranked X short es None derived
        (λ j k a b l f g p q. fresh j k a b l f g) tt u (u, 0, (h, refl, omega arith)) in
        let b : (n + 1) * states kind ^ n ≤ (n + 1) * 4 ^ n =
        mul-le-mul_left (n + 1) (pow-le-pow_left (four kind) n) in
        omega (arith, a, b)

  -- what an entry counts for among those other than Bound
  OtherOf : Entry → ℕ → Type 0
  OtherOf e a = a ≡ other e.why

  UnitOf : Entry → ℕ → Type 0
  UnitOf e a = UnitsBy line e e.why a

  others_sum : (xs : List Entry) → SumOf OtherOf xs (others xs)
  unfolding OtherOf
  others_sum [] = refl
  others_sum (e ∷ xs) = (other e.why, others xs, (refl, others_sum xs, refl))

  others_length : (xs : List Entry) (u : ℕ) → SumOf OtherOf xs u → u ≤ length xs
  unfolding OtherOf
  others_length [] u z = omega (arith, z)
  others_length (e ∷ xs) u z = omega (arith, z.2.2, z.2.0, other_few e.why, others_length xs z.1 z.2.1)

  units_sum : (xs : List Entry) (u : ℕ) → UnitsOf line xs u → SumOf UnitOf xs u
  unfolding UnitOf
  units_sum [] u z = z
  units_sum (e ∷ xs) u z = (z.0, z.1, (z.2.0, units_sum xs z.1 z.2.1, z.2.2))

  units_back : (xs : List Entry) (u : ℕ) → SumOf UnitOf xs u → UnitsOf line xs u
  unfolding UnitOf
  units_back [] u z = z
  units_back (e ∷ xs) u z = (z.0, z.1, (z.2.0, units_back xs z.1 z.2.1, z.2.2))

  -- an entry by Bound weighs nothing
  bound_other : (w : Why) (a : ℕ) → a ≡ other w → (a ≡ 0) ⊎ (w ≢ why.Bound)
  bound_other why.Bound a q = inl q
  bound_other (why.Branch mode cites) a q = inr (λ e. absurd (cc))
  bound_other (why.Swap cite out into) a q = inr (λ e. absurd (cc))
  bound_other (why.Pairs two) a q = inr (λ e. absurd (cc))

  bound_unit : (e : Entry) (w : Why) (a : ℕ) → UnitsBy line e w a → (a ≡ 0) ⊎ (w ≢ why.Bound)
  bound_unit e why.Bound a q = inl q
  bound_unit e (why.Branch mode cites) a q = inr (λ e. absurd (cc))
  bound_unit e (why.Swap cite out into) a q = inr (λ e. absurd (cc))
  bound_unit e (why.Pairs two) a q = inr (λ e. absurd (cc))

  module _ (cycles : HaveCycles line es) where
    abbrev longest : ℕ
    longest = longest_of line (all_tasks line)

    abbrev top : ℕ
    top = max (total_time line) 1

    -- no task is too long from the longest time on
    none_long_from : (X : ℕ) → longest ≤ X → (i : ℕ) → IsTooLong line X i → ⊥
    none_long_from X from i l =
        let here : In (all_tasks line) i = In-full_to (tasks line) i ok.small l.0 in
        omega (arith, l.1, from, longest_least line (all_tasks line) (all_of line) i here)

    -- below it the entries of a cycle weigh nothing
    module _ (W : Entry → ℕ → Type 0)
        (weighs : (e : Entry) (a : ℕ) → W e a → (a ≡ 0) ⊎ (e.why ≢ why.Bound)) where
      AreBound : ℕ → List Entry → Type 0
      AreBound X xs = (k : ℕ) (e : Entry) → slice_get xs k ≡ Some e → e.cycle ≡ X → e.why ≢ why.Bound → ⊥

      zero_step : (e : Entry) (X u : ℕ) (xs : List Entry) → (e.cycle ≡ X → e.why ≢ why.Bound → ⊥)
          → ((v : ℕ) → SumOf W xs v → v ≡ 0) → (b : Bool) → nat_eq e.cycle X ≡ b
          → SumOf W (cond b (e ∷ xs) xs) u → u ≡ 0
      zero_step e X u xs here rest true p z = elim (weighs e z.0 z.2.0) [
        | inl q ↦ omega (arith, q, z.2.2, rest z.1 z.2.1)
        | inr o ↦ absurd (here (eqb-true e.cycle X p) o)
      ]
      zero_step e X u xs here rest false p z = rest u z

      zero_at : (X : ℕ) (xs : List Entry) → AreBound X xs → (u : ℕ) → SumOf W (entries_at X xs) u → u ≡ 0
      unfolding AreBound
      zero_at X [] are u z = z
      zero_at X (e ∷ xs) are u z =
          zero_step e X u (entries_at X xs) (are 0 e refl)
          (λ v y. zero_at X xs (λ k x g c o. are (suc k) x g c o) v y) (nat_eq e.cycle X) refl z

      -- where the sum at each cycle is few, the whole one is
      whole_few : ((X : ℕ) → ((i : ℕ) → IsTooLong line X i → ⊥) → (u : ℕ) → SumOf W (entries_at X es) u
          → u ≤ space line) → (u : ℕ) → SumOf W es u → u ≤ top * space line
      unfolding AreBound
      whole_few at u z =
          sum_few W es top (space line) (λ k e g. (derived k e g).cycle)
          (λ k e a g w. elim (weighs e a w) [ inl q ↦ inl q | inr o ↦ inr (cycles k e g o).1 ])
          (λ X some to v y. elim (cases_lt X longest) [
            | inl less ↦
                omega (
                  arith,
                  zero_at X es (λ k e g c o. omega (arith, c, less, (cycles k e g o).0)) v y,
                )
            | inr from ↦ at X (none_long_from X from) v y
          ]) u z

    pub all_units_few : (u : ℕ) → UnitsOf line es u → u ≤ top * space line
    unfolding UnitOf
    all_units_few u h =
        whole_few UnitOf (λ e a w. bound_unit e e.why a w)
        (λ X short v y. units_at_few X short v (units_back (entries_at X es) v y)) u (units_sum es u h)

    pub all_others_few : others es ≤ top * space line
    unfolding OtherOf
    all_others_few =
        whole_few OtherOf (λ e a w. bound_other e.why a w)
        (λ X short v y. omega (arith, others_length (entries_at X es) v y, entries_few X short)) (others es)
        (others_sum es)

    -- where the book is too large, the line is large
    pub large_budget : (u : ℕ) → UnitsOf line es u → (4000000 < u) ⊎ (4000000 < others es)
        → 4000000 < (tasks line + 1) * 4 ^ tasks line * top
    unfolding space
    large_budget u h (inl l) = omega (arith, l, all_units_few u h)
    large_budget u h (inr l) = omega (arith, l, all_others_few)
