-- The certificate of a search is within its ranges and accepted, and what the search comes to.
use Rattle.std.proofs.Common.{◌≡◌, ℕ, suc, ◌+◌, ◌-◌, ◌*◌, ◌^◌, ◌<◌, ◌≤◌, ◌⊎◌, Bool, true, cond, List, ◌++◌, length, take}
use Rattle.std.proofs.Common.{Option, Some, None, refl, sym, ap, ◌∙◌, subst, inl, inr, arith, append_assoc}
use Rattle.std.specs.Prelude.{nat_eq}
use Rattle.std.proofs.lemmas.Bool.{eq-eqb, cases_lt}
use Rattle.std.proofs.lemmas.Option.{slice_get_within}
use Rattle.std.proofs.lemmas.Nat.{mul-le}
use Rattle.std.proofs.Math.Nat.{mul-le-mul_left}
use Rattle.std.proofs.Math.Seq.{take-length}
use Rattle.line_instance.specs.Truths.{In}
use Rattle.line_instance.proofs.Members.{In-full_to}
use Rattle.line_instance.specs.Line.{Line, IsLine, IsRanked, tasks}
use Rattle.line_rules.specs.Balance.{IsRight, all_tasks, seat}
use Rattle.line_rules.specs.Bounds.{total_time, up}
use Rattle.line_rules.specs.Entries.{HasAnswer, IsDerived, IsFresh, IsFreshAt}
use Rattle.line_rules.specs.Trails.{IsTrail, IsOpenOver}
use Rattle.line_rules.proofs.AcceptedIsTrue.{answer_holds}
use Rattle.line_rules.specs.Ranges.{IsPlaced, IsPlacing, IsTrailOrNone}
use Rattle.line_rules.specs.Units.{UnitsOf, UnitsIn, UnitsAt, entries_at}
use Rattle.line_rules.specs.declared.types.LineKind.{LineKind}
use Rattle.line_rules.specs.declared.types.Entry.{Entry}
use Rattle.line_rules.specs.declared.types.OpenFrame.{OpenFrame}
use Rattle.line_rules.specs.declared.types.Seatplace.{Seatplace}
use Rattle.line_rules.specs.declared.types.Balance.{Balance as Assignment}
use Rattle.line_rules.specs.declared.types.Trail.{Trail}
use Rattle.line_rules.proofs.ReadPlaces.{seat_read}
use Rattle.lemma_core.specs.Own.{AreStatable}
use Rattle.budget_law.specs.Budget.{states}
use Rattle.budget_law.proofs.FewUnits.{units_few}
use Rattle.round_helpers.specs.Growth.{AreAtCycle}
use Rattle.cycle_search.specs.rounds.declared.plans.Plan.{Plan}
use Rattle.cycle_search.specs.Ends.{first_lower}
use Rattle.cycle_search.proofs.about_rounds.Sayable.{entries_ok, trail_ok, all_are_tasks}
use Rattle.line_rules.specs.Products.{IsSayable}
use Rattle.line_rules.specs.declared.products.EfficCert.{EfficCert}
use Rattle.effic_check.specs.Accepted.{IsAccepted, HasTrail}
use Rattle.effic_check.specs.Truth.{NoneBelow}
use Rattle.effic_check.proofs.AcceptedIsTrue.{between}
use Rattle.effic_search.specs.Counted.{AreBrought, ArePaid, most_ended, others}
use Rattle.effic_search.specs.Since.{IsSinceGoal}
use Rattle.effic_search.specs.inner.Going.{HaveCycles, IsLowering, IsGoing, IsLeftAt, IsDue, IsStuck, HasTrailBy}
use Rattle.effic_search.specs.inner.Going.{IsPaid, HasFewUnits}
use Rattle.effic_search.specs.inner.Going.{product_of, entries_of}
use Rattle.effic_search.specs.Lowest.{IsLowest, IsAtLeastFirst}
use Rattle.effic_search.specs.NextTry.{IsNextTry}
use Rattle.effic_search.specs.Outcomes.{IsCertified, IsSolved, IsSpent, IsLarge, IsCutShort, StoppedBy}
use Rattle.effic_search.specs.Outcomes.{AreEnough}
use Rattle.effic_search.specs.declared.searching.Ended.{Ended}
use Rattle.effic_search.specs.declared.searching.Ended.TheVariants as ended
use Rattle.effic_search.specs.declared.lowering.Lowering.{Lowering}
use Rattle.effic_search.proofs.LowestFacts.{lowest_closed, lowest_meets, lowest_below}
use Rattle.effic_search.proofs.SinceFacts.{at_behind, units_at_end}
use Rattle.effic_search.proofs.CountFacts.{all_listed}
use Rattle.effic_search.proofs.SizeFacts.{large_budget}
use Rattle.effic_search.proofs.TryFacts.{left_cycle, none_too_long, product_some, right_longer}

-- b times what is divided by b and rounded up is no less
up_covers : (a b : ℕ) → 1 ≤ b → a ≤ b * up a b
up_covers a b o = omega (arith, o)

-- a number that is at most another is at most its equal
up_to_that : (a b d : ℕ) → a ≤ b → d ≡ b → a ≤ d
up_to_that a b d l is = omega (arith, l, is)

-- three steps up
steps_up : (a b c d : ℕ) → a ≤ b → b ≤ c → c ≤ d → a ≤ d
steps_up a b c d p q r = omega (arith, p, q, r)

-- a right balance in 1 to 1,024 stations
placing : (kind : LineKind) (line : Line) (c : ℕ) (b : Assignment) → IsLine line → IsRight kind line c b
    → 1 ≤ b.stations → b.stations ≤ 1024 → IsPlacing kind (tasks line) b
placing kind line c b ok r some few = record {
  some = some;
  few = few;
  each = r.each;
  placed = λ i p there.
      let P : Seatplace → Type 0 = IsPlaced kind b.stations in
      let here : In (all_tasks line) i =
      In-full_to (tasks line) i ok.small (omega (arith, slice_get_within b.place i p there, r.each)) in
      subst P (sym (seat_read b.place i p there)) (record {
        first = r.balance.first i here;
        last = r.balance.last i here;
        side = r.sides i here;
      });
}

module _ (kind : LineKind) (line : Line) (least most : ℕ) (h : Lowering) (ok : IsLine line) (some : 1 ≤ least)
    (order : least ≤ most) (few : most ≤ 1024) (l : IsLowering kind line least most h)
    (derived : IsDerived kind line (entries_of h)) (statable : AreStatable (entries_of h))
    (fresh : IsFresh (entries_of h)) (lower : ℕ)
    (low : IsLowest line (entries_of h) least (most + 1) (product_of h) lower) where
  abbrev pub cert_of : Option Trail → EfficCert
  cert_of trail = record {
    kind = kind;
    tasks = tasks line;
    least_m = least;
    most_m = most;
    cycle = h.cycle;
    lower = lower;
    upper = product_of h;
    balance = h.balance;
    entries = entries_of h;
    trail = trail;
  }

  product_limit : product_of h ≤ 1000000000000000000000000
  product_limit =
      let a : h.balance.stations * h.cycle ≤ 1024 * 204800000000000000 = mul-le h.balance.stations h.cycle 1024
      204800000000000000
      (omega (arith, l.to, few)) l.limit in
      omega (arith, a)

  -- no balance of so many stations is right below the first lower end for them
  cycle_from : first_lower line h.balance.stations ≤ h.cycle
  cycle_from = elim (cases_lt h.cycle (first_lower line h.balance.stations)) [
    | inl less ↦
        let s : ℕ = h.balance.stations in
        let c : ℕ = first_lower line s - 1 in
        let near : h.cycle ≤ c = omega (arith, less) in
        let refuted : HasAnswer (entries_of h) (all_tasks line) s c = l.floored s l.from l.to (omega (arith, less, l.some)) in
        absurd (answer_holds kind line ok (entries_of h) derived (all_tasks line) s c refuted (seat h.balance.place)
        (right_longer kind line h.cycle c h.balance near l.right).balance)
    | inr more ↦ more
  ]

  -- what the times alone show, for one of the numbers of stations
  first_of : (m v : ℕ) → least ≤ m → m ≤ most → first_lower line m ≤ v → lower ≡ m * v
      → IsAtLeastFirst line least most lower
  first_of m v from to more is =
      let a : m * first_lower line m ≤ m * v = mul-le-mul_left m more in
      let b : total_time line ≤ m * up (total_time line) m = up_covers (total_time line) m (omega (arith, some, from)) in
      let c : m * up (total_time line) m ≤ m * first_lower line m = mul-le-mul_left m (omega arith) in
      record {
        stations = m;
        from = from;
        to = to;
        product = up_to_that (m * first_lower line m) (m * v) lower a is;
        total = up_to_that (total_time line) (m * v) lower (steps_up (total_time line) (m * up (total_time line) m)
            (m * first_lower line m) (m * v) b c a) is;
      }

  at_least_first : IsAtLeastFirst line least most lower
  at_least_first = elim low.reached [
    | inl e ↦ first_of h.balance.stations h.cycle l.from l.to cycle_from e
    | inr r ↦
        let m : ℕ = r.0 in
        let g : ℕ = r.1 in
        first_of m (g + 1) r.2 (omega (arith, r.3)) (elim (cases_lt (g + 1) (first_lower line m)) [
          | inl less ↦
              let c : ℕ = first_lower line m - 1 in
              let refuted : HasAnswer (entries_of h) (all_tasks line) m c =
              l.floored m r.2 (omega (arith, r.3)) (omega (arith, less)) in
              absurd (omega (arith, less, r.4.greatest c refuted))
          | inr more ↦ more
        ]) r.5
  ]

  lower_some : 1 ≤ lower
  lower_some = elim low.reached [
    | inl e ↦ omega (arith, e, product_some kind line least most h some l)
    | inr r ↦
        let a : 1 * 1 ≤ r.0 * (r.1 + 1) = mul-le 1 1 r.0 (r.1 + 1) (omega (arith, some, r.2)) (omega arith) in
        omega (arith, a, r.5)
  ]

  trail_said : (trail : Option Trail) → HasTrailBy kind line least most h trail
      → IsTrailOrNone (tasks line) (length (entries_of h)) trail
  trail_said None t = tt
  trail_said (Some t) s =
      trail_ok kind line t.cycle (entries_of h) (all_tasks line) s.0 t.frames
      (left_cycle kind line least most s.0 t.cycle h l s.2)
      (all_are_tasks line ok) (omega (arith, s.1, ok.small)) s.3

  trail_valid : (trail whole : Option Trail) → HasTrailBy kind line least most h trail
      → HasTrail kind line (cert_of whole) trail
  trail_valid None whole t = tt
  trail_valid (Some t) whole s = (s.0, ((s.2.from, s.2.to), s.2.near), s.3)

  whole_units : UnitsOf line (entries_of h) h.listed.units
  whole_units =
      let U : List Entry → Type 0 = λ z. UnitsOf line z h.listed.units in
      subst U (take-length (entries_of h)) l.counted.units

  module _ (trail : Option Trail) (has : HasTrailBy kind line least most h trail) (units : HasFewUnits line trail) where
    sayable : IsSayable (cert_of trail)
    sayable = record {
      some = ok.some;
      few = ok.small;
      least = record { some = some; few = omega (arith, order, few) };
      most = record { some = omega (arith, some, order); few = few };
      cycle = record { some = l.some; limit = omega (arith, l.limit) };
      lower = record { some = lower_some; limit = omega (arith, low.within, product_limit) };
      upper = record { some = product_some kind line least most h some l; limit = product_limit };
      balance = placing kind line h.cycle h.balance ok l.right (omega (arith, some, l.from)) (omega (arith, l.to, few));
      entries = entries_ok kind line (entries_of h) derived statable l.few;
      trail = trail_said trail has;
    }

    accepted : IsAccepted line (cert_of trail) (h.listed.units + units.0)
    accepted = record {
      tasks = refl;
      shown = record { asked = (l.from, l.to); right = l.right; upper = refl };
      derived = derived;
      closed = λ m asked. lowest_closed line (entries_of h) least (most + 1) (product_of h) lower low m some asked.0
          (omega (arith, asked.1));
      trail = trail_valid trail trail has;
      spent = (h.listed.units, units.0, (whole_units, units.1, refl));
    }

    pub certified_is : IsCertified kind line least most (cert_of trail)
    certified_is = record {
      kind_is = refl;
      least_is = refl;
      most_is = refl;
      sayable = sayable;
      units = h.listed.units + units.0;
      accepted = accepted;
      few = omega (arith, l.within, units.2);
      true_bounds = between line ok (cert_of trail) sayable (h.listed.units + units.0) accepted;
      first = l.first;
      lowest = low;
      from = at_least_first;
      fresh = fresh;
      cycles = l.cycles;
      goals = l.goals;
      by_bound = l.by_bound;
      tight = l.tight;
    }

    -- the same of what is equal to it
    pub certified_same : (n upper : ℕ) (es : List Entry) → n ≡ tasks line → upper ≡ product_of h → es ≡ entries_of h
        → IsCertified kind line least most (record {
          kind = kind;
          tasks = n;
          least_m = least;
          most_m = most;
          cycle = h.cycle;
          lower = lower;
          upper = upper;
          balance = h.balance;
          entries = es;
          trail = trail;
        })
    certified_same n upper es n_is upper_is es_is =
        let P : ℕ → ℕ → List Entry → Type 0 = λ x y z. IsCertified kind line least most (record {
          kind = kind;
          tasks = x;
          least_m = least;
          most_m = most;
          cycle = h.cycle;
          lower = lower;
          upper = y;
          balance = h.balance;
          entries = z;
          trail = trail;
        }) in
        let A : ℕ → Type 0 = λ x. P x upper es in
        let B : ℕ → Type 0 = λ y. P (tasks line) y es in
        let C : List Entry → Type 0 = λ z. P (tasks line) (product_of h) z in
        subst A (sym n_is) (subst B (sym upper_is) (subst C (sym es_is) certified_is))

-- what a book says of its entries, said of a search
pub derived_of : (kind : LineKind) (line : Line) (least most : ℕ) (h : Lowering) (es : List Entry)
    → IsLowering kind line least most h → es ≡ entries_of h → IsDerived h.book.about.kind h.book.about.line es
    → IsDerived kind line (entries_of h)
derived_of kind line least most h es l are d =
    let P : LineKind → Type 0 = λ z. IsDerived z h.book.about.line es in
    let Q : Line → Type 0 = λ z. IsDerived kind z es in
    let R : List Entry → Type 0 = λ z. IsDerived kind line z in
    subst R are (subst Q l.line_is (subst P l.kind_is d))

-- the trail of a try whose units ended
module _ (kind : LineKind) (line : Line) (least most : ℕ) (plan : Plan) (h : Lowering) (frames : List OpenFrame) (X : ℕ)
    (closing_from : ℕ) (at : X ≡ h.book.about.cycle)
    (s : IsStuck kind line least most plan h frames closing_from) where
  pub trail_by : HasTrailBy kind line least most h (Some (record { cycle = X; frames = frames }))
  trail_by =
      let P : ℕ → Type 0 = λ z. HasTrailBy kind line least most h (Some (record { cycle = z; frames = frames })) in
      subst P (sym at) (s.m, s.few, s.left, s.trail)

  pub few_by : HasFewUnits line (Some (record { cycle = X; frames = frames }))
  few_by =
      let P : ℕ → Type 0 = λ z. HasFewUnits line (Some (record { cycle = z; frames = frames })) in
      subst P (sym at) (s.listed, s.frame_units, s.within)

-- the bounds of a certificate met, or they differ
module _ (kind : LineKind) (line : Line) (least most : ℕ) (cert : EfficCert)
    (c : IsCertified kind line least most cert) where
  pub met_is : (plan : Plan) (kept : ℕ) → cert.trail ≡ None → cert.lower ≡ cert.upper → ArePaid line plan cert.entries
      → AreBrought line plan (most_ended line least (most + 1) cert.upper) kept cert.entries
      → IsSolved kind line least most plan cert kept
  met_is plan kept none same paid brought =
      let P : ℕ → Type 0 = λ z. NoneBelow kind line least most z in
      record {
        certified = c;
        meet = same;
        none = none;
        least_one = record {
          reached = c.true_bounds.reached;
          least_one = subst P same c.true_bounds.none;
        };
        paid = paid;
        brought = brought;
      }

  pub cut_is : (cert.lower ≡ cert.upper → ⊥) → IsCutShort kind line least most cert.lower cert.upper
  cut_is apart =
      let D : LineKind → Type 0 = λ z. IsDerived z line cert.entries in
      record {
        true_bounds = c.true_bounds;
        below = elim (cases_lt cert.lower cert.upper) [
          | inl l ↦ l
          | inr more ↦ absurd (apart (omega (arith, more, c.lowest.within)))
        ];
        first = c.first;
        entries = cert.entries;
        derived = subst D c.kind_is c.accepted.derived;
        lowest = c.lowest;
        from = c.from;
      }

-- what a certificate of a search shows, where its bounds and lists are those of the search
module _ (kind : LineKind) (line : Line) (least most : ℕ) (h : Lowering) (ok : IsLine line) (some : 1 ≤ least)
    (few : most ≤ 1024) (cert : EfficCert) (c : IsCertified kind line least most cert) (upper : cert.upper ≡ product_of h)
    (entries : cert.entries ≡ entries_of h) where
  lowest_here : IsLowest line (entries_of h) least (most + 1) (product_of h) cert.lower
  lowest_here =
      let P : ℕ → Type 0 = λ z. IsLowest line cert.entries least (most + 1) z cert.lower in
      let Q : List Entry → Type 0 = λ z. IsLowest line z least (most + 1) (product_of h) cert.lower in
      subst Q entries (subst P upper c.lowest)

  -- the entries are those that a search by the plan may have
  pub paid_is : (plan : Plan) (tries : ℕ) → IsLowering kind line least most h → IsPaid plan tries h
      → ArePaid line plan cert.entries
  paid_is plan tries l p =
      let U : List Entry → Type 0 = λ z. UnitsOf line z h.listed.units in
      let all : take (length (entries_of h)) (entries_of h) ≡ cert.entries =
      take-length (entries_of h) ∙ sym entries in
      record {
        units = h.listed.units;
        counted = subst U all l.counted.units;
        within = p.units;
        short = omega (arith, p.entries, l.counted.entries, ap (λ (z : List Entry). others z) all);
        bounded = omega (arith, c.by_bound, some, few);
        many = omega (
          arith,
          all_listed cert.entries,
          p.entries,
          l.counted.entries,
          ap (λ (z : List Entry). others z) all,
          c.by_bound,
          some,
          few,
        );
      }

  -- and that so many tries may bring
  brought_is : (plan : Plan) (tries now : ℕ) → now ≡ tries → IsLowering kind line least most h → IsPaid plan tries h
      → AreBrought line plan now h.seeks.kept cert.entries
  brought_is plan tries now is l p =
      let U : List Entry → Type 0 = λ z. UnitsOf line z h.listed.units in
      let T : ℕ → Type 0 = λ z. AreBrought line plan z h.seeks.kept cert.entries in
      let all : take (length (entries_of h)) (entries_of h) ≡ cert.entries =
      take-length (entries_of h) ∙ sym entries in
      let same : others cert.entries ≡ h.listed.entries =
      sym (l.counted.entries ∙ ap (λ (z : List Entry). others z) all) in
      subst T (sym is) (record {
        units = h.listed.units;
        counted = subst U all l.counted.units;
        within = p.within;
        few = omega (arith, p.few, same);
        short = omega (arith, p.short, same);
      })

  -- and that all tries may
  pub brought_last : (plan : Plan) → IsLowering kind line least most h
      → IsPaid plan (most_ended line least (most + 1) (product_of h)) h
      → AreBrought line plan (most_ended line least (most + 1) cert.upper) h.seeks.kept cert.entries
  brought_last plan l p =
      brought_is plan (most_ended line least (most + 1) (product_of h)) (most_ended line least (most + 1) cert.upper)
      (ap (λ (z : ℕ). most_ended line least (most + 1) z) upper) l p

  -- each number of stations is closed: both bounds meet
  pub solved_is : cert.trail ≡ None → (plan : Plan)
      → IsGoing kind line least most (most + 1) h × IsPaid plan (most_ended line least (most + 1) (product_of h)) h
      → IsSolved kind line least most plan cert h.seeks.kept
  solved_is none plan (going, paid) =
      let meet : cert.lower ≡ product_of h =
      lowest_meets line (entries_of h) least (most + 1) (product_of h) cert.lower lowest_here
      (λ m from to. going.closed m from to) some in
      met_is kind line least most cert c plan h.seeks.kept none (meet ∙ sym upper)
      (paid_is plan (most_ended line least (most + 1) (product_of h)) going.lowering paid)
      (brought_last plan going.lowering paid)

  left_below : (m X : ℕ) → IsLeftAt line least most m X h → cert.lower < cert.upper
  left_below m X left = omega (
    arith,
    upper,
    lowest_below line (entries_of h) least (most + 1) (product_of h) cert.lower lowest_here m X left.from
        (omega (arith, left.to)) left.some left.near left.left,
  )

  -- the next try of the search is that of the certificate
  next_here : (m X : ℕ) → IsNextTry line (entries_of h) least most (product_of h) m X
      → IsNextTry line cert.entries least most cert.upper m X
  next_here m X next =
      let P : ℕ → Type 0 = λ z. IsNextTry line (entries_of h) least most z m X in
      let Q : List Entry → Type 0 = λ z. IsNextTry line z least most cert.upper m X in
      subst Q (sym entries) (subst P (sym upper) next)

  -- the book was too large
  pub large_is : IsRanked line → cert.trail ≡ None → (closing_from : ℕ) → closing_from ≡ length (entries_of h)
      → IsFresh (entries_of h) → IsDerived kind line (entries_of h) → (plan : Plan)
      → IsDue kind line least most plan h → IsLarge kind line least most plan cert closing_from h.seeks.kept
  large_is ranked none closing_from from fresh derived plan due =
      let F : List Entry → Type 0 = λ z. IsFresh z in
      let U : List Entry → Type 0 = λ z. UnitsOf line z h.listed.units in
      let H : List Entry → Type 0 = λ z. HaveCycles line z in
      let whole : take (length (entries_of h)) (entries_of h) ≡ entries_of h = take-length (entries_of h) in
      let all : take (length (entries_of h)) (entries_of h) ≡ cert.entries = whole ∙ sym entries in
      let same : others (entries_of h) ≡ h.listed.entries =
      sym (due.lowering.counted.entries ∙ ap (λ (z : List Entry). others z) whole) in
      let large : (4000000 < h.listed.units) ⊎ (4000000 < others (entries_of h)) =
      (elim due.large [ inl u ↦ inl u | inr n ↦ inr (omega (arith, n, same)) ]) in
      let L : List Entry → Type 0 = λ z. (4000000 < h.listed.units) ⊎ (4000000 < others z) in
      record {
        certified = c;
        below = left_below due.m due.X due.left;
        none = none;
        stations = due.m;
        cycle = due.X;
        next = next_here due.m due.X due.next;
        from = from ∙ ap (λ (z : List Entry). length z) (sym entries);
        fresh = subst F (sym entries) fresh;
        units = h.listed.units;
        counted = subst U all due.lowering.counted.units;
        large = subst L (sym entries) large;
        cycles = subst H (sym entries) due.lowering.cycles;
        budget = large_budget kind line ok ranked (entries_of h) derived fresh due.lowering.cycles h.listed.units
            (subst U whole due.lowering.counted.units) large;
        paid = paid_is plan (most_ended line least due.m (product_of h)) due.lowering due.paid;
        brought = brought_is plan (most_ended line least due.m (product_of h))
            (most_ended line least due.m cert.upper) (ap (λ (z : ℕ). most_ended line least due.m z) upper) due.lowering
            due.paid;
      }

  -- the units of a try ended
  pub spent_is : IsRanked line → (plan : Plan) (frames : List OpenFrame) (trail : Trail)
      → trail ≡ record { cycle = h.book.about.cycle; frames = frames } → cert.trail ≡ Some trail
      → (closing_from : ℕ) → IsFresh (entries_of h) → IsDerived kind line (entries_of h)
      → IsStuck kind line least most plan h frames closing_from
      → IsSpent kind line least most plan cert closing_from h.seeks.kept
  spent_is ranked plan frames trail is has closing_from fresh derived s =
      let X : ℕ = h.book.about.cycle in
      let t : Trail = record { cycle = X; frames = frames } in
      let es : List Entry = entries_of h in
      let U : List Entry → Type 0 = λ z. UnitsOf line z h.listed.units in
      let all : UnitsOf line es h.listed.units = subst U (take-length es) s.lowering.counted.units in
      let split : es ≡ (s.front ++ s.sought) ++ s.since = s.added ∙ sym (append_assoc s.front s.sought s.since) in
      let round : AreAtCycle X s.since = at_behind X s.sought s.since s.tried in
      let at : (more : ℕ) × UnitsOf line (entries_at X es) (more + s.published) =
      units_at_end X line es (s.front ++ s.sought) s.since h.listed.units s.published split round all s.entry_units in
      let e : nat_eq X X ≡ true = eq-eqb X X refl in
      let R : Bool → Type 0 = λ z. cond z (UnitsIn line X frames s.listed) (s.listed ≡ 0) in
      let whole : UnitsAt line X es (Some t) (at.0 + s.published + s.listed) =
      (at.0 + s.published, s.listed, (at.1, subst R (sym e) s.frame_units, refl)) in
      let fresh_at : IsFreshAt X es = λ j k a b l f g p q. fresh j k a b l f g in
      let few : at.0 + s.published + s.listed < (tasks line + 1) * states kind ^ tasks line =
      units_few kind line ok ranked X (none_too_long line least most s.m X h ok s.left) es (Some t) derived fresh_at
      (λ q. (s.m, s.trail)) (at.0 + s.published + s.listed) whole in
      let E : List Entry → Type 0 = λ z. IsOpenOver line X z frames in
      let F : List Entry → Type 0 = λ z. IsFreshAt X z in
      let G : List Entry → Type 0 = λ z. IsSinceGoal line X z s.since in
      let A : Trail → Type 0 = λ z. AreAtCycle z.cycle (s.sought ++ s.since) in
      let J : List Entry → Type 0 = λ z. IsTrail kind line X z (all_tasks line) s.m frames in
      let K : Trail → Type 0 = λ z. IsTrail kind line z.cycle cert.entries (all_tasks line) s.m z.frames in
      let N : Trail → Type 0 = λ z. IsNextTry line cert.entries least most cert.upper s.m z.cycle in
      let O : Trail → Type 0 = λ z. IsOpenOver line z.cycle cert.entries z.frames in
      let P : Trail → Type 0 = λ z. IsFreshAt z.cycle cert.entries in
      let Q : Trail → Type 0 = λ z. IsSinceGoal line z.cycle cert.entries s.since in
      let V : Trail → Type 0 = λ z. UnitsIn line z.cycle z.frames s.listed in
      record {
        certified = c;
        below = left_below s.m X s.left;
        trail = trail;
        has = has;
        stations = s.m;
        next = subst N (sym is) (next_here s.m X s.next);
        fewer = s.few;
        asks = subst K (sym is) (subst J (sym entries) s.trail);
        opens = subst O (sym is) (subst E (sym entries) s.opens);
        fresh = subst P (sym is) (subst F (sym entries) fresh_at);
        front = s.front;
        sought = s.sought;
        since = s.since;
        added = entries ∙ s.added;
        from = s.from;
        few = s.small;
        tried = subst A (sym is) s.tried;
        room = s.room;
        goal = λ seekless. subst Q (sym is) (subst G (sym entries) (s.goal seekless));
        published = s.published;
        listed = s.listed;
        entry_units = s.entry_units;
        frame_units = subst V (sym is) s.frame_units;
        all = s.all;
        twice = s.twice;
        alone = s.alone;
        budget = omega (arith, few, s.all);
        paid = paid_is plan (suc (most_ended line least s.m (product_of h))) s.lowering s.paid;
        brought = brought_is plan (suc (most_ended line least s.m (product_of h)))
            (suc (most_ended line least s.m cert.upper)) (ap (λ (z : ℕ). suc (most_ended line least s.m z)) upper)
            s.lowering s.paid;
      }

-- the certificate of a search that stopped is one of the question
pub stopped_certified : (why : Ended) (kind : LineKind) (line : Line) (least most : ℕ) (plan : Plan) (cert : EfficCert)
    (closing_from kept : ℕ) → StoppedBy why kind line least most plan cert closing_from kept
    → IsCertified kind line least most cert
stopped_certified ended.Units kind line least most plan cert closing_from kept s = s.certified
stopped_certified ended.Size kind line least most plan cert closing_from kept s = s.certified

-- with enough units no search stops
pub never_stopped : (why : Ended) (kind : LineKind) (line : Line) (least most : ℕ) (plan : Plan) (cert : EfficCert)
    (closing_from kept : ℕ) → StoppedBy why kind line least most plan cert closing_from kept
    → AreEnough kind line plan.units → cert.lower ≡ cert.upper
never_stopped ended.Units kind line least most plan cert closing_from kept s e =
    absurd (omega (arith, s.budget, e.units))
never_stopped ended.Size kind line least most plan cert closing_from kept s e =
    absurd (omega (arith, s.budget, e.size))
