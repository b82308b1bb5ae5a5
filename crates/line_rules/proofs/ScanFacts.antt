-- Going over the places from the last one down: what stands there is given up, up to the first place where a task may
-- join.
use Rattle.std.proofs.Common.{◌≡◌, ◌≢◌, ℕ, zero, suc, ◌+◌, ◌*◌, ◌<◌, ◌≤◌, Bool, true, false, List, length, set, refl}
use Rattle.std.proofs.Common.{sym, ap, ◌∙◌, subst, ◌⊎◌, inl, inr, Option, Some, None, arith}
use Rattle.line_instance.specs.Truths.{In}
use Rattle.line_instance.specs.Line.{Line, IsLine, IsTaskSet, IsRanked, tasks, has}
use Rattle.line_rules.specs.inner.Scan.{Scan}
use Rattle.line_rules.specs.Loads.{IsLoad, Suits, taken}
use Rattle.line_rules.specs.Order.{truth, Precedes, IsNext, After, IsFollowing}
use Rattle.line_rules.specs.declared.types.Mode.{Mode}
use Rattle.line_rules.specs.declared.types.Side.{Side}
use Rattle.line_rules.specs.declared.types.Load.{Load}
use Rattle.line_rules.specs.inner.Scan.{IsPart}
use Rattle.line_rules.proofs.NextLoad.{whole, cut, next_is}
use Rattle.line_instance.specs.Sums.{sum_where}
use Rattle.line_instance.proofs.Sums.{weigh-none}
use Rattle.line_instance.proofs.Members.{In-union_cases, In-empty}
use Rattle.std.proofs.Common.{replicate}
use Rattle.std.proofs.lemmas.List.{length-replicate}
use Rattle.line_rules.specs.declared.types.Mode.TheVariants as mode
use Rattle.line_rules.specs.Sides.{part, changed, nothing_yet, fills, spot, task_at, MayJoin}
use Rattle.line_rules.specs.Sides.{AreSets}
use Rattle.line_rules.proofs.SideFacts.{set_of, sets_with, set_less, part_taken, taken_part, unfilled, spot_suc}
use Rattle.line_rules.proofs.SideFacts.{spot_within, spot_of, truth_at, task_within, task_placed, truth_other}
use Rattle.line_rules.proofs.SideFacts.{truth_here}
use Rattle.line_rules.proofs.JoinFacts.{joins, may_from, tasks_of}
use Rattle.std.proofs.lemmas.Bool.{cases_eq, cases_Bool, false≢true, false_from_ne_true}

pub scan_start : (line : Line) → IsLine line → IsRanked line → (c : ℕ) (mode : Mode) (R : List Bool) (base : Load)
    → IsPart line c mode R base → Scan line c mode R base base (2 * tasks line)
scan_start line ok ranked c mode R base l = record {
  within = omega arith;
  sizes = ok;
  ranked = ranked;
  whole = l;
  sets = record { front = l.front; back = l.back };
  same = λ j h. refl;
  absent = λ j g h. absurd (omega arith);
  none = λ j g h b lb agree gone here. omega arith;
}

pub rescan : (line : Line) (c : ℕ) (mode : Mode) (R : List Bool) (base now : Load) (k m : ℕ) → k ≡ m
    → Scan line c mode R base now k → Scan line c mode R base now m
rescan line c mode R base now k m e s = let P : ℕ → Type 0 = λ n. Scan line c mode R base now n in subst P e s

module _ (line : Line) (c : ℕ) (mode : Mode) (R : List Bool) (base now : Load) (k : ℕ)
    (s : Scan line c mode R base now (suc k)) where
  gone_from : truth line now k ≡ false → (j : ℕ) → k ≤ j → j < 2 * tasks line → truth line now j ≡ false
  gone_from f j g h = elim (cases_eq j k) [
    | inl q ↦ ap (λ x. truth line now x) q ∙ f
    | inr n ↦
        s.absent j (omega arith) h
  ]

  -- the place is passed
  pass : truth line now k ≡ false → ((b : Load) → IsLoad line c mode R b
      → ((i : ℕ) → i < k → truth line now i ≡ truth line b i) → truth line b k ≡ true → ⊥)
      → Scan line c mode R base now k
  pass gone cannot = record {
    within = omega (arith, s.within);
    sizes = s.sizes;
    ranked = s.ranked;
    whole = s.whole;
    sets = s.sets;
    same = λ j h. s.same j (omega arith);
    absent = gone_from gone;
    none = λ j g h b lb agree away here. elim (cases_eq j k) [
      | inl q ↦ cannot b lb (λ i l. s.same i (omega arith) ∙ agree i (omega arith))
          (ap (λ x. truth line b x) (sym q) ∙ here)
      | inr n ↦ s.none j (omega arith) h b lb agree away here
    ];
  }

  -- what stands there is given up
  give_up : (new : Load) → AreSets line new → ((j : ℕ) → j < 2 * tasks line → j ≢ k
      → truth line new j ≡ truth line now j) → truth line new k ≡ false → truth line now k ≡ true
      → Scan line c mode R base new k
  give_up new sets other gone had = record {
    within = omega (arith, s.within);
    sizes = s.sizes;
    ranked = s.ranked;
    whole = s.whole;
    sets = sets;
    same = λ j h. other j (omega (arith, s.within)) (omega arith) ∙ s.same j (omega arith);
    absent = λ j g h. elim (cases_eq j k) [
      | inl q ↦ ap (λ x. truth line new x) q ∙ gone
      | inr n ↦
          other j h n ∙ s.absent j (omega arith) h
    ];
    none = λ j g h b lb agree away here. elim (cases_eq j k) [
      | inl q ↦ false≢true (sym away ∙ (ap (λ x. truth line base x) q ∙ (sym (s.same k (omega arith)) ∙ had)))
      | inr n ↦ s.none j (omega arith) h b lb agree away here
    ];
  }

  -- a task joins there
  join : (new : Load) → ((j : ℕ) → j < 2 * tasks line → j ≢ k → truth line new j ≡ truth line now j)
      → truth line new k ≡ true → truth line now k ≡ false → IsLoad line c mode R new → IsNext line c mode R base new
  join new other here had load =
      next_is line s.ranked c mode R base new k (omega (arith, s.within))
      (record {
        same = λ j h. other j (omega (arith, s.within)) (omega arith) ∙ s.same j (omega arith);
        absent = sym (s.same k (omega arith)) ∙ had;
        present = here;
        after = λ j g h. other j h (omega arith) ∙ s.absent j (omega arith) h;
      }) load (λ j g h. s.none j (omega arith) h)

-- what is left of base is a load, or nothing
pub part_now : (line : Line) (c : ℕ) (mode : Mode) (R : List Bool) (base now : Load) (k : ℕ)
    → Scan line c mode R base now k → IsPart line c mode R now
part_now line c mode R base now k s = cut line s.ranked c mode R base now s.whole s.sets.front s.sets.back k s.same
    s.absent

-- the turns at a place of a side
module _ (line : Line) (c : ℕ) (mode : Mode) (R : List Bool) (s : Side) (base now : Load) (p : ℕ)
    (within : p < tasks line) (scan : Scan line c mode R base now (spot line s (suc p))) where
  start : Scan line c mode R base now (suc (spot line s p))
  start = rescan line c mode R base now (spot line s (suc p)) (suc (spot line s p)) (spot_suc line s p) scan

  long : task_at line s p < length (part s now)
  long = let i : IsTaskSet line (part s now) = set_of s now scan.sets in
      omega (arith, i.truths, scan.sizes.small, task_within line scan.ranked s p within)

  pub gives_up : In (part s now) (task_at line s p) → Scan line c mode R base (changed s now (task_at line s p) false)
      (spot line s p)
  gives_up m =
      give_up line c mode R base now (spot line s p) start (changed s now (task_at line s p) false)
      (sets_with line s now (set (part s now) (task_at line s p) false) scan.sets
      (set_less line (part s now) (task_at line s p) (set_of s now scan.sets)))
      (truth_other line scan.ranked s now p false within) (truth_here line scan.ranked s now p false within long)
      (truth_at line scan.ranked s now p within ∙ m)

  pub passes : has (part s now) (task_at line s p) ≡ false → (fills mode s ≡ false)
      ⊎ (MayJoin line c R s now (task_at line s p) → ⊥) → Scan line c mode R base now (spot line s p)
  passes e why =
      let f : truth line now (spot line s p) ≡ false = truth_at line scan.ranked s now p within ∙ e in
      pass line c mode R base now (spot line s p) start f (λ b lb agree here. elim why [
        | inl n ↦ unfilled mode s b n lb.suits (task_at line s p) (sym (truth_at line scan.ranked s b p within) ∙ here)
        | inr cannot ↦ cannot (may_from line scan.ranked c mode R s p within now b scan.sets lb agree
            (gone_from line c mode R base now (spot line s p) start f) here)
      ])

  pub joined : has (part s now) (task_at line s p) ≡ false → fills mode s ≡ true
      → MayJoin line c R s now (task_at line s p) → IsNext line c mode R base (changed s now (task_at line s p) true)
  joined e filled may =
      join line c mode R base now (spot line s p) start (changed s now (task_at line s p) true)
      (truth_other line scan.ranked s now p true within) (truth_here line scan.ranked s now p true within long)
      (truth_at line scan.ranked s now p within ∙ e)
      (joins line scan.sizes c mode R s now (task_at line s p) (task_within line scan.ranked s p within)
      (part_now line c mode R base now (spot line s (suc p)) scan) may filled)

-- places with no task that may join are passed together
pub drops : (line : Line) (c : ℕ) (mode : Mode) (R : List Bool) (s : Side) (base now : Load) (low many : ℕ)
    → low + many ≤ tasks line
    → ((p : ℕ) → low ≤ p → p < low + many → (has (part s now) (task_at line s p) ≡ false)
    × (MayJoin line c R s now (task_at line s p) → ⊥))
    → Scan line c mode R base now (spot line s (low + many)) → Scan line c mode R base now (spot line s low)
drops line c mode R s base now low zero l free scan = rescan line c mode R base now (spot line s (low + zero))
    (spot line s low) (ap (spot line s) (let e : low + 0 ≡ low = omega arith in e)) scan
drops line c mode R s base now low (suc many) l free scan =
    let here : (has (part s now) (task_at line s (low + many)) ≡ false)
    × (MayJoin line c R s now (task_at line s (low + many)) → ⊥) = free (low + many) (omega arith) (omega arith) in
    drops line c mode R s base now low many (omega arith) (λ p a b. free p a (omega arith))
    (passes line c mode R s base now (low + many) (omega arith)
    (rescan line c mode R base now (spot line s (low + suc many)) (spot line s (suc (low + many)))
    (ap (spot line s) (let e : low + suc many ≡ suc (low + many) = omega arith in e)) scan) here.0 (inr here.1))

-- from the end of a side that loads of the mode don't fill on, there is nothing to go over
pub skips : (line : Line) (c : ℕ) (mode : Mode) (R : List Bool) (s : Side) (base now : Load) (p : ℕ) → p ≤ tasks line
    → fills mode s ≡ false → Scan line c mode R base now (spot line s p) → Scan line c mode R base now (spot line s 0)
skips line c mode R s base now zero l e scan = scan
skips line c mode R s base now (suc p) l e scan =
    let w : p < tasks line = omega arith in
    let part : IsPart line c mode R now = part_now line c mode R base now (spot line s (suc p)) scan in
    skips line c mode R s base now p (omega arith) e
    (passes line c mode R s base now p w scan (false_from_ne_true
    (has (Rattle.line_rules.specs.Sides.part s now) (task_at line s p))
    (unfilled mode s now e part.suits (task_at line s p))) (inl e))

-- where all places were gone over, no load stands above
pub none_above : (line : Line) (c : ℕ) (mode : Mode) (R : List Bool) (base now : Load) → Scan line c mode R base now 0
    → (l : Load) → IsLoad line c mode R l → Precedes line base l → ⊥
none_above line c mode R base now s l load p = s.none p.at (omega arith) p.within l load p.same p.absent p.present

-- The load given last, or nothing where none was given.
pub record IsBase (line : Line) (c : ℕ) (mode : Mode) (R : List Bool) (last : Option Load) (base : Load) : Type 0 where
  pub is_part : IsPart line c mode R base
  pub is_last : (l : Load) → last ≡ Some l → base ≡ l
  pub nothing : last ≡ None → (i : ℕ) → In (taken base) i → ⊥

nothing_taken : (i : ℕ) → In (taken nothing_yet) i → ⊥
nothing_taken i m = elim (In-union_cases (replicate 1024 false) (replicate 1024 false) i m)
    [ inl f ↦ In-empty 1024 i f | inr b ↦ In-empty 1024 i b ]

pub nothing_set : (line : Line) → IsTaskSet line (replicate 1024 false)
nothing_set line = record { truths = length-replicate 1024 false; tasks = λ i m. absurd (In-empty 1024 i m) }

pub nothing_sum : (line : Line) → sum_where (has (taken nothing_yet)) line.times ≡ 0
nothing_sum line = weigh-none (λ t. t) (has (taken nothing_yet))
    (λ i. false_from_ne_true (has (taken nothing_yet) i) (nothing_taken i)) line.times

nothing_suits : (mode : Mode) → Suits mode nothing_yet
nothing_suits mode.Fore = λ i m. In-empty 1024 i m
nothing_suits mode.Back = λ i m. In-empty 1024 i m
nothing_suits mode.Both = tt

pub base_none : (line : Line) (c : ℕ) (mode : Mode) (R : List Bool) → IsBase line c mode R None nothing_yet
base_none line c mode R = record {
  is_part = record {
    front = nothing_set line;
    back = nothing_set line;
    suits = nothing_suits mode;
    within = λ i m. absurd (nothing_taken i m);
    disjoint = λ i m n. In-empty 1024 i m;
    fits = omega (arith, nothing_sum line);
    parted = λ i j m n a. nothing_taken i m;
    before = λ i j m n w. absurd (In-empty 1024 j n);
    after = λ i j m n w. absurd (In-empty 1024 i m);
  };
  is_last = λ l e. absurd (cc);
  nothing = λ e. nothing_taken;
}

pub base_some : (line : Line) (c : ℕ) (mode : Mode) (R : List Bool) (l : Load) → IsLoad line c mode R l
    → IsBase line c mode R (Some l) l
base_some line c mode R l load = record { is_part = whole load; is_last = λ k e. cc; nothing = λ e. absurd (cc) }

first_below : (f : ℕ → Bool) (n : ℕ) → ((m : ℕ) × (m < n) × (f m ≡ true) × ((j : ℕ) → j < m → f j ≡ false))
    ⊎ ((j : ℕ) → j < n → f j ≡ false)
first_below f zero = inr (λ j h. absurd (omega arith))
first_below f (suc n) = elim (first_below f n) [
  | inl r ↦ inl (r.0, omega (arith, r.1), r.2, r.3)
  | inr none ↦ elim (cases_Bool (f n)) [
    | inl t ↦ inl (n, omega arith, t, none)
    | inr e ↦ inr (λ j h. elim (cases_eq j n) [ inl q ↦ ap f q ∙ e | inr d ↦ none j (omega arith) ])
  ]
]

first_true : (f : ℕ → Bool) (n : ℕ) → f n ≡ true → (m : ℕ) × (m < suc n) × (f m ≡ true)
    × ((j : ℕ) → j < m → f j ≡ false)
first_true f n e = elim (first_below f n) [
  | inl r ↦ (r.0, omega (arith, r.1), r.2, r.3)
  | inr none ↦ (n, omega arith, e, none)
]

module _ (line : Line) (c : ℕ) (mode : Mode) (R : List Bool) (ranked : IsRanked line) (base : Load) where
  empty_truth : ((i : ℕ) → In (taken base) i → ⊥) → (j : ℕ) → j < 2 * tasks line → truth line base j ≡ false
  empty_truth none j h =
      let r : (s : Side) × (p : ℕ) × (p < tasks line) × (j ≡ spot line s p) = spot_of line j h in
      false_from_ne_true (truth line base j) (λ e. none (task_at line r.0 r.1)
      (part_taken r.0 base (task_at line r.0 r.1) (sym (truth_at line ranked r.0 base r.1 r.2)
      ∙ (ap (λ k. truth line base k) (sym r.3) ∙ e))))

  -- nothing precedes each load
  pub above_nothing : ((i : ℕ) → In (taken base) i → ⊥) → (l : Load) → IsLoad line c mode R l → Precedes line base l
  above_nothing none l load =
      let t : (s : Side) × In (part s l) load.some.0 = taken_part l load.some.0 load.some.1 in
      let r : (p : ℕ) × (p < tasks line) × (task_at line t.0 p ≡ load.some.0) =
      task_placed line ranked t.0 load.some.0 (tasks_of t.0 load load.some.0 t.1) in
      let there : truth line l (spot line t.0 r.0) ≡ true =
      truth_at line ranked t.0 l r.0 r.1 ∙ (ap (λ k. has (part t.0 l) k) r.2 ∙ t.1) in
      let f : (m : ℕ) × (m < suc (spot line t.0 r.0)) × (truth line l m ≡ true)
      × ((j : ℕ) → j < m → truth line l j ≡ false) = first_true (truth line l) (spot line t.0 r.0) there in
      let low : f.0 < 2 * tasks line = omega (arith, f.1, spot_within line t.0 r.0 r.1) in
      record {
        at = f.0;
        within = low;
        same = λ j h. empty_truth none j (omega (arith, h, low)) ∙ sym (f.3 j h);
        absent = empty_truth none f.0 low;
        present = f.2;
      }

  pub after_above : (last : Option Load) → IsBase line c mode R last base → (l : Load) → IsLoad line c mode R l
      → After line last l → Precedes line base l
  after_above None h l load a = above_nothing (h.nothing refl) l load
  after_above (Some x) h l load a = let P : Load → Type 0 = λ y. Precedes line y l in subst P (sym (h.is_last x refl)) a

  above_after : (last : Option Load) → IsBase line c mode R last base → (l : Load) → Precedes line base l
      → After line last l
  above_after None h l a = tt
  above_after (Some x) h l a = let P : Load → Type 0 = λ y. Precedes line y l in subst P (h.is_last x refl) a

  -- the next load above what was given last follows it
  pub follows : (last : Option Load) → IsBase line c mode R last base → (b : Load) → IsNext line c mode R base b
      → IsFollowing line c mode R last b
  follows last h b n = record {
    load = n.load;
    above = above_after last h b n.above;
    least = λ l load a. n.least l load (after_above last h l load a);
  }

  pub none_follows : (last : Option Load) → IsBase line c mode R last base
      → ((l : Load) → IsLoad line c mode R l → Precedes line base l → ⊥) → (l : Load) → IsLoad line c mode R l
      → After line last l → ⊥
  none_follows last h none l load a = none l load (after_above last h l load a)
