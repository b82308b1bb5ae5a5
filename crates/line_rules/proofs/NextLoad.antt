-- The load after a load.
use Rattle.std.proofs.Common.{Option, Some, None, IfSome, ◌≡◌, ℕ, ◌-◌, ◌*◌, ◌<◌, ◌≤◌, Bool, true, false, List, sym, ap}
use Rattle.std.proofs.Common.{◌∙◌, inl, inr, arith}
use Rattle.line_instance.specs.Truths.{In, IsSubset}
use Rattle.line_instance.proofs.Members.{In-union_left, In-union_right, In-union_cases}
use Rattle.line_instance.specs.Line.{Line, IsTaskSet, IsRanked, tasks, has, at_rank}
use Rattle.line_rules.proofs.Compare.{in_front, in_back}
use Rattle.line_rules.specs.inner.Scan.{IsPart}
use Rattle.line_rules.specs.Loads.{IsLoad, Suits, taken}
use Rattle.line_rules.specs.Order.{truth, IsNext}
use Rattle.line_rules.specs.declared.types.Mode.{Mode}
use Rattle.line_rules.specs.declared.types.Mode.TheVariants.{Fore, Back, Both}
use Rattle.line_rules.specs.declared.types.Load.{Load}
use Rattle.line_instance.proofs.Sums.{sum_where-le}
use Rattle.std.proofs.lemmas.Bool.{cases_lt, false≢true}

-- a load is one
pub whole : {line : Line} {c : ℕ} {mode : Mode} {R : List Bool} {l : Load} → IsLoad line c mode R l
    → IsPart line c mode R l
whole l = record {
  front = l.front;
  back = l.back;
  suits = l.suits;
  within = l.within;
  disjoint = l.disjoint;
  fits = l.fits;
  parted = l.parted;
  before = l.before;
  after = l.after;
}

smaller_suits : (mode : Mode) (m b : Load) → IsSubset m.front b.front → IsSubset m.back b.back → Suits mode b
    → Suits mode m
smaller_suits Fore m b f g s = λ i h. s i (g i h)
smaller_suits Back m b f g s = λ i h. s i (f i h)
smaller_suits Both m b f g s = tt

module _ (line : Line) (ranked : IsRanked line) where
  module _ (c : ℕ) (mode : Mode) (R : List Bool) (b m : Load) (load : IsPart line c mode R b)
      (front : IsTaskSet line m.front) (back : IsTaskSet line m.back) (k : ℕ)
      (same : (j : ℕ) → j < k → truth line m j ≡ truth line b j)
      (absent : (j : ℕ) → k ≤ j → j < 2 * tasks line → truth line m j ≡ false) where
    front_place : (i : ℕ) → In m.front i → (q : ℕ) × (q < tasks line) × (at_rank line q ≡ i) × (q < k)
    front_place i h =
        let p : (q : ℕ) × (q < tasks line) × (at_rank line q ≡ i) = ranked.rank i (front.tasks i h) in
        let t : truth line m p.0 ≡ true = in_front line ranked m p.0 p.1 ∙ ap (λ x. has m.front x) p.2 ∙ h in (
          p.0,
          p.1,
          p.2,
          elim (cases_lt p.0 k) [
            | inl l ↦ l
            | inr g ↦
                absurd (false≢true (sym (absent p.0 g (omega (arith, p.1))) ∙ t))
          ],
        )

    back_place : (i : ℕ) → In m.back i → (q : ℕ) × (q < tasks line) × (at_rank line q ≡ i)
        × (2 * tasks line - 1 - q < k)
    back_place i h =
        let p : (q : ℕ) × (q < tasks line) × (at_rank line q ≡ i) = ranked.rank i (back.tasks i h) in
        let t : truth line m (2 * tasks line - 1 - p.0) ≡ true =
        in_back line ranked m p.0 p.1 ∙ ap (λ x. has m.back x) p.2 ∙ h in (
          p.0,
          p.1,
          p.2,
          elim (cases_lt (2 * tasks line - 1 - p.0) k) [
            | inl l ↦ l
            | inr g ↦ absurd (false≢true (sym (absent (2 * tasks line - 1 - p.0) g (omega (arith, p.1)))
                ∙ t))
          ],
        )

    pub front_in : IsSubset m.front b.front
    front_in i h =
        let p : (q : ℕ) × (q < tasks line) × (at_rank line q ≡ i) × (q < k) = front_place i h in
        ap (λ x. has b.front x) (sym p.2) ∙ sym (in_front line ranked b p.0 p.1) ∙ sym (same p.0 p.3)
        ∙ in_front line ranked m p.0 p.1 ∙ ap (λ x. has m.front x) p.2 ∙ h

    pub back_in : IsSubset m.back b.back
    back_in i h =
        let p : (q : ℕ) × (q < tasks line) × (at_rank line q ≡ i) × (2 * tasks line - 1 - q < k) = back_place i h in
        ap (λ x. has b.back x) (sym p.2) ∙ sym (in_back line ranked b p.0 p.1)
        ∙ sym (same (2 * tasks line - 1 - p.0) p.3) ∙ in_back line ranked m p.0 p.1 ∙ ap (λ x. has m.back x) p.2 ∙ h

    pub taken_in : IsSubset (taken m) (taken b)
    taken_in i h = elim (In-union_cases m.front m.back i h) [
      | inl f ↦ In-union_left b.front b.back i (front_in i f)
      | inr g ↦
          In-union_right b.front b.back i (back_in i g)
    ]

    -- a load, or nothing, without what stands from some place on is again one
    pub cut : IsPart line c mode R m
    cut = record {
      front = front;
      back = back;
      suits = smaller_suits mode m b front_in back_in load.suits;
      within = λ i h. load.within i (taken_in i h);
      disjoint = λ i h g. load.disjoint i (front_in i h) (back_in i g);
      fits = omega (arith, load.fits, sum_where-le (has (taken m)) (has (taken b)) taken_in line.times);
      parted = λ i j h g a. load.parted i j (taken_in i h) (taken_in j g) a;
      before = λ i j h g w.
          let p : (q : ℕ) × (q < tasks line) × (at_rank line q ≡ j) × (q < k) = front_place j g in
          let x : In b.front i = load.before i j h (front_in j g) w in
          let r : (q : ℕ) × (q < tasks line) × (at_rank line q ≡ i) = ranked.rank i (load.front.tasks i x) in
          let s : r.0 < p.0 = ranked.rises r.0 p.0 r.1 p.1 (rw (r.2, p.2) w) in
          ap (λ y. has m.front y) (sym r.2) ∙ sym (in_front line ranked m r.0 r.1) ∙ same r.0 (omega (arith, s, p.3))
          ∙ in_front line ranked b r.0 r.1 ∙ ap (λ y. has b.front y) r.2 ∙ x;
      after = λ i j h g w.
          let p : (q : ℕ) × (q < tasks line) × (at_rank line q ≡ i) × (2 * tasks line - 1 - q < k) = back_place i h in
          let x : In b.back j = load.after i j (back_in i h) g w in
          let r : (q : ℕ) × (q < tasks line) × (at_rank line q ≡ j) = ranked.rank j (load.back.tasks j x) in
          let s : p.0 < r.0 = ranked.rises p.0 r.0 p.1 r.1 (rw (p.2, r.2) w) in
          ap (λ y. has m.back y) (sym r.2) ∙ sym (in_back line ranked m r.0 r.1)
          ∙ same (2 * tasks line - 1 - r.0) (omega (arith, s, p.3, r.1)) ∙ in_back line ranked b r.0 r.1
          ∙ ap (λ y. has b.back y) r.2 ∙ x;
    }

  -- m agrees with a up to a place where it has what a lacks, and has nothing after it
  pub record Steps (a m : Load) (k : ℕ) : Type 0 where
    pub same : (j : ℕ) → j < k → truth line m j ≡ truth line a j
    pub absent : truth line a k ≡ false
    pub present : truth line m k ≡ true
    pub after : (j : ℕ) → k < j → j < 2 * tasks line → truth line m j ≡ false

  -- where no load above a agrees with it beyond k, the load that steps at k is the next one
  pub next_is : (c : ℕ) (mode : Mode) (R : List Bool) (a m : Load) (k : ℕ) → k < 2 * tasks line → Steps a m k
      → IsLoad line c mode R m
      → ((j : ℕ) → k < j → j < 2 * tasks line → (l : Load) → IsLoad line c mode R l
      → ((i : ℕ) → i < j → truth line a i ≡ truth line l i) → truth line a j ≡ false → truth line l j ≡ true → ⊥)
      → IsNext line c mode R a m
  next_is c mode R a m k lt s load none = record {
    load = load;
    above = record { at = k; within = lt; same = λ j h. sym (s.same j h); absent = s.absent; present = s.present };
    least = λ l g p q. elim (cases_lt k p.at) [
      | inl beyond ↦ none p.at beyond p.within l g p.same p.absent p.present
      | inr upto ↦ elim (cases_lt q.at p.at) [
        | inl b ↦ false≢true (sym q.absent ∙ (sym (p.same q.at b) ∙ sym (s.same q.at (omega arith)) ∙ q.present))
        | inr f ↦ elim (cases_lt p.at q.at) [
          | inl b ↦ elim (cases_lt p.at k) [
            | inl h ↦ false≢true (sym p.absent ∙ (sym (s.same p.at h) ∙ sym (q.same p.at b) ∙ p.present))
            | inr h ↦ false≢true (sym (s.after q.at (omega arith) q.within) ∙ q.present)
          ]
          | inr g ↦
              let e : p.at ≡ q.at = omega arith in
              false≢true (sym q.absent ∙ (ap (λ x. truth line l x) (sym e) ∙ p.present))
        ]
      ]
    ];
  }

-- what is known of the load that is found, handed on
pub map_some : {P Q : Load → Type 0} (o : Option Load) → ((b : Load) → P b → Q b) → IfSome o P → IfSome o Q
map_some None f h = tt
map_some (Some b) f h = f b h

pub same_pair : (f g b d : List Bool) → f ≡ g → b ≡ d → ◌≡◌ {A = Load} (record { front = f; back = b })
    (record { front = g; back = d })
same_pair f g b d e k = λ i. record { front = e i; back = k i }
