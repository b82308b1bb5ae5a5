-- From a balance of R in r stations: a full load of R whose rest has a balance in one station less.
use Rattle.std.proofs.Common.{◌≡◌, ◌≢◌, ℕ, zero, suc, ◌-◌, ◌≤◌, Bool, true, false, ◌&&◌, not, nat_eq, List, length}
use Rattle.std.proofs.Common.{refl, sym, ap, ◌∙◌, inl, inr, arith}
use Rattle.line_instance.specs.Truths.{In, IsSubset}
use Rattle.line_instance.proofs.Members.{In-union_left, In-union_right, In-union_cases, In-minus_parts, keep}
use Rattle.line_instance.proofs.Members.{length-keep}
use Rattle.line_instance.proofs.Members.{In-keep, In-keep_parts}
use Rattle.line_instance.specs.Line.{Line, IsTaskSet, has}
use Rattle.line_rules.specs.Balance.{IsBalance, Keeps}
use Rattle.line_rules.specs.Loads.{IsLoad, IsFull, Suits, Belongs, taken, rest}
use Rattle.line_rules.specs.declared.types.LineKind.{LineKind}
use Rattle.line_rules.specs.declared.types.LineKind.TheVariants.{Straight, U}
use Rattle.line_rules.specs.declared.types.Mode.{Mode}
use Rattle.line_rules.specs.declared.types.Mode.TheVariants.{Fore, Back, Both}
use Rattle.line_rules.specs.declared.types.Side.{Side}
use Rattle.line_rules.specs.declared.types.Side.TheVariants as side
use Rattle.line_rules.specs.declared.types.Seatplace.{Seatplace}
use Rattle.line_rules.specs.declared.types.Load.{Load}
use Rattle.line_instance.proofs.Sums.{sum_where-le, by_cases}
use Rattle.line_rules.proofs.FilledLoads.{full}
use Rattle.line_rules.proofs.SubBalance.{restricted}
use Rattle.std.proofs.lemmas.Bool.{cases_Bool, and_parts, and_from, false≢true, true≢false, eqb-true, eq-eqb, not-true}

is_front : Side → Bool
is_front side.Front = true
is_front side.Back = false

front_is : (s : Side) → is_front s ≡ true → s ≡ side.Front
unfolding is_front
front_is side.Front e = refl
front_is side.Back e = absurd (false≢true e)

back_is : (s : Side) → is_front s ≡ false → s ≡ side.Back
unfolding is_front
back_is side.Front e = absurd (true≢false e)
back_is side.Back e = refl

-- which tasks of a station go to the front, by the mode
to_front : Mode → Seatplace → Bool
to_front Fore p = true
to_front Back p = false
to_front Both p = is_front p.side

-- s is the first station in use, and for Back the last
abbrev Edge : Mode → ℕ → ℕ → Type 0
Edge Fore s t = s ≤ t
Edge Back s t = t ≤ s
Edge Both s t = s ≤ t

kept_front : (kind : LineKind) (mode : Mode) → Belongs kind mode → (s : ℕ) (p q : Seatplace) → Keeps kind p q
    → Edge mode s p.station → q.station ≡ s → to_front mode q ≡ true
    → (p.station ≡ s) × (to_front mode p ≡ true)
unfolding to_front is_front
kept_front Straight Fore b s p q k e at f = (omega arith, refl)
kept_front Straight Back b s p q k e at f = absurd (false≢true f)
kept_front Straight Both b s p q k e at f = absurd b
kept_front U Fore b s p q k e at f = absurd b
kept_front U Back b s p q k e at f = absurd b
kept_front U Both b s p q k e at f =
    let h : (p.side ≡ side.Front) × (p.station ≤ q.station) = k.front (front_is q.side f) in
    (omega (arith, h.1), ap is_front h.0)

kept_back : (kind : LineKind) (mode : Mode) → Belongs kind mode → (s : ℕ) (p q : Seatplace) → Keeps kind p q
    → Edge mode s q.station → p.station ≡ s → to_front mode p ≡ false
    → (q.station ≡ s) × (to_front mode q ≡ false)
unfolding to_front is_front
kept_back Straight Fore b s p q k e at f = absurd (true≢false f)
kept_back Straight Back b s p q k e at f = (omega arith, refl)
kept_back Straight Both b s p q k e at f = absurd b
kept_back U Fore b s p q k e at f = absurd b
kept_back U Back b s p q k e at f = absurd b
kept_back U Both b s p q k e at f =
    let h : (q.side ≡ side.Back) × (q.station ≤ p.station) = k.back (back_is p.side f) in
    (omega (arith, h.1), ap is_front h.0)

-- the tasks of the station s as a load
module _ (kind : LineKind) (line : Line) (c : ℕ) (mode : Mode) (R : List Bool) (r : ℕ) (place : ℕ → Seatplace)
    (s : ℕ) where
  at_front : ℕ → Bool
  at_front i = nat_eq (place i).station s && to_front mode (place i)

  at_back : ℕ → Bool
  at_back i = nat_eq (place i).station s && not (to_front mode (place i))

  abbrev station_load : Load
  station_load = record { front = keep at_front R; back = keep at_back R }

  in_front : (i : ℕ) → In R i → (place i).station ≡ s → to_front mode (place i) ≡ true → In (keep at_front R) i
  unfolding at_front
  in_front i m e f = In-keep at_front R i m (and_from (nat_eq (place i).station s) (to_front mode (place i))
      (eq-eqb (place i).station s e) f)

  in_back : (i : ℕ) → In R i → (place i).station ≡ s → to_front mode (place i) ≡ false → In (keep at_back R) i
  unfolding at_back
  in_back i m e f = In-keep at_back R i m (and_from (nat_eq (place i).station s) (not (to_front mode (place i)))
      (eq-eqb (place i).station s e) (ap not f))

  of_front : (i : ℕ) → In (keep at_front R) i → In R i × ((place i).station ≡ s) × (to_front mode (place i) ≡ true)
  unfolding at_front
  of_front i m =
      let p : In R i × (at_front i ≡ true) = In-keep_parts at_front R i m in
      let q : (nat_eq (place i).station s ≡ true) × (to_front mode (place i) ≡ true) =
      and_parts (nat_eq (place i).station s) (to_front mode (place i)) p.1 in
      (p.0, eqb-true (place i).station s q.0, q.1)

  of_back : (i : ℕ) → In (keep at_back R) i → In R i × ((place i).station ≡ s) × (to_front mode (place i) ≡ false)
  unfolding at_back
  of_back i m =
      let p : In R i × (at_back i ≡ true) = In-keep_parts at_back R i m in
      let q : (nat_eq (place i).station s ≡ true) × (not (to_front mode (place i)) ≡ true) =
      and_parts (nat_eq (place i).station s) (not (to_front mode (place i))) p.1 in
      (p.0, eqb-true (place i).station s q.0, not-true (to_front mode (place i)) q.1)

  of_taken : (i : ℕ) → In (taken station_load) i → In R i × ((place i).station ≡ s)
  of_taken i m = elim (In-union_cases (keep at_front R) (keep at_back R) i m) [
    | inl f ↦ ((of_front i f).0, (of_front i f).1)
    | inr b ↦ ((of_back i b).0, (of_back i b).1)
  ]

  in_taken : (i : ℕ) → In R i → (place i).station ≡ s → In (taken station_load) i
  in_taken i m e = elim (cases_Bool (to_front mode (place i))) [
    | inl t ↦ In-union_left (keep at_front R) (keep at_back R) i (in_front i m e t)
    | inr f ↦ In-union_right (keep at_front R) (keep at_back R) i (in_back i m e f)
  ]

  is_load : Suits mode station_load → Belongs kind mode → IsTaskSet line R → IsBalance kind line c R r place
      → ((i : ℕ) → In R i → Edge mode s (place i).station)
      → (i : ℕ) → In R i → (place i).station ≡ s → IsLoad line c mode R station_load
  is_load suits belongs set b edge k m at = record {
    front = record { truths = length-keep at_front R ∙ set.truths; tasks = λ i n. set.tasks i (of_front i n).0 };
    back = record { truths = length-keep at_back R ∙ set.truths; tasks = λ i n. set.tasks i (of_back i n).0 };
    suits = suits;
    within = λ i n. (of_taken i n).0;
    disjoint = λ i f g. false≢true (sym (of_back i g).2 ∙ (of_front i f).2);
    some = (k, in_taken k m at);
    fits = omega (
      arith,
      b.fits s,
      sum_where-le (has (taken station_load)) (λ i. has R i && nat_eq (place i).station s)
          (λ i n. and_from (has R i) (nat_eq (place i).station s) (of_taken i n).0
          (eq-eqb (place i).station s (of_taken i n).1)) line.times,
    );
    parted = λ i j m n a. b.parted i j (of_taken i m).0 (of_taken j n).0 a ((of_taken i m).1 ∙ sym (of_taken j n).1);
    before = λ i j m n w.
        let f : In R j × ((place j).station ≡ s) × (to_front mode (place j) ≡ true) = of_front j n in
        let g : ((place i).station ≡ s) × (to_front mode (place i) ≡ true) =
        kept_front kind mode belongs s (place i) (place j) (b.keeps i j m f.0 w) (edge i m) f.1 f.2 in
        in_front i m g.0 g.1;
    after = λ i j m n w.
        let f : In R i × ((place i).station ≡ s) × (to_front mode (place i) ≡ false) = of_back i m in
        let g : ((place j).station ≡ s) × (to_front mode (place j) ≡ false) =
        kept_back kind mode belongs s (place i) (place j) (b.keeps i j f.0 n w) (edge j n) f.1 f.2 in
        in_back j n g.0 g.1;
  }

suited : (kind : LineKind) (line : Line) (c : ℕ) (mode : Mode) (R : List Bool) (r : ℕ) (place : ℕ → Seatplace) (s : ℕ)
    → Suits mode (station_load kind line c mode R r place s)
unfolding to_front
suited kind line c Fore R r place s = λ i m. true≢false (of_back kind line c Fore R r place s i m).2
suited kind line c Back R r place s = λ i m. false≢true (of_front kind line c Back R r place s i m).2
suited kind line c Both R r place s = tt

end_station : Mode → ℕ → ℕ
end_station Fore r = 1
end_station Back r = r
end_station Both r = 1

keeps_less : (kind : LineKind) (p q : Seatplace) → Keeps kind p q
    → Keeps kind (record p { station = p.station - 1 }) (record q { station = q.station - 1 })
keeps_less Straight p q k = omega arith
keeps_less U p q k = record {
  front = λ f. ((k.front f).0, omega (arith, (k.front f).1));
  back = λ f. ((k.back f).0, omega (arith, (k.back f).1));
}

test_less : (t s : ℕ) → 1 ≤ t → nat_eq (t - 1) s ≡ true → nat_eq t (suc s) ≡ true
test_less t s h e = eq-eqb t (suc s) (omega (arith, eqb-true (t - 1) s e))

-- a part of R without the tasks of the first station has a balance in one station less
module _ (kind : LineKind) (line : Line) (c : ℕ) (R T : List Bool) (r : ℕ) (place : ℕ → Seatplace)
    (b : IsBalance kind line c R (suc r) place) (sub : IsSubset T R) where
  less : ℕ → Seatplace
  less i = record (place i) { station = (place i).station - 1 }

  without_first : ((i : ℕ) → In T i → (place i).station ≢ 1) → IsBalance kind line c T r less
  unfolding less
  without_first h = record {
    first = λ i m. omega (arith, b.first i (sub i m), h i m);
    last = λ i m. omega (arith, b.last i (sub i m));
    keeps = λ i j m n w. keeps_less kind (place i) (place j) (b.keeps i j (sub i m) (sub j n) w);
    parted = λ i j m n a e. b.parted i j (sub i m) (sub j n) a
        (omega (arith, b.first i (sub i m), b.first j (sub j n), e));
    fits = λ s. omega (
      arith,
      b.fits (suc s),
      sum_where-le (λ i. has T i && nat_eq ((place i).station - 1) s) (λ i. has R i && nat_eq (place i).station (suc s))
          (λ i e. let p : (has T i ≡ true) × (nat_eq ((place i).station - 1) s ≡ true) =
          and_parts (has T i) (nat_eq ((place i).station - 1) s) e in
          and_from (has R i) (nat_eq (place i).station (suc s)) (sub i p.0)
          (test_less (place i).station s (b.first i (sub i p.0)) p.1)) line.times,
    );
  }

  without_last : ((i : ℕ) → In T i → (place i).station ≢ suc r) → IsBalance kind line c T r place
  without_last h =
      let q : IsBalance kind line c T (suc r) place = restricted kind line c c R T (suc r) (suc r) place (omega arith)
      (omega arith) sub b in
      record {
        first = q.first;
        last = λ i m. omega (arith, q.last i m, h i m);
        keeps = q.keeps;
        parted = q.parted;
        fits = q.fits;
      }

-- R without the tasks of the station at the end has a balance in one station less
given_up : (kind : LineKind) (line : Line) (c : ℕ) (mode : Mode) (R T : List Bool) (r : ℕ) (place : ℕ → Seatplace)
    → IsBalance kind line c R (suc r) place → IsSubset T R
    → ((i : ℕ) → In T i → (place i).station ≢ end_station mode (suc r))
    → (place' : ℕ → Seatplace) × IsBalance kind line c T r place'
unfolding end_station
given_up kind line c Fore R T r place b sub h = (
  less kind line c R T r place b sub,
  without_first kind line c R T r place b sub h,
)
given_up kind line c Back R T r place b sub h = (place, without_last kind line c R T r place b sub h)
given_up kind line c Both R T r place b sub h = (
  less kind line c R T r place b sub,
  without_first kind line c R T r place b sub h,
)

edges : (kind : LineKind) (line : Line) (c : ℕ) (mode : Mode) (R : List Bool) (r : ℕ) (place : ℕ → Seatplace)
    → IsBalance kind line c R r place → (i : ℕ) → In R i → Edge mode (end_station mode r) (place i).station
unfolding end_station
edges kind line c Fore R r place b i m = b.first i m
edges kind line c Back R r place b i m = b.last i m
edges kind line c Both R r place b i m = b.first i m

module _ (kind : LineKind) (line : Line) (small : length line.times ≤ 1024) (c : ℕ) (mode : Mode)
    (belongs : Belongs kind mode) (R : List Bool) (set : IsTaskSet line R) (a : ℕ) (some : In R a) where
  pub step : (r : ℕ) (place : ℕ → Seatplace) → IsBalance kind line c R r place
      → ((f : Load) → IsLoad line c mode R f → IsFull line c mode R f → (place' : ℕ → Seatplace)
      → IsBalance kind line c (rest R f) (r - 1) place' → ⊥) → ⊥
  step zero place b k = omega (arith, b.first a some, b.last a some)
  step (suc r) place b k = by_cases ((i : ℕ) × In R i × ((place i).station ≡ end_station mode (suc r))) (λ d. elim d [
    | inl used ↦
        let l : Load = station_load kind line c mode R (suc r) place (end_station mode (suc r)) in
        full line small c mode R (λ i m. omega (arith, set.tasks i m)) 2048 l
        (is_load kind line c mode R (suc r) place (end_station mode (suc r))
        (suited kind line c mode R (suc r) place (end_station mode (suc r))) belongs set b
        (edges kind line c mode R (suc r) place b) used.0 used.1 used.2)
        (omega arith)
        (λ f g h s.
        let gone : (i : ℕ) → In (rest R f) i → (place i).station ≢ end_station mode (suc r) = λ i m e.
        false≢true (sym (In-minus_parts R (taken f) i m).1 ∙ s i
        (in_taken kind line c mode R (suc r) place (end_station mode (suc r)) i (In-minus_parts R (taken f) i m).0
        e)) in
        let t : (place' : ℕ → Seatplace) × IsBalance kind line c (rest R f) r place' =
        given_up kind line c mode R (rest R f) r place b (λ i m. (In-minus_parts R (taken f) i m).0) gone in
        k f g h t.0 (restricted kind line c c (rest R f) (rest R f) r (suc r - 1) t.0 (omega arith) (omega arith)
        (λ i m. m) t.1))
    | inr unused ↦
        let t : (place' : ℕ → Seatplace) × IsBalance kind line c R r place' =
        given_up kind line c mode R R r place b (λ i m. m) (λ i m e. unused (i, m, e)) in
        step r t.0 t.1 (λ f g h place' b'. k f g h place' (restricted kind line c c (rest R f) (rest R f) (r - 1)
        (suc r - 1) place' (omega arith) (omega arith) (λ i m. m) b'))
  ])
