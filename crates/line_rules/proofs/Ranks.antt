-- What is true of ranked placements, and that a ranked balance is right.
use Rattle.std.proofs.Common.{◌≡◌, ℕ, ◌+◌, ◌<◌, ◌≤◌, Bool, true, false, cond, ◌&&◌, ◌||◌, nat_eq, List, [], ◌∷◌, length}
use Rattle.std.proofs.Common.{get_or, refl, sym, ap, ◌∙◌, subst, inl, inr, arith}
use Rattle.std.proofs.lemmas.Bool.{false≢true, cases_eq, cases_Bool, and_parts, and_from, or_cases, or_left, or_right}
use Rattle.std.proofs.lemmas.Bool.{eqb-true, eq-eqb, ne_eqb}
use Rattle.line_instance.specs.Truths.{In}
use Rattle.line_instance.specs.Line.{Line, IsLine, Before, Apart, has, tasks, time}
use Rattle.line_instance.specs.Sums.{weigh}
use Rattle.line_instance.proofs.Sums.{weigh-le, weigh-none, weigh-more, weigh-most}
use Rattle.line_rules.specs.Balance.{IsSide, Keeps, IsRight, all_tasks, seat, time_at}
use Rattle.line_rules.specs.Ranked.{Placement, Has, IsAt, time_placed, IsReady, station_of, ComesNext, AreRanked}
use Rattle.line_rules.specs.Ranked.{IsRankedBalance}
use Rattle.line_rules.specs.declared.types.LineKind.{LineKind}
use Rattle.line_rules.specs.declared.types.LineKind.TheVariants.{Straight, U}
use Rattle.line_rules.specs.declared.types.Side.{Side}
use Rattle.line_rules.specs.declared.types.Side.TheVariants.{Front, Back}
use Rattle.line_rules.specs.declared.types.Seatplace.{Seatplace}
use Rattle.line_rules.specs.declared.types.Balance.{Balance as Assignment}
use Rattle.line_rules.proofs.All.{In-all_lt}

-- a task placed earlier is placed later on too
pub at_more : (q : Placement) (ps : List Placement) (side : Side) (i : ℕ) → IsAt ps side i → IsAt (q ∷ ps) side i
at_more q ps side i a = (a.0, inr a.1, a.2, a.3)

cond_most : (b : Bool) (t : ℕ) → cond b t 0 ≤ t
cond_most true t = omega arith
cond_most false t = omega arith

module _ (kind : LineKind) (line : Line) (c : ℕ) where
  -- a later placement has no lesser station
  pub station_rises : (p : Placement) (ps : List Placement) → AreRanked kind line c (p ∷ ps)
      → station_of ps ≤ p.place.station
  station_rises p ps r = elim (r.0.station) [
    | inl e ↦ omega (arith, e)
    | inr n ↦ omega (arith, n.0)
  ]

  -- no placement has a station above the last one's, or below the first
  pub station_last : (ps : List Placement) → AreRanked kind line c ps → (q : Placement) → Has ps q
      → q.place.station ≤ station_of ps
  station_last [] r q h = absurd h
  station_last (p ∷ ps) r q (inl e) = (let P : Placement → Type 0 = λ x. x.place.station ≤ p.place.station in
      subst P (sym e) (omega arith))
  station_last (p ∷ ps) r q (inr h) = omega (arith, station_last ps r.1 q h, station_rises p ps r)

  pub station_some : (ps : List Placement) → AreRanked kind line c ps → 1 ≤ station_of ps
  station_some [] r = omega arith
  station_some (p ∷ ps) r = omega (arith, station_some ps r.1, station_rises p ps r)

  pub station_first : (ps : List Placement) → AreRanked kind line c ps → (q : Placement) → Has ps q
      → 1 ≤ q.place.station
  station_first [] r q h = absurd h
  station_first (p ∷ ps) r q (inl e) = (let P : Placement → Type 0 = λ x. 1 ≤ x.place.station in
      subst P (sym e) (station_some (p ∷ ps) r))
  station_first (p ∷ ps) r q (inr h) = station_first ps r.1 q h

  pub side_right : (ps : List Placement) → AreRanked kind line c ps → (q : Placement) → Has ps q
      → IsSide kind q.place.side
  side_right [] r q h = absurd h
  side_right (p ∷ ps) r q (inl e) = (let P : Placement → Type 0 = λ x. IsSide kind x.place.side in
      subst P (sym e) r.0.may.side)
  side_right (p ∷ ps) r q (inr h) = side_right ps r.1 q h

  -- a task has one placement
  pub placed_once : (ps : List Placement) → AreRanked kind line c ps → (p q : Placement) → Has ps p → Has ps q
      → p.task ≡ q.task → p ≡ q
  placed_once [] r p q h k e = absurd h
  placed_once (x ∷ ps) r p q (inl a) (inl b) e = a ∙ sym b
  placed_once (x ∷ ps) r p q (inl a) (inr k) e = absurd (r.0.may.new q k (sym e ∙ ap (λ y. y.task) a))
  placed_once (x ∷ ps) r p q (inr h) (inl b) e = absurd (r.0.may.new p h (e ∙ ap (λ y. y.task) b))
  placed_once (x ∷ ps) r p q (inr h) (inr k) e = placed_once ps r.1 p q h k e

  -- what is before a task in front is in front, at no later station
  ready_front : (ps : List Placement) → (p : Placement) → p.place.side ≡ Front → IsReady line ps p.task p.place.side
      → (i : ℕ) → Before line i p.task → IsAt ps Front i
  ready_front ps p e h i b = (let P : Side → Type 0 = λ s. IsReady line ps p.task s in let k : (j : ℕ)
      → Before line j p.task → IsAt ps Front j = subst P e h in k i b)

  ready_back : (ps : List Placement) → (p : Placement) → p.place.side ≡ Back → IsReady line ps p.task p.place.side
      → (i : ℕ) → Before line p.task i → IsAt ps Back i
  ready_back ps p e h i b = (let P : Side → Type 0 = λ s. IsReady line ps p.task s in let k : (j : ℕ)
      → Before line p.task j → IsAt ps Back j = subst P e h in k i b)

  pub front_closed : (ps : List Placement) → AreRanked kind line c ps → (q : Placement) → Has ps q
      → q.place.side ≡ Front → (i : ℕ) → Before line i q.task
      → (p : Placement) × Has ps p × (p.task ≡ i) × (p.place.side ≡ Front) × (p.place.station ≤ q.place.station)
  front_closed [] r q h e i b = absurd h
  front_closed (x ∷ ps) r q (inl a) e i b =
      let B : Placement → Type 0 = λ y. Before line i y.task in
      let at : IsAt ps Front i = ready_front ps x (ap (λ y. y.place.side) (sym a) ∙ e) r.0.may.ready i (subst B a b) in
      let S : Placement → Type 0 = λ y. at.0.place.station ≤ y.place.station in
      (at.0, inr at.1, at.2, at.3, subst S (sym a) (omega (arith, station_last ps r.1 at.0 at.1, station_rises x ps r)))
  front_closed (x ∷ ps) r q (inr h) e i b =
      let f = front_closed ps r.1 q h e i b in
      (f.0, inr f.1, f.2, f.3, f.4)

  -- what is after a task at the back is at the back, at no later station
  pub back_closed : (ps : List Placement) → AreRanked kind line c ps → (q : Placement) → Has ps q → q.place.side ≡ Back
      → (i : ℕ) → Before line q.task i
      → (p : Placement) × Has ps p × (p.task ≡ i) × (p.place.side ≡ Back) × (p.place.station ≤ q.place.station)
  back_closed [] r q h e i b = absurd h
  back_closed (x ∷ ps) r q (inl a) e i b =
      let B : Placement → Type 0 = λ y. Before line y.task i in
      let at : IsAt ps Back i = ready_back ps x (ap (λ y. y.place.side) (sym a) ∙ e) r.0.may.ready i (subst B a b) in
      let S : Placement → Type 0 = λ y. at.0.place.station ≤ y.place.station in
      (at.0, inr at.1, at.2, at.3, subst S (sym a) (omega (arith, station_last ps r.1 at.0 at.1, station_rises x ps r)))
  back_closed (x ∷ ps) r q (inr h) e i b =
      let f = back_closed ps r.1 q h e i b in
      (f.0, inr f.1, f.2, f.3, f.4)

  -- no station has more time than the cycle
  pub placed_fits : (ps : List Placement) → AreRanked kind line c ps → (s : ℕ) → time_placed line ps s ≤ c
  placed_fits [] r s = omega arith
  placed_fits (p ∷ ps) r s = elim (cases_eq p.place.station s) [
    | inl e ↦
        let t : cond (nat_eq p.place.station s) (time line p.task) 0 ≤ time line p.task =
        cond_most (nat_eq p.place.station s) (time line p.task) in
        let T : ℕ → Type 0 = λ k. time_placed line ps k + time line p.task ≤ c in
        omega (arith, t, subst T e r.0.may.fits)
    | inr d ↦
        let z : cond (nat_eq p.place.station s) (time line p.task) 0 ≡ 0 =
        ap {B = ℕ} (λ b. cond b (time line p.task) 0) (ne_eqb p.place.station s d) in
        omega (arith, z, placed_fits ps r.1 s)
  ]

  -- no two tasks of a station are apart
  pub placed_parted : ((i j : ℕ) → Apart line i j → Apart line j i) → ((i : ℕ) → Apart line i i → ⊥)
      → (ps : List Placement) → AreRanked kind line c ps → (p q : Placement) → Has ps p → Has ps q
      → p.place.station ≡ q.place.station → Apart line p.task q.task → ⊥
  placed_parted both two [] r p q h k e a = absurd h
  placed_parted both two (x ∷ ps) r p q (inl u) (inl v) e a =
      (let P : ℕ → Type 0 = λ i. Apart line i q.task in two q.task (subst P (ap (λ y. y.task) (u ∙ sym v)) a))
  placed_parted both two (x ∷ ps) r p q (inl u) (inr k) e a =
      let P : Placement → Type 0 = λ y. Apart line y.task q.task in
      r.0.may.parted q k (sym e ∙ ap (λ y. y.place.station) u) (both x.task q.task (subst P u a))
  placed_parted both two (x ∷ ps) r p q (inr h) (inl v) e a =
      let P : Placement → Type 0 = λ y. Apart line p.task y.task in
      r.0.may.parted p h (e ∙ ap (λ y. y.place.station) v) (subst P v a)
  placed_parted both two (x ∷ ps) r p q (inr h) (inr k) e a = placed_parted both two ps r.1 p q h k e a

-- the task is of a placement that passes the test
abbrev pub picks : (Placement → Bool) → List Placement → ℕ → Bool
picks f [] i = false
picks f (p ∷ ps) i = (nat_eq p.task i && f p) || picks f ps i

-- the weights of the placements that pass the test
abbrev pub weight_of : Line → (ℕ → ℕ) → (Placement → Bool) → List Placement → ℕ
weight_of line w f [] = 0
weight_of line w f (p ∷ ps) = cond (f p) (w (time line p.task)) 0 + weight_of line w f ps

pub pick_has : (f : Placement → Bool) (ps : List Placement) (i : ℕ) → picks f ps i ≡ true
    → (p : Placement) × Has ps p × (p.task ≡ i) × (f p ≡ true)
pick_has f [] i e = absurd (false≢true e)
pick_has f (x ∷ ps) i e = elim (or_cases (nat_eq x.task i && f x) (picks f ps i) e) [
  | inl a ↦ (let q : (nat_eq x.task i ≡ true) × (f x ≡ true) = and_parts (nat_eq x.task i) (f x) a in
      (x, inl refl, eqb-true x.task i q.0, q.1))
  | inr b ↦ (let q = pick_has f ps i b in (q.0, inr q.1, q.2, q.3))
]

pub has_pick : (f : Placement → Bool) (ps : List Placement) (i : ℕ) (p : Placement) → Has ps p → p.task ≡ i → f p ≡ true
    → picks f ps i ≡ true
has_pick f [] i p h t e = absurd h
has_pick f (x ∷ ps) i p (inl a) t e =
    let E : ℕ → Type 0 = λ k. nat_eq k i ≡ true in
    or_left (nat_eq x.task i && f x) (picks f ps i) (and_from (nat_eq x.task i) (f x)
    (eq-eqb x.task i (ap (λ y. y.task) (sym a) ∙ t)) (ap f (sym a) ∙ e))
has_pick f (x ∷ ps) i p (inr h) t e = or_right (nat_eq x.task i && f x) (picks f ps i) (has_pick f ps i p h t e)

pub or_none : (b : Bool) (c : Bool) → c ≡ false → ((true && b) || c) ≡ b
or_none true c e = refl
or_none false c e = e

module _ (kind : LineKind) (line : Line) (c : ℕ) (w : ℕ → ℕ) (f : Placement → Bool) where
  none_yet : (x : Placement) (ps : List Placement) → ComesNext kind line c ps x → picks f ps x.task ≡ false
  none_yet x ps n = elim (cases_Bool (picks f ps x.task)) [
    | inl y ↦ (let q = pick_has f ps x.task y in absurd (n.may.new q.0 q.1 q.2))
    | inr z ↦ z
  ]

  -- the tasks of the placements weigh what the placements weigh
  pub weigh-picks : (ps : List Placement) → AreRanked kind line c ps
      → weigh w (picks f ps) line.times ≡ weight_of line w f ps
  weigh-picks [] r = weigh-none w (λ i. false) (λ i. refl) line.times
  weigh-picks (x ∷ ps) r =
      let none : picks f ps x.task ≡ false = none_yet x ps r.0 in
      let others : (i : ℕ) → (i ≡ x.task → ⊥) → picks f (x ∷ ps) i ≡ picks f ps i =
      λ i n. ap (λ b. (b && f x) || picks f ps i) (ne_eqb x.task i (λ e. n (sym e))) in
      let here : picks f (x ∷ ps) x.task ≡ f x = ap (λ b. (b && f x) || picks f ps x.task) (eq-eqb x.task x.task refl)
      ∙ or_none (f x) (picks f ps x.task) none in
      let more : weigh w (picks f (x ∷ ps)) line.times ≡ weigh w (picks f ps) line.times + cond
      (picks f (x ∷ ps) x.task) (w (get_or line.times x.task 0)) 0 =
      weigh-more w (picks f (x ∷ ps)) (picks f ps) x.task none others line.times r.0.may.task in
      let h : cond (picks f (x ∷ ps) x.task) (w (get_or line.times x.task 0)) 0
      ≡ cond (f x) (w (get_or line.times x.task 0)) 0 = ap (λ b. cond b (w (get_or line.times x.task 0)) 0) here in
      omega (arith, more, h, weigh-picks ps r.1)

all_weigh : (line : Line) (ps : List Placement) → weight_of line (λ t. 1) (λ p. true) ps ≡ length ps
all_weigh line [] = refl
all_weigh line (p ∷ ps) = omega (arith, all_weigh line ps)

time_weigh : (line : Line) (ps : List Placement) (s : ℕ) → weight_of line (λ t. t) (λ p. nat_eq p.place.station s) ps
    ≡ time_placed line ps s
time_weigh line [] s = refl
time_weigh line (p ∷ ps) s = omega (arith, time_weigh line ps s)

module _ (kind : LineKind) (line : Line) (c : ℕ) where
  -- there are no more placements than tasks
  pub placed_few : (ps : List Placement) → AreRanked kind line c ps → length ps ≤ tasks line
  placed_few ps r = omega (
    arith,
    weigh-picks kind line c (λ t. 1) (λ p. true) ps r,
    all_weigh line ps,
    weigh-most (λ t. 1) (picks (λ p. true) ps) 1 line.times (λ i l. omega arith),
  )

  -- a placement at the empty station could stand at the empty one before it
  first_station : (p : Placement) → ComesNext kind line c [] p → p.place.station ≡ 1
  first_station p n = elim n.station [
    | inl e ↦ e
    | inr g ↦ (let q : Placement = record { task = p.task; place = record { station = 1; side = p.place.side } } in
        absurd (g.1 q refl (record {
          task = n.may.task;
          new = λ x h. absurd h;
          side = n.may.side;
          ready = n.may.ready;
          fits = omega (arith, n.may.fits);
          parted = λ x h. absurd h;
        })))
  ]

  -- each station up to the last one has a placement
  pub station_few : (p : Placement) (ps : List Placement) → AreRanked kind line c (p ∷ ps)
      → p.place.station ≤ length (p ∷ ps)
  station_few p [] r = omega (arith, first_station p r.0)
  station_few p (q ∷ ps) r = elim r.0.station [
    | inl e ↦ omega (arith, e, station_few q ps r.1)
    | inr n ↦ omega (arith, n.0, station_few q ps r.1)
  ]

  pub stations_few : (ps : List Placement) → AreRanked kind line c ps → 0 < tasks line → station_of ps ≤ tasks line
  stations_few [] r some = omega (arith, some)
  stations_few (p ∷ ps) r some = omega (arith, station_few p ps r, placed_few (p ∷ ps) r)

-- of a ranked balance: each task's place is that of its placement
module _ (kind : LineKind) (line : Line) (c : ℕ) (b : Assignment) (is : IsLine line)
    (h : IsRankedBalance kind line c b) where
  seat_is : (p : Placement) (i : ℕ) → Has h.placed p → p.task ≡ i → seat b.place i ≡ p.place
  seat_is p i m e = (let P : ℕ → Type 0 = λ k. seat b.place k ≡ p.place in subst P e (h.seats p m))

  placement : (i : ℕ) → In (all_tasks line) i → (p : Placement) × Has h.placed p × (p.task ≡ i)
      × (seat b.place i ≡ p.place)
  placement i m = (let a = h.all i (In-all_lt line i m) in (a.0, a.1, a.2, seat_is a.0 i a.1 a.2))

  -- the earlier of two tasks stands in front of a later one that stands in front, and at no later station
  keeps_front : (i j : ℕ) → In (all_tasks line) j → Before line i j → (seat b.place j).side ≡ Front
      → ((seat b.place i).side ≡ Front) × ((seat b.place i).station ≤ (seat b.place j).station)
  keeps_front i j m before e =
      let q = placement j m in
      let B : ℕ → Type 0 = λ k. Before line i k in
      let f = front_closed kind line c h.placed h.ranked q.0 q.1 (ap (λ s. s.side) (sym q.3) ∙ e) i
      (subst B (sym q.2) before) in
      let s : seat b.place i ≡ f.0.place = seat_is f.0 i f.1 f.2 in
      (ap (λ x. x.side) s ∙ f.3, omega (arith, f.4, ap (λ x. x.station) s, ap (λ x. x.station) q.3))

  keeps_back : (i j : ℕ) → In (all_tasks line) i → Before line i j → (seat b.place i).side ≡ Back
      → ((seat b.place j).side ≡ Back) × ((seat b.place j).station ≤ (seat b.place i).station)
  keeps_back i j m before e =
      let q = placement i m in
      let B : ℕ → Type 0 = λ k. Before line k j in
      let f = back_closed kind line c h.placed h.ranked q.0 q.1 (ap (λ s. s.side) (sym q.3) ∙ e) j
      (subst B (sym q.2) before) in
      let s : seat b.place j ≡ f.0.place = seat_is f.0 j f.1 f.2 in
      (ap (λ x. x.side) s ∙ f.3, omega (arith, f.4, ap (λ x. x.station) s, ap (λ x. x.station) q.3))

  side_of : (i : ℕ) → In (all_tasks line) i → IsSide kind (seat b.place i).side
  side_of i m =
      let q = placement i m in
      let P : Seatplace → Type 0 = λ s. IsSide kind s.side in
      subst P (sym q.3) (side_right kind line c h.placed h.ranked q.0 q.1)

  time_fits : (s : ℕ) → time_at line (all_tasks line) (seat b.place) s ≤ c
  time_fits s =
      let f : Placement → Bool = λ p. nat_eq p.place.station s in
      let at : (i : ℕ) → (has (all_tasks line) i && nat_eq (seat b.place i).station s) ≡ true
      → picks f h.placed i ≡ true = λ i e.
      (let q : (has (all_tasks line) i ≡ true) × (nat_eq (seat b.place i).station s ≡ true) =
      and_parts (has (all_tasks line) i) (nat_eq (seat b.place i).station s) e in
      let p = placement i q.0 in
      has_pick f h.placed i p.0 p.1 p.2 (ap (λ x. nat_eq x.station s) (sym p.3) ∙ q.1)) in
      omega (
        arith,
        weigh-le (λ t. t) (λ i. has (all_tasks line) i && nat_eq (seat b.place i).station s) (picks f h.placed) at
            line.times,
        weigh-picks kind line c (λ t. t) f h.placed h.ranked,
        time_weigh line h.placed s,
        placed_fits kind line c h.placed h.ranked s,
      )

keeps_of : (kind : LineKind) (line : Line) (c : ℕ) (b : Assignment) (is : IsLine line)
    (h : IsRankedBalance kind line c b) → (i j : ℕ) → In (all_tasks line) i → In (all_tasks line) j → Before line i j
    → Keeps kind (seat b.place i) (seat b.place j)
keeps_of Straight line c b is h i j mi mj before = (keeps_front Straight line c b is h i j mj before
    (side_of Straight line c b is h j mj)).1
keeps_of U line c b is h i j mi mj before = record {
  front = keeps_front U line c b is h i j mj before;
  back = keeps_back U line c b is h i j mi before;
}

-- a ranked balance is a right balance, with at most one station per task
pub ranked_right : (kind : LineKind) (line : Line) (c : ℕ) (b : Assignment) → IsLine line
    → IsRankedBalance kind line c b → IsRight kind line c b × (b.stations ≤ tasks line)
ranked_right kind line c b is h = (
  record {
    each = h.each;
    sides = side_of kind line c b is h;
    balance = record {
      first = λ i m. (let p = placement kind line c b is h i m in
          omega (arith, ap (λ x. x.station) p.3, station_first kind line c h.placed h.ranked p.0 p.1));
      last = λ i m. (let p = placement kind line c b is h i m in
          omega (arith, h.stations, ap (λ x. x.station) p.3, station_last kind line c h.placed h.ranked p.0 p.1));
      keeps = keeps_of kind line c b is h;
      parted = λ i j mi mj a e. (let p = placement kind line c b is h i mi in
          let q = placement kind line c b is h j mj in
          let P : ℕ → Type 0 = λ k. Apart line k j in
          let Q : ℕ → Type 0 = λ k. Apart line p.0.task k in
          placed_parted kind line c is.both_ways is.of_two h.placed h.ranked p.0 q.0 p.1 q.1
          (ap (λ x. x.station) (sym p.3) ∙ e ∙ ap (λ x. x.station) q.3) (subst Q (sym q.2) (subst P (sym p.2) a)));
      fits = time_fits kind line c b is h;
    };
  },
  omega (arith, h.stations, stations_few kind line c h.placed h.ranked is.some),
)
