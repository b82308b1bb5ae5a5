-- The line that is being filled holds ranked placements.
use Rattle.std.proofs.Common.{◌≡◌, ℕ, suc, ◌+◌, ◌<◌, ◌≤◌, Bool, true, cond}
use Rattle.std.proofs.Common.{nat_eq, List, ◌∷◌, length, set, refl, sym, ap, ◌∙◌, subst, ◌⊎◌}
use Rattle.std.proofs.Common.{inl, inr, arith}
use Rattle.std.proofs.lemmas.Bool.Decides.{nat_tests}
use Rattle.std.proofs.lemmas.List.{get_or-set_same, get_or-set_other, length-set}
use Rattle.line_instance.specs.Truths.{In, union}
use Rattle.line_instance.proofs.Members.{In-set_same, In-set_kept, In-set_cases}
use Rattle.line_instance.specs.Line.{Line, IsLine, Apart, tasks, time}
use Rattle.line_rules.specs.Balance.{seat}
use Rattle.line_rules.specs.Ranked.{Placement, Has, IsAt, time_placed, IsReady, MayBePlaced, station_of}
use Rattle.line_rules.specs.Ranked.{IsClosed, ComesNext, AreRanked}
use Rattle.line_rules.specs.declared.types.LineKind.{LineKind}
use Rattle.line_rules.specs.declared.types.Side.{Side}
use Rattle.line_rules.specs.declared.types.Side.TheVariants.{Front, Back}
use Rattle.line_rules.specs.declared.types.Seatplace.{Seatplace}
use Rattle.first_fit.specs.declared.filling.Choice.{Choice as Pick}
use Rattle.first_fit.specs.declared.filling.Filling.{Filling as Filled}
use Rattle.first_fit.specs.inner.Filling.{MayStand, MayJoin, with_front, with_back, joined}
use Rattle.first_fit.specs.inner.Picked.{IsFirst}

-- The sets, the station, the time that is left of it and the places are those of ranked placements.
pub record IsFilling (kind : LineKind) (line : Line) (c : ℕ) (f : Filled) (place : List Seatplace) : Type 0 where
  pub placed : List Placement
  pub ranked : AreRanked kind line c placed
  pub opened : (f.station ≡ station_of placed) ⊎ ((f.station ≡ suc (station_of placed))
      × IsClosed kind line c placed (station_of placed))
  -- a new station is opened only where something isn't placed
  pub waits : f.station ≡ suc (station_of placed) → ((i : ℕ) → i < tasks line → In (union f.front f.back) i) → ⊥
  pub front_truths : length f.front ≡ 1024
  pub back_truths : length f.back ≡ 1024
  pub here_truths : length f.here ≡ 1024
  pub front : (i : ℕ) → In f.front i → IsAt placed Front i
  pub front_all : (i : ℕ) → IsAt placed Front i → In f.front i
  pub back : (i : ℕ) → In f.back i → IsAt placed Back i
  pub back_all : (i : ℕ) → IsAt placed Back i → In f.back i
  pub here : (i : ℕ) → In f.here i → (p : Placement) × Has placed p × (p.task ≡ i) × (p.place.station ≡ f.station)
  pub here_all : (p : Placement) → Has placed p → p.place.station ≡ f.station → In f.here p.task
  pub room : time_placed line placed f.station + f.left ≡ c
  pub each : length place ≡ tasks line
  pub seats : (p : Placement) → Has placed p → seat place p.task ≡ p.place

-- a choice as a placement at a station
abbrev pub placement_of : Pick → ℕ → Placement
placement_of a s = record { task = a.task; place = record { station = s; side = a.side } }

pub sides : (s : Side) → (s ≡ Front) ⊎ (s ≡ Back)
sides Front = inl refl
sides Back = inr refl

-- a placed task stands at the one side or the other
side_cases : (ps : List Placement) (p : Placement) → Has ps p → IsAt ps Front p.task ⊎ IsAt ps Back p.task
side_cases ps p h = elim (sides p.place.side) [
  | inl e ↦ inl (p, h, refl, e)
  | inr e ↦ inr (p, h, refl, e)
]

module _ (kind : LineKind) (line : Line) (c : ℕ) (f : Filled) (place : List Seatplace) (is : IsLine line)
    (h : IsFilling kind line c f place) where
  ready_of : (side : Side) (i : ℕ) → MayStand line f i side → IsReady line h.placed i side
  ready_of Front i r = λ j b. h.front j (r j b)
  ready_of Back i r = λ j b. h.back j (r j b)

  stand_of : (side : Side) (i : ℕ) → IsReady line h.placed i side → MayStand line f i side
  stand_of Front i r = λ j b. h.front_all j (r j b)
  stand_of Back i r = λ j b. h.back_all j (r j b)

  -- what may join may be placed at the station
  pub may_place : (a : Pick) → MayJoin kind line f a → MayBePlaced kind line c h.placed (placement_of a f.station)
  may_place a m = record {
    task = m.task;
    new = λ q k e. elim (side_cases h.placed q k) [
      | inl x ↦ (let P : ℕ → Type 0 = λ i. IsAt h.placed Front i in m.front (h.front_all a.task (subst P e x)))
      | inr x ↦ (let P : ℕ → Type 0 = λ i. IsAt h.placed Back i in m.back (h.back_all a.task (subst P e x)))
    ];
    side = m.side;
    ready = ready_of a.side a.task m.ready;
    fits = omega (arith, h.room, m.fits);
    parted = λ q k e. m.parted q.task (h.here_all q k e);
  }

  -- and what may be placed at the station may join
  pub place_may : (q : Placement) → q.place.station ≡ f.station → MayBePlaced kind line c h.placed q
      → MayJoin kind line f (record { task = q.task; side = q.place.side })
  place_may q e m = record {
    task = m.task;
    front = λ x. (let a = h.front q.task x in m.new a.0 a.1 a.2);
    back = λ x. (let a = h.back q.task x in m.new a.0 a.1 a.2);
    side = m.side;
    ready = stand_of q.place.side q.task m.ready;
    fits = (let P : ℕ → Type 0 = λ s. time_placed line h.placed s + time line q.task ≤ c in
        omega (arith, h.room, subst P e m.fits));
    parted = λ j x a. (let p = h.here j x in
        let P : ℕ → Type 0 = λ k. Apart line k q.task in
        m.parted p.0 p.1 (p.3 ∙ sym e) (subst P (sym p.2) a));
  }

  -- where nothing may join, nothing more may be placed at the station
  pub closed_of : ((a : Pick) → MayJoin kind line f a → ⊥) → IsClosed kind line c h.placed f.station
  closed_of none q e m = none (record { task = q.task; side = q.place.side }) (place_may q e m)

  pub next_of : (a : Pick) → IsFirst kind line f a → ComesNext kind line c h.placed (placement_of a f.station)
  next_of a first = record {
    may = may_place a first.may;
    first = λ q e m. first.first (record { task = q.task; side = q.place.side }) (place_may q e m);
    station = h.opened;
  }

in_set : (s : List Bool) (t i : ℕ) → length s ≡ 1024 → t < 1024 → i ≡ t → In (set s t true) i
in_set s t i l b e = (let P : ℕ → Type 0 = In (set s t true) in subst P (sym e) (In-set_same s t (omega (arith, l))))

other : Front ≡ Back → ⊥
other e = cc

-- the front after a task has joined is that of the placements
module _ (ps : List Placement) (p : Placement) (s : List Bool) (long : length s ≡ 1024) (small : p.task < 1024) where
  front_joins : (side : Side) → p.place.side ≡ side → ((i : ℕ) → In s i → IsAt ps Front i) → (i : ℕ)
      → In (with_front side s p.task) i → IsAt (p ∷ ps) Front i
  front_joins Front e from i m = elim (In-set_cases s p.task i m) [
    | inl o ↦ (let a = from i o in (a.0, inr a.1, a.2, a.3))
    | inr q ↦ (p, inl refl, sym q, e)
  ]
  front_joins Back e from i m = (let a = from i m in (a.0, inr a.1, a.2, a.3))

  front_joins_all : (side : Side) → p.place.side ≡ side → ((i : ℕ) → IsAt ps Front i → In s i) → (i : ℕ)
      → IsAt (p ∷ ps) Front i → In (with_front side s p.task) i
  front_joins_all Front e to i (q, inl u, t, d) = in_set s p.task i long small (sym t ∙ ap (λ x. x.task) u)
  front_joins_all Front e to i (q, inr k, t, d) = In-set_kept s p.task i (to i (q, k, t, d))
  front_joins_all Back e to i (q, inl u, t, d) = absurd (other (sym d ∙ ap (λ x. x.place.side) u ∙ e))
  front_joins_all Back e to i (q, inr k, t, d) = to i (q, k, t, d)

  back_joins : (side : Side) → p.place.side ≡ side → ((i : ℕ) → In s i → IsAt ps Back i) → (i : ℕ)
      → In (with_back side s p.task) i → IsAt (p ∷ ps) Back i
  back_joins Back e from i m = elim (In-set_cases s p.task i m) [
    | inl o ↦ (let a = from i o in (a.0, inr a.1, a.2, a.3))
    | inr q ↦ (p, inl refl, sym q, e)
  ]
  back_joins Front e from i m = (let a = from i m in (a.0, inr a.1, a.2, a.3))

  back_joins_all : (side : Side) → p.place.side ≡ side → ((i : ℕ) → IsAt ps Back i → In s i) → (i : ℕ)
      → IsAt (p ∷ ps) Back i → In (with_back side s p.task) i
  back_joins_all Back e to i (q, inl u, t, d) = in_set s p.task i long small (sym t ∙ ap (λ x. x.task) u)
  back_joins_all Back e to i (q, inr k, t, d) = In-set_kept s p.task i (to i (q, k, t, d))
  back_joins_all Front e to i (q, inl u, t, d) = absurd (other (sym e ∙ ap (λ x. x.place.side) (sym u) ∙ d))
  back_joins_all Front e to i (q, inr k, t, d) = to i (q, k, t, d)

pub length-with_front : (side : Side) (s : List Bool) (t : ℕ) → length (with_front side s t) ≡ length s
length-with_front Front s t = length-set s t true
length-with_front Back s t = refl

pub length-with_back : (side : Side) (s : List Bool) (t : ℕ) → length (with_back side s t) ≡ length s
length-with_back Front s t = refl
length-with_back Back s t = length-set s t true

stands_at : (s : ℕ) → nat_eq s s ≡ true
stands_at s = grind (arith, nat_tests)

module _ (kind : LineKind) (line : Line) (c : ℕ) (f : Filled) (place : List Seatplace) (is : IsLine line)
    (h : IsFilling kind line c f place) (a : Pick) (first : IsFirst kind line f a) where
  abbrev pub now : Placement
  now = placement_of a f.station

  small : a.task < 1024
  small = omega (arith, first.may.task, is.small)

  time_here : time_placed line (now ∷ h.placed) f.station ≡ time line a.task + time_placed line h.placed f.station
  time_here = (let e : cond (nat_eq f.station f.station) (time line a.task) 0 ≡ time line a.task =
      ap (λ b. cond b (time line a.task) 0) (stands_at f.station) in omega (arith, e))

  seats_kept : (p : Placement) → Has (now ∷ h.placed) p → seat (set place a.task now.place) p.task ≡ p.place
  seats_kept p (inl e) =
      let P : Placement → Type 0 = λ x. seat (set place a.task now.place) x.task ≡ x.place in
      subst P (sym e) (get_or-set_same place a.task now.place (record { station = 0; side = Front })
      (omega (arith, h.each, first.may.task)))
  seats_kept p (inr k) = get_or-set_other place a.task p.task now.place (record { station = 0; side = Front })
      (λ e. (may_place kind line c f place is h a first.may).new p k e) ∙ h.seats p k

  here_joins : (p : Placement) → Has (now ∷ h.placed) p → p.place.station ≡ f.station
      → In (set f.here a.task true) p.task
  here_joins p (inl u) e = in_set f.here a.task p.task h.here_truths small (ap (λ x. x.task) u)
  here_joins p (inr k) e = In-set_kept f.here a.task p.task (h.here_all p k e)

  -- a task has joined
  pub one_more : IsFilling kind line c (joined f a (time line a.task)) (set place a.task now.place)
  one_more = record {
    placed = now ∷ h.placed;
    ranked = (next_of kind line c f place is h a first, h.ranked);
    opened = inl refl;
    waits = λ e all. absurd (omega (arith, e));
    front_truths = length-with_front a.side f.front a.task ∙ h.front_truths;
    back_truths = length-with_back a.side f.back a.task ∙ h.back_truths;
    here_truths = length-set f.here a.task true ∙ h.here_truths;
    front = front_joins h.placed now f.front h.front_truths small a.side refl h.front;
    front_all = front_joins_all h.placed now f.front h.front_truths small a.side refl h.front_all;
    back = back_joins h.placed now f.back h.back_truths small a.side refl h.back;
    back_all = back_joins_all h.placed now f.back h.back_truths small a.side refl h.back_all;
    here = λ i m. elim (In-set_cases f.here a.task i m) [
      | inl o ↦ (let p = h.here i o in (p.0, inr p.1, p.2, p.3))
      | inr e ↦ (now, inl refl, sym e, refl)
    ];
    here_all = λ p k e. here_joins p k e;
    room = omega (arith, time_here, h.room, first.may.fits);
    each = length-set place a.task now.place ∙ h.each;
    seats = seats_kept;
  }
