-- The line at the start, with the next station, and at the end.
use Rattle.std.proofs.Common.{◌≡◌, ◌≢◌, ℕ, zero, suc, ◌+◌, ◌-◌, ◌*◌, ◌<◌, ◌≤◌, Bool, true, false, cond, nat_eq, List}
use Rattle.std.proofs.Common.{[], ◌∷◌, length, get_or, set, replicate, refl, sym, ap, ◌∙◌, subst, ◌⊎◌, inl, inr, arith}
use Rattle.std.proofs.lemmas.Bool.{false≢true, cases_eq, cases_lt, cases_Bool}
use Rattle.std.proofs.lemmas.Bool.Decides.{nat_tests}
use Rattle.std.proofs.lemmas.List.{length-replicate}
use Rattle.line_instance.specs.Truths.{In, union}
use Rattle.line_instance.proofs.Members.{In-empty, In-union_left, In-union_right, In-union_cases, members, members-set}
use Rattle.line_instance.proofs.Members.{members-le}
use Rattle.line_instance.specs.Line.{Line, IsLine, IsRanked, Before, tasks, time, at_rank, has}
use Rattle.line_rules.specs.Bounds.{IsTooLong}
use Rattle.line_rules.specs.Ranked.{Placement, Has, time_placed, station_of, IsClosed, IsRankedBalance}
use Rattle.line_rules.specs.declared.types.LineKind.{LineKind}
use Rattle.line_rules.specs.declared.types.Side.{Side}
use Rattle.line_rules.specs.declared.types.Side.TheVariants.{Front, Back}
use Rattle.line_rules.specs.declared.types.Seatplace.{Seatplace}
use Rattle.line_rules.proofs.Ranks.{station_last, stations_few, back_closed}
use Rattle.first_fit.specs.declared.filling.Choice.{Choice as Pick}
use Rattle.first_fit.specs.declared.filling.Filling.{Filling as Filled}
use Rattle.first_fit.specs.inner.Filling.{MayJoin, with_front, with_back, joined, started, next_station}
use Rattle.first_fit.proofs.Fills.{IsFilling, closed_of, length-with_front, length-with_back}
use Rattle.first_fit.proofs.Joins.{side_front}
use Rattle.line_instance.proofs.Unique.{not_in}

pub at_start : (kind : LineKind) (line : Line) (c : ℕ) (place : List Seatplace) → length place ≡ tasks line
    → IsFilling kind line c (started c) place
at_start kind line c place each = record {
  placed = [];
  ranked = tt;
  opened = inl refl;
  waits = λ e all. absurd (omega (arith, e));
  front_truths = length-replicate 1024 false;
  back_truths = length-replicate 1024 false;
  here_truths = length-replicate 1024 false;
  front = λ i m. absurd (In-empty 1024 i m);
  front_all = λ i a. absurd a.1;
  back = λ i m. absurd (In-empty 1024 i m);
  back_all = λ i a. absurd a.1;
  here = λ i m. absurd (In-empty 1024 i m);
  here_all = λ p h e. absurd h;
  room = omega arith;
  each = each;
  seats = λ p h. absurd h;
}

not_equal : (a b : ℕ) → a ≢ b → nat_eq a b ≡ false
not_equal a b n = grind (arith, nat_tests, n)

time_none : (line : Line) (ps : List Placement) (s : ℕ) → ((p : Placement) → Has ps p → p.place.station ≡ s → ⊥)
    → time_placed line ps s ≡ 0
time_none line [] s n = refl
time_none line (p ∷ ps) s n =
    let e : cond (nat_eq p.place.station s) (time line p.task) 0 ≡ 0 =
    ap {B = ℕ} (λ b. cond b (time line p.task) 0) (not_equal p.place.station s (n p (inl refl))) in
    omega (arith, e, time_none line ps s (λ q h. n q (inr h)))

members_some : (s : List Bool) (i : ℕ) → In s i → 0 < members s
unfolding members
members_some [] i m = absurd (false≢true m)
members_some (true ∷ bs) i m = omega arith
members_some (false ∷ bs) zero m = absurd (false≢true m)
members_some (false ∷ bs) (suc i) m = omega (arith, members_some bs i m)

members_find : (s : List Bool) → members s ≢ 0 → (i : ℕ) × In s i
unfolding members
members_find [] n = absurd (n refl)
members_find (true ∷ bs) n = (0, refl)
members_find (false ∷ bs) n = (let q = members_find bs (λ e. n (omega (arith, e))) in (suc q.0, q.1))

pub members_none : (n : ℕ) → members (replicate n false) ≡ 0
unfolding members
members_none zero = refl
members_none (suc n) = omega (arith, members_none n)

module _ (kind : LineKind) (line : Line) (c : ℕ) (f : Filled) (place : List Seatplace) (is : IsLine line)
    (ranks : IsRanked line) (h : IsFilling kind line c f place)
    (short : (i : ℕ) → IsTooLong line c i → ⊥) (none : (a : Pick) → MayJoin kind line f a → ⊥) where
  pub station_small : f.station ≤ tasks line + 1
  station_small = elim h.opened [
    | inl e ↦ omega (arith, e, stations_few kind line c h.placed h.ranked is.some)
    | inr q ↦ omega (arith, q.0, stations_few kind line c h.placed h.ranked is.some)
  ]

  module _ (bare : (i : ℕ) → In f.here i → ⊥) where
    whole : f.left ≡ c
    whole = omega (arith, h.room, time_none line h.placed f.station (λ p k e. bare p.task (h.here_all p k e)))

    -- where nothing may join an empty station, all is placed
    below : (n k : ℕ) → k < n → k < tasks line → In f.front (at_rank line k) ⊎ In f.back (at_rank line k)
    below zero k l t = absurd (omega arith)
    below (suc n) k l t = elim (cases_Bool (has f.front (at_rank line k))) [
      | inl y ↦ inl y
      | inr nf ↦ elim (cases_Bool (has f.back (at_rank line k))) [
        | inl y ↦ inr y
        | inr nb ↦ absurd (none (record { task = at_rank line k; side = Front }) (record {
          task = ranks.task k t;
          front = λ x. false≢true (sym nf ∙ x);
          back = λ x. false≢true (sym nb ∙ x);
          side = side_front kind Front refl;
          ready = λ j b. (let r : (m : ℕ) × (m < tasks line) × (at_rank line m ≡ j) =
              ranks.rank j ((is.before (at_rank line k) (ranks.task k t)).tasks j b) in
              let B : ℕ → Type 0 = λ x. Before line x (at_rank line k) in
              let F : ℕ → Type 0 = λ x. In f.front x in
              let up : r.0 < k = ranks.rises r.0 k r.1 t (subst B (sym r.2) b) in
              elim (below n r.0 (omega (arith, up)) r.1) [
                | inl y ↦ subst F r.2 y
                | inr y ↦ (let a = h.back (at_rank line r.0) y in
                    let A : ℕ → Type 0 = λ x. Before line x (at_rank line k) in
                    let q = back_closed kind line c h.placed h.ranked a.0 a.1 a.3 (at_rank line k)
                    (subst A (sym r.2 ∙ sym a.2) b) in
                    absurd (false≢true (sym nb ∙ h.back_all (at_rank line k) (q.0, q.1, q.2, q.3))))
              ]);
          fits = elim (cases_lt c (time line (at_rank line k))) [
            | inl long ↦ absurd (short (at_rank line k) (ranks.task k t, long))
            | inr g ↦ omega (arith, whole)
          ];
          parted = λ j m a. bare j m;
        }))
      ]
    ]

    all_placed : (i : ℕ) → i < tasks line → In (union f.front f.back) i
    all_placed i l =
        let r : (k : ℕ) × (k < tasks line) × (at_rank line k ≡ i) = ranks.rank i l in
        let P : ℕ → Type 0 = In (union f.front f.back) in
        subst P r.2 (elim (below (suc r.0) r.0 (omega arith) r.1) [
          | inl y ↦ In-union_left f.front f.back (at_rank line r.0) y
          | inr y ↦ In-union_right f.front f.back (at_rank line r.0) y
        ])

  -- so where something isn't placed, the station isn't empty
  pub used : (((i : ℕ) → i < tasks line → In (union f.front f.back) i) → ⊥) → (i : ℕ) × In f.here i
  used not_all = elim (cases_eq (members f.here) 0) [
    | inl e ↦ absurd (not_all (all_placed (λ i m. absurd (omega (arith, e, members_some f.here i m)))))
    | inr n ↦ members_find f.here n
  ]

  module _ (some : (i : ℕ) × In f.here i) (not_all : ((i : ℕ) → i < tasks line → In (union f.front f.back) i) → ⊥) where
    current : f.station ≡ station_of h.placed
    current = elim h.opened [
      | inl e ↦ e
      | inr q ↦ (let p = h.here some.0 some.1 in absurd (omega
          (arith, q.0, p.3, station_last kind line c h.placed h.ranked p.0 p.1)))
    ]

    pub further : IsFilling kind line c (next_station f c) place
    further = record {
      placed = h.placed;
      ranked = h.ranked;
      opened = inr (
        omega (arith, current),
        (let P : ℕ → Type 0 = IsClosed kind line c h.placed in
            subst P current (closed_of kind line c f place is h none)),
      );
      waits = λ e. not_all;
      front_truths = h.front_truths;
      back_truths = h.back_truths;
      here_truths = length-replicate 1024 false;
      front = h.front;
      front_all = h.front_all;
      back = h.back;
      back_all = h.back_all;
      here = λ i m. absurd (In-empty 1024 i m);
      here_all = λ p k e. absurd (omega (arith, e, current, station_last kind line c h.placed h.ranked p k));
      room = omega (
        arith,
        time_none line h.placed (f.station + 1)
            (λ p k e. absurd (omega (arith, e, current, station_last kind line c h.placed h.ranked p k))),
      );
      each = h.each;
      seats = h.seats;
    }

    pub flag_falls : cond {A = ℕ} (nat_eq (members f.here) 0) 0 1 ≡ 1
    flag_falls = ap (λ b. cond {A = ℕ} b 0 1) (not_equal (members f.here) 0
        (λ e. absurd (omega (arith, e, members_some f.here some.0 some.1))))

-- once all is placed, the placements are the ranked balance
module _ (kind : LineKind) (line : Line) (c : ℕ) (f : Filled) (place : List Seatplace)
    (h : IsFilling kind line c f place)
    (all : (i : ℕ) → i < tasks line → In (union f.front f.back) i) where
  has_place : (i : ℕ) → i < tasks line → (p : Placement) × Has h.placed p × (p.task ≡ i)
  has_place i l = elim (In-union_cases f.front f.back i (all i l)) [
    | inl m ↦ (let a = h.front i m in (a.0, a.1, a.2))
    | inr m ↦ (let a = h.back i m in (a.0, a.1, a.2))
  ]

  pub finished : IsRankedBalance kind line c (record { stations = f.station; place = place })
  finished = record {
    placed = h.placed;
    ranked = h.ranked;
    all = has_place;
    each = h.each;
    seats = h.seats;
    stations = elim h.opened [
      | inl e ↦ e
      | inr q ↦ absurd (h.waits q.0 all)
    ];
  }

-- one task more is placed
pub members_join : (side : Side) (front back : List Bool) (t : ℕ) → length front ≡ 1024 → length back ≡ 1024 → t < 1024
    → get_or front t false ≡ false → get_or back t false ≡ false
    → members (with_front side front t) + members (with_back side back t) ≡ suc (members front + members back)
members_join Front front back t lf lb l nf nb = omega (arith, members-set front t (omega (arith, lf)) nf)
members_join Back front back t lf lb l nf nb = omega (arith, members-set back t (omega (arith, lb)) nb)

pub flag_most : (b : Bool) → cond {A = ℕ} b 0 1 ≤ 1
flag_most true = omega arith
flag_most false = omega arith

-- what is left to do: two for each task that isn't placed, and one for a station that isn't empty
abbrev pub work : Filled → ℕ
work f = 2 * (2048 - (members f.front + members f.back)) + cond (nat_eq (members f.here) 0) 0 1

pub work_joins : (kind : LineKind) (line : Line) (c : ℕ) (f : Filled) (place : List Seatplace) (a : Pick) (t : ℕ)
    → IsLine line → IsFilling kind line c f place → MayJoin kind line f a → work (joined f a t) < work f
work_joins kind line c f place a t is h m =
    let small : a.task < 1024 = omega (arith, m.task, is.small) in
    let more = members_join a.side f.front f.back a.task h.front_truths h.back_truths small
    (not_in f.front a.task m.front) (not_in f.back a.task m.back) in
    let most : members (with_front a.side f.front a.task) + members (with_back a.side f.back a.task) ≤ 2048 =
    omega (
      arith,
      members-le (with_front a.side f.front a.task),
      members-le (with_back a.side f.back a.task),
      length-with_front a.side f.front a.task,
      length-with_back a.side f.back a.task,
      h.front_truths,
      h.back_truths,
    ) in
    omega (arith, more, most, flag_most (nat_eq (members (set f.here a.task true)) 0))

pub work_goes_on : (f : Filled) (c : ℕ) → cond {A = ℕ} (nat_eq (members f.here) 0) 0 1 ≡ 1
    → work (next_station f c) < work f
work_goes_on f c flag =
    let e : cond {A = ℕ} (nat_eq (members (replicate 1024 false)) 0) 0 1 ≡ 0 =
    ap (λ n. cond {A = ℕ} (nat_eq n 0) 0 1) (members_none 1024) in
    omega (arith, flag, e)
