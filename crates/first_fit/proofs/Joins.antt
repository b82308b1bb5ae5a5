-- What the test of a choice finds out, and the best of several choices.
use Rattle.std.proofs.Common.{◌≡◌, ℕ, ◌+◌, ◌<◌, ◌≤◌, Bool, cond, List}
use Rattle.std.proofs.Common.{Option, Some, None, refl, sym, ap, ◌∙◌, subst, ◌⊎◌, inl, inr, arith}
use Rattle.std.proofs.lemmas.Bool.{cases_lt, le-ltb, lt-ltb}
use Rattle.line_instance.specs.Truths.{In, meet, IsEmpty}
use Rattle.line_instance.proofs.Members.{In-meet, In-meet_parts}
use Rattle.line_instance.specs.Line.{Line, Before}
use Rattle.line_rules.specs.Balance.{IsSide}
use Rattle.line_rules.specs.Ranked.{weight, RanksFirst}
use Rattle.line_rules.specs.declared.types.LineKind.{LineKind}
use Rattle.line_rules.specs.declared.types.LineKind.TheVariants.{Straight, U}
use Rattle.line_rules.specs.declared.types.Side.{Side}
use Rattle.line_rules.specs.declared.types.Side.TheVariants.{Front, Back}
use Rattle.first_fit.specs.declared.filling.Choice.{Choice as Pick}
use Rattle.first_fit.specs.declared.filling.Filling.{Filling as Filled}
use Rattle.first_fit.specs.inner.Filling.{MayStand, MayJoin}
use Rattle.first_fit.specs.inner.Picked.{heavier, IsBetter}
use Rattle.first_fit.proofs.Fills.{sides}

other : Back ≡ Front → ⊥
other e = cc

pub meet_empty : (here row both : List Bool) → both ≡ meet here row → ((j : ℕ) → In here j → In row j → ⊥)
    → IsEmpty both
meet_empty here row both e none i m = (let P : List Bool → Type 0 = λ s. In s i in
    let q = In-meet_parts here row i (subst P e m) in none i q.0 q.1)

pub empty_meet : (here row both : List Bool) → both ≡ meet here row → IsEmpty both → (j : ℕ) → In here j → In row j → ⊥
empty_meet here row both e none j h r = (let P : List Bool → Type 0 = λ s. In s j in
    none j (subst P (sym e) (In-meet here row j h r)))

pub side_front : (kind : LineKind) (s : Side) → s ≡ Front → IsSide kind s
side_front Straight s e = e
side_front U s e = tt

pub side_u : (kind : LineKind) (s : Side) → kind ≡ U → IsSide kind s
side_u kind s e = (let P : LineKind → Type 0 = λ k. IsSide k s in subst P (sym e) tt)

pub side_straight : (kind : LineKind) (s : Side) → kind ≡ Straight → s ≡ Back → IsSide kind s → ⊥
side_straight kind s k b h =
    let P : LineKind → Type 0 = λ x. IsSide x s in
    let f : s ≡ Front = subst P k h in
    let e : Back ≡ Front = sym b ∙ f in
    other e

pub stand_front : (line : Line) (f : Filled) (i : ℕ) (s : Side) → s ≡ Front → ((j : ℕ) → Before line j i → In f.front j)
    → MayStand line f i s
stand_front line f i s e h = (let P : Side → Type 0 = λ x. MayStand line f i x in subst P (sym e) h)

pub front_stand : (line : Line) (f : Filled) (i : ℕ) (s : Side) → s ≡ Front → MayStand line f i s → (j : ℕ)
    → Before line j i → In f.front j
front_stand line f i s e h = (let P : Side → Type 0 = λ x. MayStand line f i x in let k : (j : ℕ) → Before line j i
    → In f.front j = subst P e h in k)

pub stand_back : (line : Line) (f : Filled) (i : ℕ) (s : Side) → s ≡ Back → ((j : ℕ) → Before line i j → In f.back j)
    → MayStand line f i s
stand_back line f i s e h = (let P : Side → Type 0 = λ x. MayStand line f i x in subst P (sym e) h)

pub back_stand : (line : Line) (f : Filled) (i : ℕ) (s : Side) → s ≡ Back → MayStand line f i s → (j : ℕ)
    → Before line i j → In f.back j
back_stand line f i s e h = (let P : Side → Type 0 = λ x. MayStand line f i x in let k : (j : ℕ) → Before line i j
    → In f.back j = subst P e h in k)

-- a was gone over before the choice of this task and side came
abbrev pub IsOver : ℕ → Side → Pick → Type 0
IsOver task side a = (a.task < task) ⊎ ((a.task ≡ task) × (side ≡ Back) × (a.side ≡ Front))

-- the best of the choices that may join and pass S, None where there is none
abbrev pub IsBestOf : LineKind → Line → Filled → (Pick → Type 0) → Option Pick → Type 0
IsBestOf kind line f S None = (a : Pick) → S a → MayJoin kind line f a → ⊥
IsBestOf kind line f S (Some b) = MayJoin kind line f b × S b
    × ((a : Pick) → S a → MayJoin kind line f a → RanksFirst line b.task b.side a.task a.side)

module _ (kind : LineKind) (line : Line) (f : Filled) (task : ℕ) (side : Side) where
  abbrev pub here : Pick
  here = record { task = task; side = side }

  -- what is gone over, with this choice
  abbrev pub OrHere : Pick → Type 0
  OrHere a = IsOver task side a ⊎ (a ≡ here)

  itself : RanksFirst line task side task side
  itself = inr (refl, inr (refl, inr refl))

  -- one that was gone over, and is no lighter, ranks first
  former : (b : Pick) → IsOver task side b → weight line task side ≤ weight line b.task b.side
      → RanksFirst line b.task b.side task side
  former b over l = elim (cases_lt (weight line task side) (weight line b.task b.side)) [
    | inl less ↦ inl less
    | inr more ↦ inr (omega arith, elim over [ inl s ↦ inl s | inr q ↦ inr (q.0, inl q.2) ])
  ]

  ranks_here : (b a : Pick) → a ≡ here → RanksFirst line b.task b.side task side
      → RanksFirst line b.task b.side a.task a.side
  ranks_here b a e r = (let P : Pick → Type 0 = λ x. RanksFirst line b.task b.side x.task x.side in subst P (sym e) r)

  pub kept : (best : Option Pick) → (MayJoin kind line f here → ⊥) → IsBestOf kind line f (IsOver task side) best
      → IsBestOf kind line f OrHere best
  kept None n h = λ a s m. elim s [
    | inl o ↦ h a o m
    | inr e ↦ (let P : Pick → Type 0 = MayJoin kind line f in n (subst P e m))
  ]
  kept (Some b) n h = (
    h.0,
    inl h.1,
    λ a s m. elim s [
      | inl o ↦ h.2 a o m
      | inr e ↦ (let P : Pick → Type 0 = MayJoin kind line f in absurd (n (subst P e m)))
    ],
  )

  weights_less : (b a : Pick) → weight line b.task b.side < weight line task side
      → RanksFirst line b.task b.side a.task a.side → RanksFirst line task side a.task a.side
  weights_less b a l (inl s) = inl (omega (arith, l, s))
  weights_less b a l (inr q) = inl (omega (arith, l, q.0))

  pub joins : (best : Option Pick) → MayJoin kind line f here → IsBestOf kind line f (IsOver task side) best
      → IsBestOf kind line f OrHere (heavier line best here)
  joins None m h = (
    m,
    inr refl,
    λ a s k. elim s [
      | inl o ↦ absurd (h a o k)
      | inr e ↦ ranks_here here a e itself
    ],
  )
  joins (Some b) m h = elim (cases_lt (weight line b.task b.side) (weight line task side)) [
    | inl l ↦ (let P : Bool → Type 0 = λ t. IsBestOf kind line f OrHere (cond t (Some here) (Some b)) in
        subst P (sym (lt-ltb (weight line b.task b.side) (weight line task side) l)) (
          m,
          inr refl,
          λ a s k. elim s [
            | inl o ↦ weights_less b a l (h.2 a o k)
            | inr e ↦ ranks_here here a e itself
          ],
        ))
    | inr g ↦ (let P : Bool → Type 0 = λ t. IsBestOf kind line f OrHere (cond t (Some here) (Some b)) in
        subst P (sym (le-ltb (weight line b.task b.side) (weight line task side) g)) (
          h.0,
          inl h.1,
          λ a s k. elim s [
            | inl o ↦ h.2 a o k
            | inr e ↦ ranks_here b a e (former b h.1 g)
          ],
        ))
  ]

  pub better_of : (best found : Option Pick) → IsBetter kind line f best here found
      → IsBestOf kind line f (IsOver task side) best → IsBestOf kind line f OrHere found
  better_of best found (inl y) h = (let P : Option Pick → Type 0 = IsBestOf kind line f OrHere in
      subst P (sym y.1) (joins best y.0 h))
  better_of best found (inr n) h = (let P : Option Pick → Type 0 = IsBestOf kind line f OrHere in
      subst P (sym n.1) (kept best n.0 h))

-- the same choices, said otherwise
pub said_so : (kind : LineKind) (line : Line) (f : Filled) (S T : Pick → Type 0) → ((a : Pick) → S a → T a)
    → ((a : Pick) → T a → S a) → (best : Option Pick) → IsBestOf kind line f S best → IsBestOf kind line f T best
said_so kind line f S T to from None h = λ a t m. h a (from a t) m
said_so kind line f S T to from (Some b) h = (h.0, to b h.1, λ a t m. h.2 a (from a t) m)

pick_is : (a : Pick) (t : ℕ) (s : Side) → a.task ≡ t → a.side ≡ s → a ≡ record { task = t; side = s }
pick_is a t s e d =
    let f : ℕ → Pick = λ x. record { task = x; side = a.side } in
    let g : Side → Pick = λ y. record { task = t; side = y } in
    ap f e ∙ ap g d

-- a turn over a task: first in front, then at the back
module _ (kind : LineKind) (line : Line) (f : Filled) (k : ℕ) (best one two : Option Pick) where
  front_first : (a : Pick) → IsOver k Front a → a.task < k
  front_first a (inl l) = l
  front_first a (inr q) = absurd (other (sym q.1))

  then_back : (a : Pick) → OrHere kind line f k Front a → IsOver k Back a
  then_back a (inl o) = inl (front_first a o)
  then_back a (inr e) = inr (ap (λ x. x.task) e, refl, ap (λ x. x.side) e)

  back_then : (a : Pick) → IsOver k Back a → OrHere kind line f k Front a
  back_then a (inl l) = inl (inl l)
  back_then a (inr q) = inr (pick_is a k Front q.0 q.2)

  over_both : (a : Pick) → OrHere kind line f k Back a → a.task < k + 1
  over_both a (inl (inl l)) = omega (arith, l)
  over_both a (inl (inr q)) = omega (arith, q.0)
  over_both a (inr e) = omega (arith, ap (λ x. x.task) e)

  both_over : (a : Pick) → a.task < k + 1 → OrHere kind line f k Back a
  both_over a l = elim (cases_lt a.task k) [
    | inl s ↦ inl (inl s)
    | inr g ↦ elim (sides a.side) [
      | inl e ↦ inl (inr (omega arith, refl, e))
      | inr e ↦ inr (pick_is a k Back (omega arith) e)
    ]
  ]

  pub turn : IsBestOf kind line f (λ a. a.task < k) best → IsBetter kind line f best (record { task = k; side = Front })
      one → IsBetter kind line f one (record { task = k; side = Back }) two
      → IsBestOf kind line f (λ a. a.task < k + 1) two
  turn h x y =
      let a : IsBestOf kind line f (IsOver k Front) best = said_so kind line f (λ a. a.task < k) (IsOver k Front)
      (λ a l. inl l) front_first best h in
      let b : IsBestOf kind line f (IsOver k Back) one = said_so kind line f (OrHere kind line f k Front)
      (IsOver k Back) then_back back_then one (better_of kind line f k Front best one x a) in
      said_so kind line f (OrHere kind line f k Back) (λ a. a.task < k + 1) over_both both_over two
      (better_of kind line f k Back one two y b)
