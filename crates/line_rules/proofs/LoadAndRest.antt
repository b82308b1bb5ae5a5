-- A load before or after a balance of the rest is a balance.
use Rattle.std.proofs.Common.{◌≡◌, ℕ, zero, suc, ◌+◌, ◌≤◌, Bool, true, false, cond, ◌&&◌, nat_eq, List, sym, ap, ◌∙◌}
use Rattle.std.proofs.Common.{◌⊎◌, inl, inr, arith}
use Rattle.line_instance.specs.Truths.{In}
use Rattle.line_instance.proofs.Members.{In-union_left, In-union_right, In-union_cases, In-minus}
use Rattle.line_instance.specs.Line.{Line, has, Before}
use Rattle.line_instance.specs.Sums.{sum_where}
use Rattle.line_rules.specs.Balance.{IsBalance, Keeps}
use Rattle.line_rules.specs.Loads.{IsLoad, taken, rest}
use Rattle.line_rules.specs.declared.types.LineKind.{LineKind}
use Rattle.line_rules.specs.declared.types.LineKind.TheVariants.{Straight, U}
use Rattle.line_rules.specs.declared.types.Mode.{Mode}
use Rattle.line_rules.specs.declared.types.Mode.TheVariants.{Fore, Both}
use Rattle.line_rules.specs.declared.types.Side.{Side}
use Rattle.line_rules.specs.declared.types.Side.TheVariants as side
use Rattle.line_rules.specs.declared.types.Seatplace.{Seatplace}
use Rattle.line_rules.specs.declared.types.Load.{Load}
use Rattle.line_instance.proofs.Sums.{sum_where-le}
use Rattle.std.proofs.lemmas.Bool.{cases_Bool, and_parts, and_from, false≢true, eqb-true, eq-eqb}

-- the side of a task of the load, and the seats of the rest beside it
load_side : Load → ℕ → Side
load_side l i = cond (has l.front i) side.Front side.Back

-- the load stands first
pub stacked_first : Load → (ℕ → Seatplace) → ℕ → Seatplace
stacked_first l place i = cond (has (taken l) i) (record { station = 1; side = load_side l i })
    (record (place i) { station = (place i).station + 1 })

module _ (line : Line) (c : ℕ) (kind : LineKind) (mode : Mode) (R : List Bool) (l : Load)
    (load : IsLoad line c mode R l) (r : ℕ) (place : ℕ → Seatplace) (b : IsBalance kind line c (rest R l) r place) where
  of_load : (i : ℕ) → In (taken l) i → stacked_first l place i ≡ record { station = 1; side = load_side l i }
  unfolding stacked_first
  of_load i m = ap (λ x. cond x (record { station = 1; side = load_side l i })
      (record (place i) { station = (place i).station + 1 })) m

  of_rest : (i : ℕ) → has (taken l) i ≡ false → stacked_first l place i
      ≡ record (place i) { station = (place i).station + 1 }
  unfolding stacked_first
  of_rest i m = ap (λ x. cond x (record { station = 1; side = load_side l i })
      (record (place i) { station = (place i).station + 1 })) m

  parts : (i : ℕ) → In R i → In (taken l) i ⊎ ((has (taken l) i ≡ false) × In (rest R l) i)
  parts i m = elim (cases_Bool (has (taken l) i)) [ inl y ↦ inl y | inr n ↦ inr (n, In-minus R (taken l) i m n) ]

  station_of_load : (i : ℕ) → In (taken l) i → (stacked_first l place i).station ≡ 1
  station_of_load i m = ap (λ (p : Seatplace). p.station) (of_load i m)

  station_of_rest : (i : ℕ) → has (taken l) i ≡ false → (stacked_first l place i).station ≡ (place i).station + 1
  station_of_rest i m = ap (λ (p : Seatplace). p.station) (of_rest i m)

  seat_from : (i : ℕ) → In R i → 1 ≤ (stacked_first l place i).station
  seat_from i m = elim (parts i m) [
    | inl y ↦ omega (arith, station_of_load i y)
    | inr n ↦
        omega (arith, station_of_rest i n.0)
  ]

  first_fits : (s : ℕ) → sum_where (λ i. has R i && nat_eq (stacked_first l place i).station s) line.times ≤ c
  first_fits zero = omega (
    arith,
    load.fits,
    sum_where-le (λ i. has R i && nat_eq (stacked_first l place i).station 0) (has (taken l)) (λ i e.
        let q : In R i × (nat_eq (stacked_first l place i).station 0 ≡ true) =
        and_parts (has R i) (nat_eq (stacked_first l place i).station 0) e in
        elim (parts i q.0) [
          | inl y ↦ y
          | inr n ↦ absurd (omega (arith, eqb-true (stacked_first l place i).station 0 q.1, station_of_rest i n.0))
        ]) line.times,
  )
  first_fits (suc zero) = omega (
    arith,
    load.fits,
    sum_where-le (λ i. has R i && nat_eq (stacked_first l place i).station 1) (has (taken l)) (λ i e.
        let q : In R i × (nat_eq (stacked_first l place i).station 1 ≡ true) =
        and_parts (has R i) (nat_eq (stacked_first l place i).station 1) e in
        elim (parts i q.0) [
          | inl y ↦ y
          | inr n ↦ absurd (omega (
            arith,
            eqb-true (stacked_first l place i).station 1 q.1,
            station_of_rest i n.0,
            b.first i n.1,
          ))
        ]) line.times,
  )
  first_fits (suc (suc s)) = omega (
    arith,
    b.fits (suc s),
    sum_where-le (λ i. has R i && nat_eq (stacked_first l place i).station (suc (suc s)))
        (λ i. has (rest R l) i && nat_eq (place i).station (suc s)) (λ i e.
        let q : In R i × (nat_eq (stacked_first l place i).station (suc (suc s)) ≡ true) =
        and_parts (has R i) (nat_eq (stacked_first l place i).station (suc (suc s))) e in
        elim (parts i q.0) [
          | inl y ↦ absurd (omega (
            arith,
            eqb-true (stacked_first l place i).station (suc (suc s)) q.1,
            station_of_load i y,
          ))
          | inr n ↦ and_from (has (rest R l) i) (nat_eq (place i).station (suc s)) n.1
              (eq-eqb (place i).station (suc s) (omega (
                arith,
                eqb-true (stacked_first l place i).station (suc (suc s)) q.1,
                station_of_rest i n.0,
              )))
        ]) line.times,
  )

  pub first_stack : ((i j : ℕ) → In R i → In R j → Before line i j
      → Keeps kind (stacked_first l place i) (stacked_first l place j))
      → IsBalance kind line c R (suc r) (stacked_first l place)
  first_stack keeps = record {
    first = λ i m. elim (parts i m) [
      | inl y ↦ omega (arith, station_of_load i y)
      | inr n ↦
          omega (arith, station_of_rest i n.0)
    ];
    last = λ i m. elim (parts i m) [
      | inl y ↦ omega (arith, station_of_load i y)
      | inr n ↦
          omega (arith, station_of_rest i n.0, b.last i n.1)
    ];
    keeps = keeps;
    parted = λ i j m n a e. elim (parts i m) [
      | inl y ↦ elim (parts j n) [
        | inl z ↦ load.parted i j y z a
        | inr z ↦ omega (arith, e, station_of_load i y, station_of_rest j z.0, b.first j z.1)
      ]
      | inr y ↦ elim (parts j n) [
        | inl z ↦ omega (arith, e, station_of_rest i y.0, station_of_load j z, b.first i y.1)
        | inr z ↦ b.parted i j y.1 z.1 a (omega (arith, e, station_of_rest i y.0, station_of_rest j z.0))
      ]
    ];
    fits = first_fits;
  }

-- a load of the front, on a straight line
pub fore_stack : (line : Line) (c : ℕ) (R : List Bool) (l : Load) (load : IsLoad line c Fore R l) (r : ℕ)
    (place : ℕ → Seatplace) → IsBalance Straight line c (rest R l) r place
    → IsBalance Straight line c R (suc r) (stacked_first l place)
fore_stack line c R l load r place b = first_stack line c Straight Fore R l load r place b
    (λ i j m n w. elim (parts line c Straight Fore R l load r place b j n) [
      | inl y ↦
          let f : In l.front j = elim (In-union_cases l.front l.back j y)
          [ inl a ↦ a | inr z ↦ absurd (load.suits j z) ] in
          let g : In (taken l) i = In-union_left l.front l.back i (load.before i j m f w) in
          omega (
            arith,
            station_of_load line c Straight Fore R l load r place b i g,
            station_of_load line c Straight Fore R l load r place b j y,
          )
      | inr z ↦ elim (parts line c Straight Fore R l load r place b i m) [
        | inl y ↦ omega (
          arith,
          station_of_load line c Straight Fore R l load r place b i y,
          station_of_rest line c Straight Fore R l load r place b j z.0,
        )
        | inr y ↦ omega (
          arith,
          b.keeps i j y.1 z.1 w,
          station_of_rest line c Straight Fore R l load r place b i y.0,
          station_of_rest line c Straight Fore R l load r place b j z.0,
        )
      ]
    ])

sides : side.Front ≡ side.Back → ⊥
sides e = cc

side_front : (l : Load) (i : ℕ) → In l.front i → load_side l i ≡ side.Front
unfolding load_side
side_front l i m = ap (λ x. cond x side.Front side.Back) m

side_back : (l : Load) (i : ℕ) → (In l.front i → ⊥) → load_side l i ≡ side.Back
unfolding load_side
side_back l i n = elim (cases_Bool (has l.front i)) [
  | inl y ↦ absurd (n y)
  | inr f ↦
      ap (λ x. cond x side.Front side.Back) f
]

front_side : (l : Load) (i : ℕ) → load_side l i ≡ side.Front → In l.front i
unfolding load_side
front_side l i e = elim (cases_Bool (has l.front i)) [
  | inl y ↦ y
  | inr n ↦
      absurd (sides (sym e ∙ ap (λ x. cond x side.Front side.Back) n))
]

back_side : (l : Load) (i : ℕ) → load_side l i ≡ side.Back → has l.front i ≡ false
unfolding load_side
back_side l i e = elim (cases_Bool (has l.front i)) [
  | inl y ↦
      absurd (sides (sym (ap (λ x. cond x side.Front side.Back) y) ∙ e))
  | inr n ↦ n
]

-- a load of both parts, on a U-line
pub both_stack : (line : Line) (c : ℕ) (R : List Bool) (l : Load) (load : IsLoad line c Both R l) (r : ℕ)
    (place : ℕ → Seatplace) → IsBalance U line c (rest R l) r place
    → IsBalance U line c R (suc r) (stacked_first l place)
both_stack line c R l load r place b = first_stack line c U Both R l load r place b (λ i j m n w. record {
  front = λ e. elim (parts line c U Both R l load r place b j n) [
    | inl y ↦
        let f : In l.front j = front_side l j (sym (ap (λ (p : Seatplace). p.side)
        (of_load line c U Both R l load r place b j y)) ∙ e) in
        let g : In l.front i = load.before i j m f w in
        let h : In (taken l) i = In-union_left l.front l.back i g in (
          ap (λ (p : Seatplace). p.side) (of_load line c U Both R l load r place b i h) ∙ side_front l i g,
          omega (
            arith,
            station_of_load line c U Both R l load r place b i h,
            station_of_load line c U Both R l load r place b j y,
          ),
        )
    | inr z ↦ elim (parts line c U Both R l load r place b i m) [
      | inl y ↦ elim (In-union_cases l.front l.back i y) [
        | inl g ↦ (
          ap (λ (p : Seatplace). p.side) (of_load line c U Both R l load r place b i y) ∙ side_front l i g,
          omega (
            arith,
            station_of_load line c U Both R l load r place b i y,
            station_of_rest line c U Both R l load r place b j z.0,
          ),
        )
        | inr g ↦ absurd (false≢true (sym z.0 ∙ In-union_right l.front l.back j (load.after i j g n w)))
      ]
      | inr y ↦
          let k : ((place i).side ≡ side.Front) × ((place i).station ≤ (place j).station) =
          (b.keeps i j y.1 z.1 w).front (sym (ap (λ (p : Seatplace). p.side)
          (of_rest line c U Both R l load r place b j z.0)) ∙ e) in (
            ap (λ (p : Seatplace). p.side) (of_rest line c U Both R l load r place b i y.0) ∙ k.0,
            omega (
              arith,
              k.1,
              station_of_rest line c U Both R l load r place b i y.0,
              station_of_rest line c U Both R l load r place b j z.0,
            ),
          )
    ]
  ];
  back = λ e. elim (parts line c U Both R l load r place b j n) [
    | inl y ↦ elim (In-union_cases l.front l.back j y) [
      | inl f ↦
          let g : In l.front i = load.before i j m f w in
          let h : In (taken l) i = In-union_left l.front l.back i g in
          absurd (false≢true (sym (back_side l i (sym (ap (λ (p : Seatplace). p.side)
          (of_load line c U Both R l load r place b i h)) ∙ e)) ∙ g))
      | inr f ↦ (
        ap (λ (p : Seatplace). p.side) (of_load line c U Both R l load r place b j y)
            ∙ side_back l j (λ g. load.disjoint j g f),
        omega (
          arith,
          station_of_load line c U Both R l load r place b j y,
          seat_from line c U Both R l load r place b i m,
        ),
      )
    ]
    | inr z ↦ elim (parts line c U Both R l load r place b i m) [
      | inl y ↦ elim (In-union_cases l.front l.back i y) [
        | inl g ↦ absurd (false≢true (sym (back_side l i (sym
            (ap (λ (p : Seatplace). p.side) (of_load line c U Both R l load r place b i y)) ∙ e)) ∙ g))
        | inr g ↦ absurd (false≢true (sym z.0 ∙ In-union_right l.front l.back j (load.after i j g n w)))
      ]
      | inr y ↦
          let k : ((place j).side ≡ side.Back) × ((place j).station ≤ (place i).station) =
          (b.keeps i j y.1 z.1 w).back (sym (ap (λ (p : Seatplace). p.side)
          (of_rest line c U Both R l load r place b i y.0)) ∙ e) in (
            ap (λ (p : Seatplace). p.side) (of_rest line c U Both R l load r place b j z.0) ∙ k.0,
            omega (
              arith,
              k.1,
              station_of_rest line c U Both R l load r place b i y.0,
              station_of_rest line c U Both R l load r place b j z.0,
            ),
          )
    ]
  ];
})

-- where the tasks of the load stand, and the others
pub first_taken : (l : Load) (place : ℕ → Seatplace) (i : ℕ) → In (taken l) i
    → stacked_first l place i ≡ record { station = 1; side = cond (has l.front i) side.Front side.Back }
unfolding stacked_first load_side
first_taken l place i m = ap (λ x. cond x (record { station = 1; side = load_side l i })
    (record (place i) { station = (place i).station + 1 })) m

pub first_others : (l : Load) (place : ℕ → Seatplace) (i : ℕ) → has (taken l) i ≡ false
    → stacked_first l place i ≡ record (place i) { station = (place i).station + 1 }
unfolding stacked_first
first_others l place i m = ap (λ x. cond x (record { station = 1; side = load_side l i })
    (record (place i) { station = (place i).station + 1 })) m
