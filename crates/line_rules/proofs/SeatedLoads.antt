-- A load before or after seated loads of the rest.
use Rattle.std.proofs.Common.{◌≡◌, ℕ, zero, suc, ◌+◌, ◌-◌, ◌≤◌, Bool, true, false, cond, ◌&&◌, nat_eq, List, [], ◌∷◌}
use Rattle.std.proofs.Common.{◌++◌, length, refl, sym, ap, ◌∙◌, subst, ◌⊎◌, inl, inr, arith, Option, Some}
use Rattle.std.proofs.Common.{length-append}
use Rattle.std.specs.Prelude.{slice_get}
use Rattle.line_instance.specs.Truths.{In, IsEmpty}
use Rattle.line_instance.proofs.Members.{In-union_right, In-union_cases, In-minus}
use Rattle.line_instance.specs.Line.{Line, has}
use Rattle.line_instance.specs.Sums.{sum_where}
use Rattle.line_rules.specs.Balance.{IsBalance, Keeps}
use Rattle.line_rules.specs.Loads.{IsLoad, Belongs, taken, rest}
use Rattle.line_rules.specs.Seats.{side_of, IsPlacement, AreSeated, around, seated}
use Rattle.line_rules.specs.Trails.{IsPassed, Leads}
use Rattle.line_rules.specs.declared.types.Entry.{Entry}
use Rattle.line_rules.specs.declared.types.OpenFrame.{OpenFrame}
use Rattle.line_rules.specs.declared.types.LineKind.{LineKind}
use Rattle.line_rules.specs.declared.types.LineKind.TheVariants.{Straight, U}
use Rattle.line_rules.specs.declared.types.Mode.{Mode}
use Rattle.line_rules.specs.declared.types.Mode.TheVariants as mode
use Rattle.line_rules.specs.declared.types.Side.TheVariants as side
use Rattle.line_rules.specs.declared.types.Seatplace.{Seatplace}
use Rattle.line_rules.specs.declared.types.Load.{Load}
use Rattle.line_instance.proofs.Sums.{sum_where-le, weigh-none}
use Rattle.line_rules.proofs.LoadAndRest.{stacked_first, fore_stack, both_stack, first_taken, first_others}
use Rattle.line_rules.proofs.ListFacts.{get_longer, get_push_cases, get_last}
use Rattle.line_rules.proofs.Paths.{rest_inside, rest_without}
use Rattle.std.proofs.lemmas.Bool.{cases_Bool, cases_eq, and_parts, and_from, eqb-true, eq-eqb}

-- seats that are equal to a line kind
abbrev pub SameSeat : LineKind → Seatplace → Seatplace → Type 0
SameSeat Straight p q = p.station ≡ q.station
SameSeat U p q = p ≡ q

same_station : (kind : LineKind) (p q : Seatplace) → SameSeat kind p q → p.station ≡ q.station
same_station Straight p q e = e
same_station U p q e = ap (λ (z : Seatplace). z.station) e

keeps_same : (kind : LineKind) (p q a b : Seatplace) → SameSeat kind p a → SameSeat kind q b → Keeps kind p q
    → Keeps kind a b
keeps_same Straight p q a b e f k = omega (arith, e, f, k)
keeps_same U p q a b e f k = let P : Seatplace → Type 0 = λ z. Keeps U z b in let Q : Seatplace
    → Type 0 = λ z. Keeps U p z in subst P e (subst Q f k)

-- seats that are equal on R are a balance alike
pub balance_same : (kind : LineKind) (line : Line) (c : ℕ) (R : List Bool) (r : ℕ) (p q : ℕ → Seatplace)
    → ((i : ℕ) → In R i → SameSeat kind (p i) (q i)) → IsBalance kind line c R r p → IsBalance kind line c R r q
balance_same kind line c R r p q same b = record {
  first = λ i m. omega (arith, b.first i m, same_station kind (p i) (q i) (same i m));
  last = λ i m. omega (arith, b.last i m, same_station kind (p i) (q i) (same i m));
  keeps = λ i j m n w. keeps_same kind (p i) (p j) (q i) (q j) (same i m) (same j n) (b.keeps i j m n w);
  parted = λ i j m n a e. b.parted i j m n a (same_station kind (p i) (q i) (same i m)
      ∙ (e ∙ sym (same_station kind (p j) (q j) (same j n))));
  fits = λ s. omega (
    arith,
    b.fits s,
    sum_where-le (λ i. has R i && nat_eq (q i).station s) (λ i. has R i && nat_eq (p i).station s) (λ i e.
        let h : In R i × (nat_eq (q i).station s ≡ true) = and_parts (has R i) (nat_eq (q i).station s) e in
        and_from (has R i) (nat_eq (p i).station s) h.0 (eq-eqb (p i).station s
        (same_station kind (p i) (q i) (same i h.0) ∙ eqb-true (q i).station s h.1))) line.times,
  );
}

-- a load of the back stands last
pub stacked_last : Load → ℕ → (ℕ → Seatplace) → ℕ → Seatplace
stacked_last l r place i = cond (has (taken l) i) (record { station = suc r; side = side.Front }) (place i)

module _ (line : Line) (c : ℕ) (R : List Bool) (l : Load) (load : IsLoad line c mode.Back R l) (r : ℕ)
    (place : ℕ → Seatplace) (b : IsBalance Straight line c (rest R l) r place) where
  at_last : (i : ℕ) → In (taken l) i → (stacked_last l r place i).station ≡ suc r
  unfolding stacked_last
  at_last i m = ap (λ (z : Bool). (cond z (record { station = suc r; side = side.Front }) (place i)).station) m

  at_rest : (i : ℕ) → has (taken l) i ≡ false → (stacked_last l r place i).station ≡ (place i).station
  unfolding stacked_last
  at_rest i m = ap (λ (z : Bool). (cond z (record { station = suc r; side = side.Front }) (place i)).station) m

  parts : (i : ℕ) → In R i → In (taken l) i ⊎ ((has (taken l) i ≡ false) × In (rest R l) i)
  parts i m = elim (cases_Bool (has (taken l) i)) [ inl y ↦ inl y | inr n ↦ inr (n, In-minus R (taken l) i m n) ]

  last_fits : (s : ℕ) → sum_where (λ i. has R i && nat_eq (stacked_last l r place i).station s) line.times ≤ c
  last_fits s = elim (cases_eq s (suc r)) [
    | inl e ↦ omega (
      arith,
      load.fits,
      sum_where-le (λ i. has R i && nat_eq (stacked_last l r place i).station s) (has (taken l)) (λ i h.
          let q : In R i × (nat_eq (stacked_last l r place i).station s ≡ true) =
          and_parts (has R i) (nat_eq (stacked_last l r place i).station s) h in
          elim (parts i q.0) [
            | inl y ↦ y
            | inr n ↦ absurd (omega (
              arith,
              e,
              b.last i n.1,
              at_rest i n.0,
              eqb-true (stacked_last l r place i).station s q.1,
            ))
          ]) line.times,
    )
    | inr d ↦ omega (
      arith,
      b.fits s,
      sum_where-le (λ i. has R i && nat_eq (stacked_last l r place i).station s)
          (λ i. has (rest R l) i && nat_eq (place i).station s) (λ i h.
          let q : In R i × (nat_eq (stacked_last l r place i).station s ≡ true) =
          and_parts (has R i) (nat_eq (stacked_last l r place i).station s) h in
          elim (parts i q.0) [
            | inl y ↦ absurd (d (sym (eqb-true (stacked_last l r place i).station s q.1) ∙ at_last i y))
            | inr n ↦ and_from (has (rest R l) i) (nat_eq (place i).station s) n.1
                (eq-eqb (place i).station s (sym (at_rest i n.0) ∙ eqb-true (stacked_last l r place i).station s q.1))
          ]) line.times,
    )
  ]

  in_back : (i : ℕ) → In (taken l) i → In l.back i
  in_back i m = elim (In-union_cases l.front l.back i m) [ inl f ↦ absurd (load.suits i f) | inr x ↦ x ]

  pub back_stack : IsBalance Straight line c R (suc r) (stacked_last l r place)
  back_stack = record {
    first = λ i m. elim (parts i m) [
      | inl y ↦ omega (arith, at_last i y)
      | inr n ↦
          omega (arith, at_rest i n.0, b.first i n.1)
    ];
    last = λ i m. elim (parts i m) [
      | inl y ↦ omega (arith, at_last i y)
      | inr n ↦
          omega (arith, at_rest i n.0, b.last i n.1)
    ];
    keeps = λ i j m n w. elim (parts i m) [
      | inl y ↦ (let x : In (taken l) j = In-union_right l.front l.back j (load.after i j (in_back i y) n w) in
          omega (arith, at_last i y, at_last j x))
      | inr y ↦ elim (parts j n) [
        | inl x ↦ omega (arith, at_rest i y.0, at_last j x, b.last i y.1)
        | inr x ↦ omega (arith, at_rest i y.0, at_rest j x.0, b.keeps i j y.1 x.1 w)
      ]
    ];
    parted = λ i j m n a e. elim (parts i m) [
      | inl y ↦ elim (parts j n) [
        | inl x ↦ load.parted i j y x a
        | inr x ↦ omega (arith, e, at_last i y, at_rest j x.0, b.last j x.1)
      ]
      | inr y ↦ elim (parts j n) [
        | inl x ↦ omega (arith, e, at_rest i y.0, at_last j x, b.last i y.1)
        | inr x ↦ b.parted i j y.1 x.1 a (sym (at_rest i y.0) ∙ (e ∙ at_rest j x.0))
      ]
    ];
    fits = last_fits;
  }

-- loads after a load of the front or of both parts
get_cons : (l m : Load) (ls : List Load) (k : ℕ) → slice_get (l ∷ ls) (suc k) ≡ Some m → slice_get ls k ≡ Some m
get_cons l m ls k e = e

pub seated_none : (kind : LineKind) (line : Line) (c : ℕ) (R : List Bool) → IsEmpty R → AreSeated kind line c R []
seated_none kind line c R none = record {
  each = λ i m. absurd (none i m);
  within = λ k l i e m. absurd (cc);
  once = λ j k a b i e f m n. absurd (cc);
  balance = λ place p. record {
    first = λ i m. absurd (none i m);
    last = λ i m. absurd (none i m);
    keeps = λ i j m n w. absurd (none i m);
    parted = λ i j m n a e. none i m;
    fits = λ s. omega (
      arith,
      weigh-none (λ t. t) (λ i. has R i && nat_eq (place i).station s)
          (λ i. elim (cases_Bool (has R i && nat_eq (place i).station s)) [
            | inl t ↦ absurd (none i (and_parts (has R i) (nat_eq (place i).station s) t).0)
            | inr f ↦ f
          ]) line.times,
    );
  };
}

seat_of : (kind : LineKind) (p q : Seatplace) → p ≡ q → SameSeat kind p q
seat_of Straight p q e = ap (λ (z : Seatplace). z.station) e
seat_of U p q e = e

seat_by : (kind : LineKind) (l : Load) (i : ℕ) (p q : Seatplace)
    → p ≡ record { station = 1; side = cond (has l.front i) side.Front side.Back }
    → q ≡ record { station = 1; side = side_of kind l i } → SameSeat kind p q
seat_by Straight l i p q e f = ap (λ (z : Seatplace). z.station) e ∙ sym (ap (λ (z : Seatplace). z.station) f)
seat_by U l i p q e f = e ∙ sym f

-- the seats with one station less
down_one : (ℕ → Seatplace) → ℕ → Seatplace
down_one place i = record { station = (place i).station - 1; side = (place i).side }

down_placed : (kind : LineKind) (l : Load) (ls : List Load) (place : ℕ → Seatplace) → IsPlacement kind (l ∷ ls) place
    → IsPlacement kind ls (down_one place)
unfolding down_one
down_placed kind l ls place p k m i e t =
    let q : place i ≡ record { station = suc (suc k); side = side_of kind m i } = p (suc k) m i e t in
    let s : (place i).station - 1 ≡ suc k = omega (arith, ap (λ (z : Seatplace). z.station) q) in
    let d : (place i).side ≡ side_of kind m i = ap (λ (z : Seatplace). z.side) q in
    λ n. record { station = s n; side = d n }

down_up : (place : ℕ → Seatplace) (i : ℕ) → 1 ≤ (place i).station
    → record (down_one place i) { station = (down_one place i).station + 1 } ≡ place i
unfolding down_one
down_up place i l = let s : (place i).station - 1 + 1 ≡ (place i).station = omega (arith, l) in
    λ n. record { station = s n; side = (place i).side }

stands_first : (kind : LineKind) (line : Line) (c : ℕ) (m : Mode) (R : List Bool) (l : Load) → Belongs kind m
    → (m ≡ mode.Back → ⊥) → IsLoad line c m R l → (r : ℕ) (place : ℕ → Seatplace)
    → IsBalance kind line c (rest R l) r place
    → IsBalance kind line c R (suc r) (stacked_first l place)
stands_first Straight line c mode.Fore R l b n load r place h = fore_stack line c R l load r place h
stands_first Straight line c mode.Back R l b n load r place h = absurd (n refl)
stands_first Straight line c mode.Both R l b n load r place h = absurd b
stands_first U line c mode.Fore R l b n load r place h = absurd b
stands_first U line c mode.Back R l b n load r place h = absurd b
stands_first U line c mode.Both R l b n load r place h = both_stack line c R l load r place h

module _ (kind : LineKind) (line : Line) (c : ℕ) (m : Mode) (R : List Bool) (l : Load) (load : IsLoad line c m R l)
    (ls : List Load) (s : AreSeated kind line c (rest R l) ls) where
  first_within : (k : ℕ) (x : Load) (i : ℕ) → slice_get (l ∷ ls) k ≡ Some x → In (taken x) i → In R i
  first_within zero x i e h = let q : l ≡ x = cc in let P : Load → Type 0 = λ z. In (taken z) i in
      load.within i (subst P (sym q) h)
  first_within (suc k) x i e h = rest_inside R l i (s.within k x i e h)

  first_once : (j k : ℕ) (a b : Load) (i : ℕ) → slice_get (l ∷ ls) j ≡ Some a → slice_get (l ∷ ls) k ≡ Some b
      → In (taken a) i → In (taken b) i → j ≡ k
  first_once zero zero a b i e f m n = refl
  first_once zero (suc k) a b i e f m n = let q : l ≡ a = cc in let P : Load → Type 0 = λ z. In (taken z) i in
      absurd (rest_without R l i (subst P (sym q) m) (s.within k b i f n))
  first_once (suc j) zero a b i e f m n = let q : l ≡ b = cc in let P : Load → Type 0 = λ z. In (taken z) i in
      absurd (rest_without R l i (subst P (sym q) n) (s.within j a i e m))
  first_once (suc j) (suc k) a b i e f m n = ap suc (s.once j k a b i e f m n)

  last_within : (k : ℕ) (x : Load) (i : ℕ) → slice_get (ls ++ l ∷ []) k ≡ Some x → In (taken x) i → In R i
  last_within k x i e h = elim (get_push_cases ls l x k e) [
    | inl y ↦ rest_inside R l i (s.within k x i y.1 h)
    | inr y ↦ (let P : Load → Type 0 = λ z. In (taken z) i in load.within i (subst P (sym y.1) h))
  ]

  last_once : (j k : ℕ) (a b : Load) (i : ℕ) → slice_get (ls ++ l ∷ []) j ≡ Some a → slice_get (ls ++ l ∷ []) k ≡ Some b
      → In (taken a) i → In (taken b) i → j ≡ k
  last_once j k a b i e f m n = elim (get_push_cases ls l a j e) [
    | inl y ↦ elim (get_push_cases ls l b k f) [
      | inl x ↦ s.once j k a b i y.1 x.1 m n
      | inr x ↦ (let P : Load → Type 0 = λ z. In (taken z) i in
          absurd (rest_without R l i (subst P (sym x.1) n) (s.within j a i y.1 m)))
    ]
    | inr y ↦ elim (get_push_cases ls l b k f) [
      | inl x ↦ (let P : Load → Type 0 = λ z. In (taken z) i in
          absurd (rest_without R l i (subst P (sym y.1) m) (s.within k b i x.1 n)))
      | inr x ↦ omega (arith, y.0, x.0)
    ]
  ]

  pub seated_first : Belongs kind m → (m ≡ mode.Back → ⊥) → AreSeated kind line c R (l ∷ ls)
  seated_first belongs fore = record {
    each = λ i h. elim (cases_Bool (has (taken l) i)) [
      | inl y ↦ (0, l, (refl, y))
      | inr n ↦ (let q : (k : ℕ) × (x : Load) × ((slice_get ls k ≡ Some x) × In (taken x) i) =
          s.each i (In-minus R (taken l) i h n) in (suc q.0, q.1, q.2))
    ];
    within = first_within;
    once = first_once;
    balance = λ place p. balance_same kind line c R (suc (length ls)) (stacked_first l (down_one place)) place
        (λ i h. elim (cases_Bool (has (taken l) i)) [
          | inl y ↦ seat_by kind l i (stacked_first l (down_one place) i) (place i) (first_taken l (down_one place) i y)
              (p 0 l i refl y)
          | inr n ↦
              let q : (k : ℕ) × (x : Load) × ((slice_get ls k ≡ Some x) × In (taken x) i) =
              s.each i (In-minus R (taken l) i h n) in
              let t : (place i).station ≡ suc (suc q.0) = ap (λ (z : Seatplace). z.station)
              (p (suc q.0) q.1 i q.2.0 q.2.1) in
              seat_of kind (stacked_first l (down_one place) i) (place i)
              (first_others l (down_one place) i n ∙ down_up place i (omega (arith, t)))
        ]) (stands_first kind line c m R l belongs fore load (length ls) (down_one place)
        (s.balance (down_one place) (down_placed kind l ls place p)));
  }

-- a load of the back after the seated loads of the rest
pub seated_last : (line : Line) (c : ℕ) (R : List Bool) (l : Load) (load : IsLoad line c mode.Back R l) (ls : List Load)
    (s : AreSeated Straight line c (rest R l) ls) → AreSeated Straight line c R (ls ++ l ∷ [])
seated_last line c R l load ls s = record {
  each = λ i h. elim (cases_Bool (has (taken l) i)) [
    | inl y ↦ (length ls, l, (get_last ls l, y))
    | inr n ↦ (let q : (k : ℕ) × (x : Load) × ((slice_get ls k ≡ Some x) × In (taken x) i) =
        s.each i (In-minus R (taken l) i h n) in (q.0, q.1, (get_longer ls (l ∷ []) q.0 q.1 q.2.0, q.2.1)))
  ];
  within = last_within Straight line c mode.Back R l load ls s;
  once = last_once Straight line c mode.Back R l load ls s;
  balance = λ place p.
      let e : suc (length ls) ≡ length (ls ++ l ∷ []) = omega (arith, length-append ls (l ∷ [])) in
      let N : ℕ → Type 0 = λ z. IsBalance Straight line c R z place in
      let b : IsBalance Straight line c (rest R l) (length ls) place =
      s.balance place (λ k x i g h. p k x i (get_longer ls (l ∷ []) k x g) h) in
      subst N e (balance_same Straight line c R (suc (length ls)) (stacked_last l (length ls) place) place
      (λ i h. elim (cases_Bool (has (taken l) i)) [
        | inl y ↦ at_last line c R l load (length ls) place b i y
            ∙ sym (ap (λ (z : Seatplace). z.station) (p (length ls) l i (get_last ls l) y))
        | inr n ↦ at_rest line c R l load (length ls) place b i n
      ]) (back_stack line c R l load (length ls) place b));
}

-- the loads of frames that lead from R to R', around seated loads of R'
pub around_seated : (kind : LineKind) (line : Line) (c : ℕ) (m : Mode) (R : List Bool) (l : Load) → Belongs kind m
    → IsLoad line c m R l → (ls : List Load) → AreSeated kind line c (rest R l) ls
    → AreSeated kind line c R (around m (Some l) ls)
around_seated Straight line c mode.Fore R l b load ls s = seated_first Straight line c mode.Fore R l load ls s b
    (λ e. cc)
around_seated Straight line c mode.Back R l b load ls s = seated_last line c R l load ls s
around_seated Straight line c mode.Both R l b load ls s = absurd b
around_seated U line c mode.Fore R l b load ls s = absurd b
around_seated U line c mode.Back R l b load ls s = absurd b
around_seated U line c mode.Both R l b load ls s = seated_first U line c mode.Both R l load ls s b (λ e. cc)

pub path_seated : (kind : LineKind) (line : Line) (X : ℕ) (es : List Entry) (fs : List OpenFrame) (R : List Bool)
    (most : ℕ) (R' : List Bool) (most' : ℕ) (ls : List Load) → Leads kind line X es R most fs R' most'
    → AreSeated kind line X R' ls
    → AreSeated kind line X R (seated fs ls)
path_seated kind line X es [] R most R' most' ls h s = let P : List Bool → Type 0 = λ z. AreSeated kind line X z ls in
    subst P h.0 s
path_seated kind line X es (f ∷ fs) R most R' most' ls h s =
    let P : List Bool → Type 0 = λ z. AreSeated kind line X z (seated (f ∷ fs) ls) in
    let Q : Option Load → Type 0 = λ z. AreSeated kind line X f.set (around f.mode z (seated fs ls)) in
    let p : IsPassed kind line X es f h.0 = h.1.2 in
    subst P h.1.0 (subst Q (sym p.last) (around_seated kind line X f.mode f.set h.0 p.belongs p.load (seated fs ls)
    (path_seated kind line X es fs (rest f.set h.0) (f.most - 1) R' most' ls h.1.3 s)))

around_long : (m : Mode) (l : Load) (ls : List Load) → length (around m (Some l) ls) ≡ suc (length ls)
around_long mode.Fore l ls = refl
around_long mode.Back l ls = omega (arith, length-append ls (l ∷ []))
around_long mode.Both l ls = refl

pub seated_long : (kind : LineKind) (line : Line) (X : ℕ) (es : List Entry) (fs : List OpenFrame) (R : List Bool)
    (most : ℕ) (R' : List Bool) (most' : ℕ) (ls : List Load) → Leads kind line X es R most fs R' most'
    → length (seated fs ls) ≡ length fs + length ls
seated_long kind line X es [] R most R' most' ls h = omega arith
seated_long kind line X es (f ∷ fs) R most R' most' ls h =
    let e : length (seated (f ∷ fs) ls) ≡ length (around f.mode (Some h.0) (seated fs ls)) =
    ap (λ (z : Option Load). length (around f.mode z (seated fs ls))) h.1.2.last in
    omega (
      arith,
      e,
      around_long f.mode h.0 (seated fs ls),
      seated_long kind line X es fs (rest f.set h.0) (f.most - 1) R' most' ls h.1.3,
    )
