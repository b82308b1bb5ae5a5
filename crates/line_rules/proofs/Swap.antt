-- A balance with one task in the seat of another.
use Rattle.std.proofs.Common.{◌≡◌, ◌≢◌, ℕ, zero, suc, ◌<◌, ◌≤◌, Bool, true, false, cond, ◌&&◌, not, nat_eq, List, []}
use Rattle.std.proofs.Common.{◌∷◌, length, get_or, set, refl, sym, ap, ◌∙◌, subst, ◌⊎◌, inl, inr, arith}
use Rattle.line_instance.specs.Truths.{In}
use Rattle.line_instance.specs.Line.{Line, IsLine, IsTaskSet, time, has, Before, Apart}
use Rattle.line_instance.specs.Sums.{weigh}
use Rattle.line_rules.specs.Balance.{IsBalance, Keeps}
use Rattle.line_rules.specs.declared.types.LineKind.{LineKind}
use Rattle.line_rules.specs.declared.types.LineKind.TheVariants.{Straight, U}
use Rattle.line_rules.specs.declared.types.Seatplace.{Seatplace}
use Rattle.line_instance.proofs.Sums.{weigh-le, weigh-split, weigh-one, weigh-none}
use Rattle.std.proofs.lemmas.Bool.{cases_eq, and_parts, and_from, false≢true, eqb-true, eqb-false, eq-eqb, ne_eqb}
use Rattle.std.proofs.lemmas.Bool.{not-true, and_right}
use Rattle.std.proofs.lemmas.List.{get_or-set_same, get_or-set_other}
use Rattle.line_rules.proofs.BoundIsTrue.{cond_le}

pub swapped : (ℕ → Seatplace) → ℕ → ℕ → ℕ → Seatplace
swapped place out into i = cond (nat_eq i into) (place out) (place i)

cond_and_true : (b : Bool) (x : ℕ) → cond (b && true) x 0 ≡ cond b x 0
cond_and_true true x = refl
cond_and_true false x = refl

-- the tasks that p picks, k alone
pub weigh-single : (w : ℕ → ℕ) → w 0 ≡ 0 → (p : ℕ → Bool) (k : ℕ) (ts : List ℕ)
    → weigh w (λ i. p i && nat_eq i k) ts ≤ cond (p k) (w (get_or ts k 0)) 0
weigh-single w z p k [] = omega arith
weigh-single w z p zero (t ∷ ts) =
    omega (
      arith,
      cond_and_true (p 0) (w t),
      weigh-none w (λ i. p (suc i) && nat_eq (suc i) 0)
          (λ i. and_right (p (suc i)) (nat_eq (suc i) 0) (ne_eqb (suc i) 0 (omega arith))) ts,
    )
weigh-single w z p (suc k) (t ∷ ts) =
    let n : nat_eq 0 (suc k) ≡ false = ne_eqb 0 (suc k) (omega arith) in
    let e : cond (p 0 && nat_eq 0 (suc k)) (w t) 0 ≡ 0 = ap {B = ℕ} (λ b. cond b (w t) 0)
    (and_right (p 0) (nat_eq 0 (suc k)) n) in
    omega (
      arith,
      e,
      weigh-single w z (λ i. p (suc i)) k ts,
      weigh-le w (λ i. p (suc i) && nat_eq (suc i) (suc k)) (λ i. p (suc i) && nat_eq i k)
          (λ i a. let q : (p (suc i) ≡ true) × (nat_eq (suc i) (suc k) ≡ true) =
          and_parts (p (suc i)) (nat_eq (suc i) (suc k)) a in
          and_from (p (suc i)) (nat_eq i k) q.0 (eq-eqb i k (omega (arith, eqb-true (suc i) (suc k) q.1)))) ts,
    )

keeps_itself : (kind : LineKind) (p : Seatplace) → Keeps kind p p
keeps_itself Straight p = omega arith
keeps_itself U p = record { front = λ e. (e, omega arith); back = λ e. (e, omega arith) }

-- p' picks as p does, but for `into` in the place of `out`
weigh-swap : (w : ℕ → ℕ) (p q : ℕ → Bool) (out into : ℕ) (ts : List ℕ) → out < length ts → w 0 ≡ 0
    → w (get_or ts into 0) ≤ w (get_or ts out 0)
    → ((i : ℕ) → i ≢ into → q i ≡ true → (p i ≡ true) × (i ≢ out)) → (q into ≡ true → p out ≡ true)
    → weigh w q ts ≤ weigh w p ts
weigh-swap w p q out into ts l z less others here =
    omega (
      arith,
      weigh-split w q (λ i. nat_eq i into) ts,
      weigh-split w p (λ i. nat_eq i out) ts,
      weigh-le w (λ i. q i && not (nat_eq i into)) (λ i. p i && not (nat_eq i out))
          (λ i e.
          let a : (q i ≡ true) × (not (nat_eq i into) ≡ true) = and_parts (q i) (not (nat_eq i into)) e in
          let b : (p i ≡ true) × (i ≢ out) = others i (eqb-false i into (not-true (nat_eq i into) a.1)) a.0 in
          and_from (p i) (not (nat_eq i out)) b.0 (ap not (ne_eqb i out b.1))) ts,
      weigh-single w z q into ts,
      cond_le (q into) (w (get_or ts into 0)) (weigh w (λ i. p i && nat_eq i out) ts)
          (λ e. omega (
            arith,
            less,
            weigh-one w (λ i. p i && nat_eq i out) out ts l
                (and_from (p out) (nat_eq out out) (here e) (eq-eqb out out refl)),
          )),
    )

swapped_here : (place : ℕ → Seatplace) (out into i : ℕ) → i ≡ into → swapped place out into i ≡ place out
unfolding swapped
swapped_here place out into i e = ap (λ b. cond b (place out) (place i)) (eq-eqb i into e)

swapped_other : (place : ℕ → Seatplace) (out into i : ℕ) → i ≢ into → swapped place out into i ≡ place i
unfolding swapped
swapped_other place out into i n = ap (λ b. cond b (place out) (place i)) (ne_eqb i into n)

-- a member of the set with `into` in the place of `out`
member_cases : (R : List Bool) (out into i : ℕ) → out < length R → In (set (set R out false) into true) i
    → (i ≡ into) ⊎ ((i ≢ into) × In R i × (i ≢ out))
member_cases R out into i l m = elim (cases_eq i into) [
  | inl e ↦ inl e
  | inr n ↦
      let a : In (set R out false) i = sym (get_or-set_other (set R out false) into i true false n) ∙ m in
      elim (cases_eq i out) [
        | inl o ↦ absurd (false≢true (sym (get_or-set_same R out false false l)
            ∙ (ap (λ k. has (set R out false) k) (sym o) ∙ a)))
        | inr d ↦ inr (n, sym (get_or-set_other R out i false false d) ∙ a, d)
      ]
]

module _ (kind : LineKind) (line : Line) (ok : IsLine line) (c : ℕ) (R S : List Bool) (r : ℕ) (place : ℕ → Seatplace)
    (out into : ℕ) (b : IsBalance kind line c R r place)
    (set_R : IsTaskSet line R) (out_in : In R out) (into_out : has R into ≡ false)
    (is : S ≡ set (set R out false) into true) (less : time line into ≤ time line out)
    (before : (i : ℕ) → In S i → Before line i into → Before line i out)
    (after : (i : ℕ) → In S i → Before line into i → Before line out i)
    (apart : (i : ℕ) → In S i → Apart line i into → Apart line i out) where
  cases : (i : ℕ) → In S i → (i ≡ into) ⊎ ((i ≢ into) × In R i × (i ≢ out))
  cases i m = member_cases R out into i (omega (arith, set_R.truths, ok.small, set_R.tasks out out_in))
      (ap (λ s. has s i) (sym is) ∙ m)

  -- what holds of the seats of R holds of those of S
  pub swap_seats : IsBalance kind line c S r (swapped place out into)
  swap_seats = record {
    first = λ i m. elim (cases i m) [
      | inl e ↦ rw (swapped_here place out into i e) (b.first out out_in)
      | inr o ↦ rw (swapped_other place out into i o.0) (b.first i o.1)
    ];
    last = λ i m. elim (cases i m) [
      | inl e ↦ rw (swapped_here place out into i e) (b.last out out_in)
      | inr o ↦ rw (swapped_other place out into i o.0) (b.last i o.1)
    ];
    keeps = λ i j m n w. elim (cases i m) [
      | inl e ↦ elim (cases j n) [
        | inl f ↦ rw (swapped_here place out into i e, swapped_here place out into j f) (keeps_itself kind (place out))
        | inr o ↦ rw (swapped_here place out into i e, swapped_other place out into j o.0)
            (b.keeps out j out_in o.1 (after j n (let P : ℕ → Type 0 = λ k. Before line k j in subst P e w)))
      ]
      | inr o ↦ elim (cases j n) [
        | inl f ↦ rw (swapped_other place out into i o.0, swapped_here place out into j f)
            (b.keeps i out o.1 out_in (before i m (let P : ℕ → Type 0 = λ k. Before line i k in subst P f w)))
        | inr q ↦ rw (swapped_other place out into i o.0, swapped_other place out into j q.0) (b.keeps i j o.1 q.1 w)
      ]
    ];
    parted = λ i j m n a. elim (cases i m) [
      | inl e ↦ elim (cases j n) [
        | inl f ↦ absurd (ok.of_two into (let P : ℕ → Type 0 = λ k. Apart line k into in
            subst P e (let Q : ℕ → Type 0 = λ k. Apart line i k in subst Q f a)))
        | inr o ↦ rw (swapped_here place out into i e, swapped_other place out into j o.0)
            (b.parted out j out_in o.1 (ok.both_ways j out (apart j n
            (ok.both_ways into j (let P : ℕ → Type 0 = λ k. Apart line k j in subst P e a)))))
      ]
      | inr o ↦ elim (cases j n) [
        | inl f ↦ rw (swapped_other place out into i o.0, swapped_here place out into j f)
            (b.parted i out o.1 out_in (apart i m (let P : ℕ → Type 0 = λ k. Apart line i k in subst P f a)))
        | inr q ↦ rw (swapped_other place out into i o.0, swapped_other place out into j q.0) (b.parted i j o.1 q.1 a)
      ]
    ];
    fits = λ s. omega (
      arith,
      b.fits s,
      weigh-swap (λ t. t) (λ i. has R i && nat_eq (place i).station s)
          (λ i. has S i && nat_eq (swapped place out into i).station s) out into line.times (set_R.tasks out out_in)
          refl less
          (λ i n e.
          let q : (has S i ≡ true) × (nat_eq (swapped place out into i).station s ≡ true) =
          and_parts (has S i) (nat_eq (swapped place out into i).station s) e in
          elim (cases i q.0) [
            | inl f ↦ absurd (n f)
            | inr o ↦ (
              and_from (has R i) (nat_eq (place i).station s) o.1
                  (ap (λ (p : Seatplace). nat_eq p.station s) (sym (swapped_other place out into i n)) ∙ q.1),
              o.2,
            )
          ])
          (λ e.
          let q : (has S into ≡ true) × (nat_eq (swapped place out into into).station s ≡ true) =
          and_parts (has S into) (nat_eq (swapped place out into into).station s) e in
          and_from (has R out) (nat_eq (place out).station s) out_in
          (ap (λ (p : Seatplace). nat_eq p.station s) (sym (swapped_here place out into into refl)) ∙ q.1)),
    );
  }
