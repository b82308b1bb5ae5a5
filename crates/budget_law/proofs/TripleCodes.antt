-- A set and a load of it as a number: its digits say what each task is to them.
use Rattle.std.proofs.Common.{◌≡◌, ℕ, zero, suc, ◌+◌, ◌*◌, ◌^◌, ◌<◌, ◌≤◌, true, false, Bool, cond, List, refl, sym, ap}
use Rattle.std.proofs.Common.{◌∙◌, inl, inr, arith}
use Rattle.std.specs.Prelude.{nat_eq, nat_lt}
use Rattle.std.proofs.Math.Nat.{mul-le-mul_left, pow-succ', pow-zero}
use Rattle.std.proofs.lemmas.Bool.{cases_order, cases_eq, cases_Bool, false≢true}
use Rattle.line_instance.specs.Truths.{In, IsEmpty}
use Rattle.line_instance.proofs.Members.{In-union_left, In-union_right, In-union_cases}
use Rattle.line_instance.specs.Line.{Line, has}
use Rattle.line_rules.specs.Loads.{IsLoad, Belongs, taken}
use Rattle.line_rules.specs.declared.types.LineKind.{LineKind}
use Rattle.line_rules.specs.declared.types.LineKind.TheVariants.{Straight, U}
use Rattle.line_rules.specs.declared.types.Mode.{Mode}
use Rattle.line_rules.specs.declared.types.Mode.TheVariants as mode
use Rattle.line_rules.specs.declared.types.Load.{Load}
use Rattle.budget_law.specs.Budget.{states}
use Rattle.line_instance.proofs.Sums.{same_truth}

-- numbers with a lower part below b: equal ones have equal parts
pub low : (b x y u v : ℕ) → x < b → y < b → x + b * u ≡ y + b * v → (x ≡ y) × (u ≡ v)
low b x y u v p q e = elim (cases_order u v) [
  | inl s ↦ (omega (arith, e, ap (λ (z : ℕ). b * z) s), s)
  | inr d ↦ elim d [
    | inl l ↦ (let m : b * suc u ≤ b * v = mul-le-mul_left b l in absurd (omega (arith, e, m, p, q)))
    | inr l ↦ (let m : b * suc v ≤ b * u = mul-le-mul_left b l in absurd (omega (arith, e, m, p, q)))
  ]
]

-- the number with the digits f 0 .. f (n - 1) in base b, the last one lowest
pub code : ℕ → (ℕ → ℕ) → ℕ → ℕ
code b f zero = 0
code b f (suc n) = f n + b * code b f n

pub code_same : (b : ℕ) (f g : ℕ → ℕ) (n : ℕ) → ((i : ℕ) → f i < b) → ((i : ℕ) → g i < b) → code b f n ≡ code b g n
    → (i : ℕ) → i < n → f i ≡ g i
unfolding code
code_same b f g zero p q e i l = absurd (omega (arith, l))
code_same b f g (suc n) p q e i l =
    let r : (f n ≡ g n) × (code b f n ≡ code b g n) = low b (f n) (g n) (code b f n) (code b g n) (p n) (q n) e in
    elim (cases_eq i n) [
      | inl s ↦ ap f s ∙ (r.0 ∙ ap g (sym s))
      | inr d ↦ code_same b f g n p q r.1 i (omega arith)
    ]

pub code_lt : (b : ℕ) (f : ℕ → ℕ) (n : ℕ) → ((i : ℕ) → f i < b) → code b f n < b ^ n
unfolding code
code_lt b f zero p = omega (arith, pow-zero b)
code_lt b f (suc n) p =
    let m : b * suc (code b f n) ≤ b * b ^ n = mul-le-mul_left b (code_lt b f n p) in
    omega (arith, m, p n, pow-succ' b n)

-- the number with digits 0 alone
pub zero_code : (b n : ℕ) → code b (λ i. 0) n ≡ 0
unfolding code
zero_code b zero = refl
zero_code b (suc n) = omega (arith, zero_code b n, ap (λ (z : ℕ). b * z) (zero_code b n))

pub states_some : (kind : LineKind) → 0 < states kind
states_some Straight = omega arith
states_some U = omega arith

-- 0 outside the set, 1 left in it, 2 taken
abbrev pub three_digit : Bool → Bool → ℕ
three_digit member taken = cond member (cond taken 2 1) 0

-- 0 outside the set, 1 left in it, 2 taken in front, 3 taken at the back
abbrev pub four_digit : Bool → Bool → Bool → ℕ
four_digit member front back = cond member (cond front 2 (cond back 3 1)) 0

three_lt : (a b : Bool) → three_digit a b < 3
three_lt true true = omega arith
three_lt true false = omega arith
three_lt false b = omega arith

four_lt : (a b c : Bool) → four_digit a b c < 4
four_lt true true c = omega arith
four_lt true false true = omega arith
four_lt true false false = omega arith
four_lt false b c = omega arith

-- a digit tells the truths that it is made of
three_member : (a b : Bool) → a ≡ nat_lt 0 (three_digit a b)
three_member true true = refl
three_member true false = refl
three_member false b = refl

three_taken : (a b : Bool) → (b ≡ true → a ≡ true) → b ≡ nat_eq (three_digit a b) 2
three_taken true true p = refl
three_taken true false p = refl
three_taken false false p = refl
three_taken false true p = absurd (false≢true (p refl))

four_member : (a b c : Bool) → a ≡ nat_lt 0 (four_digit a b c)
four_member true true c = refl
four_member true false true = refl
four_member true false false = refl
four_member false b c = refl

four_front : (a b c : Bool) → (b ≡ true → a ≡ true) → b ≡ nat_eq (four_digit a b c) 2
four_front true true c p = refl
four_front true false true p = refl
four_front true false false p = refl
four_front false false c p = refl
four_front false true c p = absurd (false≢true (p refl))

four_back : (a b c : Bool) → (c ≡ true → a ≡ true) → (b ≡ true → c ≡ true → ⊥) → c ≡ nat_eq (four_digit a b c) 3
four_back true false true p q = refl
four_back true false false p q = refl
four_back true true false p q = refl
four_back true true true p q = absurd (q refl refl)
four_back false b false p q = refl
four_back false b true p q = absurd (false≢true (p refl))

-- what the task i is to the set and the load
pub digit : LineKind → List Bool → Load → ℕ → ℕ
digit Straight R l i = three_digit (has R i) (has (taken l) i)
digit U R l i = four_digit (has R i) (has l.front i) (has l.back i)

pub digit_lt : (kind : LineKind) (R : List Bool) (l : Load) (i : ℕ) → digit kind R l i < states kind
unfolding digit
digit_lt Straight R l i = three_lt (has R i) (has (taken l) i)
digit_lt U R l i = four_lt (has R i) (has l.front i) (has l.back i)

-- the digit of a task tells whether it is in the set
pub digit_member : (kind : LineKind) (R : List Bool) (l : Load) (i : ℕ) → has R i ≡ nat_lt 0 (digit kind R l i)
unfolding digit
digit_member Straight R l i = three_member (has R i) (has (taken l) i)
digit_member U R l i = four_member (has R i) (has l.front i) (has l.back i)

-- where the digits are equal, the task is in both sets or in none
pub members_alike : (kind : LineKind) (R S : List Bool) (l m : Load) (i : ℕ) → digit kind R l i ≡ digit kind S m i
    → has R i ≡ has S i
members_alike kind R S l m i e = digit_member kind R l i
    ∙ (ap (λ (d : ℕ). nat_lt 0 d) e ∙ sym (digit_member kind S m i))

-- a task of the set has a digit above 0
pub digit_some : (kind : LineKind) (R : List Bool) (l : Load) (i : ℕ) → In R i → digit kind R l i ≡ 0 → ⊥
digit_some kind R l i m e = false≢true (sym (ap (λ (d : ℕ). nat_lt 0 d) e) ∙ (sym (digit_member kind R l i) ∙ m))

empty_at : (s : List Bool) (i : ℕ) → IsEmpty s → has s i ≡ false
empty_at s i n = elim (cases_Bool (has s i)) [ inl t ↦ absurd (n i t) | inr f ↦ f ]

front_is : (l : Load) (i : ℕ) → IsEmpty l.back → has l.front i ≡ has (taken l) i
front_is l i n = same_truth (has l.front i) (has (taken l) i) (λ f. In-union_left l.front l.back i f)
    (λ t. elim (In-union_cases l.front l.back i t) [ inl f ↦ f | inr b ↦ absurd (n i b) ])

back_is : (l : Load) (i : ℕ) → IsEmpty l.front → has l.back i ≡ has (taken l) i
back_is l i n = same_truth (has l.back i) (has (taken l) i) (λ b. In-union_right l.front l.back i b)
    (λ t. elim (In-union_cases l.front l.back i t) [ inl f ↦ absurd (n i f) | inr b ↦ b ])

-- two loads have a task alike: both in front, both at the back, or neither
pub record Alike (l m : Load) (i : ℕ) : Type 0 where
  pub front : has l.front i ≡ has m.front i
  pub back : has l.back i ≡ has m.back i

module _ (line : Line) (X : ℕ) (R : List Bool) (l m : Load) (i : ℕ) where
  straight_alike : (mode : Mode) → Belongs Straight mode → IsLoad line X mode R l → IsLoad line X mode R m
      → has (taken l) i ≡ has (taken m) i → Alike l m i
  straight_alike mode.Fore b p q e = record {
    front = front_is l i p.suits ∙ (e ∙ sym (front_is m i q.suits));
    back = empty_at l.back i p.suits ∙ sym (empty_at m.back i q.suits);
  }
  straight_alike mode.Back b p q e = record {
    front = empty_at l.front i p.suits ∙ sym (empty_at m.front i q.suits);
    back = back_is l i p.suits ∙ (e ∙ sym (back_is m i q.suits));
  }
  straight_alike mode.Both b p q e = absurd b

  -- loads of one set and mode with equal digits at a task have it alike
  pub loads_alike : (kind : LineKind) (mode : Mode) → Belongs kind mode → IsLoad line X mode R l
      → IsLoad line X mode R m → digit kind R l i ≡ digit kind R m i → Alike l m i
  unfolding digit
  loads_alike Straight mode b p q e =
      straight_alike mode b p q (three_taken (has R i) (has (taken l) i) (λ t. p.within i t)
      ∙ (ap (λ (d : ℕ). nat_eq d 2) e ∙ sym (three_taken (has R i) (has (taken m) i) (λ t. q.within i t))))
  loads_alike U mode b p q e = record {
    front = four_front (has R i) (has l.front i) (has l.back i) (λ t. p.within i (In-union_left l.front l.back i t))
        ∙ (ap (λ (d : ℕ). nat_eq d 2) e ∙ sym (four_front (has R i) (has m.front i) (has m.back i)
        (λ t. q.within i (In-union_left m.front m.back i t))));
    back = four_back (has R i) (has l.front i) (has l.back i) (λ t. p.within i (In-union_right l.front l.back i t))
        (λ t u. p.disjoint i t u)
        ∙ (ap (λ (d : ℕ). nat_eq d 3) e ∙ sym (four_back (has R i) (has m.front i) (has m.back i)
        (λ t. q.within i (In-union_right m.front m.back i t)) (λ t u. q.disjoint i t u)));
  }
