-- Sums and greatest values over the members of a set, from the list of the members.
use Rattle.std.proofs.Common.{◌≡◌, ℕ, zero, suc, ◌+◌, ◌<◌, ◌≤◌, max, Bool, true, false, cond, List, [], ◌∷◌, length}
use Rattle.std.proofs.Common.{get_or, refl, sym, ap, ◌∙◌, subst, inl, inr, arith}
use Rattle.std.proofs.lemmas.Bool.{false≢true, cases_lt}
use Rattle.line_instance.specs.Truths.{In, members_from, members_of}
use Rattle.line_instance.proofs.ListedMembers.{none_from}
use Rattle.line_instance.specs.Line.{has}
use Rattle.line_instance.specs.Sums.{weigh}
use Rattle.line_instance.proofs.Sums.{weigh-none}
use Rattle.line_rules.specs.Bounds.{greatest_below}
use Rattle.line_rules.proofs.BoundIsTrue.{cond_le, greatest_le}

-- the weights of the times of the listed tasks
abbrev pub weight_of : (ℕ → ℕ) → List ℕ → List ℕ → ℕ
weight_of w ts [] = 0
weight_of w ts (i ∷ is) = w (get_or ts i 0) + weight_of w ts is

-- the greatest value of f at the listed tasks
abbrev pub greatest_of : (ℕ → ℕ) → List ℕ → ℕ
greatest_of f [] = 0
greatest_of f (i ∷ is) = max (f i) (greatest_of f is)

-- each listed task is in s
abbrev pub AllIn : List Bool → List ℕ → Type 0
AllIn s [] = Unit {0}
AllIn s (i ∷ is) = In s i × AllIn s is

weights_from : (w : ℕ → ℕ) (k : ℕ) (all ts : List ℕ) (s : List Bool) → ((i : ℕ) → get_or ts i 0 ≡ get_or all (k + i) 0)
    → ((i : ℕ) → In s i → i < length ts)
    → weight_of w all (members_from k s) ≡ weigh w (has s) ts
unfolding members_from
weights_from w k all ts [] same h = sym (weigh-none w (has []) (λ i. refl) ts)
weights_from w k all [] (b ∷ bs) same h =
    let none : members_from k (b ∷ bs) ≡ [] = none_from k (b ∷ bs) (λ i m. omega (arith, h i m)) in
    ap (weight_of w all) none
weights_from w k all (t ∷ ts) (true ∷ bs) same h =
    let first : t ≡ get_or all k 0 = same 0 ∙ ap (λ n. get_or all n 0) (omega arith) in
    let more : weight_of w all (members_from (suc k) bs) ≡ weigh w (has bs) ts =
    weights_from w (suc k) all ts bs (λ i. same (suc i) ∙ ap (λ n. get_or all n 0) (omega arith))
    (λ i m. omega (arith, h (suc i) m)) in
    let e : w t ≡ w (get_or all k 0) = ap w first in
    omega (arith, e, more)
weights_from w k all (t ∷ ts) (false ∷ bs) same h =
    omega (
      arith,
      weights_from w (suc k) all ts bs (λ i. same (suc i) ∙ ap (λ n. get_or all n 0) (omega arith))
          (λ i m. omega (arith, h (suc i) m)),
    )

-- what the members weigh is what the set weighs
pub weight_listed : (w : ℕ → ℕ) (ts : List ℕ) (s : List Bool) → ((i : ℕ) → In s i → i < length ts)
    → weight_of w ts (members_of s) ≡ weigh w (has s) ts
weight_listed w ts s h = weights_from w 0 ts ts s (λ i. ap (λ k. get_or ts k 0) (omega arith)) h

-- the next member gives its weight over to what was weighed
pub weight_turn : (w : ℕ → ℕ) (ts left more : List ℕ) (i so_far all : ℕ) → left ≡ i ∷ more
    → so_far + weight_of w ts left ≡ all → (so_far + w (get_or ts i 0)) + weight_of w ts more ≡ all
weight_turn w ts left more i so_far all e h =
    let f : weight_of w ts left ≡ w (get_or ts i 0) + weight_of w ts more = ap (weight_of w ts) e in
    omega (arith, f, h)

pub weight_end : (w : ℕ → ℕ) (ts left : List ℕ) (so_far all : ℕ) → left ≡ [] → so_far + weight_of w ts left ≡ all
    → so_far ≡ all
weight_end w ts left so_far all e h = let f : weight_of w ts left ≡ 0 = ap (weight_of w ts) e in omega (arith, f, h)

all_in_from : (k : ℕ) (all s : List Bool) → ((i : ℕ) → In s i → In all (k + i)) → AllIn all (members_from k s)
unfolding members_from
all_in_from k all [] h = tt
all_in_from k all (true ∷ bs) h =
    let P : ℕ → Type 0 = λ n. In all n in
    let first : k + 0 ≡ k = omega arith in (
      subst P first (h 0 refl),
      all_in_from (suc k) all bs (λ i m. let e : k + suc i ≡ suc k + i = omega arith in
          subst P e (h (suc i) m)),
    )
all_in_from k all (false ∷ bs) h =
    let P : ℕ → Type 0 = λ n. In all n in
    all_in_from (suc k) all bs (λ i m. let e : k + suc i ≡ suc k + i = omega arith in subst P e (h (suc i) m))

-- the listed members are members, and so are the next one and those behind it
pub all_in : (s : List Bool) → AllIn s (members_of s)
all_in s = all_in_from 0 s s (λ i m. let P : ℕ → Type 0 = λ k. In s k in let e : i ≡ 0 + i = omega arith in subst P e m)

pub all_in_turn : (s : List Bool) (left more : List ℕ) (i : ℕ) → left ≡ i ∷ more → AllIn s left → In s i × AllIn s more
all_in_turn s left more i e h = let P : List ℕ → Type 0 = λ l. AllIn s l in subst P e h

-- f is at most r at each listed task where it is at each member, and at most its greatest value there
greatest_least : (f : ℕ → ℕ) (r : ℕ) (s : List Bool) (is : List ℕ) → AllIn s is → ((j : ℕ) → In s j → f j ≤ r)
    → greatest_of f is ≤ r
greatest_least f r s [] m h = omega arith
greatest_least f r s (i ∷ is) m h = omega (arith, h i m.0, greatest_least f r s is m.1 h)

greatest_from : (f : ℕ → ℕ) (k : ℕ) (s : List Bool) (i : ℕ) → In s i → f (k + i) ≤ greatest_of f (members_from k s)
unfolding members_from
greatest_from f k [] i m = absurd (false≢true m)
greatest_from f k (true ∷ bs) zero m = let e : f (k + 0) ≡ f k = ap f (omega arith) in omega (arith, e)
greatest_from f k (false ∷ bs) zero m = absurd (false≢true m)
greatest_from f k (true ∷ bs) (suc i) m = let e : f (k + suc i) ≡ f (suc k + i) = ap f (omega arith) in
    omega (arith, e, greatest_from f (suc k) bs i m)
greatest_from f k (false ∷ bs) (suc i) m = let e : f (k + suc i) ≡ f (suc k + i) = ap f (omega arith) in
    omega (arith, e, greatest_from f (suc k) bs i m)

pub below_at : (n : ℕ) (f : ℕ → ℕ) (j : ℕ) → j < n → f j ≤ greatest_below n f
below_at zero f j l = absurd (omega arith)
below_at (suc n) f j l = elim (cases_lt j n) [
  | inl k ↦ omega (arith, below_at n f j k)
  | inr g ↦ (let e : f j ≡ f n = ap f (omega arith) in omega (arith, e))
]

-- the greatest value at a member, by going over the list or over all numbers below n
pub greatest_listed : (n : ℕ) (f : ℕ → ℕ) (s : List Bool) → ((i : ℕ) → In s i → i < n)
    → greatest_of f (members_of s) ≡ greatest_below n (λ j. cond (has s j) (f j) 0)
greatest_listed n f s h =
    let over : ℕ = greatest_below n (λ j. cond (has s j) (f j) 0) in
    let at_most : greatest_of f (members_of s) ≤ over = greatest_least f over s (members_of s) (all_in s)
    (λ j m. let e : cond (has s j) (f j) 0 ≡ f j = ap (λ b. cond b (f j) 0) m in
    omega (arith, e, below_at n (λ i. cond (has s i) (f i) 0) j (h j m))) in
    let at_least : over ≤ greatest_of f (members_of s) = greatest_le n (λ j. cond (has s j) (f j) 0)
    (greatest_of f (members_of s))
    (λ j. cond_le (has s j) (f j) (greatest_of f (members_of s))
    (λ m. let e : f (0 + j) ≡ f j = ap f (omega arith) in omega (arith, e, greatest_from f 0 s j m))) in
    omega (arith, at_most, at_least)

-- the next member, whose value may be greater than what was found
pub greatest_turn : (f : ℕ → ℕ) (left more : List ℕ) (i so_far all : ℕ) → left ≡ i ∷ more
    → max so_far (greatest_of f left) ≡ all → max (max so_far (f i)) (greatest_of f more) ≡ all
greatest_turn f left more i so_far all e h =
    let g : greatest_of f left ≡ max (f i) (greatest_of f more) = ap (greatest_of f) e in
    omega (arith, g, h)

pub greatest_end : (f : ℕ → ℕ) (left : List ℕ) (so_far all : ℕ) → left ≡ [] → max so_far (greatest_of f left) ≡ all
    → so_far ≡ all
greatest_end f left so_far all e h = let g : greatest_of f left ≡ 0 = ap (greatest_of f) e in omega (arith, g, h)

-- what a walk over the members starts with
pub weight_start : (w : ℕ → ℕ) (ts left : List ℕ) (s : List Bool) → ((i : ℕ) → In s i → i < length ts)
    → left ≡ members_of s → 0 + weight_of w ts left ≡ weigh w (has s) ts
weight_start w ts left s h e = let f : weight_of w ts left ≡ weight_of w ts (members_of s) = ap (weight_of w ts) e in
    omega (arith, f, weight_listed w ts s h)

pub all_in_start : (s : List Bool) (left : List ℕ) → left ≡ members_of s → AllIn s left
all_in_start s left e = let P : List ℕ → Type 0 = λ l. AllIn s l in subst P (sym e) (all_in s)

-- where no member weighs anything, the set weighs nothing
pub weightless : (w : ℕ → ℕ) (p : ℕ → Bool) (ts : List ℕ) → ((i : ℕ) → i < length ts → p i ≡ true
    → w (get_or ts i 0) ≡ 0) → weigh w p ts ≡ 0
weightless w p [] h = refl
weightless w p (t ∷ ts) h = omega (
  arith,
  cond_le (p 0) (w t) 0 (λ e. omega (arith, h 0 (omega arith) e)),
  weightless w (λ i. p (suc i)) ts (λ i l e. h (suc i) (omega arith) e),
)
