-- Lemmas on sums over the tasks that a test picks.
use Rattle.std.proofs.Common.{◌≡◌, ◌≢◌, ℕ, zero, suc, ◌+◌, ◌*◌, ◌<◌, ◌≤◌, Bool, true, false, cond, ◌&&◌, not, nat_eq}
use Rattle.std.proofs.Common.{nat_lt, take, List, [], ◌∷◌, length, get_or, refl, sym, ap, ◌⊎◌, inl, inr, arith}
use Rattle.std.proofs.Common.{zero-add}
use Rattle.line_instance.specs.Sums.{weigh, sum_where}
use Rattle.line_instance.specs.Line.{has}
use Rattle.line_instance.specs.Truths.{In, IsGreatestBelow}
use Rattle.std.proofs.lemmas.Bool.{false≢true, and_parts, and_from, not-true, cases_Bool, eqb-false, ltb-true, lt-ltb}

cond_le : (t : ℕ) (a b : Bool) → (a ≡ true → b ≡ true) → cond a t 0 ≤ cond b t 0
cond_le t true true h = omega arith
cond_le t true false h = absurd (false≢true (h refl))
cond_le t false b h = omega arith

-- more tasks have more weight
pub weigh-le : (w : ℕ → ℕ) (p q : ℕ → Bool) → ((i : ℕ) → p i ≡ true → q i ≡ true) → (ts : List ℕ)
    → weigh w p ts ≤ weigh w q ts
weigh-le w p q h [] = omega arith
weigh-le w p q h (t ∷ ts) =
    omega (arith, cond_le (w t) (p 0) (q 0) (h 0), weigh-le w (λ i. p (suc i)) (λ i. q (suc i)) (λ i. h (suc i)) ts)

pub sum_where-le : (p q : ℕ → Bool) → ((i : ℕ) → p i ≡ true → q i ≡ true) → (ts : List ℕ)
    → sum_where p ts ≤ sum_where q ts
sum_where-le = weigh-le (λ t. t)

pub weigh-none : (w : ℕ → ℕ) (p : ℕ → Bool) → ((i : ℕ) → p i ≡ false) → (ts : List ℕ) → weigh w p ts ≡ 0
weigh-none w p h [] = refl
weigh-none w p h (t ∷ ts) =
    let e : cond (p 0) (w t) 0 ≡ 0 = ap (λ b. cond b (w t) 0) (h 0) in
    omega (arith, e, weigh-none w (λ i. p (suc i)) (λ i. h (suc i)) ts)

cond_split : (t : ℕ) (a b : Bool) → cond a t 0 ≡ cond (a && b) t 0 + cond (a && not b) t 0
cond_split t true true = omega arith
cond_split t true false = omega arith
cond_split t false b = omega arith

pub weigh-split : (w : ℕ → ℕ) (p q : ℕ → Bool) (ts : List ℕ)
    → weigh w p ts ≡ weigh w (λ i. p i && q i) ts + weigh w (λ i. p i && not (q i)) ts
weigh-split w p q [] = refl
weigh-split w p q (t ∷ ts) = omega (
  arith,
  cond_split (w t) (p 0) (q 0),
  weigh-split w (λ i. p (suc i)) (λ i. q (suc i)) ts,
)

-- the weight of one task
pub weigh-one : (w : ℕ → ℕ) (p : ℕ → Bool) (i : ℕ) (ts : List ℕ) → i < length ts → p i ≡ true
    → w (get_or ts i 0) ≤ weigh w p ts
weigh-one w p i [] l e = omega arith
weigh-one w p zero (t ∷ ts) l e = let h : cond (p 0) (w t) 0 ≡ w t = ap (λ b. cond b (w t) 0) e in omega (arith, h)
weigh-one w p (suc i) (t ∷ ts) l e = omega (arith, weigh-one w (λ k. p (suc k)) i ts (omega arith) e)

-- tasks at m stations, each of which holds weight k at most, weigh m * k at most
pub weigh-stations : (w : ℕ → ℕ) (ts : List ℕ) (at : ℕ → ℕ) (k a m : ℕ) (p : ℕ → Bool)
    → ((i : ℕ) → p i ≡ true → (a < at i) × (at i ≤ a + m))
    → ((s : ℕ) → weigh w (λ i. p i && nat_eq (at i) s) ts ≤ k) → weigh w p ts ≤ m * k
weigh-stations w ts at k a zero p h f = omega (
  arith,
  weigh-none w p
      (λ i. elim (cases_Bool (p i)) [ inl t ↦ absurd (omega (arith, h i t)) | inr n ↦ n ]) ts,
)
weigh-stations w ts at k a (suc m) p h f =
    let rest : weigh w (λ i. p i && not (nat_eq (at i) (a + suc m))) ts ≤ m * k =
    weigh-stations w ts at k a m (λ i. p i && not (nat_eq (at i) (a + suc m)))
    (λ i e. let q : (p i ≡ true) × (not (nat_eq (at i) (a + suc m)) ≡ true) =
    and_parts (p i) (not (nat_eq (at i) (a + suc m))) e in
    let n : at i ≢ a + suc m = eqb-false (at i) (a + suc m) (not-true (nat_eq (at i) (a + suc m)) q.1) in
    omega (arith, h i q.0, n))
    (λ s. omega (
      arith,
      f s,
      weigh-le w (λ i. (p i && not (nat_eq (at i) (a + suc m))) && nat_eq (at i) s) (λ i. p i && nat_eq (at i) s)
          (λ i e. let q : ((p i && not (nat_eq (at i) (a + suc m))) ≡ true) × (nat_eq (at i) s ≡ true) =
          and_parts (p i && not (nat_eq (at i) (a + suc m))) (nat_eq (at i) s) e in
          and_from (p i) (nat_eq (at i) s) (and_parts (p i) (not (nat_eq (at i) (a + suc m))) q.0).0 q.1) ts,
    )) in
    omega (arith, rest, f (a + suc m), weigh-split w p (λ i. nat_eq (at i) (a + suc m)) ts)

-- weights that join to no less weigh no more than their whole
joined_more : (w : ℕ → ℕ) (c : ℕ) → ((a b : ℕ) → a + b ≤ c → w a + w b ≤ w (a + b)) → (b : Bool) (t s x : ℕ) → x ≤ w s
    → cond b t 0 + s ≤ c → cond b (w t) 0 + x ≤ w (cond b t 0 + s)
joined_more w c h true t s x e l = omega (arith, h t s l)
joined_more w c h false t s x e l = rw (zero-add, zero-add) e

pub weigh-joined : (w : ℕ → ℕ) (c : ℕ) → ((a b : ℕ) → a + b ≤ c → w a + w b ≤ w (a + b)) → (p : ℕ → Bool) (ts : List ℕ)
    → sum_where p ts ≤ c → weigh w p ts ≤ w (sum_where p ts)
weigh-joined w c h p [] l = omega arith
weigh-joined w c h p (t ∷ ts) l =
    let m : sum_where (λ i. p (suc i)) ts ≤ c = omega arith in
    joined_more w c h (p 0) t (sum_where (λ i. p (suc i)) ts) (weigh w (λ i. p (suc i)) ts)
    (weigh-joined w c h (λ i. p (suc i)) ts m) l

-- where a proof of ⊥ is wanted, any fact may be taken to hold or not
pub by_cases : (P : Type 0) → (P ⊎ (P → ⊥) → ⊥) → ⊥
by_cases P k = k (inr (λ p. k (inl p)))

-- one task more
pub weigh-take : (w : ℕ → ℕ) (p : ℕ → Bool) (i : ℕ) (ts : List ℕ) → i < length ts
    → weigh w p (take (suc i) ts) ≡ weigh w p (take i ts) + cond (p i) (w (get_or ts i 0)) 0
weigh-take w p i [] l = absurd (omega arith)
weigh-take w p zero (t ∷ ts) l = omega arith
weigh-take w p (suc i) (t ∷ ts) l = omega (arith, weigh-take w (λ k. p (suc k)) i ts (omega arith))

-- the same picks weigh the same
pub weigh-same : (w : ℕ → ℕ) (p q : ℕ → Bool) → ((i : ℕ) → p i ≡ q i) → (ts : List ℕ) → weigh w p ts ≡ weigh w q ts
weigh-same w p q h [] = refl
weigh-same w p q h (t ∷ ts) =
    let e : cond (p 0) (w t) 0 ≡ cond (q 0) (w t) 0 = ap (λ b. cond b (w t) 0) (h 0) in
    omega (arith, e, weigh-same w (λ i. p (suc i)) (λ i. q (suc i)) (λ i. h (suc i)) ts)

-- one pick more
pub weigh-more : (w : ℕ → ℕ) (p q : ℕ → Bool) (t : ℕ) → q t ≡ false → ((i : ℕ) → (i ≡ t → ⊥) → p i ≡ q i)
    → (ts : List ℕ) → t < length ts → weigh w p ts ≡ weigh w q ts + cond (p t) (w (get_or ts t 0)) 0
weigh-more w p q t n h [] l = absurd (omega arith)
weigh-more w p q zero n h (x ∷ ts) l =
    let none : cond (q 0) (w x) 0 ≡ 0 = ap (λ b. cond b (w x) 0) n in
    omega (arith, none, weigh-same w (λ i. p (suc i)) (λ i. q (suc i)) (λ i. h (suc i) (λ e. omega arith)) ts)
weigh-more w p q (suc t) n h (x ∷ ts) l =
    let e : cond (p 0) (w x) 0 ≡ cond (q 0) (w x) 0 = ap (λ b. cond b (w x) 0) (h 0 (λ z. omega arith)) in
    omega (
      arith,
      e,
      weigh-more w (λ i. p (suc i)) (λ i. q (suc i)) t n (λ i m. h (suc i) (λ z. m (omega arith))) ts
          (omega arith),
    )

cond_most : (b : Bool) (x m : ℕ) → x ≤ m → cond b x 0 ≤ m
cond_most true x m l = l
cond_most false x m l = omega arith

-- each weight is at most m
pub weigh-most : (w : ℕ → ℕ) (p : ℕ → Bool) (m : ℕ) (ts : List ℕ) → ((i : ℕ) → i < length ts → w (get_or ts i 0) ≤ m)
    → weigh w p ts ≤ length ts * m
weigh-most w p m [] h = omega arith
weigh-most w p m (t ∷ ts) h = omega (
  arith,
  cond_most (p 0) (w t) m (h 0 (omega arith)),
  weigh-most w (λ i. p (suc i)) m ts (λ i l. h (suc i) (omega arith)),
)

-- whether i is a member of s below b
abbrev pub below : List Bool → ℕ → ℕ → Bool
below s b i = has s i && nat_lt i b

pub below_true : (s : List Bool) (b i : ℕ) → In s i → i < b → below s b i ≡ true
below_true s b i m l = and_from (has s i) (nat_lt i b) m (lt-ltb i b l)

pub below_parts : (s : List Bool) (b i : ℕ) → below s b i ≡ true → In s i × (i < b)
below_parts s b i e =
    let q : (has s i ≡ true) × (nat_lt i b ≡ true) = and_parts (has s i) (nat_lt i b) e in
    (q.0, ltb-true i b q.1)

pub below_false : (s : List Bool) (b i : ℕ) → (In s i → i < b → ⊥) → below s b i ≡ false
below_false s b i n = elim (cases_Bool (below s b i)) [
  | inl y ↦ (let q : In s i × (i < b) = below_parts s b i y in absurd (n q.0 q.1))
  | inr f ↦ f
]

pub same_truth : (a b : Bool) → (a ≡ true → b ≡ true) → (b ≡ true → a ≡ true) → a ≡ b
same_truth true b h k = sym (h refl)
same_truth false true h k = k refl
same_truth false false h k = refl

-- all members are below b
pub sum-all : (s : List Bool) (ts : List ℕ) (b : ℕ) → ((i : ℕ) → In s i → i < b)
    → sum_where (below s b) ts ≡ sum_where (has s) ts
sum-all s ts b h = weigh-same (λ t. t) (below s b) (has s) (λ i.
    same_truth (below s b i) (has s i) (λ e. (below_parts s b i e).0) (λ m. below_true s b i m (h i m))) ts

-- no member is below b
pub sum-none : (s : List Bool) (ts : List ℕ) (b : ℕ) → ((i : ℕ) → In s i → b ≤ i) → sum_where (below s b) ts ≡ 0
sum-none s ts b h = weigh-none (λ t. t) (below s b) (λ i. below_false s b i (λ m l. omega (arith, h i m))) ts

-- the greatest member below b joins what is below it
pub sum-next : (s : List Bool) (ts : List ℕ) (b j : ℕ) → IsGreatestBelow s b j → j < length ts
    → sum_where (below s b) ts ≡ sum_where (below s j) ts + get_or ts j 0
sum-next s ts b j g l =
    let here : below s b j ≡ true = below_true s b j g.member g.below in
    let gone : below s j j ≡ false = below_false s j j (λ m k. omega arith) in
    let same : (i : ℕ) → (i ≡ j → ⊥) → below s b i ≡ below s j i = λ i n. same_truth (below s b i) (below s j i)
    (λ e. let q : In s i × (i < b) = below_parts s b i e in
    below_true s j i q.0 (omega (arith, n, q.1, g.greatest i q.0 q.1)))
    (λ e. let q : In s i × (i < j) = below_parts s j i e in below_true s b i q.0 (omega (arith, q.1, g.below))) in
    let c : cond (below s b j) (get_or ts j 0) 0 ≡ get_or ts j 0 = ap (λ x. cond x (get_or ts j 0) 0) here in
    omega (arith, c, weigh-more (λ t. t) (below s b) (below s j) j gone same ts l)
