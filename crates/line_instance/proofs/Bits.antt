use Rattle.std.proofs.Common.{◌≡◌, ◌≢◌, ℕ, zero, suc, ◌+◌, ◌-◌, ◌*◌, ◌^◌, ◌/◌, ◌%◌, ◌<◌, ◌≤◌, min, max, Bool, true}
use Rattle.std.proofs.Common.{false, cond, ◌&&◌, ◌||◌, not, eqb, List, [], ◌∷◌, length, get_or, set, map, replicate}
use Rattle.std.proofs.Common.{refl, sym, ap, ◌∙◌, inl, inr, arith, bit_or, bit_and, w64}
use Rattle.line_instance.specs.Truths.{meet, In, union, minus, truth_at, truths_of, AreWords, IsEmpty, IsLeast}
use Rattle.std.specs.Int.{bit_at}
use Rattle.std.proofs.lemmas.List.{ext_get_or, get_or-set_same, get_or-set_other, length-set, get_or-replicate}
use Rattle.std.proofs.lemmas.Bool.{cases_eq, cases_Bool}
use Rattle.std.proofs.lemmas.Bool.Decides.{nat_tests}
use Rattle.std.proofs.lemmas.Nat.Bits.{bit_at_or, bit_at_and, bit_at-lt}
use Rattle.std.proofs.lemmas.Simd.{get_or-zip2}
use lib.Lanes.{zip2}
use Rattle.line_instance.specs.inner.Words.{length-truths, get_or-truths, word_at, word_same}
use Rattle.std.specs.Int.{bit_not, trailing_zeros}
use Rattle.std.specs.Int.Bits.{or_zero_l}
use Rattle.std.proofs.lemmas.Nat.{le_or_l, le_or_r}
use Rattle.std.proofs.lemmas.Nat.Bits.{bit_at_not, bit_at-trailing_zeros, bit_at-zero}
use Rattle.std.proofs.lemmas.Bool.{cases_lt, eqb-true, false≢true}
use Rattle.std.proofs.lemmas.List.{get_or_past, set_past}
use lib.Lanes.{fold_l, mask_l}
use Rattle.line_instance.specs.Truths.{IsSubset, count}
use Rattle.std.specs.Prelude.{count_ones}
use Rattle.std.proofs.lemmas.Bool.{and_parts, not-true, and_right}
use Rattle.std.proofs.Common.{take, drop}
use Rattle.std.proofs.lemmas.List.{length-replicate, map-id}
use Rattle.std.proofs.lemmas.List.Sums.{sum_by-append}
use Rattle.std.proofs.lemmas.Simd.{ones-mask_l}
use Rattle.std.proofs.Common.{take-add}

-- truths are equal where they are as long and alike at each place
pub truths_same : (ws : List ℕ) (ts : List Bool) → length ts ≡ 1024
    → ((i : ℕ) → i < 1024 → truth_at ws i ≡ get_or ts i false) → truths_of ws ≡ ts
truths_same ws ts e h =
    ext_get_or false (truths_of ws) ts (length-truths ws ∙ sym e)
    (λ i l. let k : i < 1024 = omega (arith, length-truths ws) in get_or-truths ws i k ∙ h i k)

or_false : (b : Bool) → (b || false) ≡ b
or_false true = refl
or_false false = refl

pub get_or-union : (xs ys : List Bool) (i : ℕ) → get_or (union xs ys) i false ≡ (get_or xs i false || get_or ys i false)
get_or-union [] ys i = refl
get_or-union (x ∷ xs) [] i = sym (or_false (get_or (x ∷ xs) i false))
get_or-union (x ∷ xs) (y ∷ ys) zero = refl
get_or-union (x ∷ xs) (y ∷ ys) (suc i) = get_or-union xs ys i

and_true : (b : Bool) → (b && true) ≡ b
and_true true = refl
and_true false = refl

pub get_or-minus : (xs ys : List Bool) (i : ℕ) → get_or (minus xs ys) i false
    ≡ (get_or xs i false && not (get_or ys i false))
get_or-minus [] ys i = refl
get_or-minus (x ∷ xs) [] i = sym (and_true (get_or (x ∷ xs) i false))
get_or-minus (x ∷ xs) (y ∷ ys) zero = refl
get_or-minus (x ∷ xs) (y ∷ ys) (suc i) = get_or-minus xs ys i

pub length-union : (xs ys : List Bool) → length xs ≡ length ys → length (union xs ys) ≡ length xs
length-union [] [] e = refl
length-union [] (y ∷ ys) e = sym e
length-union (x ∷ xs) [] e = refl
length-union (x ∷ xs) (y ∷ ys) e = ap suc (length-union xs ys (omega arith))

pub length-minus : (xs ys : List Bool) → length (minus xs ys) ≡ length xs
length-minus [] ys = refl
length-minus (x ∷ xs) [] = refl
length-minus (x ∷ xs) (y ∷ ys) = ap suc (length-minus xs ys)

or_bit : (x y : ℕ) → x < 2 → y < 2 → eqb (max x y) 1 ≡ (eqb x 1 || eqb y 1)
or_bit x y h k = grind (arith, nat_tests)

minus_bit : (x y : ℕ) → x < 2 → y < 2 → eqb (min x (1 - y)) 1 ≡ (eqb x 1 && not (eqb y 1))
minus_bit x y h k = grind (arith, nat_tests)

word_of : (i : ℕ) → i < 1024 → i / 64 < 16
word_of i h = omega arith

-- lane by lane, and truth by truth
module _ (f : ℕ → ℕ → ℕ) (g : Bool → Bool → Bool) (S : List Bool → List Bool → List Bool)
    (long : (xs ys : List Bool) → length xs ≡ length ys → length (S xs ys) ≡ length xs)
    (at : (xs ys : List Bool) (i : ℕ) → get_or (S xs ys) i false ≡ g (get_or xs i false) (get_or ys i false))
    (bit : (a b i : ℕ) → a < 2 ^ 64 → b < 2 ^ 64 → i < 64 → eqb (bit_at (f a b) i) 1
    ≡ g (eqb (bit_at a i) 1) (eqb (bit_at b i) 1)) where
  pub truths-zip2 : (ws vs : List ℕ) → AreWords ws → AreWords vs
      → truths_of (zip2 f ws vs) ≡ S (truths_of ws) (truths_of vs)
  truths-zip2 ws vs h k =
      truths_same (zip2 f ws vs) (S (truths_of ws) (truths_of vs))
      (long (truths_of ws) (truths_of vs) (length-truths ws ∙ sym (length-truths vs)) ∙ length-truths ws)
      (λ i l.
      let q : i / 64 < 16 = omega arith in
      let r : i % 64 < 64 = omega arith in
      let a : ℕ = get_or ws (i / 64) 0 in
      let b : ℕ = get_or vs (i / 64) 0 in
      ap (λ w. eqb (bit_at w (i % 64)) 1) (get_or-zip2 f ws vs (i / 64) 0 0 0 (omega (arith, h.sixteen))
      (omega (arith, k.sixteen)))
      ∙ bit a b (i % 64) (h.fit (i / 64)) (k.fit (i / 64)) r
      ∙ sym (at (truths_of ws) (truths_of vs) i ∙ rw (get_or-truths ws i l, get_or-truths vs i l)))

or_bits : (a b i : ℕ) → a < 2 ^ 64 → b < 2 ^ 64 → i < 64 → eqb (bit_at (bit_or a b) i) 1
    ≡ (eqb (bit_at a i) 1 || eqb (bit_at b i) 1)
or_bits a b i h k l = ap (λ w. eqb w 1) (bit_at_or a b i) ∙ or_bit (bit_at a i) (bit_at b i) (bit_at-lt a i)
    (bit_at-lt b i)

minus_bits : (a b i : ℕ) → a < 2 ^ 64 → b < 2 ^ 64 → i < 64
    → eqb (bit_at (bit_and a (bit_not w64 b)) i) 1 ≡ (eqb (bit_at a i) 1 && not (eqb (bit_at b i) 1))
minus_bits a b i h k l =
    ap (λ w. eqb w 1) (bit_at_and a (bit_not w64 b) i ∙ ap (λ w. min (bit_at a i) w) (bit_at_not w64 b i k l))
    ∙ minus_bit (bit_at a i) (bit_at b i) (bit_at-lt a i) (bit_at-lt b i)

pub truths-or : (ws vs : List ℕ) → AreWords ws → AreWords vs
    → truths_of (zip2 bit_or ws vs) ≡ union (truths_of ws) (truths_of vs)
truths-or = truths-zip2 bit_or (λ x y. x || y) union length-union get_or-union or_bits

zip2-not : (ws vs : List ℕ) → zip2 bit_and ws (map (bit_not w64) vs) ≡ zip2 (λ a b. bit_and a (bit_not w64 b)) ws vs
zip2-not [] vs = refl
zip2-not (w ∷ ws) [] = refl
zip2-not (w ∷ ws) (v ∷ vs) = ap (λ r. bit_and w (bit_not w64 v) ∷ r) (zip2-not ws vs)

pub truths-minus : (ws vs : List ℕ) → AreWords ws → AreWords vs
    → truths_of (zip2 bit_and ws (map (bit_not w64) vs)) ≡ minus (truths_of ws) (truths_of vs)
truths-minus ws vs h k =
    ap truths_of (zip2-not ws vs)
    ∙ truths-zip2 (λ a b. bit_and a (bit_not w64 b)) (λ x y. x && not y) minus (λ xs ys e. length-minus xs ys)
    get_or-minus minus_bits ws vs h k

pub get_or-meet : (xs ys : List Bool) (i : ℕ) → get_or (meet xs ys) i false ≡ (get_or xs i false && get_or ys i false)
get_or-meet [] ys i = refl
get_or-meet (x ∷ xs) [] i = sym (and_right (get_or (x ∷ xs) i false) false refl)
get_or-meet (x ∷ xs) (y ∷ ys) zero = refl
get_or-meet (x ∷ xs) (y ∷ ys) (suc i) = get_or-meet xs ys i

pub length-meet : (xs ys : List Bool) → length xs ≡ length ys → length (meet xs ys) ≡ length xs
length-meet [] ys e = refl
length-meet (x ∷ xs) [] e = sym e
length-meet (x ∷ xs) (y ∷ ys) e = ap suc (length-meet xs ys (omega arith))

and_bit : (x y : ℕ) → x < 2 → y < 2 → eqb (min x y) 1 ≡ (eqb x 1 && eqb y 1)
and_bit x y h k = grind (arith, nat_tests)

and_bits : (a b i : ℕ) → a < 2 ^ 64 → b < 2 ^ 64 → i < 64 → eqb (bit_at (bit_and a b) i) 1
    ≡ (eqb (bit_at a i) 1 && eqb (bit_at b i) 1)
and_bits a b i h k l = ap (λ w. eqb w 1) (bit_at_and a b i)
    ∙ and_bit (bit_at a i) (bit_at b i) (bit_at-lt a i) (bit_at-lt b i)

pub truths-and : (ws vs : List ℕ) → AreWords ws → AreWords vs
    → truths_of (zip2 bit_and ws vs) ≡ meet (truths_of ws) (truths_of vs)
truths-and = truths-zip2 bit_and (λ x y. x && y) meet length-meet get_or-meet and_bits

-- a word changed at one bit
module _ (ws : List ℕ) (h : AreWords ws) (i : ℕ) (within : i < 1024) (w : ℕ) (b : Bool)
    (here : eqb (bit_at w (i % 64)) 1 ≡ b)
    (there : (j : ℕ) → j < 64 → j ≢ i % 64 → bit_at w j ≡ bit_at (get_or ws (i / 64) 0) j) where
  elsewhere : (j : ℕ) → j ≢ i → truth_at (set ws (i / 64) w) j ≡ truth_at ws j
  elsewhere j n = elim (cases_eq (j / 64) (i / 64)) [
    | inl e ↦
        let q : i / 64 < length ws = omega (arith, h.sixteen) in
        let m : j % 64 ≢ i % 64 = omega arith in
        let r : j % 64 < 64 = omega arith in
        ap (λ v. eqb v 1) (ap (λ k. bit_at (get_or (set ws (i / 64) w) k 0) (j % 64)) e
        ∙ ap (λ v. bit_at v (j % 64)) (get_or-set_same ws (i / 64) w 0 q) ∙ there (j % 64) r m
        ∙ ap (λ k. bit_at (get_or ws k 0) (j % 64)) (sym e))
    | inr d ↦ ap (λ v. eqb (bit_at v (j % 64)) 1) (get_or-set_other ws (i / 64) (j / 64) w 0 d)
  ]

  changed : (j : ℕ) → j < 1024 → truth_at (set ws (i / 64) w) j ≡ get_or (set (truths_of ws) i b) j false
  changed j l = elim (cases_eq j i) [
    | inl e ↦
        let q : i / 64 < length ws = omega (arith, h.sixteen) in
        let t : i < length (truths_of ws) = omega (arith, length-truths ws) in
        rw (e) (ap (λ v. eqb (bit_at v (i % 64)) 1) (get_or-set_same ws (i / 64) w 0 q) ∙ here
        ∙ sym (get_or-set_same (truths_of ws) i b false t))
    | inr n ↦
        sym (get_or-set_other (truths_of ws) i j b false n ∙ get_or-truths ws j l ∙ sym (elsewhere j n))
  ]

  pub truths-set : truths_of (set ws (i / 64) w) ≡ set (truths_of ws) i b
  truths-set = truths_same (set ws (i / 64) w) (set (truths_of ws) i b)
      (length-set (truths_of ws) i b ∙ length-truths ws) changed

zeros : (w : ℕ) (ws : List ℕ) → w ≡ 0 → ((k : ℕ) → get_or ws k 0 ≡ 0) → (k : ℕ) → get_or (w ∷ ws) k 0 ≡ 0
zeros w ws e h zero = e
zeros w ws e h (suc k) = h k

-- no word has a bit
pub fold-or : (a : ℕ) (ws : List ℕ) → fold_l bit_or a ws ≡ 0 → (a ≡ 0) × ((k : ℕ) → get_or ws k 0 ≡ 0)
fold-or a [] e = (e, λ k. refl)
fold-or a (w ∷ ws) e =
    let p : (bit_or a w ≡ 0) × ((k : ℕ) → get_or ws k 0 ≡ 0) = fold-or (bit_or a w) ws e in
    (omega (arith, p.0, le_or_l a w), zeros w ws (omega (arith, p.0, le_or_r a w)) p.1)

pub fits_set : (ws : List ℕ) → AreWords ws → (k w : ℕ) → w < 2 ^ 64 → AreWords (set ws k w)
fits_set ws h k w l = record {
  sixteen = length-set ws k w ∙ h.sixteen;
  fit = λ j. elim (cases_eq j k) [
    | inl e ↦ elim (cases_lt k (length ws)) [
      | inl q ↦ rw (e, get_or-set_same) l
      | inr g ↦ rw set_past (h.fit j)
    ]
    | inr n ↦ rw get_or-set_other (h.fit j)
  ];
}

pub fold-or_zeros : (ws : List ℕ) → ((k : ℕ) → get_or ws k 0 ≡ 0) → fold_l bit_or 0 ws ≡ 0
fold-or_zeros [] h = refl
fold-or_zeros (w ∷ ws) h = ap (λ a. fold_l bit_or a ws) (or_zero_l w ∙ h 0) ∙ fold-or_zeros ws (λ k. h (suc k))

-- a set bit of a word is a member
pub bit_in : (ws : List ℕ) (k t : ℕ) → k < 16 → t < 64 → bit_at (get_or ws k 0) t ≡ 1 → In (truths_of ws) (64 * k + t)
bit_in ws k t l h e =
    let q : (64 * k + t) / 64 ≡ k = omega arith in
    let r : (64 * k + t) % 64 ≡ t = omega arith in
    get_or-truths ws (64 * k + t) (omega arith) ∙ rw (q, r, e)

-- a bit of a word is a member
pub lowest : (ws : List ℕ) → AreWords ws → (k : ℕ) → k < 16 → 0 < get_or ws k 0
    → In (truths_of ws) (64 * k + trailing_zeros w64 (get_or ws k 0))
lowest ws h k l p =
    let t : ℕ = trailing_zeros w64 (get_or ws k 0) in
    let f : (t < 64) × (bit_at (get_or ws k 0) t ≡ 1) × ((i : ℕ) → i < t → bit_at (get_or ws k 0) i ≡ 0) =
    bit_at-trailing_zeros w64 (get_or ws k 0) p (h.fit k) in
    let q : (64 * k + t) / 64 ≡ k = omega (arith, f.0) in
    let r : (64 * k + t) % 64 ≡ t = omega (arith, f.0) in
    get_or-truths ws (64 * k + t) (omega (arith, f.0)) ∙ rw (q, r, f.1)

-- a member is a bit of a word
pub member_word : (ws : List ℕ) (i : ℕ) → In (truths_of ws) i
    → (i < 1024) × (bit_at (get_or ws (i / 64) 0) (i % 64) ≡ 1)
member_word ws i m =
    elim (cases_lt i 1024) [
      | inl l ↦ (l, eqb-true (bit_at (get_or ws (i / 64) 0) (i % 64)) 1 (sym (get_or-truths ws i l) ∙ m))
      | inr g ↦ absurd (false≢true (sym (get_or_past (truths_of ws) i false (omega (arith, length-truths ws))) ∙ m))
    ]

zero_bit : (w i : ℕ) → w ≡ 0 → bit_at w i ≡ 1 → ⊥
zero_bit w i e f = let z : bit_at w i ≡ 0 = ap (λ v. bit_at v i) e ∙ bit_at-zero i in omega (arith, z, f)

both_bits : (b : ℕ) → b ≡ 0 → b ≡ 1 → ⊥
both_bits b e f = omega arith

-- no member, no bit
pub empty_words : (ws : List ℕ) → AreWords ws → ((k : ℕ) → get_or ws k 0 ≡ 0) → IsEmpty (truths_of ws)
empty_words ws h z i m =
    let f : (i < 1024) × (bit_at (get_or ws (i / 64) 0) (i % 64) ≡ 1) = member_word ws i m in
    let e : bit_at (get_or ws (i / 64) 0) (i % 64) ≡ 0 = ap (λ w. bit_at w (i % 64)) (z (i / 64))
    ∙ bit_at-zero (i % 64) in
    omega (arith, f.1, e)

pub words_empty : (ws : List ℕ) → AreWords ws → IsEmpty (truths_of ws) → (k : ℕ) → get_or ws k 0 ≡ 0
words_empty ws h e k = elim (cases_lt k 16) [
  | inl l ↦ elim (cases_lt 0 (get_or ws k 0)) [
    | inl p ↦ absurd (e (64 * k + trailing_zeros w64 (get_or ws k 0)) (lowest ws h k l p))
    | inr z ↦ omega arith
  ]
  | inr g ↦ get_or_past ws k 0 (omega (arith, h.sixteen))
]

-- the lowest bit of the first word with one is the least member
pub least_word : (ws : List ℕ) → AreWords ws → (k : ℕ) → k < 16 → 0 < get_or ws k 0
    → ((j : ℕ) → j < k → get_or ws j 0 ≡ 0)
    → IsLeast (truths_of ws) (64 * k + trailing_zeros w64 (get_or ws k 0))
least_word ws h k l p z =
    let t : ℕ = trailing_zeros w64 (get_or ws k 0) in
    let f : (t < 64) × (bit_at (get_or ws k 0) t ≡ 1) × ((i : ℕ) → i < t → bit_at (get_or ws k 0) i ≡ 0) =
    bit_at-trailing_zeros w64 (get_or ws k 0) p (h.fit k) in
    record {
      member = lowest ws h k l p;
      least = λ j m.
          let g : (j < 1024) × (bit_at (get_or ws (j / 64) 0) (j % 64) ≡ 1) = member_word ws j m in
          elim (cases_lt j (64 * k + t)) [
            | inl s ↦ elim (cases_lt (j / 64) k) [
              | inl b ↦ absurd (zero_bit (get_or ws (j / 64) 0) (j % 64) (z (j / 64) b) g.1)
              | inr a ↦
                  let e : j / 64 ≡ k = omega (arith, f.0) in
                  let r : j % 64 < t = omega (arith, f.0) in
                  absurd (both_bits (bit_at (get_or ws k 0) (j % 64)) (f.2 (j % 64) r)
                  (ap (λ q. bit_at (get_or ws q 0) (j % 64)) (sym e) ∙ g.1))
            ]
            | inr a ↦ a
          ];
    }

pub zeros_at : (k : ℕ) → ◌≡◌ {A = ℕ} (get_or (replicate 16 0) k 0) 0
zeros_at k = elim (cases_lt k 16) [
  | inl l ↦ get_or-replicate 16 k 0 0 l
  | inr g ↦ get_or_past (replicate 16 0) k 0 g
]

pub truths-zeros : truths_of (replicate 16 0) ≡ replicate 1024 false
truths-zeros = truths_same (replicate 16 0) (replicate 1024 false) (length-replicate 1024 false)
    (λ i l. ap (λ w. eqb (bit_at w (i % 64)) 1) (zeros_at (i / 64)) ∙ ap (λ w. eqb w 1) (bit_at-zero (i % 64))
    ∙ sym (get_or-replicate 1024 i false false l))

-- what is left of a without b is nothing exactly where a is within b
pub minus_empty : (a b : List Bool) → IsEmpty (minus a b) → IsSubset a b
minus_empty a b h i m = elim (cases_Bool (get_or b i false)) [
  | inl t ↦ t
  | inr f ↦ absurd (h i (get_or-minus a b i ∙ rw (m, f)))
]

pub subset_minus : (a b : List Bool) → IsSubset a b → IsEmpty (minus a b)
subset_minus a b h i m =
    let p : (get_or a i false ≡ true) × (not (get_or b i false) ≡ true) =
    and_parts (get_or a i false) (not (get_or b i false)) (sym (get_or-minus a b i) ∙ m) in
    absurd (false≢true (sym (not-true (get_or b i false) p.1) ∙ h i p.0))

-- the members among the truths of one word more
pub count_word : (ws : List ℕ) → AreWords ws → (k : ℕ) → k < 16
    → count (take (64 * (k + 1)) (truths_of ws)) ≡ count (take (64 * k) (truths_of ws)) + count_ones (get_or ws k 0)
unfolding word_at
count_word ws h k l =
    let t : List Bool = truths_of ws in
    let e : 64 * (k + 1) ≡ 64 * k + 64 = omega arith in
    ap (λ n. count (take n t)) e
    ∙ ap count (take-add (64 * k) 64 t)
    ∙ sum_by-append (λ x. cond x 1 0) (take (64 * k) t) (take 64 (drop (64 * k) t))
    ∙ ap (λ n. count (take (64 * k) t) + n) (sym (ones-mask_l (λ x. x) (take 64 (drop (64 * k) t)))
    ∙ ap count_ones (ap mask_l (map-id (take 64 (drop (64 * k) t))) ∙ word_same ws k l (h.fit k)))

pub zero_words : AreWords (replicate 16 0)
zero_words = record {
  sixteen = length-replicate {A = ℕ} 16 0;
  fit = λ k. let e : ◌≡◌ {A = ℕ} (get_or (replicate 16 0) k 0) 0 = zeros_at k in omega (arith, e);
}

-- the words before the first that may have a member are zero
pub words_before : (ws : List ℕ) → AreWords ws → (n : ℕ) → n ≤ 16 → ((i : ℕ) → In (truths_of ws) i → 64 * n ≤ i)
    → (k : ℕ) → k < n → get_or ws k 0 ≡ 0
words_before ws h n m from k l = elim (cases_lt 0 (get_or ws k 0)) [
  | inl p ↦ absurd (omega (
    arith,
    from (64 * k + trailing_zeros w64 (get_or ws k 0)) (lowest ws h k (omega arith) p),
    (bit_at-trailing_zeros w64 (get_or ws k 0) p (h.fit k)).0,
  ))
  | inr z ↦ omega arith
]
