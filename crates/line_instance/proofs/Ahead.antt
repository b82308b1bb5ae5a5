-- The members that are ahead of a loop, word by word.
use Rattle.std.proofs.Common.{◌≡◌, ◌≢◌, ℕ, zero, suc, ◌+◌, ◌-◌, ◌*◌, ◌^◌, ◌/◌, ◌%◌, ◌<◌, ◌≤◌, Bool, true, false, eqb}
use Rattle.std.proofs.Common.{List, [], ◌∷◌, ◌++◌, length, get_or, set, take, drop, refl, sym, ap, ◌∙◌, inl, inr, arith}
use Rattle.std.proofs.Common.{bit_and, w64, get_or-take, get_or-drop}
use Rattle.line_instance.specs.Truths.{IsEmpty, IsLeast, truths_of, members_from, members_of}
use Rattle.line_instance.specs.inner.Words.{bits_of, members_left, get_or-truths, part_length}
use Rattle.line_instance.proofs.ListedMembers.{least_first, none_from}
use Rattle.line_instance.proofs.Members.{In-below}
use Rattle.std.specs.Int.{bit_at, trailing_zeros}
use Rattle.std.proofs.lemmas.Bool.{cases_eq, cases_lt, eqb-true, false≢true}
use Rattle.std.proofs.lemmas.List.{ext_get_or, get_or-set_same, get_or-set_other, length-set, drop_all}
use Rattle.std.proofs.lemmas.List.FromFn.{length-map-range_with_len, get_or-map-range_with_len}
use Rattle.std.proofs.lemmas.Nat.Bits.{bit_at-suc, bit_at_lowest, bit_at-zero, bit_at_and, bit_at-trailing_zeros}

pub length-bits : (w : ℕ) → length (bits_of w) ≡ 64
unfolding bits_of
length-bits w = length-map-range_with_len (λ i. eqb (bit_at w i) 1) 0 64

pub get_or-bits : (w i : ℕ) → i < 64 → get_or (bits_of w) i false ≡ eqb (bit_at w i) 1
unfolding bits_of
get_or-bits w i l = get_or-map-range_with_len (λ j. eqb (bit_at w j) 1) 0 64 i i false l (omega arith)

-- a number less one: above its lowest bit it has the same bits, and not that bit
less_one_above : (t w i : ℕ) → bit_at w t ≡ 1 → ((j : ℕ) → j < t → bit_at w j ≡ 0) → t < i
    → bit_at (w - 1) i ≡ bit_at w i
less_one_above t w zero o z l = absurd (omega (arith, l))
less_one_above zero w (suc i) o z l =
    let e : (w - 1) / 2 ≡ w / 2 = omega (arith, bit_at_lowest w, o) in
    bit_at-suc (w - 1) i ∙ ap (λ v. bit_at v i) e ∙ sym (bit_at-suc w i)
less_one_above (suc t) w (suc i) o z l =
    let e : (w - 1) / 2 ≡ w / 2 - 1 = omega (arith, bit_at_lowest w, z 0 (omega arith)) in
    bit_at-suc (w - 1) i ∙ ap (λ v. bit_at v i) e
    ∙ less_one_above t (w / 2) i (sym (bit_at-suc w t) ∙ o) (λ j m. sym (bit_at-suc w j) ∙ z (suc j) (omega arith))
    (omega arith)
    ∙ sym (bit_at-suc w i)

less_one_at : (t w : ℕ) → bit_at w t ≡ 1 → ((j : ℕ) → j < t → bit_at w j ≡ 0) → bit_at (w - 1) t ≡ 0
less_one_at zero w o z = omega (arith, bit_at_lowest w, bit_at_lowest (w - 1), o)
less_one_at (suc t) w o z =
    let e : (w - 1) / 2 ≡ w / 2 - 1 = omega (arith, bit_at_lowest w, z 0 (omega arith)) in
    bit_at-suc (w - 1) t ∙ ap (λ v. bit_at v t) e
    ∙ less_one_at t (w / 2) (sym (bit_at-suc w t) ∙ o) (λ j m. sym (bit_at-suc w j) ∙ z (suc j) (omega arith))

-- a word and itself less one: the word without its lowest bit
module _ (w : ℕ) (some : 0 < w) (fits : w < 2 ^ 64) where
  lowest_bit : (trailing_zeros w64 w < 64) × (bit_at w (trailing_zeros w64 w) ≡ 1)
      × ((i : ℕ) → i < trailing_zeros w64 w → bit_at w i ≡ 0)
  lowest_bit = bit_at-trailing_zeros w64 w some fits

  pub lowest_within : trailing_zeros w64 w < 64
  lowest_within = lowest_bit.0

  without_lowest : (i : ℕ) → i ≢ trailing_zeros w64 w → bit_at (bit_and w (w - 1)) i ≡ bit_at w i
  without_lowest i n = elim (cases_lt i (trailing_zeros w64 w)) [
    | inl l ↦ omega (arith, bit_at_and w (w - 1) i, lowest_bit.2 i l)
    | inr g ↦ omega (
      arith,
      bit_at_and w (w - 1) i,
      less_one_above (trailing_zeros w64 w) w i lowest_bit.1 lowest_bit.2
          (omega arith),
    )
  ]

  lowest_gone : bit_at (bit_and w (w - 1)) (trailing_zeros w64 w) ≡ 0
  lowest_gone = omega (
    arith,
    bit_at_and w (w - 1) (trailing_zeros w64 w),
    less_one_at (trailing_zeros w64 w) w lowest_bit.1 lowest_bit.2,
  )

  bits_without : bits_of (bit_and w (w - 1)) ≡ set (bits_of w) (trailing_zeros w64 w) false
  bits_without =
      let t : ℕ = trailing_zeros w64 w in
      ext_get_or false (bits_of (bit_and w (w - 1))) (set (bits_of w) (trailing_zeros w64 w) false)
      (length-bits (bit_and w (w - 1)) ∙ sym (length-set (bits_of w) (trailing_zeros w64 w) false ∙ length-bits w))
      (λ i l.
      let m : i < 64 = omega (arith, length-bits (bit_and w (w - 1))) in
      get_or-bits (bit_and w (w - 1)) i m ∙ elim (cases_eq i (trailing_zeros w64 w)) [
        | inl e ↦ rw e (ap (λ b. eqb b 1) lowest_gone ∙ sym
            (get_or-set_same (bits_of w) (trailing_zeros w64 w) false false
            (omega (arith, length-bits w, lowest_within))))
        | inr n ↦ ap (λ b. eqb b 1) (without_lowest i n) ∙ sym (get_or-bits w i m)
            ∙ sym (get_or-set_other (bits_of w) (trailing_zeros w64 w) i false false n)
      ])

  least_bit : IsLeast (bits_of w) (trailing_zeros w64 w)
  least_bit = record {
    member = get_or-bits w (trailing_zeros w64 w) lowest_within ∙ ap (λ b. eqb b 1) lowest_bit.1;
    least = λ j m. elim (cases_lt j (trailing_zeros w64 w)) [
      | inl l ↦
          let o : bit_at w j ≡ 1 = eqb-true (bit_at w j) 1 (sym (get_or-bits w j (omega (arith, l, lowest_within)))
          ∙ m) in
          absurd (omega (arith, lowest_bit.2 j l, o))
      | inr g ↦ g
    ];
  }

  -- the lowest bit is the next member
  pub next_member : (base next : ℕ) (s : List Bool) → members_left w base next s
      ≡ (base + trailing_zeros w64 w) ∷ members_left (bit_and w (w - 1)) base next s
  next_member base next s =
      ap (λ l. l ++ members_from (64 * next) (drop (64 * next) s))
      (least_first base (bits_of w) (trailing_zeros w64 w) least_bit
      ∙ ap (λ b. (base + trailing_zeros w64 w) ∷ members_from base b) (sym bits_without))

pub no_bits : IsEmpty (bits_of 0)
no_bits i m =
    let l : i < 64 = omega (arith, In-below (bits_of 0) i m, length-bits 0) in
    let z : get_or (bits_of 0) i false ≡ false = get_or-bits 0 i l ∙ ap (λ b. eqb b 1) (bit_at-zero i) in
    absurd (false≢true (sym z ∙ m))

-- a word without bits has no member
pub left_of_none : (w base next : ℕ) (s : List Bool) → w ≡ 0
    → members_left w base next s ≡ members_from (64 * next) (drop (64 * next) s)
left_of_none w base next s e =
    ap (λ v. members_left v base next s) e ∙ ap (λ l. l ++ members_from (64 * next) (drop (64 * next) s))
    (none_from base (bits_of 0) no_bits)

pub left_at_start : (s : List Bool) → members_left 0 0 0 s ≡ members_of s
left_at_start s = left_of_none 0 0 0 s refl

-- the first n truths, and then the others
members_split : (n k : ℕ) (s : List Bool) → members_from k s ≡ members_from k (take n s)
    ++ members_from (k + n) (drop n s)
unfolding members_from
members_split zero k s = ap (λ j. members_from j s) (omega arith)
members_split (suc n) k [] = refl
members_split (suc n) k (true ∷ bs) =
    let e : suc k + n ≡ k + suc n = omega arith in
    ap (λ l. k ∷ l) (members_split n (suc k) bs ∙ ap (λ j. members_from (suc k) (take n bs)
    ++ members_from j (drop n bs)) e)
members_split (suc n) k (false ∷ bs) =
    let e : suc k + n ≡ k + suc n = omega arith in
    members_split n (suc k) bs ∙ ap (λ j. members_from (suc k) (take n bs) ++ members_from j (drop n bs)) e

drop_more : (n m : ℕ) (s : List Bool) → drop m (drop n s) ≡ drop (n + m) s
drop_more zero m s = ap (λ k. drop k s) (omega arith)
drop_more (suc n) m [] = drop_all m [] (omega arith) ∙ sym (drop_all (suc n + m) [] (omega arith))
drop_more (suc n) m (b ∷ bs) =
    let e : suc (n + m) ≡ suc n + m = omega arith in
    drop_more n m bs ∙ ap (λ k. drop k (b ∷ bs)) e

word_bits : (ws : List ℕ) (k : ℕ) → k < 16 → take 64 (drop (64 * k) (truths_of ws)) ≡ bits_of (get_or ws k 0)
word_bits ws k h = ext_get_or false (take 64 (drop (64 * k) (truths_of ws))) (bits_of (get_or ws k 0))
    (part_length ws k h ∙ sym (length-bits (get_or ws k 0)))
    (λ i l.
    let m : i < 64 = omega (arith, part_length ws k h) in
    let q : (64 * k + i) / 64 ≡ k = omega arith in
    let r : (64 * k + i) % 64 ≡ i = omega arith in
    get_or-take 64 (drop (64 * k) (truths_of ws)) i false m ∙ get_or-drop (64 * k) (truths_of ws) i false
    ∙ get_or-truths ws (64 * k + i) (omega arith)
    ∙ rw (q, r) (sym (get_or-bits (get_or ws k 0) i m)))

-- the members from a word on are those of the word, and then those from the next
pub word_first : (ws : List ℕ) (k : ℕ) → k < 16 → members_from (64 * k) (drop (64 * k) (truths_of ws))
    ≡ members_left (get_or ws k 0) (64 * k) (k + 1) (truths_of ws)
word_first ws k h =
    let e : 64 * k + 64 ≡ 64 * (k + 1) = omega arith in
    members_split 64 (64 * k) (drop (64 * k) (truths_of ws))
    ∙ ap (λ b. members_from (64 * k) b ++ members_from (64 * k + 64) (drop 64 (drop (64 * k) (truths_of ws))))
    (word_bits ws k h)
    ∙ ap (λ d. members_from (64 * k) (bits_of (get_or ws k 0)) ++ members_from (64 * k + 64) d)
    (drop_more (64 * k) 64 (truths_of ws))
    ∙ ap (λ n. members_from (64 * k) (bits_of (get_or ws k 0)) ++ members_from n (drop n (truths_of ws))) e

pub past_last : (s : List Bool) (k : ℕ) → length s ≤ 64 * k → members_from (64 * k) (drop (64 * k) s) ≡ []
unfolding members_from
past_last s k h = ap (members_from (64 * k)) (drop_all (64 * k) s h)
