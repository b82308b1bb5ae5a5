-- Sets whose members are all below 128, by their first two words.
use Rattle.std.proofs.Common.{◌≡◌, ℕ, ◌+◌, ◌*◌, ◌<◌, ◌≤◌, Bool, List, length, get_or, set, replicate, sym}
use Rattle.std.proofs.Common.{ap, ◌∙◌, subst, refl, bit_or, bit_and, w64, arith, map, inl, inr}
use Rattle.std.specs.Int.{bit_not, trailing_zeros}
use Rattle.std.specs.Int.Bits.{and_zero_l}
use Rattle.std.proofs.lemmas.Nat.{le_or_l, le_or_r, and_le_l, ones-le}
use Rattle.std.proofs.lemmas.List.{ext_get_or, get_or_past, get_or-set_same, get_or-set_other, get_or-map, length-set}
use Rattle.std.proofs.lemmas.List.{length-map, length-replicate}
use Rattle.std.proofs.lemmas.Bool.{cases_lt, cases_eq}
use Rattle.std.proofs.lemmas.Simd.{get_or-zip2, length-zip2}
use lib.Lanes.{zip2}
use Rattle.line_instance.specs.Truths.{In, IsEmpty, meet, minus, truths_of, AreWords}
use Rattle.line_instance.proofs.Bits.{empty_words, lowest, truths-and, truths-minus, words_empty}
use Rattle.line_instance.proofs.Bits.{zeros_at, count_word}
use Rattle.line_instance.proofs.Members.{In-meet_parts, In-minus_parts}
use Rattle.line_instance.specs.Truths.{count}
use Rattle.line_instance.specs.inner.Words.{length-truths}
use Rattle.std.specs.Prelude.{count_ones, take, zero, suc}
use Rattle.std.proofs.lemmas.List.{take_all}

both_zero : (a b : ℕ) → bit_or a b ≡ 0 → (a ≡ 0) × (b ≡ 0)
both_zero a b e = (omega (arith, e, le_or_l a b), omega (arith, e, le_or_r a b))

none_or : (a b : ℕ) → a ≡ 0 → b ≡ 0 → bit_or a b ≡ 0
none_or a b e f = ap (λ x. bit_or x b) e ∙ ap (λ y. bit_or 0 y) f ∙ refl

module _ (ws : List ℕ) (h : AreWords ws) (low : (i : ℕ) → In (truths_of ws) i → i < 128) where
  -- the other words are zero
  high : (j : ℕ) → 2 ≤ j → get_or ws j 0 ≡ 0
  high j l = elim (cases_lt j 16) [
    | inl b ↦ elim (cases_lt 0 (get_or ws j 0)) [
      | inl p ↦ absurd (omega (arith, l, low (64 * j + trailing_zeros w64 (get_or ws j 0)) (lowest ws h j b p)))
      | inr z ↦ omega arith
    ]
    | inr g ↦ get_or_past ws j 0 (omega (arith, h.sixteen))
  ]

  -- a fact of each word from those of the first two
  of_two : (P : ℕ → Type 0) → P 0 → P 1 → ((j : ℕ) → 2 ≤ j → P j) → (j : ℕ) → P j
  of_two P zeroth first rest j = elim (cases_eq j 0) [
    | inl e ↦ subst P (sym e) zeroth
    | inr n ↦ elim (cases_eq j 1) [
      | inl e ↦ subst P (sym e) first
      | inr m ↦ rest j (omega arith)
    ]
  ]

  pub low_empty : bit_or (get_or ws 0 0) (get_or ws 1 0) ≡ 0 → IsEmpty (truths_of ws)
  low_empty e = empty_words ws h (of_two (λ j. get_or ws j 0 ≡ 0) (both_zero (get_or ws 0 0) (get_or ws 1 0) e).0
      (both_zero (get_or ws 0 0) (get_or ws 1 0) e).1 high)

  pub empty_low : IsEmpty (truths_of ws) → bit_or (get_or ws 0 0) (get_or ws 1 0) ≡ 0
  empty_low none = none_or (get_or ws 0 0) (get_or ws 1 0) (words_empty ws h none 0) (words_empty ws h none 1)

  module _ (vs : List ℕ) (wide : length vs ≡ 16) where
    anded : List ℕ
    anded = zip2 bit_and ws vs

    long : length (zip2 bit_and ws vs) ≡ 16
    long = length-zip2 bit_and ws vs (h.sixteen ∙ sym wide) ∙ h.sixteen

    and_at : (j : ℕ) → j < 16 → get_or (zip2 bit_and ws vs) j 0 ≡ bit_and (get_or ws j 0) (get_or vs j 0)
    and_at j l = get_or-zip2 bit_and ws vs j 0 0 0 (omega (arith, h.sixteen)) (omega (arith, wide))

    and_high : (j : ℕ) → 2 ≤ j → get_or (zip2 bit_and ws vs) j 0 ≡ 0
    and_high j l = elim (cases_lt j 16) [
      | inl b ↦ and_at j b ∙ ap (λ x. bit_and x (get_or vs j 0)) (high j l) ∙ and_zero_l (get_or vs j 0)
      | inr g ↦ get_or_past (zip2 bit_and ws vs) j 0 (omega (arith, long))
    ]

    pub and_words : AreWords (zip2 bit_and ws vs)
    and_words = record {
      sixteen = long;
      fit = λ j. elim (cases_lt j 16) [
        | inl b ↦ omega (arith, and_at j b, and_le_l (get_or ws j 0) (get_or vs j 0), h.fit j)
        | inr g ↦ (let e : get_or (zip2 bit_and ws vs) j 0 ≡ 0 = get_or_past (zip2 bit_and ws vs) j 0
            (omega (arith, long)) in omega (arith, e))
      ];
    }

    pub no_low : bit_or (bit_and (get_or ws 0 0) (get_or vs 0 0)) (bit_and (get_or ws 1 0) (get_or vs 1 0)) ≡ 0
        → IsEmpty (truths_of (zip2 bit_and ws vs))
    no_low e =
        let z = both_zero (bit_and (get_or ws 0 0) (get_or vs 0 0)) (bit_and (get_or ws 1 0) (get_or vs 1 0)) e in
        empty_words (zip2 bit_and ws vs) and_words (of_two (λ j. get_or (zip2 bit_and ws vs) j 0 ≡ 0)
        (and_at 0 (omega arith) ∙ z.0) (and_at 1 (omega arith) ∙ z.1) and_high)

    pub low_no : IsEmpty (truths_of (zip2 bit_and ws vs))
        → bit_or (bit_and (get_or ws 0 0) (get_or vs 0 0)) (bit_and (get_or ws 1 0) (get_or vs 1 0)) ≡ 0
    low_no none = none_or (bit_and (get_or ws 0 0) (get_or vs 0 0)) (bit_and (get_or ws 1 0) (get_or vs 1 0))
        (sym (and_at 0 (omega arith)) ∙ words_empty (zip2 bit_and ws vs) and_words none 0)
        (sym (and_at 1 (omega arith)) ∙ words_empty (zip2 bit_and ws vs) and_words none 1)

    -- words with these first two, the others zero
    pub two_are : (new : List ℕ) → length new ≡ 16 → get_or new 0 0 ≡ bit_and (get_or ws 0 0) (get_or vs 0 0)
        → get_or new 1 0 ≡ bit_and (get_or ws 1 0) (get_or vs 1 0) → ((j : ℕ) → 2 ≤ j → get_or new j 0 ≡ 0)
        → new ≡ zip2 bit_and ws vs
    two_are new n zeroth first rest = ext_get_or 0 new (zip2 bit_and ws vs) (n ∙ sym long) (λ j l.
        of_two (λ k. get_or new k 0 ≡ get_or (zip2 bit_and ws vs) k 0) (zeroth ∙ sym (and_at 0 (omega arith)))
        (first ∙ sym (and_at 1 (omega arith))) (λ k m. rest k m ∙ sym (and_high k m)) j)

-- two words set
pub set_twice : (ws : List ℕ) (x y : ℕ) → length ws ≡ 16 → (length (set (set ws 0 x) 1 y) ≡ 16)
    × (get_or (set (set ws 0 x) 1 y) 0 0 ≡ x) × (get_or (set (set ws 0 x) 1 y) 1 0 ≡ y)
    × ((j : ℕ) → 2 ≤ j → get_or (set (set ws 0 x) 1 y) j 0 ≡ get_or ws j 0)
set_twice ws x y e = (
  length-set (set ws 0 x) 1 y ∙ length-set ws 0 x ∙ e,
  get_or-set_other (set ws 0 x) 1 0 y 0 (λ f. omega (arith, f)) ∙ get_or-set_same ws 0 x 0 (omega (arith, e)),
  get_or-set_same (set ws 0 x) 1 y 0 (omega (arith, length-set ws 0 x, e)),
  λ j l. get_or-set_other (set ws 0 x) 1 j y 0 (λ f. omega (arith, f, l))
      ∙ get_or-set_other ws 0 j x 0 (λ f. omega (arith, f, l)),
)

module _ (ws vs : List ℕ) (h : AreWords ws) (k : AreWords vs) (low : (i : ℕ) → In (truths_of ws) i → i < 128) where
  pub meet_none : bit_or (bit_and (get_or ws 0 0) (get_or vs 0 0)) (bit_and (get_or ws 1 0) (get_or vs 1 0)) ≡ 0
      → IsEmpty (meet (truths_of ws) (truths_of vs))
  meet_none e = let P : List Bool → Type 0 = λ t. IsEmpty t in
      subst P (truths-and ws vs h k) (no_low ws h low vs k.sixteen e)

  pub none_meet : IsEmpty (meet (truths_of ws) (truths_of vs))
      → bit_or (bit_and (get_or ws 0 0) (get_or vs 0 0)) (bit_and (get_or ws 1 0) (get_or vs 1 0)) ≡ 0
  none_meet none = let P : List Bool → Type 0 = λ t. IsEmpty t in
      low_no ws h low vs k.sixteen (subst P (sym (truths-and ws vs h k)) none)

  -- the common members by two words
  pub low_meet : (x y : ℕ) → x ≡ bit_and (get_or ws 0 0) (get_or vs 0 0) → y ≡ bit_and (get_or ws 1 0) (get_or vs 1 0)
      → truths_of (set (set (replicate 16 0) 0 x) 1 y) ≡ meet (truths_of ws) (truths_of vs)
  low_meet x y is_x is_y =
      let t = set_twice (replicate 16 0) x y (length-replicate {A = ℕ} 16 0) in
      ap truths_of (two_are ws h low vs k.sixteen (set (set (replicate 16 0) 0 x) 1 y) t.0 (t.1 ∙ is_x) (t.2 ∙ is_y)
      (λ j l. t.3 j l ∙ zeros_at j)) ∙ truths-and ws vs h k

  -- the members that are left by two words
  pub low_minus : (x y : ℕ) → x ≡ bit_and (get_or ws 0 0) (bit_not w64 (get_or vs 0 0))
      → y ≡ bit_and (get_or ws 1 0) (bit_not w64 (get_or vs 1 0))
      → truths_of (set (set ws 0 x) 1 y) ≡ minus (truths_of ws) (truths_of vs)
  low_minus x y is_x is_y =
      let t = set_twice ws x y h.sixteen in
      let not_at : (j : ℕ) → j < 16 → get_or (map (bit_not w64) vs) j 0 ≡ bit_not w64 (get_or vs j 0) =
      λ j l. get_or-map (bit_not w64) vs j 0 0 (omega (arith, k.sixteen)) in
      ap truths_of (two_are ws h low (map (bit_not w64) vs) (length-map vs (bit_not w64) ∙ k.sixteen)
      (set (set ws 0 x) 1 y) t.0 (t.1 ∙ is_x ∙ ap (λ v. bit_and (get_or ws 0 0) v) (sym (not_at 0 (omega arith))))
      (t.2 ∙ is_y ∙ ap (λ v. bit_and (get_or ws 1 0) v) (sym (not_at 1 (omega arith))))
      (λ j l. t.3 j l ∙ high ws h low j l)) ∙ truths-minus ws vs h k

module _ (ws : List ℕ) (h : AreWords ws) (low : (i : ℕ) → In (truths_of ws) i → i < 128) where
  -- no word from the third on adds a member
  count_from : (k : ℕ) → k ≤ 14 → count (take (64 * (2 + k)) (truths_of ws)) ≡ count (take 128 (truths_of ws))
  count_from zero l = refl
  count_from (suc k) l =
      ap (λ n. count (take n (truths_of ws))) (omega arith)
      ∙ count_word ws h (2 + k) (omega arith)
      ∙ ap (λ w. count (take (64 * (2 + k)) (truths_of ws)) + count_ones w) (high ws h low (2 + k) (omega arith))
      ∙ omega (arith, count_from k (omega arith), ones-le 0 0 (omega arith))

  pub low_none : get_or ws 0 0 ≡ 0 → get_or ws 1 0 ≡ 0 → IsEmpty (truths_of ws)
  low_none zeroth first = low_empty ws h low (none_or (get_or ws 0 0) (get_or ws 1 0) zeroth first)

  -- the members of the first two words are all
  pub low_count : count_ones (get_or ws 0 0) + count_ones (get_or ws 1 0) ≡ count (truths_of ws)
  low_count =
      let t : List Bool = truths_of ws in
      let one : count (take 64 t) ≡ count (take 0 t) + count_ones (get_or ws 0 0) = count_word ws h 0 (omega arith) in
      let two : count (take 128 t) ≡ count (take 64 t) + count_ones (get_or ws 1 0) = count_word ws h 1 (omega arith) in
      let all : count (take 1024 t) ≡ count t =
      ap count (take_all 1024 t (omega (arith, length-truths ws))) in
      omega (arith, one, two, all, count_from 14 (omega arith))

-- what a set of few tasks has in common with another one
pub low_common : (a b m : List Bool) (n : ℕ) → ((i : ℕ) → In a i → i < n) → n ≤ 128 → m ≡ meet a b
    → (i : ℕ) → In m i → i < 128
low_common a b m n low few e i h =
    let P : List Bool → Type 0 = λ t. In t i in
    omega (arith, few, low i (In-meet_parts a b i (subst P e h)).0)

-- what is left of few tasks
pub low_left : (a b m : List Bool) → ((i : ℕ) → In a i → i < 128) → m ≡ minus a b → (i : ℕ) → In m i → i < 128
low_left a b m low e i h =
    let P : List Bool → Type 0 = λ t. In t i in
    low i (In-minus_parts a b i (subst P e h)).0
