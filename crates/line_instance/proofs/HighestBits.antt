-- The highest bit of a word, and the greatest member below a number.
use Rattle.std.proofs.Common.{◌≡◌, ℕ, suc, ◌+◌, ◌-◌, ◌*◌, ◌^◌, ◌/◌, ◌%◌, ◌<◌, ◌≤◌, List, Bool, get_or, sym, ap, ◌∙◌}
use Rattle.std.proofs.Common.{subst, inl, inr, arith}
use Rattle.line_instance.specs.Truths.{In, truths_of, AreWords, IsGreatestBelow}
use Rattle.line_instance.proofs.Bits.{member_word, bit_in}
use Rattle.std.specs.Int.{bit_at}
use Rattle.std.proofs.lemmas.Bool.{cases_lt}
use Rattle.std.proofs.lemmas.Nat.{leading_top}
use Rattle.std.proofs.lemmas.Nat.Bits.{bit_at_above, bit_at_cat_high, bit_at-lt}
use lib.Count.{count_leading_zeros}
use Rattle.std.proofs.Math.Nat.{pow-suc}
use Rattle.std.proofs.Math.Pow.{pow-lt}
use Rattle.std.proofs.Common.{bit_and, min}
use Rattle.std.proofs.lemmas.Nat.Bits.{bit_at_and, bit_at_ones, bit_at_ones_above, bit_at-zero}

pub record IsTop (w t : ℕ) : Type 0 where
  pub within : t < 64
  pub bit : bit_at w t ≡ 1
  pub above : (i : ℕ) → t < i → bit_at w i ≡ 0

self_sub : (j : ℕ) → j - j ≡ 0
self_sub j = omega arith

top_one : (j w : ℕ) → 2 ^ j ≤ w → w < 2 ^ suc j → bit_at w j ≡ 1
top_one j w l h =
    let e : w ≡ 1 * 2 ^ j + (w - 2 ^ j) = omega arith in
    let p : 2 ^ suc j ≡ 2 ^ j * 2 = pow-suc 2 j in
    let s : w - 2 ^ j < 2 ^ j = omega (arith, p) in
    ap (λ x. bit_at x j) e ∙ (bit_at_cat_high 1 j (w - 2 ^ j) j s (omega arith) ∙ ap (λ k. bit_at 1 k) (self_sub j))

pub top_bit : (w : ℕ) → 0 < w → w < 2 ^ 64 → IsTop w (63 - count_leading_zeros 64 w)
top_bit w p f =
    let l : (j : ℕ) × (count_leading_zeros 64 w + suc j ≡ 64) × (2 ^ j ≤ w) × (w < 2 ^ suc j) = leading_top 64 w p f in
    let e : l.0 ≡ 63 - count_leading_zeros 64 w = omega (arith, l.1) in
    let P : ℕ → Type 0 = λ t. IsTop w t in
    subst P e (record {
      within = omega (arith, l.1);
      bit = top_one l.0 w l.2 l.3;
      above = λ i h. bit_at_above w (suc l.0) i l.3 h;
    })

-- the members below i are below k words
pub NoneFrom : List ℕ → ℕ → ℕ → Type 0
NoneFrom ws k i = (j : ℕ) → In (truths_of ws) j → j < i → j < 64 * k

pub whole_word : (ws : List ℕ) → AreWords ws → (k i t : ℕ) → k < 16 → 64 * k + 64 ≤ i
    → ((j : ℕ) → In (truths_of ws) j → j < i → j < 64 * k + 64) → IsTop (get_or ws k 0) t
    → IsGreatestBelow (truths_of ws) i (64 * k + t)
whole_word ws h k i t l le none top = record {
  member = bit_in ws k t l top.within top.bit;
  below = omega (arith, top.within);
  greatest = λ j m b. elim (cases_lt (64 * k + t) j) [
    | inl above ↦
        let f : (j < 1024) × (bit_at (get_or ws (j / 64) 0) (j % 64) ≡ 1) = member_word ws j m in
        let q : j / 64 ≡ k = omega (arith, none j m b) in
        let z : bit_at (get_or ws k 0) (j % 64) ≡ 0 = top.above (j % 64) (omega (arith, q)) in
        let o : bit_at (get_or ws k 0) (j % 64) ≡ 1 = ap (λ x. bit_at (get_or ws x 0) (j % 64)) (sym q) ∙ f.1 in
        absurd (omega (arith, z, o))
    | inr le ↦ le
  ];
}

pub part_word : (ws : List ℕ) → AreWords ws → (i w t : ℕ) → i / 64 < 16
    → ((j : ℕ) → j < i % 64 → bit_at w j ≡ bit_at (get_or ws (i / 64) 0) j) → ((j : ℕ) → i % 64 ≤ j → bit_at w j ≡ 0)
    → IsTop w t → IsGreatestBelow (truths_of ws) i (64 * (i / 64) + t)
part_word ws h i w t l low high top =
    let small : t < i % 64 = elim (cases_lt t (i % 64)) [
      | inl a ↦ a
      | inr g ↦
          absurd (omega (arith, high t g, top.bit))
    ] in
    record {
      member = bit_in ws (i / 64) t l top.within (sym (low t small) ∙ top.bit);
      below = omega (arith, small);
      greatest = λ j m b. elim (cases_lt (64 * (i / 64) + t) j) [
        | inl above ↦
            let f : (j < 1024) × (bit_at (get_or ws (j / 64) 0) (j % 64) ≡ 1) = member_word ws j m in
            let q : j / 64 ≡ i / 64 = omega arith in
            let r : j % 64 < i % 64 = omega (arith, q) in
            let z : bit_at w (j % 64) ≡ 0 = top.above (j % 64) (omega (arith, q)) in
            let o : bit_at w (j % 64) ≡ 1 = low (j % 64) r ∙ (ap (λ x. bit_at (get_or ws x 0) (j % 64)) (sym q)
            ∙ f.1) in
            absurd (omega (arith, z, o))
        | inr le ↦ le
      ];
    }

-- the bits below n
mask_is : (n : ℕ) → n < 64 → 1 * 2 ^ n % 2 ^ 64 - 1 ≡ 2 ^ n - 1
mask_is n h = let p : 2 ^ n < 2 ^ 64 = pow-lt h in omega (arith, p)

pub kept_bits : (w n i : ℕ) → n < 64 → i < n → bit_at (bit_and w (1 * 2 ^ n % 2 ^ 64 - 1)) i ≡ bit_at w i
kept_bits w n i h l =
    let e : bit_at (bit_and w (1 * 2 ^ n % 2 ^ 64 - 1)) i ≡ min (bit_at w i) (bit_at (2 ^ n - 1) i) =
    ap (λ m. bit_at (bit_and w m) i) (mask_is n h) ∙ bit_at_and w (2 ^ n - 1) i in
    omega (arith, e, bit_at_ones n i l, bit_at-lt w i)

pub lost_bits : (w n i : ℕ) → n < 64 → n ≤ i → bit_at (bit_and w (1 * 2 ^ n % 2 ^ 64 - 1)) i ≡ 0
lost_bits w n i h l =
    let e : bit_at (bit_and w (1 * 2 ^ n % 2 ^ 64 - 1)) i ≡ min (bit_at w i) (bit_at (2 ^ n - 1) i) =
    ap (λ m. bit_at (bit_and w m) i) (mask_is n h) ∙ bit_at_and w (2 ^ n - 1) i in
    omega (arith, e, bit_at_ones_above n i l)

-- a word without bits has no member
pub none_of_word : (ws : List ℕ) (j : ℕ) → In (truths_of ws) j → get_or ws (j / 64) 0 ≡ 0 → ⊥
none_of_word ws j m e =
    let f : (j < 1024) × (bit_at (get_or ws (j / 64) 0) (j % 64) ≡ 1) = member_word ws j m in
    let z : bit_at (get_or ws (j / 64) 0) (j % 64) ≡ 0 = ap (λ w. bit_at w (j % 64)) e ∙ bit_at-zero (j % 64) in
    omega (arith, z, f.1)

pub past_words : (ws : List ℕ) (i j : ℕ) → 16 ≤ i / 64 → In (truths_of ws) j → j < 64 * (i / 64)
past_words ws i j g m = omega (arith, (member_word ws j m).0)

pub part_none : (ws : List ℕ) (i w j : ℕ) → w ≡ 0 → ((j : ℕ) → j < i % 64
    → bit_at w j ≡ bit_at (get_or ws (i / 64) 0) j) → In (truths_of ws) j → j < i → j < 64 * (i / 64)
part_none ws i w j e low m b = elim (cases_lt j (64 * (i / 64))) [
  | inl l ↦ l
  | inr g ↦
      let f : (j < 1024) × (bit_at (get_or ws (j / 64) 0) (j % 64) ≡ 1) = member_word ws j m in
      let q : j / 64 ≡ i / 64 = omega arith in
      let r : j % 64 < i % 64 = omega (arith, q) in
      let z : bit_at w (j % 64) ≡ 0 = ap (λ x. bit_at x (j % 64)) e ∙ bit_at-zero (j % 64) in
      let o : bit_at w (j % 64) ≡ 1 = low (j % 64) r ∙ (ap (λ x. bit_at (get_or ws x 0) (j % 64)) (sym q) ∙ f.1) in
      absurd (omega (arith, z, o))
]

-- where one is found, not each member is i or above
pub found_below : (s : List Bool) (i j : ℕ) → IsGreatestBelow s i j → ((k : ℕ) → In s k → i ≤ k) → ⊥
found_below s i j g h = omega (arith, g.below, h j g.member)
