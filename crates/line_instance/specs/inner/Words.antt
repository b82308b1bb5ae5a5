-- The words of a set's truths are the words that it was read from.
use Rattle.std.proofs.Common.{◌≡◌, ℕ, ◌+◌, ◌*◌, ◌^◌, ◌/◌, ◌%◌, ◌<◌, Bool, true, false, cond, eqb, List, length, get_or}
use Rattle.std.proofs.Common.{take, drop, refl, sym, ap, ◌∙◌, subst, arith, length-take, length-drop, get_or-take}
use Rattle.std.proofs.Common.{get_or-drop}
use Rattle.line_instance.specs.Truths.{truth_at, truths_of, words_of, AreWords, members_from}
use Rattle.std.specs.Int.{bit_at}
use Rattle.std.specs.List.{range_with_len}
use Rattle.std.specs.Prelude.{map, ◌++◌}
use Rattle.std.proofs.lemmas.List.{ext_get_or}
use Rattle.std.proofs.lemmas.List.FromFn.{length-map-range_with_len, get_or-map-range_with_len}
use Rattle.std.proofs.lemmas.Bool.Decides.{nat_tests}
use Rattle.std.proofs.lemmas.Nat.Bits.{bit_at-lt, same_from_bits_below}
use Rattle.std.proofs.lemmas.Simd.{mask_l-lt, bit_mask_l}
use lib.Lanes.{mask_l}
use lib.Pointwise.{pointwise}
use Rattle.std.proofs.Common.{true, false}
use Rattle.std.specs.Bool.{beq, Decides}
use Rattle.std.specs.Hash.{slice, u64}
use Rattle.std.proofs.lemmas.Slice.Eq.{slice_eq-Decides}

pub length-truths : (ws : List ℕ) → length (truths_of ws) ≡ 1024
unfolding truths_of
length-truths ws = length-map-range_with_len (truth_at ws) 0 1024

pub get_or-truths : (ws : List ℕ) (i : ℕ) → i < 1024 → get_or (truths_of ws) i false ≡ truth_at ws i
unfolding truths_of
get_or-truths ws i h = get_or-map-range_with_len (truth_at ws) 0 1024 i i false h (omega arith)

one_bit : (b : ℕ) → b < 2 → cond (eqb b 1) 1 0 ≡ b
one_bit b h = grind (arith, nat_tests)

unfoldable pub word_at : (ts : List Bool) → ℕ → ℕ
word_at ts k = mask_l (take 64 (drop (64 * k) ts))

module _ (ws : List ℕ) (k : ℕ) (within : k < 16) where
  pub part_length : length (take 64 (drop (64 * k) (truths_of ws))) ≡ 64
  part_length = simp (length-take, length-drop) (omega (arith, length-truths ws))

  bits_same : (i : ℕ) → i < 64 → bit_at (word_at (truths_of ws) k) i ≡ bit_at (get_or ws k 0) i
  unfolding word_at
  bits_same i h =
      let q : (64 * k + i) / 64 ≡ k = omega arith in
      let r : (64 * k + i) % 64 ≡ i = omega arith in
      bit_mask_l (take 64 (drop (64 * k) (truths_of ws))) i
      ∙ ap (λ b. cond b 1 0) (get_or-take 64 (drop (64 * k) (truths_of ws)) i false h
      ∙ get_or-drop (64 * k) (truths_of ws) i false ∙ get_or-truths ws (64 * k + i) (omega arith))
      ∙ one_bit (bit_at (get_or ws ((64 * k + i) / 64) 0) ((64 * k + i) % 64))
      (bit_at-lt (get_or ws ((64 * k + i) / 64) 0) ((64 * k + i) % 64))
      ∙ rw (q, r)

  pub word_same : get_or ws k 0 < 2 ^ 64 → word_at (truths_of ws) k ≡ get_or ws k 0
  unfolding word_at
  word_same fits = same_from_bits_below 64 (word_at (truths_of ws) k) (get_or ws k 0)
      (let P : ℕ → Type 0 = λ n. word_at (truths_of ws) k < 2 ^ n in
      subst P part_length (mask_l-lt (take 64 (drop (64 * k) (truths_of ws)))))
      fits bits_same

pub words_of_truths : (ws : List ℕ) → AreWords ws → words_of (truths_of ws) ≡ ws
unfolding words_of word_at
words_of_truths ws h =
    let e : length (words_of (truths_of ws)) ≡ 16 = length-map-range_with_len (word_at (truths_of ws)) 0 16 in
    ext_get_or 0 (words_of (truths_of ws)) ws (e ∙ sym h.sixteen)
    (λ k l. let w : k < 16 = omega (arith, e) in
    get_or-map-range_with_len (word_at (truths_of ws)) 0 16 k k 0 w (omega arith) ∙ word_same ws k w (h.fit k))

-- lists that are equal have equal words, and two sets with the same words are one
pub same_words : (ws vs : List ℕ) → AreWords ws → AreWords vs → truths_of ws ≡ truths_of vs → ws ≡ vs
same_words ws vs h k e = sym (words_of_truths ws h) ∙ ap words_of e ∙ words_of_truths vs k

pub beq-Decides : (a b : Bool) → Decides (beq a b) (a ≡ b)
beq-Decides true true = (λ _. refl, λ _. refl)
beq-Decides true false = (λ e. absurd (cc), λ e. absurd (cc))
beq-Decides false true = (λ e. absurd (cc), λ e. absurd (cc))
beq-Decides false false = (λ _. refl, λ _. refl)

-- `==` of two sets says whether the lists are equal
pub equal_sets : (a b : List Bool) → Decides (pointwise beq a b) (a ≡ b)
equal_sets a b = slice_eq-Decides beq-Decides a b (pointwise beq a b) refl

-- equal sets are hashed alike
pub hashed_alike : (a b : List Bool) → pointwise beq a b ≡ true → slice u64 (words_of a) ≡ slice u64 (words_of b)
hashed_alike a b e = ap (λ s. slice u64 (words_of s)) ((equal_sets a b).0 e)

-- the truths that the bits of a word are, from the lowest
unfoldable pub bits_of : ℕ → List Bool
bits_of w = map (λ i. eqb (bit_at w i) 1) (range_with_len 0 64)

-- the members of a word whose lowest bit stands for the number base, and then those of a set from the word at next on
abbrev pub members_left : ℕ → ℕ → ℕ → List Bool → List ℕ
members_left w base next s = members_from base (bits_of w) ++ members_from (64 * next) (drop (64 * next) s)
