-- The pairs of words of a set up to the last that isn't 0.
use Rattle.std.proofs.Common.{◌≡◌, ℕ, zero, suc, ◌+◌, ◌*◌, ◌^◌, ◌<◌, ◌≤◌, Bool, false, cond, ◌&&◌, eqb, List, [], ◌∷◌}
use Rattle.std.proofs.Common.{length, get_or, refl, sym, ap, ◌∙◌, arith, bit_or, ◌%◌}
use Rattle.std.proofs.lemmas.Bool.Decides.{nat_tests}
use Rattle.std.proofs.lemmas.Grind.{common_steps}
use Rattle.std.proofs.lemmas.List.{get_or_past}
use Rattle.std.proofs.lemmas.List.FromFn.{length-map-range_with_len, get_or-map-range_with_len}
use Rattle.line_instance.specs.Truths.{truths_of, words_of, AreWords}
use Rattle.line_instance.specs.Tags.{pair_at, pairs_of, used}
use Rattle.line_instance.specs.inner.Words.{words_of_truths}

-- of numbers that are all 0 none is used
pub none_used : (xs : List ℕ) → ((j : ℕ) → get_or xs j 0 ≡ 0) → used xs ≡ 0
none_used [] h = refl
none_used (x ∷ xs) h =
    let first : x ≡ 0 = h 0 in
    let rest : used xs ≡ 0 = none_used xs (λ j. h (suc j)) in
    rw (first, rest) refl

counted : (n x : ℕ) → (n ≡ 0 → x ≡ 0 → ⊥) → cond (eqb n 0 && eqb x 0) 0 (suc n) ≡ suc n
counted zero x h =
    let some : eqb x 0 ≡ false = (let no : x ≡ 0 → ⊥ = h refl in grind (arith, nat_tests)) in
    rw some refl
counted (suc n) x h =
    let some : eqb (suc n) 0 ≡ false = grind (arith, nat_tests) in
    rw some refl

-- up to a number that isn't 0, with those alone behind it that are, all are used
pub last_used : (xs : List ℕ) (n : ℕ) → (get_or xs n 0 ≡ 0 → ⊥) → ((j : ℕ) → n < j → get_or xs j 0 ≡ 0)
    → used xs ≡ n + 1
last_used [] n some none = absurd (some refl)
last_used (x ∷ xs) zero some none =
    let rest : used xs ≡ 0 = none_used xs (λ j. none (suc j) (omega arith)) in
    counted (used xs) x (λ _ e. some e) ∙ ap suc rest
last_used (x ∷ xs) (suc n) some none =
    let rest : used xs ≡ n + 1 = last_used xs n some (λ j l. none (suc j) (omega arith)) in
    counted (used xs) x (λ e _. omega arith) ∙ omega arith

length-pairs : (set : List Bool) → length (pairs_of set) ≡ 8
unfolding pairs_of
length-pairs set = length-map-range_with_len (pair_at (words_of set)) 0 8

-- a pair of the words of a set
pair : (ws : List ℕ) → AreWords ws → (k : ℕ) → k < 8 → get_or (pairs_of (truths_of ws)) k 0 ≡ pair_at ws k
unfolding pairs_of
pair ws h k l =
    get_or-map-range_with_len (pair_at (words_of (truths_of ws))) 0 8 k k 0 l (omega arith)
    ∙ ap (λ vs. pair_at vs k) (words_of_truths ws h)

-- a pair by its two words
pub joined : (ws : List ℕ) → AreWords ws → (k high low : ℕ) → k < 8 → high ≡ get_or ws (2 * k + 1) 0
    → low ≡ get_or ws (2 * k) 0 → bit_or (high * 2 ^ 64 % 2 ^ 128) low ≡ get_or (pairs_of (truths_of ws)) k 0
joined ws h k high low within p q =
    let high_fits : high < 2 ^ 64 = omega (arith, p, h.fit (2 * k + 1)) in
    let low_fits : low < 2 ^ 64 = omega (arith, q, h.fit (2 * k)) in
    let sum : bit_or (high * 2 ^ 64 % 2 ^ 128) low ≡ high * 2 ^ 64 + low = grind (arith, common_steps) in
    sum ∙ (λ i. p i * 2 ^ 64 + q i) ∙ sym (pair ws h k within)

pub past_pairs : (set : List Bool) (j : ℕ) → 8 ≤ j → get_or (pairs_of set) j 0 ≡ 0
past_pairs set j past = get_or_past (pairs_of set) j 0 (omega (arith, length-pairs set))
