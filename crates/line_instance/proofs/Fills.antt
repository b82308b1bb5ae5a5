-- The words of the set of the numbers below n, filled in from the first.
use Rattle.std.proofs.Common.{◌≡◌, ℕ, ◌+◌, ◌-◌, ◌*◌, ◌^◌, ◌/◌, ◌%◌, ◌<◌, ◌≤◌, false, eqb, List, length, get_or, set}
use Rattle.std.proofs.Common.{sym, ap, ◌∙◌, inl, inr, arith}
use Rattle.std.specs.Prelude.{ltb}
use Rattle.line_instance.specs.Truths.{truth_at, truths_of, full_to, AreWords}
use Rattle.line_instance.proofs.Bits.{truths_same}
use Rattle.std.specs.Int.{bit_at}
use Rattle.std.proofs.lemmas.Bool.{cases_eq, cases_lt, lt-ltb, le-ltb}
use Rattle.std.proofs.lemmas.Bool.Decides.{nat_tests}
use Rattle.std.proofs.lemmas.List.{get_or-set_same, get_or-set_other}
use Rattle.std.proofs.lemmas.List.FromFn.{length-map-range_with_len, get_or-map-range_with_len}
use Rattle.std.proofs.lemmas.Nat.Bits.{bit_at_ones, bit_at_ones_above}
use Rattle.std.proofs.Math.Pow.{pow-lt}

-- the bits of 2 ^ n - 1 are those below n
pub ones_bits : (n i : ℕ) → eqb (bit_at (2 ^ n - 1) i) 1 ≡ ltb i n
ones_bits n i = elim (cases_lt i n) [
  | inl l ↦ ap (λ b. eqb b 1) (bit_at_ones n i l) ∙ sym (lt-ltb i n l)
  | inr g ↦ ap (λ b. eqb b 1) (bit_at_ones_above n i g) ∙ sym (le-ltb i n g)
]

pub part_bits : (n i : ℕ) → n < 64 → eqb (bit_at (1 * 2 ^ n % 2 ^ 64 - 1) i) 1 ≡ ltb i n
part_bits n i h =
    let p : 2 ^ n < 2 ^ 64 = pow-lt h in
    let e : 1 * 2 ^ n % 2 ^ 64 - 1 ≡ 2 ^ n - 1 = omega (arith, p) in
    ap (λ m. eqb (bit_at m i) 1) e ∙ ones_bits n i

pub all_bits : (n i : ℕ) → 64 ≤ n → i < 64 → eqb (bit_at (2 ^ 64 - 1) i) 1 ≡ ltb i n
all_bits n i g l = ap (λ b. eqb b 1) (bit_at_ones 64 i l) ∙ sym (lt-ltb i n (omega arith))

-- a word more
pub fill : (ws : List ℕ) → AreWords ws → (k n w : ℕ) → k < 16
    → ((j : ℕ) → j < 64 → eqb (bit_at w j) 1 ≡ ltb j (n - 64 * k))
    → ((j : ℕ) → j < 64 * k → truth_at ws j ≡ ltb j n) → (j : ℕ) → j < 64 * (k + 1) → truth_at (set ws k w) j ≡ ltb j n
fill ws h k n w l bits below j b = elim (cases_eq (j / 64) k) [
  | inl e ↦
      let q : k < length ws = omega (arith, h.sixteen) in
      let r : j % 64 < 64 = omega arith in
      let s : ltb (j % 64) (n - 64 * k) ≡ ltb j n = grind (arith, nat_tests, e) in
      ap (λ i. eqb (bit_at (get_or (set ws k w) i 0) (j % 64)) 1) e
      ∙ ap (λ v. eqb (bit_at v (j % 64)) 1) (get_or-set_same ws k w 0 q) ∙ bits (j % 64) r ∙ s
  | inr d ↦ ap (λ v. eqb (bit_at v (j % 64)) 1) (get_or-set_other ws k (j / 64) w 0 d) ∙ below j (omega arith)
]

pub length-full_to : (n : ℕ) → length (full_to n) ≡ 1024
unfolding full_to
length-full_to n = length-map-range_with_len (λ i. ltb i n) 0 1024

pub get_or-full_to : (n i : ℕ) → i < 1024 → get_or (full_to n) i false ≡ ltb i n
unfolding full_to
get_or-full_to n i l = get_or-map-range_with_len (λ j. ltb j n) 0 1024 i i false l (omega arith)

pub filled : (ws : List ℕ) (n : ℕ) → ((j : ℕ) → j < 1024 → truth_at ws j ≡ ltb j n) → truths_of ws ≡ full_to n
filled ws n h = truths_same ws (full_to n) (length-full_to n) (λ i l. h i l ∙ sym (get_or-full_to n i l))
