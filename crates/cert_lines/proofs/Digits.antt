-- The digits of numbers.
use Rattle.std.proofs.Common.{◌≡◌, ℕ, zero, suc, ◌+◌, ◌/◌, ◌%◌, ◌<◌, ◌≤◌, Bool, true, false, cond, nat_lt, [], ◌∷◌}
use Rattle.std.proofs.Common.{◌++◌, refl, ◌∙◌, ap, arith}
use Rattle.std.proofs.lemmas.Bool.Decides.{nat_tests}
use Rattle.cert_lines.specs.Numbers.{digits_within, number_text}

tens : (n : ℕ) → nat_lt n 10 ≡ false → 10 ≤ n
tens n e = grind (arith, nat_tests)

-- the room for digits doesn't matter where it is enough
pub room : (r q n : ℕ) → n < r → n < q → digits_within r n ≡ digits_within q n
unfolding digits_within
room zero q n h k = absurd (omega arith)
room (suc r) zero n h k = absurd (omega arith)
room (suc r) (suc q) n h k =
    let P : Bool → Type 0 = λ b. cond b ((48 + n) ∷ []) (digits_within r (n / 10) ++ (48 + n % 10) ∷ [])
    ≡ cond b ((48 + n) ∷ []) (digits_within q (n / 10) ++ (48 + n % 10) ∷ []) in
    let I : (b : Bool) → nat_lt n 10 ≡ b → P b = elim [
      | true ↦ (λ e. refl)
      | false ↦ (λ e. let t : 10 ≤ n = tens n e in ap (λ ds. ds ++ (48 + n % 10) ∷ [])
          (room r q (n / 10) (omega arith) (omega arith)))
    ] in
    I (nat_lt n 10) refl

pub number_small : (n : ℕ) → n < 10 → number_text n ≡ (48 + n) ∷ []
unfolding digits_within number_text
number_small n h =
    let e : nat_lt n 10 ≡ true = grind (arith, nat_tests) in
    ap (λ b. cond b ((48 + n) ∷ []) (digits_within n (n / 10) ++ (48 + n % 10) ∷ [])) e

pub number_more : (n : ℕ) → 10 ≤ n → number_text n ≡ number_text (n / 10) ++ (48 + n % 10) ∷ []
unfolding digits_within number_text
number_more n h =
    let e : nat_lt n 10 ≡ false = grind (arith, nat_tests) in
    ap (λ b. cond b ((48 + n) ∷ []) (digits_within n (n / 10) ++ (48 + n % 10) ∷ [])) e
    ∙ ap (λ ds. ds ++ (48 + n % 10) ∷ []) (room n (suc (n / 10)) (n / 10) (omega arith) (omega arith))
