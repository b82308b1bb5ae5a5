-- Words and their parts.
use Rattle.std.proofs.Common.{◌≡◌, ℕ, zero, suc, ◌+◌, ◌-◌, ◌*◌, ◌<◌, true, false, not, cond, ◌||◌, ◌&&◌, List, []}
use Rattle.std.proofs.Common.{◌∷◌, length, get_or, take, drop, min, ◌^◌, refl, sym, ◌∙◌, ap, arith, eq-eqb}
use Rattle.std.proofs.Common.{Some, None}
use Rattle.std.proofs.lemmas.Bool.Decides.{nat_tests}
use Rattle.std.proofs.lemmas.List.{take_more, drop_more}
use Rattle.std.proofs.lemmas.Bool.{ne_eqb}
use Rattle.line_io.specs.Lines.{is_digit, all_digits, value_of}
use Rattle.cert_lines.specs.Words.{parts_at, onto_part, number_in, is_unplain, greatest}
use Rattle.line_io.proofs.ReadFacts.{value_push}

pub no_mark : (mark : ℕ) (bytes : List ℕ) → ((k : ℕ) → k < length bytes → get_or bytes k 0 ≡ mark → ⊥)
    → parts_at mark bytes ≡ None
unfolding parts_at
no_mark mark [] n = refl
no_mark mark (b ∷ bytes) n =
    ap (λ t. cond t (Some ([], bytes)) (onto_part b (parts_at mark bytes))) (ne_eqb b mark (n 0 (omega arith)))
    ∙ ap (onto_part b) (no_mark mark bytes (λ k l. n (suc k) (omega arith)))

pub first_mark : (mark : ℕ) (bytes : List ℕ) (i : ℕ) → i < length bytes
    → ((k : ℕ) → k < i → get_or bytes k 0 ≡ mark → ⊥) → get_or bytes i 0 ≡ mark
    → parts_at mark bytes ≡ Some (take i bytes, drop (suc i) bytes)
unfolding parts_at
first_mark mark [] i h n t = absurd (omega arith)
first_mark mark (b ∷ bytes) zero h n t = ap (λ t. cond t (Some ([], bytes)) (onto_part b (parts_at mark bytes)))
    (eq-eqb b mark t)
first_mark mark (b ∷ bytes) (suc i) h n t =
    ap (λ t. cond t (Some ([], bytes)) (onto_part b (parts_at mark bytes))) (ne_eqb b mark (n 0 (omega arith)))
    ∙ ap (onto_part b) (first_mark mark bytes i (omega arith) (λ k l. n (suc k) (omega arith)) t)

pub digits_stop : (i : ℕ) (ds : List ℕ) → i < length ds → is_digit (get_or ds i 0) ≡ false
    → all_digits (drop i ds) ≡ false
digits_stop i ds h e = ap all_digits (drop_more ds i 0 h) ∙ ap (λ b. b && all_digits (drop (i + 1) ds)) e

-- one more digit, up to the greatest number
pub value_next : (i d v x y : ℕ) (ds : List ℕ) → i < length ds → v ≡ min (value_of (take i ds)) greatest
    → d ≡ get_or ds i 0 - 48 → x ≡ min (v * 10) (2 ^ 64 - 1) → y ≡ min (x + d) (2 ^ 64 - 1)
    → y ≡ min (value_of (take (i + 1) ds)) greatest
value_next i d v x y ds h e a f g =
    let p : value_of (take (i + 1) ds) ≡ 10 * value_of (take i ds) + (get_or ds i 0 - 48) =
    ap value_of (take_more ds i 0 h) ∙ value_push 0 (take i ds) (get_or ds i 0) in
    omega (arith, p, e, a, f, g)

pub number_unplain : (word : List ℕ) → is_unplain word ≡ true → None ≡ number_in word
unfolding number_in
number_unplain word e = sym (ap (λ b. cond (b || not (all_digits word)) None (Some (min (value_of word) greatest))) e)

pub number_none : (word : List ℕ) → is_unplain word ≡ false → all_digits word ≡ false → None ≡ number_in word
unfolding number_in
number_none word e f = sym (ap (λ b. cond (b || not (all_digits word)) None (Some (min (value_of word) greatest))) e
    ∙ ap (λ b. cond (not b) None (Some (min (value_of word) greatest))) f)

pub number_is : (word : List ℕ) (v : ℕ) → is_unplain word ≡ false → all_digits word ≡ true
    → v ≡ min (value_of word) greatest → Some v ≡ number_in word
unfolding number_in
number_is word v e f g =
    sym (ap (λ b. cond (b || not (all_digits word)) None (Some (min (value_of word) greatest))) e
    ∙ ap (λ b. cond (not b) None (Some (min (value_of word) greatest))) f ∙ ap (λ x. Some x) (sym g))

pub digit_low : (b : ℕ) → b < 48 → is_digit b ≡ false
digit_low b h = grind (arith, nat_tests)

pub digit_high : (b : ℕ) → 57 < b → is_digit b ≡ false
digit_high b h = grind (arith, nat_tests)
