-- Numbers that are written are read, and what is read as a number is how it is written.
use Rattle.std.proofs.Common.{◌≡◌, ◌≢◌, ℕ, zero, suc, ◌+◌, ◌-◌, ◌*◌, ◌/◌, ◌%◌, ◌<◌, ◌≤◌, Bool, true, false, not, cond}
use Rattle.std.proofs.Common.{◌||◌, ◌&&◌, nat_eq, nat_le, nat_lt, List, [], ◌∷◌, ◌++◌, min, refl, sym, ◌∙◌, ap, subst}
use Rattle.std.proofs.Common.{arith, Some, None, Option, append_assoc}
use Rattle.std.proofs.lemmas.Bool.Decides.{nat_tests}
use Rattle.std.proofs.lemmas.List.{append-nil}
use Rattle.std.proofs.lemmas.Bool.{and_from, not-true}
use Rattle.line_io.specs.Lines.{is_digit, all_digits, value_after, value_of}
use Rattle.cert_lines.specs.Numbers.{number_text}
use Rattle.cert_lines.specs.Words.{◌>>=◌, parts_at, onto_part, number_in, number_first, is_unplain, greatest}
use Rattle.line_io.proofs.ReadFacts.{digit_is, digits_push, right, left, value_push}
pub use Rattle.cert_lines.specs.Telling.{lacks}
use Rattle.cert_lines.proofs.Digits.{number_small, number_more}

-- digits that are the text of a number
pub record Spell (n : ℕ) (ds : List ℕ) : Type 0 where
  pub digits : all_digits ds ≡ true
  pub plain : is_unplain ds ≡ false
  pub value : value_of ds ≡ n

not_zero : (b : ℕ) → value_of (b ∷ []) ≢ 0 → nat_eq b 48 ≡ false
not_zero b h = grind (arith, nat_tests, h)

plain_push : (ds : List ℕ) (d : ℕ) → is_unplain ds ≡ false → value_of ds ≢ 0 → is_unplain (ds ++ d ∷ []) ≡ false
plain_push [] d e h = (cc)
plain_push (b ∷ []) d e h = not_zero b h
plain_push (b ∷ c ∷ ds) d e h = e

-- the steps of the digits of a number
by_steps : (r n : ℕ) → n < r → Spell n (number_text n)
by_steps zero n h = absurd (omega arith)
by_steps (suc r) n h = elim (nat_lt n 10) as (λ t. nat_lt n 10 ≡ t → Spell n (number_text n)) [
  | true ↦ (λ e. let s : n < 10 = grind (arith, nat_tests) in
      let P : List ℕ → Type 0 = λ ds. Spell n ds in
      subst P (sym (number_small n s)) (record {
        digits = and_from (is_digit (48 + n)) true (digit_is n s) refl;
        plain = refl;
        value = omega arith;
      }))
  | false ↦ (λ e. let t : 10 ≤ n = grind (arith, nat_tests) in
      let i : Spell (n / 10) (number_text (n / 10)) = by_steps r (n / 10) (omega arith) in
      let P : List ℕ → Type 0 = λ ds. Spell n ds in
      subst P (sym (number_more n t)) (record {
        digits = digits_push (number_text (n / 10)) (48 + n % 10) i.digits (digit_is (n % 10) (omega arith));
        plain = plain_push (number_text (n / 10)) (48 + n % 10) i.plain
            (λ z. let w : n / 10 ≡ 0 = sym i.value ∙ z in absurd (omega arith));
        value = omega (arith, value_push 0 (number_text (n / 10)) (48 + n % 10), i.value);
      }))
] refl

pub spelled : (n : ℕ) → Spell n (number_text n)
spelled n = by_steps (suc n) n (omega arith)

-- a number that is written is read
pub number_again : (n : ℕ) → number_in (number_text n) ≡ Some (min n greatest)
unfolding number_in
number_again n =
    let s = spelled n in
    ap (λ b. cond (b || not (all_digits (number_text n))) None (Some (min (value_of (number_text n)) greatest))) s.plain
    ∙ ap (λ b. cond (not b) None (Some (min (value_of (number_text n)) greatest))) s.digits
    ∙ ap (λ v. Some (min v greatest)) s.value

-- digits behind a number that isn't 0
digits_behind : (n : ℕ) (ds : List ℕ) → 0 < n → all_digits ds ≡ true
    → number_text (value_after n ds) ≡ number_text n ++ ds
digits_behind n [] h e = sym (append-nil (number_text n))
digits_behind n (b ∷ ds) h e =
    let d : is_digit b ≡ true = left (is_digit b) (all_digits ds) e in
    let low : 48 ≤ b = grind (arith, nat_tests) in
    let high : b ≤ 57 = grind (arith, nat_tests) in
    digits_behind (10 * n + (b - 48)) ds (omega arith) (right (is_digit b) (all_digits ds) e)
    ∙ ap (λ t. t ++ ds) (number_more (10 * n + (b - 48)) (omega arith)
    ∙ ap (λ q. number_text q ++ (48 + (10 * n + (b - 48)) % 10) ∷ []) (omega arith)
    ∙ ap (λ x. number_text n ++ x ∷ []) (omega arith))
    ∙ append_assoc (number_text n) (b ∷ []) ds

-- plain digits are the text of what they stand for
plain_digits : (ds : List ℕ) → is_unplain ds ≡ false → all_digits ds ≡ true → number_text (value_of ds) ≡ ds
plain_digits [] e f = (cc)
plain_digits (b ∷ []) e f =
    let d : is_digit b ≡ true = left (is_digit b) true f in
    let low : 48 ≤ b = grind (arith, nat_tests) in
    let high : b ≤ 57 = grind (arith, nat_tests) in
    number_small (10 * 0 + (b - 48)) (omega arith) ∙ ap (λ x. x ∷ []) (omega arith)
plain_digits (b ∷ c ∷ ds) e f =
    let d : is_digit b ≡ true = left (is_digit b) (all_digits (c ∷ ds)) f in
    let low : 48 ≤ b = grind (arith, nat_tests) in
    let high : b ≤ 57 = grind (arith, nat_tests) in
    let some : b ≢ 48 = grind (arith, nat_tests) in
    digits_behind (10 * 0 + (b - 48)) (c ∷ ds) (omega arith) (right (is_digit b) (all_digits (c ∷ ds)) f)
    ∙ ap (λ t. t ++ c ∷ ds) (number_small (10 * 0 + (b - 48)) (omega arith) ∙ ap (λ x. x ∷ []) (omega arith))

-- what is read as a number is how it is written
pub number_found : (word : List ℕ) (v : ℕ) → number_in word ≡ Some v
    → (number_text (value_of word) ≡ word) × (v ≡ min (value_of word) greatest)
unfolding number_in
number_found word v e = I (is_unplain word) (all_digits word) refl refl e
  where
    I : (a b : Bool) → is_unplain word ≡ a → all_digits word ≡ b
        → cond (a || not b) None (Some (min (value_of word) greatest)) ≡ Some v
        → (number_text (value_of word) ≡ word) × (v ≡ min (value_of word) greatest)
    I true b p q h = (cc)
    I false false p q h = (cc)
    I false true p q h = (plain_digits word p q, cc)

-- each byte is at least the digit 0, so no mark below it stands among them
abbrev pub all_high : List ℕ → Bool
all_high [] = true
all_high (b ∷ bytes) = nat_le 48 b && all_high bytes

digits_high : (ds : List ℕ) → all_digits ds ≡ true → all_high ds ≡ true
digits_high [] e = refl
digits_high (b ∷ ds) e =
    let d : is_digit b ≡ true = left (is_digit b) (all_digits ds) e in
    and_from (nat_le 48 b) (all_high ds) (left (nat_le 48 b) (nat_le b 57) d)
    (digits_high ds (right (is_digit b) (all_digits ds) e))

pub number_high : (n : ℕ) → all_high (number_text n) ≡ true
number_high n = digits_high (number_text n) (spelled n).digits

other : (b mark : ℕ) → mark < 48 → nat_le 48 b ≡ true → not (nat_eq b mark) ≡ true
other b mark h e = grind (arith, nat_tests)

pub high_lacks : (mark : ℕ) (bytes : List ℕ) → mark < 48 → all_high bytes ≡ true → lacks mark bytes ≡ true
high_lacks mark [] h e = refl
high_lacks mark (b ∷ bytes) h e =
    and_from (not (nat_eq b mark)) (lacks mark bytes) (other b mark h (left (nat_le 48 b) (all_high bytes) e))
    (high_lacks mark bytes h (right (nat_le 48 b) (all_high bytes) e))

isnt : (b mark : ℕ) → not (nat_eq b mark) ≡ true → nat_eq b mark ≡ false
isnt b mark e = not-true (nat_eq b mark) e

is_mark : (mark : ℕ) → nat_eq mark mark ≡ true
is_mark mark = grind (arith, nat_tests)

-- a text is split where it was joined
pub split_again : (mark : ℕ) (word rest : List ℕ) → lacks mark word ≡ true
    → parts_at mark (word ++ mark ∷ rest) ≡ Some (word, rest)
unfolding parts_at
split_again mark [] rest e = ap (λ t. cond t (Some ([], rest)) (onto_part mark (parts_at mark rest))) (is_mark mark)
split_again mark (b ∷ word) rest e =
    ap (λ t. cond t (Some ([], word ++ mark ∷ rest)) (onto_part b (parts_at mark (word ++ mark ∷ rest))))
    (isnt b mark (left (not (nat_eq b mark)) (lacks mark word) e))
    ∙ ap (onto_part b) (split_again mark word rest (right (not (nat_eq b mark)) (lacks mark word) e))

-- no text is split where the mark is missing
pub split_none : (mark : ℕ) (word : List ℕ) → lacks mark word ≡ true → parts_at mark word ≡ None
unfolding parts_at
split_none mark [] e = refl
split_none mark (b ∷ word) e =
    ap (λ t. cond t (Some ([], word)) (onto_part b (parts_at mark word)))
    (isnt b mark (left (not (nat_eq b mark)) (lacks mark word) e))
    ∙ ap (onto_part b) (split_none mark word (right (not (nat_eq b mark)) (lacks mark word) e))

-- the number in front, both ways
pub number_first_again : (n : ℕ) (rest : List ℕ) → number_first (number_text n ++ 32 ∷ rest)
    ≡ Some (min n greatest, rest)
unfolding number_first
number_first_again n rest =
    ap (λ o. o >>= λ p. number_in p.0 >>= λ v. Some (v, p.1))
    (split_again 32 (number_text n) rest (high_lacks 32 (number_text n) (omega arith) (number_high n)))
    ∙ ap (λ o. o >>= λ v. Some (v, rest)) (number_again n)

pub bind_some : {A B : Type 0} (o : Option A) (f : A → Option B) (y : B) → (o >>= f) ≡ Some y
    → (x : A) × (o ≡ Some x) × (f x ≡ Some y)
bind_some None f y e = (cc)
bind_some (Some x) f y e = (x, refl, e)

-- what two words lack, the words together lack
pub lacks_append : (a b : List ℕ) → lacks 32 a ≡ true → lacks 32 b ≡ true → lacks 32 (a ++ b) ≡ true
lacks_append [] b e f = f
lacks_append (x ∷ a) b e f =
    and_from (not (nat_eq x 32)) (lacks 32 (a ++ b)) (left (not (nat_eq x 32)) (lacks 32 a) e)
    (lacks_append a b (right (not (nat_eq x 32)) (lacks 32 a) e) f)
