-- Numbers as names: each is a name, and no two are the same.
use Rattle.std.proofs.Common.{◌≡◌, ◌≤◌, ◌<◌, ◌+◌, ◌-◌, ◌^◌, ◌%◌, ℕ, zero, suc, Bool, true, false, ◌&&◌, not, nat_eq}
use Rattle.std.proofs.Common.{nat_lt}
use Rattle.std.proofs.Common.{nat_le, List, [], ◌∷◌, ◌++◌, length, get_or, refl, sym, ◌∙◌, ap, arith, add-one}
use Rattle.std.specs.Prelude.{decimal}
use Rattle.std.specs.List.{list_all}
use Rattle.std.specs.Str.{chars, is_utf8}
use Rattle.std.proofs.lemmas.Bool.{and_from, and_parts, and_left, lt-ltb, le-leb, lt-leb, leb-true, ne_eqb}
use Rattle.std.proofs.lemmas.Bool.{not_from_false}
use Rattle.std.proofs.lemmas.Fmt.{decimal_by_steps, decimal_nonempty, length-decimal-le, IsAscii-decimal}
use Rattle.std.proofs.lemmas.Fmt.{decimal_injective}
use Rattle.std.proofs.lemmas.List.Folds.{list_all-append}
use Rattle.std.proofs.lemmas.Str.{chars-IsAscii, IsUtf8-from_ascii, is_utf8-from_IsUtf8}
use Rattle.task_names.specs.TaskNames.{is_name_char, has_no_edge, is_task_name, name_at, AreDistinct, numbers_from}
use Rattle.task_names.specs.TaskNames.{numbers}

-- ---- a number is a name

-- a byte is a digit
abbrev plain : ℕ → Bool
plain b = nat_le 48 b && nat_le b 57

digit : (n : ℕ) → n < 10 → plain (48 + n) ≡ true
digit n h = and_from (nat_le 48 (48 + n)) (nat_le (48 + n) 57) (le-leb 48 (48 + n) (omega arith))
    (le-leb (48 + n) 57 (omega arith))

digits_plain : (n : ℕ) → n < 2 ^ 64 → list_all plain (decimal n) ≡ true
digits_plain = decimal_by_steps (λ n ds. list_all plain ds ≡ true)
    (λ n h. and_from (plain (48 + n)) true (digit n h) refl)
    (λ n ds low before. list_all-append plain ds ((48 + n % 10) ∷ [])
    ∙ and_from (list_all plain ds) (plain (48 + n % 10) && true) before
    (and_from (plain (48 + n % 10)) true (digit (n % 10) (omega arith)) refl))

is_between : (b : ℕ) → plain b ≡ true → (48 ≤ b) × (b ≤ 57)
is_between b h =
    let p = and_parts (nat_le 48 b) (nat_le b 57) h in
    (leb-true 48 b p.0, leb-true b 57 p.1)

is_char : (b : ℕ) → plain b ≡ true → is_name_char b ≡ true
is_char b h =
    let p = is_between b h in
    let control : (nat_le 127 b && nat_le b 159) ≡ false =
    and_left (nat_le 127 b) (nat_le b 159) (lt-leb 127 b (omega (arith, p.1))) in
    and_from (nat_le 32 b) (not (nat_le 127 b && nat_le b 159)
    && (not (nat_eq b 59) && (not (nat_eq b 65534) && not (nat_eq b 65535)))) (le-leb 32 b (omega (arith, p.0)))
    (and_from (not (nat_le 127 b && nat_le b 159)) (not (nat_eq b 59) && (not (nat_eq b 65534) && not (nat_eq b 65535)))
    (not_from_false (nat_le 127 b && nat_le b 159) control)
    (and_from (not (nat_eq b 59)) (not (nat_eq b 65534) && not (nat_eq b 65535))
    (not_from_false (nat_eq b 59) (ne_eqb b 59 (λ e. omega (arith, p.1, e))))
    (and_from (not (nat_eq b 65534)) (not (nat_eq b 65535))
    (not_from_false (nat_eq b 65534) (ne_eqb b 65534 (λ e. omega (arith, p.1, e))))
    (not_from_false (nat_eq b 65535) (ne_eqb b 65535 (λ e. omega (arith, p.1, e)))))))

are_chars : (ds : List ℕ) → list_all plain ds ≡ true → list_all is_name_char ds ≡ true
are_chars [] h = refl
are_chars (b ∷ ds) h =
    let p = and_parts (plain b) (list_all plain ds) h in
    and_from (is_name_char b) (list_all is_name_char ds) (is_char b p.0) (are_chars ds p.1)

no_blank : (ds : List ℕ) (k : ℕ) → list_all plain ds ≡ true → nat_eq (get_or ds k 0) 32 ≡ false
no_blank [] k h = refl
no_blank (b ∷ ds) zero h =
    let p = is_between b (and_parts (plain b) (list_all plain ds) h).0 in
    ne_eqb b 32 (λ e. omega (arith, p.0, e))
no_blank (b ∷ ds) (suc k) h = no_blank ds k (and_parts (plain b) (list_all plain ds) h).1

pub number_is_name : (n : ℕ) → n ≤ 1024 → is_task_name (decimal n) ≡ true
number_is_name n h =
    let small : n < 2 ^ 64 = omega arith in
    let short : length (decimal n) ≤ 4 = length-decimal-le 4 n (omega arith) (omega arith) small in
    let plain_digits = digits_plain n small in
    let ascii = IsAscii-decimal n small in
    let ds : List ℕ = decimal n in
    and_from (nat_lt 0 (length ds)) (nat_le (length ds) 64
    && (is_utf8 ds && (list_all is_name_char (chars ds) && has_no_edge ds)))
    (lt-ltb 0 (length ds) (decimal_nonempty n small))
    (and_from (nat_le (length ds) 64) (is_utf8 ds && (list_all is_name_char (chars ds) && has_no_edge ds))
    (le-leb (length ds) 64 (omega (arith, short)))
    (and_from (is_utf8 ds) (list_all is_name_char (chars ds) && has_no_edge ds)
    (is_utf8-from_IsUtf8 ds (IsUtf8-from_ascii ds ascii))
    (and_from (list_all is_name_char (chars ds)) (has_no_edge ds)
    (ap (list_all is_name_char) (chars-IsAscii ds ascii) ∙ are_chars ds plain_digits)
    (and_from (not (nat_eq (get_or ds 0 0) 32)) (not (nat_eq (get_or ds (length ds - 1) 0) 32))
    (not_from_false (nat_eq (get_or ds 0 0) 32) (no_blank ds 0 plain_digits))
    (not_from_false (nat_eq (get_or ds (length ds - 1) 0) 32) (no_blank ds (length ds - 1) plain_digits))))))

-- ---- the numbers of tasks

pub many : (k n : ℕ) → length (numbers_from k n) ≡ n
many k zero = refl
many k (suc n) = ap suc (many (suc k) n)

numbered : (k n i : ℕ) → i < n → name_at (numbers_from k n) i ≡ decimal (k + i)
numbered k zero i h = absurd (omega (arith, h))
numbered k (suc n) zero h = ap decimal (omega arith)
numbered k (suc n) (suc i) h =
    let same : suc k + i ≡ k + suc i = omega arith in
    numbered (suc k) n i (omega (arith, h)) ∙ ap decimal same

last_number : (k n : ℕ) → numbers_from k (suc n) ≡ numbers_from k n ++ decimal (k + n) ∷ []
last_number k zero =
    let same : k ≡ k + 0 = omega arith in
    ap (λ m. decimal m ∷ []) same
last_number k (suc n) =
    let same : suc k + n ≡ k + suc n = omega arith in
    ap (λ xs. decimal k ∷ xs) (last_number (suc k) n ∙ ap (λ m. numbers_from (suc k) n ++ decimal m ∷ []) same)

pub next_number : (names : List (List ℕ)) (name : List ℕ) (n : ℕ) → names ≡ numbers n → name ≡ decimal (n + 1)
    → names ++ name ∷ [] ≡ numbers (n + 1)
next_number names name n before is =
    let same : n + 1 ≡ 1 + n = omega arith in
    ap (λ xs. xs ++ name ∷ []) before ∙ ap (λ x. numbers n ++ x ∷ []) (is ∙ ap decimal same)
    ∙ sym (last_number 1 n) ∙ ap numbers (sym (add-one n))

pub numbers_distinct : (n : ℕ) → n ≤ 1024 → AreDistinct (numbers n)
numbers_distinct n few i j h g e =
    let low : i < n = omega (arith, h, many 1 n) in
    let high : j < n = omega (arith, g, many 1 n) in
    let same : 1 + i ≡ 1 + j = decimal_injective (1 + i) (1 + j) (omega arith) (omega arith)
    (sym (numbered 1 n i low) ∙ e ∙ numbered 1 n j high) in
    omega arith
