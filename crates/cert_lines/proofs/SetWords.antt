-- Words that are sets, a digit after the other.
use Rattle.std.proofs.Common.{◌≡◌, ℕ, suc, ◌+◌, ◌/◌, ◌<◌, Bool, true, false, cond, ◌&&◌, nat_eq, List, [], length}
use Rattle.std.proofs.Common.{get_or, drop, replicate, refl, sym, ◌∙◌, ap, Some, None, add-one}
use Rattle.std.proofs.lemmas.List.{drop_more}
use Rattle.cert_lines.specs.Words.{are_digits, with_digits, with_digit, set_in, is_hex, is_spare, hex_value}

both_false : (a : Bool) → (a && false) ≡ false
both_false true = refl
both_false false = refl

pub digits_more : (n k : ℕ) (word : List ℕ) → k < length word → is_hex (get_or word k 0) ≡ true
    → is_spare n k (hex_value (get_or word k 0)) ≡ true
    → are_digits n (k + 1) (drop (k + 1) word) ≡ are_digits n k (drop k word)
unfolding are_digits
digits_more n k word h e f =
    sym (ap (are_digits n k) (drop_more word k 0 h) ∙ ap (λ b. b
    && (is_spare n k (hex_value (get_or word k 0)) && are_digits n (suc k) (drop (k + 1) word))) e
    ∙ ap (λ b. b && are_digits n (suc k) (drop (k + 1) word)) f
    ∙ ap (λ j. are_digits n j (drop (k + 1) word)) (sym (add-one k)))

pub digits_no_hex : (n k : ℕ) (word : List ℕ) → k < length word → is_hex (get_or word k 0) ≡ false
    → are_digits n k (drop k word) ≡ false
unfolding are_digits
digits_no_hex n k word h e = ap (are_digits n k) (drop_more word k 0 h)
    ∙ ap (λ b. b && (is_spare n k (hex_value (get_or word k 0)) && are_digits n (suc k) (drop (k + 1) word))) e

pub digits_no_spare : (n k : ℕ) (word : List ℕ) → k < length word → is_spare n k (hex_value (get_or word k 0)) ≡ false
    → are_digits n k (drop k word) ≡ false
unfolding are_digits
digits_no_spare n k word h f =
    ap (are_digits n k) (drop_more word k 0 h) ∙ ap (λ b. is_hex (get_or word k 0)
    && (b && are_digits n (suc k) (drop (k + 1) word))) f ∙ both_false (is_hex (get_or word k 0))

pub set_more : (s : List Bool) (k : ℕ) (word : List ℕ) → k < length word
    → with_digits (with_digit s k (hex_value (get_or word k 0))) (k + 1) (drop (k + 1) word)
    ≡ with_digits s k (drop k word)
unfolding with_digits
set_more s k word h =
    sym (ap (with_digits s k) (drop_more word k 0 h) ∙ ap (λ j.
    with_digits (with_digit s k (hex_value (get_or word k 0))) j (drop (k + 1) word)) (sym (add-one k)))

pub set_short : (n : ℕ) (word : List ℕ) → nat_eq (length word) ((n + 3) / 4) ≡ false → None ≡ set_in n word
unfolding set_in
set_short n word e = sym (ap (λ b. cond (b && are_digits n 0 word) (Some (with_digits (replicate 1024 false) 0 word))
    None) e)

pub set_none : (n : ℕ) (word : List ℕ) → are_digits n 0 word ≡ false → None ≡ set_in n word
unfolding set_in
set_none n word e =
    sym (ap (λ b. cond (nat_eq (length word) ((n + 3) / 4) && b) (Some (with_digits (replicate 1024 false) 0 word))
    None) e
    ∙ ap (λ b. cond b (Some (with_digits (replicate 1024 false) 0 word)) None)
    (both_false (nat_eq (length word) ((n + 3) / 4))))

pub set_is : (n : ℕ) (word : List ℕ) (s : List Bool) → nat_eq (length word) ((n + 3) / 4) ≡ true
    → are_digits n 0 word ≡ true → s ≡ with_digits (replicate 1024 false) 0 word → Some s ≡ set_in n word
unfolding set_in
set_is n word s e f g =
    ap (λ x. Some x) g ∙ sym (ap (λ b. cond (b && are_digits n 0 word)
    (Some (with_digits (replicate 1024 false) 0 word)) None) e
    ∙ ap (λ b. cond b (Some (with_digits (replicate 1024 false) 0 word)) None) f)

pub digits_end : (n k : ℕ) (word : List ℕ) → are_digits n k [] ≡ true
unfolding are_digits
digits_end n k word = refl

pub set_end : (s : List Bool) (k : ℕ) → with_digits s k [] ≡ s
unfolding with_digits
set_end s k = refl
