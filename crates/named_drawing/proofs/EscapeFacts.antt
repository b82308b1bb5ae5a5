-- Names as they stand in the text: part by part, and character by character.
use Rattle.std.proofs.Common.{◌≡◌, ℕ, ◌+◌, ◌/◌, ◌%◌, ◌≤◌, Bool, true, false, cond, nat_eq, nat_lt, List, [], ◌∷◌}
use Rattle.std.proofs.Common.{◌++◌, refl, sym, ap, ◌∙◌, append_assoc, arith, codes}
use Rattle.std.specs.Char.{encode_utf8}
use Rattle.std.proofs.lemmas.Bool.{ne_eqb, ltb-true, ltb-false}
use Rattle.named_drawing.specs.Escapes.{escaped, escaped_byte}
use Rattle.named_drawing.specs.inner.Characters.{escaped_char}

-- two texts, one behind the other
pub escaped-append : (xs ys : List ℕ) → escaped (xs ++ ys) ≡ escaped xs ++ escaped ys
escaped-append [] ys = refl
escaped-append (x ∷ xs) ys = ap (λ t. escaped_byte x ++ t) (escaped-append xs ys) ∙ sym
    (append_assoc (escaped_byte x) (escaped xs) (escaped ys))

-- bytes of characters that aren't ASCII
abbrev pub AreHigh : List ℕ → Type 0
AreHigh [] = Unit {0}
AreHigh (b ∷ bs) = (128 ≤ b) × AreHigh bs

high_byte : (b : ℕ) → 128 ≤ b → escaped_byte b ≡ b ∷ []
high_byte b h =
    let x : nat_eq b 38 ≡ false = ne_eqb b 38 (λ e. absurd (omega (arith, e, h))) in
    let y : nat_eq b 60 ≡ false = ne_eqb b 60 (λ e. absurd (omega (arith, e, h))) in
    let z : nat_eq b 62 ≡ false = ne_eqb b 62 (λ e. absurd (omega (arith, e, h))) in
    rw (x, y, z) refl

escaped_high : (bs : List ℕ) → AreHigh bs → escaped bs ≡ bs
escaped_high [] h = refl
escaped_high (b ∷ bs) h = ap (λ t. t ++ escaped bs) (high_byte b h.0) ∙ ap (λ t. b ∷ t) (escaped_high bs h.1)

-- the bytes of such a character
pub encode_high : (c : ℕ) → 128 ≤ c → AreHigh (encode_utf8 c)
unfolding encode_utf8
encode_high c h =
    let big : nat_lt c 128 ≡ false = by (nat_lt c 128) refl in
    rw big (cases (nat_lt c 2048) (nat_lt c 65536))
  where
    by : (b : Bool) → nat_lt c 128 ≡ b → b ≡ false
    by true e = absurd (omega (arith, ltb-true c 128 e, h))
    by false e = refl

    cases : (p q : Bool) → AreHigh (cond p ((192 + c / 64) ∷ (128 + c % 64) ∷ []) (cond q
        ((224 + c / 4096) ∷ (128 + c / 64 % 64) ∷ (128 + c % 64) ∷ [])
        ((240 + c / 262144) ∷ (128 + c / 4096 % 64) ∷ (128 + c / 64 % 64) ∷ (128 + c % 64) ∷ [])))
    cases true q = (omega arith, (omega arith, tt))
    cases false true = (omega arith, (omega arith, (omega arith, tt)))
    cases false false = (omega arith, (omega arith, (omega arith, (omega arith, tt))))

pub encode_low : (c : ℕ) → nat_lt c 128 ≡ true → encode_utf8 c ≡ c ∷ []
unfolding encode_utf8
encode_low c h = rw h refl

-- the bytes of a character stand in the text as the character does
pub escaped_encode : (c : ℕ) → escaped (encode_utf8 c) ≡ escaped_char c
escaped_encode c = by (nat_lt c 128) refl
  where
    low : (p q r : Bool) → (e : encode_utf8 c ≡ c ∷ [])
        → cond p (codes "&amp;") (cond q (codes "&lt;") (cond r (codes "&gt;") (c ∷ []))) ++ []
        ≡ cond p (codes "&amp;") (cond q (codes "&lt;") (cond r (codes "&gt;") (encode_utf8 c)))
    low true q r e = refl
    low false true r e = refl
    low false false true e = refl
    low false false false e = sym e

    by : (b : Bool) → nat_lt c 128 ≡ b → escaped (encode_utf8 c) ≡ escaped_char c
    by true e = ap escaped (encode_low c e) ∙ low (nat_eq c 38) (nat_eq c 60) (nat_eq c 62) (encode_low c e)
    by false e =
        let h : 128 ≤ c = ltb-false c 128 e in
        let x : nat_eq c 38 ≡ false = ne_eqb c 38 (λ e. absurd (omega (arith, e, h))) in
        let y : nat_eq c 60 ≡ false = ne_eqb c 60 (λ e. absurd (omega (arith, e, h))) in
        let z : nat_eq c 62 ≡ false = ne_eqb c 62 (λ e. absurd (omega (arith, e, h))) in
        escaped_high (encode_utf8 c) (encode_high c h) ∙ rw (x, y, z) refl

-- one character more of a name
pub next_char : (text pushed whole left rest : List ℕ) (c : ℕ) → text ++ escaped left ≡ whole
    → left ≡ encode_utf8 c ++ rest → pushed ≡ text ++ escaped_char c → pushed ++ escaped rest ≡ whole
next_char text pushed whole left rest c so_far splits is =
    ap (λ t. t ++ escaped rest) is
    ∙ append_assoc text (escaped_char c) (escaped rest)
    ∙ ap (λ t. text ++ (t ++ escaped rest)) (sym (escaped_encode c))
    ∙ ap (λ t. text ++ t) (sym (escaped-append (encode_utf8 c) rest))
    ∙ ap (λ t. text ++ escaped t) (sym splits)
    ∙ so_far
