-- Texts that are shown by the words of a content: numbers, names, and texts of these.
use Rattle.std.proofs.Common.{◌≡◌, ℕ, zero, suc, ◌+◌, ◌/◌, ◌%◌, ◌<◌, ◌≤◌, Bool, true, false, cond, ◌&&◌, nat_eq}
use Rattle.std.proofs.Common.{nat_le, nat_lt, List, [], ◌∷◌, ◌++◌, refl, sym, ap, ◌∙◌, subst, arith}
use Rattle.std.proofs.Common.{decimal, ◌||◌, inl, inr}
use Rattle.std.specs.Str.{encode_utf8_all}
use Rattle.std.specs.List.{list_all}
use Rattle.std.specs.Fmt.{digit_glyph, digits, digits_onto}
use Rattle.std.proofs.lemmas.Bool.{and_from, and_parts, le-leb, leb-true, lt-ltb, ne_eqb}
use Rattle.std.proofs.lemmas.Bool.{eqb-true, or_cases, or_left, or_right}
use Rattle.std.proofs.lemmas.Str.{encodes-append}
use Rattle.std.proofs.lemmas.List.Folds.{list_all-append}
use Rattle.std.proofs.Math.Nat.{mod-lt}
use Rattle.line_drawing.specs.Parts.{text_of}
use Rattle.named_drawing.specs.Escapes.{escaped, escaped_byte}
use Rattle.named_drawing.specs.Xml.{IsText, is_value_byte, is_xml_char}
use Rattle.named_drawing.proofs.EscapeFacts.{encode_low, escaped-append}

-- what each item of a list passes, if it passes another test
all_as : (p q : ℕ → Bool) → ((b : ℕ) → p b ≡ true → q b ≡ true) → (bs : List ℕ) → list_all p bs ≡ true
    → list_all q bs ≡ true
all_as p q h [] e = refl
all_as p q h (b ∷ bs) e =
    let both : (p b ≡ true) × (list_all p bs ≡ true) = and_parts (p b) (list_all p bs) e in
    and_from (q b) (list_all q bs) (h b both.0) (all_as p q h bs both.1)

pub all_both : (p : ℕ → Bool) (a b : List ℕ) → list_all p a ≡ true → list_all p b ≡ true → list_all p (a ++ b) ≡ true
all_both p a b x y = list_all-append p a b ∙ and_from (list_all p a) (list_all p b) x y

-- a plain sign of ASCII, or the end of a line
abbrev pub is_plain : ℕ → Bool
is_plain b = (nat_le 32 b && nat_le b 126) || nat_eq b 10

-- digits
abbrev pub is_digit : ℕ → Bool
is_digit b = nat_le 48 b && nat_le b 57

glyph_is_digit : (n : ℕ) → is_digit (digit_glyph false (n % 10)) ≡ true
glyph_is_digit n =
    let small : n % 10 < 10 = mod-lt n (omega arith) in
    let low : nat_lt (n % 10) 10 ≡ true = lt-ltb (n % 10) 10 small in
    let is : digit_glyph false (n % 10) ≡ 48 + n % 10 =
    ap (λ b. cond b (48 + n % 10) (87 + n % 10)) low in
    let P : ℕ → Type 0 = λ b. is_digit b ≡ true in
    subst P (sym is) (and_from (nat_le 48 (48 + n % 10)) (nat_le (48 + n % 10) 57)
    (le-leb 48 (48 + n % 10) (omega arith)) (le-leb (48 + n % 10) 57 (omega (arith, small))))

digits_pass : (k n : ℕ) (acc : List ℕ) → list_all is_digit acc ≡ true
    → list_all is_digit (digits_onto k 10 false n acc) ≡ true
digits_pass zero n acc h = h
digits_pass (suc k) n acc h = by (nat_eq (n / 10) 0)
    (digits_pass k (n / 10) (digit_glyph false (n % 10) ∷ acc) more)
  where
    more : list_all is_digit (digit_glyph false (n % 10) ∷ acc) ≡ true
    more = and_from (is_digit (digit_glyph false (n % 10))) (list_all is_digit acc) (glyph_is_digit n) h

    by : (b : Bool) → list_all is_digit (digits_onto k 10 false (n / 10) (digit_glyph false (n % 10) ∷ acc)) ≡ true
        → list_all is_digit (cond b (digit_glyph false (n % 10) ∷ acc)
        (digits_onto k 10 false (n / 10) (digit_glyph false (n % 10) ∷ acc))) ≡ true
    by true e = and_from (is_digit (digit_glyph false (n % 10))) (list_all is_digit acc) (glyph_is_digit n) h
    by false e = e

pub number_digits : (n : ℕ) → list_all is_digit (decimal n) ≡ true
unfolding digits
number_digits n = digits_pass 64 n [] refl

between : (b : ℕ) → is_digit b ≡ true → (48 ≤ b) × (b ≤ 57)
between b e =
    let both : (nat_le 48 b ≡ true) × (nat_le b 57 ≡ true) = and_parts (nat_le 48 b) (nat_le b 57) e in
    (leb-true 48 b both.0, leb-true b 57 both.1)

digit_escaped : (b : ℕ) → is_digit b ≡ true → escaped_byte b ≡ b ∷ []
digit_escaped b e =
    let h = between b e in
    let low : 48 ≤ b = h.0 in
    let high : b ≤ 57 = h.1 in
    let x : nat_eq b 38 ≡ false = ne_eqb b 38 (λ e. absurd (omega (arith, e, low))) in
    let y : nat_eq b 60 ≡ false = ne_eqb b 60 (λ e. absurd (omega (arith, e, high))) in
    let z : nat_eq b 62 ≡ false = ne_eqb b 62 (λ e. absurd (omega (arith, e, high))) in
    rw (x, y, z) refl

digits_escaped : (bs : List ℕ) → list_all is_digit bs ≡ true → escaped bs ≡ bs
digits_escaped [] e = refl
digits_escaped (b ∷ bs) e =
    let both : (is_digit b ≡ true) × (list_all is_digit bs ≡ true) = and_parts (is_digit b) (list_all is_digit bs) e in
    ap (λ t. t ++ escaped bs) (digit_escaped b both.0) ∙ ap (λ t. b ∷ t) (digits_escaped bs both.1)

digit_is_plain : (b : ℕ) → is_digit b ≡ true → is_plain b ≡ true
digit_is_plain b e =
    let h = between b e in
    let low : 48 ≤ b = h.0 in
    let high : b ≤ 57 = h.1 in
    or_left (nat_le 32 b && nat_le b 126) (nat_eq b 10)
    (and_from (nat_le 32 b) (nat_le b 126) (le-leb 32 b (omega (arith, low))) (le-leb b 126 (omega (arith, high))))

digit_is_value : (b : ℕ) → is_digit b ≡ true → is_value_byte b ≡ true
digit_is_value b e =
    let h = between b e in
    let low : 48 ≤ b = h.0 in
    let high : b ≤ 57 = h.1 in
    let x : nat_eq b 34 ≡ false = ne_eqb b 34 (λ e. absurd (omega (arith, e, low))) in
    let y : nat_eq b 38 ≡ false = ne_eqb b 38 (λ e. absurd (omega (arith, e, low))) in
    let z : nat_eq b 60 ≡ false = ne_eqb b 60 (λ e. absurd (omega (arith, e, high))) in
    let a : nat_le 32 b ≡ true = le-leb 32 b (omega (arith, low)) in
    let c : nat_le b 126 ≡ true = le-leb b 126 (omega (arith, high)) in
    rw (a, c, x, y, z) refl

-- a number is a value of an attribute
pub number_value : (n : ℕ) → list_all is_value_byte (decimal n) ≡ true
number_value n = all_as is_digit is_value_byte digit_is_value (decimal n) (number_digits n)

-- texts of characters, one behind the other
pub both_texts : (a b : List ℕ) → IsText a → IsText b → IsText (a ++ b)
both_texts a b x y = (
  x.0 ++ y.0,
  (
    encodes-append x.0 y.0 ∙ ap (λ t. t ++ encode_utf8_all y.0) x.1.0 ∙ ap (λ t. a ++ t) y.1.0,
    all_both is_xml_char x.0 y.0 x.1.1 y.1.1,
  ),
)

-- a plain sign of ASCII is a character that takes one byte
plain_char : (b : ℕ) → is_plain b ≡ true → is_xml_char b ≡ true
plain_char b e = elim (or_cases (nat_le 32 b && nat_le b 126) (nat_eq b 10) e) [
  | inl h ↦ (
      let both : (nat_le 32 b ≡ true) × (nat_le b 126 ≡ true) = and_parts (nat_le 32 b) (nat_le b 126) h in
      let low : 32 ≤ b = leb-true 32 b both.0 in
      let high : b ≤ 126 = leb-true b 126 both.1 in
      or_right (nat_eq b 9) _ (or_right (nat_eq b 10) _ (or_right (nat_eq b 13) _ (or_left
      (nat_le 32 b && nat_le b 55295) _ (and_from (nat_le 32 b) (nat_le b 55295) both.0
      (le-leb b 55295 (omega (arith, high)))))))
      )
  | inr h ↦ or_right (nat_eq b 9) _ (or_left (nat_eq b 10) _ h)
]

plain_below : (b : ℕ) → is_plain b ≡ true → b < 128
plain_below b e = elim (or_cases (nat_le 32 b && nat_le b 126) (nat_eq b 10) e) [
  | inl h ↦ (
      let both : (nat_le 32 b ≡ true) × (nat_le b 126 ≡ true) = and_parts (nat_le 32 b) (nat_le b 126) h in
      omega (arith, leb-true b 126 both.1)
      )
  | inr h ↦ omega (arith, eqb-true b 10 h)
]

plain_encodes : (bs : List ℕ) → list_all is_plain bs ≡ true → encode_utf8_all bs ≡ bs
plain_encodes [] e = refl
plain_encodes (b ∷ bs) e =
    let both : (is_plain b ≡ true) × (list_all is_plain bs ≡ true) = and_parts (is_plain b) (list_all is_plain bs) e in
    ap (λ t. t ++ encode_utf8_all bs) (encode_low b (lt-ltb b 128 (plain_below b both.0)))
    ∙ ap (λ t. b ∷ t) (plain_encodes bs both.1)

plain_text : (bs : List ℕ) → list_all is_plain bs ≡ true → IsText bs
plain_text bs e = (bs, (plain_encodes bs e, all_as is_plain is_xml_char plain_char bs e))

-- a text is shown by words
pub record Shown (text : List ℕ) : Type 0 where
  pub raw : List ℕ
  pub same : escaped raw ≡ text
  pub proper : IsText raw

-- a text without signs that XML keeps for itself
pub plain : (t : List ℕ) → escaped t ≡ t → list_all is_plain t ≡ true → Shown t
plain t e h = record { raw = t; same = e; proper = plain_text t h }

pub number : (n : ℕ) → Shown (decimal n)
number n = plain (decimal n) (digits_escaped (decimal n) (number_digits n))
    (all_as is_digit is_plain digit_is_plain (decimal n) (number_digits n))

pub empty : Shown []
empty = plain [] refl refl

pub joined_words : (a b : List ℕ) → Shown a → Shown b → Shown (a ++ b)
joined_words a b x y = record {
  raw = x.raw ++ y.raw;
  same = escaped-append x.raw y.raw ∙ ap (λ t. t ++ escaped y.raw) x.same ∙ ap (λ t. a ++ t) y.same;
  proper = both_texts x.raw y.raw x.proper y.proper;
}

pub either_words : (c : Bool) (a b : List ℕ) → Shown a → Shown b → Shown (cond c a b)
either_words true a b x y = x
either_words false a b x y = y

-- parts that are each shown by words
abbrev pub AreShown : List (List ℕ) → Type 0
AreShown [] = Unit {0}
AreShown (p ∷ ps) = Shown p × AreShown ps

pub words_of : (ps : List (List ℕ)) → AreShown ps → Shown (text_of ps)
words_of [] h = empty
words_of (p ∷ ps) h = joined_words p (text_of ps) h.0 (words_of ps h.1)

-- parts that are each a value of an attribute
abbrev pub AreValues : List (List ℕ) → Type 0
AreValues [] = Unit {0}
AreValues (p ∷ ps) = (list_all is_value_byte p ≡ true) × AreValues ps

pub value_of : (ps : List (List ℕ)) → AreValues ps → list_all is_value_byte (text_of ps) ≡ true
value_of [] h = refl
value_of (p ∷ ps) h = all_both is_value_byte p (text_of ps) h.0 (value_of ps h.1)
