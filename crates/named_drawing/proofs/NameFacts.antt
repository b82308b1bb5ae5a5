-- How long names are, and of which characters.
use Rattle.std.proofs.Common.{◌≡◌, ℕ, zero, suc, ◌+◌, ◌<◌, ◌≤◌, ◌&&◌, ◌||◌, not, nat_eq, nat_lt, nat_le, true, false}
use Rattle.std.proofs.Common.{List, [], ◌∷◌, ◌++◌, length, take, drop, get_or, refl, sym, ap, ◌∙◌, inl, inr, arith}
use Rattle.std.specs.Char.{IsScalar}
use Rattle.std.specs.Str.{IsCharBoundary, IsUtf8, all_scalars, chars, encode_utf8_all, is_utf8}
use Rattle.std.specs.List.{list_all}
use Rattle.std.proofs.lemmas.Bool.{and_from, and_parts, cases_lt, eqb-false, eqb-true, le-leb, le-ltb, leb-true, lt-ltb}
use Rattle.std.proofs.lemmas.Bool.{not-true, or_cases, or_left, or_right}
use Rattle.std.proofs.lemmas.List.{take-append-drop}
use Rattle.std.proofs.lemmas.List.Folds.{list_all-append}
use Rattle.std.proofs.lemmas.Str.{IsCharBoundary-after_ascii, IsCharBoundary-before_ascii, IsUtf8-drop, IsUtf8-take}
use Rattle.std.proofs.lemmas.Str.{IsUtf8-from_is_utf8, encodes-append, encodes-chars, encodes_same, scalars-chars}
use Rattle.std.proofs.Math.Utf8.{scalar_cases}
use Rattle.task_names.specs.TaskNames.{AreNames, is_name_char, is_task_name, name_at}
use Rattle.named_drawing.specs.Widths.{part_before, part_behind}
use Rattle.named_drawing.specs.Xml.{IsText, is_xml_char}
use Rattle.named_drawing.specs.inner.Cuts.{IsCutAt}

one_short : (n : List ℕ) → is_task_name n ≡ true → length n ≤ 64
one_short n e =
    let some = and_parts (nat_lt 0 (length n)) _ e in
    let few = and_parts (nat_le (length n) 64) _ some.1 in
    leb-true (length n) 64 few.0

-- each name has at most 64 bytes
pub name_short : (names : List (List ℕ)) → AreNames names → (i : ℕ) → length (name_at names i) ≤ 64
name_short [] all i = omega arith
name_short (n ∷ ns) all zero = one_short n (all 0 [] (omega arith))
name_short (n ∷ ns) all (suc i) = name_short ns (λ k d l. all (suc k) d (omega (arith, l))) i

-- a character of a name is one that XML allows
xml_char : (c : ℕ) → IsScalar c → is_name_char c ≡ true → is_xml_char c ≡ true
xml_char c scalar e =
    let first = and_parts (nat_le 32 c) _ e in
    let second = and_parts (not (nat_le 127 c && nat_le c 159)) _ first.1 in
    let third = and_parts (not (nat_eq c 59)) _ second.1 in
    let last : (not (nat_eq c 65534) ≡ true) × (not (nat_eq c 65535) ≡ true) =
    and_parts (not (nat_eq c 65534)) (not (nat_eq c 65535)) third.1 in
    let from : 32 ≤ c = leb-true 32 c first.0 in
    let no_fe : c ≡ 65534 → ⊥ = eqb-false c 65534 (not-true (nat_eq c 65534) last.0) in
    let no_ff : c ≡ 65535 → ⊥ = eqb-false c 65535 (not-true (nat_eq c 65535) last.1) in
    skip (elim (scalar_cases c scalar) [
      | inl l ↦ or_left (nat_le 32 c && nat_le c 55295) _
          (and_from (nat_le 32 c) (nat_le c 55295) first.0 (le-leb c 55295 (omega (arith, l))))
      | inr h ↦ or_right (nat_le 32 c && nat_le c 55295) _ (elim (cases_lt c 65536) [
        | inl l ↦ or_left (nat_le 57344 c && nat_le c 65533) _
            (and_from (nat_le 57344 c) (nat_le c 65533) (le-leb 57344 c h.0)
            (le-leb c 65533 (below c l no_fe no_ff)))
        | inr g ↦ or_right (nat_le 57344 c && nat_le c 65533) _
            (and_from (nat_le 65536 c) (nat_le c 1114111) (le-leb 65536 c g) (le-leb c 1114111 (omega (arith, h.1))))
      ])
    ])
  where
    below : (m : ℕ) → m < 65536 → (m ≡ 65534 → ⊥) → (m ≡ 65535 → ⊥) → m ≤ 65533
    below m l x y = omega (arith, l, x, y)

    skip : ((nat_le 32 c && nat_le c 55295) || ((nat_le 57344 c && nat_le c 65533)
        || (nat_le 65536 c && nat_le c 1114111))) ≡ true
        → is_xml_char c ≡ true
    skip h = or_right (nat_eq c 9) _ (or_right (nat_eq c 10) _ (or_right (nat_eq c 13) _ h))

xml_chars : (cs : List ℕ) → all_scalars cs ≡ true → list_all is_name_char cs ≡ true → list_all is_xml_char cs ≡ true
xml_chars [] s e = refl
xml_chars (c ∷ cs) s e =
    let scalar = and_parts _ (all_scalars cs) s in
    let parts : (is_name_char c ≡ true) × (list_all is_name_char cs ≡ true) =
    and_parts (is_name_char c) (list_all is_name_char cs) e in
    and_from (is_xml_char c) (list_all is_xml_char cs) (xml_char c scalar.0 parts.0) (xml_chars cs scalar.1 parts.1)

one_text : (n : List ℕ) → is_task_name n ≡ true → IsText n
one_text n e =
    let some = and_parts (nat_lt 0 (length n)) _ e in
    let few = and_parts (nat_le (length n) 64) _ some.1 in
    let text = and_parts (is_utf8 n) _ few.1 in
    let chars_pass = and_parts (list_all is_name_char (chars n)) _ text.1 in
    let utf8 : IsUtf8 n = IsUtf8-from_is_utf8 n text.0 in
    (chars n, (encodes-chars n utf8, xml_chars (chars n) (scalars-chars n utf8) chars_pass.0))

-- each name is a text of XML
pub name_text : (names : List (List ℕ)) → AreNames names → (i : ℕ) → IsText (name_at names i)
name_text [] all i = ([], (refl, refl))
name_text (n ∷ ns) all zero = one_text n (all 0 [] (omega arith))
name_text (n ∷ ns) all (suc i) = name_text ns (λ k d l. all (suc k) d (omega (arith, l))) i

-- a character that XML allows is one of UTF-8
scalar_char : (c : ℕ) → is_xml_char c ≡ true → IsScalar c
scalar_char c e = elim (cases_lt c 55296) [
  | inl l ↦ low l
  | inr h ↦ high h
]
  where
    low : c < 55296 → IsScalar c
    low l = let x : nat_lt c 55296 ≡ true = lt-ltb c 55296 l in rw x refl

    -- one of the last two ranges
    range : 55296 ≤ c → (57344 ≤ c) × (c < 1114112)
    range h = elim (or_cases (nat_eq c 9) _ e) [
      | inl x ↦ absurd (omega (arith, eqb-true c 9 x, h))
      | inr x ↦ elim (or_cases (nat_eq c 10) _ x) [
        | inl y ↦ absurd (omega (arith, eqb-true c 10 y, h))
        | inr y ↦ elim (or_cases (nat_eq c 13) _ y) [
          | inl z ↦ absurd (omega (arith, eqb-true c 13 z, h))
          | inr z ↦ elim (or_cases (nat_le 32 c && nat_le c 55295) _ z) [
            | inl u ↦ absurd (omega (arith, leb-true c 55295 (and_parts (nat_le 32 c) (nat_le c 55295) u).1, h))
            | inr u ↦ elim (or_cases (nat_le 57344 c && nat_le c 65533) _ u) [
              | inl v ↦ (
                leb-true 57344 c (and_parts (nat_le 57344 c) (nat_le c 65533) v).0,
                omega (arith, leb-true c 65533 (and_parts (nat_le 57344 c) (nat_le c 65533) v).1),
              )
              | inr v ↦ (
                omega (arith, leb-true 65536 c (and_parts (nat_le 65536 c) (nat_le c 1114111) v).0),
                omega (arith, leb-true c 1114111 (and_parts (nat_le 65536 c) (nat_le c 1114111) v).1),
              )
            ]
          ]
        ]
      ]
    ]

    high : 55296 ≤ c → IsScalar c
    high h =
        let r = range h in
        let x : nat_lt c 55296 ≡ false = le-ltb c 55296 h in
        let y : nat_le 57344 c ≡ true = le-leb 57344 c r.0 in
        let z : nat_lt c 1114112 ≡ true = lt-ltb c 1114112 r.1 in
        rw (x, y, z) refl

scalar_chars : (cs : List ℕ) → list_all is_xml_char cs ≡ true → all_scalars cs ≡ true
scalar_chars [] e = refl
scalar_chars (c ∷ cs) e =
    let parts : (is_xml_char c ≡ true) × (list_all is_xml_char cs ≡ true) =
    and_parts (is_xml_char c) (list_all is_xml_char cs) e in
    and_from _ (all_scalars cs) (scalar_char c parts.0) (scalar_chars cs parts.1)

-- a text that may be cut at a place is two texts
in_two : (t : List ℕ) (i : ℕ) → IsText t → IsUtf8 t → IsCharBoundary t i → IsText (take i t) × IsText (drop i t)
in_two t i text utf8 cut =
    let front : IsUtf8 (take i t) = IsUtf8-take t i utf8 cut in
    let behind : IsUtf8 (drop i t) = IsUtf8-drop t i utf8 cut in
    let same : front.0 ++ behind.0 ≡ text.0 = encodes_same (front.0 ++ behind.0) text.0
    (encodes-append front.0 behind.0
    ∙ ap (λ x. x ++ encode_utf8_all behind.0) front.1.1
    ∙ ap (λ x. take i t ++ x) behind.1.1
    ∙ take-append-drop i t
    ∙ sym text.1.0) in
    let all : (list_all is_xml_char front.0 && list_all is_xml_char behind.0) ≡ true =
    sym (list_all-append is_xml_char front.0 behind.0) ∙ ap (list_all is_xml_char) same ∙ text.1.1 in
    let each : (list_all is_xml_char front.0 ≡ true) × (list_all is_xml_char behind.0 ≡ true) =
    and_parts (list_all is_xml_char front.0) (list_all is_xml_char behind.0) all in
    ((front.0, (front.1.1, each.0)), (behind.0, (behind.1.1, each.1)))

-- the parts of a text around a blank are texts
pub parted : (name : List ℕ) (at : ℕ) → IsText name → IsCutAt name at
    → IsText (part_before name at) × IsText (part_behind name at)
parted name at text cut =
    let blank : get_or name at 0 ≡ 32 = eqb-true (get_or name at 0) 32 cut.blank in
    let utf8 : IsUtf8 name = (text.0, (scalar_chars text.0 text.1.1, text.1.0)) in
    let first : IsText (take at name) × IsText (drop at name) =
    in_two name at text utf8 (IsCharBoundary-before_ascii name at cut.within (omega (arith, blank))) in
    let second : IsText (take (at + 1) name) × IsText (drop (at + 1) name) =
    in_two name (at + 1) text utf8 (IsCharBoundary-after_ascii name at utf8 cut.within (omega (arith, blank))) in
    (first.0, second.1)
