-- Names and numbers are fields that need no quotes, so a record of six of them is written with commas between.
use Rattle.std.proofs.Common.{◌≡◌, ◌<◌, ◌^◌, ℕ, Bool, true, false, List, [], ◌∷◌, ◌++◌, codes, decimal, refl}
use Rattle.std.proofs.Common.{append_assoc, arith}
use Rattle.std.specs.Prelude.{◌&&◌}
use Rattle.std.specs.List.{list_all}
use Rattle.std.proofs.lemmas.Bool.Decides.{nat_tests}
use Rattle.std.proofs.lemmas.Fmt.{decimal_is_IsNumeral}
use Rattle.std.proofs.lemmas.Str.Parse.{digit_from_value}
use Rattle.std.specs.Str.Parse.{AllDigits}
use Rattle.station_report.specs.TimelineText.{timeline_row}
use Rattle.csv.specs.Writing.{default_writer, needs_byte, needs_quotes, row_text, is_blank, fields_text}
use Rattle.combined_graph.specs.Mixes.{is_name_byte, is_name}

-- a field that needs no quotes
abbrev pub IsPlain : List ℕ → Type 0
IsPlain field = needs_quotes default_writer field ≡ false

name_byte : (b : ℕ) → is_name_byte b ≡ true → needs_byte default_writer b ≡ false
name_byte b h = grind (arith, nat_tests, h)

plain_bytes : (field : List ℕ) → list_all is_name_byte field ≡ true → IsPlain field
plain_bytes [] h = refl
plain_bytes (b ∷ field) h = by (is_name_byte b) refl h (plain_bytes field)
  where
    by : (t : Bool) → is_name_byte b ≡ t → (t && list_all is_name_byte field) ≡ true
        → (list_all is_name_byte field ≡ true → IsPlain field) → IsPlain (b ∷ field)
    by true e rest go = rw (name_byte b e) (go rest)
    by false e rest go = cc rest

digit_byte : (b : ℕ) → 47 < b → b < 58 → needs_byte default_writer b ≡ false
digit_byte b low high = grind (arith, nat_tests, low, high)

plain_digits : (ds : List ℕ) → AllDigits 10 ds → IsPlain ds
plain_digits [] h = refl
plain_digits (b ∷ ds) h =
    let digit = digit_from_value b h.0 in
    rw (digit_byte b (omega (arith, digit)) (omega (arith, digit))) (plain_digits ds h.1)

-- three truths joined
last_of : (a b c : Bool) → (a && (b && c)) ≡ true → c ≡ true
last_of true true c h = h
last_of true false c h = cc h
last_of false b c h = cc h

pub plain_name : (name : List ℕ) → is_name name ≡ true → IsPlain name
plain_name name h = plain_bytes name (last_of _ _ _ h)

pub six_plain : (a b c d e f : List ℕ) → IsPlain a → IsPlain b → IsPlain c → IsPlain d → IsPlain e → IsPlain f
    → row_text default_writer (a ∷ b ∷ c ∷ d ∷ e ∷ f ∷ [])
    ≡ a ++ codes "," ++ b ++ codes "," ++ c ++ codes "," ++ d ++ codes "," ++ e ++ codes "," ++ f ++ codes "\n"
unfolding is_blank fields_text
six_plain a b c d e f pa pb pc pd pe pf = rw (pa, pb, pc, pd, pe, pf) (simp append_assoc refl)

plain_number : (n : ℕ) → n < 2 ^ 64 → IsPlain (decimal n)
plain_number n h = plain_digits (decimal n) (decimal_is_IsNumeral n h).0.1

-- the record of a row of a timeline is that row
pub row_is : (station unit start work utility : ℕ) (name a b d e f : List ℕ) → is_name name ≡ true
    → station < 2 ^ 64 → unit < 2 ^ 64 → start < 2 ^ 64 → work < 2 ^ 64 → utility < 2 ^ 64
    → a ≡ decimal station → b ≡ decimal unit → d ≡ decimal start → e ≡ decimal work → f ≡ decimal utility
    → row_text default_writer (a ∷ b ∷ name ∷ d ∷ e ∷ f ∷ []) ≡ timeline_row station unit name start work utility
row_is station unit start work utility name a b d e f named hs hu hb hw ho ea eb ed ee ef =
    rw (ea, eb, ed, ee, ef)
    (six_plain (decimal station) (decimal unit) name (decimal start) (decimal work) (decimal utility)
    (plain_number station hs) (plain_number unit hu) (plain_name name named) (plain_number start hb)
    (plain_number work hw) (plain_number utility ho))
