-- Lines that are written are lines that are read: numbers, pairs and the end mark.
use Rattle.std.proofs.Common.{◌≡◌, ℕ, suc, ◌+◌, ◌-◌, ◌%◌, ◌^◌, ◌<◌, ◌≤◌, ◌&&◌, ◌||◌, Bool, true, false, cond}
use Rattle.std.proofs.Common.{nat_eq, nat_le, List, [], ◌∷◌, ◌++◌, length, refl, ◌∙◌, ap, arith, Some, length-append}
use Rattle.std.specs.Prelude.{decimal, bytes_eq}
use Rattle.std.proofs.lemmas.Bool.Decides.{nat_tests}
use Rattle.std.proofs.lemmas.Fmt.{decimal_by_steps}
use Rattle.std.proofs.lemmas.Bool.{and_from}
use Rattle.line_io.specs.Lines.{lines_of, onto_first, content, is_blank, without_front, without_back, with_first}
use Rattle.line_io.specs.Lines.{is_digit, all_digits, is_number, value_of, number_in}
use Rattle.line_io.specs.declared.text.Num.TheVariants.{Value, NotANumber, Above}
use Rattle.in2_reader.specs.Contents.{numbered, contents_from}
use Rattle.in2_reader.specs.Pairs.{pair_in, parts_in, comma_split, onto_front, is_gap, without_gaps_front}
use Rattle.in2_reader.specs.Pairs.{without_gaps_back, with_front, is_minus_one, arc_in}
use Rattle.in2_reader.specs.declared.pair.Pair.{Pair}
use Rattle.in2_reader.specs.declared.pair.Pair.TheVariants.{Arc, BadArc, End}
use Rattle.line_io.proofs.ReadFacts.{digit_is, value_push, digits_push, right, left}

-- digits that stand for a number
pub record Spell (n : ℕ) (ds : List ℕ) : Type 0 where
  pub digits : all_digits ds ≡ true
  pub some : 0 < length ds
  pub value : value_of ds ≡ n

pub decimal_spells : (n : ℕ) → n < 2 ^ 64 → Spell n (decimal n)
decimal_spells n h = decimal_by_steps Spell
    (λ m l. record {
      digits = and_from (is_digit (48 + m)) true (digit_is m l) refl;
      some = omega arith;
      value = omega arith;
    })
    (λ m ds l s. record {
      digits = digits_push ds (48 + m % 10) s.digits (digit_is (m % 10) (omega arith));
      some = omega (arith, length-append ds ((48 + m % 10) ∷ []));
      value = omega (arith, value_push 0 ds (48 + m % 10), s.value);
    })
    n h

-- no byte ends a line or is blank
abbrev pub all_solid : List ℕ → Bool
all_solid [] = true
all_solid (b ∷ bytes) = nat_le 33 b && all_solid bytes

digit_solid : (b : ℕ) → is_digit b ≡ true → nat_le 33 b ≡ true
digit_solid b e = let l : nat_le 48 b ≡ true = left (nat_le 48 b) (nat_le b 57) e in grind (arith, nat_tests)

pub digits_solid : (ds : List ℕ) → all_digits ds ≡ true → all_solid ds ≡ true
digits_solid [] e = refl
digits_solid (b ∷ ds) e = and_from (nat_le 33 b) (all_solid ds) (digit_solid b (left (is_digit b) (all_digits ds) e))
    (digits_solid ds (right (is_digit b) (all_digits ds) e))

pub solid_append : (xs ys : List ℕ) → all_solid xs ≡ true → all_solid ys ≡ true → all_solid (xs ++ ys) ≡ true
solid_append [] ys e f = f
solid_append (b ∷ xs) ys e f = and_from (nat_le 33 b) (all_solid (xs ++ ys)) (left (nat_le 33 b) (all_solid xs) e)
    (solid_append xs ys (right (nat_le 33 b) (all_solid xs) e) f)

not_end : (b : ℕ) → nat_le 33 b ≡ true → nat_eq b 10 ≡ false
not_end b e = grind (arith, nat_tests)

pub not_blank : (b : ℕ) → nat_le 33 b ≡ true → is_blank b ≡ false
not_blank b e = grind (arith, nat_tests)

pub line_read : (line rest : List ℕ) → all_solid line ≡ true → lines_of (line ++ 10 ∷ rest) ≡ line ∷ lines_of rest
line_read [] rest e = refl
line_read (b ∷ line) rest e =
    ap (λ t. cond t ([] ∷ lines_of (line ++ 10 ∷ rest)) (onto_first b (lines_of (line ++ 10 ∷ rest))))
    (not_end b (left (nat_le 33 b) (all_solid line) e))
    ∙ ap (onto_first b) (line_read line rest (right (nat_le 33 b) (all_solid line) e))

pub back_kept : (line : List ℕ) → all_solid line ≡ true → without_back line ≡ line
back_kept [] e = refl
back_kept (b ∷ []) e = ap (λ t. cond t [] (b ∷ [])) (not_blank b (left (nat_le 33 b) true e))
back_kept (b ∷ c ∷ line) e = ap (with_first b) (back_kept (c ∷ line) (right (nat_le 33 b) (all_solid (c ∷ line)) e))

front_kept : (line : List ℕ) → all_solid line ≡ true → without_front line ≡ line
front_kept [] e = refl
front_kept (b ∷ line) e = ap (λ t. cond t (without_front line) (b ∷ line))
    (not_blank b (left (nat_le 33 b) (all_solid line) e))

content_kept : (line : List ℕ) → all_solid line ≡ true → content line ≡ line
content_kept line e = ap without_back (front_kept line e) ∙ back_kept line e

-- a line that is written is the first content of the text
pub content_read : (k : ℕ) (line rest : List ℕ) → all_solid line ≡ true → 0 < length line
    → contents_from k (line ++ 10 ∷ rest) ≡ (k, line) ∷ contents_from (suc k) rest
content_read k line rest e some =
    let c : content line ≡ line = content_kept line e in
    let n : nat_eq (length line) 0 ≡ false = grind (arith, nat_tests) in
    ap (numbered k) (line_read line rest e)
    ∙ ap (λ x. cond (nat_eq (length x) 0) (numbered (suc k) (lines_of rest))
    ((k, x) ∷ numbered (suc k) (lines_of rest))) c
    ∙ ap (λ t. cond t (numbered (suc k) (lines_of rest)) ((k, line) ∷ numbered (suc k) (lines_of rest))) n

number_is : (ds : List ℕ) → all_digits ds ≡ true → 0 < length ds → is_number ds ≡ true
number_is [] e h = absurd (omega arith)
number_is (d ∷ ds) e h = e

pub number_read : (most n : ℕ) (ds : List ℕ) → Spell n ds → n ≤ most → number_in most ds ≡ Value n
number_read most n ds s h =
    let l : nat_le (value_of ds) most ≡ true = grind (arith, nat_tests, s.value) in
    ap (λ t. cond t (cond (nat_le (value_of ds) most) (Value (value_of ds)) Above) NotANumber)
    (number_is ds s.digits s.some)
    ∙ ap (λ t. cond t (Value (value_of ds)) Above) l ∙ ap Value s.value

not_comma : (b : ℕ) → is_digit b ≡ true → nat_eq b 44 ≡ false
not_comma b e = let l : nat_le 48 b ≡ true = left (nat_le 48 b) (nat_le b 57) e in grind (arith, nat_tests)

not_minus : (b : ℕ) → is_digit b ≡ true → nat_eq b 45 ≡ false
not_minus b e = let l : nat_le 48 b ≡ true = left (nat_le 48 b) (nat_le b 57) e in grind (arith, nat_tests)

pub not_gap : (b : ℕ) → is_digit b ≡ true → is_gap b ≡ false
not_gap b e = let l : nat_le 48 b ≡ true = left (nat_le 48 b) (nat_le b 57) e in grind (arith, nat_tests)

comma_read : (ds es : List ℕ) → all_digits ds ≡ true → comma_split (ds ++ 44 ∷ es) ≡ Some (ds, es)
comma_read [] es e = refl
comma_read (b ∷ ds) es e =
    ap (λ t. cond t (Some ([], ds ++ 44 ∷ es)) (onto_front b (comma_split (ds ++ 44 ∷ es))))
    (not_comma b (left (is_digit b) (all_digits ds) e))
    ∙ ap (onto_front b) (comma_read ds es (right (is_digit b) (all_digits ds) e))

gaps_back : (ds : List ℕ) → all_digits ds ≡ true → without_gaps_back ds ≡ ds
gaps_back [] e = refl
gaps_back (b ∷ []) e = ap (λ t. cond t [] (b ∷ [])) (not_gap b (left (is_digit b) true e))
gaps_back (b ∷ c ∷ ds) e = ap (with_front b) (gaps_back (c ∷ ds) (right (is_digit b) (all_digits (c ∷ ds)) e))

pub gaps_front : (ds : List ℕ) → all_digits ds ≡ true → without_gaps_front ds ≡ ds
gaps_front [] e = refl
gaps_front (b ∷ ds) e = ap (λ t. cond t (without_gaps_front ds) (b ∷ ds))
    (not_gap b (left (is_digit b) (all_digits ds) e))

no_mark : (ds : List ℕ) → all_digits ds ≡ true → is_minus_one ds ≡ false
no_mark [] e = refl
no_mark (b ∷ ds) e = ap (λ t. t && bytes_eq ds (49 ∷ [])) (not_minus b (left (is_digit b) (all_digits ds) e))

abbrev one_pair : ℕ → List ℕ → List ℕ → Pair
one_pair tasks front back = cond (is_minus_one front && is_minus_one back) End
    (arc_in (number_in tasks front) (number_in tasks back))

named_arc : (i j : ℕ) → arc_in (Value (i + 1)) (Value (j + 1)) ≡ Arc (record { first = i; «then» = j })
named_arc i j =
    let z : (nat_eq (i + 1) 0 || nat_eq (j + 1) 0) ≡ false = grind (arith, nat_tests) in
    ap (λ t. cond t BadArc (Arc (record { first = i + 1 - 1; «then» = j + 1 - 1 }))) z
    ∙ ap (λ x. Arc (record { first = x; «then» = j + 1 - 1 })) (omega arith)
    ∙ ap (λ x. Arc (record { first = i; «then» = x })) (omega arith)

pub pair_read : (tasks i j : ℕ) (ds es : List ℕ) → Spell (i + 1) ds → Spell (j + 1) es → i < tasks → j < tasks
    → pair_in tasks (ds ++ 44 ∷ es) ≡ Arc (record { first = i; «then» = j })
pair_read tasks i j ds es s t h l =
    ap (parts_in tasks) (comma_read ds es s.digits)
    ∙ ap (λ x. one_pair tasks x (without_gaps_front es)) (gaps_back ds s.digits)
    ∙ ap (λ x. one_pair tasks ds x) (gaps_front es t.digits)
    ∙ ap (λ b. cond (b && is_minus_one es) End (arc_in (number_in tasks ds) (number_in tasks es))) (no_mark ds s.digits)
    ∙ ap (λ x. arc_in x (number_in tasks es)) (number_read tasks (i + 1) ds s (omega arith))
    ∙ ap (λ x. arc_in (Value (i + 1)) x) (number_read tasks (j + 1) es t (omega arith))
    ∙ named_arc i j
