-- The lines of a written text, as they are read.
use Rattle.std.proofs.Common.{◌≡◌, ◌∙◌, ℕ, suc, ◌<◌, ◌≤◌, ◌&&◌, Bool, true, false, not, cond, nat_eq, nat_le, List, []}
use Rattle.std.proofs.Common.{◌∷◌, ◌++◌, length, Some, refl, sym, ap, arith, append_assoc, length-append}
use Rattle.std.specs.Prelude.{map}
use Rattle.std.specs.Char.{to_ascii_lowercase}
use Rattle.std.proofs.lemmas.Bool.Decides.{nat_tests}
use Rattle.std.proofs.lemmas.Bool.{and_from, not-true}
use Rattle.line_io.specs.Lines.{lines_of, onto_first, content, without_front, without_back, with_first}
use Rattle.line_io.specs.Lines.{is_digit, all_digits, number_in}
use Rattle.line_io.specs.declared.text.Num.TheVariants.{Value}
use Rattle.in2_reader.specs.Contents.{numbered, contents_from}
use Rattle.in2_reader.specs.Pairs.{onto_front}
use Rattle.in2_reader.proofs.Digits.{Spell, number_read, not_gap, gaps_front, digits_solid, all_solid}
use Rattle.alb_reader.specs.Sections.{mark_of, named}
use Rattle.alb_reader.specs.Faults.{gap_split, timed, timed_by}
use Rattle.alb_reader.specs.declared.mark.Mark.TheVariants.{Body}
use Rattle.in2_reader.proofs.Digits.{back_kept as back_solid, not_blank}
use Rattle.line_io.proofs.ReadFacts.{right, left}

-- no byte ends a line
abbrev pub all_plain : List ℕ → Bool
all_plain [] = true
all_plain (b ∷ bytes) = not (nat_eq b 10) && all_plain bytes

line_kept : (line rest : List ℕ) → all_plain line ≡ true → lines_of (line ++ 10 ∷ rest) ≡ line ∷ lines_of rest
line_kept [] rest e = refl
line_kept (b ∷ line) rest e =
    ap (λ t. cond t ([] ∷ lines_of (line ++ 10 ∷ rest)) (onto_first b (lines_of (line ++ 10 ∷ rest))))
    (not-true (nat_eq b 10) (left (not (nat_eq b 10)) (all_plain line) e))
    ∙ ap (onto_first b) (line_kept line rest (right (not (nat_eq b 10)) (all_plain line) e))

-- a line is the first content of the text
pub content_at : (k : ℕ) (line rest : List ℕ) → all_plain line ≡ true → content line ≡ line → 0 < length line
    → contents_from k (line ++ 10 ∷ rest) ≡ (k, line) ∷ contents_from (suc k) rest
content_at k line rest p c some =
    let n : nat_eq (length line) 0 ≡ false = grind (arith, nat_tests, some) in
    ap (numbered k) (line_kept line rest p)
    ∙ ap (λ x. cond (nat_eq (length x) 0) (numbered (suc k) (lines_of rest))
    ((k, x) ∷ numbered (suc k) (lines_of rest))) c
    ∙ ap (λ t. cond t (numbered (suc k) (lines_of rest)) ((k, line) ∷ numbered (suc k) (lines_of rest))) n

-- an empty line is passed over
pub nothing_at : (k : ℕ) (rest : List ℕ) → contents_from k (10 ∷ rest) ≡ contents_from (suc k) rest
nothing_at k rest = refl

-- two words of digits with a blank between
plain_digit : (b : ℕ) → is_digit b ≡ true → not (nat_eq b 10) ≡ true
plain_digit b e = (let l : nat_le 48 b ≡ true = left (nat_le 48 b) (nat_le b 57) e in grind (arith, nat_tests, l))

pub digits_plain : (ds more : List ℕ) → all_digits ds ≡ true → all_plain more ≡ true → all_plain (ds ++ more) ≡ true
digits_plain [] more e p = p
digits_plain (b ∷ ds) more e p = and_from (not (nat_eq b 10)) (all_plain (ds ++ more))
    (plain_digit b (left (is_digit b) (all_digits ds) e)) (digits_plain ds more (right (is_digit b) (all_digits ds) e)
    p)

with_kept : (b c : ℕ) (xs : List ℕ) → with_first b (c ∷ xs) ≡ b ∷ c ∷ xs
with_kept b c xs = refl

back_kept : (xs es : List ℕ) → all_solid es ≡ true → 0 < length es → without_back (xs ++ es) ≡ xs ++ es
back_kept [] es e some = back_solid es e
back_kept (x ∷ xs) es e some = ap (with_first x) (back_kept xs es e some)
    ∙ some_first x (xs ++ es) (omega (arith, some, length-append xs es))
  where
    some_first : (x : ℕ) (ys : List ℕ) → 0 < length ys → with_first x ys ≡ x ∷ ys
    some_first x [] h = absurd (omega (arith, h))
    some_first x (y ∷ ys) h = refl

front_kept : (ds more : List ℕ) → all_digits ds ≡ true → 0 < length ds → without_front (ds ++ more) ≡ ds ++ more
front_kept [] more e some = absurd (omega (arith, some))
front_kept (b ∷ ds) more e some =
    let l : nat_le 48 b ≡ true = left (nat_le 48 b) (nat_le b 57) (left (is_digit b) (all_digits ds) e) in
    ap (λ t. cond t (without_front (ds ++ more)) (b ∷ (ds ++ more))) (not_blank b (grind (arith, nat_tests, l)))

pub timed_content : (ds es : List ℕ) → all_digits ds ≡ true → 0 < length ds → all_digits es ≡ true → 0 < length es
    → content (ds ++ 32 ∷ es) ≡ ds ++ 32 ∷ es
timed_content ds es d n e m =
    ap without_back (front_kept ds (32 ∷ es) d n)
    ∙ ap without_back (sym (append_assoc ds (32 ∷ []) es)) ∙ back_kept (ds ++ 32 ∷ []) es (digits_solid es e) m
    ∙ append_assoc ds (32 ∷ []) es

gap_read : (ds es : List ℕ) → all_digits ds ≡ true → gap_split (ds ++ 32 ∷ es) ≡ Some (ds, es)
gap_read [] es e = refl
gap_read (b ∷ ds) es e =
    ap (λ t. cond t (Some ([], ds ++ 32 ∷ es)) (onto_front b (gap_split (ds ++ 32 ∷ es))))
    (not_gap b (left (is_digit b) (all_digits ds) e))
    ∙ ap (onto_front b) (gap_read ds es (right (is_digit b) (all_digits ds) e))

pub timed_read : (v t : ℕ) (ds es : List ℕ) → Spell v ds → Spell t es → v ≤ 1024 → t ≤ 200000000000000
    → timed (ds ++ 32 ∷ es) ≡ (Value v, Value t)
timed_read v t ds es s u few limit =
    ap timed_by (gap_read ds es s.digits)
    ∙ ap (λ x. (number_in 1024 ds, number_in 200000000000000 x)) (gaps_front es u.digits)
    ∙ ap (λ x. (x, number_in 200000000000000 es)) (number_read 1024 v ds s few)
    ∙ ap (λ x. (Value v, x)) (number_read 200000000000000 t es u limit)

-- digits begin no heading
pub digits_body : (ds more : List ℕ) → all_digits ds ≡ true → 0 < length ds → mark_of (ds ++ more) ≡ Body
digits_body [] more e some = absurd (omega (arith, some))
digits_body (b ∷ ds) more e some =
    let l : nat_le b 57 ≡ true = right (nat_le 48 b) (nat_le b 57) (left (is_digit b) (all_digits ds) e) in
    let n : nat_eq b 60 ≡ false = grind (arith, nat_tests, l) in
    ap (λ t. cond t (named (map to_ascii_lowercase (b ∷ (ds ++ more)))) Body) n
