-- A list of names that is written is read as these names.
use Rattle.std.proofs.Common.{◌≡◌, ◌≢◌, ℕ, zero, suc, ◌+◌, ◌-◌, ◌<◌, Bool, true, false, cond, ◌&&◌, not, nat_eq}
use Rattle.std.proofs.Common.{List, [], ◌∷◌, ◌++◌, length, get_or, take, drop, refl, sym, ap, ◌∙◌, arith}
use Rattle.std.proofs.Common.{append-nil}
use Rattle.std.specs.Prelude.{All, map, nat_le, nat_lt}
use Rattle.std.specs.List.{list_all}
use Rattle.std.specs.Str.{IsUtf8, chars, is_utf8}
use Rattle.std.proofs.lemmas.Bool.{and_parts, false≢true, ltb-true, ne_eqb}
use Rattle.std.proofs.lemmas.Bool.Decides.{nat_tests}
use Rattle.std.proofs.lemmas.List.{drop_more, take-append-drop}
use Rattle.std.proofs.lemmas.List.Folds.{list_all-append}
use Rattle.std.proofs.lemmas.Str.{IsCharBoundary-before_ascii, IsUtf8-drop, IsUtf8-from_is_utf8, IsUtf8-take}
use Rattle.std.proofs.lemmas.Str.{chars-append, chars_past_char, encode_ascii}
use Rattle.std.proofs.Math.Utf8.{encode}
use Rattle.task_names.specs.TaskNames.{has_no_edge, is_name_char, is_task_name}
use Rattle.task_table.specs.Lists.{kept_before, members_of, parts, past_blanks, unblanked, up_to_blanks}
use Rattle.table_text.specs.TableText.{behind_first, joined}

-- What is used of a name: it isn't empty, has no semicolon, and no blank at an end.
pub record IsMember (n : List ℕ) : Type 0 where
  pub some : 0 < length n
  pub whole : (i : ℕ) → i < length n → get_or n i 0 ≢ 59
  pub first : get_or n 0 0 ≢ 32
  pub last : get_or n (length n - 1) 0 ≢ 32

-- a text of characters that a name may have, has no semicolon
no_semicolon : (n : List ℕ) → IsUtf8 n → list_all is_name_char (chars n) ≡ true → (i : ℕ) → i < length n
    → get_or n i 0 ≢ 59
no_semicolon n u h i l e =
    let cut = IsCharBoundary-before_ascii n i l (omega (arith, e)) in
    let before : List ℕ = take i n in
    let rest : List ℕ = drop (i + 1) n in
    let at : drop i n ≡ 59 ∷ rest = drop_more n i 0 l ∙ ap (λ b. b ∷ rest) e in
    let code : 59 ∷ rest ≡ encode 59 ++ rest = ap (λ (t : List ℕ). t ++ rest) (sym (encode_ascii 59 (omega arith))) in
    let split : chars n ≡ chars before ++ (59 ∷ chars rest) =
    ap chars (sym (take-append-drop i n))
    ∙ chars-append before (drop i n) (IsUtf8-take n i u cut)
    ∙ ap (λ (t : List ℕ). chars before ++ t)
    (chars_past_char (drop i n) rest 59 (IsUtf8-drop n i u cut) (at ∙ code)) in
    let all : (list_all is_name_char (chars before) && false) ≡ true =
    sym (list_all-append is_name_char (chars before) (59 ∷ chars rest))
    ∙ ap (list_all is_name_char) (sym split) ∙ h in
    false≢true (and_parts (list_all is_name_char (chars before)) false all).1

pub is_member : (n : List ℕ) → is_task_name n ≡ true → IsMember n
is_member n h =
    let edge : Bool = has_no_edge n in
    let chosen : Bool = list_all is_name_char (chars n) in
    let a = and_parts (nat_lt 0 (length n)) (nat_le (length n) 64 && (is_utf8 n && (chosen && edge))) h in
    let b = and_parts (nat_le (length n) 64) (is_utf8 n && (chosen && edge)) a.1 in
    let c = and_parts (is_utf8 n) (chosen && edge) b.1 in
    let d = and_parts chosen edge c.1 in
    let e = and_parts (not (nat_eq (get_or n 0 0) 32)) (not (nat_eq (get_or n (length n - 1) 0) 32)) d.1 in
    record {
      some = ltb-true 0 (length n) a.0;
      whole = no_semicolon n (IsUtf8-from_is_utf8 n c.0) d.0;
      first = λ f. grind (arith, nat_tests, f, e.0);
      last = λ f. grind (arith, nat_tests, f, e.1);
    }

-- a text without a semicolon is one part
abbrev NoMark : List ℕ → Type 0
NoMark x = (i : ℕ) → i < length x → get_or x i 0 ≢ 59

one_part : (x : List ℕ) → NoMark x → parts x ≡ x ∷ []
one_part [] h = refl
one_part (b ∷ x) h =
    let rest : parts x ≡ x ∷ [] = one_part x (λ i l. h (suc i) (omega (arith, l))) in
    rw (ne_eqb b 59 (h 0 (omega arith)), rest) refl

first_part : (x rest : List ℕ) → NoMark x → parts (x ++ (59 ∷ rest)) ≡ x ∷ parts rest
first_part [] rest h = refl
first_part (b ∷ x) rest h =
    let more : parts (x ++ (59 ∷ rest)) ≡ x ∷ parts rest = first_part x rest (λ i l. h (suc i) (omega (arith, l))) in
    rw (ne_eqb b 59 (h 0 (omega arith)), more) refl

-- the first name as it stands, and the others behind a blank
abbrev spaced : List ℕ → List ℕ
spaced n = 32 ∷ n

space_too : (n : List ℕ) → NoMark n → NoMark (spaced n)
space_too n h zero l e = absurd (omega (arith, e))
space_too n h (suc i) l e = h i (omega (arith, l)) e

tail_all : {X : Type 0} (P : X → Type 0) (x : X) (xs : List X) → All P (x ∷ xs) → All P xs
tail_all P x xs h = λ i d l. h (suc i) d (omega (arith, l))

listed_parts : (n : List ℕ) (ns : List (List ℕ)) → NoMark n → All IsMember ns
    → parts (n ++ behind_first ns) ≡ n ∷ map spaced ns
listed_parts n [] h all = ap parts (append-nil n) ∙ one_part n h
listed_parts n (m ∷ ns) h all =
    let first : IsMember m = all 0 [] (omega arith) in
    first_part n (spaced m ++ behind_first ns) h
    ∙ ap (λ (t : List (List ℕ)). n ∷ t)
    (listed_parts (spaced m) ns (space_too m (marks m first)) (tail_all IsMember m ns all))
  where
    marks : (x : List ℕ) → IsMember x → NoMark x
    marks x g = g.whole

-- a name without blanks at its ends stays
kept_front : (n : List ℕ) → get_or n 0 0 ≢ 32 → past_blanks n ≡ n
kept_front [] h = refl
kept_front (b ∷ n) h = ap (λ t. cond t (past_blanks n) (b ∷ n)) (ne_eqb b 32 h)

kept_back : (n : List ℕ) (m : ℕ) → length n ≡ suc m → get_or n m 0 ≢ 32 → up_to_blanks n ≡ n
kept_back [] m e h = refl
kept_back (b ∷ []) zero e h = ap (λ t. cond t [] (b ∷ [])) (ne_eqb b 32 h)
kept_back (b ∷ []) (suc m) e h = absurd (omega (arith, e))
kept_back (b ∷ c ∷ n) zero e h = absurd (omega (arith, e))
kept_back (b ∷ c ∷ n) (suc m) e h = ap (kept_before b) (kept_back (c ∷ n) m (omega (arith, e)) h)

kept : (n : List ℕ) → IsMember n → unblanked n ≡ n
kept n h = ap up_to_blanks (kept_front n h.first)
    ∙ kept_back n (length n - 1) (omega (arith, h.some)) h.last

all_kept : (ns : List (List ℕ)) → All IsMember ns → map unblanked (map spaced ns) ≡ ns
all_kept [] h = refl
all_kept (n ∷ ns) h =
    ap (λ (t : List ℕ). t ∷ map unblanked (map spaced ns)) (kept n (h 0 [] (omega arith)))
    ∙ ap (λ (t : List (List ℕ)). n ∷ t) (all_kept ns (tail_all IsMember n ns h))

-- a text with a first byte that is no blank has a byte that is none
not_blank : (n rest : List ℕ) → 0 < length n → get_or n 0 0 ≢ 32 → list_all (λ b. nat_eq b 32) (n ++ rest) ≡ false
not_blank [] rest l h = absurd (omega (arith, l))
not_blank (b ∷ n) rest l h = ap (λ t. t && list_all (λ b. nat_eq b 32) (n ++ rest)) (ne_eqb b 32 h)

-- the names of a list that is written are read again
pub names_read : (ns : List (List ℕ)) → All IsMember ns → members_of (joined ns) ≡ ns
names_read [] h = refl
names_read (n ∷ ns) h =
    let first : IsMember n = h 0 [] (omega arith) in
    let text : List ℕ = n ++ behind_first ns in
    ap (λ t. cond t [] (map unblanked (parts text))) (not_blank n (behind_first ns) first.some first.first)
    ∙ ap (map unblanked) (listed_parts n ns (marks n first) (tail_all IsMember n ns h))
    ∙ ap (λ (t : List ℕ). t ∷ map unblanked (map spaced ns)) (kept n first)
    ∙ ap (λ (t : List (List ℕ)). n ∷ t) (all_kept ns (tail_all IsMember n ns h))
  where
    marks : (x : List ℕ) → IsMember x → NoMark x
    marks x g = g.whole
