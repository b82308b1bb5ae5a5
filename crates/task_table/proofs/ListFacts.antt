-- Lists of names in a field: the parts between semicolons, and the blanks around a name.
use Rattle.std.proofs.Common.{◌≡◌, ◌≤◌, ◌<◌, ◌+◌, ◌-◌, ℕ, zero, suc, Bool, true, false, cond, not, nat_eq, List, []}
use Rattle.std.proofs.Common.{◌∷◌, ◌++◌}
use Rattle.std.proofs.Common.{length, take, drop, get_or, Some, None, refl, sym, ◌∙◌, ap, subst, arith, add-one}
use Rattle.std.specs.Prelude.{position}
use Rattle.std.specs.List.{prefix_len, position_or_len}
use Rattle.std.proofs.lemmas.Bool.{lt-ltb, false_from_ne_true, eq-eqb, ne_eqb}
use Rattle.std.proofs.lemmas.List.{take_more, take_all}
use Rattle.std.proofs.lemmas.List.Quantifiers.{position-Some}
use Rattle.line_io.specs.Lines.{onto_first}
use Rattle.task_table.specs.Lists.{up_to_blanks, kept_before, parts}

-- ---- blanks

blank_behind : (xs : List ℕ) (b : ℕ) → nat_eq b 32 ≡ true → up_to_blanks (xs ++ b ∷ []) ≡ up_to_blanks xs
blank_behind [] b h = ap (λ t. cond t [] (b ∷ [])) h
blank_behind (x ∷ xs) b h = ap (kept_before x) (blank_behind xs b h)

kept_behind : (xs : List ℕ) (b : ℕ) → nat_eq b 32 ≡ false → up_to_blanks (xs ++ b ∷ []) ≡ xs ++ b ∷ []
kept_behind [] b h = ap (λ t. cond t [] (b ∷ [])) h
kept_behind (x ∷ xs) b h = ap (kept_before x) (kept_behind xs b h) ∙ cons xs
  where
    cons : (xs : List ℕ) → kept_before x (xs ++ b ∷ []) ≡ x ∷ (xs ++ b ∷ [])
    cons [] = refl
    cons (y ∷ ys) = refl

-- a text is what stands before its last byte, and that byte
last_of : (xs : List ℕ) → 1 ≤ length xs → take (length xs - 1) xs ++ get_or xs (length xs - 1) 0 ∷ [] ≡ xs
last_of xs h =
    let all : length xs - 1 + 1 ≡ length xs = omega arith in
    sym (take_more xs (length xs - 1) 0 (omega arith)) ∙ ap (λ k. take k xs) all ∙ take_all (length xs) xs (omega arith)

pub blank_last : (xs : List ℕ) → 1 ≤ length xs → get_or xs (length xs - 1) 0 ≡ 32
    → up_to_blanks (take (length xs - 1) xs) ≡ up_to_blanks xs
blank_last xs h e =
    sym (blank_behind (take (length xs - 1) xs) (get_or xs (length xs - 1) 0) (eq-eqb (get_or xs
    (length xs - 1) 0) 32 e))
    ∙ ap up_to_blanks (last_of xs h)

pub kept_last : (xs : List ℕ) → 1 ≤ length xs → (get_or xs (length xs - 1) 0 ≡ 32 → ⊥) → xs ≡ up_to_blanks xs
kept_last xs h e =
    sym (last_of xs h)
    ∙ sym (kept_behind (take (length xs - 1) xs) (get_or xs (length xs - 1) 0) (ne_eqb (get_or xs
    (length xs - 1) 0) 32 e))
    ∙ ap up_to_blanks (last_of xs h)

-- ---- parts

-- one item that passes is found
pub passes_first : {X : Type 0} (p : X → Bool) (xs : List X) (k : ℕ) (d : X) → k < length xs
    → p (get_or xs k d) ≡ true → position_or_len p xs < length xs
passes_first p [] k d h e = absurd (omega (arith, h))
passes_first p (x ∷ xs) zero d h e =
    let P : Bool → Type 0 = λ b. cond (not b) (1 + prefix_len (λ x. not (p x)) xs) 0 < suc (length xs) in
    subst P (sym e) (omega arith)
passes_first p (x ∷ xs) (suc k) d h e = by (p x) (passes_first p xs k d (omega (arith, h)) e)
  where
    by : (b : Bool) → position_or_len p xs < length xs → cond (not b) (1 + prefix_len (λ x. not (p x)) xs) 0
        < suc (length xs)
    by true less = omega arith
    by false less = omega (arith, less)

pub found_first : {X : Type 0} (p : X → Bool) (xs : List X) (k : ℕ) (d : X) → k < length xs
    → p (get_or xs k d) ≡ true → position p xs ≡ Some (position_or_len p xs)
found_first p xs k d h e =
    ap (λ b. cond b (Some (position_or_len p xs)) None)
    (lt-ltb (position_or_len p xs) (length xs) (passes_first p xs k d h e))

part_at : (bytes : List ℕ) (k : ℕ) → k < length bytes → nat_eq (get_or bytes k 0) 59 ≡ true
    → ((j : ℕ) → j < k → nat_eq (get_or bytes j 0) 59 ≡ false)
    → parts bytes ≡ take k bytes ∷ parts (drop (suc k) bytes)
part_at [] k h is before = absurd (omega (arith, h))
part_at (b ∷ bytes) zero h is before = ap (λ t. cond t ([] ∷ parts bytes) (onto_first b (parts bytes))) is
part_at (b ∷ bytes) (suc k) h is before =
    ap (λ t. cond t ([] ∷ parts bytes) (onto_first b (parts bytes))) (before zero (omega arith))
    ∙ ap (onto_first b) (part_at bytes k (omega (arith, h)) is (λ j l. before (suc j) (omega (arith, l))))

-- the first part, and those behind the semicolon
pub first_part : (bytes : List ℕ) (k : ℕ) → position (λ b. nat_eq b 59) bytes ≡ Some k
    → parts bytes ≡ take k bytes ∷ parts (drop (k + 1) bytes)
first_part bytes k h =
    let p = position-Some (λ b. nat_eq b 59) bytes k 0 h in
    part_at bytes k p.0 p.1 p.2 ∙ ap (λ j. take k bytes ∷ parts (drop j bytes)) (sym (add-one k))

no_semicolon : (bytes : List ℕ) → ((j : ℕ) → j < length bytes → nat_eq (get_or bytes j 0) 59 ≡ false)
    → parts bytes ≡ bytes ∷ []
no_semicolon [] h = refl
no_semicolon (b ∷ bytes) h =
    ap (λ t. cond t ([] ∷ parts bytes) (onto_first b (parts bytes))) (h zero (omega arith))
    ∙ ap (onto_first b) (no_semicolon bytes (λ j l. h (suc j) (omega (arith, l))))

pub last_part : (bytes : List ℕ) → position (λ b. nat_eq b 59) bytes ≡ None → parts bytes ≡ bytes ∷ []
last_part bytes h = no_semicolon bytes (λ j l. false_from_ne_true (nat_eq (get_or bytes j 0) 59)
    (λ e. let found = found_first (λ b. nat_eq b 59) bytes j 0 l e in cc (sym h ∙ found)))
