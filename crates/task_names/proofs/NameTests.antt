-- The parts of the test of a name.
use Rattle.std.proofs.Common.{◌≡◌, ◌≤◌, ◌<◌, ℕ, Bool, true, false, ◌&&◌, nat_lt, nat_le, List, length}
use Rattle.std.proofs.Common.{sym, ◌∙◌, ap}
use Rattle.std.specs.List.{list_all}
use Rattle.std.specs.Str.{chars, is_utf8, IsUtf8}
use Rattle.std.proofs.lemmas.Bool.{and_parts, and_left, and_right, lt-ltb, le-leb, false_from_ne_true}
use Rattle.std.proofs.lemmas.Str.{IsUtf8-from_is_utf8, is_utf8-from_IsUtf8}
use Rattle.task_names.specs.TaskNames.{is_name_char, has_no_edge, is_task_name}

-- a name is text
pub name_is_text : (name : List ℕ) → is_task_name name ≡ true → IsUtf8 name
name_is_text name h =
    let kept : Bool = list_all is_name_char (chars name) && has_no_edge name in
    let a = and_parts (nat_lt 0 (length name)) (nat_le (length name) 64 && (is_utf8 name && kept)) h in
    let b = and_parts (nat_le (length name) 64) (is_utf8 name && kept) a.1 in
    let c = and_parts (is_utf8 name) kept b.1 in
    IsUtf8-from_is_utf8 name c.0

-- of text of the right length and characters only the edges are left to test
pub edges_left : (name : List ℕ) → 0 < length name → length name ≤ 64 → IsUtf8 name
    → list_all is_name_char (chars name) ≡ true → has_no_edge name ≡ is_task_name name
edges_left name some few text kept =
    sym (ap (λ b. b && (nat_le (length name) 64 && (is_utf8 name && (list_all is_name_char
    (chars name) && has_no_edge name))))
    (lt-ltb 0 (length name) some)
    ∙ ap (λ b. b && (is_utf8 name && (list_all is_name_char (chars name) && has_no_edge name))) (le-leb
    (length name) 64 few)
    ∙ ap (λ b. b && (list_all is_name_char (chars name) && has_no_edge name)) (is_utf8-from_IsUtf8 name text)
    ∙ ap (λ b. b && has_no_edge name) kept)

-- what is no text is no name
pub no_name : (name : List ℕ) → (IsUtf8 name → ⊥) → false ≡ is_task_name name
no_name name h =
    let text : is_utf8 name ≡ false = false_from_ne_true (is_utf8 name) (λ e. h (IsUtf8-from_is_utf8 name e)) in
    sym (and_right (nat_lt 0 (length name))
    (nat_le (length name) 64 && (is_utf8 name && (list_all is_name_char (chars name) && has_no_edge name)))
    (and_right (nat_le (length name) 64) (is_utf8 name && (list_all is_name_char (chars name) && has_no_edge name))
    (and_left (is_utf8 name) (list_all is_name_char (chars name) && has_no_edge name) text)))
