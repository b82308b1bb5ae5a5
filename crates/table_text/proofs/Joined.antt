-- Lists of names, a name more at the end.
use Rattle.std.proofs.Common.{◌≡◌, ℕ, zero, suc, ◌+◌, ◌<◌, ◌≤◌, Bool, true, false, cond, nat_eq, codes, List, [], ◌∷◌}
use Rattle.std.proofs.Common.{◌++◌}
use Rattle.std.proofs.Common.{length, get_or, sym, ap, ◌∙◌, arith, add-one, append-nil, append_assoc, length-append}
use Rattle.std.specs.Prelude.{◌&&◌, All, map, nat_le, nat_lt}
use Rattle.std.specs.List.{list_all}
use Rattle.std.specs.Str.{chars, is_utf8}
use Rattle.std.proofs.lemmas.Bool.{ltb-true, ne_eqb, and_parts}
use Rattle.std.proofs.lemmas.List.{map-append}
use Rattle.std.proofs.lemmas.List.Elements.{All-append, All-cons, All-map, All-nil}
use Rattle.task_names.specs.TaskNames.{AreNames, has_no_edge, is_name_char, is_task_name, name_at}
use Rattle.table_text.specs.TableText.{behind_first, joined, listed, those_below}
use Rattle.table_text.specs.inner.Members.{between, member_if, with_member}

behind_more : (ns : List (List ℕ)) (x : List ℕ) → behind_first (ns ++ x ∷ []) ≡ behind_first ns ++ (codes "; " ++ x)
behind_more [] x = append-nil (codes "; " ++ x)
behind_more (n ∷ ns) x =
    ap (λ (t : List ℕ). (codes "; " ++ n) ++ t) (behind_more ns x)
    ∙ sym (append_assoc (codes "; " ++ n) (behind_first ns) (codes "; " ++ x))

between_some : (t : List ℕ) → 0 < length t → between t ≡ codes "; "
between_some t l =
    let some : nat_eq (length t) 0 ≡ false = ne_eqb (length t) 0 (λ e. omega (arith, l, e)) in
    ap (λ (b : Bool). cond b [] (codes "; ")) some

-- a name more behind a list, whose first name isn't empty
pub joined_more : (ns : List (List ℕ)) (x : List ℕ) → All (λ n. 0 < length n) ns
    → joined (ns ++ x ∷ []) ≡ with_member (joined ns) x
joined_more [] x h = append-nil x
joined_more (n ∷ ns) x h =
    let first : 0 < length n = h 0 [] (omega arith) in
    let text : List ℕ = n ++ behind_first ns in
    let some : 0 < length text = omega (arith, length-append n (behind_first ns), first) in
    ap (λ (t : List ℕ). n ++ t) (behind_more ns x)
    ∙ sym (append_assoc n (behind_first ns) (codes "; " ++ x))
    ∙ ap (λ (t : List ℕ). text ++ (t ++ x)) (sym (between_some text some))

-- names that tasks have aren't empty
pub some_name : (n : List ℕ) → is_task_name n ≡ true → 0 < length n
some_name n h =
    let more : Bool = nat_le (length n) 64 && (is_utf8 n && (list_all is_name_char (chars n) && has_no_edge n)) in
    let q : (nat_lt 0 (length n) ≡ true) × (more ≡ true) = and_parts (nat_lt 0 (length n)) more h in
    ltb-true 0 (length n) q.0

each_some : (names : List (List ℕ)) (is : List ℕ) → AreNames names → All (λ i. i < length names) is
    → All (λ n. 0 < length n) (map (name_at names) is)
each_some names is named within =
    All-map (λ n. 0 < length n) (name_at names) is
    (λ k d l. some_name (name_at names (get_or is k d)) (named (get_or is k d) [] (within k d l)))

one_within : (b : Bool) (n m : ℕ) → n < m → All (λ i. i < m) (cond b (n ∷ []) [])
one_within true n m l = All-cons (λ i. i < m) n [] l (All-nil (λ i. i < m))
one_within false n m l = All-nil (λ i. i < m)

pub those_within : (p : ℕ → Bool) (n m : ℕ) → n ≤ m → All (λ i. i < m) (those_below p n)
those_within p zero m l = All-nil (λ i. i < m)
those_within p (suc n) m l =
    All-append (λ i. i < m) (those_below p n) (cond (p n) (n ∷ []) [])
    (those_within p n m (omega (arith, l))) (one_within (p n) n m (omega (arith, l)))

one_listed : (names : List (List ℕ)) (is : List ℕ) (b : Bool) (n : ℕ) → All (λ x. 0 < length x) (map (name_at names) is)
    → joined (map (name_at names) (is ++ cond b (n ∷ []) []))
    ≡ member_if (joined (map (name_at names) is)) b (name_at names n)
one_listed names is true n h =
    ap joined (map-append (name_at names) is (n ∷ []))
    ∙ joined_more (map (name_at names) is) (name_at names n) h
one_listed names is false n h = ap (λ (t : List ℕ). joined (map (name_at names) t)) (append-nil is)

-- one task more of those that are asked
pub listed_more : (names : List (List ℕ)) (p : ℕ → Bool) (n : ℕ) (wanted : Bool) → AreNames names → n ≤ length names
    → wanted ≡ p n
    → listed names (those_below p (n + 1)) ≡ member_if (listed names (those_below p n)) wanted (name_at names n)
listed_more names p n wanted named within passes =
    ap (λ m. listed names (those_below p m)) (add-one n)
    ∙ one_listed names (those_below p n) (p n) n
    (each_some names (those_below p n) named (those_within p n (length names) within))
    ∙ ap (λ b. member_if (listed names (those_below p n)) b (name_at names n)) (sym passes)
