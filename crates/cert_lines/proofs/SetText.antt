-- Sets that are written are read, and what is read as a set is how it is written.
use Rattle.std.proofs.Common.{◌≡◌, ◌≢◌, ℕ, zero, suc, ◌+◌, ◌-◌, ◌*◌, ◌/◌, ◌<◌, ◌≤◌, Bool, true, false, not, cond, ◌||◌}
use Rattle.std.proofs.Common.{◌&&◌, nat_eq, nat_le, nat_lt, List, [], ◌∷◌, ◌++◌, length, get_or, replicate, map, refl}
use Rattle.std.proofs.Common.{sym, ◌∙◌, ap, arith, Some, None, append_assoc, length-append, eq-eqb, add-one}
use Rattle.std.specs.List.{flat_map, range_with_len}
use Rattle.std.proofs.lemmas.Bool.Decides.{nat_tests}
use Rattle.std.proofs.lemmas.List.{set_at, length-replicate, ext_get_or, get_or-append-add, get_or_append_left}
use Rattle.std.proofs.lemmas.List.{get_or-append_right}
use Rattle.std.proofs.lemmas.List.FromFn.{length-map-range_with_len}
use Rattle.std.proofs.lemmas.Bool.{and_from}
use Rattle.line_rules.specs.Ranges.{IsOf}
use Rattle.cert_lines.specs.Numbers.{member, four, hex_digit, set_text}
use Rattle.cert_lines.specs.Words.{is_hex, hex_value, bit_of, is_spare, are_digits, with_task, with_digit}
use Rattle.cert_lines.specs.Words.{with_digits, set_in}
use Rattle.cert_lines.proofs.NumberWords.{all_high}
use Rattle.cert_lines.proofs.SetWords.{set_is}
use Rattle.line_io.proofs.ReadFacts.{right, left}
use Rattle.line_rules.proofs.about_lines.Members.{In-empty}

-- the four truths of a digit
abbrev pub bits : ℕ → List Bool
bits b = bit_of (hex_value b) 0 ∷ bit_of (hex_value b) 1 ∷ bit_of (hex_value b) 2 ∷ bit_of (hex_value b) 3 ∷ []

-- a task is put where none is
put_at : (p : List Bool) (ys : List Bool) (i : ℕ) (t : Bool) → length p ≡ i
    → with_task (p ++ false ∷ ys) i t ≡ p ++ t ∷ ys
put_at p ys i true e = set_at p false ys true i e
put_at p ys i false e = refl

push_length : (p : List Bool) (t : Bool) (i : ℕ) → length p ≡ i → length (p ++ t ∷ []) ≡ i + 1
push_length p t i e = omega (arith, length-append p (t ∷ []))

-- the tasks of a digit are put where none is
put_four : (p ys : List Bool) (k d : ℕ) → length p ≡ 4 * k
    → with_digit (p ++ false ∷ false ∷ false ∷ false ∷ ys) k d ≡ p
    ++ bit_of d 0 ∷ bit_of d 1 ∷ bit_of d 2 ∷ bit_of d 3 ∷ ys
put_four p ys k d e =
    let a = bit_of d 0 in
    let b = bit_of d 1 in
    let c = bit_of d 2 in
    let p1 : List Bool = p ++ a ∷ [] in
    let p2 : List Bool = p1 ++ b ∷ [] in
    let p3 : List Bool = p2 ++ c ∷ [] in
    let l1 : length p1 ≡ 4 * k + 1 = push_length p a (4 * k) e in
    let l2 : length p2 ≡ 4 * k + 2 = push_length p1 b (4 * k + 1) l1 ∙ omega arith in
    let l3 : length p3 ≡ 4 * k + 3 = push_length p2 c (4 * k + 2) l2 ∙ omega arith in
    let s1 : p ++ a ∷ false ∷ false ∷ false ∷ ys ≡ p1 ++ false ∷ false ∷ false ∷ ys =
    sym (append_assoc p (a ∷ []) (false ∷ false ∷ false ∷ ys)) in
    let s2 : p1 ++ b ∷ false ∷ false ∷ ys ≡ p2 ++ false ∷ false ∷ ys =
    sym (append_assoc p1 (b ∷ []) (false ∷ false ∷ ys)) in
    let s3 : p2 ++ c ∷ false ∷ ys ≡ p3 ++ false ∷ ys = sym (append_assoc p2 (c ∷ []) (false ∷ ys)) in
    ap (λ s. with_task (with_task (with_task s (4 * k + 1) b) (4 * k + 2) c) (4 * k + 3) (bit_of d 3))
    (put_at p (false ∷ false ∷ false ∷ ys) (4 * k) a e ∙ s1)
    ∙ ap (λ s. with_task (with_task s (4 * k + 2) c) (4 * k + 3) (bit_of d 3))
    (put_at p1 (false ∷ false ∷ ys) (4 * k + 1) b l1 ∙ s2)
    ∙ ap (λ s. with_task s (4 * k + 3) (bit_of d 3)) (put_at p2 (false ∷ ys) (4 * k + 2) c l2 ∙ s3)
    ∙ put_at p3 ys (4 * k + 3) (bit_of d 3) l3
    ∙ append_assoc p2 (c ∷ []) (bit_of d 3 ∷ ys) ∙ append_assoc p1 (b ∷ []) (c ∷ bit_of d 3 ∷ ys)
    ∙ append_assoc p (a ∷ []) (b ∷ c ∷ bit_of d 3 ∷ ys)

-- room for four times as many tasks as there are digits
abbrev room : List ℕ → List Bool → List Bool
room [] rest = rest
room (b ∷ word) rest = false ∷ false ∷ false ∷ false ∷ room word rest

put_all : (p rest : List Bool) (k : ℕ) (word : List ℕ) → length p ≡ 4 * k
    → with_digits (p ++ room word rest) k word ≡ p ++ (flat_map bits word ++ rest)
unfolding with_digits
put_all p rest k [] e = refl
put_all p rest k (b ∷ word) e =
    ap (λ s. with_digits s (suc k) word) (put_four p (room word rest) k (hex_value b) e
    ∙ sym (append_assoc p (bits b) (room word rest)))
    ∙ put_all (p ++ bits b) rest (suc k) word (omega (arith, length-append p (bits b)))
    ∙ append_assoc p (bits b) (flat_map bits word ++ rest)

room_is : (word : List ℕ) (r : ℕ) → room word (replicate r false) ≡ replicate (4 * length word + r) false
room_is [] r = ap (λ n. replicate n false) (omega arith)
room_is (b ∷ word) r =
    let e : 4 * length (b ∷ word) + r ≡ suc (suc (suc (suc (4 * length word + r)))) = omega arith in
    ap (λ s. false ∷ false ∷ false ∷ false ∷ s) (room_is word r) ∙ ap (λ n. replicate n false) (sym e)

-- the set of the digits of a word
pub set_of_digits : (word : List ℕ) → length word ≤ 256 → with_digits (replicate 1024 false) 0 word ≡ flat_map bits word
    ++ replicate (1024 - 4 * length word) false
set_of_digits word h =
    let r : ℕ = 1024 - 4 * length word in
    let e : 1024 ≡ 4 * length word + r = omega arith in
    ap (λ n. with_digits (replicate n false) 0 word) e ∙ ap (λ s. with_digits s 0 word) (sym (room_is word r))
    ∙ put_all [] (replicate r false) 0 word (omega arith)

-- a task in the set of a word is one of the n tasks
within : (n k : ℕ) (word : List ℕ) (rest : List Bool) (i : ℕ) → are_digits n k word ≡ true
    → ((j : ℕ) → get_or rest j false ≢ true) → get_or (flat_map bits word ++ rest) i false ≡ true → 4 * k + i < n
unfolding are_digits
within n k [] rest i e h t = absurd (h i t)
within n k (b ∷ word) rest i e h t =
    let d : ℕ = hex_value b in
    let more : (is_spare n k d && are_digits n (suc k) word) ≡ true =
    right (is_hex b) (is_spare n k d && are_digits n (suc k) word) e in
    let s : is_spare n k d ≡ true = left (is_spare n k d) (are_digits n (suc k) word) more in
    let r0 = nat_lt (4 * k) n || not (bit_of d 0) in
    let r1 = nat_lt (4 * k + 1) n || not (bit_of d 1) in
    let r2 = nat_lt (4 * k + 2) n || not (bit_of d 2) in
    let r3 = nat_lt (4 * k + 3) n || not (bit_of d 3) in
    cases n k b word rest i (left r0 (r1 && (r2 && r3)) s) (left r1 (r2 && r3) (right r0 (r1 && (r2 && r3)) s))
    (left r2 r3 (right r1 (r2 && r3) (right r0 (r1 && (r2 && r3)) s)))
    (right r2 r3 (right r1 (r2 && r3) (right r0 (r1 && (r2 && r3)) s)))
    (λ j. within n (suc k) word rest j (right (is_spare n k d) (are_digits n (suc k) word) more) h) t
  where
    below : (m n : ℕ) (t : Bool) → (nat_lt m n || not t) ≡ true → t ≡ true → m < n
    below m n true e f = let g : (nat_lt m n || false) ≡ true = e in I (nat_lt m n) refl g
      where
        I : (x : Bool) → nat_lt m n ≡ x → (x || false) ≡ true → m < n
        I true p q = grind (arith, nat_tests)
        I false p q = (cc)
    below m n false e f = (cc)

    cases : (n k b : ℕ) (word : List ℕ) (rest : List Bool) (i : ℕ)
        → (nat_lt (4 * k) n || not (bit_of (hex_value b) 0)) ≡ true
        → (nat_lt (4 * k + 1) n || not (bit_of (hex_value b) 1)) ≡ true
        → (nat_lt (4 * k + 2) n || not (bit_of (hex_value b) 2)) ≡ true
        → (nat_lt (4 * k + 3) n || not (bit_of (hex_value b) 3)) ≡ true
        → ((j : ℕ) → get_or (flat_map bits word ++ rest) j false ≡ true → 4 * suc k + j < n)
        → get_or (flat_map bits (b ∷ word) ++ rest) i false ≡ true → 4 * k + i < n
    cases n k b word rest zero a0 a1 a2 a3 h t = let l : 4 * k < n = below (4 * k) n (bit_of (hex_value b) 0) a0 t in
        omega arith
    cases n k b word rest (suc zero) a0 a1 a2 a3 h t = let l : 4 * k + 1 < n =
        below (4 * k + 1) n (bit_of (hex_value b) 1) a1 t in omega arith
    cases n k b word rest (suc (suc zero)) a0 a1 a2 a3 h t = let l : 4 * k + 2 < n =
        below (4 * k + 2) n (bit_of (hex_value b) 2) a2 t in omega arith
    cases n k b word rest (suc (suc (suc zero))) a0 a1 a2 a3 h t = let l : 4 * k + 3 < n =
        below (4 * k + 3) n (bit_of (hex_value b) 3) a3 t in omega arith
    cases n k b word rest (suc (suc (suc (suc j)))) a0 a1 a2 a3 h t = let l : 4 * suc k + j < n = h j t in omega arith

abbrev one : Bool → ℕ
one t = cond t 1 0

four_of_bits : (d : ℕ) → d < 16 → 8 * one (bit_of d 0) + 4 * one (bit_of d 1) + 2 * one (bit_of d 2) + one (bit_of d 3)
    ≡ d
four_of_bits d h = grind (arith, nat_tests)

pub hex_small : (b : ℕ) → is_hex b ≡ true → hex_value b < 16
hex_small b e = grind (arith, nat_tests)

hex_back : (b : ℕ) → is_hex b ≡ true → hex_digit (hex_value b) ≡ b
hex_back b e = grind (arith, nat_tests)

-- a truth at a place that may be there
there : (n i : ℕ) (s : List Bool) (t : Bool) → (nat_lt i n || not t) ≡ true → get_or s i false ≡ t
    → member n s i ≡ one t
there n i s true e f = ap (λ x. one (nat_lt i n && x)) f ∙ ap (λ x. one (x && true)) (lt (nat_lt i n) e)
  where
    lt : (x : Bool) → (x || not true) ≡ true → x ≡ true
    lt true h = refl
    lt false h = (cc)
there n i s false e f = ap (λ x. one (nat_lt i n && x)) f ∙ none (nat_lt i n)
  where
    none : (x : Bool) → one (x && false) ≡ 0
    none true = refl
    none false = refl

text_found : (n k : ℕ) (word : List ℕ) (s p post : List Bool) → length p ≡ 4 * k → s ≡ p ++ (flat_map bits word ++ post)
    → are_digits n k word ≡ true
    → map (λ j. hex_digit (four n s j)) (range_with_len k (length word)) ≡ word
unfolding are_digits
text_found n k [] s p post l e d = refl
text_found n k (b ∷ word) s p post l e d =
    let v : ℕ = hex_value b in
    let hex : is_hex b ≡ true = left (is_hex b) (is_spare n k v && are_digits n (suc k) word) d in
    let more : (is_spare n k v && are_digits n (suc k) word) ≡ true =
    right (is_hex b) (is_spare n k v && are_digits n (suc k) word) d in
    let sp : is_spare n k v ≡ true = left (is_spare n k v) (are_digits n (suc k) word) more in
    let r0 = nat_lt (4 * k) n || not (bit_of v 0) in
    let r1 = nat_lt (4 * k + 1) n || not (bit_of v 1) in
    let r2 = nat_lt (4 * k + 2) n || not (bit_of v 2) in
    let r3 = nat_lt (4 * k + 3) n || not (bit_of v 3) in
    let ys : List Bool = flat_map bits (b ∷ word) ++ post in
    let get : (j : ℕ) → get_or s (4 * k + j) false ≡ get_or ys j false =
    λ j. ap (λ x. get_or x (4 * k + j) false) e ∙ ap (λ m. get_or (p ++ ys) (m + j) false) (sym l)
    ∙ get_or-append-add p ys j false in
    let m0 : member n s (4 * k) ≡ one (bit_of v 0) = there n (4 * k) s (bit_of v 0) (left r0 (r1 && (r2 && r3)) sp)
    (ap (λ m. get_or s m false) (omega arith) ∙ get 0) in
    let m1 : member n s (4 * k + 1) ≡ one (bit_of v 1) = there n (4 * k + 1) s (bit_of v 1)
    (left r1 (r2 && r3) (right r0 (r1 && (r2 && r3)) sp)) (get 1) in
    let m2 : member n s (4 * k + 2) ≡ one (bit_of v 2) = there n (4 * k + 2) s (bit_of v 2)
    (left r2 r3 (right r1 (r2 && r3) (right r0 (r1 && (r2 && r3)) sp))) (get 2) in
    let m3 : member n s (4 * k + 3) ≡ one (bit_of v 3) = there n (4 * k + 3) s (bit_of v 3)
    (right r2 r3 (right r1 (r2 && r3) (right r0 (r1 && (r2 && r3)) sp))) (get 3) in
    let f : four n s k ≡ v =
    ap (λ x. 8 * x + 4 * member n s (4 * k + 1) + 2 * member n s (4 * k + 2) + member n s (4 * k + 3)) m0
    ∙ ap (λ x. 8 * one (bit_of v 0) + 4 * x + 2 * member n s (4 * k + 2) + member n s (4 * k + 3)) m1
    ∙ ap (λ x. 8 * one (bit_of v 0) + 4 * one (bit_of v 1) + 2 * x + member n s (4 * k + 3)) m2
    ∙ ap (λ x. 8 * one (bit_of v 0) + 4 * one (bit_of v 1) + 2 * one (bit_of v 2) + x) m3
    ∙ four_of_bits v (hex_small b hex) in
    ap (λ x. hex_digit x ∷ map (λ j. hex_digit (four n s j)) (range_with_len (k + 1) (length word))) f
    ∙ ap (λ x. x ∷ map (λ j. hex_digit (four n s j)) (range_with_len (k + 1) (length word))) (hex_back b hex)
    ∙ ap (λ j. b ∷ map (λ i. hex_digit (four n s i)) (range_with_len j (length word))) (add-one k)
    ∙ ap (λ w. b ∷ w) (text_found n (suc k) word s (p ++ bits b) post (omega (arith, length-append p (bits b)))
    (e ∙ regroup p (bits b) (flat_map bits word) post) (right (is_spare n k v) (are_digits n (suc k) word) more))
  where
    regroup : (p q r post : List Bool) → p ++ ((q ++ r) ++ post) ≡ (p ++ q) ++ (r ++ post)
    regroup p q r post = simp append_assoc

bits_length : (word : List ℕ) → length (flat_map bits word) ≡ 4 * length word
bits_length [] = refl
bits_length (b ∷ word) = omega (arith, length-append (bits b) (flat_map bits word), bits_length word)

set_parts : (n : ℕ) (word : List ℕ) (s : List Bool) → set_in n word ≡ Some s
    → (length word ≡ (n + 3) / 4) × (are_digits n 0 word ≡ true) × (s ≡ with_digits (replicate 1024 false) 0 word)
unfolding set_in
set_parts n word s e = I (nat_eq (length word) ((n + 3) / 4)) (are_digits n 0 word) refl refl e
  where
    I : (a b : Bool) → nat_eq (length word) ((n + 3) / 4) ≡ a → are_digits n 0 word ≡ b
        → cond (a && b) (Some (with_digits (replicate 1024 false) 0 word)) None ≡ Some s
        → (length word ≡ (n + 3) / 4) × (are_digits n 0 word ≡ true) × (s ≡ with_digits (replicate 1024 false) 0 word)
    I true true p q h = (grind (arith, nat_tests), q, cc)
    I true false p q h = (cc)
    I false b p q h = (cc)

-- what is read as a set is how it is written, and it is a set of the n tasks
pub set_found : (n : ℕ) (word : List ℕ) (s : List Bool) → n ≤ 1024 → set_in n word ≡ Some s
    → (set_text n s ≡ word) × IsOf n s
unfolding set_text
set_found n word s m e =
    let p = set_parts n word s e in
    let few : length word ≤ 256 = omega (arith, p.0) in
    let r : List Bool = replicate (1024 - 4 * length word) false in
    let is : s ≡ flat_map bits word ++ r = p.2 ∙ set_of_digits word few in (
      ap (λ k. map (λ j. hex_digit (four n s j)) (range_with_len 0 k)) (sym p.0)
          ∙ text_found n 0 word s [] r (omega arith) is p.1,
      record {
        truths = ap length is ∙ length-append (flat_map bits word) r
            ∙ omega (arith, bits_length word, length-replicate (1024 - 4 * length word) false);
        tasks = λ i t. let w : 4 * 0 + i < n = within n 0 word r i p.1 (In-empty (1024 - 4 * length word))
            (ap (λ x. get_or x i false) (sym is) ∙ t) in omega arith;
      },
    )

four_small : (n k : ℕ) (s : List Bool) → four n s k < 16
four_small n k s =
    let a = at_most (nat_lt (4 * k) n && get_or s (4 * k) false) in
    let b = at_most (nat_lt (4 * k + 1) n && get_or s (4 * k + 1) false) in
    let c = at_most (nat_lt (4 * k + 2) n && get_or s (4 * k + 2) false) in
    let d = at_most (nat_lt (4 * k + 3) n && get_or s (4 * k + 3) false) in
    omega (arith, a, b, c, d)
  where
    at_most : (t : Bool) → one t ≤ 1
    at_most true = omega arith
    at_most false = omega arith

hex_digit_is : (d : ℕ) → d < 16 → is_hex (hex_digit d) ≡ true
hex_digit_is d h = grind (arith, nat_tests)

hex_value_of : (d : ℕ) → d < 16 → hex_value (hex_digit d) ≡ d
hex_value_of d h = grind (arith, nat_tests)

-- the bits of four numbers, each 0 or 1
bits_of_four : (a b c d : Bool) → (bit_of (8 * one a + 4 * one b + 2 * one c + one d) 0 ≡ a)
    × (bit_of (8 * one a + 4 * one b + 2 * one c + one d) 1 ≡ b)
    × (bit_of (8 * one a + 4 * one b + 2 * one c + one d) 2 ≡ c)
    × (bit_of (8 * one a + 4 * one b + 2 * one c + one d) 3 ≡ d)
bits_of_four true true true true = (refl, refl, refl, refl)
bits_of_four true true true false = (refl, refl, refl, refl)
bits_of_four true true false true = (refl, refl, refl, refl)
bits_of_four true true false false = (refl, refl, refl, refl)
bits_of_four true false true true = (refl, refl, refl, refl)
bits_of_four true false true false = (refl, refl, refl, refl)
bits_of_four true false false true = (refl, refl, refl, refl)
bits_of_four true false false false = (refl, refl, refl, refl)
bits_of_four false true true true = (refl, refl, refl, refl)
bits_of_four false true true false = (refl, refl, refl, refl)
bits_of_four false true false true = (refl, refl, refl, refl)
bits_of_four false true false false = (refl, refl, refl, refl)
bits_of_four false false true true = (refl, refl, refl, refl)
bits_of_four false false true false = (refl, refl, refl, refl)
bits_of_four false false false true = (refl, refl, refl, refl)
bits_of_four false false false false = (refl, refl, refl, refl)

-- the task i is one of the n tasks and a member
abbrev is_member : ℕ → List Bool → ℕ → Bool
is_member n s i = nat_lt i n && get_or s i false

digit_bits : (n k : ℕ) (s : List Bool) → bits (hex_digit (four n s k))
    ≡ is_member n s (4 * k) ∷ is_member n s (4 * k + 1) ∷ is_member n s (4 * k + 2) ∷ is_member n s (4 * k + 3) ∷ []
digit_bits n k s =
    let v : hex_value (hex_digit (four n s k)) ≡ four n s k = hex_value_of (four n s k) (four_small n k s) in
    let f = bits_of_four (is_member n s (4 * k)) (is_member n s (4 * k + 1)) (is_member n s (4 * k + 2))
    (is_member n s (4 * k + 3)) in
    ap (λ d. bit_of d 0 ∷ bit_of d 1 ∷ bit_of d 2 ∷ bit_of d 3 ∷ []) v
    ∙ ap (λ x. x ∷ bit_of (four n s k) 1 ∷ bit_of (four n s k) 2 ∷ bit_of (four n s k) 3 ∷ []) f.0
    ∙ ap (λ x. is_member n s (4 * k) ∷ x ∷ bit_of (four n s k) 2 ∷ bit_of (four n s k) 3 ∷ []) f.1
    ∙ ap (λ x. is_member n s (4 * k) ∷ is_member n s (4 * k + 1) ∷ x ∷ bit_of (four n s k) 3 ∷ []) f.2
    ∙ ap (λ x. is_member n s (4 * k) ∷ is_member n s (4 * k + 1) ∷ is_member n s (4 * k + 2) ∷ x ∷ []) f.3

spare_of : (n i : ℕ) (s : List Bool) (t : Bool) → t ≡ is_member n s i → (nat_lt i n || not t) ≡ true
spare_of n i s t e = ap (λ x. nat_lt i n || not x) e ∙ I (nat_lt i n) (get_or s i false)
  where
    I : (a b : Bool) → (a || not (a && b)) ≡ true
    I true b = refl
    I false b = refl

digit_spare : (n k : ℕ) (s : List Bool) → is_spare n k (hex_value (hex_digit (four n s k))) ≡ true
digit_spare n k s =
    let d : ℕ = hex_value (hex_digit (four n s k)) in
    let v : d ≡ four n s k = hex_value_of (four n s k) (four_small n k s) in
    let f = bits_of_four (is_member n s (4 * k)) (is_member n s (4 * k + 1)) (is_member n s (4 * k + 2))
    (is_member n s (4 * k + 3)) in
    let r1 = nat_lt (4 * k + 1) n || not (bit_of d 1) in
    let r2 = nat_lt (4 * k + 2) n || not (bit_of d 2) in
    let r3 = nat_lt (4 * k + 3) n || not (bit_of d 3) in
    and_from (nat_lt (4 * k) n || not (bit_of d 0)) (r1 && (r2 && r3))
    (spare_of n (4 * k) s (bit_of d 0) (ap (λ x. bit_of x 0) v ∙ f.0))
    (and_from r1 (r2 && r3) (spare_of n (4 * k + 1) s (bit_of d 1) (ap (λ x. bit_of x 1) v ∙ f.1))
    (and_from r2 r3 (spare_of n (4 * k + 2) s (bit_of d 2) (ap (λ x. bit_of x 2) v ∙ f.2))
    (spare_of n (4 * k + 3) s (bit_of d 3) (ap (λ x. bit_of x 3) v ∙ f.3))))

digits_written : (n k len : ℕ) (s : List Bool) → are_digits n k
    (map (λ j. hex_digit (four n s j)) (range_with_len k len)) ≡ true
unfolding are_digits
digits_written n k zero s = refl
digits_written n k (suc len) s =
    and_from (is_hex (hex_digit (four n s k))) (is_spare n k (hex_value (hex_digit (four n s k)))
    && are_digits n (suc k) (map (λ j. hex_digit (four n s j)) (range_with_len (k + 1) len)))
    (hex_digit_is (four n s k) (four_small n k s))
    (and_from (is_spare n k (hex_value (hex_digit (four n s k))))
    (are_digits n (suc k) (map (λ j. hex_digit (four n s j)) (range_with_len (k + 1) len))) (digit_spare n k s)
    (ap (λ m. are_digits n (suc k) (map (λ j. hex_digit (four n s j)) (range_with_len m len))) (add-one k)
    ∙ digits_written n (suc k) len s))

-- a set without what isn't a task
abbrev pub clip : ℕ → List Bool → List Bool
clip n s = with_digits (replicate 1024 false) 0 (set_text n s)

pub set_again : (n : ℕ) (s : List Bool) → set_in n (set_text n s) ≡ Some (clip n s)
unfolding set_text
set_again n s =
    sym (set_is n (set_text n s) (clip n s) (eq-eqb (length (set_text n s)) ((n + 3) / 4)
    (length-map-range_with_len (λ k. hex_digit (four n s k)) 0 ((n + 3) / 4))) (digits_written n 0 ((n + 3) / 4) s)
    refl)

digit_high : (d : ℕ) → d < 16 → nat_le 48 (hex_digit d) ≡ true
digit_high d h = grind (arith, nat_tests)

high_from : (n k len : ℕ) (s : List Bool) → all_high (map (λ j. hex_digit (four n s j)) (range_with_len k len)) ≡ true
high_from n k zero s = refl
high_from n k (suc len) s = and_from (nat_le 48 (hex_digit (four n s k)))
    (all_high (map (λ j. hex_digit (four n s j)) (range_with_len (k + 1) len)))
    (digit_high (four n s k) (four_small n k s)) (high_from n (k + 1) len s)

pub set_high : (n : ℕ) (s : List Bool) → all_high (set_text n s) ≡ true
unfolding set_text
set_high n s = high_from n 0 ((n + 3) / 4) s

-- a set of the n tasks is read as it was
member_is : (n i : ℕ) (s : List Bool) → IsOf n s → is_member n s i ≡ get_or s i false
member_is n i s h = I (get_or s i false) refl
  where
    I : (t : Bool) → get_or s i false ≡ t → is_member n s i ≡ get_or s i false
    I true e = let l : nat_lt i n ≡ true = (let m : i < n = h.tasks i e in grind (arith, nat_tests)) in
        ap (λ x. x && get_or s i false) l
    I false e = ap (λ x. nat_lt i n && x) e ∙ off (nat_lt i n) ∙ sym e
      where
        off : (x : Bool) → (x && false) ≡ false
        off true = refl
        off false = refl

bits_get : (n k len i : ℕ) (s : List Bool) → i < 4 * len → get_or
    (flat_map bits (map (λ j. hex_digit (four n s j)) (range_with_len k len))) i false ≡ is_member n s (4 * k + i)
bits_get n k zero i s h = absurd (omega arith)
bits_get n k (suc len) i s h =
    ap (λ x. get_or (x ++ flat_map bits (map (λ j. hex_digit (four n s j)) (range_with_len (k + 1) len))) i false)
    (digit_bits n k s) ∙ at i h (bits_get n (k + 1) len)
  where
    at : (i : ℕ) → i < 4 * suc len → ((j : ℕ) (s : List Bool) → j < 4 * len
        → get_or (flat_map bits (map (λ j. hex_digit (four n s j)) (range_with_len (k + 1) len))) j false
        ≡ is_member n s (4 * (k + 1) + j))
        → get_or (is_member n s (4 * k) ∷ is_member n s (4 * k + 1) ∷ is_member n s (4 * k + 2) ∷ is_member n s
        (4 * k + 3) ∷ flat_map bits (map (λ j. hex_digit (four n s j)) (range_with_len (k + 1) len))) i false
        ≡ is_member n s (4 * k + i)
    at zero h g = ap (is_member n s) (omega arith)
    at (suc zero) h g = refl
    at (suc (suc zero)) h g = refl
    at (suc (suc (suc zero))) h g = refl
    at (suc (suc (suc (suc j)))) h g = g j s (omega arith) ∙ ap (is_member n s) (omega arith)

pub clip_same : (n : ℕ) (s : List Bool) → n ≤ 1024 → IsOf n s → clip n s ≡ s
unfolding set_text
clip_same n s m h =
    let len : ℕ = (n + 3) / 4 in
    let w : List ℕ = map (λ j. hex_digit (four n s j)) (range_with_len 0 len) in
    let wl : length w ≡ len = length-map-range_with_len (λ k. hex_digit (four n s k)) 0 len in
    let bl : length (flat_map bits w) ≡ 4 * len = bits_length w ∙ ap (λ k. 4 * k) wl in
    let r : ℕ = 1024 - 4 * length w in
    set_of_digits w (omega (arith, wl)) ∙ ext_get_or false (flat_map bits w ++ replicate r false) s
    (length-append (flat_map bits w) (replicate r false) ∙ omega (arith, length-replicate r false, wl, bl, h.truths))
    (λ i l. I w r bl (λ j g. bits_get n 0 len j s g ∙ ap (is_member n s) (omega arith)) i (nat_lt i (4 * len)) refl)
  where
    rep : (r j : ℕ) → get_or (replicate r false) j false ≡ false
    rep zero j = refl
    rep (suc r) zero = refl
    rep (suc r) (suc j) = rep r j

    out : (i : ℕ) (t : Bool) → get_or s i false ≡ t → 4 * ((n + 3) / 4) ≤ i → false ≡ get_or s i false
    out i true e g = absurd (let k : i < n = h.tasks i e in omega arith)
    out i false e g = sym e

    I : (w : List ℕ) (r : ℕ) → length (flat_map bits w) ≡ 4 * ((n + 3) / 4)
        → ((j : ℕ) → j < 4 * ((n + 3) / 4) → get_or (flat_map bits w) j false ≡ is_member n s j)
        → (i : ℕ) (t : Bool) → nat_lt i (4 * ((n + 3) / 4)) ≡ t
        → get_or (flat_map bits w ++ replicate r false) i false ≡ get_or s i false
    I w r bl gets i true e =
        let g : i < 4 * ((n + 3) / 4) = grind (arith, nat_tests) in
        get_or_append_left (flat_map bits w) (replicate r false) false i (omega arith) ∙ gets i g ∙ member_is n i s h
    I w r bl gets i false e =
        let g : 4 * ((n + 3) / 4) ≤ i = grind (arith, nat_tests) in
        get_or-append_right (flat_map bits w) (replicate r false) (4 * ((n + 3) / 4)) i false bl g
        ∙ rep r (i - 4 * ((n + 3) / 4)) ∙ out i (get_or s i false) refl g
