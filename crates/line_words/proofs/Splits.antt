-- Words, one by one.
use Rattle.std.proofs.Common.{◌≡◌, ◌≢◌, ◌∙◌, ℕ, zero, suc, ◌+◌, ◌<◌, ◌||◌, ◌&&◌, Bool, true, false, cond, List}
use Rattle.std.proofs.Common.{[], ◌∷◌, ◌++◌, length, get_or, drop, map, refl, sym, ap, arith, add-one, Option, Some}
use Rattle.std.proofs.Common.{None, option_map, string_bytes}
use Rattle.std.specs.Prelude.{MatchOption}
use Rattle.std.specs.Borrow.{Bor}
use Rattle.std.specs.Str.{bytes_eq}
use Rattle.std.specs.declared.string.String.{String}
use Rattle.std.specs.declared.alloc.Global.{Global}
use Rattle.std.proofs.lemmas.Bool.{ne_eqb}
use Rattle.line_words.specs.Words.{Text, equals_split, onto_front, texts, or_else, value_by, value_of, setting, is_name}
use Rattle.line_words.specs.Words.{names_of}
use Rattle.line_words.specs.Table.{one_of, sets_all}
use Rattle.line_words.specs.Words.{sets}
use Rattle.line_words.specs.Jobs.{name_at}

pub no_equals : (bytes : List ℕ) → ((k : ℕ) → k < length bytes → get_or bytes k 0 ≢ 61) → equals_split bytes ≡ None
no_equals [] n = refl
no_equals (b ∷ bytes) n =
    ap (λ t. cond t (Some ([], bytes)) (onto_front b (equals_split bytes))) (ne_eqb b 61 (n 0 (omega arith)))
    ∙ ap (onto_front b) (no_equals bytes (λ k l. n (suc k) (omega arith)))

pub first_equals : (xs ys : List ℕ) → ((k : ℕ) → k < length xs → get_or xs k 0 ≢ 61)
    → equals_split (xs ++ 61 ∷ ys) ≡ Some (xs, ys)
first_equals [] ys n = refl
first_equals (b ∷ bytes) ys n =
    ap (λ t. cond t (Some ([], bytes ++ 61 ∷ ys)) (onto_front b (equals_split (bytes ++ 61 ∷ ys))))
    (ne_eqb b 61 (n 0 (omega arith)))
    ∙ ap (onto_front b) (first_equals bytes ys (λ k l. n (suc k) (omega arith)))

-- what std's split at the first `=` gives
pub split_from : (bs : List ℕ) (r : Option (Bor (List ℕ) × Bor (List ℕ)))
    → MatchOption r ((i : ℕ) → i < length bs → get_or bs i 0 ≢ 61)
    (λ x. (bs ≡ x.0.now ++ (61 ∷ x.1.now)) × ((i : ℕ) → i < length x.0.now → get_or x.0.now i 0 ≢ 61))
    → option_map (λ p. (p.0.now, p.1.now)) r ≡ equals_split bs
split_from bs None h = sym (no_equals bs h)
split_from bs (Some x) h = sym (ap equals_split h.0 ∙ first_equals x.0.now x.1.now h.1)

text_next : (ws : List (String Global)) (i : ℕ) (w : String Global) → i < length ws → w ≡ get_or ws i w
    → drop i (texts ws) ≡ string_bytes w ∷ drop (suc i) (texts ws)
text_next [] i w h e = absurd (omega (arith, h))
text_next (x ∷ ws) zero w h e = ap (λ t. string_bytes t ∷ texts ws) (sym e)
text_next (x ∷ ws) (suc i) w h e = text_next ws i w (omega (arith, h)) e

-- the text at a place, and those behind it
pub text_at : (ws : List (String Global)) (i : ℕ) (w : String Global) → i < length ws → w ≡ get_or ws i w
    → drop i (texts ws) ≡ string_bytes w ∷ drop (i + 1) (texts ws)
text_at ws i w h e = text_next ws i w h e ∙ ap (λ k. string_bytes w ∷ drop k (texts ws)) (sym (add-one i))

pub text_is : (ws : List (String Global)) (i : ℕ) (w : String Global) → i < length ws → w ≡ get_or ws i w
    → get_or (texts ws) i [] ≡ string_bytes w
text_is [] i w h e = absurd (omega (arith, h))
text_is (x ∷ ws) zero w h e = ap (λ t. string_bytes t) (sym e)
text_is (x ∷ ws) (suc i) w h e = text_is ws i w (omega (arith, h)) e

pub length-texts : (xs : List (String Global)) → length (texts xs) ≡ length xs
length-texts [] = refl
length-texts (x ∷ xs) = let h = length-texts xs in omega (arith, h)

key_next : (ks : List (Bor (List ℕ))) (i : ℕ) (d : Bor (List ℕ)) → i < length ks
    → drop i (map (λ k. k.now) ks) ≡ (get_or ks i d).now ∷ drop (suc i) (map (λ k. k.now) ks)
key_next [] i d h = absurd (omega (arith, h))
key_next (x ∷ ks) zero d h = refl
key_next (x ∷ ks) (suc i) d h = key_next ks i d (omega (arith, h))

-- the key at a place, and those behind it
pub key_at : (ks : List (Bor (List ℕ))) (i : ℕ) (d : Bor (List ℕ)) → i < length ks
    → drop i (map (λ k. k.now) ks) ≡ (get_or ks i d).now ∷ drop (i + 1) (map (λ k. k.now) ks)
key_at ks i d h = key_next ks i d h ∙ ap (λ j. (get_or ks i d).now ∷ drop j (map (λ k. k.now) ks)) (sym (add-one i))

-- a search for a key finds it, or goes on
module _ (key k : Text) (left rest : List Text) (e : left ≡ k ∷ rest) (all : Bool) (inv : one_of key left ≡ all) where
  pub one_hit : bytes_eq key k ≡ true → true ≡ all
  one_hit b = sym (ap (λ t. t || one_of key rest) b) ∙ sym (ap (one_of key) e) ∙ inv

  pub one_miss : bytes_eq key k ≡ false → one_of key rest ≡ all
  one_miss b = sym (ap (λ t. t || one_of key rest) b) ∙ sym (ap (one_of key) e) ∙ inv

-- so does a search for a key that isn't set
module _ (words : List Text) (k : Text) (left rest : List Text) (e : left ≡ k ∷ rest) (all : Bool)
    (inv : sets_all words left ≡ all) where
  pub set_none : sets words k ≡ false → false ≡ all
  set_none b = sym (ap (λ t. t && sets_all words rest) b) ∙ sym (ap (sets_all words) e) ∙ inv

  pub set_one : sets words k ≡ true → sets_all words rest ≡ all
  set_one b = sym (ap (λ t. t && sets_all words rest) b) ∙ sym (ap (sets_all words) e) ∙ inv

-- and a search for a value
module _ (key w : Text) (left rest : List Text) (e : left ≡ w ∷ rest) (all : Option Text)
    (inv : value_of left key ≡ all) where
  pub value_hit : (v : Text) → value_by key (setting w) ≡ Some v → Some v ≡ all
  value_hit v h = sym (ap (λ t. or_else t (value_of rest key)) h) ∙ sym (ap (λ t. value_of t key) e) ∙ inv

  pub value_miss : value_by key (setting w) ≡ None → value_of rest key ≡ all
  value_miss h = sym (ap (λ t. or_else t (value_of rest key)) h) ∙ sym (ap (λ t. value_of t key) e) ∙ inv

-- the names from a word on
module _ (w : Text) (left rest : List Text) (e : left ≡ w ∷ rest) where
  pub named : is_name w ≡ true → names_of left ≡ w ∷ names_of rest
  named h = ap names_of e ∙ ap (λ t. cond t (w ∷ names_of rest) (names_of rest)) h

  pub unnamed : is_name w ≡ false → names_of left ≡ names_of rest
  unnamed h = ap names_of e ∙ ap (λ t. cond t (w ∷ names_of rest) (names_of rest)) h

-- a search for the name at a place finds it, or goes on
module _ (w : Text) (left rest : List Text) (e : left ≡ w ∷ rest) (k : ℕ) (all : Text)
    (inv : name_at left k ≡ all) where
  pub name_found : is_name w ≡ true → k ≡ 0 → w ≡ all
  name_found h z = sym (ap (λ ns. get_or ns 0 []) (named w left rest e h)) ∙ sym (ap (name_at left) z) ∙ inv

  pub name_passed : is_name w ≡ true → (j : ℕ) → k ≡ suc j → name_at rest j ≡ all
  name_passed h j z = sym (ap (λ ns. get_or ns (suc j) []) (named w left rest e h)) ∙ sym (ap (name_at left) z) ∙ inv

  pub name_skipped : is_name w ≡ false → name_at rest k ≡ all
  name_skipped h = sym (ap (λ ns. get_or ns k []) (unnamed w left rest e h)) ∙ inv

-- the names that are counted, and those from a word on
module _ (w : Text) (left rest : List Text) (e : left ≡ w ∷ rest) (n total : ℕ)
    (inv : n + length (names_of left) ≡ total) where
  pub one_counted : is_name w ≡ true → n + 1 + length (names_of rest) ≡ total
  one_counted h = let l : length (names_of left) ≡ suc (length (names_of rest)) = ap length (named w left rest e h) in
      omega (arith, l, inv)

  pub none_counted : is_name w ≡ false → n + length (names_of rest) ≡ total
  none_counted h = let l : length (names_of left) ≡ length (names_of rest) = ap length (unnamed w left rest e h) in
      omega (arith, l, inv)
