-- Pieces of a file and the lines in them.
use Rattle.std.proofs.Common.{◌≡◌, ◌⊎◌, ℕ, zero, suc, ◌+◌, ◌-◌, ◌<◌, ◌≤◌, List, [], ◌∷◌, ◌++◌, length, get_or, take}
use Rattle.std.proofs.Common.{drop, Option, Some, None, refl, sym, ap, ◌∙◌, subst, inl, inr, arith, append_assoc}
use Rattle.std.proofs.Common.{append-nil}
use Rattle.std.specs.Prelude.{slice_range, slice_index}
use Rattle.std.proofs.lemmas.Bool.{cases_lt}
use Rattle.std.proofs.lemmas.List.{take-append-drop, drop-drop, length-take, length-append, drop_all}
use Rattle.std.proofs.Common.{length-drop}
use Rattle.std.proofs.lemmas.List.Elements.{All-append}
use Rattle.line_io.specs.Outside.{Fetches}
use Rattle.line_io.specs.declared.outside.Fetched.TheVariants.{Got}
use Rattle.cert_lines.specs.Faults.{IsLine}
use Rattle.cert_lines.specs.Taking.{IsTaken, IsAtEnd}
use Rattle.cert_files.specs.inner.Pieces.{bytes_of}
use Rattle.cert_files.specs.inner.Rest.{bytes_from, IsNext, IsEnd}

front_of : (new : List ℕ) (n : ℕ) → slice_range new 0 n ≡ take n new
front_of new n = let e : n - 0 ≡ n = omega arith in ap (λ k. take k new) e

-- the piece that a fetch brought
pub next_piece : (file : Option (List ℕ)) (at n : ℕ) (new : List ℕ) → (n ≡ 0 → ⊥) → n ≤ length new
    → Fetches file at new (Got n) → IsNext file at (slice_range new 0 n)
next_piece None at n new s w f = absurd f
next_piece (Some bytes) at n new s w f =
    let long : length (slice_range new 0 n) ≡ n = ap length (front_of new n)
    ∙ (let q : length (take n new) ≡ n = omega (arith, length-take n new) in q) in
    record {
      some = omega (arith, long, s);
      all = sym (take-append-drop n (drop at bytes)) ∙ ap (λ t. t ++ drop n (drop at bytes))
          (sym f.same ∙ sym (front_of new n))
          ∙ ap (λ t. slice_range new 0 n ++ t) (drop-drop n at bytes ∙ ap (λ k. drop (at + k) bytes) (sym long));
    }

split_at : (xs : List ℕ) (e : ℕ) → e < length xs → get_or xs e 0 ≡ 10 → xs ≡ take e xs ++ 10 ∷ drop (e + 1) xs
split_at [] e l h = absurd (omega arith)
split_at (x ∷ xs) zero l h = ap (λ y. y ∷ xs) h
split_at (x ∷ xs) (suc e) l h = let q : suc (e + 1) ≡ suc e + 1 = omega arith in
    ap (λ t. x ∷ t) (split_at xs e (omega arith) h) ∙ ap (λ k. x ∷ take e xs ++ 10 ∷ drop k (x ∷ xs)) q

dropped_front : (m n : ℕ) (xs : List ℕ) → drop m (take n xs) ≡ take (n - m) (drop m xs)
dropped_front zero n xs = let q : n ≡ n - 0 = omega arith in ap (λ k. take k xs) q
dropped_front (suc m) zero xs = let q : 0 ≡ 0 - suc m = omega arith in ap (λ k. take k (drop (suc m) xs)) q
dropped_front (suc m) (suc n) [] = none (suc n - suc m)
  where
    none : (k : ℕ) → ◌≡◌ {A = List ℕ} [] (take k [])
    none zero = refl
    none (suc k) = refl
dropped_front (suc m) (suc n) (x ∷ xs) = let q : n - m ≡ suc n - suc m = omega arith in
    dropped_front m n xs ∙ ap (λ k. take k (drop m xs)) q

-- a line in a window, and what waits behind its LF
pub split_line : (items : List ℕ) (from to e : ℕ) → e < length (slice_range items from to)
    → slice_index (slice_range items from to) e ≡ 10
    → slice_range items from to ≡ take e (slice_range items from to) ++ 10 ∷ slice_range items (from + (e + 1)) to
split_line items from to e l h =
    split_at (slice_range items from to) e l h
    ∙ ap (λ t. take e (slice_range items from to) ++ 10 ∷ t)
    (dropped_front (e + 1) (to - from) (drop from items) ∙ ap (take (to - from - (e + 1)))
    (drop-drop (e + 1) from items) ∙ (let q : to - from - (e + 1) ≡ to - (from + (e + 1)) = omega arith in
    ap (λ k. take k (drop (from + (e + 1)) items)) q))

-- no LF before the first one
pub free_front : (xs : List ℕ) (e : ℕ) → ((k : ℕ) → 0 ≤ k → k < e → slice_index xs k ≡ 10 → ⊥) → IsLine (take e xs)
free_front xs zero h = λ k d l f. absurd (omega arith)
free_front [] (suc e) h = λ k d l f. absurd (omega arith)
free_front (x ∷ xs) (suc e) h = first (free_front xs e (λ k a b. h (suc k) (omega arith) (omega arith)))
  where
    first : IsLine (take e xs) → IsLine (x ∷ take e xs)
    first rest zero d l f = h 0 (omega arith) (omega arith) f
    first rest (suc k) d l f = rest k d (omega arith) f

-- a line that goes on through pieces: what was taken of it, and what is left of the text behind that
pub line_ends : (text line part new window left rest : List ℕ) → text ≡ line ++ (window ++ rest)
    → window ≡ part ++ 10 ∷ left → new ≡ line ++ part → IsLine line → IsLine part → IsTaken text new (left ++ rest)
line_ends text line part new window left rest e w n l p = record {
  all = e ∙ ap (λ x. line ++ (x ++ rest)) w ∙ ap (λ x. line ++ x) (append_assoc part (10 ∷ left) rest)
      ∙ sym (append_assoc line part (10 ∷ (left ++ rest))) ∙ ap (λ x. x ++ 10 ∷ (left ++ rest)) (sym n);
  is_line = let P : List ℕ → Type 0 = λ x. IsLine x in subst P (sym n) (All-append (λ b. b ≡ 10 → ⊥) line part l p);
}

pub text_ends : (text line window : List ℕ) (file : Option (List ℕ)) (at : ℕ)
    → text ≡ line ++ (window ++ bytes_from at file) → IsLine line → IsLine window → IsEnd file at → IsAtEnd text
text_ends text line window file at e l w h =
    let none : bytes_from at file ≡ [] = drop_all at (bytes_of file) h.ends in
    let P : List ℕ → Type 0 = λ x. IsLine x in
    subst P (sym (e ∙ ap (λ x. line ++ (window ++ x)) none ∙ ap (λ x. line ++ x) (append-nil window)))
    (All-append (λ b. b ≡ 10 → ⊥) line window l w)

pub piece_more : (text line new window piece : List ℕ) (file : Option (List ℕ)) (at next : ℕ)
    → text ≡ line ++ (window ++ bytes_from at file) → new ≡ line ++ window → IsNext file at piece
    → next ≡ at + length piece → text ≡ new ++ (piece ++ bytes_from next file)
piece_more text line new window piece file at next e n h a =
    e ∙ sym (append_assoc line window (bytes_from at file)) ∙ ap (λ x. x ++ bytes_from at file) (sym n)
    ∙ ap (λ x. new ++ x) h.all ∙ ap (λ k. new ++ (piece ++ bytes_from k file)) (sym a)

pub line_more : (line new window : List ℕ) → new ≡ line ++ window → IsLine line → IsLine window → IsLine new
line_more line new window n l w = let P : List ℕ → Type 0 = λ x. IsLine x in
    subst P (sym n) (All-append (λ b. b ≡ 10 → ⊥) line window l w)

-- what is left of a file, by what waits and by how far it was fetched
pub reached : (file : Option (List ℕ)) (at next : ℕ) (piece : List ℕ) → IsNext file at piece → next ≡ at + length piece
    → next ≤ length (bytes_of file)
reached file at next piece h a = elim (cases_lt at (length (bytes_of file))) [
  | inl l ↦ omega (
    arith,
    ap length h.all,
    length-drop at (bytes_of file),
    length-append piece (bytes_from (at + length piece) file),
    h.some,
  )
  | inr g ↦ absurd (omega (
    arith,
    ap length h.all,
    length-drop at (bytes_of file),
    length-append piece (bytes_from (at + length piece) file),
    h.some,
  ))
]

pub none_left : (file : Option (List ℕ)) (from : ℕ) (window : List ℕ) → length window ≡ 0 → IsEnd file from
    → window ++ bytes_from from file ≡ []
none_left file from [] e h = drop_all from (bytes_of file) h.ends
none_left file from (x ∷ window) e h = absurd (omega arith)

pub some_left : (file : Option (List ℕ)) (from at : ℕ) (window : List ℕ) → (0 < length window) ⊎ (from < at)
    → (from < at → at ≤ length (bytes_of file)) → 0 < length (window ++ bytes_from from file)
some_left file from at window c h = elim c [
  | inl w ↦ omega (arith, length-append window (bytes_from from file))
  | inr l ↦ omega (arith, length-append window (bytes_from from file), length-drop from (bytes_of file), h l)
]
