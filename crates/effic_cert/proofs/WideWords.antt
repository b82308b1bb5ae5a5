-- Wide numbers and lines of two numbers that are written are read, and what is read is how they are written.
use Rattle.std.proofs.Common.{◌≡◌, ℕ, ◌+◌, ◌-◌, ◌*◌, ◌^◌, ◌<◌, true, cond, List, ◌∷◌, ◌++◌, length, take, get_or, min}
use Rattle.std.proofs.Common.{sym, ◌∙◌, ap, arith, Some, None, inl, inr}
use Rattle.std.specs.Prelude.{bytes_eq}
use Rattle.std.proofs.lemmas.Option.{same_Some}
use Rattle.std.proofs.lemmas.List.{take_more}
use Rattle.line_io.specs.Lines.{value_of}
use Rattle.cert_lines.specs.Numbers.{number_text}
use Rattle.cert_lines.specs.Rows.{keyed, span, row_text}
use Rattle.cert_lines.specs.Words.{◌>>=◌, parts_at, number_in, number_first}
use Rattle.cert_lines.proofs.NumberWords.{lacks, spelled, number_again, number_found, number_first_again, split_again}
use Rattle.cert_lines.proofs.NumberWords.{bind_some}
use Rattle.cert_lines.proofs.CiteWords.{sat}
use Rattle.cert_lines.proofs.EntryLines.{number_first_found}
use Rattle.cert_lines.proofs.Lists.{split_parts, chosen}
use Rattle.effic_cert.specs.inner.WideReading.{widest, wide_in, wide_keyed_in, two_in, span_in}
use Rattle.line_io.proofs.ReadFacts.{same_bytes, value_push}
use Rattle.cert_lines.proofs.PlainLines.{same_words}

-- one more digit, up to the greatest number
pub wide_next : (i d v x y : ℕ) (ds : List ℕ) → i < length ds → v ≡ min (value_of (take i ds)) widest
    → d ≡ get_or ds i 0 - 48 → x ≡ min (v * 10) (2 ^ 128 - 1) → y ≡ min (x + d) (2 ^ 128 - 1)
    → y ≡ min (value_of (take (i + 1) ds)) widest
wide_next i d v x y ds h e a f g =
    let p : value_of (take (i + 1) ds) ≡ 10 * value_of (take i ds) + (get_or ds i 0 - 48) = ap value_of
    (take_more ds i 0 h) ∙ value_push 0 (take i ds) (get_or ds i 0) in
    omega (arith, p, e, a, f, g)

pub wide_again : (n : ℕ) → wide_in (number_text n) ≡ Some (min n widest)
unfolding wide_in
wide_again n = ap (λ o. o >>= λ x. Some (min (value_of (number_text n)) widest)) (number_again n)
    ∙ ap (λ v. Some (min v widest)) (spelled n).value

pub wide_found : (word : List ℕ) (v : ℕ) → wide_in word ≡ Some v → (number_text (value_of word) ≡ word)
    × (min (value_of word) widest ≡ v)
unfolding wide_in
wide_found word v e =
    let n = bind_some (number_in word) (λ x. Some (min (value_of word) widest)) v e in
    ((number_found word n.0 n.1).0, same_Some (min (value_of word) widest) v n.2)

pub wide_keyed_again : (key : List ℕ) (v : ℕ) → lacks 32 key ≡ true
    → wide_keyed_in key (row_text (keyed key v)) ≡ Some (min v widest)
unfolding wide_keyed_in row_text
wide_keyed_again key v l =
    ap (λ o. o >>= λ p. cond (bytes_eq p.0 key) (wide_in p.1) None) (split_again 32 key (number_text v) l)
    ∙ ap (λ b. cond b (wide_in (number_text v)) None) (same_words key) ∙ wide_again v

pub wide_keyed_found : (key line : List ℕ) (v : ℕ) → wide_keyed_in key line ≡ Some v → (n : ℕ)
    × (row_text (keyed key n) ≡ line) × (min n widest ≡ v)
unfolding wide_keyed_in row_text
wide_keyed_found key line v e =
    let p = bind_some (parts_at 32 line) (λ p. cond (bytes_eq p.0 key) (wide_in p.1) None) v e in
    elim (chosen (bytes_eq p.0.0 key) (wide_in p.0.1) None (Some v) p.2) [
      | inl h ↦ (let f = wide_found p.0.1 v h.1 in (
        value_of p.0.1,
        ap (λ w. key ++ 32 ∷ w) f.0 ∙ ap (λ w. w ++ 32 ∷ p.0.1) (sym (same_bytes p.0.0 key h.0))
            ∙ sym (split_parts 32 line p.0 p.1),
        f.1,
      ))
      | inr h ↦ (let w : None ≡ Some v = h.1 in (cc))
    ]

two_again : (a b : ℕ) → two_in (number_text a ++ 32 ∷ number_text b) ≡ Some (sat a, sat b)
unfolding two_in
two_again a b =
    ap (λ o. o >>= λ x. number_in x.1 >>= λ y. Some (x.0, y)) (number_first_again a (number_text b))
    ∙ ap (λ o. o >>= λ y. Some (sat a, y)) (number_again b)

two_found : (bytes : List ℕ) (x : ℕ × ℕ) → two_in bytes ≡ Some x → (t : ℕ × ℕ)
    × (number_text t.0 ++ 32 ∷ number_text t.1 ≡ bytes) × ((sat t.0, sat t.1) ≡ x)
unfolding two_in
two_found bytes x e =
    let a = bind_some (number_first bytes) (λ a. number_in a.1 >>= λ b. Some (a.0, b)) x e in
    let b = bind_some (number_in a.0.1) (λ b. Some (a.0.0, b)) x a.2 in
    let g = number_first_found bytes a.0 a.1 in
    let h = number_found a.0.1 b.0 b.1 in
    let y : (a.0.0, b.0) ≡ x = same_Some (a.0.0, b.0) x b.2 in (
      (g.0, value_of a.0.1),
      ap (λ w. number_text g.0 ++ 32 ∷ w) h.0 ∙ sym g.1,
      ap (λ z. (z, sat (value_of a.0.1))) g.2
          ∙ ap (λ z. (a.0.0, z)) (sym h.1) ∙ y,
    )

pub span_again : (key : List ℕ) (a b : ℕ) → lacks 32 key ≡ true
    → span_in key (row_text (span key a b)) ≡ Some (sat a, sat b)
unfolding span_in row_text
span_again key a b l =
    ap (λ o. o >>= λ p. cond (bytes_eq p.0 key) (two_in p.1) None)
    (split_again 32 key (number_text a ++ 32 ∷ number_text b) l)
    ∙ ap (λ t. cond t (two_in (number_text a ++ 32 ∷ number_text b)) None) (same_words key) ∙ two_again a b

pub span_found : (key line : List ℕ) (x : ℕ × ℕ) → span_in key line ≡ Some x → (t : ℕ × ℕ)
    × (row_text (span key t.0 t.1) ≡ line) × ((sat t.0, sat t.1) ≡ x)
unfolding span_in row_text
span_found key line x e =
    let p = bind_some (parts_at 32 line) (λ p. cond (bytes_eq p.0 key) (two_in p.1) None) x e in
    elim (chosen (bytes_eq p.0.0 key) (two_in p.0.1) None (Some x) p.2) [
      | inl h ↦ (let f = two_found p.0.1 x h.1 in (
        f.0,
        ap (λ w. key ++ 32 ∷ w) f.1 ∙ ap (λ w. w ++ 32 ∷ p.0.1) (sym (same_bytes p.0.0 key h.0))
            ∙ sym (split_parts 32 line p.0 p.1),
        f.2,
      ))
      | inr h ↦ (let w : None ≡ Some x = h.1 in (cc))
    ]
