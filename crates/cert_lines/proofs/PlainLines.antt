-- The other lines that are written are read, and what is read is how they are written.
use Rattle.std.proofs.Common.{◌≡◌, ℕ, Bool, true, false, cond, nat_eq, List, [], ◌∷◌, ◌++◌, refl, sym, ◌∙◌, ap, arith}
use Rattle.std.proofs.Common.{Some, None, Option, ◌⊎◌, inl, inr}
use Rattle.std.specs.Prelude.{codes, bytes_eq}
use Rattle.std.proofs.lemmas.Slice.Eq.{bytes_eq-Decides}
use Rattle.std.proofs.lemmas.Option.{same_Some, none-some}
use Rattle.std.proofs.lemmas.Bool.{eqb-true}
use Rattle.line_io.specs.Lines.{value_of}
use Rattle.line_rules.specs.declared.types.LineKind.{LineKind}
use Rattle.line_rules.specs.declared.types.LineKind.TheVariants.{Straight, U}
use Rattle.line_rules.specs.declared.types.Side.{Side}
use Rattle.line_rules.specs.declared.types.Side.TheVariants.{Front, Back as AtBack}
use Rattle.cert_lines.specs.Numbers.{number_text}
use Rattle.cert_lines.specs.Rows.{keyed, seat, trail, row_text}
use Rattle.cert_lines.specs.Words.{◌>>=◌, parts_at, number_in, number_first}
use Rattle.cert_lines.specs.inner.LineReading.{keyed_in, seat_in, side_in, trail_in, trail_numbers}
use Rattle.cert_lines.proofs.NumberWords.{number_again, number_found, number_first_again, split_again, split_none}
use Rattle.cert_lines.proofs.NumberWords.{high_lacks, lacks, bind_some, number_high}
use Rattle.cert_lines.proofs.CiteWords.{sat}
use Rattle.cert_lines.proofs.EntryLines.{number_first_found}
use Rattle.cert_lines.proofs.Lists.{split_parts, chosen}
use Rattle.line_io.proofs.ReadFacts.{same_bytes}

pub same_words : (a : List ℕ) → bytes_eq a a ≡ true
same_words a = (bytes_eq-Decides a a).1 refl

-- a word and a number
pub keyed_again : (key : List ℕ) (v : ℕ) → lacks 32 key ≡ true → keyed_in key (row_text (keyed key v)) ≡ Some (sat v)
unfolding keyed_in row_text
keyed_again key v l =
    ap (λ o. o >>= λ p. cond (bytes_eq p.0 key) (number_in p.1) None) (split_again 32 key (number_text v) l)
    ∙ ap (λ b. cond b (number_in (number_text v)) None) (same_words key) ∙ number_again v

pub keyed_found : (key line : List ℕ) (v : ℕ) → keyed_in key line ≡ Some v
    → (n : ℕ) × (row_text (keyed key n) ≡ line) × (sat n ≡ v)
unfolding keyed_in row_text
keyed_found key line v e =
    let p = bind_some (parts_at 32 line) (λ p. cond (bytes_eq p.0 key) (number_in p.1) None) v e in
    elim (chosen (bytes_eq p.0.0 key) (number_in p.0.1) None (Some v) p.2) [
      | inl h ↦ (let f = number_found p.0.1 v h.1 in (
        value_of p.0.1,
        ap (λ w. key ++ 32 ∷ w) f.0 ∙ ap (λ w. w ++ 32 ∷ p.0.1) (sym (same_bytes p.0.0 key h.0))
            ∙ sym (split_parts 32 line p.0 p.1),
        sym f.1,
      ))
      | inr h ↦ (let w : None ≡ Some v = h.1 in (cc))
    ]

-- the side that is read: on a straight line always the front
abbrev pub side_read : LineKind → Side → Side
side_read Straight side = Front
side_read U side = side

pub seat_again : (kind : LineKind) (n : ℕ) (side : Side) → seat_in kind (row_text (seat kind n side))
    ≡ Some (sat n, side_read kind side)
unfolding seat_in row_text
seat_again Straight n side = ap (λ o. o >>= λ s. Some (s, Front)) (number_again n)
seat_again U n Front = ap (λ o. o >>= λ s. side_in s.1 >>= λ side. Some (s.0, side)) (number_first_again n (codes "f"))
seat_again U n AtBack = ap (λ o. o >>= λ s. side_in s.1 >>= λ side. Some (s.0, side)) (number_first_again n (codes "b"))

side_found : (word : List ℕ) (side : Side) → side_in word ≡ Some side
    → ((side ≡ Front) × (word ≡ codes "f")) ⊎ ((side ≡ AtBack) × (word ≡ codes "b"))
side_found [] side e = (cc)
side_found (b ∷ []) side e = elim (chosen (nat_eq b 102) (Some Front) (cond (nat_eq b 98) (Some AtBack) None)
    (Some side) e) [
      | inl h ↦ inl (sym (same_Some Front side h.1), ap (λ x. x ∷ []) (eqb-true b 102 h.0))
      | inr h ↦ elim (chosen (nat_eq b 98) (Some AtBack) None (Some side) h.1) [
        | inl g ↦ inr (sym (same_Some AtBack side g.1), ap (λ x. x ∷ []) (eqb-true b 98 g.0))
        | inr g ↦ (let w : None ≡ Some side = g.1 in (cc))
      ]
    ]
side_found (b ∷ c ∷ word) side e = (cc)

-- a place that was read
pub record SeatFound (kind : LineKind) (line : List ℕ) (x : ℕ × Side) : Type 0 where
  pub station : ℕ
  pub text : row_text (seat kind station x.1) ≡ line
  pub is : sat station ≡ x.0
  pub side : side_read kind x.1 ≡ x.1

pub seat_found : (kind : LineKind) (line : List ℕ) (x : ℕ × Side) → seat_in kind line ≡ Some x → SeatFound kind line x
unfolding seat_in row_text
seat_found Straight line x e =
    let s = bind_some (number_in line) (λ s. Some (s, Front)) x e in
    let f = number_found line s.0 s.1 in
    let y : (s.0, Front) ≡ x = same_Some (s.0, Front) x s.2 in
    record { station = value_of line; text = f.0; is = sym f.1 ∙ ap (λ z. z.0) y; side = ap (λ z. z.1) y }
seat_found U line x e =
    let s = bind_some (number_first line) (λ s. side_in s.1 >>= λ side. Some (s.0, side)) x e in
    let d = bind_some (side_in s.0.1) (λ side. Some (s.0.0, side)) x s.2 in
    let f = number_first_found line s.0 s.1 in
    let y : (s.0.0, d.0) ≡ x = same_Some (s.0.0, d.0) x d.2 in
    let t : x.1 ≡ d.0 = ap (λ z. z.1) (sym y) in
    elim (side_found s.0.1 d.0 d.1) [
      | inl h ↦ record {
        station = f.0;
        text = ap (λ z. row_text (seat U f.0 z)) (t ∙ h.0) ∙ ap (λ w. number_text f.0 ++ 32 ∷ w) (sym h.1) ∙ sym f.1;
        is = f.2 ∙ ap (λ z. z.0) y;
        side = refl;
      }
      | inr h ↦ record {
        station = f.0;
        text = ap (λ z. row_text (seat U f.0 z)) (t ∙ h.0) ∙ ap (λ w. number_text f.0 ++ 32 ∷ w) (sym h.1) ∙ sym f.1;
        is = f.2 ∙ ap (λ z. z.0) y;
        side = refl;
      }
    ]

-- the head of a trail
abbrev pub sat_trail : Option (ℕ × ℕ) → Option (ℕ × ℕ)
sat_trail None = None
sat_trail (Some t) = Some (sat t.0, sat t.1)

not_zero_word : (n : ℕ) (rest : List ℕ) → bytes_eq (number_text n ++ 32 ∷ rest) (codes "0") ≡ false
not_zero_word n rest = I (bytes_eq (number_text n ++ 32 ∷ rest) (codes "0")) refl
  where
    lack : lacks 32 (codes "0") ≡ true
    lack = refl

    I : (t : Bool) → bytes_eq (number_text n ++ 32 ∷ rest) (codes "0") ≡ t
        → bytes_eq (number_text n ++ 32 ∷ rest) (codes "0") ≡ false
    I false e = e
    I true e =
        absurd (none-some (number_text n, rest)
        (sym (split_none 32 (codes "0") refl) ∙ ap (parts_at 32)
        (sym (same_bytes (number_text n ++ 32 ∷ rest) (codes "0") e))
        ∙ split_again 32 (number_text n) rest (high_lacks 32 (number_text n) (omega arith) (number_high n))))

pub trail_again : (t : Option (ℕ × ℕ)) → trail_in (row_text (trail t)) ≡ Some (sat_trail t)
unfolding trail_in row_text trail_numbers
trail_again None = ap (λ o. o >>= λ k. cond (bytes_eq k.0 (codes "trail"))
    (cond (bytes_eq k.1 (codes "0")) (Some None) (trail_numbers k.1)) None)
    (split_again 32 (codes "trail") (codes "0") refl)
trail_again (Some t) =
    let r : List ℕ = codes "at" ++ 32 ∷ number_text t.1 in
    ap (λ o. o >>= λ k. cond (bytes_eq k.0 (codes "trail"))
    (cond (bytes_eq k.1 (codes "0")) (Some None) (trail_numbers k.1)) None)
    (split_again 32 (codes "trail") (number_text t.0 ++ 32 ∷ r) refl)
    ∙ ap (λ b. cond b (Some None) (trail_numbers (number_text t.0 ++ 32 ∷ r))) (not_zero_word t.0 r)
    ∙ ap (λ o. o >>= λ f. parts_at 32 f.1 >>= λ a. cond (bytes_eq a.0 (codes "at")) (number_in a.1) None >>= λ c.
    Some (Some (f.0, c))) (number_first_again t.0 r)
    ∙ ap (λ o. o >>= λ a. cond (bytes_eq a.0 (codes "at")) (number_in a.1) None >>= λ c. Some (Some (sat t.0, c)))
    (split_again 32 (codes "at") (number_text t.1) refl)
    ∙ ap (λ o. o >>= λ c. Some (Some (sat t.0, c))) (number_again t.1)

numbers_found : (bytes : List ℕ) (x : Option (ℕ × ℕ)) → trail_numbers bytes ≡ Some x
    → (t : ℕ × ℕ) × (number_text t.0 ++ 32 ∷ (codes "at" ++ 32 ∷ number_text t.1) ≡ bytes)
    × (Some (sat t.0, sat t.1) ≡ x)
unfolding trail_numbers
numbers_found bytes x e =
    let f = bind_some (number_first bytes) (λ f. parts_at 32 f.1 >>= λ a.
    cond (bytes_eq a.0 (codes "at")) (number_in a.1) None >>= λ c. Some (Some (f.0, c))) x e in
    let a = bind_some (parts_at 32 f.0.1) (λ a. cond (bytes_eq a.0 (codes "at")) (number_in a.1) None >>= λ c.
    Some (Some (f.0.0, c))) x f.2 in
    let c = bind_some (cond (bytes_eq a.0.0 (codes "at")) (number_in a.0.1) None) (λ c. Some (Some (f.0.0, c))) x a.2 in
    let g = number_first_found bytes f.0 f.1 in
    let y : Some (f.0.0, c.0) ≡ x = same_Some (Some (f.0.0, c.0)) x c.2 in
    elim (chosen (bytes_eq a.0.0 (codes "at")) (number_in a.0.1) None (Some c.0) c.1) [
      | inl h ↦ (let n = number_found a.0.1 c.0 h.1 in (
        (g.0, value_of a.0.1),
        ap (λ w. number_text g.0 ++ 32 ∷ (codes "at" ++ 32 ∷ w)) n.0
            ∙ ap (λ w. number_text g.0 ++ 32 ∷ (w ++ 32 ∷ a.0.1)) (sym (same_bytes a.0.0 (codes "at") h.0))
            ∙ ap (λ w. number_text g.0 ++ 32 ∷ w) (sym (split_parts 32 f.0.1 a.0 a.1)) ∙ sym g.1,
        ap (λ z. Some (z, sat (value_of a.0.1))) g.2 ∙ ap (λ z. Some (f.0.0, z)) (sym n.1) ∙ y,
      ))
      | inr h ↦ (let w : None ≡ Some c.0 = h.1 in (cc))
    ]

pub trail_found : (line : List ℕ) (x : Option (ℕ × ℕ)) → trail_in line ≡ Some x
    → (t : Option (ℕ × ℕ)) × (row_text (trail t) ≡ line) × (sat_trail t ≡ x)
unfolding trail_in row_text
trail_found line x e =
    let k = bind_some (parts_at 32 line) (λ k. cond (bytes_eq k.0 (codes "trail"))
    (cond (bytes_eq k.1 (codes "0")) (Some None) (trail_numbers k.1)) None) x e in
    let p = split_parts 32 line k.0 k.1 in
    elim (chosen (bytes_eq k.0.0 (codes "trail")) (cond (bytes_eq k.0.1 (codes "0")) (Some None) (trail_numbers k.0.1))
    None (Some x) k.2) [
      | inl h ↦ elim (chosen (bytes_eq k.0.1 (codes "0")) (Some None) (trail_numbers k.0.1) (Some x) h.1) [
        | inl z ↦ (
          None,
          ap (λ w. w ++ 32 ∷ codes "0") (sym (same_bytes k.0.0 (codes "trail") h.0))
              ∙ ap (λ w. k.0.0 ++ 32 ∷ w) (sym (same_bytes k.0.1 (codes "0") z.0)) ∙ sym p,
          same_Some None x z.1,
        )
        | inr z ↦ (let f = numbers_found k.0.1 x z.1 in (
          Some f.0,
          ap (λ w. codes "trail" ++ 32 ∷ w) f.1
              ∙ ap (λ w. w ++ 32 ∷ k.0.1) (sym (same_bytes k.0.0 (codes "trail") h.0)) ∙ sym p,
          f.2,
        ))
      ]
      | inr h ↦ (let w : None ≡ Some x = h.1 in (cc))
    ]
