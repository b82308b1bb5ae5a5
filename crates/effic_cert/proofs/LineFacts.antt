-- What is read of the lines that other certificates lack decides what they say.
use Rattle.std.proofs.Common.{◌≡◌, ◌≢◌, ℕ, ◌<◌, ◌≡◌, true, List, min, refl, sym, ◌∙◌, ap, subst, arith}
use Rattle.std.proofs.Common.{Some, None, lit≤}
use Rattle.std.specs.Prelude.{codes}
use Rattle.std.proofs.lemmas.Option.{same_Some, none-some}
use Rattle.cert_lines.specs.Rows.{Row, fixed, keyed, span, seat, bound, branch, swap, pairs, trail, frame}
use Rattle.cert_lines.specs.Rows.{state_entry, state_frame, row_entry, joined, two_numbers}
use Rattle.cert_lines.specs.Rows.{form_of, row_text}
use Rattle.cert_lines.specs.Pattern.{HasFormOf}
use Rattle.cert_lines.proofs.NumberWords.{lacks}
use Rattle.cert_lines.proofs.CiteWords.{sat}
use Rattle.cert_lines.proofs.JudgedLine.{small, small_is, keyed_only}
use Rattle.cert_text.proofs.LineTexts.{row_lacks}
use Rattle.text_grammar.specs.Texts.{TellsLine}
use Rattle.line_rules.specs.Products.{IsProduct, IsStations}
use Rattle.effic_cert.specs.inner.Parts.{AreEnds, ends_row, bound_text}
use Rattle.effic_cert.specs.inner.WideReading.{widest, wide_keyed_in, span_in}
use Rattle.effic_cert.specs.declared.lines.Bound.{Bound}
use Rattle.effic_cert.specs.declared.lines.Bound.TheVariants as bounds
use Rattle.effic_cert.proofs.WideWords.{wide_keyed_again, wide_keyed_found, span_again, span_found}

-- the line of the range of stations
span_only : (r : Row) (key : List ℕ) → form_of r ≡ two_numbers key → (a : ℕ) × (b : ℕ) × (r ≡ span key a b)
span_only (span k a b) key e = let s : k ≡ key = cc in (a, b, ap (λ z. span z a b) s)
span_only (keyed k v) key e = (cc)
span_only (fixed t) key e = (cc)
span_only (seat kind station side) key e = (cc)
span_only (bound n c s m) key e = (cc)
span_only (branch n c mode s m cites) key e = (cc)
span_only (swap n c s m cite out into) key e = (cc)
span_only (pairs n c s m two) key e = (cc)
span_only (trail t) key e = (cc)
span_only (frame n mode s m last cites) key e = (cc)
span_only (state_entry rem starts least cites) key e = (cc)
span_only (state_frame rem starts need last cites) key e = (cc)
span_only (row_entry units starts base cites) key e = (cc)
span_only (joined k ns) key e = (cc)

pub ends_none : (line : List ℕ) → span_in (codes "stations") line ≡ None → HasFormOf ends_row AreEnds line → ⊥
ends_none line e f =
    let o = span_only f.2 (codes "stations") f.3 in
    none-some (sat o.0, sat o.1) (sym e ∙ ap (span_in (codes "stations")) (sym f.4 ∙ ap row_text o.2)
    ∙ span_again (codes "stations") o.0 o.1 refl)

pub ends_ok : (line : List ℕ) (a b : ℕ) → span_in (codes "stations") line ≡ Some (a, b) → AreEnds (a, b)
    → row_text (ends_row (a, b)) ≡ line
ends_ok line a b e r =
    let f = span_found (codes "stations") line (a, b) e in
    let p : f.0.0 ≡ a = small f.0.0 a (ap (λ z. z.0) f.2) (omega (arith, r.0.few)) in
    let q : f.0.1 ≡ b = small f.0.1 b (ap (λ z. z.1) f.2) (omega (arith, r.1.few)) in
    ap (λ z. row_text (span (codes "stations") z b)) (sym p)
    ∙ ap (λ z. row_text (span (codes "stations") f.0.0 z)) (sym q) ∙ f.1

one_station : IsStations 1
one_station = record { some = lit≤ tt; few = lit≤ tt }

pub ends_range : (line : List ℕ) (x : ℕ × ℕ) → span_in (codes "stations") line ≡ Some x → (AreEnds x → ⊥)
    → HasFormOf ends_row AreEnds line × ((v : ℕ × ℕ) → AreEnds v → row_text (ends_row v) ≢ line)
ends_range line x e n =
    let f = span_found (codes "stations") line x e in (
      ((1, 1), (one_station, one_station), span (codes "stations") f.0.0 f.0.1, refl, f.1),
      λ v r t.
          let w : x ≡ (sat v.0, sat v.1) = same_Some x (sat v.0, sat v.1)
          (sym e ∙ ap (span_in (codes "stations")) (sym t) ∙ span_again (codes "stations") v.0 v.1 refl) in
          let s : (sat v.0, sat v.1) ≡ (v.0, v.1) = ap (λ z. (z, sat v.1)) (small_is v.0 (omega (arith, r.0.few)))
          ∙ ap (λ z. (v.0, z)) (small_is v.1 (omega (arith, r.1.few))) in
          let P : ℕ × ℕ → Type 0 = AreEnds in
          n (subst P (sym (w ∙ s)) r),
    )

ends_same : (v w : ℕ × ℕ) → AreEnds v → AreEnds w → row_text (ends_row v) ≡ row_text (ends_row w) → v ≡ w
ends_same v w a b e =
    let t : (sat v.0, sat v.1) ≡ (sat w.0, sat w.1) =
    same_Some (sat v.0, sat v.1) (sat w.0, sat w.1)
    (sym (span_again (codes "stations") v.0 v.1 refl) ∙ ap (span_in (codes "stations")) e
    ∙ span_again (codes "stations") w.0 w.1 refl) in
    let p : v.0 ≡ w.0 = sym (small_is v.0 (omega (arith, a.0.few))) ∙ ap (λ z. z.0) t
    ∙ small_is w.0 (omega (arith, b.0.few)) in
    let q : v.1 ≡ w.1 = sym (small_is v.1 (omega (arith, a.1.few))) ∙ ap (λ z. z.1) t
    ∙ small_is w.1 (omega (arith, b.1.few)) in
    ap (λ z. (z, v.1)) p ∙ ap (λ z. (w.0, z)) q

-- the lines of bounds
pub wide_small : (n x : ℕ) → min n widest ≡ x → x < widest → n ≡ x
wide_small n x e h = omega (arith, e, h)

pub wide_is : (n : ℕ) → n < widest → min n widest ≡ n
wide_is n h = omega (arith, h)

pub bound_lacks : (b : Bound) → lacks 32 (bound_text b) ≡ true
bound_lacks bounds.Lower = refl
bound_lacks bounds.Upper = refl

module _ (key : List ℕ) (l : lacks 32 key ≡ true) where
  pub bound_none : (line : List ℕ) → wide_keyed_in key line ≡ None → HasFormOf (keyed key) IsProduct line → ⊥
  bound_none line e f =
      let o = keyed_only f.2 key f.3 in
      none-some (min o.0 widest) (sym e ∙ ap (wide_keyed_in key) (sym f.4 ∙ ap row_text o.1)
      ∙ wide_keyed_again key o.0 l)

  pub bound_ok : (line : List ℕ) (x : ℕ) → wide_keyed_in key line ≡ Some x → IsProduct x → row_text (keyed key x) ≡ line
  bound_ok line x e r =
      let f = wide_keyed_found key line x e in
      ap (λ n. row_text (keyed key n)) (sym (wide_small f.0 x f.2 (omega (arith, r.limit)))) ∙ f.1

  bound_value : (line : List ℕ) (v x : ℕ) → row_text (keyed key v) ≡ line → v < widest → wide_keyed_in key line ≡ Some x
      → x ≡ v
  bound_value line v x t h e = same_Some x v (sym e ∙ ap (wide_keyed_in key) (sym t) ∙ wide_keyed_again key v l
      ∙ ap (λ z. Some z) (wide_is v h))

  pub bound_range : (line : List ℕ) (x : ℕ) → wide_keyed_in key line ≡ Some x → (IsProduct x → ⊥)
      → HasFormOf (keyed key) IsProduct line × ((v : ℕ) → IsProduct v → row_text (keyed key v) ≢ line)
  bound_range line x e n =
      let f = wide_keyed_found key line x e in (
        (1, record { some = lit≤ tt; limit = lit≤ tt }, keyed key f.0, refl, f.1),
        λ v r t. n (let P : ℕ → Type 0 = IsProduct in subst P
            (sym (bound_value line v x t (omega (arith, r.limit)) e)) r),
      )

  pub bound_same : (v w : ℕ) → IsProduct v → IsProduct w → row_text (keyed key v) ≡ row_text (keyed key w) → v ≡ w
  bound_same v w a b e =
      bound_value (row_text (keyed key w)) w v refl (omega (arith, b.limit))
      (ap (wide_keyed_in key) (sym e) ∙ wide_keyed_again key v l
      ∙ ap (λ z. Some z) (wide_is v (omega (arith, a.limit))))

-- both kinds of line say one value at most
pub stations_tell : TellsLine ends_row AreEnds
stations_tell = record {
  one = ends_same;
  some = ((1, 1), (one_station, one_station));
  plain = λ v. row_lacks (ends_row v) refl;
}

bound_plain : (b : Bound) → lacks 10 (bound_text b) ≡ true
bound_plain bounds.Lower = refl
bound_plain bounds.Upper = refl

pub bound_tells : (b : Bound) → TellsLine (keyed (bound_text b)) IsProduct
bound_tells b = record {
  one = bound_same (bound_text b) (bound_lacks b);
  some = (1, record { some = lit≤ tt; limit = lit≤ tt });
  plain = λ v. row_lacks (keyed (bound_text b) v) (bound_plain b);
}
