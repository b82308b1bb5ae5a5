-- What is read of a place, the head of a trail, an entry and a frame decides what they say.
use Rattle.std.proofs.Common.{◌≡◌, ◌≢◌, ℕ, ◌≤◌, List, refl, sym, ◌∙◌, ap, subst, arith, Some, None, Option, lit≤}
use Rattle.std.proofs.lemmas.Option.{same_Some, none-some}
use Rattle.line_rules.specs.Ranges.{IsCycle, IsPlaced}
use Rattle.line_rules.specs.Balance.{IsSide}
use Rattle.line_rules.specs.declared.types.LineKind.{LineKind}
use Rattle.line_rules.specs.declared.types.LineKind.TheVariants.{Straight, U}
use Rattle.line_rules.specs.declared.types.Side.{Side}
use Rattle.line_rules.specs.declared.types.Side.TheVariants.{Front}
use Rattle.line_rules.specs.declared.types.Seatplace.{Seatplace}
use Rattle.cert_lines.specs.Rows.{Row, fixed, keyed, span, seat, bound, branch, swap, pairs, trail, frame}
use Rattle.cert_lines.specs.Rows.{state_entry, state_frame, row_entry, joined, place, head, form_of, row_text}
use Rattle.cert_lines.specs.ValueRows.{seat_row}
use Rattle.cert_lines.specs.inner.LineReading.{seat_in, trail_in}
use Rattle.cert_lines.specs.Pattern.{HasFormOf}
use Rattle.cert_lines.specs.LineForms.{IsHead}
use Rattle.cert_lines.proofs.CiteWords.{sat}
use Rattle.cert_lines.proofs.JudgedLine.{small, small_is}
use Rattle.cert_lines.proofs.PlainLines.{seat_again, seat_found, side_read, sat_trail, trail_again, trail_found}

one_cycle : IsCycle 1
one_cycle = record { some = lit≤ tt; limit = lit≤ tt }

seat_only : (r : Row) (kind : LineKind) → form_of r ≡ place kind → (n : ℕ) × (side : Side) × (r ≡ seat kind n side)
seat_only (seat k n side) kind e = let s : k ≡ kind = cc in (n, side, ap (λ z. seat z n side) s)
seat_only (fixed t) kind e = (cc)
seat_only (keyed key v) kind e = (cc)
seat_only (span key v w) kind e = (cc)
seat_only (bound n c s m) kind e = (cc)
seat_only (branch n c mode s m cites) kind e = (cc)
seat_only (swap n c s m cite out into) kind e = (cc)
seat_only (pairs n c s m two) kind e = (cc)
seat_only (trail t) kind e = (cc)
seat_only (frame n mode s m last cites) kind e = (cc)
seat_only (state_entry rem starts least cites) kind e = (cc)
seat_only (state_frame rem starts need last cites) kind e = (cc)
seat_only (row_entry units starts base cites) kind e = (cc)
seat_only (joined key ns) kind e = (cc)

pub seat_none : (kind : LineKind) (m : ℕ) (line : List ℕ) → seat_in kind line ≡ None
    → HasFormOf (seat_row kind) (IsPlaced kind m) line → ⊥
seat_none kind m line e f =
    let o = seat_only f.2 kind f.3 in
    none-some (sat o.0, side_read kind o.1) (sym e ∙ ap (seat_in kind) (sym f.4 ∙ ap row_text o.2)
    ∙ seat_again kind o.0 o.1)

side_is : (kind : LineKind) (side : Side) → side_read kind side ≡ side → IsSide kind side
side_is Straight side e = sym e
side_is U side e = tt

front_is : (kind : LineKind) → IsSide kind Front
front_is Straight = refl
front_is U = tt

pub seat_ok : (kind : LineKind) (m : ℕ) (line : List ℕ) (s : ℕ) (side : Side) → m ≤ 1024
    → seat_in kind line ≡ Some (s, side) → 1 ≤ s → s ≤ m → IsPlaced kind m (record { station = s; side = side })
    × (row_text (seat kind s side) ≡ line)
seat_ok kind m line s side l e a b =
    let f = seat_found kind line (s, side) e in (
      record { first = a; last = b; side = side_is kind side f.side },
      ap (λ n. row_text (seat kind n side)) (sym (small f.station s f.is (omega arith))) ∙ f.text,
    )

pub seat_range : (kind : LineKind) (m : ℕ) (line : List ℕ) (s : ℕ) (side : Side) → 1 ≤ m → m ≤ 1024
    → seat_in kind line ≡ Some (s, side) → ((1 ≤ s) × (s ≤ m) → ⊥)
    → HasFormOf (seat_row kind) (IsPlaced kind m) line × ((v : Seatplace) → IsPlaced kind m v
    → row_text (seat_row kind v) ≢ line)
seat_range kind m line s side a b e n =
    let f = seat_found kind line (s, side) e in (
      (
        record { station = 1; side = Front },
        record { first = lit≤ tt; last = a; side = front_is kind },
        seat kind f.station side,
        refl,
        f.text,
      ),
      λ v h t.
          let w : (s, side) ≡ (sat v.station, side_read kind v.side) =
          same_Some (s, side) (sat v.station, side_read kind v.side)
          (sym e ∙ ap (seat_in kind) (sym t) ∙ seat_again kind v.station v.side) in
          let i : s ≡ v.station = ap (λ z. z.0) w ∙ small_is v.station (omega (arith, h.last)) in
          n (omega (arith, h.first), omega (arith, h.last)),
    )

trail_only : (r : Row) → form_of r ≡ head → (t : Option (ℕ × ℕ)) × (r ≡ trail t)
trail_only (trail t) e = (t, refl)
trail_only (fixed t) e = (cc)
trail_only (keyed key v) e = (cc)
trail_only (span key v w) e = (cc)
trail_only (seat kind n side) e = (cc)
trail_only (bound n c s m) e = (cc)
trail_only (branch n c mode s m cites) e = (cc)
trail_only (swap n c s m cite out into) e = (cc)
trail_only (pairs n c s m two) e = (cc)
trail_only (frame n mode s m last cites) e = (cc)
trail_only (state_entry rem starts least cites) e = (cc)
trail_only (state_frame rem starts need last cites) e = (cc)
trail_only (row_entry units starts base cites) e = (cc)
trail_only (joined key ns) e = (cc)

pub trail_none : (line : List ℕ) → trail_in line ≡ None → HasFormOf trail IsHead line → ⊥
trail_none line e f =
    let o = trail_only f.2 f.3 in
    none-some (sat_trail o.0) (sym e ∙ ap trail_in (sym f.4 ∙ ap row_text o.1) ∙ trail_again o.0)

pub small_trail : (t : Option (ℕ × ℕ)) → IsHead t → sat_trail t ≡ t
small_trail None h = refl
small_trail (Some t) h = ap (λ z. Some (z, sat t.1)) (small_is t.0 (omega (arith, h.1)))
    ∙ ap (λ z. Some (t.0, z)) (small_is t.1 (omega (arith, h.2.limit)))

pub trail_ok : (line : List ℕ) (t : Option (ℕ × ℕ)) → trail_in line ≡ Some t → IsHead t → row_text (trail t) ≡ line
trail_ok line None e h = let f = trail_found line None e in none f.0 f.1 f.2
  where
    none : (t : Option (ℕ × ℕ)) → row_text (trail t) ≡ line → sat_trail t ≡ None → row_text (trail None) ≡ line
    none None a b = a
    none (Some t) a b = (cc)
trail_ok line (Some x) e h = let f = trail_found line (Some x) e in some f.0 f.1 f.2
  where
    some : (t : Option (ℕ × ℕ)) → row_text (trail t) ≡ line → sat_trail t ≡ Some x → row_text (trail (Some x)) ≡ line
    some None a b = (cc)
    some (Some t) a b =
        let w : (sat t.0, sat t.1) ≡ x = same_Some (sat t.0, sat t.1) x b in
        ap (λ z. row_text (trail (Some (z, x.1)))) (sym (small t.0 x.0 (ap (λ z. z.0) w) (omega (arith, h.1))))
        ∙ ap (λ z. row_text (trail (Some (t.0, z)))) (sym
        (small t.1 x.1 (ap (λ z. z.1) w) (omega (arith, h.2.limit)))) ∙ a

pub trail_range : (line : List ℕ) (x : ℕ × ℕ) → trail_in line ≡ Some (Some x) → (IsHead (Some x) → ⊥)
    → HasFormOf trail IsHead line × ((v : Option (ℕ × ℕ)) → IsHead v → row_text (trail v) ≢ line)
trail_range line x e n =
    let f = trail_found line (Some x) e in (
      (None, tt, trail f.0, refl, f.1),
      λ v h t.
          let w : Some x ≡ v = same_Some (Some x) v (sym e ∙ ap trail_in (sym t) ∙ trail_again v
          ∙ ap (λ z. Some z) (small_trail v h)) in
          let P : Option (ℕ × ℕ) → Type 0 = IsHead in
          n (subst P (sym w) h),
    )
