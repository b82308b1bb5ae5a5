-- What is read of the lines of charges, of units, of entries and of frames decides what they say.
use Rattle.std.proofs.Common.{◌≡◌, ◌≢◌, ℕ, zero, suc, ◌-◌, ◌<◌, ◌≤◌, true, List, [], ◌∷◌, length, map, get_or}
use Rattle.std.proofs.Common.{replicate, refl, sym, ◌∙◌, ap, subst, arith, Some, None, Option, Ok, Err, Result, lit≤}
use Rattle.std.proofs.Common.{lit<}
use Rattle.std.specs.Prelude.{All, MatchResult, codes}
use Rattle.std.proofs.lemmas.List.{length-map, length-replicate}
use Rattle.std.proofs.lemmas.Option.{same_Some, none-some, slice_get-get_or, get_or_from_slice_get}
use Rattle.line_rules.specs.Ranges.{IsPlaced}
use Rattle.line_rules.specs.declared.types.LineKind.TheVariants.{Straight}
use Rattle.line_rules.specs.declared.types.Side.TheVariants.{Front}
use Rattle.cert_lines.specs.Rows.{Row, fixed, keyed, span, seat, bound, branch, swap, pairs, trail, frame}
use Rattle.cert_lines.specs.Rows.{state_entry, state_frame, row_entry, joined, entry_of_state, frame_of_state}
use Rattle.cert_lines.specs.Rows.{entry_of_rows, many_numbers, form_of, row_text}
use Rattle.cert_lines.specs.Words.{◌>>=◌, greatest, number_in}
use Rattle.cert_lines.specs.inner.LineReading.{seat_in}
use Rattle.cert_lines.specs.Pattern.{HasFormOf, IsJudged}
use Rattle.cert_lines.specs.declared.fault.LineError.{LineError}
use Rattle.cert_lines.specs.declared.fault.LineError.TheVariants as lines
use Rattle.cert_lines.proofs.CiteWords.{sat}
use Rattle.cert_lines.proofs.PlainLines.{seat_again}
use Rattle.cert_lines.proofs.JudgedLine.{small, small_is, out_of_range}
use Rattle.cert_lines.proofs.JudgedSeat.{seat_none, seat_ok, seat_range}
use Rattle.cert_lines.proofs.NumberWords.{lacks}
use Rattle.cert_text.proofs.LineTexts.{IsPlain, row_lacks}
use Rattle.text_grammar.specs.Texts.{TellsLine}
use Rattle.sequence_rules.specs.Charges.{IsChargesOf}
use Rattle.sequence_rules.specs.Ranges.{IsState, IsWhy, IsEntry, IsFrame, IsLast, HasCharges, numbers_by}
use Rattle.sequence_values.specs.declared.types.SeqEntry.{SeqEntry}
use Rattle.sequence_values.specs.declared.types.SeqFrame.{SeqFrame}
use Rattle.sequence_values.specs.declared.types.SeqWhy.{SeqWhy}
use Rattle.sequence_values.specs.declared.types.SeqWhy.TheVariants as why
use Rattle.sequence_cert.specs.SequenceText.{unit_row, charges_row, row_by, entry_row, counted, frame_row}
use Rattle.sequence_cert.specs.inner.Versions.{mark_of}
use Rattle.sequence_cert.specs.inner.StateReading.{charges_in, entry_in, frame_in, indexed, frame_of}
use Rattle.sequence_cert.specs.inner.Parts.{AreModels, AreCitesWithin, IsEntryWithin, IsLastWithin, IsFrameWithin}
use Rattle.sequence_cert.specs.declared.version.Version.{Version}
use Rattle.sequence_cert.specs.declared.words.FrameDraft.{FrameDraft}
use Rattle.sequence_cert.proofs.StateWords.{charges_again, charges_found, the_entry, sat_why, sat_entry, MayStand}
use Rattle.sequence_cert.proofs.StateWords.{IsWritten, entry_again, entry_found, same_parts, last_read, the_frame}
use Rattle.sequence_cert.proofs.StateWords.{frame_again, frame_found}

-- the line of a unit is that of a place on a straight line
abbrev IsUnit : ℕ → ℕ → Type 0
IsUnit m v = v < m

placed : (m v : ℕ) → v < m → IsPlaced Straight m (record { station = suc v; side = Front })
placed m v h = record { first = omega arith; last = omega (arith, h); side = refl }

no_seat : (line : List ℕ) → number_in line ≡ None → seat_in Straight line ≡ None
unfolding seat_in
no_seat line e = ap (λ o. o >>= λ s. Some (s, Front)) e

some_seat : (line : List ℕ) (x : ℕ) → number_in line ≡ Some x → seat_in Straight line ≡ Some (x, Front)
unfolding seat_in
some_seat line x e = ap (λ o. o >>= λ s. Some (s, Front)) e

pub unit_none : (m : ℕ) (line : List ℕ) → number_in line ≡ None → HasFormOf unit_row (IsUnit m) line → ⊥
unit_none m line e f =
    seat_none Straight m line (no_seat line e)
    (record { station = suc f.0; side = Front }, placed m f.0 f.1, f.2, f.3, f.4)

pub unit_ok : (m : ℕ) (line : List ℕ) (x : ℕ) → AreModels m → number_in line ≡ Some x → 1 ≤ x → x ≤ m
    → (x - 1 < m) × (row_text (unit_row (x - 1)) ≡ line)
unit_ok m line x h e a b = (
  omega (arith, a, b),
  ap (λ z. row_text (seat Straight z Front)) (omega (arith, a))
      ∙ (seat_ok Straight m line x Front (omega (arith, h.few)) (some_seat line x e) a b).1,
)

pub unit_range : (m : ℕ) (line : List ℕ) (x : ℕ) → AreModels m → number_in line ≡ Some x → ((1 ≤ x) × (x ≤ m) → ⊥)
    → HasFormOf unit_row (IsUnit m) line × ((v : ℕ) → IsUnit m v → row_text (unit_row v) ≢ line)
unit_range m line x h e n =
    let s = seat_range Straight m line x Front h.some (omega (arith, h.few)) (some_seat line x e) n in (
      (0, omega (arith, h.some), s.0.2, s.0.3, s.0.4),
      λ v u t. s.1 (record { station = suc v; side = Front }) (placed m v u) t,
    )

same_less : (v w : ℕ) → suc v ≡ suc w → v ≡ w
same_less v w e = omega arith

unit_same : (m v w : ℕ) → m ≤ 16 → IsUnit m v → IsUnit m w → row_text (unit_row v) ≡ row_text (unit_row w) → v ≡ w
unit_same m v w l a b e =
    let p : suc v < greatest = omega (arith, a, l) in
    let q : suc w < greatest = omega (arith, b, l) in
    let t : (sat (suc v), Front) ≡ (sat (suc w), Front) = same_Some (sat (suc v), Front) (sat (suc w), Front)
    (sym (seat_again Straight (suc v) Front) ∙ ap (seat_in Straight) e ∙ seat_again Straight (suc w) Front) in
    same_less v w (sym (small_is (suc v) p) ∙ ap (λ z. z.0) t ∙ small_is (suc w) q)

-- numbers that were read are small, so they are what the line says
small_all : (most : ℕ) (cs xs : List ℕ) → most < greatest → map sat cs ≡ xs → All (λ x. x ≤ most) xs → cs ≡ xs
small_all most [] [] l e h = refl
small_all most [] (x ∷ xs) l e h = (cc)
small_all most (c ∷ cs) [] l e h = (cc)
small_all most (c ∷ cs) (x ∷ xs) l e h =
    let a : x ≤ most = h 0 0 (omega arith) in
    let s : sat c ≡ x = cc in
    let t : map sat cs ≡ xs = cc in
    ap (λ z. z ∷ cs) (small c x s (omega (arith, a, l)))
    ∙ ap (λ z. x ∷ z) (small_all most cs xs l t (λ k d g. h (suc k) d (omega (arith, g))))

-- small numbers are read as they are
sat_all : (most : ℕ) (xs : List ℕ) → most < greatest → All (λ x. x ≤ most) xs → map sat xs ≡ xs
sat_all most [] l h = refl
sat_all most (x ∷ xs) l h =
    let a : x ≤ most = h 0 0 (omega arith) in
    ap (λ z. z ∷ map sat xs) (small_is x (omega (arith, a, l)))
    ∙ ap (λ z. x ∷ z) (sat_all most xs l (λ k d g. h (suc k) d (omega (arith, g))))

-- what holds at each place holds of each
pub all_from : (most : ℕ) (xs : List ℕ) → ((j : ℕ) → j < length xs → get_or xs j 0 ≤ most) → All (λ x. x ≤ most) xs
all_from most xs h k d l =
    let e : get_or xs k d ≡ get_or xs k 0 = get_or_from_slice_get xs k (get_or xs k 0) d (slice_get-get_or xs k 0 l) in
    omega (arith, e, h k l)

zeros : (most m : ℕ) → All (λ x. x ≤ most) (replicate m 0)
zeros most zero k d h = absurd (omega (arith, h))
zeros most (suc m) zero d h = omega arith
zeros most (suc m) (suc k) d h = zeros most m k d (omega (arith, h))

units_small : 1000 < greatest
units_small = lit< tt

starts_small : 1000000000 < greatest
starts_small = lit< tt

number_small : 1000000000000000000 < greatest
number_small = lit< tt

-- the line of charges
many_same : (key other : List ℕ) (m n : ℕ) → many_numbers key m ≡ many_numbers other n → (key ≡ other) × (m ≡ n)
many_same key other m n e = (cc, cc)

joined_only : (r : Row) (key : List ℕ) (m : ℕ) → form_of r ≡ many_numbers key m
    → (ns : List ℕ) × (r ≡ joined key ns) × (length ns ≡ m)
joined_only (joined k ns) key m e =
    let s = many_same k key (length ns) m e in (ns, ap (λ z. joined z ns) s.0, s.1)
joined_only (fixed t) key m e = (cc)
joined_only (keyed k v) key m e = (cc)
joined_only (span k v w) key m e = (cc)
joined_only (seat kind station side) key m e = (cc)
joined_only (bound k c s x) key m e = (cc)
joined_only (branch k c mode s x cites) key m e = (cc)
joined_only (swap k c s x cite out into) key m e = (cc)
joined_only (pairs k c s x two) key m e = (cc)
joined_only (trail t) key m e = (cc)
joined_only (frame k mode s x last cites) key m e = (cc)
joined_only (state_entry rem starts least cites) key m e = (cc)
joined_only (state_frame rem starts need last cites) key m e = (cc)
joined_only (row_entry units starts base cites) key m e = (cc)

charges_small : 100000000000000 < greatest
charges_small = lit< tt

pub charges_none : (m : ℕ) (line : List ℕ) → charges_in m line ≡ None → HasFormOf charges_row (IsChargesOf m) line → ⊥
charges_none m line e f =
    let o = joined_only f.2 (codes "charges") (length f.0) f.3 in
    none-some (map sat o.0)
    (sym e ∙ ap (charges_in m) (sym f.4 ∙ ap row_text o.1) ∙ charges_again m o.0 (o.2 ∙ f.1.each))

charges_value : (m : ℕ) (v line : List ℕ) → IsChargesOf m v → row_text (charges_row v) ≡ line
    → charges_in m line ≡ Some v
charges_value m v line h t =
    ap (charges_in m) (sym t) ∙ charges_again m v h.each
    ∙ ap (λ z. Some z) (sat_all 100000000000000 v charges_small h.limit)

charges_one : (m : ℕ) (v w : List ℕ) → IsChargesOf m v → IsChargesOf m w
    → row_text (charges_row v) ≡ row_text (charges_row w) → v ≡ w
charges_one m v w a b e =
    same_Some v w
    (sym (charges_value m v (row_text (charges_row w)) a e) ∙ charges_value m w (row_text (charges_row w)) b refl)

charges_said : (m : ℕ) (line v : List ℕ) → charges_in m line ≡ Some v → All (λ a. a ≤ 100000000000000) v
    → IsChargesOf m v × (row_text (charges_row v) ≡ line)
charges_said m line v i h =
    let f = charges_found m line v i in
    let s : f.0 ≡ v = small_all 100000000000000 f.0 v charges_small f.2 h in
    (record { each = sym (ap length s) ∙ f.3; limit = h }, ap (λ z. row_text (charges_row z)) (sym s) ∙ f.1)

some_charges : (m : ℕ) → (v : List ℕ) × IsChargesOf m v
some_charges m = (replicate m 0, record { each = length-replicate m 0; limit = zeros 100000000000000 m })

charges_range : (m : ℕ) (line v : List ℕ) → charges_in m line ≡ Some v → (All (λ a. a ≤ 100000000000000) v → ⊥)
    → HasFormOf charges_row (IsChargesOf m) line
    × ((w : List ℕ) → IsChargesOf m w → row_text (charges_row w) ≢ line)
charges_range m line v i k =
    let f = charges_found m line v i in
    let s = some_charges m in (
      (
        s.0,
        s.1,
        charges_row f.0,
        ap (λ z. many_numbers (codes "charges") z) (f.3 ∙ sym s.1.each),
        f.1,
      ),
      λ w u t.
          let e : w ≡ v = same_Some w v (sym (charges_value m w line u t) ∙ i) in
          let P : List ℕ → Type 0 = λ z. All (λ a. a ≤ 100000000000000) z in
          k (subst P e u.limit),
    )

pub charges_judged : (m : ℕ) (line v : List ℕ) (r : Result (List ℕ) LineError) → charges_in m line ≡ Some v
    → MatchResult r (λ c. (c ≡ v) × All (λ a. a ≤ 100000000000000) v)
    (λ e. (e ≡ lines.Range) × (All (λ a. a ≤ 100000000000000) v → ⊥))
    → IsJudged charges_row (IsChargesOf m) line r
charges_judged m line v (Ok c) i h =
    let P : List ℕ → Type 0 = λ z. IsChargesOf m z × (row_text (charges_row z) ≡ line) in
    subst P (sym h.0) (charges_said m line v i h.1)
charges_judged m line v (Err x) i h =
    let f = charges_range m line v i h.1 in out_of_range charges_row (IsChargesOf m) line x h.0 f.0 f.1

-- the line of an entry of a state
record StateRow (r : Row) (m n : ℕ) : Type 0 where
  rem : List ℕ
  starts : List ℕ
  least : ℕ
  cites : Option (List ℕ)
  is : r ≡ state_entry rem starts least cites
  many : length rem ≡ m
  wide : length starts ≡ n

entry_sizes : (a b c d : ℕ) → entry_of_state a b ≡ entry_of_state c d → (a ≡ c) × (b ≡ d)
entry_sizes a b c d e = (cc, cc)

state_only : (r : Row) (m n : ℕ) → form_of r ≡ entry_of_state m n → StateRow r m n
state_only (state_entry rem starts least cites) m n e =
    let s = entry_sizes (length rem) (length starts) m n e in
    record { rem = rem; starts = starts; least = least; cites = cites; is = refl; many = s.0; wide = s.1 }
state_only (fixed t) m n e = (cc)
state_only (keyed key v) m n e = (cc)
state_only (span key v w) m n e = (cc)
state_only (seat kind station side) m n e = (cc)
state_only (bound k c s x) m n e = (cc)
state_only (branch k c mode s x cites) m n e = (cc)
state_only (swap k c s x cite out into) m n e = (cc)
state_only (pairs k c s x two) m n e = (cc)
state_only (trail t) m n e = (cc)
state_only (frame k mode s x last cites) m n e = (cc)
state_only (state_frame rem starts need last cites) m n e = (cc)
state_only (row_entry units starts base cites) m n e = (cc)
state_only (joined key ns) m n e = (cc)

-- the line of an entry of rows
record RowsRow (r : Row) (m n : ℕ) : Type 0 where
  units : List ℕ
  starts : List ℕ
  base : ℕ
  cites : List ℕ
  is : r ≡ row_entry units starts base cites
  many : length units ≡ m
  wide : length starts ≡ n

rows_sizes : (a b c d : ℕ) → entry_of_rows a b ≡ entry_of_rows c d → (a ≡ c) × (b ≡ d)
rows_sizes a b c d e = (cc, cc)

rows_only : (r : Row) (m n : ℕ) → form_of r ≡ entry_of_rows m n → RowsRow r m n
rows_only (row_entry units starts base cites) m n e =
    let s = rows_sizes (length units) (length starts) m n e in
    record { units = units; starts = starts; base = base; cites = cites; is = refl; many = s.0; wide = s.1 }
rows_only (fixed t) m n e = (cc)
rows_only (keyed key v) m n e = (cc)
rows_only (span key v w) m n e = (cc)
rows_only (seat kind station side) m n e = (cc)
rows_only (bound k c s x) m n e = (cc)
rows_only (branch k c mode s x cites) m n e = (cc)
rows_only (swap k c s x cite out into) m n e = (cc)
rows_only (pairs k c s x two) m n e = (cc)
rows_only (trail t) m n e = (cc)
rows_only (frame k mode s x last cites) m n e = (cc)
rows_only (state_entry rem starts least cites) m n e = (cc)
rows_only (state_frame rem starts need last cites) m n e = (cc)
rows_only (joined key ns) m n e = (cc)

-- the line of an entry, its numbers of any size
record EntryRow (r : Row) (v : Version) (m n : ℕ) : Type 0 where
  written : SeqEntry
  may : IsWritten v m n written
  is : r ≡ entry_row written

of_state : (r : Row) (v : Version) (m n : ℕ) (rem starts : List ℕ) (least : ℕ) (c : Option (List ℕ))
    → r ≡ state_entry rem starts least c → length rem ≡ m → length starts ≡ n → EntryRow r v m n
of_state r v m n rem starts least None e p q = record {
  written = the_entry rem starts least why.Bound;
  may = record { stands = tt; many = p; wide = q };
  is = e;
}
of_state r v m n rem starts least (Some cites) e p q = record {
  written = the_entry rem starts least (why.Branch cites);
  may = record { stands = tt; many = p; wide = q };
  is = e;
}

-- a line has the form of an entry of a state
like_state : (r : Row) (v : Version) (m n : ℕ) (rem starts : List ℕ) → length rem ≡ m → length starts ≡ n
    → form_of r ≡ entry_of_state (length rem) (length starts) → EntryRow r v m n
like_state r v m n rem starts p q f =
    let o = state_only r (length rem) (length starts) f in
    of_state r v m n o.rem o.starts o.least o.cites o.is (o.many ∙ p) (o.wide ∙ q)

-- a line has the form of that of an entry
like_entry : (r : Row) (v : Version) (m n : ℕ) (rem starts : List ℕ) (least : ℕ) (w : SeqWhy) → MayStand v w
    → length rem ≡ numbers_by m w → length starts ≡ n
    → form_of r ≡ form_of (row_by (the_entry rem starts least w) w)
    → EntryRow r v m n
like_entry r v m n rem starts least why.Bound h p q f = like_state r v m n rem starts p q f
like_entry r v m n rem starts least (why.Branch cites) h p q f = like_state r v m n rem starts p q f
like_entry r v m n rem starts least (why.Charge cites) h p q f =
    let o = rows_only r (length rem) (length starts) f in
    record {
      written = the_entry o.units o.starts o.base (why.Charge o.cites);
      may = record { stands = h; many = o.many ∙ p; wide = o.wide ∙ q };
      is = o.is;
    }

entry_reads : (v : Version) (m n : ℕ) (e : SeqEntry) (line : List ℕ) → IsWritten v m n e
    → row_text (entry_row e) ≡ line → entry_in v m n line ≡ Some (sat_entry e)
entry_reads v m n e line h t = ap (entry_in v m n) (sym t) ∙ entry_again v m n e h

why_stands : (v : Version) (w : SeqWhy) → IsWhy (mark_of v) w → MayStand v w
why_stands v why.Bound h = tt
why_stands v (why.Branch cites) h = tt
why_stands v (why.Charge cites) h = h.0

written_as : (v : Version) (m n : ℕ) (e : SeqEntry) → IsEntry m n (mark_of v) e → IsWritten v m n e
written_as v m n e h = record {
  stands = why_stands v e.why h.why;
  many = h.state.each;
  wide = h.state.wide;
}

pub entry_none : (v : Version) (m n : ℕ) (line : List ℕ) → entry_in v m n line ≡ None
    → HasFormOf entry_row (IsEntry m n (mark_of v)) line → ⊥
entry_none v m n line e f =
    let h = written_as v m n f.0 f.1 in
    let o = like_entry f.2 v m n f.0.rem f.0.starts f.0.least f.0.why h.stands h.many h.wide f.3 in
    none-some (sat_entry o.written)
    (sym e ∙ entry_reads v m n o.written line o.may (ap row_text (sym o.is) ∙ f.4))

why_same : (c : Option (List ℕ)) (w : SeqWhy) → IsWhy c w → sat_why w ≡ w
why_same c why.Bound h = refl
why_same c (why.Branch cites) h = ap (λ z. why.Branch z) (sat_all 1000000000000000000 cites number_small h)
why_same c (why.Charge cites) h = ap (λ z. why.Charge z) (sat_all 1000000000000000000 cites number_small h.1)

entry_same : (m n : ℕ) (c : Option (List ℕ)) (e : SeqEntry) → IsEntry m n c e → sat_entry e ≡ e
entry_same m n c e h =
    same_parts (map sat e.rem) e.rem (map sat e.starts) e.starts (sat e.least) e.least (sat_why e.why) e.why
    (sat_all 1000 e.rem units_small h.state.units) (sat_all 1000000000 e.starts starts_small h.state.begun)
    (small_is e.least (omega (arith, h.least, number_small))) (why_same c e.why h.why)

entry_value : (v : Version) (m n : ℕ) (e : SeqEntry) (line : List ℕ) → IsEntry m n (mark_of v) e
    → row_text (entry_row e) ≡ line → entry_in v m n line ≡ Some e
entry_value v m n e line h t =
    entry_reads v m n e line (written_as v m n e h) t ∙ ap (λ z. Some z) (entry_same m n (mark_of v) e h)

entry_one : (v : Version) (m n : ℕ) (d e : SeqEntry) → IsEntry m n (mark_of v) d → IsEntry m n (mark_of v) e
    → row_text (entry_row d) ≡ row_text (entry_row e) → d ≡ e
entry_one v m n d e a b t =
    same_Some d e
    (sym (entry_value v m n d (row_text (entry_row e)) a t) ∙ entry_value v m n e (row_text (entry_row e)) b refl)

-- cites that were read are small, so they are what the line says
why_is : (u w : SeqWhy) → sat_why u ≡ w → AreCitesWithin w → u ≡ w
why_is why.Bound w e h = e
why_is (why.Branch cs) w e h =
    let P : SeqWhy → Type 0 = AreCitesWithin in
    ap (λ z. why.Branch z) (small_all 1000000000000000000 cs (map sat cs) number_small refl (subst P (sym e) h)) ∙ e
why_is (why.Charge cs) w e h =
    let P : SeqWhy → Type 0 = AreCitesWithin in
    ap (λ z. why.Charge z) (small_all 1000000000000000000 cs (map sat cs) number_small refl (subst P (sym e) h)) ∙ e

why_said : (v : Version) (w : SeqWhy) → MayStand v w → AreCitesWithin w → IsWhy (mark_of v) w
why_said v why.Bound h c = tt
why_said v (why.Branch cites) h c = c
why_said v (why.Charge cites) h c = (h, c)

why_within : (c : Option (List ℕ)) (w : SeqWhy) → IsWhy c w → AreCitesWithin w
why_within c why.Bound h = tt
why_within c (why.Branch cites) h = h
why_within c (why.Charge cites) h = h.1

entry_said : (v : Version) (m n : ℕ) (line : List ℕ) (e : SeqEntry) → entry_in v m n line ≡ Some e → IsEntryWithin e
    → IsEntry m n (mark_of v) e × (row_text (entry_row e) ≡ line)
entry_said v m n line e i w =
    let f = entry_found v m n line e i in
    let d = f.written in
    let s : d ≡ e = same_parts d.rem e.rem d.starts e.starts d.least e.least d.why e.why
    (small_all 1000 d.rem e.rem units_small (ap (λ z. z.rem) f.is) w.units)
    (small_all 1000000000 d.starts e.starts starts_small (ap (λ z. z.starts) f.is) w.begun)
    (small d.least e.least (ap (λ z. z.least) f.is) (omega (arith, w.least, number_small)))
    (why_is d.why e.why (ap (λ z. z.why) f.is) w.cites) in
    let P : SeqEntry → Type 0 = IsWritten v m n in
    let h : IsWritten v m n e = subst P s f.may in (
      record {
        state = record { each = h.many; units = w.units; wide = h.wide; begun = w.begun };
        least = w.least;
        why = why_said v e.why h.stands w.cites;
      },
      ap (λ z. row_text (entry_row z)) (sym s) ∙ f.text,
    )

blank_state : (m n : ℕ) → IsState m n (replicate m 0) (replicate n 0)
blank_state m n = record {
  each = length-replicate m 0;
  units = zeros 1000 m;
  wide = length-replicate n 0;
  begun = zeros 1000000000 n;
}

some_entry : (v : Version) (m n : ℕ) → (e : SeqEntry) × IsEntry m n (mark_of v) e
some_entry v m n = (
  the_entry (replicate m 0) (replicate n 0) 0 why.Bound,
  record { state = blank_state m n; least = lit≤ tt; why = tt },
)

-- an entry that may be said, whose line has the form of this one
record SaidLike (v : Version) (m n : ℕ) (r : Row) : Type 0 where
  entry : SeqEntry
  said : IsEntry m n (mark_of v) entry
  form : form_of r ≡ form_of (entry_row entry)

said_state : (v : Version) (m n : ℕ) (rem starts : List ℕ) (least : ℕ) (c : Option (List ℕ)) → length rem ≡ m
    → length starts ≡ n → SaidLike v m n (state_entry rem starts least c)
unfolding some_entry
said_state v m n rem starts least c p q =
    let s = some_entry v m n in
    record {
      entry = s.0;
      said = s.1;
      form = ap (λ z. entry_of_state z (length starts)) (p ∙ sym s.1.state.each)
          ∙ ap (λ z. entry_of_state (length s.0.rem) z) (q ∙ sym s.1.state.wide);
    }

-- an entry by Charge that may be said
some_charge : (v : Version) (m n : ℕ) → HasCharges (mark_of v) → (e : SeqEntry) × IsEntry m n (mark_of v) e
    × (length e.rem ≡ 1) × (length e.starts ≡ n)
    × (form_of (entry_row e) ≡ entry_of_rows (length e.rem) (length e.starts))
some_charge v m n h =
    let s = blank_state 1 n in (
      the_entry (replicate 1 0) (replicate n 0) 0 (why.Charge []),
      record { state = s; least = lit≤ tt; why = (h, zeros 1000000000000000000 0) },
      s.each,
      s.wide,
      refl,
    )

said_like : (v : Version) (m n : ℕ) (rem starts : List ℕ) (least : ℕ) (w : SeqWhy) → MayStand v w
    → length rem ≡ numbers_by m w → length starts ≡ n → SaidLike v m n (row_by (the_entry rem starts least w) w)
said_like v m n rem starts least why.Bound h p q = said_state v m n rem starts least None p q
said_like v m n rem starts least (why.Branch cites) h p q = said_state v m n rem starts least (Some cites) p q
said_like v m n rem starts least (why.Charge cites) h p q =
    let s = some_charge v m n h in
    record {
      entry = s.0;
      said = s.1;
      form = ap (λ z. entry_of_rows z (length starts)) (p ∙ sym s.2)
          ∙ ap (λ z. entry_of_rows (length s.0.rem) z) (q ∙ sym s.3) ∙ sym s.4;
    }

entry_range : (v : Version) (m n : ℕ) (line : List ℕ) (e : SeqEntry) → entry_in v m n line ≡ Some e
    → (IsEntryWithin e → ⊥)
    → HasFormOf entry_row (IsEntry m n (mark_of v)) line
    × ((d : SeqEntry) → IsEntry m n (mark_of v) d → row_text (entry_row d) ≢ line)
entry_range v m n line e i k =
    let f = entry_found v m n line e i in
    let d = f.written in
    let l = said_like v m n d.rem d.starts d.least d.why f.may.stands f.may.many f.may.wide in (
      (l.entry, l.said, entry_row d, l.form, f.text),
      λ d u t.
          let w : d ≡ e = same_Some d e (sym (entry_value v m n d line u t) ∙ i) in
          let P : SeqEntry → Type 0 = IsEntryWithin in
          k (subst P w (record {
            units = u.state.units;
            begun = u.state.begun;
            least = u.least;
            cites = why_within (mark_of v) d.why u.why;
          })),
    )

pub entry_judged : (v : Version) (m n : ℕ) (line : List ℕ) (d : SeqEntry) (r : Result SeqEntry LineError)
    → entry_in v m n line ≡ Some d
    → MatchResult r (λ e. (e ≡ d) × IsEntryWithin d) (λ e. (e ≡ lines.Range) × (IsEntryWithin d → ⊥))
    → IsJudged entry_row (IsEntry m n (mark_of v)) line r
entry_judged v m n line d (Ok e) i h =
    let P : SeqEntry → Type 0 = λ z. IsEntry m n (mark_of v) z × (row_text (entry_row z) ≡ line) in
    subst P (sym h.0) (entry_said v m n line d i h.1)
entry_judged v m n line d (Err x) i h =
    let f = entry_range v m n line d i h.1 in out_of_range entry_row (IsEntry m n (mark_of v)) line x h.0 f.0 f.1

-- what an entry says asks of the charges no more than that there are some
why_as : (c d : Option (List ℕ)) (w : SeqWhy) → (HasCharges c → HasCharges d) → IsWhy c w → IsWhy d w
why_as c d why.Bound f h = tt
why_as c d (why.Branch cites) f h = h
why_as c d (why.Charge cites) f h = (f h.0, h.1)

pub entry_as : (m n : ℕ) (c d : Option (List ℕ)) (e : SeqEntry) → (HasCharges c → HasCharges d) → IsEntry m n c e
    → IsEntry m n d e
entry_as m n c d e f h = record { state = h.state; least = h.least; why = why_as c d e.why f h.why }

-- the line of a frame
record FrameRow (r : Row) (m n : ℕ) : Type 0 where
  rem : List ℕ
  starts : List ℕ
  need : ℕ
  last : Option ℕ
  cites : List ℕ
  is : r ≡ state_frame rem starts need last cites
  many : length rem ≡ m
  wide : length starts ≡ n

frame_sizes : (a b c d : ℕ) → frame_of_state a b ≡ frame_of_state c d → (a ≡ c) × (b ≡ d)
frame_sizes a b c d e = (cc, cc)

frame_only : (r : Row) (m n : ℕ) → form_of r ≡ frame_of_state m n → FrameRow r m n
frame_only (state_frame rem starts need last cites) m n e =
    let s = frame_sizes (length rem) (length starts) m n e in
    record { rem = rem; starts = starts; need = need; last = last; cites = cites; is = refl; many = s.0; wide = s.1 }
frame_only (fixed t) m n e = (cc)
frame_only (keyed key v) m n e = (cc)
frame_only (span key v w) m n e = (cc)
frame_only (seat kind station side) m n e = (cc)
frame_only (bound k c s x) m n e = (cc)
frame_only (branch k c mode s x cites) m n e = (cc)
frame_only (swap k c s x cite out into) m n e = (cc)
frame_only (pairs k c s x two) m n e = (cc)
frame_only (trail t) m n e = (cc)
frame_only (frame k mode s x last cites) m n e = (cc)
frame_only (state_entry rem starts least cites) m n e = (cc)
frame_only (row_entry units starts base cites) m n e = (cc)
frame_only (joined key ns) m n e = (cc)

frame_reads : (m n : ℕ) (rem starts : List ℕ) (need : ℕ) (last : Option ℕ) (cites line : List ℕ) → length rem ≡ m
    → length starts ≡ n
    → row_text (state_frame rem starts need last cites) ≡ line
    → frame_in m n line ≡ Some (the_frame (map sat rem) (map sat starts) (sat need) (last_read last) (map sat cites))
frame_reads m n rem starts need last cites line p q t =
    ap (frame_in m n) (sym t) ∙ ap (λ k. frame_in k n (row_text (state_frame rem starts need last cites))) (sym p)
    ∙ ap (λ k. frame_in (length rem) k (row_text (state_frame rem starts need last cites))) (sym q)
    ∙ frame_again rem starts need last cites

pub frame_none : (m n : ℕ) (line : List ℕ) → frame_in m n line ≡ None → HasFormOf frame_row (IsFrame m n) line → ⊥
frame_none m n line e f =
    let o = frame_only f.2 (length f.0.rem) (length f.0.starts) f.3 in
    none-some (the_frame (map sat o.rem) (map sat o.starts) (sat o.need) (last_read o.last) (map sat o.cites))
    (sym e ∙ frame_reads m n o.rem o.starts o.need o.last o.cites line (o.many ∙ f.1.state.each)
    (o.wide ∙ f.1.state.wide)
    (ap row_text (sym o.is) ∙ f.4))

-- the draft of a frame
abbrev drafted : SeqFrame → FrameDraft
drafted v = the_frame v.rem v.starts v.need (counted v.last) v.cites

last_same : (m : ℕ) (l : Option ℕ) → m ≤ 16 → IsLast m l → last_read (counted l) ≡ counted l
last_same m None h k = refl
last_same m (Some x) h k = ap (λ z. Some z) (small_is (suc x) (omega (arith, h, k)))

frame_same : (m n : ℕ) (v : SeqFrame) → m ≤ 16 → IsFrame m n v
    → the_frame (map sat v.rem) (map sat v.starts) (sat v.need) (last_read (counted v.last)) (map sat v.cites)
    ≡ drafted v
frame_same m n v l h =
    ap (λ z. the_frame z (map sat v.starts) (sat v.need) (last_read (counted v.last)) (map sat v.cites))
    (sat_all 1000 v.rem units_small h.state.units)
    ∙ ap (λ z. the_frame v.rem z (sat v.need) (last_read (counted v.last)) (map sat v.cites))
    (sat_all 1000000000 v.starts starts_small h.state.begun)
    ∙ ap (λ z. the_frame v.rem v.starts z (last_read (counted v.last)) (map sat v.cites))
    (small_is v.need (omega (arith, h.need, number_small)))
    ∙ ap (λ z. the_frame v.rem v.starts v.need z (map sat v.cites)) (last_same m v.last l h.last)
    ∙ ap (λ z. the_frame v.rem v.starts v.need (counted v.last) z)
    (sat_all 1000000000000000000 v.cites number_small h.cites)

frame_value : (m n : ℕ) (v : SeqFrame) (line : List ℕ) → m ≤ 16 → IsFrame m n v → row_text (frame_row v) ≡ line
    → frame_in m n line ≡ Some (drafted v)
frame_value m n v line l h t =
    frame_reads m n v.rem v.starts v.need (counted v.last) v.cites line h.state.each h.state.wide t
    ∙ ap (λ z. Some z) (frame_same m n v l h)

indexed_counted : (l : Option ℕ) → indexed (counted l) ≡ l
indexed_counted None = refl
indexed_counted (Some x) = ap (λ z. Some z) (omega arith)

frame_back : (v : SeqFrame) → frame_of (drafted v) ≡ v
frame_back v = ap (λ z. record { rem = v.rem; starts = v.starts; need = v.need; last = z; cites = v.cites })
    (indexed_counted v.last)

frame_one : (m n : ℕ) (v w : SeqFrame) → m ≤ 16 → IsFrame m n v → IsFrame m n w
    → row_text (frame_row v) ≡ row_text (frame_row w) → v ≡ w
frame_one m n v w l a b e =
    let d : drafted v ≡ drafted w = same_Some (drafted v) (drafted w)
    (sym (frame_value m n v (row_text (frame_row w)) l a e) ∙ frame_value m n w (row_text (frame_row w)) l b refl) in
    sym (frame_back v) ∙ ap frame_of d ∙ frame_back w

-- a last model that was read is small, so it is what the line says
last_is : (m : ℕ) (k l : Option ℕ) → m ≤ 16 → last_read k ≡ l → IsLastWithin m l → k ≡ counted (indexed l)
last_is m None l h e r = ap (λ z. counted (indexed z)) e
last_is m (Some n) l h e r =
    let P : Option ℕ → Type 0 = IsLastWithin m in
    let w : (1 ≤ sat n) × (sat n ≤ m) = subst P (sym e) r in
    let q : n ≡ sat n = small n (sat n) refl (omega (arith, w.1, h)) in
    ap (λ z. Some z) (omega (arith, w.0, q)) ∙ ap (λ z. counted (indexed z)) e

last_index : (m : ℕ) (l : Option ℕ) → IsLastWithin m l → IsLast m (indexed l)
last_index m None h = tt
last_index m (Some n) h = omega (arith, h.0, h.1)

same_open : (a b c d : List ℕ) (m k : ℕ) (i j : Option ℕ) (v w : List ℕ) → a ≡ b → c ≡ d → m ≡ k → i ≡ j → v ≡ w
    → state_frame a c m i v ≡ state_frame b d k j w
same_open a b c d m k i j v w e f g x h =
    ap (λ z. state_frame z c m i v) e ∙ ap (λ z. state_frame b z m i v) f ∙ ap (λ z. state_frame b d z i v) g
    ∙ ap (λ z. state_frame b d k z v) x ∙ ap (λ z. state_frame b d k j z) h

frame_said : (m n : ℕ) (line : List ℕ) (d : FrameDraft) → m ≤ 16 → frame_in m n line ≡ Some d → IsFrameWithin m d
    → IsFrame m n (frame_of d) × (row_text (frame_row (frame_of d)) ≡ line)
frame_said m n line d g i w =
    let f = frame_found m n line d i in
    let p : map sat f.rem ≡ d.rem = ap (λ z. z.rem) f.is in
    let q : map sat f.starts ≡ d.starts = ap (λ z. z.starts) f.is in
    let l : sat f.need ≡ d.need = ap (λ z. z.need) f.is in
    let k : last_read f.last ≡ d.last = ap (λ z. z.last) f.is in
    let y : map sat f.cites ≡ d.cites = ap (λ z. z.cites) f.is in (
      record {
        state = record {
          each = sym (ap length p) ∙ length-map f.rem sat ∙ f.many;
          units = w.units;
          wide = sym (ap length q) ∙ length-map f.starts sat ∙ f.wide;
          begun = w.begun;
        };
        need = w.need;
        last = last_index m d.last w.last;
        cites = w.cites;
      },
      ap row_text
          (sym (same_open f.rem d.rem f.starts d.starts f.need d.need f.last (counted (indexed d.last)) f.cites d.cites
          (small_all 1000 f.rem d.rem units_small p w.units)
          (small_all 1000000000 f.starts d.starts starts_small q w.begun)
          (small f.need d.need l (omega (arith, w.need, number_small))) (last_is m f.last d.last g k w.last)
          (small_all 1000000000000000000 f.cites d.cites number_small y w.cites)))
          ∙ f.text,
    )

some_frame : (m n : ℕ) → (f : SeqFrame) × IsFrame m n f
some_frame m n = (
  record { rem = replicate m 0; starts = replicate n 0; need = 0; last = None; cites = [] },
  record {
    state = blank_state m n;
    need = lit≤ tt;
    last = tt;
    cites = zeros 1000000000000000000 0;
  },
)

within_last : (m : ℕ) (l : Option ℕ) → IsLast m l → IsLastWithin m (counted l)
within_last m None h = tt
within_last m (Some x) h = (omega arith, omega (arith, h))

frame_range : (m n : ℕ) (line : List ℕ) (d : FrameDraft) → m ≤ 16 → frame_in m n line ≡ Some d → (IsFrameWithin m d → ⊥)
    → HasFormOf frame_row (IsFrame m n) line × ((v : SeqFrame) → IsFrame m n v → row_text (frame_row v) ≢ line)
frame_range m n line d g i k =
    let f = frame_found m n line d i in
    let s = some_frame m n in (
      (
        s.0,
        s.1,
        state_frame f.rem f.starts f.need f.last f.cites,
        ap (λ z. frame_of_state z (length f.starts)) (f.many ∙ sym s.1.state.each)
            ∙ ap (λ z. frame_of_state (length s.0.rem) z) (f.wide ∙ sym s.1.state.wide),
        f.text,
      ),
      λ v u t.
          let w : drafted v ≡ d = same_Some (drafted v) d (sym (frame_value m n v line g u t) ∙ i) in
          let P : FrameDraft → Type 0 = IsFrameWithin m in
          k (subst P w (record {
            units = u.state.units;
            begun = u.state.begun;
            need = u.need;
            last = within_last m v.last u.last;
            cites = u.cites;
          })),
    )

pub frame_judged : (m n : ℕ) (line : List ℕ) (d : FrameDraft) (r : Result SeqFrame LineError) → m ≤ 16
    → frame_in m n line ≡ Some d
    → MatchResult r (λ f. (f ≡ frame_of d) × IsFrameWithin m d) (λ e. (e ≡ lines.Range) × (IsFrameWithin m d → ⊥))
    → IsJudged frame_row (IsFrame m n) line r
frame_judged m n line d (Ok f) g i h =
    let P : SeqFrame → Type 0 = λ z. IsFrame m n z × (row_text (frame_row z) ≡ line) in
    subst P (sym h.0) (frame_said m n line d g i h.1)
frame_judged m n line d (Err x) g i h =
    let f = frame_range m n line d g i h.1 in out_of_range frame_row (IsFrame m n) line x h.0 f.0 f.1

-- each kind of line says one value at most
pub unit_tells : (m : ℕ) → AreModels m → TellsLine unit_row (λ u. u < m)
unit_tells m h = record {
  one = λ v w a b e. unit_same m v w h.few a b e;
  some = (0, h.some);
  plain = λ u. row_lacks (unit_row u) tt;
}

pub charges_tells : (m : ℕ) → TellsLine charges_row (IsChargesOf m)
charges_tells m = record {
  one = charges_one m;
  some = some_charges m;
  plain = λ c. row_lacks (charges_row c) refl;
}

plain_by : (e : SeqEntry) (w : SeqWhy) → IsPlain (row_by e w)
plain_by e why.Bound = tt
plain_by e (why.Branch cites) = tt
plain_by e (why.Charge cites) = tt

pub entry_plain : (e : SeqEntry) → lacks 10 (row_text (entry_row e)) ≡ true
entry_plain e = row_lacks (entry_row e) (plain_by e e.why)

pub entry_tells : (v : Version) (m n : ℕ) → TellsLine entry_row (IsEntry m n (mark_of v))
entry_tells v m n = record { one = entry_one v m n; some = some_entry v m n; plain = entry_plain }

pub frame_tells : (m n : ℕ) → AreModels m → TellsLine frame_row (IsFrame m n)
frame_tells m n h = record {
  one = λ v w a b e. frame_one m n v w h.few a b e;
  some = some_frame m n;
  plain = λ f. row_lacks (frame_row f) tt;
}
