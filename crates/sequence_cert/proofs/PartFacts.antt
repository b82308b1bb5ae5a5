-- The parts of the text of a certificate of a sequence, and that the whole of them says one certificate at most.
use Rattle.std.proofs.Common.{◌≡◌, ℕ, zero, suc, ◌<◌, ◌≤◌, true, List, [], ◌∷◌, length, map, get_or, refl, sym, ap}
use Rattle.std.proofs.Common.{subst, arith, Some, None, Option, lit≤, lit<}
use Rattle.std.specs.Prelude.{codes, slice_get, All}
use Rattle.std.proofs.lemmas.Option.{same_Some, none-some, slice_get-get_or}
use Rattle.cert_lines.specs.Rows.{Row, fixed, keyed, row_text}
use Rattle.cert_lines.specs.Words.{greatest}
use Rattle.cert_lines.specs.Faults.{Grammar}
use Rattle.cert_lines.specs.Pattern.{one, each, AreSaid, then_}
use Rattle.cert_lines.specs.LineForms.{key_text}
use Rattle.cert_lines.specs.declared.line_forms.Key.{Key}
use Rattle.cert_lines.specs.declared.line_forms.Key.TheVariants as keys
use Rattle.cert_lines.proofs.NumberWords.{lacks}
use Rattle.cert_lines.proofs.JudgedLine.{key_lacks}
use Rattle.cert_text.proofs.PartSequences.{Unique, unique_one, unique_each, texts, Same}
use Rattle.cert_text.proofs.LineTexts.{AllLack, row_lacks, lack_both, lack_map}
use Rattle.cert_text.proofs.CertificateParts.{within, numbers, unique_number}
use Rattle.cert_text.proofs.Claims.{end_grammar}
use Rattle.text_grammar.specs.Texts.{Tells, TellsLine}
use Rattle.text_grammar.proofs.TextFacts.{one_tells, led_tells, same_tells, none_begins}
use Rattle.text_grammar.proofs.LineFacts.{Ready, number_ready, end_ready, both_ready, key_plain, end_tells}
use Rattle.text_grammar.proofs.TwoParts.{TwoParts, parted}
use Rattle.sequence_rules.specs.Charges.{IsChargesOf, listed_charges}
use Rattle.sequence_rules.specs.Ranges.{IsEntry, IsFrame, HasCharges, AreChargesIf}
use Rattle.sequence_values.specs.declared.types.SeqCert.{SeqCert}
use Rattle.sequence_values.specs.declared.types.SeqEntry.{SeqEntry}
use Rattle.sequence_values.specs.declared.types.SeqFrame.{SeqFrame}
use Rattle.sequence_cert.specs.SequenceText.{counted_rows, unit_row, charges_row, charges_rows, entry_row, frame_row}
use Rattle.sequence_cert.specs.SequenceText.{first_line, body_rows, sequence_rows}
use Rattle.sequence_cert.specs.Faults.{sequences}
use Rattle.sequence_cert.specs.Laws.{NoSequenceTextBeginsAnother}
use Rattle.sequence_cert.specs.inner.Versions.{version_of, mark_of, version_line, version_row, AreChargesIn}
use Rattle.sequence_cert.specs.inner.Parts.{AreModels, IsCounted, counteds, chargeds, bodies}
use Rattle.sequence_cert.specs.declared.version.Version.{Version}
use Rattle.sequence_cert.specs.declared.version.Version.TheVariants as version
use Rattle.sequence_cert.proofs.VersionLines.{version_one}
use Rattle.sequence_cert.proofs.StateLines.{charges_tells, unit_tells, entry_plain, entry_tells, entry_as, frame_tells}

-- so many values behind their number
abbrev pub counted_parts : {V : Type 0} → List ℕ → ℕ → ℕ → (V → Row) → (V → Type 0) → Grammar (ℕ × List V)
counted_parts key low high row ranged = then_ (numbers key low high) (each row ranged)

pub count_said : {V : Type 0} (low high : ℕ) (ranged : V → Type 0) (many : ℕ) (vs : List V) → within low high many
    → AreSaid ranged many vs
    → IsCounted low high ranged vs
count_said low high ranged many vs r s = record {
  least = omega (arith, r.0, s.many);
  most = omega (arith, r.1, s.many);
  each = s.each;
}

unfoldable pub same_counted : {V : Type 0} (key : List ℕ) (low high : ℕ) (row : V → Row) (ranged : V → Type 0)
    → Same (counted_parts key low high row ranged) (counteds key low high row ranged)
same_counted key low high row ranged = record {
  to = λ v. v.1;
  from = λ vs. (length vs, vs);
  to_ranged = λ v r. count_said low high ranged v.0 v.1 r.0 r.1;
  from_ranged = λ vs r. ((r.least, r.most), record { many = refl; each = r.each });
  to_rows = λ v r. ap (λ n. keyed key n ∷ map row v.1) r.1.many;
  from_rows = λ vs r. refl;
}

said_first : {V : Type 0} (ranged : V → Type 0) (v : V) (vs : List V) → ranged v →
    ((k : ℕ) (u : V) → slice_get vs k ≡ Some u → ranged u)
    → (k : ℕ) (u : V) → slice_get (v ∷ vs) k ≡ Some u → ranged u
said_first {V = V} ranged v vs h g zero u e = let P : V → Type 0 = ranged in subst P (same_Some v u e) h
said_first ranged v vs h g (suc k) u e = g k u e

-- so many of a value that may be said
pub some_each : {V : Type 0} (ranged : V → Type 0) (v : V) → ranged v → (many : ℕ)
    → (vs : List V) × AreSaid ranged many vs
some_each ranged v h zero = ([], record { many = refl; each = λ k u e. absurd (none-some u e) })
some_each ranged v h (suc many) =
    let i = some_each ranged v h many in
    (v ∷ i.0, record { many = ap suc i.1.many; each = said_first ranged v i.0 h i.1.each })

-- the number of values, and the line of each
abbrev pub counted : {V : Type 0} (key : Key) (low high : ℕ) (row : V → Row) (ranged : V → Type 0) → high < greatest
    → (v : V) × ranged v
    → TwoParts (numbers (key_text key) low high) (each row ranged) (counteds (key_text key) low high row ranged)
counted key low high row ranged h s = record {
  unique = unique_number (key_text key) low high (key_lacks key) h;
  some = λ n r. some_each ranged s.0 s.1 n;
  same = same_counted (key_text key) low high row ranged;
}

each_tells : {V : Type 0} (row : V → Row) (ranged : V → Type 0) (many : ℕ) → TellsLine row ranged
    → Tells (each row ranged many)
each_tells row ranged many t = record {
  unique = unique_each row ranged many t.one;
  some = some_each ranged t.some.0 t.some.1 many;
  plain = λ vs. lack_map row vs t.plain;
}

pub counted_tells : {V : Type 0} (key : Key) (low high : ℕ) (row : V → Row) (ranged : V → Type 0) → low ≤ high
    → high < greatest → TellsLine row ranged → Tells (counteds (key_text key) low high row ranged)
unfolding same_counted
counted_tells key low high row ranged l h t =
    same_tells (counted_parts (key_text key) low high row ranged) (counteds (key_text key) low high row ranged)
    (same_counted (key_text key) low high row ranged) (λ vs r. refl) (λ vs. refl)
    (led_tells (numbers (key_text key) low high) (each row ranged) (number_ready key low high l h).tells
    (λ n r. each_tells row ranged n t) (λ n vs. lack_map row vs t.plain))

-- so many values, and what reading them asks for
abbrev pub counted_ready : {V : Type 0} (key : Key) (low high : ℕ) (row : V → Row) (ranged : V → Type 0) (can : Type 0)
    → low ≤ high → high < greatest → can → TellsLine row ranged → Ready (counteds (key_text key) low high row ranged)
counted_ready {V = V} key low high row ranged can l h is t = record {
  can = ((low ≤ high) × (high < greatest)) × (can × ((v : V) × ranged v));
  is = ((l, h), (is, t.some));
  tells = counted_tells key low high row ranged l h t;
}

counted_plain : {V : Type 0} (key : Key) (row : V → Row) (vs : List V) → ((v : V) → lacks 10 (row_text (row v)) ≡ true)
    → AllLack (texts (counted_rows (key_text key) row vs))
counted_plain key row vs p = (row_lacks (keyed (key_text key) (length vs)) (key_plain key), lack_map row vs p)

-- the numbers of models and of stations
abbrev pub sizes : Grammar (ℕ × ℕ)
sizes = then_ (numbers (codes "models") 1 16) (λ m. numbers (codes "stations") 1 64)

abbrev pub sizes_ready : Ready sizes
sizes_ready =
    both_ready (numbers (codes "models") 1 16) (numbers (codes "stations") 1 64)
    (number_ready keys.Models 1 16 (lit≤ tt) (lit< tt)) (number_ready keys.Stations 1 64 (lit≤ tt) (lit< tt))

-- the charges
unfoldable pub same_charges : (m : ℕ) → Same (one charges_row (IsChargesOf m)) (chargeds version.Two m)
same_charges m = record {
  to = λ c. Some c;
  from = listed_charges;
  to_ranged = λ c r. record { same = refl; within = r };
  from_ranged = λ c r. said c r.same r.within;
  to_rows = λ c r. refl;
  from_rows = λ c r. lines c r.same;
}
  where
    said : (c : Option (List ℕ)) → version_of c ≡ version.Two → AreChargesIf m c → IsChargesOf m (listed_charges c)
    said None e h = (cc)
    said (Some c) e h = h

    lines : (c : Option (List ℕ)) → version_of c ≡ version.Two → charges_row (listed_charges c) ∷ [] ≡ charges_rows c
    lines None e = (cc)
    lines (Some c) e = refl

-- a version has one way to say whether there are charges
pub charges_unique : (v : Version) (m : ℕ) → Unique (chargeds v m)
charges_unique version.One m None None a b x y e = (refl, e)
charges_unique version.One m None (Some d) a b x y e = let s : version.Two ≡ version.One = b.same in (cc)
charges_unique version.One m (Some c) d a b x y e = let s : version.Two ≡ version.One = a.same in (cc)
charges_unique version.Two m None d a b x y e = let s : version.One ≡ version.Two = a.same in (cc)
charges_unique version.Two m (Some c) None a b x y e = let s : version.One ≡ version.Two = b.same in (cc)
charges_unique version.Two m (Some c) (Some d) a b x y e =
    let u = unique_one charges_row (IsChargesOf m) (charges_tells m).one c d a.within b.within x y e in
    (ap (λ z. Some z) u.0, u.1)

pub some_chargeds : (v : Version) (m : ℕ) → (c : Option (List ℕ)) × AreChargesIn v m c
some_chargeds version.One m = (None, record { same = refl; within = tt })
some_chargeds version.Two m =
    let s = (charges_tells m).some in (Some s.0, record { same = refl; within = s.1 })

pub charges_plain : (c : Option (List ℕ)) → AllLack (texts (charges_rows c))
charges_plain None = tt
charges_plain (Some c) = (row_lacks (charges_row c) refl, tt)

abbrev charges_ready : (v : Version) (m : ℕ) → Ready (chargeds v m)
charges_ready v m = record {
  can = Unit {0};
  is = tt;
  tells = record { unique = charges_unique v m; some = some_chargeds v m; plain = charges_plain };
}

-- the bounds
abbrev bounds : Grammar (ℕ × ℕ)
bounds = then_ (numbers (codes "lower") 0 1000000000000000000) (λ l. numbers (codes "upper") 0 1000000000000000000)

abbrev bounds_ready : Ready bounds
bounds_ready =
    both_ready (numbers (codes "lower") 0 1000000000000000000) (numbers (codes "upper") 0 1000000000000000000)
    (number_ready keys.Lower 0 1000000000000000000 (lit≤ tt) (lit< tt))
    (number_ready keys.Upper 0 1000000000000000000 (lit≤ tt) (lit< tt))

-- the lists
abbrev units : ℕ → Grammar (List ℕ)
units m = counteds (codes "units") 1 1000 unit_row (λ u. u < m)

abbrev entries : Version → ℕ → ℕ → Grammar (List SeqEntry)
entries v m n = counteds (codes "entries") 0 2000000 entry_row (IsEntry m n (mark_of v))

abbrev frames : ℕ → ℕ → Grammar (List SeqFrame)
frames m n = counteds (codes "trail") 0 1001 frame_row (IsFrame m n)

abbrev frames_end : ℕ → ℕ → Grammar (List SeqFrame × Unit {0})
frames_end m n = then_ (frames m n) (λ f. end_grammar)

abbrev behind_units : Version → ℕ → ℕ → Grammar (List SeqEntry × (List SeqFrame × Unit {0}))
behind_units v m n = then_ (entries v m n) (λ e. frames_end m n)

-- a sequence, entries and frames
abbrev Lists : Type 0
Lists = List ℕ × (List SeqEntry × (List SeqFrame × Unit {0}))

abbrev lists : Version → ℕ → ℕ → Grammar Lists
lists v m n = then_ (units m) (λ u. behind_units v m n)

abbrev list_ready : (v : Version) (m n : ℕ) → AreModels m → Ready (lists v m n)
list_ready v m n h =
    both_ready (units m) (behind_units v m n)
    (counted_ready keys.Units 1 1000 unit_row (λ u. u < m) (AreModels m) (lit≤ tt) (lit< tt) h (unit_tells m h))
    (both_ready (entries v m n) (frames_end m n)
    (counted_ready keys.Entries 0 2000000 entry_row (IsEntry m n (mark_of v)) (Unit {0}) (lit≤ tt) (lit< tt) tt
    (entry_tells v m n))
    (both_ready (frames m n) end_grammar
    (counted_ready keys.Trail 0 1001 frame_row (IsFrame m n) (AreModels m) (lit≤ tt) (lit< tt) h (frame_tells m n h))
    end_ready))

-- what stands behind the numbers of models and of stations
abbrev Behind : Type 0
Behind = Option (List ℕ) × ((ℕ × ℕ) × Lists)

abbrev behind_charges : Version → ℕ → ℕ → Grammar ((ℕ × ℕ) × Lists)
behind_charges v m n = then_ bounds (λ b. lists v m n)

abbrev pub behind : Version → ℕ × ℕ → Grammar Behind
behind v s = then_ (chargeds v s.0) (λ c. behind_charges v s.0 s.1)

abbrev pub behind_ready : (v : Version) (m n : ℕ) → AreModels m → Ready (behind v (m, n))
behind_ready v m n h =
    both_ready (chargeds v m) (behind_charges v m n) (charges_ready v m)
    (both_ready bounds (lists v m n) bounds_ready (list_ready v m n h))

-- lines without an LF, whatever is said
list_plain : (v : Version) (m n : ℕ) (l : Lists) → AllLack (texts ((lists v m n).rows l))
list_plain v m n l =
    lack_both ((units m).rows l.0) ((behind_units v m n).rows l.1)
    (counted_plain keys.Units unit_row l.0 (λ u. row_lacks (unit_row u) tt))
    (lack_both ((entries v m n).rows l.1.0) ((frames_end m n).rows l.1.1)
    (counted_plain keys.Entries entry_row l.1.0 entry_plain)
    (lack_both ((frames m n).rows l.1.1.0) (end_grammar.rows l.1.1.1)
    (counted_plain keys.Trail frame_row l.1.1.0 (λ f. row_lacks (frame_row f) tt)) (end_tells.plain l.1.1.1, tt)))

behind_plain : (v : Version) (s : ℕ × ℕ) (b : Behind) → AllLack (texts ((behind v s).rows b))
behind_plain v s b =
    lack_both (charges_rows b.0) ((behind_charges v s.0 s.1).rows b.1) (charges_plain b.0)
    (lack_both (bounds.rows b.1.0) ((lists v s.0 s.1).rows b.1.1) (bounds_ready.tells.plain b.1.0)
    (list_plain v s.0 s.1 b.1.1))

pub behind_tells : (v : Version) (s : ℕ × ℕ) → sizes.ranged s → Tells (behind v s)
behind_tells v s r = (behind_ready v s.0 s.1 (record { some = r.0.0; few = r.0.1 })).tells

abbrev pub body_parts : Version → Grammar ((ℕ × ℕ) × Behind)
body_parts v = then_ sizes (behind v)

-- of each element, and of each place
pub all_of : {V : Type 0} (P : V → Type 0) (vs : List V) → ((k : ℕ) (v : V) → slice_get vs k ≡ Some v → P v) → All P vs
all_of P vs h k d l = h k (get_or vs k d) (slice_get-get_or vs k d l)

pub each_of : {V : Type 0} (P : V → Type 0) (vs : List V) → All P vs → (k : ℕ) (v : V) → slice_get vs k ≡ Some v → P v
each_of P [] h k v e = absurd (none-some v e)
each_of {V = V} P (x ∷ vs) h zero v e = let Q : V → Type 0 = P in subst Q (same_Some x v e) (h 0 x (omega arith))
each_of P (x ∷ vs) h (suc k) v e = each_of P vs (λ j d l. h (suc j) d (omega (arith, l))) k v e

-- charges of a version are there exactly where the version has them
pub marked : (v : Version) (c : Option (List ℕ)) → version_of c ≡ v → HasCharges (mark_of v) → HasCharges c
marked version.One c e h = absurd h
marked version.Two None e h = (cc)
marked version.Two (Some c) e h = tt

pub unmarked : (v : Version) (c : Option (List ℕ)) → version_of c ≡ v → HasCharges c → HasCharges (mark_of v)
unmarked v None e h = absurd h
unmarked version.One (Some c) e h = (cc)
unmarked version.Two (Some c) e h = tt

unfoldable pub same_bodies : (v : Version) → Same (body_parts v) (bodies v)
same_bodies v = record {
  to = λ x. record {
    models = x.0.0;
    stations = x.0.1;
    charges = x.1.0;
    lower = x.1.1.0.0;
    upper = x.1.1.0.1;
    sequence = x.1.1.1.0;
    entries = x.1.1.1.1.0;
    frames = x.1.1.1.1.1.0;
  };
  from = λ c. (
    (c.models, c.stations),
    (c.charges, ((c.lower, c.upper), (c.sequence, (c.entries, (c.frames, tt))))),
  );
  to_ranged = λ x r. record {
    in_range = record {
      modeled = r.0.0.0;
      models = r.0.0.1;
      some = r.0.1.0;
      stations = r.0.1.1;
      charges = r.1.0.within;
      lower = r.1.1.0.0.1;
      upper = r.1.1.0.1.1;
      launched = r.1.1.1.0.least;
      units = r.1.1.1.0.most;
      each = all_of (λ u. u < x.0.0) x.1.1.1.0 r.1.1.1.0.each;
      many = r.1.1.1.1.0.most;
      entries = λ k e i. entry_as x.0.0 x.0.1 (mark_of v) x.1.0 e (marked v x.1.0 r.1.0.same)
          (r.1.1.1.1.0.each k e i);
      few = r.1.1.1.1.1.0.most;
      frames = r.1.1.1.1.1.0.each;
    };
    same = r.1.0.same;
  };
  from_ranged = λ c x.
      let r = x.in_range in (
        ((r.modeled, r.models), (r.some, r.stations)),
        (
          record { same = x.same; within = r.charges },
          (
            ((omega arith, r.lower), (omega arith, r.upper)),
            (
              record { least = r.launched; most = r.units; each = each_of (λ u. u < c.models) c.sequence r.each },
              (
                record {
                  least = omega arith;
                  most = r.many;
                  each = λ k e i. entry_as c.models c.stations c.charges (mark_of v) e (unmarked v c.charges x.same)
                      (r.entries k e i);
                },
                (record { least = omega arith; most = r.few; each = r.frames }, tt),
              ),
            ),
          ),
        ),
      );
  to_rows = λ x r. refl;
  from_rows = λ c r. refl;
}

-- both parts of what stands behind the first line
abbrev pub body : (v : Version) → TwoParts sizes (behind v) (bodies v)
body v = parted sizes_ready.tells (behind_tells v) (same_bodies v)

pub bodies_tell : (v : Version) → Tells (bodies v)
unfolding same_bodies
bodies_tell v = same_tells (body_parts v) (bodies v) (same_bodies v) (λ c r. refl) (λ c. refl)
    (led_tells sizes (behind v) sizes_ready.tells (behind_tells v) (λ s b. behind_plain v s b))

body_plain : (v : Version) (cert : SeqCert) → AllLack (texts (body_rows cert))
body_plain v cert = (bodies_tell v).plain cert

-- the first line, which tells the version
abbrev pub versions : Grammar Version
versions = one version_row (λ v. Unit {0})

line_plain : (v : Version) → lacks 10 (row_text (version_row v)) ≡ true
line_plain version.One = row_lacks (version_row version.One) refl
line_plain version.Two = row_lacks (version_row version.Two) refl

pub version_tells : TellsLine version_row (λ v. Unit {0})
version_tells = record { one = λ v w a b e. version_one v w e; some = (version.One, tt); plain = line_plain }

abbrev pub text_parts : Grammar (Version × SeqCert)
text_parts = then_ versions bodies

pub first_marked : (c : Option (List ℕ)) (v : Version) → version_of c ≡ v → first_line c ≡ version_line v
first_marked None version.One e = refl
first_marked None version.Two e = (cc)
first_marked (Some c) version.One e = (cc)
first_marked (Some c) version.Two e = refl

unfoldable pub same_texts : Same text_parts sequences
unfolding sequence_rows
same_texts = record {
  to = λ x. x.1;
  from = λ c. (version_of c.charges, c);
  to_ranged = λ x r. r.1.in_range;
  from_ranged = λ c r. (tt, record { in_range = r; same = refl });
  to_rows = λ x r. ap (λ t. fixed t ∷ body_rows x.1) (first_marked x.1.charges x.0 r.1.same);
  from_rows = λ c r. ap (λ t. fixed t ∷ body_rows c) (sym (first_marked c.charges (version_of c.charges) refl));
}

-- the first line, and what stands behind it
abbrev pub text : TwoParts versions bodies sequences
text = parted (one_tells version_row (λ v. Unit {0}) version_tells) (λ v r. bodies_tell v) same_texts

-- the lines of a certificate as they are told apart
pub sequences_tell : Tells sequences
unfolding same_texts
sequences_tell = same_tells text_parts sequences same_texts (λ c r. refl)
    (λ c. ap (λ t. fixed t ∷ body_rows c) (sym (first_marked c.charges (version_of c.charges) refl)))
    (led_tells versions bodies (one_tells version_row (λ v. Unit {0}) version_tells) (λ v r. bodies_tell v)
    (λ v c. body_plain v c))

-- no text of a certificate begins that of another
pub begins_none : NoSequenceTextBeginsAnother
begins_none = none_begins sequences sequences_tell
