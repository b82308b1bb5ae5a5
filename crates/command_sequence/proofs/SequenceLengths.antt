-- How long the text of a certificate of a sequence is: no line has more than 1,960 bytes. Each number has at most 19
-- digits, and a cite goes with a model.
use Rattle.std.proofs.Common.{◌≡◌, ℕ, zero, suc, ◌+◌, ◌*◌, ◌≤◌, Bool, true, false, cond, List, [], ◌∷◌, ◌++◌, length}
use Rattle.std.proofs.Common.{map, take, refl, arith, length-append, Option, Some, None}
use Rattle.std.specs.Prelude.{slice_get, codes, All}
use Rattle.std.specs.List.{flat_map}
use Rattle.std.proofs.lemmas.Option.{slice_get_within, get_or_from_slice_get}
use Rattle.cert_lines.specs.Numbers.{number_text, cites_text}
use Rattle.cert_lines.specs.Rows.{Row, row_text, line_text, rows_text, number_or_none, fixed, keyed}
use Rattle.sequence_values.specs.declared.types.Times.{Times}
use Rattle.sequence_values.specs.declared.types.SeqEntry.{SeqEntry}
use Rattle.sequence_values.specs.declared.types.SeqFrame.{SeqFrame}
use Rattle.sequence_values.specs.declared.types.SeqWhy.{SeqWhy}
use Rattle.sequence_values.specs.declared.types.SeqWhy.TheVariants as why
use Rattle.sequence_values.specs.declared.types.SeqCert.{SeqCert}
use Rattle.sequence_rules.specs.Accepted.{IsAccepted}
use Rattle.sequence_rules.specs.Charges.{listed_charges}
use Rattle.sequence_rules.specs.Entries.{FollowsBy, is_light, needs_cite, passing}
use Rattle.sequence_rules.specs.Ranges.{AreChargesIf, IsFrame, IsInRange, IsLast, IsNumber, IsState, IsWhy, numbers_by}
use Rattle.sequence_rules.specs.Trails.{IsRightAt, is_deepest, matched_to}
use Rattle.sequence_cert.specs.SequenceText.{sequence_text, sequence_rows, first_line, size_rows, charges_row}
use Rattle.sequence_cert.specs.SequenceText.{charges_rows, bound_rows, unit_row, row_by, entry_row, counted, frame_row}
use Rattle.sequence_cert.specs.SequenceText.{counted_rows, unit_rows, entry_rows, frame_rows, list_rows}
use Rattle.mix_files.specs.inputs.InputFile.{max_certificate}
use Rattle.command_sequence.proofs.WordLengths.{digits_few, line_length, lines_length}

-- the most bytes of a line
abbrev longest_line : ℕ
longest_line = 1960

-- a number within the ranges has at most 19 digits
number_length : (n : ℕ) → IsNumber n → length (number_text n) ≤ 19
number_length n h = digits_few 18 n (omega (arith, h))

-- one of a model has at most 4
model_length : (n : ℕ) → n ≤ 16 → length (number_text n) ≤ 4
model_length n h = digits_few 3 n (omega (arith, h))

-- numbers that are joined, each of them at most so much
further_length : (most : ℕ) (ns : List ℕ) → IsNumber most → All (λ n. n ≤ most) ns
    → length (flat_map (λ d. 44 ∷ number_text d) ns) ≤ 20 * length ns
further_length most [] few are = omega arith
further_length most (n ∷ ns) few are =
    let here : n ≤ most = are 0 n (omega arith) in
    omega (
      arith,
      number_length n (omega (arith, here, few)),
      further_length most ns few (λ k d l. are (suc k) d (omega (arith, l))),
      length-append (44 ∷ number_text n) (flat_map (λ d. 44 ∷ number_text d) ns),
    )

joined_length : (most : ℕ) (ns : List ℕ) → IsNumber most → All (λ n. n ≤ most) ns
    → length (cites_text ns) ≤ 20 * length ns + 1
joined_length most [] few are = omega arith
joined_length most (n ∷ ns) few are = omega (
  arith,
  further_length most (n ∷ ns) few are,
  length-append (44 ∷ number_text n) (flat_map (λ d. 44 ∷ number_text d) ns),
  length-append (number_text n) (flat_map (λ d. 44 ∷ number_text d) ns),
)

-- of n numbers at most n pass a test
one_or_none : (b : Bool) (n : ℕ) → length (cond b (n ∷ []) []) ≤ 1
one_or_none true n = omega arith
one_or_none false n = omega arith

passing_few : (test : ℕ → Bool) (n : ℕ) → length (passing test n) ≤ n
passing_few test zero = omega arith
passing_few test (suc n) = omega (
  arith,
  passing_few test n,
  one_or_none (test n) n,
  length-append (passing test n) (cond (test n) (n ∷ []) []),
)

-- a line of a word and a number, and one of a word alone
keyed_length : (key : List ℕ) (v : ℕ) → IsNumber v → length (line_text (keyed key v)) ≤ length key + 21
unfolding row_text
keyed_length key v h =
    omega (arith, line_length (keyed key v) key (number_text v ∷ []) refl, number_length v h)

fixed_length : (t : List ℕ) → length (line_text (fixed t)) ≡ suc (length t)
unfolding row_text
fixed_length t = omega (arith, length-append t (10 ∷ []))

-- lines of values, of which none has more than 1,960 bytes
each_length : {V : Type 0} (row : V → Row) (vs : List V)
    → ((k : ℕ) (v : V) → slice_get vs k ≡ Some v → length (line_text (row v)) ≤ longest_line)
    → length (rows_text (map row vs)) ≤ longest_line * length vs
each_length row [] short = omega arith
each_length row (v ∷ vs) short = omega (
  arith,
  short 0 v refl,
  each_length row vs (λ k x g. short (suc k) x g),
  length-append (line_text (row v)) (rows_text (map row vs)),
)

-- the same, behind their number
counted_length : {V : Type 0} (key : List ℕ) (row : V → Row) (vs : List V) → IsNumber (length vs)
    → ((k : ℕ) (v : V) → slice_get vs k ≡ Some v → length (line_text (row v)) ≤ longest_line)
    → length (rows_text (counted_rows key row vs)) ≤ longest_line * length vs + (length key + 21)
counted_length key row vs few short = omega (
  arith,
  keyed_length key (length vs) few,
  each_length row vs short,
  length-append (line_text (keyed key (length vs))) (rows_text (map row vs)),
)

module _ (models stations : ℕ) (modeled : models ≤ 16) (wide : stations ≤ 64) where
  -- the line of a unit
  unit_length : (m : ℕ) → suc m ≤ models → length (line_text (unit_row m)) ≤ longest_line
  unfolding row_text
  unit_length m h = omega (
    arith,
    line_length (unit_row m) (number_text (suc m)) [] refl,
    model_length (suc m) (omega (arith, h, modeled)),
  )

  -- the line of the charges, where there are some
  charges_length : (o : Option (List ℕ)) → AreChargesIf models o → length (rows_text (charges_rows o)) ≤ 330
  unfolding row_text
  charges_length None h = omega arith
  charges_length (Some charges) h = omega (
    arith,
    line_length (charges_row charges) (codes "charges") (cites_text charges ∷ []) refl,
    joined_length 100000000000000 charges (omega arith) h.limit,
    h.each,
    modeled,
    length-append (line_text (charges_row charges)) [],
  )

  charges_few : (o : Option (List ℕ)) → AreChargesIf models o → length (listed_charges o) ≤ 16
  charges_few None h = omega arith
  charges_few (Some charges) h = omega (arith, h.each, modeled)

  -- the words of a state
  state_length : (numbers : ℕ) (rem starts : List ℕ) → numbers ≤ 16 → IsState numbers stations rem starts
      → length (cites_text rem) + length (cites_text starts) ≤ 1602
  state_length numbers rem starts few s = omega (
    arith,
    joined_length 1000 rem (omega arith) s.units,
    joined_length 1000000000 starts (omega arith) s.begun,
    s.each,
    s.wide,
    few,
    wide,
  )

  -- at most 16 cites
  cites_length : (cites : List ℕ) → All IsNumber cites → length cites ≤ 16 → length (cites_text cites) ≤ 321
  cites_length cites are few = omega (arith, joined_length 1000000000000000000 cites (omega arith) are, few)

  -- the word of a last model, and how many steps are matched with cites
  last_length : (last : Option ℕ) → IsLast models last → length (number_or_none (counted last)) ≤ 4
  last_length None h = omega arith
  last_length (Some model) h = model_length (suc model) (omega (arith, h, modeled))

  matched_few : (deepest : Bool) (last : Option ℕ) → IsLast models last → matched_to deepest last ≤ 16
  matched_few true None h = omega arith
  matched_few false None h = omega arith
  matched_few true (Some model) h = omega (arith, h, modeled)
  matched_few false (Some model) h = omega (arith, h, modeled)

  module _ (t : Times) (interval reach : ℕ) (o : Option (List ℕ)) (es : List SeqEntry) where
    -- an entry has at most as many cites as models
    why_length : (e : SeqEntry) (w : SeqWhy) → AreChargesIf models o
        → IsState (numbers_by models w) stations e.rem e.starts → IsNumber e.least → IsWhy o w
        → FollowsBy t interval reach (listed_charges o) es e w → length (line_text (row_by e w)) ≤ longest_line
    unfolding row_text
    why_length e why.Bound charged s least h f = omega (
      arith,
      line_length (row_by e why.Bound) (codes "bound")
          (cites_text e.rem ∷ cites_text e.starts ∷ number_text e.least ∷ []) refl,
      state_length models e.rem e.starts modeled s,
      number_length e.least least,
    )
    why_length e (why.Branch cites) charged s least h f =
        let few : length cites ≤ length e.rem = omega (
          arith,
          f.covers.as_many,
          passing_few (needs_cite t interval reach e.rem e.starts e.least) (length e.rem),
        ) in
        omega (
          arith,
          line_length (row_by e (why.Branch cites)) (codes "branch")
              (cites_text e.rem ∷ cites_text e.starts ∷ number_text e.least ∷ cites_text cites ∷ []) refl,
          state_length models e.rem e.starts modeled s,
          number_length e.least least,
          cites_length cites h (omega (arith, few, s.each, modeled)),
        )
    why_length e (why.Charge cites) charged s least h f =
        let few : length cites ≤ length (listed_charges o) = omega (
          arith,
          f.as_many,
          passing_few (is_light t reach (listed_charges o) e.starts e.least) (length (listed_charges o)),
        ) in
        omega (
          arith,
          line_length (row_by e (why.Charge cites)) (codes "charge")
              (cites_text e.rem ∷ cites_text e.starts ∷ number_text e.least ∷ cites_text cites ∷ []) refl,
          state_length 1 e.rem e.starts (omega arith) s,
          number_length e.least least,
          cites_length cites h.1 (omega (arith, few, charges_few o charged)),
        )

    -- a frame has at most as many cites as there are models up to its last one
    frame_length : (fs : List SeqFrame) (j : ℕ) (f : SeqFrame) → IsFrame models stations f
        → IsRightAt t interval reach (listed_charges o) es fs j f → length (line_text (frame_row f)) ≤ longest_line
    unfolding row_text
    frame_length fs j f r right =
        let matched : ℕ = matched_to (is_deepest fs j) f.last in
        let few : length f.cites ≤ matched = omega (
          arith,
          right.covers.as_many,
          passing_few (needs_cite t interval reach f.rem f.starts f.need) matched,
        ) in
        omega (
          arith,
          line_length (frame_row f) (codes "open")
              (cites_text f.rem ∷ cites_text f.starts ∷ number_text f.need ∷ number_or_none (counted f.last)
              ∷ cites_text f.cites ∷ []) refl,
          state_length models f.rem f.starts modeled r.state,
          number_length f.need r.need,
          last_length f.last r.last,
          cites_length f.cites r.cites (omega (arith, few, matched_few (is_deepest fs j) f.last r.last)),
        )

-- the first line
first_length : (o : Option (List ℕ)) → length (line_text (fixed (first_line o))) ≤ 40
first_length None = omega (arith, fixed_length (codes "utility sequence certificate 1"))
first_length (Some charges) = omega (arith, fixed_length (codes "utility sequence certificate 2"))

-- two lines, each of a word and a number
two_length : (a b : List ℕ) (v w : ℕ) → IsNumber v → IsNumber w
    → length (rows_text (keyed a v ∷ keyed b w ∷ [])) ≤ length a + length b + 42
two_length a b v w h k = omega (
  arith,
  keyed_length a v h,
  keyed_length b w k,
  length-append (line_text (keyed a v)) (rows_text (keyed b w ∷ [])),
  length-append (line_text (keyed b w)) [],
)

-- A certificate that is within its ranges and accepted: at most 1,960 bytes for each unit, entry and frame, and 1,000
-- for all other lines.
text_length : (t : Times) (interval reach : ℕ) (cert : SeqCert) → IsInRange cert
    → IsAccepted t interval reach cert → length (sequence_text cert)
    ≤ longest_line * (length cert.sequence + length cert.entries + length cert.frames) + 1000
unfolding sequence_rows
text_length t interval reach cert r a =
    let last : List Row = fixed (codes "end") ∷ [] in
    let lists : List Row = list_rows cert.sequence cert.entries cert.frames in
    let bounds : List Row = bound_rows cert.lower cert.upper in
    let charges : List Row = charges_rows cert.charges in
    let sizes : List Row = size_rows cert.models cert.stations in
    omega (
      arith,
      first_length cert.charges,
      two_length (codes "models") (codes "stations") cert.models cert.stations (omega (arith, r.models))
          (omega (arith, r.stations)),
      charges_length cert.models cert.stations r.models r.stations cert.charges r.charges,
      two_length (codes "lower") (codes "upper") cert.lower cert.upper r.lower r.upper,
      counted_length (codes "units") unit_row cert.sequence (omega (arith, r.units)) (λ k m g.
          unit_length cert.models cert.stations r.models r.stations m (omega (
            arith,
            r.each k m (slice_get_within cert.sequence k m g),
            get_or_from_slice_get cert.sequence k m m g,
          ))),
      counted_length (codes "entries") entry_row cert.entries (omega (arith, r.many)) (λ k e g.
          let own = r.entries k e g in
          why_length cert.models cert.stations r.models r.stations t interval reach cert.charges (take k cert.entries) e
          e.why r.charges own.state own.least own.why (a.derived k e g)),
      counted_length (codes "trail") frame_row cert.frames (omega (arith, r.few)) (λ j f g.
          frame_length cert.models cert.stations r.models r.stations t interval reach cert.charges cert.entries
          cert.frames j f (r.frames j f g) (a.trail.right j f g)),
      fixed_length (codes "end"),
      length-append (line_text (fixed (first_line cert.charges)))
          (rows_text (sizes ++ (charges ++ (bounds ++ lists)))),
      lines_length sizes (charges ++ (bounds ++ lists)),
      lines_length charges (bounds ++ lists),
      lines_length bounds lists,
      lines_length (unit_rows cert.sequence) (entry_rows cert.entries ++ (frame_rows cert.frames ++ last)),
      lines_length (entry_rows cert.entries) (frame_rows cert.frames ++ last),
      lines_length (frame_rows cert.frames) last,
      length-append (line_text (fixed (codes "end"))) [],
    )

-- The check reads files of this length.
pub text_fits : (t : Times) (interval reach : ℕ) (cert : SeqCert) → IsInRange cert
    → IsAccepted t interval reach cert → length (sequence_text cert) ≤ max_certificate
text_fits t interval reach cert r a =
    omega (arith, text_length t interval reach cert r a, r.units, r.many, r.few)
