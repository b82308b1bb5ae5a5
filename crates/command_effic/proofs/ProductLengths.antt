-- How long the text of a certificate of a product is: the check reads files of its length.
use Rattle.std.proofs.Common.{ℕ, ◌+◌, ◌*◌, ◌≤◌, List, [], ◌∷◌, ◌++◌, length, refl, map, take, nat_eq}
use Rattle.std.proofs.Common.{arith, length-append, Option, Some, None}
use Rattle.std.specs.Prelude.{codes}
use Rattle.line_instance.specs.Line.{Line}
use Rattle.line_rules.specs.Balance.{all_tasks}
use Rattle.line_rules.specs.Products.{IsProduct, IsSayable}
use Rattle.line_rules.specs.Ranges.{IsTrailOrNone}
use Rattle.line_rules.specs.Units.{UnitsWhole, TrailUnits}
use Rattle.line_rules.specs.declared.types.LineKind.{LineKind}
use Rattle.line_rules.specs.declared.types.Trail.{Trail}
use Rattle.line_rules.specs.declared.products.EfficCert.{EfficCert}
use Rattle.cert_lines.specs.Numbers.{number_text}
use Rattle.cert_lines.specs.Rows.{Row, row_text, line_text, rows_text, fixed, keyed, span, trail}
use Rattle.cert_lines.specs.ValueRows.{kind_row, seat_row, entry_row, frame_row}
use Rattle.cert_text.specs.Cert.{list_rows, trail_rows}
use Rattle.effic_cert.specs.Product.{product_rows, product_text, asked_rows, bound_rows, balance_rows}
use Rattle.effic_cert.specs.Product.{version_line, least_version}
use Rattle.effic_cert.specs.declared.version.Version.{Version}
use Rattle.effic_cert.specs.declared.version.Version.TheVariants as version
use Rattle.effic_check.specs.Accepted.{IsAccepted, HasTrail}
use Rattle.effic_search.specs.rounds.declared.plans.Plan.{Plan}
use Rattle.effic_search.specs.Counted.{ArePaid}
use Rattle.effic_search.specs.Outcomes.{IsCertified, StoppedBy}
use Rattle.effic_search.specs.declared.searching.Ended.{Ended}
use Rattle.effic_search.specs.declared.searching.Ended.TheVariants as ended
use Rattle.input_files.specs.InputFile.{max_certificate}
use Rattle.solution_page.specs.CertificateSize.{most_bytes}
use Rattle.solution_page.proofs.EntryLengths.{entries_length, frames_length, trail_paid}
use Rattle.solution_page.proofs.TextLengths.{few_added, fixed_length, keyed_length, kind_length, seats_length}
use Rattle.solution_page.proofs.TextLengths.{no_trail, trail_head}
use Rattle.solution_page.proofs.WordLengths.{cite_length, count_length, cycle_length, digits_few, line_length}
use Rattle.solution_page.proofs.WordLengths.{lines_length}

-- a product, and a line of a range of stations
product_length : (v : ℕ) → IsProduct v → length (number_text v) ≤ 25
product_length v h = digits_few 24 v (omega (arith, h.limit))

span_length : (v w : ℕ) → v ≤ 1024 → w ≤ 1024 → length (line_text (span (codes "stations") v w)) ≤ 40
unfolding row_text
span_length v w a b = omega (
  arith,
  line_length (span (codes "stations") v w) (codes "stations") (number_text v ∷ number_text w ∷ []) refl,
  count_length v a,
  count_length w b,
)

version_length : (v : Version) → length (line_text (fixed (version_line v))) ≤ 40
version_length version.One = omega (arith, fixed_length (codes "line balance product 1"))
version_length version.Two = omega (arith, fixed_length (codes "line balance product 2"))

module _ (cert : EfficCert) (said : IsSayable cert) where
  -- the lines up to the numbers of stations that are asked for
  head_length : (v : Version) (rs : List Row)
      → length (rows_text (fixed (version_line v) ∷ (asked_rows cert ++ rs))) ≤ 160 + length (rows_text rs)
  head_length v rs =
      let tasks : Row = keyed (codes "tasks") cert.tasks in
      let asked : Row = span (codes "stations") cert.least_m cert.most_m in
      omega (
        arith,
        version_length v,
        kind_length cert.kind,
        keyed_length (codes "tasks") cert.tasks,
        count_length cert.tasks said.few,
        span_length cert.least_m cert.most_m said.least.few said.most.few,
        length-append (line_text (fixed (version_line v))) (rows_text (asked_rows cert ++ rs)),
        length-append (line_text (kind_row cert.kind)) (rows_text (tasks ∷ asked ∷ rs)),
        length-append (line_text tasks) (rows_text (asked ∷ rs)),
        length-append (line_text asked) (rows_text rs),
      )

  -- the lines of the cycle and of the bounds
  bounds_length : length (rows_text (bound_rows cert)) ≤ 100
  bounds_length =
      let lower : Row = keyed (codes "lower") cert.lower in
      let upper : Row = keyed (codes "upper") cert.upper in
      omega (
        arith,
        keyed_length (codes "cycle") cert.cycle,
        cycle_length cert.cycle said.cycle,
        keyed_length (codes "lower") cert.lower,
        product_length cert.lower said.lower,
        keyed_length (codes "upper") cert.upper,
        product_length cert.upper said.upper,
        length-append (line_text (keyed (codes "cycle") cert.cycle)) (rows_text (lower ∷ upper ∷ [])),
        length-append (line_text lower) (rows_text (upper ∷ [])),
        length-append (line_text upper) [],
      )

  -- the lines of the balance
  balance_length : length (rows_text (balance_rows cert)) ≤ 7200
  balance_length = omega (
    arith,
    keyed_length (codes "balance") cert.balance.stations,
    count_length cert.balance.stations said.balance.few,
    seats_length cert.kind cert.balance.stations cert.balance.place said.balance.few said.balance.placed,
    said.balance.each,
    said.few,
    length-append (line_text (keyed (codes "balance") cert.balance.stations))
        (rows_text (map (seat_row cert.kind) cert.balance.place)),
  )

  module _ (line : Line) where
    -- the lines of a trail, or of none
    trail_length : (left : Option Trail) (units : ℕ) → IsTrailOrNone cert.tasks (length cert.entries) left
        → HasTrail cert.kind line cert left → TrailUnits line left units
        → length (rows_text (trail_rows cert.tasks left)) ≤ 900000 + 9 * units
    trail_length None units are has u = omega (arith, no_trail, length-append (line_text (trail None)) [])
    trail_length (Some t) units are has u = omega (
      arith,
      trail_head t are.few are.cycle,
      are.few,
      frames_length cert.tasks (length cert.entries) said.few said.entries.many cert.kind line t.cycle t.frames units
          are.each (trail_paid cert.tasks (length cert.entries) said.few said.entries.many cert.kind line t.cycle
          cert.entries (all_tasks line) has.0 t.frames has.2) u,
      length-append (line_text (trail (Some (length t.frames, t.cycle))))
          (rows_text (map (frame_row cert.tasks) t.frames)),
    )

    -- the lines of the entries and of the trail
    lists_length : (units : ℕ) → IsAccepted line cert units
        → length (rows_text (list_rows cert.tasks cert.entries cert.trail))
        ≤ 545 * length cert.entries + 9 * units + 900100
    lists_length units accepted =
        let u : UnitsWhole line cert.entries cert.trail units = accepted.spent in
        let entries : List Row = map (entry_row cert.tasks) cert.entries in
        let rest : List Row = trail_rows cert.tasks cert.trail in
        omega (
          arith,
          keyed_length (codes "entries") (length cert.entries),
          cite_length (length cert.entries) said.entries.many,
          entries_length cert.tasks (length cert.entries) said.few said.entries.many cert.kind line cert.entries u.0
              said.entries.each (λ k e g. (take k cert.entries, accepted.derived k e g)) u.2.0,
          trail_length cert.trail u.1 said.trail accepted.trail u.2.1,
          u.2.2,
          lines_length entries rest,
          length-append (line_text (keyed (codes "entries") (length cert.entries))) (rows_text (entries ++ rest)),
        )

    -- a certificate that is accepted
    product_length_of : (units : ℕ) → IsAccepted line cert units
        → length (product_text cert) ≤ most_bytes (length cert.entries) units
    unfolding product_rows
    product_length_of units accepted =
        let lists : List Row = list_rows cert.tasks cert.entries cert.trail in
        let last : List Row = fixed (codes "end") ∷ [] in
        omega (
          arith,
          head_length (least_version cert.entries) (bound_rows cert ++ (balance_rows cert ++ (lists ++ last))),
          bounds_length,
          balance_length,
          lists_length units accepted,
          fixed_length (codes "end"),
          lines_length (bound_rows cert) (balance_rows cert ++ (lists ++ last)),
          lines_length (balance_rows cert) (lists ++ last),
          lines_length lists last,
          length-append (line_text (fixed (codes "end"))) [],
        )

-- The check reads files of the length of a certificate of a search with at most 1,000,000 units a try.
pub product_fits : (kind : LineKind) (line : Line) (least most : ℕ) (plan : Plan) (cert : EfficCert)
    → IsCertified kind line least most cert → ArePaid line plan cert.entries → plan.units ≤ 1000000
    → length (product_text cert) ≤ max_certificate
product_fits kind line least most plan cert certified paid few = omega (
  arith,
  product_length_of cert certified.sayable line certified.units certified.accepted,
  paid.many,
  certified.few,
  few_added (nat_eq plan.seek 0) plan.units few,
)

-- the same where it stopped
pub stop_fits : (why : Ended) (kind : LineKind) (line : Line) (least most : ℕ) (plan : Plan) (cert : EfficCert)
    (closing_from kept : ℕ) → StoppedBy why kind line least most plan cert closing_from kept → plan.units ≤ 1000000
    → length (product_text cert) ≤ max_certificate
stop_fits ended.Units kind line least most plan cert closing_from kept s few =
    product_fits kind line least most plan cert s.certified s.paid few
stop_fits ended.Size kind line least most plan cert closing_from kept s few =
    product_fits kind line least most plan cert s.certified s.paid few
