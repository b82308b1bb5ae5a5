-- How long the text of a certificate is.
use Rattle.std.proofs.Common.{◌≡◌, ℕ, suc, ◌+◌, ◌-◌, ◌*◌, ◌≤◌, List, [], ◌∷◌, ◌++◌, length, refl, map, take}
use Rattle.std.proofs.Common.{arith, length-append, Option, Some, None, subst, ap, Bool, true, false, cond}
use Rattle.std.specs.Prelude.{slice_get, codes}
use Rattle.line_rules.specs.lines.Line.{Line}
use Rattle.line_rules.specs.Accepted.{IsAccepted, IsInfeasible, IsProof, ClaimIsAccepted, ClaimIsInfeasible, HasTrail}
use Rattle.line_rules.specs.Balance.{all_tasks}
use Rattle.line_rules.specs.Ranges.{IsInRange, IsClaim, AreBounds, IsAsked, IsTrailOrNone, IsPlaced, IsCycle}
use Rattle.line_rules.specs.Units.{UnitsWhole, TrailUnits}
use Rattle.line_rules.specs.declared.types.LineKind.{LineKind}
use Rattle.line_rules.specs.declared.types.LineKind.TheVariants.{Straight, U}
use Rattle.line_rules.specs.declared.types.Side.{Side}
use Rattle.line_rules.specs.declared.types.Side.TheVariants.{Front, Back}
use Rattle.line_rules.specs.declared.types.Seatplace.{Seatplace}
use Rattle.line_rules.specs.declared.types.Balance.{Balance as Assignment}
use Rattle.line_rules.specs.declared.types.Entry.{Entry}
use Rattle.line_rules.specs.declared.types.Trail.{Trail}
use Rattle.line_rules.specs.declared.types.Ask.{Ask}
use Rattle.line_rules.specs.declared.types.Ask.TheVariants as ask
use Rattle.line_rules.specs.declared.types.Claim.{Claim}
use Rattle.line_rules.specs.declared.types.Claim.TheVariants as claim
use Rattle.line_rules.specs.declared.types.Certificate.{Certificate}
use Rattle.cert_lines.specs.Numbers.{number_text}
use Rattle.cert_lines.specs.Rows.{Row, row_text, line_text, rows_text, fixed, keyed, seat, trail}
use Rattle.cert_lines.specs.ValueRows.{kind_row, ask_row, seat_row, entry_row, frame_row}
use Rattle.cert_lines.specs.LineForms.{version_row}
use Rattle.cert_lines.specs.declared.line_forms.Version.{Version}
use Rattle.cert_lines.specs.declared.line_forms.Version.TheVariants as version
use Rattle.cert_text.specs.Cert.{cert_text, cert_rows, head_rows, claim_rows, bounds_rows, list_rows, trail_rows}
use Rattle.cert_text.specs.Cert.{least_version}
use Rattle.solution_page.specs.CertificateSize.{most_bytes}
use Rattle.solution_page.proofs.EntryLengths.{entries_length, frames_length, trail_paid}
use Rattle.solution_page.proofs.WordLengths.{count_length, cycle_length, cite_length, line_length, lines_length}

-- what a try of at most 1,000,000 units may add, with a seek or without
pub few_added : (b : Bool) (units : ℕ) → units ≤ 1000000 → 2 * units + cond b 0 (2500000 - 2 * units) ≤ 2500000
few_added true units h = omega (arith, h)
few_added false units h = omega (arith, h)

-- lines of one word, and of a word and a number
pub fixed_length : (t : List ℕ) → length (line_text (fixed t)) ≡ suc (length t)
unfolding row_text
fixed_length t = omega (arith, length-append t (10 ∷ []))

pub keyed_length : (key : List ℕ) (v : ℕ) → length (line_text (keyed key v)) ≡ length key + length (number_text v) + 2
unfolding row_text
keyed_length key v = omega (arith, line_length (keyed key v) key (number_text v ∷ []) refl)

version_length : (v : Version) → length (line_text (version_row v)) ≤ 40
version_length version.One = omega (arith, fixed_length (codes "line balance certificate 1"))
version_length version.Two = omega (arith, fixed_length (codes "line balance certificate 2"))
version_length version.Three = omega (arith, fixed_length (codes "line balance certificate 3"))

pub kind_length : (kind : LineKind) → length (line_text (kind_row kind)) ≤ 40
kind_length Straight = omega (arith, fixed_length (codes "line straight"))
kind_length U = omega (arith, fixed_length (codes "line u"))

ask_length : (a : Ask) → IsAsked a → length (line_text (ask_row a)) ≤ 40
ask_length (ask.Stations cycle) h = omega (arith, keyed_length (codes "cycle") cycle, cycle_length cycle h)
ask_length (ask.Cycle stations) h = omega (arith, keyed_length (codes "stations") stations, count_length stations h.1)

-- the lines up to the question
head_length : (v : Version) (kind : LineKind) (n : ℕ) (a : Ask) (rs : List Row) → n ≤ 1024 → IsAsked a
    → length (rows_text (version_row v ∷ (head_rows kind n a ++ rs))) ≤ 160 + length (rows_text rs)
head_length v kind n a rs few asked = omega (
  arith,
  version_length v,
  kind_length kind,
  keyed_length (codes "tasks") n,
  count_length n few,
  ask_length a asked,
  length-append (line_text (version_row v)) (rows_text (head_rows kind n a ++ rs)),
  length-append (line_text (kind_row kind)) (rows_text (keyed (codes "tasks") n ∷ ask_row a ∷ rs)),
  length-append (line_text (keyed (codes "tasks") n)) (rows_text (ask_row a ∷ rs)),
  length-append (line_text (ask_row a)) (rows_text rs),
)

-- the places
seat_length : (kind : LineKind) (station : ℕ) (side : Side) → station ≤ 1024
    → length (line_text (seat kind station side)) ≤ 7
unfolding row_text
seat_length Straight station side h =
    omega (arith, line_length (seat Straight station side) (number_text station) [] refl, count_length station h)
seat_length U station Front h =
    omega (arith, line_length (seat U station Front) (number_text station) (codes "f" ∷ []) refl, count_length station h)
seat_length U station Back h =
    omega (arith, line_length (seat U station Back) (number_text station) (codes "b" ∷ []) refl, count_length station h)

pub seats_length : (kind : LineKind) (stations : ℕ) (ps : List Seatplace) → stations ≤ 1024
    → ((i : ℕ) (p : Seatplace) → slice_get ps i ≡ Some p → IsPlaced kind stations p)
    → length (rows_text (map (seat_row kind) ps)) ≤ 7 * length ps
seats_length kind stations [] few placed = omega arith
seats_length kind stations (p ∷ ps) few placed = omega (
  arith,
  seat_length kind p.station p.side (omega (arith, (placed 0 p refl).last, few)),
  seats_length kind stations ps few (λ i x e. placed (suc i) x e),
  length-append (line_text (seat_row kind p)) (rows_text (map (seat_row kind) ps)),
)

-- the bounds and the places
bounds_length : (kind : LineKind) (n lower upper : ℕ) (b : Assignment) (es : List Entry) (left : Option Trail) → n ≤ 1024
    → AreBounds kind n lower upper b es left → length (rows_text (bounds_rows kind lower upper b)) ≤ 8000
bounds_length kind n lower upper b es left few are =
    let seats : List Row = map (seat_row kind) b.place in
    omega (
      arith,
      keyed_length (codes "lower") lower,
      cycle_length lower are.from,
      keyed_length (codes "upper") upper,
      cycle_length upper are.up_to,
      keyed_length (codes "balance") b.stations,
      count_length b.stations are.balance.few,
      seats_length kind b.stations b.place are.balance.few are.balance.placed,
      are.balance.each,
      length-append (line_text (keyed (codes "lower") lower))
          (rows_text (keyed (codes "upper") upper ∷ keyed (codes "balance") b.stations ∷ seats)),
      length-append (line_text (keyed (codes "upper") upper)) (rows_text (keyed (codes "balance") b.stations ∷ seats)),
      length-append (line_text (keyed (codes "balance") b.stations)) (rows_text seats),
    )

-- the head of a trail
pub trail_head : (t : Trail) → length t.frames ≤ 1024 → IsCycle t.cycle
    → length (line_text (trail (Some (length t.frames, t.cycle)))) ≤ 40
unfolding row_text
trail_head t few cycle = omega (
  arith,
  line_length (trail (Some (length t.frames, t.cycle))) (codes "trail")
      (number_text (length t.frames) ∷ codes "at" ∷ number_text t.cycle ∷ []) refl,
  count_length (length t.frames) few,
  cycle_length t.cycle cycle,
)

pub no_trail : length (line_text (trail None)) ≤ 40
unfolding row_text
no_trail = omega (arith, line_length (trail None) (codes "trail") (codes "0" ∷ []) refl)

module _ (kind : LineKind) (line : Line) (n : ℕ) (few : n ≤ 1024) where
  -- a trail, or none
  trail_length : (a : Ask) (lower upper : ℕ) (es : List Entry) (left : Option Trail) (units : ℕ) → length es ≤ 20000000
      → IsTrailOrNone n (length es) left → HasTrail kind line a lower upper es left → TrailUnits line left units
      → length (rows_text (trail_rows n left)) ≤ 900000 + 9 * units
  trail_length a lower upper es None units many are has u =
      omega (arith, no_trail, length-append (line_text (trail None)) [])
  trail_length a lower upper es (Some t) units many are has u = omega (
    arith,
    trail_head t are.few are.cycle,
    are.few,
    frames_length n (length es) few many kind line t.cycle t.frames units are.each
        (trail_paid n (length es) few many kind line t.cycle es (all_tasks line) has.0 t.frames has.2) u,
    length-append (line_text (trail (Some (length t.frames, t.cycle)))) (rows_text (map (frame_row n) t.frames)),
  )

  -- the lines of bounds behind the question
  claim_length : (a : Ask) (lower upper : ℕ) (b : Assignment) (es : List Entry) (left : Option Trail) (units : ℕ)
      → AreBounds kind n lower upper b es left → IsProof kind line a lower upper b es left
      → UnitsWhole line es left units
      → length (rows_text (claim_rows kind n (claim.Bounds lower upper b es left)))
      ≤ 545 * length es + 9 * units + 910000
  claim_length a lower upper b es left units are proof u =
      let entries : List Row = map (entry_row n) es in
      let last : List Row = fixed (codes "end") ∷ [] in
      omega (
        arith,
        bounds_length kind n lower upper b es left few are,
        keyed_length (codes "entries") (length es),
        cite_length (length es) are.entries.many,
        entries_length n (length es) few are.entries.many kind line es u.0 are.entries.each
            (λ k e g. (take k es, proof.derived k e g)) u.2.0,
        trail_length a lower upper es left u.1 are.entries.many are.trail proof.trail u.2.1,
        u.2.2,
        fixed_length (codes "end"),
        lines_length (bounds_rows kind lower upper b) (list_rows n es left ++ last),
        lines_length (list_rows n es left) last,
        lines_length entries (trail_rows n left),
        length-append (line_text (keyed (codes "entries") (length es))) (rows_text (entries ++ trail_rows n left)),
        length-append (line_text (fixed (codes "end"))) [],
      )

-- a certificate of bounds that is accepted
pub bounds_fit : (line : Line) (cert : Certificate) (lower upper units : ℕ) (b : Assignment) (es : List Entry)
    (left : Option Trail) → cert.claim ≡ claim.Bounds lower upper b es left → IsInRange cert
    → IsAccepted line cert lower upper units → length (cert_text cert) ≤ most_bytes (length es) units
unfolding cert_rows
bounds_fit line cert lower upper units b es left said range accepted =
    let C : Claim → Type 0 = IsClaim cert.kind cert.tasks cert.ask in
    let A : Claim → Type 0 = λ c. ClaimIsAccepted cert.kind line cert.ask c lower upper units in
    let are : AreBounds cert.kind cert.tasks lower upper b es left = subst C said range.claim in
    let taken : A (claim.Bounds lower upper b es left) = subst A said accepted.claim in
    let same : length (rows_text (claim_rows cert.kind cert.tasks cert.claim))
    ≡ length (rows_text (claim_rows cert.kind cert.tasks (claim.Bounds lower upper b es left))) =
    ap (λ (c : Claim). length (rows_text (claim_rows cert.kind cert.tasks c))) said in
    omega (
      arith,
      head_length (least_version cert.claim) cert.kind cert.tasks cert.ask
          (claim_rows cert.kind cert.tasks cert.claim) range.few range.ask,
      same,
      claim_length cert.kind line cert.tasks range.few cert.ask lower upper b es left units are taken.2 taken.3,
    )

-- a certificate that a task is too long
too_long_length : (kind : LineKind) (line : Line) (n i : ℕ) (a : Ask) (said : Claim) → n ≤ 1024 → IsClaim kind n a said
    → ClaimIsInfeasible line a said i → length (rows_text (claim_rows kind n said)) ≤ 100
too_long_length kind line n i a (claim.TooLong task) few range right = omega (
  arith,
  keyed_length (codes "infeasible") (suc task),
  count_length (suc task) (omega (arith, range.1, few)),
  fixed_length (codes "end"),
  length-append (line_text (keyed (codes "infeasible") (suc task))) (rows_text (fixed (codes "end") ∷ [])),
  length-append (line_text (fixed (codes "end"))) [],
)
too_long_length kind line n i a (claim.Bounds l u b es left) few range right = absurd right

pub too_long_fits : (line : Line) (cert : Certificate) (task : ℕ) → IsInRange cert → IsInfeasible line cert task
    → length (cert_text cert) ≤ most_bytes 0 0
unfolding cert_rows
too_long_fits line cert task range right = omega (
  arith,
  head_length (least_version cert.claim) cert.kind cert.tasks cert.ask (claim_rows cert.kind cert.tasks cert.claim)
      range.few range.ask,
  too_long_length cert.kind line cert.tasks task cert.ask cert.claim range.few range.claim right.claim,
)
