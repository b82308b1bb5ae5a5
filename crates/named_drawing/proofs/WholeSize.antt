-- The text of a picture with names is no longer than its room.
use Rattle.std.proofs.Common.{ℕ, zero, suc, ◌+◌, ◌-◌, ◌*◌, ◌/◌, ◌<◌, ◌≤◌, ◌&&◌, nat_eq, List, ◌++◌}
use Rattle.std.proofs.Common.{length, length-append, arith, codes, decimal}
use Rattle.std.proofs.Math.Nat.{div-le_self, mod-lt, mul-le-mul_left}
use Rattle.std.proofs.lemmas.Nat.{div_below}
use Rattle.std.proofs.lemmas.Fmt.{length-decimal-le_wide}
use Rattle.task_names.specs.TaskNames.{name_at}
use Rattle.line_instance.specs.Line.{Line, IsLine, IsRanked, has, tasks, time}
use Rattle.line_rules.specs.Accepted.{upper_cycle}
use Rattle.line_rules.specs.Balance.{IsRight, all_tasks, seat}
use Rattle.line_rules.specs.Ranges.{IsAsked, IsClaim, IsCycle, IsInRange, IsPlacing}
use Rattle.line_rules.specs.declared.types.LineKind.{LineKind}
use Rattle.line_rules.specs.declared.types.Seatplace.{Seatplace}
use Rattle.line_rules.specs.declared.types.Balance.{Balance as Assignment}
use Rattle.line_rules.specs.declared.types.Ask.{Ask}
use Rattle.line_rules.specs.declared.types.Claim.{Claim}
use Rattle.line_rules.specs.declared.types.Claim.TheVariants.{TooLong, Bounds}
use Rattle.line_rules.specs.declared.types.Certificate.{Certificate}
use Rattle.line_rules.proofs.All.{In-all}
use Rattle.line_rules.proofs.BoundIsTrue.{greatest_le}
use Rattle.line_drawing.specs.declared.figures.Figures.{Figures}
use Rattle.line_drawing.specs.Parts.{text_of}
use Rattle.line_drawing.specs.Segments.{segments_at}
use Rattle.line_drawing.specs.Figures.{AreFigures, efficiency_of, sum_at, width_of}
use Rattle.line_drawing.specs.Drawing.{bounds_text, head_text, headings_text, legend_text, notes_text, totals_text}
use Rattle.line_drawing.specs.Facts.{ClaimIsRight, HasRightBalance, claim_stations, stations_of}
use Rattle.line_drawing.proofs.DrawingFacts.{shown_cycle}
use Rattle.line_drawing.proofs.NoteFacts.{digits_few}
use Rattle.line_drawing.proofs.NumberFacts.{has_room, true_numbers}
use Rattle.line_drawing.proofs.SizeFacts.{bounds_most, fifteen_digits, five_digits, four_digits, head_most}
use Rattle.line_drawing.proofs.SizeFacts.{headings_most}
use Rattle.line_drawing.proofs.SizeFacts.{idle_most, kind_most, len3, len5, len6, length-text_of, notes_most}
use Rattle.line_drawing.proofs.SizeFacts.{totals_most, wide}
use Rattle.line_drawing.proofs.PictureSizes.{few, filter_most, from, listed, listed_most, longest_small, room_most}
use Rattle.line_drawing.proofs.PictureSizes.{small}
use Rattle.line_drawing.proofs.PictureSizes.{sum_small}
use Rattle.named_drawing.specs.declared.page.Page.{Page}
use Rattle.named_drawing.specs.Escapes.{escaped}
use Rattle.named_drawing.specs.Labels.{named_note}
use Rattle.named_drawing.specs.Page.{IsPage, column_width, column_x, columns_of, entry_x, entry_y, filled_columns}
use Rattle.named_drawing.specs.Page.{list_top, longest_note, named_figures, page_height, page_of, rows_of, stations_x}
use Rattle.named_drawing.specs.Page.{time_digits, times_x, widest_name}
use Rattle.named_drawing.specs.TaskList.{entries_from, entries_text, entry_of, entry_text, heading_text}
use Rattle.named_drawing.specs.TaskList.{headings_from, list_text, name_word_parts, number_parts, number_word_parts}
use Rattle.named_drawing.specs.TaskList.{start_parts, station_parts, time_parts}
use Rattle.named_drawing.specs.NamedDrawing.{above_text, end_parts, end_text, ground_parts, ground_text, named_claim}
use Rattle.named_drawing.specs.NamedDrawing.{named_drawing_text, named_picture, rows_from, size_parts, size_text}
use Rattle.named_drawing.specs.NamedDrawing.{station_text, top_text}
use Rattle.named_drawing.proofs.NamedSizes.{escaped_most, note_most, row_most}
use Rattle.named_drawing.proofs.PageFacts.{columns_some, is_page, rows_some}

seven_digits : (n : ℕ) → n < 10000000 → length (decimal n) ≤ 7
seven_digits n h = length-decimal-le_wide 7 n (omega arith) (omega (arith, h)) (omega (arith, h))

-- where things stand in the list
module _ (p : Page) (ok : IsPage p) where
  top_most : list_top p ≤ 37000
  top_most = omega (arith, ok.figures.few)

  y_most : (i : ℕ) → length (decimal (entry_y p i)) ≤ 5
  y_most i = five_digits (entry_y p i) (omega (arith, top_most, mod-lt i {m = p.rows} (omega (arith, ok.some)), ok.few))

  x_most : (q : ℕ) → q ≤ 1024 → column_x p q ≤ 2000000
  x_most q h = omega (arith, mul-le-mul_left (column_width p.names p.digits) h, ok.names, ok.digits)

  entry_x_most : (i : ℕ) → i ≤ 1024 → entry_x p i ≤ 2000000
  entry_x_most i h = x_most (i / p.rows) (omega (arith, div-le_self i p.rows, h))

  -- one heading, and all of them
  heading_most : (q : ℕ) → q ≤ 1024 → length (heading_text p q) ≤ 150
  heading_most q h =
      let x : ℕ = column_x p q in
      omega (
        arith,
        length-append (text_of (name_word_parts (x + 40) (list_top p + 12)))
            (text_of (number_word_parts (times_x p x) (stations_x p x) (list_top p + 12))),
        length-text_of (name_word_parts (x + 40) (list_top p + 12)),
        length-text_of (number_word_parts (times_x p x) (stations_x p x) (list_top p + 12)),
        seven_digits (x + 40) (omega (arith, x_most q h)),
        seven_digits (times_x p x) (omega (arith, x_most q h, ok.names, ok.digits)),
        seven_digits (stations_x p x) (omega (arith, x_most q h, ok.names, ok.digits)),
        five_digits (list_top p + 12) (omega (arith, top_most)),
      )

  headings_of : (n q : ℕ) → q + n ≤ 1025 → length (headings_from p q n) ≤ 150 * n
  headings_of zero q h = omega arith
  headings_of (suc n) q h = omega (
    arith,
    length-append (heading_text p q) (headings_from p (suc q) n),
    heading_most q (omega (arith, h)),
    headings_of n (suc q) (omega (arith, h)),
  )

  -- one entry, and all of them
  entry_most : (i : ℕ) (name : List ℕ) (t station : ℕ) → i < 1024 → length name ≤ 64 → t ≤ 200000000000000
      → station ≤ 1024
      → length (entry_text p i name t station) ≤ 550
  entry_most i name t station l short time at =
      let x : entry_x p i ≤ 2000000 = entry_x_most i (omega (arith, l)) in
      omega (
        arith,
        len5 (text_of (number_parts p i)) (text_of (start_parts p i)) (escaped name) (text_of (time_parts p i t))
            (text_of (station_parts p i station)),
        length-text_of (number_parts p i),
        length-text_of (start_parts p i),
        length-text_of (time_parts p i t),
        length-text_of (station_parts p i station),
        escaped_most name,
        short,
        y_most i,
        seven_digits (entry_x p i + 32) (omega (arith, x)),
        seven_digits (entry_x p i + 40) (omega (arith, x)),
        seven_digits (times_x p (entry_x p i)) (omega (arith, x, ok.names, ok.digits)),
        seven_digits (stations_x p (entry_x p i)) (omega (arith, x, ok.names, ok.digits)),
        four_digits (i + 1) (omega (arith, l)),
        fifteen_digits t (omega (arith, time)),
        four_digits station (omega (arith, at)),
      )

  entries_of : (line : Line) (names : List (List ℕ)) (places : List Seatplace) (n k : ℕ) → k + n ≤ 1024
      → ((i : ℕ) → length (name_at names i) ≤ 64) → ((i : ℕ) → time line i ≤ 200000000000000)
      → ((i : ℕ) → i < k + n → (seat places i).station ≤ 1024)
      → length (text_of (entries_from line p names places k n)) ≤ 550 * n
  entries_of line names places zero k h short times at = omega arith
  entries_of line names places (suc n) k h short times at = omega (
    arith,
    length-append (entry_of line p names places k) (text_of (entries_from line p names places (suc k) n)),
    entry_most k (name_at names k) (time line k) (seat places k).station (omega (arith, h)) (short k) (times k)
        (at k (omega arith)),
    entries_of line names places n (suc k) (omega (arith, h)) short times (λ i l. at i (omega (arith, l))),
  )

-- the columns that have a task are no more than find room
columns_fit : (n c : ℕ) → 0 < n → 1 ≤ c → (n - 1) / rows_of n c + 1 ≤ c
columns_fit n c some h =
    let covers : n ≤ c * rows_of n c = omega (arith, h) in
    let rows : 1 ≤ rows_of n c = rows_some n c some h in
    omega (arith, div_below (n - 1) (rows_of n c) c (omega (arith, rows)) (omega (arith, covers, some)))

columns_few : (f : Figures) (names digits : ℕ) → AreFigures f → columns_of f names digits ≤ 12
columns_few f names digits ok = omega (
  arith,
  div_below (width_of f - 64) (column_width names digits) 13 (omega arith) (omega (arith, ok.column, ok.notes)),
)

-- what stands above the rows
above_most : (p : Page) (ok : IsPage p) (total : p.figures.total < 1000000000000000000)
    (longest : p.figures.longest < 1000000000000000000) (percent : efficiency_of p.figures ≤ 1000) (a : Ask)
    (lower upper : ℕ) → lower ≤ 1000000000000000000 → upper ≤ 1000000000000000000
    → length (above_text p a lower upper) ≤ 1100
above_most p ok total longest percent a lower upper l u =
    let f : Figures = p.figures in
    let high : length (decimal (page_height p)) ≤ 5 =
    five_digits (page_height p) (omega (arith, top_most p ok, ok.few)) in
    let broad : length (decimal (width_of f)) ≤ 4 = wide f ok.figures total longest percent in
    omega (
      arith,
      len6 (top_text p) (bounds_text a lower upper) (totals_text f) (legend_text f.kind) (notes_text f)
          (headings_text f),
      len5 (size_text p) (head_text f) (ground_text p) (head_text f) (codes "</text>\n<text x=\"64\" y=\"48\">"),
      length-text_of (size_parts p),
      length-text_of (ground_parts p),
      high,
      broad,
      head_most f ok.figures total longest percent,
      four_digits f.stations (omega (arith, ok.figures.few)),
      kind_most f.kind,
      bounds_most a lower upper l u,
      totals_most f ok.figures total longest percent,
      idle_most f ok.figures total longest percent,
      notes_most f ok.figures total longest percent,
      headings_most f ok.figures total longest percent,
    )

module _ (kind : LineKind) (line : Line) (c : ℕ) (b : Assignment) (ok : IsLine line) (ranked : IsRanked line)
    (cycle : IsCycle c) (n : ℕ) (range : IsPlacing kind n b) (right : IsRight kind line c b) (names : List (List ℕ))
    (named : (i : ℕ) → length (name_at names i) ≤ 64) where
  abbrev page : Page
  page = page_of line kind c names b

  notes_few : longest_note line c names b.place b.stations ≤ 40
  notes_few = greatest_le b.stations (λ k. length (named_note names (segments_at line c b.place (k + 1)))) 40
      (λ k. (note_most names named (segments_at line c b.place (k + 1))
      (few kind line c b ok ranked cycle n range right (k + 1))).1)

  figures : AreFigures (named_figures line kind c names b)
  figures = record {
    some = range.some;
    few = range.few;
    cycle = cycle.some;
    limit = cycle.limit;
    room = has_room line kind c b right;
    column = omega (arith, digits_few c (omega (arith, cycle.limit)));
    notes = room_most (longest_note line c names b.place b.stations) notes_few;
  }

  paged : IsPage page
  paged = is_page kind line c b ok right names named cycle.limit figures

  rows_most : (m k : ℕ) → k + m ≤ 1025
      → length (rows_from line page.figures names b.place k m)
      ≤ 500 * m + 1110 * listed kind line c b ok ranked cycle n range right k m
  rows_most zero k h = omega arith
  rows_most (suc m) k h = omega (
    arith,
    length-append (station_text line page.figures names b.place k)
        (rows_from line page.figures names b.place (suc k) m),
    row_most names named page.figures figures k (sum_at line b.place k) (omega (arith, h))
        (sum_small kind line c b ok ranked cycle n range right
        (λ i. has (all_tasks line) i && nat_eq (seat b.place i).station k)) (segments_at line c b.place k)
        (few kind line c b ok ranked cycle n range right k) (small kind line c b ok ranked cycle n range right k),
    rows_most m (suc k) (omega (arith, h)),
  )

  list_most : length (list_text line page names b.place) ≤ 1850 + 550 * tasks line
  list_most =
      let fits : filled_columns page (tasks line) ≤ 12 = omega (
        arith,
        columns_few page.figures (widest_name names) (time_digits line) figures,
        columns_fit (tasks line) (columns_of page.figures (widest_name names) (time_digits line)) ok.some
            (columns_some kind line c b ok right names named cycle.limit figures),
      ) in
      let heads : List ℕ = headings_from page 0 (filled_columns page (tasks line)) in
      omega (
        arith,
        length-append (codes "<g text-anchor=\"end\">\n" ++ heads ++ entries_text line page names b.place)
            (codes "</g>\n</svg>\n"),
        len3 (codes "<g text-anchor=\"end\">\n") heads (entries_text line page names b.place),
        headings_of page paged (filled_columns page (tasks line)) 0 (omega (arith, fits)),
        fits,
        entries_of page paged line names b.place (tasks line) 0 (omega (arith, ok.small)) named (λ i. ok.times i)
            (λ i l. omega (
              arith,
              right.balance.last i (In-all line i ok.small (omega (arith, l))),
              range.few,
            )),
      )

  picture_fits : (a : Ask) (lower upper : ℕ) → IsCycle lower → IsCycle upper
      → length (named_picture line page names a lower upper b) ≤ 4000 + 600 * b.stations + 1700 * tasks line
  picture_fits a lower upper l u =
      let above : List ℕ = above_text page a lower upper in
      let rows : List ℕ = rows_from line page.figures names b.place 1 b.stations in
      omega (
        arith,
        length-append (above ++ rows ++ end_text page.figures) (list_text line page names b.place),
        len3 above rows (end_text page.figures),
        above_most page paged (sum_small kind line c b ok ranked cycle n range right (has (all_tasks line)))
            (longest_small kind line c b ok ranked cycle n range right) (true_numbers line kind c b right).percent a
            lower upper l.limit u.limit,
        rows_most b.stations 1 (omega (arith, range.few)),
        listed_most kind line c b ok ranked cycle n range right b.stations 1,
        filter_most (from b.place 1) line.order,
        ranked.many,
        length-text_of (end_parts page.figures),
        five_digits (36 * b.stations + 6) (omega (arith, range.few)),
        list_most,
      )

claim_fits : (line : Line) (names : List (List ℕ)) (kind : LineKind) (a : Ask) (claim : Claim) (n : ℕ) → IsLine line
    → IsRanked line → IsAsked a → IsClaim kind n a claim → ClaimIsRight kind line a claim
    → ((i : ℕ) → length (name_at names i) ≤ 64)
    → length (named_claim line names kind a claim) ≤ 4000 + 600 * claim_stations claim + 1700 * tasks line
claim_fits line names kind a (TooLong task) n ok ranked asked range right named = omega arith
claim_fits line names kind a (Bounds lower upper b es trail) n ok ranked asked range right named =
    picture_fits kind line (upper_cycle a upper) b ok ranked (shown_cycle a upper asked range.up_to) n range.balance
    right names named a lower upper range.from range.up_to

-- the text of a picture with names is no longer than its room
pub drawing_fits : (line : Line) (names : List (List ℕ)) (cert : Certificate) → IsLine line → IsRanked line
    → IsInRange cert → HasRightBalance line cert → ((i : ℕ) → length (name_at names i) ≤ 64)
    → length (named_drawing_text line names cert) ≤ 4000 + 600 * stations_of cert + 1700 * tasks line
drawing_fits line names cert ok ranked range right named = claim_fits line names cert.kind cert.ask cert.claim
    cert.tasks ok ranked range.ask range.claim right named
