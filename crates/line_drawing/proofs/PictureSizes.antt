-- The segments of all stations are no more than the tasks, so the text of a picture is no longer than its room.
use Rattle.std.proofs.Common.{◌≡◌, ℕ, zero, suc, ◌+◌, ◌*◌, ◌<◌, ◌≤◌, Bool, true, false, cond, ◌&&◌, nat_eq, nat_le, max}
use Rattle.std.proofs.Common.{List, [], ◌∷◌, ◌++◌, length, length-append, Some, refl, arith}
use Rattle.std.specs.Prelude.{filter, slice_get}
use Rattle.std.proofs.lemmas.Bool.{eqb-true, leb-true}
use Rattle.std.proofs.lemmas.Bool.Decides.{nat_tests}
use Rattle.line_instance.specs.Line.{Line, IsLine, IsRanked, has, tasks}
use Rattle.line_instance.specs.Sums.{sum_where}
use Rattle.line_instance.proofs.Sums.{weigh-most}
use Rattle.line_rules.specs.Accepted.{upper_cycle}
use Rattle.line_rules.specs.Balance.{IsRight, all_tasks, seat}
use Rattle.line_rules.specs.Ranges.{IsAsked, IsClaim, IsCycle, IsInRange, IsPlacing}
use Rattle.line_rules.specs.declared.types.LineKind.{LineKind}
use Rattle.line_rules.specs.declared.types.Side.{Side}
use Rattle.line_rules.specs.declared.types.Side.TheVariants.{Front, Back}
use Rattle.line_rules.specs.declared.types.Seatplace.{Seatplace}
use Rattle.line_rules.specs.declared.types.Balance.{Balance as Assignment}
use Rattle.line_rules.specs.declared.types.Ask.{Ask}
use Rattle.line_rules.specs.declared.types.Claim.{Claim}
use Rattle.line_rules.specs.declared.types.Claim.TheVariants.{TooLong, Bounds}
use Rattle.line_rules.specs.declared.types.Certificate.{Certificate}
use Rattle.line_drawing.specs.declared.figures.Figures.{Figures}
use Rattle.line_drawing.specs.declared.segments.Segment.{Segment}
use Rattle.line_drawing.specs.Segments.{backs_of, fronts_from, is_side, segments_at, stands, tasks_at}
use Rattle.line_drawing.specs.Notes.{note_of}
use Rattle.line_drawing.specs.Figures.{AreFigures, figures_of, longest_note, longest_of, room_for, sum_at}
use Rattle.line_drawing.specs.Drawing.{above_text, claim_text, drawing_text, end_text, picture_text, rows_from}
use Rattle.line_drawing.specs.Drawing.{station_text}
use Rattle.line_drawing.specs.Facts.{AreTrue, ClaimIsRight, HasRightBalance, claim_stations, stations_of}
use Rattle.line_drawing.proofs.DrawingFacts.{shown_cycle}
use Rattle.line_drawing.proofs.NoteFacts.{digits_few}
use Rattle.line_drawing.proofs.NumberFacts.{has_room, true_numbers}
use Rattle.line_drawing.proofs.SegmentFacts.{length-backs, length-fronts}
use Rattle.line_drawing.proofs.SizeFacts.{AreSmall, IsSmall, around_fits, note_most, row_most}
use Rattle.line_drawing.proofs.StationFacts.{true_at}
use Rattle.line_rules.proofs.BoundIsTrue.{greatest_le}

-- one for a truth
abbrev as_one : Bool → ℕ
as_one true = 1
as_one false = 0

filter_first : (b : Bool) (x : ℕ) (xs : List ℕ) → length (cond b (x ∷ xs) xs) ≡ as_one b + length xs
filter_first true x xs = omega arith
filter_first false x xs = omega arith

one_most : (b : Bool) → as_one b ≤ 1
one_most true = omega arith
one_most false = omega arith

pub filter_most : (f : ℕ → Bool) (xs : List ℕ) → length (filter f xs) ≤ length xs
filter_most f [] = omega arith
filter_most f (x ∷ xs) = omega (arith, filter_first (f x) x (filter f xs), one_most (f x), filter_most f xs)

-- a number is k, or above it, or neither
tests : (k m : ℕ) (a b c : Bool) → nat_eq m k ≡ a → nat_le (suc k) m ≡ b → nat_le k m ≡ c
    → as_one a + as_one b ≤ as_one c
tests k m true true c p q r = absurd (omega (arith, eqb-true m k p, leb-true (suc k) m q))
tests k m true false true p q r = omega arith
tests k m true false false p q r = (let over : m < k = grind (arith, nat_tests, r) in
    absurd (omega (arith, eqb-true m k p, over)))
tests k m false true true p q r = omega arith
tests k m false true false p q r = (let over : m < k = grind (arith, nat_tests, r) in
    absurd (omega (arith, leb-true (suc k) m q, over)))
tests k m false false c p q r = omega arith

one_of : (side : Side) (k m : ℕ) → as_one (is_side side Front && nat_eq m k) + as_one
    (is_side side Back && nat_eq m k) + as_one (nat_le (suc k) m) ≤ as_one (nat_le k m)
one_of Front k m = omega (arith, tests k m (nat_eq m k) (nat_le (suc k) m) (nat_le k m) refl refl refl)
one_of Back k m = omega (arith, tests k m (nat_eq m k) (nat_le (suc k) m) (nat_le k m) refl refl refl)

-- whether a task stands at station k or a later one
abbrev pub from : List Seatplace → ℕ → ℕ → Bool
from places k i = nat_le k (seat places i).station

-- the tasks of a station on either side, and those of later stations
split_most : (places : List Seatplace) (k : ℕ) (xs : List ℕ)
    → length (filter (λ i. stands Front k (seat places i)) xs) + length
    (filter (λ i. stands Back k (seat places i)) xs) + length (filter (from places (suc k)) xs)
    ≤ length (filter (from places k) xs)
split_most places k [] = omega arith
split_most places k (x ∷ xs) = omega (
  arith,
  split_most places k xs,
  filter_first (stands Front k (seat places x)) x (filter (λ i. stands Front k (seat places i)) xs),
  filter_first (stands Back k (seat places x)) x (filter (λ i. stands Back k (seat places i)) xs),
  filter_first (from places (suc k) x) x (filter (from places (suc k)) xs),
  filter_first (from places k x) x (filter (from places k) xs),
  one_of (seat places x).side k (seat places x).station,
)

pub small_from : (ss : List Segment) → ((p : ℕ) (s : Segment) → slice_get ss p ≡ Some s → IsSmall s) → AreSmall ss
small_from [] h = tt
small_from (s ∷ ss) h = (h 0 s refl, small_from ss (λ p r e. h (suc p) r e))

pub room_most : (n : ℕ) → n ≤ 40 → room_for n ≤ 40
room_most n h = by (nat_eq n 0)
  where
    by : (b : Bool) → cond b 0 (max 12 n) ≤ 40
    by true = omega arith
    by false = omega (arith, h)

module _ (kind : LineKind) (line : Line) (c : ℕ) (b : Assignment) (ok : IsLine line) (ranked : IsRanked line)
    (cycle : IsCycle c) (n : ℕ) (range : IsPlacing kind n b) (right : IsRight kind line c b) where
  -- the segments of n stations, from station k on
  abbrev pub listed : ℕ → ℕ → ℕ
  listed k zero = 0
  listed k (suc n) = length (segments_at line c b.place k) + listed (suc k) n

  pub length-segments : (k : ℕ) → length (segments_at line c b.place k)
      ≡ length (tasks_at line b.place Front k) + length (tasks_at line b.place Back k)
  length-segments k =
      let fs : List ℕ = tasks_at line b.place Front k in
      let bs : List ℕ = tasks_at line b.place Back k in
      omega (
        arith,
        length-append (fronts_from line c 0 fs) (backs_of line c bs),
        length-fronts line c 0 fs,
        length-backs line c bs,
      )

  pub listed_most : (n k : ℕ) → listed k n ≤ length (filter (from b.place k) line.order)
  listed_most zero k = omega arith
  listed_most (suc n) k = omega (arith, listed_most n (suc k), length-segments k, split_most b.place k line.order)

  pub few : (k : ℕ) → length (segments_at line c b.place k) ≤ 1024
  few k = omega (
    arith,
    length-segments k,
    split_most b.place k line.order,
    filter_most (from b.place k) line.order,
    ranked.many,
    ok.small,
  )

  pub small : (k : ℕ) → AreSmall (segments_at line c b.place k)
  small k =
      let h : AreTrue line c b.place k (segments_at line c b.place k) =
      true_at kind line c b ok ranked cycle.some right k in
      small_from (segments_at line c b.place k) (λ p s e.
      let each = h.each p s e in
      record {
        task = omega (arith, each.task, ok.small);
        time = omega (arith, each.time, ok.times s.task);
        within = h.within p s e;
      })

  pub sum_small : (p : ℕ → Bool) → sum_where p line.times < 1000000000000000000
  sum_small p = omega (arith, weigh-most (λ t. t) p 200000000000000 line.times (λ i l. ok.times i), ok.small)

  notes_most : longest_note line c b.place b.stations ≤ 40
  notes_most = greatest_le b.stations (λ k. length (note_of (segments_at line c b.place (k + 1)))) 40
      (λ k. (note_most (segments_at line c b.place (k + 1)) (few (k + 1))).1)

  abbrev f : Figures
  f = figures_of line kind c b

  figures : AreFigures f
  figures = record {
    some = range.some;
    few = range.few;
    cycle = cycle.some;
    limit = cycle.limit;
    room = has_room line kind c b right;
    column = omega (arith, digits_few c (omega (arith, cycle.limit)));
    notes = room_most (longest_note line c b.place b.stations) notes_most;
  }

  pub longest_small : longest_of line b.place b.stations < 1000000000000000000
  longest_small = omega (
    arith,
    greatest_le b.stations (λ k. sum_at line b.place (k + 1)) 999999999999999999
        (λ k. omega (arith, sum_small (λ i. has (all_tasks line) i && nat_eq (seat b.place i).station (k + 1)))),
  )

  rows_most : (n k : ℕ) → k + n ≤ 1025 → length (rows_from line f b.place k n) ≤ 488 * n + 115 * listed k n
  rows_most zero k h = omega arith
  rows_most (suc n) k h = omega (
    arith,
    length-append (station_text line f b.place k) (rows_from line f b.place (suc k) n),
    row_most f figures k (sum_at line b.place k) (omega (arith, h))
        (sum_small (λ i. has (all_tasks line) i && nat_eq (seat b.place i).station k)) (segments_at line c b.place k)
        (few k) (small k),
    rows_most n (suc k) (omega (arith, h)),
  )

  pub picture_fits : (a : Ask) (lower upper : ℕ) → IsCycle lower → IsCycle upper
      → length (picture_text line f a lower upper b) ≤ 1000 + 500 * b.stations + 120 * tasks line
  picture_fits a lower upper l u = omega (
    arith,
    length-append (above_text f a lower upper ++ rows_from line f b.place 1 b.stations) (end_text f),
    length-append (above_text f a lower upper) (rows_from line f b.place 1 b.stations),
    around_fits f figures (sum_small (has (all_tasks line))) longest_small (true_numbers line kind c b right).percent a
        lower upper (tasks line) l.limit u.limit ok.some,
    rows_most b.stations 1 (omega (arith, range.few)),
    listed_most b.stations 1,
    filter_most (from b.place 1) line.order,
    ranked.many,
  )

claim_fits : (line : Line) (kind : LineKind) (a : Ask) (claim : Claim) (n : ℕ) → IsLine line → IsRanked line → IsAsked a
    → IsClaim kind n a claim → ClaimIsRight kind line a claim
    → length (claim_text line kind a claim) ≤ 1000 + 500 * claim_stations claim + 120 * tasks line
claim_fits line kind a (TooLong task) n ok ranked asked range right = omega arith
claim_fits line kind a (Bounds lower upper b es trail) n ok ranked asked range right =
    picture_fits kind line (upper_cycle a upper) b ok ranked (shown_cycle a upper asked range.up_to) n range.balance
    right a lower upper range.from range.up_to

-- the text of a picture is no longer than its room
pub drawing_fits : (line : Line) (cert : Certificate) → IsLine line → IsRanked line → IsInRange cert
    → HasRightBalance line cert
    → length (drawing_text line cert) ≤ 1000 + 500 * stations_of cert + 120 * tasks line
drawing_fits line cert ok ranked range right = claim_fits line cert.kind cert.ask cert.claim cert.tasks ok ranked
    range.ask range.claim right
