-- The plan of a right balance is true: stations one after the other.
use Rattle.std.proofs.Common.{◌≡◌, ℕ, zero, suc, ◌+◌, ◌<◌, ◌≤◌, List, [], ◌++◌, length, get_or, Some, sym, ap, ◌∙◌}
use Rattle.std.proofs.Common.{subst, ◌⊎◌, inl, inr, arith}
use Rattle.std.specs.Prelude.{slice_get}
use Rattle.std.proofs.lemmas.Bool.{cases_lt}
use Rattle.std.proofs.lemmas.Option.{slice_get_within, slice_get-get_or}
use Rattle.line_instance.specs.Line.{Line, IsLine, IsRanked, Before, tasks}
use Rattle.line_rules.specs.Balance.{IsRight, seat}
use Rattle.line_rules.specs.declared.types.LineKind.{LineKind}
use Rattle.line_rules.specs.declared.types.Side.TheVariants.{Front, Back}
use Rattle.line_rules.specs.declared.types.Seatplace.{Seatplace}
use Rattle.line_rules.specs.declared.types.Balance.{Balance as Assignment}
use Rattle.line_rules.proofs.All.{In-all}
use Rattle.line_rules.proofs.ListFacts.{get_longer}
use Rattle.line_drawing.proofs.SegmentFacts.{get_behind, get_cases}
use Rattle.balance_plan.specs.Plan.{Turn, turns_at, turns_from}
use Rattle.balance_plan.specs.PlanFacts.{AreInOrder, IsOfTask, IsRightSomehow, IsTruePlan}
use Rattle.balance_plan.proofs.StationTurns.{AreAt, are_at}

-- What is true of the turns of n stations, from station k on.
record AreFrom (line : Line) (c : ℕ) (places : List Seatplace) (k n : ℕ) (turns : List Turn) : Type 0 where
  pub each : (p : ℕ) (t : Turn) → slice_get turns p ≡ Some t → IsOfTask line c places t
  pub least : (p : ℕ) (t : Turn) → slice_get turns p ≡ Some t → k ≤ t.station
  pub all : (i : ℕ) → i < tasks line → k ≤ (seat places i).station → (seat places i).station < k + n
      → (p : ℕ) × ((t : Turn) × (slice_get turns p ≡ Some t) × (t.task ≡ i))
  pub once : (p q : ℕ) (s t : Turn) → slice_get turns p ≡ Some s → slice_get turns q ≡ Some t → s.task ≡ t.task → p ≡ q
  pub ordered : AreInOrder c turns
  pub precedence : (p q : ℕ) (s t : Turn) → slice_get turns p ≡ Some s → slice_get turns q ≡ Some t
      → s.station ≡ t.station → Before line s.task t.task → p < q

none : (line : Line) (c : ℕ) (places : List Seatplace) (k : ℕ) → AreFrom line c places k 0 []
none line c places k = record {
  each = λ p t e. absurd (cc);
  least = λ p t e. absurd (cc);
  all = λ i l a b. absurd (omega (arith, a, b));
  once = λ p q s t e f same. absurd (cc e);
  ordered = record {
    clear = λ p q s t e f l same. absurd (cc e);
    meet = λ p s t e f same side. absurd (cc e);
    stations = λ p q s t e f l. absurd (cc e);
    front_begins = λ q t e side h. absurd (cc e);
    back_ends = λ p s e side h. absurd (cc e);
  };
  precedence = λ p q s t e f same before. absurd (cc e);
}

module _ (line : Line) (c : ℕ) (places : List Seatplace) (k n : ℕ) (xs ys : List Turn)
    (one : AreAt line c places k xs) (more : AreFrom line c places (suc k) n ys) where
  -- a turn is at a place of the first station, or of one behind it
  abbrev Stand : ℕ → Turn → Type 0
  Stand p t = (slice_get xs p ≡ Some t) ⊎ ((q : ℕ) × (p ≡ length xs + q) × (slice_get ys q ≡ Some t))

  at : (p : ℕ) (t : Turn) → slice_get (xs ++ ys) p ≡ Some t → Stand p t
  at p t e = get_cases xs ys p t e

  each : (p : ℕ) (t : Turn) → slice_get (xs ++ ys) p ≡ Some t → IsOfTask line c places t
  each p t e = elim (at p t e) [ inl h ↦ one.each p t h | inr h ↦ more.each h.0 t h.2 ]

  least : (p : ℕ) (t : Turn) → slice_get (xs ++ ys) p ≡ Some t → k ≤ t.station
  least p t e = elim (at p t e) [
    | inl h ↦ omega (arith, one.here p t h)
    | inr h ↦ omega (arith, more.least h.0 t h.2)
  ]

  all : (i : ℕ) → i < tasks line → k ≤ (seat places i).station → (seat places i).station < k + suc n
      → (p : ℕ) × ((t : Turn) × (slice_get (xs ++ ys) p ≡ Some t) × (t.task ≡ i))
  all i l a b = elim (cases_lt k (seat places i).station) [
    | inl m ↦
        let h = more.all i l (omega (arith, m)) (omega (arith, b)) in
        (length xs + h.0, (h.1.0, get_behind xs ys h.0 h.1.0 h.1.1, h.1.2))
    | inr m ↦
        let h = one.all i l (omega (arith, m, a)) in
        (h.0, (h.1.0, get_longer xs ys h.0 h.1.0 h.1.1, h.1.2))
  ]

  -- a turn of the first station isn't one of those behind it
  parted : (p q : ℕ) (s t : Turn) → slice_get xs p ≡ Some s → slice_get ys q ≡ Some t → s.station < t.station
  parted p q s t e f = omega (arith, one.here p s e, more.least q t f)

  once : (p q : ℕ) (s t : Turn) → slice_get (xs ++ ys) p ≡ Some s → slice_get (xs ++ ys) q ≡ Some t → s.task ≡ t.task
      → p ≡ q
  once p q s t e f same = by (at p s e) (at q t f)
    where
      stations : IsOfTask line c places s → IsOfTask line c places t → s.station ≡ t.station
      stations h g = h.station ∙ ap (λ i. (seat places i).station) same ∙ sym g.station

      by : Stand p s → Stand q t → p ≡ q
      by (inl h) (inl g) = one.once p q s t h g same
      by (inl h) (inr g) =
          absurd (omega (arith, parted p g.0 s t h g.2, stations (one.each p s h) (more.each g.0 t g.2)))
      by (inr h) (inl g) =
          absurd (omega (arith, parted q h.0 t s g h.2, stations (more.each h.0 s h.2) (one.each q t g)))
      by (inr h) (inr g) = omega (arith, h.1, g.1, more.once h.0 g.0 s t h.2 g.2 same)

  clear : (p q : ℕ) (s t : Turn) → slice_get (xs ++ ys) p ≡ Some s → slice_get (xs ++ ys) q ≡ Some t → p < q
      → s.station ≡ t.station → s.finish ≤ t.start
  clear p q s t e f l same = by (at p s e) (at q t f)
    where
      by : Stand p s → Stand q t → s.finish ≤ t.start
      by (inl h) (inl g) = one.clear p q s t h g l
      by (inl h) (inr g) = absurd (omega (arith, parted p g.0 s t h g.2, same))
      by (inr h) (inl g) = absurd (omega (arith, l, h.1, slice_get_within xs q t g))
      by (inr h) (inr g) = more.ordered.clear h.0 g.0 s t h.2 g.2 (omega (arith, l, h.1, g.1)) same

  meet : (p : ℕ) (s t : Turn) → slice_get (xs ++ ys) p ≡ Some s → slice_get (xs ++ ys) (p + 1) ≡ Some t
      → s.station ≡ t.station → s.side ≡ t.side → s.finish ≡ t.start
  meet p s t e f same side = by (at p s e) (at (p + 1) t f)
    where
      by : Stand p s → Stand (p + 1) t → s.finish ≡ t.start
      by (inl h) (inl g) = one.meet p s t h g side
      by (inl h) (inr g) = absurd (omega (arith, parted p g.0 s t h g.2, same))
      by (inr h) (inl g) = absurd (omega (arith, h.1, slice_get_within xs (p + 1) t g))
      by (inr h) (inr g) =
          let next : g.0 ≡ h.0 + 1 = omega (arith, h.1, g.1) in
          let P : ℕ → Type 0 = λ m. slice_get ys m ≡ Some t in
          more.ordered.meet h.0 s t h.2 (subst P next g.2) same side

  stations : (p q : ℕ) (s t : Turn) → slice_get (xs ++ ys) p ≡ Some s → slice_get (xs ++ ys) q ≡ Some t → p < q
      → s.station ≤ t.station
  stations p q s t e f l = by (at p s e) (at q t f)
    where
      by : Stand p s → Stand q t → s.station ≤ t.station
      by (inl h) (inl g) = omega (arith, one.here p s h, one.here q t g)
      by (inl h) (inr g) = omega (arith, parted p g.0 s t h g.2)
      by (inr h) (inl g) = absurd (omega (arith, l, h.1, slice_get_within xs q t g))
      by (inr h) (inr g) = more.ordered.stations h.0 g.0 s t h.2 g.2 (omega (arith, l, h.1, g.1))

  front_begins : (q : ℕ) (t : Turn) → slice_get (xs ++ ys) q ≡ Some t → t.side ≡ Front
      → ((p : ℕ) (s : Turn) → slice_get (xs ++ ys) p ≡ Some s → p < q → s.station < t.station) → t.start ≡ 0
  front_begins q t e side h = elim (at q t e) [
    | inl g ↦ first q g h
    | inr g ↦ more.ordered.front_begins g.0 t g.2 side
        (λ p s f l. h (length xs + p) s (get_behind xs ys p s f) (omega (arith, l, g.1)))
  ]
    where
      first : (q : ℕ) → slice_get xs q ≡ Some t
          → ((p : ℕ) (s : Turn) → slice_get (xs ++ ys) p ≡ Some s → p < q → s.station < t.station) → t.start ≡ 0
      first zero g h = one.begins t g side
      first (suc q) g h =
          let s : Turn = get_or xs 0 t in
          let there : slice_get xs 0 ≡ Some s =
          slice_get-get_or xs 0 t (omega (arith, slice_get_within xs (suc q) t g)) in
          let less : s.station < t.station = h 0 s (get_longer xs ys 0 s there) (omega arith) in
          absurd (omega (arith, less, one.here 0 s there, one.here (suc q) t g))

  back_ends : (p : ℕ) (s : Turn) → slice_get (xs ++ ys) p ≡ Some s → s.side ≡ Back
      → ((q : ℕ) (t : Turn) → slice_get (xs ++ ys) q ≡ Some t → p < q → s.station < t.station) → s.finish ≡ c
  back_ends p s e side h = elim (at p s e) [
    | inl g ↦ elim (cases_lt (p + 1) (length xs)) [
      | inl l ↦
          let t : Turn = get_or xs (p + 1) s in
          let there : slice_get xs (p + 1) ≡ Some t = slice_get-get_or xs (p + 1) s l in
          let less : s.station < t.station = h (p + 1) t (get_longer xs ys (p + 1) t there) (omega arith) in
          absurd (omega (arith, less, one.here p s g, one.here (p + 1) t there))
      | inr l ↦ one.ends p s g side (omega (arith, l, slice_get_within xs p s g))
    ]
    | inr g ↦ more.ordered.back_ends g.0 s g.2 side
        (λ q t f l. h (length xs + q) t (get_behind xs ys q t f) (omega (arith, l, g.1)))
  ]

  precedence : (p q : ℕ) (s t : Turn) → slice_get (xs ++ ys) p ≡ Some s → slice_get (xs ++ ys) q ≡ Some t
      → s.station ≡ t.station → Before line s.task t.task → p < q
  precedence p q s t e f same before = by (at p s e) (at q t f)
    where
      by : Stand p s → Stand q t → p < q
      by (inl h) (inl g) = one.precedence p q s t h g before
      by (inl h) (inr g) = omega (arith, g.1, slice_get_within xs p s h)
      by (inr h) (inl g) = absurd (omega (arith, parted q h.0 t s g h.2, same))
      by (inr h) (inr g) = omega (arith, h.1, g.1, more.precedence h.0 g.0 s t h.2 g.2 same before)

  joined : AreFrom line c places k (suc n) (xs ++ ys)
  joined = record {
    each = each;
    least = least;
    all = all;
    once = once;
    ordered = record {
      clear = clear;
      meet = meet;
      stations = stations;
      front_begins = front_begins;
      back_ends = back_ends;
    };
    precedence = precedence;
  }

module _ (kind : LineKind) (line : Line) (c : ℕ) (b : Assignment) (ok : IsLine line) (ranked : IsRanked line)
    (right : IsRight kind line c b) where
  from : (n k : ℕ) → AreFrom line c b.place k n (turns_from line c b.place k n)
  from zero k = none line c b.place k
  from (suc n) k = joined line c b.place k n (turns_at line c b.place k) (turns_from line c b.place (suc k) n)
      (are_at kind line c b ok ranked right k) (from n (suc k))

  plan_of : IsTruePlan line c b
  plan_of =
      let h = from b.stations 1 in
      record {
        each = h.each;
        all = λ i l.
            let first = right.balance.first i (In-all line i ok.small l) in
            let last = right.balance.last i (In-all line i ok.small l) in
            h.all i l first (omega (arith, last));
        once = h.once;
        ordered = h.ordered;
        precedence = h.precedence;
      }

pub plan_true : (line : Line) (c : ℕ) (b : Assignment) → IsLine line → IsRanked line → IsRightSomehow line c b
    → IsTruePlan line c b
plan_true line c b ok ranked right = plan_of right.0 line c b ok ranked right.1
