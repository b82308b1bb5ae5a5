-- What is true of the turns of one station of a right balance.
use Rattle.std.proofs.Common.{◌≡◌, ◌≢◌, ℕ, ◌+◌, ◌<◌, ◌≤◌, true, List}
use Rattle.std.proofs.Common.{length, get_or, Some, refl, sym, ap, ◌∙◌, subst, ◌⊎◌, inl, inr, arith, length-append}
use Rattle.std.specs.Prelude.{slice_get}
use Rattle.std.specs.List.{AllPairs}
use Rattle.std.proofs.lemmas.Bool.{cases_lt}
use Rattle.std.proofs.lemmas.List.Elements.{filter_passes}
use Rattle.std.proofs.lemmas.List.Kept.{AllPairs-filter}
use Rattle.std.proofs.lemmas.Option.{slice_get_within, slice_get-get_or}
use Rattle.line_instance.specs.Truths.{In}
use Rattle.line_instance.specs.Line.{Line, IsLine, IsRanked, Before, at_rank, tasks, time}
use Rattle.line_rules.specs.Balance.{IsRight, all_tasks, seat}
use Rattle.line_rules.specs.declared.types.LineKind.{LineKind}
use Rattle.line_rules.specs.declared.types.Side.{Side}
use Rattle.line_rules.specs.declared.types.Side.TheVariants.{Front, Back}
use Rattle.line_rules.specs.declared.types.Seatplace.{Seatplace}
use Rattle.line_rules.specs.declared.types.Balance.{Balance as Assignment}
use Rattle.line_rules.proofs.All.{In-all}
use Rattle.line_rules.proofs.ListFacts.{get_longer}
use Rattle.line_drawing.specs.Segments.{stands, tasks_at, times_of}
use Rattle.line_drawing.proofs.ListedTasks.{same_item, both_sides, order_differs, tasks_within}
use Rattle.line_drawing.proofs.SegmentFacts.{get_behind, get_cases}
use Rattle.line_drawing.proofs.StationFacts.{all_at, pair_at, place_is_one, filter_has, sides_differ, stands_at}
use Rattle.line_drawing.proofs.StationFacts.{at_stands, never_turned}
use Rattle.balance_plan.specs.Plan.{Turn, back_turns, front_turns, turns_at}
use Rattle.balance_plan.specs.PlanFacts.{IsOfTask}
use Rattle.balance_plan.proofs.TurnFacts.{IsBackAt, IsFrontAt, back_at, back_clear, back_has, back_last, back_meet}
use Rattle.balance_plan.proofs.TurnFacts.{back_within, both_clear, front_at, front_clear, front_first, front_has}
use Rattle.balance_plan.proofs.TurnFacts.{front_meet, front_within, length-backs, length-fronts}

-- What is true of the turns of station k: each is of a task of the station, each task of the station has one, and they
-- are in order.
pub record AreAt (line : Line) (c : ℕ) (places : List Seatplace) (k : ℕ) (turns : List Turn) : Type 0 where
  pub each : (p : ℕ) (t : Turn) → slice_get turns p ≡ Some t → IsOfTask line c places t
  pub here : (p : ℕ) (t : Turn) → slice_get turns p ≡ Some t → t.station ≡ k
  pub all : (i : ℕ) → i < tasks line → (seat places i).station ≡ k
      → (p : ℕ) × ((t : Turn) × (slice_get turns p ≡ Some t) × (t.task ≡ i))
  pub once : (p q : ℕ) (s t : Turn) → slice_get turns p ≡ Some s → slice_get turns q ≡ Some t → s.task ≡ t.task → p ≡ q
  pub clear : (p q : ℕ) (s t : Turn) → slice_get turns p ≡ Some s → slice_get turns q ≡ Some t → p < q
      → s.finish ≤ t.start
  pub meet : (p : ℕ) (s t : Turn) → slice_get turns p ≡ Some s → slice_get turns (p + 1) ≡ Some t → s.side ≡ t.side
      → s.finish ≡ t.start
  pub begins : (t : Turn) → slice_get turns 0 ≡ Some t → t.side ≡ Front → t.start ≡ 0
  pub ends : (p : ℕ) (s : Turn) → slice_get turns p ≡ Some s → s.side ≡ Back → p + 1 ≡ length turns → s.finish ≡ c
  pub precedence : (p q : ℕ) (s t : Turn) → slice_get turns p ≡ Some s → slice_get turns q ≡ Some t
      → Before line s.task t.task → p < q

module _ (kind : LineKind) (line : Line) (c : ℕ) (b : Assignment) (ok : IsLine line) (ranked : IsRanked line)
    (right : IsRight kind line c b) (k : ℕ) where
  abbrev fs : List ℕ
  fs = tasks_at line b.place Front k

  abbrev bs : List ℕ
  bs = tasks_at line b.place Back k

  abbrev front : List Turn
  front = front_turns line k 0 fs

  abbrev back : List Turn
  back = back_turns line c k bs

  fit : times_of line fs + times_of line bs ≤ c
  fit = omega (arith, both_sides line ok ranked b.place k, right.balance.fits k)

  -- a turn is at a place of the front or of the back
  abbrev Stand : ℕ → Turn → Type 0
  Stand p t = IsFrontAt line k 0 fs p t ⊎ ((q : ℕ) × ((p ≡ length fs + q) × IsBackAt line c k bs q t))

  at : (p : ℕ) (t : Turn) → slice_get (turns_at line c b.place k) p ≡ Some t → Stand p t
  at p t e = elim (get_cases front back p t e) [
    | inl h ↦ inl (front_at line k 0 fs p t h)
    | inr h ↦ inr (h.0, (omega (arith, h.1, length-fronts line k 0 fs), back_at line c k bs h.0 t h.2))
  ]

  -- a task that is listed on a side
  listed : (side : Side) (p i : ℕ) → slice_get (tasks_at line b.place side k) p ≡ Some i
      → (i < tasks line) × (((seat b.place i).side ≡ side) × ((seat b.place i).station ≡ k))
  listed side p i e =
      let passes : stands side k (seat b.place i) ≡ true =
      all_at (λ j. stands side k (seat b.place j) ≡ true) (tasks_at line b.place side k) p i
      (filter_passes (λ j. stands side k (seat b.place j)) line.order) e in
      let h = stands_at side k (seat b.place i) passes in (
        all_at (λ j. j < tasks line) (tasks_at line b.place side k) p i (tasks_within line ok ranked b.place side k) e,
        (h.0, h.1),
      )

  of_task : (side : Side) (p : ℕ) (t : Turn) → slice_get (tasks_at line b.place side k) p ≡ Some t.task
      → t.station ≡ k → t.side ≡ side → t.finish ≡ t.start + time line t.task → t.finish ≤ c → IsOfTask line c b.place t
  of_task side p t e st sd lasts within =
      let h = listed side p t.task e in
      record { task = h.0; station = st ∙ sym h.1.1; side = sd ∙ sym h.1.0; lasts = lasts; within = within }

  each : (p : ℕ) (t : Turn) → slice_get (turns_at line c b.place k) p ≡ Some t → IsOfTask line c b.place t
  each p t e = elim (at p t e) [
    | inl h ↦
        of_task Front p t h.task h.station h.side h.lasts (front_within line c k fs bs fit p t h)
    | inr h ↦
        of_task Back h.0 t h.1.1.task h.1.1.station h.1.1.side h.1.1.lasts (back_within line c k fs bs fit h.0 t h.1.1)
  ]

  here : (p : ℕ) (t : Turn) → slice_get (turns_at line c b.place k) p ≡ Some t → t.station ≡ k
  here p t e = elim (at p t e) [ inl h ↦ h.station | inr h ↦ h.1.1.station ]

  differ : (side : Side) → AllPairs (λ x y. x ≢ y) (tasks_at line b.place side k)
  differ side = AllPairs-filter (λ x y. x ≢ y) (λ i. stands side k (seat b.place i)) line.order
      (order_differs line ok ranked)

  -- no task is before one that is listed before it
  rising : (side : Side) → AllPairs (λ x y. Before line y x → ⊥) (tasks_at line b.place side k)
  rising side = AllPairs-filter (λ x y. Before line y x → ⊥) (λ i. stands side k (seat b.place i)) line.order all_rise
    where
      in_order : (i j d : ℕ) → i < j → j < length line.order
          → Before line (get_or line.order j d) (get_or line.order i d) → ⊥
      in_order i j d less within before =
          let first : get_or line.order i d ≡ at_rank line i =
          same_item line.order i d 0 (omega (arith, less, within)) in
          let second : get_or line.order j d ≡ at_rank line j = same_item line.order j d 0 within in
          let B : ℕ → Type 0 = λ t. Before line t (get_or line.order i d) in
          let C : ℕ → Type 0 = λ t. Before line (at_rank line j) t in
          let known : Before line (at_rank line j) (at_rank line i) = subst C first (subst B second before) in
          omega (
            arith,
            less,
            ranked.rises j i (omega (arith, within, ranked.many))
                (omega (arith, less, within, ranked.many)) known,
          )

      all_rise : AllPairs (λ x y. Before line y x → ⊥) line.order
      all_rise = λ i j d less within before. in_order i j d less within before

  all : (i : ℕ) → i < tasks line → (seat b.place i).station ≡ k
      → (p : ℕ) × ((t : Turn) × (slice_get (turns_at line c b.place k) p ≡ Some t) × (t.task ≡ i))
  all i l e = by (seat b.place i).side refl
    where
      rank : (m : ℕ) × (m < tasks line) × (at_rank line m ≡ i)
      rank = ranked.rank i l

      ranked_there : slice_get line.order rank.0 ≡ Some i
      ranked_there = slice_get-get_or line.order rank.0 0 (omega (arith, rank.1, ranked.many)) ∙ ap Some rank.2

      by : (side : Side) → (seat b.place i).side ≡ side → (p : ℕ)
          × ((t : Turn) × (slice_get (turns_at line c b.place k) p ≡ Some t) × (t.task ≡ i))
      by Front f =
          let p = filter_has (λ j. stands Front k (seat b.place j)) line.order rank.0 i ranked_there
          (at_stands Front k (seat b.place i) f e) in
          let t = front_has line k 0 fs p.0 i p.1 in
          (p.0, (t.0, get_longer front back p.0 t.0 t.1.0, t.1.1))
      by Back f =
          let p = filter_has (λ j. stands Back k (seat b.place j)) line.order rank.0 i ranked_there
          (at_stands Back k (seat b.place i) f e) in
          let t = back_has line c k bs p.0 i p.1 in
          (length front + p.0, (t.0, get_behind front back p.0 t.0 t.1.0, t.1.1))

  -- no task is on both sides
  never_both : (p q : ℕ) (s t : Turn) → IsFrontAt line k 0 fs p s → IsBackAt line c k bs q t → s.task ≡ t.task → ⊥
  never_both p q s t h g e = sides_differ (sym (listed Front p s.task h.task).1.0 ∙ ap (λ i. (seat b.place i).side) e
      ∙ (listed Back q t.task g.task).1.0)

  once : (p q : ℕ) (s t : Turn) → slice_get (turns_at line c b.place k) p ≡ Some s
      → slice_get (turns_at line c b.place k) q ≡ Some t → s.task ≡ t.task → p ≡ q
  once p q s t e f same = by (at p s e) (at q t f)
    where
      by : Stand p s → Stand q t → p ≡ q
      by (inl h) (inl g) = place_is_one fs p q t.task (differ Front) (h.task ∙ ap Some same) g.task
      by (inl h) (inr g) = absurd (never_both p g.0 s t h g.1.1 same)
      by (inr h) (inl g) = absurd (never_both q h.0 t s g h.1.1 (sym same))
      by (inr h) (inr g) = omega (
        arith,
        h.1.0,
        g.1.0,
        place_is_one bs h.0 g.0 t.task (differ Back)
            (h.1.1.task ∙ ap Some same) g.1.1.task,
      )

  clear : (p q : ℕ) (s t : Turn) → slice_get (turns_at line c b.place k) p ≡ Some s
      → slice_get (turns_at line c b.place k) q ≡ Some t → p < q → s.finish ≤ t.start
  clear p q s t e f l = by (at p s e) (at q t f)
    where
      by : Stand p s → Stand q t → s.finish ≤ t.start
      by (inl h) (inl g) = front_clear line c k fs bs fit p q s t h g l
      by (inl h) (inr g) = both_clear line c k fs bs fit p g.0 s t h g.1.1
      by (inr h) (inl g) = absurd (omega (arith, l, h.1.0, slice_get_within fs q t.task g.task))
      by (inr h) (inr g) = back_clear line c k fs bs fit h.0 g.0 s t h.1.1 g.1.1 (omega (arith, l, h.1.0, g.1.0))

  meet : (p : ℕ) (s t : Turn) → slice_get (turns_at line c b.place k) p ≡ Some s
      → slice_get (turns_at line c b.place k) (p + 1) ≡ Some t → s.side ≡ t.side → s.finish ≡ t.start
  meet p s t e f same = by (at p s e) (at (p + 1) t f)
    where
      by : Stand p s → Stand (p + 1) t → s.finish ≡ t.start
      by (inl h) (inl g) = front_meet line c k fs bs fit p s t h g
      by (inl h) (inr g) = absurd (sides_differ (sym h.side ∙ same ∙ g.1.1.side))
      by (inr h) (inl g) = absurd (sides_differ (sym g.side ∙ sym same ∙ h.1.1.side))
      by (inr h) (inr g) =
          let next : g.0 ≡ h.0 + 1 = omega (arith, h.1.0, g.1.0) in
          let P : ℕ → Type 0 = λ n. IsBackAt line c k bs n t in
          back_meet line c k fs bs fit h.0 s t h.1.1 (subst P next g.1.1)

  begins : (t : Turn) → slice_get (turns_at line c b.place k) 0 ≡ Some t → t.side ≡ Front → t.start ≡ 0
  begins t e front = by (at 0 t e)
    where
      by : Stand 0 t → t.start ≡ 0
      by (inl h) = front_first line c k fs bs fit t h
      by (inr h) = absurd (sides_differ (sym front ∙ h.1.1.side))

  ends : (p : ℕ) (s : Turn) → slice_get (turns_at line c b.place k) p ≡ Some s → s.side ≡ Back
      → p + 1 ≡ length (turns_at line c b.place k) → s.finish ≡ c
  ends p s e side last = by (at p s e)
    where
      by : Stand p s → s.finish ≡ c
      by (inl h) = absurd (sides_differ (sym h.side ∙ side))
      by (inr h) = back_last line c k fs bs fit h.0 s h.1.1 (omega (
        arith,
        h.1.0,
        last,
        length-append front back,
        length-fronts line k 0 fs,
        length-backs line c k bs,
      ))

  -- of two tasks of a side, the one that is before the other is listed first
  listed_first : (side : Side) (p q i j : ℕ) → slice_get (tasks_at line b.place side k) p ≡ Some i
      → slice_get (tasks_at line b.place side k) q ≡ Some j → Before line i j → p < q
  listed_first side p q i j e f before = elim (cases_lt p q) [
    | inl l ↦ l
    | inr g ↦ elim (cases_lt q p) [
      | inl l ↦ absurd (pair_at (λ x y. Before line y x → ⊥) (tasks_at line b.place side k) q p j i (rising side) f e l
          before)
      | inr m ↦
          let same : p ≡ q = omega (arith, g, m) in
          let P : ℕ → Type 0 = λ n. slice_get (tasks_at line b.place side k) n ≡ Some j in
          let there : slice_get (tasks_at line b.place side k) p ≡ Some j = subst P (sym same) f in
          let one : i ≡ j = cc (e, there) in
          absurd (ok.not_itself j (subst (λ t. Before line t j) one before))
    ]
  ]

  precedence : (p q : ℕ) (s t : Turn) → slice_get (turns_at line c b.place k) p ≡ Some s
      → slice_get (turns_at line c b.place k) q ≡ Some t → Before line s.task t.task → p < q
  precedence p q s t e f before = by (at p s e) (at q t f)
    where
      member : (side : Side) (m i : ℕ) → slice_get (tasks_at line b.place side k) m ≡ Some i → In (all_tasks line) i
      member side m i h = In-all line i ok.small (listed side m i h).0

      by : Stand p s → Stand q t → p < q
      by (inl h) (inl g) = listed_first Front p q s.task t.task h.task g.task before
      by (inl h) (inr g) = omega (arith, g.1.0, slice_get_within fs p s.task h.task)
      by (inr h) (inl g) =
          let here : In (all_tasks line) s.task = member Back h.0 s.task h.1.1.task in
          let there : In (all_tasks line) t.task = member Front q t.task g.task in
          absurd (never_turned kind (seat b.place s.task) (seat b.place t.task) (right.sides s.task here)
          (right.balance.keeps s.task t.task here there before)
          (listed Back h.0 s.task h.1.1.task).1.0 (listed Front q t.task g.task).1.0)
      by (inr h) (inr g) =
          omega (arith, h.1.0, g.1.0, listed_first Back h.0 g.0 s.task t.task h.1.1.task g.1.1.task before)

  pub are_at : AreAt line c b.place k (turns_at line c b.place k)
  are_at = record {
    each = each;
    here = here;
    all = all;
    once = once;
    clear = clear;
    meet = meet;
    begins = begins;
    ends = ends;
    precedence = precedence;
  }

  -- the times of both sides fit into the cycle
  pub both_fit : times_of line fs + times_of line bs ≤ c
  both_fit = fit
