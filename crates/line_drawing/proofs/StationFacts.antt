-- The segments of each station of a right balance are true, and so are the numbers of the picture.
use Rattle.std.proofs.Common.{◌≡◌, ◌≢◌, ℕ, zero, suc, ◌+◌, ◌<◌, ◌≤◌, Bool, true, false, cond, nat_eq, List, [], ◌∷◌}
use Rattle.std.proofs.Common.{◌++◌, length, get_or, Some, refl, sym, ap, ◌∙◌, subst, ◌⊎◌, inl, inr, arith, append-nil}
use Rattle.std.specs.Prelude.{All, filter, slice_get}
use Rattle.std.specs.List.{AllPairs}
use Rattle.std.proofs.lemmas.Bool.{false≢true, cases_lt, and_parts, and_from}
use Rattle.std.proofs.lemmas.Bool.Decides.{nat_tests}
use Rattle.std.proofs.lemmas.List.Elements.{filter-append, filter_passes}
use Rattle.std.proofs.lemmas.List.Kept.{AllPairs-filter}
use Rattle.std.proofs.lemmas.Option.{get_or_from_slice_get, slice_get_within, slice_get-get_or}
use Rattle.line_instance.specs.Truths.{In}
use Rattle.line_instance.specs.Line.{Line, IsLine, IsRanked, Before, at_rank, tasks, time}
use Rattle.line_rules.specs.Balance.{IsRight, IsSide, Keeps, all_tasks, seat}
use Rattle.line_rules.specs.declared.types.LineKind.{LineKind}
use Rattle.line_rules.specs.declared.types.LineKind.TheVariants.{Straight, U}
use Rattle.line_rules.specs.declared.types.Side.{Side}
use Rattle.line_rules.specs.declared.types.Side.TheVariants.{Front, Back}
use Rattle.line_rules.specs.declared.types.Seatplace.{Seatplace}
use Rattle.line_rules.specs.declared.types.Balance.{Balance as Assignment}
use Rattle.line_rules.proofs.All.{In-all}
use Rattle.line_rules.proofs.ListFacts.{get_longer}
use Rattle.line_drawing.specs.declared.segments.Segment.{Segment}
use Rattle.line_drawing.specs.Segments.{backs_of, end_of, fronts_from, is_side, segments_at, stands, tasks_at, times_of}
use Rattle.line_drawing.specs.Rows.{is_of}
use Rattle.line_drawing.specs.Facts.{AreTrue, IsOfTask, on}
use Rattle.line_drawing.proofs.ListedTasks.{same_item, both_sides, order_differs, tasks_within}
use Rattle.line_drawing.proofs.SegmentFacts.{IsBackAt, IsFrontAt, back_at, back_backs, back_clear, back_fronts}
use Rattle.line_drawing.proofs.SegmentFacts.{back_has, back_last, back_length, back_meet, back_within, both_clear}
use Rattle.line_drawing.proofs.SegmentFacts.{front_at, front_backs, front_clear, front_first, front_fronts, front_has}
use Rattle.line_drawing.proofs.SegmentFacts.{front_length, front_meet, front_within, get_behind, get_cases}
use Rattle.line_drawing.proofs.SegmentFacts.{length-backs, length-fronts}

-- an item of a list of which all pass, passes
pub all_at : {X : Type 0} (P : X → Type 0) (xs : List X) (p : ℕ) (x : X) → All P xs → slice_get xs p ≡ Some x → P x
all_at P xs p x h e = subst P (get_or_from_slice_get xs p x x e) (h p x (slice_get_within xs p x e))

-- two items of a list whose pairs pass, the earlier one first
pub pair_at : {X : Type 0} (R : X → X → Type 0) (xs : List X) (p q : ℕ) (x y : X) → AllPairs R xs → slice_get xs p ≡ Some x
    → slice_get xs q ≡ Some y → p < q → R x y
pair_at R xs p q x y h e f l =
    let r : R (get_or xs p x) (get_or xs q x) = h p q x l (slice_get_within xs q y f) in
    subst (λ z. R z y) (get_or_from_slice_get xs p x x e) (subst (λ z. R (get_or xs p x) z)
    (get_or_from_slice_get xs q y x f) r)

-- of different items each has one place
pub place_is_one : {X : Type 0} (xs : List X) (p q : ℕ) (x : X) → AllPairs (λ x y. x ≢ y) xs → slice_get xs p ≡ Some x
    → slice_get xs q ≡ Some x → p ≡ q
place_is_one xs p q x h e f = elim (cases_lt p q) [
  | inl l ↦ absurd (pair_at (λ x y. x ≢ y) xs p q x x h e f l refl)
  | inr g ↦ elim (cases_lt q p) [
    | inl l ↦ absurd (pair_at (λ x y. x ≢ y) xs q p x x h f e l refl)
    | inr k ↦ omega (arith, g, k)
  ]
]

-- an item that passes is among those that do
pub filter_has : (f : ℕ → Bool) (xs : List ℕ) (k x : ℕ) → slice_get xs k ≡ Some x → f x ≡ true
    → (p : ℕ) × (slice_get (filter f xs) p ≡ Some x)
filter_has f [] k x e t = absurd (cc)
filter_has f (y ∷ ys) zero x e t = by (f y) refl
  where
    same : y ≡ x
    same = cc e

    by : (b : Bool) → f y ≡ b → (p : ℕ) × (slice_get (cond b (y ∷ filter f ys) (filter f ys)) p ≡ Some x)
    by true s = (0, e)
    by false s = absurd (false≢true (sym s ∙ ap f same ∙ t))
filter_has f (y ∷ ys) (suc k) x e t = by (f y) (filter_has f ys k x e t)
  where
    by : (b : Bool) → (p : ℕ) × (slice_get (filter f ys) p ≡ Some x)
        → (p : ℕ) × (slice_get (cond b (y ∷ filter f ys) (filter f ys)) p ≡ Some x)
    by true h = (suc h.0, h.1)
    by false h = h

pub side_is : (a b : Side) → is_side a b ≡ true → a ≡ b
side_is Front Front e = refl
side_is Front Back e = absurd (false≢true e)
side_is Back Front e = absurd (false≢true e)
side_is Back Back e = refl

pub is_same_side : (a b : Side) → a ≡ b → is_side a b ≡ true
is_same_side Front Front e = refl
is_same_side Front Back e = absurd (cc)
is_same_side Back Front e = absurd (cc)
is_same_side Back Back e = refl

pub sides_differ : Front ≡ Back → ⊥
sides_differ e = absurd (cc)

-- what is at a station on a side
pub stands_at : (side : Side) (k : ℕ) (p : Seatplace) → stands side k p ≡ true → (p.side ≡ side) × (p.station ≡ k)
stands_at side k p e =
    let q : (is_side p.side side ≡ true) × (nat_eq p.station k ≡ true) =
    and_parts (is_side p.side side) (nat_eq p.station k) e in
    (side_is p.side side q.0, grind (arith, nat_tests, q.1))

pub at_stands : (side : Side) (k : ℕ) (p : Seatplace) → p.side ≡ side → p.station ≡ k → stands side k p ≡ true
at_stands side k p e f = and_from (is_side p.side side) (nat_eq p.station k) (is_same_side p.side side e)
    (grind (arith, nat_tests, f))

-- a later task's place keeps the precedence, so the earlier one isn't at the back of its station where the later one
-- is in front
pub never_turned : (kind : LineKind) (p q : Seatplace) → IsSide kind p.side → Keeps kind p q → p.side ≡ Back
    → q.side ≡ Front → ⊥
never_turned Straight p q side keeps back front = sides_differ (sym side ∙ back)
never_turned U p q side keeps back front = sides_differ (sym (keeps.front front).0 ∙ back)

module _ (kind : LineKind) (line : Line) (c : ℕ) (b : Assignment) (ok : IsLine line) (ranked : IsRanked line)
    (some : 1 ≤ c) (right : IsRight kind line c b) (k : ℕ) where
  abbrev fs : List ℕ
  fs = tasks_at line b.place Front k

  abbrev bs : List ℕ
  bs = tasks_at line b.place Back k

  abbrev front : List Segment
  front = fronts_from line c 0 fs

  abbrev back : List Segment
  back = backs_of line c bs

  fit : times_of line fs + times_of line bs ≤ c
  fit = omega (arith, both_sides line ok ranked b.place k, right.balance.fits k)

  -- a segment is at a place of the front or of the back
  at : (p : ℕ) (s : Segment) → slice_get (segments_at line c b.place k) p ≡ Some s
      → IsFrontAt line c 0 fs p s ⊎ ((q : ℕ) × ((p ≡ length fs + q) × IsBackAt line c bs q s))
  at p s e = elim (get_cases front back p s e) [
    | inl h ↦ inl (front_at line c 0 fs p s h)
    | inr h ↦ inr (h.0, (omega (arith, h.1, length-fronts line c 0 fs), back_at line c bs h.0 s h.2))
  ]

  -- a task that is listed on a side
  listed : (side : Side) (p i : ℕ) → slice_get (tasks_at line b.place side k) p ≡ Some i
      → (i < tasks line) × (((seat b.place i).side ≡ side) × ((seat b.place i).station ≡ k))
  listed side p i e =
      let passes : stands side k (seat b.place i) ≡ true =
      all_at (λ j. stands side k (seat b.place j) ≡ true) (tasks_at line b.place side k) p i
      (filter_passes (λ j. stands side k (seat b.place j)) line.order) e in
      let h = stands_at side k (seat b.place i) passes in (
        all_at (λ j. j < tasks line) (tasks_at line b.place side k) p i (tasks_within line ok ranked b.place side k) e,
        (h.0, h.1),
      )

  of_task : (side : Side) (p : ℕ) (s : Segment) → slice_get (tasks_at line b.place side k) p ≡ Some s.task
      → s.side ≡ side → s.time ≡ time line s.task → IsOfTask line b.place k s
  of_task side p s e f t =
      let h = listed side p s.task e in
      record { task = h.0; station = h.1.1; side = f ∙ sym h.1.0; time = t }

  each : (p : ℕ) (s : Segment) → slice_get (segments_at line c b.place k) p ≡ Some s → IsOfTask line b.place k s
  each p s e = elim (at p s e) [
    | inl h ↦ of_task Front p s h.task h.side h.lasts
    | inr h ↦ of_task Back h.0 s h.1.1.task h.1.1.side h.1.1.lasts
  ]

  differ : (side : Side) → AllPairs (λ x y. x ≢ y) (tasks_at line b.place side k)
  differ side = AllPairs-filter (λ x y. x ≢ y) (λ i. stands side k (seat b.place i)) line.order
      (order_differs line ok ranked)

  -- no task is before one that is listed before it
  rising : (side : Side) → AllPairs (λ x y. Before line y x → ⊥) (tasks_at line b.place side k)
  rising side = AllPairs-filter (λ x y. Before line y x → ⊥) (λ i. stands side k (seat b.place i)) line.order all_rise
    where
      in_order : (i j d : ℕ) → i < j → j < length line.order
          → Before line (get_or line.order j d) (get_or line.order i d) → ⊥
      in_order i j d less within before =
          let first : get_or line.order i d ≡ at_rank line i =
          same_item line.order i d 0 (omega (arith, less, within)) in
          let second : get_or line.order j d ≡ at_rank line j = same_item line.order j d 0 within in
          let B : ℕ → Type 0 = λ t. Before line t (get_or line.order i d) in
          let C : ℕ → Type 0 = λ t. Before line (at_rank line j) t in
          let known : Before line (at_rank line j) (at_rank line i) = subst C first (subst B second before) in
          omega (
            arith,
            less,
            ranked.rises j i (omega (arith, within, ranked.many))
                (omega (arith, less, within, ranked.many)) known,
          )

      all_rise : AllPairs (λ x y. Before line y x → ⊥) line.order
      all_rise = λ i j d less within before. in_order i j d less within before

  all : (i : ℕ) → i < tasks line → (seat b.place i).station ≡ k
      → (p : ℕ) × ((s : Segment) × (slice_get (segments_at line c b.place k) p ≡ Some s) × (s.task ≡ i))
  all i l e = by (seat b.place i).side refl
    where
      rank : (m : ℕ) × (m < tasks line) × (at_rank line m ≡ i)
      rank = ranked.rank i l

      ranked_there : slice_get line.order rank.0 ≡ Some i
      ranked_there = slice_get-get_or line.order rank.0 0 (omega (arith, rank.1, ranked.many)) ∙ ap Some rank.2

      by : (side : Side) → (seat b.place i).side ≡ side → (p : ℕ)
          × ((s : Segment) × (slice_get (segments_at line c b.place k) p ≡ Some s) × (s.task ≡ i))
      by Front f =
          let p = filter_has (λ j. stands Front k (seat b.place j)) line.order rank.0 i ranked_there
          (at_stands Front k (seat b.place i) f e) in
          let s = front_has line c 0 fs p.0 i p.1 in
          (p.0, (s.0, get_longer front back p.0 s.0 s.1.0, s.1.1))
      by Back f =
          let p = filter_has (λ j. stands Back k (seat b.place j)) line.order rank.0 i ranked_there
          (at_stands Back k (seat b.place i) f e) in
          let s = back_has line c bs p.0 i p.1 in
          (length front + p.0, (s.0, get_behind front back p.0 s.0 s.1.0, s.1.1))

  -- no task is on both sides
  never_both : (p q : ℕ) (s r : Segment) → IsFrontAt line c 0 fs p s → IsBackAt line c bs q r → s.task ≡ r.task → ⊥
  never_both p q s r h g e = sides_differ (sym (listed Front p s.task h.task).1.0 ∙ ap (λ i. (seat b.place i).side) e
      ∙ (listed Back q r.task g.task).1.0)

  once : (p q : ℕ) (s r : Segment) → slice_get (segments_at line c b.place k) p ≡ Some s
      → slice_get (segments_at line c b.place k) q ≡ Some r → s.task ≡ r.task → p ≡ q
  once p q s r e f t = by (at p s e) (at q r f)
    where
      by : IsFrontAt line c 0 fs p s ⊎ ((q : ℕ) × ((p ≡ length fs + q) × IsBackAt line c bs q s))
          → IsFrontAt line c 0 fs q r ⊎ ((m : ℕ) × ((q ≡ length fs + m) × IsBackAt line c bs m r)) → p ≡ q
      by (inl h) (inl g) = place_is_one fs p q r.task (differ Front) (h.task ∙ ap Some t) g.task
      by (inl h) (inr g) = absurd (never_both p g.0 s r h g.1.1 t)
      by (inr h) (inl g) = absurd (never_both q h.0 r s g h.1.1 (sym t))
      by (inr h) (inr g) = omega (
        arith,
        h.1.0,
        g.1.0,
        place_is_one bs h.0 g.0 r.task (differ Back)
            (h.1.1.task ∙ ap Some t) g.1.1.task,
      )

  clear : (p q : ℕ) (s r : Segment) → slice_get (segments_at line c b.place k) p ≡ Some s
      → slice_get (segments_at line c b.place k) q ≡ Some r → p < q → end_of s ≤ r.x
  clear p q s r e f l = by (at p s e) (at q r f)
    where
      by : IsFrontAt line c 0 fs p s ⊎ ((q : ℕ) × ((p ≡ length fs + q) × IsBackAt line c bs q s))
          → IsFrontAt line c 0 fs q r ⊎ ((m : ℕ) × ((q ≡ length fs + m) × IsBackAt line c bs m r)) → end_of s ≤ r.x
      by (inl h) (inl g) = front_clear line c some fs bs fit p q s r h g l
      by (inl h) (inr g) = both_clear line c some fs bs fit p g.0 s r h g.1.1
      by (inr h) (inl g) = absurd (omega (arith, l, h.1.0, slice_get_within fs q r.task g.task))
      by (inr h) (inr g) = back_clear line c some fs bs fit h.0 g.0 s r h.1.1 g.1.1 (omega (arith, l, h.1.0, g.1.0))

  -- of two tasks of a side, the one that is before the other is listed first
  listed_first : (side : Side) (p q i j : ℕ) → slice_get (tasks_at line b.place side k) p ≡ Some i
      → slice_get (tasks_at line b.place side k) q ≡ Some j → Before line i j → p < q
  listed_first side p q i j e f before = elim (cases_lt p q) [
    | inl l ↦ l
    | inr g ↦ elim (cases_lt q p) [
      | inl l ↦ absurd (pair_at (λ x y. Before line y x → ⊥) (tasks_at line b.place side k) q p j i (rising side) f e l
          before)
      | inr m ↦
          let same : p ≡ q = omega (arith, g, m) in
          let P : ℕ → Type 0 = λ n. slice_get (tasks_at line b.place side k) n ≡ Some j in
          let there : slice_get (tasks_at line b.place side k) p ≡ Some j = subst P (sym same) f in
          let one : i ≡ j = cc (e, there) in
          absurd (ok.not_itself j (subst (λ t. Before line t j) one before))
    ]
  ]

  ordered : (p q : ℕ) (s r : Segment) → slice_get (segments_at line c b.place k) p ≡ Some s
      → slice_get (segments_at line c b.place k) q ≡ Some r → Before line s.task r.task → end_of s ≤ r.x
  ordered p q s r e f before = by (at p s e) (at q r f)
    where
      member : (side : Side) (m i : ℕ) → slice_get (tasks_at line b.place side k) m ≡ Some i → In (all_tasks line) i
      member side m i h = In-all line i ok.small (listed side m i h).0

      by : IsFrontAt line c 0 fs p s ⊎ ((q : ℕ) × ((p ≡ length fs + q) × IsBackAt line c bs q s))
          → IsFrontAt line c 0 fs q r ⊎ ((m : ℕ) × ((q ≡ length fs + m) × IsBackAt line c bs m r)) → end_of s ≤ r.x
      by (inl h) (inl g) = front_clear line c some fs bs fit p q s r h g
          (listed_first Front p q s.task r.task h.task g.task before)
      by (inl h) (inr g) = both_clear line c some fs bs fit p g.0 s r h g.1.1
      by (inr h) (inl g) =
          let here : In (all_tasks line) s.task = member Back h.0 s.task h.1.1.task in
          let there : In (all_tasks line) r.task = member Front q r.task g.task in
          absurd (never_turned kind (seat b.place s.task) (seat b.place r.task) (right.sides s.task here)
          (right.balance.keeps s.task r.task here there before)
          (listed Back h.0 s.task h.1.1.task).1.0 (listed Front q r.task g.task).1.0)
      by (inr h) (inr g) =
          back_clear line c some fs bs fit h.0 g.0 s r h.1.1 g.1.1
          (listed_first Back h.0 g.0 s.task r.task h.1.1.task g.1.1.task before)

  on_front : on Front (segments_at line c b.place k) ≡ front
  on_front =
      filter-append (is_of Front) front back
      ∙ ap (λ (t : List Segment). t ++ filter (is_of Front) back) (front_fronts line c 0 fs)
      ∙ ap (λ (t : List Segment). front ++ t) (front_backs line c bs)
      ∙ append-nil front

  on_back : on Back (segments_at line c b.place k) ≡ back
  on_back =
      filter-append (is_of Back) front back
      ∙ ap (λ (t : List Segment). t ++ filter (is_of Back) back) (back_fronts line c 0 fs)
      ∙ back_backs line c bs

  pub true_at : AreTrue line c b.place k (segments_at line c b.place k)
  true_at = record {
    each = each;
    all = all;
    once = once;
    front_begins = λ s e. front_first line c some fs bs fit s
        (front_at line c 0 fs 0 s (subst (λ t. slice_get t 0 ≡ Some s) on_front e));
    front_meets = λ p s r e f. front_meet line c some fs bs fit p s r
        (front_at line c 0 fs p s (subst (λ t. slice_get t p ≡ Some s) on_front e))
        (front_at line c 0 fs (p + 1) r (subst (λ t. slice_get t (p + 1) ≡ Some r) on_front f));
    back_meets = λ p s r e f. back_meet line c some fs bs fit p s r
        (back_at line c bs p s (subst (λ t. slice_get t p ≡ Some s) on_back e))
        (back_at line c bs (p + 1) r (subst (λ t. slice_get t (p + 1) ≡ Some r) on_back f));
    back_ends = λ p s e f. back_last line c some fs bs fit p s
        (back_at line c bs p s (subst (λ t. slice_get t p ≡ Some s) on_back e))
        (f ∙ ap length on_back ∙ length-backs line c bs);
    within = λ p s e. elim (at p s e) [
      | inl h ↦ front_within line c some fs bs fit p s h
      | inr h ↦ back_within line c some fs bs fit h.0 s h.1.1
    ];
    clear = clear;
    lengths = λ p s e. elim (at p s e) [
      | inl h ↦ front_length line c some fs bs fit p s h
      | inr h ↦ back_length line c some fs bs fit h.0 s h.1.1
    ];
    ordered = ordered;
  }
