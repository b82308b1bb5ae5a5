-- When a task may join a side of a load, and what joining and leaving do to it.
use Rattle.std.proofs.Common.{◌≡◌, ◌≢◌, ℕ, ◌+◌, ◌*◌, ◌<◌, ◌≤◌, Bool, true, false, cond, ◌&&◌, not, nat_eq, List, length}
use Rattle.std.proofs.Common.{get_or, set, refl, sym, ap, ◌∙◌, subst, ◌⊎◌, inl, inr, arith}
use Rattle.line_instance.specs.Truths.{In, IsSubset}
use Rattle.line_instance.proofs.Members.{In-set_same, In-set_kept, In-set_cases}
use Rattle.line_instance.specs.Line.{Line, IsLine, IsTaskSet, IsRanked, tasks, has, time, Apart}
use Rattle.line_instance.specs.Sums.{sum_where, weigh}
use Rattle.line_instance.proofs.Sums.{weigh-le, weigh-more, weigh-split, weigh-one}
use Rattle.line_rules.specs.Loads.{IsLoad, IsFull, taken}
use Rattle.line_rules.specs.Order.{truth}
use Rattle.line_rules.specs.declared.types.Mode.{Mode}
use Rattle.line_rules.specs.declared.types.Side.{Side}
use Rattle.line_rules.specs.declared.types.Side.TheVariants.{Front, Back}
use Rattle.line_rules.specs.declared.types.Load.{Load}
use Rattle.line_rules.specs.inner.Scan.{IsPart}
use Rattle.line_rules.proofs.NextLoad.{whole, front_in, back_in, taken_in}
use Rattle.line_rules.specs.Sides.{part, changed, Ahead, fills, spot, task_at, MayJoin}
use Rattle.line_rules.specs.Sides.{AreSets}
use Rattle.line_rules.proofs.SideFacts.{part_with, set_of, sets_with, set_more, part_taken, taken_part, other_taken}
use Rattle.line_rules.proofs.SideFacts.{unfilled, suits_with, spot_rises, spot_within, truth_at, task_within}
use Rattle.line_rules.proofs.SideFacts.{task_placed, ahead_below}
use Rattle.std.proofs.lemmas.Bool.{cases_Bool, cases_eq, false≢true, and_from, ne_eqb, eq-eqb, false_from_ne_true}

pub pair_of : {line : Line} {c : ℕ} {mode : Mode} {R : List Bool} {l : Load} → IsPart line c mode R l → AreSets line l
pair_of l = record { front = l.front; back = l.back }

-- the sum with one task more
pub sum_more : (line : Line) (p q : ℕ → Bool) (t : ℕ) → t < tasks line → p t ≡ true → q t ≡ false
    → ((i : ℕ) → i ≢ t → p i ≡ q i) → sum_where p line.times ≡ sum_where q line.times + time line t
sum_more line p q t l here gone other =
    weigh-more (λ x. x) p q t gone other line.times l ∙ ap (λ b. sum_where q line.times + cond b (time line t) 0) here

weigh-add : (p q : ℕ → Bool) (k : ℕ) (ts : List ℕ) → k < length ts → ((i : ℕ) → p i ≡ true → q i ≡ true) → q k ≡ true
    → p k ≡ false
    → weigh (λ t. t) p ts + get_or ts k 0 ≤ weigh (λ t. t) q ts
weigh-add p q k ts l sub here gone =
    omega (
      arith,
      weigh-split (λ t. t) q (λ i. nat_eq i k) ts,
      weigh-one (λ t. t) (λ i. q i && nat_eq i k) k ts l (and_from (q k) (nat_eq k k) here (eq-eqb k k refl)),
      weigh-le (λ t. t) p (λ i. q i && not (nat_eq i k))
          (λ i e. and_from (q i) (not (nat_eq i k)) (sub i e)
          (ap not (ne_eqb i k (λ s. false≢true (sym gone ∙ (ap p (sym s) ∙ e)))))) ts,
    )

-- a side is closed under what is ahead
pub closed : {line : Line} {c : ℕ} {mode : Mode} {R : List Bool} (s : Side) (l : Load) → IsPart line c mode R l
    → (i j : ℕ) → In R i → In (part s l) j → Ahead line s i j → In (part s l) i
closed Front l h i j m g w = h.before i j m g w
closed Back l h i j m g w = h.after j i g m w

-- no task is ahead of itself
pub not_ahead : (line : Line) → IsLine line → (s : Side) (i : ℕ) → Ahead line s i i → ⊥
not_ahead line ok Front i w = ok.not_itself i w
not_ahead line ok Back i w = ok.not_itself i w

-- what a changed side has
pub more_cases : (s : Side) (l : Load) (t i : ℕ) → In (taken (changed s l t true)) i → In (taken l) i ⊎ (i ≡ t)
more_cases s l t i h = elim (cases_eq i t) [ inl e ↦ inr e | inr n ↦ inl (sym (other_taken s l t true i n) ∙ h) ]

pub more_kept : (s : Side) (l : Load) (t i : ℕ) → In (part s l) i → In (part s (changed s l t true)) i
more_kept s l t i m = ap (λ x. has x i) (part_with s l (set (part s l) t true)) ∙ In-set_kept (part s l) t i m

pub more_side : (s : Side) (l : Load) (t i : ℕ) → In (part s (changed s l t true)) i → In (part s l) i ⊎ (i ≡ t)
more_side s l t i m = In-set_cases (part s l) t i (sym (ap (λ x. has x i) (part_with s l (set (part s l) t true))) ∙ m)

pub more_here : (s : Side) (l : Load) (t : ℕ) → t < length (part s l) → In (part s (changed s l t true)) t
more_here s l t h = ap (λ x. has x t) (part_with s l (set (part s l) t true)) ∙ In-set_same (part s l) t h

more_apart : (s t : Side) (l : Load) (x i : ℕ) → In (part t (changed s l x true)) i
    → In (part t l) i ⊎ ((i ≡ x) × (s ≡ t))
more_apart Front Front l x i m = elim (In-set_cases l.front x i m) [ inl a ↦ inl a | inr e ↦ inr (e, refl) ]
more_apart Front Back l x i m = inl m
more_apart Back Front l x i m = inl m
more_apart Back Back l x i m = elim (In-set_cases l.back x i m) [ inl a ↦ inl a | inr e ↦ inr (e, refl) ]

front_back : Front ≡ Back → ⊥
front_back e = cc

kept : (s x : Side) (l : Load) (t i : ℕ) → In (part x l) i → In (part x (changed s l t true)) i
kept Front Front l t i m = In-set_kept l.front t i m
kept Front Back l t i m = m
kept Back Front l t i m = m
kept Back Back l t i m = In-set_kept l.back t i m

module _ (line : Line) (ok : IsLine line) (c : ℕ) (mode : Mode) (R : List Bool) (s : Side) (now : Load) (t : ℕ)
    (is_task : t < tasks line) where
  long : AreSets line now → t < length (part s now)
  long h = let i : IsTaskSet line (part s now) = set_of s now h in omega (arith, i.truths, ok.small)

  here : AreSets line now → In (part s (changed s now t true)) t
  here h = more_here s now t (long h)

  -- the time of a task that joins
  pub sum_joined : AreSets line now → has (taken now) t ≡ false
      → sum_where (has (taken (changed s now t true))) line.times ≡ sum_where (has (taken now)) line.times + time line t
  sum_joined sets gone =
      sum_more line (has (taken (changed s now t true))) (has (taken now)) t is_task
      (part_taken s (changed s now t true) t (here sets)) gone (other_taken s now t true)

  module _ (h : IsPart line c mode R now) (may : MayJoin line c R s now t) where
    closed_joined : (x : Side) (i j : ℕ) → In R i → In (part x (changed s now t true)) j → Ahead line x i j
        → In (part x (changed s now t true)) i
    closed_joined x i j m g w = elim (more_apart s x now t j g) [
      | inl y ↦ kept s x now t i (closed x now h i j m y w)
      | inr e ↦ (
          let P : ℕ → Type 0 = λ k. Ahead line x i k in
          let Q : Side → Type 0 = λ y. Ahead line y i t → In (part y now) i in
          kept s x now t i (subst Q e.1 (may.ready i m) (subst P e.0 w)))
    ]

    not_taken : (i : ℕ) → i ≡ t → In (taken now) i → ⊥
    not_taken i e m = false≢true (sym may.new ∙ (ap (λ k. has (taken now) k) (sym e) ∙ m))

    parted_joined : (i j : ℕ) → In (taken (changed s now t true)) i → In (taken (changed s now t true)) j
        → Apart line i j → ⊥
    parted_joined i j m g a = elim (more_cases s now t i m) [
      | inl x ↦ elim (more_cases s now t j g) [
        | inl y ↦ h.parted i j x y a
        | inr e ↦ may.parted i x (let P : ℕ → Type 0 = λ n. Apart line i n in subst P e a)
      ]
      | inr d ↦ elim (more_cases s now t j g) [
        | inl y ↦ may.parted j y (ok.both_ways t j (let P : ℕ → Type 0 = λ n. Apart line n j in subst P d a))
        | inr e ↦ ok.of_two t (let P : ℕ → Type 0 = λ n. Apart line n t in
            subst P d (let Q : ℕ → Type 0 = λ n. Apart line i n in subst Q e a))
      ]
    ]

    disjoint_joined : (i : ℕ) → In (changed s now t true).front i → In (changed s now t true).back i → ⊥
    disjoint_joined i a b = elim (more_apart s Front now t i a) [
      | inl x ↦ elim (more_apart s Back now t i b) [
        | inl y ↦ h.disjoint i x y
        | inr f ↦ not_taken i f.0 (part_taken Front now i x)
      ]
      | inr e ↦ elim (more_apart s Back now t i b) [
        | inl y ↦ not_taken i e.0 (part_taken Back now i y)
        | inr f ↦ front_back (sym e.1 ∙ f.1)
      ]
    ]

    -- a load, or nothing, with a task that may join is a load
    pub joins : fills mode s ≡ true → IsLoad line c mode R (changed s now t true)
    joins filled =
        let sets : AreSets line (changed s now t true) = sets_with line s now (set (part s now) t true) (pair_of h)
        (set_more line (part s now) t is_task (set_of s now (pair_of h))) in
        record {
          front = sets.front;
          back = sets.back;
          suits = suits_with mode s now (set (part s now) t true) filled h.suits;
          within = λ i m. elim (more_cases s now t i m) [
            | inl x ↦ h.within i x
            | inr e ↦
                (let P : ℕ → Type 0 = λ x. In R x in subst P (sym e) may.within)
          ];
          disjoint = disjoint_joined;
          some = (t, part_taken s (changed s now t true) t (here (pair_of h)));
          fits = omega (arith, may.fits, sum_joined (pair_of h) may.new);
          parted = parted_joined;
          before = λ i j m g w. closed_joined Front i j m g w;
          after = λ i j m g w. closed_joined Back j i g m w;
        }

  -- a task with which the load is still one may join
  pub may_of : AreSets line now → In R t → has (taken now) t ≡ false → IsLoad line c mode R (changed s now t true)
      → MayJoin line c R s now t
  may_of sets m new load =
      let mine : In (taken (changed s now t true)) t = part_taken s (changed s now t true) t (here sets) in
      record {
        within = m;
        new = new;
        fits = omega (arith, load.fits, sum_joined sets new);
        parted = λ j g a. load.parted j t (other_taken s now t true j
            (λ e. false≢true (sym new ∙ (ap (λ k. has (taken now) k) (sym e) ∙ g))) ∙ g) mine a;
        ready = λ j g w. elim (more_side s now t j (closed s (changed s now t true) (whole load) j t g (here sets) w)) [
          | inl x ↦ x
          | inr e ↦ absurd (not_ahead line ok s t (let P : ℕ → Type 0 = λ k. Ahead line s k t in subst P e w))
        ];
      }

pub tasks_of : {line : Line} {c : ℕ} {mode : Mode} {R : List Bool} {l : Load} (s : Side) → IsLoad line c mode R l
    → (i : ℕ) → In (part s l) i → i < tasks line
tasks_of Front l i m = l.front.tasks i m
tasks_of Back l i m = l.back.tasks i m

module _ (line : Line) (ok : IsLine line) (c : ℕ) (mode : Mode) (R : List Bool) (is_set : IsTaskSet line R) (l : Load)
    (load : IsLoad line c mode R l) where
  filled_with : (s : Side) (i : ℕ) → In R i → IsLoad line c mode R (changed s l i true) → fills mode s ≡ true
  filled_with s i m new = elim (cases_Bool (fills mode s)) [
    | inl e ↦ e
    | inr e ↦ absurd (unfilled mode s (changed s l i true) e new.suits i
        (here line ok c mode R s l i (is_set.tasks i m) (pair_of (whole load))))
  ]

  -- a load is full where no task may join a side that loads of the mode fill
  pub full_of : ((s : Side) (i : ℕ) → fills mode s ≡ true → MayJoin line c R s l i → ⊥) → IsFull line c mode R l
  full_of none = record {
    front = λ i m n new. none Front i (filled_with Front i m new)
        (may_of line ok c mode R Front l i (is_set.tasks i m) (pair_of (whole load)) m n new);
    back = λ i m n new. none Back i (filled_with Back i m new)
        (may_of line ok c mode R Back l i (is_set.tasks i m) (pair_of (whole load)) m n new);
  }

  pub full_none : IsFull line c mode R l → (s : Side) (i : ℕ) → fills mode s ≡ true → MayJoin line c R s l i → ⊥
  full_none full Front i e may = full.front i may.within may.new
      (joins line ok c mode R Front l i (is_set.tasks i may.within) (whole load) may e)
  full_none full Back i e may = full.back i may.within may.new
      (joins line ok c mode R Back l i (is_set.tasks i may.within) (whole load) may e)

front_taken : (s x : Side) (now b : Load) (t : ℕ) → ((y : Side) (i : ℕ) → In (part y now) i → In (part y b) i)
    → ((i : ℕ) → In b.front i → In b.back i → ⊥) → In (part s b) t → (In (part s now) t → ⊥) → In (part x now) t → ⊥
front_taken Front Front now b t sub d mine gone m = gone m
front_taken Front Back now b t sub d mine gone m = d t mine (sub Back t m)
front_taken Back Front now b t sub d mine gone m = d t (sub Front t m) mine
front_taken Back Back now b t sub d mine gone m = gone m

-- A load that agrees below a place and has its task has all of now, where that stands below the place, and the task may
-- join now.
module _ (line : Line) (ranked : IsRanked line) (c : ℕ) (mode : Mode) (R : List Bool) (s : Side) (q : ℕ)
    (within : q < tasks line) (now b : Load) (sets : AreSets line now) (lb : IsLoad line c mode R b)
    (agree : (i : ℕ) → i < spot line s q → truth line now i ≡ truth line b i)
    (absent : (j : ℕ) → spot line s q ≤ j → j < 2 * tasks line → truth line now j ≡ false)
    (here : truth line b (spot line s q) ≡ true) where
  sub : (x : Side) (i : ℕ) → In (part x now) i → In (part x b) i
  sub Front i m = front_in line ranked c mode R b now (whole lb) sets.front sets.back (spot line s q) agree absent i m
  sub Back i m = back_in line ranked c mode R b now (whole lb) sets.front sets.back (spot line s q) agree absent i m

  mine : In (part s b) (task_at line s q)
  mine = sym (truth_at line ranked s b q within) ∙ here

  gone : In (part s now) (task_at line s q) → ⊥
  gone m = false≢true (sym (absent (spot line s q) (omega arith) (spot_within line s q within))
      ∙ (truth_at line ranked s now q within ∙ m))

  free : has (taken now) (task_at line s q) ≡ false
  free = false_from_ne_true (has (taken now) (task_at line s q)) (λ m.
      let x : (x : Side) × In (part x now) (task_at line s q) = taken_part now (task_at line s q) m in
      front_taken s x.0 now b (task_at line s q) sub lb.disjoint mine gone x.1)

  pub may_from : MayJoin line c R s now (task_at line s q)
  may_from =
      let taken_sub : IsSubset (taken now) (taken b) = taken_in line ranked c mode R b now (whole lb) sets.front
      sets.back (spot line s q) agree absent in
      let there : In (taken b) (task_at line s q) = part_taken s b (task_at line s q) mine in
      record {
        within = lb.within (task_at line s q) there;
        new = free;
        fits = omega (
          arith,
          lb.fits,
          weigh-add (has (taken now)) (has (taken b)) (task_at line s q) line.times
              (task_within line ranked s q within) taken_sub there free,
        );
        parted = λ j m a. lb.parted j (task_at line s q) (taken_sub j m) there a;
        ready = λ j m w.
            let x : In (part s b) j = closed s b (whole lb) j (task_at line s q) m mine w in
            let r : (p : ℕ) × (p < tasks line) × (task_at line s p ≡ j) =
            task_placed line ranked s j (tasks_of s lb j x) in
            let P : ℕ → Type 0 = λ k. Ahead line s k (task_at line s q) in
            let below : r.0 < q = ahead_below line ranked s r.0 q r.1 within (subst P (sym r.2) w) in
            ap (λ k. has (part s now) k) (sym r.2)
            ∙ (sym (truth_at line ranked s now r.0 r.1)
            ∙ (agree (spot line s r.0) (spot_rises line s r.0 q below)
            ∙ (truth_at line ranked s b r.0 r.1 ∙ (ap (λ k. has (part s b) k) r.2 ∙ x))));
      }
