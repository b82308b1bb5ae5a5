-- The turns of the quick walk: the places in between are passed together, and the sum goes with the task.
use Rattle.std.proofs.Common.{◌≡◌, ℕ, suc, ◌+◌, ◌-◌, ◌<◌, ◌≤◌, Bool, true, false, List, set, refl, sym, ap, ◌∙◌, subst}
use Rattle.std.proofs.Common.{◌⊎◌, inl, inr, arith}
use Rattle.line_instance.specs.Truths.{In, IsGreatestBelow, union}
use Rattle.line_instance.proofs.Members.{In-union_left, In-union_right, In-union_cases, In-clear_gone}
use Rattle.line_instance.specs.Line.{Line, IsLine, tasks, has, time}
use Rattle.line_instance.specs.Sums.{sum_where}
use Rattle.line_rules.specs.Loads.{taken}
use Rattle.line_rules.specs.Order.{IsNext}
use Rattle.line_rules.specs.Sides.{IsReady, MayJoin, part, changed, fills, spot, task_at}
use Rattle.line_rules.specs.declared.types.Mode.{Mode}
use Rattle.line_rules.specs.declared.types.Side.{Side}
use Rattle.line_rules.specs.declared.types.Side.TheVariants.{Front, Back}
use Rattle.line_rules.specs.declared.types.Load.{Load}
use Rattle.line_rules.specs.inner.Scan.{IsPart}
use Rattle.line_rules.specs.Sides.{AreSets}
use Rattle.line_rules.proofs.SideFacts.{other_taken}
use Rattle.line_rules.proofs.JoinFacts.{sum_joined, sum_more}
use Rattle.line_rules.specs.inner.Scan.{Scan}
use Rattle.line_rules.proofs.ScanFacts.{rescan, gives_up, passes, joined, drops}
use Rattle.std.proofs.lemmas.Bool.{false≢true, false_from_ne_true}
use Rattle.line_rules.specs.Ends.{IsEnd}
use Rattle.line_rules.specs.Sides.{HasRoom, pair_at}

pub part_pair : (s : Side) (a b : List Bool) → part s (pair_at s a b) ≡ a
part_pair Front a b = refl
part_pair Back a b = refl

pub pair_changed : (s : Side) (a b : List Bool) (t : ℕ) (x : Bool)
    → changed s (pair_at s a b) t x ≡ pair_at s (set a t x) b
pair_changed Front a b t x = refl
pair_changed Back a b t x = refl

pub taken_cases : (s : Side) (a b : List Bool) (i : ℕ) → In (taken (pair_at s a b)) i → In a i ⊎ In b i
taken_cases Front a b i m = In-union_cases a b i m
taken_cases Back a b i m = elim (In-union_cases b a i m) [ inl y ↦ inr y | inr x ↦ inl x ]

pub taken_here : (s : Side) (a b : List Bool) (i : ℕ) → In a i → In (taken (pair_at s a b)) i
taken_here Front a b i m = In-union_left a b i m
taken_here Back a b i m = In-union_right b a i m

pub taken_there : (s : Side) (a b : List Bool) (i : ℕ) → In b i → In (taken (pair_at s a b)) i
taken_there Front a b i m = In-union_right a b i m
taken_there Back a b i m = In-union_left b a i m

-- the two sides have no task in common
pub sides_apart : {line : Line} {c : ℕ} {mode : Mode} {R : List Bool} (s : Side) (a b : List Bool)
    → IsPart line c mode R (pair_at s a b) → (i : ℕ) → In a i → In b i → ⊥
sides_apart Front a b h i m n = h.disjoint i m n
sides_apart Back a b h i m n = h.disjoint i n m

module _ (line : Line) (c : ℕ) (mode : Mode) (R : List Bool) (s : Side) (base : Load)
    (here free places others : List Bool) (end : IsEnd line s R here free places) where
  -- a task that may join is free
  pub free_of_may : (t : ℕ) → MayJoin line c R s (pair_at s here others) t → In free t
  free_of_may t may = (end.ready.is t).1 (record {
    within = may.within;
    new = false_from_ne_true (has here t) (λ m. false≢true (sym may.new ∙ taken_here s here others t m));
    ready = λ j m w. ap (λ b. has b j) (sym (part_pair s here others)) ∙ may.ready j m w;
  })

  -- at a place that isn't marked nothing stands, and nothing may join
  not_placed : (p : ℕ) → p < tasks line → (In places p → ⊥)
      → (has (part s (pair_at s here others)) (task_at line s p) ≡ false)
      × (MayJoin line c R s (pair_at s here others) (task_at line s p) → ⊥)
  not_placed p w gone = (
    ap (λ b. has b (task_at line s p)) (part_pair s here others)
        ∙ false_from_ne_true (has here (task_at line s p)) (λ m. gone ((end.marked.is p).1 (w, inl m))),
    λ may. gone ((end.marked.is p).1 (w, inr (free_of_may (task_at line s p) may))),
  )

  module _ (below : ℕ) (low : below ≤ tasks line) (scan : Scan line c mode R base (pair_at s here others)
      (spot line s below)) where
    -- no place is marked
    pub none_marked : ((j : ℕ) → In places j → below ≤ j) → Scan line c mode R base (pair_at s here others)
        (spot line s 0)
    none_marked none =
        drops line c mode R s base (pair_at s here others) 0 below (omega arith)
        (λ p a b. not_placed p (omega arith) (λ m. omega (arith, none p m)))
        (rescan line c mode R base (pair_at s here others) (spot line s below) (spot line s (0 + below))
        (ap (spot line s) (let q : below ≡ 0 + below = omega arith in q)) scan)

    module _ (place : ℕ) (found : IsGreatestBelow places below place) (t : ℕ) (is : t ≡ task_at line s place) where
      within : place < tasks line
      within = omega (arith, found.below)

      down : Scan line c mode R base (pair_at s here others) (spot line s (suc place))
      down =
          let many : ℕ = below - suc place in
          let q : suc place + (below - suc place) ≡ below = omega (arith, found.below) in
          drops line c mode R s base (pair_at s here others) (suc place) (below - suc place)
          (omega (arith, found.below))
          (λ p a b. not_placed p (omega (arith, found.below))
          (λ m. omega (arith, found.below, found.greatest p m (omega (arith, found.below)))))
          (rescan line c mode R base (pair_at s here others) (spot line s below)
          (spot line s (suc place + (below - suc place))) (ap (spot line s) (sym q)) scan)

      pub in_free : has here t ≡ false → In free t
      in_free gone = elim ((end.marked.is place).0 found.member).1 [
        | inl m ↦ absurd (false≢true (sym gone ∙ (ap (λ k. has here k) is ∙ m)))
        | inr f ↦ ap (λ k. has free k) is ∙ f
      ]

      standing : (b : Bool) → has here t ≡ b → has (part s (pair_at s here others)) (task_at line s place) ≡ b
      standing b h = ap (λ k. has k (task_at line s place)) (part_pair s here others)
          ∙ (ap (λ k. has here k) (sym is) ∙ h)

      as_pair : (N : List Bool) (b : Bool) → N ≡ set here t b
          → changed s (pair_at s here others) (task_at line s place) b ≡ pair_at s N others
      as_pair N b w = pair_changed s here others (task_at line s place) b
          ∙ ap (λ x. pair_at s x others) (ap (λ k. set here k b) (sym is) ∙ sym w)

      pub gives_up_here : (N : List Bool) → N ≡ set here t false → has here t ≡ true
          → Scan line c mode R base (pair_at s N others) (spot line s place)
      gives_up_here N w h =
          let P : Load → Type 0 = λ l. Scan line c mode R base l (spot line s place) in
          subst P (as_pair N false w) (gives_up line c mode R s base (pair_at s here others) place within down
          (standing true h))

      pub passes_here : has here t ≡ false → (MayJoin line c R s (pair_at s here others) t → ⊥)
          → Scan line c mode R base (pair_at s here others) (spot line s place)
      passes_here h cannot =
          let P : ℕ → Type 0 = λ x. MayJoin line c R s (pair_at s here others) x → ⊥ in
          passes line c mode R s base (pair_at s here others) place within down (standing false h)
          (inr (subst P is cannot))

      pub joins_here : (N : List Bool) → N ≡ set here t true → has here t ≡ false → fills mode s ≡ true
          → MayJoin line c R s (pair_at s here others) t → IsNext line c mode R base (pair_at s N others)
      joins_here N w h filled may =
          let P : Load → Type 0 = λ l. IsNext line c mode R base l in
          let Q : ℕ → Type 0 = λ x. MayJoin line c R s (pair_at s here others) x in
          subst P (as_pair N true w) (joined line c mode R s base (pair_at s here others) place within down
          (standing false h) filled (subst Q is may))

  -- what lets a ready task join, and what follows where it may
  pub may_from_room : (t sum : ℕ) → sum ≡ sum_where (has (taken (pair_at s here others))) line.times → sum ≤ c
      → In free t → has others t ≡ false → HasRoom line (c - sum) (union here others) t
      → MayJoin line c R s (pair_at s here others) t
  may_from_room t sum is fits free away room =
      let r : IsReady line s R here t = (end.ready.is t).0 free in
      record {
        within = r.within;
        new = false_from_ne_true (has (taken (pair_at s here others)) t)
            (λ m. elim (taken_cases s here others t m) [
              | inl a ↦ false≢true (sym r.new ∙ a)
              | inr b ↦
                  false≢true (sym away ∙ b)
            ]);
        fits = omega (arith, is, fits, room.time);
        parted = λ j m a. room.parted j (elim (taken_cases s here others j m)
            [ inl x ↦ In-union_left here others j x | inr y ↦ In-union_right here others j y ]) a;
        ready = λ j m w. ap (λ b. has b j) (part_pair s here others) ∙ r.ready j m w;
      }

  pub room_from_may : (t sum : ℕ) → sum ≡ sum_where (has (taken (pair_at s here others))) line.times
      → MayJoin line c R s (pair_at s here others) t → (has others t ≡ false)
      × HasRoom line (c - sum) (union here others) t
  room_from_may t sum is may = (
    false_from_ne_true (has others t) (λ m. false≢true (sym may.new ∙ taken_there s here others t m)),
    record {
      time = omega (arith, is, may.fits);
      parted = λ j m a. may.parted j (elim (In-union_cases here others j m)
          [ inl x ↦ taken_here s here others j x | inr y ↦ taken_there s here others j y ]) a;
    },
  )

-- the sum of times with one task less, and with one more
pub sum_less : (line : Line) (s : Side) (a b N : List Bool) (t : ℕ) → t < tasks line → In a t → (In b t → ⊥)
    → N ≡ set a t false → sum_where (has (taken (pair_at s a b))) line.times
    ≡ sum_where (has (taken (pair_at s N b))) line.times + time line t
sum_less line s a b N t is_task m gone w =
    let same : changed s (pair_at s a b) t false ≡ pair_at s N b =
    pair_changed s a b t false ∙ ap (λ x. pair_at s x b) (sym w) in
    let P : Load → Type 0 = λ l. sum_where (has (taken (pair_at s a b))) line.times
    ≡ sum_where (has (taken l)) line.times + time line t in
    let away : has (taken (changed s (pair_at s a b) t false)) t ≡ false =
    false_from_ne_true (has (taken (changed s (pair_at s a b) t false)) t) (λ x.
    elim (taken_cases s (set a t false) b t (ap (λ l. has (taken l) t) (sym (pair_changed s a b t false)) ∙ x))
    [ inl y ↦ In-clear_gone a t y | inr z ↦ gone z ]) in
    subst P same (sum_more line (has (taken (pair_at s a b))) (has (taken (changed s (pair_at s a b) t false))) t
    is_task (taken_here s a b t m) away (λ i n. sym (other_taken s (pair_at s a b) t false i n)))

pub sum_grown : (line : Line) → IsLine line → (c : ℕ) (mode : Mode) (R : List Bool) (s : Side) (a b N : List Bool)
    (t : ℕ) → t < tasks line → AreSets line (pair_at s a b) → has (taken (pair_at s a b)) t ≡ false → N ≡ set a t true
    → sum_where (has (taken (pair_at s N b))) line.times ≡ sum_where (has (taken (pair_at s a b))) line.times + time
    line t
sum_grown line ok c mode R s a b N t is_task sets gone w =
    let same : changed s (pair_at s a b) t true ≡ pair_at s N b =
    pair_changed s a b t true ∙ ap (λ x. pair_at s x b) (sym w) in
    let P : Load → Type 0 = λ l. sum_where (has (taken l)) line.times
    ≡ sum_where (has (taken (pair_at s a b))) line.times + time line t in
    subst P same (sum_joined line ok c mode R s (pair_at s a b) t is_task sets gone)
