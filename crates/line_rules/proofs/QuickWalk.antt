-- The quick walk goes over the places of a side from the last one down: what it keeps from place to place, and each of
-- its turns.
use Rattle.std.proofs.Common.{◌≡◌, ℕ, ◌+◌, ◌-◌, ◌<◌, ◌≤◌, Bool, true, false, List, set, refl, sym, ap, ◌∙◌, subst, ◌⊎◌}
use Rattle.std.proofs.Common.{◌↔◌, arith}
use Rattle.line_instance.specs.Truths.{In, IsGreatestBelow, union}
use Rattle.line_instance.specs.Line.{Line, IsTaskSet, tasks, has, time}
use Rattle.line_instance.specs.Sums.{sum_where}
use Rattle.line_rules.specs.Loads.{taken}
use Rattle.line_rules.specs.Order.{IsNext}
use Rattle.line_rules.specs.declared.types.Mode.{Mode}
use Rattle.line_rules.specs.declared.types.Side.{Side}
use Rattle.line_rules.specs.declared.types.Load.{Load}
use Rattle.line_rules.specs.Sides.{Ahead, AreReady, HasRoom, MayJoin, fills, pair_at, spot, task_at}
use Rattle.line_rules.specs.inner.Scan.{IsPart, Scan}
use Rattle.line_rules.specs.Ends.{AreMarked, IsEnd}
use Rattle.line_rules.proofs.SideFacts.{set_less, task_within}
use Rattle.line_rules.proofs.JoinFacts.{closed, pair_of}
use Rattle.line_rules.proofs.ReadyFacts.{ready_less}
use Rattle.line_rules.proofs.ScanFacts.{part_now}
use Rattle.line_rules.proofs.WalkTurns.{part_pair, sides_apart, taken_here, none_marked, in_free, gives_up_here}
use Rattle.line_rules.proofs.WalkTurns.{passes_here, joins_here, may_from_room, room_from_may, sum_less, sum_grown}

-- The places below are left to go over; now at the side stand these tasks, with those that are free to join them; the
-- sum is that of the load.
pub record Advancing (line : Line) (c : ℕ) (mode : Mode) (R : List Bool) (s : Side) (base : Load)
    (here free places others : List Bool) (below sum : ℕ) : Type 0 where
  pub low : below ≤ tasks line
  pub scan : Scan line c mode R base (pair_at s here others) (spot line s below)
  pub kept : IsEnd line s R here free places
  pub added : sum ≡ sum_where (has (taken (pair_at s here others))) line.times
  pub fits : sum ≤ c
  pub closed : (i j : ℕ) → In R i → In here j → Ahead line s i j → In here i

advancing : {line : Line} {c : ℕ} {mode : Mode} {R : List Bool} {s : Side} {base : Load}
    {here free places others : List Bool} {below sum : ℕ} → below ≤ tasks line
    → Scan line c mode R base (pair_at s here others) (spot line s below)
    → IsEnd line s R here free places → sum ≡ sum_where (has (taken (pair_at s here others))) line.times
    → Advancing line c mode R s base here free places others below sum
advancing {line} {c} {mode} {R} {s} {base} {here} {free} {places} {others} {below} {sum} low scan kept added =
    let p : IsPart line c mode R (pair_at s here others) = part_now line c mode R base (pair_at s here others)
    (spot line s below) scan in
    record {
      low = low;
      scan = scan;
      kept = kept;
      added = added;
      fits = omega (arith, p.fits, added);
      closed = λ i j m g w. sym (ap (λ b. has b i) (part_pair s here others))
          ∙ closed s (pair_at s here others) p i j m (ap (λ b. has b j) (part_pair s here others) ∙ g) w;
    }

pub advance_start : {line : Line} {c : ℕ} {mode : Mode} {R : List Bool} {s : Side} {base : Load}
    {here free places others : List Bool} {below sum : ℕ} {filled : Bool} → below ≡ tasks line
    → Scan line c mode R base (pair_at s here others) (spot line s (tasks line)) → filled ≡ fills mode s → filled ≡ true
    → (fills mode s ≡ true → IsEnd line s R here free places)
    → sum ≡ sum_where (has (taken (pair_at s here others))) line.times
    → Advancing line c mode R s base here free places others below sum
advance_start {line} {c} {mode} {R} {s} {base} {here} {free} {places} {others} {below} {sum} {filled} low scan told
    is_filled kept added =
    let P : ℕ → Type 0 = λ b. Scan line c mode R base (pair_at s here others) (spot line s b) in
    advancing (omega (arith, low)) (subst P (sym low) scan) (kept (sym told ∙ is_filled)) added

module _ {line : Line} {c : ℕ} {mode : Mode} {R : List Bool} {s : Side} {base : Load}
    {here free places others : List Bool} {below sum : ℕ} (at : Advancing line c mode R s base here free places others
    below sum) where
  part_here : IsPart line c mode R (pair_at s here others)
  part_here = part_now line c mode R base (pair_at s here others) (spot line s below) at.scan

  pub no_place : ((j : ℕ) → In places j → below ≤ j) → Scan line c mode R base (pair_at s here others) (spot line s 0)
  no_place none = none_marked line c mode R s base here free places others at.kept below at.low at.scan none

  module _ {place t : ℕ} (found : IsGreatestBelow places below place) (is : t ≡ task_at line s place) where
    is_task : t < tasks line
    is_task = let w : task_at line s place < tasks line = task_within line at.scan.ranked s place
        (omega (arith, found.below, at.low)) in omega (arith, is, w)

    less : In here t → (N : List Bool) → N ≡ set here t false
        → sum ≡ sum_where (has (taken (pair_at s N others))) line.times + time line t
    less mine N w = at.added ∙ sum_less line s here others N t is_task mine (sides_apart s here others part_here t mine)
        w

    pub time_within : {told : Bool} {v : ℕ} → told ≡ has here t → told ≡ true → v ≡ time line t → v ≤ sum
    time_within e f v = let l : sum ≡ sum_where (has (taken (pair_at s (set here t false) others))) line.times + time
        line t = less (sym e ∙ f) (set here t false) refl in omega (arith, l, v)

    -- a task of the side is given up
    pub gave_up : {told : Bool} {N F P : List Bool} {v : ℕ} → told ≡ has here t → told ≡ true → N ≡ set here t false
        → ((i : ℕ) → In F i ↔ (In free i ⊎ (i ≡ t)) × (Ahead line s t i → ⊥)) → AreMarked line s N F P → v ≡ time line t
        → Advancing line c mode R s base N F P others place (sum - v)
    gave_up {told} {N} {F} {P} {v} is_told hit w isF marked e =
        let mine : In here t = sym is_told ∙ hit in
        let S : List Bool → Type 0 = λ b. IsTaskSet line b in
        let A : List Bool → Type 0 = λ b. AreReady line s R b F in
        let p : IsPart line c mode R (pair_at s here others) = part_here in
        advancing
        (omega (arith, found.below, at.low))
        (gives_up_here line c mode R s base here free places others at.kept below at.low at.scan place found t is N w
        mine)
        (record {
          set = subst S (sym w) (set_less line here t at.kept.set);
          ready = subst A (sym w) (ready_less line at.scan.sizes s R here free F t at.kept.ready
              (p.within t (taken_here s here others t mine)) mine (λ j m a. at.closed j t m mine a) isF);
          marked = marked;
        })
        (let l : sum ≡ sum_where (has (taken (pair_at s N others))) line.times + time line t = less mine N w in
        omega (arith, l, e))

    -- a task that isn't at the side and may not join it is passed over
    pub passed : {told : Bool} → told ≡ has here t → told ≡ false
        → (has others t ≡ false → HasRoom line (c - sum) (union here others) t → ⊥)
        → Advancing line c mode R s base here free places others place sum
    passed is_told missed cannot =
        advancing
        (omega (arith, found.below, at.low))
        (passes_here line c mode R s base here free places others at.kept below at.low at.scan place found t is
        (sym is_told ∙ missed) (λ may.
        let r : (has others t ≡ false) × HasRoom line (c - sum) (union here others) t =
        room_from_may line c mode R s base here free places others at.kept t sum at.added may in
        cannot r.0 r.1))
        at.kept
        at.added

    module _ {told elsewhere : Bool} (is_told : told ≡ has here t) (missed : told ≡ false)
        (there : elsewhere ≡ has others t) (away : elsewhere ≡ false)
        (room : HasRoom line (c - sum) (union here others) t) where
      gone : has here t ≡ false
      gone = sym is_told ∙ missed

      may : MayJoin line c R s (pair_at s here others) t
      may =
          let is_free : In free t = in_free line c mode R s base here free places others at.kept below at.low at.scan
          place found t is gone in
          may_from_room line c mode R s base here free places others at.kept t sum at.added at.fits is_free
          (sym there ∙ away) room

      -- the task joins
      pub next_here : {filled : Bool} {N : List Bool} → filled ≡ fills mode s → filled ≡ true → N ≡ set here t true
          → IsNext line c mode R base (pair_at s N others)
      next_here {filled} {N} f is_filled w = joins_here line c mode R s base here free places others at.kept below
          at.low at.scan place found t is N w gone (sym f ∙ is_filled) may

      pub sum_here : {N : List Bool} {v : ℕ} → N ≡ set here t true → v ≡ time line t
          → sum + v ≡ sum_where (has (taken (pair_at s N others))) line.times
      sum_here {N} {v} w e =
          let m : MayJoin line c R s (pair_at s here others) t = may in
          let g : sum_where (has (taken (pair_at s N others))) line.times
          ≡ sum_where (has (taken (pair_at s here others))) line.times + time line t =
          sum_grown line at.scan.sizes c mode R s here others N t is_task (pair_of part_here) m.new w in
          omega (arith, e, g, at.added)
