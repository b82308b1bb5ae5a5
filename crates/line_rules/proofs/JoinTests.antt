-- The tests by which code finds whether a task may join a side of a load, and whether the load is full.
use Rattle.std.proofs.Common.{◌≡◌, ℕ, ◌+◌, ◌-◌, ◌≤◌, ◌↔◌, Bool, true, false, IsTrue, List, length, refl, sym, ap, ◌∙◌}
use Rattle.std.proofs.Common.{subst, inl, inr, arith}
use Rattle.std.proofs.lemmas.Bool.{cases_lt, false≢true}
use Rattle.line_instance.specs.Truths.{In, IsEmpty, IsGreatestBelow, IsSubset, meet, union}
use Rattle.line_instance.proofs.Members.{In-meet, In-meet_parts}
use Rattle.line_instance.specs.Line.{Line, IsLine, IsTaskSet, Apart, tasks, has, time}
use Rattle.line_instance.specs.Sums.{sum_where}
use Rattle.line_rules.specs.Loads.{IsLoad, IsFull, taken}
use Rattle.line_rules.specs.declared.types.Mode.{Mode}
use Rattle.line_rules.specs.declared.types.Mode.TheVariants.{Both}
use Rattle.line_rules.specs.declared.types.Side.{Side}
use Rattle.line_rules.specs.declared.types.Side.TheVariants.{Front, Back}
use Rattle.line_rules.specs.declared.types.Load.{Load}
use Rattle.line_rules.specs.Sides.{Ahead, AreSets, HasRoom, MayJoin, fills, nothing_yet, pair_at, part}
use Rattle.line_rules.specs.Ends.{IsEnd}
use Rattle.line_rules.proofs.SideFacts.{each_side, taken_set}
use Rattle.line_rules.proofs.JoinFacts.{full_of, full_none}
use Rattle.line_rules.proofs.WalkTurns.{free_of_may, may_from_room, room_from_may}

pub taken_tasks : {line : Line} {T : List Bool} (l : Load) → T ≡ taken l → AreSets line l → length T ≡ 1024
    → IsTaskSet line T
taken_tasks {line} {T} l e sets long = let P : List Bool → Type 0 = λ b. IsTaskSet line b in
    subst P (sym e) (taken_set l sets (sym (ap (λ b. length b) e) ∙ long))

-- the task's time is left, and nothing of U is among what is apart from it
pub room_by_tests : {line : Line} {left : ℕ} {M : List Bool} (U X : List Bool) (t : ℕ)
    → ((j : ℕ) → In X j ↔ Apart line j t) → M ≡ meet U X → time line t ≤ left → IsEmpty M → HasRoom line left U t
room_by_tests U X t apart e fits none = record {
  time = fits;
  parted = λ j m a. none j (ap (λ b. has b j) e ∙ In-meet U X j m ((apart j).1 a));
}

pub room_is_empty : {line : Line} {left : ℕ} {U M : List Bool} {t : ℕ} (X : List Bool)
    → ((j : ℕ) → In X j ↔ Apart line j t) → M ≡ meet U X → HasRoom line left U t → IsEmpty M
room_is_empty {line} {left} {U} {M} {t} X apart e room j m = let q : In U j × In X j =
    In-meet_parts U X j (ap (λ b. has b j) (sym e) ∙ m) in room.parted j q.0 ((apart j).0 q.1)

-- the tests made afresh, over what is taken (T), what is apart from the task (X), and what is ahead of it (A)
pub may_by_tests : {line : Line} {c : ℕ} {R : List Bool} {s : Side} {l : Load} {T M K P : List Bool} (t : ℕ)
    (X A : List Bool) → T ≡ taken l → In R t → has T t ≡ false → sum_where (has T) line.times + time line t ≤ c
    → ((j : ℕ) → In X j ↔ Apart line j t) → M ≡ meet T X → IsEmpty M → ((j : ℕ) → In A j ↔ Ahead line s j t)
    → K ≡ meet A R → P ≡ part s l → IsSubset K P → MayJoin line c R s l t
may_by_tests {line} {c} {R} {s} {l} {T} {M} {K} {P} t X A is_T within new fits apart is_M none ahead is_K is_P sub =
    record {
      within = within;
      new = ap (λ b. has b t) (sym is_T) ∙ new;
      fits = let e : sum_where (has T) line.times ≡ sum_where (has (taken l)) line.times =
          ap (λ b. sum_where (has b) line.times) is_T in omega (arith, e, fits);
      parted = λ j m a. none j (ap (λ b. has b j) is_M ∙ In-meet T X j (ap (λ b. has b j) is_T ∙ m) ((apart j).1 a));
      ready = λ j m w. ap (λ b. has b j) (sym is_P) ∙ sub j (ap (λ b. has b j) is_K ∙ In-meet A R j ((ahead j).1 w) m);
    }

pub parted_is_empty : {line : Line} {c : ℕ} {R : List Bool} {s : Side} {l : Load} {t : ℕ} {T M : List Bool}
    (X : List Bool) → T ≡ taken l → ((j : ℕ) → In X j ↔ Apart line j t) → M ≡ meet T X → MayJoin line c R s l t
    → IsEmpty M
parted_is_empty {line} {c} {R} {s} {l} {t} {T} {M} X is_T apart is_M may j m =
    let q : In T j × In X j = In-meet_parts T X j (ap (λ b. has b j) (sym is_M) ∙ m) in
    may.parted j (ap (λ b. has b j) (sym is_T) ∙ q.0) ((apart j).0 q.1)

pub ahead_is_there : {line : Line} {c : ℕ} {R : List Bool} {s : Side} {l : Load} {t : ℕ} {K P : List Bool}
    (A : List Bool) → ((j : ℕ) → In A j ↔ Ahead line s j t) → K ≡ meet A R → P ≡ part s l → MayJoin line c R s l t
    → IsSubset K P
ahead_is_there {line} {c} {R} {s} {l} {t} {K} {P} A ahead is_K is_P may j m =
    let q : In A j × In R j = In-meet_parts A R j (ap (λ b. has b j) (sym is_K) ∙ m) in
    ap (λ b. has b j) is_P ∙ may.ready j q.1 ((ahead j).0 q.0)

-- a load that a task may join isn't full, and one that none may join is
pub not_full : {line : Line} {c : ℕ} {mode : Mode} {R : List Bool} {l : Load} → IsLine line → IsTaskSet line R
    → IsLoad line c mode R l → (s : Side) → (i : ℕ) × (fills mode s ≡ true) × MayJoin line c R s l i
    → IsTrue false ↔ IsFull line c mode R l
not_full {line} {c} {mode} {R} {l} ok set load s r = (
  λ e. absurd (false≢true e),
  λ f. absurd (full_none line ok c mode R set l load f s r.0 r.1 r.2),
)

pub is_full : {line : Line} {c : ℕ} {mode : Mode} {R : List Bool} {l : Load} → IsLine line → IsTaskSet line R
    → IsLoad line c mode R l → ((i : ℕ) → fills mode Front ≡ true → MayJoin line c R Front l i → ⊥)
    → ((i : ℕ) → fills mode Back ≡ true → MayJoin line c R Back l i → ⊥) → IsTrue true ↔ IsFull line c mode R l
is_full {line} {c} {mode} {R} {l} ok set load front back = (
  λ e. full_of line ok c mode R set l load (each_side (λ (s : Side). (i : ℕ) → fills mode s ≡ true
      → MayJoin line c R s l i → ⊥) front back),
  λ f. refl,
)

-- tasks are gone over from the greatest on: none from here on may join
pub record NoneFrom (line : Line) (c : ℕ) (R : List Bool) (s : Side) (l : Load) (below : ℕ) : Type 0 where
  pub low : below ≤ tasks line
  pub none : (i : ℕ) → below ≤ i → MayJoin line c R s l i → ⊥

pub none_start : {line : Line} {c : ℕ} {R : List Bool} {s : Side} {l : Load} {below : ℕ} → IsTaskSet line R
    → below ≡ tasks line → NoneFrom line c R s l below
none_start set e = record { low = omega (arith, e); none = λ i g may. omega (arith, g, e, set.tasks i may.within) }

pub none_turn : {line : Line} {c : ℕ} {R : List Bool} {s : Side} {l : Load} {below t : ℕ} (K : List Bool)
    → NoneFrom line c R s l below → ((i : ℕ) → MayJoin line c R s l i → In K i) → IsGreatestBelow K below t
    → (MayJoin line c R s l t → ⊥) → NoneFrom line c R s l t
none_turn {line} {c} {R} {s} {l} {below} {t} K h all found cannot = record {
  low = omega (arith, h.low, found.below);
  none = λ i g may. elim (cases_lt i below) [
    | inl under ↦ (
        let same : i ≡ t = omega (arith, g, found.greatest i (all i may) under) in
        let P : ℕ → Type 0 = λ k. MayJoin line c R s l k in
        cannot (subst P same may))
    | inr over ↦ h.none i over may
  ];
}

pub none_end : {line : Line} {c : ℕ} {R : List Bool} {s : Side} {l : Load} {below : ℕ} (K : List Bool)
    → NoneFrom line c R s l below → ((i : ℕ) → MayJoin line c R s l i → In K i) → ((i : ℕ) → In K i → below ≤ i)
    → (i : ℕ) → MayJoin line c R s l i → ⊥
none_end K h all rest i may = h.none i (rest i (all i may)) may

-- what is kept of a side tells which task may join it
module _ {line : Line} {s : Side} {R here free places : List Bool} (end : IsEnd line s R here free places) (c : ℕ)
    (others : List Bool) where
  pub free_where_may : (i : ℕ) → MayJoin line c R s (pair_at s here others) i → In free i
  free_where_may i may = free_of_may line c Both R s nothing_yet here free places others end i may

  module _ {sum : ℕ} (is : sum ≡ sum_where (has (taken (pair_at s here others))) line.times) (t : ℕ) where
    pub may_where_room : sum ≤ c → In free t → has others t ≡ false → HasRoom line (c - sum) (union here others) t
        → MayJoin line c R s (pair_at s here others) t
    may_where_room fits mine away room = may_from_room line c Both R s nothing_yet here free places others end t sum is
        fits mine away room

    pub room_where_may : MayJoin line c R s (pair_at s here others) t
        → (has others t ≡ false) × HasRoom line (c - sum) (union here others) t
    room_where_may may = room_from_may line c Both R s nothing_yet here free places others end t sum is may
