-- What a try does to a search: it goes on, its units ended, or memory did.
use Rattle.std.proofs.Common.{◌≡◌, ℕ, suc, ◌+◌, ◌-◌, ◌*◌, ◌^◌, ◌<◌, ◌≤◌, List, [], length}
use Rattle.std.proofs.Common.{refl}
use Rattle.std.proofs.Common.{sym, ap, ◌∙◌, subst, inl, inr, arith}
use Rattle.std.proofs.lemmas.Bool.{cases_eq, cases_lt}
use Rattle.std.proofs.lemmas.Nat.{mul-le}
use Rattle.std.proofs.Math.Nat.{mul-le-mul_left, lt_of_mul-lt-mul_left}
use Rattle.line_instance.specs.Line.{Line, IsLine}
use Rattle.line_rules.specs.Balance.{IsRight, all_tasks, seat}
use Rattle.line_rules.specs.Bounds.{IsTooLong}
use Rattle.line_rules.specs.Entries.{HasAnswer}
use Rattle.line_rules.specs.Ranges.{IsCycle}
use Rattle.line_rules.specs.declared.types.LineKind.{LineKind}
use Rattle.line_rules.specs.declared.types.Entry.{Entry}
use Rattle.line_rules.specs.declared.types.Balance.{Balance as Assignment}
use Rattle.line_rules.proofs.SubBalance.{restricted}
use Rattle.lemma_core.specs.Machine.{About}
use Rattle.lemma_core.specs.Books.{BookView, IsReserved, MayBeBest}
use Rattle.cycle_search.specs.rounds.declared.plans.Plan.{Plan}
use Rattle.cycle_search.specs.Ends.{first_lower, first_upper}
use Rattle.cycle_search.proofs.EndFacts.{none_long}
use Rattle.cycle_search.proofs.Tries.{widened_right}
use Rattle.effic_check.specs.Accepted.{IsClosed, cycle_below}
use Rattle.effic_search.specs.Counted.{AreGoalsByBound, IsCounted, bounds, most_ended}
use Rattle.effic_search.specs.inner.Going.{IsFloored, HaveCycles, IsLowering, IsGoing, IsLeftAt}
use Rattle.effic_search.specs.inner.Going.{IsImproved, IsTight}
use Rattle.effic_search.specs.inner.Going.{IsSettled, product_of, entries_of}
use Rattle.effic_search.specs.declared.settling.Settled.{Settled}
use Rattle.effic_search.specs.declared.settling.Settled.TheVariants as settled
use Rattle.effic_search.specs.Since.{IsSinceGoal}
use Rattle.effic_search.specs.declared.counting.Listed.{Listed}
use Rattle.effic_search.specs.declared.lowering.Lowering.{Lowering}
use Rattle.effic_search.proofs.ListFacts.{has_shorter}
use Rattle.effic_search.proofs.LowestFacts.{below_near, closed_less}

-- a search is improved by a balance in m stations that is right at its new cycle, and at no lesser one
pub improved_by : (kind : LineKind) (line : Line) (m X : ℕ) (old new : Lowering) (b : Assignment)
    → new.book ≡ old.book → new.listed ≡ old.listed → new.seeks ≡ old.seeks → new.balance ≡ b → b.stations ≡ m
    → IsRight kind line new.cycle b → IsTight kind line b new.cycle → 1 ≤ new.cycle → new.cycle ≤ X
    → IsImproved kind line m X old new
improved_by kind line m X old new b book listed seeks is stations right tight some less =
    let B : Assignment → Type 0 = λ z. IsRight kind line new.cycle z in
    let T : Assignment → Type 0 = λ z. IsTight kind line z new.cycle in
    record {
      book = book;
      listed = listed;
      seeks = seeks;
      stations = ap (λ (z : Assignment). z.stations) is ∙ stations;
      right = subst B (sym is) right;
      tight = subst T (sym is) tight;
      some = some;
      less = less;
    }

-- a balance that is right at a cycle is right at a greater one
pub right_longer : (kind : LineKind) (line : Line) (c d : ℕ) (b : Assignment) → c ≤ d → IsRight kind line c b
    → IsRight kind line d b
right_longer kind line c d b l r = record {
  each = r.each;
  sides = r.sides;
  balance = restricted kind line c d (all_tasks line) (all_tasks line) b.stations b.stations (seat b.place) l
      (omega arith) (λ i h. h) r.balance;
}

-- the best balance of a book, in so many stations, the last ones perhaps empty
pub best_right : (kind : LineKind) (line : Line) (m : ℕ) (about : About) (b : Assignment) → about.line ≡ line
    → about.kind ≡ kind → MayBeBest about b → b.stations ≤ m
    → IsRight kind line about.cycle (record { stations = m; place = b.place })
best_right kind line m about b line_is kind_is best few =
    let P : Line → Type 0 = λ z. IsRight about.kind z about.cycle b in
    let Q : LineKind → Type 0 = λ z. IsRight z line about.cycle b in
    (widened_right kind line m about.cycle b (subst Q kind_is (subst P line_is best.right)) few).right

module _ (kind : LineKind) (line : Line) (least most m X : ℕ) where
  -- a cycle that is left open is no less than the first lower end
  pub floor_of : (es : List Entry) → IsFloored line es m → 1 ≤ X → (HasAnswer es (all_tasks line) m X → ⊥)
      → first_lower line m ≤ X
  floor_of es floored one left = elim (cases_lt X (first_lower line m)) [
    | inl l ↦
        absurd (left (has_shorter es (all_tasks line) m (first_lower line m - 1) X (omega (arith, l))
        (floored (omega (arith, one, l)))))
    | inr more ↦ more
  ]

  -- the cycle of a smaller product than the first one is below the first upper end
  pub below_upper : (h : Lowering) → IsLowering kind line least most h → least ≤ m → m * X < product_of h
      → X < first_upper line
  below_upper h l from near =
      let a : least * first_upper line ≤ m * first_upper line = mul-le least (first_upper line) m
      (first_upper line) from (omega arith) in
      lt_of_mul-lt-mul_left m (omega (arith, near, l.first, a))

-- a try that lowered the product has ended
pub ended_less : (line : Line) (least m P Q : ℕ) → P < Q → Q ≤ least * first_upper line
    → suc (most_ended line least m Q) ≤ most_ended line least m P
ended_less line least m P Q less first = omega (arith, less, first)

-- and so has one that closed its number of stations
pub ended_next : (line : Line) (least m P Q : ℕ) → P ≡ Q → least ≤ m
    → suc (most_ended line least m Q) ≤ most_ended line least (m + 1) P
ended_next line least m P Q same from = omega (arith, same, from)

-- the product of a search is at least 1
pub product_some : (kind : LineKind) (line : Line) (least most : ℕ) (h : Lowering) → 1 ≤ least
    → IsLowering kind line least most h → 1 ≤ product_of h
product_some kind line least most h some l =
    let a : 1 * 1 ≤ h.balance.stations * h.cycle = mul-le 1 1 h.balance.stations h.cycle
    (omega (arith, some, l.from)) l.some in
    omega (arith, a)

-- the cycle of a smaller product fits 64 bits
pub below_limit : (kind : LineKind) (line : Line) (least most m : ℕ) (h : Lowering) → 1 ≤ least → least ≤ m
    → IsLowering kind line least most h → cycle_below (product_of h) m < 2 ^ 64
below_limit kind line least most m h some from l =
    let near : m * cycle_below (product_of h) m < product_of h =
    below_near (product_of h) m (product_some kind line least most h some l) in
    omega (arith, below_upper kind line least most m (cycle_below (product_of h) m) h l from near, l.bounded)

-- what is left open of a search before a try in m stations
pub left_at : (kind : LineKind) (line : Line) (least most m X : ℕ) (h : Lowering) → 1 ≤ least → least ≤ m → m ≤ most
    → IsGoing kind line least most m h → 1 ≤ X → X ≡ cycle_below (product_of h) m
    → (HasAnswer (entries_of h) (all_tasks line) m X → ⊥) → IsLeftAt line least most m X h
left_at kind line least most m X h some from to going one is left =
    let P : ℕ → Type 0 = λ z. m * z < product_of h in
    record {
      from = from;
      to = to;
      some = one;
      floor = floor_of kind line least most m X (entries_of h) (going.lowering.floored m from to) one left;
      near = subst P (sym is) (below_near (product_of h) m (product_some kind line least most h some going.lowering));
      left = left;
    }

-- m stations are closed too
pub closed_going : (kind : LineKind) (line : Line) (least most m : ℕ) (h : Lowering) → IsGoing kind line least most m h
    → IsClosed line (entries_of h) (product_of h) m → IsGoing kind line least most (m + 1) h
closed_going kind line least most m h going here = record {
  lowering = going.lowering;
  clear = λ X one near.
      let a : m * X ≤ (m + 1) * X = mul-le m X (m + 1) X (omega arith) (omega arith) in
      going.clear X one (omega (arith, near, a));
  closed = λ s from to. elim (cases_eq s m) [
    | inl e ↦ (let P : ℕ → Type 0 = λ z. IsClosed line (entries_of h) (product_of h) z in subst P (sym e) here)
    | inr n ↦ going.closed s from (omega (arith, to, n))
  ];
  bounded = omega (arith, going.bounded);
}

-- what stopped a search stopped it, whichever number of stations was the last
pub settled_last : (kind : LineKind) (line : Line) (least most m last : ℕ) (plan : Plan) (v : Settled)
    → IsSettled kind line least most m plan v → ((h : Lowering) → v ≡ settled.Goes h → ⊥)
    → IsSettled kind line least most last plan v
settled_last kind line least most m last plan (settled.Goes h) s none = absurd (none h refl)
settled_last kind line least most m last plan (settled.Large h) s none = s
settled_last kind line least most m last plan (settled.Spent h frames closing_from) s none = s
settled_last kind line least most m last plan (settled.NoMemory h) s none = s

-- no task is longer than a cycle that is left open
pub none_too_long : (line : Line) (least most m X : ℕ) (h : Lowering) → IsLine line → IsLeftAt line least most m X h
    → (i : ℕ) → IsTooLong line X i → ⊥
none_too_long line least most m X h ok left = none_long line m X ok left.floor

-- such a cycle is in range
pub left_cycle : (kind : LineKind) (line : Line) (least most m X : ℕ) (h : Lowering)
    → IsLowering kind line least most h → IsLeftAt line least most m X h → IsCycle X
left_cycle kind line least most m X h l left = record {
  some = left.some;
  limit = omega (arith, below_upper kind line least most m X h l left.from left.near, l.bounded);
}

-- a search with another balance, of a smaller product
module _ (kind : LineKind) (line : Line) (least most m X : ℕ) (old new : Lowering) (from : least ≤ m) (to : m ≤ most)
    (l : IsLowering kind line least most old) (near : m * X < product_of old)
    (i : IsImproved kind line m X old new) where
  product_is : product_of new ≡ m * new.cycle
  product_is = ap (λ z. z * new.cycle) i.stations

  pub product_less : product_of new < product_of old
  product_less =
      let a : m * new.cycle ≤ m * X = mul-le-mul_left m i.less in
      omega (arith, a, near, product_is)

  same_entries : entries_of old ≡ entries_of new
  same_entries = ap (λ (z : BookView). z.state.entries) (sym i.book)

  bounds_new : bounds (entries_of new) ≡ bounds (entries_of old)
  bounds_new = ap (λ (z : List Entry). bounds z) (sym same_entries)

  improved_lowering : IsLowering kind line least most new
  improved_lowering =
      let C : Listed → Type 0 = λ z. IsCounted line (entries_of old) (length (entries_of old)) z in
      let D : List Entry → Type 0 = λ z. IsCounted line z (length z) new.listed in
      let F : List Entry → Type 0 = λ z. (s : ℕ) → least ≤ s → s ≤ most → IsFloored line z s in
      let H : List Entry → Type 0 = λ z. HaveCycles line z in
      let G : List Entry → Type 0 = λ z. AreGoalsByBound line z in
      let R : BookView → Type 0 = λ z. IsReserved z in
      let u : X < first_upper line = below_upper kind line least most m X old l from near in
      record {
        line_is = ap (λ (z : BookView). z.about.line) i.book ∙ l.line_is;
        kind_is = ap (λ (z : BookView). z.about.kind) i.book ∙ l.kind_is;
        reserved = subst R (sym i.book) l.reserved;
        from = omega (arith, i.stations, from);
        to = omega (arith, i.stations, to);
        some = i.some;
        limit = omega (arith, i.less, u, l.bounded);
        bounded = l.bounded;
        right = i.right;
        tight = i.tight;
        first = omega (arith, product_less, l.first);
        counted = subst D same_entries (subst C (sym i.listed) l.counted);
        few = omega (arith, l.few, ap (λ (z : List Entry). length z) same_entries);
        within = omega (arith, l.within, ap (λ (z : Listed). z.units) i.listed);
        floored = subst F same_entries l.floored;
        cycles = subst H same_entries l.cycles;
        goals = subst G same_entries l.goals;
        by_bound = omega (arith, l.by_bound, bounds_new);
      }

  pub improved_going : ((Y : ℕ) → 1 ≤ Y → Y < X → IsSinceGoal line Y (entries_of old) [])
      → ((s : ℕ) → least ≤ s → s < m → IsClosed line (entries_of old) (product_of old) s) → 1 ≤ least
      → bounds (entries_of old) + 2 * least ≤ most + 1 + m → IsGoing kind line least most m new
  improved_going clear closed some bounded = record {
    lowering = improved_lowering;
    clear = λ Y one less.
        let S : List Entry → Type 0 = λ z. IsSinceGoal line Y z [] in
        let a : m * new.cycle ≤ m * X = mul-le-mul_left m i.less in
        subst S same_entries (clear Y one (lt_of_mul-lt-mul_left m (omega (arith, less, product_is, a))));
    closed = λ s low high.
        let Z : List Entry → Type 0 = λ z. IsClosed line z (product_of new) s in
        subst Z same_entries (closed_less line (entries_of old) (product_of new) (product_of old) s
        (omega (arith, some, low)) (omega (arith, product_less)) (closed s low high));
    bounded = omega (arith, bounded, bounds_new);
  }

-- the ranked balance has few enough stations
pub ranked_going : (kind : LineKind) (line : Line) (least most m X : ℕ) (old new : Lowering) → 1 ≤ least
    → IsGoing kind line least most m old → IsLeftAt line least most m X old → IsImproved kind line m X old new
    → IsGoing kind line least most m new × (product_of new < product_of old)
ranked_going kind line least most m X old new some going left i = (
  improved_going kind line least most m X old new left.from left.to going.lowering left.near i
      (λ Y one less.
      let a : m * Y ≤ m * X = mul-le-mul_left m (omega (arith, less)) in
      going.clear Y one (omega (arith, a, left.near)))
      going.closed some going.bounded,
  product_less kind line least most m X old new left.from left.to going.lowering left.near i,
)
