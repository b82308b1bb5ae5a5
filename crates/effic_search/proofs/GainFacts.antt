-- What a book gains in a try, by its seek and by its round, and what the search is then.
use Rattle.std.proofs.Common.{◌≡◌, ℕ, suc, ◌+◌, ◌-◌, ◌*◌, ◌<◌, ◌≤◌, List, [], ◌∷◌, ◌++◌, length}
use Rattle.std.proofs.Common.{refl, sym, ap, ◌∙◌, subst, inl, inr, arith, Option, length-append, append_assoc}
use Rattle.std.proofs.Math.Nat.{mul-le-mul_left, mul-le-mul_right, suc-mul}
use Rattle.std.proofs.Math.Seq.{take-length}
use Rattle.line_instance.specs.Line.{Line}
use Rattle.line_rules.specs.Balance.{IsRight, all_tasks}
use Rattle.line_rules.specs.Units.{UnitsOf}
use Rattle.line_rules.specs.declared.types.LineKind.{LineKind}
use Rattle.line_rules.specs.declared.types.Entry.{Entry}
use Rattle.line_rules.specs.declared.types.Balance.{Balance as Assignment}
use Rattle.line_rules.proofs.Monotone.{entries_same}
use Rattle.line_rules.proofs.ListUnits.{units_both}
use Rattle.line_rules.proofs.LongerLists.{has_longer}
use Rattle.lemma_core.specs.Machine.{About}
use Rattle.lemma_core.specs.Books.{BookView, IsReserved}
use Rattle.station_search.proofs.Events.{get_append_cases}
use Rattle.round_helpers.specs.Growth.{AreAtCycle}
use Rattle.cycle_search.specs.rounds.declared.closing.Verdict.{Verdict}
use Rattle.cycle_search.specs.rounds.declared.plans.Plan.{Plan}
use Rattle.cycle_search.specs.Ends.{first_lower, first_upper}
use Rattle.cycle_search.specs.Seek.{AreSeeks, seek_room, try_room}
use Rattle.effic_check.specs.Accepted.{IsClosed, cycle_below}
use Rattle.effic_search.specs.Counted.{AreGoalsByBound, IsCounted, IsWithin, bounds, others, most_ended}
use Rattle.effic_search.specs.Since.{IsSinceGoal}
use Rattle.effic_search.specs.inner.Going.{IsFloored, HaveCycles, IsTight, IsLowering, IsGoing}
use Rattle.effic_search.specs.inner.Going.{IsTry, IsPaid, HasSought}
use Rattle.cycle_search.proofs.SeekFacts.{no_room}
use Rattle.effic_search.specs.inner.Going.{HasAsked, IsImproved, may_bound, product_of, entries_of}
use Rattle.effic_search.specs.declared.lowering.Lowering.{Lowering}
use Rattle.effic_search.proofs.CountFacts.{all_listed, bounds_both, others_both, others_few}
use Rattle.effic_search.proofs.SinceFacts.{since_other}
use Rattle.effic_search.proofs.TryFacts.{below_upper, improved_going, product_less}

-- without a seek there is no room for its entries
no_entry : (es : List Entry) → length es ≤ 0 → es ≡ []
no_entry [] l = refl
no_entry (e ∷ es) l = absurd (omega (arith, l))

pub none_sought : (line : Line) (plan : Plan) (es : List Entry) → plan.seek ≡ 0 → IsWithin line es (seek_room plan)
    → es ≡ []
none_sought line plan es none w = no_entry es (omega (arith, w.few, no_room plan none))

-- A search whose book came to the cycle X and gained entries there, at most so many and of at most so many units: they
-- are counted, and its balance stays. Those by Bound are of all tasks, and at most so many.
pub record HasGained (many paid goals X : ℕ) (old new : Lowering) : Type 0 where
  pub cycle : new.cycle ≡ old.cycle
  pub balance : new.balance ≡ old.balance
  pub about : new.book.about ≡ record { line = old.book.about.line; kind = old.book.about.kind; cycle = X }
  pub reserved : IsReserved new.book
  pub gained : List Entry
  pub entries : entries_of new ≡ entries_of old ++ gained
  pub cycles : AreAtCycle X gained
  pub few : length gained ≤ many
  pub units : ℕ
  pub entry_units : UnitsOf old.book.about.line gained units
  pub within : units ≤ paid
  pub counted : IsCounted old.book.about.line (entries_of new) (length (entries_of new)) new.listed
  pub all : AreGoalsByBound old.book.about.line gained
  pub by_bound : bounds gained ≤ goals

pub sought_gains : (m : ℕ) (plan : Plan) (X : ℕ) (old new : Lowering) (found : Option Assignment)
    → HasSought m plan X old new found → HasGained (seek_room plan) (seek_room plan) 0 X old new
sought_gains m plan X old new found h =
    let A : About → Type 0 = λ z. AreAtCycle z.cycle h.does.gained in
    let U : About → Type 0 = λ z. UnitsOf z.line h.does.gained h.does.units in
    let R : BookView → Type 0 = λ z. IsReserved z in
    record {
      cycle = h.cycle;
      balance = h.balance;
      about = ap (λ (z : BookView). z.about) (sym h.book) ∙ (h.does.about ∙ h.about);
      reserved = subst R h.book h.does.reserved;
      gained = h.does.gained;
      entries = ap (λ (z : BookView). z.state.entries) (sym h.book)
          ∙ (h.does.entries ∙ ap (λ (z : List Entry). z ++ h.does.gained) h.same);
      cycles = subst A h.about h.does.cycles;
      few = h.does.few;
      units = h.does.units;
      entry_units = subst U h.about h.does.counted;
      within = omega (arith, h.does.paid, h.does.within);
      counted = h.counted;
      all = h.goals;
      by_bound = h.by_bound;
    }

pub asked_gains : (m : ℕ) (plan : Plan) (X : ℕ) (old new : Lowering) (v : Verdict) → old.book.about.cycle ≡ X
    → HasAsked m plan old new v → HasGained (2 * plan.units + 1) (2 * plan.units) (may_bound v) X old new
asked_gains m plan X old new v at h =
    let A : ℕ → Type 0 = λ z. AreAtCycle z h.does.gained in
    let R : BookView → Type 0 = λ z. IsReserved z in
    let here : old.book.about ≡ record { line = old.book.about.line; kind = old.book.about.kind; cycle = X } =
    λ i. record { line = old.book.about.line; kind = old.book.about.kind; cycle = at i } in
    record {
      cycle = h.cycle;
      balance = h.balance;
      about = ap (λ (z : BookView). z.about) (sym h.book) ∙ (h.does.about ∙ here);
      reserved = subst R h.book h.does.reserved;
      gained = h.does.gained;
      entries = ap (λ (z : BookView). z.state.entries) (sym h.book) ∙ h.does.entries;
      cycles = subst A at h.does.cycles;
      few = h.does.few;
      units = h.does.published;
      entry_units = h.does.entry_units;
      within = omega (arith, h.does.paid, h.does.within);
      counted = h.counted;
      all = h.goals;
      by_bound = h.by_bound;
    }

pub both_at : (X : ℕ) (xs ys : List Entry) → AreAtCycle X xs → AreAtCycle X ys → AreAtCycle X (xs ++ ys)
both_at X xs ys p q k e g = elim (get_append_cases xs ys k e g) [ inl a ↦ p k e a | inr b ↦ q b.0 e b.1 ]

-- those by Bound of two lists are of all tasks where those of each are
pub both_goals : (line : Line) (xs ys : List Entry) → AreGoalsByBound line xs → AreGoalsByBound line ys
    → AreGoalsByBound line (xs ++ ys)
both_goals line xs ys p q k e g = elim (get_append_cases xs ys k e g) [ inl a ↦ p k e a | inr b ↦ q b.0 e b.1 ]

-- what is counted of a book that gained entries
pub listed_more : (line : Line) (old new : Lowering) (gained : List Entry)
    → IsCounted line (entries_of old) (length (entries_of old)) old.listed
    → IsCounted line (entries_of new) (length (entries_of new)) new.listed
    → entries_of new ≡ entries_of old ++ gained → new.listed.entries ≡ old.listed.entries + others gained
listed_more line old new gained before after is = omega (
  arith,
  after.entries,
  before.entries,
  ap (λ (z : List Entry). others z) (take-length (entries_of new) ∙ is),
  ap (λ (z : List Entry). others z) (take-length (entries_of old)),
  others_both (entries_of old) gained,
)

-- what is counted of one that took in what its seek brought
pub sought_listed : (m : ℕ) (plan : Plan) (X : ℕ) (old new : Lowering) (found : Option Assignment)
    (h : HasSought m plan X old new found)
    → IsCounted old.book.about.line (entries_of old) (length (entries_of old)) old.listed
    → new.listed.entries ≡ old.listed.entries + others h.does.gained
sought_listed m plan X old new found h before =
    listed_more old.book.about.line old new h.does.gained before h.counted
    (ap (λ (z : BookView). z.state.entries) (sym h.book)
    ∙ (h.does.entries ∙ ap (λ (z : List Entry). z ++ h.does.gained) h.same))

-- one try more
step_more : (tries room a b n : ℕ) → a ≤ tries * room → n ≤ room → b ≡ a + n → b ≤ suc tries * room
step_more tries room a b n l few is = omega (arith, l, few, is, suc-mul tries room)

-- what was taken in some tries was taken in more
pub paid_more : (plan : Plan) (tries more : ℕ) (h : Lowering) → tries ≤ more → IsPaid plan tries h
    → IsPaid plan more h
paid_more plan tries more h l p = record {
  seeks = p.seeks;
  units = p.units;
  entries = p.entries;
  within = omega (arith, p.within, mul-le-mul_right (try_room plan) l);
  few = omega (arith, p.few, mul-le-mul_right (try_room plan + 1) l);
  short = omega (arith, p.short, mul-le-mul_right (2 * plan.units + 1) l);
}

-- a book gained twice at a cycle
pub gains_both : (many more paid pay goals X : ℕ) (old mid new : Lowering) → HasGained many paid 0 X old mid
    → HasGained more pay goals X mid new → HasGained (many + more) (paid + pay) goals X old new
gains_both many more paid pay goals X old mid new a b =
    let line : mid.book.about.line ≡ old.book.about.line = ap (λ (z : About). z.line) a.about in
    let kind : mid.book.about.kind ≡ old.book.about.kind = ap (λ (z : About). z.kind) a.about in
    let U : Line → Type 0 = λ z. UnitsOf z b.gained b.units in
    let C : Line → Type 0 = λ z. IsCounted z (entries_of new) (length (entries_of new)) new.listed in
    let G : Line → Type 0 = λ z. AreGoalsByBound z b.gained in
    record {
      cycle = b.cycle ∙ a.cycle;
      balance = b.balance ∙ a.balance;
      about = b.about ∙ (λ i. record { line = line i; kind = kind i; cycle = X });
      reserved = b.reserved;
      gained = a.gained ++ b.gained;
      entries = b.entries
          ∙ (ap (λ (z : List Entry). z ++ b.gained) a.entries ∙ append_assoc (entries_of old) a.gained b.gained);
      cycles = both_at X a.gained b.gained a.cycles b.cycles;
      few = omega (arith, length-append a.gained b.gained, a.few, b.few);
      units = a.units + b.units;
      entry_units = units_both old.book.about.line a.gained b.gained a.units b.units a.entry_units
          (subst U line b.entry_units);
      within = omega (arith, a.within, b.within);
      counted = subst C line b.counted;
      all = both_goals old.book.about.line a.gained b.gained a.all (subst G line b.all);
      by_bound = omega (arith, bounds_both a.gained b.gained, a.by_bound, b.by_bound);
    }

-- the entries with which a try is made are few
pub few_before : (kind : LineKind) (line : Line) (least most m X : ℕ) (plan : Plan) (h : Lowering) → 1 ≤ least
    → most ≤ 1024 → IsTry kind line least most m X plan h → length (entries_of h) ≤ 4002048
few_before kind line least most m X plan h some few t = omega (
  arith,
  all_listed (entries_of h),
  t.going.lowering.by_bound,
  some,
  few,
  t.short,
  t.going.lowering.counted.entries,
  ap (λ (z : List Entry). others z) (take-length (entries_of h)),
)

-- a search in a try whose book gained no more than a try may add
module _ (kind : LineKind) (line : Line) (least most m X many paid goals : ℕ) (plan : Plan) (old new : Lowering)
    (some : 1 ≤ least) (few : most ≤ 1024) (t : IsTry kind line least most m X plan old) (many_few : many ≤ 6000001)
    (paid_few : paid ≤ 6000000) (h : HasGained many paid goals X old new) where
  l : IsLowering kind line least most old
  l = t.going.lowering

  pub about_now : new.book.about ≡ record { line = line; kind = kind; cycle = X }
  about_now = h.about ∙ (λ i. record { line = l.line_is i; kind = l.kind_is i; cycle = X })

  pub product_now : product_of new ≡ product_of old
  product_now = (λ i. (h.balance i).stations * (h.cycle i))

  few_now : length (entries_of new) ≤ 20000000
  few_now = omega (
    arith,
    ap (λ (z : List Entry). length z) h.entries,
    length-append (entries_of old) h.gained,
    h.few,
    many_few,
    few_before kind line least most m X plan old some few t,
  )

  -- the units are those of before, and those of what the book gained
  units_now : new.listed.units ≡ old.listed.units + h.units
  units_now =
      let before : List Entry → Type 0 = λ z. UnitsOf line z old.listed.units in
      let L : Line → Type 0 = λ z. UnitsOf z h.gained h.units in
      let C : Line → Type 0 = λ z. IsCounted z (entries_of new) (length (entries_of new)) new.listed in
      let after : List Entry → Type 0 = λ z. UnitsOf line z new.listed.units in
      entries_same line (entries_of old ++ h.gained) new.listed.units (old.listed.units + h.units)
      (subst after (take-length (entries_of new) ∙ h.entries) (subst C l.line_is h.counted).units)
      (units_both line (entries_of old) h.gained old.listed.units h.units
      (subst before (take-length (entries_of old)) l.counted.units) (subst L l.line_is h.entry_units))

  -- and so are those that aren't by Bound
  listed_now : new.listed.entries ≡ old.listed.entries + others h.gained
  listed_now =
      let C : Line → Type 0 = λ z. IsCounted z (entries_of new) (length (entries_of new)) new.listed in
      listed_more line old new h.gained l.counted (subst C l.line_is h.counted) h.entries

  -- what was taken is what the plan allows for one try more
  pub paid_now : many ≤ try_room plan + 1 → paid ≤ try_room plan → AreSeeks plan new.seeks
      → new.listed.entries ≤ suc (most_ended line least m (product_of old)) * (2 * plan.units + 1) + new.seeks.kept
      → IsPaid plan (suc (most_ended line least m (product_of old))) new
  paid_now more pays seeks short =
      let tries : ℕ = most_ended line least m (product_of old) in
      record {
        seeks = seeks;
        units = omega (arith, units_now, h.within, pays, t.small);
        entries = omega (arith, listed_now, others_few h.gained, h.few, more, t.short);
        within = step_more tries (try_room plan) old.listed.units new.listed.units h.units t.paid.within
            (omega (arith, h.within, pays)) units_now;
        few = step_more tries (try_room plan + 1) old.listed.entries new.listed.entries (others h.gained) t.paid.few
            (omega (arith, others_few h.gained, h.few, more)) listed_now;
        short = short;
      }

  cycles_now : HaveCycles line (entries_of new)
  cycles_now =
      let P : List Entry → Type 0 = λ z. HaveCycles line z in
      let u : X < first_upper line = below_upper kind line least most m X old l t.left.from t.left.near in
      subst P (sym h.entries) (λ k e g other. elim (get_append_cases (entries_of old) h.gained k e g) [
        | inl a ↦ l.cycles k e a other
        | inr b ↦
            let c : e.cycle ≡ X = h.cycles b.0 e b.1 in
            (omega (arith, t.left.floor, c), omega (arith, u, c))
      ])

  goals_now : AreGoalsByBound line (entries_of new)
  goals_now =
      let P : List Entry → Type 0 = λ z. AreGoalsByBound line z in
      let G : Line → Type 0 = λ z. AreGoalsByBound z h.gained in
      subst P (sym h.entries) (both_goals line (entries_of old) h.gained l.goals (subst G l.line_is h.all))

  -- those by Bound are no more than the try may have
  pub bounds_now : bounds (entries_of new) + 2 * least ≤ most + 1 + m + goals
  bounds_now = omega (
    arith,
    ap (λ (z : List Entry). bounds z) h.entries,
    bounds_both (entries_of old) h.gained,
    h.by_bound,
    t.going.bounded,
  )

  pub gained_lowering : goals ≤ 1 → IsLowering kind line least most new
  gained_lowering one =
      let F : List Entry → Type 0 = λ z. (s : ℕ) → least ≤ s → s ≤ most → IsFloored line z s in
      let B : Assignment → Type 0 = λ z. IsRight kind line new.cycle z in
      let C : ℕ → Type 0 = λ z. IsRight kind line z old.balance in
      let T : Assignment → Type 0 = λ z. IsTight kind line z new.cycle in
      let O : ℕ → Type 0 = λ z. IsTight kind line old.balance z in
      let L : Line → Type 0 = λ z. IsCounted z (entries_of new) (length (entries_of new)) new.listed in
      let stations : new.balance.stations ≡ old.balance.stations = ap (λ (z : Assignment). z.stations) h.balance in
      record {
        line_is = ap (λ (z : About). z.line) about_now;
        kind_is = ap (λ (z : About). z.kind) about_now;
        reserved = h.reserved;
        from = omega (arith, l.from, stations);
        to = omega (arith, l.to, stations);
        some = omega (arith, l.some, h.cycle);
        limit = omega (arith, l.limit, h.cycle);
        bounded = l.bounded;
        right = subst B (sym h.balance) (subst C (sym h.cycle) l.right);
        tight = subst T (sym h.balance) (subst O (sym h.cycle) l.tight);
        first = omega (arith, l.first, product_now);
        counted = subst L l.line_is h.counted;
        few = few_now;
        within = omega (arith, units_now, h.within, paid_few, t.small);
        floored = subst F (sym h.entries) (λ s from to more.
            has_longer (entries_of old) h.gained (all_tasks line) s (first_lower line s - 1)
            (l.floored s from to more));
        cycles = cycles_now;
        goals = goals_now;
        by_bound = omega (arith, bounds_now, one, t.left.to);
      }

  pub near_now : m * X < product_of new
  near_now = omega (arith, t.left.near, product_now)

  pub closed_now : (s : ℕ) → least ≤ s → s < m → IsClosed line (entries_of new) (product_of new) s
  closed_now s from to =
      let P : List Entry → Type 0 = λ z. IsClosed line z (product_of new) s in
      let Q : ℕ → Type 0 = λ z. IsClosed line (entries_of old ++ h.gained) z s in
      subst P (sym h.entries) (subst Q (sym product_now) (λ one.
      has_longer (entries_of old) h.gained (all_tasks line) s (cycle_below (product_of old) s)
      (t.going.closed s from to one)))

  -- at another cycle of a smaller product nothing was added
  pub clear_other : (Y : ℕ) → 1 ≤ Y → m * Y < product_of old → (Y ≡ X → ⊥) → IsSinceGoal line Y (entries_of new) []
  clear_other Y one near other =
      let P : List Entry → Type 0 = λ z. IsSinceGoal line Y z [] in
      subst P (sym h.entries) (since_other line Y (entries_of old) h.gained []
      (λ k e g c. other (sym c ∙ h.cycles k e g)) (t.going.clear Y one near))

  clear_below : (Y : ℕ) → 1 ≤ Y → Y < X → IsSinceGoal line Y (entries_of new) []
  clear_below Y one less =
      let a : m * Y ≤ m * X = mul-le-mul_left m (omega (arith, less)) in
      clear_other Y one (omega (arith, a, t.left.near)) (λ e. omega (arith, e, less))

  -- a balance was found
  pub found_going : goals ≤ 0 → (better : Lowering) → IsImproved kind line m X new better
      → IsGoing kind line least most m better × (product_of better < product_of old)
  found_going none better i = (
    improved_going kind line least most m X new better t.left.from t.left.to (gained_lowering (omega (arith, none)))
        near_now i clear_below closed_now some (omega (arith, bounds_now, none)),
    omega (
      arith,
      product_now,
      product_less kind line least most m X new better t.left.from t.left.to (gained_lowering (omega (arith, none)))
          near_now i,
    ),
  )
