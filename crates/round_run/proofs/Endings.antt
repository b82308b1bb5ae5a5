-- What a run comes to whose questions ended: the least number of stations, or bounds.
use Rattle.std.proofs.Common.{◌≡◌, ℕ, zero, suc, ◌+◌, ◌-◌, ◌*◌, ◌^◌, ◌<◌, ◌≤◌, Bool, true, false, cond, List, [], ◌∷◌}
use Rattle.std.proofs.Common.{◌++◌, length}
use Rattle.std.proofs.Common.{refl, sym, ap, ◌∙◌, subst, inl, inr, arith, length-append, Option, Some, None}
use Rattle.std.proofs.lemmas.List.{append-nil}
use Rattle.std.proofs.lemmas.Bool.{cases_lt, eq-eqb}
use Rattle.std.specs.Prelude.{slice_get, nat_eq}
use Rattle.line_instance.specs.Truths.{In, IsSubset}
use Rattle.line_instance.specs.Line.{Line, IsLine, IsRanked, tasks}
use Rattle.line_rules.specs.Balance.{Holds, IsRight, all_tasks, seat}
use Rattle.line_rules.specs.Bounds.{bound}
use Rattle.line_rules.specs.Entries.{Answers, HasAnswer, IsDerived, IsUnanswered}
use Rattle.line_rules.specs.Loads.{taken, rest}
use Rattle.line_rules.specs.Ranked.{IsRankedBalance}
use Rattle.line_rules.specs.Trails.{Leads, IsTrail, IsOpenOver}
use Rattle.line_rules.specs.Units.{UnitsOf, UnitsIn, UnitsAt, entries_at}
use Rattle.line_rules.specs.declared.types.LineKind.{LineKind}
use Rattle.line_rules.specs.declared.types.Entry.{Entry}
use Rattle.line_rules.specs.declared.types.OpenFrame.{OpenFrame}
use Rattle.line_rules.specs.declared.types.Balance.{Balance as Assignment}
use Rattle.line_rules.proofs.All.{In-all}
use Rattle.line_rules.proofs.Monotone.{bound_holds}
use Rattle.line_rules.proofs.ListUnits.{derived_counted, units_both}
use Rattle.line_rules.proofs.Nonempty.{bound_some}
use Rattle.line_rules.proofs.Paths.{rest_inside, rest_without, leads_longer, deep_longer}
use Rattle.line_rules.proofs.AcceptedIsTrue.{answer_holds}
use Rattle.line_rules.proofs.SubBalance.{holds_more}
use Rattle.lemma_core.specs.Machine.{About}
use Rattle.lemma_core.specs.Books.{BookView, IsBook, IsReserved, MayBeBest}
use Rattle.station_search.proofs.Events.{get_append_cases}
use Rattle.budget_law.specs.Budget.{states}
use Rattle.budget_law.proofs.FewUnits.{units_few}
use Rattle.round_helpers.specs.Growth.{AreAtCycle}
use Rattle.round_run.specs.Rounds.{AddsBound, by_bound}
use Rattle.round_run.specs.inner.Questions.{IsRun, HasAsked, trail_of, stop_by}
use Rattle.round_run.specs.Solving.{IsRunBook, IsBelow, IsSolvedFrom, IsStoppedFrom, IsSpentFrom, FitsAll, SolvesFrom}
use Rattle.round_run.specs.Solving.{Solves}
use Rattle.round_run.specs.declared.questions.Stop.{Stop}
use Rattle.round_run.specs.declared.plans.Plan.{Plan}
use Rattle.round_run.specs.declared.solving.Cause.{Cause}
use Rattle.round_run.specs.declared.solving.Cause.TheVariants as cause
use Rattle.round_run.specs.declared.solving.Outcome.{Outcome}
use Rattle.round_run.specs.declared.solving.Outcome.TheVariants as outcome
use Rattle.round_run.proofs.RankedOnce.{same_stations}
use Rattle.round_run.proofs.TurnFacts.{cycles_on, entries_on}
use Rattle.line_rules.proofs.ListFacts.{get_none}

-- a trail is valid over more entries
trail_longer : (kind : LineKind) (line : Line) (X : ℕ) (es more : List Entry) (R : List Bool) (most : ℕ)
    (frames : List OpenFrame) → IsTrail kind line X es R most frames → IsTrail kind line X (es ++ more) R most frames
trail_longer kind line X es more R most frames t = record {
  passed = t.passed;
  deepest = t.deepest;
  all = t.all;
  leads = leads_longer kind line X es more t.passed R most t.deepest.set t.deepest.most t.leads;
  deep = deep_longer kind line X es more t.deepest t.deep;
}

module _ (kind : LineKind) (line : Line) (X : ℕ) (es : List Entry) (deepest : OpenFrame) where
  -- the set of each frame is a part of that of the question
  inside : (fs : List OpenFrame) (R : List Bool) (most : ℕ) → Leads kind line X es R most fs deepest.set deepest.most
      → (k : ℕ) (f : OpenFrame) → slice_get (fs ++ deepest ∷ []) k ≡ Some f → IsSubset f.set R
  inside [] R most h zero f e =
      let s : deepest ≡ f = cc in
      let P : List Bool → Type 0 = λ z. IsSubset f.set z in
      subst P (ap (λ (z : OpenFrame). z.set) (sym s) ∙ h.0) (λ i m. m)
  inside [] R most h (suc k) f e = absurd (cc)
  inside (g ∷ fs) R most h zero f e =
      let s : g ≡ f = cc in
      let P : List Bool → Type 0 = λ z. IsSubset f.set z in
      subst P (ap (λ (z : OpenFrame). z.set) (sym s) ∙ h.1.0) (λ i m. m)
  inside (g ∷ fs) R most h (suc k) f e =
      let P : List Bool → Type 0 = λ z. IsSubset f.set z in
      subst P h.1.0 (λ i m. rest_inside g.set h.0 i (inside fs (rest g.set h.0) (g.most - 1) h.1.3 k f e i m))

  -- and it lacks a task of that, but for the first frame's
  most_is : (fs : List OpenFrame) (R : List Bool) (most : ℕ) → Leads kind line X es R most fs deepest.set deepest.most
      → (k : ℕ) (f : OpenFrame) → slice_get (fs ++ deepest ∷ []) k ≡ Some f → f.set ≡ R → f.most ≡ most
  most_is [] R most h zero f e q = let s : deepest ≡ f = cc in ap (λ (z : OpenFrame). z.most) (sym s) ∙ h.1
  most_is [] R most h (suc k) f e q = absurd (cc)
  most_is (g ∷ fs) R most h zero f e q = let s : g ≡ f = cc in ap (λ (z : OpenFrame). z.most) (sym s) ∙ h.1.1
  most_is (g ∷ fs) R most h (suc k) f e q =
      let i : (i : ℕ) × In (taken h.0) i = h.1.2.load.some in
      let P : List Bool → Type 0 = λ z. In z i.0 in
      let m : In f.set i.0 = subst P (h.1.0 ∙ sym q) (h.1.2.load.within i.0 i.1) in
      absurd (rest_without g.set h.0 i.0 i.1 (inside fs (rest g.set h.0) (g.most - 1) h.1.3 k f e i.0 m))

-- a frame of a trail that has the set of the question has its stations
pub question_most : (kind : LineKind) (line : Line) (X : ℕ) (es : List Entry) (R : List Bool) (most : ℕ)
    (frames : List OpenFrame) → IsTrail kind line X es R most frames → (k : ℕ) (f : OpenFrame)
    → slice_get frames k ≡ Some f → f.set ≡ R → f.most ≡ most
question_most kind line X es R most frames t k f e q =
    most_is kind line X es t.deepest t.passed R most t.leads k f
    (sym (ap (λ (z : List OpenFrame). slice_get z k) t.all) ∙ e) q

-- where each entry is at the cycle, they are the entries of that cycle
pub all_at : (X : ℕ) (es : List Entry) → AreAtCycle X es → entries_at X es ≡ es
all_at X [] h = refl
all_at X (e ∷ es) h =
    let t : nat_eq e.cycle X ≡ true = eq-eqb e.cycle X (h 0 e refl) in
    rw t (ap (λ (z : List Entry). e ∷ z) (all_at X es (λ k x g. h (suc k) x g)))

-- entries of a cycle have a number of units, where all have one
one_some : (line : Line) (e : Entry) (es at : List Entry) (u : ℕ) (t : Bool) → UnitsOf line (e ∷ es) u
    → (v : ℕ) × UnitsOf line at v → (v : ℕ) × UnitsOf line (cond t (e ∷ at) at) v
one_some line e es at u true h rest = (h.0 + rest.0, (h.0, rest.0, (h.2.0, rest.1, refl)))
one_some line e es at u false h rest = rest

pub units_some : (line : Line) (X : ℕ) (es : List Entry) (u : ℕ) → UnitsOf line es u
    → (v : ℕ) × UnitsOf line (entries_at X es) v
units_some line X [] u h = (0, refl)
units_some line X (e ∷ es) u h =
    one_some line e es (entries_at X es) u (nat_eq e.cycle X) h (units_some line X es h.1 h.2.1)

-- the first entries of a list have a number of units, where all have one
pub units_front : (line : Line) (xs ys : List Entry) (u : ℕ) → UnitsOf line (xs ++ ys) u → (v : ℕ) × UnitsOf line xs v
units_front line [] ys u h = (0, refl)
units_front line (x ∷ xs) ys u h =
    let rest : (v : ℕ) × UnitsOf line xs v = units_front line xs ys h.1 h.2.1 in
    (h.0 + rest.0, (h.0, rest.0, (h.2.0, rest.1, refl)))

-- the entries of a cycle in two lists
one_both : (x : Entry) (all xs ys : List Entry) (t : Bool) → all ≡ xs ++ ys
    → cond t (x ∷ all) all ≡ cond t (x ∷ xs) xs ++ ys
one_both x all xs ys true e = ap (λ (z : List Entry). x ∷ z) e
one_both x all xs ys false e = e

pub at_both : (X : ℕ) (xs ys : List Entry) → entries_at X (xs ++ ys) ≡ entries_at X xs ++ entries_at X ys
at_both X [] ys = refl
at_both X (x ∷ xs) ys =
    one_both x (entries_at X (xs ++ ys)) (entries_at X xs) (entries_at X ys) (nat_eq x.cycle X) (at_both X xs ys)

one_entry : (y : Entry) (j : ℕ) (x : Entry) → slice_get (y ∷ []) j ≡ Some x → y ≡ x
one_entry y zero x e = cc
one_entry y (suc j) x e = absurd (cc)

-- a run begins with the best balance of its book, and with the bound of all tasks as its first question
pub begins : (line : Line) (first : ℕ) (b : BookView) → IsLine line → b.about.line ≡ line → 1 ≤ b.about.cycle
    → MayBeBest b.about b.state.best → IsReserved b
    → first ≡ bound b.about.kind line b.about.cycle (all_tasks line)
    → IsRun b.about.kind line b.about.cycle b.state.entries [] b.state.best.stations first first b
begins line first b ok same cycle may reserved start =
    let all : tasks b.about.line ≡ tasks line = ap (λ (z : Line). tasks z) same in
    let Q : Line → Type 0 = λ z. IsRight b.about.kind z b.about.cycle b.state.best in
    let right : IsRight b.about.kind line b.about.cycle b.state.best = subst Q same may.right in
    record {
      about = λ i. record { line = same i; kind = b.about.kind; cycle = b.about.cycle };
      entries = sym (append-nil b.state.entries);
      cycles = λ k e g. absurd (cc);
      some = omega (
        arith,
        start,
        bound_some b.about.kind line b.about.cycle (all_tasks line) 0
            (In-all line 0 ok.small ok.some),
      );
      from = omega arith;
      up_to = elim (cases_lt b.state.best.stations first) [
        | inl l ↦ absurd (bound_holds b.about.kind line b.about.cycle cycle (all_tasks line) b.state.best.stations
            (omega (arith, l, start)) (seat b.state.best.place) right.balance)
        | inr l ↦ omega (arith, l, all, may.few)
      ];
      refuted = λ l. absurd (omega (arith, l));
      best = omega arith;
      reserved = reserved;
    }

module _ (kind : LineKind) (line : Line) (c : ℕ) (before : List Entry) (top N G first lower : ℕ) (b new : BookView)
    (plan : Plan) (ok : IsLine line)
    (is_ranked : IsRanked line) (cycle : 1 ≤ c) (start : first ≡ bound kind line c (all_tasks line))
    (fits : FitsAll line c) (a : AddsBound (first - 1) b new) (kept : IsBook new)
    (shown : IsBelow line c new lower) (plan_units : N ≡ plan.units) (helpers : G ≤ N)
    (alone : plan.helpers ≡ 0 → G ≡ 0) where
  gained_units : UnitsOf line a.gained 0
  gained_units =
      let P : List Entry → Type 0 = λ z. UnitsOf line z 0 in
      elim a.entry [ inl e ↦ subst P (sym e) refl | inr e ↦ subst P (sym e) (0, 0, (refl, refl, refl)) ]

  gained_few : length a.gained ≤ 1
  gained_few = elim a.entry [
    | inl e ↦ omega (arith, ap (λ (z : List Entry). length z) e)
    | inr e ↦ omega (arith, ap (λ (z : List Entry). length z) e)
  ]

  -- the questions of the run ended so
  abbrev pub Asked : Option Stop → Type 0
  Asked stop = HasAsked kind line c before top N G first (record { book = b; lower = lower; stop = stop })

  module _ (stop : Option Stop) (h : Asked stop) where
    -- what the run added
    abbrev pub added : List Entry
    added = h.added ++ a.gained

    about_is : new.about ≡ record { line = line; kind = kind; cycle = c }
    about_is = a.goes_on.about ∙ h.run.about

    right : IsRight kind line c new.state.best
    right = let P : About → Type 0 = λ z. IsRight z.kind z.line z.cycle new.state.best in subst P about_is kept.right

    derived : IsDerived kind line new.state.entries
    derived = let P : About → Type 0 = λ z. IsDerived z.kind z.line new.state.entries in subst P about_is kept.derived

    cycles : AreAtCycle c added
    cycles = cycles_on kind line c before h.added top first lower b new h.run a.gained a.goes_on

    entries : new.state.entries ≡ before ++ added
    entries = entries_on kind line c before h.added top first lower b new h.run a.gained a.goes_on

    units : UnitsOf line added h.published
    units =
        let e : h.published + 0 ≡ h.published = omega arith in
        let P : ℕ → Type 0 = λ z. UnitsOf line added z in
        subst P e (units_both line h.added a.gained h.published 0 h.entry_units gained_units)

    run_book : IsRunBook kind line c N before added (trail_of stop) new
    run_book = record {
      about = about_is;
      entries = entries;
      cycles = cycles;
      few = omega (
        arith,
        length-append h.added a.gained,
        gained_few,
        h.few,
        h.run.up_to,
        ok.small,
        helpers,
      );
      published = h.published;
      listed = h.listed;
      entry_units = units;
      frame_units = h.frame_units;
      within = omega (arith, h.within, helpers);
    }

    -- no balance has fewer stations than the lower bound
    none_below : (s : ℕ) → s < lower → Holds kind line c (all_tasks line) s
    none_below s l = elim (cases_lt 1 lower) [
      | inl more ↦
          holds_more kind line c c (all_tasks line) (all_tasks line) s (lower - 1) (omega arith) (omega (arith, l))
          (λ i m. m)
          (answer_holds kind line ok new.state.entries derived (all_tasks line) (lower - 1) c (shown more))
      | inr few ↦ bound_holds kind line c cycle (all_tasks line) s (omega (arith, few, l, start, h.run.some))
    ]

    pub solved : new.state.best.stations ≤ lower → IsSolvedFrom kind line c plan before new
    solved best = record {
      added = added;
      run = record {
        about = run_book.about;
        entries = run_book.entries;
        cycles = run_book.cycles;
        few = omega (arith, run_book.few, plan_units);
        published = h.published;
        listed = 0;
        entry_units = units;
        frame_units = refl;
        within = omega (arith, h.within, helpers, plan_units);
      };
      alone = λ none. omega (arith, h.within, alone none, plan_units);
      least = record {
        reached = (seat new.state.best.place, right.balance);
        least = λ s l. none_below s (omega (arith, l, best));
      };
      goal = λ more.
          let s : HasAnswer new.state.entries (all_tasks line) (lower - 1) c = shown (omega (arith, more, best)) in
          let r : Answers s.1 (all_tasks line) (lower - 1) c = s.2.1 in
          (s.0, s.1, (s.2.0, record { same = r.same; stations = omega (arith, r.stations, best); long = r.long }));
    }

    stopped : (l : lower < new.state.best.stations)
        → IsStoppedFrom kind line c N before added lower new (trail_of stop)
    stopped l = record { run = run_book; some = omega (arith, h.run.some, h.run.from); below = l; goal = shown }

  -- what was added behind the questions is the entry of the bound, which is about fewer stations than the last one
  module _ (trail : List OpenFrame) (h : Asked (stop_by cause.Units trail)) where
    bound_entry : (j : ℕ) (x : Entry) → slice_get a.gained j ≡ Some x → (x.set ≡ all_tasks line) × (x.most ≡ first - 1)
    bound_entry j x g =
        let same : b.about.line ≡ line = ap (λ (z : About). z.line) h.run.about in
        elim a.entry [
          | inl none ↦
              let y : slice_get [] j ≡ Some x = sym (ap (λ (z : List Entry). slice_get z j) none) ∙ g in
              absurd (get_none j x y)
          | inr one ↦
              let y : by_bound b.about.line (first - 1) b.about.cycle ≡ x =
              one_entry (by_bound b.about.line (first - 1) b.about.cycle) j x
              (sym (ap (λ (z : List Entry). slice_get z j) one) ∙ g) in (
                sym (ap (λ (z : Entry). z.set) y) ∙ ap (λ (z : Line). all_tasks z) same,
                sym (ap (λ (z : Entry). z.most) y),
              )
        ]

    -- a frame of the trail isn't answered by it
    unanswered : (k : ℕ) (f : OpenFrame) → slice_get trail k ≡ Some f → (j : ℕ) (x : Entry)
        → slice_get a.gained j ≡ Some x
        → Answers x f.set f.most c → ⊥
    unanswered k f e j x g r =
        let one = bound_entry j x g in
        let most : f.most ≡ lower =
        question_most kind line c b.state.entries (all_tasks line) lower trail h.ends.1.1 k f e (sym r.same ∙ one.0) in
        omega (arith, most, one.1, r.stations, h.run.some, h.run.from)

    tight : IsUnanswered new.state.entries (all_tasks line) lower c
    tight k x g r =
        let P : List Entry → Type 0 = λ z. slice_get z k ≡ Some x in
        elim (get_append_cases b.state.entries a.gained k x (subst P a.goes_on.entries g)) [
          | inl y ↦ h.ends.1.3 k x y r
          | inr y ↦ omega (arith, (bound_entry y.0 x y.1).1, r.stations, h.run.some, h.run.from)
        ]

    valid : IsTrail kind line c new.state.entries (all_tasks line) lower trail
    valid =
        let P : List Entry → Type 0 = λ z. IsTrail kind line c z (all_tasks line) lower trail in
        subst P (sym a.goes_on.entries)
        (trail_longer kind line c b.state.entries a.gained (all_tasks line) lower trail h.ends.1.1)

    opens : IsOpenOver line c new.state.entries trail
    opens =
        let P : List Entry → Type 0 = λ z. IsOpenOver line c z trail in
        subst P (sym a.goes_on.entries) (record {
          unanswered = λ k f e j x g q r. elim (get_append_cases b.state.entries a.gained j x g) [
            | inl y ↦ h.ends.1.2.unanswered k f e j x y q r
            | inr y ↦ unanswered k f e y.0 x y.1 r
          ];
          further = h.ends.1.2.further;
        })

    -- the units at the cycle: those of entries with which the run began, and those that it listed
    units_here : (u : ℕ) × UnitsAt line c new.state.entries (Some (record { cycle = c; frames = trail }))
        (u + h.published + h.listed)
    units_here =
        let all : (v : ℕ) × UnitsOf line new.state.entries v =
        derived_counted line ok is_ranked kind new.state.entries (derived (stop_by cause.Units trail) h) in
        let W : List Entry → Type 0 = λ z. UnitsOf line z all.0 in
        let front : (v : ℕ) × UnitsOf line before v =
        units_front line before (added (stop_by cause.Units trail) h) all.0
        (subst W (entries (stop_by cause.Units trail) h) all.1) in
        let some : (v : ℕ) × UnitsOf line (entries_at c before) v = units_some line c before front.0 front.1 in
        let P : List Entry → Type 0 = λ z. UnitsOf line z (some.0 + h.published) in
        let t : nat_eq c c ≡ true = eq-eqb c c refl in
        let Q : Bool → Type 0 = λ z. cond z (UnitsIn line c trail h.listed) (h.listed ≡ 0) in
        let e : entries_at c before ++ added (stop_by cause.Units trail) h ≡ entries_at c new.state.entries =
        sym (ap (λ (z : List Entry). entries_at c z) (entries (stop_by cause.Units trail) h)
        ∙ (at_both c before (added (stop_by cause.Units trail) h)
        ∙ ap (λ (z : List Entry). entries_at c before ++ z)
        (all_at c (added (stop_by cause.Units trail) h) (cycles (stop_by cause.Units trail) h)))) in (
          some.0,
          (
            some.0 + h.published,
            h.listed,
            (
              subst P e (units_both line (entries_at c before) (added (stop_by cause.Units trail) h) some.0 h.published
                  some.1 (units (stop_by cause.Units trail) h)),
              subst Q (sym t) h.frame_units,
              refl,
            ),
          ),
        )

    spent : lower < new.state.best.stations → IsSpentFrom kind line c plan before top lower new trail
    spent l =
        let S : ℕ → Type 0 =
        λ z. IsStoppedFrom kind line c z before (added (stop_by cause.Units trail) h) lower new trail in
        let here : (u : ℕ) × UnitsAt line c new.state.entries (Some (record { cycle = c; frames = trail }))
        (u + h.published + h.listed) = units_here in
        let less : here.0 + h.published + h.listed < (tasks line + 1) * states kind ^ tasks line =
        units_few kind line ok is_ranked c fits new.state.entries (Some (record { cycle = c; frames = trail }))
        (derived (stop_by cause.Units trail) h)
        (λ j k x y m p q s t r. kept.fresh j k x y m p q r) (λ e. (lower, valid)) (here.0 + h.published + h.listed)
        here.1 in
        record {
          added = added (stop_by cause.Units trail) h;
          stopped = subst S plan_units (stopped (stop_by cause.Units trail) h l);
          from = omega (arith, start, h.run.from);
          best = omega (arith, a.goes_on.best, h.run.best);
          valid = valid;
          opens = opens;
          tight = tight;
          listed = h.published + h.listed;
          units = (
            h.published,
            h.listed,
            (units (stop_by cause.Units trail) h, h.frame_units, refl),
          );
          least = omega (arith, h.ends.1.0, plan_units);
          alone = λ none. omega (arith, h.ends.1.0, h.within, alone none, plan_units);
          most = omega (arith, h.within, helpers, plan_units);
          budget = omega (arith, less, h.ends.1.0, plan_units);
        }

  best_still : new.state.best.stations ≡ b.state.best.stations
  best_still = ap (λ (z : Assignment). z.stations) a.best

  -- what the run comes to
  pub solves : Asked None → SolvesFrom kind line c plan before top (outcome.Solved new)
  solves h = solved None h (omega (arith, best_still, h.ends))

  pub stops_by : (why : Cause) (trail : List OpenFrame) → Asked (stop_by why trail)
      → SolvesFrom kind line c plan before top (outcome.Stopped why lower new trail)
  stops_by cause.Units trail h = spent trail h (omega (arith, best_still, h.ends.0))
  stops_by cause.Memory trail h =
      let S : ℕ → Type 0 =
      λ z. IsStoppedFrom kind line c z before (added (stop_by cause.Memory trail) h) lower new trail in
      record {
        added = added (stop_by cause.Memory trail) h;
        stopped = subst S plan_units (stopped (stop_by cause.Memory trail) h (omega (arith, best_still, h.ends.0)));
        from = omega (arith, start, h.run.from);
        best = omega (arith, a.goes_on.best, h.run.best);
      }

-- a run that began with an empty book and the ranked balance
pub from_ranked : (kind : LineKind) (line : Line) (c : ℕ) (plan : Plan) (best : Assignment) (o : Outcome)
    → IsRankedBalance kind line c best → FitsAll line c → SolvesFrom kind line c plan [] best.stations o
    → Solves kind line c plan o
from_ranked kind line c plan best (outcome.TooLong i) ranked fits s = absurd s
from_ranked kind line c plan best (outcome.Solved book) ranked fits s = (fits, s)
from_ranked kind line c plan best (outcome.Stopped cause.Units lower book trail) ranked fits s = (
  fits,
  record {
    top = best.stations;
    spent = s;
    ranked = λ a r. omega (arith, same_stations kind line c best a ranked r);
  },
)
from_ranked kind line c plan best (outcome.Stopped cause.Memory lower book trail) ranked fits s = (
  fits,
  record {
    top = best.stations;
    cut_short = s;
    ranked = λ a r. omega (arith, same_stations kind line c best a ranked r);
  },
)
from_ranked kind line c plan best outcome.NoMemory ranked fits s = tt
