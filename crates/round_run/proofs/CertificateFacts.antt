-- The certificate of a run is within its ranges and accepted.
use Rattle.std.proofs.lemmas.Bool.{cases_lt}
use Rattle.line_instance.specs.Truths.{full_to}
use Rattle.std.proofs.Common.{◌≡◌, inl, inr, ◌∙◌, ℕ, ◌+◌, ◌-◌, ◌<◌, ◌≤◌, Bool, List, [], ◌++◌, length, length-append}
use Rattle.std.proofs.Common.{Option, Some, None, refl, sym, ap, subst, arith}
use Rattle.std.specs.Prelude.{slice_get}
use Rattle.line_instance.specs.Line.{Line, IsLine, IsRanked, tasks}
use Rattle.line_rules.specs.Accepted.{HasTrail, IsAccepted, IsInfeasible, IsLeastStations}
use Rattle.line_rules.specs.Balance.{IsRight, all_tasks}
use Rattle.line_rules.specs.Entries.{HasAnswer, IsDerived, IsFresh, IsUnanswered}
use Rattle.line_rules.specs.Trails.{IsTrail, IsOpenOver}
use Rattle.line_rules.specs.Bounds.{IsTooLong}
use Rattle.line_rules.specs.Checked.{IsLeastWhere}
use Rattle.line_rules.specs.Laws.{IsProved}
use Rattle.line_rules.specs.Ranges.{IsCycle, AreEntries, IsTrailOrNone}
use Rattle.line_rules.specs.Units.{UnitsOf, UnitsWhole}
use Rattle.line_rules.specs.declared.types.LineKind.{LineKind}
use Rattle.line_rules.specs.declared.types.Balance.{Balance as Assignment}
use Rattle.line_rules.specs.declared.types.Entry.{Entry}
use Rattle.line_rules.specs.declared.types.OpenFrame.{OpenFrame}
use Rattle.line_rules.specs.declared.types.Trail.{Trail}
use Rattle.line_rules.specs.declared.types.Ask.TheVariants as ask
use Rattle.line_rules.specs.declared.types.Claim.TheVariants as claim
use Rattle.line_rules.specs.declared.types.Certificate.{Certificate}
use Rattle.line_rules.proofs.ListUnits.{derived_counted, units_both}
use Rattle.line_rules.proofs.AcceptedIsTrue.{accepted_true, infeasible_true}
use Rattle.lemma_core.specs.Machine.{About}
use Rattle.lemma_core.specs.Own.{AreStatable}
use Rattle.lemma_core.specs.Books.{BookView, MayBeBest}
use Rattle.station_search.proofs.Events.{get_append_cases}
use Rattle.round_helpers.specs.Growth.{AreAtCycle}
use Rattle.round_run.specs.Solving.{IsRunBook, IsSolvedFrom, IsStoppedFrom, IsSpentFrom}
use Rattle.round_run.specs.declared.plans.Plan.{Plan}
use Rattle.entry_lists.specs.Trim.{IsTrimmed}
use Rattle.entry_lists.proofs.ThinnedLists.{no_longer}
use Rattle.entry_lists.proofs.TrimFacts.{thinned}
use Rattle.round_run.specs.Certified.{IsCertified, AreAtOrAs, AreProof, HaveCyclesOf, LeaveRoom, IsOptimumFrom}
use Rattle.round_run.specs.Certified.{IsStopFrom}
use Rattle.round_run.specs.Certified.{IsNoBalance, about_stations, max_units}
use Rattle.round_run.proofs.Sayable.{entries_ok, trail_ok, balance_ok, all_are_tasks}

module _ (kind : LineKind) (line : Line) (c lower : ℕ) (b : Assignment) (es : List Entry) (trail : Option Trail)
    (units : ℕ) where
  -- a certificate of bounds, from what it says
  pub certified : IsLine line → IsCycle c → 1 ≤ lower → lower ≤ b.stations → IsRight kind line c b
      → b.stations ≤ tasks line
      → IsDerived kind line es → AreEntries (tasks line) es
      → (1 < lower → HasAnswer es (all_tasks line) (lower - 1) c)
      → HasTrail kind line (ask.Stations c) lower b.stations es trail → IsTrailOrNone (tasks line) (length es) trail
      → UnitsWhole line es trail units → units ≤ max_units
      → IsCertified kind line c lower b es trail units (about_stations kind line c
      (claim.Bounds lower b.stations b es trail))
  certified ok cycle some below right few derived sayable goal valid said whole limit =
      let cert : Certificate = about_stations kind line c (claim.Bounds lower b.stations b es trail) in
      let accepted : IsAccepted line cert lower b.stations units = record {
        tasks = refl;
        claim = (
          refl,
          refl,
          record { balance = right; stations = refl; derived = derived; goal = goal; trail = valid },
          whole,
        );
      } in
      record {
        said = refl;
        sayable = record {
          some = ok.some;
          few = ok.small;
          ask = cycle;
          claim = record {
            from = record { some = some; limit = omega (arith, below, few, ok.small) };
            up_to = record { some = omega (arith, some, below); limit = omega (arith, few, ok.small) };
            balance = balance_ok kind line c b ok right few;
            entries = sayable;
            trail = said;
          };
        };
        right = right;
        accepted = accepted;
        few = limit;
        true_bounds = accepted_true line cert lower b.stations units ok accepted;
      }

-- entries of a run at c, and those before them
at_or_as : (c : ℕ) (before added es new : List Entry) → es ≡ before ++ added → AreAtCycle c added → HaveCyclesOf es new
    → AreAtOrAs c before new
at_or_as c before added es new is at of k e there =
    let o : (j : ℕ) × (x : Entry) × ((slice_get es j ≡ Some x) × (e.cycle ≡ x.cycle)) = of k e there in
    let g : slice_get (before ++ added) o.0 ≡ Some o.1 =
    sym (ap (λ (z : List Entry). slice_get z o.0) is) ∙ o.2.0 in
    elim (get_append_cases before added o.0 o.1 g) [
      | inl b ↦ inr (o.0, o.1, (b, o.2.1))
      | inr a ↦ inl (o.2.1 ∙ at a.0 o.1 a.1)
    ]

-- a right balance, of a book that is about the line
right_of : (kind : LineKind) (line : Line) (c : ℕ) (about : About) (b : Assignment)
    → about ≡ record { line = line; kind = kind; cycle = c } → MayBeBest about b
    → MayBeBest (record { line = line; kind = kind; cycle = c }) b
right_of kind line c about b e m = (let M : About → Type 0 = λ a. MayBeBest a b in subst M e m)

derived_of : (kind : LineKind) (line : Line) (c : ℕ) (about : About) (es : List Entry)
    → about ≡ record { line = line; kind = kind; cycle = c } → IsDerived about.kind about.line es
    → IsDerived kind line es
derived_of kind line c about es e d = (let D : About → Type 0 = λ a. IsDerived a.kind a.line es in subst D e d)

-- the proof of a lower bound has no more entries than the list of which it was made
pub no_more : (es new : List Entry) (R : List Bool) (lower most c : ℕ) → (lower ≤ 1 → new ≡ [])
    → (1 < lower → IsTrimmed es R most c new) → length new ≤ length es
no_more es new R lower most c none trimmed = elim (cases_lt 1 lower) [
  | inl some ↦ let t : IsTrimmed es R most c new = trimmed some in
      no_longer t.numbers es new (thinned es t.numbers new t.kept.ascending t.entries)
  | inr one ↦ omega (arith, ap (λ (z : List Entry). length z) (none one))
]

-- the entry that shows the lower bound, among the entries that a book gave
pub shown_goal : (kind : LineKind) (line : Line) (c : ℕ) (plan : Plan) (before : List Entry) (book : BookView) (es : List Entry)
    (b : Assignment) (n : ℕ) → n ≡ tasks line
    → es ≡ book.state.entries → b ≡ book.state.best → IsSolvedFrom kind line c plan before book → 1 < b.stations
    → HasAnswer es (full_to n) (b.stations - 1) c
shown_goal kind line c plan before book es b n e f g solved =
    let S : List Entry → Type 0 = λ x. 1 < b.stations → HasAnswer x (full_to n) (b.stations - 1) c in
    let B : Assignment → Type 0 = λ x. 1 < x.stations → HasAnswer book.state.entries (full_to n) (x.stations - 1) c in
    let M : ℕ → Type 0 = λ m. 1 < book.state.best.stations → HasAnswer book.state.entries (full_to m)
    (book.state.best.stations - 1) c in
    subst S (sym f) (subst B (sym g) (subst M (sym e) solved.goal))

-- a run without entries before it leaves room
pub room_alone : (line : Line) (N : ℕ) → N ≤ 3000000 → LeaveRoom line N []
room_alone line N limit = record {
  units = 0;
  counted = refl;
  paid = omega (arith, limit);
  few = omega (arith, limit);
}

-- the certificates of a run by a plan
module _ (kind : LineKind) (line : Line) (c : ℕ) (plan : Plan) (before : List Entry) (book : BookView) (es : List Entry)
    (b : Assignment) (ok : IsLine line) (cycle : IsCycle c) (room : LeaveRoom line plan.units before)
    (es_are : es ≡ book.state.entries) (b_is : b ≡ book.state.best)
    (derived : IsDerived book.about.kind book.about.line es) (statable : AreStatable es)
    (best : MayBeBest book.about b) where
  module _ (added : List Entry) (frames : List OpenFrame) (r : IsRunBook kind line c plan.units before added frames book)
    where
      begins : es ≡ before ++ added
      begins = es_are ∙ r.entries

      many : length es ≤ 20000000
      many = omega (arith, r.few, room.few, ap (λ (x : List Entry). length x) begins, length-append before added)

      units_all : (m : ℕ) → UnitsOf line added m → UnitsOf line es (room.units + m)
      units_all m u =
          let U : List Entry → Type 0 = λ x. UnitsOf line x (room.units + m) in
          subst U (sym begins) (units_both line before added room.units m room.counted u)

  -- the certificate of a run that was solved, with a proof that is made of the book's entries
  pub optimum : IsSolvedFrom kind line c plan before book → (new : List Entry)
      → ((kind : LineKind) (line : Line) → IsDerived kind line es → IsDerived kind line new)
      → (1 < b.stations → HasAnswer new (all_tasks line) (b.stations - 1) c)
      → ((line : Line) (old : ℕ) → UnitsOf line es old → (units : ℕ) × UnitsOf line new units × (units ≤ old))
      → ((m : ℕ) → AreEntries m es → AreEntries m new)
      → HaveCyclesOf es new → length new ≤ length es → AreProof line c b.stations new
      → IsOptimumFrom kind line c plan before book.state.best (about_stations kind line c
      (claim.Bounds b.stations b.stations b new None))
  optimum solved new d goal units ranges cycles less proof =
      let run = solved.run in
      let derived' = derived_of kind line c book.about es run.about derived in
      let right = right_of kind line c book.about b run.about best in
      let used = units line (room.units + run.published)
      (units_all solved.added [] run run.published run.entry_units) in
      let L : Assignment → Type 0 = λ x. IsLeastStations kind line c x.stations in
      let least = subst L (sym b_is) solved.least in
      let some = some_stations least right.right in
      let B : Assignment → Type 0 = λ x. IsOptimumFrom kind line c plan before x
      (about_stations kind line c (claim.Bounds b.stations b.stations b new None)) in
      subst B b_is (record {
        entries = new;
        units = used.0;
        certified = certified kind line c b.stations b new None used.0 ok cycle some (omega arith) right.right right.few
            (d kind line derived')
            (ranges (tasks line) (entries_ok kind line es derived' statable (many solved.added [] run)))
            goal tt tt
            (used.0, 0, (used.1, refl, omega arith)) (omega (arith, used.2, run.within, room.paid));
        least = least;
        proof = proof;
        spent = record {
          begun = room.units;
          before_units = room.counted;
          paid = omega (arith, used.2, run.within);
          alone = λ none. omega (arith, used.2, solved.alone none);
        };
        cycles = at_or_as c before solved.added es new (begins solved.added [] run) run.cycles cycles;
        few = omega (
          arith,
          less,
          run.few,
          ap (λ (x : List Entry). length x) (begins solved.added [] run),
          length-append before solved.added,
        );
      })
    where
      some_stations : IsLeastStations kind line c b.stations → IsRight kind line c b → 1 ≤ b.stations
      some_stations l r = (balance_ok kind line c b ok r (right_of kind line c book.about b solved.run.about
          best).few).some

  -- the certificate of a run whose units ended
  pub stop : (top lower : ℕ) (frames : List OpenFrame)
      → IsSpentFrom kind line c plan before top lower book frames → IsFresh es
      → IsStopFrom kind line c plan before lower book.state.best
      (about_stations kind line c (claim.Bounds lower b.stations b es
      (Some (record { cycle = c; frames = frames }))))
  stop top lower frames spent fresh =
      let run = spent.stopped.run in
      let derived' = derived_of kind line c book.about es run.about derived in
      let right = right_of kind line c book.about b run.about best in
      let trail : Trail = record { cycle = c; frames = frames } in
      let V : List Entry → Type 0 = λ x. IsTrail kind line c x (all_tasks line) lower frames in
      let O : List Entry → Type 0 = λ x. IsOpenOver line c x frames in
      let N : List Entry → Type 0 = λ x. IsUnanswered x (all_tasks line) lower c in
      let G : List Entry → Type 0 = λ x. 1 < lower → HasAnswer x (all_tasks line) (lower - 1) c in
      let below : lower < b.stations = omega (arith, spent.stopped.below, ap (λ (x : Assignment). x.stations) b_is) in
      let valid = subst V (sym es_are) spent.valid in
      let B : Assignment → Type 0 = λ x. IsStopFrom kind line c plan before lower x
      (about_stations kind line c (claim.Bounds lower b.stations b es (Some trail))) in
      let whole : UnitsWhole line es (Some trail) (room.units + spent.listed) = (
        room.units + spent.units.0,
        spent.units.1,
        (
          units_all spent.added
              frames run
              spent.units.0 spent.units.2.0,
          spent.units.2.1,
          omega (arith, spent.units.2.2),
        ),
      ) in
      subst B b_is (record {
        entries = es;
        added = spent.added;
        frames = frames;
        certified = certified kind line c lower b es (Some trail) (room.units + spent.listed) ok cycle
            spent.stopped.some (omega (arith, below)) right.right right.few derived'
            (entries_ok kind line es derived' statable (many spent.added frames run))
            (subst G (sym es_are) spent.stopped.goal) (lower, (refl, omega arith, below), valid)
            (trail_ok kind line c es (all_tasks line) lower frames cycle (all_are_tasks line ok)
            (omega (arith, below, right.few, ok.small)) valid)
            whole (omega (arith, room.paid, spent.most));
        units = room.units + spent.listed;
        begins = begins spent.added frames run;
        cycles = run.cycles;
        few = run.few;
        below = below;
        from = spent.from;
        asks = valid;
        paid = room.units;
        before_units = room.counted;
        listed = spent.listed;
        counted = spent.units;
        sum = refl;
        least = spent.least;
        most = spent.most;
        alone = spent.alone;
        fresh = fresh;
        opens = subst O (sym es_are) spent.opens;
        tight = subst N (sym es_are) spent.tight;
        budget = spent.budget;
      })

-- the certificate that a task is too long
pub refusal : (kind : LineKind) (line : Line) (c task : ℕ) → IsLine line → IsCycle c
    → IsLeastWhere (IsTooLong line c) task
    → IsNoBalance kind line c task (about_stations kind line c (claim.TooLong task))
refusal kind line c task ok cycle least =
    let cert : Certificate = about_stations kind line c (claim.TooLong task) in
    let accepted : IsInfeasible line cert task = record { tasks = refl; claim = (refl, least) } in
    record {
      said = refl;
      sayable = record { some = ok.some; few = ok.small; ask = cycle; claim = (tt, least.passes.0) };
      accepted = accepted;
      none = infeasible_true line cert task ok accepted;
    }

-- the bounds of a run that stopped are true
pub stopped_bounds : (kind : LineKind) (line : Line) (c N : ℕ) (before added : List Entry) (lower : ℕ) (book : BookView)
    (trail : List OpenFrame) → IsLine line
    → IsRanked line → IsDerived book.about.kind book.about.line book.state.entries
    → MayBeBest book.about book.state.best
    → IsStoppedFrom kind line c N before added lower book trail
    → IsProved kind line (ask.Stations c) lower book.state.best.stations
stopped_bounds kind line c N before added lower book trail ok ranked derived best stopped =
    let run = stopped.run in
    let right = right_of kind line c book.about book.state.best run.about best in
    let derived' = derived_of kind line c book.about book.state.entries run.about derived in
    let all : (u : ℕ) × UnitsOf line book.state.entries u =
    derived_counted line ok ranked kind book.state.entries derived' in
    let cert : Certificate = about_stations kind line c (claim.Bounds lower book.state.best.stations book.state.best
    book.state.entries None) in
    accepted_true line cert lower book.state.best.stations all.0 ok (record {
      tasks = refl;
      claim = (
        refl,
        refl,
        record {
          balance = right.right;
          stations = refl;
          derived = derived';
          goal = stopped.goal;
          trail = tt;
        },
        (all.0, 0, (all.1, refl, omega arith)),
      );
    })
