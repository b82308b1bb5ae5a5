-- The turns of a run: what is found in each, and what the next one begins with.
use Rattle.std.proofs.Common.{◌≡◌, ◌≤◌, ◌+◌, ◌*◌, ◌∙◌, ℕ, zero, suc, List, length, Option, refl, sym, ap, subst, arith}
use Rattle.std.proofs.Common.{inl, inr, string_bytes, ◌++◌, IfOk, rules}
use Rattle.std.specs.declared.result.Result.{Result}
use Rattle.std.specs.declared.result.Result.TheVariants.{Ok, Err}
use Rattle.line_instance.specs.Line.{Line}
use Rattle.line_rules.specs.Units.{UnitsOf}
use Rattle.line_rules.specs.declared.types.LineKind.{LineKind}
use Rattle.line_rules.specs.declared.types.Entry.{Entry}
use Rattle.line_rules.specs.declared.types.OpenFrame.{OpenFrame}
use Rattle.lemma_core.specs.Machine.{About, State}
use Rattle.lemma_core.specs.Books.{BookView, IsReserved, with_room}
use Rattle.warm_book.specs.Warm.{untaken}
use Rattle.warm_book.proofs.TakingFacts.{Adds}
use Rattle.round_run.specs.Certified.{LeaveRoom}
use Rattle.round_run.specs.Solving.{IsSpentFrom, SolvesFrom}
use Rattle.round_run.specs.declared.solving.Outcome.{Outcome}
use Rattle.round_run.specs.declared.plans.Plan.{Plan}
use Rattle.command_outcome.specs.Found.{IsFound}
use Rattle.command_outcome.specs.declared.report.Kept.{Kept}
use Rattle.command_outcome.specs.declared.status.Status.{Status}
use Rattle.command_solve.specs.Effort.{SearchesFirst, first_plan}
use Rattle.command_solve.specs.Solution.{IsToldOptimal, fewest_stations}
use Rattle.command_solve.specs.WarmStart.{IsOpened, Start, TakesOld, old_room}
use Rattle.command_solve.specs.declared.effort.Effort.{Effort}
use Rattle.command_solve.specs.declared.first_search.FirstSearch.{FirstSearch}
use Rattle.command_solve.specs.declared.first_search.FirstSearch.TheVariants as searched
use Rattle.command_solve.specs.declared.warm_start.Taken.{Taken}
use Rattle.command_solve.specs.inner.Begun.{IsBegun, IsReady, IsTaken}
use Rattle.command_solve.specs.inner.FirstSearch.{GoesOn, IsSearchedFirst}
use Rattle.command_solve.specs.inner.Reports.{IsOptimalReport}
use Rattle.command_solve.proofs.BegunFacts.{olds_add}
use Rattle.task_names.specs.declared.naming.Naming.{Naming}

-- before a first search a run has a book that took in the old entries
pub ready_up : {E : Type 0} (kind : LineKind) (line : Line) (c : ℕ) (plan : Plan) (olds : Option (List Entry))
    (book : BookView) → IsOpened kind line c book → (r : Result Taken E)
    → IfOk r (λ t. IsTaken plan.units book olds t (string_bytes t.first))
    → IfOk r (λ t. t.book.about ≡ book.about) → IfOk r (λ t. IsReserved t.book)
    → IfOk r (λ t. IsReady kind line c plan 0 olds t (string_bytes t.first))
ready_up kind line c plan olds book opened (Ok t) taken about reserved = record {
  book = book;
  opened = opened;
  at = taken.at;
  took = taken.took;
  searches = sym taken.same_book;
  same_kept = taken.same_kept;
  same_units = taken.same_units;
  about = about ∙ opened.about;
  reserved = reserved;
}
ready_up kind line c plan olds book opened (Err e) taken about reserved = search rules

-- the search of a run found what its report tells
pub found_so : (naming : Naming) (kind : LineKind) (line : Line) (c : ℕ) (plan : Plan) (start : Start) (book : BookView)
    (first : List ℕ) (status : Status) (text : List ℕ) (kept : Kept) → IsBegun kind line c plan start book first
    → IsOptimalReport naming kind line c plan book.state.entries first status text kept
    → IsFound (fewest_stations naming kind line c plan start) status text kept
found_so naming kind line c plan start book first status text kept b r = record {
  certificate = r.certificate;
  keeps = r.keeps;
  answer = inl (
    r.done,
    inl (record {
      before = book.state.entries;
      first = first;
      top = book.state.best.stations;
      begins = b.begins;
      told = r.told;
    }),
  );
}

-- more room for offers changes nothing of what a search came to
roomy : (kind : LineKind) (line : Line) (c : ℕ) (plan : Plan) (before : List Entry) (top lower : ℕ) (book : BookView)
    (trail : List OpenFrame) (room : ℕ) → IsSpentFrom kind line c plan before top lower book trail
    → IsSpentFrom kind line c plan before top lower (with_room book room) trail
roomy kind line c plan before top lower book trail room s = record {
  added = s.added;
  stopped = record {
    run = record {
      about = s.stopped.run.about;
      entries = s.stopped.run.entries;
      cycles = s.stopped.run.cycles;
      few = s.stopped.run.few;
      published = s.stopped.run.published;
      listed = s.stopped.run.listed;
      entry_units = s.stopped.run.entry_units;
      frame_units = s.stopped.run.frame_units;
      within = s.stopped.run.within;
    };
    some = s.stopped.some;
    below = s.stopped.below;
    goal = s.stopped.goal;
  };
  from = s.from;
  best = s.best;
  valid = s.valid;
  opens = s.opens;
  tight = s.tight;
  listed = s.listed;
  units = s.units;
  least = s.least;
  alone = s.alone;
  most = s.most;
  budget = s.budget;
}

-- a first search that used its units is one of the run
stops_first : (kind : LineKind) (line : Line) (c units : ℕ) (plan : Plan) (book same mid : BookView) (lower : ℕ)
    (trail : List OpenFrame) → (units ≡ 0 → ⊥) → book ≡ same
    → IsSpentFrom kind line c (first_plan units plan) same.state.entries same.state.best.stations lower mid trail
    → SearchesFirst kind line c units plan book mid
stops_first kind line c zero plan book same mid lower trail some is spent = absurd (some refl)
stops_first kind line c (suc less) plan book same mid lower trail some is spent =
    let S : BookView → Type 0 = λ z. IsSpentFrom kind line c (first_plan (suc less) plan) z.state.entries
    z.state.best.stations lower mid trail in
    record { lower = lower; trail = trail; spent = subst S (sym is) spent }

module _ (kind : LineKind) (line : Line) (c : ℕ) (plan : Plan) (olds : Option (List Entry)) (taken : Taken)
    (said : List ℕ) (ready : IsReady kind line c plan 0 olds taken said) where
  -- before a first search the book is as it was when it had taken in the old entries
  same_book : taken.book ≡ ready.at.book
  same_book = ready.searches

  old_adds : Adds (old_room plan.units) (untaken ready.book) ready.at
  old_adds = olds_add plan.units ready.book olds ready.at said ready.took

  entries : taken.book.state.entries ≡ old_adds.added
  entries =
      ap (λ (z : BookView). z.state.entries) same_book ∙ (old_adds.entries
      ∙ ap (λ (z : State). z.entries ++ old_adds.added) ready.opened.state)

  -- and its best balance is the ranked one
  pub best_ranked : taken.book.state.best ≡ ready.opened.best
  best_ranked =
      ap (λ (z : BookView). z.state.best) same_book ∙ (old_adds.best ∙ ap (λ (z : State). z.best) ready.opened.state)

  -- what a search over the book comes to is said of the line
  pub solves_first : (p : Plan) (o : Outcome)
      → SolvesFrom taken.book.about.kind line taken.book.about.cycle p taken.book.state.entries
      taken.book.state.best.stations o
      → SolvesFrom kind line c p taken.book.state.entries taken.book.state.best.stations o
  solves_first p o s =
      let S : About → Type 0 = λ z. SolvesFrom z.kind line z.cycle p taken.book.state.entries
      taken.book.state.best.stations o in
      subst S ready.about s

  -- a certificate of a first search has room for the entries with which it begins
  pub first_leaves : (units : ℕ) → units ≤ 50000 → LeaveRoom line units taken.book.state.entries
  first_leaves units small =
      let U : Line → Type 0 = λ z. UnitsOf z old_adds.added old_adds.units in
      let L : List Entry → Type 0 = λ z. LeaveRoom line units z in
      subst L (sym entries) (record {
        units = old_adds.units;
        counted = subst U (ap (λ (z : About). z.line) ready.opened.about) old_adds.counted;
        paid = omega (arith, old_adds.paid, old_adds.spent (omega arith), small);
        few = omega (arith, old_adds.few, old_adds.within (omega arith), small);
      })

  -- and they are few
  pub first_few : (units : ℕ) → units ≤ 50000 → length taken.book.state.entries + 2 * units ≤ 6101025
  first_few units small = omega (
    arith,
    ap (λ (z : List Entry). length z) entries,
    old_adds.few,
    old_adds.within (omega arith),
    small,
  )

  -- the first search of a run found what its report tells
  pub found_first : (naming : Naming) (effort : Effort) (first : List ℕ) (status : Status) (text : List ℕ) (kept : Kept)
      → 1 ≤ effort.first → first ≡ said
      → IsOptimalReport naming kind line c (first_plan effort.first plan) taken.book.state.entries first status text
      kept → IsFound (fewest_stations naming kind line c plan (record { olds = olds; effort = effort })) status text kept
  found_first naming effort first status text kept some same r =
      let T : BookView → Type 0 = λ z. IsToldOptimal naming kind line c (first_plan effort.first plan) z.state.entries
      said r.certificate text in
      let S : List ℕ → Type 0 = λ z. IsToldOptimal naming kind line c (first_plan effort.first plan)
      taken.book.state.entries z r.certificate text in
      record {
        certificate = r.certificate;
        keeps = r.keeps;
        answer = inl (
          r.done,
          inr (inl (record {
            has = some;
            book = ready.book;
            opened = ready.opened;
            at = ready.at;
            warm_said = said;
            took = ready.took;
            told = subst T same_book (subst S same r.told);
          })),
        );
      }

  -- where a first search used its units, the run is ready for its seek
  pub ready_behind : (units lower : ℕ) (trail : List OpenFrame) (book : BookView) (result : FirstSearch)
      → (units ≡ 0 → ⊥) → IsSpentFrom kind line c (first_plan units plan) taken.book.state.entries taken.book.state.best.stations lower
      book trail
      → GoesOn book taken.kept taken.units said result → IsSearchedFirst kind line c plan units olds taken result
  ready_behind units lower trail book (searched.Open next) some spent g =
      let T : List ℕ → Type 0 = λ z. TakesOld plan.units ready.book olds ready.at z in
      let S : BookView → Type 0 = λ z. SearchesFirst kind line c units plan ready.at.book z in
      record {
        book = ready.book;
        opened = ready.opened;
        at = ready.at;
        took = subst T (sym g.same_said) ready.took;
        searches = subst S (sym g.same_book)
            (stops_first kind line c units plan ready.at.book taken.book (with_room book next.book.room) lower trail
            some (sym same_book) (roomy kind line c (first_plan units plan) taken.book.state.entries
            taken.book.state.best.stations lower book trail next.book.room spent));
        same_kept = ready.same_kept ∙ sym g.same_kept;
        same_units = ready.same_units ∙ sym g.same_units;
        about = ap (λ (z : BookView). z.about) g.same_book ∙ spent.stopped.run.about;
        reserved = g.reserved;
      }
  ready_behind units lower trail book (searched.Solved done s) some spent g = absurd g
  ready_behind units lower trail book (searched.Memory low done) some spent g = absurd g
  ready_behind units lower trail book searched.NoMemory some spent g = g
