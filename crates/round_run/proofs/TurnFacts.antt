-- The turns of a run: a question that was refuted, and the last one.
use Rattle.std.proofs.Common.{◌≡◌, ℕ, ◌+◌, ◌-◌, ◌<◌, ◌≤◌, List, ◌++◌, length, refl, sym, ap, ◌∙◌, subst}
use Rattle.std.proofs.Common.{arith, append_assoc, length-append, Option, None}
use Rattle.line_instance.specs.Line.{Line, tasks}
use Rattle.line_rules.specs.Balance.{all_tasks}
use Rattle.line_rules.specs.Entries.{HasAnswer, IsUnanswered}
use Rattle.line_rules.specs.Trails.{IsTrail, IsOpenOver}
use Rattle.line_rules.specs.Units.{UnitsOf, UnitsIn}
use Rattle.line_rules.specs.declared.types.LineKind.{LineKind}
use Rattle.line_rules.specs.declared.types.Entry.{Entry}
use Rattle.line_rules.specs.declared.types.OpenFrame.{OpenFrame}
use Rattle.lemma_core.specs.Machine.{About}
use Rattle.lemma_core.specs.Books.{BookView, IsReserved}
use Rattle.round_helpers.specs.Growth.{AreAtCycle, GoesOn, Helps}
use Rattle.round_helpers.proofs.AddedEntries.{cycles_both}
use Rattle.round_run.proofs.TrailFacts.{open_over}
use Rattle.round_run.specs.Rounds.{Gains, IsAnswer, StaysAbove, WasOpen, frames_of}
use Rattle.round_run.specs.inner.Questions.{IsRun, IsPaid, HasAsked, EndsBy, trail_of, stop_by, stop_of}
use Rattle.round_run.specs.declared.questions.Stop.{Stop}
use Rattle.station_search.specs.declared.answers.Units.{Units}
use Rattle.round_run.specs.declared.solving.Cause.TheVariants as cause
use Rattle.round_run.specs.declared.closing.Verdict.{Verdict}
use Rattle.round_run.specs.declared.closing.Verdict.TheVariants as verdict
use Rattle.line_rules.proofs.LongerLists.{has_longer}
use Rattle.line_rules.proofs.ListUnits.{units_both}

module _ (kind : LineKind) (line : Line) (c : ℕ) (before added : List Entry) (top first lower : ℕ) (b new : BookView)
    (run : IsRun kind line c before added top first lower b) (more : List Entry) (g : GoesOn b new more) where
  at_cycle : AreAtCycle c more
  at_cycle = let P : About → Type 0 = λ z. AreAtCycle z.cycle more in subst P run.about g.cycles

  pub cycles_on : AreAtCycle c (added ++ more)
  cycles_on = cycles_both c added more run.cycles at_cycle

  pub entries_on : new.state.entries ≡ before ++ (added ++ more)
  entries_on =
      g.entries ∙ (ap (λ (z : List Entry). z ++ more) run.entries ∙ append_assoc before added more)

  pub refuted_on : first < lower → HasAnswer new.state.entries (all_tasks line) (lower - 1) c
  refuted_on l =
      let P : List Entry → Type 0 = λ z. HasAnswer z (all_tasks line) (lower - 1) c in
      subst P (sym g.entries) (has_longer b.state.entries more (all_tasks line) (lower - 1) c (run.refuted l))

  -- the run with the next question `then`
  pub run_on : (then : ℕ) → IsReserved new → lower ≤ then → then ≤ tasks line
      → (first < then → HasAnswer new.state.entries (all_tasks line) (then - 1) c)
      → IsRun kind line c before (added ++ more) top first then new
  run_on then reserved l up refuted = record {
    about = g.about ∙ run.about;
    entries = entries_on;
    cycles = cycles_on;
    some = run.some;
    from = omega (arith, run.from, l);
    up_to = up;
    refuted = refuted;
    best = omega (arith, g.best, run.best);
    reserved = reserved;
  }

-- a book goes on twice
goes_both : (a b c : BookView) (xs ys : List Entry) → GoesOn a b xs → GoesOn b c ys → GoesOn a c (xs ++ ys)
goes_both a b c xs ys g h =
    let Y : About → Type 0 = λ z. AreAtCycle z.cycle ys in
    record {
      about = h.about ∙ g.about;
      opening = h.opening ∙ g.opening;
      entries = h.entries ∙ (ap (λ (z : List Entry). z ++ ys) g.entries ∙ append_assoc a.state.entries xs ys);
      cycles = cycles_both a.about.cycle xs ys g.cycles (subst Y g.about h.cycles);
      best = omega (arith, g.best, h.best);
    }

-- A round of a run whose closing passes have N units and whose helpers have G: the book before it, between the helpers
-- and the closing pass, and after it; the units; what the helpers have used by then; and its answer.
pub record IsTurn (kind : LineKind) (line : Line) (c : ℕ) (before : List Entry) (top N G first lower : ℕ)
    (b mid new : BookView) (old_units units : Units) (old_helped helped : ℕ) (v : Verdict) : Type 0 where
  pub paid : IsPaid kind line c before top first lower old_units.used old_helped b
  pub below : lower < b.state.best.stations
  pub few : b.state.best.stations ≤ tasks line
  pub all : units.used + units.left ≡ N
  pub spent : old_units.used ≤ units.used
  pub more : old_helped ≤ helped
  pub up_to : helped ≤ G
  pub reserved : IsReserved new
  pub helps : Helps b mid (helped - old_helped)
  pub gains : Gains mid new v (units.used - old_units.used)
  pub answer : IsAnswer new lower units.left v
  pub above : StaysAbove lower b new v
  pub was_open : WasOpen mid lower v

module _ (kind : LineKind) (line : Line) (c : ℕ) (before : List Entry) (top N G first lower : ℕ)
    (b mid new : BookView) (old_units units : Units) (old_helped helped : ℕ) where
  abbrev pub Turn : Verdict → Type 0
  Turn v = IsTurn kind line c before top N G first lower b mid new old_units units old_helped helped v

  abbrev pub Asks : Option Stop → Type 0
  Asks stop = HasAsked kind line c before top N G first (record { book = new; lower = lower; stop = stop })

  module _ (v : Verdict) (r : Turn v) where
    -- what the round added
    abbrev pub gained : List Entry
    gained = r.helps.gained ++ r.gains.gained

    goes : GoesOn b new gained
    goes = goes_both b mid new r.helps.gained r.gains.gained r.helps.goes_on r.gains.goes_on

    about_mid : mid.about ≡ record { line = line; kind = kind; cycle = c }
    about_mid = r.helps.goes_on.about ∙ r.paid.run.about

    units_more : UnitsOf line gained (r.helps.published + r.gains.published)
    units_more =
        let P : About → Type 0 = λ z. UnitsOf z.line r.helps.gained r.helps.published in
        let Q : About → Type 0 = λ z. UnitsOf z.line r.gains.gained r.gains.published in
        units_both line r.helps.gained r.gains.gained r.helps.published r.gains.published
        (subst P r.paid.run.about r.helps.units) (subst Q about_mid r.gains.entry_units)

    units_now : UnitsOf line (r.paid.added ++ gained) (r.paid.published + (r.helps.published + r.gains.published))
    units_now =
        units_both line r.paid.added gained r.paid.published (r.helps.published + r.gains.published) r.paid.units
        units_more

    frames_now : UnitsIn line c (frames_of v) r.gains.listed
    frames_now =
        let P : About → Type 0 = λ z. UnitsIn z.line z.cycle (frames_of v) r.gains.listed in
        subst P about_mid r.gains.frame_units

    long : length (r.paid.added ++ gained) ≡ length r.paid.added + (length r.helps.gained + length r.gains.gained)
    long =
        omega (arith, length-append r.paid.added gained, length-append r.helps.gained r.gains.gained)

    few_now : length (r.paid.added ++ gained) ≤ N + G + lower
    few_now = omega (
      arith,
      long,
      r.helps.few,
      r.gains.few,
      r.paid.few,
      r.paid.run.some,
      r.spent,
      r.all,
      r.more,
      r.up_to,
    )

    within_now : r.paid.published + (r.helps.published + r.gains.published) + r.gains.listed ≤ N + G
    within_now = omega (
      arith,
      r.gains.within,
      r.helps.within,
      r.paid.most,
      r.spent,
      r.all,
      r.more,
      r.up_to,
    )

    same_about : new.about ≡ record { line = line; kind = kind; cycle = c }
    same_about = r.gains.goes_on.about ∙ about_mid

    run_now : (then : ℕ) → lower ≤ then → then ≤ tasks line
        → (first < then → HasAnswer new.state.entries (all_tasks line) (then - 1) c)
        → IsRun kind line c before (r.paid.added ++ gained) top first then new
    run_now then =
        run_on kind line c before r.paid.added top first lower b new r.paid.run gained goes then r.reserved

    -- a run whose questions end with this round
    ended : (stop : Option Stop) → frames_of v ≡ trail_of stop
        → EndsBy kind line c N lower new
        (r.paid.published + (r.helps.published + r.gains.published) + r.gains.listed)
        stop
        → Asks stop
    ended stop e ends =
        let P : List OpenFrame → Type 0 = λ z. UnitsIn line c z r.gains.listed in
        record {
          added = r.paid.added ++ gained;
          run = run_now lower (omega arith) r.paid.run.up_to
              (refuted_on kind line c before r.paid.added top first lower b new r.paid.run gained goes);
          few = few_now;
          published = r.paid.published + (r.helps.published + r.gains.published);
          listed = r.gains.listed;
          entry_units = units_now;
          frame_units = subst P e frames_now;
          within = within_now;
          ends = ends;
        }

  -- the question was refuted: the next one asks for a station more
  refuted : (r : Turn verdict.Refuted) → IsPaid kind line c before top first (lower + 1) units.used helped new
  refuted r =
      let P : About → Type 0 = λ z. HasAnswer new.state.entries (all_tasks z.line) lower z.cycle in
      let q : lower ≡ lower + 1 - 1 = omega arith in
      let Q : ℕ → Type 0 = λ z. HasAnswer new.state.entries (all_tasks line) z c in
      let none : r.gains.listed ≡ 0 = frames_now verdict.Refuted r in
      record {
        added = r.paid.added ++ gained verdict.Refuted r;
        run = run_now verdict.Refuted r (lower + 1) (omega arith) (omega (arith, r.below, r.few))
            (λ l. subst Q q (subst P (same_about verdict.Refuted r) r.answer));
        published = r.paid.published + (r.helps.published + r.gains.published);
        units = units_now verdict.Refuted r;
        least = omega (arith, none, r.spent, r.gains.exact tt, r.paid.least);
        most = omega (arith, none, r.spent, r.gains.exact tt, r.paid.most, r.helps.within, r.more);
        few = omega (
          arith,
          long verdict.Refuted r,
          r.helps.few,
          r.gains.few,
          r.paid.few,
          r.spent,
          r.more,
        );
      }

  found : (r : Turn verdict.Found) → Asks None
  found r = ended verdict.Found r None refl r.answer

  -- no entry answers the question: none did before the closing pass, and those that it added don't, since the trail
  -- is open over them
  still_open : (trail : List OpenFrame) (r : Turn (verdict.Spent trail))
      → IsUnanswered new.state.entries (all_tasks line) lower c
  still_open trail r =
      let m : mid.about ≡ record { line = line; kind = kind; cycle = c } = about_mid (verdict.Spent trail) r in
      let s : new.about ≡ record { line = line; kind = kind; cycle = c } = same_about (verdict.Spent trail) r in
      let T : About → Type 0 = λ z. IsTrail z.kind z.line z.cycle new.state.entries (all_tasks z.line) lower trail in
      let O : About → Type 0 = λ z. IsOpenOver z.line z.cycle new.state.entries trail in
      let U : About → Type 0 = λ z. IsUnanswered mid.state.entries (all_tasks z.line) lower z.cycle in
      open_over kind line c lower mid.state.entries r.gains.gained new.state.entries trail r.gains.goes_on.entries
      (let C : About → Type 0 = λ z. AreAtCycle z.cycle r.gains.gained in subst C m r.gains.goes_on.cycles)
      (subst T s r.answer.0.trail) (subst O s r.answer.1) (subst U m r.was_open)

  spent : (trail : List OpenFrame) (r : Turn (verdict.Spent trail)) → Asks (stop_by cause.Units trail)
  spent trail r =
      let P : About → Type 0 = λ z. IsTrail z.kind z.line z.cycle new.state.entries (all_tasks z.line) lower trail in
      let Q : About → Type 0 = λ z. IsOpenOver z.line z.cycle new.state.entries trail in
      let s : new.about ≡ record { line = line; kind = kind; cycle = c } = same_about (verdict.Spent trail) r in
      let all : N ≤ r.paid.published + (r.helps.published + r.gains.published) + r.gains.listed =
      omega (arith, r.gains.exact tt, r.spent, r.all, r.answer.0.spent, r.paid.least) in
      ended (verdict.Spent trail) r (stop_by cause.Units trail) refl
      (r.above r.below, (all, subst P s r.answer.0.trail, subst Q s r.answer.1, still_open trail r))

  wanting : (trail : List OpenFrame) (r : Turn (verdict.NoMemory trail)) → Asks (stop_by cause.Memory trail)
  wanting trail r =
      ended (verdict.NoMemory trail) r (stop_by cause.Memory trail) refl
      (r.above r.below, tt)

  pub turns : (v : Verdict) → Turn v → v ≡ verdict.Refuted
      → IsPaid kind line c before top first (lower + 1) units.used helped new
  turns v r e =
      let P : Verdict → Type 0 = λ z. Turn z in
      refuted (subst P e r)

  pub stops : (v : Verdict) → Turn v → (v ≡ verdict.Refuted → ⊥) → Asks (stop_of v)
  stops verdict.Refuted r not = absurd (not refl)
  stops verdict.Found r not = found r
  stops (verdict.Spent trail) r not = spent trail r
  stops (verdict.NoMemory trail) r not = wanting trail r

-- a run that ends before a question
pub ends_met : (kind : LineKind) (line : Line) (c : ℕ) (before : List Entry) (top N G first lower used left helped : ℕ)
    (b : BookView) → IsPaid kind line c before top first lower used helped b → used + left ≡ N → helped ≤ G
    → b.state.best.stations ≤ lower
    → HasAsked kind line c before top N G first (record { book = b; lower = lower; stop = None })
ends_met kind line c before top N G first lower used left helped b paid all up best = record {
  added = paid.added;
  run = paid.run;
  few = omega (arith, paid.few, all, up);
  published = paid.published;
  listed = 0;
  entry_units = paid.units;
  frame_units = refl;
  within = omega (arith, all, up, paid.most);
  ends = best;
}
