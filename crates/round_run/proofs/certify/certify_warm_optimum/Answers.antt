use Rattle.std.proofs.Common.{ℕ, ◌-◌, ◌<◌, None, sym, subst}
use Rattle.line_instance.specs.Truths.{full_to}
use Rattle.line_rules.specs.Entries.{HasAnswer}
use Rattle.line_rules.specs.declared.types.Certificate.{Certificate}
use Rattle.line_rules.specs.declared.types.Claim.TheVariants as claim
use Rattle.entry_lists.specs.Trim.{IsTrimmed}
use Rattle.entry_lists.proofs.TrimFacts.{derived_earlier}
use Rattle.round_run.specs.Certified.{IsOptimumFrom, about_stations}
use Rattle.round_run.proofs.CertificateFacts.{optimum, shown_goal, no_more}
use Rattle.round_run.proofs.certify.certify_warm_optimum.Goals as goal

pub proof_of-requires-clause-goal : goal.proof_of-requires-clause-goal
proof_of-requires-clause-goal c =
    shown_goal c.args.kind c.args.inst.now c.args.cycle c.requires.solved.1 c.requires.solved.0 c.args.book
    c.into_parts-entries.result.0 c.into_parts-entries.result.1 c.tasks-tasks.result c.tasks-tasks.ensures.tasks
    c.into_parts-entries.ensures.entries c.into_parts-entries.ensures.best c.requires.solved.3

pub proof_of-requires-clause-earlier : goal.proof_of-requires-clause-earlier
proof_of-requires-clause-earlier c =
    derived_earlier c.args.book.about.kind c.args.book.about.line c.into_parts-entries.result.0
    c.into_parts-entries.ensures.derived

pub returns : goal.returns
returns c = λ before plan room solved.
    let b = c.into_parts-entries.result.1 in
    let new = c.in_ok-entries.entries in
    let P : Certificate → Type 0 = IsOptimumFrom c.args.kind c.args.inst.now c.args.cycle plan before
    c.args.book.state.best in
    let C : ℕ → ℕ → Certificate = λ l u. about_stations c.args.kind c.args.inst.now c.args.cycle
    (claim.Bounds l u b new None) in
    let L : ℕ → Type 0 = λ x. P (C x c.from-2.result) in
    let U : ℕ → Type 0 = λ x. P (C b.stations x) in
    let G : ℕ → Type 0 = λ m. 1 < b.stations → HasAnswer new (full_to m) (b.stations - 1) c.args.cycle in
    let T : ℕ → Type 0 = λ m. 1 < b.stations
    → IsTrimmed c.into_parts-entries.result.0 (full_to m) (b.stations - 1) c.args.cycle new in
    subst P (sym c.about_stations.ensures.said) (subst L (sym c.from.ensures) (subst U (sym c.from-2.ensures)
    (optimum c.args.kind c.args.inst.now c.args.cycle plan before c.args.book c.into_parts-entries.result.0 b
    c.about_stations.ensures.line c.requires.cycle room
    c.into_parts-entries.ensures.entries c.into_parts-entries.ensures.best c.into_parts-entries.ensures.derived
    c.into_parts-entries.ensures.statable c.into_parts-entries.ensures.right
    solved new c.in_ok-entries.ensures.derived (subst G c.tasks-tasks.ensures.tasks c.in_ok-entries.ensures.goal)
    c.in_ok-entries.ensures.units c.in_ok-entries.ensures.ranges c.in_ok-entries.ensures.cycles
    (no_more c.into_parts-entries.result.0 new (full_to c.tasks-tasks.result) b.stations (b.stations - 1) c.args.cycle
    c.in_ok-entries.ensures.none c.in_ok-entries.ensures.trimmed) (
      c.in_ok-entries.ensures.none,
      λ l. (
        c.into_parts-entries.result.0,
        subst T c.tasks-tasks.ensures.tasks c.in_ok-entries.ensures.trimmed l,
      ),
    ))))
