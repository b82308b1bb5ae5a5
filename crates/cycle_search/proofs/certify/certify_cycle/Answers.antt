use Rattle.std.proofs.Common.{ℕ, ◌-◌, ◌<◌, sym, subst}
use Rattle.line_instance.specs.Truths.{full_to}
use Rattle.line_rules.specs.Entries.{HasAnswer}
use Rattle.line_rules.specs.declared.types.Certificate.{Certificate}
use Rattle.entry_lists.specs.Trim.{IsTrimmed}
use Rattle.entry_lists.proofs.TrimFacts.{derived_earlier}
use Rattle.cycle_search.specs.CycleCertified.{IsOptimum}
use Rattle.cycle_search.proofs.CertificateFacts.{optimum, shown_goal}
use Rattle.cycle_search.proofs.certify.certify_cycle.Goals as goal

pub proof_of-requires-clause-goal : goal.proof_of-requires-clause-goal
proof_of-requires-clause-goal c =
    shown_goal c.args.kind c.args.inst.now c.args.stations c.requires.solved.0 c.args.cycle c.args.balance
    c.args.entries c.tasks.result c.tasks.ensures.tasks c.requires.solved.2

pub proof_of-requires-clause-earlier : goal.proof_of-requires-clause-earlier
proof_of-requires-clause-earlier c =
    derived_earlier c.args.kind c.args.inst.now c.args.entries c.requires.solved.2.proof.derived

pub returns : goal.returns
returns c = λ plan limit solved.
    let P : Certificate → Type 0 =
    IsOptimum c.args.kind c.args.inst.now c.args.stations plan c.args.cycle c.args.balance in
    let new = c.in_ok-entries.entries in
    let G : ℕ → Type 0 = λ n. 1 < c.args.cycle → HasAnswer new (full_to n) c.args.stations (c.args.cycle - 1) in
    let T : ℕ → Type 0 = λ n. 1 < c.args.cycle
    → IsTrimmed c.args.entries (full_to n) c.args.stations (c.args.cycle - 1) new in
    subst P (sym c.about_cycle.ensures.said) (optimum c.args.kind c.args.inst.now c.args.stations plan
    c.args.cycle c.args.balance c.args.entries new c.about_cycle.ensures.line c.requires.some c.requires.few
    limit solved c.in_ok-entries.ensures.one
    (subst T c.tasks.ensures.tasks c.in_ok-entries.ensures.trimmed) c.in_ok-entries.ensures.derived
    (subst G c.tasks.ensures.tasks c.in_ok-entries.ensures.goal) c.in_ok-entries.ensures.units
    c.in_ok-entries.ensures.ranges)
