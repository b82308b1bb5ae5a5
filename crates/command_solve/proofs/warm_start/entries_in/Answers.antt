use Rattle.std.proofs.Common.{◌≡◌, ℕ, List, sym, subst, arith}
use Rattle.line_instance.specs.Line.{tasks}
use Rattle.line_rules.specs.Ranges.{AreEntries}
use Rattle.line_rules.specs.declared.types.Entry.{Entry}
use Rattle.command_solve.proofs.BegunFacts.{entries_range}
use Rattle.command_solve.proofs.warm_start.entries_in.Goals as goal

pub returns-clause-range : goal.returns-clause-range
returns-clause-range c =
    let n : c.args.cert.tasks ≡ tasks c.args.inst.now = omega
    (arith, c.if-cert-tasks.false, c.tasks-tasks.ensures.tasks) in
    let N : ℕ → Type 0 = λ z. AreEntries z c.entries_of.result in
    let E : List Entry → Type 0 = λ z. AreEntries c.args.cert.tasks z in
    subst N n (subst E (sym c.entries_of.ensures)
    (entries_range c.args.cert.kind c.args.cert.tasks c.args.cert.ask c.args.cert.claim c.requires.claim))
