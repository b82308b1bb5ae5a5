use Rattle.std.proofs.Common.{◌-◌}
use Rattle.std.proofs.lemmas.Result.{IfOk-weaker}
use Rattle.line_instance.specs.Truths.{full_to}
use Rattle.entry_lists.specs.Trim.{IsTrimmed}
use Rattle.round_run.specs.Certified.{HaveCyclesOf}
use Rattle.entry_lists.proofs.TrimFacts.{trimmed_cycles}
use Rattle.round_run.proofs.certify.proof_of.Goals as goal

pub returns-clause-cycles : goal.returns-clause-cycles
returns-clause-cycles c =
    let set = full_to c.args.tasks in
    IfOk-weaker c.trim.result (IsTrimmed c.args.entries set (c.args.lower - 1) c.args.cycle)
    (HaveCyclesOf c.args.entries)
    (λ new t. trimmed_cycles c.args.entries set (c.args.lower - 1) c.args.cycle new t) c.trim.ensures.trimmed
