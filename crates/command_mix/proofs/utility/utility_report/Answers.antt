use Rattle.std.proofs.Common.{inr}
use Rattle.command_outcome.specs.Outcome.{Files, Outside, outside}
use Rattle.command_outcome.proofs.OutcomeFacts.{early}
use Rattle.mix_files.specs.Launch.{Names, IsUnlaunched}
use Rattle.command_mix.specs.Utility.{IsUtilityOutcome}
use Rattle.command_mix.proofs.utility.utility_report.Goals as goal

pub returns-in_err-launch-clause-ends : goal.returns-in_err-launch-clause-ends
returns-in_err-launch-clause-ends g c = λ t.
    let a = c.args in
    let after : Files = g.S.Shelf.file c.launch_of.new.shelf in
    let o : Outside = outside (g.S.Shelf.file a.shelf.now) (g.S.Shelf.blames c.launch_of.new.shelf) in
    let names : Names = record { mix = a.mix.now; cert = a.cert.now; seq = a.seq.now } in
    early o (IsUtilityOutcome o names.mix names.cert names.seq a.interval a.reach) (IsUnlaunched o names a.interval)
    after c.in_err-launch.field-0.0 c.from_residual.result (λ out x. inr x) (c.in_err-launch.ensures.files t)
    (c.in_err-launch.ensures.said t) c.from_residual.ensures.1
