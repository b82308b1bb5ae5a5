use Rattle.std.proofs.Common.{◌≡◌, ◌<◌, ◌*◌, length, inl, inr}
use Rattle.command_outcome.specs.Outcome.{Files, Outside, Outcome, outside, told}
use Rattle.command_outcome.specs.declared.status.Status.TheVariants as ends
use Rattle.command_outcome.proofs.OutcomeFacts.{early}
use Rattle.mix_files.specs.inputs.InputFile.{fault_line}
use Rattle.mix_files.specs.Launch.{Names, IsUnlaunched}
use Rattle.command_mix.specs.Timeline.{IsTimelineOutcome, large_text}
use Rattle.command_mix.proofs.timeline.timeline_report.Goals as goal

pub returns-in_err-launch-clause-ends : goal.returns-in_err-launch-clause-ends
returns-in_err-launch-clause-ends g c = λ t.
    let a = c.args in
    let after : Files = g.S.Shelf.file c.launch_of.new.shelf in
    let o : Outside = outside (g.S.Shelf.file a.shelf.now) (g.S.Shelf.blames c.launch_of.new.shelf) in
    let names : Names = record { mix = a.mix.now; cert = a.cert.now; seq = a.seq.now } in
    early o (IsTimelineOutcome o names.mix names.cert names.seq a.interval a.reach) (IsUnlaunched o names a.interval)
    after c.in_err-launch.field-0.0 c.from_residual.result (λ out x. inr (inr x)) (c.in_err-launch.ensures.files t)
    (c.in_err-launch.ensures.said t) c.from_residual.ensures.1

pub returns-in_err-text-clause-ends : goal.returns-in_err-text-clause-ends
returns-in_err-text-clause-ends g c = λ t.
    let a = c.args in
    let after : Files = g.S.Shelf.file c.launch_of.new.shelf in
    let o : Outside = outside (g.S.Shelf.file a.shelf.now) (g.S.Shelf.blames c.launch_of.new.shelf) in
    let launch = c.in_ok-launch.launch in
    let Q : Outcome → Type 0 = λ out. (1000000 < length launch.units.items * launch.balance.stations)
    × (out ≡ told ends.Input (fault_line a.seq.now large_text)) in
    early o (IsTimelineOutcome o a.mix.now a.cert.now a.seq.now a.interval a.reach) Q after c.in_err-text.field-0.0
    c.from_residual-in_err-text.result
    (λ out x. inr (inl (record {
      mix = launch.mix;
      balance = launch.balance;
      units = launch.units.items;
      launch = c.in_ok-launch.ensures.said t;
      many = x.0;
      shown = x.1;
    })))
    (c.in_ok-launch.ensures.files t) c.in_err-text.ensures.said c.from_residual-in_err-text.ensures.1
