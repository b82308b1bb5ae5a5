use Rattle.std.proofs.Common.{◌≡◌, ◌∙◌, ap, inl, inr, List, ℕ, Some}
use Rattle.command_outcome.specs.Outcome.{Files, Outside, Outcome, outcome_of, outside, told}
use Rattle.command_outcome.specs.declared.report.Report.{Report}
use Rattle.command_outcome.specs.declared.status.Status.TheVariants as ends
use Rattle.command_outcome.proofs.OutcomeFacts.{early, ends_as, handed_on}
use Rattle.mix_files.specs.inputs.InputFile.{fault_line}
use Rattle.command_outcome.specs.Wrote.{wrote}
use Rattle.command_outcome.proofs.WrittenFacts.{wrote_as}
use Rattle.mix_files.specs.Launch.{Names, IsUnlaunched}
use Rattle.command_mix.specs.Timeline.{large_text}
use Rattle.command_mix.specs.TimelineDraw.{IsTimelineDrawOutcome, IsTimelineTrulyDrawn, IsUndrawable}
use Rattle.command_mix.proofs.timeline_draw.timeline_draw_report.Goals as goal

pub returns-clause-ends : goal.returns-clause-ends
returns-clause-ends g c = λ t.
    let a = c.args in
    let files : Files = g.S.Shelf.file a.shelf.now in
    let after : Files = g.S.Shelf.file c.write_page.new.shelf in
    let o : Outside = outside files (g.S.Shelf.blames c.write_page.new.shelf) in
    let launch = c.in_ok-launch.launch in
    let told = c.in_ok-report in
    let put = c.deref.result.now in
    ends_as o (λ out. out ≡ outcome_of told.report (Some (record { name = a.name.now; bytes = put })))
    (IsTimelineDrawOutcome o a.mix.now a.cert.now a.seq.now a.name.now a.interval a.reach) after c.write_page.result
    (λ out is. inl (record {
      mix = launch.mix;
      balance = launch.balance;
      units = launch.units.items;
      launch = c.in_ok-launch.ensures.said t;
      drawable = c.in_ok-text.ensures.said.1;
      shown = is ∙ wrote_as told.report a.name.now put told.ensures.status told.ensures.text told.ensures.kept
          ∙ ap (wrote a.name.now) (c.deref.ensures.value ∙ c.in_ok-text.ensures.said.0);
    }))
    (c.write_page.ensures.ends t files (λ q. c.in_ok-launch.ensures.files t q))

pub returns-clause-promise : goal.returns-clause-promise
returns-clause-promise g c = λ t.
    let a = c.args in
    let files : Files = g.S.Shelf.file a.shelf.now in
    let after : Files = g.S.Shelf.file c.write_page.new.shelf in
    let name : List ℕ = a.name.now in
    let put : List ℕ = c.deref.result.now in
    let names : Names = record { mix = a.mix.now; cert = a.cert.now; seq = a.seq.now } in
    let launch = c.in_ok-launch.launch in
    let P : Report → Type 0 = λ r. IsTimelineTrulyDrawn files after names name a.interval a.reach in
    let Q : Report → Type 0 = λ r. after name ≡ Some put in
    handed_on P Q c.in_ok-report.report c.write_page.result
    (λ written. record {
      mix = launch.mix;
      balance = launch.balance;
      units = launch.units.items;
      launch = c.in_ok-launch.ensures.said t;
      drawable = c.in_ok-text.ensures.said.1;
      true_picture = c.in_ok-text.ensures.true_picture;
      written = written ∙ ap Some (c.deref.ensures.value ∙ c.in_ok-text.ensures.said.0);
      others = λ q n. c.write_page.ensures.others t q n ∙ c.in_ok-launch.ensures.files t q;
    })
    c.write_page.ensures.same (c.write_page.ensures.done t)

pub returns-in_err-launch-clause-ends : goal.returns-in_err-launch-clause-ends
returns-in_err-launch-clause-ends g c = λ t.
    let a = c.args in
    let after : Files = g.S.Shelf.file c.launch_of.new.shelf in
    let o : Outside = outside (g.S.Shelf.file a.shelf.now) (g.S.Shelf.blames c.launch_of.new.shelf) in
    let names : Names = record { mix = a.mix.now; cert = a.cert.now; seq = a.seq.now } in
    early o (IsTimelineDrawOutcome o names.mix names.cert names.seq a.name.now a.interval a.reach)
    (IsUnlaunched o names a.interval) after c.in_err-launch.field-0.0 c.from_residual.result (λ out x. inr (inr x))
    (c.in_err-launch.ensures.files t)
    (c.in_err-launch.ensures.said t) c.from_residual.ensures.1

pub returns-in_err-text-clause-ends : goal.returns-in_err-text-clause-ends
returns-in_err-text-clause-ends g c = λ t.
    let a = c.args in
    let after : Files = g.S.Shelf.file c.launch_of.new.shelf in
    let o : Outside = outside (g.S.Shelf.file a.shelf.now) (g.S.Shelf.blames c.launch_of.new.shelf) in
    let launch = c.in_ok-launch.launch in
    let Q : Outcome → Type 0 = λ out. IsUndrawable launch.balance launch.units.items
    × (out ≡ told ends.Input (fault_line a.seq.now large_text)) in
    early o (IsTimelineDrawOutcome o a.mix.now a.cert.now a.seq.now a.name.now a.interval a.reach) Q after
    c.in_err-text.field-0.0 c.from_residual-in_err-text.result
    (λ out x. inr (inl (record {
      mix = launch.mix;
      balance = launch.balance;
      units = launch.units.items;
      launch = c.in_ok-launch.ensures.said t;
      many = x.0;
      shown = x.1;
    })))
    (c.in_ok-launch.ensures.files t) c.in_err-text.ensures.said c.from_residual-in_err-text.ensures.1
