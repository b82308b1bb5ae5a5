use Rattle.std.proofs.Common.{◌≡◌, ◌∙◌, ap, inl, inr, subst, List, ℕ, Option, Some}
use Rattle.std.specs.Prelude.{option_map}
use Rattle.task_names.specs.declared.naming.Naming.{Naming}
use Rattle.command_outcome.specs.Outcome.{Files, Outside, outcome_of, outside}
use Rattle.command_outcome.specs.declared.report.Report.{Report}
use Rattle.command_outcome.proofs.OutcomeFacts.{early, ends_as, handed_on}
use Rattle.command_outcome.specs.Wrote.{wrote}
use Rattle.command_outcome.proofs.WrittenFacts.{wrote_as}
use Rattle.command_draw.specs.Draw.{IsDrawOutcome, IsTrulyDrawn, ShowsNames, picture_of}
use Rattle.command_draw.specs.Drawable.{IsNotShown}
use Rattle.command_draw.proofs.draw.draw_report.Goals as goal

pub returns-in_err-shown-clause-ends : goal.returns-in_err-shown-clause-ends
returns-in_err-shown-clause-ends g c = λ t.
    let a = c.args in
    let apart : Option (List ℕ) = option_map (λ x. x.now) a.apart in
    let after : Files = g.S.Shelf.file c.shown_of.new.shelf in
    let o : Outside = outside (g.S.Shelf.file a.shelf.now) (g.S.Shelf.blames c.shown_of.new.shelf) in
    early o (IsDrawOutcome o a.file.now a.proof.now a.name.now apart) (IsNotShown o a.file.now a.proof.now apart) after
    c.in_err-shown.field-0.0 c.from_residual.result (λ out x. inr x) (c.in_err-shown.ensures.files t)
    (c.in_err-shown.ensures.said t) c.from_residual.ensures.1

pub returns-clause-ends : goal.returns-clause-ends
returns-clause-ends g c = λ t.
    let a = c.args in
    let files : Files = g.S.Shelf.file a.shelf.now in
    let after : Files = g.S.Shelf.file c.write_page.new.shelf in
    let o : Outside = outside files (g.S.Shelf.blames c.write_page.new.shelf) in
    let shown = c.in_ok-shown.shown in
    let told = c.in_ok-report in
    let put : List ℕ = c.deref.result.now in
    let has = c.in_ok-shown.ensures.said t in
    ends_as o (λ out. out ≡ outcome_of told.report (Some (record { name = a.name.now; bytes = put })))
    (IsDrawOutcome o a.file.now a.proof.now a.name.now (option_map (λ x. x.now) a.apart)) after c.write_page.result
    (λ out is. inl (record {
      line = shown.line.inst;
      cert = shown.cert;
      said = has.said;
      read = has.read;
      drawable = has.drawable;
      shown = is ∙ wrote_as told.report a.name.now put told.ensures.status told.ensures.text told.ensures.kept
          ∙ ap (wrote a.name.now) (c.deref.ensures.value ∙ c.in_ok-text.ensures.text
          ∙ ap (λ (n : Naming). picture_of n shown.line.inst shown.cert) (c.in_ok-shown.ensures.sheet t).naming);
    }))
    (c.write_page.ensures.ends t files (c.in_ok-shown.ensures.files t))

pub returns-clause-promise : goal.returns-clause-promise
returns-clause-promise g c = λ t.
    let a = c.args in
    let files : Files = g.S.Shelf.file a.shelf.now in
    let after : Files = g.S.Shelf.file c.write_page.new.shelf in
    let name : List ℕ = a.name.now in
    let put : List ℕ = c.deref.result.now in
    let shown = c.in_ok-shown.shown in
    let has = c.in_ok-shown.ensures.said t in
    let naming = (c.in_ok-shown.ensures.sheet t).naming in
    let N : Naming → Type 0 = λ n. ShowsNames n shown.line.inst shown.cert in
    let P : Report → Type 0 = λ r. IsTrulyDrawn files after a.file.now a.proof.now name
    (option_map (λ x. x.now) a.apart) in
    let Q : Report → Type 0 = λ r. after name ≡ Some put in
    handed_on P Q c.in_ok-report.report c.write_page.result
    (λ written. record {
      line = shown.line.inst;
      cert = shown.cert;
      said = has.said;
      read = has.read;
      right = has.drawable;
      true_picture = c.in_ok-text.ensures.true_picture;
      names = subst N naming c.in_ok-text.ensures.names;
      written = written ∙ ap Some (c.deref.ensures.value ∙ c.in_ok-text.ensures.text
          ∙ ap (λ (n : Naming). picture_of n shown.line.inst shown.cert) naming);
      others = λ q n. c.write_page.ensures.others t q n ∙ c.in_ok-shown.ensures.files t q;
    })
    c.write_page.ensures.same (c.write_page.ensures.done t)
