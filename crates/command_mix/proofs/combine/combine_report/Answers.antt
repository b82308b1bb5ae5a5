use Rattle.std.proofs.Common.{◌≡◌, ◌∙◌, ap, inl, Some}
use Rattle.command_outcome.specs.Outcome.{Files, Outside, Page, outcome_of, outside}
use Rattle.command_outcome.specs.declared.status.Status.TheVariants as ends
use Rattle.command_outcome.proofs.OutcomeFacts.{ends_as}
use Rattle.command_outcome.proofs.WrittenFacts.{told_with}
use Rattle.command_mix.specs.Combine.{IsCombineOutcome, combined_line, wrote}
use Rattle.command_mix.proofs.combine.combine_report.Goals as goal

pub returns-clause-ends : goal.returns-clause-ends
returns-clause-ends g c = λ t.
    let a = c.args in
    let files : Files = g.S.Shelf.file a.shelf.now in
    let after : Files = g.S.Shelf.file c.write_page.new.shelf in
    let o : Outside = outside files (g.S.Shelf.blames c.write_page.new.shelf) in
    let mix = c.in_ok-combined.combined.mix in
    let told = c.in_ok-report in
    let page : Page = record { name = a.name.now; bytes = c.deref.result.now } in
    ends_as o (λ out. out ≡ outcome_of told.report (Some page)) (IsCombineOutcome o a.mix.now a.name.now) after
    c.write_page.result
    (λ out is. inl (record {
      mix = mix;
      line = c.in_ok-combined.combined.line;
      said = c.in_ok-combined.ensures.said t;
      bytes = c.in_ok-bytes.bytes.items;
      written = c.in_ok-bytes.ensures;
      shown = is ∙ told_with page told.report ends.Done (combined_line mix) told.ensures.status told.ensures.text
          told.ensures.kept ∙ ap (wrote mix a.name.now) c.deref.ensures.value;
    }))
    (c.write_page.ensures.ends t files (c.in_ok-combined.ensures.files t))
