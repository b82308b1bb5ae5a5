use Rattle.std.proofs.Common.{◌≡◌, ◌∙◌, ◌++◌, ap, inl, inr, List, Option, ℕ, Some, option_map}
use Rattle.command_outcome.specs.Outcome.{Files, Outside, outcome_of, outside}
use Rattle.command_outcome.specs.declared.status.Status.TheVariants as ends
use Rattle.command_outcome.specs.Wrote.{written_line}
use Rattle.command_outcome.proofs.OutcomeFacts.{early, ends_as}
use Rattle.command_outcome.proofs.WrittenFacts.{told_with}
use Rattle.input_files.specs.Instance.{IsNoLine, naming_of}
use Rattle.command_convert.specs.Convert.{IsConvertOutcome, left_out, wrote_and}
use Rattle.command_convert.proofs.TextFacts.{text_by}
use Rattle.command_convert.proofs.convert.convert_line.Goals as goal

pub returns-in_err-line-clause-ends : goal.returns-in_err-line-clause-ends
returns-in_err-line-clause-ends g c = λ t.
    let a = c.args in
    let apart : Option (List ℕ) = option_map (λ x. x.now) a.apart in
    let after : Files = g.S.Shelf.file c.listed_line.new.shelf in
    let o : Outside = outside (g.S.Shelf.file a.shelf.now) (g.S.Shelf.blames c.listed_line.new.shelf) in
    early o (IsConvertOutcome o a.file.now a.name.now a.to apart a.word) (IsNoLine o a.file.now apart) after
    c.in_err-line.field-0.0 c.from_residual.result (λ out x. inl (c.requires, inr x)) (c.in_err-line.ensures.files t)
    (c.in_err-line.ensures.said t) c.from_residual.ensures.1

pub returns-clause-ends : goal.returns-clause-ends
returns-clause-ends g c = λ t.
    let a = c.args in
    let files : Files = g.S.Shelf.file a.shelf.now in
    let after : Files = g.S.Shelf.file c.write_page.new.shelf in
    let o : Outside = outside files (g.S.Shelf.blames c.write_page.new.shelf) in
    let apart : Option (List ℕ) = option_map (λ x. x.now) a.apart in
    let r = c.in_ok-report.report in
    let put : List ℕ = c.deref.result.now in
    let bytes : List ℕ = c.in_ok-bytes.bytes.items in
    let line = c.in_ok-line.line.inst in
    let B : List ℕ → Type 0 = λ x. outcome_of r (Some (record { name = a.name.now; bytes = x }))
    ≡ wrote_and a.name.now x (left_out a.to line) in
    ends_as o (λ out. out ≡ outcome_of r (Some (record { name = a.name.now; bytes = put })))
    (IsConvertOutcome o a.file.now a.name.now a.to apart a.word) after c.write_page.result
    (λ out is. inl (
      c.requires,
      inl (record {
        line = line;
        given = c.in_ok-line.line.cycle;
        said = c.in_ok-line.ensures.said t;
        bytes = bytes;
        written = text_by a.to line c.in_ok-line.line.naming (naming_of files a.file.now) c.cycle_of.result _ bytes
            (c.in_ok-line.ensures.sheet t).naming c.cycle_of.ensures c.in_ok-bytes.ensures;
        shown = is ∙ ap (λ (x : List ℕ). outcome_of r (Some (record { name = a.name.now; bytes = x })))
            c.deref.ensures.value ∙ told_with (record { name = a.name.now; bytes = bytes }) r ends.Done
            (written_line a.name.now ++ left_out a.to line) c.in_ok-report.ensures.status
            (c.in_ok-report.ensures.text ∙ ap (λ (x : List ℕ). written_line a.name.now ++ x) c.left_out.ensures)
            c.in_ok-report.ensures.kept;
      }),
    ))
    (c.write_page.ensures.ends t files (c.in_ok-line.ensures.files t))
