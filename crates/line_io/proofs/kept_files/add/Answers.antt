use Rattle.std.proofs.Common.{◌∙◌, ap}
use Rattle.line_io.specs.Kept.{file_in}
use Rattle.line_io.proofs.FilePlaces.{pushed_here, pushed_others}
use Rattle.line_io.proofs.kept_files.add.Goals as goal

pub returns-clause-done : goal.returns-clause-done
returns-clause-done c =
    let grown = c.in_ok-push.ensures in
    ap (λ fs. file_in fs c.args.name.now) grown.items ∙ pushed_here c.args.files.now.items c.args.name.now _ c.requires
    c.in_ok-name.ensures.items

pub returns-clause-others : goal.returns-clause-others
returns-clause-others c =
    let grown = c.in_ok-push.ensures in
    λ q n. ap (λ fs. file_in fs q) grown.items ∙ pushed_others c.args.files.now.items c.args.name.now q _
    c.in_ok-name.ensures.items n
