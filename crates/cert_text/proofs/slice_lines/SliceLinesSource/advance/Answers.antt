use Rattle.cert_text.proofs.TakenLines.{line_taken, no_line}
use Rattle.cert_text.proofs.slice_lines.SliceLinesSource.advance.Goals as goal

pub returns-in-Some-clause-line : goal.returns-in-Some-clause-line
returns-in-Some-clause-line c = λ t e. line_taken c.args.self.now.left.now c.in-Some.line.now c.in-Some.rest.now
    c.in-Some.ensures

pub returns-in-None-clause-end : goal.returns-in-None-clause-end
returns-in-None-clause-end c = λ t e. no_line c.args.self.now.left.now c.in-None.ensures
