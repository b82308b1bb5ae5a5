use Rattle.std.proofs.Common.{ap}
use Rattle.cert_lines.specs.Rows.{fixed, line_text, row_text}
use Rattle.cert_text.proofs.PutTexts.{puts_as}
use Rattle.sequence_cert.specs.SequenceText.{first_line}
use Rattle.sequence_cert.proofs.writing.put_first.Goals as goal

pub returns-in-None : goal.returns-in-None
unfolding row_text
returns-in-None g c = puts_as _ _ _ _ _ c.put_text.ensures (ap (λ x. line_text (fixed (first_line x))) c.in-None.is)

pub returns-in-Some : goal.returns-in-Some
unfolding row_text
returns-in-Some g c =
    puts_as _ _ _ _ _ c.put_text-in-Some.ensures (ap (λ x. line_text (fixed (first_line x))) c.in-Some.is)
