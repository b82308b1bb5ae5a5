use Rattle.std.proofs.Common.{ap}
use Rattle.cert_lines.specs.Rows.{row_text, line_text}
use Rattle.cert_lines.specs.LineForms.{version_row}
use Rattle.cert_text.proofs.PutTexts.{puts_as}
use Rattle.cert_text.proofs.lines.put_version.Goals as goal

pub returns-in-One : goal.returns-in-One
unfolding row_text
returns-in-One g c = puts_as _ _ _ _ _ c.put_text.ensures (ap (λ v. line_text (version_row v)) c.in-One.is)

pub returns-in-Two : goal.returns-in-Two
unfolding row_text
returns-in-Two g c = puts_as _ _ _ _ _ c.put_text-in-Two.ensures (ap (λ v. line_text (version_row v)) c.in-Two.is)

pub returns-in-Three : goal.returns-in-Three
unfolding row_text
returns-in-Three g c =
    puts_as _ _ _ _ _ c.put_text-in-Three.ensures (ap (λ v. line_text (version_row v)) c.in-Three.is)
