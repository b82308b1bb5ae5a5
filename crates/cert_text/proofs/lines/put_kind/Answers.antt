use Rattle.std.proofs.Common.{ap}
use Rattle.cert_lines.specs.Rows.{row_text, line_text}
use Rattle.cert_lines.specs.ValueRows.{kind_row}
use Rattle.cert_text.proofs.PutTexts.{puts_as}
use Rattle.cert_text.proofs.lines.put_kind.Goals as goal

pub returns-in-Straight : goal.returns-in-Straight
unfolding row_text
returns-in-Straight g c = puts_as _ _ _ _ _ c.put_text.ensures (ap (λ k. line_text (kind_row k)) c.in-Straight.is)

pub returns-in-U : goal.returns-in-U
unfolding row_text
returns-in-U g c = puts_as _ _ _ _ _ c.put_text-in-U.ensures (ap (λ k. line_text (kind_row k)) c.in-U.is)
