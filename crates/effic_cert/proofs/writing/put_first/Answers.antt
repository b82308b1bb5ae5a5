use Rattle.std.proofs.Common.{refl, sym}
use Rattle.cert_lines.specs.Rows.{row_text}
use Rattle.cert_text.proofs.PutTexts.{puts, puts_as}
use Rattle.effic_cert.proofs.writing.put_first.Goals as goal

pub returns : goal.returns
unfolding row_text
returns g c = puts _ _ _ _ _ _ _ (puts_as _ _ _ _ _ c.put_text.ensures (sym c.text.ensures)) c.put.ensures refl
