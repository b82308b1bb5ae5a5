use Rattle.std.proofs.Common.{refl, append_assoc}
use Rattle.cert_lines.specs.Rows.{row_text}
use Rattle.cert_text.proofs.PutTexts.{puts}
use Rattle.cert_text.proofs.lines.put_keyed.Goals as goal

pub returns : goal.returns
unfolding row_text
returns g c =
    puts _ _ _ _ _ _ _ c.put_text.ensures (puts _ _ _ _ _ _ _ c.put.ensures
    (puts _ _ _ _ _ _ _ c.put_number.ensures c.put-2.ensures refl) refl) (simp append_assoc)
