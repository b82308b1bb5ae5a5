use Rattle.std.proofs.Common.{refl, append_assoc, ap, sym}
use Rattle.cert_lines.specs.Numbers.{number_text}
use Rattle.cert_text.proofs.PutTexts.{puts, puts_as}
use Rattle.cert_text.proofs.lines.put_question.Goals as goal

pub returns : goal.returns
returns g c =
    puts _ _ _ _ _ _ _ c.put.ensures (puts _ _ _ _ _ _ _ c.put_number.ensures
    (puts _ _ _ _ _ _ _ c.put-2.ensures (puts _ _ _ _ _ _ _ c.put_set.ensures
    (puts _ _ _ _ _ _ _ c.put-3.ensures (puts_as _ _ _ _ _ c.put_number-2.ensures (ap number_text (sym c.from.ensures)))
    refl) refl) refl) refl)
    (simp append_assoc)
