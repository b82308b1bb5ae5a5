use Rattle.std.proofs.Common.{ap, sym}
use Rattle.std.specs.Prelude.{codes}
use Rattle.std.proofs.lemmas.List.{append-nil}
use Rattle.cert_lines.specs.Rows.{line_text, keyed}
use Rattle.cert_text.proofs.PutTexts.{puts_as, ◌▹◌}
use Rattle.sequence_cert.proofs.writing.put_sizes.Goals as goal

pub returns : goal.returns
returns g c =
    puts_as _ _ _ _ _
    (puts_as _ _ _ _ _ c.put_keyed.ensures (ap (λ n. line_text (keyed (codes "models") n)) (sym c.from.ensures))
    ▹ puts_as _ _ _ _ _ c.put_keyed-2.ensures (ap (λ n. line_text (keyed (codes "stations") n)) (sym c.from-2.ensures)))
    (simp append-nil)
