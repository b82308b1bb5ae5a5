use Rattle.std.proofs.Common.{ap, sym}
use Rattle.std.specs.Prelude.{codes}
use Rattle.cert_lines.specs.LineForms.{version_row}
use Rattle.cert_lines.specs.Rows.{line_text, keyed, row_text}
use Rattle.cert_text.specs.Cert.{cert_rows}
use Rattle.cert_text.proofs.PutTexts.{puts_as, ◌▹◌}
use Rattle.cert_text.proofs.lines.put_cert.Goals as goal

pub returns : goal.returns
unfolding row_text cert_rows
returns g c =
    puts_as _ _ _ _ _ c.put_version.ensures (ap (λ v. line_text (version_row v)) (sym c.version_of.ensures))
    ▹ c.put_kind.ensures ▹ puts_as _ _ _ _ _ c.put_keyed.ensures
    (ap (λ n. line_text (keyed (codes "tasks") n)) (sym c.from.ensures)) ▹ c.put_ask.ensures ▹ c.put_claim.ensures
