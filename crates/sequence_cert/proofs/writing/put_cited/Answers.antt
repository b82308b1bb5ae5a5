use Rattle.std.proofs.Common.{ap, sym}
use Rattle.cert_lines.specs.Numbers.{cites_text}
use Rattle.cert_text.proofs.PutTexts.{puts_as, ◌▹◌}
use Rattle.sequence_cert.proofs.writing.put_cited.Goals as goal

pub returns : goal.returns
returns g c =
    c.put_state.ensures ▹ c.put_number.ensures ▹ c.put.ensures
    ▹ puts_as _ _ _ _ _ c.put_cites.ensures (ap cites_text (sym c.as_slice.ensures)) ▹ c.put-2.ensures
