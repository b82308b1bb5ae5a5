use Rattle.std.proofs.Common.{append_assoc}
use Rattle.cert_lines.specs.Rows.{row_text}
use Rattle.cert_text.proofs.PutTexts.{number_as, ◌▹◌}
use Rattle.cert_text.proofs.PutTexts.{puts_as}
use Rattle.effic_cert.proofs.writing.put_ends.Goals as goal

pub returns : goal.returns
unfolding row_text
returns g c =
    puts_as _ _ _ _ _ (c.put_text.ensures ▹ number_as c.args.least c.put_number.ensures c.from.ensures ▹ c.put.ensures
    ▹ number_as c.args.most c.put_number-2.ensures c.from-2.ensures ▹ c.put-2.ensures) (simp append_assoc)
