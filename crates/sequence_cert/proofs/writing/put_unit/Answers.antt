use Rattle.std.proofs.Common.{suc, arith}
use Rattle.cert_lines.specs.Rows.{row_text}
use Rattle.cert_text.proofs.PutTexts.{number_as, ◌▹◌}
use Rattle.sequence_cert.proofs.writing.put_unit.Goals as goal

pub returns : goal.returns
unfolding row_text
returns g c = number_as (suc c.args.model) c.put_number.ensures (omega arith) ▹ c.put.ensures
