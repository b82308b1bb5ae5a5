use Rattle.std.proofs.Common.{ap, sym, map}
use Rattle.std.specs.Prelude.{codes}
use Rattle.cert_lines.specs.Rows.{line_text, rows_text, keyed}
use Rattle.cert_lines.specs.ValueRows.{seat_row}
use Rattle.cert_text.proofs.PutTexts.{puts_as, ◌▹◌}
use Rattle.effic_cert.proofs.writing.put_balance.Goals as goal

pub returns : goal.returns
returns g c =
    puts_as _ _ _ _ _ c.put_keyed.ensures (ap (λ n. line_text (keyed (codes "balance") n)) (sym c.from.ensures))
    ▹ puts_as _ _ _ _ _ c.put_seats.ensures
    (ap (λ ps. rows_text (map (seat_row c.args.cert.now.kind) ps)) (sym c.as_slice.ensures))
