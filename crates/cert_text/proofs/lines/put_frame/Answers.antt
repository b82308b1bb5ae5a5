use Rattle.std.proofs.Common.{ap, sym}
use Rattle.cert_lines.specs.Numbers.{cites_text}
use Rattle.cert_text.proofs.PutTexts.{puts_as, ◌▹◌, number_as}
use Rattle.cert_text.proofs.PutLines.{frame_spelled}
use Rattle.cert_text.proofs.lines.put_frame.Goals as goal

pub returns : goal.returns
returns g c =
    puts_as _ _ _ _ _ (c.put_text.ensures ▹ c.put_mode.ensures ▹ c.put.ensures ▹ c.put_set.ensures ▹ c.put-2.ensures
    ▹ number_as c.args.frame.now.most c.put_number.ensures c.from.ensures ▹ c.put-3.ensures ▹ c.put_last.ensures ▹
    c.put-4.ensures
    ▹ puts_as _ _ _ _ _ c.put_cites.ensures (ap cites_text (sym c.as_slice.ensures)) ▹ c.put-5.ensures)
    (frame_spelled c.args.tasks c.args.frame.now)
