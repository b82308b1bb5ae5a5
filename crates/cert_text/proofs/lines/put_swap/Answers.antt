use Rattle.std.proofs.Common.{suc, arith, append_assoc}
use Rattle.cert_text.proofs.PutTexts.{puts_as, ◌▹◌, number_as}
use Rattle.cert_text.proofs.lines.put_swap.Goals as goal

pub returns : goal.returns
returns g c =
    puts_as _ _ _ _ _ (c.put.ensures ▹ c.put_number.ensures ▹ c.put-2.ensures ▹ number_as (suc c.args.out_task)
    c.put_number-2.ensures (omega arith)
    ▹ c.put-3.ensures ▹ number_as (suc c.args.in_task) c.put_number-3.ensures (omega arith)) (simp append_assoc)
