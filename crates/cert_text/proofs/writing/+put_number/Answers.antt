use Rattle.cert_lines.proofs.Digits.{number_small, number_more}
use Rattle.cert_text.proofs.PutTexts.{puts, puts_as}
use Rattle.cert_text.proofs.writing.+put_number.Goals as goal

pub returns-then-n-lt10 : goal.returns-then-n-lt10
returns-then-n-lt10 g t c = puts_as _ _ _ _ _ c.put.ensures (number_small c.args.n c.if-n-lt10.true)

pub returns : goal.returns
returns g t c = puts _ _ _ _ _ _ _ c.put_number.ensures c.put-2.ensures (number_more c.args.n c.if-n-lt10.false)
