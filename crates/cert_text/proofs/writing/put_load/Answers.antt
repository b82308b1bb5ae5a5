use Rattle.std.proofs.Common.{refl, ap}
use Rattle.cert_lines.specs.Numbers.{load_text}
use Rattle.cert_text.proofs.PutTexts.{puts, puts_as}
use Rattle.cert_text.proofs.writing.put_load.Goals as goal

pub returns-in-Both : goal.returns-in-Both
returns-in-Both g c =
    puts_as _ _ _ _ _ (puts _ _ _ _ _ _ _ c.put_set-in-Both.ensures
    (puts _ _ _ _ _ _ _ c.put.ensures c.put_set-in-Both-2.ensures refl) refl)
    (ap (λ m. load_text c.args.tasks m c.args.load.now) c.in-Both.is)
