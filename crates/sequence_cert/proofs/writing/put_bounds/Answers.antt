use Rattle.std.proofs.lemmas.List.{append-nil}
use Rattle.cert_text.proofs.PutTexts.{puts_as, ◌▹◌}
use Rattle.sequence_cert.proofs.writing.put_bounds.Goals as goal

pub returns : goal.returns
returns g c = puts_as _ _ _ _ _ (c.put_keyed.ensures ▹ c.put_keyed-2.ensures) (simp append-nil)
