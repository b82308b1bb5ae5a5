use Rattle.std.proofs.Common.{ap, sym}
use Rattle.std.specs.Prelude.{codes}
use Rattle.std.proofs.lemmas.List.{append-nil}
use Rattle.cert_lines.specs.Rows.{line_text, keyed}
use Rattle.cert_text.proofs.PutTexts.{puts_as, ◌▹◌}
use Rattle.effic_cert.proofs.writing.put_asked.Goals as goal

pub returns : goal.returns
returns g c =
    puts_as _ _ _ _ _ (c.put_kind.ensures ▹ puts_as _ _ _ _ _ c.put_keyed.ensures
    (ap (λ n. line_text (keyed (codes "tasks") n)) (sym c.from.ensures)) ▹ c.put_ends.ensures) (simp append-nil)
