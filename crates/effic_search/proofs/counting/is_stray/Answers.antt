use Rattle.std.proofs.Common.{◌∙◌, sym}
use Rattle.std.proofs.lemmas.Bool.{not-false}
use Rattle.line_instance.specs.inner.Words.{equal_sets}
use Rattle.effic_search.proofs.counting.is_stray.Goals as goal

pub returns-in-Bound : goal.returns-in-Bound
returns-in-Bound c = λ t b.
    (equal_sets c.args.entry.now.set c.args.all.now).0 (not-false _ (sym c.ne.ensures ∙ t))
