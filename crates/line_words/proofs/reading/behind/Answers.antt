use Rattle.std.proofs.Common.{◌∙◌, sym, add-one, length, inr, subst}
use Rattle.line_words.proofs.Splits.{length-texts}
use Rattle.line_words.specs.Words.{texts}
use Rattle.line_words.specs.Ranges.{IsInRange}
use Rattle.line_words.proofs.Between.{job_between}
use Rattle.line_words.proofs.reading.behind.Goals as goal

pub returns-in-Some-missing-clause-read : goal.returns-in-Some-missing-clause-read
returns-in-Some-missing-clause-read c =
    let ws = c.args.words.now in (
      length ws,
      add-one (length ws),
      inr (
        c.in_default.ensures,
        sym (length-texts ws),
        sym c.missing.ensures
            ∙ c.in-Some-missing.is,
      ),
    )

pub returns-in-Ok-clause-range : goal.returns-in-Ok-clause-range
returns-in-Ok-clause-range c = subst IsInRange (sym c.in-Ok.ensures)
    (job_between c.args.command (texts c.args.words.now) c.in_default.ensures)
