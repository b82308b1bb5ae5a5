use Rattle.std.proofs.Common.{sym, subst, refl}
use Rattle.in2_reader.specs.Contents.{contents_from, lines_in}
use Rattle.alb_reader.specs.Sections.{before_end}
use Rattle.alb_reader.specs.Instance.{IsAlbRead}
use Rattle.alb_reader.proofs.DraftToLine.{draft_refused, form_refused, whole_tasks, filled_is, cycle_limit}
use Rattle.alb_reader.proofs.FaultFacts.{read_excludes}
use Rattle.alb_reader.proofs.instance.read_alb.Goals as goal

pub returns-in-Err-clause-read : goal.returns-in-Err-clause-read
returns-in-Err-clause-read c = subst (IsAlbRead c.args.bytes.now) (sym c.refused.ensures)
    (draft_refused c.args.bytes.now (lines_in 1 c.args.bytes.now) c.in-Err.error refl c.in-Err.ensures)

pub filled-requires : goal.filled-requires
filled-requires c =
    let lines = contents_from 1 c.args.bytes.now in
    let f = c.in-Ok-formed.ensures lines (lines_in 1 c.args.bytes.now) c.in-Ok.ensures in (
      before_end lines,
      c.in-Ok.ensures.draft,
      whole_tasks lines c.in-Ok.whole.0 c.in-Ok.whole.1 c.in-Ok-formed.tasks
          c.in-Ok.ensures f,
    )

pub returns-in-Ok-formed-clause-read : goal.returns-in-Ok-formed-clause-read
returns-in-Ok-formed-clause-read c =
    let lines = contents_from 1 c.args.bytes.now in
    let f = c.in-Ok-formed.ensures lines (lines_in 1 c.args.bytes.now) c.in-Ok.ensures in
    filled_is c.args.bytes.now c.in-Ok.whole.1 c.in-Ok-formed.tasks c.filled.result f
    (c.filled.ensures.read (before_end lines) c.in-Ok.ensures.draft
    (whole_tasks lines c.in-Ok.whole.0 c.in-Ok.whole.1 c.in-Ok-formed.tasks c.in-Ok.ensures f))

pub returns-in-Ok-formed-clause-limit : goal.returns-in-Ok-formed-clause-limit
returns-in-Ok-formed-clause-limit c = λ line t e. cycle_limit (before_end (contents_from 1 c.args.bytes.now))
    c.in-Ok.whole.0 t c.in-Ok.ensures.draft (c.filled.ensures.limit line t e)

pub returns-clause-read : goal.returns-clause-read
returns-clause-read c = subst (IsAlbRead c.args.bytes.now) (sym c.refused-in-Err-formed.ensures)
    (form_refused c.args.bytes.now c.in-Ok.whole.1 c.in-Err-formed.error
    (c.in-Err-formed.ensures (contents_from 1 c.args.bytes.now) (lines_in 1 c.args.bytes.now) c.in-Ok.ensures))

pub returns-in-Err-clause-none : goal.returns-in-Err-clause-none
returns-in-Err-clause-none c = read_excludes c.args.bytes.now c.refused.result (returns-in-Err-clause-read c)

pub returns-in-Ok-formed-clause-none : goal.returns-in-Ok-formed-clause-none
returns-in-Ok-formed-clause-none c = read_excludes c.args.bytes.now c.filled.result (returns-in-Ok-formed-clause-read c)

pub returns-clause-none : goal.returns-clause-none
returns-clause-none c = read_excludes c.args.bytes.now c.refused-in-Err-formed.result (returns-clause-read c)
