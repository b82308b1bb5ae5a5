use Rattle.std.proofs.Common.{◌∙◌, ap, arith, sym}
use Rattle.task_names.specs.TaskNames.{name_at}
use Rattle.table_text.specs.TableText.{is_direct}
use Rattle.table_text.specs.inner.Members.{member_if}
use Rattle.table_text.proofs.Joined.{listed_more}
use Rattle.table_text.proofs.WritingFacts.{covers_direct}
use Rattle.table_text.proofs.writing.listed_before.Goals as goal

pub loop-other-preserved : goal.loop-other-preserved
loop-other-preserved c =
    let line = c.args.inst.now in
    let names = c.args.names.now in
    c.in_ok-push_if.ensures
    ∙ ap (λ t. member_if t c.covers-covers.result (name_at names c.loop-other.other)) c.loop-other.invariant
    ∙ sym (listed_more names (is_direct line c.args.task) c.loop-other.other c.covers-covers.result
    c.len-names.ensures.names
    (omega (arith, c.loop-other-test.true, c.tasks-other-end.ensures.tasks, c.requires.many))
    (covers_direct line c.loop-other.other c.args.task c.covers-covers.result c.tasks-other-end.ensures.line
    c.covers-covers.ensures))
