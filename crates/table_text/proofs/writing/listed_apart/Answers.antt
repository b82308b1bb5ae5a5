use Rattle.std.proofs.Common.{◌∙◌, false, ap, arith, get_or, sym}
use Rattle.line_instance.specs.Line.{is_apart}
use Rattle.task_names.specs.TaskNames.{name_at}
use Rattle.table_text.specs.inner.Members.{member_if}
use Rattle.table_text.proofs.Joined.{listed_more}
use Rattle.table_text.proofs.writing.listed_apart.Goals as goal

pub loop-other-preserved : goal.loop-other-preserved
loop-other-preserved c =
    let line = c.args.inst.now in
    let names = c.args.names.now in
    c.in_ok-push_if.ensures
    ∙ ap (λ t. member_if t c.has-wanted.result (name_at names c.loop-other.other)) c.loop-other.invariant
    ∙ sym (listed_more names (λ i. is_apart line i c.args.task) c.loop-other.other c.has-wanted.result
    c.len-names.ensures.names
    (omega (arith, c.loop-other-test.true, c.requires.task, c.requires.many))
    (c.has-wanted.ensures ∙ ap (λ r. get_or r c.loop-other.other false) c.apart-apart.ensures.row))
