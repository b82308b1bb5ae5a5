use Rattle.std.proofs.Common.{◌≡◌, ◌<◌, ◌∙◌, ap, sym, length, true, rules}
use Rattle.std.specs.List.{list_all}
use Rattle.std.specs.Str.{chars}
use Rattle.task_names.specs.TaskNames.{is_name_char}
use Rattle.task_names.proofs.NameTests.{edges_left, no_name}
use Rattle.task_names.proofs.one_name.is_task_name.Goals as goal

pub returns-then-has_name_chars : goal.returns-then-has_name_chars
returns-then-has_name_chars c =
    let some : 0 < length c.args.bytes.now = search rules in
    let kept : list_all is_name_char (chars c.args.bytes.now) ≡ true =
    ap (λ text. list_all is_name_char (chars text)) (sym c.in-Ok.ensures.cases.0) ∙ sym c.has_name_chars.ensures
    ∙ c.if-has_name_chars.true in
    c.has_no_edge.ensures
    ∙ edges_left c.args.bytes.now some c.if-bytes-gt-MAX_BYTES.false c.in-Ok.ensures.cases.1 kept

pub returns-in-Err : goal.returns-in-Err
returns-in-Err c = no_name c.args.bytes.now c.in-Err.ensures.cases.0
