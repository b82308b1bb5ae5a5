use Rattle.task_names.proofs.NameTests.{name_is_text}
use Rattle.task_names.proofs.one_name.Name.new.Goals as goal

pub unreachable-requires : goal.unreachable-requires
unreachable-requires c = c.in-Err.ensures.cases.0 (name_is_text c.args.name.now c.requires)
