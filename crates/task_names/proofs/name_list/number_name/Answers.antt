use Rattle.std.proofs.Common.{◌≡◌, List, ℕ, true, sym, subst, rules}
use Rattle.std.specs.Prelude.{decimal}
use Rattle.task_names.specs.TaskNames.{is_task_name}
use Rattle.task_names.proofs.NumberNames.{number_is_name}
use Rattle.task_names.proofs.name_list.number_name.Goals as goal

pub new-requires : goal.new-requires
new-requires c =
    let is : c.as_bytes.result.now ≡ decimal c.args.number = search rules in
    let P : List ℕ → Type 0 = λ bytes. is_task_name bytes ≡ true in
    subst P (sym is) (number_is_name c.args.number c.requires)
