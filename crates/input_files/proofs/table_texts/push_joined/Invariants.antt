use Rattle.std.proofs.Common.{◌≡◌, ◌++◌, cond, drop, nat_lt, string_bytes}
use Rattle.input_files.specs.TableTexts.{further_names, joined_names}
use Rattle.input_files.proofs.table_texts.push_joined.Given as goal

abbrev pub invariant-loop-task : goal.invariant-loop-task
invariant-loop-task l =
    string_bytes l.text
    ++ cond (nat_lt 0 l.task) (further_names (drop l.task l.names)) (joined_names (drop l.task l.names))
    ≡ string_bytes l.fn.text ++ joined_names l.names
