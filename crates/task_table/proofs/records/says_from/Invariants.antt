use Rattle.std.proofs.Common.{◌≡◌, drop}
use Rattle.csv.specs.Records.{fields_of}
use Rattle.task_table.specs.Records.{says}
use Rattle.task_table.proofs.records.says_from.Given as goal

abbrev pub invariant-loop-k : goal.invariant-loop-k
invariant-loop-k l = says (drop l.k (fields_of l.row)) ≡ says (drop l.from (fields_of l.row))
