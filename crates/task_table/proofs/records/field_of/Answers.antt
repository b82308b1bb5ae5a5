use Rattle.std.proofs.Common.{◌∙◌, ap, refl, Bor, List, ℕ}
use Rattle.csv.specs.Records.{fields_of}
use Rattle.task_table.proofs.FieldFacts.{given_field}
use Rattle.task_table.proofs.records.field_of.Goals as goal

pub returns : goal.returns
returns c = ap (λ (s : Bor (List ℕ)). s.now) c.unwrap_or.ensures
    ∙ given_field (fields_of c.args.row.now) c.args.k c.get.result _ c.get.ensures.value refl
