use Rattle.std.proofs.Common.{◌∙◌, ◌↔◌, sym, subst, List}
use Rattle.line_instance.specs.Line.{Apart}
use Rattle.line_instance.specs.Walks.{IsGiven}
use Rattle.line_instance.specs.declared.arcs.Prec.{Prec}
use Rattle.task_table.specs.Records.{behind, names_in, table_records}
use Rattle.task_table.specs.Lists.{members_in}
use Rattle.input_files.proofs.SheetFacts.{none_listed}
use Rattle.input_files.proofs.sheets.sheet_by.Goals as goal

pub returns-clause-right : goal.returns-clause-right
returns-clause-right c =
    let t = c.requires.table.2 in
    record {
      names = (c.requires.right.many, c.requires.right.distinct);
      pairs = c.requires.right.pairs;
      apart = λ i j. let G : List Prec → Type 0 = λ ps. Apart c.args.table.inst i j ↔ IsGiven ps i j in
          subst G (sym t.pairs) (t.sheet.apart i j);
      none = λ e. let rest = behind (table_records c.requires.table.1 c.requires.table.0) in
          t.pairs ∙ none_listed (names_in rest) (members_in rest) (sym t.pairs_at ∙ e);
    }
