use Rattle.std.proofs.Common.{sym, subst}
use Rattle.task_table.specs.Tables.{IsTableRead}
use Rattle.task_table.specs.declared.table.TableRead.{TableRead}
use Rattle.task_table.specs.declared.table.TableRead.TheVariants.{Good}
use Rattle.task_table.proofs.TableFacts.{mark_is, well_formed, fault_has_none}
use Rattle.task_table.proofs.table.read_table.Goals as goal

pub returns-in-Ok-clause-right : goal.returns-in-Ok-clause-right
returns-in-Ok-clause-right c =
    well_formed c.args.mark c.args.bytes.now (Good c.in-Ok.table) c.in-Ok.ensures
    (mark_is c.args.bytes.now c.args.mark c.requires.mark)

pub returns-in-Err-clause-none : goal.returns-in-Err-clause-none
returns-in-Err-clause-none c =
    let P : TableRead → Type 0 = IsTableRead c.args.mark c.args.bytes.now in
    fault_has_none c.args.mark c.args.bytes.now c.stopped.result (subst P (sym c.stopped.ensures) c.in-Err.ensures)
