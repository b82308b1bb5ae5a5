use Rattle.std.proofs.Common.{refl, sym, subst, ap, inr}
use Rattle.command_outcome.specs.Outcome.{Stops, told}
use Rattle.command_outcome.specs.declared.status.Status.TheVariants as ends
use Rattle.input_files.specs.Instance.{IsFaulty}
use Rattle.input_files.proofs.sheets.table_sheet.Goals as goal

pub returns-in_ok-text-in-Fault-clause-said : goal.returns-in_ok-text-in-Fault-clause-said
returns-in_ok-text-in-Fault-clause-said c =
    subst (λ s. Stops (IsFaulty c.args.file.now c.args.bytes.now) s) (sym c.refuse.ensures)
    (inr (inr (record {
      mark = c.args.mark;
      marked = c.requires.mark;
      fault = c.in-Fault.fault;
      first = c.in-Fault.ensures.read;
      unread = c.in-Fault.ensures.none c.in-Fault.fault refl;
      shown = ap (told ends.Input) c.in_ok-text-in-Fault.ensures;
    })))
