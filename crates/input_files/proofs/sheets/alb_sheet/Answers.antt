use Rattle.std.proofs.Common.{refl, sym, subst, ap, inl}
use Rattle.command_outcome.specs.Outcome.{Stops, told}
use Rattle.command_outcome.specs.declared.status.Status.TheVariants as ends
use Rattle.input_files.specs.Instance.{IsFaulty}
use Rattle.input_files.proofs.sheets.alb_sheet.Goals as goal

pub returns-in_ok-text-in-Fault-clause-said : goal.returns-in_ok-text-in-Fault-clause-said
returns-in_ok-text-in-Fault-clause-said c =
    subst (λ s. Stops (IsFaulty c.args.file.now c.args.bytes.now) s) (sym c.refuse.ensures)
    (inl (record {
      no_table = c.requires.no_table;
      alb = c.requires.alb;
      fault = c.in-Fault.fault;
      first = c.in-Fault.ensures.read;
      unread = c.in-Fault.ensures.none c.in-Fault.fault refl;
      shown = ap (told ends.Input) c.in_ok-text-in-Fault.ensures;
    }))
