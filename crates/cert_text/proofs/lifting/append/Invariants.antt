use Rattle.std.proofs.Common.{◌≡◌, ◌++◌, take, map}
use Rattle.entry_lists.specs.Lift.{lifted_entry}
use Rattle.cert_text.proofs.lifting.append.Given as goal

abbrev pub invariant-loop-entry : goal.invariant-loop-entry
invariant-loop-entry l = l.entries ≡ l.initial.entries ++ map (lifted_entry l.part.cycle l.earlier)
    (take l.entry-index l.entry-items)
