use Rattle.line_instance.proofs.Members.{members}
use Rattle.line_instance.specs.Line.{Before}
use Rattle.line_rules.specs.Balance.{Keeps, seat}
use Rattle.line_rules.proofs.MembersInOrder.{IsLeft}
use Rattle.line_rules.proofs.checking.broken_after.Given as goal

abbrev pub decreases-later : goal.decreases-later
decreases-later l = members l.left

abbrev pub invariant-later : goal.invariant-later
invariant-later l = IsLeft (λ j. Before l.inst l.i j) (λ j.
    Keeps l.kind (seat l.balance.place l.i) (seat l.balance.place j)) l.left
