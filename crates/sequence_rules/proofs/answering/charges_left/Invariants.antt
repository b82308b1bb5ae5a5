use Rattle.std.proofs.Common.{◌≡◌, take}
use Rattle.sequence_rules.specs.Charges.{charges_left}
use Rattle.sequence_rules.proofs.answering.charges_left.Given as goal

abbrev pub invariant-loop-m : goal.invariant-loop-m
invariant-loop-m l = l.owed ≡ charges_left l.charges (take l.m l.rem)
