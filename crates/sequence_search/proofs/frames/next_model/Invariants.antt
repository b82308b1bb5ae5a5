use Rattle.std.proofs.Common.{◌≡◌, ◌≤◌, ◌<◌, ℕ, false}
use Rattle.sequence_rules.specs.Entries.{is_left}
use Rattle.sequence_search.proofs.frames.next_model.Given as goal

abbrev pub invariant-loop-m : goal.invariant-loop-m
invariant-loop-m l = (j : ℕ) → l.from ≤ j → j < l.m → is_left l.rem j ≡ false
