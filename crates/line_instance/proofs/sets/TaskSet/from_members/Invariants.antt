use Rattle.std.proofs.Common.{◌≡◌, ℕ, ◌↔◌, length, take}
use Rattle.std.specs.List.{Contains}
use Rattle.line_instance.specs.Truths.{In}
use Rattle.line_instance.proofs.sets.TaskSet.from_members.Given as goal

-- the set has the tasks named so far
abbrev pub invariant-loop-i : goal.invariant-loop-i
invariant-loop-i l = record {
  truths : length l.set ≡ 1024;
  listed : (i : ℕ) → In l.set i ↔ Contains (take l.i-index l.members) i;
}
