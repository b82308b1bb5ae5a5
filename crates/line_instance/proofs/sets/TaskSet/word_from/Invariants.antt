use Rattle.std.proofs.Common.{◌≡◌, ◌*◌, drop}
use Rattle.line_instance.specs.Truths.{members_from, truths_of}
use Rattle.line_instance.proofs.sets.TaskSet.word_from.Given as goal

-- the words gone over have no member
abbrev pub invariant-loop-k : goal.invariant-loop-k
invariant-loop-k l = members_from (64 * l.first) (drop (64 * l.first) (truths_of l.self-inside.words))
    ≡ members_from (64 * l.k) (drop (64 * l.k) (truths_of l.self-inside.words))
