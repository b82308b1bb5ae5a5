use Rattle.std.proofs.Common.{◌≡◌, take}
use Rattle.std.specs.Prelude.{fold, flat_map}
use Rattle.std.specs.Hash as fed
use Rattle.std.specs.Hash.FoldHasher as folding
use Rattle.line_instance.specs.Tags.{pairs_of}
use Rattle.line_instance.proofs.sets.TaskSet.tag.Given as goal

-- the first k pairs are fed
abbrev pub invariant-loop-k : goal.invariant-loop-k
invariant-loop-k l = l.state ≡ fold folding.write folding.initial (flat_map fed.u128 (take l.k (pairs_of l.self)))
