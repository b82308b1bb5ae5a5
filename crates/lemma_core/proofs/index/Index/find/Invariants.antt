use Rattle.std.proofs.Common.{length}
use Rattle.lemma_core.specs.inner.Chains.{place, bucket_in}
use Rattle.lemma_core.proofs.ChainFacts.{IsWalk}
use Rattle.lemma_core.proofs.index.Index.find.Given as goal

abbrev pub invariant-chain : goal.invariant-chain
invariant-chain l = IsWalk (bucket_in (length l.self.heads.items)) l.entries l.set l.most l.cycle (place l.at)

abbrev pub decreases-chain : goal.decreases-chain
decreases-chain l = l.at
