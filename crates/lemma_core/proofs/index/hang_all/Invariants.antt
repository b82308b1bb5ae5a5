use Rattle.std.proofs.Common.{◌≡◌, ◌<◌, length, take}
use Rattle.lemma_core.specs.Sieves.{IsSieve, word_in, mark_of}
use Rattle.lemma_core.specs.inner.Chains.{tags, links, IsChained, bucket_in}
use Rattle.lemma_core.proofs.index.hang_all.Given as goal

abbrev pub invariant-loop-k : goal.invariant-loop-k
invariant-loop-k l = record {
  same : tags l.links ≡ tags l.initial.links;
  heads : 0 < length l.heads;
  sieve : 0 < length l.sieve;
  chained : IsChained (bucket_in (length l.heads)) (take l.k (tags l.links)) l.heads (links l.links);
  sieved : IsSieve (word_in (length l.sieve)) mark_of (take l.k (tags l.links)) l.sieve;
}
