use Rattle.tests_search.proofs.searches.sharing.decide_other.Goals as goal

pub decide-decided-requires-clause-set : goal.decide-decided-requires-clause-set
decide-decided-requires-clause-set c = record {
  truths = c.capacity-truths.ensures.truths;
  tasks = λ i m. (c.all.ensures.members i).0 (c.is_subset.ensures.0 c.if-not-is_subset.false i m);
}
