use Rattle.sequence_search.proofs.ordering.search.Given as goal

abbrev pub ghost-begun : goal.ghost-begun
ghost-begun g a = g.about

abbrev pub ghost-meet : goal.ghost-meet
ghost-meet g a = g.about
