use Rattle.sequence_search.proofs.ordering.begun.Given as goal

abbrev pub ghost-root_entries : goal.ghost-root_entries
ghost-root_entries g a = g.about
