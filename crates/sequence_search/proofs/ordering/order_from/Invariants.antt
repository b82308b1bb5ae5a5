use Rattle.sequence_search.proofs.ordering.order_from.Given as goal

abbrev pub ghost-search : goal.ghost-search
ghost-search a = record { units = a.units; first = a.first; charges = a.charges; kept = a.kept }
