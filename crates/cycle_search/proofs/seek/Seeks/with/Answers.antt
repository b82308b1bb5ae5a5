use Rattle.cycle_search.proofs.SeekFacts.{seeks_more}
use Rattle.cycle_search.proofs.seek.Seeks.with.Goals as goal

pub returns : goal.returns
returns c = record {
  seeks = λ plan same few a.
      seeks_more plan c.args.self _ c.args.used c.args.most c.args.kept c.requires.within same few
      c.saturating_add.ensures c.saturating_add-2.ensures c.saturating_add-3.ensures a;
  exact = λ i. record {
    used = c.saturating_add.ensures i;
    most = c.saturating_add-2.ensures i;
    kept = c.saturating_add-3.ensures i;
  };
  kept = c.saturating_add-3.ensures;
}
