use Rattle.std.proofs.Common.{rules, length, ◌<◌, get_or, refl}
use Rattle.entry_lists.proofs.MarkFacts.{contains_at}
use Rattle.entry_lists.proofs.trimming.moved_cites.Goals as goal

pub bounds-places-cite : goal.bounds-places-cite
bounds-places-cite c = c.requires _ (contains_at c.args.cites.now c.loop-cite.cite-index
    (get_or c.args.cites.now c.loop-cite.cite-index 0) 0 c.loop-cite-test.true refl)

pub offset_bounds-places-cite : goal.offset_bounds-places-cite
offset_bounds-places-cite c =
    let b : get_or c.args.cites.now c.loop-cite.cite-index 0 < length c.args.places.now =
    c.requires _ (contains_at c.args.cites.now c.loop-cite.cite-index
    (get_or c.args.cites.now c.loop-cite.cite-index 0) 0 c.loop-cite-test.true refl) in search rules
