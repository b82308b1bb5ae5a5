use Rattle.std.proofs.Common.{refl}
use Rattle.lower_bounds.proofs.SizeFacts.{counted}
use Rattle.lower_bounds.proofs.by_size.SizeSets.counts.Goals as goal

pub returns-clause-counts : goal.returns-clause-counts
returns-clause-counts c = λ d are.
    counted are c.args.set.now c.count_common.ensures.value c.count_common-2.ensures.value
    c.count_common-3.ensures.value c.count_common-third.ensures.value c.count_common-above_third.ensures.value
    c.count_common-two_thirds.ensures.value c.count_common-above_two_thirds.ensures.value refl
    c.count_common-2.ensures.most c.count_common-3.ensures.most c.count_common-third.ensures.most
    c.count_common-above_third.ensures.most c.count_common-two_thirds.ensures.most
    c.count_common-above_two_thirds.ensures.most
