use Rattle.lower_bounds.proofs.SizeFacts.{made}
use Rattle.lower_bounds.proofs.by_size.size_sets.Goals as goal

pub returns : goal.returns
returns c = made c.args.inst.now c.args.cycle c.longer.result c.longer-above_half.result c.longer-2.result
    c.minus.result c.longer-3.result c.longer-4.result c.longer-5.result c.longer-6.result c.requires.some
    c.longer.ensures c.longer-above_half.ensures c.longer-2.ensures c.minus.ensures.value c.longer-3.ensures
    c.longer-4.ensures c.longer-5.ensures c.longer-6.ensures
