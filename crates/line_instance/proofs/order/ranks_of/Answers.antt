use Rattle.std.proofs.Common.{◌≡◌, ℕ, length, arith, subst}
use Rattle.line_instance.proofs.MarkedRows.{IsRanking, all_ranked}
use Rattle.line_instance.proofs.order.ranks_of.Goals as goal

pub returns : goal.returns
returns c =
    let e : c.loop-k.k ≡ length c.args.order.now = omega arith in
    let P : ℕ → Type 0 = λ k. IsRanking c.args.order.now c.loop-k.ranks.items k in
    all_ranked c.args.order.now c.loop-k.ranks.items c.requires.order (subst P e c.loop-k.invariant)
