use Rattle.std.proofs.Common.{◌≡◌, ℕ, arith, subst}
use Rattle.line_instance.specs.inner.Inside.{IsAppended}
use Rattle.line_instance.proofs.rings.append_back.Goals as goal

pub returns : goal.returns
returns c =
    let e : c.loop-i.i ≡ c.args.from = omega arith in
    let P : ℕ → Type 0 = λ i. IsAppended c.args.list.now.items c.args.path.now i c.args.to c.loop-i.list.items in
    subst P e c.loop-i.invariant.so_far
