use Rattle.std.proofs.Common.{◌≡◌, ℕ, arith, subst, length}
use Rattle.line_instance.specs.inner.Inside.{of_rows}
use Rattle.line_instance.proofs.KeptPartners.{IsTabling, one_tabled, all_tabled}
use Rattle.line_instance.proofs.partners.keep_partners.Goals as goal

pub loop-i-preserved : goal.loop-i-preserved
loop-i-preserved c = one_tabled (of_rows c.args.times.now c.args.before.now c.args.apart.now) c.loop-i.partners
    c.loop-i.i c.first_partners.result c.first_partners.ensures.room c.first_partners.ensures.many
    c.first_partners.ensures.kept c.loop-i.invariant

pub returns : goal.returns
returns c =
    let line = of_rows c.args.times.now c.args.before.now c.args.apart.now in
    let e : c.loop-i.i ≡ length c.args.times.now = omega arith in
    let P : ℕ → Type 0 = λ i. IsTabling line c.loop-i.partners i in
    all_tabled line c.loop-i.partners (subst P e c.loop-i.invariant)
