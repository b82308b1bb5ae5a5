use Rattle.std.proofs.Common.{refl}
use Rattle.std.proofs.lemmas.Bool.{false≢true}
use Rattle.cert_lines.proofs.JudgedLine.{cites_more, cites_all, cites_fail}
use Rattle.cert_lines.proofs.line_forms.are_cites.Goals as goal

pub loop-cite-preserved : goal.loop-cite-preserved
loop-cite-preserved c = cites_more c.args.count c.args.cites.now c.loop-cite.cite-index c.loop-cite-test.true
    c.if-cite-count.false c.loop-cite.invariant

pub returns-then-cite-count : goal.returns-then-cite-count
returns-then-cite-count c = (
  λ h. absurd (false≢true h),
  λ a.
      absurd (cites_fail c.args.count c.args.cites.now c.loop-cite.cite-index c.loop-cite-test.true c.if-cite-count.true
      a),
)

pub returns : goal.returns
returns c = (
  λ h. cites_all c.args.count c.args.cites.now c.loop-cite.cite-index c.loop-cite-test.false
      c.loop-cite.invariant,
  λ a. refl,
)
