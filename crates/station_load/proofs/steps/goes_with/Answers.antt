use Rattle.std.proofs.Common.{refl, sym, ◌∙◌}
use Rattle.std.proofs.lemmas.Bool.{false≢true}
use Rattle.station_load.proofs.steps.goes_with.Goals as goal

pub returns-then-has : goal.returns-then-has
returns-then-has c = (
  λ e. absurd (false≢true e),
  λ r. absurd (false≢true (sym r.0 ∙ (sym c.has.ensures ∙ c.if-has.true))),
)

pub returns-then-is_empty : goal.returns-then-is_empty
returns-then-is_empty c = (
  λ e. (
    sym c.has.ensures ∙ c.if-has.false,
    λ j m a. c.is_empty.ensures.0 c.if-is_empty.true j ((c.apart-apart.ensures.members j).1 a),
  ),
  λ r. refl,
)

pub returns : goal.returns
returns c = (
  λ e. (sym c.has.ensures ∙ c.if-has.false, c.parted_from_none.ensures.0 e),
  λ r. c.parted_from_none.ensures.1 r.1,
)
