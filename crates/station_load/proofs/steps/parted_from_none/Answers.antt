use Rattle.std.proofs.Common.{sym, ◌∙◌, inl, inr}
use Rattle.std.proofs.lemmas.Bool.{false≢true}
use Rattle.line_instance.proofs.Members.{In-meet, In-meet_parts, In-union_cases, In-union_left, In-union_right}
use Rattle.station_load.proofs.steps.parted_from_none.Goals as goal

pub returns-then-not-is_disjoint : goal.returns-then-not-is_disjoint
returns-then-not-is_disjoint c = (
  λ e. absurd (false≢true e),
  λ r. absurd (false≢true (sym c.if-not-is_disjoint.true ∙ c.is_disjoint.ensures.1 (λ j m.
      let q = In-meet_parts c.apart-apart.result.now c.args.here.now j m in
      r j (In-union_left c.args.here.now c.args.other.now j q.1) ((c.apart-apart.ensures.members j).0 q.0)))),
)

pub returns : goal.returns
returns c = (
  λ e j m a. elim (In-union_cases c.args.here.now c.args.other.now j m) [
    | inl x ↦ c.is_disjoint.ensures.0 c.if-not-is_disjoint.false j
        (In-meet c.apart-apart.result.now c.args.here.now j ((c.apart-apart.ensures.members j).1 a) x)
    | inr y ↦ c.is_disjoint-2.ensures.0 e j
        (In-meet c.apart-apart.result.now c.args.other.now j ((c.apart-apart.ensures.members j).1 a) y)
  ],
  λ r. c.is_disjoint-2.ensures.1 (λ j m.
      let q = In-meet_parts c.apart-apart.result.now c.args.other.now j m in
      r j (In-union_right c.args.here.now c.args.other.now j q.1) ((c.apart-apart.ensures.members j).0 q.0)),
)
