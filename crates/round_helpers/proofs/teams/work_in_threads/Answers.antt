use Rattle.std.proofs.Common.{◌≡◌, length, refl, ◌∙◌, subst, rules}
use Rattle.std.specs.Prelude.{slice_index_or}
use Rattle.std.proofs.lemmas.Option.{slice_get_read, slice_get_within, get_or_from_slice_get}
use Rattle.round_helpers.specs.inner.Seats.{HasWorked}
use Rattle.round_helpers.specs.declared.teams.Helper.{Helper}
use Rattle.round_helpers.proofs.teams.work_in_threads.Goals as goal

pub for_each_mut-requires-clause-accepts : goal.for_each_mut-requires-clause-accepts
for_each_mut-requires-clause-accepts g c κs within = λ i p b at. (
  c.requires.each i p.now (slice_get_read c.args.helpers.now (length c.args.helpers.now) i p.now refl b at),
  search rules,
)

pub returns-clause-each : goal.returns-clause-each
returns-clause-each g c = λ k a b at there.
    let r = (c.for_each_mut.ensures k a (slice_get_within c.args.helpers.now k a at)).1 in
    let W : Helper → Helper → Type 0 =
    λ x y. HasWorked c.args.share.now x.pass.view.base x.pass.view.seen c.args.inst.now c.args.question x.units.left y in
    let before : slice_index_or c.args.helpers.now k a ≡ a = get_or_from_slice_get c.args.helpers.now k a a at in
    let after : slice_index_or c.for_each_mut.new.s k a ≡ b =
    get_or_from_slice_get c.for_each_mut.new.s k b a there in
    subst (λ (p : Helper × Helper). W p.0 p.1) (λ t. ((r.argument_is ∙ before) t, (r.left ∙ after) t)) r.call
