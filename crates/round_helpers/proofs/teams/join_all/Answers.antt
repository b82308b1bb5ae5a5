use Rattle.std.proofs.Common.{List, sym, ◌∙◌, subst}
use Rattle.std.proofs.lemmas.List.{nil_from_length}
use Rattle.std.specs.Vec.Iter.{into_iter_items}
use Rattle.round_helpers.specs.declared.teams.Helper.{Helper}
use Rattle.round_helpers.proofs.PassFacts.{IsJoining, joins_none, joins_one, joins_next, joins_all}
use Rattle.round_helpers.proofs.teams.join_all.Goals as goal

pub loop-helper-init : goal.loop-helper-init
loop-helper-init c =
    let P : List Helper → Type 0 =
    λ z. IsJoining c.args.share.now c.args.pass.now c.args.helpers.items z c.args.pass.now in
    record {
      joining = subst P (sym c.into_iter-helper-iterator.ensures.into_iter_gives.0)
          (joins_none c.args.share.now c.args.pass.now c.args.helpers.items c.requires.pass c.requires.none);
    }

pub join-requires : goal.join-requires
join-requires c =
    let P : List Helper → Type 0 =
    λ z. IsJoining c.args.share.now c.args.pass.now c.args.helpers.items z c.loop-helper.pass in
    let n = joins_next c.args.share.now c.args.pass.now c.args.helpers.items (into_iter_items c.next.new.self)
    c.in-Some.helper c.loop-helper.pass (subst P c.in-Some.ensures.steps.0 c.loop-helper.invariant.joining) in
    (c.loop-helper.invariant.joining.pass, c.requires.each n.0 c.in-Some.helper n.1)

pub loop-helper-preserved : goal.loop-helper-preserved
loop-helper-preserved c =
    let P : List Helper → Type 0 =
    λ z. IsJoining c.args.share.now c.args.pass.now c.args.helpers.items z c.loop-helper.pass in
    record {
      joining = joins_one c.args.share.now c.args.pass.now c.args.helpers.items (into_iter_items c.next.new.self)
          c.in-Some.helper c.loop-helper.pass c.join.new.pass
          (subst P c.in-Some.ensures.steps.0 c.loop-helper.invariant.joining) c.join.ensures.pass c.join.ensures.both
          c.join.ensures.seen.0 c.join.ensures.seen.1 c.join.ensures.sound;
    }

pub returns : goal.returns
returns c =
    let none = nil_from_length (into_iter_items c.loop-helper.helper-iterator)
    (sym c.loop-helper.helper-iterator.rest.ok.0 ∙ c.in-None.ensures.steps.0) in
    let P : List Helper → Type 0 =
    λ z. IsJoining c.args.share.now c.args.pass.now c.args.helpers.items z c.loop-helper.pass in
    let j = subst P none c.loop-helper.invariant.joining in
    record {
      pass = j.pass;
      joined = joins_all c.args.share.now c.args.pass.now c.args.helpers.items c.loop-helper.pass j;
    }
