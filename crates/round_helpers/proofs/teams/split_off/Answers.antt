use Rattle.std.proofs.Common.{◌≡◌, ◌<◌, ℕ, List, length, ◌∙◌, sym, subst, arith}
use Rattle.std.specs.Prelude.{slice_get, slice_index_or, Some}
use Rattle.std.proofs.lemmas.Option.{slice_get-get_or}
use Rattle.std.specs.Vec.Iter.{into_iter_items}
use Rattle.steal_pool.specs.Hands.{HandView}
use Rattle.station_search.specs.declared.answers.Units.{Units}
use Rattle.round_helpers.proofs.PassFacts.{IsSplitting, splits_none, splits_below, splits_one}
use Rattle.round_helpers.proofs.teams.split_off.Goals as goal

pub loop-hand-init : goal.loop-hand-init
loop-hand-init c =
    let P : List HandView → Type 0 =
    λ z. IsSplitting c.args.share.now c.args.pass.now.view.base c.args.pass.now.view.seen c.args.units.now c.args.hands
    z
    c.args.helpers.items c.args.pass.now in
    record {
      splitting = subst P (sym (c.into_iter-hand-iterator.ensures.into_iter_gives.0 ∙ c.into_vec-hand-items.ensures))
          (splits_none c.args.share.now c.args.pass.now.view.base c.args.pass.now.view.seen c.args.units.now
          c.args.hands
          c.args.helpers.items c.args.pass.now c.requires.none c.requires.bare);
      room = c.requires.room;
    }

pub loop-hand-preserved : goal.loop-hand-preserved
loop-hand-preserved c =
    let P : List HandView → Type 0 =
    λ z. IsSplitting c.args.share.now c.args.pass.now.view.base c.args.pass.now.view.seen c.args.units.now c.args.hands
    z
    c.loop-hand.helpers.items c.loop-hand.pass in
    let s = subst P c.in-Some.ensures.steps.0 c.loop-hand.invariant.splitting in
    let below : length c.loop-hand.helpers.items < length c.args.hands =
    splits_below c.args.share.now c.args.pass.now.view.base c.args.pass.now.view.seen c.args.units.now c.args.hands
    (into_iter_items c.next.new.self) c.in-Some.hand c.loop-hand.helpers.items c.loop-hand.pass s in
    let d : Units = record { left = 0; used = 0 } in
    let n : length c.loop-hand.helpers.items ≡ c.len.result = omega (arith, c.len.ensures, c.loop-hand.helpers.ok.0) in
    let at : slice_get c.args.units.now (length c.loop-hand.helpers.items) ≡ Some
    (slice_index_or c.args.units.now c.len.result d) =
    subst (λ (z : ℕ). slice_get c.args.units.now z ≡ Some (slice_index_or c.args.units.now c.len.result d)) (sym n)
    (slice_get-get_or c.args.units.now c.len.result d (omega (arith, below, n, c.requires.hands))) in
    record {
      splitting = splits_one c.args.share.now c.args.pass.now.view.base c.args.pass.now.view.seen c.args.units.now
          c.args.hands (into_iter_items c.next.new.self) c.in-Some.hand c.loop-hand.helpers.items
          c.push_reserved.new.self.items c.ready.result c.loop-hand.pass c.split-own.new.pass c.split-own.result
          (slice_index_or c.args.units.now c.len.result d) s (omega (arith, c.requires.hands, c.requires.few))
          c.split-own.ensures.passes.0 c.split-own.ensures.passes.1 c.split-own.ensures.left c.split-own.ensures.right
          c.push_reserved.ensures.items c.ready.ensures.pass c.ready.ensures.hand at c.ready.ensures.left
          c.ready.ensures.used;
      room = omega (arith, c.loop-hand.invariant.room, c.push_reserved.ensures.capacity);
    }
