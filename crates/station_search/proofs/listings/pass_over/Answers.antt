use Rattle.std.proofs.Common.{◌+◌, ◌-◌, ◌*◌, ◌<◌, sym, ap, ◌∙◌, subst, refl, arith, rules}
use Rattle.std.proofs.lemmas.Bool.{false≢true}
use Rattle.lower_bounds.specs.declared.sizes.Times.{Times}
use Rattle.station_search.specs.declared.listings.Listing.{Listing}
use Rattle.station_search.proofs.LightLoads.{skips_none, meets, met_at, passes_over, light_closed}
use Rattle.station_search.proofs.listings.pass_over.Goals as goal

pub closed-init : goal.closed-init
closed-init c = record {
  units = refl;
  skipped = skips_none c.args.kind c.args.inst.now c.args.cycle c.args.frame.now c.args.listing.now
      c.args.units.now.used c.requires.beside;
  times = refl;
}

pub closed-preserved-then-sum-least : goal.closed-preserved-then-sum-least
closed-preserved-then-sum-least c =
    let h : Listing = record {
      walk = c.go_on.new.self;
      times = c.closed.listing.times;
      chained = c.closed.listing.chained;
    } in
    let met = meets c.args.kind c.args.inst.now c.args.cycle c.args.frame.now c.args.units.now.used
    c.closed.units.used (c.closed.units.used + 1) c.closed.listing h c.closed.invariant.skipped c.go_on.ensures.walk
    c.go_on.ensures.cycle c.go_on.ensures.mode c.go_on.ensures.set refl refl (c.if-not-go_on.ensures.given refl)
    (c.if-not-go_on.ensures.next refl) refl in
    let T : Times → Type 0 = λ z. (c.args.frame.now.most - 1) * c.args.cycle < z.total - c.go_on.new.self.sum in
    let shut = light_closed c.args.kind c.args.inst.now c.args.cycle c.args.frame.now h met.load met.beside
    met.next.load c.requires.cycle.some c.requires.some c.requires.few
    (subst T (sym c.closed.invariant.times) (c.least_sum-least.ensures.less c.go_on.new.self.sum
    (omega (arith, c.if-sum-least.true, c.sum.ensures)))) in
    record {
      units = search rules;
      skipped = passes_over c.args.kind c.args.inst.now c.args.cycle c.args.frame.now c.args.units.now.used
          (c.closed.units.used + 1) h met shut;
      times = c.closed.invariant.times;
    }

pub closed-preserved : goal.closed-preserved
closed-preserved c =
    let h : Listing = record {
      walk = c.go_on.new.self;
      times = c.closed.listing.times;
      chained = c.closed.listing.chained;
    } in
    let met = meets c.args.kind c.args.inst.now c.args.cycle c.args.frame.now c.args.units.now.used
    c.closed.units.used (c.closed.units.used + 1) c.closed.listing h c.closed.invariant.skipped c.go_on.ensures.walk
    c.go_on.ensures.cycle c.go_on.ensures.mode c.go_on.ensures.set refl refl (c.if-not-go_on.ensures.given refl)
    (c.if-not-go_on.ensures.next refl) refl in
    let there = met_at c.args.kind c.args.inst.now c.args.cycle c.args.frame.now c.args.units.now.used
    (c.closed.units.used + 1) h c.is_open.new.listing met c.is_open.ensures.walk c.is_open.ensures.beside in
    record {
      units = search rules;
      skipped = passes_over c.args.kind c.args.inst.now c.args.cycle c.args.frame.now c.args.units.now.used
          (c.closed.units.used + 1) c.is_open.new.listing there (λ o. false≢true (sym c.if-is_open.false
          ∙ (c.is_open.ensures.open there.load (sym (ap (λ w. w.last) c.is_open.ensures.walk) ∙ there.stands)).1 o));
      times = c.is_open.ensures.times ∙ c.closed.invariant.times;
    }
