use Rattle.std.proofs.Common.{◌-◌, ◌<◌, List, Bool, sym, ◌∙◌, subst, ap, not, inl, inr, refl, arith}
use Rattle.std.proofs.lemmas.Bool.{false≢true, cases_Bool, not-true}
use Rattle.line_rules.specs.Bounds.{bound}
use Rattle.line_instance.specs.Truths.{IsSubset}
use Rattle.line_rules.specs.Times.{AreTimes}
use Rattle.line_rules.proofs.ChainFacts.{chained_within}
use Rattle.line_rules.proofs.Paths.{rest_inside}
use Rattle.station_search.specs.inner.Steps.{with_mark}
use Rattle.station_search.proofs.LightLoads.{value_of, rest_at, load_at}
use Rattle.station_search.proofs.SortFacts.{full_is, opens}
use Rattle.station_search.proofs.listings.is_open.Goals as goal

pub exceeds_by_chains_of-requires-clause-times : goal.exceeds_by_chains_of-requires-clause-times
exceeds_by_chains_of-requires-clause-times c =
    let v = value_of c.args.listing.now.walk.last c.requires.given in
    let P : List Bool → Type 0 = λ z. AreTimes c.args.inst.now z c.rest_times-times.result.total
    c.rest_times-times.result.longest in
    subst P (sym (rest_at c.args.inst.now c.args.cycle (with_mark c.args.frame.now c.args.listing.now.walk.last)
    c.args.listing.now v.0 c.requires.beside v.1 c.rest-rest.result c.rest-rest.ensures.rest))
    (c.rest_times-times.ensures.times v.0 v.1)

pub exceeds_by_chains_of-requires-clause-chained : goal.exceeds_by_chains_of-requires-clause-chained
exceeds_by_chains_of-requires-clause-chained c =
    let v = value_of c.args.listing.now.walk.last c.requires.given in
    let same = rest_at c.args.inst.now c.args.cycle (with_mark c.args.frame.now c.args.listing.now.walk.last)
    c.args.listing.now v.0 c.requires.beside v.1 c.rest-rest.result c.rest-rest.ensures.rest in
    let P : List Bool → Type 0 = λ z. IsSubset z c.args.frame.now.set in
    λ j h. c.chained_for-chained.ensures.all j (chained_within c.args.inst.now c.args.cycle c.requires.cycle.some
    c.rest-rest.result c.args.frame.now.set (subst P (sym same) (rest_inside c.args.frame.now.set v.0)) j c.args.kind
    (c.args.frame.now.most - 1) h)

pub returns-then-exceeds_by_sizes-clause-open : goal.returns-then-exceeds_by_sizes-clause-open
returns-then-exceeds_by_sizes-clause-open c = λ l e.
    let B : List Bool → Type 0 = λ z. c.args.frame.now.most - 1 < bound c.args.kind c.args.inst.now c.args.cycle z in
    let over = subst B (rest_at c.args.inst.now c.args.cycle (with_mark c.args.frame.now c.args.listing.now.walk.last)
    c.args.listing.now l c.requires.beside e c.rest-rest.result c.rest-rest.ensures.rest)
    (c.if-exceeds_by_sizes.ensures.over c.args.kind c.args.cycle c.requires.sizes refl) in (
      λ t. absurd (false≢true t),
      λ o. absurd (omega (arith, over, o.bound)),
    )

pub returns-then-not-full-clause-open : goal.returns-then-not-full-clause-open
returns-then-not-full-clause-open c = λ l e. (
  λ t. absurd (false≢true t),
  λ o. absurd (false≢true (sym c.if-not-full.true
      ∙ (full_is c.args.inst.now c.args.cycle (with_mark c.args.frame.now c.args.listing.now.walk.last)
      c.args.listing.now l c.full.result c.requires.beside e c.full.ensures).1 o.full)),
)

pub returns-clause-open : goal.returns-clause-open
returns-clause-open c = λ l e.
    let f = with_mark c.args.frame.now c.args.listing.now.walk.last in
    let same = rest_at c.args.inst.now c.args.cycle f c.args.listing.now l c.requires.beside e c.rest-rest.result
    c.rest-rest.ensures.rest in
    let B : List Bool → Type 0 = λ z. c.args.frame.now.most - 1 < bound c.args.kind c.args.inst.now c.args.cycle z in (
      λ t. opens c.args.kind c.args.inst.now c.args.cycle f l c.rest-rest.result c.full.result
          c.exceeds_by_chains_of.result (load_at c.args.inst.now c.args.cycle f c.args.listing.now l c.requires.beside e)
          (full_is c.args.inst.now c.args.cycle f c.args.listing.now l c.full.result c.requires.beside e
          c.full.ensures) c.if-not-full.false same c.exceeds_by_chains_of.ensures
          (not-true c.exceeds_by_chains_of.result t) c.requires.some,
      λ o. elim (cases_Bool c.exceeds_by_chains_of.result) [
        | inl over ↦ (let more = subst B same (c.exceeds_by_chains_of.ensures.0 over) in
            absurd (omega (arith, more, o.bound)))
        | inr kept ↦ ap not kept
      ],
    )
