use Rattle.std.proofs.Common.{◌-◌, ◌<◌, ◌≡◌, ℕ, refl, inr, arith, ap, sum, List, ◌∙◌}
use Rattle.std.proofs.lemmas.Bool.{lt-ltb}
use Rattle.sequence_rules.specs.States.{next_starts}
use Rattle.sequence_rules.specs.Charges.{unit_cost}
use Rattle.sequence_rules.specs.Entries.{row_units}
use Rattle.sequence_check.proofs.WalkFacts.{served_from}
use Rattle.sequence_check.proofs.rows.taken_with.Goals as goal

pub returns-clause-some : goal.returns-clause-some
returns-clause-some c =
    let low : c.at.result.now < c.args.k = c.requires.cites c.args.taken c.at.result.now c.at.ensures in
    let units : c.units_left-rest.result - 1 ≡ row_units c.args.entry.now - 1 =
    omega (arith, c.units_left-rest.ensures, ap (λ (z : List ℕ). sum z) c.as_slice.ensures) in
    let cost : c.unit_cost-cost.result
    ≡ unit_cost c.args.times.now c.args.reach c.args.charges.now c.args.entry.now.starts c.args.model =
    c.unit_cost-cost.ensures.cost
    ∙ ap (λ (z : List ℕ). unit_cost c.args.times.now c.args.reach c.args.charges.now z c.args.model)
    c.as_slice-starts.ensures in
    let next : c.unit_cost-cost.new.next
    ≡ next_starts c.args.times.now c.args.interval c.args.reach c.args.model c.args.entry.now.starts =
    c.unit_cost-cost.ensures.next
    ∙ ap (λ (z : List ℕ). next_starts c.args.times.now c.args.interval c.args.reach c.args.model z)
    c.as_slice-starts.ensures in
    inr (
      lt-ltb (unit_cost c.args.times.now c.args.reach c.args.charges.now c.args.entry.now.starts c.args.model)
          c.args.entry.now.least (omega (arith, cost, c.if-cost-entry.false)),
      refl,
      c.at.result.now,
      (
        c.at.ensures,
        served_from c.args.entries.now c.args.k c.at.result.now (row_units c.args.entry.now - 1) _
            (next_starts c.args.times.now c.args.interval c.args.reach c.args.model c.args.entry.now.starts) _
            (c.args.entry.now.least
            - unit_cost c.args.times.now c.args.reach c.args.charges.now c.args.entry.now.starts c.args.model) _
            low (c.is_served.ensures.0 c.if-not-is_served.false) units next
            (ap (λ (z : ℕ). c.args.entry.now.least - z) cost),
      ),
    )
