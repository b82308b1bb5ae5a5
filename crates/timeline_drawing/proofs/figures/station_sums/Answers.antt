use Rattle.std.proofs.Common.{◌≡◌, ◌<◌, ◌+◌, ◌∙◌, ℕ, List, length, get_or, replicate, ap, arith, sum}
use Rattle.std.proofs.lemmas.List.{get_or-replicate}
use Rattle.utility_work.specs.Utility.{station_utility}
use Rattle.timeline_drawing.specs.Visits.{course}
use Rattle.timeline_drawing.specs.Figures.{station_sum}
use Rattle.timeline_drawing.proofs.FigureFacts.{sums_are}
use Rattle.timeline_drawing.proofs.figures.station_sums.Goals as goal

pub returns-clause-total : goal.returns-clause-total
returns-clause-total c =
    let mix = c.args.mix.now in
    let b = c.args.balance.now in
    let units : List ℕ = c.args.sequence.now in
    let n : ℕ = b.stations in
    let reach : ℕ = c.args.reach in
    let d = course mix b units c.args.interval reach in
    let per : List ℕ = c.utility-total.new.per in
    let long : length per ≡ n = omega (
      arith,
      c.utility-total.auto.per,
      c.deref_mut.ensures.len,
      c.in_ok-per.ensures.len,
    ) in
    let lengths : c.deref.result.now ≡ replicate n reach = c.deref.ensures.value
    ∙ c.in_ok-lengths.ensures.items_if_clones_equal (λ y e. e) in
    let each : (j : ℕ) → j < n → get_or per j 0 ≡ station_sum d (j + 0) =
    λ j less. c.utility-total.ensures.each j less
    ∙ ap (λ (l : ℕ). station_utility mix b.place units c.args.interval l (j + 1))
    (ap (λ (ls : List ℕ). get_or ls j 0) lengths ∙ get_or-replicate n j reach 0 less)
    ∙ ap (λ (i : ℕ). station_sum d i) (omega arith) in
    c.utility-total.ensures.total ∙ ap (λ (xs : List ℕ). sum xs) (sums_are d 0 n per long each)
