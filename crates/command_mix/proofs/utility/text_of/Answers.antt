use Rattle.std.proofs.Common.{◌≡◌, ◌<◌, ◌+◌, ◌∙◌, ℕ, List, length, drop, get_or, replicate, ap, arith}
use Rattle.std.proofs.lemmas.List.{take_at, get_or-replicate}
use Rattle.std.proofs.lemmas.Result.{IfOk-weaker}
use Rattle.utility_work.specs.Utility.{station_utility}
use Rattle.command_mix.specs.Utility.{lines_text, utility_text}
use Rattle.command_mix.proofs.UtilityFacts.{utilities_are}
use Rattle.command_mix.proofs.utility.text_of.Goals as goal

pub returns : goal.returns
returns c =
    let mix = c.args.mix.now in
    let places = c.args.balance.now.place in
    let units : List ℕ = c.args.units.now in
    let n : ℕ = c.args.balance.now.stations in
    let reach : ℕ = c.args.reach in
    let per : List ℕ = c.utility-total.new.per in
    let long : length per ≡ n = omega (
      arith,
      c.utility-total.auto.per,
      c.deref_mut.ensures.len,
      c.in_ok-per.ensures.len,
    ) in
    let lengths : c.deref.result.now ≡ replicate n reach = c.deref.ensures.value
    ∙ c.in_ok-lengths.ensures.items_if_clones_equal (λ y e. e) in
    let each : (j : ℕ) → j < n → get_or per j 0 ≡ station_utility mix places units c.args.interval reach (j + 1) =
    λ j less. c.utility-total.ensures.each j less
    ∙ ap (λ (l : ℕ). station_utility mix places units c.args.interval l (j + 1))
    (ap (λ (ls : List ℕ). get_or ls j 0) lengths ∙ get_or-replicate n j reach 0 less) in
    let same : c.deref-2.result.now ≡ per =
    c.deref-2.ensures.value ∙ take_at per (drop (length per) c.in_ok-per.per.items) c.in_ok-per.per.len
    (omega (arith, long, c.in_ok-per.ensures.len)) in
    IfOk-weaker c.lines_text.result (λ t. t.items ≡ lines_text c.deref-2.result.now)
    (λ t. t.items ≡ utility_text mix c.args.balance.now units c.args.interval reach)
    (λ t e. e ∙ ap lines_text (same ∙ utilities_are mix places units c.args.interval reach 1 n per long each))
    c.lines_text.ensures
