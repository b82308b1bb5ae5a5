use Rattle.std.proofs.Common.{sym, ◌∙◌, subst, List}
use Rattle.line_rules.specs.declared.types.OpenFrame.{OpenFrame}
use Rattle.round_run.specs.declared.solving.Cause.TheVariants as cause
use Rattle.cycle_search.specs.inner.Searching.{IsBetween, IsCloser, IsStuck}
use Rattle.cycle_search.specs.declared.halving.Halving.{Halving}
use Rattle.cycle_search.proofs.Tries.{refuted, found, spent, wanting}
use Rattle.cycle_search.proofs.trying.asked.Goals as goal

pub returns-in-Refuted : goal.returns-in-Refuted
returns-in-Refuted g c =
    let s = c.args.search in
    let P : Halving → Type 0 =
    λ z. IsBetween s.book.about.kind c.args.inst.now c.args.stations c.args.plan.now z
    × IsCloser s.lower s.upper z in
    subst P (sym c.refuted.ensures) (refuted s.book.about.kind c.args.inst.now c.args.stations c.args.plan.now
    s.book.about.cycle s c.in_ok-search.search c.requires.asking c.in_ok-search.verdict c.in_ok-search.ensures
    c.in-Refuted.is)

pub returns-in-Found : goal.returns-in-Found
returns-in-Found g c =
    let s = c.args.search in
    let P : Halving → Type 0 =
    λ z. IsBetween s.book.about.kind c.args.inst.now c.args.stations c.args.plan.now z
    × IsCloser s.lower s.upper z in
    subst P (sym c.in_ok-found-in-Found.ensures.found) (found s.book.about.kind c.args.inst.now c.args.stations
    c.args.plan.now s.book.about.cycle s c.in_ok-search.search c.requires.asking c.in_ok-search.verdict
    c.in_ok-search.ensures c.in-Found.is c.found.ensures.right)

pub returns-in-Spent : goal.returns-in-Spent
returns-in-Spent g c =
    let s = c.args.search in
    spent s.book.about.kind c.args.inst.now c.args.stations c.args.plan.now s.book.about.cycle s
    c.in_ok-search.search c.requires.asking c.in_ok-search.verdict c.in-Spent.frames c.len-closing_from.result
    c.in_ok-search.ensures c.in-Spent.is c.len-closing_from.ensures.len

pub returns : goal.returns
returns g c =
    let s = c.args.search in
    let P : List OpenFrame → Type 0 = λ z. IsStuck s.book.about.kind c.args.inst.now c.args.stations c.args.plan.now
    cause.Memory c.in_ok-search.search z c.len-closing_from.result in
    subst P (sym (c.from_vec.ensures ∙ c.new.ensures.items)) (wanting s.book.about.kind c.args.inst.now c.args.stations
    c.args.plan.now s.book.about.cycle s c.in_ok-search.search c.requires.asking c.in_ok-search.verdict
    c.in-NoMemory.field-0 c.len-closing_from.result c.in_ok-search.ensures c.in-NoMemory.is
    c.len-closing_from.ensures.len)
