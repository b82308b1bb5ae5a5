use Rattle.std.proofs.Common.{◌≡◌, ◌≤◌, List, Some, sym, subst, arith}
use Rattle.std.specs.Prelude.{slice_get}
use Rattle.line_rules.specs.Balance.{all_tasks}
use Rattle.line_rules.specs.declared.types.Entry.{Entry}
use Rattle.cycle_search.specs.rounds.declared.closing.Verdict.{Verdict}
use Rattle.effic_search.specs.inner.Going.{EndsWith, may_bound}
use Rattle.effic_search.proofs.TryFacts.{none_too_long, left_cycle}
use Rattle.effic_search.proofs.AnswerFacts.{ranked_found, sought_lowering, sought_range, sought_right, sought_found}
use Rattle.effic_search.proofs.AnswerFacts.{left_as}
use Rattle.effic_search.proofs.GainFacts.{few_before}
use Rattle.effic_search.proofs.AnswerFacts.{found_after, refuted_going, spent_stuck}
use Rattle.effic_search.proofs.trying.try_cycle.Goals as goal

pub ranked-requires-clause-short : goal.ranked-requires-clause-short
ranked-requires-clause-short g c =
    let w = c.args.wanted in
    none_too_long c.args.inst.now w.least w.most c.args.stations c.args.cycle c.args.search c.tasks-tasks.ensures.line
    c.requires.due.left

pub returns-then-best-stations : goal.returns-then-best-stations
returns-then-best-stations g c =
    let w = c.args.wanted in
    ranked_found w.kind c.args.inst.now w.least w.most c.args.stations c.args.cycle c.args.plan.now c.args.search
    c.requires.some c.requires.few c.requires.plan.limit c.requires.due c.in_ok-better.better
    c.in_ok-better.ensures

pub sought-requires-clause-cycle : goal.sought-requires-clause-cycle
sought-requires-clause-cycle g c κs within =
    let w = c.args.wanted in
    left_cycle w.kind c.args.inst.now w.least w.most c.args.stations c.args.cycle c.args.search
    c.requires.due.going.lowering c.requires.due.left

pub sought-requires-clause-room : goal.sought-requires-clause-room
sought-requires-clause-room g c κs within =
    let w = c.args.wanted in
    few_before w.kind c.args.inst.now w.least w.most c.args.stations c.args.cycle c.args.plan.now c.args.search
    c.requires.some c.requires.few c.requires.due

pub taken-requires-in-Some-clause-right : goal.taken-requires-in-Some-clause-right
taken-requires-in-Some-clause-right g c =
    let w = c.args.wanted in
    (sought_right w.kind c.args.inst.now w.least w.most c.args.stations c.args.cycle c.args.plan.now c.args.search
    c.requires.some c.requires.few c.requires.plan.limit c.requires.due c.in_ok-search.search
    c.in_ok-search.balance c.in_ok-search.ensures c.in-Some.balance c.in-Some.is).0

pub taken-requires-in-Some-clause-fits : goal.taken-requires-in-Some-clause-fits
taken-requires-in-Some-clause-fits g c =
    let w = c.args.wanted in
    (sought_right w.kind c.args.inst.now w.least w.most c.args.stations c.args.cycle c.args.plan.now c.args.search
    c.requires.some c.requires.few c.requires.plan.limit c.requires.due c.in_ok-search.search
    c.in_ok-search.balance c.in_ok-search.ensures c.in-Some.balance c.in-Some.is).1

pub returns-in-Some : goal.returns-in-Some
returns-in-Some g c =
    let w = c.args.wanted in
    sought_found w.kind c.args.inst.now w.least w.most c.args.stations c.args.cycle c.args.plan.now c.args.search
    c.requires.some c.requires.few c.requires.plan.limit c.requires.due c.in_ok-search.search
    c.in_ok-search.balance c.in_ok-search.ensures c.in_ok-better-2.better c.in_ok-better-2.ensures

pub ask-requires-clause-cycle : goal.ask-requires-clause-cycle
ask-requires-clause-cycle g c κs within =
    let w = c.args.wanted in
    sought_range w.kind c.args.inst.now w.least w.most c.args.stations c.args.cycle c.args.plan.now c.args.search
    c.requires.some c.requires.few c.requires.plan.limit c.requires.due c.in_ok-search.search
    c.in_ok-search.balance c.in_ok-search.ensures

pub ask-requires-clause-small : goal.ask-requires-clause-small
ask-requires-clause-small g c κs within =
    let w = c.args.wanted in
    (sought_lowering w.kind c.args.inst.now w.least w.most c.args.stations c.args.cycle c.args.plan.now c.args.search
    c.requires.some c.requires.few c.requires.plan.limit c.requires.due c.in_ok-search.search
    c.in_ok-search.balance c.in_ok-search.ensures).within

pub ask-requires-clause-room : goal.ask-requires-clause-room
ask-requires-clause-room g c κs within =
    let w = c.args.wanted in
    (sought_lowering w.kind c.args.inst.now w.least w.most c.args.stations c.args.cycle c.args.plan.now c.args.search
    c.requires.some c.requires.few c.requires.plan.limit c.requires.due c.in_ok-search.search
    c.in_ok-search.balance c.in_ok-search.ensures).few

pub returns-then-not-ends_with_all : goal.returns-then-not-ends_with_all
returns-then-not-ends_with_all g c =
    let w = c.args.wanted in
    left_as w.kind c.args.inst.now w.least w.most c.args.stations c.args.cycle c.args.plan.now c.args.search
    c.requires.some c.requires.few c.requires.plan.limit c.requires.due c.in_ok-search.search
    c.in_ok-search.balance c.in_ok-search.ensures c.in_ok-search-2.search c.in_ok-search-2.verdict
    c.in_ok-search-2.ensures

pub returns-then-has_all_from : goal.returns-then-has_all_from
returns-then-has_all_from g c =
    let w = c.args.wanted in
    left_as w.kind c.args.inst.now w.least w.most c.args.stations c.args.cycle c.args.plan.now c.args.search
    c.requires.some c.requires.few c.requires.plan.limit c.requires.due c.in_ok-search.search
    c.in_ok-search.balance c.in_ok-search.ensures c.in_ok-search-2.search c.in_ok-search-2.verdict
    c.in_ok-search-2.ensures

pub returns : goal.returns
returns g c =
    let w = c.args.wanted in
    left_as w.kind c.args.inst.now w.least w.most c.args.stations c.args.cycle c.args.plan.now c.args.search
    c.requires.some c.requires.few c.requires.plan.limit c.requires.due c.in_ok-search.search
    c.in_ok-search.balance c.in_ok-search.ensures c.in_ok-search-2.search c.in_ok-search-2.verdict
    c.in_ok-search-2.ensures

pub returns-in-Refuted : goal.returns-in-Refuted
returns-in-Refuted g c =
    let w = c.args.wanted in
    let E : List Entry → Type 0 = λ z. EndsWith z (all_tasks c.args.inst.now) in
    refuted_going w.kind c.args.inst.now w.least w.most c.args.stations c.args.cycle c.args.plan.now c.args.search
    c.requires.some c.requires.few c.requires.plan.limit c.requires.due c.in_ok-search.search
    c.in_ok-search.balance c.in_ok-search.ensures c.in_ok-search-2.search c.in_ok-search-2.verdict
    c.in_ok-search-2.ensures c.in-Refuted.is
    (subst E c.entries.ensures.entries (c.ends_with_all.ensures c.if-not-ends_with_all.false))

pub returns-in-Found : goal.returns-in-Found
returns-in-Found g c =
    let w = c.args.wanted in
    let N : Verdict → Type 0 = λ z. may_bound z ≤ 0 in
    found_after w.kind c.args.inst.now w.least w.most c.args.stations c.args.cycle c.args.plan.now c.args.search
    c.requires.some c.requires.few c.requires.plan.limit c.requires.due c.in_ok-search.search
    c.in_ok-search.balance c.in_ok-search.ensures c.in_ok-search-2.search c.in_ok-search-2.verdict
    c.in_ok-search-2.ensures (subst N (sym c.in-Found.is) (omega arith)) _ c.in_ok-found-in-Found.ensures

pub returns-in-Spent : goal.returns-in-Spent
returns-in-Spent g c =
    let w = c.args.wanted in
    spent_stuck w.kind c.args.inst.now w.least w.most c.args.stations c.args.cycle c.args.plan.now c.args.search
    c.requires.some c.requires.few c.requires.plan.limit c.requires.due c.in_ok-search.search
    c.in_ok-search.balance c.in_ok-search.ensures c.in_ok-search-2.search c.in_ok-search-2.verdict
    c.in_ok-search-2.ensures c.in-Spent.frames c.in-Spent.is
    (λ k e from there same.
    let G : List Entry → Type 0 = λ z. slice_get z k ≡ Some e in
    c.has_all_from.ensures c.if-has_all_from.false k e (omega (arith, from, c.len-from.ensures.len))
    (subst G (sym c.entries-in-Spent.ensures.entries) there) same)
    _ c.len-from.ensures.len
    (omega (arith, c.if-best-stations.false, c.in_ok-best.ensures.few))
