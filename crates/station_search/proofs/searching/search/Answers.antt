use Rattle.std.proofs.Common.{◌+◌, ◌-◌, Bool, Option, IfSome, List, [], ◌∷◌, length, refl, sym, ap, ◌∙◌, subst, arith}
use Rattle.std.proofs.Common.{length-append}
use Rattle.line_instance.specs.Line.{Line, IsTaskSet}
use Rattle.line_rules.specs.Loads.{rest}
use Rattle.line_rules.specs.Entries.{Follows}
use Rattle.line_rules.specs.declared.types.LineKind.{LineKind}
use Rattle.line_rules.specs.declared.types.OpenFrame.{OpenFrame}
use Rattle.lemma_core.specs.Desks.{entries}
use Rattle.lemma_core.proofs.HistoryGrows.{keeps_none, keeps_both}
use Rattle.pair_search.specs.Sharing.{Sharing}
use Rattle.station_search.specs.Decide.{IsFor, IsPairing}
use Rattle.station_search.specs.inner.Work.{branch_of, with_last, with_cites, Accounts}
use Rattle.station_search.specs.inner.Steps.{IsReady, ListsOn, stands_with, with_mark}
use Rattle.station_search.specs.declared.standing.Standing.{Standing}
use Rattle.station_search.specs.declared.standing.Listed.{Listed}
use Rattle.station_search.proofs.Events.{for_still}
use Rattle.station_search.proofs.PaidSteps.{does_few}
use Rattle.station_search.proofs.States.{rest_tasks, follows}
use Rattle.station_search.proofs.Tallies.{tally_ends, idle}
use Rattle.station_search.proofs.Endings.{on_err}
use Rattle.station_search.proofs.LoopTurns.{first, grown, first_tally, stations_few, gives_up, refuted, answers_asked}
use Rattle.station_search.proofs.StepTurns.{ended, ready_with, up_ready, up_beside, searching_on}
use Rattle.station_search.proofs.StepTurns.{tally_on, found_at, searching_down, tally_down_at, searching_up, tally_up_at}
use Rattle.station_search.proofs.StepTurns.{stops_at, stopped_at, used_still, at_least, no_more, ends_waiting}
use Rattle.station_search.proofs.StepTurns.{ends_refuted}
use Rattle.station_search.proofs.LightLoads.{searching_past, tally_past, past_none, past_one, past_some, past_more}
use Rattle.station_search.proofs.searching.search.Goals as goal

pub search-init : goal.search-init
search-init g c =
    let b = c.in_ok-standing.ensures.begun in
    record {
      keeps = keeps_none (g.D.Desk.desk c.args.desk.now);
      pairs = c.begin_standing.ensures.pairs;
      units = refl;
      spent = no_more c.args.units.now.used;
      searching = first c.args.mode c.args.kind c.args.inst.now c.tasks-tasks.ensures.ranked c.args.cycle c.args.set.now c.args.most (entries (g.D.Desk.desk c.args.desk.now)) c.in_ok-standing.standing.passed.items
          c.in_ok-standing.standing.frame b.none b.fresh.set b.fresh.most b.fresh.mode b.fresh.belongs b.fresh.last
          b.fresh.cites c.requires.some c.requires.set c.requires.bound;
      beside = b.beside;
      ready = b.ready;
      tally = first_tally c.args.mode c.args.kind c.args.inst.now c.tasks-tasks.ensures.ranked c.args.cycle c.args.set.now c.args.most (g.D.Desk.desk c.args.desk.now) c.in_ok-standing.standing.passed.items c.in_ok-standing.standing.frame
          (c.args.units.now.used - c.args.units.now.used) b.none b.fresh.set b.fresh.most b.fresh.last (omega arith)
          c.requires.unanswered;
    }

pub returns-in_err-standing-clause-accounts : goal.returns-in_err-standing-clause-accounts
returns-in_err-standing-clause-accounts g c =
    on_err c.from_residual.result (Accounts c.args.mode c.args.kind c.args.inst.now c.args.cycle (g.D.Desk.desk c.args.desk.now) (g.D.Desk.desk c.args.desk.now) [] (c.args.units.now.used - c.args.units.now.used) (c.args.units.now.used - c.args.units.now.used))
    (idle c.args.mode c.args.kind c.args.inst.now c.args.cycle (g.D.Desk.desk c.args.desk.now) (c.args.units.now.used - c.args.units.now.used) (c.args.units.now.used - c.args.units.now.used))

pub returns-in_err-standing-clause-keeps : goal.returns-in_err-standing-clause-keeps
returns-in_err-standing-clause-keeps g c =
    keeps_none (g.D.Desk.desk c.args.desk.now)

pub list_load-requires-clause-desk : goal.list_load-requires-clause-desk
list_load-requires-clause-desk g c =
    for_still (g.D.Desk.desk c.args.desk.now) (g.D.Desk.desk c.search.desk) c.args.inst.now c.args.kind c.args.cycle c.requires.desk c.search.invariant.keeps

pub list_load-requires-clause-set : goal.list_load-requires-clause-set
list_load-requires-clause-set g c =
    c.search.invariant.searching.tasks

pub list_load-requires-clause-some : goal.list_load-requires-clause-some
list_load-requires-clause-some g c =
    c.search.invariant.searching.stations

pub list_load-requires-clause-few : goal.list_load-requires-clause-few
list_load-requires-clause-few g c =
    stations_few c.args.mode c.args.kind c.args.inst.now c.tasks-tasks.ensures.ranked c.args.cycle c.args.set.now c.args.most (entries (g.D.Desk.desk c.search.desk)) c.search.standing.passed.items c.search.standing.frame
    c.search.invariant.searching c.requires.few

pub list_load-requires-clause-pairs : goal.list_load-requires-clause-pairs
list_load-requires-clause-pairs g c =
    let P : Option Sharing → Type 0 = λ z. IfSome z (IsPairing c.args.inst.now c.args.kind c.args.cycle) in
    subst P (sym c.search.invariant.pairs) c.requires.pairs

pub returns-in_err-list_load-clause-keeps : goal.returns-in_err-list_load-clause-keeps
returns-in_err-list_load-clause-keeps g c =
    keeps_both (g.D.Desk.desk c.args.desk.now) (g.D.Desk.desk c.search.desk) (g.D.Desk.desk c.list_load.new.desk) c.search.invariant.keeps c.list_load.ensures.keeps

pub returns-in_err-list_load-clause-accounts : goal.returns-in_err-list_load-clause-accounts
returns-in_err-list_load-clause-accounts g c =
    on_err c.from_residual-in_err-list_load.result (Accounts c.args.mode c.args.kind c.args.inst.now c.args.cycle (g.D.Desk.desk c.args.desk.now) (g.D.Desk.desk c.list_load.new.desk) [] (c.list_load.new.units.used - c.args.units.now.used) (c.list_load.new.units.used - c.args.units.now.used))
    (gives_up c.args.mode c.args.kind c.args.inst.now c.tasks-tasks.ensures.ranked c.args.cycle c.args.set.now c.args.most (g.D.Desk.desk c.args.desk.now) (g.D.Desk.desk c.search.desk) (g.D.Desk.desk c.list_load.new.desk) c.search.standing.passed.items
    c.search.standing.frame (c.search.units.used - c.args.units.now.used) c.search.invariant.keeps c.list_load.ensures.keeps c.search.invariant.tally 1
    (c.list_load.new.units.used - c.args.units.now.used) (c.in_err-list_load.ensures.fails c.args.mode) (no_more 1)
    (past_more c.list_load.new.units.used c.search.units.used c.args.units.now.used
    c.in_err-list_load.ensures.fails_used c.search.invariant.spent))

pub publish_branch-requires-clause-follows : goal.publish_branch-requires-clause-follows
publish_branch-requires-clause-follows g c =
    let S : Listed → Type 0 = λ z. ListsOn c.args.kind c.args.inst.now c.args.cycle (g.D.Desk.desk c.search.desk).alone (g.D.Desk.desk c.search.desk) (g.D.Desk.desk c.list_load.new.desk)
    c.search.standing c.list_load.new.standing c.search.units.used c.list_load.new.units.used
    c.list_load.new.units.left z in
    let on = subst S c.in-Ended.is c.in_ok-list_load.ensures.lists in
    let n = on.lists in
    let u = stands_with c.search.standing (with_mark c.search.standing.frame on.last) on.listing in
    let searching = searching_past c.args.mode c.args.kind c.args.inst.now c.tasks-tasks.ensures.ranked c.args.cycle c.args.set.now c.args.most (g.D.Desk.desk c.args.desk.now) (g.D.Desk.desk c.search.desk) c.search.standing.passed.items c.search.standing.frame
    c.search.invariant.searching on.last on.light on.skips in
    let tally = tally_past c.args.mode c.args.kind c.args.inst.now c.tasks-tasks.ensures.ranked c.args.cycle c.args.set.now c.args.most (g.D.Desk.desk c.args.desk.now) (g.D.Desk.desk c.search.desk) c.search.standing.passed.items c.search.standing.frame
    c.search.invariant.searching (c.search.units.used - c.args.units.now.used) (c.search.units.used - c.args.units.now.used + on.light)
    c.search.invariant.keeps c.search.invariant.tally on.last on.light on.skips refl in
    let e = ended c.args.mode c.args.kind c.args.inst.now c.args.cycle c.args.set.now c.args.most (g.D.Desk.desk c.args.desk.now) (g.D.Desk.desk c.search.desk) (g.D.Desk.desk c.list_load.new.desk) u
    c.list_load.new.standing (c.search.units.used - c.args.units.now.used + on.light) (c.list_load.new.units.used - c.args.units.now.used)
    (past_none c.list_load.new.units.used c.search.units.used on.light 0 c.args.units.now.used
    on.cost refl c.search.invariant.spent) n searching
    tally in
    let f : IsFor (g.D.Desk.desk c.list_load.new.desk) c.args.inst.now c.args.kind c.args.cycle = for_still (g.D.Desk.desk c.args.desk.now) (g.D.Desk.desk c.list_load.new.desk) c.args.inst.now c.args.kind
    c.args.cycle c.requires.desk (keeps_both (g.D.Desk.desk c.args.desk.now) (g.D.Desk.desk c.search.desk) (g.D.Desk.desk c.list_load.new.desk) c.search.invariant.keeps c.list_load.ensures.keeps) in
    let P : LineKind → Type 0 = λ z. Follows z (g.D.Desk.desk c.list_load.new.desk).about.line (entries (g.D.Desk.desk c.list_load.new.desk))
    (branch_of c.args.cycle c.list_load.new.standing.frame) in
    let Q : Line → Type 0 = λ z. Follows c.args.kind z (entries (g.D.Desk.desk c.list_load.new.desk))
    (branch_of c.args.cycle c.list_load.new.standing.frame) in
    subst P (sym f.same_kind) (subst Q (sym f.same_line) (follows c.args.mode c.args.kind c.args.inst.now c.tasks-tasks.ensures.ranked c.args.cycle c.args.set.now c.args.most (entries (g.D.Desk.desk c.list_load.new.desk))
    c.list_load.new.standing.passed.items c.list_load.new.standing.frame e.now c.requires.cycle.some e.none))

pub publish_branch-requires-clause-range : goal.publish_branch-requires-clause-range
publish_branch-requires-clause-range g c =
    let S : Listed → Type 0 = λ z. ListsOn c.args.kind c.args.inst.now c.args.cycle (g.D.Desk.desk c.search.desk).alone (g.D.Desk.desk c.search.desk) (g.D.Desk.desk c.list_load.new.desk)
    c.search.standing c.list_load.new.standing c.search.units.used c.list_load.new.units.used
    c.list_load.new.units.left z in
    let on = subst S c.in-Ended.is c.in_ok-list_load.ensures.lists in
    let n = on.lists in
    let u = stands_with c.search.standing (with_mark c.search.standing.frame on.last) on.listing in
    let searching = searching_past c.args.mode c.args.kind c.args.inst.now c.tasks-tasks.ensures.ranked c.args.cycle c.args.set.now c.args.most (g.D.Desk.desk c.args.desk.now) (g.D.Desk.desk c.search.desk) c.search.standing.passed.items c.search.standing.frame
    c.search.invariant.searching on.last on.light on.skips in
    let tally = tally_past c.args.mode c.args.kind c.args.inst.now c.tasks-tasks.ensures.ranked c.args.cycle c.args.set.now c.args.most (g.D.Desk.desk c.args.desk.now) (g.D.Desk.desk c.search.desk) c.search.standing.passed.items c.search.standing.frame
    c.search.invariant.searching (c.search.units.used - c.args.units.now.used) (c.search.units.used - c.args.units.now.used + on.light)
    c.search.invariant.keeps c.search.invariant.tally on.last on.light on.skips refl in
    let e = ended c.args.mode c.args.kind c.args.inst.now c.args.cycle c.args.set.now c.args.most (g.D.Desk.desk c.args.desk.now) (g.D.Desk.desk c.search.desk) (g.D.Desk.desk c.list_load.new.desk) u
    c.list_load.new.standing (c.search.units.used - c.args.units.now.used + on.light) (c.list_load.new.units.used - c.args.units.now.used)
    (past_none c.list_load.new.units.used c.search.units.used on.light 0 c.args.units.now.used
    on.cost refl c.search.invariant.spent) n searching
    tally in
    record {
      most = stations_few c.args.mode c.args.kind c.args.inst.now c.tasks-tasks.ensures.ranked c.args.cycle c.args.set.now c.args.most (entries (g.D.Desk.desk c.list_load.new.desk)) c.list_load.new.standing.passed.items
          c.list_load.new.standing.frame e.now c.requires.few;
      cycle = c.requires.cycle;
    }

pub returns-in_err-id-in-Ended-clause-keeps : goal.returns-in_err-id-in-Ended-clause-keeps
returns-in_err-id-in-Ended-clause-keeps g c =
    keeps_both (g.D.Desk.desk c.args.desk.now) (g.D.Desk.desk c.list_load.new.desk) (g.D.Desk.desk c.publish_branch.new.desk) (keeps_both (g.D.Desk.desk c.args.desk.now) (g.D.Desk.desk c.search.desk) (g.D.Desk.desk c.list_load.new.desk) c.search.invariant.keeps c.list_load.ensures.keeps) c.publish_branch.ensures.keeps

pub returns-in_err-id-in-Ended-clause-accounts : goal.returns-in_err-id-in-Ended-clause-accounts
returns-in_err-id-in-Ended-clause-accounts g c =
    let S : Listed → Type 0 = λ z. ListsOn c.args.kind c.args.inst.now c.args.cycle (g.D.Desk.desk c.search.desk).alone (g.D.Desk.desk c.search.desk) (g.D.Desk.desk c.list_load.new.desk)
    c.search.standing c.list_load.new.standing c.search.units.used c.list_load.new.units.used
    c.list_load.new.units.left z in
    let on = subst S c.in-Ended.is c.in_ok-list_load.ensures.lists in
    let n = on.lists in
    let u = stands_with c.search.standing (with_mark c.search.standing.frame on.last) on.listing in
    let searching = searching_past c.args.mode c.args.kind c.args.inst.now c.tasks-tasks.ensures.ranked c.args.cycle c.args.set.now c.args.most (g.D.Desk.desk c.args.desk.now) (g.D.Desk.desk c.search.desk) c.search.standing.passed.items c.search.standing.frame
    c.search.invariant.searching on.last on.light on.skips in
    let tally = tally_past c.args.mode c.args.kind c.args.inst.now c.tasks-tasks.ensures.ranked c.args.cycle c.args.set.now c.args.most (g.D.Desk.desk c.args.desk.now) (g.D.Desk.desk c.search.desk) c.search.standing.passed.items c.search.standing.frame
    c.search.invariant.searching (c.search.units.used - c.args.units.now.used) (c.search.units.used - c.args.units.now.used + on.light)
    c.search.invariant.keeps c.search.invariant.tally on.last on.light on.skips refl in
    let e = ended c.args.mode c.args.kind c.args.inst.now c.args.cycle c.args.set.now c.args.most (g.D.Desk.desk c.args.desk.now) (g.D.Desk.desk c.search.desk) (g.D.Desk.desk c.list_load.new.desk) u
    c.list_load.new.standing (c.search.units.used - c.args.units.now.used + on.light) (c.list_load.new.units.used - c.args.units.now.used)
    (past_none c.list_load.new.units.used c.search.units.used on.light 0 c.args.units.now.used
    on.cost refl c.search.invariant.spent) n searching
    tally in
    on_err c.from_residual-in_err-id-in-Ended.result (Accounts c.args.mode c.args.kind c.args.inst.now c.args.cycle (g.D.Desk.desk c.args.desk.now) (g.D.Desk.desk c.publish_branch.new.desk) [] (c.list_load.new.units.used - c.args.units.now.used) (c.list_load.new.units.used - c.args.units.now.used))
    (ends_waiting c.args.mode c.args.kind c.args.inst.now c.tasks-tasks.ensures.ranked c.args.cycle (g.D.Desk.desk c.args.desk.now) (g.D.Desk.desk c.list_load.new.desk) (g.D.Desk.desk c.publish_branch.new.desk) c.list_load.new.standing.passed.items
    c.list_load.new.standing.frame (c.list_load.new.units.used - c.args.units.now.used) (keeps_both (g.D.Desk.desk c.args.desk.now) (g.D.Desk.desk c.search.desk) (g.D.Desk.desk c.list_load.new.desk) c.search.invariant.keeps c.list_load.ensures.keeps) c.publish_branch.ensures.keeps e.tally c.in_err-id-in-Ended.ensures.waits)

pub go_up-requires : goal.go_up-requires
go_up-requires g c =
    let S : Listed → Type 0 = λ z. ListsOn c.args.kind c.args.inst.now c.args.cycle (g.D.Desk.desk c.search.desk).alone (g.D.Desk.desk c.search.desk) (g.D.Desk.desk c.list_load.new.desk)
    c.search.standing c.list_load.new.standing c.search.units.used c.list_load.new.units.used
    c.list_load.new.units.left z in
    let on = subst S c.in-Ended.is c.in_ok-list_load.ensures.lists in
    let n = on.lists in
    let u = stands_with c.search.standing (with_mark c.search.standing.frame on.last) on.listing in
    let ready : IsReady c.args.inst.now c.args.cycle u = record { room = c.search.invariant.ready.room; paired = c.search.invariant.ready.paired } in
    let r = ready_with c.args.inst.now c.args.cycle u c.list_load.new.standing u.frame
    c.list_load.new.standing.listing n.0.stays ready in
    record { ready = sym r.paired.as_many }

pub returns-in_err-up-in-Ended-clause-keeps : goal.returns-in_err-up-in-Ended-clause-keeps
returns-in_err-up-in-Ended-clause-keeps g c =
    keeps_both (g.D.Desk.desk c.args.desk.now) (g.D.Desk.desk c.list_load.new.desk) (g.D.Desk.desk c.publish_branch.new.desk) (keeps_both (g.D.Desk.desk c.args.desk.now) (g.D.Desk.desk c.search.desk) (g.D.Desk.desk c.list_load.new.desk) c.search.invariant.keeps c.list_load.ensures.keeps) c.publish_branch.ensures.keeps

pub returns-in_err-up-in-Ended-clause-accounts : goal.returns-in_err-up-in-Ended-clause-accounts
returns-in_err-up-in-Ended-clause-accounts g c =
    let S : Listed → Type 0 = λ z. ListsOn c.args.kind c.args.inst.now c.args.cycle (g.D.Desk.desk c.search.desk).alone (g.D.Desk.desk c.search.desk) (g.D.Desk.desk c.list_load.new.desk)
    c.search.standing c.list_load.new.standing c.search.units.used c.list_load.new.units.used
    c.list_load.new.units.left z in
    let on = subst S c.in-Ended.is c.in_ok-list_load.ensures.lists in
    let n = on.lists in
    let u = stands_with c.search.standing (with_mark c.search.standing.frame on.last) on.listing in
    let searching = searching_past c.args.mode c.args.kind c.args.inst.now c.tasks-tasks.ensures.ranked c.args.cycle c.args.set.now c.args.most (g.D.Desk.desk c.args.desk.now) (g.D.Desk.desk c.search.desk) c.search.standing.passed.items c.search.standing.frame
    c.search.invariant.searching on.last on.light on.skips in
    let tally = tally_past c.args.mode c.args.kind c.args.inst.now c.tasks-tasks.ensures.ranked c.args.cycle c.args.set.now c.args.most (g.D.Desk.desk c.args.desk.now) (g.D.Desk.desk c.search.desk) c.search.standing.passed.items c.search.standing.frame
    c.search.invariant.searching (c.search.units.used - c.args.units.now.used) (c.search.units.used - c.args.units.now.used + on.light)
    c.search.invariant.keeps c.search.invariant.tally on.last on.light on.skips refl in
    let e = ended c.args.mode c.args.kind c.args.inst.now c.args.cycle c.args.set.now c.args.most (g.D.Desk.desk c.args.desk.now) (g.D.Desk.desk c.search.desk) (g.D.Desk.desk c.list_load.new.desk) u
    c.list_load.new.standing (c.search.units.used - c.args.units.now.used + on.light) (c.list_load.new.units.used - c.args.units.now.used)
    (past_none c.list_load.new.units.used c.search.units.used on.light 0 c.args.units.now.used
    on.cost refl c.search.invariant.spent) n searching
    tally in
    on_err c.from_residual-in_err-up-in-Ended.result (Accounts c.args.mode c.args.kind c.args.inst.now c.args.cycle (g.D.Desk.desk c.args.desk.now) (g.D.Desk.desk c.publish_branch.new.desk) [] (c.list_load.new.units.used - c.args.units.now.used) (c.list_load.new.units.used - c.args.units.now.used))
    (ends_refuted c.args.mode c.args.kind c.args.inst.now c.tasks-tasks.ensures.ranked c.args.cycle (g.D.Desk.desk c.args.desk.now) (g.D.Desk.desk c.list_load.new.desk) (g.D.Desk.desk c.publish_branch.new.desk) c.list_load.new.standing.passed.items
    c.list_load.new.standing.frame (c.list_load.new.units.used - c.args.units.now.used) (keeps_both (g.D.Desk.desk c.args.desk.now) (g.D.Desk.desk c.search.desk) (g.D.Desk.desk c.list_load.new.desk) c.search.invariant.keeps c.list_load.ensures.keeps) c.publish_branch.ensures.keeps e.tally (refuted c.args.mode c.args.kind c.args.inst.now c.tasks-tasks.ensures.ranked c.args.cycle c.args.set.now c.args.most (g.D.Desk.desk c.args.desk.now) (g.D.Desk.desk c.list_load.new.desk) (g.D.Desk.desk c.publish_branch.new.desk) c.list_load.new.standing.passed.items
    c.list_load.new.standing.frame (c.list_load.new.units.used - c.args.units.now.used) (keeps_both (g.D.Desk.desk c.args.desk.now) (g.D.Desk.desk c.search.desk) (g.D.Desk.desk c.list_load.new.desk) c.search.invariant.keeps c.list_load.ensures.keeps) c.publish_branch.ensures.keeps e.tally (entries (g.D.Desk.desk c.list_load.new.desk)) e.now
    e.none c.in_ok-id-in-Ended.ensures.publishes) c.in_err-up-in-Ended.ensures.fails)

pub returns-then-not-up-clause-keeps : goal.returns-then-not-up-clause-keeps
returns-then-not-up-clause-keeps g c =
    keeps_both (g.D.Desk.desk c.args.desk.now) (g.D.Desk.desk c.list_load.new.desk) (g.D.Desk.desk c.publish_branch.new.desk) (keeps_both (g.D.Desk.desk c.args.desk.now) (g.D.Desk.desk c.search.desk) (g.D.Desk.desk c.list_load.new.desk) c.search.invariant.keeps c.list_load.ensures.keeps) c.publish_branch.ensures.keeps

pub returns-then-not-up-clause-decides : goal.returns-then-not-up-clause-decides
returns-then-not-up-clause-decides g c =
    let S : Listed → Type 0 = λ z. ListsOn c.args.kind c.args.inst.now c.args.cycle (g.D.Desk.desk c.search.desk).alone (g.D.Desk.desk c.search.desk) (g.D.Desk.desk c.list_load.new.desk)
    c.search.standing c.list_load.new.standing c.search.units.used c.list_load.new.units.used
    c.list_load.new.units.left z in
    let on = subst S c.in-Ended.is c.in_ok-list_load.ensures.lists in
    let n = on.lists in
    let u = stands_with c.search.standing (with_mark c.search.standing.frame on.last) on.listing in
    let searching = searching_past c.args.mode c.args.kind c.args.inst.now c.tasks-tasks.ensures.ranked c.args.cycle c.args.set.now c.args.most (g.D.Desk.desk c.args.desk.now) (g.D.Desk.desk c.search.desk) c.search.standing.passed.items c.search.standing.frame
    c.search.invariant.searching on.last on.light on.skips in
    let tally = tally_past c.args.mode c.args.kind c.args.inst.now c.tasks-tasks.ensures.ranked c.args.cycle c.args.set.now c.args.most (g.D.Desk.desk c.args.desk.now) (g.D.Desk.desk c.search.desk) c.search.standing.passed.items c.search.standing.frame
    c.search.invariant.searching (c.search.units.used - c.args.units.now.used) (c.search.units.used - c.args.units.now.used + on.light)
    c.search.invariant.keeps c.search.invariant.tally on.last on.light on.skips refl in
    let e = ended c.args.mode c.args.kind c.args.inst.now c.args.cycle c.args.set.now c.args.most (g.D.Desk.desk c.args.desk.now) (g.D.Desk.desk c.search.desk) (g.D.Desk.desk c.list_load.new.desk) u
    c.list_load.new.standing (c.search.units.used - c.args.units.now.used + on.light) (c.list_load.new.units.used - c.args.units.now.used)
    (past_none c.list_load.new.units.used c.search.units.used on.light 0 c.args.units.now.used
    on.cost refl c.search.invariant.spent) n searching
    tally in (
      c.requires.bound,
      answers_asked c.args.mode c.args.kind c.args.inst.now c.tasks-tasks.ensures.ranked c.args.cycle c.args.set.now c.args.most (entries (g.D.Desk.desk c.list_load.new.desk)) c.list_load.new.standing.passed.items
          c.list_load.new.standing.frame e.now (entries (g.D.Desk.desk c.publish_branch.new.desk)) c.in_ok-id-in-Ended.id
          (c.in_ok-up-in-Ended.ensures.top c.if-not-up.true) c.in_ok-id-in-Ended.ensures.answered,
    )

pub returns-then-not-up-clause-ends : goal.returns-then-not-up-clause-ends
returns-then-not-up-clause-ends g c =
    let S : Listed → Type 0 = λ z. ListsOn c.args.kind c.args.inst.now c.args.cycle (g.D.Desk.desk c.search.desk).alone (g.D.Desk.desk c.search.desk) (g.D.Desk.desk c.list_load.new.desk)
    c.search.standing c.list_load.new.standing c.search.units.used c.list_load.new.units.used
    c.list_load.new.units.left z in
    let on = subst S c.in-Ended.is c.in_ok-list_load.ensures.lists in
    let n = on.lists in
    let u = stands_with c.search.standing (with_mark c.search.standing.frame on.last) on.listing in
    let searching = searching_past c.args.mode c.args.kind c.args.inst.now c.tasks-tasks.ensures.ranked c.args.cycle c.args.set.now c.args.most (g.D.Desk.desk c.args.desk.now) (g.D.Desk.desk c.search.desk) c.search.standing.passed.items c.search.standing.frame
    c.search.invariant.searching on.last on.light on.skips in
    let tally = tally_past c.args.mode c.args.kind c.args.inst.now c.tasks-tasks.ensures.ranked c.args.cycle c.args.set.now c.args.most (g.D.Desk.desk c.args.desk.now) (g.D.Desk.desk c.search.desk) c.search.standing.passed.items c.search.standing.frame
    c.search.invariant.searching (c.search.units.used - c.args.units.now.used) (c.search.units.used - c.args.units.now.used + on.light)
    c.search.invariant.keeps c.search.invariant.tally on.last on.light on.skips refl in
    let e = ended c.args.mode c.args.kind c.args.inst.now c.args.cycle c.args.set.now c.args.most (g.D.Desk.desk c.args.desk.now) (g.D.Desk.desk c.search.desk) (g.D.Desk.desk c.list_load.new.desk) u
    c.list_load.new.standing (c.search.units.used - c.args.units.now.used + on.light) (c.list_load.new.units.used - c.args.units.now.used)
    (past_none c.list_load.new.units.used c.search.units.used on.light 0 c.args.units.now.used
    on.cost refl c.search.invariant.spent) n searching
    tally in
    tally_ends c.args.mode c.args.kind c.args.inst.now c.tasks-tasks.ensures.ranked c.args.cycle (g.D.Desk.desk c.args.desk.now) (g.D.Desk.desk c.list_load.new.desk) (g.D.Desk.desk c.publish_branch.new.desk) c.list_load.new.standing.passed.items
    c.list_load.new.standing.frame (c.list_load.new.units.used - c.args.units.now.used) (keeps_both (g.D.Desk.desk c.args.desk.now) (g.D.Desk.desk c.search.desk) (g.D.Desk.desk c.list_load.new.desk) c.search.invariant.keeps c.list_load.ensures.keeps) c.publish_branch.ensures.keeps e.tally (refuted c.args.mode c.args.kind c.args.inst.now c.tasks-tasks.ensures.ranked c.args.cycle c.args.set.now c.args.most (g.D.Desk.desk c.args.desk.now) (g.D.Desk.desk c.list_load.new.desk) (g.D.Desk.desk c.publish_branch.new.desk) c.list_load.new.standing.passed.items
    c.list_load.new.standing.frame (c.list_load.new.units.used - c.args.units.now.used) (keeps_both (g.D.Desk.desk c.args.desk.now) (g.D.Desk.desk c.search.desk) (g.D.Desk.desk c.list_load.new.desk) c.search.invariant.keeps c.list_load.ensures.keeps) c.publish_branch.ensures.keeps e.tally (entries (g.D.Desk.desk c.list_load.new.desk)) e.now
    e.none c.in_ok-id-in-Ended.ensures.publishes) (c.in_ok-up-in-Ended.ensures.top c.if-not-up.true)

pub search-preserved-else-not-up : goal.search-preserved-else-not-up
search-preserved-else-not-up g c =
    let S : Listed → Type 0 = λ z. ListsOn c.args.kind c.args.inst.now c.args.cycle (g.D.Desk.desk c.search.desk).alone (g.D.Desk.desk c.search.desk) (g.D.Desk.desk c.list_load.new.desk)
    c.search.standing c.list_load.new.standing c.search.units.used c.list_load.new.units.used
    c.list_load.new.units.left z in
    let on = subst S c.in-Ended.is c.in_ok-list_load.ensures.lists in
    let n = on.lists in
    let u = stands_with c.search.standing (with_mark c.search.standing.frame on.last) on.listing in
    let searching = searching_past c.args.mode c.args.kind c.args.inst.now c.tasks-tasks.ensures.ranked c.args.cycle c.args.set.now c.args.most (g.D.Desk.desk c.args.desk.now) (g.D.Desk.desk c.search.desk) c.search.standing.passed.items c.search.standing.frame
    c.search.invariant.searching on.last on.light on.skips in
    let tally = tally_past c.args.mode c.args.kind c.args.inst.now c.tasks-tasks.ensures.ranked c.args.cycle c.args.set.now c.args.most (g.D.Desk.desk c.args.desk.now) (g.D.Desk.desk c.search.desk) c.search.standing.passed.items c.search.standing.frame
    c.search.invariant.searching (c.search.units.used - c.args.units.now.used) (c.search.units.used - c.args.units.now.used + on.light)
    c.search.invariant.keeps c.search.invariant.tally on.last on.light on.skips refl in
    let ready : IsReady c.args.inst.now c.args.cycle u = record { room = c.search.invariant.ready.room; paired = c.search.invariant.ready.paired } in
    let e = ended c.args.mode c.args.kind c.args.inst.now c.args.cycle c.args.set.now c.args.most (g.D.Desk.desk c.args.desk.now) (g.D.Desk.desk c.search.desk) (g.D.Desk.desk c.list_load.new.desk) u
    c.list_load.new.standing (c.search.units.used - c.args.units.now.used + on.light) (c.list_load.new.units.used - c.args.units.now.used)
    (past_none c.list_load.new.units.used c.search.units.used on.light 0 c.args.units.now.used
    on.cost refl c.search.invariant.spent) n searching
    tally in
    let r = ready_with c.args.inst.now c.args.cycle u c.list_load.new.standing u.frame
    c.list_load.new.standing.listing n.0.stays ready in
    let up = c.in_ok-up-in-Ended.ensures.up c.if-not-up.false in
    let w : Standing = record {
      passed = c.list_load.new.standing.passed;
      listings = c.list_load.new.standing.listings;
      frame = c.publish_branch.new.frame;
      listing = c.list_load.new.standing.listing;
    } in
    let q : IsReady c.args.inst.now c.args.cycle w = record { room = r.room; paired = r.paired } in
    record {
      keeps = keeps_both (g.D.Desk.desk c.args.desk.now) (g.D.Desk.desk c.list_load.new.desk) (g.D.Desk.desk c.publish_branch.new.desk) (keeps_both (g.D.Desk.desk c.args.desk.now) (g.D.Desk.desk c.search.desk) (g.D.Desk.desk c.list_load.new.desk) c.search.invariant.keeps c.list_load.ensures.keeps) c.publish_branch.ensures.keeps;
      pairs = c.go_up.ensures.pairs ∙ (c.list_load.ensures.pairs ∙ c.search.invariant.pairs);
      units = c.list_load.ensures.units ∙ c.search.invariant.units;
      spent = used_still c.list_load.new.units.used c.search.units.used (on.light + 0) c.args.units.now.used
          on.cost c.search.invariant.spent;
      searching = searching_up c.args.mode c.args.kind c.args.inst.now c.tasks-tasks.ensures.ranked c.args.cycle c.args.set.now c.args.most w c.go_up.new.standing c.list_load.new.standing.frame
          c.in_ok-id-in-Ended.id up (entries (g.D.Desk.desk c.publish_branch.new.desk)) c.requires.set (grown c.args.mode c.args.kind c.args.inst.now c.tasks-tasks.ensures.ranked c.args.cycle c.args.set.now c.args.most (g.D.Desk.desk c.list_load.new.desk) (g.D.Desk.desk c.publish_branch.new.desk)
          c.list_load.new.standing.passed.items c.list_load.new.standing.frame c.publish_branch.ensures.keeps e.now)
          c.in_ok-id-in-Ended.ensures.answered;
      beside = up_beside c.args.inst.now c.args.cycle c.in_ok-id-in-Ended.id w c.go_up.new.standing up q;
      ready = up_ready c.args.inst.now c.args.cycle c.in_ok-id-in-Ended.id w c.go_up.new.standing up q;
      tally = tally_up_at c.args.mode c.args.kind c.args.inst.now c.tasks-tasks.ensures.ranked c.args.cycle c.args.set.now c.args.most w c.go_up.new.standing c.list_load.new.standing.frame c.in_ok-id-in-Ended.id up
          (g.D.Desk.desk c.args.desk.now) (g.D.Desk.desk c.list_load.new.desk) (g.D.Desk.desk c.publish_branch.new.desk) (c.list_load.new.units.used - c.args.units.now.used) (keeps_both (g.D.Desk.desk c.args.desk.now) (g.D.Desk.desk c.search.desk) (g.D.Desk.desk c.list_load.new.desk) c.search.invariant.keeps c.list_load.ensures.keeps) c.publish_branch.ensures.keeps e.tally (entries (g.D.Desk.desk c.list_load.new.desk)) (refuted c.args.mode c.args.kind c.args.inst.now c.tasks-tasks.ensures.ranked c.args.cycle c.args.set.now c.args.most (g.D.Desk.desk c.args.desk.now) (g.D.Desk.desk c.list_load.new.desk) (g.D.Desk.desk c.publish_branch.new.desk) c.list_load.new.standing.passed.items
          c.list_load.new.standing.frame (c.list_load.new.units.used - c.args.units.now.used) (keeps_both (g.D.Desk.desk c.args.desk.now) (g.D.Desk.desk c.search.desk) (g.D.Desk.desk c.list_load.new.desk) c.search.invariant.keeps c.list_load.ensures.keeps) c.publish_branch.ensures.keeps e.tally (entries (g.D.Desk.desk c.list_load.new.desk)) e.now
          e.none c.in_ok-id-in-Ended.ensures.publishes) e.now.leads;
    }

pub search-smaller-else-not-up : goal.search-smaller-else-not-up
search-smaller-else-not-up g c =
    let S : Listed → Type 0 = λ z. ListsOn c.args.kind c.args.inst.now c.args.cycle (g.D.Desk.desk c.search.desk).alone (g.D.Desk.desk c.search.desk) (g.D.Desk.desk c.list_load.new.desk)
    c.search.standing c.list_load.new.standing c.search.units.used c.list_load.new.units.used
    c.list_load.new.units.left z in
    let on = subst S c.in-Ended.is c.in_ok-list_load.ensures.lists in
    let n = on.lists in
    let u = stands_with c.search.standing (with_mark c.search.standing.frame on.last) on.listing in
    let searching = searching_past c.args.mode c.args.kind c.args.inst.now c.tasks-tasks.ensures.ranked c.args.cycle c.args.set.now c.args.most (g.D.Desk.desk c.args.desk.now) (g.D.Desk.desk c.search.desk) c.search.standing.passed.items c.search.standing.frame
    c.search.invariant.searching on.last on.light on.skips in
    let tally = tally_past c.args.mode c.args.kind c.args.inst.now c.tasks-tasks.ensures.ranked c.args.cycle c.args.set.now c.args.most (g.D.Desk.desk c.args.desk.now) (g.D.Desk.desk c.search.desk) c.search.standing.passed.items c.search.standing.frame
    c.search.invariant.searching (c.search.units.used - c.args.units.now.used) (c.search.units.used - c.args.units.now.used + on.light)
    c.search.invariant.keeps c.search.invariant.tally on.last on.light on.skips refl in
    let e = ended c.args.mode c.args.kind c.args.inst.now c.args.cycle c.args.set.now c.args.most (g.D.Desk.desk c.args.desk.now) (g.D.Desk.desk c.search.desk) (g.D.Desk.desk c.list_load.new.desk) u
    c.list_load.new.standing (c.search.units.used - c.args.units.now.used + on.light) (c.list_load.new.units.used - c.args.units.now.used)
    (past_none c.list_load.new.units.used c.search.units.used on.light 0 c.args.units.now.used
    on.cost refl c.search.invariant.spent) n searching
    tally in
    let up = c.in_ok-up-in-Ended.ensures.up c.if-not-up.false in
    omega (
      arith,
      on.cost,
      c.list_load.ensures.units,
      ap (λ (z : Standing). length z.passed.items) n.0.stays,
      ap (λ (z : List OpenFrame). length z) up.passed,
      length-append c.go_up.new.standing.passed.items (up.parent ∷ []),
    )

pub search-smaller-in-Passed : goal.search-smaller-in-Passed
search-smaller-in-Passed g c =
    let S : Listed → Type 0 = λ z. ListsOn c.args.kind c.args.inst.now c.args.cycle (g.D.Desk.desk c.search.desk).alone (g.D.Desk.desk c.search.desk) (g.D.Desk.desk c.list_load.new.desk)
    c.search.standing c.list_load.new.standing c.search.units.used c.list_load.new.units.used
    c.list_load.new.units.left z in
    let on = subst S c.in-Passed.is c.in_ok-list_load.ensures.lists in
    let n = on.lists in
    omega (
      arith,
      on.cost,
      c.list_load.ensures.units,
      ap (λ (z : Standing). length z.passed.items) n.stands,
    )

pub search-smaller : goal.search-smaller
search-smaller g c =
    let S : Listed → Type 0 = λ z. ListsOn c.args.kind c.args.inst.now c.args.cycle (g.D.Desk.desk c.search.desk).alone (g.D.Desk.desk c.search.desk) (g.D.Desk.desk c.list_load.new.desk)
    c.search.standing c.list_load.new.standing c.search.units.used c.list_load.new.units.used
    c.list_load.new.units.left z in
    let on = subst S c.in-Open.is c.in_ok-list_load.ensures.lists in
    let n = on.lists in
    omega (
      arith,
      on.cost,
      c.list_load.ensures.units,
      ap (λ (z : Standing). length z.passed.items) n.0.stands,
      ap (λ (z : List OpenFrame). length z) c.in_ok-go_down-in-Open.ensures.down.passed,
      length-append c.list_load.new.standing.passed.items (c.list_load.new.standing.frame ∷ []),
    )

pub returns-in-Spent-clause-keeps : goal.returns-in-Spent-clause-keeps
returns-in-Spent-clause-keeps g c =
    keeps_both (g.D.Desk.desk c.args.desk.now) (g.D.Desk.desk c.search.desk) (g.D.Desk.desk c.list_load.new.desk) c.search.invariant.keeps c.list_load.ensures.keeps

pub returns-in-Spent-clause-decides : goal.returns-in-Spent-clause-decides
returns-in-Spent-clause-decides g c =
    let S : Listed → Type 0 = λ z. ListsOn c.args.kind c.args.inst.now c.args.cycle (g.D.Desk.desk c.search.desk).alone (g.D.Desk.desk c.search.desk) (g.D.Desk.desk c.list_load.new.desk)
    c.search.standing c.list_load.new.standing c.search.units.used c.list_load.new.units.used
    c.list_load.new.units.left z in
    let on = subst S c.in-Spent.is c.in_ok-list_load.ensures.lists in
    let n = on.lists in
    let u = stands_with c.search.standing (with_mark c.search.standing.frame on.last) on.listing in
    let searching = searching_past c.args.mode c.args.kind c.args.inst.now c.tasks-tasks.ensures.ranked c.args.cycle c.args.set.now c.args.most (g.D.Desk.desk c.args.desk.now) (g.D.Desk.desk c.search.desk) c.search.standing.passed.items c.search.standing.frame
    c.search.invariant.searching on.last on.light on.skips in
    stops_at c.args.mode c.args.kind c.args.inst.now c.tasks-tasks.ensures.ranked c.args.cycle c.args.set.now c.args.most (g.D.Desk.desk c.search.desk) (g.D.Desk.desk c.list_load.new.desk) u c.list_load.new.standing c.trail_of.result
    c.list_load.new.units.left c.requires.bound c.trail_of.ensures n searching

pub returns-in-Spent-clause-ends : goal.returns-in-Spent-clause-ends
returns-in-Spent-clause-ends g c =
    let S : Listed → Type 0 = λ z. ListsOn c.args.kind c.args.inst.now c.args.cycle (g.D.Desk.desk c.search.desk).alone (g.D.Desk.desk c.search.desk) (g.D.Desk.desk c.list_load.new.desk)
    c.search.standing c.list_load.new.standing c.search.units.used c.list_load.new.units.used
    c.list_load.new.units.left z in
    let on = subst S c.in-Spent.is c.in_ok-list_load.ensures.lists in
    let n = on.lists in
    let u = stands_with c.search.standing (with_mark c.search.standing.frame on.last) on.listing in
    let tally = tally_past c.args.mode c.args.kind c.args.inst.now c.tasks-tasks.ensures.ranked c.args.cycle c.args.set.now c.args.most (g.D.Desk.desk c.args.desk.now) (g.D.Desk.desk c.search.desk) c.search.standing.passed.items c.search.standing.frame
    c.search.invariant.searching (c.search.units.used - c.args.units.now.used) (c.search.units.used - c.args.units.now.used + on.light)
    c.search.invariant.keeps c.search.invariant.tally on.last on.light on.skips refl in
    stopped_at c.args.mode c.args.kind c.args.inst.now c.tasks-tasks.ensures.ranked c.args.cycle (g.D.Desk.desk c.args.desk.now) (g.D.Desk.desk c.search.desk) (g.D.Desk.desk c.list_load.new.desk) u c.list_load.new.standing c.trail_of.result
    (c.search.units.used - c.args.units.now.used + on.light) (c.list_load.new.units.used - c.args.units.now.used) (past_none c.list_load.new.units.used c.search.units.used on.light 0 c.args.units.now.used
    on.cost refl c.search.invariant.spent) c.trail_of.ensures
    n.0 tally

pub search-preserved-in-Passed : goal.search-preserved-in-Passed
search-preserved-in-Passed g c =
    let S : Listed → Type 0 = λ z. ListsOn c.args.kind c.args.inst.now c.args.cycle (g.D.Desk.desk c.search.desk).alone (g.D.Desk.desk c.search.desk) (g.D.Desk.desk c.list_load.new.desk)
    c.search.standing c.list_load.new.standing c.search.units.used c.list_load.new.units.used
    c.list_load.new.units.left z in
    let on = subst S c.in-Passed.is c.in_ok-list_load.ensures.lists in
    let n = on.lists in
    let u = stands_with c.search.standing (with_mark c.search.standing.frame on.last) on.listing in
    let searching = searching_past c.args.mode c.args.kind c.args.inst.now c.tasks-tasks.ensures.ranked c.args.cycle c.args.set.now c.args.most (g.D.Desk.desk c.args.desk.now) (g.D.Desk.desk c.search.desk) c.search.standing.passed.items c.search.standing.frame
    c.search.invariant.searching on.last on.light on.skips in
    let tally = tally_past c.args.mode c.args.kind c.args.inst.now c.tasks-tasks.ensures.ranked c.args.cycle c.args.set.now c.args.most (g.D.Desk.desk c.args.desk.now) (g.D.Desk.desk c.search.desk) c.search.standing.passed.items c.search.standing.frame
    c.search.invariant.searching (c.search.units.used - c.args.units.now.used) (c.search.units.used - c.args.units.now.used + on.light)
    c.search.invariant.keeps c.search.invariant.tally on.last on.light on.skips refl in
    let ready : IsReady c.args.inst.now c.args.cycle u = record { room = c.search.invariant.ready.room; paired = c.search.invariant.ready.paired } in
    record {
      keeps = keeps_both (g.D.Desk.desk c.args.desk.now) (g.D.Desk.desk c.search.desk) (g.D.Desk.desk c.list_load.new.desk) c.search.invariant.keeps c.list_load.ensures.keeps;
      pairs = c.list_load.ensures.pairs ∙ c.search.invariant.pairs;
      units = c.list_load.ensures.units ∙ c.search.invariant.units;
      spent = used_still c.list_load.new.units.used c.search.units.used (on.light + 1) c.args.units.now.used
          on.cost c.search.invariant.spent;
      searching = searching_on c.args.mode c.args.kind c.args.inst.now c.tasks-tasks.ensures.ranked c.args.cycle c.args.set.now c.args.most (g.D.Desk.desk c.search.desk) (g.D.Desk.desk c.list_load.new.desk) u c.list_load.new.standing
          c.list_load.ensures.keeps searching n;
      beside = n.beside;
      ready = ready_with c.args.inst.now c.args.cycle u c.list_load.new.standing
          (with_cites (with_last u.frame n.load) n.cites) c.list_load.new.standing.listing n.stands
          ready;
      tally = tally_on c.args.mode c.args.kind c.args.inst.now c.tasks-tasks.ensures.ranked c.args.cycle c.args.set.now c.args.most (g.D.Desk.desk c.search.desk) (g.D.Desk.desk c.list_load.new.desk) u c.list_load.new.standing c.list_load.ensures.keeps
          searching (g.D.Desk.desk c.args.desk.now) (c.search.units.used - c.args.units.now.used + on.light) (c.list_load.new.units.used - c.args.units.now.used) c.search.invariant.keeps tally
          (past_one c.list_load.new.units.used c.search.units.used on.light 1 c.args.units.now.used
          on.cost refl c.search.invariant.spent) n;
    }

pub returns-in-Empty-clause-keeps : goal.returns-in-Empty-clause-keeps
returns-in-Empty-clause-keeps g c =
    keeps_both (g.D.Desk.desk c.args.desk.now) (g.D.Desk.desk c.search.desk) (g.D.Desk.desk c.list_load.new.desk) c.search.invariant.keeps c.list_load.ensures.keeps

pub returns-in_err-loads_in_order-in-Empty-clause-keeps : goal.returns-in_err-loads_in_order-in-Empty-clause-keeps
returns-in_err-loads_in_order-in-Empty-clause-keeps g c =
    keeps_both (g.D.Desk.desk c.args.desk.now) (g.D.Desk.desk c.search.desk) (g.D.Desk.desk c.list_load.new.desk) c.search.invariant.keeps c.list_load.ensures.keeps

pub returns-in-Empty-clause-decides : goal.returns-in-Empty-clause-decides
returns-in-Empty-clause-decides g c =
    let S : Listed → Type 0 = λ z. ListsOn c.args.kind c.args.inst.now c.args.cycle (g.D.Desk.desk c.search.desk).alone (g.D.Desk.desk c.search.desk) (g.D.Desk.desk c.list_load.new.desk)
    c.search.standing c.list_load.new.standing c.search.units.used c.list_load.new.units.used
    c.list_load.new.units.left z in
    let on = subst S c.in-Empty.is c.in_ok-list_load.ensures.lists in
    let n = on.lists in
    let u = stands_with c.search.standing (with_mark c.search.standing.frame on.last) on.listing in
    let searching = searching_past c.args.mode c.args.kind c.args.inst.now c.tasks-tasks.ensures.ranked c.args.cycle c.args.set.now c.args.most (g.D.Desk.desk c.args.desk.now) (g.D.Desk.desk c.search.desk) c.search.standing.passed.items c.search.standing.frame
    c.search.invariant.searching on.last on.light on.skips in
    found_at c.args.mode c.args.kind c.args.inst.now c.tasks-tasks.ensures.ranked c.args.cycle c.args.set.now c.args.most (g.D.Desk.desk c.search.desk) (g.D.Desk.desk c.list_load.new.desk) u c.list_load.new.standing c.list_load.ensures.keeps
    searching n.0 c.trail_of-frames.result c.in_ok-loads_in_order-in-Empty.field-0 c.requires.bound
    c.trail_of-frames.ensures c.in_ok-loads_in_order-in-Empty.ensures n.1

pub returns-in-Empty-clause-ends : goal.returns-in-Empty-clause-ends
returns-in-Empty-clause-ends g c =
    let S : Listed → Type 0 = λ z. ListsOn c.args.kind c.args.inst.now c.args.cycle (g.D.Desk.desk c.search.desk).alone (g.D.Desk.desk c.search.desk) (g.D.Desk.desk c.list_load.new.desk)
    c.search.standing c.list_load.new.standing c.search.units.used c.list_load.new.units.used
    c.list_load.new.units.left z in
    let on = subst S c.in-Empty.is c.in_ok-list_load.ensures.lists in
    let n = on.lists in
    let u = stands_with c.search.standing (with_mark c.search.standing.frame on.last) on.listing in
    let tally = tally_past c.args.mode c.args.kind c.args.inst.now c.tasks-tasks.ensures.ranked c.args.cycle c.args.set.now c.args.most (g.D.Desk.desk c.args.desk.now) (g.D.Desk.desk c.search.desk) c.search.standing.passed.items c.search.standing.frame
    c.search.invariant.searching (c.search.units.used - c.args.units.now.used) (c.search.units.used - c.args.units.now.used + on.light)
    c.search.invariant.keeps c.search.invariant.tally on.last on.light on.skips refl in
    gives_up c.args.mode c.args.kind c.args.inst.now c.tasks-tasks.ensures.ranked c.args.cycle c.args.set.now c.args.most (g.D.Desk.desk c.args.desk.now) (g.D.Desk.desk c.search.desk) (g.D.Desk.desk c.list_load.new.desk) u.passed.items
    u.frame (c.search.units.used - c.args.units.now.used + on.light) c.search.invariant.keeps c.list_load.ensures.keeps tally 0
    (c.list_load.new.units.used - c.args.units.now.used) (does_few c.args.mode c.args.kind c.args.inst.now c.args.cycle (g.D.Desk.desk c.search.desk) (g.D.Desk.desk c.list_load.new.desk) (rest u.frame.set n.0.load) 0 0
    (n.0.listed.does c.args.mode)) (at_least 1)
    (past_some c.list_load.new.units.used c.search.units.used on.light 1 c.args.units.now.used
    on.cost refl c.search.invariant.spent)

pub returns-in_err-loads_in_order-in-Empty-clause-accounts : goal.returns-in_err-loads_in_order-in-Empty-clause-accounts
returns-in_err-loads_in_order-in-Empty-clause-accounts g c =
    let S : Listed → Type 0 = λ z. ListsOn c.args.kind c.args.inst.now c.args.cycle (g.D.Desk.desk c.search.desk).alone (g.D.Desk.desk c.search.desk) (g.D.Desk.desk c.list_load.new.desk)
    c.search.standing c.list_load.new.standing c.search.units.used c.list_load.new.units.used
    c.list_load.new.units.left z in
    let on = subst S c.in-Empty.is c.in_ok-list_load.ensures.lists in
    let n = on.lists in
    let u = stands_with c.search.standing (with_mark c.search.standing.frame on.last) on.listing in
    let tally = tally_past c.args.mode c.args.kind c.args.inst.now c.tasks-tasks.ensures.ranked c.args.cycle c.args.set.now c.args.most (g.D.Desk.desk c.args.desk.now) (g.D.Desk.desk c.search.desk) c.search.standing.passed.items c.search.standing.frame
    c.search.invariant.searching (c.search.units.used - c.args.units.now.used) (c.search.units.used - c.args.units.now.used + on.light)
    c.search.invariant.keeps c.search.invariant.tally on.last on.light on.skips refl in
    on_err c.from_residual-in_err-loads_in_order-in-Empty.result (Accounts c.args.mode c.args.kind c.args.inst.now c.args.cycle (g.D.Desk.desk c.args.desk.now) (g.D.Desk.desk c.list_load.new.desk) [] (c.list_load.new.units.used - c.args.units.now.used) (c.list_load.new.units.used - c.args.units.now.used))
    (gives_up c.args.mode c.args.kind c.args.inst.now c.tasks-tasks.ensures.ranked c.args.cycle c.args.set.now c.args.most (g.D.Desk.desk c.args.desk.now) (g.D.Desk.desk c.search.desk) (g.D.Desk.desk c.list_load.new.desk) u.passed.items
    u.frame (c.search.units.used - c.args.units.now.used + on.light) c.search.invariant.keeps c.list_load.ensures.keeps tally 0
    (c.list_load.new.units.used - c.args.units.now.used) (does_few c.args.mode c.args.kind c.args.inst.now c.args.cycle (g.D.Desk.desk c.search.desk) (g.D.Desk.desk c.list_load.new.desk) (rest u.frame.set n.0.load) 0 0
    (n.0.listed.does c.args.mode)) (at_least 1)
    (past_some c.list_load.new.units.used c.search.units.used on.light 1 c.args.units.now.used
    on.cost refl c.search.invariant.spent))

pub go_down-requires-clause-set : goal.go_down-requires-clause-set
go_down-requires-clause-set g c =
    let S : Listed → Type 0 = λ z. ListsOn c.args.kind c.args.inst.now c.args.cycle (g.D.Desk.desk c.search.desk).alone (g.D.Desk.desk c.search.desk) (g.D.Desk.desk c.list_load.new.desk)
    c.search.standing c.list_load.new.standing c.search.units.used c.list_load.new.units.used
    c.list_load.new.units.left z in
    let on = subst S c.in-Open.is c.in_ok-list_load.ensures.lists in
    let n = on.lists in
    let u = stands_with c.search.standing (with_mark c.search.standing.frame on.last) on.listing in
    let searching = searching_past c.args.mode c.args.kind c.args.inst.now c.tasks-tasks.ensures.ranked c.args.cycle c.args.set.now c.args.most (g.D.Desk.desk c.args.desk.now) (g.D.Desk.desk c.search.desk) c.search.standing.passed.items c.search.standing.frame
    c.search.invariant.searching on.last on.light on.skips in
    let P : List Bool → Type 0 = λ z. IsTaskSet c.args.inst.now z in
    subst P (sym n.1.0) (rest_tasks c.args.inst.now u.frame.set n.0.load
    searching.tasks)

pub go_down-requires-clause-some : goal.go_down-requires-clause-some
go_down-requires-clause-some g c =
    let S : Listed → Type 0 = λ z. ListsOn c.args.kind c.args.inst.now c.args.cycle (g.D.Desk.desk c.search.desk).alone (g.D.Desk.desk c.search.desk) (g.D.Desk.desk c.list_load.new.desk)
    c.search.standing c.list_load.new.standing c.search.units.used c.list_load.new.units.used
    c.list_load.new.units.left z in
    let on = subst S c.in-Open.is c.in_ok-list_load.ensures.lists in
    let n = on.lists in
    let searching = searching_past c.args.mode c.args.kind c.args.inst.now c.tasks-tasks.ensures.ranked c.args.cycle c.args.set.now c.args.most (g.D.Desk.desk c.args.desk.now) (g.D.Desk.desk c.search.desk) c.search.standing.passed.items c.search.standing.frame
    c.search.invariant.searching on.last on.light on.skips in
    omega (arith, searching.stations, ap (λ (z : Standing). z.frame.most) n.0.stands)

pub go_down-requires-clause-beside : goal.go_down-requires-clause-beside
go_down-requires-clause-beside g c =
    let S : Listed → Type 0 = λ z. ListsOn c.args.kind c.args.inst.now c.args.cycle (g.D.Desk.desk c.search.desk).alone (g.D.Desk.desk c.search.desk) (g.D.Desk.desk c.list_load.new.desk)
    c.search.standing c.list_load.new.standing c.search.units.used c.list_load.new.units.used
    c.list_load.new.units.left z in
    let on = subst S c.in-Open.is c.in_ok-list_load.ensures.lists in
    let n = on.lists in
    n.0.beside

pub go_down-requires-clause-ready : goal.go_down-requires-clause-ready
go_down-requires-clause-ready g c =
    let S : Listed → Type 0 = λ z. ListsOn c.args.kind c.args.inst.now c.args.cycle (g.D.Desk.desk c.search.desk).alone (g.D.Desk.desk c.search.desk) (g.D.Desk.desk c.list_load.new.desk)
    c.search.standing c.list_load.new.standing c.search.units.used c.list_load.new.units.used
    c.list_load.new.units.left z in
    let on = subst S c.in-Open.is c.in_ok-list_load.ensures.lists in
    let n = on.lists in
    let u = stands_with c.search.standing (with_mark c.search.standing.frame on.last) on.listing in
    let ready : IsReady c.args.inst.now c.args.cycle u = record { room = c.search.invariant.ready.room; paired = c.search.invariant.ready.paired } in
    ready_with c.args.inst.now c.args.cycle u c.list_load.new.standing
    (with_last u.frame n.0.load) c.list_load.new.standing.listing n.0.stands ready

pub returns-in_err-go_down-in-Open-clause-keeps : goal.returns-in_err-go_down-in-Open-clause-keeps
returns-in_err-go_down-in-Open-clause-keeps g c =
    keeps_both (g.D.Desk.desk c.args.desk.now) (g.D.Desk.desk c.search.desk) (g.D.Desk.desk c.list_load.new.desk) c.search.invariant.keeps c.list_load.ensures.keeps

pub returns-in_err-go_down-in-Open-clause-accounts : goal.returns-in_err-go_down-in-Open-clause-accounts
returns-in_err-go_down-in-Open-clause-accounts g c =
    let S : Listed → Type 0 = λ z. ListsOn c.args.kind c.args.inst.now c.args.cycle (g.D.Desk.desk c.search.desk).alone (g.D.Desk.desk c.search.desk) (g.D.Desk.desk c.list_load.new.desk)
    c.search.standing c.list_load.new.standing c.search.units.used c.list_load.new.units.used
    c.list_load.new.units.left z in
    let on = subst S c.in-Open.is c.in_ok-list_load.ensures.lists in
    let n = on.lists in
    let u = stands_with c.search.standing (with_mark c.search.standing.frame on.last) on.listing in
    let tally = tally_past c.args.mode c.args.kind c.args.inst.now c.tasks-tasks.ensures.ranked c.args.cycle c.args.set.now c.args.most (g.D.Desk.desk c.args.desk.now) (g.D.Desk.desk c.search.desk) c.search.standing.passed.items c.search.standing.frame
    c.search.invariant.searching (c.search.units.used - c.args.units.now.used) (c.search.units.used - c.args.units.now.used + on.light)
    c.search.invariant.keeps c.search.invariant.tally on.last on.light on.skips refl in
    on_err c.from_residual-in_err-go_down-in-Open.result (Accounts c.args.mode c.args.kind c.args.inst.now c.args.cycle (g.D.Desk.desk c.args.desk.now) (g.D.Desk.desk c.list_load.new.desk) [] (c.list_load.new.units.used - c.args.units.now.used) (c.list_load.new.units.used - c.args.units.now.used))
    (gives_up c.args.mode c.args.kind c.args.inst.now c.tasks-tasks.ensures.ranked c.args.cycle c.args.set.now c.args.most (g.D.Desk.desk c.args.desk.now) (g.D.Desk.desk c.search.desk) (g.D.Desk.desk c.list_load.new.desk) u.passed.items
    u.frame (c.search.units.used - c.args.units.now.used + on.light) c.search.invariant.keeps c.list_load.ensures.keeps tally 0
    (c.list_load.new.units.used - c.args.units.now.used) (does_few c.args.mode c.args.kind c.args.inst.now c.args.cycle (g.D.Desk.desk c.search.desk) (g.D.Desk.desk c.list_load.new.desk) (rest u.frame.set n.0.load) 0 0
    (n.0.listed.does c.args.mode)) (at_least 1)
    (past_some c.list_load.new.units.used c.search.units.used on.light 1 c.args.units.now.used
    on.cost refl c.search.invariant.spent))

pub search-preserved : goal.search-preserved
search-preserved g c =
    let S : Listed → Type 0 = λ z. ListsOn c.args.kind c.args.inst.now c.args.cycle (g.D.Desk.desk c.search.desk).alone (g.D.Desk.desk c.search.desk) (g.D.Desk.desk c.list_load.new.desk)
    c.search.standing c.list_load.new.standing c.search.units.used c.list_load.new.units.used
    c.list_load.new.units.left z in
    let on = subst S c.in-Open.is c.in_ok-list_load.ensures.lists in
    let n = on.lists in
    let u = stands_with c.search.standing (with_mark c.search.standing.frame on.last) on.listing in
    let searching = searching_past c.args.mode c.args.kind c.args.inst.now c.tasks-tasks.ensures.ranked c.args.cycle c.args.set.now c.args.most (g.D.Desk.desk c.args.desk.now) (g.D.Desk.desk c.search.desk) c.search.standing.passed.items c.search.standing.frame
    c.search.invariant.searching on.last on.light on.skips in
    let tally = tally_past c.args.mode c.args.kind c.args.inst.now c.tasks-tasks.ensures.ranked c.args.cycle c.args.set.now c.args.most (g.D.Desk.desk c.args.desk.now) (g.D.Desk.desk c.search.desk) c.search.standing.passed.items c.search.standing.frame
    c.search.invariant.searching (c.search.units.used - c.args.units.now.used) (c.search.units.used - c.args.units.now.used + on.light)
    c.search.invariant.keeps c.search.invariant.tally on.last on.light on.skips refl in
    let d = c.in_ok-go_down-in-Open.ensures.down in
    record {
      keeps = keeps_both (g.D.Desk.desk c.args.desk.now) (g.D.Desk.desk c.search.desk) (g.D.Desk.desk c.list_load.new.desk) c.search.invariant.keeps c.list_load.ensures.keeps;
      pairs = c.go_down.ensures.pairs ∙ (c.list_load.ensures.pairs ∙ c.search.invariant.pairs);
      units = c.list_load.ensures.units ∙ c.search.invariant.units;
      spent = used_still c.list_load.new.units.used c.search.units.used (on.light + 1) c.args.units.now.used
          on.cost c.search.invariant.spent;
      searching = searching_down c.args.mode c.args.kind c.args.inst.now c.tasks-tasks.ensures.ranked c.args.cycle c.args.set.now c.args.most (g.D.Desk.desk c.search.desk) (g.D.Desk.desk c.list_load.new.desk) u c.list_load.new.standing
          c.list_load.ensures.keeps searching n.0 c.in-Open.rest c.go_down.new.standing d n.1.0 n.1.1;
      beside = d.beside;
      ready = d.ready;
      tally = tally_down_at c.args.mode c.args.kind c.args.inst.now c.tasks-tasks.ensures.ranked c.args.cycle c.args.set.now c.args.most (g.D.Desk.desk c.search.desk) (g.D.Desk.desk c.list_load.new.desk) u c.list_load.new.standing
          c.list_load.ensures.keeps searching n.0 c.in-Open.rest c.go_down.new.standing d (g.D.Desk.desk c.args.desk.now) (c.search.units.used - c.args.units.now.used + on.light)
          (c.list_load.new.units.used - c.args.units.now.used) c.search.invariant.keeps tally
          (past_one c.list_load.new.units.used c.search.units.used on.light 1 c.args.units.now.used
          on.cost refl c.search.invariant.spent) n.1.2;
    }

pub returns-in_err-standing-clause-pairs : goal.returns-in_err-standing-clause-pairs
returns-in_err-standing-clause-pairs g c =
    c.begin_standing.ensures.pairs

pub returns-in_err-standing-clause-units : goal.returns-in_err-standing-clause-units
returns-in_err-standing-clause-units g c =
    refl

pub returns-in_err-list_load-clause-pairs : goal.returns-in_err-list_load-clause-pairs
returns-in_err-list_load-clause-pairs g c =
    c.list_load.ensures.pairs ∙ c.search.invariant.pairs

pub returns-in_err-list_load-clause-units : goal.returns-in_err-list_load-clause-units
returns-in_err-list_load-clause-units g c =
    c.list_load.ensures.units ∙ c.search.invariant.units

pub returns-in_err-id-in-Ended-clause-pairs : goal.returns-in_err-id-in-Ended-clause-pairs
returns-in_err-id-in-Ended-clause-pairs g c =
    c.list_load.ensures.pairs ∙ c.search.invariant.pairs

pub returns-in_err-id-in-Ended-clause-units : goal.returns-in_err-id-in-Ended-clause-units
returns-in_err-id-in-Ended-clause-units g c =
    c.list_load.ensures.units ∙ c.search.invariant.units

pub returns-in-Spent-clause-pairs : goal.returns-in-Spent-clause-pairs
returns-in-Spent-clause-pairs g c =
    c.list_load.ensures.pairs ∙ c.search.invariant.pairs

pub returns-in-Spent-clause-units : goal.returns-in-Spent-clause-units
returns-in-Spent-clause-units g c =
    c.list_load.ensures.units ∙ c.search.invariant.units

pub returns-in_err-loads_in_order-in-Empty-clause-pairs : goal.returns-in_err-loads_in_order-in-Empty-clause-pairs
returns-in_err-loads_in_order-in-Empty-clause-pairs g c =
    c.list_load.ensures.pairs ∙ c.search.invariant.pairs

pub returns-in_err-loads_in_order-in-Empty-clause-units : goal.returns-in_err-loads_in_order-in-Empty-clause-units
returns-in_err-loads_in_order-in-Empty-clause-units g c =
    c.list_load.ensures.units ∙ c.search.invariant.units

pub returns-in-Empty-clause-pairs : goal.returns-in-Empty-clause-pairs
returns-in-Empty-clause-pairs g c =
    c.list_load.ensures.pairs ∙ c.search.invariant.pairs

pub returns-in-Empty-clause-units : goal.returns-in-Empty-clause-units
returns-in-Empty-clause-units g c =
    c.list_load.ensures.units ∙ c.search.invariant.units

pub returns-in_err-up-in-Ended-clause-pairs : goal.returns-in_err-up-in-Ended-clause-pairs
returns-in_err-up-in-Ended-clause-pairs g c =
    c.go_up.ensures.pairs ∙ (c.list_load.ensures.pairs ∙ c.search.invariant.pairs)

pub returns-in_err-up-in-Ended-clause-units : goal.returns-in_err-up-in-Ended-clause-units
returns-in_err-up-in-Ended-clause-units g c =
    c.list_load.ensures.units ∙ c.search.invariant.units

pub returns-then-not-up-clause-pairs : goal.returns-then-not-up-clause-pairs
returns-then-not-up-clause-pairs g c =
    c.go_up.ensures.pairs ∙ (c.list_load.ensures.pairs ∙ c.search.invariant.pairs)

pub returns-then-not-up-clause-units : goal.returns-then-not-up-clause-units
returns-then-not-up-clause-units g c =
    c.list_load.ensures.units ∙ c.search.invariant.units

pub returns-in_err-go_down-in-Open-clause-pairs : goal.returns-in_err-go_down-in-Open-clause-pairs
returns-in_err-go_down-in-Open-clause-pairs g c =
    c.go_down.ensures.pairs ∙ (c.list_load.ensures.pairs ∙ c.search.invariant.pairs)

pub returns-in_err-go_down-in-Open-clause-units : goal.returns-in_err-go_down-in-Open-clause-units
returns-in_err-go_down-in-Open-clause-units g c =
    c.list_load.ensures.units ∙ c.search.invariant.units

pub list_load-requires-clause-units : goal.list_load-requires-clause-units
list_load-requires-clause-units g c =
    omega (arith, c.search.invariant.units, c.requires.units)

pub list_load-requires-clause-beside : goal.list_load-requires-clause-beside
list_load-requires-clause-beside g c =
    c.search.invariant.beside

pub trail_of-requires : goal.trail_of-requires
trail_of-requires g c =
    let S : Listed → Type 0 = λ z. ListsOn c.args.kind c.args.inst.now c.args.cycle (g.D.Desk.desk c.search.desk).alone (g.D.Desk.desk c.search.desk) (g.D.Desk.desk c.list_load.new.desk)
    c.search.standing c.list_load.new.standing c.search.units.used c.list_load.new.units.used
    c.list_load.new.units.left z in
    let on = subst S c.in-Spent.is c.in_ok-list_load.ensures.lists in
    let n = on.lists in
    let u = stands_with c.search.standing (with_mark c.search.standing.frame on.last) on.listing in
    let ready : IsReady c.args.inst.now c.args.cycle u = record { room = c.search.invariant.ready.room; paired = c.search.invariant.ready.paired } in
    (ready_with c.args.inst.now c.args.cycle u c.list_load.new.standing u.frame
    c.list_load.new.standing.listing n.0.stays ready).room

pub trail_of-frames-requires : goal.trail_of-frames-requires
trail_of-frames-requires g c =
    let S : Listed → Type 0 = λ z. ListsOn c.args.kind c.args.inst.now c.args.cycle (g.D.Desk.desk c.search.desk).alone (g.D.Desk.desk c.search.desk) (g.D.Desk.desk c.list_load.new.desk)
    c.search.standing c.list_load.new.standing c.search.units.used c.list_load.new.units.used
    c.list_load.new.units.left z in
    let on = subst S c.in-Empty.is c.in_ok-list_load.ensures.lists in
    let n = on.lists in
    let u = stands_with c.search.standing (with_mark c.search.standing.frame on.last) on.listing in
    let ready : IsReady c.args.inst.now c.args.cycle u = record { room = c.search.invariant.ready.room; paired = c.search.invariant.ready.paired } in
    (ready_with c.args.inst.now c.args.cycle u c.list_load.new.standing (with_last u.frame n.0.load)
    c.list_load.new.standing.listing n.0.stands ready).room
