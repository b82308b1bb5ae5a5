use Rattle.std.proofs.Common.{ℕ, ◌+◌, ◌-◌, Bool, false, None, Option, IfSome, List, [], ◌∷◌, length, refl, sym, ap, ◌∙◌, subst}
use Rattle.std.proofs.Common.{arith, length-append}
use Rattle.line_instance.specs.Line.{Line, IsTaskSet}
use Rattle.line_rules.specs.Loads.{rest}
use Rattle.line_rules.specs.Entries.{Follows}
use Rattle.line_rules.specs.declared.types.LineKind.{LineKind}
use Rattle.line_rules.specs.declared.types.OpenFrame.{OpenFrame}
use Rattle.lemma_core.specs.Desks.{DeskView, Waits, entries}
use Rattle.lemma_core.proofs.HistoryGrows.{keeps_none, keeps_both}
use Rattle.pair_search.specs.Sharing.{Sharing}
use Rattle.station_search.specs.Decide.{IsFor, IsPairing}
use Rattle.station_search.specs.inner.Work.{branch_of, with_last, with_cites, Accounts}
use Rattle.station_search.specs.inner.Steps.{IsReady, ListsOn, stands_with, with_mark}
use Rattle.station_search.specs.inner.Walks.{IfWhole, walks_left, all_left, Settles, PaysFor}
use Rattle.station_search.specs.declared.standing.Standing.{Standing}
use Rattle.station_search.specs.declared.standing.Listed.{Listed}
use Rattle.station_search.proofs.Events.{for_still, waits_none}
use Rattle.station_search.proofs.PaidSteps.{does_few, few_then}
use Rattle.station_search.proofs.States.{rest_tasks}
use Rattle.station_search.proofs.Tallies.{idle, all_listed, outlay_starts, outlay_again, outlay_waits}
use Rattle.station_search.proofs.Endings.{on_err}
use Rattle.station_search.proofs.StepTurns.{ready_with, up_ready, up_beside, used_still}
use Rattle.station_search.proofs.LightLoads.{walking_past, outlay_past, past_none, past_one, past_some, past_more}
use Rattle.station_search.proofs.StepTurns.{at_least, no_more}
use Rattle.station_search.proofs.WalkStates.{walk_starts, walk_grown, within_most, walk_follows, walk_asked, walk_again}
use Rattle.station_search.proofs.WalkStates.{all_push}
use Rattle.station_search.proofs.WalkSteps.{ended_beside, walking_on, outlay_on, found_beside, walking_off, outlay_off}
use Rattle.station_search.proofs.WalkSteps.{walking_down, outlay_down_at, walking_up, outlay_up_at, leaves_waiting}
use Rattle.station_search.proofs.WalkSteps.{leaves_listed, leaves_refuted, leaves_top}
use Rattle.station_search.proofs.searching_beside.search_beside.Goals as goal

pub search-init : goal.search-init
search-init g c =
    let b = c.in_ok-standing.ensures.begun in
    record {
      keeps = keeps_none (g.D.Desk.desk c.args.desk.now);
      pairs = c.begin_standing.ensures.pairs;
      units = refl;
      spent = no_more c.args.units.now.used;
      walking = walk_starts None c.args.kind c.args.inst.now c.tasks-tasks.ensures.ranked c.args.cycle c.args.set.now c.args.most (entries (g.D.Desk.desk c.args.desk.now)) c.in_ok-standing.standing.passed.items
          c.new-walks.result.items c.in_ok-standing.standing.frame b.none c.new-walks.ensures.items b.fresh.set
          b.fresh.most b.fresh.mode b.fresh.belongs b.fresh.last b.fresh.cites c.requires.some c.requires.set
          c.requires.bound;
      beside = b.beside;
      ready = b.ready;
      outlay = outlay_starts None c.args.kind c.args.inst.now c.tasks-tasks.ensures.ranked c.args.cycle (g.D.Desk.desk c.args.desk.now) c.in_ok-standing.standing.frame
          c.in_ok-standing.standing.passed.items (c.args.units.now.used - c.args.units.now.used) b.none b.fresh.last (omega arith);
    }

pub returns-in_err-standing-clause-accounts : goal.returns-in_err-standing-clause-accounts
returns-in_err-standing-clause-accounts g c =
    on_err c.from_residual.result (Accounts None c.args.kind c.args.inst.now c.args.cycle (g.D.Desk.desk c.args.desk.now) (g.D.Desk.desk c.args.desk.now) [] (c.args.units.now.used - c.args.units.now.used) (c.args.units.now.used - c.args.units.now.used))
    (idle None c.args.kind c.args.inst.now c.args.cycle (g.D.Desk.desk c.args.desk.now) (c.args.units.now.used - c.args.units.now.used) (c.args.units.now.used - c.args.units.now.used))

pub returns-in_err-standing-clause-keeps : goal.returns-in_err-standing-clause-keeps
returns-in_err-standing-clause-keeps g c =
    keeps_none (g.D.Desk.desk c.args.desk.now)

pub list_load-requires-clause-desk : goal.list_load-requires-clause-desk
list_load-requires-clause-desk g c =
    for_still (g.D.Desk.desk c.args.desk.now) (g.D.Desk.desk c.search.desk) c.args.inst.now c.args.kind c.args.cycle c.requires.desk c.search.invariant.keeps

pub list_load-requires-clause-set : goal.list_load-requires-clause-set
list_load-requires-clause-set g c =
    c.search.invariant.walking.chain.tasks

pub list_load-requires-clause-some : goal.list_load-requires-clause-some
list_load-requires-clause-some g c =
    c.search.invariant.walking.chain.stations

pub list_load-requires-clause-few : goal.list_load-requires-clause-few
list_load-requires-clause-few g c =
    omega (
      arith,
      c.requires.few,
      within_most None c.args.kind c.args.inst.now c.tasks-tasks.ensures.ranked c.args.cycle c.args.set.now c.args.most (entries (g.D.Desk.desk c.search.desk))
          c.search.standing.passed.items c.search.walks.items c.search.standing.frame c.search.walk
          c.search.invariant.walking,
    )

pub list_load-requires-clause-pairs : goal.list_load-requires-clause-pairs
list_load-requires-clause-pairs g c =
    let P : Option Sharing → Type 0 = λ z. IfSome z (IsPairing c.args.inst.now c.args.kind c.args.cycle) in
    subst P (sym c.search.invariant.pairs) c.requires.pairs

pub returns-in_err-list_load-clause-keeps : goal.returns-in_err-list_load-clause-keeps
returns-in_err-list_load-clause-keeps g c =
    keeps_both (g.D.Desk.desk c.args.desk.now) (g.D.Desk.desk c.search.desk) (g.D.Desk.desk c.list_load.new.desk) c.search.invariant.keeps c.list_load.ensures.keeps

pub returns-in_err-list_load-clause-accounts : goal.returns-in_err-list_load-clause-accounts
returns-in_err-list_load-clause-accounts g c =
    on_err c.from_residual-in_err-list_load.result (Accounts None c.args.kind c.args.inst.now c.args.cycle (g.D.Desk.desk c.args.desk.now) (g.D.Desk.desk c.list_load.new.desk) [] (c.list_load.new.units.used - c.args.units.now.used) (c.list_load.new.units.used - c.args.units.now.used))
    (leaves_listed None c.args.kind c.args.inst.now c.tasks-tasks.ensures.ranked c.args.cycle (g.D.Desk.desk c.args.desk.now) (g.D.Desk.desk c.search.desk) (g.D.Desk.desk c.list_load.new.desk) c.search.standing.passed.items
    c.search.standing.frame (c.search.units.used - c.args.units.now.used) c.search.invariant.keeps c.list_load.ensures.keeps c.search.invariant.outlay 1
    (c.list_load.new.units.used - c.args.units.now.used) (no_more 1) (past_more c.list_load.new.units.used c.search.units.used c.args.units.now.used
    c.in_err-list_load.ensures.fails_used c.search.invariant.spent) (c.in_err-list_load.ensures.fails None))

pub settle-requires-clause-follows : goal.settle-requires-clause-follows
settle-requires-clause-follows g c =
    let S : Listed → Type 0 = λ z. ListsOn c.args.kind c.args.inst.now c.args.cycle false (g.D.Desk.desk c.search.desk) (g.D.Desk.desk c.list_load.new.desk)
    c.search.standing c.list_load.new.standing c.search.units.used c.list_load.new.units.used
    c.list_load.new.units.left z in
    let on = subst S c.in-Ended.is c.in_ok-list_load.ensures.lists in
    let n = on.lists in
    let u = stands_with c.search.standing (with_mark c.search.standing.frame on.last) on.listing in
    let walking = walking_past None c.args.kind c.args.inst.now c.tasks-tasks.ensures.ranked c.args.cycle c.args.set.now c.args.most (g.D.Desk.desk c.args.desk.now) (g.D.Desk.desk c.search.desk) c.search.standing.passed.items c.search.walks.items c.search.standing.frame
    c.search.walk c.search.invariant.walking on.last on.light on.skips in
    let outlay = outlay_past None c.args.kind c.args.inst.now c.tasks-tasks.ensures.ranked c.args.cycle c.args.set.now c.args.most (g.D.Desk.desk c.args.desk.now) (g.D.Desk.desk c.search.desk) c.search.standing.passed.items c.search.walks.items c.search.standing.frame
    c.search.walk c.search.invariant.walking (c.search.units.used - c.args.units.now.used) (c.search.units.used - c.args.units.now.used + on.light)
    c.search.invariant.keeps c.search.invariant.outlay on.last on.light on.skips refl in
    let e = ended_beside None c.args.kind c.args.inst.now c.args.cycle c.args.set.now c.args.most c.search.walks.items c.search.walk (g.D.Desk.desk c.args.desk.now) (g.D.Desk.desk c.search.desk) (g.D.Desk.desk c.list_load.new.desk)
    u c.list_load.new.standing (c.search.units.used - c.args.units.now.used + on.light) (c.list_load.new.units.used - c.args.units.now.used)
    (past_none c.list_load.new.units.used c.search.units.used on.light 0 c.args.units.now.used
    on.cost refl c.search.invariant.spent) n walking
    outlay in
    let f : IsFor (g.D.Desk.desk c.list_load.new.desk) c.args.inst.now c.args.kind c.args.cycle = for_still (g.D.Desk.desk c.args.desk.now) (g.D.Desk.desk c.list_load.new.desk) c.args.inst.now c.args.kind
    c.args.cycle c.requires.desk (keeps_both (g.D.Desk.desk c.args.desk.now) (g.D.Desk.desk c.search.desk) (g.D.Desk.desk c.list_load.new.desk) c.search.invariant.keeps c.list_load.ensures.keeps) in
    let P : LineKind → Type 0 = λ z. IfWhole c.search.walk (Follows z (g.D.Desk.desk c.list_load.new.desk).about.line (entries (g.D.Desk.desk c.list_load.new.desk))
    (branch_of c.args.cycle c.list_load.new.standing.frame)) in
    let Q : Line → Type 0 = λ z. IfWhole c.search.walk (Follows c.args.kind z (entries (g.D.Desk.desk c.list_load.new.desk))
    (branch_of c.args.cycle c.list_load.new.standing.frame)) in
    subst P (sym f.same_kind) (subst Q (sym f.same_line) (walk_follows None c.args.kind c.args.inst.now c.tasks-tasks.ensures.ranked c.args.cycle c.args.set.now c.args.most (entries (g.D.Desk.desk c.list_load.new.desk))
    c.list_load.new.standing.passed.items c.search.walks.items c.list_load.new.standing.frame c.search.walk e.now
    c.requires.cycle.some e.none))

pub settle-requires-clause-range : goal.settle-requires-clause-range
settle-requires-clause-range g c =
    let S : Listed → Type 0 = λ z. ListsOn c.args.kind c.args.inst.now c.args.cycle false (g.D.Desk.desk c.search.desk) (g.D.Desk.desk c.list_load.new.desk)
    c.search.standing c.list_load.new.standing c.search.units.used c.list_load.new.units.used
    c.list_load.new.units.left z in
    let on = subst S c.in-Ended.is c.in_ok-list_load.ensures.lists in
    let n = on.lists in
    let u = stands_with c.search.standing (with_mark c.search.standing.frame on.last) on.listing in
    let walking = walking_past None c.args.kind c.args.inst.now c.tasks-tasks.ensures.ranked c.args.cycle c.args.set.now c.args.most (g.D.Desk.desk c.args.desk.now) (g.D.Desk.desk c.search.desk) c.search.standing.passed.items c.search.walks.items c.search.standing.frame
    c.search.walk c.search.invariant.walking on.last on.light on.skips in
    let outlay = outlay_past None c.args.kind c.args.inst.now c.tasks-tasks.ensures.ranked c.args.cycle c.args.set.now c.args.most (g.D.Desk.desk c.args.desk.now) (g.D.Desk.desk c.search.desk) c.search.standing.passed.items c.search.walks.items c.search.standing.frame
    c.search.walk c.search.invariant.walking (c.search.units.used - c.args.units.now.used) (c.search.units.used - c.args.units.now.used + on.light)
    c.search.invariant.keeps c.search.invariant.outlay on.last on.light on.skips refl in
    let e = ended_beside None c.args.kind c.args.inst.now c.args.cycle c.args.set.now c.args.most c.search.walks.items c.search.walk (g.D.Desk.desk c.args.desk.now) (g.D.Desk.desk c.search.desk) (g.D.Desk.desk c.list_load.new.desk)
    u c.list_load.new.standing (c.search.units.used - c.args.units.now.used + on.light) (c.list_load.new.units.used - c.args.units.now.used)
    (past_none c.list_load.new.units.used c.search.units.used on.light 0 c.args.units.now.used
    on.cost refl c.search.invariant.spent) n walking
    outlay in
    record {
      most = omega (
        arith,
        c.requires.few,
        within_most None c.args.kind c.args.inst.now c.tasks-tasks.ensures.ranked c.args.cycle c.args.set.now c.args.most (entries (g.D.Desk.desk c.list_load.new.desk))
            c.list_load.new.standing.passed.items c.search.walks.items c.list_load.new.standing.frame c.search.walk
            e.now,
      );
      cycle = c.requires.cycle;
    }

pub settle-requires-clause-cycle : goal.settle-requires-clause-cycle
settle-requires-clause-cycle g c =
    (for_still (g.D.Desk.desk c.args.desk.now) (g.D.Desk.desk c.list_load.new.desk) c.args.inst.now c.args.kind c.args.cycle c.requires.desk
    (keeps_both (g.D.Desk.desk c.args.desk.now) (g.D.Desk.desk c.search.desk) (g.D.Desk.desk c.list_load.new.desk) c.search.invariant.keeps c.list_load.ensures.keeps)).same_cycle

pub returns-in_err-settled-in-Ended-clause-keeps : goal.returns-in_err-settled-in-Ended-clause-keeps
returns-in_err-settled-in-Ended-clause-keeps g c =
    keeps_both (g.D.Desk.desk c.args.desk.now) (g.D.Desk.desk c.list_load.new.desk) (g.D.Desk.desk c.settle.new.desk) (keeps_both (g.D.Desk.desk c.args.desk.now) (g.D.Desk.desk c.search.desk) (g.D.Desk.desk c.list_load.new.desk) c.search.invariant.keeps c.list_load.ensures.keeps) c.settle.ensures.keeps

pub returns-in_err-settled-in-Ended-clause-accounts : goal.returns-in_err-settled-in-Ended-clause-accounts
returns-in_err-settled-in-Ended-clause-accounts g c =
    let S : Listed → Type 0 = λ z. ListsOn c.args.kind c.args.inst.now c.args.cycle false (g.D.Desk.desk c.search.desk) (g.D.Desk.desk c.list_load.new.desk)
    c.search.standing c.list_load.new.standing c.search.units.used c.list_load.new.units.used
    c.list_load.new.units.left z in
    let on = subst S c.in-Ended.is c.in_ok-list_load.ensures.lists in
    let n = on.lists in
    let u = stands_with c.search.standing (with_mark c.search.standing.frame on.last) on.listing in
    let walking = walking_past None c.args.kind c.args.inst.now c.tasks-tasks.ensures.ranked c.args.cycle c.args.set.now c.args.most (g.D.Desk.desk c.args.desk.now) (g.D.Desk.desk c.search.desk) c.search.standing.passed.items c.search.walks.items c.search.standing.frame
    c.search.walk c.search.invariant.walking on.last on.light on.skips in
    let outlay = outlay_past None c.args.kind c.args.inst.now c.tasks-tasks.ensures.ranked c.args.cycle c.args.set.now c.args.most (g.D.Desk.desk c.args.desk.now) (g.D.Desk.desk c.search.desk) c.search.standing.passed.items c.search.walks.items c.search.standing.frame
    c.search.walk c.search.invariant.walking (c.search.units.used - c.args.units.now.used) (c.search.units.used - c.args.units.now.used + on.light)
    c.search.invariant.keeps c.search.invariant.outlay on.last on.light on.skips refl in
    let e = ended_beside None c.args.kind c.args.inst.now c.args.cycle c.args.set.now c.args.most c.search.walks.items c.search.walk (g.D.Desk.desk c.args.desk.now) (g.D.Desk.desk c.search.desk) (g.D.Desk.desk c.list_load.new.desk)
    u c.list_load.new.standing (c.search.units.used - c.args.units.now.used + on.light) (c.list_load.new.units.used - c.args.units.now.used)
    (past_none c.list_load.new.units.used c.search.units.used on.light 0 c.args.units.now.used
    on.cost refl c.search.invariant.spent) n walking
    outlay in
    on_err c.from_residual-in_err-settled-in-Ended.result (Accounts None c.args.kind c.args.inst.now c.args.cycle (g.D.Desk.desk c.args.desk.now) (g.D.Desk.desk c.settle.new.desk) [] (c.list_load.new.units.used - c.args.units.now.used) (c.list_load.new.units.used - c.args.units.now.used))
    (leaves_waiting None c.args.kind c.args.inst.now c.tasks-tasks.ensures.ranked c.args.cycle (g.D.Desk.desk c.args.desk.now) (g.D.Desk.desk c.list_load.new.desk) (g.D.Desk.desk c.settle.new.desk) c.list_load.new.standing.passed.items
    c.list_load.new.standing.frame (c.list_load.new.units.used - c.args.units.now.used) (keeps_both (g.D.Desk.desk c.args.desk.now) (g.D.Desk.desk c.search.desk) (g.D.Desk.desk c.list_load.new.desk) c.search.invariant.keeps c.list_load.ensures.keeps) c.settle.ensures.keeps e.outlay (c.list_load.new.units.used - c.args.units.now.used) refl c.in_err-settled-in-Ended.ensures.waits)

pub begin_listing-standing-requires-clause-set : goal.begin_listing-standing-requires-clause-set
begin_listing-standing-requires-clause-set g c =
    let S : Listed → Type 0 = λ z. ListsOn c.args.kind c.args.inst.now c.args.cycle false (g.D.Desk.desk c.search.desk) (g.D.Desk.desk c.list_load.new.desk)
    c.search.standing c.list_load.new.standing c.search.units.used c.list_load.new.units.used
    c.list_load.new.units.left z in
    let on = subst S c.in-Ended.is c.in_ok-list_load.ensures.lists in
    let n = on.lists in
    let u = stands_with c.search.standing (with_mark c.search.standing.frame on.last) on.listing in
    let walking = walking_past None c.args.kind c.args.inst.now c.tasks-tasks.ensures.ranked c.args.cycle c.args.set.now c.args.most (g.D.Desk.desk c.args.desk.now) (g.D.Desk.desk c.search.desk) c.search.standing.passed.items c.search.walks.items c.search.standing.frame
    c.search.walk c.search.invariant.walking on.last on.light on.skips in
    let outlay = outlay_past None c.args.kind c.args.inst.now c.tasks-tasks.ensures.ranked c.args.cycle c.args.set.now c.args.most (g.D.Desk.desk c.args.desk.now) (g.D.Desk.desk c.search.desk) c.search.standing.passed.items c.search.walks.items c.search.standing.frame
    c.search.walk c.search.invariant.walking (c.search.units.used - c.args.units.now.used) (c.search.units.used - c.args.units.now.used + on.light)
    c.search.invariant.keeps c.search.invariant.outlay on.last on.light on.skips refl in
    let e = ended_beside None c.args.kind c.args.inst.now c.args.cycle c.args.set.now c.args.most c.search.walks.items c.search.walk (g.D.Desk.desk c.args.desk.now) (g.D.Desk.desk c.search.desk) (g.D.Desk.desk c.list_load.new.desk)
    u c.list_load.new.standing (c.search.units.used - c.args.units.now.used + on.light) (c.list_load.new.units.used - c.args.units.now.used)
    (past_none c.list_load.new.units.used c.search.units.used on.light 0 c.args.units.now.used
    on.cost refl c.search.invariant.spent) n walking
    outlay in
    let O : Option ℕ → Type 0 = λ z. Settles c.args.cycle (g.D.Desk.desk c.list_load.new.desk) (g.D.Desk.desk c.settle.new.desk) c.list_load.new.standing.frame c.settle.new.frame
    c.search.walk z in
    let o = subst O c.in_default.is c.in_ok-settled-in-Ended.ensures.settles in
    let P : OpenFrame → Type 0 = λ z. IsTaskSet c.args.inst.now z.set in
    subst P (sym o.2) e.now.chain.tasks

pub begin_listing-standing-requires-clause-last : goal.begin_listing-standing-requires-clause-last
begin_listing-standing-requires-clause-last g c =
    let O : Option ℕ → Type 0 = λ z. Settles c.args.cycle (g.D.Desk.desk c.list_load.new.desk) (g.D.Desk.desk c.settle.new.desk) c.list_load.new.standing.frame c.settle.new.frame
    c.search.walk z in
    let o = subst O c.in_default.is c.in_ok-settled-in-Ended.ensures.settles in
    ap (λ (z : OpenFrame). z.last) o.2

pub search-preserved-in_default : goal.search-preserved-in_default
search-preserved-in_default g c =
    let S : Listed → Type 0 = λ z. ListsOn c.args.kind c.args.inst.now c.args.cycle false (g.D.Desk.desk c.search.desk) (g.D.Desk.desk c.list_load.new.desk)
    c.search.standing c.list_load.new.standing c.search.units.used c.list_load.new.units.used
    c.list_load.new.units.left z in
    let on = subst S c.in-Ended.is c.in_ok-list_load.ensures.lists in
    let n = on.lists in
    let u = stands_with c.search.standing (with_mark c.search.standing.frame on.last) on.listing in
    let walking = walking_past None c.args.kind c.args.inst.now c.tasks-tasks.ensures.ranked c.args.cycle c.args.set.now c.args.most (g.D.Desk.desk c.args.desk.now) (g.D.Desk.desk c.search.desk) c.search.standing.passed.items c.search.walks.items c.search.standing.frame
    c.search.walk c.search.invariant.walking on.last on.light on.skips in
    let outlay = outlay_past None c.args.kind c.args.inst.now c.tasks-tasks.ensures.ranked c.args.cycle c.args.set.now c.args.most (g.D.Desk.desk c.args.desk.now) (g.D.Desk.desk c.search.desk) c.search.standing.passed.items c.search.walks.items c.search.standing.frame
    c.search.walk c.search.invariant.walking (c.search.units.used - c.args.units.now.used) (c.search.units.used - c.args.units.now.used + on.light)
    c.search.invariant.keeps c.search.invariant.outlay on.last on.light on.skips refl in
    let ready : IsReady c.args.inst.now c.args.cycle u = record { room = c.search.invariant.ready.room; paired = c.search.invariant.ready.paired } in
    let e = ended_beside None c.args.kind c.args.inst.now c.args.cycle c.args.set.now c.args.most c.search.walks.items c.search.walk (g.D.Desk.desk c.args.desk.now) (g.D.Desk.desk c.search.desk) (g.D.Desk.desk c.list_load.new.desk)
    u c.list_load.new.standing (c.search.units.used - c.args.units.now.used + on.light) (c.list_load.new.units.used - c.args.units.now.used)
    (past_none c.list_load.new.units.used c.search.units.used on.light 0 c.args.units.now.used
    on.cost refl c.search.invariant.spent) n walking
    outlay in
    let O : Option ℕ → Type 0 = λ z. Settles c.args.cycle (g.D.Desk.desk c.list_load.new.desk) (g.D.Desk.desk c.settle.new.desk) c.list_load.new.standing.frame c.settle.new.frame
    c.search.walk z in
    let o = subst O c.in_default.is c.in_ok-settled-in-Ended.ensures.settles in
    let r = ready_with c.args.inst.now c.args.cycle u c.list_load.new.standing u.frame
    c.list_load.new.standing.listing n.0.stays ready in
    record {
      keeps = keeps_both (g.D.Desk.desk c.args.desk.now) (g.D.Desk.desk c.list_load.new.desk) (g.D.Desk.desk c.settle.new.desk) (keeps_both (g.D.Desk.desk c.args.desk.now) (g.D.Desk.desk c.search.desk) (g.D.Desk.desk c.list_load.new.desk) c.search.invariant.keeps c.list_load.ensures.keeps) c.settle.ensures.keeps;
      pairs = c.list_load.ensures.pairs ∙ c.search.invariant.pairs;
      units = c.list_load.ensures.units ∙ c.search.invariant.units;
      spent = used_still c.list_load.new.units.used c.search.units.used (on.light + 0) c.args.units.now.used
          on.cost c.search.invariant.spent;
      walking = walk_again None c.args.kind c.args.inst.now c.tasks-tasks.ensures.ranked c.args.cycle c.args.set.now c.args.most (entries (g.D.Desk.desk c.settle.new.desk)) c.list_load.new.standing.passed.items c.search.walks.items
          c.list_load.new.standing.frame c.search.walk (walk_grown None c.args.kind c.args.inst.now c.tasks-tasks.ensures.ranked c.args.cycle c.args.set.now c.args.most (g.D.Desk.desk c.list_load.new.desk) (g.D.Desk.desk c.settle.new.desk)
          c.list_load.new.standing.passed.items c.search.walks.items c.list_load.new.standing.frame c.search.walk
          c.settle.ensures.keeps e.now) c.settle.new.frame o.2;
      beside = c.begin_listing-standing.ensures;
      ready = record { room = r.room; paired = r.paired };
      outlay = outlay_again None c.args.kind c.args.inst.now c.tasks-tasks.ensures.ranked c.args.cycle (g.D.Desk.desk c.args.desk.now) (g.D.Desk.desk c.settle.new.desk) (g.D.Desk.desk c.settle.new.desk) c.list_load.new.standing.passed.items
          c.list_load.new.standing.frame (c.list_load.new.units.used - c.args.units.now.used) (keeps_both (g.D.Desk.desk c.args.desk.now) (g.D.Desk.desk c.list_load.new.desk) (g.D.Desk.desk c.settle.new.desk) (keeps_both (g.D.Desk.desk c.args.desk.now) (g.D.Desk.desk c.search.desk) (g.D.Desk.desk c.list_load.new.desk) c.search.invariant.keeps c.list_load.ensures.keeps) c.settle.ensures.keeps) (keeps_none (g.D.Desk.desk c.settle.new.desk)) (outlay_waits None c.args.kind c.args.inst.now c.tasks-tasks.ensures.ranked c.args.cycle
          (g.D.Desk.desk c.args.desk.now) (g.D.Desk.desk c.list_load.new.desk) (g.D.Desk.desk c.settle.new.desk) c.list_load.new.standing.passed.items c.list_load.new.standing.frame (c.list_load.new.units.used - c.args.units.now.used) (keeps_both (g.D.Desk.desk c.args.desk.now) (g.D.Desk.desk c.search.desk) (g.D.Desk.desk c.list_load.new.desk) c.search.invariant.keeps c.list_load.ensures.keeps)
          c.settle.ensures.keeps e.outlay o.0) c.settle.new.frame (ap (λ (z : OpenFrame). z.last) o.2);
    }

pub search-smaller-in_default : goal.search-smaller-in_default
search-smaller-in_default g c =
    let S : Listed → Type 0 = λ z. ListsOn c.args.kind c.args.inst.now c.args.cycle false (g.D.Desk.desk c.search.desk) (g.D.Desk.desk c.list_load.new.desk)
    c.search.standing c.list_load.new.standing c.search.units.used c.list_load.new.units.used
    c.list_load.new.units.left z in
    let on = subst S c.in-Ended.is c.in_ok-list_load.ensures.lists in
    let n = on.lists in
    let O : Option ℕ → Type 0 = λ z. Settles c.args.cycle (g.D.Desk.desk c.list_load.new.desk) (g.D.Desk.desk c.settle.new.desk) c.list_load.new.standing.frame c.settle.new.frame
    c.search.walk z in
    let o = subst O c.in_default.is c.in_ok-settled-in-Ended.ensures.settles in
    omega (
      arith,
      on.cost,
      c.list_load.ensures.units,
      ap (λ (z : Standing). length z.passed.items) n.0.stays,
      ap walks_left o.1,
    )

pub go_up-requires : goal.go_up-requires
go_up-requires g c =
    let S : Listed → Type 0 = λ z. ListsOn c.args.kind c.args.inst.now c.args.cycle false (g.D.Desk.desk c.search.desk) (g.D.Desk.desk c.list_load.new.desk)
    c.search.standing c.list_load.new.standing c.search.units.used c.list_load.new.units.used
    c.list_load.new.units.left z in
    let on = subst S c.in-Ended.is c.in_ok-list_load.ensures.lists in
    let n = on.lists in
    let u = stands_with c.search.standing (with_mark c.search.standing.frame on.last) on.listing in
    let ready : IsReady c.args.inst.now c.args.cycle u = record { room = c.search.invariant.ready.room; paired = c.search.invariant.ready.paired } in
    let r = ready_with c.args.inst.now c.args.cycle u c.list_load.new.standing u.frame
    c.list_load.new.standing.listing n.0.stays ready in
    record { ready = sym r.paired.as_many }

pub returns-in_err-up-in-Ended-clause-keeps : goal.returns-in_err-up-in-Ended-clause-keeps
returns-in_err-up-in-Ended-clause-keeps g c =
    keeps_both (g.D.Desk.desk c.args.desk.now) (g.D.Desk.desk c.list_load.new.desk) (g.D.Desk.desk c.settle.new.desk) (keeps_both (g.D.Desk.desk c.args.desk.now) (g.D.Desk.desk c.search.desk) (g.D.Desk.desk c.list_load.new.desk) c.search.invariant.keeps c.list_load.ensures.keeps) c.settle.ensures.keeps

pub returns-in_err-up-in-Ended-clause-accounts : goal.returns-in_err-up-in-Ended-clause-accounts
returns-in_err-up-in-Ended-clause-accounts g c =
    let S : Listed → Type 0 = λ z. ListsOn c.args.kind c.args.inst.now c.args.cycle false (g.D.Desk.desk c.search.desk) (g.D.Desk.desk c.list_load.new.desk)
    c.search.standing c.list_load.new.standing c.search.units.used c.list_load.new.units.used
    c.list_load.new.units.left z in
    let on = subst S c.in-Ended.is c.in_ok-list_load.ensures.lists in
    let n = on.lists in
    let u = stands_with c.search.standing (with_mark c.search.standing.frame on.last) on.listing in
    let walking = walking_past None c.args.kind c.args.inst.now c.tasks-tasks.ensures.ranked c.args.cycle c.args.set.now c.args.most (g.D.Desk.desk c.args.desk.now) (g.D.Desk.desk c.search.desk) c.search.standing.passed.items c.search.walks.items c.search.standing.frame
    c.search.walk c.search.invariant.walking on.last on.light on.skips in
    let outlay = outlay_past None c.args.kind c.args.inst.now c.tasks-tasks.ensures.ranked c.args.cycle c.args.set.now c.args.most (g.D.Desk.desk c.args.desk.now) (g.D.Desk.desk c.search.desk) c.search.standing.passed.items c.search.walks.items c.search.standing.frame
    c.search.walk c.search.invariant.walking (c.search.units.used - c.args.units.now.used) (c.search.units.used - c.args.units.now.used + on.light)
    c.search.invariant.keeps c.search.invariant.outlay on.last on.light on.skips refl in
    let e = ended_beside None c.args.kind c.args.inst.now c.args.cycle c.args.set.now c.args.most c.search.walks.items c.search.walk (g.D.Desk.desk c.args.desk.now) (g.D.Desk.desk c.search.desk) (g.D.Desk.desk c.list_load.new.desk)
    u c.list_load.new.standing (c.search.units.used - c.args.units.now.used + on.light) (c.list_load.new.units.used - c.args.units.now.used)
    (past_none c.list_load.new.units.used c.search.units.used on.light 0 c.args.units.now.used
    on.cost refl c.search.invariant.spent) n walking
    outlay in
    let T : Option ℕ → Type 0 = λ z. PaysFor None c.args.kind c.args.inst.now c.args.cycle (g.D.Desk.desk c.list_load.new.desk) (g.D.Desk.desk c.settle.new.desk) e.outlay.here z in
    let p = subst T c.in-Some.is (c.in_ok-settled-in-Ended.ensures.pays None c.args.kind c.args.inst.now e.outlay.here e.now.chain.has_mode
    (all_listed c.args.inst.now c.tasks-tasks.ensures.ranked c.args.cycle c.list_load.new.standing.frame e.outlay.here
    e.now.chain.deep.last e.none e.outlay.reckoned.frame_units)) in
    on_err c.from_residual-in_err-up-in-Ended.result (Accounts None c.args.kind c.args.inst.now c.args.cycle (g.D.Desk.desk c.args.desk.now) (g.D.Desk.desk c.settle.new.desk) [] (c.list_load.new.units.used - c.args.units.now.used) (c.list_load.new.units.used - c.args.units.now.used))
    (leaves_refuted None c.args.kind c.args.inst.now c.tasks-tasks.ensures.ranked c.args.cycle (g.D.Desk.desk c.args.desk.now) (g.D.Desk.desk c.list_load.new.desk) (g.D.Desk.desk c.settle.new.desk) c.list_load.new.standing.passed.items
    c.list_load.new.standing.frame (c.list_load.new.units.used - c.args.units.now.used) (keeps_both (g.D.Desk.desk c.args.desk.now) (g.D.Desk.desk c.search.desk) (g.D.Desk.desk c.list_load.new.desk) c.search.invariant.keeps c.list_load.ensures.keeps) c.settle.ensures.keeps e.outlay p.0 p.1.0 p.1.1 c.in_err-up-in-Ended.ensures.fails)

pub returns-then-not-up-clause-keeps : goal.returns-then-not-up-clause-keeps
returns-then-not-up-clause-keeps g c =
    keeps_both (g.D.Desk.desk c.args.desk.now) (g.D.Desk.desk c.list_load.new.desk) (g.D.Desk.desk c.settle.new.desk) (keeps_both (g.D.Desk.desk c.args.desk.now) (g.D.Desk.desk c.search.desk) (g.D.Desk.desk c.list_load.new.desk) c.search.invariant.keeps c.list_load.ensures.keeps) c.settle.ensures.keeps

pub returns-then-not-up-clause-decides : goal.returns-then-not-up-clause-decides
returns-then-not-up-clause-decides g c =
    let S : Listed → Type 0 = λ z. ListsOn c.args.kind c.args.inst.now c.args.cycle false (g.D.Desk.desk c.search.desk) (g.D.Desk.desk c.list_load.new.desk)
    c.search.standing c.list_load.new.standing c.search.units.used c.list_load.new.units.used
    c.list_load.new.units.left z in
    let on = subst S c.in-Ended.is c.in_ok-list_load.ensures.lists in
    let n = on.lists in
    let u = stands_with c.search.standing (with_mark c.search.standing.frame on.last) on.listing in
    let walking = walking_past None c.args.kind c.args.inst.now c.tasks-tasks.ensures.ranked c.args.cycle c.args.set.now c.args.most (g.D.Desk.desk c.args.desk.now) (g.D.Desk.desk c.search.desk) c.search.standing.passed.items c.search.walks.items c.search.standing.frame
    c.search.walk c.search.invariant.walking on.last on.light on.skips in
    let outlay = outlay_past None c.args.kind c.args.inst.now c.tasks-tasks.ensures.ranked c.args.cycle c.args.set.now c.args.most (g.D.Desk.desk c.args.desk.now) (g.D.Desk.desk c.search.desk) c.search.standing.passed.items c.search.walks.items c.search.standing.frame
    c.search.walk c.search.invariant.walking (c.search.units.used - c.args.units.now.used) (c.search.units.used - c.args.units.now.used + on.light)
    c.search.invariant.keeps c.search.invariant.outlay on.last on.light on.skips refl in
    let e = ended_beside None c.args.kind c.args.inst.now c.args.cycle c.args.set.now c.args.most c.search.walks.items c.search.walk (g.D.Desk.desk c.args.desk.now) (g.D.Desk.desk c.search.desk) (g.D.Desk.desk c.list_load.new.desk)
    u c.list_load.new.standing (c.search.units.used - c.args.units.now.used + on.light) (c.list_load.new.units.used - c.args.units.now.used)
    (past_none c.list_load.new.units.used c.search.units.used on.light 0 c.args.units.now.used
    on.cost refl c.search.invariant.spent) n walking
    outlay in
    let O : Option ℕ → Type 0 = λ z. Settles c.args.cycle (g.D.Desk.desk c.list_load.new.desk) (g.D.Desk.desk c.settle.new.desk) c.list_load.new.standing.frame c.settle.new.frame
    c.search.walk z in
    let o = subst O c.in-Some.is c.in_ok-settled-in-Ended.ensures.settles in (
      c.requires.bound,
      walk_asked None c.args.kind c.args.inst.now c.tasks-tasks.ensures.ranked c.args.cycle c.args.set.now c.args.most (entries (g.D.Desk.desk c.list_load.new.desk)) c.list_load.new.standing.passed.items
          c.search.walks.items c.list_load.new.standing.frame c.search.walk e.now (entries (g.D.Desk.desk c.settle.new.desk)) c.in-Some.id
          (c.in_ok-up-in-Ended.ensures.top c.if-not-up.true) o,
    )

pub returns-then-not-up-clause-ends : goal.returns-then-not-up-clause-ends
returns-then-not-up-clause-ends g c =
    let S : Listed → Type 0 = λ z. ListsOn c.args.kind c.args.inst.now c.args.cycle false (g.D.Desk.desk c.search.desk) (g.D.Desk.desk c.list_load.new.desk)
    c.search.standing c.list_load.new.standing c.search.units.used c.list_load.new.units.used
    c.list_load.new.units.left z in
    let on = subst S c.in-Ended.is c.in_ok-list_load.ensures.lists in
    let n = on.lists in
    let u = stands_with c.search.standing (with_mark c.search.standing.frame on.last) on.listing in
    let walking = walking_past None c.args.kind c.args.inst.now c.tasks-tasks.ensures.ranked c.args.cycle c.args.set.now c.args.most (g.D.Desk.desk c.args.desk.now) (g.D.Desk.desk c.search.desk) c.search.standing.passed.items c.search.walks.items c.search.standing.frame
    c.search.walk c.search.invariant.walking on.last on.light on.skips in
    let outlay = outlay_past None c.args.kind c.args.inst.now c.tasks-tasks.ensures.ranked c.args.cycle c.args.set.now c.args.most (g.D.Desk.desk c.args.desk.now) (g.D.Desk.desk c.search.desk) c.search.standing.passed.items c.search.walks.items c.search.standing.frame
    c.search.walk c.search.invariant.walking (c.search.units.used - c.args.units.now.used) (c.search.units.used - c.args.units.now.used + on.light)
    c.search.invariant.keeps c.search.invariant.outlay on.last on.light on.skips refl in
    let e = ended_beside None c.args.kind c.args.inst.now c.args.cycle c.args.set.now c.args.most c.search.walks.items c.search.walk (g.D.Desk.desk c.args.desk.now) (g.D.Desk.desk c.search.desk) (g.D.Desk.desk c.list_load.new.desk)
    u c.list_load.new.standing (c.search.units.used - c.args.units.now.used + on.light) (c.list_load.new.units.used - c.args.units.now.used)
    (past_none c.list_load.new.units.used c.search.units.used on.light 0 c.args.units.now.used
    on.cost refl c.search.invariant.spent) n walking
    outlay in
    let T : Option ℕ → Type 0 = λ z. PaysFor None c.args.kind c.args.inst.now c.args.cycle (g.D.Desk.desk c.list_load.new.desk) (g.D.Desk.desk c.settle.new.desk) e.outlay.here z in
    let p = subst T c.in-Some.is (c.in_ok-settled-in-Ended.ensures.pays None c.args.kind c.args.inst.now e.outlay.here e.now.chain.has_mode
    (all_listed c.args.inst.now c.tasks-tasks.ensures.ranked c.args.cycle c.list_load.new.standing.frame e.outlay.here
    e.now.chain.deep.last e.none e.outlay.reckoned.frame_units)) in
    leaves_top None c.args.kind c.args.inst.now c.tasks-tasks.ensures.ranked c.args.cycle (g.D.Desk.desk c.args.desk.now) (g.D.Desk.desk c.list_load.new.desk) (g.D.Desk.desk c.settle.new.desk) c.list_load.new.standing.passed.items
    c.list_load.new.standing.frame (c.list_load.new.units.used - c.args.units.now.used) (keeps_both (g.D.Desk.desk c.args.desk.now) (g.D.Desk.desk c.search.desk) (g.D.Desk.desk c.list_load.new.desk) c.search.invariant.keeps c.list_load.ensures.keeps) c.settle.ensures.keeps e.outlay p.0 p.1.0 p.1.1

pub take_from-walk-requires : goal.take_from-walk-requires
take_from-walk-requires g c =
    let S : Listed → Type 0 = λ z. ListsOn c.args.kind c.args.inst.now c.args.cycle false (g.D.Desk.desk c.search.desk) (g.D.Desk.desk c.list_load.new.desk)
    c.search.standing c.list_load.new.standing c.search.units.used c.list_load.new.units.used
    c.list_load.new.units.left z in
    let on = subst S c.in-Ended.is c.in_ok-list_load.ensures.lists in
    let n = on.lists in
    let u = stands_with c.search.standing (with_mark c.search.standing.frame on.last) on.listing in
    let walking = walking_past None c.args.kind c.args.inst.now c.tasks-tasks.ensures.ranked c.args.cycle c.args.set.now c.args.most (g.D.Desk.desk c.args.desk.now) (g.D.Desk.desk c.search.desk) c.search.standing.passed.items c.search.walks.items c.search.standing.frame
    c.search.walk c.search.invariant.walking on.last on.light on.skips in
    let outlay = outlay_past None c.args.kind c.args.inst.now c.tasks-tasks.ensures.ranked c.args.cycle c.args.set.now c.args.most (g.D.Desk.desk c.args.desk.now) (g.D.Desk.desk c.search.desk) c.search.standing.passed.items c.search.walks.items c.search.standing.frame
    c.search.walk c.search.invariant.walking (c.search.units.used - c.args.units.now.used) (c.search.units.used - c.args.units.now.used + on.light)
    c.search.invariant.keeps c.search.invariant.outlay on.last on.light on.skips refl in
    let e = ended_beside None c.args.kind c.args.inst.now c.args.cycle c.args.set.now c.args.most c.search.walks.items c.search.walk (g.D.Desk.desk c.args.desk.now) (g.D.Desk.desk c.search.desk) (g.D.Desk.desk c.list_load.new.desk)
    u c.list_load.new.standing (c.search.units.used - c.args.units.now.used + on.light) (c.list_load.new.units.used - c.args.units.now.used)
    (past_none c.list_load.new.units.used c.search.units.used on.light 0 c.args.units.now.used
    on.cost refl c.search.invariant.spent) n walking
    outlay in
    let up = c.in_ok-up-in-Ended.ensures.up c.if-not-up.false in
    omega (
      arith,
      e.now.as_many,
      ap (λ (z : List OpenFrame). length z) up.passed,
      length-append c.go_up.new.standing.passed.items (up.parent ∷ []),
    )

pub returns-then-is_ended-clause-keeps : goal.returns-then-is_ended-clause-keeps
returns-then-is_ended-clause-keeps g c =
    keeps_both (g.D.Desk.desk c.args.desk.now) (g.D.Desk.desk c.settle.new.desk) (g.D.Desk.desk c.is_ended.new.self) (keeps_both (g.D.Desk.desk c.args.desk.now) (g.D.Desk.desk c.list_load.new.desk) (g.D.Desk.desk c.settle.new.desk) (keeps_both (g.D.Desk.desk c.args.desk.now) (g.D.Desk.desk c.search.desk) (g.D.Desk.desk c.list_load.new.desk) c.search.invariant.keeps c.list_load.ensures.keeps) c.settle.ensures.keeps) c.is_ended.ensures.waits.keeps

pub returns-then-is_ended-clause-ends : goal.returns-then-is_ended-clause-ends
returns-then-is_ended-clause-ends g c =
    let S : Listed → Type 0 = λ z. ListsOn c.args.kind c.args.inst.now c.args.cycle false (g.D.Desk.desk c.search.desk) (g.D.Desk.desk c.list_load.new.desk)
    c.search.standing c.list_load.new.standing c.search.units.used c.list_load.new.units.used
    c.list_load.new.units.left z in
    let on = subst S c.in-Ended.is c.in_ok-list_load.ensures.lists in
    let n = on.lists in
    let u = stands_with c.search.standing (with_mark c.search.standing.frame on.last) on.listing in
    let walking = walking_past None c.args.kind c.args.inst.now c.tasks-tasks.ensures.ranked c.args.cycle c.args.set.now c.args.most (g.D.Desk.desk c.args.desk.now) (g.D.Desk.desk c.search.desk) c.search.standing.passed.items c.search.walks.items c.search.standing.frame
    c.search.walk c.search.invariant.walking on.last on.light on.skips in
    let outlay = outlay_past None c.args.kind c.args.inst.now c.tasks-tasks.ensures.ranked c.args.cycle c.args.set.now c.args.most (g.D.Desk.desk c.args.desk.now) (g.D.Desk.desk c.search.desk) c.search.standing.passed.items c.search.walks.items c.search.standing.frame
    c.search.walk c.search.invariant.walking (c.search.units.used - c.args.units.now.used) (c.search.units.used - c.args.units.now.used + on.light)
    c.search.invariant.keeps c.search.invariant.outlay on.last on.light on.skips refl in
    let e = ended_beside None c.args.kind c.args.inst.now c.args.cycle c.args.set.now c.args.most c.search.walks.items c.search.walk (g.D.Desk.desk c.args.desk.now) (g.D.Desk.desk c.search.desk) (g.D.Desk.desk c.list_load.new.desk)
    u c.list_load.new.standing (c.search.units.used - c.args.units.now.used + on.light) (c.list_load.new.units.used - c.args.units.now.used)
    (past_none c.list_load.new.units.used c.search.units.used on.light 0 c.args.units.now.used
    on.cost refl c.search.invariant.spent) n walking
    outlay in
    let T : Option ℕ → Type 0 = λ z. PaysFor None c.args.kind c.args.inst.now c.args.cycle (g.D.Desk.desk c.list_load.new.desk) (g.D.Desk.desk c.settle.new.desk) e.outlay.here z in
    let p = subst T c.in-Some.is (c.in_ok-settled-in-Ended.ensures.pays None c.args.kind c.args.inst.now e.outlay.here e.now.chain.has_mode
    (all_listed c.args.inst.now c.tasks-tasks.ensures.ranked c.args.cycle c.list_load.new.standing.frame e.outlay.here
    e.now.chain.deep.last e.none e.outlay.reckoned.frame_units)) in
    let up = c.in_ok-up-in-Ended.ensures.up c.if-not-up.false in
    let w : Standing = record {
      passed = c.list_load.new.standing.passed;
      listings = c.list_load.new.standing.listings;
      frame = c.settle.new.frame;
      listing = c.list_load.new.standing.listing;
    } in
    leaves_waiting None c.args.kind c.args.inst.now c.tasks-tasks.ensures.ranked c.args.cycle (g.D.Desk.desk c.args.desk.now) (g.D.Desk.desk c.is_ended.new.self) (g.D.Desk.desk c.is_ended.new.self) c.go_up.new.standing.passed.items c.go_up.new.standing.frame
    (c.list_load.new.units.used - c.args.units.now.used) (keeps_both (g.D.Desk.desk c.args.desk.now) (g.D.Desk.desk c.settle.new.desk) (g.D.Desk.desk c.is_ended.new.self) (keeps_both (g.D.Desk.desk c.args.desk.now) (g.D.Desk.desk c.list_load.new.desk) (g.D.Desk.desk c.settle.new.desk) (keeps_both (g.D.Desk.desk c.args.desk.now) (g.D.Desk.desk c.search.desk) (g.D.Desk.desk c.list_load.new.desk) c.search.invariant.keeps c.list_load.ensures.keeps) c.settle.ensures.keeps) c.is_ended.ensures.waits.keeps) (keeps_none (g.D.Desk.desk c.is_ended.new.self)) (outlay_up_at None c.args.kind c.args.inst.now c.tasks-tasks.ensures.ranked c.args.cycle c.args.set.now c.args.most (g.D.Desk.desk c.settle.new.desk) (g.D.Desk.desk c.is_ended.new.self) c.is_ended.ensures.waits w c.go_up.new.standing
    c.list_load.new.standing.frame c.in-Some.id up (g.D.Desk.desk c.args.desk.now) (g.D.Desk.desk c.list_load.new.desk) (c.list_load.new.units.used - c.args.units.now.used) p.0 (keeps_both (g.D.Desk.desk c.args.desk.now) (g.D.Desk.desk c.search.desk) (g.D.Desk.desk c.list_load.new.desk) c.search.invariant.keeps c.list_load.ensures.keeps) c.settle.ensures.keeps e.outlay
    p.1.0 p.1.1) (c.list_load.new.units.used - c.args.units.now.used) refl (waits_none (g.D.Desk.desk c.is_ended.new.self))

pub search-preserved-else-is_ended : goal.search-preserved-else-is_ended
search-preserved-else-is_ended g c =
    let S : Listed → Type 0 = λ z. ListsOn c.args.kind c.args.inst.now c.args.cycle false (g.D.Desk.desk c.search.desk) (g.D.Desk.desk c.list_load.new.desk)
    c.search.standing c.list_load.new.standing c.search.units.used c.list_load.new.units.used
    c.list_load.new.units.left z in
    let on = subst S c.in-Ended.is c.in_ok-list_load.ensures.lists in
    let n = on.lists in
    let u = stands_with c.search.standing (with_mark c.search.standing.frame on.last) on.listing in
    let walking = walking_past None c.args.kind c.args.inst.now c.tasks-tasks.ensures.ranked c.args.cycle c.args.set.now c.args.most (g.D.Desk.desk c.args.desk.now) (g.D.Desk.desk c.search.desk) c.search.standing.passed.items c.search.walks.items c.search.standing.frame
    c.search.walk c.search.invariant.walking on.last on.light on.skips in
    let outlay = outlay_past None c.args.kind c.args.inst.now c.tasks-tasks.ensures.ranked c.args.cycle c.args.set.now c.args.most (g.D.Desk.desk c.args.desk.now) (g.D.Desk.desk c.search.desk) c.search.standing.passed.items c.search.walks.items c.search.standing.frame
    c.search.walk c.search.invariant.walking (c.search.units.used - c.args.units.now.used) (c.search.units.used - c.args.units.now.used + on.light)
    c.search.invariant.keeps c.search.invariant.outlay on.last on.light on.skips refl in
    let ready : IsReady c.args.inst.now c.args.cycle u = record { room = c.search.invariant.ready.room; paired = c.search.invariant.ready.paired } in
    let e = ended_beside None c.args.kind c.args.inst.now c.args.cycle c.args.set.now c.args.most c.search.walks.items c.search.walk (g.D.Desk.desk c.args.desk.now) (g.D.Desk.desk c.search.desk) (g.D.Desk.desk c.list_load.new.desk)
    u c.list_load.new.standing (c.search.units.used - c.args.units.now.used + on.light) (c.list_load.new.units.used - c.args.units.now.used)
    (past_none c.list_load.new.units.used c.search.units.used on.light 0 c.args.units.now.used
    on.cost refl c.search.invariant.spent) n walking
    outlay in
    let T : Option ℕ → Type 0 = λ z. PaysFor None c.args.kind c.args.inst.now c.args.cycle (g.D.Desk.desk c.list_load.new.desk) (g.D.Desk.desk c.settle.new.desk) e.outlay.here z in
    let p = subst T c.in-Some.is (c.in_ok-settled-in-Ended.ensures.pays None c.args.kind c.args.inst.now e.outlay.here e.now.chain.has_mode
    (all_listed c.args.inst.now c.tasks-tasks.ensures.ranked c.args.cycle c.list_load.new.standing.frame e.outlay.here
    e.now.chain.deep.last e.none e.outlay.reckoned.frame_units)) in
    let O : Option ℕ → Type 0 = λ z. Settles c.args.cycle (g.D.Desk.desk c.list_load.new.desk) (g.D.Desk.desk c.settle.new.desk) c.list_load.new.standing.frame c.settle.new.frame
    c.search.walk z in
    let o = subst O c.in-Some.is c.in_ok-settled-in-Ended.ensures.settles in
    let r = ready_with c.args.inst.now c.args.cycle u c.list_load.new.standing u.frame
    c.list_load.new.standing.listing n.0.stays ready in
    let up = c.in_ok-up-in-Ended.ensures.up c.if-not-up.false in
    let w : Standing = record {
      passed = c.list_load.new.standing.passed;
      listings = c.list_load.new.standing.listings;
      frame = c.settle.new.frame;
      listing = c.list_load.new.standing.listing;
    } in
    let q : IsReady c.args.inst.now c.args.cycle w = record { room = r.room; paired = r.paired } in
    record {
      keeps = keeps_both (g.D.Desk.desk c.args.desk.now) (g.D.Desk.desk c.settle.new.desk) (g.D.Desk.desk c.is_ended.new.self) (keeps_both (g.D.Desk.desk c.args.desk.now) (g.D.Desk.desk c.list_load.new.desk) (g.D.Desk.desk c.settle.new.desk) (keeps_both (g.D.Desk.desk c.args.desk.now) (g.D.Desk.desk c.search.desk) (g.D.Desk.desk c.list_load.new.desk) c.search.invariant.keeps c.list_load.ensures.keeps) c.settle.ensures.keeps) c.is_ended.ensures.waits.keeps;
      pairs = c.go_up.ensures.pairs ∙ (c.list_load.ensures.pairs ∙ c.search.invariant.pairs);
      units = c.list_load.ensures.units ∙ c.search.invariant.units;
      spent = used_still c.list_load.new.units.used c.search.units.used (on.light + 0) c.args.units.now.used
          on.cost c.search.invariant.spent;
      walking = walking_up None c.args.kind c.args.inst.now c.tasks-tasks.ensures.ranked c.args.cycle c.args.set.now c.args.most (g.D.Desk.desk c.settle.new.desk) (g.D.Desk.desk c.is_ended.new.self) c.is_ended.ensures.waits w c.go_up.new.standing
          c.list_load.new.standing.frame c.in-Some.id up c.search.walks.items c.take_from-walk.new.stack.items
          c.search.walk c.take_from-walk.result c.take_from-walk.ensures c.requires.set (walk_grown None c.args.kind c.args.inst.now c.tasks-tasks.ensures.ranked c.args.cycle c.args.set.now c.args.most (g.D.Desk.desk c.list_load.new.desk)
          (g.D.Desk.desk c.settle.new.desk) c.list_load.new.standing.passed.items c.search.walks.items c.list_load.new.standing.frame c.search.walk
          c.settle.ensures.keeps e.now) o;
      beside = up_beside c.args.inst.now c.args.cycle c.in-Some.id w c.go_up.new.standing up q;
      ready = up_ready c.args.inst.now c.args.cycle c.in-Some.id w c.go_up.new.standing up q;
      outlay = outlay_up_at None c.args.kind c.args.inst.now c.tasks-tasks.ensures.ranked c.args.cycle c.args.set.now c.args.most (g.D.Desk.desk c.settle.new.desk) (g.D.Desk.desk c.is_ended.new.self) c.is_ended.ensures.waits w c.go_up.new.standing
          c.list_load.new.standing.frame c.in-Some.id up (g.D.Desk.desk c.args.desk.now) (g.D.Desk.desk c.list_load.new.desk) (c.list_load.new.units.used - c.args.units.now.used) p.0 (keeps_both (g.D.Desk.desk c.args.desk.now) (g.D.Desk.desk c.search.desk) (g.D.Desk.desk c.list_load.new.desk) c.search.invariant.keeps c.list_load.ensures.keeps) c.settle.ensures.keeps e.outlay
          p.1.0 p.1.1;
    }

pub search-smaller-else-is_ended : goal.search-smaller-else-is_ended
search-smaller-else-is_ended g c =
    let S : Listed → Type 0 = λ z. ListsOn c.args.kind c.args.inst.now c.args.cycle false (g.D.Desk.desk c.search.desk) (g.D.Desk.desk c.list_load.new.desk)
    c.search.standing c.list_load.new.standing c.search.units.used c.list_load.new.units.used
    c.list_load.new.units.left z in
    let on = subst S c.in-Ended.is c.in_ok-list_load.ensures.lists in
    let n = on.lists in
    let up = c.in_ok-up-in-Ended.ensures.up c.if-not-up.false in
    omega (
      arith,
      on.cost,
      c.list_load.ensures.units,
      ap (λ (z : Standing). length z.passed.items) n.0.stays,
      ap (λ (z : List OpenFrame). length z) up.passed,
      length-append c.go_up.new.standing.passed.items (up.parent ∷ []),
      ap all_left c.take_from-walk.ensures,
      all_push c.take_from-walk.new.stack.items c.take_from-walk.result,
    )

pub returns-in-Spent-clause-keeps : goal.returns-in-Spent-clause-keeps
returns-in-Spent-clause-keeps g c =
    keeps_both (g.D.Desk.desk c.args.desk.now) (g.D.Desk.desk c.search.desk) (g.D.Desk.desk c.list_load.new.desk) c.search.invariant.keeps c.list_load.ensures.keeps

pub returns-in-Spent-clause-decides : goal.returns-in-Spent-clause-decides
returns-in-Spent-clause-decides g c =
    let S : Listed → Type 0 = λ z. ListsOn c.args.kind c.args.inst.now c.args.cycle false (g.D.Desk.desk c.search.desk) (g.D.Desk.desk c.list_load.new.desk)
    c.search.standing c.list_load.new.standing c.search.units.used c.list_load.new.units.used
    c.list_load.new.units.left z in
    let on = subst S c.in-Spent.is c.in_ok-list_load.ensures.lists in
    let n = on.lists in
    (c.requires.bound, n.1)

pub returns-in-Spent-clause-ends : goal.returns-in-Spent-clause-ends
returns-in-Spent-clause-ends g c =
    let S : Listed → Type 0 = λ z. ListsOn c.args.kind c.args.inst.now c.args.cycle false (g.D.Desk.desk c.search.desk) (g.D.Desk.desk c.list_load.new.desk)
    c.search.standing c.list_load.new.standing c.search.units.used c.list_load.new.units.used
    c.list_load.new.units.left z in
    let on = subst S c.in-Spent.is c.in_ok-list_load.ensures.lists in
    let n = on.lists in
    let u = stands_with c.search.standing (with_mark c.search.standing.frame on.last) on.listing in
    let outlay = outlay_past None c.args.kind c.args.inst.now c.tasks-tasks.ensures.ranked c.args.cycle c.args.set.now c.args.most (g.D.Desk.desk c.args.desk.now) (g.D.Desk.desk c.search.desk) c.search.standing.passed.items c.search.walks.items c.search.standing.frame
    c.search.walk c.search.invariant.walking (c.search.units.used - c.args.units.now.used) (c.search.units.used - c.args.units.now.used + on.light)
    c.search.invariant.keeps c.search.invariant.outlay on.last on.light on.skips refl in
    leaves_waiting None c.args.kind c.args.inst.now c.tasks-tasks.ensures.ranked c.args.cycle (g.D.Desk.desk c.args.desk.now) (g.D.Desk.desk c.search.desk) (g.D.Desk.desk c.list_load.new.desk) u.passed.items u.frame (c.search.units.used - c.args.units.now.used + on.light)
    c.search.invariant.keeps c.list_load.ensures.keeps outlay (c.list_load.new.units.used - c.args.units.now.used)
    (past_none c.list_load.new.units.used c.search.units.used on.light 0 c.args.units.now.used
    on.cost refl c.search.invariant.spent)
    (let D : DeskView → Type 0 = λ z. Waits (g.D.Desk.desk c.search.desk) z in subst D (sym n.0.desk) (waits_none (g.D.Desk.desk c.search.desk)))

pub search-preserved-in-Passed : goal.search-preserved-in-Passed
search-preserved-in-Passed g c =
    let S : Listed → Type 0 = λ z. ListsOn c.args.kind c.args.inst.now c.args.cycle false (g.D.Desk.desk c.search.desk) (g.D.Desk.desk c.list_load.new.desk)
    c.search.standing c.list_load.new.standing c.search.units.used c.list_load.new.units.used
    c.list_load.new.units.left z in
    let on = subst S c.in-Passed.is c.in_ok-list_load.ensures.lists in
    let n = on.lists in
    let u = stands_with c.search.standing (with_mark c.search.standing.frame on.last) on.listing in
    let walking = walking_past None c.args.kind c.args.inst.now c.tasks-tasks.ensures.ranked c.args.cycle c.args.set.now c.args.most (g.D.Desk.desk c.args.desk.now) (g.D.Desk.desk c.search.desk) c.search.standing.passed.items c.search.walks.items c.search.standing.frame
    c.search.walk c.search.invariant.walking on.last on.light on.skips in
    let outlay = outlay_past None c.args.kind c.args.inst.now c.tasks-tasks.ensures.ranked c.args.cycle c.args.set.now c.args.most (g.D.Desk.desk c.args.desk.now) (g.D.Desk.desk c.search.desk) c.search.standing.passed.items c.search.walks.items c.search.standing.frame
    c.search.walk c.search.invariant.walking (c.search.units.used - c.args.units.now.used) (c.search.units.used - c.args.units.now.used + on.light)
    c.search.invariant.keeps c.search.invariant.outlay on.last on.light on.skips refl in
    let ready : IsReady c.args.inst.now c.args.cycle u = record { room = c.search.invariant.ready.room; paired = c.search.invariant.ready.paired } in
    record {
      keeps = keeps_both (g.D.Desk.desk c.args.desk.now) (g.D.Desk.desk c.search.desk) (g.D.Desk.desk c.list_load.new.desk) c.search.invariant.keeps c.list_load.ensures.keeps;
      pairs = c.list_load.ensures.pairs ∙ c.search.invariant.pairs;
      units = c.list_load.ensures.units ∙ c.search.invariant.units;
      spent = used_still c.list_load.new.units.used c.search.units.used (on.light + 1) c.args.units.now.used
          on.cost c.search.invariant.spent;
      walking = walking_on None c.args.kind c.args.inst.now c.tasks-tasks.ensures.ranked c.args.cycle c.args.set.now c.args.most (g.D.Desk.desk c.search.desk) (g.D.Desk.desk c.list_load.new.desk) u c.list_load.new.standing c.search.walks.items c.search.walk
          c.list_load.ensures.keeps walking n;
      beside = n.beside;
      ready = ready_with c.args.inst.now c.args.cycle u c.list_load.new.standing
          (with_cites (with_last u.frame n.load) n.cites) c.list_load.new.standing.listing n.stands
          ready;
      outlay = outlay_on None c.args.kind c.args.inst.now c.tasks-tasks.ensures.ranked c.args.cycle c.args.set.now c.args.most (g.D.Desk.desk c.search.desk) (g.D.Desk.desk c.list_load.new.desk) u c.list_load.new.standing c.search.walks.items c.search.walk
          c.list_load.ensures.keeps walking (g.D.Desk.desk c.args.desk.now) (c.search.units.used - c.args.units.now.used + on.light) (c.list_load.new.units.used - c.args.units.now.used) c.search.invariant.keeps
          outlay (past_one c.list_load.new.units.used c.search.units.used on.light 1 c.args.units.now.used
          on.cost refl c.search.invariant.spent) n;
    }

pub search-smaller-in-Passed : goal.search-smaller-in-Passed
search-smaller-in-Passed g c =
    let S : Listed → Type 0 = λ z. ListsOn c.args.kind c.args.inst.now c.args.cycle false (g.D.Desk.desk c.search.desk) (g.D.Desk.desk c.list_load.new.desk)
    c.search.standing c.list_load.new.standing c.search.units.used c.list_load.new.units.used
    c.list_load.new.units.left z in
    let on = subst S c.in-Passed.is c.in_ok-list_load.ensures.lists in
    let n = on.lists in
    omega (
      arith,
      on.cost,
      c.list_load.ensures.units,
      ap (λ (z : Standing). length z.passed.items) n.stands,
    )

pub returns-in-Empty-clause-keeps : goal.returns-in-Empty-clause-keeps
returns-in-Empty-clause-keeps g c =
    keeps_both (g.D.Desk.desk c.args.desk.now) (g.D.Desk.desk c.search.desk) (g.D.Desk.desk c.list_load.new.desk) c.search.invariant.keeps c.list_load.ensures.keeps

pub returns-in_err-loads_in_order-in-Empty-clause-keeps : goal.returns-in_err-loads_in_order-in-Empty-clause-keeps
returns-in_err-loads_in_order-in-Empty-clause-keeps g c =
    keeps_both (g.D.Desk.desk c.args.desk.now) (g.D.Desk.desk c.search.desk) (g.D.Desk.desk c.list_load.new.desk) c.search.invariant.keeps c.list_load.ensures.keeps

pub returns-in-Empty-clause-decides : goal.returns-in-Empty-clause-decides
returns-in-Empty-clause-decides g c =
    let S : Listed → Type 0 = λ z. ListsOn c.args.kind c.args.inst.now c.args.cycle false (g.D.Desk.desk c.search.desk) (g.D.Desk.desk c.list_load.new.desk)
    c.search.standing c.list_load.new.standing c.search.units.used c.list_load.new.units.used
    c.list_load.new.units.left z in
    let on = subst S c.in-Empty.is c.in_ok-list_load.ensures.lists in
    let n = on.lists in
    let u = stands_with c.search.standing (with_mark c.search.standing.frame on.last) on.listing in
    let walking = walking_past None c.args.kind c.args.inst.now c.tasks-tasks.ensures.ranked c.args.cycle c.args.set.now c.args.most (g.D.Desk.desk c.args.desk.now) (g.D.Desk.desk c.search.desk) c.search.standing.passed.items c.search.walks.items c.search.standing.frame
    c.search.walk c.search.invariant.walking on.last on.light on.skips in
    found_beside None c.args.kind c.args.inst.now c.tasks-tasks.ensures.ranked c.args.cycle c.args.set.now c.args.most (g.D.Desk.desk c.search.desk) (g.D.Desk.desk c.list_load.new.desk) u c.list_load.new.standing c.search.walks.items c.search.walk c.list_load.ensures.keeps
    walking n.0 c.trail_of-frames.result c.in_ok-loads_in_order-in-Empty.field-0 c.requires.bound
    c.trail_of-frames.ensures c.in_ok-loads_in_order-in-Empty.ensures n.1

pub returns-in-Empty-clause-ends : goal.returns-in-Empty-clause-ends
returns-in-Empty-clause-ends g c =
    let S : Listed → Type 0 = λ z. ListsOn c.args.kind c.args.inst.now c.args.cycle false (g.D.Desk.desk c.search.desk) (g.D.Desk.desk c.list_load.new.desk)
    c.search.standing c.list_load.new.standing c.search.units.used c.list_load.new.units.used
    c.list_load.new.units.left z in
    let on = subst S c.in-Empty.is c.in_ok-list_load.ensures.lists in
    let n = on.lists in
    let u = stands_with c.search.standing (with_mark c.search.standing.frame on.last) on.listing in
    let outlay = outlay_past None c.args.kind c.args.inst.now c.tasks-tasks.ensures.ranked c.args.cycle c.args.set.now c.args.most (g.D.Desk.desk c.args.desk.now) (g.D.Desk.desk c.search.desk) c.search.standing.passed.items c.search.walks.items c.search.standing.frame
    c.search.walk c.search.invariant.walking (c.search.units.used - c.args.units.now.used) (c.search.units.used - c.args.units.now.used + on.light)
    c.search.invariant.keeps c.search.invariant.outlay on.last on.light on.skips refl in
    leaves_listed None c.args.kind c.args.inst.now c.tasks-tasks.ensures.ranked c.args.cycle (g.D.Desk.desk c.args.desk.now) (g.D.Desk.desk c.search.desk) (g.D.Desk.desk c.list_load.new.desk) u.passed.items u.frame (c.search.units.used - c.args.units.now.used + on.light)
    c.search.invariant.keeps c.list_load.ensures.keeps outlay 0 (c.list_load.new.units.used - c.args.units.now.used) (at_least 1)
    (past_some c.list_load.new.units.used c.search.units.used on.light 1 c.args.units.now.used
    on.cost refl c.search.invariant.spent) (does_few None c.args.kind c.args.inst.now c.args.cycle (g.D.Desk.desk c.search.desk) (g.D.Desk.desk c.list_load.new.desk) (rest u.frame.set n.0.load) 0 0
    (n.0.listed.does None))

pub returns-in_err-loads_in_order-in-Empty-clause-accounts : goal.returns-in_err-loads_in_order-in-Empty-clause-accounts
returns-in_err-loads_in_order-in-Empty-clause-accounts g c =
    let S : Listed → Type 0 = λ z. ListsOn c.args.kind c.args.inst.now c.args.cycle false (g.D.Desk.desk c.search.desk) (g.D.Desk.desk c.list_load.new.desk)
    c.search.standing c.list_load.new.standing c.search.units.used c.list_load.new.units.used
    c.list_load.new.units.left z in
    let on = subst S c.in-Empty.is c.in_ok-list_load.ensures.lists in
    let n = on.lists in
    let u = stands_with c.search.standing (with_mark c.search.standing.frame on.last) on.listing in
    let outlay = outlay_past None c.args.kind c.args.inst.now c.tasks-tasks.ensures.ranked c.args.cycle c.args.set.now c.args.most (g.D.Desk.desk c.args.desk.now) (g.D.Desk.desk c.search.desk) c.search.standing.passed.items c.search.walks.items c.search.standing.frame
    c.search.walk c.search.invariant.walking (c.search.units.used - c.args.units.now.used) (c.search.units.used - c.args.units.now.used + on.light)
    c.search.invariant.keeps c.search.invariant.outlay on.last on.light on.skips refl in
    on_err c.from_residual-in_err-loads_in_order-in-Empty.result (Accounts None c.args.kind c.args.inst.now c.args.cycle (g.D.Desk.desk c.args.desk.now) (g.D.Desk.desk c.list_load.new.desk) [] (c.list_load.new.units.used - c.args.units.now.used) (c.list_load.new.units.used - c.args.units.now.used))
    (leaves_listed None c.args.kind c.args.inst.now c.tasks-tasks.ensures.ranked c.args.cycle (g.D.Desk.desk c.args.desk.now) (g.D.Desk.desk c.search.desk) (g.D.Desk.desk c.list_load.new.desk) u.passed.items u.frame (c.search.units.used - c.args.units.now.used + on.light)
    c.search.invariant.keeps c.list_load.ensures.keeps outlay 0 (c.list_load.new.units.used - c.args.units.now.used) (at_least 1)
    (past_some c.list_load.new.units.used c.search.units.used on.light 1 c.args.units.now.used
    on.cost refl c.search.invariant.spent) (does_few None c.args.kind c.args.inst.now c.args.cycle (g.D.Desk.desk c.search.desk) (g.D.Desk.desk c.list_load.new.desk) (rest u.frame.set n.0.load) 0 0
    (n.0.listed.does None)))

pub go_down-requires-clause-set : goal.go_down-requires-clause-set
go_down-requires-clause-set g c =
    let S : Listed → Type 0 = λ z. ListsOn c.args.kind c.args.inst.now c.args.cycle false (g.D.Desk.desk c.search.desk) (g.D.Desk.desk c.list_load.new.desk)
    c.search.standing c.list_load.new.standing c.search.units.used c.list_load.new.units.used
    c.list_load.new.units.left z in
    let on = subst S c.in-Open.is c.in_ok-list_load.ensures.lists in
    let n = on.lists in
    let u = stands_with c.search.standing (with_mark c.search.standing.frame on.last) on.listing in
    let walking = walking_past None c.args.kind c.args.inst.now c.tasks-tasks.ensures.ranked c.args.cycle c.args.set.now c.args.most (g.D.Desk.desk c.args.desk.now) (g.D.Desk.desk c.search.desk) c.search.standing.passed.items c.search.walks.items c.search.standing.frame
    c.search.walk c.search.invariant.walking on.last on.light on.skips in
    let P : List Bool → Type 0 = λ z. IsTaskSet c.args.inst.now z in
    subst P (sym n.1.0) (rest_tasks c.args.inst.now u.frame.set n.0.load
    walking.chain.tasks)

pub go_down-requires-clause-some : goal.go_down-requires-clause-some
go_down-requires-clause-some g c =
    let S : Listed → Type 0 = λ z. ListsOn c.args.kind c.args.inst.now c.args.cycle false (g.D.Desk.desk c.search.desk) (g.D.Desk.desk c.list_load.new.desk)
    c.search.standing c.list_load.new.standing c.search.units.used c.list_load.new.units.used
    c.list_load.new.units.left z in
    let on = subst S c.in-Open.is c.in_ok-list_load.ensures.lists in
    let n = on.lists in
    let walking = walking_past None c.args.kind c.args.inst.now c.tasks-tasks.ensures.ranked c.args.cycle c.args.set.now c.args.most (g.D.Desk.desk c.args.desk.now) (g.D.Desk.desk c.search.desk) c.search.standing.passed.items c.search.walks.items c.search.standing.frame
    c.search.walk c.search.invariant.walking on.last on.light on.skips in
    omega (arith, walking.chain.stations, ap (λ (z : Standing). z.frame.most) n.0.stands)

pub go_down-requires-clause-beside : goal.go_down-requires-clause-beside
go_down-requires-clause-beside g c =
    let S : Listed → Type 0 = λ z. ListsOn c.args.kind c.args.inst.now c.args.cycle false (g.D.Desk.desk c.search.desk) (g.D.Desk.desk c.list_load.new.desk)
    c.search.standing c.list_load.new.standing c.search.units.used c.list_load.new.units.used
    c.list_load.new.units.left z in
    let on = subst S c.in-Open.is c.in_ok-list_load.ensures.lists in
    let n = on.lists in
    n.0.beside

pub go_down-requires-clause-ready : goal.go_down-requires-clause-ready
go_down-requires-clause-ready g c =
    let S : Listed → Type 0 = λ z. ListsOn c.args.kind c.args.inst.now c.args.cycle false (g.D.Desk.desk c.search.desk) (g.D.Desk.desk c.list_load.new.desk)
    c.search.standing c.list_load.new.standing c.search.units.used c.list_load.new.units.used
    c.list_load.new.units.left z in
    let on = subst S c.in-Open.is c.in_ok-list_load.ensures.lists in
    let n = on.lists in
    let u = stands_with c.search.standing (with_mark c.search.standing.frame on.last) on.listing in
    let ready : IsReady c.args.inst.now c.args.cycle u = record { room = c.search.invariant.ready.room; paired = c.search.invariant.ready.paired } in
    ready_with c.args.inst.now c.args.cycle u c.list_load.new.standing
    (with_last u.frame n.0.load) c.list_load.new.standing.listing n.0.stands ready

pub returns-in_err-go_down-in-Open-clause-keeps : goal.returns-in_err-go_down-in-Open-clause-keeps
returns-in_err-go_down-in-Open-clause-keeps g c =
    keeps_both (g.D.Desk.desk c.args.desk.now) (g.D.Desk.desk c.list_load.new.desk) (g.D.Desk.desk c.takes_up.new.desk) (keeps_both (g.D.Desk.desk c.args.desk.now) (g.D.Desk.desk c.search.desk) (g.D.Desk.desk c.list_load.new.desk) c.search.invariant.keeps c.list_load.ensures.keeps) c.takes_up.ensures.waits.keeps

pub returns-in_err-go_down-in-Open-clause-accounts : goal.returns-in_err-go_down-in-Open-clause-accounts
returns-in_err-go_down-in-Open-clause-accounts g c =
    let S : Listed → Type 0 = λ z. ListsOn c.args.kind c.args.inst.now c.args.cycle false (g.D.Desk.desk c.search.desk) (g.D.Desk.desk c.list_load.new.desk)
    c.search.standing c.list_load.new.standing c.search.units.used c.list_load.new.units.used
    c.list_load.new.units.left z in
    let on = subst S c.in-Open.is c.in_ok-list_load.ensures.lists in
    let n = on.lists in
    let u = stands_with c.search.standing (with_mark c.search.standing.frame on.last) on.listing in
    let outlay = outlay_past None c.args.kind c.args.inst.now c.tasks-tasks.ensures.ranked c.args.cycle c.args.set.now c.args.most (g.D.Desk.desk c.args.desk.now) (g.D.Desk.desk c.search.desk) c.search.standing.passed.items c.search.walks.items c.search.standing.frame
    c.search.walk c.search.invariant.walking (c.search.units.used - c.args.units.now.used) (c.search.units.used - c.args.units.now.used + on.light)
    c.search.invariant.keeps c.search.invariant.outlay on.last on.light on.skips refl in
    on_err c.from_residual-in_err-go_down-in-Open.result (Accounts None c.args.kind c.args.inst.now c.args.cycle (g.D.Desk.desk c.args.desk.now) (g.D.Desk.desk c.takes_up.new.desk) [] (c.list_load.new.units.used - c.args.units.now.used) (c.list_load.new.units.used - c.args.units.now.used))
    (leaves_listed None c.args.kind c.args.inst.now c.tasks-tasks.ensures.ranked c.args.cycle (g.D.Desk.desk c.args.desk.now) (g.D.Desk.desk c.search.desk) (g.D.Desk.desk c.takes_up.new.desk) u.passed.items u.frame (c.search.units.used - c.args.units.now.used + on.light)
    c.search.invariant.keeps (keeps_both (g.D.Desk.desk c.search.desk) (g.D.Desk.desk c.list_load.new.desk) (g.D.Desk.desk c.takes_up.new.desk) c.list_load.ensures.keeps c.takes_up.ensures.waits.keeps) outlay 0 (c.list_load.new.units.used - c.args.units.now.used) (at_least 1)
    (past_some c.list_load.new.units.used c.search.units.used on.light 1 c.args.units.now.used
    on.cost refl c.search.invariant.spent) (few_then None c.args.kind c.args.inst.now c.args.cycle (g.D.Desk.desk c.search.desk) (g.D.Desk.desk c.list_load.new.desk) (g.D.Desk.desk c.takes_up.new.desk) 0 0 c.list_load.ensures.keeps (does_few None c.args.kind c.args.inst.now c.args.cycle (g.D.Desk.desk c.search.desk) (g.D.Desk.desk c.list_load.new.desk) (rest u.frame.set n.0.load) 0 0
    (n.0.listed.does None))
    c.takes_up.ensures.waits))

pub returns-in_err-push_on-in-Open-clause-keeps : goal.returns-in_err-push_on-in-Open-clause-keeps
returns-in_err-push_on-in-Open-clause-keeps g c =
    keeps_both (g.D.Desk.desk c.args.desk.now) (g.D.Desk.desk c.list_load.new.desk) (g.D.Desk.desk c.takes_up.new.desk) (keeps_both (g.D.Desk.desk c.args.desk.now) (g.D.Desk.desk c.search.desk) (g.D.Desk.desk c.list_load.new.desk) c.search.invariant.keeps c.list_load.ensures.keeps) c.takes_up.ensures.waits.keeps

pub returns-in_err-push_on-in-Open-clause-accounts : goal.returns-in_err-push_on-in-Open-clause-accounts
returns-in_err-push_on-in-Open-clause-accounts g c =
    let S : Listed → Type 0 = λ z. ListsOn c.args.kind c.args.inst.now c.args.cycle false (g.D.Desk.desk c.search.desk) (g.D.Desk.desk c.list_load.new.desk)
    c.search.standing c.list_load.new.standing c.search.units.used c.list_load.new.units.used
    c.list_load.new.units.left z in
    let on = subst S c.in-Open.is c.in_ok-list_load.ensures.lists in
    let n = on.lists in
    let u = stands_with c.search.standing (with_mark c.search.standing.frame on.last) on.listing in
    let outlay = outlay_past None c.args.kind c.args.inst.now c.tasks-tasks.ensures.ranked c.args.cycle c.args.set.now c.args.most (g.D.Desk.desk c.args.desk.now) (g.D.Desk.desk c.search.desk) c.search.standing.passed.items c.search.walks.items c.search.standing.frame
    c.search.walk c.search.invariant.walking (c.search.units.used - c.args.units.now.used) (c.search.units.used - c.args.units.now.used + on.light)
    c.search.invariant.keeps c.search.invariant.outlay on.last on.light on.skips refl in
    on_err c.from_residual-in_err-push_on-in-Open.result (Accounts None c.args.kind c.args.inst.now c.args.cycle (g.D.Desk.desk c.args.desk.now) (g.D.Desk.desk c.takes_up.new.desk) [] (c.list_load.new.units.used - c.args.units.now.used) (c.list_load.new.units.used - c.args.units.now.used))
    (leaves_listed None c.args.kind c.args.inst.now c.tasks-tasks.ensures.ranked c.args.cycle (g.D.Desk.desk c.args.desk.now) (g.D.Desk.desk c.search.desk) (g.D.Desk.desk c.takes_up.new.desk) u.passed.items u.frame (c.search.units.used - c.args.units.now.used + on.light)
    c.search.invariant.keeps (keeps_both (g.D.Desk.desk c.search.desk) (g.D.Desk.desk c.list_load.new.desk) (g.D.Desk.desk c.takes_up.new.desk) c.list_load.ensures.keeps c.takes_up.ensures.waits.keeps) outlay 0 (c.list_load.new.units.used - c.args.units.now.used) (at_least 1)
    (past_some c.list_load.new.units.used c.search.units.used on.light 1 c.args.units.now.used
    on.cost refl c.search.invariant.spent) (few_then None c.args.kind c.args.inst.now c.args.cycle (g.D.Desk.desk c.search.desk) (g.D.Desk.desk c.list_load.new.desk) (g.D.Desk.desk c.takes_up.new.desk) 0 0 c.list_load.ensures.keeps (does_few None c.args.kind c.args.inst.now c.args.cycle (g.D.Desk.desk c.search.desk) (g.D.Desk.desk c.list_load.new.desk) (rest u.frame.set n.0.load) 0 0
    (n.0.listed.does None))
    c.takes_up.ensures.waits))

pub search-preserved : goal.search-preserved
search-preserved g c =
    let S : Listed → Type 0 = λ z. ListsOn c.args.kind c.args.inst.now c.args.cycle false (g.D.Desk.desk c.search.desk) (g.D.Desk.desk c.list_load.new.desk)
    c.search.standing c.list_load.new.standing c.search.units.used c.list_load.new.units.used
    c.list_load.new.units.left z in
    let on = subst S c.in-Open.is c.in_ok-list_load.ensures.lists in
    let n = on.lists in
    let u = stands_with c.search.standing (with_mark c.search.standing.frame on.last) on.listing in
    let walking = walking_past None c.args.kind c.args.inst.now c.tasks-tasks.ensures.ranked c.args.cycle c.args.set.now c.args.most (g.D.Desk.desk c.args.desk.now) (g.D.Desk.desk c.search.desk) c.search.standing.passed.items c.search.walks.items c.search.standing.frame
    c.search.walk c.search.invariant.walking on.last on.light on.skips in
    let outlay = outlay_past None c.args.kind c.args.inst.now c.tasks-tasks.ensures.ranked c.args.cycle c.args.set.now c.args.most (g.D.Desk.desk c.args.desk.now) (g.D.Desk.desk c.search.desk) c.search.standing.passed.items c.search.walks.items c.search.standing.frame
    c.search.walk c.search.invariant.walking (c.search.units.used - c.args.units.now.used) (c.search.units.used - c.args.units.now.used + on.light)
    c.search.invariant.keeps c.search.invariant.outlay on.last on.light on.skips refl in
    let ready : IsReady c.args.inst.now c.args.cycle u = record { room = c.search.invariant.ready.room; paired = c.search.invariant.ready.paired } in
    record {
      keeps = keeps_both (g.D.Desk.desk c.args.desk.now) (g.D.Desk.desk c.list_load.new.desk) (g.D.Desk.desk c.takes_up.new.desk) (keeps_both (g.D.Desk.desk c.args.desk.now) (g.D.Desk.desk c.search.desk) (g.D.Desk.desk c.list_load.new.desk) c.search.invariant.keeps c.list_load.ensures.keeps) c.takes_up.ensures.waits.keeps;
      pairs = c.list_load.ensures.pairs ∙ c.search.invariant.pairs;
      units = c.list_load.ensures.units ∙ c.search.invariant.units;
      spent = used_still c.list_load.new.units.used c.search.units.used (on.light + 1) c.args.units.now.used
          on.cost c.search.invariant.spent;
      walking = walking_off None c.args.kind c.args.inst.now c.tasks-tasks.ensures.ranked c.args.cycle c.args.set.now c.args.most (g.D.Desk.desk c.search.desk) (g.D.Desk.desk c.list_load.new.desk) u c.list_load.new.standing c.search.walks.items c.search.walk
          c.list_load.ensures.keeps walking n.0 (g.D.Desk.desk c.takes_up.new.desk) c.takes_up.ensures.waits;
      beside = n.0.beside;
      ready = ready_with c.args.inst.now c.args.cycle u c.list_load.new.standing
          (with_last u.frame n.0.load) c.list_load.new.standing.listing n.0.stands ready;
      outlay = outlay_off None c.args.kind c.args.inst.now c.tasks-tasks.ensures.ranked c.args.cycle c.args.set.now c.args.most (g.D.Desk.desk c.search.desk) (g.D.Desk.desk c.list_load.new.desk) u c.list_load.new.standing c.search.walks.items c.search.walk
          c.list_load.ensures.keeps walking n.0 (g.D.Desk.desk c.takes_up.new.desk) c.takes_up.ensures.waits (g.D.Desk.desk c.args.desk.now)
          (c.search.units.used - c.args.units.now.used + on.light) (c.list_load.new.units.used - c.args.units.now.used) c.search.invariant.keeps outlay (past_one c.list_load.new.units.used c.search.units.used on.light 1 c.args.units.now.used
          on.cost refl c.search.invariant.spent);
    }

pub search-smaller : goal.search-smaller
search-smaller g c =
    let S : Listed → Type 0 = λ z. ListsOn c.args.kind c.args.inst.now c.args.cycle false (g.D.Desk.desk c.search.desk) (g.D.Desk.desk c.list_load.new.desk)
    c.search.standing c.list_load.new.standing c.search.units.used c.list_load.new.units.used
    c.list_load.new.units.left z in
    let on = subst S c.in-Open.is c.in_ok-list_load.ensures.lists in
    let n = on.lists in
    omega (
      arith,
      on.cost,
      c.list_load.ensures.units,
      ap (λ (z : Standing). length z.passed.items) n.0.stands,
    )

pub search-preserved-then-takes_up : goal.search-preserved-then-takes_up
search-preserved-then-takes_up g c =
    let S : Listed → Type 0 = λ z. ListsOn c.args.kind c.args.inst.now c.args.cycle false (g.D.Desk.desk c.search.desk) (g.D.Desk.desk c.list_load.new.desk)
    c.search.standing c.list_load.new.standing c.search.units.used c.list_load.new.units.used
    c.list_load.new.units.left z in
    let on = subst S c.in-Open.is c.in_ok-list_load.ensures.lists in
    let n = on.lists in
    let u = stands_with c.search.standing (with_mark c.search.standing.frame on.last) on.listing in
    let walking = walking_past None c.args.kind c.args.inst.now c.tasks-tasks.ensures.ranked c.args.cycle c.args.set.now c.args.most (g.D.Desk.desk c.args.desk.now) (g.D.Desk.desk c.search.desk) c.search.standing.passed.items c.search.walks.items c.search.standing.frame
    c.search.walk c.search.invariant.walking on.last on.light on.skips in
    let outlay = outlay_past None c.args.kind c.args.inst.now c.tasks-tasks.ensures.ranked c.args.cycle c.args.set.now c.args.most (g.D.Desk.desk c.args.desk.now) (g.D.Desk.desk c.search.desk) c.search.standing.passed.items c.search.walks.items c.search.standing.frame
    c.search.walk c.search.invariant.walking (c.search.units.used - c.args.units.now.used) (c.search.units.used - c.args.units.now.used + on.light)
    c.search.invariant.keeps c.search.invariant.outlay on.last on.light on.skips refl in
    let d = c.in_ok-go_down-in-Open.ensures.down in
    record {
      keeps = keeps_both (g.D.Desk.desk c.args.desk.now) (g.D.Desk.desk c.list_load.new.desk) (g.D.Desk.desk c.takes_up.new.desk) (keeps_both (g.D.Desk.desk c.args.desk.now) (g.D.Desk.desk c.search.desk) (g.D.Desk.desk c.list_load.new.desk) c.search.invariant.keeps c.list_load.ensures.keeps) c.takes_up.ensures.waits.keeps;
      pairs = c.go_down.ensures.pairs ∙ (c.list_load.ensures.pairs ∙ c.search.invariant.pairs);
      units = c.list_load.ensures.units ∙ c.search.invariant.units;
      spent = used_still c.list_load.new.units.used c.search.units.used (on.light + 1) c.args.units.now.used
          on.cost c.search.invariant.spent;
      walking = walking_down None c.args.kind c.args.inst.now c.tasks-tasks.ensures.ranked c.args.cycle c.args.set.now c.args.most (g.D.Desk.desk c.search.desk) (g.D.Desk.desk c.list_load.new.desk) u c.list_load.new.standing c.search.walks.items c.search.walk
          c.list_load.ensures.keeps walking n.0 (g.D.Desk.desk c.takes_up.new.desk) c.takes_up.ensures.waits c.in-Open.rest c.go_down.new.standing d c.push_on.new.stack.items
          c.in_ok-push_on-in-Open.ensures.items n.1.0 n.1.1;
      beside = d.beside;
      ready = d.ready;
      outlay = outlay_down_at None c.args.kind c.args.inst.now c.tasks-tasks.ensures.ranked c.args.cycle c.args.set.now c.args.most (g.D.Desk.desk c.search.desk) (g.D.Desk.desk c.list_load.new.desk) u c.list_load.new.standing c.search.walks.items c.search.walk
          c.list_load.ensures.keeps walking n.0 (g.D.Desk.desk c.takes_up.new.desk) c.takes_up.ensures.waits c.in-Open.rest c.go_down.new.standing d (g.D.Desk.desk c.args.desk.now) (c.search.units.used - c.args.units.now.used + on.light) (c.list_load.new.units.used - c.args.units.now.used)
          c.search.invariant.keeps outlay (past_one c.list_load.new.units.used c.search.units.used on.light 1 c.args.units.now.used
          on.cost refl c.search.invariant.spent);
    }

pub search-smaller-then-takes_up : goal.search-smaller-then-takes_up
search-smaller-then-takes_up g c =
    let S : Listed → Type 0 = λ z. ListsOn c.args.kind c.args.inst.now c.args.cycle false (g.D.Desk.desk c.search.desk) (g.D.Desk.desk c.list_load.new.desk)
    c.search.standing c.list_load.new.standing c.search.units.used c.list_load.new.units.used
    c.list_load.new.units.left z in
    let on = subst S c.in-Open.is c.in_ok-list_load.ensures.lists in
    let n = on.lists in
    omega (
      arith,
      on.cost,
      c.list_load.ensures.units,
      ap (λ (z : Standing). length z.passed.items) n.0.stands,
      ap (λ (z : List OpenFrame). length z) c.in_ok-go_down-in-Open.ensures.down.passed,
      length-append c.list_load.new.standing.passed.items (c.list_load.new.standing.frame ∷ []),
      ap all_left c.in_ok-push_on-in-Open.ensures.items,
      all_push c.search.walks.items c.search.walk,
    )

pub returns-in_err-standing-clause-pairs : goal.returns-in_err-standing-clause-pairs
returns-in_err-standing-clause-pairs g c =
    c.begin_standing.ensures.pairs

pub returns-in_err-standing-clause-units : goal.returns-in_err-standing-clause-units
returns-in_err-standing-clause-units g c =
    refl

pub returns-in_err-list_load-clause-pairs : goal.returns-in_err-list_load-clause-pairs
returns-in_err-list_load-clause-pairs g c =
    c.list_load.ensures.pairs ∙ c.search.invariant.pairs

pub returns-in_err-list_load-clause-units : goal.returns-in_err-list_load-clause-units
returns-in_err-list_load-clause-units g c =
    c.list_load.ensures.units ∙ c.search.invariant.units

pub returns-in_err-settled-in-Ended-clause-pairs : goal.returns-in_err-settled-in-Ended-clause-pairs
returns-in_err-settled-in-Ended-clause-pairs g c =
    c.list_load.ensures.pairs ∙ c.search.invariant.pairs

pub returns-in_err-settled-in-Ended-clause-units : goal.returns-in_err-settled-in-Ended-clause-units
returns-in_err-settled-in-Ended-clause-units g c =
    c.list_load.ensures.units ∙ c.search.invariant.units

pub returns-in-Spent-clause-pairs : goal.returns-in-Spent-clause-pairs
returns-in-Spent-clause-pairs g c =
    c.list_load.ensures.pairs ∙ c.search.invariant.pairs

pub returns-in-Spent-clause-units : goal.returns-in-Spent-clause-units
returns-in-Spent-clause-units g c =
    c.list_load.ensures.units ∙ c.search.invariant.units

pub returns-in_err-loads_in_order-in-Empty-clause-pairs : goal.returns-in_err-loads_in_order-in-Empty-clause-pairs
returns-in_err-loads_in_order-in-Empty-clause-pairs g c =
    c.list_load.ensures.pairs ∙ c.search.invariant.pairs

pub returns-in_err-loads_in_order-in-Empty-clause-units : goal.returns-in_err-loads_in_order-in-Empty-clause-units
returns-in_err-loads_in_order-in-Empty-clause-units g c =
    c.list_load.ensures.units ∙ c.search.invariant.units

pub returns-in-Empty-clause-pairs : goal.returns-in-Empty-clause-pairs
returns-in-Empty-clause-pairs g c =
    c.list_load.ensures.pairs ∙ c.search.invariant.pairs

pub returns-in-Empty-clause-units : goal.returns-in-Empty-clause-units
returns-in-Empty-clause-units g c =
    c.list_load.ensures.units ∙ c.search.invariant.units

pub returns-in_err-up-in-Ended-clause-pairs : goal.returns-in_err-up-in-Ended-clause-pairs
returns-in_err-up-in-Ended-clause-pairs g c =
    c.go_up.ensures.pairs ∙ (c.list_load.ensures.pairs ∙ c.search.invariant.pairs)

pub returns-in_err-up-in-Ended-clause-units : goal.returns-in_err-up-in-Ended-clause-units
returns-in_err-up-in-Ended-clause-units g c =
    c.list_load.ensures.units ∙ c.search.invariant.units

pub returns-then-not-up-clause-pairs : goal.returns-then-not-up-clause-pairs
returns-then-not-up-clause-pairs g c =
    c.go_up.ensures.pairs ∙ (c.list_load.ensures.pairs ∙ c.search.invariant.pairs)

pub returns-then-not-up-clause-units : goal.returns-then-not-up-clause-units
returns-then-not-up-clause-units g c =
    c.list_load.ensures.units ∙ c.search.invariant.units

pub returns-then-is_ended-clause-pairs : goal.returns-then-is_ended-clause-pairs
returns-then-is_ended-clause-pairs g c =
    c.go_up.ensures.pairs ∙ (c.list_load.ensures.pairs ∙ c.search.invariant.pairs)

pub returns-then-is_ended-clause-units : goal.returns-then-is_ended-clause-units
returns-then-is_ended-clause-units g c =
    c.list_load.ensures.units ∙ c.search.invariant.units

pub returns-in_err-go_down-in-Open-clause-pairs : goal.returns-in_err-go_down-in-Open-clause-pairs
returns-in_err-go_down-in-Open-clause-pairs g c =
    c.go_down.ensures.pairs ∙ (c.list_load.ensures.pairs ∙ c.search.invariant.pairs)

pub returns-in_err-go_down-in-Open-clause-units : goal.returns-in_err-go_down-in-Open-clause-units
returns-in_err-go_down-in-Open-clause-units g c =
    c.list_load.ensures.units ∙ c.search.invariant.units

pub returns-in_err-push_on-in-Open-clause-pairs : goal.returns-in_err-push_on-in-Open-clause-pairs
returns-in_err-push_on-in-Open-clause-pairs g c =
    c.go_down.ensures.pairs ∙ (c.list_load.ensures.pairs ∙ c.search.invariant.pairs)

pub returns-in_err-push_on-in-Open-clause-units : goal.returns-in_err-push_on-in-Open-clause-units
returns-in_err-push_on-in-Open-clause-units g c =
    c.list_load.ensures.units ∙ c.search.invariant.units

pub list_load-requires-clause-units : goal.list_load-requires-clause-units
list_load-requires-clause-units g c =
    omega (arith, c.search.invariant.units, c.requires.units)

pub list_load-requires-clause-beside : goal.list_load-requires-clause-beside
list_load-requires-clause-beside g c =
    c.search.invariant.beside

pub trail_of-frames-requires : goal.trail_of-frames-requires
trail_of-frames-requires g c =
    let S : Listed → Type 0 = λ z. ListsOn c.args.kind c.args.inst.now c.args.cycle false (g.D.Desk.desk c.search.desk) (g.D.Desk.desk c.list_load.new.desk)
    c.search.standing c.list_load.new.standing c.search.units.used c.list_load.new.units.used
    c.list_load.new.units.left z in
    let on = subst S c.in-Empty.is c.in_ok-list_load.ensures.lists in
    let n = on.lists in
    let u = stands_with c.search.standing (with_mark c.search.standing.frame on.last) on.listing in
    let ready : IsReady c.args.inst.now c.args.cycle u = record { room = c.search.invariant.ready.room; paired = c.search.invariant.ready.paired } in
    (ready_with c.args.inst.now c.args.cycle u c.list_load.new.standing (with_last u.frame n.0.load)
    c.list_load.new.standing.listing n.0.stands ready).room
