use Rattle.std.proofs.Common.{◌∙◌, sym, ap, refl, true, Bool, List}
use Rattle.std.specs.Prelude.{slice_set}
use Rattle.lemma_core.specs.Desks.{entries, Keeps}
use Rattle.lemma_core.proofs.HistoryGrows.{keeps_both}
use Rattle.station_search.proofs.Events.{for_still, waits_none}
use Rattle.station_search.proofs.Standins.{kept_partner, stands_in, turned}
use Rattle.station_search.proofs.WaitFacts.{waits_both}
use Rattle.station_search.proofs.swaps.swap_out.Goals as goal

pub returns-in-Some-found-clause-found : goal.returns-in-Some-found-clause-found
returns-in-Some-found-clause-found g c =
    let k : Keeps (g.D.Desk.desk c.args.desk.now) (g.D.Desk.desk c.find-found.new.desk) =
    keeps_both (g.D.Desk.desk c.args.desk.now) (g.D.Desk.desk c.loop-k.desk) (g.D.Desk.desk c.find-found.new.desk)
    c.loop-k.invariant.waits.keeps c.find-found.ensures.waits.keeps in
    stands_in c.args.inst.now (entries (g.D.Desk.desk c.find-found.new.desk)) c.args.set.now c.insert.new.self c.args.most
    c.args.cycle (g.D.Desk.desk c.find-found.new.desk).about.cycle c.args.out_task c.in-Some.in_task c.in-Some-found.cite
    (kept_partner c.args.inst.now c.args.out_task c.loop-k.k c.in-Some.in_task c.partner.result c.in-Some.is
    c.partner.ensures) c.requires.task (sym c.has.ensures ∙ c.if-has.false)
    (c.insert.ensures.value ∙ ap (λ (z : List Bool). slice_set z c.in-Some.in_task true)
    (c.loop-k.invariant.swapped ∙ c.requires.swapped))
    (for_still (g.D.Desk.desk c.args.desk.now) (g.D.Desk.desk c.find-found.new.desk) c.args.inst.now c.args.kind c.args.cycle
    c.requires.desk k).same_cycle c.in-Some-found.ensures.finds

pub returns-in-Some-found-clause-waits : goal.returns-in-Some-found-clause-waits
returns-in-Some-found-clause-waits g c = waits_both (g.D.Desk.desk c.args.desk.now) (g.D.Desk.desk c.loop-k.desk)
    (g.D.Desk.desk c.find-found.new.desk) c.loop-k.invariant.waits c.find-found.ensures.waits

pub loop-k-init : goal.loop-k-init
loop-k-init g c = record { waits = waits_none (g.D.Desk.desk c.args.desk.now); swapped = refl }

-- the partner isn't in the set without the task, so taken out again it leaves that
pub returns-in-Some-found-clause-swapped : goal.returns-in-Some-found-clause-swapped
returns-in-Some-found-clause-swapped g c = turned c.args.set.now c.args.out_task c.in-Some.in_task c.args.swapped.now
    c.loop-k.swapped c.insert.new.self c.remove.new.self (sym c.has.ensures ∙ c.if-has.false) c.requires.swapped
    c.loop-k.invariant.swapped c.insert.ensures.value c.remove.ensures.value

pub loop-k-preserved : goal.loop-k-preserved
loop-k-preserved g c = record {
  waits = waits_both (g.D.Desk.desk c.args.desk.now) (g.D.Desk.desk c.loop-k.desk)
      (g.D.Desk.desk c.find-found.new.desk) c.loop-k.invariant.waits c.find-found.ensures.waits;
  swapped = turned c.args.set.now c.args.out_task c.in-Some.in_task c.args.swapped.now c.loop-k.swapped
      c.insert.new.self c.remove.new.self (sym c.has.ensures ∙ c.if-has.false) c.requires.swapped
      c.loop-k.invariant.swapped c.insert.ensures.value c.remove.ensures.value;
}
