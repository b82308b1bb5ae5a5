use Rattle.std.proofs.Common.{◌-◌, ℕ, Option, IfSome, refl, sym, subst, arith}
use Rattle.lemma_core.proofs.HistoryGrows.{keeps_none, keeps_both}
use Rattle.station_search.specs.Decide.{IsPairing}
use Rattle.station_search.specs.pairs.Sharing.{Sharing}
use Rattle.round_helpers.proofs.WorkFacts.{works_none, works_as, works_more, works_offered}
use Rattle.round_helpers.proofs.piece_work.do_pieces.Goals as goal

pub returns-in_default-clause-works : goal.returns-in_default-clause-works
returns-in_default-clause-works g c =
    let n : ℕ = c.args.units.now.used - c.args.units.now.used in
    works_as c.args.inst.now c.args.question.cycle (g.D.Desk.desk c.args.desk.now) (g.D.Desk.desk c.args.desk.now) 0 n
    0 n (omega arith) (omega arith)
    (works_none c.args.inst.now c.args.question.cycle (g.D.Desk.desk c.args.desk.now))

pub working-init : goal.working-init
working-init g c =
    let n : ℕ = c.args.units.now.used - c.args.units.now.used in
    record {
      keeps = keeps_none (g.D.Desk.desk c.args.desk.now);
      pairs = c.in-Ok.ensures;
      sum = refl;
      spent = omega arith;
      works = works_as c.args.inst.now c.args.question.cycle (g.D.Desk.desk c.args.desk.now)
          (g.D.Desk.desk c.args.desk.now) 0 n 0 n (omega arith) (omega arith)
          (works_none c.args.inst.now c.args.question.cycle (g.D.Desk.desk c.args.desk.now));
      hand = c.requires.hand;
    }

pub returns-in-Some-told_end-clause-keeps : goal.returns-in-Some-told_end-clause-keeps
returns-in-Some-told_end-clause-keeps g c =
    keeps_both (g.D.Desk.desk c.args.desk.now) (g.D.Desk.desk c.working.desk) (g.D.Desk.desk c.told_end.new.desk)
    c.working.invariant.keeps c.told_end.ensures.keeps

pub returns-in-Some-told_end-clause-works : goal.returns-in-Some-told_end-clause-works
returns-in-Some-told_end-clause-works g c =
    works_offered c.args.inst.now c.args.question.cycle (g.D.Desk.desk c.args.desk.now) (g.D.Desk.desk c.working.desk)
    (g.D.Desk.desk c.told_end.new.desk) (c.working.units.used - c.args.units.now.used) c.working.invariant.keeps
    c.told_end.ensures.keeps c.working.invariant.works c.told_end.ensures.works

pub returns-in-Some-told_end-clause-ends : goal.returns-in-Some-told_end-clause-ends
returns-in-Some-told_end-clause-ends g c = c.in-Some-told_end.ensures.ends c.working.units.left

pub returns-in_default-take-clause-keeps : goal.returns-in_default-take-clause-keeps
returns-in_default-take-clause-keeps g c =
    let a = g.D.Desk.desk c.args.desk.now in
    let t = g.D.Desk.desk c.told_end.new.desk in
    let both = keeps_both a (g.D.Desk.desk c.working.desk) t c.working.invariant.keeps c.told_end.ensures.keeps in
    keeps_both a t (g.D.Desk.desk c.ask_last.new.desk) both c.ask_last.ensures.keeps

pub returns-in_default-take-clause-works : goal.returns-in_default-take-clause-works
returns-in_default-take-clause-works g c =
    let a = g.D.Desk.desk c.args.desk.now in
    let b = g.D.Desk.desk c.working.desk in
    let t = g.D.Desk.desk c.told_end.new.desk in
    works_more c.args.inst.now c.args.question.cycle a t (g.D.Desk.desk c.ask_last.new.desk) c.args.units.now.used
    c.working.units.used c.ask_last.new.units.used c.working.invariant.spent c.ask_last.ensures.spent
    (keeps_both a b t c.working.invariant.keeps c.told_end.ensures.keeps) c.ask_last.ensures.keeps
    (works_offered c.args.inst.now c.args.question.cycle a b t (c.working.units.used - c.args.units.now.used)
    c.working.invariant.keeps c.told_end.ensures.keeps c.working.invariant.works c.told_end.ensures.works)
    c.ask_last.ensures.works

pub returns-in-Some-ended-clause-keeps : goal.returns-in-Some-ended-clause-keeps
returns-in-Some-ended-clause-keeps g c =
    let a = g.D.Desk.desk c.args.desk.now in
    let t = g.D.Desk.desk c.told_end.new.desk in
    let both = keeps_both a (g.D.Desk.desk c.working.desk) t c.working.invariant.keeps c.told_end.ensures.keeps in
    keeps_both a t (g.D.Desk.desk c.do_piece-ended.new.desk) both c.do_piece-ended.ensures.keeps

pub returns-in-Some-ended-clause-works : goal.returns-in-Some-ended-clause-works
returns-in-Some-ended-clause-works g c =
    let a = g.D.Desk.desk c.args.desk.now in
    let b = g.D.Desk.desk c.working.desk in
    let t = g.D.Desk.desk c.told_end.new.desk in
    works_more c.args.inst.now c.args.question.cycle a t (g.D.Desk.desk c.do_piece-ended.new.desk)
    c.args.units.now.used c.working.units.used c.do_piece-ended.new.units.used c.working.invariant.spent
    c.do_piece-ended.ensures.spent (keeps_both a b t c.working.invariant.keeps c.told_end.ensures.keeps)
    c.do_piece-ended.ensures.keeps
    (works_offered c.args.inst.now c.args.question.cycle a b t (c.working.units.used - c.args.units.now.used)
    c.working.invariant.keeps c.told_end.ensures.keeps c.working.invariant.works c.told_end.ensures.works)
    c.do_piece-ended.ensures.works

pub working-preserved : goal.working-preserved
working-preserved g c =
    let a = g.D.Desk.desk c.args.desk.now in
    let b = g.D.Desk.desk c.working.desk in
    let t = g.D.Desk.desk c.told_end.new.desk in
    let d = g.D.Desk.desk c.do_piece-ended.new.desk in
    let both = keeps_both a b t c.working.invariant.keeps c.told_end.ensures.keeps in
    record {
      keeps = keeps_both a t d both c.do_piece-ended.ensures.keeps;
      pairs =
          let P : Option Sharing → Type 0 =
          λ z. IfSome z (IsPairing c.args.inst.now c.args.question.kind c.args.question.cycle) in
          subst P (sym c.do_piece-ended.ensures.pairs) c.working.invariant.pairs;
      sum = omega (arith, c.working.invariant.sum, c.do_piece-ended.ensures.units);
      spent = omega (arith, c.working.invariant.spent, c.do_piece-ended.ensures.spent);
      works = works_more c.args.inst.now c.args.question.cycle a t d c.args.units.now.used c.working.units.used
          c.do_piece-ended.new.units.used c.working.invariant.spent c.do_piece-ended.ensures.spent both
          c.do_piece-ended.ensures.keeps
          (works_offered c.args.inst.now c.args.question.cycle a b t (c.working.units.used - c.args.units.now.used)
          c.working.invariant.keeps c.told_end.ensures.keeps c.working.invariant.works c.told_end.ensures.works)
          c.do_piece-ended.ensures.works;
      hand = c.take.ensures.hand.0;
    }
