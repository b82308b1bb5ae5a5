use Rattle.std.proofs.Common.{◌≡◌, [], refl, ap, sym, subst, arith, Option}
use Rattle.line_instance.specs.Line.{tasks}
use Rattle.line_rules.specs.declared.types.Balance.{Balance as Assignment}
use Rattle.lemma_core.specs.Machine.{About}
use Rattle.round_helpers.specs.Helping.{all_used}
use Rattle.round_run.specs.Plans.{all_left}
use Rattle.round_run.specs.inner.Questions.{HasAsked}
use Rattle.round_run.specs.declared.questions.Stop.{Stop}
use Rattle.round_run.proofs.PurseFacts.{spent_more, spent_sum, spent_team}
use Rattle.round_run.proofs.TurnFacts.{turns, stops}
use Rattle.round_run.proofs.questions.ask_all.Goals as goal

pub asking-init : goal.asking-init
asking-init g c = record {
  paid = record {
    added = [];
    run = c.requires.begun;
    published = 0;
    units = refl;
    least = omega (arith, c.requires.fresh.0);
    most = omega arith;
    few = omega arith;
  };
  sum = omega (arith, c.requires.fresh.0);
  team = c.requires.team;
  helped = omega (arith, c.requires.fresh.1);
}

pub asking-preserved : goal.asking-preserved
asking-preserved g c =
    let best : c.best.result.now.stations ≡ c.asking.book.state.best.stations =
    ap (λ (z : Assignment). z.stations) c.best.ensures.best in
    let all : tasks c.asking.book.about.line ≡ tasks c.args.inst.now =
    ap (λ (z : About). tasks z.line) c.asking.invariant.paid.run.about in
    let more = spent_more c.asking.purse.helper.items c.decide_round-round.new.purse.helper.items
    c.decide_round-round.ensures.team in
    let same = spent_sum c.asking.purse.helper.items c.decide_round-round.new.purse.helper.items
    c.decide_round-round.ensures.team in
    record {
      paid = turns c.args.book.about.kind c.args.inst.now c.args.book.about.cycle c.args.book.state.entries
          c.args.book.state.best.stations c.args.purse.closing.left (all_left c.args.purse.helper.items) c.args.first
          c.asking.lower c.asking.book c.decide_round-round.ensures.round.mid c.decide_round-round.result.book
          c.asking.purse.closing c.decide_round-round.new.purse.closing (all_used c.asking.purse.helper.items)
          (all_used c.decide_round-round.new.purse.helper.items) c.decide_round-round.result.verdict (record {
            paid = c.asking.invariant.paid;
            below = omega (arith, best, c.asking-test.true);
            few = omega (arith, best, all, c.best.ensures.right.few);
            all = omega (arith, c.decide_round-round.ensures.units, c.asking.invariant.sum);
            spent = c.decide_round-round.ensures.spent;
            more = more;
            up_to = omega (arith, same, c.asking.invariant.helped);
            reserved = c.decide_round-round.ensures.reserved;
            helps = c.decide_round-round.ensures.round.helps;
            gains = c.decide_round-round.ensures.round.gains;
            answer = c.decide_round-round.ensures.answer;
            above = c.decide_round-round.ensures.above;
            was_open = c.decide_round-round.ensures.round.was_open;
          }) c.in-Refuted.is;
      sum = omega (arith, c.decide_round-round.ensures.units, c.asking.invariant.sum);
      team = spent_team c.asking.purse.helper.items c.decide_round-round.new.purse.helper.items
          c.decide_round-round.ensures.team c.asking.invariant.team;
      helped = omega (arith, same, c.asking.invariant.helped);
    }

pub returns-in_default : goal.returns-in_default
returns-in_default g c =
    let best : c.best.result.now.stations ≡ c.asking.book.state.best.stations =
    ap (λ (z : Assignment). z.stations) c.best.ensures.best in
    let all : tasks c.asking.book.about.line ≡ tasks c.args.inst.now =
    ap (λ (z : About). tasks z.line) c.asking.invariant.paid.run.about in
    let more = spent_more c.asking.purse.helper.items c.decide_round-round.new.purse.helper.items
    c.decide_round-round.ensures.team in
    let same = spent_sum c.asking.purse.helper.items c.decide_round-round.new.purse.helper.items
    c.decide_round-round.ensures.team in
    let P : Option Stop → Type 0 =
    λ z. HasAsked c.args.book.about.kind c.args.inst.now c.args.book.about.cycle c.args.book.state.entries
    c.args.book.state.best.stations c.args.purse.closing.left (all_left c.args.purse.helper.items) c.args.first
    (record { book = c.decide_round-round.result.book; lower = c.asking.lower; stop = z }) in
    subst P (sym c.stop_of.ensures)
    (stops c.args.book.about.kind c.args.inst.now c.args.book.about.cycle c.args.book.state.entries
    c.args.book.state.best.stations c.args.purse.closing.left (all_left c.args.purse.helper.items) c.args.first
    c.asking.lower c.asking.book c.decide_round-round.ensures.round.mid c.decide_round-round.result.book
    c.asking.purse.closing c.decide_round-round.new.purse.closing (all_used c.asking.purse.helper.items)
    (all_used c.decide_round-round.new.purse.helper.items) c.decide_round-round.result.verdict (record {
      paid = c.asking.invariant.paid;
      below = omega (arith, best, c.asking-test.true);
      few = omega (arith, best, all, c.best.ensures.right.few);
      all = omega (arith, c.decide_round-round.ensures.units, c.asking.invariant.sum);
      spent = c.decide_round-round.ensures.spent;
      more = more;
      up_to = omega (arith, same, c.asking.invariant.helped);
      reserved = c.decide_round-round.ensures.reserved;
      helps = c.decide_round-round.ensures.round.helps;
      gains = c.decide_round-round.ensures.round.gains;
      answer = c.decide_round-round.ensures.answer;
      above = c.decide_round-round.ensures.above;
      was_open = c.decide_round-round.ensures.round.was_open;
    }) c.in_default.not-Refuted)
