use Rattle.std.proofs.Common.{ℕ, refl, sym, subst, inr}
use Rattle.line_instance.specs.Line.{Line}
use Rattle.line_rules.specs.declared.types.LineKind.{LineKind}
use Rattle.round_run.specs.Rounds.{ArePaired}
use Rattle.round_helpers.proofs.BookGrowth.{helps_none}
use Rattle.round_helpers.proofs.SettleFacts.{spent_none}
use Rattle.round_run.proofs.rounds.decide_round.Goals as goal

pub returns-then-pairs_refute-clause-round : goal.returns-then-pairs_refute-clause-round
returns-then-pairs_refute-clause-round g c =
    let about = c.args.book.about in
    let most : ℕ = c.args.most in
    let K : LineKind → Type 0 = λ k. ArePaired k about.line about.cycle most in
    let L : Line → Type 0 = λ l. ArePaired c.kind-kind.result l about.cycle most in
    let X : ℕ → Type 0 = λ x. ArePaired c.kind-kind.result c.args.inst.now x most in
    record {
      mid = c.args.book;
      helps = helps_none c.args.book _;
      helped = inr (
        c.closed.ensures.helped,
        subst K c.kind-kind.ensures (subst L (sym c.requires.same) (subst X c.cycle-cycle.ensures
            (c.if-pairs_refute.ensures.refuted refl))),
      );
      still = λ unneeded. refl;
      gains = c.closed.ensures.closed.gains;
      from = c.closed.ensures.closed.from;
      whole = λ whole. absurd (cc (c.closed.ensures.helped, whole));
      was_open = c.closed.ensures.closed.was_open;
    }

pub returns-then-pairs_refute-clause-team : goal.returns-then-pairs_refute-clause-team
returns-then-pairs_refute-clause-team g c = spent_none c.args.purse.now.helper.items

pub returns-in_default-clause-above : goal.returns-in_default-clause-above
returns-in_default-clause-above g c = c.without_memory.ensures.closed.above c.args.book

pub returns-then-pairs_refute-clause-above : goal.returns-then-pairs_refute-clause-above
returns-then-pairs_refute-clause-above g c = c.closed.ensures.closed.above c.args.book

pub returns-clause-above : goal.returns-clause-above
returns-clause-above g c = c.closed-2.ensures.closed.above c.args.book
