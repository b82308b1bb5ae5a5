use Rattle.std.proofs.Common.{◌≡◌, ℕ, ◌-◌, ◌<◌, sym, ap, subst, arith}
use Rattle.line_rules.specs.Balance.{all_tasks}
use Rattle.line_rules.specs.Bounds.{bound}
use Rattle.line_rules.specs.declared.types.LineKind.{LineKind}
use Rattle.lemma_core.specs.Machine.{About}
use Rattle.cycle_search.proofs.EndFacts.{first_best, first_met, first_refuted}
use Rattle.cycle_search.proofs.opening.first_book.Goals as goal

pub open_book-requires : goal.open_book-requires
open_book-requires c =
    first_best c.args.kind c.args.inst.now c.args.ends.upper c.in_ok-best.best c.tasks-tasks.ensures.line
    c.requires.none (omega (arith, c.requires.upper)) c.in_ok-best.ensures

pub refute_at-requires-clause-cycle : goal.refute_at-requires-clause-cycle
refute_at-requires-clause-cycle c = record {
  some = omega (arith, c.if-ends-gt1.true);
  limit = omega (
    arith,
    c.requires.limit,
    c.requires.lower,
    c.requires.upper,
    first_met c.args.inst.now c.args.stations c.requires.some,
  );
}

pub refute_at-requires-clause-exceeds : goal.refute_at-requires-clause-exceeds
refute_at-requires-clause-exceeds c =
    let kind : c.args.kind ≡ c.in_ok-book.book.about.kind =
    sym (ap (λ (z : About). z.kind) c.in_ok-book.ensures.about) in
    let P : LineKind → Type 0 = λ z.
    c.args.stations < bound z c.args.inst.now (c.args.ends.lower - 1) (all_tasks c.args.inst.now) in
    let Q : ℕ → Type 0 = λ z.
    c.args.stations < bound c.args.kind c.args.inst.now (z - 1) (all_tasks c.args.inst.now) in
    subst P kind (subst Q (sym c.requires.lower) (first_refuted c.args.kind c.args.inst.now c.args.stations
    c.tasks-tasks.ensures.line c.requires.some c.requires.few (omega (arith, c.if-ends-gt1.true, c.requires.lower))))
