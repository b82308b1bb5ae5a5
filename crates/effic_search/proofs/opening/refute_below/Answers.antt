use Rattle.std.proofs.Common.{ℕ, ◌-◌, ◌<◌, Bool, List, refl, sym, subst, inl, inr, arith}
use Rattle.line_instance.specs.Line.{Line}
use Rattle.line_rules.specs.Balance.{all_tasks}
use Rattle.line_rules.specs.Bounds.{bound}
use Rattle.line_rules.specs.Entries.{Follows, HasAnswer}
use Rattle.line_rules.specs.declared.types.Entry.{Entry}
use Rattle.line_rules.specs.declared.types.Why.TheVariants as why
use Rattle.cycle_search.proofs.EndFacts.{first_met, first_refuted}
use Rattle.effic_search.proofs.StartFacts.{adds_goal, stays_about, has_one}
use Rattle.effic_search.proofs.opening.refute_below.Goals as goal

pub publish-requires-clause-follows : goal.publish-requires-clause-follows
publish-requires-clause-follows c =
    let kind = c.args.book.now.about.kind in
    let line = c.args.inst.now in
    let m = c.args.stations in
    let e : Entry = record {
      set = c.all.result;
      most = m;
      cycle = c.first_ends-ends.result.lower - 1;
      why = why.Bound;
    } in
    let P : Line → Type 0 = λ z. Follows kind z c.args.book.now.state.entries e in
    let Q : List Bool → Type 0 = λ z. m < bound kind line (c.first_ends-ends.result.lower - 1) z in
    let R : ℕ → Type 0 = λ z. m < bound kind line (z - 1) (all_tasks line) in
    subst P (sym c.requires.same) (record {
      set = c.all.ensures.set;
      cycle = omega (arith, c.if-ends-le1.false);
      by = subst Q (sym c.all.ensures.value) (subst R (sym c.first_ends-ends.ensures.lower)
          (first_refuted kind line m c.tasks-tasks.ensures.line c.requires.some c.requires.few
          (omega (arith, c.if-ends-le1.false, c.first_ends-ends.ensures.lower))));
    })

pub publish-requires-clause-range : goal.publish-requires-clause-range
publish-requires-clause-range c = record {
  most = c.requires.few;
  cycle = record {
    some = omega (arith, c.if-ends-le1.false);
    limit = omega (
      arith,
      c.first_ends-ends.ensures.lower,
      c.first_ends-ends.ensures.upper,
      c.first_ends-ends.ensures.limit,
      first_met c.args.inst.now c.args.stations c.requires.some,
    );
  };
}

pub returns-in-Known : goal.returns-in-Known
returns-in-Known c =
    let line = c.args.inst.now in
    let m = c.args.stations in
    let new = c.publish.new.self in
    let e : Entry = record {
      set = c.all.result;
      most = m;
      cycle = c.first_ends-ends.result.lower - 1;
      why = why.Bound;
    } in
    let P : List Bool → Type 0 = λ z. HasAnswer new.state.entries z m (c.first_ends-ends.result.lower - 1) in
    let Q : ℕ → Type 0 = λ z. HasAnswer new.state.entries (all_tasks line) m (z - 1) in
    record {
      about = stays_about c.args.book.now e new c.publish.result c.publish.ensures.does;
      adds = adds_goal c.args.book.now e line new c.publish.result c.publish.ensures.does (c.all.ensures.value, refl);
      floored = λ more. subst Q c.first_ends-ends.ensures.lower (subst P c.all.ensures.value
          (has_one c.args.book.now e new c.publish.result c.publish.ensures.does
          (λ n. elim c.in-Known.is [ inl k ↦ (let q = k.1 in cc) | inr a ↦ (let q = a.1 in cc) ])));
      reserved = c.publish.ensures.reserved;
    }
