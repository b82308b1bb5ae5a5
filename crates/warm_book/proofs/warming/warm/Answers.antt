use Rattle.std.proofs.Common.{List, take, drop, sym, ap, ◌∙◌, subst, arith}
use Rattle.std.proofs.lemmas.List.{take_all, take-append-drop}
use Rattle.line_rules.specs.Entries.{IsDerived, IsFresh}
use Rattle.line_rules.specs.declared.types.Entry.{Entry}
use Rattle.lemma_core.specs.Books.{BookView}
use Rattle.warm_book.specs.Warm.{TakesAll, IsWarmer, untaken}
use Rattle.warm_book.specs.inner.Takings.{taking}
use Rattle.warm_book.proofs.TakingFacts.{takes_next, step_adds, one_kept, warmer}
use Rattle.warm_book.proofs.warming.warm.Goals as goal

pub returns-in_default-clause-derived : goal.returns-in_default-clause-derived
returns-in_default-clause-derived c =
    let P : List Entry → Type 0 = λ z. IsDerived c.args.book.about.kind c.args.book.about.line z in
    subst P c.entries-entries.ensures.entries c.entries-entries.ensures.derived

pub take-requires-clause-range : goal.take-requires-clause-range
take-requires-clause-range c =
    let r = c.requires.range.each c.loop-k.k c.at.result.now c.at.ensures in
    record { most = r.most; cycle = r.cycle }

pub returns-in_default-take-clause-warmed : goal.returns-in_default-take-clause-warmed
returns-in_default-take-clause-warmed c = (
  take c.loop-k.k c.args.old.now,
  drop c.loop-k.k c.args.old.now,
  taking c.loop-k.warming,
  (
    take-append-drop c.loop-k.k c.args.old.now,
    c.loop-k.invariant.taken,
    ap (λ z. z.book) (sym c.in_default-take.ensures.err),
  ),
)

pub returns-in_default-take-clause-warmer : goal.returns-in_default-take-clause-warmer
returns-in_default-take-clause-warmer c =
    let P : BookView → Type 0 = λ z. IsWarmer c.args.room c.args.book z c.loop-k.warming.kept in (
      c.loop-k.warming.kept,
      subst P (ap (λ z. z.book) (sym c.in_default-take.ensures.err))
          (warmer c.args.room c.args.book (take c.loop-k.k c.args.old.now) (taking c.loop-k.warming)
          c.loop-k.invariant.taken),
    )

pub returns-in_default-take-clause-derived : goal.returns-in_default-take-clause-derived
returns-in_default-take-clause-derived c =
    let b = c.take.new.self.book in
    let P : List Entry → Type 0 = λ z. IsDerived b.about.kind b.about.line z in
    subst P c.entries-entries-in_default-take.ensures.entries c.entries-entries-in_default-take.ensures.derived

pub returns-in_default-take-clause-fresh : goal.returns-in_default-take-clause-fresh
returns-in_default-take-clause-fresh c =
    let P : List Entry → Type 0 = λ z. IsFresh z in
    subst P c.entries-entries-in_default-take.ensures.entries c.entries-entries-in_default-take.ensures.fresh

pub loop-k-preserved : goal.loop-k-preserved
loop-k-preserved c =
    let step = c.in-Ok-take.ensures.ok in
    let adds = step_adds c.args.room (taking c.loop-k.warming) (taking c.take.new.self) c.at.result.now step in
    record {
      taken = takes_next c.args.room (untaken c.args.book) c.args.old.now c.loop-k.k (taking c.loop-k.warming)
          (taking c.take.new.self) c.at.result.now c.at.ensures c.loop-k.invariant.taken step;
      about = adds.about ∙ c.loop-k.invariant.about;
      kept = omega (
        arith,
        c.loop-k.invariant.kept,
        one_kept c.args.room (taking c.loop-k.warming) (taking c.take.new.self) c.at.result.now step,
      );
      paid = adds.spent c.loop-k.invariant.paid;
      filled = omega (arith, c.loop-k.invariant.filled, c.in-Ok-take.ensures.filled);
      free = omega (arith, c.loop-k.invariant.free, c.take.ensures.capacity);
      reserved = λ r. c.take.ensures.reserved (c.loop-k.invariant.reserved r);
    }

pub returns-clause-warmer : goal.returns-clause-warmer
returns-clause-warmer c =
    let P : List Entry → Type 0 = λ z. TakesAll c.args.room (untaken c.args.book) z (taking c.loop-k.warming) in
    warmer c.args.room c.args.book c.args.old.now (taking c.loop-k.warming)
    (subst P (take_all c.loop-k.k c.args.old.now (omega (arith, c.loop-k-test.false, c.len-k-end.ensures)))
    c.loop-k.invariant.taken)

pub returns-clause-derived : goal.returns-clause-derived
returns-clause-derived c =
    let b = c.loop-k.warming.book in
    let P : List Entry → Type 0 = λ z. IsDerived b.about.kind b.about.line z in
    subst P c.entries-entries-2.ensures.entries c.entries-entries-2.ensures.derived

pub returns-clause-fresh : goal.returns-clause-fresh
returns-clause-fresh c =
    let P : List Entry → Type 0 = λ z. IsFresh z in
    subst P c.entries-entries-2.ensures.entries c.entries-entries-2.ensures.fresh
