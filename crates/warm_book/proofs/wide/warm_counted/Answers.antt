use Rattle.std.proofs.Common.{◌∙◌, List, take, drop, ap, subst, arith, refl}
use Rattle.std.proofs.lemmas.List.{take_all, take-append-drop}
use Rattle.line_rules.specs.Entries.{IsDerived, IsFresh}
use Rattle.line_rules.specs.declared.types.Entry.{Entry}
use Rattle.warm_book.specs.Warm.{TakesAll, untaken}
use Rattle.warm_book.specs.inner.Takings.{taking}
use Rattle.warm_book.proofs.TakingFacts.{all_add, warmer}
use Rattle.warm_book.proofs.OneTaking.{one_warmed}
use Rattle.warm_book.proofs.wide.warm_counted.Goals as goal

pub returns-in_default-clause-derived : goal.returns-in_default-clause-derived
returns-in_default-clause-derived g c =
    let P : List Entry → Type 0 = λ z. IsDerived c.args.book.about.kind c.args.book.about.line z in
    subst P c.entries-entries.ensures.entries c.entries-entries.ensures.derived

pub returns-in_default-clause-fresh : goal.returns-in_default-clause-fresh
returns-in_default-clause-fresh g c =
    let P : List Entry → Type 0 = λ z. IsFresh z in
    subst P c.entries-entries.ensures.entries c.entries-entries.ensures.fresh

pub walk_batch-requires-clause-same : goal.walk_batch-requires-clause-same
walk_batch-requires-clause-same g c κs within =
    let a = all_add c.args.room (untaken c.args.book) (take c.loop-from.from c.args.old.now)
    (taking c.loop-from.warming)
    c.loop-from.invariant.taken in
    ap (λ z. z.line) a.about ∙ c.requires.same

pub returns-in_default-walk_batch-clause-warmed : goal.returns-in_default-walk_batch-clause-warmed
returns-in_default-walk_batch-clause-warmed g c =
    let h = c.in_default-walk_batch.ensures.err c.args.book c.loop-from.invariant.taken in (
      take h.0 c.args.old.now,
      drop h.0 c.args.old.now,
      taking c.walk_batch.new.self,
      (take-append-drop h.0 c.args.old.now, h.1, refl),
    )

pub returns-in_default-walk_batch-clause-warmer : goal.returns-in_default-walk_batch-clause-warmer
returns-in_default-walk_batch-clause-warmer g c =
    let h = c.in_default-walk_batch.ensures.err c.args.book c.loop-from.invariant.taken in (
      c.walk_batch.new.self.kept,
      warmer c.args.room c.args.book (take h.0 c.args.old.now) (taking c.walk_batch.new.self) h.1,
    )

pub returns-in_default-walk_batch-clause-derived : goal.returns-in_default-walk_batch-clause-derived
returns-in_default-walk_batch-clause-derived g c =
    let b = c.walk_batch.new.self.book in
    let P : List Entry → Type 0 = λ z. IsDerived b.about.kind b.about.line z in
    subst P c.entries-entries-in_default-walk_batch.ensures.entries
    c.entries-entries-in_default-walk_batch.ensures.derived

pub returns-in_default-walk_batch-clause-fresh : goal.returns-in_default-walk_batch-clause-fresh
returns-in_default-walk_batch-clause-fresh g c =
    let P : List Entry → Type 0 = λ z. IsFresh z in
    subst P c.entries-entries-in_default-walk_batch.ensures.entries
    c.entries-entries-in_default-walk_batch.ensures.fresh

pub returns-clause-units : goal.returns-clause-units
returns-clause-units g c =
    let P : List Entry → Type 0 = λ z. TakesAll c.args.room (untaken c.args.book) z (taking c.loop-from.warming) in (
      taking c.loop-from.warming,
      (
        subst P (take_all c.loop-from.from c.args.old.now (omega
            (arith, c.loop-from-test.false, c.len-in-loop-from.ensures)))
            c.loop-from.invariant.taken,
        refl,
        refl,
        refl,
      ),
    )

pub returns-clause-in_order : goal.returns-clause-in_order
returns-clause-in_order g c =
    let P : List Entry → Type 0 = λ z. TakesAll c.args.room (untaken c.args.book) z (taking c.loop-from.warming) in
    λ other k w.
    one_warmed c.args.room c.args.book c.args.old.now (taking c.loop-from.warming)
    (subst P (take_all c.loop-from.from c.args.old.now (omega
    (arith, c.loop-from-test.false, c.len-in-loop-from.ensures)))
    c.loop-from.invariant.taken) other k w

pub returns-clause-warmer : goal.returns-clause-warmer
returns-clause-warmer g c =
    let P : List Entry → Type 0 = λ z. TakesAll c.args.room (untaken c.args.book) z (taking c.loop-from.warming) in
    warmer c.args.room c.args.book c.args.old.now (taking c.loop-from.warming)
    (subst P (take_all c.loop-from.from c.args.old.now (omega
    (arith, c.loop-from-test.false, c.len-in-loop-from.ensures)))
    c.loop-from.invariant.taken)

pub returns-clause-derived : goal.returns-clause-derived
returns-clause-derived g c =
    let b = c.loop-from.warming.book in
    let P : List Entry → Type 0 = λ z. IsDerived b.about.kind b.about.line z in
    subst P c.entries-entries-2.ensures.entries c.entries-entries-2.ensures.derived

pub returns-clause-fresh : goal.returns-clause-fresh
returns-clause-fresh g c =
    let P : List Entry → Type 0 = λ z. IsFresh z in
    subst P c.entries-entries-2.ensures.entries c.entries-entries-2.ensures.fresh
