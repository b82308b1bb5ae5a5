use Rattle.std.proofs.Common.{◌≡◌, Bool, List, refl, sym, ap, ◌∙◌, subst, inl, inr, arith}
use Rattle.std.proofs.lemmas.Bool.{false≢true}
use Rattle.line_instance.specs.Line.{Line}
use Rattle.line_rules.specs.Balance.{all_tasks}
use Rattle.line_rules.specs.Bounds.{bound}
use Rattle.line_rules.specs.Entries.{HasAnswer}
use Rattle.round_helpers.proofs.Lookups.{found_answers, absent_answers}
use Rattle.round_helpers.proofs.helping.is_refuted.Goals as goal

pub returns-in-Found : goal.returns-in-Found
returns-in-Found c =
    let e : c.all-all.result ≡ all_tasks c.args.book.now.about.line =
    c.all-all.ensures.value ∙ sym (ap (λ (z : Line). all_tasks z) c.requires.same) in
    let P : List Bool → Type 0 =
    λ z. HasAnswer c.args.book.now.state.entries z c.args.most c.args.book.now.about.cycle in (
      λ t. inr (subst P e (found_answers c.args.book.now.state.entries c.all-all.result c.args.most
          c.args.book.now.about.cycle c.in-Found.id c.in-Found.most (sym c.in-Found.is ∙ c.look.ensures))),
      λ t. refl,
    )

pub returns-in-Absent : goal.returns-in-Absent
returns-in-Absent c =
    let e : c.all-all.result ≡ all_tasks c.args.book.now.about.line =
    c.all-all.ensures.value ∙ sym (ap (λ (z : Line). all_tasks z) c.requires.same) in
    let P : List Bool → Type 0 =
    λ z. HasAnswer c.args.book.now.state.entries z c.args.most c.args.book.now.about.cycle in
    let b : bound c.kind.result c.args.inst.now c.cycle.result c.all-all.result
    ≡ bound c.args.book.now.about.kind c.args.book.now.about.line c.args.book.now.about.cycle
    (all_tasks c.args.book.now.about.line) =
    λ i. bound (c.kind.ensures i) (sym c.requires.same i) (c.cycle.ensures i) (e i) in (
      λ t. absurd (false≢true t),
      λ s. elim s [
        | inl l ↦ absurd (false≢true (sym c.if-exceeds.false ∙ c.exceeds.ensures.1 (omega (arith, l, b))))
        | inr a ↦ absurd (absent_answers c.args.book.now.state.entries c.all-all.result c.args.most
            c.args.book.now.about.cycle (sym c.in-Absent.is ∙ c.look.ensures) (subst P (sym e) a))
      ],
    )
