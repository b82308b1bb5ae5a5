use Rattle.std.proofs.Common.{◌≡◌, ◌∙◌, ℕ, List, length, ap, subst, sym, arith, Option}
use Rattle.named_drawing.specs.declared.labels.Label.{Label}
use Rattle.named_drawing.specs.Labels.{parts_label}
use Rattle.named_drawing.specs.Widths.{best_blank}
use Rattle.named_drawing.specs.inner.Cuts.{IsCut, IsCutLabel}
use Rattle.named_drawing.proofs.SplitFacts.{best_is_cut, cut_label}
use Rattle.named_drawing.proofs.labels.label_of.Goals as goal

pub parts_label-requires-clause-blank : goal.parts_label-requires-clause-blank
parts_label-requires-clause-blank c =
    let name : List ℕ = c.as_bytes-name.result.now in
    let P : Option ℕ → Type 0 = λ o. IsCut name o in
    subst P (sym c.best_blank.ensures) (best_is_cut name (length name) (omega arith))

pub returns-clause-blank : goal.returns-clause-blank
returns-clause-blank c =
    let name : List ℕ = c.as_bytes-name.result.now in
    let P : Label → Type 0 = λ l. IsCutLabel name l in
    let Q : List ℕ → Type 0 = λ t. IsCutLabel t c.parts_label.result in
    let is : c.parts_label.result ≡ parts_label name c.args.segment.now (best_blank name) =
    c.parts_label.ensures ∙ ap (parts_label name c.args.segment.now) c.best_blank.ensures in
    subst Q c.as_bytes-name.ensures.value
    (subst P (sym is) (cut_label name c.args.segment.now (best_blank name)
    (best_is_cut name (length name) (omega arith))))
