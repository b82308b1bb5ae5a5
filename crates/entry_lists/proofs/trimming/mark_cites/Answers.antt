use Rattle.std.proofs.Common.{List, true, set, ap, sym, ◌∙◌, subst, refl, arith}
use Rattle.std.specs.List.{Contains}
use Rattle.line_rules.specs.declared.types.Why.{Why}
use Rattle.entry_lists.specs.Trim.{cited_by, AreMarked}
use Rattle.entry_lists.proofs.MarkFacts.{marked_one}
use Rattle.entry_lists.proofs.trimming.mark_cites.Goals as goal

pub mark_all-requires : goal.mark_all-requires
mark_all-requires c = λ cite m. c.requires cite (let P : List _ → Type 0 = λ xs. Contains xs cite in
    subst P (c.as_slice.ensures ∙ sym (ap cited_by c.in-Branch.is)) m)

pub bounds-marks-cite : goal.bounds-marks-cite
bounds-marks-cite c = c.requires c.in-Swap.cite (let P : Why → Type 0 = λ w. Contains (cited_by w) c.in-Swap.cite in
    subst P (sym c.in-Swap.is) (0, omega arith, refl))

pub returns-in-Swap : goal.returns-in-Swap
returns-in-Swap c =
    let P : Why → Type 0 = λ w. AreMarked c.args.marks.now (cited_by w) (set c.args.marks.now c.in-Swap.cite true) in
    subst P (sym c.in-Swap.is) (marked_one c.args.marks.now c.in-Swap.cite (bounds-marks-cite c))
