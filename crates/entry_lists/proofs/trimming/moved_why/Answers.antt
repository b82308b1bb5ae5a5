use Rattle.std.proofs.Common.{rules, length, ◌<◌, List, ap, sym, ◌∙◌, subst, refl, arith}
use Rattle.std.specs.List.{Contains}
use Rattle.line_rules.specs.declared.types.Why.{Why}
use Rattle.entry_lists.specs.Trim.{cited_by}
use Rattle.entry_lists.proofs.trimming.moved_why.Goals as goal

pub moved_cites-requires : goal.moved_cites-requires
moved_cites-requires c = λ cite m. c.requires cite (let P : List _ → Type 0 = λ xs. Contains xs cite in
    subst P (c.as_slice.ensures ∙ sym (ap cited_by c.in-Branch.is)) m)

pub bounds-places-cite : goal.bounds-places-cite
bounds-places-cite c = c.requires c.in-Swap.cite (let P : Why → Type 0 = λ w. Contains (cited_by w) c.in-Swap.cite in
    subst P (sym c.in-Swap.is) (0, omega arith, refl))

pub offset_bounds-places-cite : goal.offset_bounds-places-cite
offset_bounds-places-cite c =
    let b : c.in-Swap.cite < length c.args.places.now = c.requires c.in-Swap.cite
    (let P : Why → Type 0 = λ w. Contains (cited_by w) c.in-Swap.cite in
    subst P (sym c.in-Swap.is) (0, omega arith, refl)) in search rules
