use Rattle.std.proofs.Common.{◌∙◌, ◌++◌, ap, subst, sym, Option, List, ℕ, Bor, option_map}
use Rattle.line_instance.specs.declared.arcs.Prec.{Prec}
use Rattle.input_files.specs.InputFile.{max_file}
use Rattle.input_files.specs.Instance.{IsPartedBy}
use Rattle.input_files.proofs.InputFacts.{parted_by}
use Rattle.input_files.proofs.PairFacts.{parts_both}
use Rattle.input_files.proofs.instance.part.Goals as goal

pub returns-clause-said : goal.returns-clause-said
returns-clause-said g c = λ t.
    let P : Option (Bor (List ℕ)) → Type 0 = λ x. IsPartedBy (g.S.Shelf.file c.args.shelf.now)
    (option_map (λ y. y.now) x) c.args.inst c.set_apart.new.self in
    let all = c.deref-2.ensures.value ∙ c.in_ok-extend_from_slice.ensures.items
    ∙ ap (λ (ps : List Prec). c.args.listed.items ++ ps) c.deref.ensures.value in
    subst P (sym c.in-Some.is)
    (parted_by max_file (g.S.Shelf.file c.args.shelf.now) c.args.apart c.in-Some.apart c.args.inst c.set_apart.new.self
    c.tasks.result c.in_ok-pairs.pairs.items c.in-Some.is (c.in_ok-pairs.ensures.said t) c.tasks.ensures.tasks
    c.set_apart.ensures.times c.set_apart.ensures.before c.set_apart.ensures.order
    (parts_both c.args.inst c.set_apart.new.self c.args.listed.items c.in_ok-pairs.pairs.items c.deref-2.result.now all
    c.set_apart.ensures.apart c.requires.given))
