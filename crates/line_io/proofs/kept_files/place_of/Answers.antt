use Rattle.std.proofs.Common.{◌≡◌, ◌∙◌, ℕ, sym, ap, arith, subst, length}
use Rattle.std.proofs.lemmas.Slice.Eq.{bytes_eq-Decides}
use Rattle.line_io.proofs.FilePlaces.{place, missing, NoneBefore}
use Rattle.line_io.proofs.kept_files.place_of.Goals as goal

pub returns-clause-none : goal.returns-clause-none
returns-clause-none c =
    let end : c.loop-k.k ≡ length c.args.files.now = omega arith in
    let P : ℕ → Type 0 = NoneBefore c.args.files.now c.args.name.now in
    missing c.args.files.now c.args.name.now (subst P end c.loop-k.invariant)

pub returns-then-eq-clause-some : goal.returns-then-eq-clause-some
returns-then-eq-clause-some c =
    let same : c.as_slice.result.now ≡ c.args.name.now = (bytes_eq-Decides c.as_slice.result.now c.args.name.now).0
    (sym c.eq.ensures ∙ c.if-eq.true) in
    place c.args.files.now c.args.name.now c.loop-k.k c.index-files-k.result c.loop-k-test.true c.loop-k.invariant
    (sym (ap (λ f. f.name) c.file.view_is ∙ ap (λ f. f.name) c.index-files-k.is)
    ∙ (sym c.as_slice.ensures.value ∙ same))
