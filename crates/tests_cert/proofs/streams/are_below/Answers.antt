use Rattle.std.proofs.Common.{List, ℕ, get_or, take, inl, inr, sym, subst, arith}
use Rattle.std.specs.List.{Contains}
use Rattle.std.proofs.lemmas.List.{take_more, take_all}
use Rattle.std.proofs.lemmas.List.Elements.{Contains-push_cases}
use Rattle.tests_cert.proofs.streams.are_below.Goals as goal

pub loop-cite-preserved : goal.loop-cite-preserved
loop-cite-preserved c = λ cite m.
    let P : List ℕ → Type 0 = λ xs. Contains xs cite in
    elim (Contains-push_cases (take c.loop-cite.cite-index c.args.cites.now)
    (get_or c.args.cites.now c.loop-cite.cite-index 0) cite
    (subst P (take_more c.args.cites.now c.loop-cite.cite-index 0 c.loop-cite-test.true) m)) [
      | inl before ↦ c.loop-cite.invariant cite before
      | inr e ↦ omega (arith, e, c.if-cite-k.false)
    ]

pub returns : goal.returns
returns c = λ t cite m.
    let P : List ℕ → Type 0 = λ xs. Contains xs cite in
    c.loop-cite.invariant cite (subst P (sym (take_all c.loop-cite.cite-index c.args.cites.now c.loop-cite-test.false))
    m)
