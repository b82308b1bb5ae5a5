use Rattle.std.proofs.Common.{ℕ, ◌+◌, List, subst}
use Rattle.line_rules.specs.Entries.{IsFresh}
use Rattle.line_rules.specs.declared.types.Entry.{Entry}
use Rattle.lemma_core.specs.Own.{AreStatable}
use Rattle.effic_search.specs.Lowest.{IsLowest}
use Rattle.effic_search.specs.inner.Going.{product_of}
use Rattle.effic_search.proofs.CertFacts.{certified_same, derived_of}
use Rattle.effic_search.proofs.searching.certified.Goals as goal

pub returns-clause-certified : goal.returns-clause-certified
returns-clause-certified c =
    let w = c.args.wanted in
    let h = c.args.search in
    let line = c.args.inst.now in
    let es = c.into_parts-entries.result.0 in
    let S : List Entry → Type 0 = λ z. AreStatable z in
    let F : List Entry → Type 0 = λ z. IsFresh z in
    let P : ℕ → Type 0 =
    λ z. IsLowest line c.entries-entries.result.now w.least (w.most + 1) z c.lowest-lower.result in
    let Q : List Entry → Type 0 = λ z. IsLowest line z w.least (w.most + 1) (product_of h) c.lowest-lower.result in
    certified_same w.kind line w.least w.most h c.tasks-tasks.ensures.line c.requires.some c.requires.order
    c.requires.few c.requires.lowering
    (derived_of w.kind line w.least w.most h es c.requires.lowering c.into_parts-entries.ensures.entries
    c.into_parts-entries.ensures.derived)
    (subst S c.into_parts-entries.ensures.entries c.into_parts-entries.ensures.statable)
    (subst F c.into_parts-entries.ensures.entries c.into_parts-entries.ensures.fresh) c.lowest-lower.result
    (subst Q c.entries-entries.ensures.entries (subst P c.product-upper.ensures c.lowest-lower.ensures)) c.args.trail
    c.requires.trail c.requires.units c.tasks-tasks.result c.product-upper.result es c.tasks-tasks.ensures.tasks
    c.product-upper.ensures c.into_parts-entries.ensures.entries

pub returns-clause-fresh : goal.returns-clause-fresh
returns-clause-fresh c =
    let F : List Entry → Type 0 = λ z. IsFresh z in
    subst F c.into_parts-entries.ensures.entries c.into_parts-entries.ensures.fresh

pub returns-clause-derived : goal.returns-clause-derived
returns-clause-derived c =
    let w = c.args.wanted in
    derived_of w.kind c.args.inst.now w.least w.most c.args.search c.into_parts-entries.result.0 c.requires.lowering
    c.into_parts-entries.ensures.entries c.into_parts-entries.ensures.derived
