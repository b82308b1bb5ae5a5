use Rattle.std.proofs.Common.{◌≡◌, Bool, List, length, ap, ◌∙◌, subst, arith}
use Rattle.line_instance.specs.Truths.{In, meet}
use Rattle.line_instance.proofs.Members.{In-meet_parts}
use Rattle.line_rules.specs.declared.types.LineKind.{LineKind}
use Rattle.pair_search.specs.inner.Ones.{AreOnes}
use Rattle.pair_search.proofs.FoundFacts.{IsClosed, found_tasks, found}
use Rattle.pair_search.proofs.table.PairTable.tested.Goals as goal

pub ones-requires : goal.ones-requires
ones-requires c = record {
  rows = λ i m.
      let P : List Bool → Type 0 = λ s. In s i in
      let item : In c.meet-items.result i =
      (In-meet_parts c.meet-items.result c.args.tasks.now i (subst P c.meet-two.ensures.value m)).0 in
      let member : In c.args.set.now i =
      (In-meet_parts c.args.set.now c.self.inside.long i (subst P c.meet-items.ensures.value item)).0 in
      let same : length c.deref.result.now ≡ length c.args.self.now.rows =
      ap length c.deref.ensures.value ∙ ap (λ v. length v.rows) c.self.view_is in
      omega (arith, same, c.requires.table.many, c.requires.set.tasks i member);
}

pub hull-hull-requires : goal.hull-hull-requires
hull-hull-requires c = found_tasks c.args.inst.now c.args.set.now c.self.inside.long c.meet-items.result
    c.args.tasks.now c.union.result c.requires.set c.meet-items.ensures.value c.meet-two.ensures.value c.in-Some.ensures
    c.union.ensures.value c.union.ensures.truths

pub returns-clause-refuted : goal.returns-clause-refuted
returns-clause-refuted c =
    let rows : c.deref.result.now ≡ c.args.self.now.rows = c.deref.ensures.value ∙ ap (λ v. v.rows) c.self.view_is in
    let long : c.self.inside.long ≡ c.args.self.now.long = ap (λ v. v.long) c.self.view_is in
    let kind : c.self.inside.kind ≡ c.args.self.now.kind = ap (λ v. v.kind) c.self.view_is in
    let R : List (List Bool) → Type 0 = λ r. AreOnes r c.meet-items.result c.meet-two.result c.in-Some.one in
    let K : LineKind → Type 0 = λ k. IsClosed k c.args.inst.now c.union.result c.hull-hull.result in
    found c.requires.table c.args.set.now c.meet-items.result c.args.tasks.now c.meet-two.result c.in-Some.one
    c.union.result c.hull-hull.result c.args.most c.requires.set
    (c.meet-items.ensures.value ∙ ap (λ s. meet c.args.set.now s) long) c.meet-two.ensures.value
    (subst R rows c.in-Some.ensures) c.union.ensures.value c.hull-hull.ensures.within
    (subst K kind c.hull-hull.ensures.between) c.hull-hull.ensures.truths
    (c.is_subset.ensures.0 c.if-not-is_subset.false) c.meet-two.ensures.truths
    (omega (arith, c.if-count-most.false, c.count.ensures.value, c.count-2.ensures.value))
