use Rattle.std.proofs.Common.{◌∙◌, ◌+◌, ◌-◌, ◌↔◌, ℕ, List, Bool, sym, subst, inl, inr, arith}
use Rattle.std.proofs.lemmas.Bool.{false≢true, cases_lt}
use Rattle.line_instance.specs.Truths.{In}
use Rattle.line_instance.proofs.Members.{In-empty}
use Rattle.line_rules.specs.Bounds.{head, tail, IsChained}
use Rattle.line_rules.specs.declared.types.LineKind.TheVariants.{Straight}
use Rattle.line_rules.proofs.SumsOverMembers.{all_in_start, all_in_turn}
use Rattle.line_rules.proofs.HeadTail.{few_chained}
use Rattle.line_rules.proofs.ChainFacts.{none_chained, gathered_start, gathered_more, gathered_past, gathered_end}
use Rattle.check_loads.proofs.chains.chained_tasks.Goals as goal

pub returns-then-from-enough : goal.returns-then-from-enough
returns-then-from-enough c = λ j. (
  λ n. let P : List Bool → Type 0 = λ s. In s j in
      absurd (In-empty 1024 j (subst P c.empty-found.ensures.value n)),
  λ h.
      let few = few_chained Straight c.args.inst.now c.tasks-tasks.ensures.line c.args.cycle c.requires.some
      c.args.set.now c.requires.set c.from-stations.result c.args.times.total c.args.times.longest
      c.requires.times.total c.requires.times.longest
      (omega (arith, c.enough.ensures, c.from.ensures, c.if-from-enough.true)) in
      absurd (none_chained c.args.inst.now c.args.cycle c.args.set.now c.requires.set c.args.most Straight
      (omega (arith, few, c.from-stations.ensures)) j h),
)

pub loop-j-init : goal.loop-j-init
loop-j-init c =
    let e = c.into_iter-j-iterator.ensures.into_iter_gives in
    record {
      can_next = tt;
      finite = tt;
      members = all_in_start _ _ e;
      gathered = gathered_start c.args.inst.now c.args.cycle c.args.set.now c.from-stations.result
          c.empty-found.result _ c.empty-found.ensures.truths c.empty-found.ensures.value e;
    }

pub loop-j-preserved-then-needs_more : goal.loop-j-preserved-then-needs_more
loop-j-preserved-then-needs_more c =
    let turn = all_in_turn c.args.set.now c.loop-j.j-iterator c.next.new.self c.in-Some.j c.in-Some.ensures.steps
    c.loop-j.invariant.members in
    record {
      can_next = tt;
      finite = tt;
      members = turn.1;
      gathered = gathered_more c.args.inst.now c.args.cycle c.args.set.now c.from-stations.result c.loop-j.found
          c.insert.new.self c.loop-j.j-iterator c.next.new.self c.in-Some.j c.in-Some.ensures.steps turn.0
          (omega (arith, c.requires.set.tasks c.in-Some.j turn.0, c.tasks-tasks.ensures.line.small))
          (c.needs_more.ensures.0 c.if-needs_more.true) c.insert.ensures.value c.insert.ensures.truths
          c.loop-j.invariant.gathered;
    }

pub loop-j-preserved : goal.loop-j-preserved
loop-j-preserved c =
    let turn = all_in_turn c.args.set.now c.loop-j.j-iterator c.next.new.self c.in-Some.j c.in-Some.ensures.steps
    c.loop-j.invariant.members in
    record {
      can_next = tt;
      finite = tt;
      members = turn.1;
      gathered = gathered_past c.args.inst.now c.args.cycle c.args.set.now c.from-stations.result c.loop-j.found
          c.loop-j.j-iterator c.next.new.self c.in-Some.j c.in-Some.ensures.steps
          (elim (cases_lt c.from-stations.result (head c.args.inst.now c.args.cycle c.args.set.now c.in-Some.j
          + tail c.args.inst.now c.args.cycle c.args.set.now c.in-Some.j - 1)) [
            | inl more ↦ absurd (false≢true (sym c.if-needs_more.false ∙ c.needs_more.ensures.1 more))
            | inr less ↦ less
          ])
          c.loop-j.invariant.gathered;
    }

pub returns : goal.returns
returns c =
    let P : ℕ → Type 0 = λ n. (j : ℕ)
    → In c.loop-j.found j ↔ IsChained Straight c.args.inst.now c.args.cycle c.args.set.now n j in
    subst P c.from-stations.ensures (gathered_end c.args.inst.now c.args.cycle c.args.set.now c.from-stations.result
    c.loop-j.found c.loop-j.j-iterator c.in-None.ensures.steps.0 c.loop-j.invariant.gathered)
