use Rattle.std.proofs.Common.{◌≡◌, ◌∙◌, ◌<◌, ◌↔◌, ℕ, Bool, true, false, sym, subst, refl, arith}
use Rattle.std.proofs.Common.{List, Option, Some, None, IsNone, IfSome}
use Rattle.std.proofs.lemmas.Bool.{false≢true}
use Rattle.std.specs.Option.{is_some}
use Rattle.line_instance.specs.Truths.{In}
use Rattle.line_instance.proofs.Members.{In-empty}
use Rattle.line_rules.specs.Bounds.{IsChained}
use Rattle.line_rules.specs.declared.types.LineKind.TheVariants.{Straight}
use Rattle.line_rules.proofs.SumsOverMembers.{all_in_start, all_in_turn}
use Rattle.line_rules.proofs.HeadTail.{few_chained}
use Rattle.line_rules.proofs.ChainFacts.{none_chained, gathered_start, gathered_more, gathered_past, gathered_end}
use Rattle.line_rules.proofs.ChainFacts.{chained_set}
use Rattle.lower_bounds.proofs.chains.chained_tasks.Goals as goal

-- what is told of a number that was found, and where none was
found : (o : Option ℕ) (x least : ℕ) → is_some o ≡ true → IfSome o (λ r. r ≡ x) → IfSome o (λ r. least < r) → least < x
found None x least e same more = absurd (false≢true e)
found (Some r) x least e same more = omega (arith, same, more)

passed : (o : Option ℕ) (P : Type 0) → is_some o ≡ false → (IsNone o → P) → P
passed None P e h = h refl
passed (Some r) P e h = absurd (false≢true (sym e))

pub returns-then-from-enough-clause-members : goal.returns-then-from-enough-clause-members
returns-then-from-enough-clause-members c = λ j. (
  λ n. let P : List Bool → Type 0 = λ s. In s j in
      absurd (In-empty 1024 j (subst P c.empty-chained.ensures.value n)),
  λ h.
      let few = few_chained Straight c.args.inst.now c.tasks-tasks.ensures.line c.args.cycle c.requires.some
      c.args.set.now c.requires.set c.from-least.result c.args.times.total c.args.times.longest c.requires.times.total
      c.requires.times.longest (omega (arith, c.enough.ensures, c.from.ensures, c.if-from-enough.true)) in
      absurd (none_chained c.args.inst.now c.args.cycle c.args.set.now c.requires.set c.args.least Straight
      (omega (arith, few, c.from-least.ensures)) j h),
)

pub returns-then-from-enough-clause-set : goal.returns-then-from-enough-clause-set
returns-then-from-enough-clause-set c = record {
  truths = c.empty-chained.ensures.truths;
  tasks = λ j n. let P : List Bool → Type 0 = λ s. In s j in
      absurd (In-empty 1024 j (subst P c.empty-chained.ensures.value n));
}

pub loop-j-init : goal.loop-j-init
loop-j-init c =
    let e = c.into_iter-j-iterator.ensures.into_iter_gives in
    record {
      can_next = tt;
      finite = tt;
      witness = c.tasks-tasks.ensures.line.some;
      members = all_in_start _ _ e;
      gathered = gathered_start c.args.inst.now c.args.cycle c.args.set.now c.from-least.result
          c.empty-chained.result _ c.empty-chained.ensures.truths c.empty-chained.ensures.value e;
    }

pub loop-j-preserved-then-is_some : goal.loop-j-preserved-then-is_some
loop-j-preserved-then-is_some c =
    let turn = all_in_turn c.args.set.now c.loop-j.j-iterator c.next.new.self c.in-Some.j c.in-Some.ensures.steps
    c.loop-j.invariant.members in
    record {
      can_next = tt;
      finite = tt;
      witness = c.around.ensures.witness;
      members = turn.1;
      gathered = gathered_more c.args.inst.now c.args.cycle c.args.set.now c.from-least.result c.loop-j.chained
          c.insert.new.self c.loop-j.j-iterator c.next.new.self c.in-Some.j c.in-Some.ensures.steps turn.0
          (omega (arith, c.requires.set.tasks c.in-Some.j turn.0, c.tasks-tasks.ensures.line.small))
          (found c.around.result _ c.from-least.result (sym c.is_some.ensures ∙ c.if-is_some.true)
          c.around.ensures.some c.around.ensures.more) c.insert.ensures.value c.insert.ensures.truths
          c.loop-j.invariant.gathered;
    }

pub loop-j-preserved : goal.loop-j-preserved
loop-j-preserved c =
    let turn = all_in_turn c.args.set.now c.loop-j.j-iterator c.next.new.self c.in-Some.j c.in-Some.ensures.steps
    c.loop-j.invariant.members in
    record {
      can_next = tt;
      finite = tt;
      witness = c.around.ensures.witness;
      members = turn.1;
      gathered = gathered_past c.args.inst.now c.args.cycle c.args.set.now c.from-least.result c.loop-j.chained
          c.loop-j.j-iterator c.next.new.self c.in-Some.j c.in-Some.ensures.steps
          (passed c.around.result _ (sym c.is_some.ensures ∙ c.if-is_some.false) c.around.ensures.none)
          c.loop-j.invariant.gathered;
    }

members : (c : goal.In-None) → (j : ℕ)
    → In c.loop-j.chained j ↔ IsChained Straight c.args.inst.now c.args.cycle c.args.set.now c.args.least j
members c =
    let P : ℕ → Type 0 = λ n. (j : ℕ)
    → In c.loop-j.chained j ↔ IsChained Straight c.args.inst.now c.args.cycle c.args.set.now n j in
    subst P c.from-least.ensures (gathered_end c.args.inst.now c.args.cycle c.args.set.now c.from-least.result
    c.loop-j.chained c.loop-j.j-iterator c.in-None.ensures.steps.0 c.loop-j.invariant.gathered)

pub returns-clause-members : goal.returns-clause-members
returns-clause-members c = members c

pub returns-clause-set : goal.returns-clause-set
returns-clause-set c = chained_set c.args.inst.now c.args.cycle c.args.set.now c.requires.set c.args.least
    c.loop-j.chained c.loop-j.invariant.gathered.truths (members c)
