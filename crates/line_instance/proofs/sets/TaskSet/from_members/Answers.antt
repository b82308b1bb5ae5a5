use Rattle.std.proofs.Common.{◌↔◌, ℕ, ◌+◌, List, Bool, take, sym, subst}
use Rattle.std.specs.List.{Contains}
use Rattle.std.proofs.lemmas.List.{take_all}
use Rattle.line_instance.specs.Truths.{In}
use Rattle.line_instance.proofs.ListedMembers.{listed_none, listed_more}
use Rattle.line_instance.proofs.sets.TaskSet.from_members.Goals as goal

pub loop-i-init : goal.loop-i-init
loop-i-init c = record {
  truths = c.empty-set.ensures.truths;
  listed = listed_none c.empty-set.result c.args.members.now c.empty-set.ensures.value;
}

pub loop-i-preserved : goal.loop-i-preserved
loop-i-preserved c =
    let P : List Bool → Type 0 = λ s. (i : ℕ) → In s i ↔ Contains (take (c.loop-i.i-index + 1) c.args.members.now) i in
    record {
      truths = c.insert.ensures.truths;
      listed = subst P (sym c.insert.ensures.value)
          (listed_more c.loop-i.set c.args.members.now c.loop-i.i-index c.loop-i.invariant.truths c.loop-i-test.true
          (c.requires c.loop-i.i-index 0 c.loop-i-test.true) c.loop-i.invariant.listed);
    }

pub returns-clause-members : goal.returns-clause-members
returns-clause-members c =
    let P : List ℕ → Type 0 = λ xs. (i : ℕ) → In c.loop-i.set i ↔ Contains xs i in
    subst P (take_all c.loop-i.i-index c.args.members.now c.loop-i-test.false) c.loop-i.invariant.listed
