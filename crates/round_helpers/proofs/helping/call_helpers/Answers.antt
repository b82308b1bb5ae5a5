use Rattle.std.proofs.Common.{◌-◌, ◌≤◌, ℕ, List, length, sym, subst}
use Rattle.round_helpers.specs.declared.job_list.Job.{Job}
use Rattle.lemma_core.specs.Books.{BookView}
use Rattle.round_helpers.specs.Growth.{Helps}
use Rattle.round_helpers.specs.Helping.{all_used}
use Rattle.round_helpers.proofs.BookGrowth.{helps_none}
use Rattle.round_helpers.proofs.PieceFacts.{few_jobs}
use Rattle.round_helpers.proofs.SettleFacts.{spent_none}
use Rattle.round_helpers.proofs.helping.call_helpers.Goals as goal

pub returns-then-is_empty-clause-spent : goal.returns-then-is_empty-clause-spent
returns-then-is_empty-clause-spent g c = spent_none c.args.units.now

pub returns-in_default-clause-spent : goal.returns-in_default-clause-spent
returns-in_default-clause-spent g c = spent_none c.args.units.now

pub returns-in_default-equip-clause-spent : goal.returns-in_default-equip-clause-spent
returns-in_default-equip-clause-spent g c = spent_none c.args.units.now

pub returns-clause-helps : goal.returns-clause-helps
returns-clause-helps g c =
    let n : ℕ = all_used c.args.units.now - all_used c.args.units.now in
    let P : BookView → Type 0 = λ z. Helps c.args.book z n in
    subst P (sym c.in-NoMemory.ensures) (helps_none c.args.book n)

pub returns-clause-spent : goal.returns-clause-spent
returns-clause-spent g c = spent_none c.args.units.now

pub equip-requires-clause-few : goal.equip-requires-clause-few
equip-requires-clause-few g c =
    let P : List Job → Type 0 = λ z. length z ≤ 4096 in
    subst P (sym c.deref.ensures.value)
    (few_jobs c.kind.result c.args.inst.now c.cycle.result c.args.most c.in-Ok.jobs.items c.in-Ok.ensures)
