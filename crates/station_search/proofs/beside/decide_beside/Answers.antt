use Rattle.std.proofs.Common.{ℕ, None, ◌+◌, ◌-◌, ◌∙◌, sym, subst, [], inl, inr, arith}
use Rattle.std.proofs.lemmas.Bool.{false≢true}
use Rattle.line_rules.proofs.Nonempty.{member_or_empty}
use Rattle.line_rules.proofs.PairGrowth.{grow}
use Rattle.line_rules.specs.Bounds.{bound}
use Rattle.lemma_core.proofs.HistoryGrows.{keeps_none, keeps_both}
use Rattle.lemma_core.specs.Desks.{entries}
use Rattle.station_search.specs.Decide.{IsAnswered}
use Rattle.station_search.specs.Beside.{most_added}
use Rattle.station_search.proofs.Events.{for_still, waits_none}
use Rattle.station_search.proofs.Clauses.{not_exceeds, own_waits, own_accounts, few_accounts, accounts_then, accounts_free}
use Rattle.station_search.proofs.Clauses.{few_none, empty_found}
use Rattle.station_search.proofs.PaidSteps.{does_few, few_waits}
use Rattle.station_search.proofs.beside.decide_beside.Goals as goal

pub returns-in-Some-clause-bounded : goal.returns-in-Some-clause-bounded
returns-in-Some-clause-bounded g c = λ l. absurd (omega (
  arith,
  l,
  not_exceeds c.exceeds.result c.args.most (bound c.args.kind c.args.inst.now c.args.cycle c.args.set.now)
      c.if-exceeds.false c.exceeds.ensures,
))

pub returns-then-is_empty-clause-bounded : goal.returns-then-is_empty-clause-bounded
returns-then-is_empty-clause-bounded g c = λ l. absurd (omega (
  arith,
  l,
  not_exceeds c.exceeds.result c.args.most (bound c.args.kind c.args.inst.now c.args.cycle c.args.set.now)
      c.if-exceeds.false c.exceeds.ensures,
))

pub returns-in-Ok-clause-bounded : goal.returns-in-Ok-clause-bounded
returns-in-Ok-clause-bounded g c = λ l. absurd (omega (
  arith,
  l,
  not_exceeds c.exceeds.result c.args.most (bound c.args.kind c.args.inst.now c.args.cycle c.args.set.now)
      c.if-exceeds.false c.exceeds.ensures,
))

pub returns-in-Err-clause-bounded : goal.returns-in-Err-clause-bounded
returns-in-Err-clause-bounded g c = λ l. absurd (omega (
  arith,
  l,
  not_exceeds c.exceeds.result c.args.most (bound c.args.kind c.args.inst.now c.args.cycle c.args.set.now)
      c.if-exceeds.false c.exceeds.ensures,
))

pub returns-in-Ok-search_beside-clause-bounded : goal.returns-in-Ok-search_beside-clause-bounded
returns-in-Ok-search_beside-clause-bounded g c = λ l. absurd (omega (
  arith,
  l,
  not_exceeds c.exceeds.result c.args.most (bound c.args.kind c.args.inst.now c.args.cycle c.args.set.now)
      c.if-exceeds.false c.exceeds.ensures,
))

pub returns-in-Err-search_beside-clause-bounded : goal.returns-in-Err-search_beside-clause-bounded
returns-in-Err-search_beside-clause-bounded g c = λ l. absurd (omega (
  arith,
  l,
  not_exceeds c.exceeds.result c.args.most (bound c.args.kind c.args.inst.now c.args.cycle c.args.set.now)
      c.if-exceeds.false c.exceeds.ensures,
))

pub returns-in-Some-clause-few : goal.returns-in-Some-clause-few
returns-in-Some-clause-few g c = few_none c.args.inst.now c.args.cycle (g.D.Desk.desk c.args.desk.now) (g.D.Desk.desk
    c.find.new.self) (c.args.units.now.used - c.args.units.now.used) ((c.args.units.now.used - c.args.units.now.used) +
    1)
    c.find.ensures.waits

pub returns-then-is_empty-clause-few : goal.returns-then-is_empty-clause-few
returns-then-is_empty-clause-few g c = few_none c.args.inst.now c.args.cycle (g.D.Desk.desk c.args.desk.now)
    (g.D.Desk.desk c.find.new.self) (c.args.units.now.used - c.args.units.now.used) (c.args.units.now.used -
    c.args.units.now.used)
    c.find.ensures.waits

pub returns-then-is_empty-clause-decides : goal.returns-then-is_empty-clause-decides
returns-then-is_empty-clause-decides g c = empty_found c.args.kind c.args.inst.now c.args.cycle c.args.set.now
    c.args.most c.from_vec.result (not_exceeds c.exceeds.result c.args.most (bound c.args.kind c.args.inst.now
    c.args.cycle c.args.set.now)
    c.if-exceeds.false c.exceeds.ensures) (c.from_vec.ensures ∙ c.new.ensures.items)
    (c.is_empty.ensures.0 c.if-is_empty.true)

pub publish_pairs-requires-clause-refuted : goal.publish_pairs-requires-clause-refuted
publish_pairs-requires-clause-refuted g c = grow c.args.kind c.args.inst.now c.args.cycle c.in-Refuted.hull
    c.args.set.now c.args.most c.in-Refuted.two c.requires.set c.in-Refuted.ensures.within c.in-Refuted.ensures.refuted

pub search_beside-requires-clause-some : goal.search_beside-requires-clause-some
search_beside-requires-clause-some g c = elim (member_or_empty c.args.set.now)
    [ inl p ↦ p | inr n ↦ absurd (false≢true (sym c.if-is_empty.false ∙ c.is_empty.ensures.1 n)) ]

pub returns-in-Ok-clause-own : goal.returns-in-Ok-clause-own
returns-in-Ok-clause-own g c = own_accounts None c.args.kind c.args.inst.now c.args.cycle (g.D.Desk.desk
    c.args.desk.now) (g.D.Desk.desk c.publish_pairs.new.desk) [] (c.args.units.now.used - c.args.units.now.used)
    ((c.args.units.now.used - c.args.units.now.used) + 1)
    (accounts_free None c.args.kind c.args.inst.now c.args.cycle (g.D.Desk.desk c.args.desk.now) (g.D.Desk.desk
    c.find.new.self) (g.D.Desk.desk c.publish_pairs.new.desk) 1 (c.args.units.now.used - c.args.units.now.used)
    ((c.args.units.now.used - c.args.units.now.used) + 1) c.find.ensures.waits
    c.publish_pairs.ensures.keeps (does_few None c.args.kind c.args.inst.now c.args.cycle (g.D.Desk.desk
    c.find.new.self) (g.D.Desk.desk c.publish_pairs.new.desk) c.args.set.now 1 0
    (c.in-Ok.ensures.publishes None c.args.set.now (λ i m. m))) (omega arith))

pub returns-in-Ok-clause-few : goal.returns-in-Ok-clause-few
returns-in-Ok-clause-few g c = few_accounts None c.args.kind c.args.inst.now c.args.cycle (g.D.Desk.desk
    c.args.desk.now) (g.D.Desk.desk c.publish_pairs.new.desk) [] (c.args.units.now.used - c.args.units.now.used)
    ((c.args.units.now.used - c.args.units.now.used) + 1)
    (accounts_free None c.args.kind c.args.inst.now c.args.cycle (g.D.Desk.desk c.args.desk.now) (g.D.Desk.desk
    c.find.new.self) (g.D.Desk.desk c.publish_pairs.new.desk) 1 (c.args.units.now.used - c.args.units.now.used)
    ((c.args.units.now.used - c.args.units.now.used) + 1) c.find.ensures.waits
    c.publish_pairs.ensures.keeps (does_few None c.args.kind c.args.inst.now c.args.cycle (g.D.Desk.desk
    c.find.new.self) (g.D.Desk.desk c.publish_pairs.new.desk) c.args.set.now 1 0
    (c.in-Ok.ensures.publishes None c.args.set.now (λ i m. m))) (omega arith))

pub returns-in-Err-clause-own : goal.returns-in-Err-clause-own
returns-in-Err-clause-own g c = own_accounts None c.args.kind c.args.inst.now c.args.cycle (g.D.Desk.desk
    c.args.desk.now) (g.D.Desk.desk c.publish_pairs.new.desk) [] (c.args.units.now.used - c.args.units.now.used)
    (c.args.units.now.used - c.args.units.now.used)
    (accounts_free None c.args.kind c.args.inst.now c.args.cycle (g.D.Desk.desk c.args.desk.now) (g.D.Desk.desk
    c.find.new.self) (g.D.Desk.desk c.publish_pairs.new.desk) 0 (c.args.units.now.used - c.args.units.now.used)
    (c.args.units.now.used - c.args.units.now.used) c.find.ensures.waits
    c.publish_pairs.ensures.keeps (few_waits None c.args.kind c.args.inst.now c.args.cycle (g.D.Desk.desk
    c.find.new.self) (g.D.Desk.desk c.publish_pairs.new.desk) 0 c.in-Err.ensures.waits) (omega arith))

pub returns-in-Err-clause-few : goal.returns-in-Err-clause-few
returns-in-Err-clause-few g c = few_accounts None c.args.kind c.args.inst.now c.args.cycle (g.D.Desk.desk
    c.args.desk.now) (g.D.Desk.desk c.publish_pairs.new.desk) [] (c.args.units.now.used - c.args.units.now.used)
    (c.args.units.now.used - c.args.units.now.used)
    (accounts_free None c.args.kind c.args.inst.now c.args.cycle (g.D.Desk.desk c.args.desk.now) (g.D.Desk.desk
    c.find.new.self) (g.D.Desk.desk c.publish_pairs.new.desk) 0 (c.args.units.now.used - c.args.units.now.used)
    (c.args.units.now.used - c.args.units.now.used) c.find.ensures.waits
    c.publish_pairs.ensures.keeps (few_waits None c.args.kind c.args.inst.now c.args.cycle (g.D.Desk.desk
    c.find.new.self) (g.D.Desk.desk c.publish_pairs.new.desk) 0 c.in-Err.ensures.waits) (omega arith))

pub returns-in-Ok-search_beside-clause-own : goal.returns-in-Ok-search_beside-clause-own
returns-in-Ok-search_beside-clause-own g c = own_accounts None c.args.kind c.args.inst.now c.args.cycle (g.D.Desk.desk
    c.args.desk.now) (g.D.Desk.desk c.search_beside.new.desk) [] (c.search_beside.new.units.used -
    c.args.units.now.used) (most_added (c.search_beside.new.units.used - c.args.units.now.used)
    c.in-Ok-search_beside.decided)
    (accounts_then None c.args.kind c.args.inst.now c.args.cycle (g.D.Desk.desk c.args.desk.now) (g.D.Desk.desk
    c.find.new.self) (g.D.Desk.desk c.search_beside.new.desk) c.find.ensures.waits
    (keeps_both (g.D.Desk.desk c.find.new.self) (g.D.Desk.desk c.claim.new.self) (g.D.Desk.desk
    c.search_beside.new.desk) c.claim.ensures.waits.keeps c.search_beside.ensures.keeps) []
    (c.search_beside.new.units.used - c.args.units.now.used) (most_added (c.search_beside.new.units.used -
    c.args.units.now.used) c.in-Ok-search_beside.decided)
    (accounts_then None c.args.kind c.args.inst.now c.args.cycle (g.D.Desk.desk c.find.new.self) (g.D.Desk.desk
    c.claim.new.self) (g.D.Desk.desk c.search_beside.new.desk) c.claim.ensures.waits c.search_beside.ensures.keeps []
    (c.search_beside.new.units.used - c.args.units.now.used) (most_added (c.search_beside.new.units.used -
    c.args.units.now.used) c.in-Ok-search_beside.decided) c.in-Ok-search_beside.ensures.ends))

pub returns-in-Ok-search_beside-clause-few : goal.returns-in-Ok-search_beside-clause-few
returns-in-Ok-search_beside-clause-few g c = few_accounts None c.args.kind c.args.inst.now c.args.cycle (g.D.Desk.desk
    c.args.desk.now) (g.D.Desk.desk c.search_beside.new.desk) [] (c.search_beside.new.units.used -
    c.args.units.now.used) (most_added (c.search_beside.new.units.used - c.args.units.now.used)
    c.in-Ok-search_beside.decided)
    (accounts_then None c.args.kind c.args.inst.now c.args.cycle (g.D.Desk.desk c.args.desk.now) (g.D.Desk.desk
    c.find.new.self) (g.D.Desk.desk c.search_beside.new.desk) c.find.ensures.waits
    (keeps_both (g.D.Desk.desk c.find.new.self) (g.D.Desk.desk c.claim.new.self) (g.D.Desk.desk
    c.search_beside.new.desk) c.claim.ensures.waits.keeps c.search_beside.ensures.keeps) []
    (c.search_beside.new.units.used - c.args.units.now.used) (most_added (c.search_beside.new.units.used -
    c.args.units.now.used) c.in-Ok-search_beside.decided)
    (accounts_then None c.args.kind c.args.inst.now c.args.cycle (g.D.Desk.desk c.find.new.self) (g.D.Desk.desk
    c.claim.new.self) (g.D.Desk.desk c.search_beside.new.desk) c.claim.ensures.waits c.search_beside.ensures.keeps []
    (c.search_beside.new.units.used - c.args.units.now.used) (most_added (c.search_beside.new.units.used -
    c.args.units.now.used) c.in-Ok-search_beside.decided) c.in-Ok-search_beside.ensures.ends))

pub returns-in-Err-search_beside-clause-own : goal.returns-in-Err-search_beside-clause-own
returns-in-Err-search_beside-clause-own g c = own_accounts None c.args.kind c.args.inst.now c.args.cycle (g.D.Desk.desk
    c.args.desk.now) (g.D.Desk.desk c.search_beside.new.desk) [] (c.search_beside.new.units.used -
    c.args.units.now.used) (c.search_beside.new.units.used - c.args.units.now.used)
    (accounts_then None c.args.kind c.args.inst.now c.args.cycle (g.D.Desk.desk c.args.desk.now) (g.D.Desk.desk
    c.find.new.self) (g.D.Desk.desk c.search_beside.new.desk) c.find.ensures.waits
    (keeps_both (g.D.Desk.desk c.find.new.self) (g.D.Desk.desk c.claim.new.self) (g.D.Desk.desk
    c.search_beside.new.desk) c.claim.ensures.waits.keeps c.search_beside.ensures.keeps) []
    (c.search_beside.new.units.used - c.args.units.now.used) (c.search_beside.new.units.used - c.args.units.now.used)
    (accounts_then None c.args.kind c.args.inst.now c.args.cycle (g.D.Desk.desk c.find.new.self) (g.D.Desk.desk
    c.claim.new.self) (g.D.Desk.desk c.search_beside.new.desk) c.claim.ensures.waits c.search_beside.ensures.keeps []
    (c.search_beside.new.units.used - c.args.units.now.used) (c.search_beside.new.units.used - c.args.units.now.used)
    c.in-Err-search_beside.ensures.accounts))

pub returns-in-Err-search_beside-clause-few : goal.returns-in-Err-search_beside-clause-few
returns-in-Err-search_beside-clause-few g c = few_accounts None c.args.kind c.args.inst.now c.args.cycle (g.D.Desk.desk
    c.args.desk.now) (g.D.Desk.desk c.search_beside.new.desk) [] (c.search_beside.new.units.used -
    c.args.units.now.used) (c.search_beside.new.units.used - c.args.units.now.used)
    (accounts_then None c.args.kind c.args.inst.now c.args.cycle (g.D.Desk.desk c.args.desk.now) (g.D.Desk.desk
    c.find.new.self) (g.D.Desk.desk c.search_beside.new.desk) c.find.ensures.waits
    (keeps_both (g.D.Desk.desk c.find.new.self) (g.D.Desk.desk c.claim.new.self) (g.D.Desk.desk
    c.search_beside.new.desk) c.claim.ensures.waits.keeps c.search_beside.ensures.keeps) []
    (c.search_beside.new.units.used - c.args.units.now.used) (c.search_beside.new.units.used - c.args.units.now.used)
    (accounts_then None c.args.kind c.args.inst.now c.args.cycle (g.D.Desk.desk c.find.new.self) (g.D.Desk.desk
    c.claim.new.self) (g.D.Desk.desk c.search_beside.new.desk) c.claim.ensures.waits c.search_beside.ensures.keeps []
    (c.search_beside.new.units.used - c.args.units.now.used) (c.search_beside.new.units.used - c.args.units.now.used)
    c.in-Err-search_beside.ensures.accounts))

pub returns-then-exceeds-clause-keeps : goal.returns-then-exceeds-clause-keeps
returns-then-exceeds-clause-keeps g c = keeps_none (g.D.Desk.desk c.args.desk.now)

pub returns-then-exceeds-clause-own : goal.returns-then-exceeds-clause-own
returns-then-exceeds-clause-own g c = own_waits None c.args.kind c.args.inst.now c.args.cycle (g.D.Desk.desk
    c.args.desk.now) (g.D.Desk.desk c.args.desk.now) (waits_none (g.D.Desk.desk c.args.desk.now))

pub returns-then-exceeds-clause-few : goal.returns-then-exceeds-clause-few
returns-then-exceeds-clause-few g c = few_none c.args.inst.now c.args.cycle (g.D.Desk.desk c.args.desk.now)
    (g.D.Desk.desk c.args.desk.now) (c.args.units.now.used - c.args.units.now.used)
    ((c.args.units.now.used - c.args.units.now.used) + 1) (waits_none (g.D.Desk.desk c.args.desk.now))

pub returns-in-Some-clause-keeps : goal.returns-in-Some-clause-keeps
returns-in-Some-clause-keeps g c = c.find.ensures.waits.keeps

pub returns-in-Some-clause-own : goal.returns-in-Some-clause-own
returns-in-Some-clause-own g c = own_waits None c.args.kind c.args.inst.now c.args.cycle (g.D.Desk.desk
    c.args.desk.now) (g.D.Desk.desk c.find.new.self) c.find.ensures.waits

pub returns-in-Some-clause-decides : goal.returns-in-Some-clause-decides
returns-in-Some-clause-decides g c =
    let A : ℕ → Type 0 = λ z. IsAnswered (entries (g.D.Desk.desk c.find.new.self)) c.in-Some.id c.args.set.now
    c.args.most z in (
      not_exceeds c.exceeds.result c.args.most (bound c.args.kind c.args.inst.now c.args.cycle c.args.set.now)
          c.if-exceeds.false c.exceeds.ensures,
      subst A (for_still (g.D.Desk.desk c.args.desk.now) (g.D.Desk.desk c.find.new.self) c.args.inst.now c.args.kind
          c.args.cycle c.requires.desk c.find.ensures.waits.keeps).same_cycle c.in-Some.ensures.finds,
    )

pub returns-then-is_empty-clause-keeps : goal.returns-then-is_empty-clause-keeps
returns-then-is_empty-clause-keeps g c = c.find.ensures.waits.keeps

pub returns-then-is_empty-clause-own : goal.returns-then-is_empty-clause-own
returns-then-is_empty-clause-own g c = own_waits None c.args.kind c.args.inst.now c.args.cycle (g.D.Desk.desk
    c.args.desk.now) (g.D.Desk.desk c.find.new.self) c.find.ensures.waits

pub publish_pairs-requires-clause-desk : goal.publish_pairs-requires-clause-desk
publish_pairs-requires-clause-desk g c = for_still (g.D.Desk.desk c.args.desk.now) (g.D.Desk.desk c.find.new.self)
    c.args.inst.now c.args.kind c.args.cycle c.requires.desk c.find.ensures.waits.keeps

pub returns-in-Ok-clause-keeps : goal.returns-in-Ok-clause-keeps
returns-in-Ok-clause-keeps g c = keeps_both (g.D.Desk.desk c.args.desk.now) (g.D.Desk.desk c.find.new.self)
    (g.D.Desk.desk c.publish_pairs.new.desk) c.find.ensures.waits.keeps c.publish_pairs.ensures.keeps

pub returns-in-Ok-clause-decides : goal.returns-in-Ok-clause-decides
returns-in-Ok-clause-decides g c = (
  not_exceeds c.exceeds.result c.args.most (bound c.args.kind c.args.inst.now c.args.cycle c.args.set.now)
      c.if-exceeds.false c.exceeds.ensures,
  c.in-Ok.ensures.answered,
)

pub returns-in-Err-clause-keeps : goal.returns-in-Err-clause-keeps
returns-in-Err-clause-keeps g c = keeps_both (g.D.Desk.desk c.args.desk.now) (g.D.Desk.desk c.find.new.self)
    (g.D.Desk.desk c.publish_pairs.new.desk) c.find.ensures.waits.keeps c.publish_pairs.ensures.keeps

pub search_beside-requires-clause-desk : goal.search_beside-requires-clause-desk
search_beside-requires-clause-desk g c = for_still (g.D.Desk.desk c.args.desk.now) (g.D.Desk.desk c.claim.new.self)
    c.args.inst.now c.args.kind c.args.cycle c.requires.desk (keeps_both (g.D.Desk.desk c.args.desk.now)
    (g.D.Desk.desk c.find.new.self) (g.D.Desk.desk c.claim.new.self) c.find.ensures.waits.keeps
    c.claim.ensures.waits.keeps)

pub search_beside-requires-clause-bound : goal.search_beside-requires-clause-bound
search_beside-requires-clause-bound g c = not_exceeds c.exceeds.result c.args.most (bound c.args.kind c.args.inst.now
    c.args.cycle c.args.set.now) c.if-exceeds.false c.exceeds.ensures

pub returns-in-Ok-search_beside-clause-keeps : goal.returns-in-Ok-search_beside-clause-keeps
returns-in-Ok-search_beside-clause-keeps g c = keeps_both (g.D.Desk.desk c.args.desk.now) (g.D.Desk.desk
    c.find.new.self) (g.D.Desk.desk c.search_beside.new.desk) c.find.ensures.waits.keeps
    (keeps_both (g.D.Desk.desk c.find.new.self) (g.D.Desk.desk c.claim.new.self) (g.D.Desk.desk
    c.search_beside.new.desk) c.claim.ensures.waits.keeps c.search_beside.ensures.keeps)

pub returns-in-Err-search_beside-clause-keeps : goal.returns-in-Err-search_beside-clause-keeps
returns-in-Err-search_beside-clause-keeps g c = keeps_both (g.D.Desk.desk c.args.desk.now) (g.D.Desk.desk
    c.find.new.self) (g.D.Desk.desk c.search_beside.new.desk) c.find.ensures.waits.keeps
    (keeps_both (g.D.Desk.desk c.find.new.self) (g.D.Desk.desk c.claim.new.self) (g.D.Desk.desk
    c.search_beside.new.desk) c.claim.ensures.waits.keeps c.search_beside.ensures.keeps)
