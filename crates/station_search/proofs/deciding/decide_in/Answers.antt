use Rattle.std.proofs.Common.{ℕ, ◌+◌, ◌-◌, ◌∙◌, sym, List, [], subst, inl, inr, arith}
use Rattle.std.proofs.lemmas.Bool.{false≢true}
use Rattle.line_rules.proofs.Nonempty.{member_or_empty}
use Rattle.line_rules.proofs.PairGrowth.{grow}
use Rattle.line_rules.specs.Bounds.{bound}
use Rattle.line_rules.specs.declared.types.OpenFrame.{OpenFrame}
use Rattle.line_rules.specs.Entries.{IsUnanswered}
use Rattle.lemma_core.specs.Desks.{entries}
use Rattle.lemma_core.proofs.HistoryGrows.{keeps_none, keeps_both}
use Rattle.station_search.specs.Decide.{IsAnswered}
use Rattle.station_search.specs.Costs.{PaysWithin, AddsFew}
use Rattle.station_search.proofs.Events.{for_still, waits_none}
use Rattle.station_search.proofs.Clauses.{not_exceeds, own_accounts, within_accounts, few_accounts, accounts_then}
use Rattle.station_search.proofs.Clauses.{ends_then, ends_own, ends_costs, ends_few, ends_alone, not_known, few_none}
use Rattle.station_search.proofs.Clauses.{empty_found, own_waits, exactly_none, spends_none, accounts_none}
use Rattle.station_search.proofs.deciding.decide_in.Goals as goal

pub returns-then-is_empty-clause-decides : goal.returns-then-is_empty-clause-decides
returns-then-is_empty-clause-decides g c =
    empty_found c.args.kind c.args.inst.now c.args.cycle c.args.set.now c.args.most c.from_vec.result
    (not_exceeds c.exceeds.result c.args.most (bound c.args.kind c.args.inst.now c.args.cycle c.args.set.now)
    c.if-exceeds.false c.exceeds.ensures) (c.from_vec.ensures ∙ c.new.ensures.items)
    (c.is_empty.ensures.0 c.if-is_empty.true)

pub returns-then-is_empty-clause-known : goal.returns-then-is_empty-clause-known
returns-then-is_empty-clause-known g c = λ b h. absurd (not_known (g.D.Desk.desk c.args.desk.now)
    (g.D.Desk.desk c.look.new.self) c.args.inst.now c.args.kind c.args.set.now c.args.most c.args.cycle c.requires.desk
    c.look.ensures.waits.keeps c.in-Absent.ensures.finds h)

pub returns-then-is_empty-clause-few : goal.returns-then-is_empty-clause-few
returns-then-is_empty-clause-few g c = few_none c.args.inst.now c.args.cycle (g.D.Desk.desk c.args.desk.now)
    (g.D.Desk.desk c.look.new.self) (c.args.units.now.used - c.args.units.now.used)
    (c.args.units.now.used - c.args.units.now.used) c.look.ensures.waits

pub search-requires-clause-some : goal.search-requires-clause-some
search-requires-clause-some g c = elim (member_or_empty c.args.set.now)
    [ inl p ↦ p | inr n ↦ absurd (false≢true (sym c.if-is_empty.false ∙ c.is_empty.ensures.1 n)) ]

pub returns-in-Ok-clause-own : goal.returns-in-Ok-clause-own
returns-in-Ok-clause-own g c = ends_own c.args.mode c.args.kind c.args.inst.now c.args.cycle
    (g.D.Desk.desk c.args.desk.now) (g.D.Desk.desk c.search.new.desk) (c.search.new.units.used - c.args.units.now.used)
    c.in-Ok.decided (ends_then c.args.mode c.args.kind c.args.inst.now c.args.cycle (g.D.Desk.desk c.args.desk.now)
    (g.D.Desk.desk c.look.new.self) (g.D.Desk.desk c.search.new.desk) (c.search.new.units.used - c.args.units.now.used)
    c.in-Ok.decided c.look.ensures.waits c.search.ensures.keeps c.in-Ok.ensures.ends)

pub returns-in-Ok-clause-known : goal.returns-in-Ok-clause-known
returns-in-Ok-clause-known g c = λ b h. absurd (not_known (g.D.Desk.desk c.args.desk.now)
    (g.D.Desk.desk c.look.new.self) c.args.inst.now c.args.kind c.args.set.now c.args.most c.args.cycle c.requires.desk
    c.look.ensures.waits.keeps c.in-Absent.ensures.finds h)

pub returns-in-Ok-clause-costs : goal.returns-in-Ok-clause-costs
returns-in-Ok-clause-costs g c = ends_costs c.args.mode c.args.kind c.args.inst.now c.args.cycle
    (g.D.Desk.desk c.args.desk.now) (g.D.Desk.desk c.search.new.desk) (c.search.new.units.used - c.args.units.now.used)
    c.in-Ok.decided (ends_then c.args.mode c.args.kind c.args.inst.now c.args.cycle (g.D.Desk.desk c.args.desk.now)
    (g.D.Desk.desk c.look.new.self) (g.D.Desk.desk c.search.new.desk) (c.search.new.units.used - c.args.units.now.used)
    c.in-Ok.decided c.look.ensures.waits c.search.ensures.keeps c.in-Ok.ensures.ends)

pub returns-in-Ok-clause-alone : goal.returns-in-Ok-clause-alone
returns-in-Ok-clause-alone g c = λ alone. ends_alone c.args.mode c.args.kind c.args.inst.now c.args.cycle
    (g.D.Desk.desk c.args.desk.now) (g.D.Desk.desk c.search.new.desk) (c.search.new.units.used - c.args.units.now.used)
    c.args.set.now c.args.most c.search.new.units.left c.in-Ok.decided alone c.in-Ok.ensures.decides
    (ends_then c.args.mode c.args.kind c.args.inst.now c.args.cycle (g.D.Desk.desk c.args.desk.now)
    (g.D.Desk.desk c.look.new.self) (g.D.Desk.desk c.search.new.desk) (c.search.new.units.used - c.args.units.now.used)
    c.in-Ok.decided c.look.ensures.waits c.search.ensures.keeps c.in-Ok.ensures.ends)

pub returns-in-Ok-clause-few : goal.returns-in-Ok-clause-few
returns-in-Ok-clause-few g c = ends_few c.args.mode c.args.kind c.args.inst.now c.args.cycle
    (g.D.Desk.desk c.args.desk.now) (g.D.Desk.desk c.search.new.desk) (c.search.new.units.used - c.args.units.now.used)
    c.in-Ok.decided (ends_then c.args.mode c.args.kind c.args.inst.now c.args.cycle (g.D.Desk.desk c.args.desk.now)
    (g.D.Desk.desk c.look.new.self) (g.D.Desk.desk c.search.new.desk) (c.search.new.units.used - c.args.units.now.used)
    c.in-Ok.decided c.look.ensures.waits c.search.ensures.keeps c.in-Ok.ensures.ends)

pub returns-in-Err-clause-own : goal.returns-in-Err-clause-own
returns-in-Err-clause-own g c = own_accounts c.args.mode c.args.kind c.args.inst.now c.args.cycle
    (g.D.Desk.desk c.args.desk.now) (g.D.Desk.desk c.search.new.desk) []
    (c.search.new.units.used - c.args.units.now.used) (c.search.new.units.used - c.args.units.now.used)
    (accounts_then c.args.mode c.args.kind c.args.inst.now c.args.cycle (g.D.Desk.desk c.args.desk.now)
    (g.D.Desk.desk c.look.new.self) (g.D.Desk.desk c.search.new.desk) c.look.ensures.waits c.search.ensures.keeps []
    (c.search.new.units.used - c.args.units.now.used) (c.search.new.units.used - c.args.units.now.used)
    c.in-Err.ensures.accounts)

pub returns-in-Err-clause-known : goal.returns-in-Err-clause-known
returns-in-Err-clause-known g c = λ b h. absurd (not_known (g.D.Desk.desk c.args.desk.now)
    (g.D.Desk.desk c.look.new.self) c.args.inst.now c.args.kind c.args.set.now c.args.most c.args.cycle c.requires.desk
    c.look.ensures.waits.keeps c.in-Absent.ensures.finds h)

pub returns-in-Err-clause-costs : goal.returns-in-Err-clause-costs
returns-in-Err-clause-costs g c =
    let P : List OpenFrame → Type 0 = λ z. PaysWithin c.args.mode c.args.kind c.args.inst.now c.args.cycle
    (g.D.Desk.desk c.args.desk.now) (g.D.Desk.desk c.search.new.desk) z
    (c.search.new.units.used - c.args.units.now.used) in
    subst P (sym (c.from_vec-in-Err.ensures ∙ c.new-in-Err.ensures.items))
    (within_accounts c.args.mode c.args.kind c.args.inst.now c.args.cycle (g.D.Desk.desk c.args.desk.now)
    (g.D.Desk.desk c.search.new.desk) [] (c.search.new.units.used - c.args.units.now.used)
    (c.search.new.units.used - c.args.units.now.used) (accounts_then c.args.mode c.args.kind c.args.inst.now
    c.args.cycle (g.D.Desk.desk c.args.desk.now) (g.D.Desk.desk c.look.new.self) (g.D.Desk.desk c.search.new.desk)
    c.look.ensures.waits c.search.ensures.keeps [] (c.search.new.units.used - c.args.units.now.used)
    (c.search.new.units.used - c.args.units.now.used) c.in-Err.ensures.accounts))

pub returns-in-Err-clause-few : goal.returns-in-Err-clause-few
returns-in-Err-clause-few g c =
    let P : List OpenFrame → Type 0 = λ z. AddsFew c.args.inst.now c.args.cycle (g.D.Desk.desk c.args.desk.now)
    (g.D.Desk.desk c.search.new.desk) z (c.search.new.units.used - c.args.units.now.used)
    (c.search.new.units.used - c.args.units.now.used) in
    subst P (sym (c.from_vec-in-Err.ensures ∙ c.new-in-Err.ensures.items))
    (few_accounts c.args.mode c.args.kind c.args.inst.now c.args.cycle (g.D.Desk.desk c.args.desk.now)
    (g.D.Desk.desk c.search.new.desk) [] (c.search.new.units.used - c.args.units.now.used)
    (c.search.new.units.used - c.args.units.now.used) (accounts_then c.args.mode c.args.kind c.args.inst.now
    c.args.cycle (g.D.Desk.desk c.args.desk.now) (g.D.Desk.desk c.look.new.self) (g.D.Desk.desk c.search.new.desk)
    c.look.ensures.waits c.search.ensures.keeps [] (c.search.new.units.used - c.args.units.now.used)
    (c.search.new.units.used - c.args.units.now.used) c.in-Err.ensures.accounts))

pub refute_by_pairs-requires-clause-refuted : goal.refute_by_pairs-requires-clause-refuted
refute_by_pairs-requires-clause-refuted g c =
    grow c.args.kind c.args.inst.now c.args.cycle c.in-Refuted.hull c.args.set.now c.args.most c.in-Refuted.two
    c.requires.set c.in-Refuted.ensures.within c.in-Refuted.ensures.refuted

pub returns-in-Refuted-clause-own : goal.returns-in-Refuted-clause-own
returns-in-Refuted-clause-own g c = ends_own c.args.mode c.args.kind c.args.inst.now c.args.cycle
    (g.D.Desk.desk c.args.desk.now) (g.D.Desk.desk c.refute_by_pairs.new.desk) (c.args.units.now.used - c.args.units.now.used)
    c.refute_by_pairs.result (ends_then c.args.mode c.args.kind c.args.inst.now c.args.cycle (g.D.Desk.desk c.args.desk.now)
    (g.D.Desk.desk c.look.new.self) (g.D.Desk.desk c.refute_by_pairs.new.desk) (c.args.units.now.used - c.args.units.now.used) c.refute_by_pairs.result
    c.look.ensures.waits c.refute_by_pairs.ensures.keeps (c.refute_by_pairs.ensures.ends c.args.mode
    (c.args.units.now.used - c.args.units.now.used) (omega arith)))

pub returns-in-Refuted-clause-decides : goal.returns-in-Refuted-clause-decides
returns-in-Refuted-clause-decides g c = c.refute_by_pairs.ensures.decides c.args.mode c.args.units.now.left

pub returns-in-Refuted-clause-known : goal.returns-in-Refuted-clause-known
returns-in-Refuted-clause-known g c = λ b h. absurd (not_known (g.D.Desk.desk c.args.desk.now)
    (g.D.Desk.desk c.look.new.self) c.args.inst.now c.args.kind c.args.set.now c.args.most c.args.cycle c.requires.desk
    c.look.ensures.waits.keeps c.in-Absent.ensures.finds h)

pub returns-in-Refuted-clause-costs : goal.returns-in-Refuted-clause-costs
returns-in-Refuted-clause-costs g c = ends_costs c.args.mode c.args.kind c.args.inst.now c.args.cycle
    (g.D.Desk.desk c.args.desk.now) (g.D.Desk.desk c.refute_by_pairs.new.desk) (c.args.units.now.used - c.args.units.now.used)
    c.refute_by_pairs.result (ends_then c.args.mode c.args.kind c.args.inst.now c.args.cycle (g.D.Desk.desk c.args.desk.now)
    (g.D.Desk.desk c.look.new.self) (g.D.Desk.desk c.refute_by_pairs.new.desk) (c.args.units.now.used - c.args.units.now.used) c.refute_by_pairs.result
    c.look.ensures.waits c.refute_by_pairs.ensures.keeps (c.refute_by_pairs.ensures.ends c.args.mode
    (c.args.units.now.used - c.args.units.now.used) (omega arith)))

pub returns-in-Refuted-clause-alone : goal.returns-in-Refuted-clause-alone
returns-in-Refuted-clause-alone g c = λ alone. ends_alone c.args.mode c.args.kind c.args.inst.now c.args.cycle
    (g.D.Desk.desk c.args.desk.now) (g.D.Desk.desk c.refute_by_pairs.new.desk) (c.args.units.now.used - c.args.units.now.used)
    c.args.set.now c.args.most c.args.units.now.left c.refute_by_pairs.result alone
    (c.refute_by_pairs.ensures.decides c.args.mode c.args.units.now.left)
    (ends_then c.args.mode c.args.kind c.args.inst.now c.args.cycle (g.D.Desk.desk c.args.desk.now)
    (g.D.Desk.desk c.look.new.self) (g.D.Desk.desk c.refute_by_pairs.new.desk) (c.args.units.now.used - c.args.units.now.used) c.refute_by_pairs.result
    c.look.ensures.waits c.refute_by_pairs.ensures.keeps (c.refute_by_pairs.ensures.ends c.args.mode
    (c.args.units.now.used - c.args.units.now.used) (omega arith)))

pub returns-in-Refuted-clause-few : goal.returns-in-Refuted-clause-few
returns-in-Refuted-clause-few g c = ends_few c.args.mode c.args.kind c.args.inst.now c.args.cycle
    (g.D.Desk.desk c.args.desk.now) (g.D.Desk.desk c.refute_by_pairs.new.desk) (c.args.units.now.used - c.args.units.now.used)
    c.refute_by_pairs.result (ends_then c.args.mode c.args.kind c.args.inst.now c.args.cycle (g.D.Desk.desk c.args.desk.now)
    (g.D.Desk.desk c.look.new.self) (g.D.Desk.desk c.refute_by_pairs.new.desk) (c.args.units.now.used - c.args.units.now.used) c.refute_by_pairs.result
    c.look.ensures.waits c.refute_by_pairs.ensures.keeps (c.refute_by_pairs.ensures.ends c.args.mode
    (c.args.units.now.used - c.args.units.now.used) (omega arith)))

pub returns-then-exceeds-clause-keeps : goal.returns-then-exceeds-clause-keeps
returns-then-exceeds-clause-keeps g c = keeps_none (g.D.Desk.desk c.args.desk.now)

pub returns-then-exceeds-clause-own : goal.returns-then-exceeds-clause-own
returns-then-exceeds-clause-own g c = own_waits c.args.mode c.args.kind c.args.inst.now c.args.cycle (g.D.Desk.desk
    c.args.desk.now) (g.D.Desk.desk c.args.desk.now) (waits_none (g.D.Desk.desk c.args.desk.now))

pub returns-then-exceeds-clause-costs : goal.returns-then-exceeds-clause-costs
returns-then-exceeds-clause-costs g c = exactly_none c.args.mode c.args.kind c.args.inst.now c.args.cycle
    (g.D.Desk.desk c.args.desk.now) (g.D.Desk.desk c.args.desk.now) (c.args.units.now.used - c.args.units.now.used)
    (omega arith) (waits_none (g.D.Desk.desk c.args.desk.now))

pub returns-then-exceeds-clause-alone : goal.returns-then-exceeds-clause-alone
returns-then-exceeds-clause-alone g c = λ alone. spends_none c.args.inst.now c.args.cycle (g.D.Desk.desk
    c.args.desk.now) (g.D.Desk.desk c.args.desk.now) (c.args.units.now.used - c.args.units.now.used) (omega arith)
    alone (waits_none (g.D.Desk.desk c.args.desk.now))

pub returns-then-exceeds-clause-few : goal.returns-then-exceeds-clause-few
returns-then-exceeds-clause-few g c = few_none c.args.inst.now c.args.cycle (g.D.Desk.desk c.args.desk.now)
    (g.D.Desk.desk c.args.desk.now) (c.args.units.now.used - c.args.units.now.used)
    ((c.args.units.now.used - c.args.units.now.used) + 1) (waits_none (g.D.Desk.desk c.args.desk.now))

pub returns-in-Found-clause-keeps : goal.returns-in-Found-clause-keeps
returns-in-Found-clause-keeps g c = c.look.ensures.waits.keeps

pub returns-in-Found-clause-own : goal.returns-in-Found-clause-own
returns-in-Found-clause-own g c = own_waits c.args.mode c.args.kind c.args.inst.now c.args.cycle (g.D.Desk.desk
    c.args.desk.now) (g.D.Desk.desk c.look.new.self) c.look.ensures.waits

pub returns-in-Found-clause-decides : goal.returns-in-Found-clause-decides
returns-in-Found-clause-decides g c =
    let A : ℕ → Type 0 = λ z. IsAnswered (entries (g.D.Desk.desk c.look.new.self)) c.in-Found.id c.args.set.now
    c.args.most z in
    let last = c.in-Found.ensures.finds.0 in (
      not_exceeds c.exceeds.result c.args.most (bound c.args.kind c.args.inst.now c.args.cycle c.args.set.now)
          c.if-exceeds.false c.exceeds.ensures,
      subst A (for_still (g.D.Desk.desk c.args.desk.now) (g.D.Desk.desk c.look.new.self) c.args.inst.now c.args.kind
          c.args.cycle c.requires.desk c.look.ensures.waits.keeps).same_cycle
          (record { entry = last.entry; there = last.there; answers = last.answers }),
    )

pub returns-in-Found-clause-costs : goal.returns-in-Found-clause-costs
returns-in-Found-clause-costs g c = exactly_none c.args.mode c.args.kind c.args.inst.now c.args.cycle
    (g.D.Desk.desk c.args.desk.now) (g.D.Desk.desk c.look.new.self) (c.args.units.now.used - c.args.units.now.used)
    (omega arith) c.look.ensures.waits

pub returns-in-Found-clause-alone : goal.returns-in-Found-clause-alone
returns-in-Found-clause-alone g c = λ alone. spends_none c.args.inst.now c.args.cycle (g.D.Desk.desk
    c.args.desk.now) (g.D.Desk.desk c.look.new.self) (c.args.units.now.used - c.args.units.now.used) (omega arith)
    alone c.look.ensures.waits

pub returns-in-Found-clause-few : goal.returns-in-Found-clause-few
returns-in-Found-clause-few g c = few_none c.args.inst.now c.args.cycle (g.D.Desk.desk c.args.desk.now)
    (g.D.Desk.desk c.look.new.self) (c.args.units.now.used - c.args.units.now.used)
    ((c.args.units.now.used - c.args.units.now.used) + 1) c.look.ensures.waits

pub returns-then-is_empty-clause-keeps : goal.returns-then-is_empty-clause-keeps
returns-then-is_empty-clause-keeps g c = c.look.ensures.waits.keeps

pub returns-then-is_empty-clause-own : goal.returns-then-is_empty-clause-own
returns-then-is_empty-clause-own g c = own_waits c.args.mode c.args.kind c.args.inst.now c.args.cycle (g.D.Desk.desk
    c.args.desk.now) (g.D.Desk.desk c.look.new.self) c.look.ensures.waits

pub returns-then-is_empty-clause-costs : goal.returns-then-is_empty-clause-costs
returns-then-is_empty-clause-costs g c = within_accounts c.args.mode c.args.kind c.args.inst.now c.args.cycle
    (g.D.Desk.desk c.args.desk.now) (g.D.Desk.desk c.look.new.self) [] (c.args.units.now.used - c.args.units.now.used)
    (c.args.units.now.used - c.args.units.now.used) (accounts_none c.args.mode c.args.kind c.args.inst.now c.args.cycle
    (g.D.Desk.desk c.args.desk.now) (g.D.Desk.desk c.look.new.self) (c.args.units.now.used - c.args.units.now.used)
    (c.args.units.now.used - c.args.units.now.used) c.look.ensures.waits)

pub refute_by_pairs-requires-clause-desk : goal.refute_by_pairs-requires-clause-desk
refute_by_pairs-requires-clause-desk g c = for_still (g.D.Desk.desk c.args.desk.now) (g.D.Desk.desk c.look.new.self)
    c.args.inst.now c.args.kind c.args.cycle c.requires.desk c.look.ensures.waits.keeps

pub refute_by_pairs-requires-clause-bounded : goal.refute_by_pairs-requires-clause-bounded
refute_by_pairs-requires-clause-bounded g c = not_exceeds c.exceeds.result c.args.most (bound c.args.kind
    c.args.inst.now c.args.cycle c.args.set.now) c.if-exceeds.false c.exceeds.ensures

pub returns-in-Refuted-clause-keeps : goal.returns-in-Refuted-clause-keeps
returns-in-Refuted-clause-keeps g c = keeps_both (g.D.Desk.desk c.args.desk.now) (g.D.Desk.desk c.look.new.self)
    (g.D.Desk.desk c.refute_by_pairs.new.desk) c.look.ensures.waits.keeps c.refute_by_pairs.ensures.keeps

pub search-requires-clause-desk : goal.search-requires-clause-desk
search-requires-clause-desk g c = for_still (g.D.Desk.desk c.args.desk.now) (g.D.Desk.desk c.look.new.self)
    c.args.inst.now c.args.kind c.args.cycle c.requires.desk c.look.ensures.waits.keeps

pub search-requires-clause-bound : goal.search-requires-clause-bound
search-requires-clause-bound g c = not_exceeds c.exceeds.result c.args.most (bound c.args.kind c.args.inst.now
    c.args.cycle c.args.set.now) c.if-exceeds.false c.exceeds.ensures

pub search-requires-clause-unanswered : goal.search-requires-clause-unanswered
search-requires-clause-unanswered g c = λ t.
    let U : ℕ → Type 0 = λ z. IsUnanswered (entries (g.D.Desk.desk c.look.new.self)) c.args.set.now c.args.most z in
    subst U (for_still (g.D.Desk.desk c.args.desk.now) (g.D.Desk.desk c.look.new.self) c.args.inst.now c.args.kind
    c.args.cycle c.requires.desk c.look.ensures.waits.keeps).same_cycle c.in-Absent.ensures.finds

pub returns-in-Ok-clause-keeps : goal.returns-in-Ok-clause-keeps
returns-in-Ok-clause-keeps g c = keeps_both (g.D.Desk.desk c.args.desk.now) (g.D.Desk.desk c.look.new.self)
    (g.D.Desk.desk c.search.new.desk) c.look.ensures.waits.keeps c.search.ensures.keeps

pub returns-in-Err-clause-keeps : goal.returns-in-Err-clause-keeps
returns-in-Err-clause-keeps g c = keeps_both (g.D.Desk.desk c.args.desk.now) (g.D.Desk.desk c.look.new.self)
    (g.D.Desk.desk c.search.new.desk) c.look.ensures.waits.keeps c.search.ensures.keeps
