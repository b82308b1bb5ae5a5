use Rattle.std.proofs.Common.{ℕ, Bool, ◌&&◌, Option, IfSome, IsNone, ap, ◌∙◌, sym, subst, refl}
use Rattle.std.proofs.lemmas.Bool.{false≢true, and_parts}
use Rattle.line_rules.specs.Entries.{IsUnanswered}
use Rattle.lemma_core.specs.Desks.{entries}
use Rattle.lemma_core.proofs.HistoryGrows.{keeps_none, keeps_both}
use Rattle.station_search.specs.Decide.{IsAnswered}
use Rattle.station_search.specs.inner.Work.{DoesFor, may_swap}
use Rattle.station_search.proofs.Events.{waits_none, for_still}
use Rattle.station_search.proofs.Standins.{does_for_then}
use Rattle.station_search.proofs.Endings.{on_err}
use Rattle.station_search.proofs.PaidSteps.{one_none}
use Rattle.station_search.proofs.States.{answer_cites}
use Rattle.station_search.proofs.SortFacts.{part_cites}
use Rattle.station_search.proofs.sorting.sort_rest.Goals as goal

pub returns-then-is_empty-clause-publishes : goal.returns-then-is_empty-clause-publishes
returns-then-is_empty-clause-publishes g c = λ asked.
    one_none asked c.args.kind c.args.inst.now c.args.cycle (g.D.Desk.desk c.args.desk.now)
    (g.D.Desk.desk c.args.desk.now) c.args.rest.now 0 (waits_none (g.D.Desk.desk c.args.desk.now))

pub returns-in-Some-clause-publishes : goal.returns-in-Some-clause-publishes
returns-in-Some-clause-publishes g c = λ asked.
    one_none asked c.args.kind c.args.inst.now c.args.cycle (g.D.Desk.desk c.args.desk.now)
    (g.D.Desk.desk c.find.new.desk) c.args.rest.now 1 c.find.ensures.waits

pub returns-in_err-id-clause-keeps : goal.returns-in_err-id-clause-keeps
returns-in_err-id-clause-keeps g c = keeps_both (g.D.Desk.desk c.args.desk.now) (g.D.Desk.desk c.find.new.desk)
    (g.D.Desk.desk c.publish_swap.new.desk) c.find.ensures.waits.keeps c.publish_swap.ensures.keeps

pub returns-in_err-id-clause-fails : goal.returns-in_err-id-clause-fails
returns-in_err-id-clause-fails g c = λ asked.
    on_err c.from_residual-in_err-id.result (DoesFor asked c.args.kind c.args.inst.now c.args.cycle
    (g.D.Desk.desk c.args.desk.now) (g.D.Desk.desk c.publish_swap.new.desk) c.args.rest.now 0 0)
    (does_for_then asked c.args.kind c.args.inst.now c.args.cycle (g.D.Desk.desk c.args.desk.now)
    (g.D.Desk.desk c.find.new.desk) (g.D.Desk.desk c.publish_swap.new.desk) c.args.rest.now 0 0
    c.find.ensures.waits c.publish_swap.ensures.keeps
    (one_none asked c.args.kind c.args.inst.now c.args.cycle (g.D.Desk.desk c.find.new.desk)
    (g.D.Desk.desk c.publish_swap.new.desk) c.args.rest.now 0 c.in_err-id.ensures.fails))

pub returns-in-Some-2-clause-keeps : goal.returns-in-Some-2-clause-keeps
returns-in-Some-2-clause-keeps g c = keeps_both (g.D.Desk.desk c.args.desk.now) (g.D.Desk.desk c.find.new.desk)
    (g.D.Desk.desk c.publish_swap.new.desk) c.find.ensures.waits.keeps c.publish_swap.ensures.keeps

pub returns-in-Some-2-clause-publishes : goal.returns-in-Some-2-clause-publishes
returns-in-Some-2-clause-publishes g c = λ asked.
    let P : ℕ → Type 0 = λ z. DoesFor asked c.args.kind c.args.inst.now c.args.cycle (g.D.Desk.desk c.find.new.desk)
    (g.D.Desk.desk c.publish_swap.new.desk) c.args.rest.now z 0 in
    does_for_then asked c.args.kind c.args.inst.now c.args.cycle (g.D.Desk.desk c.args.desk.now)
    (g.D.Desk.desk c.find.new.desk) (g.D.Desk.desk c.publish_swap.new.desk) c.args.rest.now 1 0
    c.find.ensures.waits c.publish_swap.ensures.keeps
    (subst P (ap may_swap c.in-Some-2.is) (c.in_ok-id.ensures.publishes asked))

pub returns-in-None-clause-keeps : goal.returns-in-None-clause-keeps
returns-in-None-clause-keeps g c = keeps_both (g.D.Desk.desk c.args.desk.now) (g.D.Desk.desk c.find.new.desk)
    (g.D.Desk.desk c.publish_swap.new.desk) c.find.ensures.waits.keeps c.publish_swap.ensures.keeps

pub returns-in-None-clause-publishes : goal.returns-in-None-clause-publishes
returns-in-None-clause-publishes g c = λ asked.
    let P : ℕ → Type 0 = λ z. DoesFor asked c.args.kind c.args.inst.now c.args.cycle (g.D.Desk.desk c.find.new.desk)
    (g.D.Desk.desk c.publish_swap.new.desk) c.args.rest.now z 0 in
    does_for_then asked c.args.kind c.args.inst.now c.args.cycle (g.D.Desk.desk c.args.desk.now)
    (g.D.Desk.desk c.find.new.desk) (g.D.Desk.desk c.publish_swap.new.desk) c.args.rest.now 0 0
    c.find.ensures.waits c.publish_swap.ensures.keeps
    (subst P (ap may_swap c.in-None.is) (c.in_ok-id.ensures.publishes asked))

pub publish_pairs-requires-clause-set : goal.publish_pairs-requires-clause-set
publish_pairs-requires-clause-set g c = record {
  truths = c.in-Refuted.ensures.truths;
  tasks = λ i m. c.requires.set.tasks i (c.in-Refuted.ensures.within i m);
}

pub returns-in_err-paired-clause-fails : goal.returns-in_err-paired-clause-fails
returns-in_err-paired-clause-fails g c = λ asked.
    on_err c.from_residual.result (DoesFor asked c.args.kind c.args.inst.now c.args.cycle
    (g.D.Desk.desk c.args.desk.now) (g.D.Desk.desk c.publish_pairs.new.desk) c.args.rest.now 0 0)
    (does_for_then asked c.args.kind c.args.inst.now c.args.cycle (g.D.Desk.desk c.args.desk.now)
    (g.D.Desk.desk c.find.new.desk) (g.D.Desk.desk c.publish_pairs.new.desk) c.args.rest.now 0 0
    c.find.ensures.waits c.publish_pairs.ensures.keeps
    (one_none asked c.args.kind c.args.inst.now c.args.cycle (g.D.Desk.desk c.find.new.desk)
    (g.D.Desk.desk c.publish_pairs.new.desk) c.args.rest.now 0 c.in_err-paired.ensures.waits))

pub returns-in-Refuted-clause-publishes : goal.returns-in-Refuted-clause-publishes
returns-in-Refuted-clause-publishes g c = λ asked.
    does_for_then asked c.args.kind c.args.inst.now c.args.cycle (g.D.Desk.desk c.args.desk.now)
    (g.D.Desk.desk c.find.new.desk) (g.D.Desk.desk c.publish_pairs.new.desk) c.args.rest.now 1 0
    c.find.ensures.waits c.publish_pairs.ensures.keeps
    (c.in_ok-paired.ensures.publishes asked c.args.rest.now c.in-Refuted.ensures.within)

pub returns-in_err-paired-clause-keeps : goal.returns-in_err-paired-clause-keeps
returns-in_err-paired-clause-keeps g c = keeps_both (g.D.Desk.desk c.args.desk.now) (g.D.Desk.desk c.find.new.desk)
    (g.D.Desk.desk c.publish_pairs.new.desk) c.find.ensures.waits.keeps c.publish_pairs.ensures.keeps

pub returns-in-Refuted-clause-keeps : goal.returns-in-Refuted-clause-keeps
returns-in-Refuted-clause-keeps g c = keeps_both (g.D.Desk.desk c.args.desk.now) (g.D.Desk.desk c.find.new.desk)
    (g.D.Desk.desk c.publish_pairs.new.desk) c.find.ensures.waits.keeps c.publish_pairs.ensures.keeps

pub returns-then-is_empty-clause-keeps : goal.returns-then-is_empty-clause-keeps
returns-then-is_empty-clause-keeps g c = keeps_none (g.D.Desk.desk c.args.desk.now)

pub returns-in-Some-clause-keeps : goal.returns-in-Some-clause-keeps
returns-in-Some-clause-keeps g c = c.find.ensures.waits.keeps

pub returns-then-is_empty-clause-sorts : goal.returns-then-is_empty-clause-sorts
returns-then-is_empty-clause-sorts g c = c.is_empty.ensures.0 c.if-is_empty.true

pub returns-in-Some-clause-sorts : goal.returns-in-Some-clause-sorts
returns-in-Some-clause-sorts g c =
    let A : ℕ → Type 0 = λ z. IsAnswered (entries (g.D.Desk.desk c.find.new.desk)) c.in-Some.id c.args.rest.now
    c.args.most z in
    answer_cites (entries (g.D.Desk.desk c.find.new.desk)) c.in-Some.id c.args.rest.now c.args.rest.now c.args.most
    c.args.most c.args.cycle refl refl
    (subst A (for_still (g.D.Desk.desk c.args.desk.now) (g.D.Desk.desk c.find.new.desk) c.args.inst.now c.args.kind
    c.args.cycle c.requires.desk c.find.ensures.waits.keeps).same_cycle c.in-Some.ensures.finds)

pub returns-in-Refuted-clause-sorts : goal.returns-in-Refuted-clause-sorts
returns-in-Refuted-clause-sorts g c =
    part_cites (entries (g.D.Desk.desk c.publish_pairs.new.desk)) c.in_ok-paired.paired c.in-Refuted.hull
    c.args.rest.now c.args.rest.now c.args.most c.args.cycle refl c.in-Refuted.ensures.within
    c.in_ok-paired.ensures.answered

pub publish_pairs-requires-clause-desk : goal.publish_pairs-requires-clause-desk
publish_pairs-requires-clause-desk g c = for_still (g.D.Desk.desk c.args.desk.now) (g.D.Desk.desk c.find.new.desk)
    c.args.inst.now c.args.kind c.args.cycle c.requires.desk c.find.ensures.waits.keeps

pub publish_swap-requires-clause-desk : goal.publish_swap-requires-clause-desk
publish_swap-requires-clause-desk g c = for_still (g.D.Desk.desk c.args.desk.now) (g.D.Desk.desk c.find.new.desk)
    c.args.inst.now c.args.kind c.args.cycle c.requires.desk c.find.ensures.waits.keeps

pub returns-in-Some-2-clause-sorts : goal.returns-in-Some-2-clause-sorts
returns-in-Some-2-clause-sorts g c =
    let A : Option ℕ → Type 0 = λ z. IfSome z (λ id. IsAnswered (entries (g.D.Desk.desk c.publish_swap.new.desk)) id
    c.args.rest.now c.args.most c.args.cycle) in
    answer_cites (entries (g.D.Desk.desk c.publish_swap.new.desk)) c.in-Some-2.id c.args.rest.now c.args.rest.now
    c.args.most c.args.most c.args.cycle refl refl (subst A c.in-Some-2.is c.in_ok-id.ensures.answered)

-- no entry answered the rest where the looks were exact and the desk is alone
pub publish_swap-requires-clause-unanswered : goal.publish_swap-requires-clause-unanswered
publish_swap-requires-clause-unanswered g c = λ t.
    let U : ℕ → Type 0 = λ z. IsUnanswered (entries (g.D.Desk.desk c.find.new.desk)) c.args.rest.now c.args.most z in
    subst U (for_still (g.D.Desk.desk c.args.desk.now) (g.D.Desk.desk c.find.new.desk) c.args.inst.now c.args.kind
    c.args.cycle c.requires.desk c.find.ensures.waits.keeps).same_cycle
    (c.in_default.ensures.absent refl (and_parts g.L.Looker.exact (g.D.Desk.desk
    c.find.new.desk).alone t).0)

pub returns-in-None-clause-sorts : goal.returns-in-None-clause-sorts
returns-in-None-clause-sorts g c = (
  λ n. absurd (false≢true (sym c.if-is_empty.false ∙ c.is_empty.ensures.1 n)),
  λ t.
      let N : Option ℕ → Type 0 = λ z. IsNone z in
      c.in_ok-id.ensures.unanswered (subst N (sym c.in-None.is) refl)
      (ap (λ (z : Bool). g.L.Looker.exact && z) c.find.ensures.waits.keeps.alone ∙ t),
)

pub returns-then-is_empty-clause-pairs : goal.returns-then-is_empty-clause-pairs
returns-then-is_empty-clause-pairs g c = refl

pub returns-in-Some-clause-pairs : goal.returns-in-Some-clause-pairs
returns-in-Some-clause-pairs g c = refl

pub returns-in_err-paired-clause-pairs : goal.returns-in_err-paired-clause-pairs
returns-in_err-paired-clause-pairs g c = c.ask_pairs_of_rest.ensures.pairs

pub returns-in-Refuted-clause-pairs : goal.returns-in-Refuted-clause-pairs
returns-in-Refuted-clause-pairs g c = c.ask_pairs_of_rest.ensures.pairs

pub returns-in_err-id-clause-pairs : goal.returns-in_err-id-clause-pairs
returns-in_err-id-clause-pairs g c = c.ask_pairs_of_rest.ensures.pairs

pub returns-in-Some-2-clause-pairs : goal.returns-in-Some-2-clause-pairs
returns-in-Some-2-clause-pairs g c = c.ask_pairs_of_rest.ensures.pairs

pub returns-in-None-clause-pairs : goal.returns-in-None-clause-pairs
returns-in-None-clause-pairs g c = c.ask_pairs_of_rest.ensures.pairs
