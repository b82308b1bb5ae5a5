use Rattle.std.proofs.Common.{◌&&◌, ◌-◌, List, Bool, refl, ap, subst, arith}
use Rattle.line_instance.specs.Truths.{IsEmpty}
use Rattle.line_rules.specs.Entries.{Cites}
use Rattle.lemma_core.specs.Desks.{entries}
use Rattle.station_search.specs.inner.Work.{Sorts, DoesFew, DoesFor, with_last, may_add}
use Rattle.station_search.specs.declared.sorting.Sorted.{Sorted}
use Rattle.station_search.proofs.Endings.{on_err}
use Rattle.station_search.proofs.LoopTurns.{adds_few, beside_cites}
use Rattle.station_search.proofs.StepTurns.{few_more, for_more}
use Rattle.station_search.proofs.LightLoads.{met_load, rest_at, lists_none, lists_spent}
use Rattle.station_search.proofs.standing.list_load.Goals as goal

pub returns-in_err-cite-clause-fails : goal.returns-in_err-cite-clause-fails
returns-in_err-cite-clause-fails g c = λ asked.
    on_err c.from_residual.result (DoesFew asked c.args.kind c.args.inst.now c.args.cycle (g.D.Desk.desk
    c.args.desk.now) (g.D.Desk.desk c.sort_rest.new.desk) 1 0) (few_more asked c.args.kind c.args.inst.now c.args.cycle
    (g.D.Desk.desk c.args.desk.now) (g.D.Desk.desk c.sort_rest.new.desk)
    c.rest-rest.result 0 (omega arith) (c.in_err-cite.ensures.fails asked))

pub returns-in_err-push-in-Covered-clause-fails : goal.returns-in_err-push-in-Covered-clause-fails
returns-in_err-push-in-Covered-clause-fails g c = λ asked.
    on_err c.from_residual-in_err-push-in-Covered.result (DoesFew asked c.args.kind c.args.inst.now c.args.cycle
    (g.D.Desk.desk c.args.desk.now) (g.D.Desk.desk c.sort_rest.new.desk) 1 0) (few_more asked c.args.kind
    c.args.inst.now c.args.cycle (g.D.Desk.desk c.args.desk.now) (g.D.Desk.desk c.sort_rest.new.desk)
    c.rest-rest.result (may_add c.in_ok-cite.field-0)
    (adds_few c.in_ok-cite.field-0) (c.in_ok-cite.ensures.publishes asked))

pub returns-in_ok-push-in-Covered-clause-lists : goal.returns-in_ok-push-in-Covered-clause-lists
returns-in_ok-push-in-Covered-clause-lists g c =
    let met = c.if-not-pass_over.ensures.met refl in
    let b = met_load c.args.kind c.args.inst.now c.args.cycle c.args.standing.now.frame c.args.units.now.used
    c.pass_over.new.units.used c.pass_over.new.listing c.load.result met c.load.ensures in
    let same = rest_at c.args.inst.now c.args.cycle (with_last c.args.standing.now.frame c.load.result)
    c.pass_over.new.listing c.load.result b.1 refl c.rest-rest.result c.rest-rest.ensures.rest in
    let S : Sorted → Type 0 = λ z. Sorts c.args.cycle (g.L.Looker.exact && (g.D.Desk.desk c.args.desk.now).alone)
    (entries (g.D.Desk.desk c.sort_rest.new.desk)) c.rest-rest.result (c.args.standing.now.frame.most - 1) z in
    let C : List Bool → Type 0 = λ z. Cites (entries (g.D.Desk.desk c.sort_rest.new.desk)) c.in-Covered.cite z
    (c.args.standing.now.frame.most - 1) c.args.cycle in
    record {
      last = met.last;
      light = met.light;
      skips = met.skips;
      listing = c.pass_over.new.listing;
      lists = record {
        load = c.load.result;
        cites = c.push.new.self;
        listed = record {
          next = b.0;
          does = λ asked.
              let D : List Bool → Type 0 = λ z. DoesFor asked c.args.kind c.args.inst.now c.args.cycle
              (g.D.Desk.desk c.args.desk.now) (g.D.Desk.desk c.sort_rest.new.desk) z 1 0 in
              subst D same (for_more asked c.args.kind c.args.inst.now c.args.cycle
              (g.D.Desk.desk c.args.desk.now) (g.D.Desk.desk c.sort_rest.new.desk)
              c.rest-rest.result (may_add c.in_ok-cite.field-0) 1
              (adds_few c.in_ok-cite.field-0) (c.in_ok-cite.ensures.publishes asked));
        };
        stands = refl;
        beside = beside_cites c.args.inst.now c.args.cycle (with_last c.args.standing.now.frame c.load.result)
            c.pass_over.new.listing c.push.new.self b.1;
        passes = (
          c.in-Covered.cite,
          (
            c.in_ok-push-in-Covered.ensures.ok,
            c.if-not-pass_over.ensures.opens refl c.load.result b.1.same_last,
            subst C same (subst S c.in-Covered.is c.in_ok-cite.ensures.sorts),
          ),
        );
      };
      cost = met.cost;
    }

pub returns-in-Empty-clause-lists : goal.returns-in-Empty-clause-lists
returns-in-Empty-clause-lists g c =
    let met = c.if-not-pass_over.ensures.met refl in
    let b = met_load c.args.kind c.args.inst.now c.args.cycle c.args.standing.now.frame c.args.units.now.used
    c.pass_over.new.units.used c.pass_over.new.listing c.load.result met c.load.ensures in
    let same = rest_at c.args.inst.now c.args.cycle (with_last c.args.standing.now.frame c.load.result)
    c.pass_over.new.listing c.load.result b.1 refl c.rest-rest.result c.rest-rest.ensures.rest in
    let S : Sorted → Type 0 = λ z. Sorts c.args.cycle (g.L.Looker.exact && (g.D.Desk.desk c.args.desk.now).alone)
    (entries (g.D.Desk.desk c.sort_rest.new.desk)) c.rest-rest.result (c.args.standing.now.frame.most - 1) z in
    let E : List Bool → Type 0 = λ z. IsEmpty z in
    record {
      last = met.last;
      light = met.light;
      skips = met.skips;
      listing = c.pass_over.new.listing;
      lists = (
        record {
          load = c.load.result;
          listed = record {
            next = b.0;
            does = λ asked.
                let D : List Bool → Type 0 = λ z. DoesFor asked c.args.kind c.args.inst.now c.args.cycle
                (g.D.Desk.desk c.args.desk.now) (g.D.Desk.desk c.sort_rest.new.desk) z 0 0 in
                subst D same (for_more asked c.args.kind c.args.inst.now c.args.cycle
                (g.D.Desk.desk c.args.desk.now) (g.D.Desk.desk c.sort_rest.new.desk)
                c.rest-rest.result (may_add c.in_ok-cite.field-0) 0
                (omega (arith, ap may_add c.in-Empty.is)) (c.in_ok-cite.ensures.publishes asked));
          };
          stands = refl;
          beside = b.1;
          opens = c.if-not-pass_over.ensures.opens refl c.load.result b.1.same_last;
        },
        subst E same (subst S c.in-Empty.is c.in_ok-cite.ensures.sorts),
      );
      cost = met.cost;
    }

pub returns-in-Open-clause-lists : goal.returns-in-Open-clause-lists
returns-in-Open-clause-lists g c =
    let met = c.if-not-pass_over.ensures.met refl in
    let b = met_load c.args.kind c.args.inst.now c.args.cycle c.args.standing.now.frame c.args.units.now.used
    c.pass_over.new.units.used c.pass_over.new.listing c.load.result met c.load.ensures in
    let same = rest_at c.args.inst.now c.args.cycle (with_last c.args.standing.now.frame c.load.result)
    c.pass_over.new.listing c.load.result b.1 refl c.rest-rest.result c.rest-rest.ensures.rest in
    let S : Sorted → Type 0 = λ z. Sorts c.args.cycle (g.L.Looker.exact && (g.D.Desk.desk c.args.desk.now).alone)
    (entries (g.D.Desk.desk c.sort_rest.new.desk)) c.rest-rest.result (c.args.standing.now.frame.most - 1) z in
    let o = subst S c.in-Open.is c.in_ok-cite.ensures.sorts in
    record {
      last = met.last;
      light = met.light;
      skips = met.skips;
      listing = c.pass_over.new.listing;
      lists = (
        record {
          load = c.load.result;
          listed = record {
            next = b.0;
            does = λ asked.
                let D : List Bool → Type 0 = λ z. DoesFor asked c.args.kind c.args.inst.now c.args.cycle
                (g.D.Desk.desk c.args.desk.now) (g.D.Desk.desk c.sort_rest.new.desk) z 0 0 in
                subst D same (for_more asked c.args.kind c.args.inst.now c.args.cycle
                (g.D.Desk.desk c.args.desk.now) (g.D.Desk.desk c.sort_rest.new.desk)
                c.rest-rest.result (may_add c.in_ok-cite.field-0) 0
                (omega (arith, ap may_add c.in-Open.is)) (c.in_ok-cite.ensures.publishes asked));
          };
          stands = refl;
          beside = b.1;
          opens = c.if-not-pass_over.ensures.opens refl c.load.result b.1.same_last;
        },
        (same, o.0, o.1),
      );
      cost = met.cost;
    }

pub rest-rest-requires : goal.rest-rest-requires
rest-rest-requires g c =
    let met = c.if-not-pass_over.ensures.met refl in
    record { walk = met.beside.walk }

pub sort_rest-requires-clause-desk : goal.sort_rest-requires-clause-desk
sort_rest-requires-clause-desk g c = c.requires.desk

pub returns-in_err-cite-clause-keeps : goal.returns-in_err-cite-clause-keeps
returns-in_err-cite-clause-keeps g c = c.sort_rest.ensures.keeps

pub returns-in_err-cite-clause-pairs : goal.returns-in_err-cite-clause-pairs
returns-in_err-cite-clause-pairs g c = c.sort_rest.ensures.pairs

pub returns-in_err-cite-clause-units : goal.returns-in_err-cite-clause-units
returns-in_err-cite-clause-units g c = c.pass_over.ensures.units

pub returns-in_err-push-in-Covered-clause-keeps : goal.returns-in_err-push-in-Covered-clause-keeps
returns-in_err-push-in-Covered-clause-keeps g c = c.sort_rest.ensures.keeps

pub returns-in_err-push-in-Covered-clause-pairs : goal.returns-in_err-push-in-Covered-clause-pairs
returns-in_err-push-in-Covered-clause-pairs g c = c.sort_rest.ensures.pairs

pub returns-in_err-push-in-Covered-clause-units : goal.returns-in_err-push-in-Covered-clause-units
returns-in_err-push-in-Covered-clause-units g c = c.pass_over.ensures.units

pub returns-in_ok-push-in-Covered-clause-keeps : goal.returns-in_ok-push-in-Covered-clause-keeps
returns-in_ok-push-in-Covered-clause-keeps g c = c.sort_rest.ensures.keeps

pub returns-in_ok-push-in-Covered-clause-pairs : goal.returns-in_ok-push-in-Covered-clause-pairs
returns-in_ok-push-in-Covered-clause-pairs g c = c.sort_rest.ensures.pairs

pub returns-in_ok-push-in-Covered-clause-units : goal.returns-in_ok-push-in-Covered-clause-units
returns-in_ok-push-in-Covered-clause-units g c = c.pass_over.ensures.units

pub returns-in-Empty-clause-keeps : goal.returns-in-Empty-clause-keeps
returns-in-Empty-clause-keeps g c = c.sort_rest.ensures.keeps

pub returns-in-Empty-clause-pairs : goal.returns-in-Empty-clause-pairs
returns-in-Empty-clause-pairs g c = c.sort_rest.ensures.pairs

pub returns-in-Empty-clause-units : goal.returns-in-Empty-clause-units
returns-in-Empty-clause-units g c = c.pass_over.ensures.units

pub returns-in-Open-clause-keeps : goal.returns-in-Open-clause-keeps
returns-in-Open-clause-keeps g c = c.sort_rest.ensures.keeps

pub returns-in-Open-clause-pairs : goal.returns-in-Open-clause-pairs
returns-in-Open-clause-pairs g c = c.sort_rest.ensures.pairs

pub returns-in-Open-clause-units : goal.returns-in-Open-clause-units
returns-in-Open-clause-units g c = c.pass_over.ensures.units

pub returns-in-None-clause-lists : goal.returns-in-None-clause-lists
returns-in-None-clause-lists g c = lists_none c.args.kind c.args.inst.now c.args.cycle c.args.standing.now
    c.args.units.now.used c.pass_over.new.units.used c.pass_over.new.units.left c.pass_over.new.listing
    c.next_load.new.listing c.catch_up.new.frame (g.D.Desk.desk c.args.desk.now)
    (g.L.Looker.exact && (g.D.Desk.desk c.args.desk.now).alone) (c.if-not-pass_over.ensures.stops refl)
    c.catch_up.ensures (c.in-None.ensures.none refl)

pub returns-in-Some-clause-lists : goal.returns-in-Some-clause-lists
returns-in-Some-clause-lists g c = lists_spent c.args.kind c.args.inst.now c.args.cycle c.args.standing.now
    c.args.units.now.used c.pass_over.new.units.used c.pass_over.new.units.left c.pass_over.new.listing
    c.next_load.new.listing c.catch_up.new.frame (g.D.Desk.desk c.args.desk.now)
    (g.L.Looker.exact && (g.D.Desk.desk c.args.desk.now).alone) (c.if-not-pass_over.ensures.stops refl)
    c.catch_up.ensures c.in-Some.field-0 c.in-Some.ensures.next (c.if-not-pass_over.ensures.ends refl)
