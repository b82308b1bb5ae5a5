use Rattle.std.proofs.Common.{◌≡◌, ◌-◌, List, Bool, [], ◌∷◌, ◌++◌, sym, subst}
use Rattle.line_instance.specs.Line.{IsTaskSet}
use Rattle.line_rules.specs.declared.types.OpenFrame.{OpenFrame}
use Rattle.station_search.specs.declared.listings.Listing.{Listing}
use Rattle.station_search.specs.inner.Work.{IsBeside}
use Rattle.station_search.specs.inner.Steps.{IsFresh}
use Rattle.station_search.proofs.Pairs.{paired_push}
use Rattle.station_search.proofs.standing.go_down.Goals as goal

pub begin_listing-listing-requires-clause-set : goal.begin_listing-listing-requires-clause-set
begin_listing-listing-requires-clause-set c =
    let P : List Bool → Type 0 = λ z. IsTaskSet c.args.inst.now z in
    subst P (sym c.open_frame-below.ensures.set) c.requires.set

pub returns-clause-down : goal.returns-clause-down
returns-clause-down c =
    let P : OpenFrame → Type 0 = λ z. c.push_on.new.stack.items ≡ c.args.standing.now.passed.items ++ z ∷ [] in
    let passed = subst P c.replace.ensures.value c.in_ok-push_on.ensures.items in
    let L : Listing → Type 0 = λ z. c.push_on-2.new.stack.items ≡ c.args.standing.now.listings.items ++ z ∷ [] in
    let listings = subst L c.replace-2.ensures.value c.in_ok-push_on-2.ensures.items in
    let F : OpenFrame → Type 0 = λ z. IsFresh c.args.mode c.args.kind c.args.inst.now c.args.rest.now
    (c.args.standing.now.frame.most - 1) z in
    let B : OpenFrame → Type 0 = λ z. IsBeside c.args.inst.now c.args.cycle z c.begin_listing-listing.result in
    let C : Listing → Type 0 = λ z. IsBeside c.args.inst.now c.args.cycle c.replace.new.dest z in
    record {
      passed = passed;
      fresh = subst F (sym c.replace.ensures.after) (record {
        set = c.open_frame-below.ensures.set;
        most = c.open_frame-below.ensures.most;
        mode = c.open_frame-below.ensures.mode;
        belongs = c.open_frame-below.ensures.belongs;
        last = c.open_frame-below.ensures.last;
        cites = c.open_frame-below.ensures.cites;
      });
      beside = subst C (sym c.replace-2.ensures.after) (subst B (sym c.replace.ensures.after)
          c.begin_listing-listing.ensures);
      ready = record {
        room = c.in_ok-push_on.ensures.room;
        paired = paired_push c.args.inst.now c.args.cycle c.args.standing.now.passed.items c.push_on.new.stack.items
            c.args.standing.now.listings.items c.push_on-2.new.stack.items c.args.standing.now.frame
            c.args.standing.now.listing passed listings c.requires.beside c.requires.ready.paired;
      };
    }
