use Rattle.std.proofs.Common.{◌≡◌, ◌+◌, List, [], ◌∷◌, ◌++◌, length, refl, sym, ap, ◌∙◌, subst, inl, inr, arith}
use Rattle.std.proofs.Common.{length-append, Vec, Global}
use Rattle.round_helpers.specs.declared.job_list.Job.{Job}
use Rattle.round_helpers.proofs.JobFacts.{IsJobListing, starts, passes, job_joins, over, all_jobs}
use Rattle.round_helpers.proofs.job_list.jobs.Goals.{in-Some-rest_at+in_ok-push+else-len-eq-MAX_JOBS}
use Rattle.round_helpers.proofs.job_list.jobs.Goals.{in_default-rest_at}
use Rattle.round_helpers.proofs.job_list.jobs.Goals as goal

pub listing-init : goal.listing-init
listing-init c = record {
  listing = record {
    firsts = [];
    listing = starts c.tasks-tasks.ensures.line c.tasks-tasks.ensures.ranked c.all-all.ensures.set 4096
        c.begin-walk.result
        c.begin-walk.ensures.walk c.begin-walk.ensures.cycle
        (c.begin-walk.ensures.mode ∙ c.choose_mode.ensures.mode) c.begin-walk.ensures.set c.begin-walk.ensures.last;
    each = c.new-jobs.ensures.items;
  };
  few = omega (arith, ap (λ (z : List Job). length z) c.new-jobs.ensures.items);
}

pub returns-in_default : goal.returns-in_default
returns-in_default c =
    all_jobs c.tasks-tasks.ensures.line c.tasks-tasks.ensures.ranked c.all-all.ensures.set c.listing.invariant.listing
    c.all-all.ensures.value (omega arith)
    (inl (inr (over c.tasks-tasks.ensures.line c.tasks-tasks.ensures.ranked c.all-all.ensures.set
    c.listing.invariant.listing.listing (c.in_default.ensures.none refl))))

pub returns-then-len-eq-MAX_JOBS : goal.returns-then-len-eq-MAX_JOBS
returns-then-len-eq-MAX_JOBS c =
    all_jobs c.tasks-tasks.ensures.line c.tasks-tasks.ensures.ranked c.all-all.ensures.set
    (job_joins c.tasks-tasks.ensures.line c.tasks-tasks.ensures.ranked c.all-all.ensures.set c.push.new.self.items
    c.listing.invariant.listing c.in-Some.load c.in-Some-rest_at.set
    c.in-Some.ensures.next c.in-Some.ensures.walk c.in-Some.ensures.cycle c.in-Some.ensures.mode c.in-Some.ensures.set
    c.in-Some.ensures.given c.in-Some-rest_at.ensures.some c.in_ok-push.ensures.items c.listing.invariant.few)
    c.all-all.ensures.value (omega arith) (inr (omega (arith, c.len.ensures, c.if-len-eq-MAX_JOBS.true)))

pub listing-preserved : goal.listing-preserved
listing-preserved c =
    let P : List Job → Type 0 =
    λ z. IsJobListing c.args.kind c.args.inst.now c.args.cycle c.all-all.result c.args.most (c.listing._step + 1)
    c.step.new.self z in
    elim c.match-rest_at.branch [
      | in-Some-rest_at+in_ok-push+else-len-eq-MAX_JOBS w ↦
          let same : c.match-rest_at.jobs.items ≡ w.push.new.self.items =
          ap (λ (z : Vec Job Global). z.items) w.jobs-is in
          let one : List Job = record { set = w.in-Some-rest_at.set; load = c.in-Some.load } ∷ [] in
          let items : w.push.new.self.items ≡ c.listing.jobs.items ++ one = w.in_ok-push.ensures.items in
          record {
            listing = subst P (sym same) (job_joins c.tasks-tasks.ensures.line c.tasks-tasks.ensures.ranked
                c.all-all.ensures.set w.push.new.self.items
                c.listing.invariant.listing c.in-Some.load w.in-Some-rest_at.set c.in-Some.ensures.next
                c.in-Some.ensures.walk c.in-Some.ensures.cycle c.in-Some.ensures.mode c.in-Some.ensures.set
                c.in-Some.ensures.given w.in-Some-rest_at.ensures.some items c.listing.invariant.few);
            few = omega (
              arith,
              ap (λ (z : List Job). length z) same,
              ap (λ (z : List Job). length z) items,
              length-append c.listing.jobs.items one,
              c.listing.invariant.few,
              w.len.ensures,
              w.if-len-eq-MAX_JOBS.false,
            );
          }
      | in_default-rest_at w ↦
          let same : c.match-rest_at.jobs.items ≡ c.listing.jobs.items =
          ap (λ (z : Vec Job Global). z.items) w.jobs-is in
          let before = c.listing.invariant.listing in
          record {
            listing = subst P (sym same) (record {
              firsts = before.firsts;
              listing = passes c.tasks-tasks.ensures.line c.tasks-tasks.ensures.ranked c.all-all.ensures.set
                  before.listing c.in-Some.load c.in-Some.ensures.next
                  c.in-Some.ensures.walk c.in-Some.ensures.cycle c.in-Some.ensures.mode c.in-Some.ensures.set
                  c.in-Some.ensures.given (w.in_default-rest_at.ensures.none refl);
              each = before.each;
            });
            few = omega (arith, ap (λ (z : List Job). length z) same, c.listing.invariant.few);
          }
    ]

pub returns : goal.returns
returns c =
    all_jobs c.tasks-tasks.ensures.line c.tasks-tasks.ensures.ranked c.all-all.ensures.set c.listing.invariant.listing
    c.all-all.ensures.value (omega arith) (inl (inl (omega arith)))
