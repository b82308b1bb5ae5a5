use Rattle.std.proofs.Common.{◌<◌, length}
use Rattle.round_helpers.proofs.JobFacts.{IsJobListing}
use Rattle.round_helpers.proofs.job_list.jobs.Given as goal

abbrev pub invariant-listing : goal.invariant-listing
invariant-listing l = record {
  listing : IsJobListing l.kind l.inst l.cycle l.all l.most l._step l.walk l.jobs.items;
  few : length l.jobs.items < 4096;
}
