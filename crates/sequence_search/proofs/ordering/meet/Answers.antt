use Rattle.std.proofs.Common.{◌≡◌, ◌+◌, ◌<◌, ℕ, List, length, ap, ◌∙◌, sym, subst, arith}
use Rattle.std.specs.Prelude.{All}
use Rattle.sequence_rules.specs.States.{cost, root_starts}
use Rattle.sequence_values.specs.declared.types.SeqCert.{SeqCert}
use Rattle.sequence_search.specs.declared.outcome.Tried.{Tried}
use Rattle.sequence_search.specs.About.{charges_of}
use Rattle.sequence_search.specs.Outcomes.{IsSolved, IsStopped}
use Rattle.sequence_search.specs.inner.Tries.{Tries}
use Rattle.sequence_search.proofs.BookFacts.{book_as, answered_still}
use Rattle.sequence_search.proofs.WorkFacts.{tried_more, tight}
use Rattle.sequence_search.proofs.OrderFacts.{sequence_short, sequence_within, shown_holds, solved, stopped_at}
use Rattle.sequence_search.proofs.ordering.meet.Goals as goal

pub returns-in_default : goal.returns-in_default
returns-in_default g c =
    let s = c.tries.invariant.standing in
    record {
      below = c.tries-test.true;
      least = shown_holds c.args.times.now c.args.interval c.args.reach g.about c.tries.standing.lower
          c.tries.standing.entries s.book s.shown;
      sequence = c.tries.standing.sequence;
      is = s.is;
      total = s.total;
      raised = s.raised;
      no_worse = s.no_worse;
    }

pub sequence_cost-requires-clause-few : goal.sequence_cost-requires-clause-few
sequence_cost-requires-clause-few g c =
    let need : ℕ = _ in
    let room : ℕ = _ in
    let T : Tried → Type 0 = λ v. Tries c.args.times.now c.args.interval c.args.reach g.about need room
    c.tries.standing.entries c.attempt.new.entries v in
    let found = subst T c.in-Found.is c.in-Ok.ensures in
    omega (
      arith,
      ap (λ (xs : List ℕ). length xs) c.as_slice.ensures,
      sequence_short c.args.times.now c.in-Found.sequence c.requires.0 found.2,
    )

pub sequence_cost-requires-clause-models : goal.sequence_cost-requires-clause-models
sequence_cost-requires-clause-models g c =
    let need : ℕ = _ in
    let room : ℕ = _ in
    let T : Tried → Type 0 = λ v. Tries c.args.times.now c.args.interval c.args.reach g.about need room
    c.tries.standing.entries c.attempt.new.entries v in
    let found = subst T c.in-Found.is c.in-Ok.ensures in
    let P : List ℕ → Type 0 = λ xs. All (λ m. m < length c.args.times.now.demands) xs in
    subst P (sym c.as_slice.ensures) (sequence_within c.args.times.now.demands c.in-Found.sequence found.2)

pub tries-preserved-in-Found : goal.tries-preserved-in-Found
tries-preserved-in-Found g c =
    let need : ℕ = _ in
    let room : ℕ = _ in
    let T : Tried → Type 0 = λ v. Tries c.args.times.now c.args.interval c.args.reach g.about need room
    c.tries.standing.entries c.attempt.new.entries v in
    let found = subst T c.in-Found.is c.in-Ok.ensures in
    let s = c.tries.invariant.standing in
    let total : c.sequence_cost.result ≡ cost c.args.times.now c.args.interval c.args.reach
    (root_starts c.args.times.now) c.in-Found.sequence =
    c.sequence_cost.ensures.cost ∙ ap (λ z. cost c.args.times.now c.args.interval c.args.reach
    (root_starts c.args.times.now) z) c.as_slice.ensures in
    record {
      standing = record {
        book = book_as c.args.times.now c.args.interval c.args.reach g.about c.tries.standing.entries
            c.attempt.new.entries (c.tries.standing.lower + 1) need s.book found.0 found.1;
        shown = λ some. answered_still (charges_of g.about) c.args.times.now c.tries.standing.entries
            c.attempt.new.entries c.args.times.now.demands (root_starts c.args.times.now) c.tries.standing.lower
            found.1 (s.shown some);
        is = found.2;
        total = sym total;
        low = omega (
          arith,
          shown_holds c.args.times.now c.args.interval c.args.reach g.about c.tries.standing.lower
              c.tries.standing.entries s.book s.shown c.in-Found.sequence found.2,
          total,
        );
        limit = c.sequence_cost.ensures.limit;
        raised = s.raised;
        no_worse = omega (arith, s.no_worse, found.3, total, c.tries-test.true);
      };
      charges = c.tries.invariant.charges;
      paid = c.tries.invariant.paid;
      more = omega (arith, c.tries.invariant.more, found.4.more);
      few = omega (arith, found.4.few, c.spent.ensures, c.tries.invariant.paid, c.tries.invariant.few);
      tried = tried_more c.args.times.now g.about c.tries.standing.lower c.tries.standing.upper c.tries.standing.lower
          c.sequence_cost.result c.tries.standing.entries c.attempt.new.entries c.tries.invariant.tried
          (omega (arith, found.3, total, c.tries-test.true)) found.4.work;
    }

pub returns-in-Stopped : goal.returns-in-Stopped
returns-in-Stopped g c =
    let need : ℕ = _ in
    let room : ℕ = _ in
    let T : Tried → Type 0 = λ v. Tries c.args.times.now c.args.interval c.args.reach g.about need room
    c.tries.standing.entries c.attempt.new.entries v in
    let stop = subst T c.in-Stopped.is c.in-Ok.ensures in
    let s = c.tries.invariant.standing in
    let P : SeqCert → Type 0 = λ z. IsStopped c.args.times.now c.args.interval c.args.reach g.about z in
    subst P (sym c.certified.ensures) (stopped_at c.args.times.now c.args.interval c.args.reach g.about
    c.tries.standing.charges
    c.tries.standing.lower c.tries.standing.upper need c.tries.standing.sequence c.tries.standing.entries
    c.attempt.new.entries c.in-Stopped.frames
    c.requires.0 s c.requires.1.1.1.1.1.1.1.1.1.0 c.tries.invariant.charges (omega (arith, c.requires.1.1.1.1.1.1.0, c.requires.1.1.1.0))
    stop.0 stop.1 stop.2
    (λ some. answered_still (charges_of g.about) c.args.times.now c.tries.standing.entries
    c.attempt.new.entries c.args.times.now.demands (root_starts c.args.times.now) c.tries.standing.lower stop.1
    (s.shown some))
    (omega (
      arith,
      stop.3,
      c.spent.ensures,
      c.tries.invariant.paid,
      c.tries.invariant.more,
      c.tries.invariant.few,
      c.requires.1.1.1.0,
    ))
    (omega (arith, c.tries-test.true)) (omega (arith, c.tries-test.true))
    (tight c.args.times.now g.about c.tries.standing.lower c.tries.standing.upper g.about.units
    c.tries.standing.entries
    c.requires.0 c.tries.invariant.tried c.tries-test.true
    (omega (arith, stop.4, c.spent.ensures, c.tries.invariant.paid, c.tries.invariant.more, c.requires.1.1.1.0))))

pub returns : goal.returns
returns g c =
    let P : SeqCert → Type 0 = λ z. IsSolved c.args.times.now c.args.interval c.args.reach g.about z in
    subst P (sym c.certified-2.ensures) (solved c.args.times.now c.args.interval c.args.reach g.about
    c.tries.standing.charges
    c.tries.standing.lower c.tries.standing.upper c.tries.standing.sequence c.tries.standing.entries
    c.from_vec-frames.result
    c.requires.0 c.tries.invariant.standing c.requires.1.1.1.1.1.1.1.1.1.0 c.tries.invariant.charges
    (omega (arith, c.requires.1.1.1.1.1.1.0, c.requires.1.1.1.0))
    (omega (arith, c.tries.invariant.few, c.requires.1.1.1.0)) c.tries-test.false
    (c.from_vec-frames.ensures ∙ c.new.ensures.items))

pub tries-init : goal.tries-init
tries-init g c =
    let s = c.requires.1.1.1.1.1.1.1.1.1.1.0 in
    record {
      standing = s;
      charges = c.requires.1.1.1.1.1.1.1.1.0;
      paid = omega (arith, c.spent-paid.ensures, c.requires.1.1.1.1.1.1.1.1.1.1.1);
      more = omega (arith, c.requires.1.1.1.1.1.1.1.1.1.1.1);
      few = omega (arith, c.requires.1.1.1.1.1.1.1.1.1.1.1);
      tried = record { tries = 0; near = omega (arith, s.limit); work = omega (arith, c.requires.1.1.1.1.1.1.1.1.1.1.1) };
    }

pub tries-preserved : goal.tries-preserved
tries-preserved g c =
    let need : ℕ = _ in
    let room : ℕ = _ in
    let T : Tried → Type 0 = λ v. Tries c.args.times.now c.args.interval c.args.reach g.about need room
    c.tries.standing.entries c.attempt.new.entries v in
    let refuted = subst T c.in-Refuted.is c.in-Ok.ensures in
    let s = c.tries.invariant.standing in
    record {
      standing = record {
        book = refuted.0;
        shown = λ some. refuted.1;
        is = s.is;
        total = s.total;
        low = omega (arith, c.tries-test.true);
        limit = s.limit;
        raised = record {
          root = omega (arith, s.raised.root, c.tries-test.true);
          kept = λ n a. omega (arith, s.raised.kept n a, c.tries-test.true);
        };
        no_worse = s.no_worse;
      };
      charges = c.tries.invariant.charges;
      paid = c.tries.invariant.paid;
      more = omega (arith, c.tries.invariant.more, refuted.2.more);
      few = omega (arith, refuted.2.few, c.spent.ensures, c.tries.invariant.paid, c.tries.invariant.few);
      tried = tried_more c.args.times.now g.about c.tries.standing.lower c.tries.standing.upper need
          c.tries.standing.upper
          c.tries.standing.entries c.attempt.new.entries c.tries.invariant.tried
          (omega arith) refuted.2.work;
    }
