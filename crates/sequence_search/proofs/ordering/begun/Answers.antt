use Rattle.std.proofs.Common.{◌≡◌, ◌<◌, ℕ, List, length, ap, ◌∙◌, sym, subst, arith}
use Rattle.std.specs.Prelude.{All}
use Rattle.sequence_rules.specs.States.{IsSequenceOf, cost, root_starts}
use Rattle.sequence_rules.specs.Charges.{listed_charges}
use Rattle.sequence_search.proofs.OrderFacts.{sequence_short, sequence_within, root_low, shown_holds}
use Rattle.sequence_search.proofs.ordering.begun.Goals as goal

pub sequence_cost-upper-requires-clause-few : goal.sequence_cost-upper-requires-clause-few
sequence_cost-upper-requires-clause-few g c = omega (
  arith,
  ap (λ (xs : List ℕ). length xs) (c.as_slice.ensures ∙ c.requires.1.1.1.0),
  sequence_short c.args.times.now g.about.first c.requires.0 c.requires.1.1.1.1.0,
)

pub sequence_cost-upper-requires-clause-models : goal.sequence_cost-upper-requires-clause-models
sequence_cost-upper-requires-clause-models g c =
    let P : List ℕ → Type 0 = λ xs. All (λ m. m < length c.args.times.now.demands) xs in
    subst P (sym (c.as_slice.ensures ∙ c.requires.1.1.1.0))
    (sequence_within c.args.times.now.demands g.about.first c.requires.1.1.1.1.0)

pub root_entries-requires : goal.root_entries-requires
root_entries-requires g c = (
  c.requires.0,
  (
    c.requires.1.0,
    (
      c.requires.1.1.0,
      (
        c.listed_charges.ensures ∙ ap (λ o. listed_charges o) c.requires.1.1.1.1.1.0,
        (
          c.requires.1.1.1.1.1.1.0,
          (
            c.requires.1.1.1.1.1.1.1.0,
            (
              c.requires.1.1.1.1.1.1.1.1.0,
              (
                c.requires.1.1.1.1.1.1.1.1.1,
                omega (
                  arith,
                  root_low c.args.times.now c.args.interval c.args.reach g.about.first c.requires.1.1.1.1.0,
                  c.sequence_cost-upper.ensures.limit,
                  c.sequence_cost-upper.ensures.cost,
                  ap (λ z. cost c.args.times.now c.args.interval c.args.reach (root_starts c.args.times.now) z)
                      (c.as_slice.ensures ∙ c.requires.1.1.1.0),
                ),
              ),
            ),
          ),
        ),
      ),
    ),
  ),
)

pub returns-clause-standing : goal.returns-clause-standing
returns-clause-standing g c =
    let total : c.sequence_cost-upper.result ≡ cost c.args.times.now c.args.interval c.args.reach
    (root_starts c.args.times.now) g.about.first =
    c.sequence_cost-upper.ensures.cost ∙ ap (λ z. cost c.args.times.now c.args.interval c.args.reach
    (root_starts c.args.times.now) z) (c.as_slice.ensures ∙ c.requires.1.1.1.0) in
    let own : cost c.args.times.now c.args.interval c.args.reach (root_starts c.args.times.now) c.args.first
    ≡ cost c.args.times.now c.args.interval c.args.reach (root_starts c.args.times.now) g.about.first =
    ap (λ z. cost c.args.times.now c.args.interval c.args.reach (root_starts c.args.times.now) z) c.requires.1.1.1.0 in
    record {
      book = c.in_ok-lower.ensures.book;
      shown = c.in_ok-lower.ensures.shown;
      is = subst (λ (z : List ℕ). IsSequenceOf c.args.times.now.demands z) (sym c.requires.1.1.1.0) c.requires.1.1.1.1.0;
      total = own ∙ sym total;
      low = omega (
        arith,
        shown_holds c.args.times.now c.args.interval c.args.reach g.about c.in_ok-lower.lower c.in_ok-lower.entries
            c.in_ok-lower.ensures.book c.in_ok-lower.ensures.shown g.about.first c.requires.1.1.1.1.0,
        total,
      );
      limit = c.sequence_cost-upper.ensures.limit;
      raised = c.in_ok-lower.ensures.raised;
      no_worse = omega (arith, total);
    }
