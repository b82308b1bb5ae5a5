use Rattle.std.proofs.Common.{◌≡◌, ◌∙◌, ◌++◌, ℕ, ◌≤◌, List, ap, subst, arith}
use Rattle.std.specs.Prelude.{string_bytes}
use Rattle.sequence_rules.specs.States.{cost, root_starts}
use Rattle.sequence_search.specs.Outcomes.{model_order}
use Rattle.command_outcome.specs.Bounds.{seek_line}
use Rattle.command_sequence.proofs.BeginningFacts.{begun_sought}
use Rattle.command_sequence.proofs.beginning.sought.Goals as goal

pub returns : goal.returns
returns c =
    let t = c.args.times.now in
    let order : c.in_ok-order.order ≡ model_order t.demands =
    c.in_ok-order.ensures.order ∙ ap (λ (xs : List ℕ). model_order xs) c.as_slice.ensures in
    let C : List ℕ → ℕ = cost t c.args.interval c.args.reach (root_starts t) in
    let W : List ℕ → Type 0 = λ z. C c.better-first.result ≤ C z in
    let found = c.in-Done.ensures in
    let kept = c.in-Done-warm_seq.ensures in
    begun_sought t c.args.interval c.args.reach c.args.units c.args.limit c.better-first.result
    c.in-Done.charges c.in-Done-warm_seq.kept (string_bytes c.in_ok-said.said)
    c.requires.limit.0 c.better-first.ensures.is (subst W order c.better-first.ensures.no_worse)
    found.charged kept.derived kept.range (omega (arith, kept.few, c.requires.units.1))
    (omega (arith, kept.paid, c.requires.units.1))
    (record {
      sequence = c.in-Done.sequence;
      lemmas = c.in-Done.lemmas;
      used = c.in-Done.used;
      found = found;
      no_worse = c.better-first.ensures.no_worse_than_found;
      taken = kept.kept;
      said_so = c.in_ok-said.ensures ∙ ap (λ (xs : List ℕ). xs ++ seek_line c.in-Done.used c.args.limit c.len.result)
          c.new.ensures.bytes ∙ ap (λ k. seek_line c.in-Done.used c.args.limit k) c.len.ensures;
    })
    c.charges_for-charges.result c.charges_for-charges.ensures.charged c.charges_for-charges.ensures.same
