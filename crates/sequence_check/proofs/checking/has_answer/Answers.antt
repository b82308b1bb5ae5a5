use Rattle.std.proofs.Common.{◌∙◌, ℕ, sym, arith}
use Rattle.std.proofs.lemmas.Bool.{false≢true}
use Rattle.std.proofs.lemmas.Option.{slice_get_within}
use Rattle.sequence_rules.specs.Entries.{Answers}
use Rattle.sequence_values.specs.declared.types.SeqEntry.{SeqEntry}
use Rattle.sequence_check.proofs.EntryFacts.{below_next}
use Rattle.sequence_check.proofs.checking.has_answer.Goals as goal

pub loop-k-init : goal.loop-k-init
loop-k-init c = λ j e l h a. omega (arith, l)

pub loop-k-preserved : goal.loop-k-preserved
loop-k-preserved c =
    below_next (λ (j : ℕ) (e : SeqEntry). Answers c.args.charges.now e c.args.rem.now c.args.starts.now c.args.need
    → ⊥) c.args.entries.now
    c.loop-k.k c.at.result.now c.at.ensures c.loop-k.invariant
    (λ a. false≢true (sym c.if-answers.false ∙ c.answers.ensures.1 a))

pub returns-then-answers-clause-some : goal.returns-then-answers-clause-some
returns-then-answers-clause-some c = λ e. (
  c.loop-k.k,
  record {
    entry = c.at.result.now;
    there = c.at.ensures;
    answers = c.answers.ensures.0 c.if-answers.true;
  },
)

pub returns-clause-none : goal.returns-clause-none
returns-clause-none c = λ h. absurd (c.loop-k.invariant h.0 h.1.entry
    (omega (
      arith,
      slice_get_within c.args.entries.now h.0 h.1.entry h.1.there,
      c.loop-k-test.false,
      c.len-k-end.ensures,
    ))
    h.1.there h.1.answers)
