use Rattle.std.proofs.Common.{◌≡◌, ◌∙◌, ap, List, Bool, ℕ, ◌*◌, ◌+◌, ◌-◌, ◌/◌, subst, get_or, arith, inl, inr}
use Rattle.line_instance.specs.Truths.{IsGreatestBelow}
use Rattle.line_instance.proofs.HighestBits.{top_bit, whole_word, part_word, none_of_word, past_words, part_none}
use Rattle.line_instance.proofs.HighestBits.{found_below}
use Rattle.std.proofs.lemmas.Bool.{cases_lt, true≢false}
use lib.Count.{count_leading_zeros}
use Rattle.line_instance.proofs.sets.TaskSet.greatest_below.Goals as goal
use Rattle.line_instance.proofs.sets.TaskSet.greatest_below.Goals.{then-at-lt16+else-word-ne0, else-at-lt16}

pub returns-then-word-ne0-clause-some : goal.returns-then-word-ne0-clause-some
returns-then-word-ne0-clause-some c =
    let w = c.low_bits-word.result in
    let P : List Bool → Type 0 = λ t. IsGreatestBelow t c.args.i
    (64 * (c.args.i / 64) + (63 - count_leading_zeros 64 c.low_bits-word.result)) in
    subst P c.self.view_is (part_word c.self.inside.words c.self.invariant c.args.i c.low_bits-word.result
    (63 - count_leading_zeros 64 c.low_bits-word.result) c.if-at-lt16.true
    c.low_bits-word.ensures.below c.low_bits-word.ensures.above
    (top_bit c.low_bits-word.result (omega arith) c.low_bits-word.ensures.fits))

pub loop-k-init : goal.loop-k-init
loop-k-init c = record {
  within = omega arith;
  none = λ j m b. elim c.if-at-lt16.branch [
    | then-at-lt16+else-word-ne0 w ↦ part_none c.self.inside.words c.args.i w.low_bits-word.result j w.if-word-ne0.false
        w.low_bits-word.ensures.below m b
    | else-at-lt16 w ↦ past_words c.self.inside.words c.args.i j w.if-at-lt16.false m
  ];
}

pub returns-then-word-ne0-2-clause-some : goal.returns-then-word-ne0-2-clause-some
returns-then-word-ne0-2-clause-some c =
    let k : ℕ = c.loop-k.k - 1 in
    let w : ℕ = get_or c.self.inside.words (c.loop-k.k - 1) 0 in
    let P : List Bool → Type 0 = λ t. IsGreatestBelow t c.args.i
    (64 * (c.loop-k.k - 1) + (63 - count_leading_zeros 64 (get_or c.self.inside.words (c.loop-k.k - 1) 0))) in
    subst P c.self.view_is (whole_word c.self.inside.words c.self.invariant (c.loop-k.k - 1) c.args.i
    (63 - count_leading_zeros 64 (get_or c.self.inside.words (c.loop-k.k - 1) 0))
    (omega (arith, c.loop-k.invariant.within)) (omega (arith, c.loop-k.invariant.within))
    (λ j m b. omega (arith, c.loop-k.invariant.none j m b))
    (top_bit (get_or c.self.inside.words (c.loop-k.k - 1) 0) (omega arith) (c.self.invariant.fit (c.loop-k.k - 1))))

pub loop-k-preserved : goal.loop-k-preserved
loop-k-preserved c = record {
  within = omega (arith, c.loop-k.invariant.within);
  none = λ j m b. elim (cases_lt j (64 * (c.loop-k.k - 1))) [
    | inl l ↦ l
    | inr g ↦
        let q : j / 64 ≡ c.loop-k.k - 1 = omega (arith, c.loop-k.invariant.none j m b) in
        absurd (none_of_word c.self.inside.words j m (ap (λ x. get_or c.self.inside.words x 0) q
        ∙ c.if-word-ne0-2.false))
  ];
}

pub returns-then-word-ne0-clause-none : goal.returns-then-word-ne0-clause-none
returns-then-word-ne0-clause-none c = (
  λ e. absurd (true≢false e),
  λ h. absurd (found_below c.args.self.now c.args.i _ (returns-then-word-ne0-clause-some c) h),
)

pub returns-then-word-ne0-2-clause-none : goal.returns-then-word-ne0-2-clause-none
returns-then-word-ne0-2-clause-none c = (
  λ e. absurd (true≢false e),
  λ h. absurd (found_below c.args.self.now c.args.i _ (returns-then-word-ne0-2-clause-some c) h),
)
