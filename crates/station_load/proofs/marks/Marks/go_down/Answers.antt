use Rattle.std.proofs.Common.{◌≡◌, ◌∙◌, ℕ, ◌-◌, ◌*◌, ◌/◌, List, Bool, get_or, sym, ap, refl, subst, inl, inr, arith}
use Rattle.std.proofs.lemmas.Bool.{cases_lt}
use Rattle.line_instance.specs.Truths.{In, IsGreatestBelow}
use Rattle.line_instance.proofs.HighestBits.{none_of_word}
use Rattle.station_load.specs.inner.Marked.{IsLeft}
use Rattle.station_load.proofs.LeftFacts.{none_in_word, word_left}
use Rattle.station_load.proofs.marks.Marks.go_down.Goals as goal

pub loop-at-init : goal.loop-at-init
loop-at-init c = record {
  within = omega arith;
  same = refl;
  none = λ p m b. omega (arith, none_in_word c.requires c.if-left-ne0.false p m b, c.requires.even);
}

pub take_last-requires-then-word-ne0-clause-left : goal.take_last-requires-then-word-ne0-clause-left
take_last-requires-then-word-ne0-clause-left c =
    let P : ℕ → Type 0 = λ b. IsLeft c.args.self.now b (64 * (c.loop-at.at - 1))
    (get_or c.self.inside.words (c.loop-at.at - 1) 0) in
    subst P (sym c.loop-at.invariant.same) (word_left c.self.inside.words (c.loop-at.at - 1) c.requires c.self.invariant
    c.self.view_is (omega (arith, c.loop-at.invariant.within, c.loop-at-test.true))
    (λ p m b. omega (arith, c.loop-at.invariant.none p m b, c.loop-at-test.true)))

pub returns-then-word-ne0-clause-some : goal.returns-then-word-ne0-clause-some
returns-then-word-ne0-clause-some c = λ e.
    let P : ℕ → Type 0 = λ b. IsGreatestBelow c.args.self.now b c.take_last-then-word-ne0.new.left.below in
    subst P c.loop-at.invariant.same c.take_last-then-word-ne0.ensures.last

pub loop-at-preserved : goal.loop-at-preserved
loop-at-preserved c = record {
  within = omega (arith, c.loop-at.invariant.within);
  same = c.loop-at.invariant.same;
  none = λ p m b. elim (cases_lt p (64 * (c.loop-at.at - 1))) [
    | inl l ↦ l
    | inr g ↦
        let q : p / 64 ≡ c.loop-at.at - 1 = omega (arith, c.loop-at.invariant.none p m b) in
        let P : List Bool → Type 0 = λ s. In s p in
        absurd (none_of_word c.self.inside.words p (subst P (sym c.self.view_is) m)
        (ap (λ x. get_or c.self.inside.words x 0) q ∙ c.if-word-ne0.false))
  ];
}

pub returns-clause-none : goal.returns-clause-none
returns-clause-none c = λ e p m. elim (cases_lt p c.args.left.now.below) [
  | inl l ↦ absurd (omega (arith, c.loop-at.invariant.none p m l, c.loop-at-test.false))
  | inr g ↦ g
]
