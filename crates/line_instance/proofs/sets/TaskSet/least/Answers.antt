use Rattle.std.proofs.Common.{sym, List, Bool, ◌*◌, ◌+◌, subst, refl, get_or, arith, inl, inr, w64}
use Rattle.line_instance.specs.Truths.{IsEmpty, IsLeast}
use Rattle.line_instance.proofs.Bits.{least_word, empty_words, lowest}
use Rattle.std.proofs.lemmas.Bool.{true≢false, cases_lt}
use Rattle.std.proofs.lemmas.List.{get_or_past}
use Rattle.std.specs.Int.{trailing_zeros}
use Rattle.line_instance.proofs.sets.TaskSet.least.Goals as goal

pub returns-then-word-ne0-clause-some : goal.returns-then-word-ne0-clause-some
returns-then-word-ne0-clause-some c =
    let P : List Bool → Type 0 = λ t. IsLeast t (64 * c.loop-i.i + trailing_zeros w64
    (get_or c.self.inside.words c.loop-i.i 0)) in
    subst P c.self.view_is (least_word c.self.inside.words c.self.invariant c.loop-i.i (omega arith) (omega arith)
    c.loop-i.invariant)

pub returns-then-word-ne0-clause-none : goal.returns-then-word-ne0-clause-none
returns-then-word-ne0-clause-none c =
    let P : List Bool → Type 0 = λ t. IsEmpty t in (
      λ e. absurd (true≢false e),
      λ h. absurd (subst P (sym c.self.view_is) h _ (lowest c.self.inside.words c.self.invariant c.loop-i.i
          (omega arith) (omega arith))),
    )

pub returns-clause-none : goal.returns-clause-none
returns-clause-none c =
    let P : List Bool → Type 0 = λ t. IsEmpty t in (
      λ e. subst P c.self.view_is (empty_words c.self.inside.words c.self.invariant
          (λ k. elim (cases_lt k 16) [
            | inl l ↦ c.loop-i.invariant k (omega arith)
            | inr g ↦
                get_or_past c.self.inside.words k 0 (omega (arith, c.self.invariant.sixteen))
          ])),
      λ h. refl,
    )
