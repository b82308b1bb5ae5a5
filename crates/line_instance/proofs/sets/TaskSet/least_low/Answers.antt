use Rattle.std.proofs.Common.{◌≡◌, sym, List, Bool, ◌+◌, ◌*◌, subst, refl, get_or, arith, w64, ℕ, ◌<◌}
use Rattle.line_instance.specs.Truths.{In, IsEmpty, IsLeast}
use Rattle.line_instance.proofs.Bits.{least_word, lowest}
use Rattle.line_instance.proofs.LowWords.{low_none}
use Rattle.std.proofs.lemmas.Bool.{true≢false}
use Rattle.std.specs.Int.{trailing_zeros}
use Rattle.line_instance.proofs.sets.TaskSet.least_low.Goals as goal

pub returns-then-self-ne0-clause-none : goal.returns-then-self-ne0-clause-none
returns-then-self-ne0-clause-none c =
    let P : List Bool → Type 0 = λ t. IsEmpty t in (
      λ e. absurd (true≢false e),
      λ h. absurd (subst P (sym c.self.view_is) h _ (lowest c.self.inside.words c.self.invariant 0 (omega arith)
          (omega arith))),
    )

pub returns-then-self-ne0-clause-some : goal.returns-then-self-ne0-clause-some
returns-then-self-ne0-clause-some c =
    let t : ℕ = trailing_zeros w64 (get_or c.self.inside.words 0 0) in
    let e : 64 * 0 + t ≡ t = omega arith in
    let P : List Bool → Type 0 = λ s. IsLeast s (64 * 0 + t) in
    let Q : ℕ → Type 0 = λ n. IsLeast c.args.self.now n in
    subst Q e (subst P c.self.view_is (least_word c.self.inside.words c.self.invariant 0 (omega arith) (omega arith)
    (λ j l. absurd (omega (arith, l)))))

pub returns-then-self-ne0-2-clause-none : goal.returns-then-self-ne0-2-clause-none
returns-then-self-ne0-2-clause-none c =
    let P : List Bool → Type 0 = λ t. IsEmpty t in (
      λ e. absurd (true≢false e),
      λ h. absurd (subst P (sym c.self.view_is) h _ (lowest c.self.inside.words c.self.invariant 1 (omega arith)
          (omega arith))),
    )

pub returns-then-self-ne0-2-clause-some : goal.returns-then-self-ne0-2-clause-some
returns-then-self-ne0-2-clause-some c =
    let t : ℕ = trailing_zeros w64 (get_or c.self.inside.words 1 0) in
    let e : 64 * 1 + t ≡ 64 + t = omega arith in
    let P : List Bool → Type 0 = λ s. IsLeast s (64 * 1 + t) in
    let Q : ℕ → Type 0 = λ n. IsLeast c.args.self.now n in
    let Z : ℕ → Type 0 = λ k. get_or c.self.inside.words k 0 ≡ 0 in
    let zeroth : get_or c.self.inside.words 0 0 ≡ 0 = omega arith in
    subst Q e (subst P c.self.view_is (least_word c.self.inside.words c.self.invariant 1 (omega arith) (omega arith)
    (λ j l. let first : 0 ≡ j = omega (arith, l) in subst Z first zeroth)))

pub returns-clause-none : goal.returns-clause-none
returns-clause-none c =
    let P : List Bool → Type 0 = λ t. IsEmpty t in
    let L : List Bool → Type 0 = λ t. (i : ℕ) → In t i → i < 128 in (
      λ e. subst P c.self.view_is (low_none c.self.inside.words c.self.invariant
          (subst L (sym c.self.view_is) c.requires) (omega arith) (omega arith)),
      λ h. refl,
    )
