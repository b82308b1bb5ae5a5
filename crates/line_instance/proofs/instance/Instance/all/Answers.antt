use Rattle.std.proofs.Common.{◌≡◌, ◌≤◌, ◌<◌, ℕ, List, Bool, sym, subst, arith}
use Rattle.line_instance.specs.Truths.{In, full_to}
use Rattle.line_instance.specs.Line.{Line, tasks}
use Rattle.line_instance.proofs.JoinedRows.{full_members}
use Rattle.line_instance.proofs.instance.Instance.all.Goals as goal

within : (line : Line) (n : ℕ) (s : List Bool) → n ≡ tasks line → tasks line ≤ 1024 → s ≡ full_to n → (i : ℕ)
    → (In s i → i < tasks line) × (i < tasks line → In s i)
within line n s e few f i =
    let P : List Bool → Type 0 = λ x. In x i in
    let m = full_members n i (omega arith) in
    (λ x. omega (arith, m.0 (subst P f x)), λ l. subst P (sym f) (m.1 (omega arith)))

pub returns-clause-members : goal.returns-clause-members
returns-clause-members c =
    let F : Line → Type 0 = λ line. tasks line ≤ 1024 in
    let N : Line → Type 0 = λ line. c.len.result ≡ tasks line in
    within c.args.self.now c.len.result c.full_to.result (subst N c.self.view_is (omega arith))
    (subst F c.self.view_is c.self.invariant.line_is.small) c.full_to.ensures.value

pub returns-clause-set : goal.returns-clause-set
returns-clause-set c =
    let F : Line → Type 0 = λ line. tasks line ≤ 1024 in
    let N : Line → Type 0 = λ line. c.len.result ≡ tasks line in
    record {
      truths = c.full_to.ensures.truths;
      tasks = λ i m. (within c.args.self.now c.len.result c.full_to.result (subst N c.self.view_is (omega arith))
          (subst F c.self.view_is c.self.invariant.line_is.small) c.full_to.ensures.value i).0 m;
    }
