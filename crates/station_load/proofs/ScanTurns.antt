-- The turns of the scan, in the words of the code: the place that the loop has come to, and the task there.
use Rattle.std.proofs.Common.{◌≡◌, ℕ, suc, ◌-◌, ◌<◌, ◌≤◌, Bool, true, false, List, sym, ap, ◌∙◌, subst, inr, arith}
use Rattle.line_instance.specs.Line.{Line, tasks, has}
use Rattle.line_rules.specs.Order.{IsNext}
use Rattle.line_rules.specs.declared.types.Mode.{Mode}
use Rattle.line_rules.specs.declared.types.Side.{Side}
use Rattle.line_rules.specs.declared.types.Load.{Load}
use Rattle.line_rules.specs.Sides.{part, fills, spot, task_at, changed}
use Rattle.line_rules.specs.Sides.{MayJoin}
use Rattle.line_rules.specs.inner.Scan.{Scan}
use Rattle.line_rules.proofs.ScanFacts.{rescan, gives_up, passes, joined}

module _ (line : Line) (c : ℕ) (mode : Mode) (R : List Bool) (s : Side) (base now : Load) (k : ℕ) (more : 0 < k)
    (low : k ≤ tasks line) (t : ℕ) (is : t ≡ task_at line s (k - 1))
    (scan : Scan line c mode R base now (spot line s k)) where
  within : k - 1 < tasks line
  within = omega arith

  start : Scan line c mode R base now (spot line s (suc (k - 1)))
  start = rescan line c mode R base now (spot line s k) (spot line s (suc (k - 1)))
      (ap (spot line s) (let e : k ≡ suc (k - 1) = omega arith in e)) scan

  there : (b : Bool) → has (part s now) t ≡ b → has (part s now) (task_at line s (k - 1)) ≡ b
  there b e = ap (λ x. has (part s now) x) (sym is) ∙ e

  as_changed : (new : Load) (b : Bool) → new ≡ changed s now t b → changed s now (task_at line s (k - 1)) b ≡ new
  as_changed new b e = ap (λ x. changed s now x b) (sym is) ∙ sym e

  pub gives_up_at : (new : Load) → new ≡ changed s now t false → has (part s now) t ≡ true
      → Scan line c mode R base new (spot line s (k - 1))
  gives_up_at new e h =
      let P : Load → Type 0 = λ l. Scan line c mode R base l (spot line s (k - 1)) in
      subst P (as_changed new false e) (gives_up line c mode R s base now (k - 1) within start (there true h))

  pub passes_at : has (part s now) t ≡ false → (MayJoin line c R s now t → ⊥)
      → Scan line c mode R base now (spot line s (k - 1))
  passes_at h cannot =
      let P : ℕ → Type 0 = λ x. MayJoin line c R s now x → ⊥ in
      passes line c mode R s base now (k - 1) within start (there false h) (inr (subst P is cannot))

  pub joined_at : (new : Load) → new ≡ changed s now t true → has (part s now) t ≡ false → fills mode s ≡ true
      → MayJoin line c R s now t → IsNext line c mode R base new
  joined_at new e h filled may =
      let P : Load → Type 0 = λ l. IsNext line c mode R base l in
      let Q : ℕ → Type 0 = λ x. MayJoin line c R s now x in
      subst P (as_changed new true e) (joined line c mode R s base now (k - 1) within start (there false h) filled
      (subst Q is may))
