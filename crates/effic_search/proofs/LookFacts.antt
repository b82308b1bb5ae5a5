-- A balance that is right at a cycle, looked at with a lesser one: a station is longer, or it is right at the lesser
-- one
-- too.
use Rattle.std.proofs.Common.{◌≡◌, ℕ, ◌<◌, ◌≤◌, refl, arith}
use Rattle.line_instance.specs.Truths.{In}
use Rattle.line_instance.proofs.Members.{In-full_to, In-full_to_below}
use Rattle.line_instance.specs.Line.{Line, IsLine, tasks}
use Rattle.line_rules.specs.Balance.{IsRight, all_tasks}
use Rattle.line_rules.specs.Checked.{IsChecked}
use Rattle.line_rules.specs.declared.types.LineKind.{LineKind}
use Rattle.line_rules.specs.declared.types.Balance.{Balance as Assignment}
use Rattle.line_rules.specs.declared.types.BalanceCheck.{BalanceCheck}
use Rattle.line_rules.specs.declared.types.BalanceCheck.TheVariants.{Right, Unplaced, StationRange, SideWrong, Overfull}
use Rattle.line_rules.specs.declared.types.BalanceCheck.TheVariants.{Broken, Together}

module _ (kind : LineKind) (line : Line) (c d : ℕ) (b : Assignment) (ok : IsLine line)
    (r : IsRight kind line c b) where
  -- the station is longer, and no longer than the cycle
  pub looked_over : (s time : ℕ) → IsChecked kind line d b (Overfull s time) → (d < time) × (time ≤ c)
  looked_over s time h =
      (omega (arith, h.3, h.4.passes), omega (arith, h.3, r.balance.fits s))

  -- nothing else is wrong
  pub looked_right : (v : BalanceCheck) → IsChecked kind line d b v
      → ((s time : ℕ) → v ≡ Overfull s time → ⊥) → IsRight kind line d b
  looked_right Right h not = h
  looked_right (Unplaced n) h not = absurd (omega (arith, h.0, h.1, r.each))
  looked_right (StationRange i) h not =
      absurd (h.1.passes.1 (r.balance.first i h.1.passes.0, r.balance.last i h.1.passes.0))
  looked_right (SideWrong i) h not = absurd (h.2.passes.1 (r.sides i h.2.passes.0))
  looked_right (Overfull s time) h not = absurd (not s time refl)
  looked_right (Broken i j) h not =
      let p = h.4.passes in
      absurd (p.broken (r.balance.keeps i j p.first p.second p.before))
  looked_right (Together i j) h not =
      let p = h.5.passes in
      absurd (r.balance.parted i j (member i j p.second p.rises) p.second p.apart p.together)
    where
      member : (i j : ℕ) → In (all_tasks line) j → i < j → In (all_tasks line) i
      member i j here less =
          In-full_to (tasks line) i (omega (arith, ok.small))
          (omega (arith, less, In-full_to_below (tasks line) j here))
