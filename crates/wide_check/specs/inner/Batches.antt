-- What is found of entries that are checked side by side.
use Rattle.std.specs.Prelude.{◌≡◌, ℕ, ◌+◌, ◌-◌, ◌≤◌, List, length, take, slice_get, Some}
use Rattle.line_instance.specs.Line.{Line}
use Rattle.line_rules.specs.declared.types.LineKind.{LineKind}
use Rattle.line_rules.specs.declared.types.Entry.{Entry}
use Rattle.line_check.specs.Faults.{IsFound}
use Rattle.line_check.specs.Lists.{AreRightBelow, IsRefusedAt, AreStepsEnded}
use Rattle.line_check.specs.declared.types.Checked.{Checked}
use Rattle.line_check.specs.declared.types.EntryFault.{EntryFault}
use Rattle.line_check.specs.declared.types.ListFound.{ListFound}
use Rattle.line_check.specs.declared.types.ListFound.TheVariants as found

-- what is found of the entry of number k after those before it, with so many steps
pub record IsFoundAt (kind : LineKind) (line : Line) (es : List Entry) (k steps : ℕ)
    (f : Checked EntryFault) : Type 0 where
  pub entry : Entry
  pub there : slice_get es k ≡ Some entry
  pub found : IsFound kind line (take k es) entry steps f

-- what is found of each of the entries from one number up to below another, with so many steps for each
pub record AreChecked (kind : LineKind) (line : Line) (es : List Entry) (from to steps : ℕ)
    (fs : List (Checked EntryFault)) : Type 0 where
  pub many : length fs ≡ to - from
  pub each : (j : ℕ) (f : Checked EntryFault) → slice_get fs j ≡ Some f → IsFoundAt kind line es (from + j) steps f

-- what is found of the entries below a number, in their order
abbrev pub AreFoundTo : LineKind → Line → List Entry → ℕ → ℕ → ListFound → Type 0
AreFoundTo kind line es steps to (found.Right units) = AreRightBelow kind line es to units × (units ≤ steps)
AreFoundTo kind line es steps to (found.Refused entry why) = IsRefusedAt kind line es steps entry why
AreFoundTo kind line es steps to found.StepsEnded = AreStepsEnded kind line es steps
