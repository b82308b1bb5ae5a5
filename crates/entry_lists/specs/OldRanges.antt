-- The ranges of a certificate of version 1, before anything in it is believed.
use Rattle.std.specs.Prelude.{◌≡◌, ◌⊎◌, ℕ, ◌<◌, ◌≤◌, false, List, [], ◌∷◌, length, slice_get, Some}
use Rattle.line_rules.specs.Ranges.{IsCycle, IsAsked, IsPlacing, IsEntry, IsFrame, NamesCycle}
use Rattle.line_rules.specs.declared.types.LineKind.{LineKind}
use Rattle.line_rules.specs.declared.types.Balance.{Balance as Assignment}
use Rattle.line_rules.specs.declared.types.Entry.{Entry}
use Rattle.line_rules.specs.declared.types.OpenFrame.{OpenFrame}
use Rattle.line_rules.specs.declared.types.Ask.{Ask}
use Rattle.entry_lists.specs.PairEntries.{has_pairs}
use Rattle.entry_lists.specs.declared.version_one.Part.{Part}
use Rattle.entry_lists.specs.declared.version_one.OldClaim.{OldClaim}
use Rattle.entry_lists.specs.declared.version_one.OldClaim.TheVariants as claim
use Rattle.entry_lists.specs.declared.version_one.OldCertificate.{OldCertificate}

-- a part: a cycle, at most 10,000,000 entries at that cycle, none of them by pairs, at most 1,024 frames; all cites are
-- of the part's own entries
pub record IsPart (n : ℕ) (p : Part) : Type 0 where
  pub cycle : IsCycle p.cycle
  pub many : length p.entries ≤ 10000000
  pub each : (k : ℕ) (e : Entry) → slice_get p.entries k ≡ Some e → IsEntry n (length p.entries) e × (e.cycle ≡ p.cycle)
  pub plain : has_pairs p.entries ≡ false
  pub few : length p.frames ≤ 1024
  pub frames : (k : ℕ) (f : OpenFrame) → slice_get p.frames k ≡ Some f → IsFrame n (length p.entries) f

-- no part, or one, or two of which at most one has frames
abbrev pub AreParts : ℕ → List Part → Type 0
AreParts n [] = Unit {0}
AreParts n (p ∷ []) = IsPart n p
AreParts n (p ∷ q ∷ []) = (IsPart n p × IsPart n q) × ((p.frames ≡ []) ⊎ (q.frames ≡ []))
AreParts n (p ∷ q ∷ r ∷ ps) = ⊥

-- bounds within the range of cycles, a balance with a place for each task, and parts
pub record AreOldBounds (kind : LineKind) (n lower upper : ℕ) (b : Assignment) (ps : List Part) : Type 0 where
  pub from : IsCycle lower
  pub up_to : IsCycle upper
  pub balance : IsPlacing kind n b
  pub parts : AreParts n ps

-- what is claimed: a task of the line, after a question that names a cycle; or bounds
abbrev pub IsOldClaim : LineKind → ℕ → Ask → OldClaim → Type 0
IsOldClaim kind n a (claim.TooLong task) = NamesCycle a × (task < n)
IsOldClaim kind n a (claim.Bounds lower upper b ps) = AreOldBounds kind n lower upper b ps

-- A certificate of version 1 within its ranges.
pub record IsOldInRange (old : OldCertificate) : Type 0 where
  pub some : 1 ≤ old.tasks
  pub few : old.tasks ≤ 1024
  pub ask : IsAsked old.ask
  pub claim : IsOldClaim old.kind old.tasks old.ask old.claim
