-- The parts of the text of a certificate of a sequence, as grammars.
use Rattle.std.specs.Prelude.{◌≡◌, ℕ, ◌≤◌, List, All, length, slice_get, Option, Some, None}
use Rattle.cert_lines.specs.Rows.{Row}
use Rattle.cert_lines.specs.Faults.{Grammar}
use Rattle.sequence_rules.specs.Ranges.{IsNumber}
use Rattle.sequence_values.specs.declared.types.SeqCert.{SeqCert}
use Rattle.sequence_values.specs.declared.types.SeqEntry.{SeqEntry}
use Rattle.sequence_values.specs.declared.types.SeqWhy.{SeqWhy}
use Rattle.sequence_values.specs.declared.types.SeqWhy.TheVariants as why
use Rattle.sequence_cert.specs.SequenceText.{counted_rows, charges_rows, body_rows}
use Rattle.sequence_cert.specs.inner.Versions.{AreChargesIn, IsOfVersion}
use Rattle.sequence_cert.specs.declared.version.Version.{Version}
use Rattle.sequence_cert.specs.declared.words.FrameDraft.{FrameDraft}

-- 1 to 16 models
pub record AreModels (models : ℕ) : Type 0 where
  pub some : 1 ≤ models
  pub few : models ≤ 16

-- a model that is counted from 1, where there is one, is one of so many
abbrev pub IsLastWithin : ℕ → Option ℕ → Type 0
IsLastWithin models None = Unit {0}
IsLastWithin models (Some n) = (1 ≤ n) × (n ≤ models)

-- cites of the line of an entry within their range
abbrev pub AreCitesWithin : SeqWhy → Type 0
AreCitesWithin why.Bound = Unit {0}
AreCitesWithin (why.Branch cites) = All IsNumber cites
AreCitesWithin (why.Charge cites) = All IsNumber cites

-- numbers of the line of an entry within their ranges
pub record IsEntryWithin (e : SeqEntry) : Type 0 where
  pub units : All (λ n. n ≤ 1000) e.rem
  pub begun : All (λ s. s ≤ 1000000000) e.starts
  pub least : IsNumber e.least
  pub cites : AreCitesWithin e.why

-- numbers of the line of a frame within their ranges
pub record IsFrameWithin (models : ℕ) (d : FrameDraft) : Type 0 where
  pub units : All (λ n. n ≤ 1000) d.rem
  pub begun : All (λ s. s ≤ 1000000000) d.starts
  pub need : IsNumber d.need
  pub last : IsLastWithin models d.last
  pub cites : All IsNumber d.cites

-- so many values, each within its range
pub record IsCounted {V : Type 0} (low high : ℕ) (ranged : V → Type 0) (vs : List V) : Type 0 where
  pub least : low ≤ length vs
  pub most : length vs ≤ high
  pub each : (k : ℕ) (v : V) → slice_get vs k ≡ Some v → ranged v

abbrev pub counteds : {V : Type 0} → List ℕ → ℕ → ℕ → (V → Row) → (V → Type 0) → Grammar (List V)
counteds key low high row ranged = record { rows = counted_rows key row; ranged = IsCounted low high ranged }

-- the line of the charges, where the version has it
abbrev pub chargeds : Version → ℕ → Grammar (Option (List ℕ))
chargeds v models = record { rows = charges_rows; ranged = AreChargesIn v models }

-- what stands behind the first line of a version
abbrev pub bodies : Version → Grammar SeqCert
bodies v = record { rows = body_rows; ranged = IsOfVersion v }
