-- What the check of a certificate finds: its first failing check, or that all hold.
use Rattle.std.specs.Prelude.{◌≡◌, ℕ, ◌-◌, ◌<◌, ◌≤◌, ◌⊎◌, length}
use Rattle.sequence_rules.specs.States.{IsSequenceOf, cost, root_starts}
use Rattle.sequence_rules.specs.Charges.{listed_charges}
use Rattle.sequence_rules.specs.Entries.{IsDerived, HasAnswer, units_of}
use Rattle.sequence_rules.specs.Trails.{IsAllowed}
use Rattle.sequence_rules.specs.Accepted.{IsShownLower, IsAccepted, units_whole}
use Rattle.sequence_rules.specs.Laws.{IsProved}
use Rattle.sequence_values.specs.declared.types.Times.{Times}
use Rattle.sequence_values.specs.declared.types.SeqCert.{SeqCert}
use Rattle.sequence_check.specs.Lists.{IsRefusedAt, AreStepsEnded}
use Rattle.sequence_check.specs.Frames.{IsFrameRefused, AreFramesEnded}
use Rattle.sequence_check.specs.declared.types.SeqFrameFault.{SeqFrameFault}
use Rattle.sequence_check.specs.declared.types.SeqFrameFault.TheVariants as fault
use Rattle.sequence_check.specs.declared.types.SeqPlace.{SeqPlace}
use Rattle.sequence_check.specs.declared.types.SeqPlace.TheVariants as place
use Rattle.sequence_check.specs.declared.types.SeqVerified.{SeqVerified}
use Rattle.sequence_check.specs.declared.types.SeqVerified.TheVariants as verified

-- the certificate is of these models and stations
pub record IsOfLine (t : Times) (cert : SeqCert) : Type 0 where
  pub models : cert.models ≡ length t.demands
  pub stations : cert.stations ≡ t.stations

-- the sequence is one of the demands that costs the upper bound
pub record IsShown (t : Times) (interval reach : ℕ) (cert : SeqCert) : Type 0 where
  pub line : IsOfLine t cert
  pub sequence : IsSequenceOf t.demands cert.sequence
  pub total : cost t interval reach (root_starts t) cert.sequence ≡ cert.upper

-- the entries are derived, have these units, and show the lower bound
pub record AreDone (t : Times) (interval reach : ℕ) (cert : SeqCert) (units : ℕ) : Type 0 where
  pub derived : IsDerived t interval reach (listed_charges cert.charges) cert.entries
  pub total : units ≡ units_of (listed_charges cert.charges) cert.entries
  pub goal : IsShownLower t cert

-- the first frame isn't allowed, or it is, and a frame isn't what it should be
abbrev pub TrailFails : Times → ℕ → ℕ → SeqCert → ℕ → ℕ → SeqFrameFault → Type 0
TrailFails t interval reach cert steps j why =
    ((IsAllowed cert.lower cert.upper cert.frames → ⊥) × (j ≡ 0) × (why ≡ fault.Allowed))
    ⊎ (IsAllowed cert.lower cert.upper cert.frames
    × IsFrameRefused t interval reach (listed_charges cert.charges) cert.entries cert.frames steps j why)

-- the first check that fails, where the steps walked up to it are at most `steps`
abbrev pub FailsFirst : Times → ℕ → ℕ → SeqCert → ℕ → SeqPlace → Type 0
FailsFirst t interval reach cert steps (place.Models said) = (said ≡ cert.models) × (cert.models ≡ length t.demands → ⊥)
FailsFirst t interval reach cert steps (place.Stations said) = (cert.models ≡ length t.demands) × (said ≡ cert.stations)
    × (cert.stations ≡ t.stations → ⊥)
FailsFirst t interval reach cert steps place.Sequence = IsOfLine t cert × (IsSequenceOf t.demands cert.sequence → ⊥)
FailsFirst t interval reach cert steps (place.Total total) =
    IsOfLine t cert × IsSequenceOf t.demands cert.sequence
    × (total ≡ cost t interval reach (root_starts t) cert.sequence) × (total ≡ cert.upper → ⊥)
FailsFirst t interval reach cert steps (place.Entry entry why) =
    IsShown t interval reach cert
    × IsRefusedAt t interval reach (listed_charges cert.charges) cert.entries steps entry why
FailsFirst t interval reach cert steps place.Goal =
    IsShown t interval reach cert × IsDerived t interval reach (listed_charges cert.charges) cert.entries
    × (units_of (listed_charges cert.charges) cert.entries ≤ steps) × (0 < cert.lower)
    × (HasAnswer (listed_charges cert.charges) cert.entries t.demands (root_starts t) cert.lower → ⊥)
FailsFirst t interval reach cert steps (place.Frame frame why) =
    (units : ℕ) × (IsShown t interval reach cert × AreDone t interval reach cert units × (units ≤ steps)
    × TrailFails t interval reach cert (steps - units) frame why)

-- some step of an entry or of a frame is walked as one more than `steps`, and every check up to it held
abbrev pub EndsEarly : Times → ℕ → ℕ → SeqCert → ℕ → Type 0
EndsEarly t interval reach cert steps =
    AreStepsEnded t interval reach (listed_charges cert.charges) cert.entries steps
    ⊎ ((units : ℕ) × (AreDone t interval reach cert units × (units ≤ steps)
    × IsAllowed cert.lower cert.upper cert.frames
    × AreFramesEnded t interval reach (listed_charges cert.charges) cert.entries cert.frames (steps - units)))

-- What is found of a certificate: Accepted where it is accepted and its units are at most `steps`, Refused at the first
-- check that fails, and StepsEnded where more steps had to be walked.
abbrev pub IsVerdict : Times → ℕ → ℕ → SeqCert → ℕ → SeqVerified → Type 0
IsVerdict t interval reach cert steps (verified.Accepted lower upper units) =
    (lower ≡ cert.lower) × (upper ≡ cert.upper) × IsAccepted t interval reach cert × (units ≡ units_whole cert)
    × (units ≤ steps)
IsVerdict t interval reach cert steps (verified.Refused place) = FailsFirst t interval reach cert steps place
IsVerdict t interval reach cert steps (verified.StepsEnded s) = (s ≡ steps) × IsShown t interval reach cert
    × EndsEarly t interval reach cert steps

-- What is accepted is true: the sequence is one of the demands that costs the upper bound, and none costs less than the
-- lower one.
abbrev pub IsTrueOf : Times → ℕ → ℕ → SeqCert → SeqVerified → Type 0
IsTrueOf t interval reach cert (verified.Accepted lower upper units) = IsProved t interval reach cert
IsTrueOf t interval reach cert (verified.Refused place) = Unit {0}
IsTrueOf t interval reach cert (verified.StepsEnded s) = Unit {0}

-- What isn't accepted: a certificate that is refused isn't, and one where the steps ended has more units, if it is.
abbrev pub IsRejectedSo : Times → ℕ → ℕ → SeqCert → ℕ → SeqVerified → Type 0
IsRejectedSo t interval reach cert steps (verified.Accepted lower upper units) = Unit {0}
IsRejectedSo t interval reach cert steps (verified.Refused place) = IsAccepted t interval reach cert → ⊥
IsRejectedSo t interval reach cert steps (verified.StepsEnded s) = IsAccepted t interval reach cert
    → steps < units_whole cert
