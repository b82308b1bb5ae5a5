-- When a certificate of a sequence is accepted.
use Rattle.std.specs.Prelude.{◌≡◌, ℕ, ◌+◌, ◌<◌, length}
use Rattle.sequence_rules.specs.States.{IsSequenceOf, cost, root_starts}
use Rattle.sequence_rules.specs.Charges.{listed_charges}
use Rattle.sequence_rules.specs.Entries.{IsDerived, HasAnswer, units_of}
use Rattle.sequence_rules.specs.Trails.{IsTrail, units_in}
use Rattle.sequence_values.specs.declared.types.Times.{Times}
use Rattle.sequence_values.specs.declared.types.SeqCert.{SeqCert}

-- the units of the entries and of the frames
abbrev pub units_whole : SeqCert → ℕ
units_whole cert = units_of (listed_charges cert.charges) cert.entries + units_in cert.frames

-- where the lower bound is above 0, an entry shows it of the root
abbrev pub IsShownLower : Times → SeqCert → Type 0
IsShownLower t cert = 0 < cert.lower
    → HasAnswer (listed_charges cert.charges) cert.entries t.demands (root_starts t) cert.lower

-- The certificate is accepted: it is of these models and stations, its sequence has each model as often as it is wanted
-- and costs the upper bound, its entries are derived and show the lower bound, and its frames are a valid trail.
pub record IsAccepted (t : Times) (interval reach : ℕ) (cert : SeqCert) : Type 0 where
  pub models : cert.models ≡ length t.demands
  pub stations : cert.stations ≡ t.stations
  pub sequence : IsSequenceOf t.demands cert.sequence
  pub total : cost t interval reach (root_starts t) cert.sequence ≡ cert.upper
  pub derived : IsDerived t interval reach (listed_charges cert.charges) cert.entries
  pub goal : IsShownLower t cert
  pub trail : IsTrail t interval reach (listed_charges cert.charges) cert.entries cert.lower cert.upper cert.frames
