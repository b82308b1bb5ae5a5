-- What a search for a sequence of least utility work comes to.
use Rattle.std.specs.Prelude.{◌≡◌, ℕ, suc, ◌+◌, ◌<◌, ◌≤◌, List, [], ◌∷◌, ◌++◌, length, replicate, Option, None}
use Rattle.sequence_rules.specs.States.{state_bound, IsSequenceOf, cost, Holds, root_starts}
use Rattle.sequence_rules.specs.Entries.{IsFreshFrom, HasAnswer, units_of}
use Rattle.sequence_rules.specs.Trails.{IsOpenOver}
use Rattle.sequence_rules.specs.Accepted.{IsAccepted, units_whole}
use Rattle.sequence_rules.specs.Ranges.{IsInRange}
use Rattle.sequence_values.specs.declared.types.Times.{Times}
use Rattle.sequence_values.specs.declared.types.SeqCert.{SeqCert}
use Rattle.sequence_values.specs.declared.types.SeqEntry.{SeqEntry}
use Rattle.sequence_values.specs.declared.types.SeqFrame.{SeqFrame}
use Rattle.sequence_search.specs.About.{About, charges_of, IsFront}
use Rattle.sequence_search.specs.inner.Paths.{IsBook}
use Rattle.sequence_search.specs.Work.{most_units}
use Rattle.sequence_search.specs.declared.outcome.Ordered.{Ordered}
use Rattle.sequence_search.specs.declared.outcome.Ordered.TheVariants as ordered

-- the sequence in the order of the models, from a model on: each as often as it is wanted
abbrev pub order_from_model : ℕ → List ℕ → List ℕ
order_from_model model [] = []
order_from_model model (wanted ∷ demands) = replicate wanted model ++ order_from_model (suc model) demands

abbrev pub model_order : List ℕ → List ℕ
model_order demands = order_from_model 0 demands

-- what a search begins with that is given nothing: so many units, and the sequence in the order of the models
abbrev pub about_units : Times → ℕ → About
about_units t units = record { units = units; first = model_order t.demands; charges = None; kept = [] }

-- what the first sequence costs
abbrev pub first_cost : Times → ℕ → ℕ → About → ℕ
first_cost t interval reach about = cost t interval reach (root_starts t) about.first

-- A lower bound that is no worse than what is known at the beginning: the bound of the root, and each need of the root
-- that a kept entry answers.
pub record IsRaised (t : Times) (interval reach : ℕ) (about : About) (lower : ℕ) : Type 0 where
  pub root : state_bound t interval reach t.demands (root_starts t) ≤ lower
  pub kept : (need : ℕ) → HasAnswer (charges_of about) about.kept t.demands (root_starts t) need → need ≤ lower

-- A certificate that a search makes: accepted, within the ranges of its text, the kept entries first and fresh behind
-- them, with the charges that were given, and with bounds that are no worse than at the beginning.
pub record IsCertified (t : Times) (interval reach : ℕ) (about : About) (cert : SeqCert) : Type 0 where
  pub accepted : IsAccepted t interval reach cert
  pub front : IsFront about.kept cert.entries
  pub fresh : IsFreshFrom (length about.kept) cert.entries
  pub range : IsInRange cert
  pub charges : cert.charges ≡ about.charges
  pub raised : IsRaised t interval reach about cert.lower
  pub no_worse : cert.upper ≤ first_cost t interval reach about

-- the bounds meet, and no frame is open; at most the units that were given stand behind the kept entries
pub record IsSolved (t : Times) (interval reach : ℕ) (about : About) (cert : SeqCert) : Type 0 where
  pub certified : IsCertified t interval reach about cert
  pub optimal : cert.lower ≡ cert.upper
  pub closed : cert.frames ≡ []
  pub few : units_whole cert ≤ units_of (charges_of about) about.kept + about.units

-- The units are all used behind the kept entries, and one more step is needed: the frames are open over the entries,
-- and the bounds are apart. As many as `most_units` are never all used.
pub record IsStopped (t : Times) (interval reach : ℕ) (about : About) (cert : SeqCert) : Type 0 where
  pub certified : IsCertified t interval reach about cert
  pub apart : cert.lower < cert.upper
  pub some : 1 ≤ length cert.frames
  pub further : IsOpenOver cert.entries cert.frames
  pub spent : units_whole cert ≡ units_of (charges_of about) about.kept + about.units
  pub tight : about.units < most_units t

-- The bounds differ, and are no worse than at the beginning; no sequence of the demands costs less than the lower one,
-- and one costs the upper one.
pub record AreBounds (t : Times) (interval reach : ℕ) (about : About) (lower upper : ℕ) : Type 0 where
  pub below : lower < upper
  pub least : Holds t interval reach t.demands (root_starts t) lower
  pub sequence : List ℕ
  pub is : IsSequenceOf t.demands sequence
  pub total : cost t interval reach (root_starts t) sequence ≡ upper
  pub raised : IsRaised t interval reach about lower
  pub no_worse : upper ≤ first_cost t interval reach about

-- what a search comes to that begins so
abbrev pub OrdersFrom : Times → ℕ → ℕ → About → Ordered → Type 0
OrdersFrom t interval reach about (ordered.Solved cert) = IsSolved t interval reach about cert
OrdersFrom t interval reach about (ordered.Stopped cert) = IsStopped t interval reach about cert
OrdersFrom t interval reach about (ordered.Memory lower upper) = AreBounds t interval reach about lower upper
OrdersFrom t interval reach about ordered.NoMemory = Unit {0}

-- what a search in so many units comes to
abbrev pub Orders : Times → ℕ → ℕ → ℕ → Ordered → Type 0
Orders t interval reach units found = OrdersFrom t interval reach (about_units t units) found

-- where a search is between two tries
pub record IsStanding (t : Times) (interval reach : ℕ) (about : About) (lower upper : ℕ) (sequence : List ℕ)
    (es : List SeqEntry) : Type 0 where
  pub book : IsBook t interval reach about es (lower + 1)
  pub shown : 0 < lower → HasAnswer (charges_of about) es t.demands (root_starts t) lower
  pub is : IsSequenceOf t.demands sequence
  pub total : cost t interval reach (root_starts t) sequence ≡ upper
  pub low : lower ≤ upper
  pub limit : upper ≤ 65536000000000000
  pub raised : IsRaised t interval reach about lower
  pub no_worse : upper ≤ first_cost t interval reach about

-- the certificate of a search that stands so
abbrev pub cert_of : Times → Option (List ℕ) → ℕ → ℕ → List ℕ → List SeqEntry → List SeqFrame → SeqCert
cert_of t charges lower upper sequence es fs = record {
  models = length t.demands;
  stations = t.stations;
  charges = charges;
  lower = lower;
  upper = upper;
  sequence = sequence;
  entries = es;
  frames = fs;
}
