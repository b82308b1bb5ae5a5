-- The ranges of what is handed in: the works of a mix on a line, and what the text of a certificate can say before
-- anything in it is believed.
use Rattle.std.specs.Prelude.{◌≡◌, ℕ, ◌*◌, ◌<◌, ◌≤◌, List, length, slice_get, Option, Some, None, sum, All}
use Rattle.sequence_rules.specs.Charges.{IsChargesOf}
use Rattle.sequence_values.specs.declared.types.Times.{Times}
use Rattle.sequence_values.specs.declared.types.SeqEntry.{SeqEntry}
use Rattle.sequence_values.specs.declared.types.SeqFrame.{SeqFrame}
use Rattle.sequence_values.specs.declared.types.SeqWhy.{SeqWhy}
use Rattle.sequence_values.specs.declared.types.SeqWhy.TheVariants as why
use Rattle.sequence_values.specs.declared.types.SeqCert.{SeqCert}

-- 1 to 64 stations, 1 to 16 models with 1 to 1,000 units together, and one work of at most 1,024,000,000,000 for each
-- model and station
pub record AreTimes (t : Times) : Type 0 where
  pub some : 1 ≤ t.stations
  pub few : t.stations ≤ 64
  pub modeled : 1 ≤ length t.demands
  pub models : length t.demands ≤ 16
  pub wanted : 1 ≤ sum t.demands
  pub units : sum t.demands ≤ 1000
  pub many : length t.work ≡ length t.demands * t.stations
  pub limit : All (λ w. w ≤ 1024000000000) t.work

-- a launch interval, or a length of the stations, is 1 to 1,000,000,000
pub record IsPlace (x : ℕ) : Type 0 where
  pub some : 1 ≤ x
  pub limit : x ≤ 1000000000

-- starts at each station, 0 to 10^9 from its beginning
pub record AreStarts (t : Times) (starts : List ℕ) : Type 0 where
  pub wide : length starts ≡ t.stations
  pub begun : All (λ s. s ≤ 1000000000) starts

-- no work is above 10^10, so that the charged cost of a unit stays below 10^15 (own)
abbrev pub AreLight : Times → Type 0
AreLight t = All (λ w. w ≤ 10000000000) t.work

-- a number of a certificate is at most 10^18
abbrev pub IsNumber : ℕ → Type 0
IsNumber x = x ≤ 1000000000000000000

-- a state of so many models and stations: 0 to 1,000 units of each model, and starts of 0 to 1,000,000,000
pub record IsState (models stations : ℕ) (rem starts : List ℕ) : Type 0 where
  pub each : length rem ≡ models
  pub units : All (λ n. n ≤ 1000) rem
  pub wide : length starts ≡ stations
  pub begun : All (λ s. s ≤ 1000000000) starts

-- a certificate has charges
abbrev pub HasCharges : Option (List ℕ) → Type 0
HasCharges None = ⊥
HasCharges (Some charges) = Unit {0}

-- the charges, where there are some, are those of so many models
abbrev pub AreChargesIf : ℕ → Option (List ℕ) → Type 0
AreChargesIf models None = Unit {0}
AreChargesIf models (Some charges) = IsChargesOf models charges

-- how many numbers of units an entry has: one of each model, or by Charge one
abbrev pub numbers_by : ℕ → SeqWhy → ℕ
numbers_by models why.Bound = models
numbers_by models (why.Branch cites) = models
numbers_by models (why.Charge cites) = 1

-- why an entry holds: cites are numbers, and Charge is a reason only where there are charges
abbrev pub IsWhy : Option (List ℕ) → SeqWhy → Type 0
IsWhy charges why.Bound = Unit {0}
IsWhy charges (why.Branch cites) = All IsNumber cites
IsWhy charges (why.Charge cites) = HasCharges charges × All IsNumber cites

-- an entry of so many models and stations, with or without charges
pub record IsEntry (models stations : ℕ) (charges : Option (List ℕ)) (e : SeqEntry) : Type 0 where
  pub state : IsState (numbers_by models e.why) stations e.rem e.starts
  pub least : IsNumber e.least
  pub why : IsWhy charges e.why

-- the last model, where there is one, is one of so many
abbrev pub IsLast : ℕ → Option ℕ → Type 0
IsLast models None = Unit {0}
IsLast models (Some model) = model < models

-- a frame of so many models and stations
pub record IsFrame (models stations : ℕ) (f : SeqFrame) : Type 0 where
  pub state : IsState models stations f.rem f.starts
  pub need : IsNumber f.need
  pub last : IsLast models f.last
  pub cites : All IsNumber f.cites

-- A certificate within the ranges of its text: 1 to 16 models, 1 to 64 stations, 1 to 1,000 units, at most 2,000,000
-- entries and 1,001 frames. Nothing is said of what follows from what.
pub record IsInRange (cert : SeqCert) : Type 0 where
  pub modeled : 1 ≤ cert.models
  pub models : cert.models ≤ 16
  pub some : 1 ≤ cert.stations
  pub stations : cert.stations ≤ 64
  pub charges : AreChargesIf cert.models cert.charges
  pub lower : IsNumber cert.lower
  pub upper : IsNumber cert.upper
  pub launched : 1 ≤ length cert.sequence
  pub units : length cert.sequence ≤ 1000
  pub each : All (λ m. m < cert.models) cert.sequence
  pub many : length cert.entries ≤ 2000000
  pub entries : (k : ℕ) (e : SeqEntry) → slice_get cert.entries k ≡ Some e → IsEntry cert.models cert.stations cert.charges e
  pub few : length cert.frames ≤ 1001
  pub frames : (k : ℕ) (f : SeqFrame) → slice_get cert.frames k ≡ Some f → IsFrame cert.models cert.stations f
