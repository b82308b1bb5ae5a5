-- What the check of a certificate of a product finds: its first failing check, or that all hold.
use Rattle.std.specs.Prelude.{◌≡◌, ℕ, ◌-◌, ◌*◌, ◌<◌, ◌≤◌, ◌⊎◌, slice_get, Option, Some, None}
use Rattle.line_instance.specs.Line.{Line, tasks}
use Rattle.line_rules.specs.Balance.{IsRight}
use Rattle.line_rules.specs.Checked.{IsChecked, IsLeastWhere}
use Rattle.line_rules.specs.declared.types.BalanceCheck.{BalanceCheck}
use Rattle.line_rules.specs.declared.types.BalanceCheck.TheVariants as balance
use Rattle.line_rules.specs.declared.types.OpenFrame.{OpenFrame}
use Rattle.line_rules.specs.declared.types.Trail.{Trail}
use Rattle.line_check.specs.Lists.{IsRefusedAt, AreStepsEnded}
use Rattle.line_check.specs.Frames.{IsFrameRefused, AreFramesEnded}
use Rattle.line_check.specs.Verdicts.{AreDone}
use Rattle.line_check.specs.declared.types.FrameFault.{FrameFault}
use Rattle.line_check.specs.declared.types.FrameFault.TheVariants as fault
use Rattle.line_rules.specs.declared.products.EfficCert.{EfficCert}
use Rattle.effic_check.specs.Accepted.{IsAsked, IsClosed, MayBegin, ShowsUpper, IsAccepted}
use Rattle.effic_check.specs.Truth.{IsBetween}
use Rattle.effic_check.specs.declared.verdict.EfficPlace.{EfficPlace}
use Rattle.effic_check.specs.declared.verdict.EfficPlace.TheVariants as place
use Rattle.effic_check.specs.declared.verdict.EfficVerified.{EfficVerified}
use Rattle.effic_check.specs.declared.verdict.EfficVerified.TheVariants as verified

-- the stations of the balance are asked for, and this is the first thing wrong with it
abbrev pub IsWrong : Line → EfficCert → BalanceCheck → Type 0
IsWrong line cert check = IsAsked cert cert.balance.stations × IsChecked cert.kind line cert.cycle cert.balance check

-- the first thing that keeps the balance from showing the upper bound
abbrev pub BalanceFails : Line → EfficCert → EfficPlace → Type 0
BalanceFails line cert (place.Tasks said real) = ⊥
BalanceFails line cert (place.Stations s) = (s ≡ cert.balance.stations) × (IsAsked cert cert.balance.stations → ⊥)
BalanceFails line cert (place.Station i) = IsWrong line cert (balance.StationRange i)
BalanceFails line cert (place.Side i) = IsWrong line cert (balance.SideWrong i)
BalanceFails line cert (place.Overfull s t) = IsWrong line cert (balance.Overfull s t)
BalanceFails line cert (place.Broken i j) = IsWrong line cert (balance.Broken i j)
BalanceFails line cert (place.Upper u) =
    (u ≡ cert.upper) × IsAsked cert cert.balance.stations × IsRight cert.kind line cert.cycle cert.balance
    × (cert.upper ≡ cert.balance.stations * cert.cycle → ⊥)
BalanceFails line cert (place.Entry entry why) = ⊥
BalanceFails line cert (place.Goal m) = ⊥
BalanceFails line cert (place.Frame frame why) = ⊥

-- m is asked for, and isn't closed below the lower bound
abbrev pub IsLeftOpen : Line → EfficCert → ℕ → Type 0
IsLeftOpen line cert m = IsAsked cert m × (IsClosed line cert.entries cert.lower m → ⊥)

-- each number of stations that is asked for is closed below the lower bound
abbrev pub AreClosed : Line → EfficCert → Type 0
AreClosed line cert = (m : ℕ) → IsAsked cert m → IsClosed line cert.entries cert.lower m

-- the first frame asks a question that the trail may begin with
abbrev pub IsAllowed : EfficCert → Trail → Type 0
IsAllowed cert t = (f : OpenFrame) × ((slice_get t.frames 0 ≡ Some f) × MayBegin cert t.cycle f.most)

-- the first frame that is refused: the first one, since it isn't allowed, or one that isn't what it should be
abbrev pub TrailFails : Line → EfficCert → Option Trail → ℕ → ℕ → FrameFault → Type 0
TrailFails line cert None steps j why = ⊥
TrailFails line cert (Some t) steps j why =
    ((IsAllowed cert t → ⊥) × (j ≡ 0) × (why ≡ fault.Allowed))
    ⊎ (IsAllowed cert t × IsFrameRefused cert.kind line t.cycle cert.entries t.frames steps j why)

-- some load of the trail is walked as one more than `steps`, and every check up to it held
abbrev pub TrailEnds : Line → EfficCert → Option Trail → ℕ → Type 0
TrailEnds line cert None steps = ⊥
TrailEnds line cert (Some t) steps = IsAllowed cert t
    × AreFramesEnded cert.kind line t.cycle cert.entries t.frames steps

-- The first check of the proof that fails, where the balance shows the upper bound: an entry, a number of stations,
-- the least that is left
-- open, or a frame.
abbrev pub ProofFails : Line → EfficCert → ℕ → EfficPlace → Type 0
ProofFails line cert steps (place.Tasks said real) = ⊥
ProofFails line cert steps (place.Stations s) = ⊥
ProofFails line cert steps (place.Station i) = ⊥
ProofFails line cert steps (place.Side i) = ⊥
ProofFails line cert steps (place.Overfull s t) = ⊥
ProofFails line cert steps (place.Broken i j) = ⊥
ProofFails line cert steps (place.Upper u) = ⊥
ProofFails line cert steps (place.Entry entry why) = IsRefusedAt cert.kind line cert.entries steps entry why
ProofFails line cert steps (place.Goal m) = (units : ℕ)
    × (AreDone cert.kind line cert.entries steps units × IsLeastWhere (IsLeftOpen line cert) m)
ProofFails line cert steps (place.Frame frame why) =
    (units : ℕ) × (AreDone cert.kind line cert.entries steps units × AreClosed line cert
    × TrailFails line cert cert.trail (steps - units) frame why)

-- some load of an entry, or, where all checks of the entries hold, of a frame is walked as one more than `steps`
abbrev pub ProofEnds : Line → EfficCert → ℕ → Type 0
ProofEnds line cert steps =
    AreStepsEnded cert.kind line cert.entries steps
    ⊎ ((units : ℕ) × (AreDone cert.kind line cert.entries steps units × AreClosed line cert
    × TrailEnds line cert cert.trail (steps - units)))

-- what is found of a certificate of as many tasks as the line has
abbrev pub IsFound : Line → EfficCert → ℕ → EfficVerified → Type 0
IsFound line cert steps (verified.Accepted l u units) = (l ≡ cert.lower) × (u ≡ cert.upper) × IsAccepted line cert units
    × (units ≤ steps)
IsFound line cert steps (verified.Refused p) = BalanceFails line cert p
    ⊎ (ShowsUpper line cert × ProofFails line cert steps p)
IsFound line cert steps (verified.StepsEnded s) = (s ≡ steps) × ShowsUpper line cert × ProofEnds line cert steps

-- What is found of a certificate: that it is of another number of tasks, or what is found of it else. So Accepted
-- comes where it is accepted,
-- Refused at the first check that fails, and StepsEnded where more loads than `steps` had to be walked.
abbrev pub IsVerdict : Line → EfficCert → ℕ → EfficVerified → Type 0
IsVerdict line cert steps v =
    ((v ≡ verified.Refused (place.Tasks cert.tasks (tasks line))) × (cert.tasks ≡ tasks line → ⊥))
    ⊎ ((cert.tasks ≡ tasks line) × IsFound line cert steps v)

-- Accepted says that the certificate is accepted so.
abbrev pub IsAcceptedSo : Line → EfficCert → ℕ → EfficVerified → Type 0
IsAcceptedSo line cert steps (verified.Accepted l u units) = (l ≡ cert.lower) × (u ≡ cert.upper)
    × IsAccepted line cert units × (units ≤ steps)
IsAcceptedSo line cert steps (verified.Refused p) = Unit {0}
IsAcceptedSo line cert steps (verified.StepsEnded s) = Unit {0}

-- What isn't accepted: a certificate that is refused, and, where the steps ended, one with so few units.
abbrev pub IsRejectedSo : Line → EfficCert → ℕ → EfficVerified → Type 0
IsRejectedSo line cert steps (verified.Accepted l u units) = Unit {0}
IsRejectedSo line cert steps (verified.Refused p) = (units : ℕ) → IsAccepted line cert units → ⊥
IsRejectedSo line cert steps (verified.StepsEnded s) = (units : ℕ) → IsAccepted line cert units → steps < units

-- What is accepted is true: a balance in the stations that are asked for reaches the upper bound, and none lies below
-- the lower one.
abbrev pub IsTrueOf : Line → EfficCert → EfficVerified → Type 0
IsTrueOf line cert (verified.Accepted l u units) = IsBetween cert.kind line cert.least_m cert.most_m l u
IsTrueOf line cert (verified.Refused p) = Unit {0}
IsTrueOf line cert (verified.StepsEnded s) = Unit {0}
