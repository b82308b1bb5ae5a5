-- What the check of a certificate finds: its first failing check, or that all hold.
use Rattle.std.specs.Prelude.{◌≡◌, ℕ, ◌-◌, ◌<◌, ◌≤◌, ◌⊎◌, List, slice_get, Option, Some, None}
use Rattle.line_instance.specs.Line.{Line, tasks, time}
use Rattle.line_rules.specs.Accepted.{upper_cycle, upper_stations, Refutes, MayBegin, IsProof, IsAccepted, IsInfeasible}
use Rattle.line_rules.specs.Balance.{IsRight}
use Rattle.line_rules.specs.Bounds.{IsTooLong}
use Rattle.line_rules.specs.Checked.{IsChecked, IsLeastWhere}
use Rattle.line_rules.specs.Laws.{IsProved, NoBalanceIsLeft}
use Rattle.line_rules.specs.Units.{UnitsWhole}
use Rattle.line_rules.specs.declared.types.LineKind.{LineKind}
use Rattle.line_rules.specs.declared.types.Balance.{Balance as Assignment}
use Rattle.line_rules.specs.declared.types.BalanceCheck.{BalanceCheck}
use Rattle.line_rules.specs.declared.types.BalanceCheck.TheVariants as balance
use Rattle.line_rules.specs.declared.types.Entry.{Entry}
use Rattle.line_rules.specs.declared.types.OpenFrame.{OpenFrame}
use Rattle.line_rules.specs.declared.types.Trail.{Trail}
use Rattle.line_rules.specs.declared.types.Ask.{Ask}
use Rattle.line_rules.specs.declared.types.Ask.TheVariants as ask
use Rattle.line_rules.specs.declared.types.Claim.{Claim}
use Rattle.line_rules.specs.declared.types.Claim.TheVariants as claim
use Rattle.line_rules.specs.declared.types.Certificate.{Certificate}
use Rattle.line_check.specs.Lists.{IsRefusedAt, AreStepsEnded, AreFound}
use Rattle.line_check.specs.Frames.{IsFrameRefused, AreFramesEnded}
use Rattle.line_check.specs.Verdicts.{AreDone}
use Rattle.line_check.specs.declared.types.FrameFault.{FrameFault}
use Rattle.line_check.specs.declared.types.FrameFault.TheVariants as fault
use Rattle.line_check.specs.declared.types.ListFound.{ListFound}
use Rattle.line_check.specs.declared.types.Place.{Place}
use Rattle.line_check.specs.declared.types.Place.TheVariants as place
use Rattle.line_check.specs.declared.types.Verified.{Verified}
use Rattle.line_check.specs.declared.types.Verified.TheVariants as verified

-- the balance shows the upper bound
abbrev pub IsShown : LineKind → Line → Ask → ℕ → Assignment → Type 0
IsShown kind line a upper b = (b.stations ≡ upper_stations a upper) × IsRight kind line (upper_cycle a upper) b

-- it is in as many stations as it should be, and this is the first thing wrong with it
abbrev pub IsWrong : LineKind → Line → Ask → ℕ → Assignment → BalanceCheck → Type 0
IsWrong kind line a upper b check = (b.stations ≡ upper_stations a upper)
    × IsChecked kind line (upper_cycle a upper) b check

-- the first thing that is wrong with the balance
abbrev pub BalanceFails : LineKind → Line → Ask → ℕ → Assignment → Place → Type 0
BalanceFails kind line a upper b (place.Tasks said real) = ⊥
BalanceFails kind line a upper b (place.Infeasible task t) = ⊥
BalanceFails kind line a upper b (place.Earlier task least) = ⊥
BalanceFails kind line a upper b (place.Stations s) = (s ≡ b.stations) × (b.stations ≡ upper_stations a upper → ⊥)
BalanceFails kind line a upper b (place.Station i) = IsWrong kind line a upper b (balance.StationRange i)
BalanceFails kind line a upper b (place.Side i) = IsWrong kind line a upper b (balance.SideWrong i)
BalanceFails kind line a upper b (place.Overfull s t) = IsWrong kind line a upper b (balance.Overfull s t)
BalanceFails kind line a upper b (place.Broken i j) = IsWrong kind line a upper b (balance.Broken i j)
BalanceFails kind line a upper b (place.Together i j) = IsWrong kind line a upper b (balance.Together i j)
BalanceFails kind line a upper b (place.Entry entry why) = ⊥
BalanceFails kind line a upper b place.Goal = ⊥
BalanceFails kind line a upper b (place.Frame frame why) = ⊥

-- the first frame asks a question that the bounds leave open
abbrev pub IsAllowed : Ask → ℕ → ℕ → Trail → Type 0
IsAllowed a lower upper t = (f : OpenFrame) × ((slice_get t.frames 0 ≡ Some f) × MayBegin a lower upper t.cycle f.most)

-- the first frame that is refused: the first one, since it isn't allowed, or one that isn't what it should be
abbrev pub TrailFails : LineKind → Line → Ask → ℕ → ℕ → List Entry → Option Trail → ℕ → ℕ → FrameFault → Type 0
TrailFails kind line a lower upper es None steps j why = ⊥
TrailFails kind line a lower upper es (Some t) steps j why =
    ((IsAllowed a lower upper t → ⊥) × (j ≡ 0) × (why ≡ fault.Allowed))
    ⊎ (IsAllowed a lower upper t × IsFrameRefused kind line t.cycle es t.frames steps j why)

-- some load of the trail is walked as one more than `steps`, and every check up to it held
abbrev pub TrailEnds : LineKind → Line → Ask → ℕ → ℕ → List Entry → Option Trail → ℕ → Type 0
TrailEnds kind line a lower upper es None steps = ⊥
TrailEnds kind line a lower upper es (Some t) steps = IsAllowed a lower upper t
    × AreFramesEnded kind line t.cycle es t.frames steps

-- The first check of bounds that fails, when the balance shows the upper one: an entry, the lower bound, or a frame.
abbrev pub ProofFails : LineKind → Line → Ask → ℕ → ℕ → List Entry → Option Trail → ℕ → Place → Type 0
ProofFails kind line a lower upper es trail steps (place.Tasks said real) = ⊥
ProofFails kind line a lower upper es trail steps (place.Infeasible task t) = ⊥
ProofFails kind line a lower upper es trail steps (place.Earlier task least) = ⊥
ProofFails kind line a lower upper es trail steps (place.Stations s) = ⊥
ProofFails kind line a lower upper es trail steps (place.Station i) = ⊥
ProofFails kind line a lower upper es trail steps (place.Side i) = ⊥
ProofFails kind line a lower upper es trail steps (place.Overfull s t) = ⊥
ProofFails kind line a lower upper es trail steps (place.Broken i j) = ⊥
ProofFails kind line a lower upper es trail steps (place.Together i j) = ⊥
ProofFails kind line a lower upper es trail steps (place.Entry entry why) = IsRefusedAt kind line es steps entry why
ProofFails kind line a lower upper es trail steps place.Goal =
    (units : ℕ) × (AreDone kind line es steps units × (1 < lower) × (Refutes line es a lower → ⊥))
ProofFails kind line a lower upper es trail steps (place.Frame frame why) =
    (units : ℕ) × (AreDone kind line es steps units × (1 < lower → Refutes line es a lower)
    × TrailFails kind line a lower upper es trail (steps - units) frame why)

-- some load of an entry, or, where all checks of the entries hold, of a frame is walked as one more than `steps`
abbrev pub ProofEnds : LineKind → Line → Ask → ℕ → ℕ → List Entry → Option Trail → ℕ → Type 0
ProofEnds kind line a lower upper es trail steps =
    AreStepsEnded kind line es steps
    ⊎ ((units : ℕ) × (AreDone kind line es steps units × (1 < lower → Refutes line es a lower)
    × TrailEnds kind line a lower upper es trail (steps - units)))

-- what is found of bounds
abbrev pub IsBoundsVerdict : LineKind → Line → Ask → ℕ → ℕ → Assignment → List Entry → Option Trail → ℕ → Verified
    → Type 0
IsBoundsVerdict kind line a lower upper b es trail steps (verified.Accepted l u units) =
    (l ≡ lower) × (u ≡ upper) × IsProof kind line a lower upper b es trail × UnitsWhole line es trail units
    × (units ≤ steps)
IsBoundsVerdict kind line a lower upper b es trail steps (verified.TooLong i) = ⊥
IsBoundsVerdict kind line a lower upper b es trail steps (verified.Refused place) =
    BalanceFails kind line a upper b place ⊎ (IsShown kind line a upper b
    × ProofFails kind line a lower upper es trail steps place)
IsBoundsVerdict kind line a lower upper b es trail steps (verified.StepsEnded s) =
    (s ≡ steps) × IsShown kind line a upper b × ProofEnds kind line a lower upper es trail steps

-- the check comes to the entries of a claim, where its balance shows the upper bound
abbrev pub ClaimNeeds : LineKind → Line → Ask → Claim → Type 0
ClaimNeeds kind line a (claim.TooLong task) = ⊥
ClaimNeeds kind line a (claim.Bounds l u b es trail) = IsShown kind line a u b

-- the check comes to the entries of a certificate
abbrev pub NeedsEntries : Line → Certificate → Type 0
NeedsEntries line cert = (cert.tasks ≡ tasks line) × ClaimNeeds cert.kind line cert.ask cert.claim

-- what is found of the entries of a claim, and of a certificate
abbrev pub ClaimFound : LineKind → Line → Claim → ℕ → ListFound → Type 0
ClaimFound kind line (claim.TooLong task) steps found = Unit {0}
ClaimFound kind line (claim.Bounds l u b es trail) steps found = AreFound kind line es steps found

abbrev pub AreFoundOf : Line → Certificate → ℕ → ListFound → Type 0
AreFoundOf line cert steps found = ClaimFound cert.kind line cert.claim steps found

-- the task that is said to be too long isn't, or isn't the first that is
abbrev pub TaskFails : Line → ℕ → ℕ → Place → Type 0
TaskFails line c task p =
    ((t : ℕ) × ((p ≡ place.Infeasible task t) × (t ≡ time line task) × (t ≤ c)))
    ⊎ ((least : ℕ) × ((p ≡ place.Earlier task least) × (c < time line task) × IsLeastWhere (IsTooLong line c) least
    × (least < task)))

-- what is found of the claim that a task is too long
abbrev pub IsTaskVerdict : Line → ℕ → ℕ → Verified → Type 0
IsTaskVerdict line c task (verified.Accepted l u units) = ⊥
IsTaskVerdict line c task (verified.TooLong i) = (i ≡ task) × IsLeastWhere (IsTooLong line c) task
IsTaskVerdict line c task (verified.Refused place) = TaskFails line c task place
IsTaskVerdict line c task (verified.StepsEnded s) = ⊥

abbrev pub IsTooLongVerdict : Line → Ask → ℕ → Verified → Type 0
IsTooLongVerdict line (ask.Stations cycle) task v = IsTaskVerdict line cycle task v
IsTooLongVerdict line (ask.Cycle stations) task v = ⊥

-- what is found of a claim about the line
abbrev pub IsClaimVerdict : LineKind → Line → Ask → Claim → ℕ → Verified → Type 0
IsClaimVerdict kind line a (claim.TooLong task) steps v = IsTooLongVerdict line a task v
IsClaimVerdict kind line a (claim.Bounds l u b es trail) steps v = IsBoundsVerdict kind line a l u b es trail steps v

-- What is found of a certificate: that it is of another number of tasks, or what is found of its claim. So Accepted and
-- TooLong come where the certificate is accepted, Refused at the first check that fails, and StepsEnded where more
-- loads than `steps` had to be walked.
abbrev pub IsVerdict : Line → Certificate → ℕ → Verified → Type 0
IsVerdict line cert steps v =
    ((v ≡ verified.Refused (place.Tasks cert.tasks (tasks line))) × (cert.tasks ≡ tasks line → ⊥))
    ⊎ ((cert.tasks ≡ tasks line) × IsClaimVerdict cert.kind line cert.ask cert.claim steps v)

-- Accepted and TooLong say that the certificate is accepted so.
abbrev pub IsAcceptedSo : Line → Certificate → ℕ → Verified → Type 0
IsAcceptedSo line cert steps (verified.Accepted l u units) = IsAccepted line cert l u units × (units ≤ steps)
IsAcceptedSo line cert steps (verified.TooLong i) = IsInfeasible line cert i
IsAcceptedSo line cert steps (verified.Refused place) = Unit {0}
IsAcceptedSo line cert steps (verified.StepsEnded s) = Unit {0}

-- What is accepted is true: there is a balance at the upper bound, and none below the lower one; or there is none in
-- any number of stations.
abbrev pub IsTrueOf : Line → Certificate → Verified → Type 0
IsTrueOf line cert (verified.Accepted l u units) = IsProved cert.kind line cert.ask l u
IsTrueOf line cert (verified.TooLong i) = NoBalanceIsLeft cert.ask cert.kind line
IsTrueOf line cert (verified.Refused place) = Unit {0}
IsTrueOf line cert (verified.StepsEnded s) = Unit {0}

-- What isn't accepted: no bounds and no task of a certificate that is refused, and, where the steps ended, no bounds
-- with so few units.
abbrev pub IsRejectedSo : Line → Certificate → ℕ → Verified → Type 0
IsRejectedSo line cert steps (verified.Accepted l u units) = Unit {0}
IsRejectedSo line cert steps (verified.TooLong i) = Unit {0}
IsRejectedSo line cert steps (verified.Refused place) = ((l u units : ℕ) → IsAccepted line cert l u units → ⊥)
    × ((i : ℕ) → IsInfeasible line cert i → ⊥)
IsRejectedSo line cert steps (verified.StepsEnded s) = ((l u units : ℕ) → IsAccepted line cert l u units
    → steps < units) × ((i : ℕ) → IsInfeasible line cert i → ⊥)
