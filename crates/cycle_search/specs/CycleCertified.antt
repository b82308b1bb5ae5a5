-- Certificates that searches for the least cycle make of a line with so many stations.
use Rattle.std.specs.Prelude.{◌≡◌, ℕ, ◌-◌, ◌<◌, ◌≤◌, List, [], Option, Some, None}
use Rattle.line_instance.specs.Line.{Line, tasks}
use Rattle.line_rules.specs.Accepted.{IsAccepted, IsLeastCycle}
use Rattle.line_rules.specs.Balance.{all_tasks}
use Rattle.line_rules.specs.Laws.{IsProved}
use Rattle.line_rules.specs.Ranges.{IsInRange}
use Rattle.line_rules.specs.declared.types.LineKind.{LineKind}
use Rattle.line_rules.specs.declared.types.Balance.{Balance as Assignment}
use Rattle.line_rules.specs.declared.types.Entry.{Entry}
use Rattle.line_rules.specs.declared.types.Trail.{Trail}
use Rattle.line_rules.specs.declared.types.Ask.TheVariants as ask
use Rattle.line_rules.specs.declared.types.Claim.{Claim}
use Rattle.line_rules.specs.declared.types.Claim.TheVariants as claim
use Rattle.line_rules.specs.declared.types.Certificate.{Certificate}
use Rattle.entry_lists.specs.Trim.{IsTrimmed}
use Rattle.round_run.specs.declared.plans.Plan.{Plan}
use Rattle.round_run.specs.Certified.{max_units}
use Rattle.cycle_search.specs.Outcomes.{IsRightIn, AreSome, IsSpent}
use Rattle.cycle_search.specs.Seek.{try_room}

-- a certificate about the least cycle in m stations, with a claim
abbrev pub about_cycle : LineKind → Line → ℕ → Claim → Certificate
about_cycle kind line m said = record { kind = kind; tasks = tasks line; ask = ask.Cycle m; claim = said }

-- A certificate of bounds on the least cycle: it claims them, a balance in m stations that is right at the upper one,
-- these entries and this trail. A text can say it; the check accepts it, with so many units, which are few enough for
-- the default steps; and its bounds are true.
pub record IsCertified (kind : LineKind) (line : Line) (m lower upper : ℕ) (b : Assignment) (es : List Entry)
    (trail : Option Trail) (units : ℕ) (cert : Certificate) : Type 0 where
  pub said : cert ≡ about_cycle kind line m (claim.Bounds lower upper b es trail)
  pub sayable : IsInRange cert
  pub right : IsRightIn kind line m upper b
  pub accepted : IsAccepted line cert lower upper units
  pub few : units ≤ max_units
  pub true_bounds : IsProved kind line (ask.Cycle m) lower upper

-- The entries that show a least cycle in m stations: none, where that is 1; else those that are left of a list of which
-- the first entry that refutes all tasks in m stations at the cycle below is kept, and all that it stands on.
abbrev pub AreCycleProof : Line → ℕ → ℕ → List Entry → Type 0
AreCycleProof line m c es =
    (c ≡ 1 → es ≡ []) × (1 < c → (whole : List Entry) × IsTrimmed whole (all_tasks line) m (c - 1) es)

-- The certificate of the least cycle c: both its bounds are c, it has no trail, and its entries are the proof alone.
-- They are no more than a search by the plan may have, and so are their units.
pub record IsOptimum (kind : LineKind) (line : Line) (m : ℕ) (plan : Plan) (c : ℕ) (b : Assignment)
    (cert : Certificate) : Type 0 where
  pub entries : List Entry
  pub units : ℕ
  pub certified : IsCertified kind line m c c b entries None units cert
  pub least : IsLeastCycle kind line m c
  pub proof : AreCycleProof line m c entries
  pub some : AreSome line (try_room plan) entries None

-- The certificate of a search whose units ended at a tried cycle: its bounds differ, and it has the entries and the
-- trail of the search, on which all units of that try were spent.
pub record IsStop (kind : LineKind) (line : Line) (m : ℕ) (plan : Plan) (lower upper : ℕ) (b : Assignment)
    (cert : Certificate) : Type 0 where
  pub entries : List Entry
  pub trail : Trail
  pub closing_from : ℕ
  pub units : ℕ
  pub certified : IsCertified kind line m lower upper b entries (Some trail) units cert
  pub spent : IsSpent kind line m plan lower upper b entries trail closing_from
