-- What `try` comes to: the line of a seed, what was proved of it within N units and no helpers, and a certificate that
-- was written, read again and verified.
use Rattle.std.specs.Prelude.{◌≡◌, ◌⊎◌, ◌≤◌, ℕ, true, List}
use Rattle.line_instance.specs.Line.{Line, tasks}
use Rattle.line_rules.specs.Accepted.{IsAccepted}
use Rattle.line_rules.specs.Bounds.{IsTooLong}
use Rattle.line_rules.specs.Checked.{IsLeastWhere}
use Rattle.line_rules.specs.Ranges.{IsInRange}
use Rattle.line_rules.specs.Ranked.{IsRankedBalance}
use Rattle.line_rules.specs.declared.types.LineKind.{LineKind}
use Rattle.line_rules.specs.declared.types.Balance.{Balance as Assignment}
use Rattle.line_rules.specs.declared.types.Certificate.{Certificate}
use Rattle.line_check.specs.Certificates.{IsVerdict}
use Rattle.line_check.specs.declared.types.Verified.TheVariants.{Accepted}
use Rattle.cert_text.specs.Cert.{cert_text}
use Rattle.cert_text.specs.WholeText.{IsCertRead}
use Rattle.cert_text.specs.declared.whole_text.CertRead.TheVariants.{Good}
use Rattle.round_run.specs.Certified.{IsOptimum, IsStop, IsNoBalance, max_units}
use Rattle.round_run.specs.declared.plans.Plan.{Plan}
use Rattle.command_outcome.specs.Codes.{code_of}
use Rattle.command_outcome.specs.declared.report.Report.{Report}
use Rattle.command_outcome.specs.declared.report.Kept.{Kept}
use Rattle.command_outcome.specs.declared.report.Kept.TheVariants.{Line as Certified, Checked}
use Rattle.command_outcome.specs.declared.status.Status.{Status}
use Rattle.command_outcome.specs.declared.status.Status.TheVariants as ends
use Rattle.line_generator.specs.Drawn.{IsGenerated}
use Rattle.command_try.specs.TryText.{bounds_line, none_line}

-- so many units, no helpers, and pairs are asked
abbrev pub alone : ℕ → Plan
alone N = record { helpers = 0; units = N; pairs = true; seek = 0 }

-- The certificate is what its text reads as, and the check with its default steps accepts it with these bounds. It is
-- kept, beside the units that the check counts in it.
pub record IsReadAndVerified (line : Line) (certificate : Certificate) (lower upper : ℕ) (kept : Kept) : Type 0 where
  pub units : ℕ
  pub reads : IsCertRead (cert_text certificate) (Good certificate)
  pub verified : IsVerdict line certificate max_units (Accepted lower upper units)
  pub keeps : kept ≡ Checked certificate units

-- The optimum was found with N units: the balance has the least number of stations, and the certificate proves it.
pub record IsOptimumTried (kind : LineKind) (line : Line) (seed n c N : ℕ) (status : Status) (text : List ℕ)
    (kept : Kept) : Type 0 where
  pub certificate : Certificate
  pub balance : Assignment
  pub proved : IsOptimum kind line c (alone N) balance certificate
  pub done : status ≡ ends.Done
  pub accepted : IsReadAndVerified line certificate balance.stations balance.stations kept
  pub printed : text ≡ bounds_line seed n 0 balance.stations balance.stations

-- The N units were used: the certificate has the bounds and the best balance, and lists the units; the balance has no
-- more stations than the ranked one.
pub record IsStopTried (kind : LineKind) (line : Line) (seed n c N : ℕ) (status : Status) (text : List ℕ)
    (kept : Kept) : Type 0 where
  pub certificate : Certificate
  pub lower : ℕ
  pub balance : Assignment
  pub proved : IsStop kind line c (alone N) lower balance certificate
  pub ranked : (b : Assignment) → IsRankedBalance kind line c b → balance.stations ≤ b.stations
  pub stopped : status ≡ ends.Stopped
  pub accepted : IsReadAndVerified line certificate lower balance.stations kept
  pub printed : text ≡ bounds_line seed n 1 lower balance.stations

-- A task is longer than the cycle: the certificate names the least such task.
pub record IsNoneTried (kind : LineKind) (line : Line) (seed n c : ℕ) (status : Status) (text : List ℕ)
    (kept : Kept) : Type 0 where
  pub certificate : Certificate
  pub keeps : kept ≡ Certified certificate
  pub task : ℕ
  pub least : IsLeastWhere (IsTooLong line c) task
  pub proved : IsNoBalance kind line c task certificate
  pub done : status ≡ ends.Done
  pub printed : text ≡ none_line seed n

-- what is told of a line, with a certificate, which is kept
abbrev pub IsShown : LineKind → Line → ℕ → ℕ → ℕ → ℕ → Status → List ℕ → Kept → Type 0
IsShown kind line seed n c N status text kept =
    IsOptimumTried kind line seed n c N status text kept ⊎ IsStopTried kind line seed n c N status text kept
    ⊎ IsNoneTried kind line seed n c status text kept

-- what is told of the line of a seed
pub record IsTried (seed n c : ℕ) (kind : LineKind) (N : ℕ) (status : Status) (text : List ℕ)
    (kept : Kept) : Type 0 where
  pub line : Line
  pub drawn : IsGenerated seed n line
  pub shown : IsShown kind line seed n c N status text kept

-- a certificate of bounds that the check accepts with its default steps
pub record IsAcceptable (line : Line) (certificate : Certificate) : Type 0 where
  pub sayable : IsInRange certificate
  pub lower : ℕ
  pub upper : ℕ
  pub units : ℕ
  pub accepted : IsAccepted line certificate lower upper units
  pub few : units ≤ max_units

-- the report of a certificate of bounds, once its text was read again and verified
pub record IsTold (line : Line) (seed : ℕ) (status : Status) (certificate : Certificate) (r : Report) : Type 0 where
  pub lower : ℕ
  pub upper : ℕ
  pub units : ℕ
  pub accepted : IsAccepted line certificate lower upper units
  pub found : IsReadAndVerified line certificate lower upper r.kept
  pub ends : r.status ≡ status
  pub printed : r.text.items ≡ bounds_line seed (tasks line) (code_of status) lower upper
