-- What a certificate's file says of a straight balance of a line, and why it says none that is right.
use Rattle.std.specs.Prelude.{◌≡◌, ◌≢◌, ◌⊎◌, ℕ, ◌+◌, List, [], ◌++◌, codes, decimal}
use Rattle.line_instance.specs.Line.{Line, tasks}
use Rattle.line_rules.specs.Balance.{IsRight}
use Rattle.line_rules.specs.Checked.{IsChecked}
use Rattle.line_rules.specs.declared.types.LineKind.TheVariants.{Straight, U}
use Rattle.line_rules.specs.declared.types.Balance.{Balance as Assignment}
use Rattle.line_rules.specs.declared.types.BalanceCheck.{BalanceCheck}
use Rattle.line_rules.specs.declared.types.BalanceCheck.TheVariants.{Right, Unplaced, StationRange, SideWrong, Overfull}
use Rattle.line_rules.specs.declared.types.BalanceCheck.TheVariants.{Broken, Together}
use Rattle.line_rules.specs.declared.types.Claim.{Claim}
use Rattle.line_rules.specs.declared.types.Claim.TheVariants.{TooLong, Bounds}
use Rattle.line_rules.specs.declared.types.Certificate.{Certificate}
use Rattle.command_outcome.specs.Outcome.{Files, Outside, Outcome, told}
use Rattle.command_outcome.specs.declared.status.Status.TheVariants as ends
use Rattle.input_files.specs.Certificate.{IsCertificateOf, IsNoCertificate}

-- the balance is the one that is claimed
abbrev pub IsClaimed : Claim → Assignment → Type 0
IsClaimed (TooLong task) b = ⊥
IsClaimed (Bounds lower upper balance es trail) b = b ≡ balance

-- no balance is claimed
abbrev pub IsBare : Claim → Type 0
IsBare (TooLong task) = Unit {0}
IsBare (Bounds lower upper balance es trail) = ⊥

-- what the test of a balance finds, in words; tasks are counted from 1, and one without a place has no station
abbrev pub check_text : BalanceCheck → List ℕ
check_text Right = []
check_text (Unplaced n) = codes "balance station " ++ decimal (n + 1)
check_text (StationRange i) = codes "balance station " ++ decimal (i + 1)
check_text (SideWrong i) = codes "balance side " ++ decimal (i + 1)
check_text (Overfull s time) = codes "balance overfull " ++ decimal s ++ codes " " ++ decimal time
check_text (Broken i j) = codes "balance broken " ++ decimal (i + 1) ++ codes " " ++ decimal (j + 1)
check_text (Together i j) = codes "balance together " ++ decimal (i + 1) ++ codes " " ++ decimal (j + 1)

-- the line of a refusal
abbrev pub refused_line : List ℕ → List ℕ
refused_line what = codes "refused: " ++ what ++ codes "\n"

-- the numbers of tasks that a certificate and a line have
abbrev pub tasks_text : ℕ → ℕ → List ℕ
tasks_text said real = codes "tasks " ++ decimal said ++ codes " " ++ decimal real

-- The certificate is of a straight line with as many tasks, and claims this balance, which is right for the line at the
-- cycle time.
pub record IsTested (line : Line) (c : ℕ) (cert : Certificate) (b : Assignment) : Type 0 where
  pub many : cert.tasks ≡ tasks line
  pub straight : cert.kind ≡ Straight
  pub claimed : IsClaimed cert.claim b
  pub right : IsRight Straight line c b

-- Why it isn't so, in the order of the tests. It is of another number of tasks;
pub record IsOfOthers (line : Line) (cert : Certificate) (out : Outcome) : Type 0 where
  pub other : cert.tasks ≢ tasks line
  pub shown : out ≡ told ends.Refused (refused_line (tasks_text cert.tasks (tasks line)))

-- or it is of a U-line;
pub record IsOfU (line : Line) (cert : Certificate) (out : Outcome) : Type 0 where
  pub many : cert.tasks ≡ tasks line
  pub turned : cert.kind ≡ U
  pub shown : out ≡ told ends.Refused (refused_line (codes "not straight"))

-- or it claims no balance;
pub record HasNoBalance (line : Line) (cert : Certificate) (out : Outcome) : Type 0 where
  pub many : cert.tasks ≡ tasks line
  pub straight : cert.kind ≡ Straight
  pub bare : IsBare cert.claim
  pub shown : out ≡ told ends.Refused (refused_line (codes "no balance"))

-- or the balance is wrong, and the outcome tells the first thing that is.
pub record IsWrong (line : Line) (c : ℕ) (b : Assignment) (out : Outcome) : Type 0 where
  pub found : BalanceCheck
  pub checked : IsChecked Straight line c b found
  pub wrong : found ≢ Right
  pub shown : out ≡ told ends.Refused (refused_line (check_text found))

pub record HasWrongBalance (line : Line) (c : ℕ) (cert : Certificate) (out : Outcome) : Type 0 where
  pub many : cert.tasks ≡ tasks line
  pub straight : cert.kind ≡ Straight
  pub balance : Assignment
  pub claimed : IsClaimed cert.claim balance
  pub is : IsWrong line c balance out

abbrev pub IsRefused : Line → ℕ → Certificate → Outcome → Type 0
IsRefused line c cert out = IsOfOthers line cert out ⊎ IsOfU line cert out ⊎ HasNoBalance line cert out
    ⊎ HasWrongBalance line c cert out

-- the file says a certificate whose balance is right
pub record IsBalanceFile (files : Files) (name : List ℕ) (line : Line) (c : ℕ) (b : Assignment) : Type 0 where
  pub cert : Certificate
  pub said : IsCertificateOf files name cert
  pub tested : IsTested line c cert b

-- the file says a certificate that is refused
pub record IsRefusedFile (files : Files) (name : List ℕ) (line : Line) (c : ℕ) (out : Outcome) : Type 0 where
  pub cert : Certificate
  pub said : IsCertificateOf files name cert
  pub refused : IsRefused line c cert out

-- the file says no right balance of the line: it says no certificate, or one that is refused
abbrev pub IsNoBalance : Outside → List ℕ → Line → ℕ → Outcome → Type 0
IsNoBalance o name line c out = IsNoCertificate o name out ⊎ IsRefusedFile o.files name line c out
