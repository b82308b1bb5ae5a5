-- What is answered to words that have a fault.
use Rattle.std.specs.Prelude.{◌≡◌, ℕ, List}
use Rattle.line_words.specs.Words.{Text}
use Rattle.line_words.specs.Jobs.{IsFault}
use Rattle.line_words.specs.Texts.{usage_text}
use Rattle.line_words.specs.declared.fault.UsageKind.{UsageKind}
use Rattle.command_outcome.specs.Outcome.{Outcome, told}
use Rattle.command_outcome.specs.declared.status.Status.TheVariants as ends

-- the words have a fault, and this is the first, at this place
pub record HasFault (words : List Text) : Type 0 where
  pub index : ℕ
  pub kind : UsageKind
  pub fault : IsFault words index kind

-- the first fault of the words is told
abbrev pub IsUsageOutcome : List Text → Outcome → Type 0
IsUsageOutcome words out = (fault : HasFault words) × (out ≡ told ends.Usage (usage_text fault.index fault.kind))
