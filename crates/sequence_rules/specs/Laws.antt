-- What is true of all times, intervals, lengths and charges: each is the contract of a function of `laws`.
use Rattle.std.specs.Prelude.{◌≡◌, ℕ, ◌+◌, ◌≤◌, List, ◌∷◌, slice_get, Some}
use Rattle.std.specs.List.{AllZip}
use Rattle.sequence_rules.specs.States.{step_cost, next_starts, state_bound, IsSequenceOf, cost, Holds, root_starts}
use Rattle.sequence_rules.specs.Charges.{charged_cost, unit_cost}
use Rattle.sequence_rules.specs.Entries.{Says, Answers, Follows, IsDerived}
use Rattle.sequence_rules.specs.Accepted.{IsAccepted}
use Rattle.sequence_values.specs.declared.types.Times.{Times}
use Rattle.sequence_values.specs.declared.types.SeqEntry.{SeqEntry}
use Rattle.sequence_values.specs.declared.types.SeqCert.{SeqCert}

-- a sequence costs what its first step costs and what the rest costs from the next starts on
abbrev pub EveryCostIsOfSteps : Type 0
EveryCostIsOfSteps =
    (t : Times) (interval reach : ℕ) (starts : List ℕ) (model : ℕ) (units : List ℕ)
    → cost t interval reach starts (model ∷ units) ≡ step_cost t reach model starts + cost t interval reach
    (next_starts t interval reach model starts) units

-- every sequence from a state costs at least the bound of the state
abbrev pub EveryBoundHolds : Type 0
EveryBoundHolds = (t : Times) (interval reach : ℕ) (rem starts : List ℕ)
    → Holds t interval reach rem starts (state_bound t interval reach rem starts)

-- from later starts no sequence costs less
abbrev pub LaterStartsCostNoLess : Type 0
LaterStartsCostNoLess =
    (t : Times) (interval reach : ℕ) (starts later units : List ℕ) → AllZip (λ a b. a ≤ b) starts later
    → cost t interval reach starts units ≤ cost t interval reach later units

-- a row costs what its first unit costs and what the rest costs from where that unit leads (own)
abbrev pub EveryChargedCostIsOfUnits : Type 0
EveryChargedCostIsOfUnits =
    (t : Times) (interval reach : ℕ) (charges starts : List ℕ) (model : ℕ) (row : List ℕ)
    → charged_cost t interval reach charges starts (model ∷ row) ≡ unit_cost t reach charges starts model
    + charged_cost t interval reach charges (next_starts t interval reach model starts) row

-- from later starts no row has a lower charged cost (own)
abbrev pub LaterStartsAreChargedNoLess : Type 0
LaterStartsAreChargedNoLess =
    (t : Times) (interval reach : ℕ) (charges starts later row : List ℕ) → AllZip (λ a b. a ≤ b) starts later
    → charged_cost t interval reach charges starts row ≤ charged_cost t interval reach charges later row

-- what follows from entries that say what is so, says what is so
abbrev pub FollowingKeepsTruth : Type 0
FollowingKeepsTruth =
    (t : Times) (interval reach : ℕ) (charges : List ℕ) (earlier : List SeqEntry) (e : SeqEntry)
    → ((k : ℕ) (f : SeqEntry) → slice_get earlier k ≡ Some f → Says t interval reach charges f)
    → Follows t interval reach charges earlier e → Says t interval reach charges e

-- where an entry says what is so, and answers a state and a need, every sequence from the state costs at least the need
abbrev pub AnswersAreTrue : Type 0
AnswersAreTrue =
    (t : Times) (interval reach : ℕ) (charges : List ℕ) (e : SeqEntry) (rem starts : List ℕ) (need : ℕ)
    → Says t interval reach charges e → Answers charges e rem starts need → Holds t interval reach rem starts need

-- Soundness: in a derived list every entry says what is so
abbrev pub EveryEntryHolds : Type 0
EveryEntryHolds =
    (t : Times) (interval reach : ℕ) (charges : List ℕ) (es : List SeqEntry)
    → IsDerived t interval reach charges es
    → (k : ℕ) (e : SeqEntry) → slice_get es k ≡ Some e → Says t interval reach charges e

-- What an accepted certificate proves: its sequence is one of the demands that costs the upper bound, and none of them
-- costs less than the lower bound.
pub record IsProved (t : Times) (interval reach : ℕ) (cert : SeqCert) : Type 0 where
  pub sequence : IsSequenceOf t.demands cert.sequence
  pub total : cost t interval reach (root_starts t) cert.sequence ≡ cert.upper
  pub least : Holds t interval reach t.demands (root_starts t) cert.lower

abbrev pub EveryAcceptedBoundIsTrue : Type 0
EveryAcceptedBoundIsTrue = (t : Times) (interval reach : ℕ) (cert : SeqCert) → IsAccepted t interval reach cert
    → IsProved t interval reach cert
