-- What helpers are given for a question, and what they did for it. Own.
use Rattle.std.specs.Prelude.{◌≡◌, ℕ, suc, ◌+◌, ◌^◌, ◌<◌, ◌≤◌, ◌⊎◌, List, [], ◌∷◌, length, slice_get, Some}
use Rattle.line_rules.specs.Balance.{all_tasks}
use Rattle.line_rules.specs.Bounds.{bound}
use Rattle.line_rules.specs.Entries.{HasAnswer}
use Rattle.lemma_core.specs.Books.{BookView}
use Rattle.station_search.specs.declared.answers.Units.{Units}
use Rattle.round_helpers.specs.declared.helping.Helped.{Helped}
use Rattle.round_helpers.specs.declared.helping.Helped.TheVariants as helped

-- at most 64 helpers, and what each has used and has left is a number of 64 bits
pub record IsTeam (team : List Units) : Type 0 where
  pub few : length team ≤ 64
  pub units : (k : ℕ) (u : Units) → slice_get team k ≡ Some u → u.used + u.left < 2 ^ 64

-- the units that all have used
abbrev pub all_used : List Units → ℕ
all_used [] = 0
all_used (u ∷ us) = u.used + all_used us

-- each helper has used some of its units, and no more
abbrev pub HaveSpent : List Units → List Units → Type 0
HaveSpent [] [] = Unit {0}
HaveSpent [] (v ∷ vs) = ⊥
HaveSpent (u ∷ us) [] = ⊥
HaveSpent (u ∷ us) (v ∷ vs) = (u.used ≤ v.used) × (v.used + v.left ≡ u.used + u.left) × HaveSpent us vs

-- no helper is needed: there is none, or the bound of all tasks or an entry of the book refutes the question
abbrev pub IsUnneeded : BookView → ℕ → List Units → Type 0
IsUnneeded book most team =
    (length team ≡ 0)
    ⊎ (most < bound book.about.kind book.about.line book.about.cycle (all_tasks book.about.line))
    ⊎ HasAnswer book.state.entries (all_tasks book.about.line) most book.about.cycle

-- the book answers the question: an entry refutes it, or the best balance has at most so many stations
abbrev pub IsAnsweredBy : BookView → ℕ → Type 0
IsAnsweredBy book most =
    HasAnswer book.state.entries (all_tasks book.about.line) most book.about.cycle ⊎ (book.state.best.stations ≤ most)

-- What helpers did for the question whether all tasks have a balance in `most` stations, with the book before and after
-- and the units after: no helper was needed; the question is answered; a helper, counted from 1, has no unit left; or
-- memory ended.
abbrev pub HasHelped : BookView → BookView → ℕ → List Units → Helped → Type 0
HasHelped old new most team helped.Unneeded = IsUnneeded old most team
HasHelped old new most team helped.Whole = IsAnsweredBy new most
HasHelped old new most team (helped.Cut h) =
    (k : ℕ) × (u : Units) × (h ≡ suc k) × (slice_get team k ≡ Some u) × (u.left ≡ 0)
HasHelped old new most team helped.NoMemory = Unit {0}
