-- What deciding one question over a book does to the book, and what it answers.
use Rattle.std.specs.Prelude.{◌≡◌, ℕ, ◌+◌, ◌<◌, ◌≤◌, ◌⊎◌, Bool, List, [], ◌∷◌, length, None}
use Rattle.line_instance.specs.Line.{Line}
use Rattle.line_rules.specs.Balance.{all_tasks}
use Rattle.line_rules.specs.Entries.{HasAnswer, IsUnanswered}
use Rattle.line_rules.specs.Pairs.{IsRefutedByPairs}
use Rattle.line_rules.specs.Trails.{IsOpenOver}
use Rattle.line_rules.specs.Units.{UnitsOf, UnitsIn}
use Rattle.line_rules.specs.declared.types.LineKind.{LineKind}
use Rattle.line_rules.specs.declared.types.Entry.{Entry}
use Rattle.line_rules.specs.declared.types.Why.TheVariants as why
use Rattle.line_rules.specs.declared.types.OpenFrame.{OpenFrame}
use Rattle.lemma_core.specs.Books.{BookView}
use Rattle.station_search.specs.Decide.{Stops}
use Rattle.station_search.specs.declared.answers.Units.{Units}
use Rattle.round_helpers.specs.Growth.{GoesOn, Helps}
use Rattle.round_helpers.specs.Helping.{HasHelped}
use Rattle.round_helpers.specs.declared.helping.Helped.{Helped}
use Rattle.round_helpers.specs.declared.helping.Helped.TheVariants.{Unneeded, Whole}
use Rattle.round_run.specs.declared.closing.Verdict.{Verdict}
use Rattle.round_run.specs.declared.closing.Verdict.TheVariants as verdict
use Rattle.round_run.specs.declared.rounds.Round.{Round}

-- the entry by Bound that all tasks have no balance in so many stations
abbrev pub by_bound : Line → ℕ → ℕ → Entry
by_bound line most c = record { set = all_tasks line; most = most; cycle = c; why = why.Bound }

-- The entry by Bound of all tasks in so many stations was added, or nothing was; the best balance stays.
pub record AddsBound (most : ℕ) (old new : BookView) : Type 0 where
  pub gained : List Entry
  pub goes_on : GoesOn old new gained
  pub entry : (gained ≡ []) ⊎ (gained ≡ by_bound old.about.line most old.about.cycle ∷ [])
  pub best : new.state.best ≡ old.state.best

-- pairs refute that all tasks have a balance in so many stations, with some tasks that count twice (own)
abbrev pub ArePaired : LineKind → Line → ℕ → ℕ → Type 0
ArePaired kind line c most = (two : List Bool) × IsRefutedByPairs kind line c (all_tasks line) most two

-- What helpers did for the question; none of them was called where pairs refute it (own).
abbrev pub IsHelp : BookView → BookView → ℕ → List Units → Helped → Type 0
IsHelp old mid most team helped =
    HasHelped old mid most team helped ⊎ ((helped ≡ Unneeded) × ArePaired old.about.kind old.about.line old.about.cycle most)

-- the open frames of an answer
abbrev pub frames_of : Verdict → List OpenFrame
frames_of verdict.Refuted = []
frames_of verdict.Found = []
frames_of (verdict.Spent frames) = frames
frames_of (verdict.NoMemory frames) = frames

-- the question was refuted, or the units ended: then each unit used is listed
abbrev pub IsListed : Verdict → Type 0
IsListed verdict.Refuted = Unit {0}
IsListed verdict.Found = ⊥
IsListed (verdict.Spent frames) = Unit {0}
IsListed (verdict.NoMemory frames) = ⊥

-- What a round adds to a book for the units that it used: at most one entry more than units, and no more units than
-- were used are listed by these entries and the open frames together; exactly so many where the question was refuted or
-- the units ended.
pub record Gains (old new : BookView) (answer : Verdict) (used : ℕ) : Type 0 where
  pub gained : List Entry
  pub goes_on : GoesOn old new gained
  pub few : length gained ≤ used + 1
  pub published : ℕ
  pub listed : ℕ
  pub entry_units : UnitsOf old.about.line gained published
  pub frame_units : UnitsIn old.about.line old.about.cycle (frames_of answer) listed
  pub within : published + listed ≤ used
  pub exact : IsListed answer → published + listed ≡ used

-- What an answer says of the question whether all tasks have a balance in `most` stations, of the book after the round
-- and the units left to the closing pass: an entry of the book refutes it; the best balance has at most so many
-- stations; the units ended, and the trail of the search is valid from the question and open over the book; or memory
-- ended.
abbrev pub IsAnswer : BookView → ℕ → ℕ → Verdict → Type 0
IsAnswer book most left verdict.Refuted = HasAnswer book.state.entries (all_tasks book.about.line) most book.about.cycle
IsAnswer book most left verdict.Found = book.state.best.stations ≤ most
IsAnswer book most left (verdict.Spent frames) =
    Stops None book.about.kind book.about.line book.about.cycle book.state.entries
    (all_tasks book.about.line) most left frames
    × IsOpenOver book.about.line book.about.cycle book.state.entries frames
IsAnswer book most left (verdict.NoMemory frames) = Unit {0}

-- where the units ended, no entry of the book answered the question before (own)
abbrev pub WasOpen : BookView → ℕ → Verdict → Type 0
WasOpen book most verdict.Refuted = Unit {0}
WasOpen book most verdict.Found = Unit {0}
WasOpen book most (verdict.Spent frames) =
    IsUnanswered book.state.entries (all_tasks book.about.line) most book.about.cycle
WasOpen book most (verdict.NoMemory frames) = Unit {0}

-- where no balance of the question was found, a best balance with more stations than it asks for still has more
abbrev pub StaysAbove : ℕ → BookView → BookView → Verdict → Type 0
StaysAbove most old new verdict.Refuted = most < old.state.best.stations → most < new.state.best.stations
StaysAbove most old new verdict.Found = Unit {0}
StaysAbove most old new (verdict.Spent frames) = most < old.state.best.stations → most < new.state.best.stations
StaysAbove most old new (verdict.NoMemory frames) = most < old.state.best.stations → most < new.state.best.stations

-- A round: the helpers did so much for the question, for so many units of theirs, and the book that came back is `mid`;
-- then the closing pass began behind its entries, gained what it did for so many units, and gave the answer. Where the
-- helpers answered the question, it used no unit; and where its units ended, no entry had answered the question.
pub record IsRound (old : BookView) (round : Round) (most : ℕ) (team : List Units) (helpers closing : ℕ)
    : Type 0 where
  pub mid : BookView
  pub helps : Helps old mid helpers
  pub helped : IsHelp old mid most team round.helped
  pub still : round.helped ≡ Unneeded → mid ≡ old
  pub gains : Gains mid round.book round.verdict closing
  pub from : round.closing_from ≡ length mid.state.entries
  pub whole : round.helped ≡ Whole → closing ≡ 0
  pub was_open : WasOpen mid most round.verdict
