-- What `decide_beside` answers, and how few entries it adds.
use Rattle.std.specs.Prelude.{◌≡◌, ℕ, ◌+◌, ◌<◌, ◌≤◌, Bool, List, [], length}
use Rattle.line_instance.specs.Line.{Line}
use Rattle.line_rules.specs.Bounds.{bound}
use Rattle.line_rules.specs.Seats.{AreSeated}
use Rattle.line_rules.specs.declared.types.LineKind.{LineKind}
use Rattle.line_rules.specs.declared.types.Entry.{Entry}
use Rattle.lemma_core.specs.Desks.{DeskView}
use Rattle.station_search.specs.Decide.{IsAnswered}
use Rattle.station_search.specs.Costs.{AddsFew}
use Rattle.station_search.specs.declared.answers.Reason.TheVariants as reason
use Rattle.station_search.specs.declared.beside.DecidedBeside.{DecidedBeside}
use Rattle.station_search.specs.declared.beside.DecidedBeside.TheVariants as decided

-- What an answer says of the question whether R has a balance in `most` stations at cycle X, with the entries seen
-- after the call and the units left: the bound refutes it; the bound doesn't, and an entry does; there is a balance, by
-- loads; no unit is left. That the end was called, or that memory ended, says nothing.
abbrev pub DecidesBeside : LineKind → Line → ℕ → List Entry → List Bool → ℕ → ℕ → DecidedBeside → Type 0
DecidesBeside kind line X es R most left (decided.Refuted reason.ByBound) = most < bound kind line X R
DecidesBeside kind line X es R most left (decided.Refuted (reason.ByEntry id)) =
    (bound kind line X R ≤ most) × IsAnswered es id R most X
DecidesBeside kind line X es R most left (decided.Found loads) =
    (bound kind line X R ≤ most) × (length loads ≤ most) × AreSeated kind line X R loads
DecidesBeside kind line X es R most left decided.Spent = (bound kind line X R ≤ most) × (left ≡ 0)
DecidesBeside kind line X es R most left decided.Ended = Unit {0}
DecidesBeside kind line X es R most left decided.NoMemory = Unit {0}

-- how many entries an answer may have added: as many as units were used, and one more where the question was refuted
abbrev pub most_added : ℕ → DecidedBeside → ℕ
most_added used (decided.Refuted reason) = used + 1
most_added used (decided.Found loads) = used
most_added used decided.Spent = used
most_added used decided.Ended = used
most_added used decided.NoMemory = used

-- whatever the answer, the entries added are at most as many as the units used, with one more where the question was
-- refuted; and their units are at most the units used
abbrev pub FewBeside : Line → ℕ → DeskView → DeskView → ℕ → DecidedBeside → Type 0
FewBeside line X old new used answer = AddsFew line X old new [] used (most_added used answer)
