-- What a try comes to: whether some sequence costs less than a need.
use Rattle.std.specs.Prelude.{◌≡◌, ℕ, ◌+◌, ◌<◌, ◌≤◌, List, length, slice_get, Some}
use Rattle.sequence_rules.specs.States.{IsSequenceOf, cost, root_starts}
use Rattle.sequence_rules.specs.Entries.{HasAnswer, units_of}
use Rattle.sequence_rules.specs.Trails.{IsRightAt, IsOpenOver, units_in}
use Rattle.sequence_rules.specs.Ranges.{IsFrame}
use Rattle.sequence_values.specs.declared.types.Times.{Times}
use Rattle.sequence_values.specs.declared.types.SeqEntry.{SeqEntry}
use Rattle.sequence_values.specs.declared.types.SeqFrame.{SeqFrame}
use Rattle.sequence_values.specs.declared.types.SeqWhy.TheVariants as why
use Rattle.sequence_search.specs.About.{About, charges_of}
use Rattle.sequence_search.specs.inner.Paths.{IsBook}
use Rattle.sequence_search.specs.Work.{AddsFew, root_work}
use Rattle.sequence_search.specs.declared.outcome.Tried.{Tried}
use Rattle.sequence_search.specs.declared.outcome.Tried.TheVariants as tried

-- the entry of a frame whose models ended
abbrev pub entry_of : SeqFrame → SeqEntry
entry_of f = record { rem = f.rem; starts = f.starts; least = f.need; why = why.Branch f.cites }

-- The frames of a stopped try: right ones from the root's need down, which are open over the entries, and in their
-- ranges.
pub record AreStopped (t : Times) (interval reach : ℕ) (about : About) (need : ℕ) (es : List SeqEntry) (fs : List SeqFrame) : Type 0 where
  pub some : 1 ≤ length fs
  pub few : length fs ≤ 1001
  pub first : (f : SeqFrame) → slice_get fs 0 ≡ Some f → f.need ≡ need
  pub right : (j : ℕ) (f : SeqFrame) → slice_get fs j ≡ Some f → IsRightAt t interval reach (charges_of about) es fs j f
  pub range : (j : ℕ) (f : SeqFrame) → slice_get fs j ≡ Some f → IsFrame (length t.demands) t.stations f
  pub further : IsOpenOver es fs

-- entries are added to the old ones, and none of the root
abbrev pub KeepsRoots : Times → List SeqEntry → List SeqEntry → Type 0
KeepsRoots t old new =
    ((k : ℕ) (e : SeqEntry) → slice_get new k ≡ Some e → e.rem ≡ t.demands → slice_get old k ≡ Some e)
    × ((k : ℕ) (e : SeqEntry) → slice_get old k ≡ Some e → slice_get new k ≡ Some e)

-- what a try comes to, which had so many units
abbrev pub Tries : Times → ℕ → ℕ → About → ℕ → ℕ → List SeqEntry → List SeqEntry → Tried → Type 0
Tries t interval reach about need room old new tried.Refuted =
    IsBook t interval reach about new (need + 1) × HasAnswer (charges_of about) new t.demands (root_starts t) need × AddsFew t about room old new
Tries t interval reach about need room old new (tried.Found sequence) =
    IsBook t interval reach about new need × KeepsRoots t old new × IsSequenceOf t.demands sequence
    × (cost t interval reach (root_starts t) sequence < need) × AddsFew t about room old new
Tries t interval reach about need room old new (tried.Stopped frames) =
    IsBook t interval reach about new need × KeepsRoots t old new × AreStopped t interval reach about need new frames
    × (units_of (charges_of about) new + units_in frames ≡ units_of (charges_of about) old + room) × (room ≤ root_work t)
