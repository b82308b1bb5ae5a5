-- The open frames of a try, from the root down: each was left by the step of the one above it, and the deepest one is
-- being worked on.
use Rattle.std.specs.Prelude.{◌≡◌, ℕ, ◌+◌, ◌<◌, ◌≤◌, true, List, ◌++◌, length, map, take, slice_get, Some, unwrap_or}
use Rattle.std.specs.Prelude.{sum}
use Rattle.sequence_rules.specs.States.{state_bound, IsSequenceOf, cost, root_starts}
use Rattle.sequence_rules.specs.Entries.{Covers, IsDerived, IsFreshFrom, is_left, units_of}
use Rattle.sequence_rules.specs.Trails.{IsAskedAt, EndsWell, up_to}
use Rattle.sequence_rules.specs.Ranges.{IsState, IsEntry}
use Rattle.sequence_values.specs.declared.types.Times.{Times}
use Rattle.sequence_values.specs.declared.types.SeqEntry.{SeqEntry}
use Rattle.sequence_values.specs.declared.types.SeqFrame.{SeqFrame}
use Rattle.sequence_search.specs.About.{About, charges_of, IsFront}
use Rattle.sequence_search.specs.Steps.{HasPlainAnswer}

-- the models of the last steps of frames
abbrev pub lasts : List SeqFrame → List ℕ
lasts fs = map (λ f. unwrap_or f.last 0) fs

-- A state and a need that stand below these frames, in a try with a need at the root: a unit is left, a unit is
-- launched by each frame, and a sequence from here on goes on to one from the root, which costs as much below the
-- root's need as this one costs below its own.
pub record IsOn (t : Times) (interval reach goal : ℕ) (before : List SeqFrame) (rem starts : List ℕ)
    (need : ℕ) : Type 0 where
  pub asked : (f : SeqFrame) → f.rem ≡ rem → f.starts ≡ starts → f.need ≡ need
      → IsAskedAt t interval reach before (length before) f
  pub state : IsState (length t.demands) t.stations rem starts
  pub low : need ≤ goal
  pub first : length before ≡ 0 → need ≡ goal
  pub bound : 0 < length before → state_bound t interval reach rem starts < need
  pub some : 0 < sum rem
  pub depth : sum rem + length before ≡ sum t.demands
  pub leads : (units : List ℕ) → IsSequenceOf rem units
      → IsSequenceOf t.demands (lasts before ++ units) × (cost t interval reach (root_starts t)
      (lasts before ++ units) + need ≡ goal + cost t interval reach starts units)

-- a frame below these, which no entry answers, and whose steps below n are covered
pub record IsWorked (t : Times) (interval reach : ℕ) (about : About) (goal : ℕ) (es : List SeqEntry) (before : List SeqFrame) (f : SeqFrame)
    (n : ℕ) : Type 0 where
  pub on : IsOn t interval reach goal before f.rem f.starts f.need
  pub unanswered : HasPlainAnswer es f.rem f.starts f.need → ⊥
  pub covers : Covers t interval reach (charges_of about) es f.rem f.starts f.need n f.cites

-- a frame that a further one stands below
pub record IsPassed (t : Times) (interval reach : ℕ) (about : About) (goal : ℕ) (es : List SeqEntry) (before : List SeqFrame)
    (f : SeqFrame) : Type 0 where
  pub model : ℕ
  pub last : f.last ≡ Some model
  pub left : is_left f.rem model ≡ true
  pub worked : IsWorked t interval reach about goal es before f model

-- each frame is one below those before it
abbrev pub IsAlong : Times → ℕ → ℕ → About → ℕ → List SeqEntry → List SeqFrame → Type 0
IsAlong t interval reach about goal es fs = (j : ℕ) (f : SeqFrame) → slice_get fs j ≡ Some f
    → IsPassed t interval reach about goal es (take j fs) f

-- the deepest frame
pub record IsTop (t : Times) (interval reach : ℕ) (about : About) (goal : ℕ) (es : List SeqEntry) (before : List SeqFrame)
    (f : SeqFrame) : Type 0 where
  pub last : EndsWell true f.rem f.last
  pub worked : IsWorked t interval reach about goal es before f (up_to f.last)

-- Entries that a search has: derived, those that are kept first and fresh behind them; none by Bound or Branch answers
-- the root and a value; within their ranges; and at most one more behind the kept ones than these have units.
pub record IsBook (t : Times) (interval reach : ℕ) (about : About) (es : List SeqEntry) (below : ℕ) : Type 0 where
  pub derived : IsDerived t interval reach (charges_of about) es
  pub front : IsFront about.kept es
  pub fresh : IsFreshFrom (length about.kept) es
  pub root : HasPlainAnswer es t.demands (root_starts t) below → ⊥
  pub range : (k : ℕ) (e : SeqEntry) → slice_get es k ≡ Some e
      → IsEntry (length t.demands) t.stations about.charges e
  pub few : length es + units_of (charges_of about) about.kept
      ≤ length about.kept + units_of (charges_of about) es + 1
