-- How few the units of a search are: those of one try, and those of all tries.
use Rattle.std.specs.Prelude.{ℕ, zero, suc, ◌+◌, ◌-◌, ◌*◌, ◌^◌, ◌≤◌, List, length, sum, sum_by}
use Rattle.sequence_rules.specs.Entries.{units_of}
use Rattle.sequence_rules.specs.Trails.{up_to}
use Rattle.sequence_values.specs.declared.types.Times.{Times}
use Rattle.sequence_values.specs.declared.types.SeqEntry.{SeqEntry}
use Rattle.sequence_values.specs.declared.types.SeqFrame.{SeqFrame}
use Rattle.sequence_search.specs.About.{About, charges_of}

-- the most units that a state takes with so many models and so many units left: at each model a step, and what the next
-- state takes
abbrev pub work_of : ℕ → ℕ → ℕ
work_of models zero = 0
work_of models (suc left) = models * (1 + work_of models left)

-- what the root takes at most, and so one try
abbrev pub root_work : Times → ℕ
root_work t = work_of (length t.demands) (sum t.demands)

-- what a frame still takes at most: at each model past its last one a step, and what the next state takes
abbrev pub frame_work : ℕ → SeqFrame → ℕ
frame_work models f = (models - up_to f.last) * (1 + work_of models (sum f.rem - 1))

-- what the frames still take at most
abbrev pub frames_work : ℕ → List SeqFrame → ℕ
frames_work models fs = sum_by (frame_work models) fs

-- what a try adds to the units of the entries: none is lost, and there are at most what it was given, and at most what the root takes
pub record AddsFew (t : Times) (about : About) (room : ℕ) (old new : List SeqEntry) : Type 0 where
  pub more : units_of (charges_of about) old ≤ units_of (charges_of about) new
  pub few : units_of (charges_of about) new ≤ units_of (charges_of about) old + room
  pub work : units_of (charges_of about) new ≤ units_of (charges_of about) old + root_work t

-- So many tries were made: each of them brought the bounds to half as far from one another, or nearer, and added to the
-- units of the kept entries at most what the root takes.
pub record AreTried (t : Times) (about : About) (lower upper : ℕ) (es : List SeqEntry) : Type 0 where
  pub tries : ℕ
  pub near : (upper - lower) * 2 ^ tries ≤ 65536000000000000
  pub work : units_of (charges_of about) es ≤ units_of (charges_of about) about.kept + tries * root_work t

-- Units that are never all used: 64 times K times M to the power of K, for M models with K units together. Fewer than
-- 64 tries are made, and each takes at most K times M to the power of K steps.
abbrev pub most_units : Times → ℕ
most_units t = 64 * sum t.demands * length t.demands ^ sum t.demands
