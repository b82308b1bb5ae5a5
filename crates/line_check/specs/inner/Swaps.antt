-- The conditions of a Swap on the entry that is cited.
use Rattle.std.specs.Prelude.{◌≡◌, ℕ, ◌<◌, ◌≤◌, Bool, true, false, List, slice_set}
use Rattle.line_instance.specs.Truths.{In}
use Rattle.line_instance.specs.Line.{Line, tasks, time, has, Before, Apart}
use Rattle.line_rules.specs.declared.types.Entry.{Entry}

-- the task `into` can stand for `out` in S: it is no longer, and what is before, after or apart from it in S is so to
-- `out` too
pub record StandsFor (line : Line) (S : List Bool) (out into : ℕ) : Type 0 where
  pub time : time line into ≤ time line out
  pub before : (i : ℕ) → In S i → Before line i into → Before line i out
  pub after : (i : ℕ) → In S i → Before line into i → Before line out i
  pub apart : (i : ℕ) → In S i → Apart line i into → Apart line i out

-- the entry follows by Swap from the cited one
pub record IsSwapped (line : Line) (e cited : Entry) (out into : ℕ) : Type 0 where
  pub out_in : In e.set out
  pub task : into < tasks line
  pub into_out : has e.set into ≡ false
  pub stations : e.most ≤ cited.most
  pub cycle : e.cycle ≤ cited.cycle
  pub set : cited.set ≡ slice_set (slice_set e.set out false) into true
  pub stands : StandsFor line cited.set out into
