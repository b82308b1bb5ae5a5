-- What becomes of a source from which lines are read.
use Rattle.std.specs.Prelude.{◌≡◌, ◌≤◌, ℕ}

-- a source was read on, maybe by no line
pub record IsReadOn {A B : Type 0} (base_of : A → B) (faults_of least_of : A → ℕ) (old new : A) : Type 0 where
  -- what taking lines doesn't change is as it was
  pub base : base_of new ≡ base_of old
  -- the outside has failed as often as before, or more often
  pub faults : faults_of old ≤ faults_of new
  -- how often it has failed at least once a fetch fails hasn't fallen
  pub least : least_of old ≤ least_of new
