-- The need that an entry would answer of a state, if it answers one.
use Rattle.std.specs.Prelude.{ℕ, ◌<◌, ◌≤◌, List}
use Rattle.sequence_values.specs.declared.types.SeqEntry.{SeqEntry}
use Rattle.sequence_rules.specs.Entries.{Answers}

-- Where the entry answers any need of the state above 0, it answers this one, and no greater one.
pub record IsNeedIf (charges : List ℕ) (e : SeqEntry) (rem starts : List ℕ) (need : ℕ) : Type 0 where
  pub answers : (n : ℕ) → 0 < n → Answers charges e rem starts n → Answers charges e rem starts need
  pub most : (n : ℕ) → Answers charges e rem starts n → n ≤ need
