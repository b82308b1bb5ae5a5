-- What a search for a sequence begins with.
use Rattle.std.specs.Prelude.{◌≡◌, ℕ, List, ◌++◌, Option}
use Rattle.sequence_rules.specs.Charges.{listed_charges}
use Rattle.sequence_values.specs.declared.types.SeqEntry.{SeqEntry}

-- the units that it may use, a first sequence, the charges where there are some, and the entries that are kept, which
-- stand before its own
pub record About : Type 0 where
  pub units : ℕ
  pub first : List ℕ
  pub charges : Option (List ℕ)
  pub kept : List SeqEntry

-- the list of the charges
abbrev pub charges_of : About → List ℕ
charges_of about = listed_charges about.charges

-- the list begins with these entries
abbrev pub IsFront : List SeqEntry → List SeqEntry → Type 0
IsFront kept es = (more : List SeqEntry) × (es ≡ kept ++ more)
