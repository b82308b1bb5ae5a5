-- What the calls that make a table, and what a pass tells, come to.
use Rattle.std.specs.Prelude.{◌≡◌, ℕ, List}
use Rattle.sequence_values.specs.declared.types.Times.{Times}
use Rattle.sequence_table.specs.Nodes.{Nodes}
use Rattle.sequence_table.specs.Tables.{IsTable, one_node}
use Rattle.sequence_table.specs.Values.{IsToldOf, AreBelow}
use Rattle.sequence_table.specs.declared.types.Tabled.{Tabled}
use Rattle.sequence_table.specs.declared.types.Tabled.TheVariants as tabled
use Rattle.sequence_table.specs.declared.types.Passed.{Passed}
use Rattle.sequence_table.specs.declared.types.Passed.TheVariants as passed

-- the table that is opened has node 0 alone
abbrev pub IsOpened : Times → ℕ → ℕ → Tabled → Type 0
IsOpened times interval reach (tabled.Done t) = (t ≡ one_node times interval reach) × IsTable t
IsOpened times interval reach tabled.NoMemory = Unit {0}

-- a pass tells the value of each node, exactly, and each value is below what every row costs
abbrev pub IsPassed : Nodes → List ℕ → Passed → Type 0
IsPassed t charges (passed.Done v) = IsToldOf t charges v × AreBelow t charges v
IsPassed t charges passed.NoMemory = Unit {0}
