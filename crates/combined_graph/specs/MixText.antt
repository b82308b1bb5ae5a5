-- What reading a mix answers.
use Rattle.std.specs.Prelude.{◌≡◌, ℕ, List, Result, Ok, Err}
use Rattle.combined_graph.specs.Mixes.{MixedLine}
use Rattle.combined_graph.specs.Records.{mix_records}
use Rattle.combined_graph.specs.MixRecords.{Said, records_said}
use Rattle.combined_graph.specs.declared.fault.MixFault.{MixFault}
use Rattle.combined_graph.specs.declared.draft.Stop.{Stop}
use Rattle.combined_graph.specs.declared.draft.Stop.TheVariants as stop
use Rattle.combined_graph.specs.declared.mix_text.MixRead.{MixRead}
use Rattle.combined_graph.specs.declared.mix_text.MixRead.TheVariants.{Good, Fault, NoMemory}

-- what a text says: a mix, or the first fault of its records
abbrev pub text_said : List ℕ → Result MixedLine MixFault
text_said bytes = records_said (mix_records bytes)

-- Each answer with its cause: the mix that is said, or the first fault.
abbrev pub IsSaid : Result MixedLine MixFault → MixRead → Type 0
IsSaid said (Good mix) = said ≡ Ok mix
IsSaid said (Fault f) = said ≡ Err f
IsSaid said NoMemory = Unit {0}

abbrev pub IsMixRead : List ℕ → MixRead → Type 0
IsMixRead bytes answer = IsSaid (text_said bytes) answer

-- the draft after one more record is what the record makes of it, unless memory ran out
abbrev pub Stops : Stop → Said MixedLine → Type 0
Stops stop.Memory said = Unit {0}
Stops (stop.Fault kind) said = said ≡ Err kind

abbrev pub Makes : Result (Unit {0}) Stop → MixedLine → Said MixedLine → Type 0
Makes (Ok u) mix said = said ≡ Ok mix
Makes (Err e) mix said = Stops e said
