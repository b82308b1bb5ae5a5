use Rattle.std.proofs.Common.{◌≡◌}
use Rattle.combined_graph.specs.MixRecords.{rest_said}
use Rattle.combined_graph.specs.Records.{IsReading, records_of}
use Rattle.combined_graph.proofs.mix_text.read_rest.Given as goal

abbrev pub invariant-loop-number : goal.invariant-loop-number
invariant-loop-number l = record {
  reading : IsReading l.reader;
  told : rest_said (records_of l.reader) l.number l.draft ≡ rest_said (records_of l.initial.reader) 2 l.initial.draft;
}
