use Rattle.std.proofs.Common.{◌≡◌, ◌≤◌, ◌<◌, ◌+◌, ◌^◌, ℕ, List, length, take, drop, map, Some, vec_len}
use Rattle.std.specs.Prelude.{All}
use Rattle.in2_reader.specs.Contents.{contents_from}
use Rattle.combined_graph.specs.Mixes.{model_named}
use Rattle.combined_graph.specs.Sequences.{unit_names}
use Rattle.combined_graph.proofs.sequence.read_units.Given as goal

abbrev pub decreases-units : goal.decreases-units
decreases-units l = length l.left

abbrev pub invariant-units : goal.invariant-units
invariant-units l = record {
  few : vec_len l.units ≤ 100000;
  room : l.line + length l.left < 2 ^ 64;
  left : drop (vec_len l.units) (unit_names l.bytes) ≡ map (λ (x : ℕ × List ℕ). x.1) (contents_from l.line l.left);
  said : map (model_named l.models) (take (vec_len l.units) (unit_names l.bytes))
      ≡ map (λ (m : ℕ). Some m) l.units.items;
  models : All (λ m. m < length l.models) l.units.items;
}
