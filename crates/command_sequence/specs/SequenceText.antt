-- The printed texts of `sequence`, as functions of the mix and of the certificate.
use Rattle.std.specs.Prelude.{ℕ, List, ◌∷◌, ◌++◌, codes, decimal}
use Rattle.std.specs.List.{flat_map}
use Rattle.combined_graph.specs.Mixes.{LineModel, MixedLine, model_at}
use Rattle.sequence_values.specs.declared.types.SeqCert.{SeqCert}
pub use Rattle.command_outcome.specs.Bounds.{bounds_line, cut_short_text}

-- the names of the models of these units, each behind a blank
abbrev pub names_text : List LineModel → List ℕ → List ℕ
names_text models units = flat_map (λ m. 32 ∷ (model_at models m).name) units

-- the line of a sequence
abbrev pub sequence_line : MixedLine → List ℕ → List ℕ
sequence_line mix units = codes "sequence:" ++ names_text mix.models units ++ codes "\n"

-- the report of an optimum: the least utility work, and the sequence
abbrev pub optimal_text : MixedLine → SeqCert → List ℕ
optimal_text mix cert = (codes "optimal utility " ++ decimal cert.upper ++ codes "\n")
    ++ sequence_line mix cert.sequence

-- the report of a search that used its units: its bounds, and the best sequence
abbrev pub stopped_text : MixedLine → SeqCert → List ℕ
stopped_text mix cert =
    (codes "stopped by units\n" ++ bounds_line cert.lower cert.upper) ++ sequence_line mix cert.sequence
