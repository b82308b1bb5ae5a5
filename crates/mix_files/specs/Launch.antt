-- What the files of `utility` and `timeline` say together, and why they say less.
use Rattle.std.specs.Prelude.{◌⊎◌, ℕ, List}
use Rattle.line_rules.specs.declared.types.Balance.{Balance as Assignment}
use Rattle.combined_graph.specs.Mixes.{MixedLine}
use Rattle.command_outcome.specs.Outcome.{Files, Outside, Outcome}
use Rattle.mix_files.specs.Balanced.{IsBalanced, IsUnbalanced}
use Rattle.mix_files.specs.SequenceFile.{IsSequenceFile, IsNoSequence}

-- the names of the three files
pub record Names : Type 0 where
  pub mix : List ℕ
  pub cert : List ℕ
  pub seq : List ℕ

-- the first two files say the mix and a right balance of its line, and the third one the units
pub record IsLaunch (files : Files) (names : Names) (interval : ℕ) (mix : MixedLine) (b : Assignment) (units : List ℕ)
    : Type 0 where
  pub balanced : IsBalanced files names.mix names.cert interval mix b
  pub sequence : IsSequenceFile files names.seq mix.models units

-- the first two say a mix and a right balance, and the third one no units
pub record IsUnsequenced (o : Outside) (names : Names) (interval : ℕ) (out : Outcome) : Type 0 where
  pub mix : MixedLine
  pub balance : Assignment
  pub balanced : IsBalanced o.files names.mix names.cert interval mix balance
  pub unsequenced : IsNoSequence o names.seq mix.models out

-- Why there is no launch. A later file is named only where the earlier ones were read, combined and tested.
abbrev pub IsUnlaunched : Outside → Names → ℕ → Outcome → Type 0
IsUnlaunched o names interval out =
    IsUnbalanced o names.mix names.cert interval out ⊎ IsUnsequenced o names interval out
