-- What the files of a mix and of a certificate say together, and why they say less.
use Rattle.std.specs.Prelude.{◌⊎◌, ℕ, ◌*◌, List}
use Rattle.line_instance.specs.Line.{Line}
use Rattle.line_rules.specs.declared.types.Balance.{Balance as Assignment}
use Rattle.combined_graph.specs.Mixes.{MixedLine}
use Rattle.combined_graph.specs.Combined.{total_demand}
use Rattle.command_outcome.specs.Outcome.{Files, Outside, Outcome}
use Rattle.mix_files.specs.MixFile.{IsCombinedFile, IsUncombined}
use Rattle.mix_files.specs.BalanceFile.{IsBalanceFile, IsNoBalance}

-- The first file says the mix, and the second one a straight balance that is right for its combined line at the launch
-- interval times the total demand.
pub record IsBalanced (files : Files) (mix_name cert_name : List ℕ) (interval : ℕ) (mix : MixedLine) (b : Assignment)
    : Type 0 where
  pub line : Line
  pub combined : IsCombinedFile files mix_name mix line
  pub balanced : IsBalanceFile files cert_name line (interval * total_demand mix.models) b

-- the first file says a mix, and the second one no right balance of its combined line
pub record IsMisbalanced (o : Outside) (mix_name cert_name : List ℕ) (interval : ℕ) (out : Outcome) : Type 0 where
  pub mix : MixedLine
  pub line : Line
  pub combined : IsCombinedFile o.files mix_name mix line
  pub unbalanced : IsNoBalance o cert_name line (interval * total_demand mix.models) out

-- Why there is no mix with a balance. The certificate is named only where the mix was read and combined.
abbrev pub IsUnbalanced : Outside → List ℕ → List ℕ → ℕ → Outcome → Type 0
IsUnbalanced o mix_name cert_name interval out =
    IsUncombined o mix_name out ⊎ IsMisbalanced o mix_name cert_name interval out
