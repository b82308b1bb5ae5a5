-- What `utility` comes to.
use Rattle.std.specs.Prelude.{◌≡◌, ◌⊎◌, ℕ, zero, suc, List, [], ◌∷◌, ◌++◌, sum, codes, decimal}
use Rattle.line_rules.specs.declared.types.Seatplace.{Seatplace}
use Rattle.line_rules.specs.declared.types.Balance.{Balance as Assignment}
use Rattle.combined_graph.specs.Mixes.{MixedLine}
use Rattle.utility_work.specs.Utility.{station_utility}
use Rattle.command_outcome.specs.Outcome.{Files, Outside, Outcome, told}
use Rattle.command_outcome.specs.declared.status.Status.TheVariants as ends
use Rattle.mix_files.specs.Launch.{Names, IsLaunch, IsUnlaunched}

-- the utility work at each of n stations, from station k on, all of one length
abbrev pub utilities : MixedLine → List Seatplace → List ℕ → ℕ → ℕ → ℕ → ℕ → List ℕ
utilities mix places units interval length k zero = []
utilities mix places units interval length k (suc n) =
    station_utility mix places units interval length k ∷ utilities mix places units interval length (suc k) n

-- a line for each station, from station k on
abbrev pub utility_lines : ℕ → List ℕ → List ℕ
utility_lines k [] = []
utility_lines k (u ∷ us) = codes "station " ++ decimal k ++ codes " utility " ++ decimal u ++ codes "\n"
    ++ utility_lines (suc k) us

-- the line of each station, and the line of all of them together
abbrev pub lines_text : List ℕ → List ℕ
lines_text us = utility_lines 1 us ++ codes "total utility " ++ decimal (sum us) ++ codes "\n"

abbrev pub utility_text : MixedLine → Assignment → List ℕ → ℕ → ℕ → List ℕ
utility_text mix b units interval length = lines_text (utilities mix b.place units interval length 1 b.stations)

-- The files say a mix, a right straight balance and units, and the outcome tells the utility work of these units on
-- this balance.
pub record IsUtilityTold (files : Files) (names : Names) (interval length : ℕ) (out : Outcome) : Type 0 where
  pub mix : MixedLine
  pub balance : Assignment
  pub units : List ℕ
  pub launch : IsLaunch files names interval mix balance units
  pub shown : out ≡ told ends.Done (utility_text mix balance units interval length)

-- What `utility` comes to: the utility work, or why the files say none.
abbrev pub IsUtilityOutcome : Outside → List ℕ → List ℕ → List ℕ → ℕ → ℕ → Outcome → Type 0
IsUtilityOutcome o mix cert seq interval length out =
    let names : Names = record { mix = mix; cert = cert; seq = seq } in
    IsUtilityTold o.files names interval length out ⊎ IsUnlaunched o names interval out
