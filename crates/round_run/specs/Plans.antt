-- What a run may spend.
use Rattle.std.specs.Prelude.{◌≡◌, ℕ, ◌+◌, ◌≤◌, List, [], ◌∷◌}
use Rattle.station_search.specs.declared.answers.Units.{Units}
use Rattle.round_helpers.specs.Helping.{IsTeam, all_used}
use Rattle.round_run.specs.declared.plans.Plan.{Plan}
use Rattle.round_run.specs.declared.plans.Purse.{Purse}

-- at most 64 helpers, 1 to 3,000,000 units, and a seek of at most 3,000,000 loads at each tried cycle
pub record IsPlan (plan : Plan) : Type 0 where
  pub helpers : plan.helpers ≤ 64
  pub some : 1 ≤ plan.units
  pub limit : plan.units ≤ 3000000
  pub seek : plan.seek ≤ 3000000

-- the units that are left to all helpers together
abbrev pub all_left : List Units → ℕ
all_left [] = 0
all_left (u ∷ us) = u.left + all_left us

-- A purse as a plan has it: nothing is used, the closing passes have the plan's units, and the helpers no more than
-- these together, and none where there are no helpers.
pub record IsFilled (plan : Plan) (purse : Purse) : Type 0 where
  pub team : IsTeam purse.helper.items
  pub used : purse.closing.used ≡ 0
  pub left : purse.closing.left ≡ plan.units
  pub none_used : all_used purse.helper.items ≡ 0
  pub few : all_left purse.helper.items ≤ plan.units
  pub alone : plan.helpers ≡ 0 → all_left purse.helper.items ≡ 0
