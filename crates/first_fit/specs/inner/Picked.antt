-- The choice of the next task.
use Rattle.std.specs.Prelude.{◌≡◌, ◌⊎◌, Option, Some, None, cond, nat_lt}
use Rattle.line_instance.specs.Line.{Line}
use Rattle.line_rules.specs.Ranked.{weight, RanksFirst}
use Rattle.line_rules.specs.declared.types.LineKind.{LineKind}
use Rattle.first_fit.specs.declared.filling.Choice.{Choice as Pick}
use Rattle.first_fit.specs.declared.filling.Filling.{Filling as Filled}
use Rattle.first_fit.specs.inner.Filling.{MayJoin}

-- it may join, and ranks first of all that may
pub record IsFirst (kind : LineKind) (line : Line) (f : Filled) (a : Pick) : Type 0 where
  pub may : MayJoin kind line f a
  pub first : (b : Pick) → MayJoin kind line f b → RanksFirst line a.task a.side b.task b.side

-- the heavier of two choices, of equal ones the former
abbrev pub heavier : Line → Option Pick → Pick → Option Pick
heavier line None a = Some a
heavier line (Some b) a = cond (nat_lt (weight line b.task b.side) (weight line a.task a.side)) (Some a) (Some b)

-- the best so far, or the further choice where it may join and is heavier
abbrev pub IsBetter : LineKind → Line → Filled → Option Pick → Pick → Option Pick → Type 0
IsBetter kind line f best a found =
    (MayJoin kind line f a × (found ≡ heavier line best a)) ⊎ ((MayJoin kind line f a → ⊥) × (found ≡ best))
