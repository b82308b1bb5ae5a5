-- The units of helpers: what a purse has of them, and what is left when some are used.
use Rattle.std.proofs.Common.{◌≡◌, ℕ, zero, suc, ◌+◌, ◌*◌, ◌/◌, ◌<◌, ◌≤◌, List, [], ◌∷◌, ◌++◌, length, length-append}
use Rattle.std.proofs.Common.{refl, sym, ap, ◌∙◌, subst, inl, inr, arith, Some}
use Rattle.std.proofs.Common.{Vec, Global}
use Rattle.std.proofs.Math.Nat.{add-mul, mul-div-le, div-le_self, zero-mul}
use Rattle.std.specs.Prelude.{slice_get, ◌^◌}
use Rattle.line_rules.proofs.ListFacts.{get_push_cases}
use Rattle.station_search.specs.declared.answers.Units.{Units}
use Rattle.round_helpers.specs.Helping.{IsTeam, all_used, HaveSpent}
use Rattle.round_run.specs.Plans.{all_left, IsFilled}
use Rattle.round_run.specs.declared.plans.Plan.{Plan}

-- what all have used doesn't fall, and with what is left it stays
pub spent_more : (us vs : List Units) → HaveSpent us vs → all_used us ≤ all_used vs
spent_more [] [] s = omega arith
spent_more [] (v ∷ vs) s = absurd s
spent_more (u ∷ us) [] s = absurd s
spent_more (u ∷ us) (v ∷ vs) s = omega (arith, s.0, spent_more us vs s.2)

pub spent_sum : (us vs : List Units) → HaveSpent us vs → all_used vs + all_left vs ≡ all_used us + all_left us
spent_sum [] [] s = refl
spent_sum [] (v ∷ vs) s = absurd s
spent_sum (u ∷ us) [] s = absurd s
spent_sum (u ∷ us) (v ∷ vs) s = omega (arith, s.1, spent_sum us vs s.2)

pub spent_long : (us vs : List Units) → HaveSpent us vs → length vs ≡ length us
spent_long [] [] s = refl
spent_long [] (v ∷ vs) s = absurd s
spent_long (u ∷ us) [] s = absurd s
spent_long (u ∷ us) (v ∷ vs) s = omega (arith, spent_long us vs s.2)

spent_each : (us vs : List Units) → HaveSpent us vs
    → ((k : ℕ) (u : Units) → slice_get us k ≡ Some u → u.used + u.left < 2 ^ 64)
    → (k : ℕ) (v : Units) → slice_get vs k ≡ Some v → v.used + v.left < 2 ^ 64
spent_each [] [] s each k v e = absurd (cc)
spent_each [] (w ∷ vs) s each k v e = absurd s
spent_each (u ∷ us) [] s each k v e = absurd s
spent_each (u ∷ us) (w ∷ vs) s each zero v e =
    let same : w ≡ v = cc in
    let l : w.used + w.left < 2 ^ 64 = omega (arith, s.1, each 0 u refl) in
    let P : Units → Type 0 = λ z. z.used + z.left < 2 ^ 64 in
    subst P same l
spent_each (u ∷ us) (w ∷ vs) s each (suc k) v e =
    spent_each us vs s.2 (λ j x f. each (suc j) x f) k v e

pub spent_team : (us vs : List Units) → HaveSpent us vs → IsTeam us → IsTeam vs
spent_team us vs s t = record {
  few = omega (arith, spent_long us vs s, t.few);
  units = spent_each us vs s t.units;
}

used_push : (us : List Units) (u : Units) → all_used (us ++ u ∷ []) ≡ all_used us + u.used
used_push [] u = omega arith
used_push (x ∷ us) u = omega (arith, used_push us u)

left_push : (us : List Units) (u : Units) → all_left (us ++ u ∷ []) ≡ all_left us + u.left
left_push [] u = omega arith
left_push (x ∷ us) u = omega (arith, left_push us u)

-- A purse while it is filled: so many helpers have their part, and none has used any of it.
pub record IsFilling (part k : ℕ) (us : List Units) : Type 0 where
  pub long : length us ≡ k
  pub used : all_used us ≡ 0
  pub left : all_left us ≡ k * part
  pub each : (j : ℕ) (u : Units) → slice_get us j ≡ Some u → u.used + u.left < 2 ^ 64

pub filling_none : (part : ℕ) (us : List Units) → us ≡ [] → IsFilling part 0 us
filling_none part us e =
    let P : List Units → Type 0 = λ z. IsFilling part 0 z in
    subst P (sym e) (record { long = refl; used = refl; left = omega arith; each = λ j u f. absurd (cc) })

pub filling_push : (part k : ℕ) (us all : List Units) → part < 2 ^ 64 → IsFilling part k us
    → all ≡ us ++ record { left = part; used = 0 } ∷ []
    → IsFilling part (k + 1) all
filling_push part k us all l f e =
    let P : List Units → Type 0 = λ z. IsFilling part (k + 1) z in
    let next : (k + 1) * part ≡ k * part + part =
    let e : (k + 1) * part ≡ k * part + 1 * part = add-mul k 1 part in omega (arith, e) in
    subst P (sym e) (record {
      long = omega (arith, length-append us (record { left = part; used = 0 } ∷ []), f.long);
      used = omega (arith, used_push us (record { left = part; used = 0 }), f.used);
      left = omega (arith, left_push us (record { left = part; used = 0 }), f.left, next);
      each = λ j u g. elim (get_push_cases us (record { left = part; used = 0 }) u j g) [
        | inl y ↦ f.each j u y.1
        | inr y ↦ (let Q : Units → Type 0 = λ z. z.used + z.left < 2 ^ 64 in subst Q y.1 (omega (arith, l)))
      ];
    })

pub small_part : (plan : Plan) → plan.units ≤ 3000000 → plan.units / plan.helpers < 2 ^ 64
small_part plan l = let e : plan.units / plan.helpers ≤ plan.units = div-le_self plan.units plan.helpers in
    omega (arith, e, l)

-- a purse that is filled
pub filled : (plan : Plan) (helper : Vec Units Global) (k : ℕ) → k ≡ plan.helpers
    → IsFilling (plan.units / plan.helpers) k helper.items → plan.helpers ≤ 64
    → IsFilled plan (record { closing = record { left = plan.units; used = 0 }; helper = helper })
filled plan helper k e f few =
    let P : ℕ → Type 0 = λ z. all_left helper.items ≡ z * (plan.units / plan.helpers) in
    let left : all_left helper.items ≡ plan.helpers * (plan.units / plan.helpers) = subst P e f.left in
    record {
      team = record { few = omega (arith, f.long, e, few); units = f.each };
      used = refl;
      left = refl;
      none_used = f.used;
      few = omega (arith, left, mul-div-le plan.units plan.helpers);
      alone = λ none. left ∙ (ap (λ (z : ℕ). z * (plan.units / plan.helpers)) none
          ∙ zero-mul (plan.units / plan.helpers));
    }
