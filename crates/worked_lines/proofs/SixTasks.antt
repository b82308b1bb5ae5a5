-- The six tasks of the worked rows: two branches, and entries that don't follow.
use Rattle.std.proofs.Common.{◌≡◌, ℕ, ◌≤◌, Bool, true, false, List, [], ◌∷◌, length, refl, sym, ap, ◌∙◌, subst, Some}
use Rattle.std.proofs.Common.{arith}
use Rattle.std.specs.Prelude.{slice_get}
use Rattle.std.proofs.lemmas.Bool.{false≢true}
use Rattle.line_instance.specs.Truths.{In, full_to, IsSubset}
use Rattle.line_instance.specs.Line.{IsRanked, IsTaskSet, tasks, has}
use Rattle.std.proofs.lemmas.Option.{same_Some}
use Rattle.line_rules.specs.Balance.{all_tasks}
use Rattle.line_rules.specs.Bounds.{bound, lm1, lm2, lm3, sixths, head, tail, chained}
use Rattle.line_rules.specs.Loads.{IsLoad, rest}
use Rattle.line_rules.specs.Order.{Lists, Counts}
use Rattle.line_rules.specs.Entries.{IsOpen, Cites, Follows, IsDerived}
use Rattle.line_rules.specs.Units.{UnitsOf}
use Rattle.worked_lines.specs.Rows.{six_free, six_below, six_above, six_bound, set_of, load_of, BranchesOfTheRows}
use Rattle.line_rules.specs.declared.types.LineKind.TheVariants.{Straight}
use Rattle.line_rules.specs.declared.types.Mode.TheVariants.{Fore}
use Rattle.line_rules.specs.declared.types.Load.{Load}
use Rattle.line_rules.specs.declared.types.Entry.{Entry}
use Rattle.worked_lines.proofs.FreeTasks.{no_member, free_ranked}
use Rattle.line_rules.proofs.FreeSets.{all_of}
use Rattle.line_rules.proofs.All.{In-all}
use Rattle.line_rules.proofs.ListFacts.{get_none}
use Rattle.line_rules.proofs.Unique.{unique}
use Rattle.line_rules.proofs.LongerLists.{derived_push}
use Rattle.line_rules.proofs.LoadLists.{with_task, no_tasks}
use Rattle.worked_lines.proofs.Branches.{branch_follows}
use Rattle.line_rules.proofs.LoadTests.{loads_of, loads_listed, open_of, open_listed}

ranked : IsRanked six_free
ranked = free_ranked six_free.times

few : tasks six_free ≤ 1024
few = omega arith

all : IsTaskSet six_free (all_tasks six_free)
all = all_of six_free

lower_set : List Bool
lower_set = set_of (1 ∷ 2 ∷ 3 ∷ 4 ∷ 5 ∷ [])

lower_tasks : IsTaskSet six_free lower_set
unfolding lower_set
lower_tasks =
    with_task six_free few ranked (set_of (2 ∷ 3 ∷ 4 ∷ 5 ∷ [])) 1 (omega arith)
    (with_task six_free few ranked (set_of (3 ∷ 4 ∷ 5 ∷ [])) 2 (omega arith)
    (with_task six_free few ranked (set_of (4 ∷ 5 ∷ [])) 3 (omega arith)
    (with_task six_free few ranked (set_of (5 ∷ [])) 4 (omega arith)
    (with_task six_free few ranked (set_of []) 5 (omega arith) (no_tasks six_free few ranked)))))

lower_open : open_of six_free few ranked 7 lower_set lower_tasks Straight Fore 2 ≡ []
unfolding full_to lower_set bound lm1 lm2 lm3 sixths head tail chained
lower_open = refl

lower_many : length (loads_of six_free few ranked 7 lower_set lower_tasks Fore) ≡ 15
unfolding full_to lower_set
lower_many = refl

upper_open : open_of six_free few ranked 7 (all_tasks six_free) all Straight Fore 3 ≡ load_of (0 ∷ []) ∷ []
unfolding full_to bound lm1 lm2 lm3 sixths head tail chained
upper_open = refl

upper_many : length (loads_of six_free few ranked 7 (all_tasks six_free) all Fore) ≡ 16
unfolding full_to
upper_many = refl

rest_is : rest (all_tasks six_free) (load_of (0 ∷ [])) ≡ lower_set
unfolding full_to lower_set
rest_is = refl

one_in : has lower_set 1 ≡ true
unfolding full_to lower_set
one_in = refl

zero_out : has lower_set 0 ≡ false
unfolding full_to lower_set
zero_out = refl

open_upper : Lists six_free (IsOpen Straight six_free 7 Fore (all_tasks six_free) 3) (load_of (0 ∷ []) ∷ [])
open_upper =
    let P : List Load → Type 0 = λ ls. Lists six_free (IsOpen Straight six_free 7 Fore (all_tasks six_free) 3) ls in
    subst P upper_open (open_listed six_free few ranked 7 (all_tasks six_free) all Straight Fore 3)

below_follows : Follows Straight six_free [] six_below
unfolding lower_set
below_follows = branch_follows Straight six_free few ranked [] lower_set lower_tasks 2 7 Fore (1, one_in) (omega arith)
    (omega arith) tt [] [] lower_open tt

-- the entry below refutes the rest of the first task
below_cited : Cites (six_below ∷ []) 0 (rest (all_tasks six_free) (load_of (0 ∷ []))) 2 7
unfolding lower_set
below_cited = record {
  entry = six_below;
  there = refl;
  part = λ i m. ap (λ (s : List Bool). has s i) rest_is ∙ m;
  stations = omega arith;
  cycle = omega arith;
}

above_follows : Follows Straight six_free (six_below ∷ []) (six_above 0)
above_follows =
    branch_follows Straight six_free few ranked (six_below ∷ []) (all_tasks six_free) all 3 7 Fore
    (0, In-all six_free 0 few (omega arith)) (omega arith) (omega arith) tt
    (0 ∷ []) (load_of (0 ∷ []) ∷ []) upper_open (below_cited, tt)

two_derived : IsDerived Straight six_free (six_below ∷ six_above 0 ∷ [])
two_derived =
    derived_push Straight six_free (six_below ∷ []) (six_above 0)
    (derived_push Straight six_free [] six_below (λ k e h. absurd (get_none k e h)) below_follows) above_follows

below_units : Counts six_free (IsLoad six_free 7 Fore lower_set) 15
below_units = record {
  loads = loads_of six_free few ranked 7 lower_set lower_tasks Fore;
  listed = loads_listed six_free few ranked 7 lower_set lower_tasks Fore;
  long = lower_many;
}

above_units : Counts six_free (IsLoad six_free 7 Fore (all_tasks six_free)) 16
above_units = record {
  loads = loads_of six_free few ranked 7 (all_tasks six_free) all Fore;
  listed = loads_listed six_free few ranked 7 (all_tasks six_free) all Fore;
  long = upper_many;
}

two_units : UnitsOf six_free (six_below ∷ six_above 0 ∷ []) 31
unfolding lower_set
two_units = (15, 16, (below_units, (16, 0, (above_units, refl, refl)), refl))

-- what the entry above needs of the entry that it cites
needs : (earlier : List Entry) (cite : ℕ) → Follows Straight six_free earlier (six_above cite)
    → Cites earlier cite (rest (all_tasks six_free) (load_of (0 ∷ []))) 2 7
needs earlier cite f =
    let same : f.by.covers.loads ≡ load_of (0 ∷ []) ∷ [] = unique six_free f.by.covers.loads (load_of (0 ∷ []) ∷ [])
    (IsOpen Straight six_free 7 Fore (all_tasks six_free) 3) f.by.covers.listed open_upper in
    let P : List Load → Type 0 = λ ls. slice_get ls 0 ≡ Some (load_of (0 ∷ [])) in
    f.by.covers.cited 0 cite (load_of (0 ∷ [])) refl (subst P (sym same) refl)

itself : Follows Straight six_free (six_below ∷ []) (six_above 1) → ⊥
itself f = let c : Cites (six_below ∷ []) 1 (rest (all_tasks six_free) (load_of (0 ∷ []))) 2 7 =
    needs (six_below ∷ []) 1 f in get_none 0 c.entry c.there

bound_is_three : bound Straight six_free 7 (all_tasks six_free) ≡ 3
unfolding full_to bound lm1 lm2 lm3 sixths head tail chained
bound_is_three = refl

bound_follows : Follows Straight six_free [] six_bound
bound_follows = record { set = all; cycle = omega arith; by = omega (arith, bound_is_three) }

no_subset : Follows Straight six_free (six_bound ∷ []) (six_above 0) → ⊥
no_subset f =
    let c : Cites (six_bound ∷ []) 0 (rest (all_tasks six_free) (load_of (0 ∷ []))) 2 7 = needs (six_bound ∷ []) 0 f in
    let P : Entry → Type 0 = λ e. IsSubset e.set (rest (all_tasks six_free) (load_of (0 ∷ []))) in
    let m : In (rest (all_tasks six_free) (load_of (0 ∷ []))) 0 =
    subst P (sym (same_Some six_bound c.entry c.there)) c.part 0 (In-all six_free 0 few (omega arith)) in
    false≢true (sym zero_out ∙ (sym (ap (λ (s : List Bool). has s 0) rest_is) ∙ m))

pub branches_of_the_rows : BranchesOfTheRows
branches_of_the_rows = record {
  derived = two_derived;
  units = two_units;
  itself = itself;
  bound = bound_follows;
  no_subset = no_subset;
  empty = λ f. no_member f.by.some.0 f.by.some.1;
}
