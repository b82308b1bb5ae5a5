-- The arcs and the pairs of members with which nothing is wrong are of tasks.
use Rattle.std.proofs.Common.{◌≡◌, ◌≤◌, ◌<◌, ◌+◌, ℕ, zero, suc, Bool, true, false, cond, ◌&&◌, not, nat_eq, nat_lt}
use Rattle.std.proofs.Common.{List, [], ◌∷◌, ◌++◌, length, map, take, Option, Some, None}
use Rattle.std.proofs.Common.{refl, sym, ◌∙◌, ap, arith}
use Rattle.std.specs.Prelude.{bytes_eq, filter, unwrap_or}
use Rattle.std.specs.List.{cons_option}
use Rattle.std.proofs.lemmas.Bool.{eq-eqb}
use Rattle.std.proofs.lemmas.List.Quantifiers.{position-Some}
use Rattle.line_instance.specs.Walks.{AreArcs, ArePairs}
use Rattle.task_names.specs.TaskNames.{is_task_name, task_named}
use Rattle.task_table.specs.Records.{Fields, field, says, names_in}
use Rattle.task_table.specs.Lists.{Member, members_of, row_members, members_from, place_of, arcs_of, pairs_of, count_in}
use Rattle.task_table.specs.Rows.{known_fault, member_fault, member_at, AreKnown}
use Rattle.task_table.specs.declared.fault.TableKind.{TableKind}
use Rattle.task_table.specs.declared.fault.TableKind.TheVariants as fault

-- ---- a member with which nothing is wrong

pub record IsFine (names : List (List ℕ)) (m : Member) : Type 0 where
  pub place : place_of names m.name < length names
  pub other : m.apart ≡ true → place_of names m.name ≡ m.task → ⊥

passes : (b : Bool) (kind : TableKind) (next : Option TableKind) → cond b (Some kind) next ≡ None → next ≡ None
passes true kind next h = cc h
passes false kind next h = h

has_room : (b : Bool) (kind : TableKind) (next : Option TableKind) → cond b next (Some kind) ≡ None → next ≡ None
has_room true kind next h = h
has_room false kind next h = cc h

not_itself : (apart : Bool) (j task : ℕ) → cond (apart && nat_eq j task) (Some fault.Itself) None ≡ None
    → apart ≡ true → j ≡ task → ⊥
not_itself true j task h e same = cc (ap (λ b. cond b (Some fault.Itself) None) (sym (eq-eqb j task same)) ∙ h)
not_itself false j task h e same = cc e

fine_place : (names : List (List ℕ)) (m : Member) (o : Option ℕ) → task_named names m.name ≡ o
    → known_fault o m ≡ None → IsFine names m
fine_place names m None e h = cc h
fine_place names m (Some j) e h =
    let place : place_of names m.name ≡ j = ap (λ o. unwrap_or o 0) e in
    let within = position-Some (λ n. bytes_eq n m.name) names j [] e in
    record {
      place = omega (arith, within.0, place);
      other = λ yes same. not_itself m.apart j m.task h yes (sym place ∙ same);
    }

fine_member : (names : List (List ℕ)) (before : List Member) (m : Member) → member_fault names before m ≡ None
    → IsFine names m
fine_member names before m h =
    let a = passes (not (is_task_name m.name)) fault.BadName _ h in
    let b = has_room (nat_lt (count_in m.apart before) 524288) fault.TooManyArcs _ a in
    fine_place names m (task_named names m.name) refl b

-- each of these members is fine, and of one of so many tasks
abbrev pub AreFine : List (List ℕ) → ℕ → List Member → Type 0
AreFine names n ms = (p : ℕ) → p < length ms → IsFine names (member_at ms p) × ((member_at ms p).task < n)

-- ---- the tasks of the members

abbrev AreBelow : ℕ → List Member → Type 0
AreBelow n [] = Unit {0}
AreBelow n (m ∷ ms) = (m.task < n) × AreBelow n ms

below_both : (n : ℕ) (xs ys : List Member) → AreBelow n xs → AreBelow n ys → AreBelow n (xs ++ ys)
below_both n [] ys a b = b
below_both n (x ∷ xs) ys a b = (a.0, below_both n xs ys a.1 b)

below_list : (n row task : ℕ) (apart : Bool) (ns : List (List ℕ)) → task < n
    → AreBelow n (map (λ s. record { row = row; task = task; apart = apart; name = s }) ns)
below_list n row task apart [] h = tt
below_list n row task apart (s ∷ ns) h = (h, below_list n row task apart ns h)

below_at : (n : ℕ) (ms : List Member) (p : ℕ) → AreBelow n ms → p < length ms → (member_at ms p).task < n
below_at n [] p a h = absurd (omega (arith, h))
below_at n (m ∷ ms) zero a h = a.0
below_at n (m ∷ ms) (suc p) a h = below_at n ms p a.1 (omega (arith, h))

tasks_below : (rest : List Fields) (row task n : ℕ) → task + length (names_in rest) ≤ n
    → AreBelow n (members_from row task rest)
tasks_below [] row task n h = tt
tasks_below (r ∷ rest) row task n h = by (says r) h (λ t l. tasks_below rest (suc row) t n l)
  where
    by : (b : Bool) → task + length (map (λ r. field r 0) (cond b (r ∷ filter says rest) (filter says rest))) ≤ n
        → ((t : ℕ) → t + length (names_in rest) ≤ n → AreBelow n (members_from (suc row) t rest))
        → AreBelow n (cond b (row_members row task r ++ members_from (suc row) (suc task) rest)
        (members_from (suc row) task rest))
    by true l more = below_both n (row_members row task r) (members_from (suc row) (suc task) rest)
        (below_both n _ _ (below_list n row task false (members_of (field r 2)) (omega (arith, l)))
        (below_list n row task true (members_of (field r 3)) (omega (arith, l))))
        (more (suc task) (omega (arith, l)))
    by false l more = more task l

pub fine_members : (rest : List Fields) → AreKnown (names_in rest) (members_from 2 0 rest)
    → AreFine (names_in rest) (length (names_in rest)) (members_from 2 0 rest)
fine_members rest k p h = (
  fine_member (names_in rest) (take p (members_from 2 0 rest)) (member_at (members_from 2 0 rest) p) (k p h),
  below_at (length (names_in rest)) (members_from 2 0 rest) p
      (tasks_below rest 2 0 (length (names_in rest)) (omega arith)) h,
)

-- ---- the arcs and the pairs

rest_fine : (names : List (List ℕ)) (n : ℕ) (m : Member) (ms : List Member) → AreFine names n (m ∷ ms)
    → AreFine names n ms
rest_fine names n m ms f p h = f (suc p) (omega (arith, h))

pub arcs_named : (names : List (List ℕ)) (ms : List Member) → AreFine names (length names) ms
    → AreArcs (length names) (arcs_of names ms)
arcs_named names [] f = λ k h. absurd (omega (arith, h))
arcs_named names (m ∷ ms) f =
    by m.apart (arcs_named names ms (rest_fine names (length names) m ms f))
  where
    by : (b : Bool) → AreArcs (length names) (arcs_of names ms)
        → AreArcs (length names) (cons_option (cond b None (Some
        (record { first = place_of names m.name; «then» = m.task })))
        (arcs_of names ms))
    by true more k h = more k h
    by false more zero h = let one = f zero (omega arith) in (one.0.place, one.1)
    by false more (suc k) h = more k (omega (arith, h))

pub pairs_named : (names : List (List ℕ)) (ms : List Member) → AreFine names (length names) ms
    → ArePairs (length names) (pairs_of names ms)
pairs_named names [] f = λ k h. absurd (omega (arith, h))
pairs_named names (m ∷ ms) f =
    by m.apart refl (pairs_named names ms (rest_fine names (length names) m ms f))
  where
    by : (b : Bool) → m.apart ≡ b → ArePairs (length names) (pairs_of names ms)
        → ArePairs (length names) (cons_option (cond b (Some
        (record { first = m.task; «then» = place_of names m.name })) None)
        (pairs_of names ms))
    by false e more k h = more k h
    by true e more zero h =
        let one = f zero (omega arith) in ((one.1, one.0.place), λ same. one.0.other e (sym same))
    by true e more (suc k) h = more k (omega (arith, h))
