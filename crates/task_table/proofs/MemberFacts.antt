-- What the reading makes of the members of lists: the arcs and pairs that they say, or their first fault.
use Rattle.std.proofs.Common.{◌≡◌, ◌<◌, ◌+◌, ◌-◌, ℕ, suc, Bool, true, false, cond, ◌&&◌, not, nat_eq, nat_lt}
use Rattle.std.proofs.Common.{List, [], ◌∷◌, ◌++◌, length, map, take, drop, Option, Some, None, Ok, Err}
use Rattle.std.proofs.Common.{refl, sym, ◌∙◌, ap, subst, arith, append_assoc, length-append, add-one, inl, inr}
use Rattle.std.specs.Prelude.{bytes_eq, filter, position, unwrap_or}
use Rattle.std.specs.List.{cons_option, list_all}
use Rattle.std.proofs.lemmas.Bool.{cases_lt}
use Rattle.std.proofs.lemmas.List.{append-nil, take-append-le, take_rest}
use Rattle.std.proofs.lemmas.List.Elements.{filter_map-append}
use Rattle.std.proofs.lemmas.List.Quantifiers.{position-Some}
use Rattle.std.proofs.lemmas.Slice.Eq.{bytes_eq-Decides}
use Rattle.std.proofs.Math.ListN.{get_or-append}
use Rattle.std.proofs.Math.Seq.{get_or-append_seam, take-append_seam}
use Rattle.line_instance.specs.declared.arcs.Prec.{Prec}
use Rattle.task_names.specs.TaskNames.{is_task_name, name_at, task_named, AreNames}
use Rattle.task_table.specs.Records.{Fields, field, says}
use Rattle.task_table.specs.Lists.{Member, members_of, parts, unblanked, row_members, members_from, place_of, arc_of}
use Rattle.task_table.specs.Lists.{pair_of, arcs_of}
use Rattle.task_table.specs.Lists.{pairs_of, count_in, first_pair}
use Rattle.task_table.specs.Rows.{known_fault, member_fault, member_at, AreKnown}
use Rattle.task_table.specs.inner.Reading.{Said, next, unless, Stops, lists_of, LinksSaid, no_links, count_of, first_of}
use Rattle.task_table.specs.inner.Reading.{linked, with_link, unknown_kind, placed_said, link_said, links_said}
use Rattle.task_table.specs.inner.Reading.{task_links_said, lists_said}
use Rattle.task_table.specs.declared.fault.TableFault.{TableFault}
use Rattle.task_table.specs.declared.fault.TableFault.TheVariants.{Record, Cycle}
use Rattle.task_table.specs.declared.fault.TableKind.{TableKind}
use Rattle.task_table.specs.declared.fault.TableKind.TheVariants as fault
use Rattle.task_table.specs.declared.links.Owner.{Owner}
use Rattle.task_table.specs.declared.stop.Stop.{Stop}
use Rattle.task_table.specs.declared.stop.Stop.TheVariants as stop
use Rattle.task_table.proofs.ListFacts.{first_part, last_part}
use Rattle.task_table.proofs.TaskFacts.{lists_from}

-- ---- lists one after the other are their members one after the other

abbrev owner_of : Member → Owner
owner_of m = record { row = m.row; task = m.task; apart = m.apart }

-- what members make
abbrev pub all_said : List (List ℕ) → List Member → LinksSaid → Said LinksSaid
all_said names [] g = Ok g
all_said names (m ∷ ms) g = next (link_said names (owner_of m) m.name g) (all_said names ms)

next_again : {A B C : Type 0} (x : Said A) (f : A → Said B) (h : B → Said C)
    → next (next x f) h ≡ next x (λ a. next (f a) h)
next_again (Ok a) f h = refl
next_again (Err e) f h = refl

next_same : {A B : Type 0} (x : Said A) (f h : A → Said B) → ((a : A) → f a ≡ h a) → next x f ≡ next x h
next_same (Ok a) f h e = e a
next_same (Err k) f h e = refl

both_said : (names : List (List ℕ)) (xs ys : List Member) (g : LinksSaid)
    → all_said names (xs ++ ys) g ≡ next (all_said names xs g) (all_said names ys)
both_said names [] ys g = refl
both_said names (m ∷ xs) ys g =
    next_same (link_said names (owner_of m) m.name g) (all_said names (xs ++ ys))
    (λ h. next (all_said names xs h) (all_said names ys)) (both_said names xs ys)
    ∙ sym (next_again (link_said names (owner_of m) m.name g) (all_said names xs) (all_said names ys))

abbrev member_with : Owner → List ℕ → Member
member_with o n = record { row = o.row; task = o.task; apart = o.apart; name = n }

one_list : (names : List (List ℕ)) (o : Owner) (ns : List (List ℕ)) (g : LinksSaid)
    → all_said names (map (member_with o) ns) g ≡ links_said names o ns g
one_list names o [] g = refl
one_list names o (n ∷ ns) g = next_same (link_said names o n g) (all_said names (map (member_with o) ns))
    (links_said names o ns) (one_list names o ns)

one_task : (names : List (List ℕ)) (row task : ℕ) (r : Fields) (g : LinksSaid)
    → all_said names (row_members row task r) g ≡ task_links_said names task (lists_of row r) g
one_task names row task r g =
    let before : Owner = record { row = row; task = task; apart = false } in
    let apart : Owner = record { row = row; task = task; apart = true } in
    both_said names (map (member_with before) (members_of (field r 2))) (map (member_with apart) (members_of
    (field r 3))) g
    ∙ ap (λ s. next s (all_said names (map (member_with apart) (members_of (field r 3)))))
    (one_list names before (members_of (field r 2)) g)
    ∙ next_same (links_said names before (members_of (field r 2)) g)
    (all_said names (map (member_with apart) (members_of (field r 3))))
    (links_said names apart (members_of (field r 3))) (one_list names apart (members_of (field r 3)))

pub as_members : (names : List (List ℕ)) (rest : List Fields) (row task : ℕ) (g : LinksSaid)
    → lists_said names task (lists_from row rest) g ≡ all_said names (members_from row task rest) g
as_members names [] row task g = refl
as_members names (r ∷ rest) row task g =
    by (says r) (λ t h. as_members names rest (row + 1) t h
    ∙ ap (λ k. all_said names (members_from k t rest) h) (add-one row))
  where
    by : (b : Bool)
        → ((t : ℕ) (h : LinksSaid) → lists_said names t (lists_from (row + 1) rest) h
        ≡ all_said names (members_from (suc row) t rest) h)
        → lists_said names task (cond b (lists_of row r ∷ lists_from (row + 1) rest) (lists_from (row + 1) rest)) g
        ≡ all_said names (cond b (row_members row task r ++ members_from (suc row) (suc task) rest)
        (members_from (suc row) task rest)) g
    by true more = next_same (task_links_said names task (lists_of row r) g)
        (lists_said names (task + 1) (lists_from (row + 1) rest))
        (all_said names (members_from (suc row) (suc task) rest))
        (λ h. more (task + 1) h ∙ ap (λ t. all_said names (members_from (suc row) t rest) h) (add-one task))
        ∙ ap (λ s. next s (all_said names (members_from (suc row) (suc task) rest))) (sym (one_task names row task r g))
        ∙ sym (both_said names (row_members row task r) (members_from (suc row) (suc task) rest) g)
    by false more = more task g

-- ---- one member more

-- what members say
abbrev pub links_at : List (List ℕ) → List Member → LinksSaid
links_at names ms = record { arcs = arcs_of names ms; pairs = pairs_of names ms; pairs_at = first_pair ms }

arcs_more : (names : List (List ℕ)) (ms : List Member) (m : Member)
    → arcs_of names (ms ++ m ∷ []) ≡ arcs_of names ms ++ cons_option (arc_of names m) []
arcs_more names ms m = filter_map-append (arc_of names) ms (m ∷ [])

pairs_more : (names : List (List ℕ)) (ms : List Member) (m : Member)
    → pairs_of names (ms ++ m ∷ []) ≡ pairs_of names ms ++ cons_option (pair_of names m) []
pairs_more names ms m = filter_map-append (pair_of names) ms (m ∷ [])

first_more : (ms : List Member) (m : Member)
    → first_pair (ms ++ m ∷ []) ≡ cond m.apart (first_of (first_pair ms) m.row) (first_pair ms)
first_more [] m = refl
first_more (x ∷ ms) m = by x.apart (first_more ms m)
  where
    by : (b : Bool) → first_pair (ms ++ m ∷ []) ≡ cond m.apart (first_of (first_pair ms) m.row) (first_pair ms)
        → cond b (Some x.row) (first_pair (ms ++ m ∷ []))
        ≡ cond m.apart (first_of (cond b (Some x.row) (first_pair ms)) m.row) (cond b (Some x.row) (first_pair ms))
    by true e = either m.apart
      where
        either : (b : Bool) → Some x.row ≡ cond b (Some x.row) (Some x.row)
        either true = refl
        either false = refl
    by false e = e

same_links : (a b c d : List Prec) (o p : Option ℕ) → a ≡ b → c ≡ d → o ≡ p
    → ◌≡◌ {A = LinksSaid} (record { arcs = a; pairs = c; pairs_at = o }) (record { arcs = b; pairs = d; pairs_at = p })
same_links a b c d o p e f g = cc

link_more : (names : List (List ℕ)) (ms : List Member) (m : Member) (place : ℕ) → place_of names m.name ≡ place
    → with_link (links_at names ms) (owner_of m) place ≡ links_at names (ms ++ m ∷ [])
link_more names ms m place e = by m.apart refl
  where
    by : (b : Bool) → m.apart ≡ b → linked b m.row m.task place (links_at names ms) ≡ links_at names (ms ++ m ∷ [])
    by false f =
        let arc : arc_of names m ≡ Some (record { first = place; «then» = m.task }) =
        ap (λ b. cond b None (Some (record { first = place_of names m.name; «then» = m.task }))) f
        ∙ ap (λ p. Some (record { first = p; «then» = m.task })) e in
        let pair : pair_of names m ≡ None =
        ap (λ b. cond b (Some (record { first = m.task; «then» = place_of names m.name })) None) f in
        let first : first_pair (ms ++ m ∷ []) ≡ first_pair ms =
        first_more ms m ∙ ap (λ b. cond b (first_of (first_pair ms) m.row) (first_pair ms)) f in
        same_links _ _ _ _ _ _
        (sym (arcs_more names ms m ∙ ap (λ o. arcs_of names ms ++ cons_option o []) arc))
        (sym (pairs_more names ms m ∙ ap (λ o. pairs_of names ms ++ cons_option o []) pair
        ∙ append-nil (pairs_of names ms)))
        (sym first)
    by true f =
        let arc : arc_of names m ≡ None =
        ap (λ b. cond b None (Some (record { first = place_of names m.name; «then» = m.task }))) f in
        let pair : pair_of names m ≡ Some (record { first = m.task; «then» = place }) =
        ap (λ b. cond b (Some (record { first = m.task; «then» = place_of names m.name })) None) f
        ∙ ap (λ p. Some (record { first = m.task; «then» = p })) e in
        let first : first_pair (ms ++ m ∷ []) ≡ first_of (first_pair ms) m.row =
        first_more ms m ∙ ap (λ b. cond b (first_of (first_pair ms) m.row) (first_pair ms)) f in
        same_links _ _ _ _ _ _
        (sym (arcs_more names ms m ∙ ap (λ o. arcs_of names ms ++ cons_option o []) arc
        ∙ append-nil (arcs_of names ms)))
        (sym (pairs_more names ms m ∙ ap (λ o. pairs_of names ms ++ cons_option o []) pair))
        (sym first)

-- how many members of a column there were is how many arcs or pairs there are
counted : (names : List (List ℕ)) (apart : Bool) (ms : List Member)
    → count_of apart (links_at names ms) ≡ count_in apart ms
counted names true [] = refl
counted names false [] = refl
counted names true (m ∷ ms) = by m.apart (counted names true ms)
  where
    by : (b : Bool) → length (pairs_of names ms) ≡ count_in true ms
        → length (cons_option (cond b (Some (record { first = m.task; «then» = place_of names m.name })) None)
        (pairs_of names ms)) ≡ length (cond b (m ∷ filter (λ m. m.apart) ms) (filter (λ m. m.apart) ms))
    by true e = ap suc e
    by false e = e
counted names false (m ∷ ms) = by m.apart (counted names false ms)
  where
    by : (b : Bool) → length (arcs_of names ms) ≡ count_in false ms
        → length (cons_option (cond b None (Some (record { first = place_of names m.name; «then» = m.task })))
        (arcs_of names ms)) ≡ length (cond (cond b false true) (m ∷ filter (λ m. cond m.apart false true) ms)
        (filter (λ m. cond m.apart false true) ms))
    by true e = e
    by false e = ap suc e

-- the name of a task is a name
named_is_name : (names : List (List ℕ)) (name : List ℕ) (j : ℕ) → AreNames names → task_named names name ≡ Some j
    → is_task_name name ≡ true
named_is_name names name j d h =
    let p = position-Some (λ n. bytes_eq n name) names j [] h in
    let is : name_at names j ≡ name = (bytes_eq-Decides (name_at names j) name).0 p.1 in
    let P : List ℕ → Type 0 = λ n. is_task_name n ≡ true in
    subst P is (d j [] p.0)

pub record IsStep (names : List (List ℕ)) (ms : List Member) (m : Member) : Type 0 where
  pub is : link_said names (owner_of m) m.name (links_at names ms)
      ≡ unless m.row (member_fault names ms m) (links_at names (ms ++ m ∷ []))

step : (names : List (List ℕ)) (ms : List Member) (m : Member) → AreNames names → IsStep names ms m
step names ms m d = record { is = by (task_named names m.name) refl }
  where
    many : count_of m.apart (links_at names ms) ≡ count_in m.apart ms
    many = counted names m.apart ms

    new : LinksSaid
    new = links_at names (ms ++ m ∷ [])

    unknown : (name room : Bool)
        → ◌≡◌ {A = Said LinksSaid} (Err (Record m.row (cond (not name) fault.BadName
        (cond room (fault.UnknownTask m.name) fault.TooManyArcs))))
        (unless m.row (cond (not name) (Some fault.BadName)
        (cond room (Some (fault.UnknownTask m.name)) (Some fault.TooManyArcs))) (links_at names (ms ++ m ∷ [])))
    unknown true true = refl
    unknown true false = refl
    unknown false room = refl

    known : (name room itself : Bool) (made : LinksSaid) → name ≡ true → made ≡ links_at names (ms ++ m ∷ [])
        → ◌≡◌ {A = Said LinksSaid} (cond room (cond itself (Err (Record m.row fault.Itself)) (Ok made))
        (Err (Record m.row fault.TooManyArcs)))
        (unless m.row (cond (not name) (Some fault.BadName)
        (cond room (cond itself (Some fault.Itself) None) (Some fault.TooManyArcs))) (links_at names (ms ++ m ∷ [])))
    known false room itself made e f = cc e
    known true true true made e f = refl
    known true true false made e f = ap (λ g. Ok g) f
    known true false itself made e f = refl

    by : (o : Option ℕ) → task_named names m.name ≡ o
        → placed_said o (owner_of m) m.name (links_at names ms)
        ≡ unless m.row (cond (not (is_task_name m.name)) (Some fault.BadName)
        (cond (nat_lt (count_in m.apart ms) 524288) (known_fault o m) (Some fault.TooManyArcs)))
        (links_at names (ms ++ m ∷ []))
    by None e = ap (λ k. Err (Record m.row (unknown_kind k m.name))) many
        ∙ unknown (is_task_name m.name) (nat_lt (count_in m.apart ms) 524288)
    by (Some j) e =
        let made : LinksSaid = with_link (links_at names ms) (owner_of m) j in
        let itself : Bool = m.apart && nat_eq j m.task in
        ap (λ k. cond (nat_lt k 524288) (cond itself (Err (Record m.row fault.Itself)) (Ok made))
        (Err (Record m.row fault.TooManyArcs))) many
        ∙ known (is_task_name m.name) (nat_lt (count_in m.apart ms) 524288) itself made
        (named_is_name names m.name j d e)
        (link_more names ms m j (ap (λ o. unwrap_or o 0) e))

-- ---- where the reading of the members ends

pub record IsFaultAt (names : List (List ℕ)) (all : List Member) (row : ℕ) (kind : TableKind) : Type 0 where
  pub place : ℕ
  pub within : place < length all
  pub row_is : row ≡ (member_at all place).row
  pub above : AreKnown names (take place all)
  pub what : member_fault names (take place all) (member_at all place) ≡ Some kind

pub record AreLinked (names : List (List ℕ)) (all : List Member) (g : LinksSaid) : Type 0 where
  pub known : AreKnown names all
  pub links : g ≡ links_at names all

abbrev pub IsFaultIn : List (List ℕ) → List Member → TableFault → Type 0
IsFaultIn names all (Record row kind) = IsFaultAt names all row kind
IsFaultIn names all (Cycle found) = ⊥

abbrev pub EndsLinks : List (List ℕ) → List Member → Said LinksSaid → Type 0
EndsLinks names all (Ok g) = AreLinked names all g
EndsLinks names all (Err f) = IsFaultIn names all f

nobody : Member
nobody = record { row = 0; task = 0; apart = false; name = [] }

abbrev IsKnownAt : List (List ℕ) → List Member → ℕ → Type 0
IsKnownAt names ms p = member_fault names (take p ms) (member_at ms p) ≡ None

known_more : (names : List (List ℕ)) (done more : List Member) (p : ℕ) → p < length done → IsKnownAt names done p
    → IsKnownAt names (done ++ more) p
known_more names done more p h s =
    let at : member_at (done ++ more) p ≡ member_at done p =
    get_or-append done more (record { row = 0; task = 0; apart = false; name = [] }) p h in
    let above : take p (done ++ more) ≡ take p done = take-append-le p done more (omega arith) in
    ap (λ m. member_fault names (take p (done ++ more)) m) at
    ∙ ap (λ xs. member_fault names xs (member_at done p)) above
    ∙ s

at_seam : (done : List Member) (m : Member) (more : List Member) → member_at (done ++ m ∷ more) (length done) ≡ m
at_seam done m more = get_or-append_seam done m more (record { row = 0; task = 0; apart = false; name = [] })

fault_at_seam : (names : List (List ℕ)) (done : List Member) (m : Member) (more : List Member)
    → member_fault names (take (length done) (done ++ m ∷ more)) (member_at (done ++ m ∷ more) (length done))
    ≡ member_fault names done m
fault_at_seam names done m more =
    ap (λ x. member_fault names (take (length done) (done ++ m ∷ more)) x) (at_seam done m more)
    ∙ ap (λ xs. member_fault names xs m) (take-append_seam done (m ∷ more))

all_known : (names : List (List ℕ)) (done : List Member) (m : Member) → AreKnown names done
    → member_fault names done m ≡ None → AreKnown names (done ++ m ∷ [])
all_known names done m s one p h = elim (cases_lt p (length done)) [
  | inl less ↦ known_more names done (m ∷ []) p less (s p less)
  | inr more ↦
      let same : length done ≡ p = omega (arith, more, h, length-append done (m ∷ [])) in
      let P : ℕ → Type 0 = λ k. IsKnownAt names (done ++ m ∷ []) k in
      subst P same (fault_at_seam names done m [] ∙ one)
]

-- one member more, where the reading of those behind it is known
one_on : (names : List (List ℕ)) (left done : List Member) (m : Member) (o : Option TableKind) → AreKnown names done
    → member_fault names done m ≡ o
    → (AreKnown names (done ++ m ∷ [])
    → EndsLinks names ((done ++ m ∷ []) ++ left) (all_said names left (links_at names (done ++ m ∷ []))))
    → EndsLinks names (done ++ m ∷ left) (next (unless m.row o (links_at names (done ++ m ∷ []))) (all_said names left))
one_on names left done m None k e go =
    let P : List Member → Type 0 = λ xs. EndsLinks names xs (all_said names left (links_at names (done ++ m ∷ []))) in
    subst P (append_assoc done (m ∷ []) left) (go (all_known names done m k e))
one_on names left done m (Some kind) k e go = record {
  place = length done;
  within = omega (arith, length-append done (m ∷ left));
  row_is = ap (λ x. x.row) (sym (at_seam done m left));
  above = subst (AreKnown names) (sym (take-append_seam done (m ∷ left))) k;
  what = fault_at_seam names done m left ∙ e;
}

walked : (names : List (List ℕ)) (left done : List Member) → AreNames names → AreKnown names done
    → EndsLinks names (done ++ left) (all_said names left (links_at names done))
walked names [] done d k =
    let same : done ≡ done ++ [] = sym (append-nil done) in
    record { known = subst (AreKnown names) same k; links = ap (links_at names) same }
walked names (m ∷ left) done d k =
    let P : Said LinksSaid → Type 0 = λ s. EndsLinks names (done ++ m ∷ left) (next s (all_said names left)) in
    subst P (sym (step names done m d).is)
    (one_on names left done m (member_fault names done m) k refl (λ more. walked names left (done ++ m ∷ []) d more))

pub links_end : (names : List (List ℕ)) (rest : List Fields) (said : Said LinksSaid) → AreNames names
    → lists_said names 0 (lists_from 2 rest) no_links ≡ said → EndsLinks names (members_from 2 0 rest) said
links_end names rest said d e =
    subst (EndsLinks names (members_from 2 0 rest)) (sym (as_members names rest 2 0 no_links) ∙ e)
    (walked names (members_from 2 0 rest) [] d (λ p h. absurd (omega (arith, h))))

-- ---- the members of one list

stops_next : {A B : Type 0} (e : Stop) (x : Said A) (f : A → Said B) → Stops e x → Stops e (next x f)
stops_next stop.Memory x f h = tt
stops_next (stop.Fault k) x f h = ap (λ s. next s f) h

-- what is left of a list makes what the whole list does
abbrev pub IsLeft : List (List ℕ) → Owner → List ℕ → LinksSaid → List ℕ → LinksSaid → Type 0
IsLeft names o list first left g =
    links_said names o (map unblanked (parts left)) g ≡ links_said names o (map unblanked (parts list)) first

members : (list : List ℕ) → list_all (λ b. nat_eq b 32) list ≡ false → members_of list ≡ map unblanked (parts list)
members list h = ap (λ b. cond b [] (map unblanked (parts list))) h

first_member : (names : List (List ℕ)) (o : Owner) (left : List ℕ) (k : ℕ) (n : List ℕ) (g : LinksSaid)
    → position (λ b. nat_eq b 59) left ≡ Some k → n ≡ unblanked (take k left)
    → links_said names o (map unblanked (parts left)) g
    ≡ next (link_said names o n g) (links_said names o (map unblanked (parts (drop (k + 1) left))))
first_member names o left k n g p is =
    ap (λ ps. links_said names o (map unblanked ps) g) (first_part left k p)
    ∙ ap (λ m. next (link_said names o m g) (links_said names o (map unblanked (parts (drop (k + 1) left))))) (sym is)

pub last_member : (names : List (List ℕ)) (o : Owner) (list left : List ℕ) (first g : LinksSaid) (n : List ℕ)
    → list_all (λ b. nat_eq b 32) list ≡ false → IsLeft names o list first left g
    → position (λ b. nat_eq b 59) left ≡ None → n ≡ unblanked left
    → link_said names o n g ≡ links_said names o (members_of list) first
last_member names o list left first g n some is p e =
    alone (link_said names o n g)
    ∙ ap (λ m. links_said names o (m ∷ []) g) e
    ∙ ap (λ ps. links_said names o (map unblanked ps) g) (sym (last_part left p))
    ∙ is ∙ ap (λ ms. links_said names o ms first) (sym (members list some))
  where
    alone : (x : Said LinksSaid) → x ≡ next x (links_said names o [])
    alone (Ok y) = refl
    alone (Err f) = refl

pub stopped_member : (names : List (List ℕ)) (o : Owner) (list left : List ℕ) (first g : LinksSaid) (k : ℕ) (n : List ℕ)
    (e : Stop) → list_all (λ b. nat_eq b 32) list ≡ false → IsLeft names o list first left g
    → position (λ b. nat_eq b 59) left ≡ Some k → n ≡ unblanked (take k left) → Stops e (link_said names o n g)
    → Stops e (links_said names o (members_of list) first)
stopped_member names o list left first g k n e some is p same h =
    let whole = sym (first_member names o left k n g p same) ∙ is
    ∙ ap (λ ms. links_said names o ms first) (sym (members list some)) in
    let P : Said LinksSaid → Type 0 = Stops e in
    subst P whole (stops_next e (link_said names o n g)
    (links_said names o (map unblanked (parts (drop (k + 1) left)))) h)

pub next_member : (names : List (List ℕ)) (o : Owner) (list left : List ℕ) (first g new : LinksSaid) (k : ℕ)
    (n : List ℕ)
    → IsLeft names o list first left g → position (λ b. nat_eq b 59) left ≡ Some k → n ≡ unblanked (take k left)
    → link_said names o n g ≡ Ok new
    → IsLeft names o list first (take (length left - (k + 1)) (drop (k + 1) left)) new
next_member names o list left first g new k n is p same h =
    ap (λ xs. links_said names o (map unblanked (parts xs)) new) (take_rest left (k + 1))
    ∙ ap (λ s. next s (links_said names o (map unblanked (parts (drop (k + 1) left))))) (sym h)
    ∙ sym (first_member names o left k n g p same) ∙ is
