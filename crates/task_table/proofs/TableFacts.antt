-- A table that is read, or its first fault.
use Rattle.std.proofs.Common.{◌≡◌, ◌≤◌, ◌<◌, ◌+◌, ◌-◌, ℕ, zero, suc, Bool, true, false, cond}
use Rattle.std.proofs.Common.{List, [], ◌∷◌, length, map, take, drop, Option, Some, None, Ok, Err}
use Rattle.std.proofs.Common.{refl, sym, ◌∙◌, ap, subst, arith, inl, inr}
use Rattle.std.specs.Prelude.{◌↔◌, bytes_eq, codes, filter}
use Rattle.std.proofs.lemmas.List.{get_or_read}
use Rattle.csv.specs.Reading.{strip_bom}
use Rattle.line_instance.specs.Line.{Line, tasks, Apart}
use Rattle.line_instance.specs.Made.{AreTimes, IsInstanceOf, IsMade}
use Rattle.line_instance.specs.Walks.{Leads, Walk, arc, on, AreArcs, ArePairs, arc_at, IsRing, IsGiven, at}
use Rattle.line_instance.specs.declared.arcs.Prec.{Prec}
use Rattle.line_instance.specs.declared.making.Made.{Made}
use Rattle.line_instance.specs.declared.making.Made.TheVariants.{Good, NoTasks, TooManyTasks, BadTime, BadArc}
use Rattle.line_instance.specs.declared.making.Made.TheVariants.{Cycle as Ringed, NoMemory as NoRoom}
use Rattle.task_names.specs.TaskNames.{AreDistinct, name_at}
use Rattle.task_table.specs.Marks.{has_bom, is_mark, first_mark, mark_behind, either_mark, table_mark, past_ends}
use Rattle.task_table.specs.Marks.{lowered}
use Rattle.task_table.specs.Records.{Fields, field, behind, names_in, says, record_at, columns_of, table_records}
use Rattle.task_table.specs.Lists.{members_in, arcs_of}
use Rattle.task_table.specs.Rows.{AreKnown, AreSound}
use Rattle.task_table.specs.Faults.{IsFirstFault}
use Rattle.task_table.specs.Tables.{IsSheetOf, IsTable, IsTableRead, IsWellFormed}
use Rattle.task_table.specs.inner.Reading.{Said, Stops, ListsSaid, TasksSaid, LinksSaid, no_links, lists_of, tasks_said}
use Rattle.task_table.specs.inner.Reading.{lists_said}
use Rattle.task_table.specs.inner.Building.{IsLineOf, IsCycleOf, StopsLinks, IsReadAs}
use Rattle.task_table.specs.declared.fault.TableFault.{TableFault}
use Rattle.task_table.specs.declared.fault.TableFault.TheVariants.{Record, Cycle}
use Rattle.task_table.specs.declared.stop.Stop.{Stop}
use Rattle.task_table.specs.declared.stop.Stop.TheVariants as stop
use Rattle.task_table.specs.declared.table.Table.{Table}
use Rattle.task_table.specs.declared.table.TableRead.{TableRead}
use Rattle.task_table.specs.declared.table.TableRead.TheVariants as read
use Rattle.task_table.proofs.TaskFacts.{AreTasksOf, lists_from, fault_is}
use Rattle.task_table.proofs.RightTasks.{AreRight, all_right, same_many}
use Rattle.task_table.proofs.MemberFacts.{links_at, links_end, EndsLinks}
use Rattle.task_table.proofs.LinkFacts.{fine_members, arcs_named, pairs_named}

-- ---- what is known of the tasks that were read

pub right_tasks : (records : List Fields) (d : TasksSaid) → AreTasksOf records d → AreRight d.names d.times
right_tasks records d a =
    let P : List (List ℕ) → Type 0 = λ ns. AreRight ns d.times in
    let Q : List ℕ → Type 0 = λ ts. AreRight (names_in (behind records)) ts in
    subst P (sym a.names) (subst Q (sym a.times) (all_right a.tasks.columns (behind records) a.tasks.sound))

pub right_times : (records : List Fields) (d : TasksSaid) → AreTasksOf records d → AreTimes d.times
right_times records d a =
    let right = right_tasks records d a in
    record {
      some = omega (arith, a.tasks.some, same_many (behind records), ap length a.times);
      few = omega (arith, right.few, same_many (behind records), ap length a.times, ap length a.names);
      limit = right.limit;
    }

pub as_many : (records : List Fields) (d : TasksSaid) → AreTasksOf records d → length d.names ≡ length d.times
as_many records d a = omega (arith, same_many (behind records), ap length a.times, ap length a.names)

lists_many : (rest : List Fields) (row : ℕ) → length (lists_from row rest) ≡ length (names_in rest)
lists_many [] row = refl
lists_many (r ∷ rest) row = by (says r) (lists_many rest (row + 1))
  where
    by : (b : Bool) → length (lists_from (row + 1) rest) ≡ length (names_in rest)
        → length (cond b (lists_of row r ∷ lists_from (row + 1) rest) (lists_from (row + 1) rest))
        ≡ length (map (λ r. field r 0) (cond b (r ∷ filter says rest) (filter says rest)))
    by true e = ap suc e
    by false e = e

pub lists_few : (records : List Fields) (d : TasksSaid) → AreTasksOf records d → length d.lists ≤ 1024
lists_few records d a =
    omega (arith, (right_tasks records d a).few, lists_many (behind records) 2, ap length a.lists, ap length a.names)

-- ---- what is known of their links

-- the links that were read of tasks
pub record AreLinksOf (records : List Fields) (d : TasksSaid) (g : LinksSaid) : Type 0 where
  pub known : AreKnown (names_in (behind records)) (members_in (behind records))
  pub links : g ≡ links_at (names_in (behind records)) (members_in (behind records))

ended : (records : List Fields) (d : TasksSaid) (said : Said LinksSaid) → AreTasksOf records d
    → lists_said d.names 0 d.lists no_links ≡ said
    → EndsLinks (names_in (behind records)) (members_in (behind records)) said
ended records d said a e =
    links_end (names_in (behind records)) (behind records) said
    (all_right a.tasks.columns (behind records) a.tasks.sound).each
    (ap (λ ns. lists_said ns 0 (lists_from 2 (behind records)) no_links) (sym a.names)
    ∙ ap (λ ls. lists_said d.names 0 ls no_links) (sym a.lists) ∙ e)

pub links_are : (records : List Fields) (d : TasksSaid) (g : LinksSaid) → AreTasksOf records d
    → lists_said d.names 0 d.lists no_links ≡ Ok g → AreLinksOf records d g
links_are records d g a e =
    let all = ended records d (Ok g) a e in
    record { known = all.known; links = all.links }

pub link_fault : (records : List Fields) (d : TasksSaid) (f : TableFault) → AreTasksOf records d
    → lists_said d.names 0 d.lists no_links ≡ Err f → IsFirstFault records f
link_fault records d (Record row kind) a e =
    let at = ended records d (Err (Record row kind)) a e in
    inr (inr (inr (record {
      tasks = a.tasks;
      place = at.place;
      within = at.within;
      number_is = at.row_is;
      above = at.above;
      what = at.what;
    })))
link_fault records d (Cycle found) a e = absurd (ended records d (Err (Cycle found)) a e)

pub right_arcs : (records : List Fields) (d : TasksSaid) (g : LinksSaid) → AreTasksOf records d → AreLinksOf records d g
    → AreArcs (length d.times) g.arcs
right_arcs records d g a l =
    let n : length (names_in (behind records)) ≡ length d.times =
    ap length (sym a.names) ∙ as_many records d a in
    let P : ℕ → Type 0 = λ n. AreArcs n g.arcs in
    let Q : List Prec → Type 0 = λ xs. AreArcs (length (names_in (behind records))) xs in
    subst P n (subst Q (sym (ap (λ g. g.arcs) l.links))
    (arcs_named (names_in (behind records)) (members_in (behind records)) (fine_members (behind records) l.known)))

pub right_pairs : (records : List Fields) (d : TasksSaid) (g : LinksSaid) → AreTasksOf records d
    → AreLinksOf records d g → ArePairs (length d.times) g.pairs
right_pairs records d g a l =
    let n : length (names_in (behind records)) ≡ length d.times =
    ap length (sym a.names) ∙ as_many records d a in
    let P : ℕ → Type 0 = λ n. ArePairs n g.pairs in
    let Q : List Prec → Type 0 = λ xs. ArePairs (length (names_in (behind records))) xs in
    subst P n (subst Q (sym (ap (λ g. g.pairs) l.links))
    (pairs_named (names_in (behind records)) (members_in (behind records)) (fine_members (behind records) l.known)))

-- ---- what comes of it

pub cycle_fault : (records : List Fields) (d : TasksSaid) (g : LinksSaid) (found : List (List ℕ)) → AreTasksOf records d
    → AreLinksOf records d g → IsCycleOf d.names g found → IsFirstFault records (Cycle found)
cycle_fault records d g found a l c =
    let P : List Prec → Type 0 = λ arcs. IsRing arcs c.ring in
    record {
      tasks = a.tasks;
      known = l.known;
      ring = c.ring;
      closed = subst P (ap (λ g. g.arcs) l.links) c.closed;
      named = c.named ∙ ap (λ ns. map (name_at ns) c.ring) a.names;
    }

pub sheet_is : (records : List Fields) (d : TasksSaid) (g : LinksSaid) (line : Line) → AreTasksOf records d
    → AreLinksOf records d g → IsLineOf d.times g line → IsSheetOf records line
sheet_is records d g line a l is =
    let arcs : g.arcs ≡ arcs_of (names_in (behind records)) (members_in (behind records)) = ap (λ g. g.arcs) l.links in
    let P : List Prec → Type 0 = λ xs. IsInstanceOf d.times xs is.whole in
    let Q : List ℕ → Type 0 = λ ts. IsInstanceOf ts (arcs_of (names_in (behind records)) (members_in (behind records)))
    is.whole in
    let R : List Prec → Type 0 = λ xs. (i j : ℕ) → Apart line i j ↔ IsGiven xs i j in
    record {
      tasks = a.tasks;
      known = l.known;
      whole = is.whole;
      made = subst Q a.times (subst P arcs is.made);
      times = is.times_are;
      before = is.before;
      order = is.order;
      apart = subst R (ap (λ g. g.pairs) l.links) is.apart;
    }

-- ---- each end of the reading

pub of_lists : (names others : List (List ℕ)) (lists given : List ListsSaid) (said : Said LinksSaid) → others ≡ names
    → given ≡ lists → lists_said others 0 given no_links ≡ said → lists_said names 0 lists no_links ≡ said
of_lists names others lists given said e f h = ap (λ ns. lists_said ns 0 lists no_links) (sym e)
    ∙ ap (λ ls. lists_said others 0 ls no_links) (sym f) ∙ h

pub stops_at : (names others : List (List ℕ)) (lists given : List ListsSaid) (e : Stop) → others ≡ names → given ≡ lists
    → Stops e (lists_said others 0 given no_links) → Stops e (lists_said names 0 lists no_links)
stops_at names others lists given e same also h =
    let P : Said LinksSaid → Type 0 = Stops e in
    subst P (sym (of_lists names others lists given (lists_said others 0 given no_links) same also refl)) h

pub stops_tasks : (mark : ℕ) (bytes : List ℕ) (e : Stop) → Stops e (tasks_said (table_records mark bytes))
    → IsReadAs mark bytes (Err e)
stops_tasks mark bytes stop.Memory h = tt
stops_tasks mark bytes (stop.Fault f) h = fault_is (table_records mark bytes) f h

pub stops_links : (mark : ℕ) (bytes : List ℕ) (d : TasksSaid) (e : Stop) → AreTasksOf (table_records mark bytes) d
    → Stops e (lists_said d.names 0 d.lists no_links) → IsReadAs mark bytes (Err e)
stops_links mark bytes d stop.Memory a h = tt
stops_links mark bytes d (stop.Fault f) a h = link_fault (table_records mark bytes) d f a h

pub stops_line : (mark : ℕ) (bytes : List ℕ) (d : TasksSaid) (g : LinksSaid) (e : Stop)
    → AreTasksOf (table_records mark bytes) d → AreLinksOf (table_records mark bytes) d g → StopsLinks d.names g e
    → IsReadAs mark bytes (Err e)
stops_line mark bytes d g stop.Memory a l h = tt
stops_line mark bytes d g (stop.Fault (Record row kind)) a l h = absurd h
stops_line mark bytes d g (stop.Fault (Cycle found)) a l h = cycle_fault (table_records mark bytes) d g found a l h

-- the table of tasks and links
pub record IsTableOf (mark : ℕ) (bytes : List ℕ) (d : TasksSaid) (g : LinksSaid) (t : Table) : Type 0 where
  pub line : IsLineOf d.times g t.inst
  pub names : t.names ≡ d.names
  pub mark_is : t.mark ≡ mark
  pub bom : t.bom ≡ has_bom bytes
  pub pairs : t.pairs.items ≡ g.pairs
  pub pairs_at : t.pairs_at ≡ g.pairs_at

pub table_is : (mark : ℕ) (bytes : List ℕ) (d : TasksSaid) (g : LinksSaid) (t : Table)
    → AreTasksOf (table_records mark bytes) d → AreLinksOf (table_records mark bytes) d g
    → IsTableOf mark bytes d g t → IsTable mark bytes t
table_is mark bytes d g t a l is = record {
  sheet = sheet_is (table_records mark bytes) d g t.inst a l is.line;
  names = is.names ∙ a.names;
  mark_is = is.mark_is;
  bom = is.bom;
  pairs = is.pairs ∙ ap (λ g. g.pairs) l.links;
  pairs_at = is.pairs_at ∙ ap (λ g. g.pairs_at) l.links;
}

-- ---- a fault excludes a table

not_both : {A B : Type 0} (o : Option A) (x : A) → o ≡ None → o ≡ Some x → B
not_both o x e f = cc (sym e ∙ f)

same_columns : (records : List Fields) (a b : ℕ) → columns_of (record_at records 0) ≡ Some a
    → columns_of (record_at records 0) ≡ Some b → a ≡ b
same_columns records a b e f = let same : Some a ≡ Some b = sym e ∙ f in cc

-- a walk along a ring from its first task
walk_to : (arcs : List Prec) (ring : List ℕ) (k : ℕ) → IsRing arcs ring → suc k < length ring
    → Walk arcs (at ring 0) (at ring (suc k))
walk_to arcs ring zero r l = arc (r.leads 0 (omega arith))
walk_to arcs ring (suc k) r l =
    let P : ℕ → Type 0 = λ m. Leads arcs (at ring (suc k)) (at ring m) in
    let next : suc k + 1 ≡ suc (suc k) = omega arith in
    on (walk_to arcs ring k r (omega arith)) (subst P next (r.leads (suc k) (omega arith)))

round_from : (arcs : List Prec) (ring : List ℕ) (n : ℕ) → length ring ≡ suc n → IsRing arcs ring
    → Walk arcs (at ring 0) (at ring 0)
round_from arcs ring zero e r = arc (r.closes 0 (omega arith))
round_from arcs ring (suc n) e r = on (walk_to arcs ring n r (omega arith)) (r.closes (suc n) (omega arith))

end_below : (arcs : List Prec) (n i j : ℕ) → AreArcs n arcs → Walk arcs i j → j < n
end_below arcs n i j a (arc l) =
    let is : record { first = i; «then» = j } ≡ arc_at arcs l.0 =
    get_or_read arcs l.0 (record { first = i; «then» = j }) l.1 (sym l.2) (record { first = 0; «then» = 0 }) in
    omega (arith, (a l.0 l.1).1, ap (λ p. p.«then») is)
end_below arcs n i j a (on {j = m} w l) =
    let is : record { first = m; «then» = j } ≡ arc_at arcs l.0 =
    get_or_read arcs l.0 (record { first = m; «then» = j }) l.1 (sym l.2) (record { first = 0; «then» = 0 }) in
    omega (arith, (a l.0 l.1).1, ap (λ p. p.«then») is)

-- no instance has a ring
no_ring : (ts : List ℕ) (arcs : List Prec) (line : Line) (ring : List ℕ) → IsInstanceOf ts arcs line
    → IsRing arcs ring → ⊥
no_ring ts arcs line ring i r =
    let some = r.some in
    let w : Walk arcs (at ring 0) (at ring 0) = round_from arcs ring (length ring - 1) (omega arith) r in
    let task : at ring 0 < tasks line =
    omega (arith, end_below arcs (length ts) (at ring 0) (at ring 0) i.named w, ap length i.times) in
    i.line_is.not_itself (at ring 0) ((i.before (at ring 0) task).all (at ring 0) w)

pub fault_excludes : (records : List Fields) (f : TableFault) (line : Line) → IsFirstFault records f
    → IsSheetOf records line → ⊥
fault_excludes records (Record row kind) line (inl f) s = not_both _ _ f.heading s.tasks.heading
fault_excludes records (Record row kind) line (inr (inl f)) s =
    let same = same_columns records s.tasks.columns f.columns s.tasks.heading f.heading in
    let sound = subst (λ c. AreSound c (behind records)) same s.tasks.sound in
    not_both _ _ (sound f.place f.within f.task) f.what
fault_excludes records (Record row kind) line (inr (inr (inl f))) s = omega (arith, s.tasks.some, ap length f.none)
fault_excludes records (Record row kind) line (inr (inr (inr f))) s = not_both _ _ (s.known f.place f.within) f.what
fault_excludes records (Cycle found) line f s = no_ring _ _ s.whole f.ring s.made f.closed

pub fault_has_none : (mark : ℕ) (bytes : List ℕ) (answer : TableRead) → IsTableRead mark bytes answer
    → (f : TableFault) → answer ≡ read.Fault f → (line : Line) → IsSheetOf (table_records mark bytes) line → ⊥
fault_has_none mark bytes answer is f e line s =
    fault_excludes (table_records mark bytes) f line (subst (IsTableRead mark bytes) e is) s

-- ---- what is true of each table

first_is_mark : (text : List ℕ) (mark : ℕ) → first_mark text ≡ Some mark → is_mark mark ≡ true
first_is_mark [] mark e = cc e
first_is_mark (b ∷ text) mark e = by (is_mark b) refl e
  where
    by : (yes : Bool) → is_mark b ≡ yes → cond yes (Some b) None ≡ Some mark → is_mark mark ≡ true
    by true is h = let same : b ≡ mark = cc h in ap is_mark (sym same) ∙ is
    by false is h = cc h

behind_is_mark : (word text : List ℕ) (mark : ℕ) → mark_behind word text ≡ Some mark → is_mark mark ≡ true
behind_is_mark word text mark e = by (bytes_eq (lowered (take (length word) text)) word) e
  where
    by : (yes : Bool) → cond yes (first_mark (drop (length word) text)) None ≡ Some mark → is_mark mark ≡ true
    by true h = first_is_mark (drop (length word) text) mark h
    by false h = cc h

pub mark_is : (bytes : List ℕ) (mark : ℕ) → table_mark bytes ≡ Some mark → is_mark mark ≡ true
mark_is bytes mark e = by (mark_behind (codes "task") text) refl e
  where
    text : List ℕ
    text = past_ends (strip_bom bytes)

    by : (o : Option ℕ) → mark_behind (codes "task") text ≡ o
        → either_mark o (mark_behind (codes "\"task\"") text) ≡ Some mark → is_mark mark ≡ true
    by (Some m) is h = behind_is_mark (codes "task") text mark (is ∙ h)
    by None is h = behind_is_mark (codes "\"task\"") text mark h

pub well_formed : (mark : ℕ) (bytes : List ℕ) (answer : TableRead) → IsTableRead mark bytes answer
    → is_mark mark ≡ true → IsWellFormed answer
well_formed mark bytes (read.Good t) is m =
    let rest : List Fields = behind (table_records mark bytes) in
    let right = all_right is.sheet.tasks.columns rest is.sheet.tasks.sound in
    let times : length t.inst.times ≡ length (names_in rest) =
    ap length (is.sheet.times ∙ is.sheet.made.times) ∙ same_many rest in
    let P : List (List ℕ) → Type 0 = AreDistinct in
    let Q : ℕ → Type 0 = λ n. ArePairs n t.pairs.items in
    let R : List Prec → Type 0 = λ xs. ArePairs (length (names_in rest)) xs in
    record {
      many = ap length is.names ∙ sym times;
      distinct = subst P (sym is.names) right.distinct;
      pairs = subst Q (sym times) (subst R (sym is.pairs)
          (pairs_named (names_in rest) (members_in rest) (fine_members rest is.sheet.known)));
      mark = ap is_mark is.mark_is ∙ m;
    }
well_formed mark bytes (read.Fault f) is m = tt
well_formed mark bytes read.NoMemory is m = tt

-- ---- making the instance

-- right times and arcs make an instance, or they have a cycle, or memory ran out
pub nothing_else : (times : List ℕ) (arcs : List Prec) (made : Made) → AreTimes times → AreArcs (length times) arcs
    → IsMade times arcs made → ((x : Line) → made ≡ Good x → ⊥) → ((x : List ℕ) → made ≡ Ringed x → ⊥)
    → (made ≡ NoRoom → ⊥) → ⊥
nothing_else times arcs (Good line) a b h good cycle memory = good line refl
nothing_else times arcs (Ringed ring) a b h good cycle memory = cycle ring refl
nothing_else times arcs NoRoom a b h good cycle memory = memory refl
nothing_else times arcs NoTasks a b h good cycle memory = omega (arith, a.some, ap length h)
nothing_else times arcs (TooManyTasks n) a b h good cycle memory = omega (arith, a.few, h.0, h.1)
nothing_else times arcs (BadTime i) a b h good cycle memory = omega (arith, a.limit i, h.2.above)
nothing_else times arcs (BadArc k) a b h good cycle memory = h.1.bad (b k h.1.place)

-- the tasks of a ring are tasks
pub ring_below : (arcs : List Prec) (n : ℕ) (ring : List ℕ) → AreArcs n arcs → IsRing arcs ring → (k : ℕ)
    → k < length ring → at ring k < n
ring_below arcs n ring a r zero h =
    let some = r.some in
    end_below arcs n (at ring (length ring - 1)) (at ring 0) a (arc (r.closes (length ring - 1) (omega arith)))
ring_below arcs n ring a r (suc k) h =
    let P : ℕ → Type 0 = λ m. Leads arcs (at ring k) (at ring m) in
    let next : k + 1 ≡ suc k = omega arith in
    end_below arcs n (at ring k) (at ring (suc k)) a (arc (subst P next (r.leads k (omega arith))))
