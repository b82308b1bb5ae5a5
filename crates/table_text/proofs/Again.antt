-- A canonical table is read as the same tasks again.
use Rattle.std.proofs.Common.{◌≡◌, ℕ, zero, suc, ◌<◌, ◌≤◌, Bool, true, false, cond, ◌&&◌, not, nat_eq}
use Rattle.std.proofs.Common.{nat_lt, List, [], ◌∷◌, ◌++◌, length, get_or, take, drop, Option, Some, None, refl, sym}
use Rattle.std.proofs.Common.{ap}
use Rattle.std.proofs.Common.{◌∙◌, subst, inl, inr, arith, append-nil, append_assoc, decimal}
use Rattle.std.specs.Prelude.{◌↔◌, All, bytes_eq, filter, map, nat_le, unwrap_or}
use Rattle.std.specs.List.{list_all, list_any}
use Rattle.std.specs.Str.{chars, is_utf8}
use Rattle.std.proofs.Math.Seq.{take-append_seam, take-length, take-suc}
use Rattle.std.proofs.lemmas.Bool.{and_parts, cases_lt, false≢true, lt-ltb, ne_eqb}
use Rattle.std.proofs.lemmas.List.{get_or-take, get_or_append_left, get_or_default, get_or_past, get_or_push}
use Rattle.std.proofs.lemmas.List.{length-take-le, map-append}
use Rattle.std.proofs.lemmas.List.Folds.{list_any_none}
use Rattle.std.proofs.lemmas.List.Sums.{position_or_len_is}
use Rattle.std.proofs.lemmas.Option.{same_Some}
use Rattle.std.proofs.lemmas.Slice.Eq.{bytes_eq-Decides}
use Rattle.csv.specs.Reading.{default_config, records, strip_bom}
use Rattle.csv.specs.Writing.{default_writer, escaped, fields_text, is_blank, read_back, row_text}
use Rattle.in2_reader.proofs.Acyclic.{round}
use Rattle.in2_reader.proofs.CollectedPairs.{last_task}
use Rattle.in2_reader.proofs.Digits.{decimal_spells, number_read}
use Rattle.line_instance.specs.Line.{Line, IsLine, IsRanked, Apart, Before, is_before, tasks, time}
use Rattle.line_instance.specs.Walks.{IsGiven, IsRing, Leads, Walk}
use Rattle.line_instance.specs.declared.arcs.Prec.{Prec}
use Rattle.sheet_rows.proofs.SheetFacts.{read_again}
use Rattle.task_names.specs.TaskNames.{AreDistinct, AreNames, has_no_edge, is_name_char, is_task_name, name_at}
use Rattle.task_names.specs.TaskNames.{task_named}
use Rattle.task_table.specs.Faults.{IsFirstFault}
use Rattle.task_table.specs.Lists.{Member, arc_of, arcs_of, count_in, members_in, pair_of, pairs_of, place_of}
use Rattle.task_table.specs.Marks.{table_mark}
use Rattle.task_table.specs.Records.{Fields, columns_of, field, names_in, record_at, says, table_records}
use Rattle.task_table.specs.Rows.{known_fault, member_at, member_fault, task_fault, time_fault}
use Rattle.task_table.specs.Tables.{IsSheetOf, times_in}
use Rattle.task_table.specs.declared.fault.TableFault.{TableFault}
use Rattle.task_table.specs.declared.fault.TableFault.TheVariants.{Record, Cycle}
use Rattle.task_table.specs.declared.fault.TableKind.{TableKind}
use Rattle.task_table.specs.declared.fault.TableKind.TheVariants as fault
use Rattle.table_text.specs.TableText.{has_pair, heading, record_of, table_text, those_below}
use Rattle.table_text.proofs.CoverArcs.{AreArcsOf, before_of, walk_of}
use Rattle.table_text.proofs.Found.{all_contained, kept_all, kept_has}
use Rattle.table_text.proofs.SaidMembers.{IsSaid, all_said, apart_said, before_said, few_said, member_of, said}
use Rattle.table_text.proofs.SaidMembers.{said_read}
use Rattle.table_text.proofs.SaidMembers.{task_row, task_rows, all_say, length-rows}

-- the heading begins a text with no byte-order mark, and tells the table by its comma
heading_marks : (paired : Bool) (rest : List ℕ)
    → table_mark (row_text default_writer (heading paired) ++ rest) ≡ Some 44
unfolding is_blank fields_text strip_bom escaped
heading_marks true rest = refl
heading_marks false rest = refl

pub marked : (line : Line) (names : List (List ℕ)) → table_mark (table_text line names) ≡ Some 44
marked line names = heading_marks (has_pair line) _

no_bom : (paired : Bool) (rest : List ℕ) → strip_bom (row_text default_writer (heading paired) ++ rest)
    ≡ row_text default_writer (heading paired) ++ rest
unfolding is_blank fields_text strip_bom escaped
no_bom true rest = refl
no_bom false rest = refl

-- each record has a field
same_back : (line : Line) (names : List (List ℕ)) (paired : Bool) (is : List ℕ)
    → map read_back (map (record_of line names paired) is) ≡ map (record_of line names paired) is
same_back line names paired [] = refl
same_back line names paired (i ∷ is) =
    ap (λ (t : List Fields). record_of line names paired i ∷ t) (same_back line names paired is)

-- the records of the text are those that were written
pub same_records : (line : Line) (names : List (List ℕ)) → table_records 44 (table_text line names)
    ≡ heading (has_pair line) ∷ task_rows line names (tasks line)
same_records line names =
    ap (records default_config) (no_bom (has_pair line) _)
    ∙ read_again (heading (has_pair line) ∷ task_rows line names (tasks line))
    ∙ ap (λ (t : List Fields). heading (has_pair line) ∷ t)
    (same_back line names (has_pair line) (those_below (λ i. true) (tasks line)))

-- the columns of the heading
columns : (paired : Bool) (rest : List Fields)
    → columns_of (record_at (heading paired ∷ rest) 0) ≡ Some (cond paired 4 3)
columns true rest = refl
columns false rest = refl

truth_is : (b : Bool) → (b ≡ true → ⊥) → b ≡ false
truth_is true h = absurd (h refl)
truth_is false h = refl

-- the items of a list by their places
items_taken : {X : Type 0} (xs : List X) (d : X) (p : ℕ) → p ≤ length xs
    → map (λ i. get_or xs i d) (those_below (λ i. true) p) ≡ take p xs
items_taken xs d zero l = refl
items_taken xs d (suc p) l =
    map-append (λ i. get_or xs i d) (those_below (λ i. true) p) (p ∷ [])
    ∙ ap (λ (t : List _). t ++ get_or xs p d ∷ []) (items_taken xs d p (omega (arith, l)))
    ∙ sym (take-suc xs p d (omega (arith, l)))

filter_all : (xs : List Fields) → All (λ x. says x ≡ true) xs → filter says xs ≡ xs
filter_all [] h = refl
filter_all (x ∷ xs) h =
    ap (λ b. cond b (x ∷ filter says xs) (filter says xs)) (h 0 [] (omega arith))
    ∙ ap (λ (t : List Fields). x ∷ t) (filter_all xs (λ i d l. h (suc i) d (omega (arith, l))))

-- what is taken of the records of the first tasks, and what stands behind it
module _ (line : Line) (names : List (List ℕ)) where
  rows_more : (n : ℕ) → task_rows line names (suc n) ≡ task_rows line names n ++ task_row line names n ∷ []
  rows_more n = map-append (task_row line names) (those_below (λ i. true) n) (n ∷ [])

  rows_split : (p n : ℕ) → p ≤ n → (tail : List Fields) × (task_rows line names n ≡ task_rows line names p ++ tail)
  rows_split zero zero l = ([], refl)
  rows_split (suc p) zero l = absurd (omega (arith, l))
  rows_split p (suc n) l = elim (cases_lt n p) [
    | inl h ↦
        let same : suc n ≡ p = omega (arith, l, h) in
        ([], ap (task_rows line names) same ∙ sym (append-nil (task_rows line names p)))
    | inr h ↦
        let s = rows_split p n (omega (arith, h)) in (
          s.0 ++ task_row line names n ∷ [],
          rows_more n ∙ ap (λ (t : List Fields). t ++ task_row line names n ∷ []) s.1
              ∙ append_assoc (task_rows line names p) s.0 (task_row line names n ∷ []),
        )
  ]

  fields_read : (k : ℕ) (is : List ℕ) → map (λ r. field r k) (map (task_row line names) is)
      ≡ map (λ i. field (task_row line names i) k) is
  fields_read k [] = refl
  fields_read k (i ∷ is) = ap (λ (t : List (List ℕ)). field (task_row line names i) k ∷ t) (fields_read k is)

  -- what a function tells of the records that say something
  told_of : (f : Fields → ℕ) → ((i : ℕ) → f (task_row line names i) ≡ time line i) → (is : List ℕ)
      → map f (map (task_row line names) is) ≡ map (time line) is
  told_of f h [] = refl
  told_of f h (i ∷ is) = ap (λ (t : ℕ). t ∷ map f (map (task_row line names) is)) (h i)
      ∙ ap (λ (t : List ℕ). time line i ∷ t) (told_of f h is)

-- the tests of a record, and of a member, in their order
record_tests : {N : Type 0} (F : N → Option TableKind → Option TableKind) {m v : N} → m ≡ v
    → ((x : Option TableKind) → F v x ≡ x) → (a b c e f : Bool) → a ≡ false → b ≡ true → c ≡ true → e ≡ false
    → f ≡ true
    → cond a (Some fault.Form) (cond (not b) (Some fault.NotUtf8) (cond (not c) (Some fault.BadName)
    (F m (cond e (Some fault.RepeatedTask) (cond f None (Some fault.TooManyTasks)))))) ≡ None
record_tests F {m} {v} is passes a b c e f ea eb ec ee ef =
    let last : Bool → Bool → Option TableKind =
    λ x y. cond x (Some fault.RepeatedTask) (cond y None (Some fault.TooManyTasks)) in
    ap (λ t. cond t (Some fault.Form) (cond (not b) (Some fault.NotUtf8) (cond (not c) (Some fault.BadName)
    (F m (last e f))))) ea
    ∙ ap (λ t. cond (not t) (Some fault.NotUtf8) (cond (not c) (Some fault.BadName) (F m (last e f)))) eb
    ∙ ap (λ t. cond (not t) (Some fault.BadName) (F m (last e f))) ec
    ∙ ap (λ t. F t (last e f)) is
    ∙ passes (last e f)
    ∙ ap (λ t. last t f) ee
    ∙ ap (λ t. last false t) ef

member_tests : (a b : Bool) (o : Option ℕ) (m : Member) (j : ℕ) → a ≡ true → b ≡ true → o ≡ Some j
    → (m.apart && nat_eq j m.task) ≡ false
    → cond (not a) (Some fault.BadName) (cond b (known_fault o m) (Some fault.TooManyArcs)) ≡ None
member_tests a b o m j ea eb eo ej =
    ap (λ t. cond (not t) (Some fault.BadName) (cond b (known_fault o m) (Some fault.TooManyArcs))) ea
    ∙ ap (λ t. cond t (known_fault o m) (Some fault.TooManyArcs)) eb
    ∙ ap (λ q. known_fault q m) eo
    ∙ ap (λ t. cond t (Some fault.Itself) None) ej

none_some : {X : Type 0} (o : Option X) (x : X) → o ≡ None → o ≡ Some x → ⊥
none_some o x e f = absurd (cc (sym e ∙ f))

name_utf8 : (name : List ℕ) → is_task_name name ≡ true → is_utf8 name ≡ true
name_utf8 name h =
    let last : Bool = list_all is_name_char (chars name) && has_no_edge name in
    let a = and_parts (nat_lt 0 (length name)) (nat_le (length name) 64 && (is_utf8 name && last)) h in
    let b = and_parts (nat_le (length name) 64) (is_utf8 name && last) a.1 in
    (and_parts (is_utf8 name) last b.1).0

-- nothing stands behind the columns of a record
says_none : (line : Line) (names : List (List ℕ)) (b : Bool) (p : ℕ)
    → says (drop (cond b 4 3) (record_of line names b p)) ≡ false
says_none line names true p = refl
says_none line names false p = refl

module _ (line : Line) (names : List (List ℕ)) (ok : IsLine line) (ranked : IsRanked line)
    (many : length names ≡ tasks line) (named : AreNames names) (distinct : AreDistinct names) where
  abbrev n : ℕ
  n = tasks line

  abbrev recs : List Fields
  recs = task_rows line names n

  abbrev all : List Fields
  all = heading (has_pair line) ∷ recs

  abbrev members : List Member
  members = said line names n

  rows_say : (p : ℕ) → p ≤ n → filter says (task_rows line names p) ≡ task_rows line names p
  rows_say p l = filter_all (task_rows line names p) (all_say line names ok many named p l)

  names_first : (p : ℕ) → p ≤ n → names_in (task_rows line names p) ≡ take p names
  names_first p l =
      ap (map (λ r. field r 0)) (rows_say p l)
      ∙ fields_read line names 0 (those_below (λ i. true) p)
      ∙ items_taken names [] p (omega (arith, l, many))

  pub names_all : names_in recs ≡ names
  names_all = names_first n (omega arith) ∙ ap (λ k. take k names) (sym many) ∙ take-length names

  times_all : times_in recs ≡ line.times
  times_all =
      ap (map _) (rows_say n (omega arith))
      ∙ told_of line names _
      (λ i. (let small = ok.times i in (decimal_spells (time line i) (omega (arith, small))).value))
      (those_below (λ i. true) n)
      ∙ items_taken line.times 0 n (omega arith)
      ∙ take-length line.times

  members_all : members_in recs ≡ members
  members_all = said_read line names ok many named n (omega arith)

  -- the record at a place, and the names above it
  record_is : (p : ℕ) → p < n → record_at recs p ≡ task_row line names p
  record_is p l =
      let s = rows_split line names (suc p) n (omega (arith, l)) in
      ap (λ (t : List Fields). get_or t p []) s.1
      ∙ get_or_append_left (task_rows line names (suc p)) s.0 [] p
      (omega (arith, length-rows line names ok many named (suc p)))
      ∙ ap (λ (t : List Fields). get_or t p []) (rows_more line names p)
      ∙ get_or_push (task_rows line names p) (task_row line names p) [] p (length-rows line names ok many named p)

  above_is : (p : ℕ) → p < n → names_in (take p recs) ≡ take p names
  above_is p l =
      let s = rows_split line names p n (omega (arith, l)) in
      let long : p ≡ length (task_rows line names p) = sym (length-rows line names ok many named p) in
      ap (λ (t : List Fields). names_in (take p t)) s.1
      ∙ ap (λ k. names_in (take k (task_rows line names p ++ s.0))) long
      ∙ ap names_in (take-append_seam (task_rows line names p) s.0)
      ∙ names_first p (omega (arith, l))

  differ : (i j : ℕ) → i < n → j < n → (i ≡ j → ⊥) → bytes_eq (name_at names i) (name_at names j) ≡ false
  differ i j l m h = truth_is (bytes_eq (name_at names i) (name_at names j)) (λ e.
      h (distinct i j (omega (arith, l, many)) (omega (arith, m, many))
      ((bytes_eq-Decides (name_at names i) (name_at names j)).0 e)))

  -- no task above has the name
  new_name : (p : ℕ) → p < n → list_any (λ x. bytes_eq x (name_at names p)) (take p names) ≡ false
  new_name p l = list_any_none (λ x. bytes_eq x (name_at names p)) (take p names) (λ k d m.
      let P : List ℕ → Type 0 = λ x. bytes_eq x (name_at names p) ≡ false in
      let within : k < p = omega (arith, m, length-take-le p names (omega (arith, l, many))) in
      subst P (sym (get_or-take p names k d within ∙ get_or_default names k d [] (omega (arith, within, l, many))))
      (differ k p (omega (arith, within, l)) l (λ e. omega (arith, within, e))))

  sound : (p : ℕ) → p < n
      → task_fault (cond (has_pair line) 4 3) (names_in (take p recs)) (record_at recs p) ≡ None
  sound p l =
      let name : List ℕ = name_at names p in
      let good : is_task_name name ≡ true = named p [] (omega (arith, l, many)) in
      let small = ok.times p in
      let none : says (drop (cond (has_pair line) 4 3) (task_row line names p)) ≡ false =
      says_none line names (has_pair line) p in
      let number = number_read 200000000000000 (time line p) (decimal (time line p))
      (decimal_spells (time line p) (omega (arith, small))) small in
      let few : nat_lt (length (take p names)) 1024 ≡ true = lt-ltb (length (take p names)) 1024 (omega (
        arith,
        length-take-le p names (omega (arith, l, many)),
        l,
        ok.small,
      )) in
      ap (λ ns. task_fault (cond (has_pair line) 4 3) ns (record_at recs p)) (above_is p l)
      ∙ ap (λ r. task_fault (cond (has_pair line) 4 3) (take p names) r) (record_is p l)
      ∙ record_tests time_fault number (λ x. refl)
      (says (drop (cond (has_pair line) 4 3) (task_row line names p))) (is_utf8 name) (is_task_name name)
      (list_any (λ x. bytes_eq x name) (take p names)) (nat_lt (length (take p names)) 1024)
      none (name_utf8 name good) good (new_name p l) few

  -- the task of a name
  found : (i : ℕ) → i < n → task_named names (name_at names i) ≡ Some i
  found i l =
      let at = position_or_len_is (λ x. bytes_eq x (name_at names i)) names i [] (omega (arith, l, many))
      (λ k m. differ k i (omega (arith, m, l)) l (λ e. omega (arith, m, e)))
      (λ m. (bytes_eq-Decides (name_at names i) (name_at names i)).1 refl) in
      ap (λ k. cond (nat_lt k (length names)) (Some k) None) at
      ∙ ap (λ b. cond b (Some i) None) (lt-ltb i (length names) (omega (arith, l, many)))

  place_is : (i : ℕ) → i < n → place_of names (name_at names i) ≡ i
  place_is i l = ap (λ o. unwrap_or o 0) (found i l)

  -- nothing is wrong with any member
  known : (p : ℕ) → p < length members → member_fault names (take p members) (member_at members p) ≡ None
  known p l =
      let m : Member = member_at members p in
      let q : IsSaid line names m = all_said line names n (omega arith) p
      (record { row = 0; task = 0; apart = false; name = [] }) l in
      let N : List ℕ → Type 0 = λ x. is_task_name x ≡ true in
      member_tests (is_task_name m.name) (nat_lt (count_in m.apart (take p members)) 524288) (task_named names m.name) m
      q.other
      (subst N (sym q.name) (named q.other [] (omega (arith, q.within, many))))
      (lt-ltb (count_in m.apart (take p members)) 524288 (few_said line names ok m.apart p))
      (ap (task_named names) q.name ∙ found q.other q.within)
      (not_itself m q m.apart refl)
    where
      not_itself : (m : Member) (q : IsSaid line names m) (b : Bool) → m.apart ≡ b
          → (b && nat_eq q.other m.task) ≡ false
      not_itself m q false e = refl
      not_itself m q true e = ne_eqb q.other m.task (λ same.
          let P : ℕ → Type 0 = λ i. Apart line i m.task in
          ok.of_two m.task (subst P same (q.parted e)))

  -- the arcs of the members, and the pairs
  abbrev arcs : List Prec
  arcs = arcs_of names members

  arc_before : (m : Member) (a : Prec) → IsSaid line names m → arc_of names m ≡ Some a
      → Before line a.first a.«then»
  arc_before m a q e = by m.apart refl e
    where
      by : (b : Bool) → m.apart ≡ b
          → cond b None (Some (record { first = place_of names m.name; «then» = m.task })) ≡ Some a
          → Before line a.first a.«then»
      by true f e = absurd (none_some None a refl e)
      by false f e =
          let place : place_of names m.name ≡ q.other = ap (place_of names) q.name ∙ place_is q.other q.within in
          let direct = and_parts (is_before line q.other m.task) _ (q.before f) in
          let P : ℕ → Type 0 = λ i. Before line i m.task in
          let Q : Prec → Type 0 = λ a. Before line a.first a.«then» in
          subst Q (same_Some _ a e) (subst P (sym place) direct.0)

  arcs_are : AreArcsOf line arcs
  arcs_are = record {
    all = λ i j e l m. kept_has (arc_of names) members (member_of names false j i)
        (record { first = i; «then» = j }) (before_said line names i j n m l e)
        (ap (λ k. Some (record { first = k; «then» = j })) (place_is i l));
    right = λ i j l. all_contained (λ a. Before line a.first a.«then») arcs (record { first = i; «then» = j })
        (kept_all (arc_of names) (IsSaid line names) (λ a. Before line a.first a.«then») arc_before members
        (all_said line names n (omega arith))) l;
  }

  abbrev pairs : List Prec
  pairs = pairs_of names members

  pair_apart : (m : Member) (a : Prec) → IsSaid line names m → pair_of names m ≡ Some a
      → Apart line a.first a.«then»
  pair_apart m a q e = by m.apart refl e
    where
      by : (b : Bool) → m.apart ≡ b
          → cond b (Some (record { first = m.task; «then» = place_of names m.name })) None ≡ Some a
          → Apart line a.first a.«then»
      by false f e = absurd (none_some None a refl e)
      by true f e =
          let place : place_of names m.name ≡ q.other = ap (place_of names) q.name ∙ place_is q.other q.within in
          let P : ℕ → Type 0 = λ i. Apart line m.task i in
          let Q : Prec → Type 0 = λ a. Apart line a.first a.«then» in
          subst Q (same_Some _ a e) (subst P (sym place) (ok.both_ways q.other m.task (q.parted f)))

  leads_apart : (i j : ℕ) → Leads pairs i j → Apart line i j
  leads_apart i j l = all_contained (λ a. Apart line a.first a.«then») pairs (record { first = i; «then» = j })
      (kept_all (pair_of names) (IsSaid line names) (λ a. Apart line a.first a.«then») pair_apart members
      (all_said line names n (omega arith))) l

  given_apart : (i j : ℕ) → IsGiven pairs i j → Apart line i j
  given_apart i j (inl l) = leads_apart i j l
  given_apart i j (inr l) = ok.both_ways j i (leads_apart j i l)

  pair_leads : (i j : ℕ) → i < j → j < n → Apart line i j → Leads pairs j i
  pair_leads i j l m a = kept_has (pair_of names) members (member_of names true j i)
      (record { first = j; «then» = i }) (apart_said line names i j n m l a)
      (ap (λ k. Some (record { first = j; «then» = k })) (place_is i (omega (arith, l, m))))

  last_apart : (i j : ℕ) → Apart line i j → j < n
  last_apart i j a = elim (cases_lt j n) [
    | inl l ↦ l
    | inr g ↦ absurd (false≢true (sym (ap (λ r. get_or r i false)
        (get_or_past line.apart j [] (omega (arith, g, ok.apart_rows)))) ∙ a))
  ]

  apart_given : (i j : ℕ) → Apart line i j → IsGiven pairs i j
  apart_given i j a = elim (cases_lt i j) [
    | inl l ↦ inr (pair_leads i j l (last_apart i j a) a)
    | inr g ↦ elim (cases_lt j i) [
      | inl l ↦ inl (pair_leads j i l (last_apart j i (ok.both_ways i j a)) (ok.both_ways i j a))
      | inr k ↦
          let same : i ≡ j = omega (arith, g, k) in
          let P : ℕ → Type 0 = λ x. Apart line x j in absurd (ok.of_two j (subst P same a))
    ]
  ]

  -- the records have no fault
  columns_are : (k : ℕ) → columns_of (record_at all 0) ≡ Some k → k ≡ cond (has_pair line) 4 3
  columns_are k e = sym (same_Some _ k (sym (columns (has_pair line) recs) ∙ e))

  pub no_fault : (f : TableFault) → IsFirstFault all f → ⊥
  no_fault (Record number kind) h = elim h [
    | inl a ↦ none_some _ _ a.heading (columns (has_pair line) recs)
    | inr (inl a) ↦ (
        let P : ℕ → Type 0 = λ k. task_fault k (names_in (take a.place recs)) (record_at recs a.place) ≡ Some kind in
        none_some _ kind
        (sound a.place (omega (arith, a.within, length-rows line names ok many named n)))
        (subst P (columns_are a.columns a.heading) a.what))
    | inr (inr (inl a)) ↦ absurd (omega (arith, ok.some, many, ap length (sym names_all ∙ a.none)))
    | inr (inr (inr a)) ↦ (
        let P : List (List ℕ) → Type 0 = λ ns. member_fault ns (take a.place members) (member_at members a.place)
        ≡ Some kind in
        let Q : List Member → Type 0 = λ ms. member_fault (names_in recs) (take a.place ms) (member_at ms a.place)
        ≡ Some kind in
        none_some _ kind
        (known a.place (omega (arith, a.within, ap length members_all)))
        (subst P names_all (subst Q members_all a.what)))
  ]
  no_fault (Cycle ring) h =
      let P : List Member → Type 0 = λ ms. IsRing (arcs_of (names_in recs) ms) h.ring in
      let Q : List (List ℕ) → Type 0 = λ ns. IsRing (arcs_of ns members) h.ring in
      let closed : IsRing arcs h.ring = subst Q names_all (subst P members_all h.closed) in
      let first : ℕ = get_or h.ring 0 0 in
      ok.not_itself first (before_of line arcs ok ranked arcs_are (round arcs h.ring closed))

  same_arcs : arcs_of (names_in recs) (members_in recs) ≡ arcs
  same_arcs = ap (λ ns. arcs_of ns (members_in recs)) names_all ∙ ap (arcs_of names) members_all

  same_pairs : pairs_of (names_in recs) (members_in recs) ≡ pairs
  same_pairs = ap (λ ns. pairs_of ns (members_in recs)) names_all ∙ ap (pairs_of names) members_all

  module _ (t : Line) (sheet : IsSheetOf all t) where
    pub same_times : t.times ≡ line.times
    same_times = sheet.times ∙ sheet.made.times ∙ times_all

    abbrev whole : Line
    whole = sheet.whole

    whole_before : (i j : ℕ) → Before whole i j ↔ Before line i j
    whole_before i j = (
      λ b.
          let l = last_task whole i j sheet.made.line_is b in
          let P : List Prec → Type 0 = λ ps. Walk ps i j in
          before_of line arcs ok ranked arcs_are (subst P same_arcs ((sheet.made.before j l).walks i b)),
      λ b.
          let l : j < tasks whole = omega (
            arith,
            last_task line i j ok b,
            ap length (sheet.made.times ∙ times_all),
          ) in
          let P : List Prec → Type 0 = λ ps. Walk ps i j in
          (sheet.made.before j l).all i (subst P (sym same_arcs) (walk_of line arcs ok ranked arcs_are i j b)),
    )

    pub same_before : (i j : ℕ) → Before t i j ↔ Before line i j
    same_before i j =
        let P : List (List Bool) → Type 0 = λ rows. get_or (get_or rows j []) i false ≡ true in (
          λ b. (whole_before i j).0 (subst P sheet.before b),
          λ b. subst P (sym sheet.before) ((whole_before i j).1 b),
        )

    pub same_apart : (i j : ℕ) → Apart t i j ↔ Apart line i j
    same_apart i j =
        let P : List Prec → Type 0 = λ ps. IsGiven ps i j in (
          λ a. given_apart i j (subst P same_pairs ((sheet.apart i j).0 a)),
          λ a. (sheet.apart i j).1 (subst P (sym same_pairs) (apart_given i j a)),
        )
