-- The members of the lists of a canonical table.
use Rattle.std.proofs.Common.{◌≡◌, ℕ, zero, suc, ◌+◌, ◌<◌, ◌≤◌, Bool, true, false, cond, nat_lt, List, [], ◌∷◌, ◌++◌}
use Rattle.std.proofs.Common.{length, get_or, refl, sym, ap, ◌∙◌, subst, inl, inr, arith}
use Rattle.std.proofs.Common.{append-nil, append_assoc, length-append}
use Rattle.std.specs.Prelude.{All, filter, map, take}
use Rattle.std.specs.List.{Contains}
use Rattle.std.proofs.lemmas.Bool.{and_parts, cases_lt, false≢true, lt-ltb, or_left}
use Rattle.std.proofs.lemmas.List.{map-append}
use Rattle.std.proofs.lemmas.List.Elements.{All-append, All-map, Contains-append_left, Contains-append_right}
use Rattle.std.proofs.lemmas.List.Elements.{filter-append}
use Rattle.line_instance.specs.Line.{Line, IsLine, is_apart, is_before, tasks}
use Rattle.task_names.specs.TaskNames.{AreNames, name_at}
use Rattle.task_table.specs.Lists.{Member, count_in, members_from, members_in, members_of, row_members}
use Rattle.task_table.specs.Records.{Fields, field, says}
use Rattle.table_text.specs.TableText.{has_pair, is_direct, listed, record_of, some_below, those_below}
use Rattle.table_text.proofs.Below.{some_of}
use Rattle.table_text.proofs.Counted.{few_pairs, few_under, pairs, pairs_under}
use Rattle.table_text.proofs.Found.{all_below, all_pass, below_has, mapped_has, none_pass, taken_pass}
use Rattle.table_text.proofs.Joined.{some_name, those_within}
use Rattle.table_text.proofs.ListedNames.{IsMember, is_member, names_read}

-- a member of a list of task j that names task i
abbrev pub member_of : List (List ℕ) → Bool → ℕ → ℕ → Member
member_of names apart j i = record { row = 2 + j; task = j; apart = apart; name = name_at names i }

-- the members of both lists of task j
abbrev pub said_of : Line → List (List ℕ) → ℕ → List Member
said_of line names j =
    map (member_of names false j) (those_below (is_direct line j) (tasks line))
    ++ map (member_of names true j) (those_below (λ i. is_apart line i j) j)

-- the members of the lists of the first tasks
abbrev pub said : Line → List (List ℕ) → ℕ → List Member
said line names zero = []
said line names (suc j) = said line names j ++ said_of line names j

-- of a task's record, and of those of the first tasks
abbrev pub task_row : Line → List (List ℕ) → ℕ → Fields
task_row line names j = record_of line names (has_pair line) j

abbrev pub task_rows : Line → List (List ℕ) → ℕ → List Fields
task_rows line names n = map (task_row line names) (those_below (λ i. true) n)

map_map : (f : List ℕ → Member) (g : ℕ → List ℕ) (is : List ℕ) → map f (map g is) ≡ map (λ i. f (g i)) is
map_map f g [] = refl
map_map f g (i ∷ is) = ap (λ (t : List Member). f (g i) ∷ t) (map_map f g is)

module _ (line : Line) (names : List (List ℕ)) (ok : IsLine line) (many : length names ≡ tasks line)
    (named : AreNames names) where
  -- each list of names is read again
  list_read : (is : List ℕ) → All (λ i. i < tasks line) is → members_of (listed names is) ≡ map (name_at names) is
  list_read is within = names_read (map (name_at names) is)
      (All-map IsMember (name_at names) is
      (λ k d l. is_member (name_at names (get_or is k d))
      (named (get_or is k d) [] (omega (arith, many, within k d l)))))

  none_below : (p : ℕ → Bool) (n : ℕ) → ((i : ℕ) → i < n → p i ≡ false) → those_below p n ≡ []
  none_below p zero h = refl
  none_below p (suc n) h =
      ap (λ (t : List ℕ). t ++ cond (p n) (n ∷ []) []) (none_below p n (λ i l. h i (omega (arith, l))))
      ∙ ap (λ b. cond b (n ∷ []) []) (h n (omega arith))

  by_truth : (b : Bool) → (b ≡ true → ⊥) → b ≡ false
  by_truth true h = absurd (h refl)
  by_truth false h = refl

  -- without a pair nothing is apart
  no_pair : (i j : ℕ) → i < tasks line → j < tasks line → has_pair line ≡ false → is_apart line i j ≡ false
  no_pair i j l m e = by_truth (is_apart line i j) (λ g. false≢true (sym e
      ∙ some_of (λ j. some_below (λ i. is_apart line i j) (tasks line)) (tasks line) j m
      (some_of (λ i. is_apart line i j) (tasks line) i l g)))

  before_read : (j : ℕ) → members_of (field (task_row line names j) 2)
      ≡ map (name_at names) (those_below (is_direct line j) (tasks line))
  before_read j = list_read (those_below (is_direct line j) (tasks line))
      (those_within (is_direct line j) (tasks line) (tasks line) (omega arith))

  apart_read : (j : ℕ) → j < tasks line → members_of (field (task_row line names j) 3)
      ≡ map (name_at names) (those_below (λ i. is_apart line i j) j)
  apart_read j l = by (has_pair line) refl
    where
      by : (b : Bool) → has_pair line ≡ b → members_of (field (record_of line names b j) 3)
          ≡ map (name_at names) (those_below (λ i. is_apart line i j) j)
      by true e = list_read (those_below (λ i. is_apart line i j) j)
          (those_within (λ i. is_apart line i j) j (tasks line) (omega (arith, l)))
      by false e = sym (ap (map (name_at names)) (none_below (λ i. is_apart line i j) j
          (λ i m. no_pair i j (omega (arith, l, m)) l e)))

  row_read : (j : ℕ) → j < tasks line → row_members (2 + j) j (task_row line names j) ≡ said_of line names j
  row_read j l =
      let before : List ℕ = those_below (is_direct line j) (tasks line) in
      let parted : List ℕ = those_below (λ i. is_apart line i j) j in
      let f : Bool → List ℕ → Member = λ b n. record { row = 2 + j; task = j; apart = b; name = n } in
      ap (λ (t : List (List ℕ)). map (f false) t ++ map (f true) (members_of (field (task_row line names j) 3)))
      (before_read j)
      ∙ ap (λ (t : List (List ℕ)). map (f false) (map (name_at names) before) ++ map (f true) t) (apart_read j l)
      ∙ ap (λ (t : List Member). t ++ map (f true) (map (name_at names) parted))
      (map_map (f false) (name_at names) before)
      ∙ ap (λ (t : List Member). map (member_of names false j) before ++ t) (map_map (f true) (name_at names) parted)

  -- each record says something, since its name isn't empty
  pub row_says : (j : ℕ) → j < tasks line → says (task_row line names j) ≡ true
  row_says j l =
      let some : 0 < length (name_at names j) = some_name (name_at names j) (named j [] (omega (arith, many, l))) in
      or_left (nat_lt 0 (length (name_at names j))) _ (lt-ltb 0 (length (name_at names j)) some)

  one_more : (r : Fields) (at task : ℕ) → says r ≡ true → members_from at task (r ∷ []) ≡ row_members at task r
  one_more r at task e =
      ap (λ b. cond b (row_members at task r ++ []) []) e ∙ append-nil (row_members at task r)

  -- a record behind others that all say something
  behind_more : (xs : List Fields) (r : Fields) (at task : ℕ) → All (λ x. says x ≡ true) xs → says r ≡ true
      → members_from at task (xs ++ r ∷ []) ≡ members_from at task xs
      ++ row_members (at + length xs) (task + length xs) r
  behind_more [] r at task h e =
      one_more r at task e
      ∙ ap (λ n. row_members n task r) (let s : at ≡ at + 0 = omega arith in s)
      ∙ ap (λ n. row_members (at + 0) n r) (let s : task ≡ task + 0 = omega arith in s)
  behind_more (x ∷ xs) r at task h e =
      let first : says x ≡ true = h 0 [] (omega arith) in
      let a : List Member = row_members at task x in
      let b : List Member = members_from (suc at) (suc task) xs in
      let one : suc at + length xs ≡ at + suc (length xs) = omega arith in
      let two : suc task + length xs ≡ task + suc (length xs) = omega arith in
      ap (λ t. cond t (a ++ members_from (suc at) (suc task) (xs ++ r ∷ []))
      (members_from (suc at) task (xs ++ r ∷ [])))
      first
      ∙ ap (λ (t : List Member). a ++ t)
      (behind_more xs r (suc at) (suc task) (λ i d l. h (suc i) d (omega (arith, l))) e)
      ∙ sym (append_assoc a b (row_members (suc at + length xs) (suc task + length xs) r))
      ∙ ap (λ n. (a ++ b) ++ row_members n (suc task + length xs) r) one
      ∙ ap (λ n. (a ++ b) ++ row_members (at + suc (length xs)) n r) two
      ∙ ap (λ (t : List Member). t ++ row_members (at + suc (length xs)) (task + suc (length xs)) r)
      (sym (ap (λ t. cond t (a ++ b) (members_from (suc at) task xs)) first))

  pub length-rows : (n : ℕ) → length (task_rows line names n) ≡ n
  length-rows zero = refl
  length-rows (suc n) =
      ap length (map-append (task_row line names) (those_below (λ i. true) n) (n ∷ []))
      ∙ length-append (task_rows line names n) (task_row line names n ∷ [])
      ∙ (let s : length (task_rows line names n) + 1 ≡ suc n = omega (arith, length-rows n) in s)

  pub all_say : (n : ℕ) → n ≤ tasks line → All (λ x. says x ≡ true) (task_rows line names n)
  all_say n l = All-map (λ x. says x ≡ true) (task_row line names) (those_below (λ i. true) n)
      (all_below (λ j. says (task_row line names j) ≡ true) (λ i. true) n (λ j m e. row_says j (omega (arith, l, m))))

  pub said_read : (n : ℕ) → n ≤ tasks line → members_in (task_rows line names n) ≡ said line names n
  said_read zero l = refl
  said_read (suc n) l =
      let xs : List Fields = task_rows line names n in
      let one : 2 + length xs ≡ 2 + n = omega (arith, length-rows n) in
      let two : 0 + length xs ≡ n = omega (arith, length-rows n) in
      ap (members_from 2 0) (map-append (task_row line names) (those_below (λ i. true) n) (n ∷ []))
      ∙ behind_more xs (task_row line names n) 2 0 (all_say n (omega (arith, l))) (row_says n (omega (arith, l)))
      ∙ ap (λ m. members_from 2 0 xs ++ row_members m (0 + length xs) (task_row line names n)) one
      ∙ ap (λ m. members_from 2 0 xs ++ row_members (2 + n) m (task_row line names n)) two
      ∙ ap (λ (t : List Member). members_from 2 0 xs ++ t) (row_read n (omega (arith, l)))
      ∙ ap (λ (t : List Member). t ++ said_of line names n) (said_read n (omega (arith, l)))

-- What a member of a list says: a task that is directly before its task, or one of a smaller number that is apart from
-- it.
pub record IsSaid (line : Line) (names : List (List ℕ)) (m : Member) : Type 0 where
  pub other : ℕ
  pub within : other < tasks line
  pub task : m.task < tasks line
  pub name : m.name ≡ name_at names other
  pub before : m.apart ≡ false → is_direct line m.task other ≡ true
  pub parted : m.apart ≡ true → is_apart line other m.task ≡ true

module _ (line : Line) (names : List (List ℕ)) where
  one_said : (j : ℕ) → j < tasks line → All (IsSaid line names) (said_of line names j)
  one_said j l = All-append (IsSaid line names)
      (map (member_of names false j) (those_below (is_direct line j) (tasks line)))
      (map (member_of names true j) (those_below (λ i. is_apart line i j) j))
      (All-map (IsSaid line names) (member_of names false j) (those_below (is_direct line j) (tasks line))
      (all_below (λ i. IsSaid line names (member_of names false j i)) (is_direct line j) (tasks line)
      (λ i m e. record {
        other = i;
        within = m;
        task = l;
        name = refl;
        before = λ f. e;
        parted = λ f. absurd (false≢true f);
      })))
      (All-map (IsSaid line names) (member_of names true j) (those_below (λ i. is_apart line i j) j)
      (all_below (λ i. IsSaid line names (member_of names true j i)) (λ i. is_apart line i j) j
      (λ i m e. record {
        other = i;
        within = omega (arith, l, m);
        task = l;
        name = refl;
        before = λ f. absurd (false≢true (sym f));
        parted = λ f. e;
      })))

  pub all_said : (n : ℕ) → n ≤ tasks line → All (IsSaid line names) (said line names n)
  all_said zero l = λ i d m. absurd (omega (arith, m))
  all_said (suc n) l = All-append (IsSaid line names) (said line names n) (said_of line names n)
      (all_said n (omega (arith, l))) (one_said n (omega (arith, l)))

  -- what is said of a task is said of all
  said_more : (n j : ℕ) (m : Member) → j < n → Contains (said_of line names j) m → Contains (said line names n) m
  said_more zero j m l c = absurd (omega (arith, l))
  said_more (suc n) j m l c = elim (cases_lt j n) [
    | inl h ↦ Contains-append_left (said line names n) (said_of line names n) m (said_more n j m h c)
    | inr h ↦
        let same : j ≡ n = omega (arith, l, h) in
        let P : ℕ → Type 0 = λ k. Contains (said_of line names k) m in
        Contains-append_right (said line names n) (said_of line names n) m (subst P same c)
  ]

  pub before_said : (i j n : ℕ) → j < n → i < tasks line → is_direct line j i ≡ true
      → Contains (said line names n) (member_of names false j i)
  before_said i j n l m e = said_more n j (member_of names false j i) l
      (Contains-append_left (map (member_of names false j) (those_below (is_direct line j) (tasks line)))
      (map (member_of names true j) (those_below (λ k. is_apart line k j) j)) (member_of names false j i)
      (mapped_has (member_of names false j) (those_below (is_direct line j) (tasks line)) i
      (below_has (is_direct line j) (tasks line) i m e)))

  pub apart_said : (i j n : ℕ) → j < n → i < j → is_apart line i j ≡ true
      → Contains (said line names n) (member_of names true j i)
  apart_said i j n l m e = said_more n j (member_of names true j i) l
      (Contains-append_right (map (member_of names false j) (those_below (is_direct line j) (tasks line)))
      (map (member_of names true j) (those_below (λ k. is_apart line k j) j)) (member_of names true j i)
      (mapped_has (member_of names true j) (those_below (λ k. is_apart line k j) j) i
      (below_has (λ k. is_apart line k j) j i m e)))

  -- how many members there are
  count_both : (f : Member → Bool) (n : ℕ) → length (filter f (said line names (suc n)))
      ≡ length (filter f (said line names n))
      + (length (filter f (map (member_of names false n) (those_below (is_direct line n) (tasks line))))
      + length (filter f (map (member_of names true n) (those_below (λ i. is_apart line i n) n))))
  count_both f n =
      let a : List Member = map (member_of names false n) (those_below (is_direct line n) (tasks line)) in
      let b : List Member = map (member_of names true n) (those_below (λ i. is_apart line i n) n) in
      omega (
        arith,
        ap length (filter-append f (said line names n) (a ++ b)),
        length-append (filter f (said line names n)) (filter f (a ++ b)),
        ap length (filter-append f a b),
        length-append (filter f a) (filter f b),
      )

  before_count : (n : ℕ) → count_in false (said line names n) ≡ pairs (is_direct line) (tasks line) n
  before_count zero = refl
  before_count (suc n) = omega (
    arith,
    count_both (λ m. cond m.apart false true) n,
    before_count n,
    all_pass (λ m. cond m.apart false true) (member_of names false n) (λ i. refl)
        (those_below (is_direct line n) (tasks line)),
    none_pass (λ m. cond m.apart false true) (member_of names true n) (λ i. refl)
        (those_below (λ i. is_apart line i n) n),
  )

  apart_count : (n : ℕ) → count_in true (said line names n) ≡ pairs_under (λ j i. is_apart line i j) n
  apart_count zero = refl
  apart_count (suc n) = omega (
    arith,
    count_both (λ m. m.apart) n,
    apart_count n,
    none_pass (λ m. m.apart) (member_of names false n) (λ i. refl) (those_below (is_direct line n) (tasks line)),
    all_pass (λ m. m.apart) (member_of names true n) (λ i. refl) (those_below (λ i. is_apart line i n) n),
  )

  -- no task is directly before one that is directly before it
  one_way : IsLine line → (i j : ℕ) → is_direct line j i ≡ true → is_direct line i j ≡ true → ⊥
  one_way ok i j e f =
      let b = and_parts (is_before line i j) _ e in
      let c = and_parts (is_before line j i) _ f in
      ok.not_itself i (ok.leads_on i j i b.0 c.0)

  pub few_said : IsLine line → (apart : Bool) (p : ℕ) → count_in apart (take p (said line names (tasks line))) < 524288
  few_said ok true p = omega (
    arith,
    taken_pass (λ m. m.apart) p (said line names (tasks line)),
    apart_count (tasks line),
    few_under (λ j i. is_apart line i j) (tasks line) ok.small,
  )
  few_said ok false p = omega (
    arith,
    taken_pass (λ m. cond m.apart false true) p (said line names (tasks line)),
    before_count (tasks line),
    few_pairs (is_direct line) (tasks line) ok.small (λ i j e f. one_way ok i j e f),
  )
