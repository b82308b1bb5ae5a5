-- The canonical text of a line is read as that line.
use Rattle.std.proofs.Common.{◌≡◌, ◌∙◌, ℕ, zero, suc, ◌+◌, ◌^◌, ◌<◌, ◌≤◌, ◌&&◌, ◌||◌, true, false, cond, nat_eq}
use Rattle.std.proofs.Common.{nat_le, nat_lt, List, [], ◌∷◌, ◌++◌, length, Some, None, refl, sym, ap, arith}
use Rattle.std.proofs.Common.{append_assoc, length-append, inl, inr}
use Rattle.std.specs.Prelude.{decimal, codes}
use Rattle.std.specs.List.{flat_map, range_with_len}
use Rattle.std.proofs.lemmas.Bool.{cases_eq, eq-eqb, ne_eqb}
use Rattle.std.proofs.lemmas.Bool.Decides.{nat_tests}
use Rattle.line_io.specs.Lines.{all_digits}
use Rattle.line_io.specs.declared.text.Num.TheVariants.{Value}
use Rattle.line_instance.specs.declared.arcs.Prec.{Prec}
use Rattle.line_instance.specs.Line.{Line, tasks, time}
use Rattle.line_instance.specs.Walks.{AreArcs, Names}
use Rattle.in2_reader.specs.Contents.{Lines, contents_from}
use Rattle.in2_reader.specs.Pairs.{pair_in}
use Rattle.in2_reader.specs.declared.pair.Pair.TheVariants.{Arc}
use Rattle.in2_reader.proofs.Digits.{decimal_spells, content_read, digits_solid, pair_read}
use Rattle.in2_reader.proofs.Reread.{pair_lines, after}
use Rattle.alb_reader.specs.Faults.{timed, timed_fault, task_named, time_said, names, task_fault, arc_fault}
use Rattle.alb_reader.specs.Faults.{members_fault, value_or_0, AreRightFrom}
use Rattle.alb_reader.specs.Instance.{time_of, arcs_of, with_pair}
use Rattle.alb_reader.specs.Written.{tasks_section, cycle_section, timed_line}
use Rattle.alb_reader.specs.declared.fault.AlbKind.TheVariants.{BadTask, RepeatedTask, BadArc}
use Rattle.alb_reader.proofs.SectionFacts.{append_nil, or_assoc, or_false}
use Rattle.alb_reader.proofs.Blocks.{AreBodies, AreTimed, ArePaired}
use Rattle.alb_reader.proofs.WrittenLines.{content_at, timed_content, timed_read, digits_body, digits_plain, all_plain}
use Rattle.alb_reader.proofs.StatedLines.{in_range}

-- the lines of tasks and their times, from a line number on
unfoldable pub time_lines : Line → ℕ → List ℕ → Lines
time_lines line k [] = []
time_lines line k (i ∷ is) = (k, decimal (i + 1) ++ 32 ∷ decimal (time line i)) ∷ time_lines line (suc k) is

valued : (k v : ℕ) (rest : List ℕ) → v < 2 ^ 64 → contents_from k (decimal v ++ 10 ∷ 10 ∷ rest)
    ≡ (k, decimal v) ∷ contents_from (suc (suc k)) rest
valued k v rest h = (let s = decimal_spells v h in content_read k (decimal v) (10 ∷ rest)
    (digits_solid (decimal v) s.digits) s.some)

pub tasks_text : (n : ℕ) (rest : List ℕ) → n ≤ 1024 → contents_from 1 (tasks_section n ++ rest)
    ≡ (1, codes "<number of tasks>") ∷ (2, decimal n) ∷ contents_from 4 rest
tasks_text n rest h =
    ap (contents_from 1) (append_assoc (codes "<number of tasks>\n" ++ decimal n) (codes "\n\n") rest
    ∙ append_assoc (codes "<number of tasks>\n") (decimal n) (codes "\n\n" ++ rest))
    ∙ content_at 1 (codes "<number of tasks>") (decimal n ++ 10 ∷ 10 ∷ rest) refl refl (omega arith)
    ∙ ap (λ r. (1, codes "<number of tasks>") ∷ r) (valued 2 n rest (omega (arith, h)))

pub cycle_text : (c : ℕ) (rest : List ℕ) → c ≤ 1000000000000000000
    → contents_from 4 (cycle_section (Some c) ++ rest) ≡ (4, codes "<cycle time>") ∷ (5, decimal c) ∷ contents_from 7
    rest
cycle_text c rest h =
    ap (contents_from 4) (append_assoc (codes "<cycle time>\n" ++ decimal c) (codes "\n\n") rest
    ∙ append_assoc (codes "<cycle time>\n") (decimal c) (codes "\n\n" ++ rest))
    ∙ content_at 4 (codes "<cycle time>") (decimal c ++ 10 ∷ 10 ∷ rest) refl refl (omega arith)
    ∙ ap (λ r. (4, codes "<cycle time>") ∷ r) (valued 5 c rest (omega (arith, h)))

-- each of these is a task
abbrev pub AreTasks : ℕ → List ℕ → Type 0
AreTasks n [] = Unit {0}
AreTasks n (i ∷ is) = (i < n) × AreTasks n is

pub range_tasks : (n a m : ℕ) → a + m ≤ n → AreTasks n (range_with_len a m)
range_tasks n a zero h = tt
range_tasks n a (suc m) h = (omega (arith, h), range_tasks n (a + 1) m (omega (arith, h)))

module _ (line : Line) (few : tasks line ≤ 1024) (limit : (i : ℕ) → time line i ≤ 200000000000000) where
  one_timed : (k i : ℕ) (rest : List ℕ) → i < tasks line → contents_from k (timed_line line i ++ rest)
      ≡ (k, decimal (i + 1) ++ 32 ∷ decimal (time line i)) ∷ contents_from (suc k) rest
  one_timed k i rest h =
      let ds : List ℕ = decimal (i + 1) in
      let es : List ℕ = decimal (time line i) in
      let s = decimal_spells (i + 1) (omega (arith, h, few)) in
      let t = decimal_spells (time line i) (omega (arith, limit i)) in
      let text : timed_line line i ++ rest ≡ (ds ++ 32 ∷ es) ++ 10 ∷ rest =
      append_assoc ((ds ++ codes " ") ++ es) (codes "\n") rest
      ∙ ap (λ r. r ++ 10 ∷ rest) (append_assoc ds (codes " ") es) in
      ap (contents_from k) text
      ∙ content_at k (ds ++ 32 ∷ es) rest (digits_plain ds (32 ∷ es) s.digits (digits_all es t.digits))
      (timed_content ds es s.digits s.some t.digits t.some) (omega (arith, s.some, length-append ds (32 ∷ es)))
    where
      digits_all : (es : List ℕ) → all_digits es ≡ true → all_plain es ≡ true
      digits_all es e = ap all_plain (sym (append_nil es)) ∙ digits_plain es [] e refl

  pub times_text : (k : ℕ) (is rest : List ℕ) → AreTasks (tasks line) is
      → contents_from k (flat_map (timed_line line) is ++ rest) ≡ time_lines line k is
      ++ contents_from (after k is) rest
  unfolding time_lines after
  times_text k [] rest h = refl
  times_text k (i ∷ is) rest h =
      ap (contents_from k) (append_assoc (timed_line line i) (flat_map (timed_line line) is) rest)
      ∙ one_timed k i (flat_map (timed_line line) is ++ rest) h.0
      ∙ ap (λ r. (k, decimal (i + 1) ++ 32 ∷ decimal (time line i)) ∷ r) (times_text (suc k) is rest h.1)

  reads_as : (i : ℕ) → i < tasks line → timed (decimal (i + 1) ++ 32 ∷ decimal (time line i))
      ≡ (Value (i + 1), Value (time line i))
  reads_as i h =
      timed_read (i + 1) (time line i) (decimal (i + 1)) (decimal (time line i))
      (decimal_spells (i + 1) (omega (arith, h, few))) (decimal_spells (time line i) (omega (arith, limit i)))
      (omega (arith, h, few)) (limit i)

  pub time_bodies : (k : ℕ) (is : List ℕ) → AreTasks (tasks line) is → AreBodies (time_lines line k is)
  unfolding time_lines
  time_bodies k [] h = tt
  time_bodies k (i ∷ is) h = (let s = decimal_spells (i + 1) (omega (arith, h.0, few)) in
      (digits_body (decimal (i + 1)) (32 ∷ decimal (time line i)) s.digits s.some, time_bodies (suc k) is h.1))

  pub time_timed : (k : ℕ) (is : List ℕ) → AreTasks (tasks line) is → AreTimed (time_lines line k is)
  unfolding time_lines
  time_timed k [] h = tt
  time_timed k (i ∷ is) h = (ap (λ x. timed_fault x.0 x.1) (reads_as i h.0), time_timed (suc k) is h.1)

  task_is : (i : ℕ) → i < tasks line → task_named (decimal (i + 1) ++ 32 ∷ decimal (time line i)) ≡ i + 1
  task_is i h = ap (λ x. value_or_0 x.0) (reads_as i h)

  time_is : (i : ℕ) → i < tasks line → time_said (decimal (i + 1) ++ 32 ∷ decimal (time line i)) ≡ time line i
  time_is i h = ap (λ x. value_or_0 x.1) (reads_as i h)

  pub time_many : (k a m : ℕ) → length (time_lines line k (range_with_len a m)) ≡ m
  unfolding time_lines
  time_many k a zero = refl
  time_many k a (suc m) = ap suc (time_many (suc k) (a + 1) m)

  -- the time of a task among the lines of the tasks from a on
  pub found : (k a m i : ℕ) → a + m ≤ tasks line → a ≤ i → i < a + m
      → (names (suc i) (time_lines line k (range_with_len a m)) ≡ true)
      × (time_of (suc i) (time_lines line k (range_with_len a m)) ≡ time line i)
  unfolding time_lines
  found k a zero i h l g = absurd (omega (arith, l, g))
  found k a (suc m) i h l g =
      let here : a < tasks line = omega (arith, h) in
      let l0 : List ℕ = decimal (a + 1) ++ 32 ∷ decimal (time line a) in
      let rest : Lines = time_lines line (suc k) (range_with_len (a + 1) m) in
      elim (cases_eq a i) [
        | inl e ↦ (let same : nat_eq (task_named l0) (suc i) ≡ true =
            eq-eqb (task_named l0) (suc i) (task_is a here ∙ omega (arith, e)) in (
              ap (λ b. b || names (suc i) rest) same,
              ap (λ b. cond b (time_said l0) (time_of (suc i) rest)) same ∙ time_is a here ∙ ap (time line) e,
            ))
        | inr d ↦ (let other : nat_eq (task_named l0) (suc i) ≡ false =
            ne_eqb (task_named l0) (suc i) (λ e. d (omega (arith, e, task_is a here))) in
            let f = found (suc k) (a + 1) m i (omega (arith, h)) (omega (arith, l, d)) (omega (arith, g)) in (
              ap (λ b. b || names (suc i) rest) other ∙ f.0,
              ap (λ b. cond b (time_said l0) (time_of (suc i) rest)) other ∙ f.1,
            ))
      ]

  -- each line names a task that none before it names
  named_snoc : (v : ℕ) (xs : Lines) (l : ℕ × List ℕ) → names v (xs ++ l ∷ [])
      ≡ (names v xs || nat_eq (task_named l.1) v)
  named_snoc v [] l = or_false (nat_eq (task_named l.1) v)
  named_snoc v (x ∷ xs) l = ap (λ b. nat_eq (task_named x.1) v || b) (named_snoc v xs l)
      ∙ or_assoc (nat_eq (task_named x.1) v) (names v xs) (nat_eq (task_named l.1) v)

  pub tasks_right : (k a m : ℕ) (before : Lines) → a + m ≤ tasks line → ((i : ℕ) → a ≤ i → names (suc i) before ≡ false)
      → AreRightFrom (task_fault (tasks line)) before (time_lines line k (range_with_len a m))
  unfolding time_lines
  tasks_right k a zero before h n = tt
  tasks_right k a (suc m) before h n =
      let here : a < tasks line = omega (arith, h) in
      let l : ℕ × List ℕ = (k, decimal (a + 1) ++ 32 ∷ decimal (time line a)) in
      let v : task_named l.1 ≡ suc a = task_is a here ∙ omega arith in
      let good : (nat_le 1 (suc a) && nat_le (suc a) (tasks line)) ≡ true =
      in_range (tasks line) (suc a) (omega arith) (omega (arith, here)) in (
        ap (λ x. cond (nat_le 1 x && nat_le x (tasks line)) (cond (names x before) (Some RepeatedTask) None)
            (Some BadTask)) v
            ∙ ap (λ b. cond b (cond (names (suc a) before) (Some RepeatedTask) None) (Some BadTask)) good
            ∙ ap (λ b. cond b (Some RepeatedTask) None) (n a (omega arith)),
        tasks_right (suc k) (a + 1) m (before ++ l ∷ []) (omega (arith, h))
            (λ i g. named_snoc (suc i) before l ∙ ap (λ b. b || nat_eq (task_named l.1) (suc i))
            (n i (omega (arith, g))) ∙ ne_eqb (task_named l.1) (suc i) (λ e. absurd (omega (arith, e, v, g)))),
      )

-- the lines of pairs
module _ (n : ℕ) (few : n ≤ 1024) where
  one_pair : (a : Prec) → Names n a → pair_in 1024 (decimal (a.first + 1) ++ 44 ∷ decimal (a.«then» + 1)) ≡ Arc a
  one_pair a two = pair_read 1024 a.first a.«then» (decimal (a.first + 1)) (decimal (a.«then» + 1))
      (decimal_spells (a.first + 1) (omega (arith, two.0, few)))
      (decimal_spells (a.«then» + 1) (omega (arith, two.1, few))) (omega (arith, two.0, few))
      (omega (arith, two.1, few))

  pub pair_bodies : (k : ℕ) (ps : List Prec) → AreArcs n ps → AreBodies (pair_lines k ps)
  unfolding pair_lines
  pair_bodies k [] h = tt
  pair_bodies k (a ∷ ps) h = (let s = decimal_spells (a.first + 1) (omega (arith, (h 0 (omega arith)).0, few)) in (
    digits_body (decimal (a.first + 1)) (44 ∷ decimal (a.«then» + 1)) s.digits s.some,
    pair_bodies (suc k) ps (λ i l. h (suc i) (omega (arith, l))),
  ))

  pub pair_paired : (k : ℕ) (ps : List Prec) → AreArcs n ps → ArePaired (pair_lines k ps)
  unfolding pair_lines
  pair_paired k [] h = tt
  pair_paired k (a ∷ ps) h = (
    (a, one_pair a (h 0 (omega arith))),
    pair_paired (suc k) ps (λ i l. h (suc i) (omega (arith, l))),
  )

  pub pair_arcs : (k : ℕ) (ps : List Prec) → AreArcs n ps → arcs_of (pair_lines k ps) ≡ ps
  unfolding pair_lines
  pair_arcs k [] h = refl
  pair_arcs k (a ∷ ps) h = ap (λ p. with_pair p (arcs_of (pair_lines (suc k) ps))) (one_pair a (h 0 (omega arith)))
      ∙ ap (λ r. a ∷ r) (pair_arcs (suc k) ps (λ i l. h (suc i) (omega (arith, l))))

  pub pair_many : (k : ℕ) (ps : List Prec) → length (pair_lines k ps) ≡ length ps
  unfolding pair_lines
  pair_many k [] = refl
  pair_many k (a ∷ ps) = ap suc (pair_many (suc k) ps)

  pub arcs_right : (k : ℕ) (ps : List Prec) (before : Lines) → AreArcs n ps
      → AreRightFrom (arc_fault n) before (pair_lines k ps)
  unfolding pair_lines
  arcs_right k [] before h = tt
  arcs_right k (a ∷ ps) before h =
      let two : Names n a = h 0 (omega arith) in (
        ap (members_fault n) (one_pair a two) ∙ ap (λ b. cond b None (Some BadArc)) (within a two),
        arcs_right (suc k) ps (before ++ (k, decimal (a.first + 1) ++ 44 ∷ decimal (a.«then» + 1)) ∷ [])
            (λ i l. h (suc i) (omega (arith, l))),
      )
    where
      within : (a : Prec) → Names n a → (nat_lt a.first n && nat_lt a.«then» n) ≡ true
      within a two = grind (arith, nat_tests, two.0, two.1)
