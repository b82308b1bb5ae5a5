-- The canonical text of a line says that line, and reading it gives it back.
use Rattle.std.proofs.Common.{◌≡◌, ◌∙◌, ℕ, suc, ◌^◌, ◌<◌, ◌≤◌, ◌||◌, Bool, true, false, cond, nat_eq, List, [], ◌∷◌}
use Rattle.std.proofs.Common.{◌++◌, length, get_or, Option, Some, None, refl, sym, ap, subst, arith, append_assoc, inl}
use Rattle.std.proofs.Common.{inr}
use Rattle.std.specs.Prelude.{decimal, codes, ◌↔◌}
use Rattle.std.specs.List.{flat_map, range_with_len}
use Rattle.std.proofs.lemmas.Bool.Decides.{nat_tests}
use Rattle.std.proofs.lemmas.List.{ext_get_or}
use Rattle.std.proofs.lemmas.List.FromFn.{get_or-map-range_with_len, length-map-range_with_len}
use Rattle.std.proofs.lemmas.Option.{same_Some}
use Rattle.line_io.specs.Lines.{number_in}
use Rattle.line_io.specs.declared.text.Num.TheVariants.{Value}
use Rattle.line_instance.specs.declared.arcs.Prec.{Prec}
use Rattle.line_instance.specs.Line.{Line, IsLine, IsRanked, tasks, Before}
use Rattle.line_instance.specs.Walks.{Walk, AreArcs, IsRing, arc_at}
use Rattle.in2_reader.specs.Contents.{Lines, contents_from, lines_in}
use Rattle.in2_reader.specs.Written.{AreCovers, pair_line}
use Rattle.in2_reader.proofs.Digits.{decimal_spells, number_read}
use Rattle.in2_reader.proofs.Reread.{pair_lines, after, pairs_text}
use Rattle.in2_reader.proofs.CollectedPairs.{first_task, last_task}
use Rattle.in2_reader.proofs.PairCounts.{few_covers}
use Rattle.in2_reader.proofs.CoverWalks.{walk_of, before_of}
use Rattle.in2_reader.proofs.Acyclic.{round}
use Rattle.alb_reader.specs.Sections.{mark_of, section_by, section_after, filed, under, has_heading, is_same}
use Rattle.alb_reader.specs.Sections.{before_end, end_line}
use Rattle.alb_reader.specs.Faults.{line_fault, body_fault, single, some_fault, task_fault, arc_fault, AreRightFrom}
use Rattle.alb_reader.specs.Faults.{AreRight}
use Rattle.alb_reader.specs.Instance.{value, first_number, tasks_said, cycle_said, time_of, times_of, times_said}
use Rattle.alb_reader.specs.Instance.{arcs_said, arcs_of, AllNamed, IsFormed, IsFilled, IsFillFault, IsAlbReading}
use Rattle.alb_reader.specs.Instance.{IsAlbFault, IsAlbRead}
use Rattle.alb_reader.specs.Written.{tasks_section, cycle_section, timed_line, times_section, pairs_section, alb_text}
use Rattle.alb_reader.specs.Written.{IsAlbText, IsReadBack, IsGivenCycle}
use Rattle.alb_reader.specs.declared.mark.Section.{Section}
use Rattle.alb_reader.specs.declared.mark.Section.TheVariants.{Tasks, Cycle, Times, Pairs}
use Rattle.alb_reader.specs.declared.mark.Mark.TheVariants.{Heading, Body}
use Rattle.alb_reader.specs.declared.fault.AlbKind.TheVariants.{Range}
use Rattle.alb_reader.specs.declared.fault.AlbFault.{AlbFault}
use Rattle.alb_reader.specs.declared.instance.AlbRead.{AlbRead}
use Rattle.alb_reader.specs.declared.instance.AlbRead.TheVariants.{Good, Fault, NoMemory}
use Rattle.alb_reader.proofs.SectionFacts.{append_nil, section_snoc}
use Rattle.alb_reader.proofs.UpToEnd.{NoEnd, marked}
use Rattle.alb_reader.proofs.Blocks.{AreBodies, filed_append, has_append, block_filed, block_has, block_ahead}
use Rattle.alb_reader.proofs.Blocks.{ahead_append, right_append, heading_right, body_line, times_are_right}
use Rattle.alb_reader.proofs.Blocks.{pairs_are_right}
use Rattle.alb_reader.proofs.WrittenLines.{content_at, digits_body}
use Rattle.alb_reader.proofs.CanonicalText.{time_lines, tasks_text, cycle_text, AreTasks, range_tasks, times_text}
use Rattle.alb_reader.proofs.CanonicalText.{time_bodies}
use Rattle.alb_reader.proofs.CanonicalText.{time_timed, time_many, found, tasks_right, pair_bodies, pair_paired}
use Rattle.alb_reader.proofs.CanonicalText.{pair_arcs}
use Rattle.alb_reader.proofs.CanonicalText.{pair_many, arcs_right}
use Rattle.alb_reader.proofs.FaultFacts.{form_excluded, fill_excluded}

-- the block of a section of one number
abbrev block_of : ℕ → List ℕ → ℕ → Lines
block_of k heading n = (k, heading) ∷ (suc k, decimal n) ∷ []

number_bodies : (k n : ℕ) → n < 2 ^ 64 → AreBodies ((k, decimal n) ∷ [])
number_bodies k n h = (let s = decimal_spells n h in (
  ap mark_of (sym (append_nil (decimal n)))
      ∙ digits_body (decimal n) [] s.digits s.some,
  tt,
))

some_right : (n : ℕ) → 1 ≤ n → some_fault (Value n) ≡ None
some_right n h = ap (λ b. cond b (Some Range) None) (not_0 n h)
  where
    not_0 : (n : ℕ) → 1 ≤ n → nat_eq n 0 ≡ false
    not_0 n h = grind (arith, nat_tests, h)

one_block_right : (s : Section) (before : Lines) (h l : ℕ × List ℕ) → has_heading s before ≡ false
    → mark_of h.1 ≡ Heading s → mark_of l.1 ≡ Body → body_fault (before ++ h ∷ []) l.1 (Some s) ≡ None
    → AreRightFrom line_fault before (h ∷ l ∷ [])
one_block_right s before h l n m b f = (
  heading_right s before h n m,
  (
    body_line s (before ++ h ∷ []) l (section_snoc None before h ∙ ap (section_by (section_after None before)) m) b
        ∙ f,
    tt,
  ),
)

-- the block of the number of tasks
module _ (n : ℕ) (some : 1 ≤ n) (few : n ≤ 1024) where
  first : Lines
  first = block_of 1 (codes "<number of tasks>") n

  first_bodies : AreBodies ((2, decimal n) ∷ [])
  first_bodies = number_bodies 2 n (omega (arith, few))

  first_right : AreRightFrom line_fault [] first
  unfolding first
  first_right = one_block_right Tasks [] (1, codes "<number of tasks>") (2, decimal n) refl refl first_bodies.0
      (ap some_fault (number_read 1024 n (decimal n) (decimal_spells n (omega (arith, few))) few) ∙ some_right n some)

  first_filed : (t : Section) (now : Option Section) → filed t now first
      ≡ cond (is_same t Tasks) ((2, decimal n) ∷ []) []
  unfolding first
  first_filed t now = block_filed Tasks (1, codes "<number of tasks>") ((2, decimal n) ∷ []) refl first_bodies t now

  first_has : (t : Section) → has_heading t first ≡ is_same t Tasks
  unfolding first
  first_has t = block_has Tasks (1, codes "<number of tasks>") ((2, decimal n) ∷ []) refl first_bodies t

-- what stands between the number of tasks and the task times: the block of the cycle time, where there is one
record IsMiddle (cycle : Option ℕ) (before : Lines) : Type 0 where
  k : ℕ
  lines : Lines
  body : Lines
  text : (rest : List ℕ) → contents_from 4 (cycle_section cycle ++ rest) ≡ lines ++ contents_from k rest
  ahead : NoEnd lines
  files : (t : Section) (now : Option Section) → filed t now lines ≡ cond (is_same t Cycle) body []
  has : (t : Section) → is_same t Cycle ≡ false → has_heading t lines ≡ false
  right : AreRightFrom line_fault before lines
  says : first_number 1000000000000000000 body ≡ cycle

middle : (cycle : Option ℕ) (before : Lines) → IsGivenCycle cycle → has_heading Cycle before ≡ false
    → ((now : Option Section) → filed Cycle now before ≡ []) → IsMiddle cycle before
middle None before g h f = record {
  k = 4;
  lines = [];
  body = [];
  text = λ rest. refl;
  ahead = (refl, refl);
  files = λ t now. none_kept (is_same t Cycle);
  has = λ t e. refl;
  right = tt;
  says = refl;
}
  where
    none_kept : (b : Bool) → [] ≡ cond {A = Lines} b [] []
    none_kept true = refl
    none_kept false = refl
middle (Some c) before g h f =
    let head : ℕ × List ℕ = (4, codes "<cycle time>") in
    let bodies : AreBodies ((5, decimal c) ∷ []) = number_bodies 5 c (omega (arith, g.1)) in
    let read : number_in 1000000000000000000 (decimal c) ≡ Value c =
    number_read 1000000000000000000 c (decimal c) (decimal_spells c (omega (arith, g.1))) g.1 in
    record {
      k = 7;
      lines = block_of 4 (codes "<cycle time>") c;
      body = (5, decimal c) ∷ [];
      text = λ rest. cycle_text c rest g.1;
      ahead = block_ahead Cycle head ((5, decimal c) ∷ []) refl bodies;
      files = λ t now. block_filed Cycle head ((5, decimal c) ∷ []) refl bodies t now;
      has = λ t e. block_has Cycle head ((5, decimal c) ∷ []) refl bodies t ∙ e;
      right = one_block_right Cycle before head (5, decimal c) h refl bodies.0
          (ap (λ t. single t (some_fault (number_in 1000000000000000000 (decimal c))))
          (filed_append Cycle None before (head ∷ []) ∙ ap (λ t. t ++ []) (f None))
          ∙ ap some_fault read ∙ some_right c g.0);
      says = ap value read;
    }

module _ (line : Line) (cycle : Option ℕ) (ps : List Prec) (s : IsLine line) (r : IsRanked line)
    (g : IsGivenCycle cycle) (c : AreCovers line ps) where
  n : ℕ
  n = tasks line

  named : AreArcs (tasks line) ps
  named k l = (
    first_task line (arc_at ps k).first (arc_at ps k).«then» s (c.right k l).before,
    last_task line (arc_at ps k).first (arc_at ps k).«then» s (c.right k l).before,
  )

  ones : AreTasks (tasks line) (range_with_len 0 (tasks line))
  ones = range_tasks (tasks line) 0 (tasks line) (omega arith)

  b1 : Lines
  b1 = first (tasks line) s.some s.small

  mid : IsMiddle cycle b1
  unfolding b1
  mid = middle cycle b1 g (first_has (tasks line) s.some s.small Cycle)
      (λ now. first_filed (tasks line) s.some s.small Cycle now)

  k3 : ℕ
  k3 = mid.k

  timed : Lines
  timed = time_lines line (suc k3) (range_with_len 0 (tasks line))

  k4 : ℕ
  k4 = suc (after (suc k3) (range_with_len 0 (tasks line)))

  paired : Lines
  paired = pair_lines (suc k4) ps

  k5 : ℕ
  k5 = suc (after (suc k4) ps)

  b3 : Lines
  b3 = (k3, codes "<task times>") ∷ timed

  b4 : Lines
  b4 = (k4, codes "<precedence relations>") ∷ paired

  head : Lines
  head = b1 ++ (mid.lines ++ (b3 ++ b4))

  times_part : (rest : List ℕ) → contents_from k3 (times_section line ++ rest) ≡ b3 ++ contents_from k4 rest
  unfolding timed b3 k4
  times_part rest =
      let is : List ℕ = range_with_len 0 (tasks line) in
      let mid_text : List ℕ = flat_map (timed_line line) is in
      ap (contents_from k3) (append_assoc (codes "<task times>\n" ++ mid_text) (codes "\n") rest
      ∙ append_assoc (codes "<task times>\n") mid_text (codes "\n" ++ rest))
      ∙ content_at k3 (codes "<task times>") (mid_text ++ 10 ∷ rest) refl refl (omega arith)
      ∙ ap (λ t. (k3, codes "<task times>") ∷ t) (times_text line s.small s.times (suc k3) is (10 ∷ rest) ones)

  pairs_part : (rest : List ℕ) → contents_from k4 (pairs_section ps ++ rest) ≡ b4 ++ contents_from k5 rest
  unfolding paired b4 k5
  pairs_part rest =
      let mid_text : List ℕ = flat_map pair_line ps in
      ap (contents_from k4) (append_assoc (codes "<precedence relations>\n" ++ mid_text) (codes "\n") rest
      ∙ append_assoc (codes "<precedence relations>\n") mid_text (codes "\n" ++ rest))
      ∙ content_at k4 (codes "<precedence relations>") (mid_text ++ 10 ∷ rest) refl refl (omega arith)
      ∙ ap (λ t. (k4, codes "<precedence relations>") ∷ t) (pairs_text (suc k4) (tasks line) ps (10 ∷ rest) s.small
      named)

  end_part : contents_from k5 (codes "<end>\n") ≡ (k5, codes "<end>") ∷ []
  end_part = content_at k5 (codes "<end>") [] refl refl (omega arith)

  parts : alb_text line ps cycle ≡ tasks_section (tasks line)
      ++ (cycle_section cycle ++ (times_section line ++ (pairs_section ps ++ codes "<end>\n")))
  parts =
      let t : List ℕ = tasks_section (tasks line) in
      let c : List ℕ = cycle_section cycle in
      let m : List ℕ = times_section line in
      let p : List ℕ = pairs_section ps in
      append_assoc ((t ++ c) ++ m) p (codes "<end>\n") ∙ append_assoc (t ++ c) m (p ++ codes "<end>\n")
      ∙ append_assoc t c (m ++ (p ++ codes "<end>\n"))

  all_parts : contents_from 1 (alb_text line ps cycle) ≡ b1 ++ (mid.lines ++ (b3 ++ (b4 ++ (k5, codes "<end>") ∷ [])))
  unfolding b1 k3 first
  all_parts =
      ap (contents_from 1) parts
      ∙ tasks_text (tasks line) (cycle_section cycle ++ (times_section line ++ (pairs_section ps ++ codes "<end>\n")))
      s.small
      ∙ ap (λ t. b1 ++ t) (mid.text (times_section line ++ (pairs_section ps ++ codes "<end>\n"))
      ∙ ap (λ t. mid.lines ++ t) (times_part (pairs_section ps ++ codes "<end>\n")
      ∙ ap (λ t. b3 ++ t) (pairs_part (codes "<end>\n") ∙ ap (λ t. b4 ++ t) end_part)))

  contents : contents_from 1 (alb_text line ps cycle) ≡ head ++ (k5, codes "<end>") ∷ []
  unfolding head
  contents =
      let e : Lines = (k5, codes "<end>") ∷ [] in
      all_parts ∙ sym (append_assoc b1 (mid.lines ++ (b3 ++ b4)) e
      ∙ ap (λ t. b1 ++ t) (append_assoc mid.lines (b3 ++ b4) e ∙ ap (λ t. mid.lines ++ t) (append_assoc b3 b4 e)))

  timed_bodies : AreBodies timed
  unfolding timed
  timed_bodies = time_bodies line s.small s.times (suc k3) (range_with_len 0 (tasks line)) ones

  paired_bodies : AreBodies paired
  unfolding paired
  paired_bodies = pair_bodies (tasks line) s.small (suc k4) ps named

  ahead : NoEnd head
  unfolding head b1 first b3 b4
  ahead =
      ahead_append b1 (mid.lines ++ (b3 ++ b4)) (block_ahead Tasks (1, codes "<number of tasks>")
      ((2, decimal (tasks line)) ∷ []) refl (first_bodies (tasks line) s.some s.small))
      (ahead_append mid.lines (b3 ++ b4) mid.ahead
      (ahead_append b3 b4 (block_ahead Times (k3, codes "<task times>") timed refl timed_bodies)
      (block_ahead Pairs (k4, codes "<precedence relations>") paired refl paired_bodies)))

  both : {a b c d : Lines} → a ≡ b → c ≡ d → a ++ c ≡ b ++ d
  both {a} {b} {c} {d} e f = ap (λ t. t ++ c) e ∙ ap (λ t. b ++ t) f

  filed3 : (t : Section) (now : Option Section) → filed t now b3 ≡ cond (is_same t Times) timed []
  unfolding b3
  filed3 t now = block_filed Times (k3, codes "<task times>") timed refl timed_bodies t now

  filed4 : (t : Section) (now : Option Section) → filed t now b4 ≡ cond (is_same t Pairs) paired []
  unfolding b4
  filed4 t now = block_filed Pairs (k4, codes "<precedence relations>") paired refl paired_bodies t now

  filed1 : (t : Section) (now : Option Section) → filed t now b1
      ≡ cond (is_same t Tasks) ((2, decimal (tasks line)) ∷ []) []
  unfolding b1
  filed1 t now = first_filed (tasks line) s.some s.small t now

  has1 : (t : Section) → has_heading t b1 ≡ is_same t Tasks
  unfolding b1
  has1 t = first_has (tasks line) s.some s.small t

  right1 : AreRightFrom line_fault [] b1
  unfolding b1
  right1 = first_right (tasks line) s.some s.small

  files : (t : Section) → under t head ≡ cond (is_same t Tasks) ((2, decimal (tasks line)) ∷ []) []
      ++ (cond (is_same t Cycle) mid.body [] ++ (cond (is_same t Times) timed [] ++ cond (is_same t Pairs) paired []))
  unfolding head
  files t =
      let now1 : Option Section = section_after None b1 in
      let now2 : Option Section = section_after now1 mid.lines in
      filed_append t None b1 (mid.lines ++ (b3 ++ b4))
      ∙ both (filed1 t None) (filed_append t now1 mid.lines (b3 ++ b4)
      ∙ both (mid.files t now1) (filed_append t now2 b3 b4
      ∙ both (filed3 t now2) (filed4 t (section_after now2 b3))))

  under_times : under Times head ≡ timed
  under_times = files Times ∙ append_nil timed

  clear_of : (t : Section) → is_same t Tasks ≡ false → is_same t Cycle ≡ false → has_heading t (b1 ++ mid.lines) ≡ false
  clear_of t a b = has_append t b1 mid.lines ∙ ap (λ x. x || has_heading t mid.lines) (has1 t ∙ a) ∙ mid.has t b

  right3 : AreRightFrom line_fault (b1 ++ mid.lines) b3
  unfolding b3 timed
  right3 =
      let before : Lines = b1 ++ mid.lines in
      let h : ℕ × List ℕ = (k3, codes "<task times>") in (
        heading_right Times before h (clear_of Times refl refl) refl,
        times_are_right (before ++ h ∷ []) timed (section_snoc None before h) timed_bodies
            (time_timed line s.small s.times (suc k3) (range_with_len 0 (tasks line)) ones),
      )

  no_pairs_yet : under Pairs (((b1 ++ mid.lines) ++ b3) ++ (k4, codes "<precedence relations>") ∷ []) ≡ []
  no_pairs_yet =
      let now1 : Option Section = section_after None b1 in
      let before : Lines = b1 ++ mid.lines in
      filed_append Pairs None (before ++ b3) ((k4, codes "<precedence relations>") ∷ [])
      ∙ ap (λ t. t ++ []) (filed_append Pairs None before b3
      ∙ both (filed_append Pairs None b1 mid.lines ∙ both (filed1 Pairs None) (mid.files Pairs now1))
      (filed3 Pairs (section_after None before)))

  no_pairs_heading : has_heading Pairs ((b1 ++ mid.lines) ++ b3) ≡ false
  unfolding b3
  no_pairs_heading =
      has_append Pairs (b1 ++ mid.lines) b3 ∙ ap (λ x. x || has_heading Pairs b3) (clear_of Pairs refl refl)
      ∙ block_has Times (k3, codes "<task times>") timed refl timed_bodies Pairs

  right4 : AreRightFrom line_fault ((b1 ++ mid.lines) ++ b3) b4
  unfolding b4 paired
  right4 =
      let before : Lines = (b1 ++ mid.lines) ++ b3 in
      let h : ℕ × List ℕ = (k4, codes "<precedence relations>") in
      let none : length (under Pairs (before ++ h ∷ [])) ≡ 0 = ap length no_pairs_yet in
      let many : length paired ≡ length ps = pair_many (tasks line) s.small (suc k4) ps in (
        heading_right Pairs before h no_pairs_heading refl,
        pairs_are_right (before ++ h ∷ []) paired (section_snoc None before h) paired_bodies
            (pair_paired (tasks line) s.small (suc k4) ps named) (omega (arith, none, many, few_covers line ps s c)),
      )

  right : AreRight line_fault head
  unfolding head
  right =
      right_append line_fault [] b1 (mid.lines ++ (b3 ++ b4)) right1
      (right_append line_fault b1 mid.lines (b3 ++ b4) mid.right
      (right_append line_fault (b1 ++ mid.lines) b3 b4 right3 right4))

  same_head : before_end (contents_from 1 (alb_text line ps cycle)) ≡ head
  same_head = ap before_end contents ∙ (marked head (k5, codes "<end>") [] ahead refl).0

  some_timed : 0 < length timed
  unfolding timed
  some_timed = omega (arith, s.some, time_many line s.small s.times (suc k3) 0 (tasks line))

  formed : IsFormed (contents_from 1 (alb_text line ps cycle)) k5 (tasks line)
  formed = record {
    marked = ap end_line contents ∙ (marked head (k5, codes "<end>") [] ahead refl).1;
    right = subst (AreRight line_fault) (sym same_head) right;
    tasks = ap tasks_said same_head ∙ ap (first_number 1024) (files Tasks)
        ∙ ap value (number_read 1024 (tasks line) (decimal (tasks line))
        (decimal_spells (tasks line) (omega (arith, s.small))) s.small);
    times = subst (λ h. 0 < length (under Times h)) (sym same_head)
        (subst (λ t. 0 < length t) (sym under_times) some_timed);
  }

  filled_head : IsFilled head (tasks line)
  unfolding timed paired
  filled_head = record {
    timed = subst (AreRight (task_fault (tasks line))) (sym under_times)
        (tasks_right line s.small s.times (suc k3) 0 (tasks line) [] (omega arith) (λ i g. refl));
    named = subst (AllNamed (tasks line)) (sym under_times)
        (λ i l. (found line s.small s.times (suc k3) 0 (tasks line) i (omega arith) (omega arith)
        (omega (arith, l))).0);
    paired = subst (AreRight (arc_fault (tasks line))) (sym (files Pairs))
        (arcs_right (tasks line) s.small (suc k4) ps [] named);
  }

  filled : IsFilled (before_end (contents_from 1 (alb_text line ps cycle))) (tasks line)
  filled = subst (λ h. IsFilled h (tasks line)) (sym same_head) filled_head

  arcs_back : arcs_said (before_end (contents_from 1 (alb_text line ps cycle))) ≡ ps
  unfolding paired
  arcs_back = ap arcs_said same_head ∙ ap arcs_of (files Pairs) ∙ pair_arcs (tasks line) s.small (suc k4) ps named

  these_times : times_of (tasks line) timed ≡ line.times
  unfolding timed
  these_times =
      let lines : Lines = time_lines line (suc k3) (range_with_len 0 (tasks line)) in
      let many : length (times_of (tasks line) lines) ≡ tasks line =
      length-map-range_with_len (λ i. time_of (suc i) lines) 0 (tasks line) in
      ext_get_or 0 (times_of (tasks line) lines) line.times many
      (λ i h. get_or-map-range_with_len (λ j. time_of (suc j) lines) 0 (tasks line) i i 0 (omega (arith, h, many))
      (omega arith)
      ∙ (found line s.small s.times (suc k3) 0 (tasks line) i (omega arith) (omega arith) (omega (arith, h, many))).1)

  times_back : times_said (tasks line) (before_end (contents_from 1 (alb_text line ps cycle))) ≡ line.times
  times_back = ap (times_said (tasks line)) same_head ∙ ap (times_of (tasks line)) under_times ∙ these_times

  cycle_back : cycle_said (before_end (contents_from 1 (alb_text line ps cycle))) ≡ cycle
  cycle_back = ap cycle_said same_head ∙ ap (first_number 1000000000000000000) (files Cycle ∙ append_nil mid.body)
      ∙ mid.says

  not_round : (ring : List ℕ) → IsRing (arcs_said (before_end (contents_from 1 (alb_text line ps cycle)))) ring → ⊥
  not_round ring is =
      s.not_itself (get_or ring 0 0) (before_of line ps s r c
      (subst (λ arcs. Walk arcs (get_or ring 0 0) (get_or ring 0 0)) arcs_back
      (round (arcs_said (before_end (contents_from 1 (alb_text line ps cycle)))) ring is)))

  no_fault : (f : AlbFault) → IsAlbFault (alb_text line ps cycle) f → ⊥
  no_fault f (inl w) = form_excluded (contents_from 1 (alb_text line ps cycle)) (lines_in 1 (alb_text line ps cycle)) k5
      (tasks line) f w formed
  no_fault f (inr q) =
      let h : Lines = before_end (contents_from 1 (alb_text line ps cycle)) in
      let same : q.1 ≡ tasks line = same_Some q.1 (tasks line) (sym q.2.tasks ∙ formed.tasks) in
      fill_excluded h q.0 (tasks line) f (subst (λ n. IsFillFault h q.0 n f) same q.3) filled not_round

  the_line : (l : Line) (x : Option ℕ) → IsAlbReading (alb_text line ps cycle) l x → IsReadBack line cycle (Good l x)
  the_line l x a =
      let h : Lines = before_end (contents_from 1 (alb_text line ps cycle)) in
      let same : a.n ≡ tasks line = same_Some a.n (tasks line) (sym a.formed.tasks ∙ formed.tasks) in
      let times : l.times ≡ line.times = a.is.times ∙ ap (λ n. times_said n h) same ∙ times_back in
      let walks : (i j : ℕ) → Walk (arcs_said h) i j ↔ Before line i j =
      subst (λ arcs. (i j : ℕ) → Walk arcs i j ↔ Before line i j) (sym arcs_back)
      (λ i j. (λ w. before_of line ps s r c w, walk_of line ps s r c i j)) in (
        times,
        (λ i j g. (
            let row = a.is.before j (omega (arith, g, ap length times)) in
            (λ b. (walks i j).0 (row.walks i b), λ b. row.all i ((walks i j).1 b)))),
        a.timed ∙ cycle_back,
      )

pub read_back : (line : Line) (cycle : Option ℕ) (bytes : List ℕ) (answer : AlbRead) → IsLine line → IsRanked line
    → IsGivenCycle cycle → IsAlbText line cycle bytes → IsAlbRead bytes answer → IsReadBack line cycle answer
read_back line cycle bytes NoMemory s r g t a = tt
read_back line cycle bytes (Fault f) s r g t a = no_fault line cycle t.ps s r g t.covers f
    (subst (λ b. IsAlbFault b f) t.text a)
read_back line cycle bytes (Good l x) s r g t a = the_line line cycle t.ps s r g t.covers l x
    (subst (λ b. IsAlbReading b l x) t.text a)
