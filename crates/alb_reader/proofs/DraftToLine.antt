-- From the draft of the lines up to the end mark to what the text says.
use Rattle.std.proofs.Common.{◌≡◌, ◌∙◌, ℕ, zero, suc, ◌<◌, ◌≤◌, ◌&&◌, Bool, true, false, cond, nat_eq, nat_lt, List, []}
use Rattle.std.proofs.Common.{◌∷◌, ◌++◌, length, map, Option, Some, None, refl, sym, ap, subst, arith, inl, inr}
use Rattle.std.specs.Option.{is_some as is_there}
use Rattle.std.proofs.lemmas.Bool.{and_parts, cases_lt}
use Rattle.std.proofs.lemmas.Bool.Decides.{nat_tests}
use Rattle.std.proofs.lemmas.List.FromFn.{get_or-map-range_with_len, length-map-range_with_len}
use Rattle.std.proofs.lemmas.List.{get_or_past}
use Rattle.line_io.specs.Lines.{number_in}
use Rattle.line_io.specs.declared.text.Num.{Num}
use Rattle.line_io.specs.declared.text.Num.TheVariants.{Value, NotANumber as NoNumber, Above}
use Rattle.line_instance.specs.declared.arcs.Prec.{Prec}
use Rattle.line_instance.specs.Made.{AreTimes, IsInstanceOf}
use Rattle.line_instance.specs.Walks.{AreArcs, Names, arc_at, IsRing}
use Rattle.in2_reader.specs.Contents.{Lines, contents_from, lines_in}
use Rattle.in2_reader.specs.Pairs.{pair_in, without_gaps_front}
use Rattle.in2_reader.specs.declared.pair.Pair.{Pair}
use Rattle.in2_reader.specs.declared.pair.Pair.TheVariants.{Arc, BadArc as NoTasks, End as MinusOnes, Other}
use Rattle.in2_reader.proofs.Ranges.{number_most}
use Rattle.alb_reader.specs.Sections.{under, before_end}
use Rattle.alb_reader.specs.Faults.{timed_by, value_or_0, gap_split, task_named, time_said, task_fault, arc_fault}
use Rattle.alb_reader.specs.Faults.{members_fault, AreRight, AreRightFrom}
use Rattle.alb_reader.specs.Instance.{value, first_number, times_of, times_said, time_of, arcs_of, arcs_said, with_pair}
use Rattle.alb_reader.specs.Instance.{AllNamed, IsFormed, IsFormFault, IsFilled, IsFillFault, IsAlbRead}
use Rattle.alb_reader.specs.inner.Drafts.{IsDraft, IsWhole, IsDrafted, is_some, time_line, pair_line}
use Rattle.std.specs.Prelude.{Ok, Err}
use Rattle.std.specs.declared.vec.Vec.{Vec}
use Rattle.std.specs.declared.alloc.Global.{Global}
use Rattle.alb_reader.specs.inner.Fillings.{IsTimesRead, IsArcsRead}
use Rattle.alb_reader.specs.inner.Making.{IsOfTasks, IsMadeOf, IsFillRead, IsFormRead, refusal}
use Rattle.alb_reader.specs.declared.fault.AlbError.{AlbError}
use Rattle.alb_reader.specs.declared.fault.AlbError.TheVariants as errors
use Rattle.alb_reader.specs.declared.draft.PairLine.{PairLine}
use Rattle.alb_reader.specs.declared.draft.Draft.{Draft}
use Rattle.alb_reader.specs.declared.draft.TimeLine.{TimeLine}
use Rattle.alb_reader.specs.declared.mark.Section.TheVariants.{Tasks, Cycle, Times, Pairs}
use Rattle.alb_reader.specs.declared.fault.AlbFault.{AlbFault}
use Rattle.alb_reader.specs.declared.fault.AlbKind.TheVariants.{MissingSection, BadArc}
use Rattle.alb_reader.specs.declared.instance.AlbRead.{AlbRead}
use Rattle.alb_reader.specs.declared.instance.AlbRead.TheVariants as reads
use Rattle.alb_reader.proofs.StatedLines.{kept_many}

-- a value is at most its limit
value_most : (most n : ℕ) (o : Num) → ((v : ℕ) → o ≡ Value v → v ≤ most) → value o ≡ Some n → n ≤ most
value_most most n NoNumber h e = (cc)
value_most most n Above h e = (cc)
value_most most n (Value v) h e = (let s : v ≡ n = cc in subst (λ k. k ≤ most) s (h v refl))

pub first_most : (most n : ℕ) (lines : Lines) → first_number most lines ≡ Some n → n ≤ most
first_most most n [] e = (cc)
first_most most n (l ∷ lines) e = value_most most n (number_in most l.1) (λ v. number_most most l.1 v) e

or_0_most : (most : ℕ) (o : Num) → ((v : ℕ) → o ≡ Value v → v ≤ most) → value_or_0 o ≤ most
or_0_most most NoNumber h = omega arith
or_0_most most Above h = omega arith
or_0_most most (Value v) h = h v refl

time_limit : (content : List ℕ) → time_said content ≤ 200000000000000
time_limit content = by_split (gap_split content)
  where
    by_split : (o : Option (List ℕ × List ℕ)) → value_or_0 (timed_by o).1 ≤ 200000000000000
    by_split None = omega arith
    by_split (Some p) = or_0_most 200000000000000 (number_in 200000000000000 (without_gaps_front p.1))
        (λ v. number_most 200000000000000 (without_gaps_front p.1) v)

of_limit : (v : ℕ) (lines : Lines) → time_of v lines ≤ 200000000000000
of_limit v [] = omega arith
of_limit v (l ∷ lines) = by_test (nat_eq (task_named l.1) v) (of_limit v lines)
  where
    by_test : (b : Bool) → time_of v lines ≤ 200000000000000
        → cond b (time_said l.1) (time_of v lines) ≤ 200000000000000
    by_test true h = time_limit l.1
    by_test false h = h

pub times_right : (n : ℕ) (lines : Lines) → 0 < n → n ≤ 1024 → AreTimes (times_of n lines)
times_right n lines some few =
    let many : length (times_of n lines) ≡ n = length-map-range_with_len (λ i. time_of (suc i) lines) 0 n in
    record {
      some = omega (arith, many, some);
      few = omega (arith, many, few);
      limit = λ i. elim (cases_lt i n) [
        | inl l ↦ subst (λ t. t ≤ 200000000000000) (sym (get_or-map-range_with_len (λ j. time_of (suc j) lines) 0 n i i
            0 l (omega arith))) (of_limit (suc i) lines)
        | inr g ↦ subst (λ t. t ≤ 200000000000000) (sym (get_or_past (times_of n lines) i 0 (omega (arith, many, g))))
            (omega arith)
      ];
    }

-- pairs in which nothing is wrong are of tasks
members_named : (n : ℕ) (p : Pair) (arcs : List Prec) → members_fault n p ≡ None
    → ((k : ℕ) → k < length arcs → Names n (arc_at arcs k)) → (k : ℕ) → k < length (with_pair p arcs)
    → Names n (arc_at (with_pair p arcs) k)
members_named n (Arc a) arcs f h zero l = by_test (nat_lt a.first n && nat_lt a.«then» n) refl f
  where
    by_test : (b : Bool) → (nat_lt a.first n && nat_lt a.«then» n) ≡ b → cond b None (Some BadArc) ≡ None → Names n a
    by_test true e f = (let q = and_parts (nat_lt a.first n) (nat_lt a.«then» n) e in
        (grind (arith, nat_tests, q.0), grind (arith, nat_tests, q.1)))
    by_test false e f = (cc)
members_named n (Arc a) arcs f h (suc k) l = h k (omega (arith, l))
members_named n NoTasks arcs f h k l = h k l
members_named n MinusOnes arcs f h k l = h k l
members_named n Other arcs f h k l = h k l

arcs_right_from : (n : ℕ) (before lines : Lines) → AreRightFrom (arc_fault n) before lines → (k : ℕ)
    → k < length (arcs_of lines) → Names n (arc_at (arcs_of lines) k)
arcs_right_from n before [] r k l = absurd (omega (arith, l))
arcs_right_from n before (x ∷ lines) r k l = members_named n (pair_in 1024 x.1) (arcs_of lines) r.0
    (arcs_right_from n (before ++ x ∷ []) lines r.1) k l

pub arcs_right : (n : ℕ) (lines : Lines) → AreRight (arc_fault n) lines → AreArcs n (arcs_of lines)
arcs_right n lines r = arcs_right_from n [] lines r

has_some : (lines : Lines) → is_some lines ≡ true → 0 < length lines
has_some [] e = (cc)
has_some (l ∷ lines) e = omega arith

has_none : (lines : Lines) → is_some lines ≡ false → length lines ≡ 0
has_none [] e = refl
has_none (l ∷ lines) e = (cc)

-- right lines say one task at least
counted_from : (lines : Lines) (n : ℕ) → first_number 1024 lines ≡ Some n → n ≤ 1024
counted_from lines n e = first_most 1024 n lines e

-- the form
pub formed_is : (lines : Lines) (d : Draft) (end n : ℕ) → IsWhole lines d end → d.tasks ≡ Some n
    → (length d.times.items ≡ 0 → ⊥) → IsFormed lines end n
formed_is lines d end n w t some = record {
  marked = w.marked;
  right = w.right;
  tasks = sym w.draft.tasks ∙ t;
  times = elim (cases_lt 0 (length (under Times (before_end lines)))) [
    | inl l ↦ l
    | inr g ↦ absurd (some (ap length w.draft.times ∙ kept_many time_line (under Times (before_end lines))
        ∙ omega (arith, g)))
  ];
}

pub no_times : (lines : Lines) (d : Draft) (end last : ℕ) (f : AlbFault) → IsWhole lines d end
    → length d.times.items ≡ 0 → f.line ≡ end → f.kind ≡ MissingSection → IsFormFault lines last f
no_times lines d end last f w none l k =
    IsFormFault.no_section w.right (w.marked ∙ ap Some (sym l)) k
    (inr (sym (kept_many time_line (under Times (before_end lines))) ∙ sym (ap length w.draft.times) ∙ none))

pub no_tasks : (lines : Lines) (d : Draft) (end last : ℕ) (f : AlbFault) → IsWhole lines d end → d.tasks ≡ None
    → f.line ≡ end → f.kind ≡ MissingSection → IsFormFault lines last f
no_tasks lines d end last f w none l k =
    IsFormFault.no_section w.right (w.marked ∙ ap Some (sym l)) k
    (inl (has_none (under Tasks (before_end lines)) (sym w.draft.counted ∙ ap is_there none)))

pub whole_tasks : (lines : Lines) (d : Draft) (end n : ℕ) → IsWhole lines d end → IsFormed lines end n
    → IsOfTasks (before_end lines) n
whole_tasks lines d end n w f = record { right = w.right; tasks = f.tasks }

pub tasks_some : (head : Lines) (d : Draft) (n : ℕ) → IsDraft head d → IsOfTasks head n → (0 < n) × (n ≤ 1024)
tasks_some head d n h t = (h.some n (h.tasks ∙ t.tasks), first_most 1024 n (under Tasks head) t.tasks)

pub cycle_limit : (head : Lines) (d : Draft) (c : ℕ) → IsDraft head d → d.cycle ≡ Some c
    → (1 ≤ c) × (c ≤ 1000000000000000000)
cycle_limit head d c h e = (h.long c e, first_most 1000000000000000000 c (under Cycle head) (sym h.cycle ∙ e))

-- what is made of right lines
pub made_is : (head : Lines) (d : Draft) (n end : ℕ) (times : List ℕ) (arcs : List Prec) (r : AlbRead) → IsDraft head d
    → IsFilled head n → times ≡ times_said n head → arcs ≡ arcs_said head → IsMadeOf times arcs d.cycle end r
    → IsFillRead head end n r
made_is head d n end times arcs (reads.Good line c) h f t a m = (
  f,
  subst (λ x. IsInstanceOf x (arcs_said head) line) t (subst (λ x. IsInstanceOf times x line) a m.0),
  m.1
      ∙ h.cycle,
)
made_is head d n end times arcs (reads.Fault x) h f t a m =
    IsFillFault.closed m.1 f (subst (λ y. IsRing y m.1) a m.3) m.0 m.2
made_is head d n end times arcs reads.NoMemory h f t a m = tt

-- what a filled text says
pub filled_is : (bytes : List ℕ) (end n : ℕ) (r : AlbRead) → IsFormed (contents_from 1 bytes) end n
    → IsFillRead (before_end (contents_from 1 bytes)) end n r → IsAlbRead bytes r
filled_is bytes end n (reads.Good line c) f g = record {
  end = end;
  n = n;
  formed = f;
  filled = g.0;
  is = g.1;
  timed = g.2;
}
filled_is bytes end n (reads.Fault x) f g = inr (end, n, f, g)
filled_is bytes end n reads.NoMemory f g = tt

-- the answers where a part isn't read
pub times_refused : (head : Lines) (d : Draft) (n end : ℕ) (gone : List TimeLine) (x : AlbError) → IsDraft head d
    → gone ≡ d.times.items → ((lines : Lines) → gone ≡ map time_line lines → IsTimesRead n lines end (Err x))
    → IsFillRead head end n (refusal x)
times_refused head d n end gone errors.Memory h e r = tt
times_refused head d n end gone (errors.Fault f) h e r = elim (r (under Times head) (e ∙ h.times)) [
  | inl w ↦ IsFillFault.at_task w
  | inr q ↦ IsFillFault.unnamed q.0 q.1 q.2 q.3 q.4
]

pub times_read : (head : Lines) (d : Draft) (n end : ℕ) (gone : List TimeLine) (v : Vec ℕ Global) → IsDraft head d
    → gone ≡ d.times.items → ((lines : Lines) → gone ≡ map time_line lines → IsTimesRead n lines end (Ok v))
    → AreRight (task_fault n) (under Times head) × AllNamed n (under Times head) × (v.items ≡ times_said n head)
times_read head d n end gone v h e r = r (under Times head) (e ∙ h.times)

pub arcs_refused : (head : Lines) (d : Draft) (n end : ℕ) (gone : List PairLine) (x : AlbError) → IsDraft head d
    → gone ≡ d.pairs.items → AreRight (task_fault n) (under Times head) → AllNamed n (under Times head)
    → ((lines : Lines) → gone ≡ map pair_line lines → IsArcsRead n lines (Err x)) → IsFillRead head end n (refusal x)
arcs_refused head d n end gone errors.Memory h e t a r = tt
arcs_refused head d n end gone (errors.Fault f) h e t a r = IsFillFault.at_pair t a (r (under Pairs head) (e ∙ h.pairs))

pub arcs_read : (head : Lines) (d : Draft) (n : ℕ) (gone : List PairLine) (v : Vec Prec Global) → IsDraft head d
    → gone ≡ d.pairs.items → ((lines : Lines) → gone ≡ map pair_line lines → IsArcsRead n lines (Ok v))
    → AreRight (arc_fault n) (under Pairs head) × (v.items ≡ arcs_said head)
arcs_read head d n gone v h e r = r (under Pairs head) (e ∙ h.pairs)

pub times_many : (n : ℕ) (head : Lines) (times : List ℕ) → times ≡ times_said n head → length times ≡ n
times_many n head times e = ap length e ∙ length-map-range_with_len (λ i. time_of (suc i) (under Times head)) 0 n

pub draft_refused : (bytes : List ℕ) (last : ℕ) (x : AlbError) → last ≡ lines_in 1 bytes
    → IsDrafted (contents_from 1 bytes) last (Err x) → IsAlbRead bytes (refusal x)
draft_refused bytes last errors.Memory e f = tt
draft_refused bytes last (errors.Fault y) e f = inl (subst (λ k. IsFormFault (contents_from 1 bytes) k y) e f)

pub form_refused : (bytes : List ℕ) (end : ℕ) (x : AlbError)
    → IsFormRead (contents_from 1 bytes) (lines_in 1 bytes) end (Err x) → IsAlbRead bytes (refusal x)
form_refused bytes end errors.Memory f = tt
form_refused bytes end (errors.Fault y) f = inl f
