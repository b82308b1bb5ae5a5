-- The lines of task times and of pairs, one after another.
use Rattle.std.proofs.Common.{◌≡◌, ◌∙◌, ℕ, zero, suc, ◌+◌, ◌-◌, ◌<◌, ◌≤◌, Bool, true, false, ◌&&◌, ◌||◌, cond, nat_eq}
use Rattle.std.proofs.Common.{nat_lt, nat_le, List, [], ◌∷◌, ◌++◌, length, get_or, take, drop, map, set, replicate}
use Rattle.std.proofs.Common.{Option, Some, None, refl, sym, ap, subst, arith, inl, inr, add-one}
use Rattle.std.specs.Option.{is_some as is_there}
use Rattle.std.proofs.lemmas.Bool.{cases_eq, eq-eqb, ne_eqb}
use Rattle.std.proofs.lemmas.List.{get_or-set_same, get_or-set_other, get_or-replicate, length-set, length-replicate}
use Rattle.std.proofs.lemmas.List.{take_all, ext_get_or}
use Rattle.std.proofs.lemmas.List.FromFn.{get_or-map-range_with_len, length-map-range_with_len}
use Rattle.std.proofs.lemmas.Bool.Decides.{nat_tests}
use Rattle.in2_reader.specs.Contents.{Lines}
use Rattle.in2_reader.specs.Pairs.{pair_in}
use Rattle.in2_reader.specs.declared.pair.Pair.{Pair}
use Rattle.in2_reader.specs.declared.pair.Pair.TheVariants.{Arc, BadArc as NoTasks, End as MinusOnes, Other}
use Rattle.line_instance.specs.declared.arcs.Prec.{Prec}
use Rattle.alb_reader.specs.Faults.{task_named, time_said, task_fault, arc_fault, members_fault, names, AreRight}
use Rattle.alb_reader.specs.Faults.{IsFirstWrong}
use Rattle.alb_reader.specs.Instance.{arcs_of, with_pair, time_of, times_of, AllNamed, IsLeastUnnamed}
use Rattle.std.specs.Prelude.{Result, Ok, Err}
use Rattle.std.specs.declared.vec.Vec.{Vec}
use Rattle.std.specs.declared.alloc.Global.{Global}
use Rattle.std.proofs.lemmas.Option.{same_Some, none-some}
use Rattle.alb_reader.specs.declared.fault.AlbError.{AlbError}
use Rattle.alb_reader.specs.declared.fault.AlbError.TheVariants as errors
use Rattle.alb_reader.specs.inner.Fillings.{given_of, AreGiven, IsThere, IsFirstNone, named_arc, GivesWhole}
use Rattle.alb_reader.specs.inner.Fillings.{IsTimesRead}
use Rattle.alb_reader.specs.inner.Drafts.{time_line, pair_line, arc_of}
use Rattle.alb_reader.specs.declared.draft.TimeLine.{TimeLine}
use Rattle.alb_reader.specs.declared.draft.PairLine.{PairLine}
use Rattle.alb_reader.specs.declared.fault.AlbKind.{AlbKind}
use Rattle.alb_reader.specs.declared.fault.AlbKind.TheVariants.{BadTask, RepeatedTask, BadArc}
use Rattle.alb_reader.proofs.UpToEnd.{right_snoc}

-- a line that stands where a list of what is kept of lines has something
pub record IsAt (lines : Lines) (k : ℕ) : Type 0 where
  pub at : ℕ × List ℕ
  pub up_to : take (suc k) lines ≡ take k lines ++ at ∷ []
  pub split : lines ≡ take k lines ++ at ∷ drop (suc k) lines

pub line_at : (lines : Lines) (k : ℕ) → k < length lines → IsAt lines k
line_at [] k h = absurd (omega (arith, h))
line_at (l ∷ lines) zero h = record { at = l; up_to = refl; split = refl }
line_at (l ∷ lines) (suc k) h =
    let s : IsAt lines k = line_at lines k (omega (arith, h)) in
    record { at = s.at; up_to = ap (λ t. l ∷ t) s.up_to; split = ap (λ t. l ∷ t) s.split }

pub kept_at : {B : Type 0} (f : ℕ × List ℕ → B) (lines : Lines) (k : ℕ) (h : k < length lines) (d : B)
    → get_or (map f lines) k d ≡ f (line_at lines k h).at
unfolding line_at
kept_at f [] k h d = absurd (omega (arith, h))
kept_at f (l ∷ lines) zero h d = refl
kept_at f (l ∷ lines) (suc k) h d = kept_at f lines k (omega (arith, h)) d

pub kept_many : {B : Type 0} (f : ℕ × List ℕ → B) (lines : Lines) → length (map f lines) ≡ length lines
kept_many f [] = refl
kept_many f (l ∷ lines) = ap suc (kept_many f lines)

-- nothing wrong up to a line, and with it
pub right_up_to : (fault : Lines → List ℕ → Option AlbKind) (lines : Lines) (k : ℕ) (h : k < length lines)
    → AreRight fault (take k lines) → fault (take k lines) (line_at lines k h).at.1 ≡ None
    → AreRight fault (take (suc k) lines)
right_up_to fault lines k h r n = subst (AreRight fault) (sym (line_at lines k h).up_to)
    (right_snoc fault (take k lines) (line_at lines k h).at r n)

pub wrong_at : (fault : Lines → List ℕ → Option AlbKind) (lines : Lines) (k : ℕ) (h : k < length lines) (number : ℕ)
    (kind : AlbKind) → AreRight fault (take k lines)
    → fault (take k lines) (line_at lines k h).at.1 ≡ Some kind → number ≡ (line_at lines k h).at.0
    → IsFirstWrong fault lines number kind
wrong_at fault lines k h number kind r w e = record {
  before = take k lines;
  at = (line_at lines k h).at;
  after = drop (suc k) lines;
  all = (line_at lines k h).split;
  right = r;
  wrong = w;
  line = e;
}

-- what lines give a task
abbrev or_given : Option ℕ → Option ℕ → Option ℕ
or_given None b = b
or_given (Some t) b = Some t

given_snoc : (v : ℕ) (xs : Lines) (l : ℕ × List ℕ) → given_of v (xs ++ l ∷ [])
    ≡ or_given (given_of v xs) (cond (nat_eq (task_named l.1) v) (Some (time_said l.1)) None)
given_snoc v [] l = refl
given_snoc v (x ∷ xs) l = by_test (nat_eq (task_named x.1) v) (given_snoc v xs l)
  where
    by_test : (b : Bool) → given_of v (xs ++ l ∷ []) ≡ or_given (given_of v xs)
        (cond (nat_eq (task_named l.1) v) (Some (time_said l.1)) None)
        → cond b (Some (time_said x.1)) (given_of v (xs ++ l ∷ []))
        ≡ or_given (cond b (Some (time_said x.1)) (given_of v xs))
        (cond (nat_eq (task_named l.1) v) (Some (time_said l.1)) None)
    by_test true e = refl
    by_test false e = e

pub names_given : (v : ℕ) (lines : Lines) → names v lines ≡ is_there (given_of v lines)
names_given v [] = refl
names_given v (l ∷ lines) = by_test (nat_eq (task_named l.1) v) (names_given v lines)
  where
    by_test : (b : Bool) → names v lines ≡ is_there (given_of v lines)
        → (b || names v lines) ≡ is_there (cond b (Some (time_said l.1)) (given_of v lines))
    by_test true e = refl
    by_test false e = e

pub time_given : (v : ℕ) (lines : Lines) (t : ℕ) → given_of v lines ≡ Some t → time_of v lines ≡ t
time_given v [] t e = absurd (none-some t e)
time_given v (l ∷ lines) t e = by_test (nat_eq (task_named l.1) v) (time_given v lines t) e
  where
    by_test : (b : Bool) → (given_of v lines ≡ Some t → time_of v lines ≡ t)
        → cond b (Some (time_said l.1)) (given_of v lines) ≡ Some t → cond b (time_said l.1) (time_of v lines) ≡ t
    by_test true f e = cc
    by_test false f e = f e

-- the tests of a line of task times
pub bad_task : (n : ℕ) (before : Lines) (content : List ℕ) → (nat_le 1 (task_named content)
    && nat_le (task_named content) n) ≡ false → task_fault n before content ≡ Some BadTask
bad_task n before content h = ap (λ b. cond b (cond (names (task_named content) before) (Some RepeatedTask) None)
    (Some BadTask)) h

pub in_range : (n v : ℕ) → 1 ≤ v → v ≤ n → (nat_le 1 v && nat_le v n) ≡ true
in_range n v a b = grind (arith, nat_tests, a, b)

pub named_task : (n : ℕ) (before : Lines) (content : List ℕ) (named : Bool) → 1 ≤ task_named content
    → task_named content ≤ n → names (task_named content) before ≡ named
    → task_fault n before content ≡ cond named (Some RepeatedTask) None
named_task n before content named a b e =
    ap (λ t. cond t (cond (names (task_named content) before) (Some RepeatedTask) None) (Some BadTask))
    (in_range n (task_named content) a b) ∙ ap (λ t. cond t (Some RepeatedTask) None) e

-- the pairs up to a line
arcs_snoc : (xs : Lines) (l : ℕ × List ℕ) → arcs_of (xs ++ l ∷ []) ≡ arcs_of xs ++ with_pair (pair_in 1024 l.1) []
arcs_snoc [] l = refl
arcs_snoc (x ∷ xs) l = ap (with_pair (pair_in 1024 x.1)) (arcs_snoc xs l)
    ∙ pair_front (pair_in 1024 x.1) (arcs_of xs) (with_pair (pair_in 1024 l.1) [])
  where
    pair_front : (p : Pair) (ys zs : List Prec) → with_pair p (ys ++ zs) ≡ with_pair p ys ++ zs
    pair_front (Arc a) ys zs = refl
    pair_front NoTasks ys zs = refl
    pair_front MinusOnes ys zs = refl
    pair_front Other ys zs = refl

-- what one pair gives
pub arc_right : (n : ℕ) (p : Pair) (a : Prec) → named_arc n (arc_of p) ≡ Some a
    → (members_fault n p ≡ None) × (with_pair p [] ≡ a ∷ [])
arc_right n (Arc x) a e = by_test (nat_lt x.first n && nat_lt x.«then» n) e
  where
    by_test : (b : Bool) → cond b (Some x) None ≡ Some a → (cond b None (Some BadArc) ≡ None) × (x ∷ [] ≡ a ∷ [])
    by_test true e = (refl, ap (λ y. y ∷ []) (same_Some x a e))
    by_test false e = absurd (none-some a e)
arc_right n NoTasks a e = (cc)
arc_right n MinusOnes a e = (cc)
arc_right n Other a e = (cc)

pub arc_wrong : (n : ℕ) (p : Pair) → named_arc n (arc_of p) ≡ None → members_fault n p ≡ Some BadArc
arc_wrong n (Arc x) e = by_test (nat_lt x.first n && nat_lt x.«then» n) e
  where
    by_test : (b : Bool) → cond b (Some x) None ≡ None → cond b None (Some BadArc) ≡ Some BadArc
    by_test true e = (cc)
    by_test false e = refl
arc_wrong n NoTasks e = refl
arc_wrong n MinusOnes e = refl
arc_wrong n Other e = refl

pub arcs_up_to : (lines : Lines) (k : ℕ) (h : k < length lines) (arcs : List Prec) (a : Prec)
    → arcs ≡ arcs_of (take k lines) → with_pair (pair_in 1024 (line_at lines k h).at.1) [] ≡ a ∷ []
    → arcs ++ a ∷ [] ≡ arcs_of (take (suc k) lines)
arcs_up_to lines k h arcs a e w =
    ap (λ t. t ++ a ∷ []) e ∙ ap (λ t. arcs_of (take k lines) ++ t) (sym w)
    ∙ sym (arcs_snoc (take k lines) (line_at lines k h).at) ∙ ap arcs_of (sym (line_at lines k h).up_to)

-- one time more is given
no_other : (a : Option ℕ) → or_given a None ≡ a
no_other None = refl
no_other (Some t) = refl

none_given : (o : Option ℕ) → is_there o ≡ false → o ≡ None
none_given None e = refl
none_given (Some t) e = (cc)

suc_same : (a b : ℕ) → suc a ≡ suc b → a ≡ b
suc_same a b e = omega (arith, e)

pub given_up_to : (lines : Lines) (k n task time : ℕ) (given : List (Option ℕ)) (h : k < length lines)
    → AreGiven n (take k lines) given → task < n → task_named (line_at lines k h).at.1 ≡ suc task
    → time_said (line_at lines k h).at.1 ≡ time → is_there (get_or given task None) ≡ false
    → AreGiven n (take (suc k) lines) (set given task (Some time))
given_up_to lines k n task time given h g in_n v t none =
    let l : ℕ × List ℕ = (line_at lines k h).at in
    record {
      many = length-set given task (Some time) ∙ g.many;
      each = λ i w.
          let then_ : given_of (suc i) (take (suc k) lines)
          ≡ or_given (given_of (suc i) (take k lines)) (cond (nat_eq (task_named l.1) (suc i))
          (Some (time_said l.1)) None) =
          ap (given_of (suc i)) (line_at lines k h).up_to ∙ given_snoc (suc i) (take k lines) l in
          elim (cases_eq i task) [
            | inl e ↦ (let free : given_of (suc i) (take k lines) ≡ None =
                sym (g.each i w) ∙ ap (λ j. get_or given j None) e ∙ none_given (get_or given task None) none in
                ap (λ j. get_or (set given task (Some time)) j None) e
                ∙ get_or-set_same given task (Some time) None (omega (arith, in_n, g.many))
                ∙ sym (then_ ∙ ap (λ o. or_given o (cond (nat_eq (task_named l.1) (suc i)) (Some (time_said l.1)) None))
                free
                ∙ ap (λ b. cond b (Some (time_said l.1)) None) (eq-eqb (task_named l.1) (suc i) (v ∙ ap suc (sym e)))
                ∙ ap Some t))
            | inr d ↦ (get_or-set_other given task i (Some time) None d ∙ g.each i w
                ∙ sym (then_ ∙ ap (λ b. or_given (given_of (suc i) (take k lines)) (cond b (Some (time_said l.1)) None))
                (ne_eqb (task_named l.1) (suc i) (λ e. d (suc_same i task (sym e ∙ v))))
                ∙ no_other (given_of (suc i) (take k lines))))
          ];
    }

-- no time is given by no lines
pub none_yet : (n : ℕ) (lines : Lines) (given : List (Option ℕ)) → given ≡ replicate n None
    → AreGiven n (take 0 lines) given
none_yet n lines given e = record {
  many = ap length e ∙ length-replicate n None;
  each = λ i w. ap (λ g. get_or g i None) e ∙ get_or-replicate n i None None w;
}

pub all_lines : (lines : Lines) (k : ℕ) → length lines ≤ k → take k lines ≡ lines
all_lines lines k h = take_all k lines h

-- what all times say
pub named_by : (lines : Lines) (v t : ℕ) → given_of v lines ≡ Some t → names v lines ≡ true
named_by lines v t e = names_given v lines ∙ ap is_there e

there_is : (o : Option ℕ) → IsThere o → is_there o ≡ true
there_is None h = absurd h
there_is (Some t) h = refl

pub least_unnamed : (n : ℕ) (lines : Lines) (given : List (Option ℕ)) (i : ℕ) → AreGiven n lines given
    → IsFirstNone given i → IsLeastUnnamed n lines i
least_unnamed n lines given i g f = record {
  task = omega (arith, f.within, g.many);
  unnamed = names_given (suc i) lines ∙ ap is_there (sym (g.each i (omega (arith, f.within, g.many))) ∙ f.none);
  least = λ j l. names_given (suc j) lines ∙ ap is_there (sym (g.each j (omega (arith, l, f.within, g.many))))
      ∙ there_is (get_or given j None) (f.before j l);
}

pub whole_are : (n : ℕ) (lines : Lines) (given : List (Option ℕ)) (times : List ℕ) → AreGiven n lines given
    → length times ≡ length given → ((i : ℕ) → i < length given → get_or given i None ≡ Some (get_or times i 0))
    → times ≡ times_of n lines
whole_are n lines given times g m each =
    ext_get_or 0 times (times_of n lines) (m ∙ g.many ∙ sym
    (length-map-range_with_len (λ i. time_of (suc i) lines) 0 n))
    (λ i h. sym (get_or-map-range_with_len (λ i. time_of (suc i) lines) 0 n i i 0 (omega (arith, h, m, g.many))
    (omega arith)
    ∙ time_given (suc i) lines (get_or times i 0) (sym (g.each i (omega (arith, h, m, g.many)))
    ∙ each i (omega (arith, h, m)))))

pub all_named : (n : ℕ) (lines : Lines) (given : List (Option ℕ)) (times : List ℕ) → AreGiven n lines given
    → ((i : ℕ) → i < length given → get_or given i None ≡ Some (get_or times i 0)) → AllNamed n lines
all_named n lines given times g each = λ i h. named_by lines (suc i) (get_or times i 0)
    (sym (g.each i h) ∙ each i (omega (arith, h, g.many)))

within : {B : Type 0} (f : ℕ × List ℕ → B) (kept : List B) (lines : Lines) (k : ℕ) → kept ≡ map f lines
    → k < length kept → k < length lines
within f kept lines k e h = omega (arith, h, ap length e, kept_many f lines)

read_at : {B : Type 0} (f : ℕ × List ℕ → B) (kept : List B) (lines : Lines) (k : ℕ) (d : B) (e : kept ≡ map f lines)
    (h : k < length lines) → get_or kept k d ≡ f (line_at lines k h).at
read_at f kept lines k d e h = ap (λ xs. get_or xs k d) e ∙ kept_at f lines k h d

module _ (n : ℕ) (kept : List PairLine) (lines : Lines) (k : ℕ) (d : PairLine) (e : kept ≡ map pair_line lines)
    (w : k < length kept) where
  arc_there : k < length lines
  arc_there = within pair_line kept lines k e w

  pub arcs_on : (arcs : List Prec) (a : Prec) → named_arc n (get_or kept k d).arc ≡ Some a
      → AreRight (arc_fault n) (take k lines) × (arcs ≡ arcs_of (take k lines))
      → AreRight (arc_fault n) (take (k + 1) lines) × (arcs ++ a ∷ [] ≡ arcs_of (take (k + 1) lines))
  arcs_on arcs a r q =
      let x = arc_right n (pair_in 1024 (line_at lines k arc_there).at.1) a
      (sym (ap (λ l. named_arc n l.arc) (read_at pair_line kept lines k d e arc_there)) ∙ r) in
      subst (λ m. AreRight (arc_fault n) (take m lines) × (arcs ++ a ∷ [] ≡ arcs_of (take m lines))) (sym (add-one k))
      (right_up_to (arc_fault n) lines k arc_there q.0 x.0, arcs_up_to lines k arc_there arcs a q.1 x.1)

  pub arcs_stop : named_arc n (get_or kept k d).arc ≡ None → AreRight (arc_fault n) (take k lines)
      → IsFirstWrong (arc_fault n) lines (get_or kept k d).line BadArc
  arcs_stop r q =
      let x = arc_wrong n (pair_in 1024 (line_at lines k arc_there).at.1)
      (sym (ap (λ l. named_arc n l.arc) (read_at pair_line kept lines k d e arc_there)) ∙ r) in
      wrong_at (arc_fault n) lines k arc_there (get_or kept k d).line BadArc q x
      (ap (λ l. l.line) (read_at pair_line kept lines k d e arc_there))

module _ (n : ℕ) (kept : List TimeLine) (lines : Lines) (k : ℕ) (d : TimeLine) (e : kept ≡ map time_line lines)
    (w : k < length kept) where
  time_there : k < length lines
  time_there = within time_line kept lines k e w

  task_is : (get_or kept k d).task ≡ task_named (line_at lines k time_there).at.1
  task_is = ap (λ l. l.task) (read_at time_line kept lines k d e time_there)

  line_is : (get_or kept k d).line ≡ (line_at lines k time_there).at.0
  line_is = ap (λ l. l.line) (read_at time_line kept lines k d e time_there)

  pub times_bad : (nat_le 1 (get_or kept k d).task && nat_le (get_or kept k d).task n) ≡ false
      → AreRight (task_fault n) (take k lines) → IsFirstWrong (task_fault n) lines (get_or kept k d).line BadTask
  times_bad h q = wrong_at (task_fault n) lines k time_there (get_or kept k d).line BadTask q
      (bad_task n (take k lines) (line_at lines k time_there).at.1
      (subst (λ v. (nat_le 1 v && nat_le v n) ≡ false) task_is h)) line_is

  named_is : (given : List (Option ℕ)) (b : Bool) → 1 ≤ (get_or kept k d).task → (get_or kept k d).task ≤ n
      → AreGiven n (take k lines) given → is_there (get_or given ((get_or kept k d).task - 1) None) ≡ b
      → task_fault n (take k lines) (line_at lines k time_there).at.1 ≡ cond b (Some RepeatedTask) None
  named_is given b low high g t =
      let v : ℕ = task_named (line_at lines k time_there).at.1 in
      let at : (get_or kept k d).task - 1 < n = omega (arith, low, high) in
      let up : suc ((get_or kept k d).task - 1) ≡ v = omega (arith, low, task_is) in
      named_task n (take k lines) (line_at lines k time_there).at.1 b (subst (λ x. 1 ≤ x) task_is low)
      (subst (λ x. x ≤ n) task_is high)
      (names_given v (take k lines) ∙ ap (λ x. is_there (given_of x (take k lines))) (sym up)
      ∙ ap is_there (sym (g.each ((get_or kept k d).task - 1) at)) ∙ t)

  pub times_again : (given : List (Option ℕ)) → 1 ≤ (get_or kept k d).task → (get_or kept k d).task ≤ n
      → AreGiven n (take k lines) given → is_there (get_or given ((get_or kept k d).task - 1) None) ≡ true
      → AreRight (task_fault n) (take k lines) → IsFirstWrong (task_fault n) lines (get_or kept k d).line RepeatedTask
  times_again given low high g t q = wrong_at (task_fault n) lines k time_there (get_or kept k d).line RepeatedTask q
      (named_is given true low high g t) line_is

  pub times_on : (given : List (Option ℕ)) → 1 ≤ (get_or kept k d).task → (get_or kept k d).task ≤ n
      → is_there (get_or given ((get_or kept k d).task - 1) None) ≡ false
      → AreRight (task_fault n) (take k lines) × AreGiven n (take k lines) given
      → AreRight (task_fault n) (take (k + 1) lines) × AreGiven n (take (k + 1) lines)
      (set given ((get_or kept k d).task - 1) (Some (get_or kept k d).time))
  times_on given low high t q =
      subst (λ m. AreRight (task_fault n) (take m lines) × AreGiven n (take m lines)
      (set given ((get_or kept k d).task - 1) (Some (get_or kept k d).time))) (sym (add-one k)) (
        right_up_to (task_fault n) lines k time_there q.0 (named_is given false low high q.1 t),
        given_up_to lines k n ((get_or kept k d).task - 1) (get_or kept k d).time given time_there q.1
            (omega (arith, low, high)) (sym (omega (arith, low, task_is)))
            (sym (ap (λ l. l.time) (read_at time_line kept lines k d e time_there))) t,
      )

-- the times that are given, or the first task without one
pub times_whole : (n : ℕ) (lines : Lines) (given gone : List (Option ℕ)) (end : ℕ) (r : Result (Vec ℕ Global) AlbError)
    → AreRight (task_fault n) lines → AreGiven n lines given → gone ≡ given → GivesWhole gone end r
    → IsTimesRead n lines end r
times_whole n lines given gone end (Ok v) q g e w =
    let x : (length v.items ≡ length given) × ((i : ℕ) → i < length given
    → get_or given i None ≡ Some (get_or v.items i 0)) = subst (λ t. GivesWhole t end (Ok v)) e w in
    (q, all_named n lines given v.items g x.1, whole_are n lines given v.items g x.0 x.1)
times_whole n lines given gone end (Err errors.Memory) q g e w = tt
times_whole n lines given gone end (Err (errors.Fault f)) q g e w =
    (let x = subst (λ t. GivesWhole t end (Err (errors.Fault f))) e w in
    inr (x.0, q, least_unnamed n lines given x.0 g x.1, x.2, x.3))
