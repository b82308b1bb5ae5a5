-- The fault of the reading is the fault of the grammar.
use Rattle.std.proofs.Common.{◌≡◌, ℕ, zero, suc, ◌<◌, ◌≤◌, Bool, true, false, cond, nat_eq, List, [], ◌∷◌, ◌++◌, length}
use Rattle.std.proofs.Common.{map, refl, sym, ◌∙◌, ap, subst, arith, Some, None, Ok, Err, Result, ◌⊎◌, inl, inr}
use Rattle.std.proofs.Common.{append_assoc}
use Rattle.std.proofs.lemmas.Bool.{false≢true}
use Rattle.std.proofs.lemmas.List.{append-nil}
use Rattle.std.proofs.lemmas.Bool.Decides.{nat_tests}
use Rattle.line_io.specs.Lines.{number_in}
use Rattle.line_io.specs.declared.text.Num.{Num}
use Rattle.line_io.specs.declared.text.Num.TheVariants.{Value, NotANumber as NoNumber, Above}
use Rattle.line_instance.specs.declared.arcs.Prec.{Prec}
use Rattle.in2_reader.specs.Contents.{Lines}
use Rattle.in2_reader.specs.declared.pair.Meaning.{Meaning}
use Rattle.in2_reader.specs.declared.pair.Meaning.TheVariants.{Before}
use Rattle.in2_reader.specs.declared.pair.Pair.{Pair}
use Rattle.in2_reader.specs.declared.pair.Pair.TheVariants.{Arc, BadArc as NoTasks, End, Other}
use Rattle.in2_reader.specs.declared.fault.In2Fault.{In2Fault}
use Rattle.in2_reader.specs.declared.fault.In2Kind.TheVariants.{NotANumber, Range, MissingTimes, MissingEnd, BadArc}
use Rattle.in2_reader.specs.declared.fault.In2Kind.TheVariants.{TooManyArcs}
use Rattle.in2_reader.specs.inner.Draft.{times_in, pairs_in, timed, paired, with_time, with_arc, with_times}
use Rattle.in2_reader.specs.inner.Draft.{then_pairs, counted, lines_said}
use Rattle.in2_reader.specs.Grammar.{In2, Spells}
use Rattle.in2_reader.specs.Faults.{IsBeginning, IsRead, Begins, count_fault, time_fault, pair_fault, IsWrong, count}
use Rattle.in2_reader.specs.Faults.{time, pair, IsMissing, all, times, mark, IsLineFault, IsEndFault, IsFormFault}
use Rattle.in2_reader.proofs.GrammarFacts.{time_at, pair_at, times_read, times_spelled, spelled_is_read}
use Rattle.in2_reader.proofs.FilledLines.{times_begin, pairs_begin, nothing_begins}

-- a line stops the times: those before it are times, and it is none
pub record StopsTimes (n : ℕ) (ls : Lines) (f : In2Fault) : Type 0 where
  pub before : Lines
  pub at : ℕ × List ℕ
  pub after : Lines
  pub ts : List ℕ
  pub all : ls ≡ before ++ at ∷ after
  pub line : f.line ≡ at.0
  pub read : map time_at before ≡ map Value ts
  pub few : length ts < n
  pub wrong : time_fault (time_at at) ≡ Some f.kind
  pub stays : (end : ℕ) (more : Lines) → times_in end n (before ++ at ∷ more) ≡ Err f

-- the text ends within the times
pub record EndsTimes (end n : ℕ) (ls : Lines) (f : In2Fault) : Type 0 where
  pub ts : List ℕ
  pub line : f.line ≡ end
  pub kind : f.kind ≡ MissingTimes
  pub read : map time_at ls ≡ map Value ts
  pub few : length ts < n

timed_err : (k : ℕ) (v : Num) (r : Result (List ℕ × Lines) In2Fault) (f : In2Fault) → timed k v r ≡ Err f
    → ((f.line ≡ k) × (time_fault v ≡ Some f.kind) × ((s : Result (List ℕ × Lines) In2Fault) → timed k v s ≡ Err f))
    ⊎ ((t : ℕ) × (v ≡ Value t) × (r ≡ Err f))
timed_err k NoNumber r f e = let i : f ≡ record { line = k; kind = NotANumber } = cc in
    inl (ap (λ x. x.line) i, ap (λ x. Some x.kind) (sym i), λ s. e)
timed_err k Above r f e = let i : f ≡ record { line = k; kind = Range } = cc in
    inl (ap (λ x. x.line) i, ap (λ x. Some x.kind) (sym i), λ s. e)
timed_err k (Value t) (Err g) f e = inr (t, refl, e)
timed_err k (Value t) (Ok y) f e = (cc)

times_faulty : (end n : ℕ) (ls : Lines) (f : In2Fault) → times_in end n ls ≡ Err f
    → StopsTimes n ls f ⊎ EndsTimes end n ls f
times_faulty end zero ls f e = (cc)
times_faulty end (suc n) [] f e =
    let i : f ≡ record { line = end; kind = MissingTimes } = cc in
    inr (record { ts = []; line = ap (λ x. x.line) i; kind = ap (λ x. x.kind) i; read = refl; few = omega arith })
times_faulty end (suc n) (l ∷ ls) f e = elim (timed_err l.0 (time_at l) (times_in end n ls) f e) [
  | inl o ↦ inl (record {
    before = [];
    at = l;
    after = ls;
    ts = [];
    all = refl;
    line = o.0;
    read = refl;
    few = omega arith;
    wrong = o.1;
    stays = λ end more. o.2 (times_in end n more);
  })
  | inr o ↦ elim (times_faulty end n ls f o.2) [
    | inl i ↦ inl (record {
      before = l ∷ i.before;
      at = i.at;
      after = i.after;
      ts = o.0 ∷ i.ts;
      all = ap (λ r. l ∷ r) i.all;
      line = i.line;
      read = ap (λ v. v ∷ map time_at i.before) o.1 ∙ ap (λ r. Value o.0 ∷ r) i.read;
      few = omega (arith, i.few);
      wrong = i.wrong;
      stays = λ end more. ap (λ v. timed l.0 v (times_in end n (i.before ++ i.at ∷ more))) o.1
          ∙ ap (with_time o.0) (i.stays end more);
    })
    | inr i ↦ inr (record {
      ts = o.0 ∷ i.ts;
      line = i.line;
      kind = i.kind;
      read = ap (λ v. v ∷ map time_at ls) o.1 ∙ ap (λ r. Value o.0 ∷ r) i.read;
      few = omega (arith, i.few);
    })
  ]
]

-- a line stops the pairs: those before it are pairs, and it is none that may stand there
pub record StopsPairs (meaning : Meaning) (tasks room : ℕ) (ls : Lines) (f : In2Fault) : Type 0 where
  pub before : Lines
  pub at : ℕ × List ℕ
  pub after : Lines
  pub ps : List Prec
  pub all : ls ≡ before ++ at ∷ after
  pub line : f.line ≡ at.0
  pub read : map (pair_at meaning tasks) before ≡ map Arc ps
  pub few : length ps ≤ room
  pub wrong : pair_fault (nat_eq (length ps) room) (pair_at meaning tasks at) ≡ Some f.kind
  pub stays : (end : ℕ) (more : Lines) → pairs_in end meaning tasks room (before ++ at ∷ more) ≡ Err f

-- the text ends within the pairs
pub record EndsPairs (end : ℕ) (meaning : Meaning) (tasks room : ℕ) (ls : Lines) (f : In2Fault) : Type 0 where
  pub ps : List Prec
  pub line : f.line ≡ end
  pub kind : f.kind ≡ MissingEnd
  pub read : map (pair_at meaning tasks) ls ≡ map Arc ps
  pub few : length ps ≤ room

paired_err : (k : ℕ) (full : Bool) (p : Pair) (r : Result (List Prec × ℕ) In2Fault) (f : In2Fault)
    → paired k full p r ≡ Err f
    → ((f.line ≡ k) × (pair_fault full p ≡ Some f.kind) × ((s : Result (List Prec × ℕ) In2Fault)
    → paired k full p s ≡ Err f)) ⊎ ((a : Prec) × (p ≡ Arc a) × (full ≡ false) × (r ≡ Err f))
paired_err k full Other r f e = let i : f ≡ record { line = k; kind = NotANumber } = cc in
    inl (ap (λ x. x.line) i, ap (λ x. Some x.kind) (sym i), λ s. e)
paired_err k full End r f e = (cc)
paired_err k true NoTasks r f e = let i : f ≡ record { line = k; kind = TooManyArcs } = cc in
    inl (ap (λ x. x.line) i, ap (λ x. Some x.kind) (sym i), λ s. e)
paired_err k false NoTasks r f e = let i : f ≡ record { line = k; kind = BadArc } = cc in
    inl (ap (λ x. x.line) i, ap (λ x. Some x.kind) (sym i), λ s. e)
paired_err k true (Arc a) r f e = let i : f ≡ record { line = k; kind = TooManyArcs } = cc in
    inl (ap (λ x. x.line) i, ap (λ x. Some x.kind) (sym i), λ s. e)
paired_err k false (Arc a) (Err g) f e = inr (a, refl, refl, e)
paired_err k false (Arc a) (Ok y) f e = (cc)

none_is_room : (r : ℕ) → nat_eq 0 (suc r) ≡ false
none_is_room r = grind (arith, nat_tests)

both_more : (a b : ℕ) → nat_eq (suc a) (suc b) ≡ nat_eq a b
both_more a b = grind (arith, nat_tests)

pub pairs_faulty : (end : ℕ) (meaning : Meaning) (tasks room : ℕ) (ls : Lines) (f : In2Fault)
    → pairs_in end meaning tasks room ls ≡ Err f → StopsPairs meaning tasks room ls f
    ⊎ EndsPairs end meaning tasks room ls f
pairs_faulty end meaning tasks room [] f e =
    let i : f ≡ record { line = end; kind = MissingEnd } = cc in
    inr (record { ps = []; line = ap (λ x. x.line) i; kind = ap (λ x. x.kind) i; read = refl; few = omega arith })
pairs_faulty end meaning tasks zero (l ∷ ls) f e = elim (paired_err l.0 true (pair_at meaning tasks l)
    (Err (record { line = end; kind = MissingEnd })) f e) [
      | inl o ↦ inl (record {
        before = [];
        at = l;
        after = ls;
        ps = [];
        all = refl;
        line = o.0;
        read = refl;
        few = omega arith;
        wrong = o.1;
        stays = λ end more. o.2 (Err (record { line = end; kind = MissingEnd }));
      })
      | inr o ↦ absurd (false≢true (sym o.2))
    ]
pairs_faulty end meaning tasks (suc room) (l ∷ ls) f e = elim
    (paired_err l.0 false (pair_at meaning tasks l) (pairs_in end meaning tasks room ls) f e) [
      | inl o ↦ inl (record {
        before = [];
        at = l;
        after = ls;
        ps = [];
        all = refl;
        line = o.0;
        read = refl;
        few = omega arith;
        wrong = ap (λ full. pair_fault full (pair_at meaning tasks l)) (none_is_room room) ∙ o.1;
        stays = λ end more. o.2 (pairs_in end meaning tasks room more);
      })
      | inr o ↦ elim (pairs_faulty end meaning tasks room ls f o.3) [
        | inl i ↦ inl (record {
          before = l ∷ i.before;
          at = i.at;
          after = i.after;
          ps = o.0 ∷ i.ps;
          all = ap (λ r. l ∷ r) i.all;
          line = i.line;
          read = ap (λ v. v ∷ map (pair_at meaning tasks) i.before) o.1 ∙ ap (λ r. Arc o.0 ∷ r) i.read;
          few = omega (arith, i.few);
          wrong = ap (λ full. pair_fault full (pair_at meaning tasks i.at)) (both_more (length i.ps) room) ∙ i.wrong;
          stays = λ end more. ap (λ v. paired l.0 false v (pairs_in end meaning tasks room (i.before ++ i.at ∷ more)))
              o.1
              ∙ ap (with_arc o.0) (i.stays end more);
        })
        | inr i ↦ inr (record {
          ps = o.0 ∷ i.ps;
          line = i.line;
          kind = i.kind;
          read = ap (λ v. v ∷ map (pair_at meaning tasks) ls) o.1 ∙ ap (λ r. Arc o.0 ∷ r) i.read;
          few = omega (arith, i.few);
        })
      ]
    ]

-- times are read the same whatever stands behind them
pub record KeepsTimes (n : ℕ) (ls : Lines) (t : List ℕ × Lines) : Type 0 where
  pub timed : Lines
  pub all : ls ≡ timed ++ t.1
  pub read : map time_at timed ≡ map Value t.0
  pub many : length t.0 ≡ n
  pub stays : (end : ℕ) (more : Lines) → times_in end n (timed ++ more) ≡ Ok (t.0, more)

times_kept : (end n : ℕ) (ls : Lines) (t : List ℕ × Lines) → times_in end n ls ≡ Ok t → KeepsTimes n ls t
times_kept end n ls t e =
    let s = times_spelled end n ls t e in
    record {
      timed = s.0;
      all = s.1;
      read = s.2;
      many = s.3;
      stays = λ end more. ap (λ k. times_in end k (s.0 ++ more)) (sym s.3) ∙ times_read end s.0 t.0 more s.2;
    }

head_err : (end k : ℕ) (v : Num) (ls : Lines) (f : In2Fault) → counted end k v ls ≡ Err f
    → ((f.line ≡ k) × (count_fault v ≡ Some f.kind) × ((end : ℕ) (more : Lines) → counted end k v more ≡ Err f))
    ⊎ ((n : ℕ) × (v ≡ Value n) × (nat_eq n 0 ≡ false) × (then_pairs end n (times_in end n ls) ≡ Err f))
head_err end k NoNumber ls f e = let i : f ≡ record { line = k; kind = NotANumber } = cc in
    inl (ap (λ x. x.line) i, ap (λ x. Some x.kind) (sym i), λ end more. e)
head_err end k Above ls f e = let i : f ≡ record { line = k; kind = Range } = cc in
    inl (ap (λ x. x.line) i, ap (λ x. Some x.kind) (sym i), λ end more. e)
head_err end k (Value n) ls f e =
    let I : (b : Bool) → nat_eq n 0 ≡ b → cond b (Err (record { line = k; kind = Range }))
    (then_pairs end n (times_in end n ls)) ≡ Err f
    → ((f.line ≡ k) × (count_fault (Value n) ≡ Some f.kind)
    × ((end : ℕ) (more : Lines) → counted end k (Value n) more ≡ Err f))
    ⊎ ((m : ℕ) × (Value n ≡ Value m) × (nat_eq m 0 ≡ false) × (then_pairs end m (times_in end m ls) ≡ Err f)) =
    elim [
      | true ↦ (λ z h. let w : Err (record { line = k; kind = Range }) ≡ Err f = h in
          let i : f ≡ record { line = k; kind = Range } = cc in
          inl (
            ap (λ x. x.line) i,
            ap (λ b. cond b (Some Range) None) z ∙ ap (λ x. Some x.kind) (sym i),
            λ end more. ap (λ b. cond b (Err (record { line = k; kind = Range }))
                (then_pairs end n (times_in end n more))) z ∙ h,
          ))
      | false ↦ (λ z h. inr (n, refl, z, h))
    ] in
    I (nat_eq n 0) refl e

same_fault : {A : Type 0} (r : Result A In2Fault) (g f : In2Fault) → r ≡ Err g → r ≡ Err f → g ≡ f
same_fault r g f d e = cc

parts_err : (end n : ℕ) (ls : Lines) (f : In2Fault) → then_pairs end n (times_in end n ls) ≡ Err f
    → (times_in end n ls ≡ Err f) ⊎ ((t : List ℕ × Lines) × (times_in end n ls ≡ Ok t)
    × (pairs_in end Before n 524288 t.1 ≡ Err f))
parts_err end n ls f e =
    let J : (t : List ℕ × Lines) (p : Result (List Prec × ℕ) In2Fault) → pairs_in end Before n 524288 t.1 ≡ p
    → with_times t.0 p ≡ Err f → pairs_in end Before n 524288 t.1 ≡ Err f =
    λ t. elim [
      | Err g ↦ (λ a h. a ∙ ap (λ x. Err x) (same_fault {A = In2} (Err g) g f refl h))
      | Ok q ↦
          (λ a h. (let w : ◌≡◌ {A = Result In2 In2Fault} (Ok (record { times = t.0; arcs = q.0; last = q.1 })) (Err f) =
          h in (cc)))
    ] in
    let K : (r : Result (List ℕ × Lines) In2Fault) → times_in end n ls ≡ r → then_pairs end n r ≡ Err f
    → (times_in end n ls ≡ Err f) ⊎ ((t : List ℕ × Lines) × (times_in end n ls ≡ Ok t)
    × (pairs_in end Before n 524288 t.1 ≡ Err f)) =
    elim [
      | Err g ↦ (λ a h. inl (a ∙ ap (λ x. Err x) (same_fault {A = In2} (Err g) g f refl h)))
      | Ok t ↦
          (λ a h. inr (t, a, J t (pairs_in end Before n 524288 t.1) refl h))
    ] in
    K (times_in end n ls) refl e

-- the head line is a number of tasks, and more follows
behind_head : (end n : ℕ) (l : ℕ × List ℕ) (more : Lines) → number_in 1024 l.1 ≡ Value n → nat_eq n 0 ≡ false
    → lines_said end (l ∷ more) ≡ then_pairs end n (times_in end n more)
behind_head end n l more v z =
    ap (λ x. counted end l.0 x more) v ∙ ap (λ b. cond b (Err (record { line = l.0; kind = Range }))
    (then_pairs end n (times_in end n more))) z

-- no contents that begin so are read, where the reading finds the fault whatever follows
no_beginning : (before : Lines) (at : ℕ × List ℕ) (f : In2Fault)
    → ((end : ℕ) (more : Lines) → lines_said end (before ++ at ∷ more) ≡ Err f) → IsBeginning IsRead (before ++ at ∷ [])
    → ⊥
no_beginning before at f h b =
    let said : lines_said 0 (before ++ at ∷ b.0) ≡ Ok b.1.0 =
    ap (lines_said 0) (sym (append_assoc before (at ∷ []) b.0))
    ∙ spelled_is_read 0 ((before ++ at ∷ []) ++ b.0) b.1.0 b.1.1 in
    let w : Err f ≡ Ok b.1.0 = sym (h 0 b.0) ∙ said in
    (cc)

not_spelled : (end : ℕ) (lines : Lines) (f : In2Fault) (x : In2) → lines_said end lines ≡ Err f → Spells lines x → ⊥
not_spelled end lines f x e s = let w : Err f ≡ Ok x = sym e ∙ spelled_is_read end lines x s in (cc)

module _ (end n : ℕ) (l : ℕ × List ℕ) (ls : Lines) (f : In2Fault) (v : number_in 1024 l.1 ≡ Value n)
    (z : nat_eq n 0 ≡ false) (e : lines_said end (l ∷ ls) ≡ Err f) where
  some : 0 < n
  some = grind (arith, nat_tests, z)

  begun : (tl pl : Lines) (ts : List ℕ) (ps : List Prec) → map time_at tl ≡ map Value ts
      → map (pair_at Before n) pl ≡ map Arc ps → length ps ≤ 524288 → Begins (l ∷ (tl ++ pl)) n ts ps
  begun tl pl ts ps t p h = record {
    head = l;
    timed = tl;
    paired = pl;
    all = refl;
    count = v;
    some = some;
    times = t;
    arcs = p;
    few = h;
  }

  begun_times : (tl : Lines) (ts : List ℕ) → map time_at tl ≡ map Value ts → Begins (l ∷ tl) n ts []
  begun_times tl ts t = record {
    head = l;
    timed = tl;
    paired = [];
    all = ap (λ r. l ∷ r) (sym (append-nil tl));
    count = v;
    some = some;
    times = t;
    arcs = refl;
    few = omega arith;
  }

  within_times : StopsTimes n ls f → IsLineFault IsRead IsWrong (l ∷ ls) f
  within_times i = record {
    before = l ∷ i.before;
    at = i.at;
    after = i.after;
    all = ap (λ r. l ∷ r) i.all;
    line = i.line;
    passes = times_begin (l ∷ i.before) n i.ts (begun_times i.before i.ts i.read) (omega (arith, i.few));
    stops = no_beginning (l ∷ i.before) i.at f (λ end' more. behind_head end' n l (i.before ++ i.at ∷ more) v z
        ∙ ap (then_pairs end' n) (i.stays end' more));
    kind = time n i.ts (begun_times i.before i.ts i.read) i.few i.wrong;
  }

  at_end_of_times : EndsTimes end n ls f → IsEndFault IsRead IsMissing end (l ∷ ls) f
  at_end_of_times i = record {
    line = i.line;
    passes = times_begin (l ∷ ls) n i.ts (begun_times ls i.ts i.read) (omega (arith, i.few));
    ends = λ r. not_spelled end (l ∷ ls) f r.0 e r.1;
    kind = times n i.ts (begun_times ls i.ts i.read) i.few i.kind;
  }

  module _ (t : List ℕ × Lines) (k : KeepsTimes n ls t) where
    within_pairs : StopsPairs Before n 524288 t.1 f → IsLineFault IsRead IsWrong (l ∷ ls) f
    within_pairs i =
        let b : Begins (l ∷ (k.timed ++ i.before)) n t.0 i.ps = begun k.timed i.before t.0 i.ps k.read i.read i.few in
        record {
          before = l ∷ (k.timed ++ i.before);
          at = i.at;
          after = i.after;
          all = ap (λ r. l ∷ r) (k.all ∙ ap (λ r. k.timed ++ r) i.all
              ∙ sym (append_assoc k.timed i.before (i.at ∷ i.after)));
          line = i.line;
          passes = pairs_begin (l ∷ (k.timed ++ i.before)) n t.0 i.ps b k.many;
          stops = no_beginning (l ∷ (k.timed ++ i.before)) i.at f
              (λ end' more. behind_head end' n l ((k.timed ++ i.before) ++ i.at ∷ more) v z
              ∙ ap (λ r. then_pairs end' n (times_in end' n r)) (append_assoc k.timed i.before (i.at ∷ more))
              ∙ ap (then_pairs end' n) (k.stays end' (i.before ++ i.at ∷ more))
              ∙ ap (with_times t.0) (i.stays end' more));
          kind = pair n t.0 i.ps b k.many i.wrong;
        }

    at_end_of_pairs : EndsPairs end Before n 524288 t.1 f → IsEndFault IsRead IsMissing end (l ∷ ls) f
    at_end_of_pairs i =
        let P : Lines → Type 0 = λ r. Begins (l ∷ r) n t.0 i.ps in
        let b : Begins (l ∷ ls) n t.0 i.ps = subst P (sym k.all) (begun k.timed t.1 t.0 i.ps k.read i.read i.few) in
        record {
          line = i.line;
          passes = pairs_begin (l ∷ ls) n t.0 i.ps b k.many;
          ends = λ r. not_spelled end (l ∷ ls) f r.0 e r.1;
          kind = mark n t.0 i.ps b k.many i.kind;
        }

pub fault_is_first : (end : ℕ) (lines : Lines) (f : In2Fault) → lines_said end lines ≡ Err f → IsFormFault end lines f
fault_is_first end [] f e =
    let i : f ≡ record { line = end; kind = MissingTimes } = cc in
    inr (record {
      line = ap (λ x. x.line) i;
      passes = nothing_begins;
      ends = λ r. not_spelled end [] f r.0 e r.1;
      kind = all refl (ap (λ x. x.kind) i);
    })
fault_is_first end (l ∷ ls) f e = elim (head_err end l.0 (number_in 1024 l.1) ls f e) [
  | inl o ↦ inl (record {
    before = [];
    at = l;
    after = ls;
    all = refl;
    line = o.0;
    passes = nothing_begins;
    stops = no_beginning [] l f o.2;
    kind = count refl o.1;
  })
  | inr o ↦ elim (parts_err end o.0 ls f o.3) [
    | inl t ↦ elim (times_faulty end o.0 ls f t) [
      | inl i ↦ inl (within_times end o.0 l ls f o.1 o.2 e i)
      | inr i ↦
          inr (at_end_of_times end o.0 l ls f o.1 o.2 e i)
    ]
    | inr t ↦ elim (pairs_faulty end Before o.0 524288 t.0.1 f t.2) [
      | inl i ↦ inl (within_pairs end o.0 l ls f o.1 o.2 e t.0 (times_kept end o.0 ls t.0 t.1) i)
      | inr i ↦ inr (at_end_of_pairs end o.0 l ls f o.1 o.2 e t.0 (times_kept end o.0 ls t.0 t.1) i)
    ]
  ]
]
