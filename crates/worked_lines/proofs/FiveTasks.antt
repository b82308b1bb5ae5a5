-- The five tasks of the worked rows: their loads, and their certificate.
use Rattle.std.proofs.Common.{◌≡◌, ℕ, zero, suc, ◌<◌, ◌≤◌, true, ◌&&◌, nat_eq, List, [], ◌∷◌, ◌++◌, length, refl, sym}
use Rattle.std.proofs.Common.{subst, inl, inr, Some, arith}
use Rattle.std.specs.Prelude.{slice_get, slice_index_or}
use Rattle.std.proofs.lemmas.Bool.{cases_lt, cases_Bool, and_parts}
use Rattle.std.proofs.lemmas.Bool.Decides.{nat_tests}
use Rattle.line_instance.specs.Truths.{In, full_to}
use Rattle.line_instance.specs.Line.{IsRanked, IsTaskSet, tasks, has}
use Rattle.line_instance.proofs.Sums.{weigh-none}
use Rattle.line_rules.specs.Balance.{IsRight, all_tasks, seat, time_at}
use Rattle.line_rules.specs.Bounds.{bound, lm1, lm2, lm3, sixths, head, tail, chained}
use Rattle.line_rules.specs.Loads.{IsLoad, IsFull}
use Rattle.line_rules.specs.Order.{Lists, After}
use Rattle.line_rules.specs.Entries.{IsOpen, Follows, IsDerived, Answers, HasAnswer}
use Rattle.line_rules.specs.Units.{UnitsOf, FrameUnits}
use Rattle.line_rules.specs.Trails.{IsDeepest, IsUnansweredAt, IsOpenOver}
use Rattle.line_rules.specs.Accepted.{IsAccepted}
use Rattle.worked_lines.specs.Rows.{five_free, fifteen_loads, seven_full_loads, load_of, five_bound, five_frame}
use Rattle.worked_lines.specs.Rows.{five_stopped, at, five_entry, five_certificate, CertificateOfTheRows}
use Rattle.line_rules.specs.declared.types.LineKind.TheVariants.{Straight}
use Rattle.line_rules.specs.declared.types.Side.TheVariants.{Front}
use Rattle.line_rules.specs.declared.types.Mode.TheVariants.{Fore, Both}
use Rattle.line_rules.specs.declared.types.Seatplace.{Seatplace}
use Rattle.line_rules.specs.declared.types.Load.{Load}
use Rattle.line_rules.specs.declared.types.Entry.{Entry}
use Rattle.line_rules.proofs.All.{In-all, In-all_lt}
use Rattle.line_rules.specs.declared.types.OpenFrame.{OpenFrame}
use Rattle.worked_lines.proofs.FirstLoads.{up_to_listed}
use Rattle.worked_lines.proofs.FreeTasks.{no_row as free_no_row, free_ranked}
use Rattle.line_rules.proofs.FreeSets.{all_of}
use Rattle.line_rules.proofs.ListFacts.{get_none}
use Rattle.line_rules.proofs.LongerLists.{derived_push}
use Rattle.worked_lines.proofs.Branches.{branch_follows}
use Rattle.line_rules.proofs.LoadTests.{loads_of, loads_listed, full_of, full_listed, open_of, open_listed}

no_row : (j i : ℕ) → In (slice_index_or five_free.before j []) i → ⊥
no_row = free_no_row five_free.times

five_ranked : IsRanked five_free
five_ranked = free_ranked five_free.times

five_all : IsTaskSet five_free (all_tasks five_free)
five_all = all_of five_free

five_few : tasks five_free ≤ 1024
five_few = omega arith

loads_are : loads_of five_free five_few five_ranked 7 (all_tasks five_free) five_all Fore ≡ fifteen_loads
unfolding full_to
loads_are = refl

full_are : full_of five_free five_few five_ranked 7 (all_tasks five_free) five_all Fore ≡ seven_full_loads
unfolding full_to
full_are = refl

none_open : open_of five_free five_few five_ranked 7 (all_tasks five_free) five_all Straight Fore 2 ≡ []
unfolding full_to bound lm1 lm2 lm3 sixths head tail chained
none_open = refl

five_loads : Lists five_free (IsLoad five_free 7 Fore (all_tasks five_free)) fifteen_loads
five_loads =
    let P : List Load → Type 0 = λ ls. Lists five_free (IsLoad five_free 7 Fore (all_tasks five_free)) ls in
    subst P loads_are (loads_listed five_free five_few five_ranked 7 (all_tasks five_free) five_all Fore)

five_full : Lists five_free (λ l. IsLoad five_free 7 Fore (all_tasks five_free) l
    × IsFull five_free 7 Fore (all_tasks five_free) l) seven_full_loads
five_full =
    let P : List Load → Type 0 = λ ls. Lists five_free (λ l. IsLoad five_free 7 Fore (all_tasks five_free) l
    × IsFull five_free 7 Fore (all_tasks five_free) l) ls in
    subst P full_are (full_listed five_free five_few five_ranked 7 (all_tasks five_free) five_all Fore)

five_follows : Follows Straight five_free [] five_entry
five_follows =
    branch_follows Straight five_free five_few five_ranked [] (all_tasks five_free) five_all 2 7 Fore
    (0, In-all five_free 0 five_few (omega arith)) (omega arith) (omega arith) tt [] [] none_open tt

five_derived : IsDerived Straight five_free (five_entry ∷ [])
five_derived = derived_push Straight five_free [] five_entry (λ k e h. absurd (get_none k e h)) five_follows

five_places : List Seatplace
five_places = at 1 ∷ at 2 ∷ at 1 ∷ at 2 ∷ at 3 ∷ []

seated : (i : ℕ) → In (all_tasks five_free) i → (1 ≤ (seat five_places i).station) × ((seat five_places i).station ≤ 3)
unfolding five_places
seated zero m = (omega arith, omega arith)
seated (suc zero) m = (omega arith, omega arith)
seated (suc (suc zero)) m = (omega arith, omega arith)
seated (suc (suc (suc zero))) m = (omega arith, omega arith)
seated (suc (suc (suc (suc zero)))) m = (omega arith, omega arith)
seated (suc (suc (suc (suc (suc i))))) m = absurd (omega (arith, In-all_lt five_free (suc (suc (suc (suc (suc i))))) m))

fronts : (i : ℕ) → (seat five_places i).side ≡ Front
unfolding five_places
fronts zero = refl
fronts (suc zero) = refl
fronts (suc (suc zero)) = refl
fronts (suc (suc (suc zero))) = refl
fronts (suc (suc (suc (suc zero)))) = refl
fronts (suc (suc (suc (suc (suc i))))) = refl

times_at : (s : ℕ) → s < 4 → time_at five_free (all_tasks five_free) (seat five_places) s ≤ 6
unfolding full_to five_places
times_at zero l = omega arith
times_at (suc zero) l = omega arith
times_at (suc (suc zero)) l = omega arith
times_at (suc (suc (suc zero))) l = omega arith
times_at (suc (suc (suc (suc s)))) l = absurd (omega arith)

none_past : (s : ℕ) → 4 ≤ s → time_at five_free (all_tasks five_free) (seat five_places) s ≡ 0
none_past s g = weigh-none (λ t. t) (λ i. has (all_tasks five_free) i && nat_eq (seat five_places i).station s)
    (λ i. elim (cases_Bool (has (all_tasks five_free) i && nat_eq (seat five_places i).station s)) [
      | inl y ↦ (let q : (has (all_tasks five_free) i ≡ true) × (nat_eq (seat five_places i).station s ≡ true) =
          and_parts (has (all_tasks five_free) i) (nat_eq (seat five_places i).station s) y in
          let e : (seat five_places i).station ≡ s = grind (arith, nat_tests, q.1) in
          absurd (omega (arith, e, g, (seated i q.0).1)))
      | inr n ↦ n
    ]) five_free.times

fits_six : (s : ℕ) → time_at five_free (all_tasks five_free) (seat five_places) s ≤ 6
fits_six s = elim (cases_lt s 4) [ inl l ↦ times_at s l | inr g ↦ omega (arith, none_past s g) ]

five_right : (c : ℕ) → 6 ≤ c → IsRight Straight five_free c
    (record { stations = 3; place = at 1 ∷ at 2 ∷ at 1 ∷ at 2 ∷ at 3 ∷ [] })
unfolding five_places
five_right c six = record {
  each = refl;
  sides = λ i m. fronts i;
  balance = record {
    first = λ i m. (seated i m).0;
    last = λ i m. (seated i m).1;
    keeps = λ i j m n b. absurd (no_row j i b);
    parted = λ i j m n a. absurd (no_row j i a);
    fits = λ s. omega (arith, six, fits_six s);
  };
}

five_units : UnitsOf five_free (five_entry ∷ []) 15
five_units = (15, 0, (record { loads = fifteen_loads; listed = five_loads; long = refl }, refl, refl))

five_accepted : (c : ℕ) → 6 ≤ c → c ≤ 7 → IsAccepted five_free (five_certificate c) 3 3 15
five_accepted c six seven = record {
  tasks = refl;
  claim = (
    refl,
    refl,
    record {
      balance = five_right c six;
      stations = refl;
      derived = five_derived;
      goal = λ more. (0, five_entry, (refl, record { same = refl; stations = omega arith; long = seven }));
      trail = tt;
    },
    (15, 0, (five_units, refl, refl)),
  );
}

-- the entry of cycle 7 answers nothing at cycle 8
one_entry : (k : ℕ) (e : Entry) → slice_get (five_entry ∷ []) k ≡ Some e → e ≡ five_entry
one_entry zero e h = cc
one_entry (suc k) e h = absurd (get_none k e h)

no_answer : HasAnswer (five_entry ∷ []) (all_tasks five_free) 2 8 → ⊥
no_answer h =
    let P : Entry → Type 0 = λ e. 8 ≤ e.cycle in
    let long : 8 ≤ 7 = subst P (one_entry h.0 h.1 h.2.0) h.2.1.long in
    omega (arith, long)

first_thirteen : List Load
first_thirteen =
    load_of (4 ∷ []) ∷ load_of (3 ∷ []) ∷ load_of (3 ∷ 4 ∷ []) ∷ load_of (2 ∷ []) ∷ load_of (2 ∷ 4 ∷ []) ∷ load_of
    (2 ∷ 3 ∷ []) ∷ load_of (2 ∷ 3 ∷ 4 ∷ [])
    ∷ load_of (1 ∷ []) ∷ load_of (1 ∷ 4 ∷ []) ∷ load_of (1 ∷ 3 ∷ []) ∷ load_of (1 ∷ 2 ∷ [])
    ∷ load_of (0 ∷ []) ∷ load_of (0 ∷ 4 ∷ []) ∷ []

frame_units : FrameUnits five_free 7 five_frame 14
unfolding first_thirteen
frame_units = record {
  loads = first_thirteen ++ load_of (0 ∷ 3 ∷ []) ∷ [];
  listed = up_to_listed five_free (IsLoad five_free 7 Fore (all_tasks five_free)) first_thirteen (load_of (0 ∷ 3 ∷ []))
      (load_of (0 ∷ 2 ∷ []) ∷ []) five_loads;
  long = refl;
}

frame_deepest : (es : List Entry) → IsDeepest Straight five_free 7 es five_frame
frame_deepest es =
    let P : List Load → Type 0 = λ ls. Lists five_free (IsOpen Straight five_free 7 Fore (all_tasks five_free) 2) ls in
    let none : Lists five_free (IsOpen Straight five_free 7 Fore (all_tasks five_free) 2) [] =
    subst P none_open (open_listed five_free five_few five_ranked 7 (all_tasks five_free) five_all Straight Fore
    2) in
    record {
      belongs = tt;
      last = five_loads.sound 13 (load_of (0 ∷ 3 ∷ [])) refl;
      covers = record {
        loads = [];
        listed = record {
          rises = λ k a b e f. absurd (get_none k a e);
          sound = λ k a e. absurd (get_none k a e);
          complete = λ a p. absurd (get_none (none.complete a p.0).0 a (none.complete a p.0).1);
        };
        as_many = refl;
        cited = λ p cite l e. absurd (get_none p cite e);
      };
    }

bound_is_two : bound Straight five_free 7 (all_tasks five_free) ≡ 2
unfolding full_to bound lm1 lm2 lm3 sixths head tail chained
bound_is_two = refl

five_bound_derived : IsDerived Straight five_free (five_bound ∷ [])
five_bound_derived = derived_push Straight five_free [] five_bound (λ k e h. absurd (get_none k e h))
    (record { set = five_all; cycle = omega arith; by = omega (arith, bound_is_two) })

stopped_accepted : IsAccepted five_free five_stopped 2 3 14
stopped_accepted = record {
  tasks = refl;
  claim = (
    refl,
    refl,
    record {
      balance = five_right 7 (omega arith);
      stations = refl;
      derived = five_bound_derived;
      goal = λ more. (0, five_bound, (refl, record { same = refl; stations = omega arith; long = omega arith }));
      trail = (
        2,
        (refl, omega arith, omega arith),
        record {
          passed = [];
          deepest = five_frame;
          all = refl;
          leads = (refl, refl);
          deep = frame_deepest (five_bound ∷ []);
        },
      );
    },
    (0, 14, ((0, 0, (refl, refl, refl)), (14, 0, (frame_units, refl, refl)), refl)),
  );
}

one_bound : (k : ℕ) (e : Entry) → slice_get (five_bound ∷ []) k ≡ Some e → e ≡ five_bound
one_bound zero e h = cc
one_bound (suc k) e h = absurd (get_none k e h)

one_frame : (k : ℕ) (f : OpenFrame) → slice_get (five_frame ∷ []) k ≡ Some f → f ≡ five_frame
one_frame zero f h = cc
one_frame (suc k) f h = absurd (get_none k f h)

bound_is_short : (e : Entry) → e ≡ five_bound → Answers e (all_tasks five_free) 2 7 → ⊥
bound_is_short e same a =
    let P : Entry → Type 0 = λ d. 2 ≤ d.most in
    let stations : 2 ≤ 1 = subst P same a.stations in
    omega (arith, stations)

-- the load that the search was about to try
further_load : (f : OpenFrame) → f ≡ five_frame → (l : Load) × IsLoad five_free 7 f.mode f.set l
    × After five_free f.last l
further_load f same =
    let P : OpenFrame → Type 0 = λ g. (l : Load) × IsLoad five_free 7 g.mode g.set l × After five_free g.last l in
    subst P (sym same) (
      load_of (0 ∷ 2 ∷ []),
      five_loads.sound 14 (load_of (0 ∷ 2 ∷ [])) refl,
      five_loads.rises 13 (load_of (0 ∷ 3 ∷ [])) (load_of (0 ∷ 2 ∷ [])) refl refl,
    )

frame_unanswered : (f : OpenFrame) → f ≡ five_frame → IsUnansweredAt 7 (five_bound ∷ []) f
frame_unanswered f same =
    let P : OpenFrame → Type 0 = IsUnansweredAt 7 (five_bound ∷ []) in
    subst P (sym same) (λ k e h c a. bound_is_short e (one_bound k e h) a)

trail_is_open : IsOpenOver five_free 7 (five_bound ∷ []) (five_frame ∷ [])
trail_is_open = record {
  unanswered = λ k f h. frame_unanswered f (one_frame k f h);
  further = λ k f h e. further_load f (one_frame k f h);
}

whole_answers : Answers five_entry (all_tasks five_free) 2 7
whole_answers = record { same = refl; stations = omega arith; long = omega arith }

u_many : length (loads_of five_free five_few five_ranked 7 (all_tasks five_free) five_all Both) ≡ 54
unfolding full_to
u_many = refl

pub certificate_of_the_rows : CertificateOfTheRows
certificate_of_the_rows = record {
  loads = five_loads;
  full = five_full;
  at_7 = five_accepted 7 (omega arith) (omega arith);
  at_6 = five_accepted 6 (omega arith) (omega arith);
  at_8 = λ lower upper units a. no_answer (a.claim.2.goal (omega arith));
  stopped = stopped_accepted;
  left_open = trail_is_open;
  answered = λ o. o.unanswered 0 five_frame refl 1 five_entry refl refl whole_answers;
  u_loads = record {
    loads = loads_of five_free five_few five_ranked 7 (all_tasks five_free) five_all Both;
    listed = loads_listed five_free five_few five_ranked 7 (all_tasks five_free) five_all Both;
    long = u_many;
  };
}
