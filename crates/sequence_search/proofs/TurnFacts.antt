-- The turns of a try: a step, a frame more, a frame that is published, and the ends.
use Rattle.std.proofs.Common.{◌≡◌, ℕ, suc, ◌+◌, ◌-◌, ◌<◌, ◌≤◌, true, false, nat_lt, List, [], ◌∷◌, ◌++◌, length, refl}
use Rattle.std.proofs.Common.{sym, ap, ◌∙◌, subst, arith, Some, None, Option, length-append, sum}
use Rattle.std.proofs.lemmas.Bool.{and_from, lt-ltb}
use Rattle.std.proofs.lemmas.List.{append-nil}
use Rattle.std.proofs.lemmas.List.Sums.{sum_by_push}
use Rattle.std.proofs.lemmas.Option.{same_Some}
use Rattle.sequence_values.specs.declared.types.Times.{Times}
use Rattle.sequence_values.specs.declared.types.SeqEntry.{SeqEntry}
use Rattle.sequence_values.specs.declared.types.SeqFrame.{SeqFrame}
use Rattle.sequence_rules.specs.States.{step_cost, next_starts, less_one, state_bound, IsSequenceOf, cost, root_starts}
use Rattle.sequence_rules.specs.Entries.{IsCited, Covers, HasAnswer, Follows, is_left, needs_cite, models_left}
use Rattle.sequence_rules.specs.Entries.{entry_units, units_of}
use Rattle.sequence_rules.specs.Trails.{IsRoot, IsLeftBy, IsAskedAt, EndsWell, up_to, frame_units, units_in}
use Rattle.sequence_rules.proofs.CostFacts.{cost_steps, left_within}
use Rattle.sequence_search.specs.About.{About, charges_of}
use Rattle.sequence_search.specs.Steps.{IsNextModel, IsNoModel, IsNextState, HasPlainAnswer}
use Rattle.sequence_search.specs.inner.Paths.{lasts, IsWorked, IsPassed, IsAlong, IsTop, IsBook}
use Rattle.sequence_search.specs.inner.Tries.{entry_of}
use Rattle.sequence_search.proofs.BookFacts.{last_answers, book_more}
use Rattle.sequence_search.proofs.CoverFacts.{covers_skip, covers_no, covers_yes, covers_none, cites_within, units_step}
use Rattle.sequence_search.proofs.CoverFacts.{units_end, none_sum}
use Rattle.sequence_search.proofs.PathFacts.{along_rest, along_last, along_grow, worked_grow, asked_last, sum_less}
use Rattle.sequence_search.proofs.PathFacts.{some_left, sequence_cons, none_is_sequence, lasts_push, needs_parts}
use Rattle.sequence_search.proofs.PathFacts.{next_on}

-- a frame whose last model is another one, and one with a cite more
abbrev pub with_last : SeqFrame → ℕ → SeqFrame
with_last f m = record { rem = f.rem; starts = f.starts; need = f.need; last = Some m; cites = f.cites }

abbrev pub with_cite : SeqFrame → ℕ → SeqFrame
with_cite f id = record { rem = f.rem; starts = f.starts; need = f.need; last = f.last; cites = f.cites ++ id ∷ [] }

-- a step by the next model
pub steps_on : (t : Times) (interval reach : ℕ) (about : About) (goal : ℕ) (es : List SeqEntry) (above : List SeqFrame) (f : SeqFrame) (m : ℕ)
    → IsTop t interval reach about goal es above f → IsNextModel f.rem (up_to f.last) m
    → IsWorked t interval reach about goal es above (with_last f m) m
steps_on t interval reach about goal es above f m top n = record {
  on = top.worked.on;
  unanswered = top.worked.unanswered;
  covers = covers_skip t interval reach about es f.rem f.starts f.need (up_to f.last) m f.cites n.after n.first
      top.worked.covers;
}

pub top_passes : (t : Times) (interval reach : ℕ) (about : About) (goal : ℕ) (es : List SeqEntry) (above : List SeqFrame) (f : SeqFrame)
    (m : ℕ)
    → IsWorked t interval reach about goal es above (with_last f m) m → is_left f.rem m ≡ true
    → needs_cite t interval reach f.rem f.starts f.need m ≡ false
    → IsTop t interval reach about goal es above (with_last f m)
top_passes t interval reach about goal es above f m w left none = record {
  last = left;
  worked = record {
    on = w.on;
    unanswered = w.unanswered;
    covers =
        covers_no t interval reach about es f.rem f.starts f.need m f.cites none w.covers;
  };
}

pub top_answers : (t : Times) (interval reach : ℕ) (about : About) (goal : ℕ) (es : List SeqEntry) (above : List SeqFrame) (f : SeqFrame)
    (m id : ℕ)
    → IsWorked t interval reach about goal es above (with_last f m) m → is_left f.rem m ≡ true
    → needs_cite t interval reach f.rem f.starts f.need m ≡ true
    → IsCited (charges_of about) es id (less_one f.rem m) (next_starts t interval reach m f.starts) (f.need - step_cost t reach m f.starts)
    → IsTop t interval reach about goal es above (with_cite (with_last f m) id)
top_answers t interval reach about goal es above f m id w left needs a = record {
  last = left;
  worked = record {
    on = w.on;
    unanswered = w.unanswered;
    covers =
        covers_yes t interval reach about es f.rem f.starts f.need m id f.cites needs a w.covers;
  };
}

-- a frame more
pub passed_on : (t : Times) (interval reach : ℕ) (about : About) (goal : ℕ) (es : List SeqEntry) (above : List SeqFrame) (f : SeqFrame)
    (m : ℕ)
    → IsWorked t interval reach about goal es above (with_last f m) m → is_left f.rem m ≡ true
    → IsPassed t interval reach about goal es above (with_last f m)
passed_on t interval reach about goal es above f m w left = record { model = m; last = refl; left = left; worked = w }

pub opened : (t : Times) (interval reach : ℕ) (about : About) (goal : ℕ) (es : List SeqEntry) (above : List SeqFrame) (f g : SeqFrame) (m : ℕ)
    → reach ≤ 1000000000
    → IsWorked t interval reach about goal es above (with_last f m) m → is_left f.rem m ≡ true
    → needs_cite t interval reach f.rem f.starts f.need m ≡ true
    → IsNextState t interval reach f m g → 0 < sum g.rem → (HasPlainAnswer es g.rem g.starts g.need → ⊥) → g.last ≡ None
    → g.cites ≡ []
    → IsTop t interval reach about goal es (above ++ with_last f m ∷ []) g
opened t interval reach about goal es above f g m r w left needs n some un last cites =
    let P : Option ℕ → Type 0 = λ o. EndsWell true g.rem o in
    let C : ℕ → List ℕ → Type 0 = λ k cs. Covers t interval reach (charges_of about) es g.rem g.starts g.need k cs in
    let none : up_to g.last ≡ 0 = ap (λ o. up_to o) last in
    let state : IsNextState t interval reach (with_last f m) m g =
    record { rem = n.rem; starts = n.starts; need = n.need } in
    record {
      last = subst P (sym last) refl;
      worked = record {
        on = next_on t interval reach goal above (with_last f m) g m r w.on refl left needs state some;
        unanswered = un;
        covers = subst (λ (k : ℕ). C k g.cites) (sym none) (subst (λ (cs : List ℕ). C 0 cs) (sym cites)
            (covers_none t interval reach about es g.rem g.starts g.need));
      };
    }

-- a frame whose models ended follows, has a unit, and is in its range
pub ended_follows : (t : Times) (interval reach : ℕ) (about : About) (goal : ℕ) (es : List SeqEntry) (above : List SeqFrame) (f : SeqFrame)
    → IsTop t interval reach about goal es above f → IsNoModel f.rem (up_to f.last) → up_to f.last ≤ length f.rem
    → Follows t interval reach (charges_of about) es (entry_of f)
ended_follows t interval reach about goal es above f top none l = record {
  some = top.worked.on.some;
  covers = covers_skip t interval reach about es f.rem f.starts f.need (up_to f.last) (length f.rem) f.cites l
      (λ m g u. none m g) top.worked.covers;
}

last_within : (rem : List ℕ) (last : Option ℕ) → EndsWell true rem last → up_to last ≤ length rem
last_within rem None h = omega arith
last_within rem (Some m) h = omega (arith, left_within rem m (some_left rem m h))

pub top_within : (t : Times) (interval reach : ℕ) (about : About) (goal : ℕ) (es : List SeqEntry) (above : List SeqFrame) (f : SeqFrame)
    → IsTop t interval reach about goal es above f → up_to f.last ≤ length f.rem
top_within t interval reach about goal es above f top = last_within f.rem f.last top.last

counts_one : (rem : List ℕ) (last : Option ℕ) → EndsWell true rem last → IsNoModel rem (up_to last) → 0 < sum rem
    → 1 ≤ models_left rem (length rem)
counts_one rem None h none some = absurd (omega (arith, some, none_sum rem none))
counts_one rem (Some m) h none some =
    omega (
      arith,
      units_end rem (suc m) (left_within rem m (some_left rem m h)) none,
      units_step rem m m (omega arith) (λ k g u. absurd (omega (arith, g, u))) h,
    )

pub ended_units : (t : Times) (interval reach : ℕ) (about : About) (goal : ℕ) (es : List SeqEntry) (above : List SeqFrame) (f : SeqFrame)
    → IsTop t interval reach about goal es above f → IsNoModel f.rem (up_to f.last)
    → (entry_units (charges_of about) (entry_of f) ≡ frame_units f)
    × (1 ≤ entry_units (charges_of about) (entry_of f))
ended_units t interval reach about goal es above f top none = (
  units_end f.rem (up_to f.last) (last_within f.rem f.last top.last) none,
  counts_one f.rem f.last top.last none top.worked.on.some,
)

pub ended_book : (t : Times) (interval reach : ℕ) (about : About) (goal more : ℕ) (es : List SeqEntry) (above : List SeqFrame) (f : SeqFrame)
    → IsBook t interval reach about es goal → IsTop t interval reach about goal es above f → IsNoModel f.rem (up_to f.last)
    → goal ≤ more → (f.rem ≡ t.demands → f.need < more) → goal ≤ 1000000000000000000 → length es ≤ 1000000000000000000
    → IsBook t interval reach about (es ++ entry_of f ∷ []) more
ended_book t interval reach about goal more es above f book top none l root low few =
    book_more t interval reach about es goal more (entry_of f) book
    (ended_follows t interval reach about goal es above f top none (last_within f.rem f.last top.last))
    top.worked.unanswered l root
    (record {
      state = top.worked.on.state;
      least = omega (arith, top.worked.on.low, low);
      why = λ k d g. omega (
        arith,
        cites_within t interval reach about es f.rem f.starts f.need (up_to f.last) f.cites
            top.worked.covers k d g,
        few,
      );
    })
    (omega (arith, book.few, (ended_units t interval reach about goal es above f top none).1))

-- the frame above goes on with the entry of the one that ended
pub popped : (t : Times) (interval reach : ℕ) (about : About) (goal : ℕ) (es : List SeqEntry) (above : List SeqFrame) (f top : SeqFrame)
    → IsTop t interval reach about goal es (above ++ f ∷ []) top → IsPassed t interval reach about goal es above f
    → IsTop t interval reach about goal (es ++ entry_of top ∷ []) above (with_cite f (length es))
popped t interval reach about goal es above f top on passed =
    let m : ℕ = passed.model in
    let by : IsLeftBy t interval reach f top = asked_last t interval reach above f top
    (on.worked.on.asked top refl refl refl) in
    let is : by.model ≡ m = same_Some by.model m (sym by.last ∙ passed.last) in
    let R : top.rem ≡ less_one f.rem m = by.rem ∙ ap (λ k. less_one f.rem k) is in
    let S : top.starts ≡ next_starts t interval reach m f.starts =
    by.starts ∙ ap (λ k. next_starts t interval reach k f.starts) is in
    let N : top.need + step_cost t reach m f.starts ≡ f.need =
    ap (λ k. top.need + step_cost t reach k f.starts) (sym is) ∙ by.need in
    let bound : state_bound t interval reach top.rem top.starts < top.need =
    on.worked.on.bound (omega (arith, length-append above (f ∷ []))) in
    let closed : state_bound t interval reach (less_one f.rem m) (next_starts t interval reach m f.starts)
    < f.need - step_cost t reach m f.starts =
    omega (
      arith,
      bound,
      N,
      ap (λ a. state_bound t interval reach a top.starts) R,
      ap (λ b. state_bound t interval reach (less_one f.rem m) b) S,
    ) in
    let needs : needs_cite t interval reach f.rem f.starts f.need m ≡ true =
    and_from (is_left f.rem m) _ passed.left (and_from (nat_lt (step_cost t reach m f.starts) f.need) _
    (lt-ltb (step_cost t reach m f.starts) f.need (omega (arith, N, bound)))
    (lt-ltb (state_bound t interval reach (less_one f.rem m) (next_starts t interval reach m f.starts))
    (f.need - step_cost t reach m f.starts) closed)) in
    let less : sum top.rem + 1 ≡ sum f.rem = omega (
      arith,
      ap (λ xs. sum xs) R,
      sum_less f.rem m (some_left f.rem m passed.left),
    ) in
    let grown : IsWorked t interval reach about goal (es ++ entry_of top ∷ []) above f m =
    worked_grow t interval reach about goal es (entry_of top) above f m
    (λ same. omega (arith, less, ap (λ xs. sum xs) same)) passed.worked in
    let E : Option ℕ → Type 0 = λ o. EndsWell true f.rem o in
    let C : ℕ → Type 0 = λ n. Covers t interval reach (charges_of about) (es ++ entry_of top ∷ []) f.rem f.starts f.need n
    (f.cites ++ length es ∷ []) in
    let reached : up_to f.last ≡ suc m = ap (λ o. up_to o) passed.last in
    record {
      last = subst E (sym passed.last) passed.left;
      worked = record {
        on = grown.on;
        unanswered = grown.unanswered;
        covers = subst C (sym reached) (covers_yes t interval reach about (es ++ entry_of top ∷ []) f.rem f.starts f.need m
            (length es) f.cites needs
            (last_answers (charges_of about) es (entry_of top) (less_one f.rem m) (next_starts t interval reach m f.starts)
            (f.need - step_cost t reach m f.starts) (λ no. no) R S (omega (arith, N))) grown.covers);
      };
    }

-- a step that leaves nothing ends a sequence that costs less than the root's need
pub found : (t : Times) (interval reach : ℕ) (about : About) (goal : ℕ) (es : List SeqEntry) (above : List SeqFrame) (f : SeqFrame) (m : ℕ)
    → IsWorked t interval reach about goal es above (with_last f m) m → is_left f.rem m ≡ true
    → needs_cite t interval reach f.rem f.starts f.need m ≡ true → sum (less_one f.rem m) ≡ 0
    → IsSequenceOf t.demands (lasts (above ++ with_last f m ∷ []))
    × (cost t interval reach (root_starts t) (lasts (above ++ with_last f m ∷ [])) < goal)
found t interval reach about goal es above f m w left needs none =
    let parts = needs_parts t interval reach f.rem f.starts f.need m needs in
    let whole = w.on.leads (m ∷ []) (sequence_cons f.rem m [] (some_left f.rem m left)
    (none_is_sequence (less_one f.rem m) none)) in
    let same : lasts (above ++ with_last f m ∷ []) ≡ lasts above ++ m ∷ [] =
    sym (append-nil (lasts (above ++ with_last f m ∷ []))) ∙ lasts_push above (with_last f m) m [] refl in
    let no_more : cost t interval reach (next_starts t interval reach m f.starts) [] ≡ 0 =
    nothing t interval reach (next_starts t interval reach m f.starts) in (
      subst (λ (z : List ℕ). IsSequenceOf t.demands z) (sym same) whole.0,
      omega (
        arith,
        ap (λ z. cost t interval reach (root_starts t) z) same,
        whole.1,
        cost_steps t interval reach f.starts m [],
        no_more,
        parts.0,
      ),
    )
  where
    nothing : (t : Times) (interval reach : ℕ) (starts : List ℕ) → cost t interval reach starts [] ≡ 0
    nothing t interval reach [] = refl
    nothing t interval reach (s ∷ starts) = omega (arith, nothing t interval reach starts)

-- the units of the frames with one step more, and with one frame more
pub units_on : (t : Times) (f : SeqFrame) (m : ℕ) → IsNextModel f.rem (up_to f.last) m
    → frame_units (with_last f m) ≡ frame_units f + 1
units_on t f m n = units_step f.rem (up_to f.last) m n.after n.first n.left

pub units_push : (above : List SeqFrame) (f : SeqFrame) → units_in (above ++ f ∷ []) ≡ units_in above + frame_units f
units_push above f = sum_by_push frame_units above f

-- a try whose root ended
pub refuted : (t : Times) (interval reach : ℕ) (about : About) (goal : ℕ) (es : List SeqEntry) (above : List SeqFrame) (f : SeqFrame)
    → IsBook t interval reach about es goal → IsTop t interval reach about goal es above f → above ≡ []
    → IsNoModel f.rem (up_to f.last) → goal ≤ 1000000000000000000 → length es ≤ 1000000000000000000
    → IsBook t interval reach about (es ++ entry_of f ∷ []) (goal + 1)
    × HasAnswer (charges_of about) (es ++ entry_of f ∷ []) t.demands (root_starts t) goal
refuted t interval reach about goal es above f book top empty none low few =
    let nothing : length above ≡ 0 = ap (λ (xs : List SeqFrame). length xs) empty in
    let P : ℕ → Type 0 = λ n. IsAskedAt t interval reach above n f in
    let root : IsRoot t f = subst P nothing (top.worked.on.asked f refl refl refl) in (
      ended_book t interval reach about goal (goal + 1) es above f book top none (omega arith)
          (λ same. omega (arith, top.worked.on.low)) low few,
      (
        length es,
        last_answers (charges_of about) es (entry_of f) t.demands (root_starts t) goal (λ no. no) root.rem root.starts
            (omega (arith, top.worked.on.first nothing)),
      ),
    )

-- the units with a frame that ended
pub units_ended : (t : Times) (interval reach : ℕ) (about : About) (goal : ℕ) (es : List SeqEntry) (above : List SeqFrame) (f : SeqFrame)
    → IsTop t interval reach about goal es above f → IsNoModel f.rem (up_to f.last)
    → units_of (charges_of about) (es ++ entry_of f ∷ []) ≡ units_of (charges_of about) es + frame_units f
units_ended t interval reach about goal es above f top none = omega
    (arith, sum_by_push (entry_units (charges_of about)) es (entry_of f), (ended_units t interval reach about goal es above f top none).0)

-- a frame that ended, and the one above it that goes on
pub record IsBack (t : Times) (interval reach : ℕ) (about : About) (goal : ℕ) (es : List SeqEntry) (above : List SeqFrame) (f : SeqFrame)
    (units : ℕ) : Type 0 where
  pub book : IsBook t interval reach about es goal
  pub along : IsAlong t interval reach about goal es above
  pub top : IsTop t interval reach about goal es above f
  pub spent : units_of (charges_of about) es + (units_in above + frame_units f) ≡ units

back_on : (t : Times) (interval reach : ℕ) (about : About) (goal units : ℕ) (es : List SeqEntry) (above : List SeqFrame) (f top : SeqFrame)
    → IsBack t interval reach about goal es (above ++ f ∷ []) top units → IsNoModel top.rem (up_to top.last)
    → goal ≤ 1000000000000000000 → length es ≤ 1000000000000000000
    → IsBack t interval reach about goal (es ++ entry_of top ∷ []) above (with_cite f (length es)) units
back_on t interval reach about goal units es above f top h none low few =
    let passed : IsPassed t interval reach about goal es above f = along_last t interval reach about goal es above f h.along in
    let long : length (above ++ f ∷ []) ≡ length above + 1 = length-append above (f ∷ []) in
    let by : IsLeftBy t interval reach f top = asked_last t interval reach above f top
    (h.top.worked.on.asked top refl refl refl) in
    record {
      book = ended_book t interval reach about goal goal es (above ++ f ∷ []) top h.book h.top none (omega arith)
          (λ same. absurd (omega (arith, ap (λ xs. sum xs) same, h.top.worked.on.depth, long))) low few;
      along = along_grow t interval reach about goal es (entry_of top) above (omega (arith, h.top.worked.on.depth, long))
          (along_rest t interval reach about goal es above f h.along);
      top = popped t interval reach about goal es above f top h.top passed;
      spent = omega (
        arith,
        h.spent,
        units_ended t interval reach about goal es (above ++ f ∷ []) top h.top none,
        units_push above f,
      );
    }

pub turns_back : (t : Times) (interval reach : ℕ) (about : About) (goal units id : ℕ) (es new : List SeqEntry) (above rest : List SeqFrame)
    (f top : SeqFrame) (cites : List ℕ)
    → IsBack t interval reach about goal es above top units → IsNoModel top.rem (up_to top.last) → goal ≤ 1000000000000000000
    → length es ≤ 1000000000000000000
    → above ≡ rest ++ f ∷ [] → new ≡ es ++ entry_of top ∷ [] → id ≡ length es → cites ≡ f.cites ++ id ∷ []
    → IsBack t interval reach about goal new rest (record {
      rem = f.rem;
      starts = f.starts;
      need = f.need;
      last = f.last;
      cites = cites;
    }) units
turns_back t interval reach about goal units id es new above rest f top cites h none low few a n i c =
    let A : List SeqFrame → Type 0 = λ z. IsBack t interval reach about goal es z top units in
    let own = back_on t interval reach about goal units es rest f top (subst A a h) none low few in
    let B : List SeqEntry → List ℕ → Type 0 = λ z cs. IsBack t interval reach about goal z rest
    (record { rem = f.rem; starts = f.starts; need = f.need; last = f.last; cites = cs }) units in
    let same : f.cites ++ length es ∷ [] ≡ cites = ap (λ k. f.cites ++ k ∷ []) (sym i) ∙ sym c in
    subst (λ (z : List SeqEntry). B z cites) (sym n) (subst (λ (cs : List ℕ). B (es ++ entry_of top ∷ []) cs) same own)
