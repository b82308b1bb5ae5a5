-- Sequences of the demands, and where a search is between two tries.
use Rattle.std.proofs.Common.{◌≡◌, ℕ, zero, suc, ◌+◌, ◌-◌, ◌*◌, ◌<◌, ◌≤◌, cond, nat_eq, List, [], ◌∷◌, ◌++◌, length}
use Rattle.std.proofs.Common.{take, get_or, replicate, refl, sym, ap, ◌∙◌, subst, inl, inr, add-one, arith, Some, Option}
use Rattle.std.proofs.Common.{append_assoc, sum}
use Rattle.std.specs.Prelude.{slice_get, count_by, All}
use Rattle.std.proofs.lemmas.Bool.{cases_eq, cases_lt, eq-eqb}
use Rattle.std.proofs.lemmas.Bool.Decides.{nat_tests}
use Rattle.std.proofs.lemmas.List.{length-set, get_or_past, append-nil}
use Rattle.std.proofs.lemmas.List.Sums.{sum_by-cons, sum_by-append, sum_by_more_le, sum_by_more}
use Rattle.std.proofs.lemmas.List.Folds.{sum_by-replicate}
use Rattle.std.proofs.lemmas.Option.{get_or_from_slice_get, slice_get_within}
use Rattle.sequence_values.specs.declared.types.Times.{Times}
use Rattle.sequence_values.specs.declared.types.SeqEntry.{SeqEntry}
use Rattle.sequence_values.specs.declared.types.SeqFrame.{SeqFrame}
use Rattle.sequence_values.specs.declared.types.SeqWhy.{SeqWhy}
use Rattle.sequence_values.specs.declared.types.SeqWhy.TheVariants as why
use Rattle.sequence_rules.specs.States.{less_one, state_bound, IsSequenceOf, cost, Holds, root_starts}
use Rattle.sequence_rules.specs.Entries.{HasAnswer, entry_units, units_of, row_units}
use Rattle.sequence_rules.specs.Trails.{IsTrail, units_in}
use Rattle.sequence_rules.specs.Charges.{listed_charges}
use Rattle.sequence_rules.specs.Ranges.{AreTimes, IsEntry, IsFrame, AreChargesIf, numbers_by}
use Rattle.sequence_rules.proofs.CostFacts.{first_is_left, left_within, rest_is_sequence, as_many_left, bound_holds}
use Rattle.sequence_rules.proofs.LemmasHold.{cited_holds, sound}
use Rattle.sequence_search.specs.About.{About, charges_of}
use Rattle.sequence_search.specs.inner.Paths.{IsBook}
use Rattle.sequence_search.specs.Work.{most_units}
use Rattle.sequence_search.specs.inner.Tries.{AreStopped, KeepsRoots}
use Rattle.sequence_search.specs.Outcomes.{IsCertified, IsSolved, IsStopped, IsStanding, cert_of, model_order}
use Rattle.sequence_search.specs.Outcomes.{order_from_model}
use Rattle.sequence_search.specs.Steps.{HasPlainAnswer}
use Rattle.sequence_search.proofs.BookFacts.{book_as, book_more, last_answers, plainly_cited}
use Rattle.sequence_search.proofs.EndFacts.{root_state}

-- the units of a sequence are of the models
pub sequence_within : (rem units : List ℕ) → IsSequenceOf rem units → All (λ u. u < length rem) units
sequence_within rem [] h k d l = absurd (omega (arith, l))
sequence_within rem (m ∷ units) h zero d l = left_within rem m (first_is_left rem m units h)
sequence_within rem (m ∷ units) h (suc k) d l =
    omega (
      arith,
      length-set rem m (get_or rem m 0 - 1),
      sequence_within (less_one rem m) units
          (rest_is_sequence rem m units h) k d (omega (arith, l)),
    )

pub sequence_short : (t : Times) (units : List ℕ) → AreTimes t → IsSequenceOf t.demands units → length units ≤ 1000
sequence_short t units times h = omega (arith, as_many_left t.demands units h, times.units)

-- one model more, as often as it is wanted
counted : (items : List ℕ) (m d j : ℕ) → count_by (λ u. nat_eq u j) (items ++ replicate d m)
    ≡ count_by (λ u. nat_eq u j) items + d * cond (nat_eq m j) 1 0
counted items m d j = omega (
  arith,
  sum_by-append (λ u. cond (nat_eq u j) 1 0) items (replicate d m),
  sum_by-replicate (λ u. cond (nat_eq u j) 1 0) d m,
)

pub order_more : (demands items new : List ℕ) (m d : ℕ) → d ≡ get_or demands m 0 → new ≡ items ++ replicate d m
    → ((j : ℕ) → j < m → count_by (λ u. nat_eq u j) items ≡ get_or demands j 0)
    → ((j : ℕ) → m ≤ j → count_by (λ u. nat_eq u j) items ≡ 0)
    → ((j : ℕ) → j < m + 1 → count_by (λ u. nat_eq u j) new ≡ get_or demands j 0)
    × ((j : ℕ) → m + 1 ≤ j → count_by (λ u. nat_eq u j) new ≡ 0)
order_more demands items new m d is e before after =
    let P : List ℕ → Type 0 = λ xs. ((j : ℕ) → j < m + 1 → count_by (λ u. nat_eq u j) xs ≡ get_or demands j 0)
    × ((j : ℕ) → m + 1 ≤ j → count_by (λ u. nat_eq u j) xs ≡ 0) in
    subst P (sym e) (
      λ j l. elim (cases_eq j m) [
        | inl s ↦
            let here : d * cond (nat_eq m j) 1 0 ≡ d * 1 = ap (λ b. d * cond b 1 0) (eq-eqb m j (sym s)) in
            omega (arith, counted items m d j, here, after j (omega (arith, s)), is, ap (λ k. get_or demands k 0) s)
        | inr n ↦
            let other : ◌≡◌ {A = ℕ} (cond (nat_eq m j) 1 0) 0 = grind (arith, nat_tests) in
            omega (arith, counted items m d j, ap (λ c. d * c) other, before j (omega (arith, l, n)))
      ],
      λ j l.
          let other : ◌≡◌ {A = ℕ} (cond (nat_eq m j) 1 0) 0 = differ m j l in
          omega (arith, counted items m d j, ap (λ c. d * c) other, after j (omega (arith, l))),
    )
  where
    differ : (m j : ℕ) → m + 1 ≤ j → ◌≡◌ {A = ℕ} (cond (nat_eq m j) 1 0) 0
    differ m j l = grind (arith, nat_tests)

pub order_whole : (demands items : List ℕ) (m : ℕ) → length demands ≤ m
    → ((j : ℕ) → j < m → count_by (λ u. nat_eq u j) items ≡ get_or demands j 0)
    → ((j : ℕ) → m ≤ j → count_by (λ u. nat_eq u j) items ≡ 0) → IsSequenceOf demands items
order_whole demands items m l before after j = elim (cases_lt j m) [
  | inl low ↦ before j low
  | inr past ↦ omega (arith, after j past, get_or_past demands j 0 (omega (arith, l, past)))
]

-- the units so far and those of the next entry
pub units_fit : (charges : List ℕ) (es : List SeqEntry) (k : ℕ) (e : SeqEntry) → slice_get es k ≡ Some e
    → units_of charges (take k es) + entry_units charges e ≤ units_of charges es
units_fit charges es k e g = omega (
  arith,
  sum_by_more_le (entry_units charges) es k e (slice_get_within es k e g),
  ap (entry_units charges) (get_or_from_slice_get es k e e g),
)

pub units_more : (charges : List ℕ) (es : List SeqEntry) (k : ℕ) (e : SeqEntry) → slice_get es k ≡ Some e
    → units_of charges (take (k + 1) es) ≡ units_of charges (take k es) + entry_units charges e
units_more charges es k e g = omega (
  arith,
  sum_by_more (entry_units charges) es k e (slice_get_within es k e g),
  ap (entry_units charges) (get_or_from_slice_get es k e e g),
)

-- an entry has at most 16,000 units left
sum_small : (xs : List ℕ) → All (λ n. n ≤ 1000) xs → sum xs ≤ 1000 * length xs
sum_small [] h = omega arith
sum_small (x ∷ xs) h = omega (
  arith,
  sum_by-cons (λ n. n) x xs,
  h 0 0 (omega arith),
  sum_small xs (λ k d l. h (suc k) d (omega (arith, l))),
)

few_numbers : (models : ℕ) (w : SeqWhy) → 1 ≤ models → models ≤ 16 → numbers_by models w ≤ 16
few_numbers models why.Bound some few = few
few_numbers models (why.Branch cites) some few = few
few_numbers models (why.Charge cites) some few = omega arith

pub row_within : (t : Times) (charges : Option (List ℕ)) (e : SeqEntry) → AreTimes t
    → IsEntry (length t.demands) t.stations charges e → row_units e ≤ 16000
row_within t charges e times range = omega (
  arith,
  sum_small e.rem range.state.units,
  range.state.each,
  few_numbers (length t.demands) e.why times.modeled times.models,
)

-- the bound of the root is a lower one
pub root_low : (t : Times) (interval reach : ℕ) (units : List ℕ) → IsSequenceOf t.demands units
    → state_bound t interval reach t.demands (root_starts t) ≤ cost t interval reach (root_starts t) units
root_low t interval reach units h = bound_holds t interval reach t.demands (root_starts t) units h

-- the entry of the root by Bound
abbrev pub root_entry : List ℕ → List ℕ → ℕ → SeqEntry
root_entry rem starts lower = record { rem = rem; starts = starts; least = lower; why = why.Bound }

pub root_shown : (charges : List ℕ) (t : Times) (lower : ℕ) (rem starts : List ℕ) (kept es : List SeqEntry)
    → rem ≡ t.demands
    → starts ≡ root_starts t → es ≡ kept ++ root_entry rem starts lower ∷ []
    → HasAnswer charges es t.demands (root_starts t) lower
root_shown charges t lower rem starts kept es r s e =
    let P : List SeqEntry → Type 0 = λ z. HasAnswer charges z t.demands (root_starts t) lower in
    subst P (sym e) (
      length kept,
      last_answers charges kept (root_entry rem starts lower) t.demands (root_starts t) lower
          (λ no. no) r s (omega arith),
    )

-- the kept entries, and the one of the root by Bound behind them
pub root_book : (t : Times) (interval reach : ℕ) (about : About) (shown lower : ℕ) (rem starts : List ℕ)
    (es : List SeqEntry) → AreTimes t
    → rem ≡ t.demands → starts ≡ root_starts t
    → lower ≡ state_bound t interval reach rem starts → lower ≤ 65536000000000000
    → shown < lower → IsBook t interval reach about about.kept (shown + 1)
    → ((need : ℕ) → HasAnswer (charges_of about) about.kept t.demands (root_starts t) need → need ≤ shown)
    → es ≡ about.kept ++ root_entry rem starts lower ∷ [] → IsBook t interval reach about es (lower + 1)
root_book t interval reach about shown lower rem starts es times r s is low above book most e =
    let P : List SeqEntry → Type 0 = λ z. IsBook t interval reach about z (lower + 1) in
    let S : List ℕ → List ℕ → Type 0 = λ a b. IsEntry (length t.demands) t.stations about.charges
    (root_entry a b lower) in
    let A : List ℕ → List ℕ → Type 0 = λ a b. HasPlainAnswer about.kept a b lower → ⊥ in
    let none : HasPlainAnswer about.kept t.demands (root_starts t) lower → ⊥ = λ h. omega (
      arith,
      above,
      most lower (h.0, plainly_cited (charges_of about) about.kept h.0 t.demands (root_starts t) lower h.1),
    ) in
    subst P (sym e) (book_more t interval reach about about.kept (shown + 1) (lower + 1) (root_entry rem starts lower)
    book (omega (arith, is)) (subst (λ (a : List ℕ). A a starts) (sym r)
    (subst (λ (b : List ℕ). A t.demands b) (sym s) none))
    (omega (arith, above)) (λ same. omega arith)
    (subst (λ (a : List ℕ). S a starts) (sym r) (subst (λ (b : List ℕ). S t.demands b) (sym s)
    (record { state = root_state t times; least = omega (arith, low); why = tt })))
    (omega arith))

-- the sequence in the order of the models, with one model more
ordered_suc : (first m : ℕ) (demands : List ℕ) → m < length demands
    → order_from_model first (take (suc m) demands)
    ≡ order_from_model first (take m demands) ++ replicate (get_or demands m 0) (first + m)
ordered_suc first m [] l = absurd (omega (arith, l))
ordered_suc first zero (d ∷ demands) l = append-nil (replicate d first) ∙ ap (λ k. replicate d k) (same first)
  where
    same : (n : ℕ) → n ≡ n + 0
    same n = omega arith
ordered_suc first (suc m) (d ∷ demands) l =
    let more : suc first + m ≡ first + suc m = omega arith in
    ap (λ (xs : List ℕ). replicate d first ++ xs) (ordered_suc (suc first) m demands (omega (arith, l))
    ∙ ap (λ k. order_from_model (suc first) (take m demands) ++ replicate (get_or demands m 0) k) more)
    ∙ sym (append_assoc (replicate d first) (order_from_model (suc first) (take m demands))
    (replicate (get_or demands m 0) (first + suc m)))

pub ordered_more : (m : ℕ) (demands items new : List ℕ) → m < length demands → items ≡ model_order (take m demands)
    → new ≡ items ++ replicate (get_or demands m 0) m → new ≡ model_order (take (m + 1) demands)
ordered_more m demands items new l is e =
    e ∙ ap (λ (xs : List ℕ). xs ++ replicate (get_or demands m 0) m) is
    ∙ ap (λ k. model_order (take m demands) ++ replicate (get_or demands m 0) k) (from_nought m)
    ∙ sym (ordered_suc 0 m demands l) ∙ ap (λ k. model_order (take k demands)) (sym (add-one m))
  where
    from_nought : (m : ℕ) → m ≡ 0 + m
    from_nought m = omega arith

-- a lower bound that is shown is true
pub shown_holds : (t : Times) (interval reach : ℕ) (about : About) (lower : ℕ) (es : List SeqEntry) → IsBook t interval reach about es (lower + 1)
    → (0 < lower → HasAnswer (charges_of about) es t.demands (root_starts t) lower)
    → Holds t interval reach t.demands (root_starts t) lower
shown_holds t interval reach about lower es book shown units s = elim (cases_lt 0 lower) [
  | inr none ↦ omega (arith, none)
  | inl some ↦ cited_holds t interval reach (charges_of about) es (shown some).0 t.demands (root_starts t) lower
      (sound t interval reach (charges_of about) es book.derived) (shown some).1 units s
]

-- the certificate of a search that stands so is accepted, and in the ranges of its text
pub standing_certified : (t : Times) (interval reach : ℕ) (about : About) (charges : Option (List ℕ)) (lower upper : ℕ)
    (sequence : List ℕ) (es : List SeqEntry) (fs : List SeqFrame)
    → AreTimes t → IsStanding t interval reach about lower upper sequence es
    → AreChargesIf (length t.demands) about.charges → charges ≡ about.charges
    → length about.kept + about.units ≤ 1999999
    → units_of (charges_of about) es ≤ units_of (charges_of about) about.kept + about.units
    → IsTrail t interval reach (charges_of about) es lower upper fs → length fs ≤ 1001
    → ((j : ℕ) (f : SeqFrame) → slice_get fs j ≡ Some f → IsFrame (length t.demands) t.stations f)
    → IsCertified t interval reach about (cert_of t charges lower upper sequence es fs)
standing_certified t interval reach about charges lower upper sequence es fs times s limit is room few trail short
    frames =
    let P : Option (List ℕ) → Type 0 = λ o. IsCertified t interval reach about (cert_of t o lower upper sequence es fs)
    in
    subst P (sym is) (record {
      accepted = record {
        models = refl;
        stations = refl;
        sequence = s.is;
        total = s.total;
        derived = s.book.derived;
        goal = s.shown;
        trail = trail;
      };
      front = s.book.front;
      fresh = s.book.fresh;
      range = record {
        modeled = times.modeled;
        models = times.models;
        some = times.some;
        stations = times.few;
        charges = limit;
        lower = omega (arith, s.low, s.limit);
        upper = omega (arith, s.limit);
        launched = omega (arith, as_many_left t.demands sequence s.is, times.wanted);
        units = sequence_short t sequence times s.is;
        each = sequence_within t.demands sequence s.is;
        many = omega (arith, s.book.few, few, room);
        entries = s.book.range;
        few = short;
        frames = frames;
      };
      charges = refl;
      raised = s.raised;
      no_worse = s.no_worse;
    })

-- a search that ended, and one that was stopped
pub solved : (t : Times) (interval reach : ℕ) (about : About) (charges : Option (List ℕ)) (lower upper : ℕ)
    (sequence : List ℕ) (es : List SeqEntry) (fs : List SeqFrame)
    → AreTimes t → IsStanding t interval reach about lower upper sequence es
    → AreChargesIf (length t.demands) about.charges → charges ≡ about.charges
    → length about.kept + about.units ≤ 1999999
    → units_of (charges_of about) es ≤ units_of (charges_of about) about.kept + about.units → upper ≤ lower → fs ≡ []
    → IsSolved t interval reach about (cert_of t charges lower upper sequence es fs)
solved t interval reach about charges lower upper sequence es fs times s limit is room few done none =
    let P : List SeqFrame → Type 0 = λ z. IsSolved t interval reach about
    (cert_of t charges lower upper sequence es z) in
    let C : Option (List ℕ) → Type 0 = λ o. units_of (listed_charges o) es + 0
    ≤ units_of (charges_of about) about.kept + about.units in
    subst P (sym none) (record {
      certified = standing_certified t interval reach about charges lower upper sequence es [] times s limit is room few
          (record { allowed = λ f g. absurd (cc); right = λ j f g. absurd (cc) }) (omega arith) (λ j f g. absurd (cc));
      optimal = omega (arith, done, s.low);
      closed = refl;
      few = subst C (sym is) (omega (arith, few));
    })

pub stopped_at : (t : Times) (interval reach : ℕ) (about : About) (charges : Option (List ℕ)) (lower upper need : ℕ)
    (sequence : List ℕ) (old es : List SeqEntry) (fs : List SeqFrame)
    → AreTimes t → IsStanding t interval reach about lower upper sequence old
    → AreChargesIf (length t.demands) about.charges → charges ≡ about.charges
    → length about.kept + about.units ≤ 1999999
    → IsBook t interval reach about es need → KeepsRoots t old es → AreStopped t interval reach about need es fs
    → (0 < lower → HasAnswer (charges_of about) es t.demands (root_starts t) lower)
    → units_of (charges_of about) es + units_in fs ≡ units_of (charges_of about) about.kept + about.units
    → lower < need → need ≤ upper → about.units < most_units t
    → IsStopped t interval reach about (cert_of t charges lower upper sequence es fs)
stopped_at t interval reach about charges lower upper need sequence old es fs times s limit is room book keeps stop
    shown spent above below tight =
    let C : Option (List ℕ) → Type 0 = λ o. units_of (listed_charges o) es + units_in fs
    ≡ units_of (charges_of about) about.kept + about.units in
    record {
      certified = standing_certified t interval reach about charges lower upper sequence es fs times
          (record {
            book = book_as t interval reach about old es (lower + 1) need s.book book keeps;
            shown = shown;
            is = s.is;
            total = s.total;
            low = s.low;
            limit = s.limit;
            raised = s.raised;
            no_worse = s.no_worse;
          })
          limit is room (omega (arith, spent)) (record {
            allowed = λ f g.
                (omega (arith, stop.first f g, above), omega (arith, stop.first f g, below));
            right = stop.right;
          }) stop.few
          stop.range;
      apart = omega (arith, above, below);
      some = stop.some;
      further = stop.further;
      spent = subst C (sym is) spent;
      tight = tight;
    }
