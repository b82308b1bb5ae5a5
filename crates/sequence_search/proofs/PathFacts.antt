-- The frames of a try, with one frame more or less.
use Rattle.std.proofs.Common.{◌≡◌, ℕ, zero, suc, ◌+◌, ◌-◌, ◌<◌, ◌≤◌, true, cond, ◌&&◌, nat_eq, nat_lt, List, [], ◌∷◌}
use Rattle.std.proofs.Common.{◌++◌, length, take, get_or, refl, sym, ap, ◌∙◌, subst, inl, inr, arith, Some}
use Rattle.std.proofs.Common.{length-append, append_assoc, sum}
use Rattle.std.specs.Prelude.{slice_get, unwrap_or, count_by, All}
use Rattle.std.proofs.lemmas.Bool.{cases_eq, and_parts, ltb-true, eq-eqb}
use Rattle.std.proofs.lemmas.Bool.Decides.{nat_tests}
use Rattle.std.proofs.lemmas.List.{take-append-le, length-take-le, length-set, map-append, get_or-set_same}
use Rattle.std.proofs.lemmas.List.{get_or-set_other, get_or_default}
use Rattle.std.proofs.lemmas.List.Sums.{sum_by-cons}
use Rattle.std.proofs.lemmas.Option.{slice_get_within, same_Some}
use Rattle.line_rules.proofs.ListFacts.{get_push_cases, get_last}
use Rattle.utility_work.specs.Utility.{next_start}
use Rattle.sequence_values.specs.declared.types.Times.{Times}
use Rattle.sequence_values.specs.declared.types.SeqEntry.{SeqEntry}
use Rattle.sequence_values.specs.declared.types.SeqFrame.{SeqFrame}
use Rattle.sequence_rules.specs.States.{unit_work, step_cost, next_starts, less_one, state_bound, value_at_each}
use Rattle.sequence_rules.specs.States.{IsSequenceOf, cost, root_starts}
use Rattle.sequence_rules.specs.Entries.{is_left, needs_cite}
use Rattle.sequence_rules.specs.Trails.{IsLeftBy, IsAskedAt}
use Rattle.sequence_rules.specs.Ranges.{IsState}
use Rattle.sequence_rules.proofs.SumFacts.{length-value_at_each}
use Rattle.sequence_rules.proofs.CostFacts.{cost_steps, left_within}
use Rattle.sequence_search.specs.About.{About}
use Rattle.sequence_search.specs.Steps.{IsNextState}
use Rattle.sequence_search.specs.inner.Paths.{lasts, IsOn, IsWorked, IsPassed, IsAlong}
use Rattle.sequence_search.proofs.BookFacts.{take_front, unanswered_more}
use Rattle.sequence_search.proofs.CoverFacts.{covers_grow}

-- one frame more, and one less
pub along_push : (t : Times) (interval reach : ℕ) (about : About) (goal : ℕ) (es : List SeqEntry) (above : List SeqFrame) (f : SeqFrame)
    → IsAlong t interval reach about goal es above → IsPassed t interval reach about goal es above f
    → IsAlong t interval reach about goal es (above ++ f ∷ [])
along_push t interval reach about goal es above f along passed j x g = elim (get_push_cases above f x j g) [
  | inl u ↦
      let P : List SeqFrame → Type 0 = λ ys. IsPassed t interval reach about goal es ys x in
      subst P (sym (take-append-le j above (f ∷ []) (omega (arith, u.0)))) (along j x u.1)
  | inr u ↦
      let P : List SeqFrame → Type 0 = λ ys. IsPassed t interval reach about goal es ys f in
      let Q : SeqFrame → Type 0 = λ z. IsPassed t interval reach about goal es (take j (above ++ f ∷ [])) z in
      subst Q u.1 (subst P (sym (ap (λ n. take n (above ++ f ∷ [])) u.0 ∙ take_front above f)) passed)
]

pub along_rest : (t : Times) (interval reach : ℕ) (about : About) (goal : ℕ) (es : List SeqEntry) (above : List SeqFrame) (f : SeqFrame)
    → IsAlong t interval reach about goal es (above ++ f ∷ []) → IsAlong t interval reach about goal es above
along_rest t interval reach about goal es above f along j x g =
    let P : List SeqFrame → Type 0 = λ ys. IsPassed t interval reach about goal es ys x in
    let low : j < length above = slice_get_within above j x g in
    subst P (take-append-le j above (f ∷ []) (omega (arith, low))) (along j x (longer above f j x g))
  where
    longer : (above : List SeqFrame) (f : SeqFrame) (j : ℕ) (x : SeqFrame) → slice_get above j ≡ Some x
        → slice_get (above ++ f ∷ []) j ≡ Some x
    longer [] f j x g = absurd (cc)
    longer (y ∷ above) f zero x g = g
    longer (y ∷ above) f (suc j) x g = longer above f j x g

pub along_last : (t : Times) (interval reach : ℕ) (about : About) (goal : ℕ) (es : List SeqEntry) (above : List SeqFrame) (f : SeqFrame)
    → IsAlong t interval reach about goal es (above ++ f ∷ []) → IsPassed t interval reach about goal es above f
along_last t interval reach about goal es above f along =
    let P : List SeqFrame → Type 0 = λ ys. IsPassed t interval reach about goal es ys f in
    subst P (take_front above f) (along (length above) f (get_last above f))

-- one entry more, of fewer units than are left at the frame
pub worked_grow : (t : Times) (interval reach : ℕ) (about : About) (goal : ℕ) (es : List SeqEntry) (e : SeqEntry) (before : List SeqFrame)
    (f : SeqFrame) (n : ℕ)
    → (e.rem ≡ f.rem → ⊥) → IsWorked t interval reach about goal es before f n
    → IsWorked t interval reach about goal (es ++ e ∷ []) before f n
worked_grow t interval reach about goal es e before f n other w = record {
  on = w.on;
  unanswered = unanswered_more es e f.rem f.starts f.need w.unanswered other;
  covers = covers_grow t interval reach about es (e ∷ []) f.rem f.starts f.need n f.cites w.covers;
}

pub along_grow : (t : Times) (interval reach : ℕ) (about : About) (goal : ℕ) (es : List SeqEntry) (e : SeqEntry) (above : List SeqFrame)
    → sum e.rem + length above ≤ sum t.demands → IsAlong t interval reach about goal es above
    → IsAlong t interval reach about goal (es ++ e ∷ []) above
along_grow t interval reach about goal es e above depth along j x g =
    let p : IsPassed t interval reach about goal es (take j above) x = along j x g in
    let low : j < length above = slice_get_within above j x g in
    record {
      model = p.model;
      last = p.last;
      left = p.left;
      worked = worked_grow t interval reach about goal es e (take j above) x p.model
          (λ same. omega (
            arith,
            depth,
            p.worked.on.depth,
            low,
            length-take-le j above (omega (arith, low)),
            ap (λ xs. sum xs) same,
          )) p.worked;
    }

-- the frame above is the one that leaves what is asked
pub asked_last : (t : Times) (interval reach : ℕ) (fs : List SeqFrame) (f g : SeqFrame)
    → IsAskedAt t interval reach (fs ++ f ∷ []) (length (fs ++ f ∷ [])) g → IsLeftBy t interval reach f g
asked_last t interval reach fs f g h =
    let n : length (fs ++ f ∷ []) ≡ suc (length fs) = omega (arith, length-append fs (f ∷ [])) in
    let P : ℕ → Type 0 = λ k. IsAskedAt t interval reach (fs ++ f ∷ []) k g in
    let own : (above : SeqFrame) × ((slice_get (fs ++ f ∷ []) (length fs) ≡ Some above)
    × IsLeftBy t interval reach above g) = subst P n h in
    let Q : SeqFrame → Type 0 = λ z. IsLeftBy t interval reach z g in
    subst Q (same_Some own.0 f (sym own.1.0 ∙ get_last fs f)) own.1.1

pub left_asked : (t : Times) (interval reach : ℕ) (fs : List SeqFrame) (f g : SeqFrame) → IsLeftBy t interval reach f g
    → IsAskedAt t interval reach (fs ++ f ∷ []) (length (fs ++ f ∷ [])) g
left_asked t interval reach fs f g h =
    let n : length (fs ++ f ∷ []) ≡ suc (length fs) = omega (arith, length-append fs (f ∷ [])) in
    let P : ℕ → Type 0 = λ k. IsAskedAt t interval reach (fs ++ f ∷ []) k g in
    subst P (sym n) (f, (get_last fs f, h))

-- one unit less is left
pub sum_less : (rem : List ℕ) (m : ℕ) → 0 < get_or rem m 0 → sum (less_one rem m) + 1 ≡ sum rem
sum_less [] m h = absurd (omega (arith, h))
sum_less (x ∷ rem) zero h = omega (arith, h, sum_by-cons (λ n. n) x rem, sum_by-cons (λ n. n) (x - 1) rem)
sum_less (x ∷ rem) (suc m) h = omega (
  arith,
  sum_less rem m h,
  sum_by-cons (λ n. n) x rem,
  sum_by-cons (λ n. n) x (less_one rem m),
)

pub some_left : (rem : List ℕ) (m : ℕ) → is_left rem m ≡ true → 0 < get_or rem m 0
some_left rem m e = ltb-true 0 (get_or rem m 0) e

-- a unit before a sequence of what is left after it
pub sequence_cons : (rem : List ℕ) (m : ℕ) (units : List ℕ) → 0 < get_or rem m 0 → IsSequenceOf (less_one rem m) units
    → IsSequenceOf rem (m ∷ units)
sequence_cons rem m units l h k = elim (cases_eq k m) [
  | inl e ↦
      let P : ℕ → Type 0 = λ j. count_by (λ u. nat_eq u j) (m ∷ units) ≡ get_or rem j 0 in
      let same : ◌≡◌ {A = ℕ} (cond (nat_eq m m) 1 0) 1 = ap (λ b. cond b 1 0) (eq-eqb m m refl) in
      subst P (sym e) (omega (
        arith,
        l,
        h m,
        sum_by-cons (λ u. cond (nat_eq u m) 1 0) m units,
        same,
        get_or-set_same rem m (get_or rem m 0 - 1) 0 (left_within rem m l),
      ))
  | inr n ↦
      let other : ◌≡◌ {A = ℕ} (cond (nat_eq m k) 1 0) 0 = grind (arith, nat_tests) in
      omega (
        arith,
        h k,
        sum_by-cons (λ u. cond (nat_eq u k) 1 0) m units,
        other,
        get_or-set_other rem m k (get_or rem m 0 - 1) 0 n,
      )
]

-- where nothing is left, the sequence has no unit
sum_nought : (rem : List ℕ) (k : ℕ) → sum rem ≡ 0 → get_or rem k 0 ≡ 0
sum_nought [] k h = refl
sum_nought (x ∷ rem) zero h = omega (arith, h, sum_by-cons (λ n. n) x rem)
sum_nought (x ∷ rem) (suc k) h = sum_nought rem k (omega (arith, h, sum_by-cons (λ n. n) x rem))

pub none_is_sequence : (rem : List ℕ) → sum rem ≡ 0 → IsSequenceOf rem []
none_is_sequence rem h k = sym (sum_nought rem k h)

-- the models of the last steps, with one frame more
pub lasts_push : (fs : List SeqFrame) (f : SeqFrame) (m : ℕ) (units : List ℕ) → f.last ≡ Some m
    → lasts (fs ++ f ∷ []) ++ units ≡ lasts fs ++ m ∷ units
lasts_push fs f m units e =
    let one : lasts (f ∷ []) ≡ m ∷ [] = ap (λ o. unwrap_or o 0 ∷ []) e in
    ap (λ xs. xs ++ units) (map-append (λ (g : SeqFrame). unwrap_or g.last 0) fs (f ∷ [])
    ∙ ap (λ xs. lasts fs ++ xs) one) ∙ append_assoc (lasts fs) (m ∷ []) units

-- starts after a step are within the station
next_within : (t : Times) (interval reach model : ℕ) (starts : List ℕ) → reach ≤ 1000000000
    → All (λ s. s ≤ 1000000000) (next_starts t interval reach model starts)
next_within t interval reach model starts l = within (λ k s. next_start s (unit_work t model k) reach interval) starts
    (λ k s. omega (arith, l))
  where
    within : (f : ℕ → ℕ → ℕ) (xs : List ℕ) → ((k s : ℕ) → f k s ≤ 1000000000)
        → All (λ s. s ≤ 1000000000) (value_at_each f xs)
    within f [] h k d g = absurd (omega (arith, g))
    within f (x ∷ xs) h zero d g = h 0 x
    within f (x ∷ xs) h (suc k) d g = within (λ i. f (suc i)) xs (λ i. h (suc i)) k d (omega (arith, g))

-- what is left is within its range
less_within : (rem : List ℕ) (m : ℕ) → All (λ n. n ≤ 1000) rem → All (λ n. n ≤ 1000) (less_one rem m)
less_within rem m h k d l = elim (cases_eq k m) [
  | inl e ↦ omega (
    arith,
    get_or_default (less_one rem m) k d 0 l,
    ap (λ i. get_or (less_one rem m) i 0) e,
    get_or-set_same rem m (get_or rem m 0 - 1) 0 (omega (arith, l, e, length-set rem m (get_or rem m 0 - 1))),
    h m 0 (omega (arith, l, e, length-set rem m (get_or rem m 0 - 1))),
  )
  | inr n ↦ omega (
    arith,
    get_or_default (less_one rem m) k d 0 l,
    get_or-set_other rem m k (get_or rem m 0 - 1) 0 n,
    h k 0 (omega (arith, l, length-set rem m (get_or rem m 0 - 1))),
  )
]

-- what a step that needs a cite costs, and the bound of its next state
pub needs_parts : (t : Times) (interval reach : ℕ) (rem starts : List ℕ) (need m : ℕ)
    → needs_cite t interval reach rem starts need m ≡ true
    → (step_cost t reach m starts < need) × (state_bound t interval reach (less_one rem m)
    (next_starts t interval reach m starts) < need - step_cost t reach m starts)
needs_parts t interval reach rem starts need m e =
    let a = and_parts (is_left rem m) (nat_lt (step_cost t reach m starts) need
    && nat_lt (state_bound t interval reach (less_one rem m) (next_starts t interval reach m starts))
    (need - step_cost t reach m starts)) e in
    let b = and_parts (nat_lt (step_cost t reach m starts) need)
    (nat_lt (state_bound t interval reach (less_one rem m) (next_starts t interval reach m starts))
    (need - step_cost t reach m starts)) a.1 in (
      ltb-true (step_cost t reach m starts) need b.0,
      ltb-true
          (state_bound t interval reach (less_one rem m) (next_starts t interval reach m starts))
          (need - step_cost t reach m starts) b.1,
    )

-- the next state of a frame stands below it
pub next_on : (t : Times) (interval reach goal : ℕ) (above : List SeqFrame) (f g : SeqFrame) (m : ℕ)
    → reach ≤ 1000000000
    → IsOn t interval reach goal above f.rem f.starts f.need → f.last ≡ Some m → is_left f.rem m ≡ true
    → needs_cite t interval reach f.rem f.starts f.need m ≡ true → IsNextState t interval reach f m g → 0 < sum g.rem
    → IsOn t interval reach goal (above ++ f ∷ []) g.rem g.starts g.need
next_on t interval reach goal above f g m r on last left needs n some =
    let parts = needs_parts t interval reach f.rem f.starts f.need m needs in
    let has : 0 < get_or f.rem m 0 = some_left f.rem m left in
    let S : List ℕ → List ℕ → Type 0 = λ a b. IsState (length t.demands) t.stations a b in
    let long : length (above ++ f ∷ []) ≡ length above + 1 = length-append above (f ∷ []) in
    let less : sum g.rem + 1 ≡ sum f.rem = omega (arith, ap (λ xs. sum xs) n.rem, sum_less f.rem m has) in
    record {
      asked = λ x er es en. left_asked t interval reach above f x
          (record {
            model = m;
            last = last;
            rem = er ∙ n.rem;
            starts = es ∙ n.starts;
            need = omega (arith, en, n.need, parts.0);
          });
      state = subst (λ (a : List ℕ). S a g.starts) (sym n.rem)
          (subst (λ (b : List ℕ). S (less_one f.rem m) b) (sym n.starts) (record {
            each = omega (arith, length-set f.rem m (get_or f.rem m 0 - 1), on.state.each);
            units = less_within f.rem m on.state.units;
            wide = omega (
              arith,
              length-value_at_each (λ k s. next_start s (unit_work t m k) reach interval) f.starts,
              on.state.wide,
            );
            begun = next_within t interval reach m f.starts r;
          }));
      low = omega (arith, n.need, on.low);
      first = λ z. absurd (omega (arith, z, long));
      bound = λ l. subst (λ (a : List ℕ). state_bound t interval reach a g.starts < g.need) (sym n.rem)
          (subst (λ (b : List ℕ). state_bound t interval reach (less_one f.rem m) b < g.need) (sym n.starts)
          (omega (arith, n.need, parts.1)));
      some = some;
      depth = omega (arith, less, long, on.depth);
      leads = λ units s.
          let own : IsSequenceOf (less_one f.rem m) units = subst (λ (a : List ℕ). IsSequenceOf a units) n.rem s in
          let whole = on.leads (m ∷ units) (sequence_cons f.rem m units has own) in
          let same : lasts (above ++ f ∷ []) ++ units ≡ lasts above ++ m ∷ units = lasts_push above f m units last in
          let costs : cost t interval reach f.starts (m ∷ units)
          ≡ step_cost t reach m f.starts + cost t interval reach g.starts units =
          cost_steps t interval reach f.starts m units ∙ ap
          (λ b. step_cost t reach m f.starts + cost t interval reach b units) (sym n.starts) in (
            subst (λ (z : List ℕ). IsSequenceOf t.demands z) (sym same) whole.0,
            omega (arith, ap (λ z. cost t interval reach (root_starts t) z) same, whole.1, costs, n.need, parts.0),
          );
    }
