-- How a try begins, and what it leaves where it is stopped.
use Rattle.std.proofs.Common.{◌≡◌, ℕ, zero, suc, ◌+◌, ◌<◌, ◌≤◌, Bool, true, false, nat_eq, List, [], ◌∷◌, ◌++◌, length}
use Rattle.std.proofs.Common.{take, get_or, refl, sym, ap, ◌∙◌, subst, inl, inr, add-one, arith, Some, None, Option}
use Rattle.std.proofs.Common.{length-append, sum}
use Rattle.std.specs.Prelude.{slice_get}
use Rattle.std.proofs.lemmas.Bool.Decides.{nat_tests}
use Rattle.std.proofs.lemmas.List.{length-take-le, length-replicate, get_or_default}
use Rattle.std.proofs.lemmas.List.Sums.{sum_by-cons}
use Rattle.line_rules.proofs.ListFacts.{get_push_cases, get_take, get_longer, take_next as next}
use Rattle.sequence_values.specs.declared.types.Times.{Times}
use Rattle.sequence_values.specs.declared.types.SeqEntry.{SeqEntry}
use Rattle.sequence_values.specs.declared.types.SeqFrame.{SeqFrame}
use Rattle.sequence_rules.specs.States.{IsSequenceOf, cost, root_starts}
use Rattle.sequence_rules.specs.Entries.{Covers, is_left}
use Rattle.sequence_rules.specs.Trails.{IsLeftBy, IsAskedAt, EndsWell, up_to, matched_to, is_deepest, IsRightAt}
use Rattle.sequence_rules.specs.Ranges.{AreTimes, IsState, IsLast, IsFrame}
use Rattle.sequence_rules.proofs.CostFacts.{left_within}
use Rattle.sequence_rules.proofs.UnitCounts.{noughts}
use Rattle.sequence_search.specs.About.{About, charges_of}
use Rattle.sequence_search.specs.Steps.{IsNextModel, HasPlainAnswer}
use Rattle.sequence_search.specs.inner.Paths.{IsPassed, IsAlong, IsTop, IsBook}
use Rattle.sequence_search.specs.inner.Tries.{AreStopped}
use Rattle.sequence_search.proofs.CoverFacts.{covers_none, cites_within}
use Rattle.sequence_search.proofs.PathFacts.{some_left}

-- each number of a list is at most their sum
at_most_sum : (xs : List ℕ) (k : ℕ) → get_or xs k 0 ≤ sum xs
at_most_sum [] k = omega arith
at_most_sum (x ∷ xs) zero = omega (arith, sum_by-cons (λ n. n) x xs)
at_most_sum (x ∷ xs) (suc k) = omega (arith, sum_by-cons (λ n. n) x xs, at_most_sum xs k)

-- the root is a state
pub root_state : (t : Times) → AreTimes t → IsState (length t.demands) t.stations t.demands (root_starts t)
root_state t times = record {
  each = refl;
  units = λ k d l. omega (arith, get_or_default t.demands k d 0 l, at_most_sum t.demands k, times.units);
  wide = length-replicate t.stations 0;
  begun = λ k d l. omega (arith, get_or_default (root_starts t) k d 0 l, noughts t.stations k);
}

-- a try begins at the root
pub root_top : (t : Times) (interval reach : ℕ) (about : About) (goal : ℕ) (es : List SeqEntry) (f : SeqFrame) → AreTimes t
    → IsBook t interval reach about es goal
    → f.rem ≡ t.demands → f.starts ≡ root_starts t → f.need ≡ goal → f.last ≡ None → f.cites ≡ []
    → IsTop t interval reach about goal es [] f
root_top t interval reach about goal es f times book r s n l c =
    let E : Option ℕ → Type 0 = λ o. EndsWell true f.rem o in
    let C : ℕ → List ℕ → Type 0 = λ k cs. Covers t interval reach (charges_of about) es f.rem f.starts f.need k cs in
    let S : List ℕ → List ℕ → Type 0 = λ a b. IsState (length t.demands) t.stations a b in
    let none : up_to f.last ≡ 0 = ap (λ o. up_to o) l in
    record {
      last = subst E (sym l) refl;
      worked = record {
        on = record {
          asked = λ x er es en. record { rem = er ∙ r; starts = es ∙ s };
          state = subst (λ (a : List ℕ). S a f.starts) (sym r)
              (subst (λ (b : List ℕ). S t.demands b) (sym s) (root_state t times));
          low = omega (arith, n);
          first = λ z. n;
          bound = λ z. absurd (omega (arith, z));
          some = omega (arith, ap (λ xs. sum xs) r, times.wanted);
          depth = omega (arith, ap (λ xs. sum xs) r);
          leads = λ units h. (
            subst (λ (a : List ℕ). IsSequenceOf a units) r h,
            omega (arith, n, ap (λ b. cost t interval reach b units) s),
          );
        };
        unanswered = λ h.
            let A : List ℕ → List ℕ → ℕ → Type 0 = λ a b k. HasPlainAnswer es a b k in
            book.root (subst (λ (k : ℕ). A t.demands (root_starts t) k) n
            (subst (λ (b : List ℕ). A t.demands b f.need) s (subst (λ (a : List ℕ). A a f.starts f.need) r h)));
        covers = subst (λ (k : ℕ). C k f.cites) (sym none) (subst (λ (cs : List ℕ). C 0 cs) (sym c)
            (covers_none t interval reach about es f.rem f.starts f.need));
      };
    }

-- what is asked of a frame below some frames is asked of it in a longer list
asked_in : (t : Times) (interval reach : ℕ) (before fs : List SeqFrame) (j : ℕ) (x : SeqFrame)
    → ((i : ℕ) (y : SeqFrame) → slice_get before i ≡ Some y → slice_get fs i ≡ Some y)
    → length before ≡ j → IsAskedAt t interval reach before (length before) x → IsAskedAt t interval reach fs j x
asked_in t interval reach before fs zero x more n h =
    let P : ℕ → Type 0 = λ k. IsAskedAt t interval reach before k x in
    subst P n h
asked_in t interval reach before fs (suc i) x more n h =
    let P : ℕ → Type 0 = λ k. IsAskedAt t interval reach before k x in
    let own : (above : SeqFrame) × ((slice_get before i ≡ Some above) × IsLeftBy t interval reach above x) =
    subst P n h in
    (own.0, (more i own.0 own.1.0, own.1.1))

matched_all : (last : Option ℕ) → matched_to true last ≡ up_to last
matched_all None = refl
matched_all (Some m) = refl

last_in : (models : ℕ) (rem : List ℕ) (last : Option ℕ) → length rem ≡ models → EndsWell true rem last
    → IsLast models last
last_in models rem None e h = tt
last_in models rem (Some m) e h = omega (arith, e, left_within rem m (some_left rem m h))

module _ (t : Times) (interval reach : ℕ) (about : About) (goal : ℕ) (es : List SeqEntry) (above : List SeqFrame) (f : SeqFrame)
    (along : IsAlong t interval reach about goal es above) (top : IsTop t interval reach about goal es above f) where
  frames : List SeqFrame
  frames = above ++ f ∷ []

  right_above : (j : ℕ) (x : SeqFrame) → j < length above → slice_get above j ≡ Some x
      → IsRightAt t interval reach (charges_of about) es (above ++ f ∷ []) j x
  right_above j x l g =
      let p : IsPassed t interval reach about goal es (take j above) x = along j x g in
      let no : is_deepest (above ++ f ∷ []) j ≡ false = deep j (length above) (length (above ++ f ∷ [])) l
      (length-append above (f ∷ [])) in
      let E : Option ℕ → Type 0 = λ o. EndsWell (is_deepest (above ++ f ∷ []) j) x.rem o in
      let C : ℕ → Type 0 = λ n. Covers t interval reach (charges_of about) es x.rem x.starts x.need n x.cites in
      let reached : matched_to (is_deepest (above ++ f ∷ []) j) x.last ≡ p.model =
      ap (λ b. matched_to b x.last) no ∙ ap (λ o. matched_to false o) p.last in
      record {
        asked = asked_in t interval reach (take j above) (above ++ f ∷ []) j x
            (λ i y h. get_longer above (f ∷ []) i y (get_take above j i y h).1)
            (length-take-le j above (omega (arith, l))) (p.worked.on.asked x refl refl refl);
        last = subst E (sym p.last) p.left;
        covers = subst C (sym reached) p.worked.covers;
      }
    where
      deep : (j n k : ℕ) → j < n → k ≡ n + 1 → nat_eq (j + 1) k ≡ false
      deep j n k l e = grind (arith, nat_tests)

  right_top : (j : ℕ) → j ≡ length above → IsRightAt t interval reach (charges_of about) es (above ++ f ∷ []) j f
  right_top j e =
      let yes : is_deepest (above ++ f ∷ []) j ≡ true = deep j (length above) (length (above ++ f ∷ [])) e
      (length-append above (f ∷ [])) in
      let E : Bool → Type 0 = λ b. EndsWell b f.rem f.last in
      let C : ℕ → Type 0 = λ n. Covers t interval reach (charges_of about) es f.rem f.starts f.need n f.cites in
      let reached : matched_to (is_deepest (above ++ f ∷ []) j) f.last ≡ up_to f.last =
      ap (λ b. matched_to b f.last) yes ∙ matched_all f.last in
      record {
        asked = asked_in t interval reach above (above ++ f ∷ []) j f (λ i y h. get_longer above (f ∷ []) i y h) (sym e)
            (top.worked.on.asked f refl refl refl);
        last = subst E (sym yes) top.last;
        covers = subst C (sym reached) top.worked.covers;
      }
    where
      deep : (j n k : ℕ) → j ≡ n → k ≡ n + 1 → nat_eq (j + 1) k ≡ true
      deep j n k e s = grind (arith, nat_tests)

  pub stopped : (m : ℕ) → AreTimes t → IsNextModel f.rem (up_to f.last) m → goal ≤ 1000000000000000000
      → length es ≤ 1000000000000000000 → AreStopped t interval reach about goal es (above ++ f ∷ [])
  stopped m times next low few = record {
    some = omega (arith, length-append above (f ∷ []));
    few = omega (arith, length-append above (f ∷ []), top.worked.on.depth, times.units);
    first = λ x g. elim (get_push_cases above f x 0 g) [
      | inl u ↦ (along 0 x u.1).worked.on.first refl
      | inr u ↦ ap (λ (z : SeqFrame). z.need) (sym u.1) ∙ top.worked.on.first (sym u.0)
    ];
    right = λ j x g. elim (get_push_cases above f x j g) [
      | inl u ↦ right_above j x u.0 u.1
      | inr u ↦ let P : SeqFrame → Type 0 = λ z. IsRightAt t interval reach (charges_of about) es (above ++ f ∷ []) j z in
          subst P u.1 (right_top j u.0)
    ];
    range = λ j x g. elim (get_push_cases above f x j g) [
      | inl u ↦
          let p : IsPassed t interval reach about goal es (take j above) x = along j x u.1 in
          let L : Option ℕ → Type 0 = λ o. IsLast (length t.demands) o in
          record {
            state = p.worked.on.state;
            need = omega (arith, p.worked.on.low, low);
            last = subst L (sym p.last) (omega (
              arith,
              p.worked.on.state.each,
              left_within x.rem p.model (some_left x.rem p.model p.left),
            ));
            cites = λ k d h. omega (
              arith,
              few,
              cites_within t interval reach about es x.rem x.starts x.need p.model x.cites
                  p.worked.covers k d h,
            );
          }
      | inr u ↦
          let P : SeqFrame → Type 0 = λ z. IsFrame (length t.demands) t.stations z in
          subst P u.1 (record {
            state = top.worked.on.state;
            need = omega (arith, top.worked.on.low, low);
            last = last_in (length t.demands) f.rem f.last top.worked.on.state.each top.last;
            cites = λ k d h. omega (
              arith,
              few,
              cites_within t interval reach about es f.rem f.starts f.need (up_to f.last)
                  f.cites top.worked.covers k d h,
            );
          })
    ];
    further = record {
      unanswered = λ j x g k e h a. elim (get_push_cases above f x j g) [
        | inl u ↦ (along j x u.1).worked.unanswered (k, record { entry = e; there = h; answers = a })
        | inr u ↦
            let P : SeqFrame → Type 0 = λ z. HasPlainAnswer es z.rem z.starts z.need → ⊥ in
            subst P u.1 top.worked.unanswered (k, record { entry = e; there = h; answers = a })
      ];
      further = λ j x g n. elim (get_push_cases above f x j g) [
        | inl u ↦ absurd (omega (arith, u.0, n, length-append above (f ∷ [])))
        | inr u ↦
            let P : SeqFrame → Type 0 = λ z. (k : ℕ) × ((up_to z.last ≤ k) × (is_left z.rem k ≡ true)) in
            subst P u.1 (m, (next.after, next.left))
      ];
    };
  }

-- what is taken of a list, with its next item
pub take_next : {X : Type 0} (xs : List X) (k : ℕ) (x : X) → slice_get xs k ≡ Some x
    → take (k + 1) xs ≡ take k xs ++ x ∷ []
take_next xs k x e = ap (λ n. take n xs) (add-one k) ∙ next xs k x e
