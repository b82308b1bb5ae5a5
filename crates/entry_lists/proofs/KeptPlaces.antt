-- The places of kept entries.
use Rattle.std.proofs.Common.{◌≡◌, ℕ, zero, suc, ◌+◌, ◌<◌, ◌≤◌, Bool, true, false, List, [], ◌∷◌, ◌++◌, length, get_or}
use Rattle.std.proofs.Common.{take, map, Some, refl, sym, ap, ◌∙◌, subst, inl, inr, arith}
use Rattle.std.specs.Prelude.{slice_get, slice_index}
use Rattle.std.specs.List.{Contains}
use Rattle.std.proofs.lemmas.Bool.{cases_lt, false≢true}
use Rattle.std.proofs.lemmas.List.{take_all, length-append}
use Rattle.std.proofs.lemmas.List.Sums.{count_by_more_yes, count_by_more_no}
use Rattle.std.proofs.lemmas.Option.{same_Some}
use Rattle.line_rules.specs.lines.Truths.{In, members_from, members_of, count}
use Rattle.line_rules.proofs.about_lines.Counts.{count_first}
use Rattle.line_rules.proofs.about_lines.ListedMembers.{count_listed}
use Rattle.line_rules.specs.declared.types.Entry.{Entry}
use Rattle.line_rules.specs.declared.types.Why.{Why}
use Rattle.line_rules.specs.declared.types.Why.TheVariants as why
use Rattle.line_rules.proofs.LongerLists.{get_longer}
use Rattle.entry_lists.specs.Trim.{cited_by, IsRenumbered, IsKeptAt, AreKeptEntries, AreClosed, why_at, entry_at}
use Rattle.line_rules.proofs.ListFacts.{get_last}

-- a member of marks stands in their list of members at the number of members before it
pub place_from : (base : ℕ) (s : List Bool) (k : ℕ) → In s k
    → slice_get (members_from base s) (count (take k s)) ≡ Some (base + k)
unfolding members_from
place_from base [] k m = absurd (false≢true m)
place_from base (true ∷ s) zero m = let f : base ≡ base + 0 = omega arith in ap Some f
place_from base (false ∷ s) zero m = absurd (false≢true m)
place_from base (true ∷ s) (suc k) m =
    let e : count (true ∷ take k s) ≡ suc (count (take k s)) = omega (arith, count_first true (take k s)) in
    let f : suc base + k ≡ base + suc k = omega arith in
    ap (slice_get (base ∷ members_from (suc base) s)) e ∙ place_from (suc base) s k m ∙ ap Some f
place_from base (false ∷ s) (suc k) m =
    let e : count (false ∷ take k s) ≡ count (take k s) = omega (arith, count_first false (take k s)) in
    let f : suc base + k ≡ base + suc k = omega arith in
    ap (slice_get (members_from (suc base) s)) e ∙ place_from (suc base) s k m ∙ ap Some f

pub member_place : (s : List Bool) (k : ℕ) → In s k → slice_get (members_of s) (count (take k s)) ≡ Some k
member_place s k m = let f : 0 + k ≡ k = omega arith in place_from 0 s k m ∙ ap Some f

-- members stand in ascending order
above_from : (base : ℕ) (s : List Bool) (j a : ℕ) → slice_get (members_from base s) j ≡ Some a → base ≤ a
unfolding members_from
above_from base [] j a e = absurd (cc)
above_from base (true ∷ s) zero a e = let h : base ≡ a = same_Some base a e in omega arith
above_from base (true ∷ s) (suc j) a e = omega (arith, above_from (suc base) s j a e)
above_from base (false ∷ s) j a e = omega (arith, above_from (suc base) s j a e)

pub ascending_from : (base : ℕ) (s : List Bool) (j k a b : ℕ) → j < k → slice_get (members_from base s) j ≡ Some a
    → slice_get (members_from base s) k ≡ Some b → a < b
unfolding members_from
ascending_from base [] j k a b l e f = absurd (cc)
ascending_from base (true ∷ s) j zero a b l e f = absurd (omega arith)
ascending_from base (true ∷ s) zero (suc k) a b l e f = let h : base ≡ a = same_Some base a e in
    omega (arith, above_from (suc base) s k b f)
ascending_from base (true ∷ s) (suc j) (suc k) a b l e f = ascending_from (suc base) s j k a b (omega arith) e f
ascending_from base (false ∷ s) j k a b l e f = ascending_from (suc base) s j k a b l e f

-- cites looked up in a list of places that lead back to them
pub led_back : (numbers places cites : List ℕ) → ((cite : ℕ) → Contains cites cite
    → slice_get numbers (slice_index places cite) ≡ Some cite)
    → map (slice_get numbers) (map (slice_index places) cites) ≡ map Some cites
led_back numbers places [] h = refl
led_back numbers places (c ∷ cites) h =
    ap (λ x. x ∷ map (slice_get numbers) (map (slice_index places) cites)) (h c (0, omega arith, refl))
    ∙ ap (λ xs. Some c ∷ xs) (led_back numbers places cites (λ d m. h d (suc m.0, omega (arith, m.1), m.2)))

pub renumbered : (numbers places : List ℕ) (w : Why) → ((cite : ℕ) → Contains (cited_by w) cite
    → slice_get numbers (slice_index places cite) ≡ Some cite) → IsRenumbered numbers w (why_at places w)
renumbered numbers places why.Bound h = refl
renumbered numbers places (why.Branch mode cites) h = (
  map (slice_index places) cites,
  refl,
  led_back numbers places cites h,
)
renumbered numbers places (why.Swap cite out into) h = (slice_index places cite, refl, h cite (0, omega arith, refl))
renumbered numbers places (why.Pairs two) h = refl

-- Entries of the marks below k are placed: the list of places has the number of marked ones before each, and the items
-- are the marked entries.
pub record IsPlacing (es : List Entry) (marks : List Bool) (k : ℕ) (places : List ℕ) (items : List Entry) : Type 0 where
  pub long : length places ≡ k
  pub within : k ≤ length marks
  pub counts : (i : ℕ) → i < k → slice_index places i ≡ count (take i marks)
  pub as_many : length items ≡ count (take k marks)
  pub each : (place : ℕ) → place < length items → IsKeptAt es (members_of marks) items place

pub none_placed : (es : List Entry) (marks : List Bool) (places : List ℕ) (items : List Entry) → length places ≡ 0
    → length items ≡ 0 → IsPlacing es marks 0 places items
none_placed es marks places items e f = record {
  long = e;
  within = omega arith;
  counts = λ i l. absurd (omega arith);
  as_many = f;
  each = λ place l. absurd (omega arith);
}

-- one more place in the list of places
count_pushed : (marks : List Bool) (k n : ℕ) (places : List ℕ) → length places ≡ k
    → ((i : ℕ) → i < k → slice_index places i ≡ count (take i marks)) → n ≡ count (take k marks) → (i : ℕ) → i < k + 1
    → slice_index (places ++ n ∷ []) i ≡ count (take i marks)
count_pushed marks k n places long h e i l = elim (cases_lt i k) [
  | inl b ↦ front places (n ∷ []) i (omega arith) ∙ h i b
  | inr g ↦
      let s : i ≡ k = omega arith in
      let t : i ≡ length places = omega arith in
      ap (slice_index (places ++ n ∷ [])) t ∙ last places n ∙ e ∙ ap (λ j. count (take j marks)) (sym s)
]
  where
    front : (xs ys : List ℕ) (i : ℕ) → i < length xs → slice_index (xs ++ ys) i ≡ slice_index xs i
    front [] ys i l = absurd (omega arith)
    front (x ∷ xs) ys zero l = refl
    front (x ∷ xs) ys (suc i) l = front xs ys i (omega arith)

    last : (xs : List ℕ) (n : ℕ) → slice_index (xs ++ n ∷ []) (length xs) ≡ n
    last [] n = refl
    last (x ∷ xs) n = last xs n

-- an entry that isn't kept
pub passed_over : (es : List Entry) (marks : List Bool) (k n : ℕ) (places : List ℕ) (items : List Entry)
    → k < length marks → get_or marks k false ≡ false → n ≡ length items → IsPlacing es marks k places items
    → IsPlacing es marks (k + 1) (places ++ n ∷ []) items
passed_over es marks k n places items l m e h = record {
  long = omega (arith, length-append places (n ∷ []), h.long);
  within = omega arith;
  counts = count_pushed marks k n places h.long h.counts (e ∙ h.as_many);
  as_many = h.as_many ∙ sym (count_by_more_no (λ t. t) marks k false l m);
  each = h.each;
}

kept_longer : (es : List Entry) (numbers : List ℕ) (items more : List Entry) (place : ℕ)
    → IsKeptAt es numbers items place → IsKeptAt es numbers (items ++ more) place
kept_longer es numbers items more place h = record {
  number = h.number;
  old = h.old;
  entry = h.entry;
  kept = h.kept;
  there = h.there;
  here = get_longer items more place h.entry h.here;
  same = h.same;
}

-- a kept entry, moved by the list of places
pub placed : (es : List Entry) (marks : List Bool) (k n : ℕ) (places : List ℕ) (items : List Entry) (e : Entry)
    → k < length marks → In marks k → slice_get es k ≡ Some e → n ≡ length items → AreClosed es marks
    → IsPlacing es marks k places items
    → IsPlacing es marks (k + 1) (places ++ n ∷ []) (items ++ entry_at (places ++ n ∷ []) e ∷ [])
placed es marks k n places items e l m there f closed h = record {
  long = omega (arith, length-append places (n ∷ []), h.long);
  within = omega arith;
  counts = counted;
  as_many = omega (
    arith,
    length-append items (entry_at (places ++ n ∷ []) e ∷ []),
    count_by_more_yes (λ t. t) marks k false l m,
    h.as_many,
  );
  each = λ place b. elim (cases_lt place (length items)) [
    | inl front ↦ kept_longer es (members_of marks) items (entry_at (places ++ n ∷ []) e ∷ []) place
        (h.each place front)
    | inr g ↦ (let same : place ≡ length items = omega (
      arith,
      length-append items (entry_at (places ++ n ∷ []) e ∷ []),
    ) in
        let P : ℕ → Type 0 = IsKeptAt es (members_of marks) (items ++ entry_at (places ++ n ∷ []) e ∷ []) in
        subst P (sym same) new)
  ];
}
  where
    counted : (i : ℕ) → i < k + 1 → slice_index (places ++ n ∷ []) i ≡ count (take i marks)
    counted = count_pushed marks k n places h.long h.counts (f ∙ h.as_many)

    new : IsKeptAt es (members_of marks) (items ++ entry_at (places ++ n ∷ []) e ∷ []) (length items)
    new = record {
      number = k;
      old = e;
      entry = entry_at (places ++ n ∷ []) e;
      kept = ap (slice_get (members_of marks)) h.as_many ∙ member_place marks k m;
      there = there;
      here = get_last items (entry_at (places ++ n ∷ []) e);
      same = record {
        set = refl;
        most = refl;
        cycle = refl;
        why = renumbered (members_of marks) (places ++ n ∷ []) e.why (λ cite c.
            let p : In marks cite × (cite < k) = closed.closed k e cite m there c in
            ap (slice_get (members_of marks)) (counted cite (omega (arith, p.1))) ∙ member_place marks cite p.0);
      };
    }

-- all are gone over
pub all_placed : (es : List Entry) (marks : List Bool) (k : ℕ) (places : List ℕ) (items : List Entry) → length marks ≤ k
    → IsPlacing es marks k places items → AreKeptEntries es (members_of marks) items
all_placed es marks k places items l h = record {
  as_many = h.as_many ∙ ap count (take_all k marks l) ∙ count_listed 0 marks;
  each = h.each;
}
