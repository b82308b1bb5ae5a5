-- The members of a set as a list.
use Rattle.std.proofs.Common.{◌≡◌, ℕ, zero, suc, ◌+◌, ◌*◌, ◌/◌, ◌<◌, ◌≤◌, ◌↔◌, Bool, true, false, List, [], ◌∷◌, ◌++◌}
use Rattle.std.proofs.Common.{length, get_or, set, take, replicate, refl, sym, ap, ◌∙◌, subst, inl, inr, arith}
use Rattle.std.specs.List.{Contains}
use Rattle.line_instance.specs.Truths.{In, IsEmpty, IsLeast, members_from, members_of, count}
use Rattle.line_instance.proofs.Members.{In-set_same, In-set_kept, In-set_cases, In-empty}
use Rattle.std.proofs.lemmas.Bool.{false≢true, cases_eq}
use Rattle.std.proofs.lemmas.List.{get_or-set_other, take_more}
use Rattle.line_instance.specs.Text.{list_text}
use Rattle.std.specs.Prelude.{codes, decimal}
use Rattle.std.proofs.Common.{append_assoc, append-nil}
use Rattle.line_instance.proofs.Counts.{count_first}
use Rattle.std.proofs.lemmas.Grind.{get_or_default_zero}
use Rattle.std.proofs.lemmas.List.Elements.{Contains-push, Contains-push_cases, Contains-append_left}
use Rattle.std.proofs.lemmas.List.Elements.{Contains-append_right}

-- the least member is the first, and the others are those of the set without it
pub least_first : (k : ℕ) (s : List Bool) (i : ℕ) → IsLeast s i
    → members_from k s ≡ (k + i) ∷ members_from k (set s i false)
unfolding members_from
least_first k [] i l = absurd (false≢true l.member)
least_first k (true ∷ bs) zero l = ap (λ n. n ∷ members_from (suc k) bs) (omega arith)
least_first k (true ∷ bs) (suc i) l = absurd (omega (arith, l.least 0 refl))
least_first k (false ∷ bs) zero l = absurd (false≢true l.member)
least_first k (false ∷ bs) (suc i) l =
    least_first (suc k) bs i (record {
      member = l.member;
      least = λ j m. omega (arith, l.least (suc j) m);
    })
    ∙ ap (λ n. n ∷ members_from (suc k) (set bs i false)) (omega arith)

pub first_member : (s : List Bool) (i : ℕ) → IsLeast s i → members_of s ≡ i ∷ members_of (set s i false)
first_member s i l = least_first 0 s i l ∙ ap (λ n. n ∷ members_of (set s i false)) (omega arith)

-- an empty set has none
pub none_from : (k : ℕ) (s : List Bool) → IsEmpty s → members_from k s ≡ []
unfolding members_from
none_from k [] h = refl
none_from k (true ∷ bs) h = absurd (h 0 refl)
none_from k (false ∷ bs) h = none_from (suc k) bs (λ i m. h (suc i) m)

-- without the least member the others are in its word or behind it
pub others_from : (s : List Bool) (i : ℕ) → IsLeast s i → (j : ℕ) → In (set s i false) j → 64 * (i / 64) ≤ j
others_from s i l j m = elim (cases_eq j i) [
  | inl e ↦ omega arith
  | inr n ↦ omega (arith, l.least j (sym (get_or-set_other s i j false false n) ∙ m))
]

-- one task more
pub listed_more : (s : List Bool) (xs : List ℕ) (k : ℕ) → length s ≡ 1024 → k < length xs → get_or xs k 0 < 1024
    → ((i : ℕ) → In s i ↔ Contains (take k xs) i) → (i : ℕ) → In (set s (get_or xs k 0) true) i
    ↔ Contains (take (k + 1) xs) i
listed_more s xs k e l b h i =
    let x : ℕ = get_or xs k 0 in
    let P : List ℕ → Type 0 = λ ys. Contains ys i in
    let more : take (k + 1) xs ≡ take k xs ++ x ∷ [] = take_more xs k 0 l in (
      λ m. subst P (sym more) (elim (In-set_cases s x i m) [
        | inl old ↦ Contains-append_left (take k xs) (x ∷ []) i ((h i).0 old)
        | inr same ↦ let Q : ℕ → Type 0 = λ y. Contains (take k xs ++ x ∷ []) y in
            subst Q (sym same) (Contains-push (take k xs) x)
      ]),
      λ c. elim (Contains-push_cases (take k xs) x i (subst P more c)) [
        | inl old ↦ In-set_kept s x i ((h i).1 old)
        | inr same ↦ let Q : ℕ → Type 0 = λ y. In (set s x true) y in
            subst Q same (In-set_same s x (omega (arith, e, b)))
      ],
    )

pub listed_none : (s : List Bool) (xs : List ℕ) → s ≡ replicate 1024 false → (i : ℕ) → In s i ↔ Contains (take 0 xs) i
listed_none s xs e i = (
  λ m. let P : List Bool → Type 0 = λ t. In t i in absurd (In-empty 1024 i (subst P e m)),
  λ c. absurd (omega (arith, c.1)),
)

pub in_listed : (k : ℕ) (s : List Bool) (i : ℕ) → In s i → Contains (members_from k s) (k + i)
unfolding members_from
in_listed k [] i m = absurd (false≢true m)
in_listed k (true ∷ bs) zero m = (0, omega arith, omega arith)
in_listed k (false ∷ bs) zero m = absurd (false≢true m)
in_listed k (true ∷ bs) (suc i) m =
    let P : ℕ → Type 0 = λ n. Contains (k ∷ members_from (suc k) bs) n in
    let e : suc k + i ≡ k + suc i = omega arith in
    subst P e (Contains-append_right (k ∷ []) (members_from (suc k) bs) (suc k + i) (in_listed (suc k) bs i m))
in_listed k (false ∷ bs) (suc i) m =
    let P : ℕ → Type 0 = λ n. Contains (members_from (suc k) bs) n in
    let e : suc k + i ≡ k + suc i = omega arith in
    subst P e (in_listed (suc k) bs i m)

-- what is listed is a member, and no less than the first truth's number
pub listed_in : (k : ℕ) (s : List Bool) (j : ℕ) → j < length (members_from k s)
    → (i : ℕ) × (get_or (members_from k s) j 0 ≡ k + i) × In s i
unfolding members_from
listed_in k [] j l = absurd (omega (arith, l))
listed_in k (true ∷ bs) zero l = (0, omega arith, refl)
listed_in k (true ∷ bs) (suc j) l =
    let r : (i : ℕ) × (get_or (members_from (suc k) bs) j 0 ≡ suc k + i) × In bs i =
    listed_in (suc k) bs j (omega (arith, l)) in
    (suc r.0, omega (arith, r.1), r.2)
listed_in k (false ∷ bs) j l =
    let r : (i : ℕ) × (get_or (members_from (suc k) bs) j 0 ≡ suc k + i) × In bs i = listed_in (suc k) bs j l in
    (suc r.0, omega (arith, r.1), r.2)

pub listed : (s : List Bool) (i : ℕ) → In s i ↔ Contains (members_of s) i
listed s i = (
  λ m. let P : ℕ → Type 0 = λ n. Contains (members_of s) n in
      let e : 0 + i ≡ i = omega arith in
      subst P e (in_listed 0 s i m),
  λ c.
      let r : (n : ℕ) × (get_or (members_of s) c.0 0 ≡ 0 + n) × In s n = listed_in 0 s c.0 c.1 in
      let e : r.0 ≡ i = omega (arith, r.1, get_or_default_zero (members_of s) c.0 i c.1, c.2) in
      let P : ℕ → Type 0 = λ n. In s n in
      subst P e r.2,
)

pub rising : (k : ℕ) (s : List Bool) (j : ℕ) → j + 1 < length (members_from k s)
    → get_or (members_from k s) j 0 < get_or (members_from k s) (j + 1) 0
unfolding members_from
rising k [] j l = absurd (omega (arith, l))
rising k (true ∷ bs) zero l =
    let r : (i : ℕ) × (get_or (members_from (suc k) bs) 0 0 ≡ suc k + i) × In bs i =
    listed_in (suc k) bs 0 (omega (arith, l)) in
    omega (arith, r.1)
rising k (true ∷ bs) (suc j) l =
    let e : suc j + 1 ≡ suc (j + 1) = omega arith in
    rw e (rising (suc k) bs j (omega (arith, l)))
rising k (false ∷ bs) j l = rising (suc k) bs j l

pub count_listed : (k : ℕ) (s : List Bool) → count s ≡ length (members_from k s)
unfolding members_from
count_listed k [] = refl
count_listed k (true ∷ bs) = omega (arith, count_listed (suc k) bs, count_first true bs)
count_listed k (false ∷ bs) = omega (arith, count_listed (suc k) bs, count_first false bs)

pub text_first : (mark : List ℕ) (i : ℕ) (more : List ℕ) → list_text mark (i ∷ more) ≡ mark ++ decimal i
    ++ list_text (codes ", ") more
unfolding list_text
text_first mark i more = refl

-- what is written, with the mark and the next number, before the text of the others is the whole text
pub text_step : (done mark : List ℕ) (i : ℕ) (left more all : List ℕ) → left ≡ i ∷ more
    → done ++ list_text mark left ≡ all
    → (done ++ (mark ++ decimal i)) ++ list_text (codes ", ") more ≡ all
text_step done mark i left more all e h =
    append_assoc done (mark ++ decimal i) (list_text (codes ", ") more)
    ∙ ap (λ t. done ++ t) (sym (text_first mark i more) ∙ ap (list_text mark) (sym e))
    ∙ h

pub text_end : (done mark left all : List ℕ) → left ≡ [] → done ++ list_text mark left ≡ all → done ≡ all
unfolding list_text
text_end done mark left all e h = sym (append-nil done) ∙ ap (λ l. done ++ list_text mark l) (sym e) ∙ h

-- a turn of a loop over the members: the next one is a member, and goes over to those that were
pub member_turn : (s : List Bool) (done left more : List ℕ) (i : ℕ) → done ++ left ≡ members_of s → left ≡ i ∷ more
    → In s i × ((done ++ i ∷ []) ++ more ≡ members_of s)
member_turn s done left more i h e =
    let all : done ++ (i ∷ more) ≡ members_of s = ap (λ l. done ++ l) (sym e) ∙ h in
    let P : List ℕ → Type 0 = λ l. Contains l i in (
      (listed s i).1 (subst P all (Contains-append_right done (i ∷ more) i (0, omega arith, refl))),
      append_assoc done (i ∷ []) more ∙ all,
    )

-- the end of such a loop: each member was gone over
pub member_end : (s : List Bool) (done left : List ℕ) → done ++ left ≡ members_of s → left ≡ [] → done ≡ members_of s
member_end s done left h e = sym (append-nil done) ∙ ap (λ l. done ++ l) (sym e) ∙ h
