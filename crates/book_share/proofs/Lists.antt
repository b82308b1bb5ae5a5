-- Lists of events of which one begins another, and places that rise.
use Rattle.std.proofs.Common.{◌≡◌, ◌≢◌, ℕ, zero, suc, ◌+◌, ◌<◌, ◌≤◌, Bool, true, false, cond, ◌&&◌, List, [], ◌∷◌, ◌++◌}
use Rattle.std.proofs.Common.{length, refl, sym, ap, ◌∙◌, inl, inr, arith, length-append, append-nil}
use Rattle.std.proofs.Common.{Some}
use Rattle.std.specs.Prelude.{nat_eq, nat_lt, nat_le, slice_get}
use Rattle.std.proofs.lemmas.Bool.Decides.{nat_tests}
use Rattle.std.proofs.lemmas.Bool.{cases_lt}
use Rattle.std.proofs.lemmas.Option.{same_Some}
use Rattle.lemma_core.specs.History.{Item, Begins, AreOwn}
use Rattle.book_share.specs.Places.{but_last, longer, shorter, times, once_from, Rises, put_in, merged}
use Rattle.lemma_core.proofs.OwnFacts.{begins_longer}

pub begins_refl : (xs : List Item) → Begins xs xs
begins_refl xs = ([], append-nil xs)

pub begins_push : (xs : List Item) (x : Item) → Begins xs (xs ++ x ∷ [])
begins_push xs x = (x ∷ [], refl)

pub but_last_push : (xs : List Item) (x : Item) → but_last (xs ++ x ∷ []) ≡ xs
but_last_push [] x = refl
but_last_push (y ∷ []) x = refl
but_last_push (y ∷ z ∷ xs) x = ap (λ l. y ∷ l) (but_last_push (z ∷ xs) x)

pub begins_but_last : (xs : List Item) → Begins (but_last xs) xs
begins_but_last [] = ([], refl)
begins_but_last (x ∷ []) = (x ∷ [], refl)
begins_but_last (x ∷ y ∷ ys) = let p = begins_but_last (y ∷ ys) in (p.0, ap (λ l. x ∷ l) p.1)

no_more : (rest : List Item) → length rest ≤ 0 → rest ≡ []
no_more [] l = refl
no_more (x ∷ xs) l = absurd (omega arith)

pub begins_whole : (xs ys : List Item) → Begins xs ys → length ys ≤ length xs → xs ≡ ys
begins_whole xs ys p l =
    let e = ap (λ (z : List Item). length z) p.1 in
    let none : p.0 ≡ [] = no_more p.0 (omega (arith, length-append xs p.0, e)) in
    sym (append-nil xs) ∙ ap (λ z. xs ++ z) (sym none) ∙ p.1

pub longer_begins : (xs ys h : List Item) → Begins xs h → Begins ys h → Begins (longer xs ys) h
longer_begins xs ys h p q = by (nat_lt (length xs) (length ys))
  where
    by : (b : Bool) → Begins (cond b ys xs) h
    by true = q
    by false = p

pub longer_left : (xs ys : List Item) → Begins ys xs → longer xs ys ≡ xs
longer_left xs ys p = by (nat_lt (length xs) (length ys)) refl
  where
    by : (b : Bool) → nat_lt (length xs) (length ys) ≡ b → cond b ys xs ≡ xs
    by true e = let l : length ys ≤ length xs = begins_longer ys xs p in absurd (grind (arith, nat_tests))
    by false e = refl

pub longer_right : (xs ys : List Item) → Begins xs ys → longer xs ys ≡ ys
longer_right xs ys p = by (nat_lt (length xs) (length ys)) refl
  where
    by : (b : Bool) → nat_lt (length xs) (length ys) ≡ b → cond b ys xs ≡ ys
    by true e = refl
    by false e = let l : length ys ≤ length xs = grind (arith, nat_tests) in begins_whole xs ys p l

pub rises_le : (low : ℕ) (xs : List ℕ) (high : ℕ) → Rises low xs high → low ≤ high
rises_le low [] high r = r
rises_le low (x ∷ xs) high r = omega (arith, r.0, rises_le (suc x) xs high r.1)

pub rises_wider : (low : ℕ) (xs : List ℕ) (high more : ℕ) → high ≤ more → Rises low xs high → Rises low xs more
rises_wider low [] high more l r = omega arith
rises_wider low (x ∷ xs) high more l r = (r.0, rises_wider (suc x) xs high more l r.1)

pub rises_push : (low : ℕ) (xs : List ℕ) (n : ℕ) → Rises low xs n → Rises low (xs ++ n ∷ []) (suc n)
rises_push low [] n r = (r, omega arith)
rises_push low (x ∷ xs) n r = (r.0, rises_push (suc x) xs n r.1)

pub times_push : (x : ℕ) (xs : List ℕ) (n : ℕ) → times x (xs ++ n ∷ []) ≡ times x xs + cond (nat_eq x n) 1 0
times_push x [] n = omega arith
times_push x (y ∷ ys) n = omega (arith, times_push x ys n)

pub once_none : (n x : ℕ) → once_from n n x ≡ 0
once_none n x = grind (arith, nat_tests)

pub once_more : (from n x : ℕ) → from ≤ n → once_from from (suc n) x ≡ once_from from n x + cond (nat_eq x n) 1 0
once_more from n x l = grind (arith, nat_tests)

pub times_put : (x y : ℕ) (ys : List ℕ) → times x (put_in y ys) ≡ cond (nat_eq x y) 1 0 + times x ys
times_put x y [] = refl
times_put x y (z ∷ zs) = by (times_put x y zs) (nat_lt y z)
  where
    by : times x (put_in y zs) ≡ cond (nat_eq x y) 1 0 + times x zs → (b : Bool)
        → times x (cond b (y ∷ z ∷ zs) (z ∷ put_in y zs)) ≡ cond (nat_eq x y) 1 0 + (cond (nat_eq x z) 1 0 + times x zs)
    by ih true = refl
    by ih false = omega (arith, ih)

pub times_merged : (x : ℕ) (xs ys : List ℕ) → times x (merged xs ys) ≡ times x xs + times x ys
times_merged x xs [] = omega arith
times_merged x xs (y ∷ ys) = omega (arith, times_put x y (merged xs ys), times_merged x xs ys)

pub rises_put : (low x : ℕ) (xs : List ℕ) (high : ℕ) → low ≤ x → x < high → times x xs ≡ 0 → Rises low xs high
    → Rises low (put_in x xs) high
rises_put low x [] high l h none r = (l, omega arith)
rises_put low x (y ∷ ys) high l h none r = by (λ m n. rises_put (suc y) x ys high m h n r.1) (nat_lt x y) refl
    (nat_eq x y) refl
  where
    by : (suc y ≤ x → times x ys ≡ 0 → Rises (suc y) (put_in x ys) high) → (b : Bool) → nat_lt x y ≡ b → (c : Bool)
        → nat_eq x y ≡ c → Rises low (cond b (x ∷ y ∷ ys) (y ∷ put_in x ys)) high
    by ih true e c f = let less : x < y = grind (arith, nat_tests) in (l, (omega arith, r.1))
    by ih false e true f = let one : cond {A = ℕ} (nat_eq x y) 1 0 ≡ 1 = ap {B = ℕ} (λ (b : Bool). cond b 1 0) f in
        absurd (omega (arith, one, none))
    by ih false e false f = let more : y ≤ x = grind (arith, nat_tests) in
        let other : x ≢ y = grind (arith, nat_tests) in (r.0, ih (omega arith) (omega arith))

pub member_rises : (low : ℕ) (xs : List ℕ) (high x : ℕ) → Rises low xs high → 0 < times x xs → (low ≤ x) × (x < high)
member_rises low [] high x r m = absurd (omega arith)
member_rises low (y ∷ ys) high x r m = by (λ n. member_rises (suc y) ys high x r.1 n) (nat_eq x y) refl
  where
    by : (0 < times x ys → (suc y ≤ x) × (x < high)) → (b : Bool) → nat_eq x y ≡ b → (low ≤ x) × (x < high)
    by ih true e = let same : x ≡ y = grind (arith, nat_tests) in let over = rises_le (suc y) ys high r.1 in
        let l = r.0 in (omega arith, omega arith)
    by ih false e = let zero_is : cond {A = ℕ} (nat_eq x y) 1 0 ≡ 0 = ap {B = ℕ} (λ (b : Bool). cond b 1 0) e in
        let p = ih (omega (arith, zero_is, m)) in let l = r.0 in (omega (arith, p.0, l), p.1)

pub rises_merged : (low : ℕ) (xs ys : List ℕ) (high : ℕ) → Rises low xs high → Rises low ys high
    → ((x : ℕ) → times x xs + times x ys ≤ 1) → Rises low (merged xs ys) high
rises_merged low xs [] high r q once = r
rises_merged low xs (y ∷ ys) high r q once =
    let mine : cond {A = ℕ} (nat_eq y y) 1 0 ≡ 1 = grind (arith, nat_tests) in
    let p : (low ≤ y) × (y < high) = member_rises low (y ∷ ys) high y q (omega arith) in
    rises_put low y (merged xs ys) high p.0 p.1 (omega (arith, times_merged y xs ys, once y, mine))
    (rises_merged low xs ys high r (rises_lower low y ys high (omega (arith, p.0)) q.1) (λ x. omega (arith, once x)))
  where
    rises_lower : (low y : ℕ) (ys : List ℕ) (high : ℕ) → low ≤ suc y → Rises (suc y) ys high → Rises low ys high
    rises_lower low y [] high l r = omega arith
    rises_lower low y (z ∷ zs) high l r = (omega (arith, r.0), r.1)

pub once_le : (from n x : ℕ) → once_from from n x ≤ 1
once_le from n x = by (nat_le from x && nat_lt x n)
  where
    by : (b : Bool) → cond b 1 0 ≤ 1
    by true = omega arith
    by false = omega arith

-- of two beginnings of one list the shorter begins the longer
pub begins_two : (xs ys h : List Item) → Begins xs h → Begins ys h → length xs ≤ length ys → Begins xs ys
begins_two [] ys h p q l = (ys, refl)
begins_two (x ∷ xs) [] h p q l = absurd (omega arith)
begins_two (x ∷ xs) (y ∷ ys) [] p q l = let e = p.1 in absurd (cc)
begins_two (x ∷ xs) (y ∷ ys) (z ∷ zs) p q l =
    let e = p.1 in
    let f = q.1 in
    let same : x ≡ y = cc in
    let r = begins_two xs ys zs (p.0, cc) (q.0, cc) (omega arith) in
    (r.0, λ i. same i ∷ r.1 i)

pub begins_shorter : (xs ys h : List Item) → Begins xs h → Begins ys h → Begins (shorter xs ys) (longer xs ys)
begins_shorter xs ys h p q = by (nat_lt (length xs) (length ys)) refl
  where
    by : (b : Bool) → nat_lt (length xs) (length ys) ≡ b → Begins (cond b xs ys) (cond b ys xs)
    by true e = begins_two xs ys h p q (grind (arith, nat_tests))
    by false e = begins_two ys xs h q p (grind (arith, nat_tests))

-- both begin the longer one, where the shorter does
pub begins_both : (xs ys : List Item) → Begins (shorter xs ys) (longer xs ys)
    → Begins xs (longer xs ys) × Begins ys (longer xs ys)
begins_both xs ys p = by (nat_lt (length xs) (length ys)) p
  where
    by : (b : Bool) → Begins (cond b xs ys) (cond b ys xs) → Begins xs (cond b ys xs) × Begins ys (cond b ys xs)
    by true q = (q, begins_refl ys)
    by false q = (begins_refl xs, q)

pub rises_once : (low : ℕ) (xs : List ℕ) (high x : ℕ) → Rises low xs high → times x xs ≤ 1
rises_once low [] high x r = omega arith
rises_once low (y ∷ ys) high x r = by (rises_once (suc y) ys high x r.1) (λ m. member_rises (suc y) ys high x r.1 m)
    (nat_eq x y) refl
  where
    by : times x ys ≤ 1 → (0 < times x ys → (suc y ≤ x) × (x < high)) → (b : Bool) → nat_eq x y ≡ b
        → cond b 1 0 + times x ys ≤ 1
    by ih member true e = let same : x ≡ y = grind (arith, nat_tests) in
        elim (cases_lt 0 (times x ys)) [ inl m ↦ let p = (member m).0 in absurd (omega arith) | inr z ↦ omega arith ]
    by ih member false e = omega arith

-- places that rise as a recursion rise as a list, within their bounds
pub rises_at : (low : ℕ) (xs : List ℕ) (high k x : ℕ) → Rises low xs high → slice_get xs k ≡ Some x
    → (low ≤ x) × (x < high)
rises_at low [] high k x r e = absurd (cc)
rises_at low (y ∷ ys) high zero x r e = let same : y ≡ x = same_Some y x e in let l = rises_le (suc y) ys high r.1 in
    let m = r.0 in (omega arith, omega arith)
rises_at low (y ∷ ys) high (suc k) x r e = let p = rises_at (suc y) ys high k x r.1 e in let m = r.0 in let q = p.0 in
    (omega arith, p.1)

rises_next : (low : ℕ) (xs : List ℕ) (high k a b : ℕ) → Rises low xs high → slice_get xs k ≡ Some a
    → slice_get xs (suc k) ≡ Some b → a < b
rises_next low [] high k a b r e f = absurd (cc)
rises_next low (y ∷ ys) high zero a b r e f = let same : y ≡ a = same_Some y a e in
    let p = (rises_at (suc y) ys high 0 b r.1 f).0 in omega arith
rises_next low (y ∷ ys) high (suc k) a b r e f = rises_next (suc y) ys high k a b r.1 e f

pub are_own : (low : ℕ) (h : List Item) (own : List ℕ) → Rises low own (length h) → AreOwn h own
are_own low h own r = record {
  rises = λ k a b e f. rises_next low own (length h) k a b r e f;
  within = λ k a e. (rises_at low own (length h) k a r e).1;
}
