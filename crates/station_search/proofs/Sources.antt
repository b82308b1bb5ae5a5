-- Counting the members of a set without predecessor, or without successor, in it.
use Rattle.std.proofs.Common.{◌≡◌, ℕ, zero, suc, ◌+◌, ◌<◌, ◌≤◌, Bool, true, false, cond, List, [], ◌∷◌, length, refl}
use Rattle.std.proofs.Common.{sym, ap, ◌∙◌, inl, inr, arith}
use Rattle.std.specs.Prelude.{nat_eq, nat_le, IsTrue, ◌↔◌}
use Rattle.std.specs.List.{count_by}
use Rattle.std.proofs.lemmas.List.Sums.{sum_by-cons, count_by-le-length}
use Rattle.std.proofs.lemmas.Bool.{cases_Bool, false≢true}
use Rattle.std.proofs.lemmas.Bool.Decides.{nat_tests}
use Rattle.line_instance.specs.Truths.{In, IsEmpty, meet, members_from, members_of}
use Rattle.line_instance.proofs.Members.{In-meet, In-meet_parts}
use Rattle.line_instance.proofs.ListedMembers.{count_listed}
use Rattle.line_rules.proofs.SumsOverMembers.{AllIn, all_in}
use Rattle.line_instance.specs.Line.{Line}
use Rattle.line_rules.specs.declared.types.LineKind.{LineKind}
use Rattle.line_rules.specs.declared.types.LineKind.TheVariants.{Straight, U}
use Rattle.line_rules.specs.declared.types.Mode.TheVariants as mode
use Rattle.station_search.specs.Mode.{is_source, is_sink, sources, sinks, mode_of}

none_of : (p : ℕ → Bool) (s : List Bool) (xs : List ℕ) → AllIn s xs → ((i : ℕ) → In s i → p i ≡ false)
    → count_by p xs ≡ 0
none_of p s [] m h = refl
none_of p s (x ∷ xs) m h =
    let f : cond (p x) 1 0 ≡ 0 = ap (λ b. cond {A = ℕ} b 1 0) (h x m.0) in
    omega (arith, sum_by-cons (λ y. cond (p y) 1 0) x xs, f, none_of p s xs m.1 h)

some_of : (p : ℕ → Bool) (k : ℕ) (s : List Bool) (i : ℕ) → In s i → p (k + i) ≡ true → 0 < count_by p (members_from k s)
unfolding members_from
some_of p k [] i m t = absurd (false≢true m)
some_of p k (true ∷ s) zero m t =
    let e : p (k + 0) ≡ p k = ap p (omega arith) in
    let f : cond (p k) 1 0 ≡ 1 = ap (λ b. cond {A = ℕ} b 1 0) (sym e ∙ t) in
    omega (arith, sum_by-cons (λ y. cond (p y) 1 0) k (members_from (suc k) s), f)
some_of p k (false ∷ s) zero m t = absurd (false≢true m)
some_of p k (true ∷ s) (suc i) m t =
    let e : p (suc k + i) ≡ p (k + suc i) = ap p (omega arith) in
    omega (arith, sum_by-cons (λ y. cond (p y) 1 0) k (members_from (suc k) s), some_of p (suc k) s i m (e ∙ t))
some_of p k (false ∷ s) (suc i) m t = let e : p (suc k + i) ≡ p (k + suc i) = ap p (omega arith) in
    some_of p (suc k) s i m (e ∙ t)

same_test : (b : Bool) (n : ℕ) → (b ≡ true → n ≡ 0) → (n ≡ 0 → b ≡ true) → b ≡ nat_eq n 0
same_test true n f g = let e : n ≡ 0 = f refl in grind (arith, nat_tests, e)
same_test false zero f g = absurd (false≢true (g refl))
same_test false (suc n) f g = grind (arith, nat_tests)

-- a row has nothing in common with s where none of the members of s passes the test of the row
pub none_common : (p : ℕ → Bool) (row s : List Bool) (b : Bool) → ((i : ℕ) → In row i → p i ≡ true)
    → ((i : ℕ) → p i ≡ true → In row i) → (IsTrue b ↔ IsEmpty (meet row s)) → b ≡ nat_eq (count_by p (members_of s)) 0
none_common p row s b f g h = same_test b (count_by p (members_of s))
    (λ t. none_of p s (members_of s) (all_in s) (λ i m. elim (cases_Bool (p i)) [
      | inl y ↦ absurd (h.0 t i (In-meet row s i (g i y) m))
      | inr n ↦ n
    ]))
    (λ z. h.1 (λ i m.
    let q : In row i × In s i = In-meet_parts row s i m in
    let e : p (0 + i) ≡ p i = ap p (omega arith) in
    let l : 0 < count_by p (members_of s) = some_of p 0 s i q.1 (e ∙ f i q.0) in
    omega (arith, l, z)))

-- the next member is counted where it passes
pub count_turn : (p : ℕ → Bool) (left more : List ℕ) (i so_far all : ℕ) → left ≡ i ∷ more
    → so_far + count_by p left ≡ all → (so_far + cond (p i) 1 0) + count_by p more ≡ all
count_turn p left more i so_far all e h =
    let f : count_by p left ≡ count_by p (i ∷ more) = ap (count_by p) e in
    omega (arith, f, h, sum_by-cons (λ y. cond (p y) 1 0) i more)

pub count_start : (p : ℕ → Bool) (left : List ℕ) (s : List Bool) → left ≡ members_of s
    → 0 + count_by p left ≡ count_by p (members_of s)
count_start p left s e = let f : count_by p left ≡ count_by p (members_of s) = ap (count_by p) e in omega (arith, f)

pub count_end : (p : ℕ → Bool) (left : List ℕ) (so_far all : ℕ) → left ≡ [] → so_far + count_by p left ≡ all
    → so_far ≡ all
count_end p left so_far all e h = let f : count_by p left ≡ 0 = ap (count_by p) e in omega (arith, f, h)

-- no more are counted than a set has room for
pub count_few : (p : ℕ → Bool) (s : List Bool) → length s ≡ 1024 → count_by p (members_of s) ≤ 1024
count_few p s l = omega (arith, l, count_by-le-length p (members_of s), count_listed 0 s, count_by-le-length (λ t. t) s)

-- the mode of each kind of line
pub both_mode : (kind : LineKind) (line : Line) (s : List Bool) → kind ≡ U → mode.Both ≡ mode_of kind line s
unfolding mode_of
both_mode kind line s e = sym (ap (λ k. mode_of k line s) e)

pub fore_mode : (kind : LineKind) (line : Line) (s : List Bool) (a b : ℕ) → kind ≡ Straight
    → a ≡ count_by (is_source line s) (members_of s) → b ≡ count_by (is_sink line s) (members_of s) → a ≤ b
    → mode.Fore ≡ mode_of kind line s
unfolding mode_of sources sinks
fore_mode kind line s a b e f g h =
    let l : count_by (is_source line s) (members_of s) ≤ count_by (is_sink line s) (members_of s) =
    omega (arith, f, g, h) in
    let t : nat_le (count_by (is_source line s) (members_of s)) (count_by (is_sink line s) (members_of s)) ≡ true =
    grind (arith, nat_tests, l) in
    sym (ap (λ k. mode_of k line s) e ∙ ap (λ z. cond z mode.Fore mode.Back) t)

pub back_mode : (kind : LineKind) (line : Line) (s : List Bool) (a b : ℕ) → kind ≡ Straight
    → a ≡ count_by (is_source line s) (members_of s) → b ≡ count_by (is_sink line s) (members_of s) → b < a
    → mode.Back ≡ mode_of kind line s
unfolding mode_of sources sinks
back_mode kind line s a b e f g h =
    let l : count_by (is_sink line s) (members_of s) < count_by (is_source line s) (members_of s) =
    omega (arith, f, g, h) in
    let t : nat_le (count_by (is_source line s) (members_of s)) (count_by (is_sink line s) (members_of s)) ≡ false =
    grind (arith, nat_tests, l) in
    sym (ap (λ k. mode_of k line s) e ∙ ap (λ z. cond z mode.Fore mode.Back) t)
