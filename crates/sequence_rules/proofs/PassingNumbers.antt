-- Numbers that pass a test, with one number more; items of lists; steps that need a cite.
use Rattle.std.proofs.Common.{◌≡◌, ℕ, zero, suc, ◌+◌, ◌-◌, ◌<◌, ◌≤◌, Bool, true, false, cond, ◌&&◌, nat_lt, List, []}
use Rattle.std.proofs.Common.{◌∷◌, ◌++◌, length, get_or, refl, sym, ap, ◌∙◌, inl, inr, add-one, arith}
use Rattle.std.proofs.Common.{length-append}
use Rattle.std.proofs.lemmas.Bool.{lt-ltb, cases_lt}
use Rattle.sequence_values.specs.declared.types.Times.{Times}
use Rattle.sequence_rules.specs.States.{step_cost, next_starts, less_one, state_bound}
use Rattle.sequence_rules.specs.Entries.{is_left, needs_cite, passing, models_left}

-- the numbers that pass, with one number more
pub passing_no : (test : ℕ → Bool) (n : ℕ) → test n ≡ false → passing test (n + 1) ≡ passing test n
passing_no test n e = ap (λ k. passing test k) (add-one n) ∙ ap (λ b. passing test n ++ cond b (n ∷ []) []) e
    ∙ nothing (passing test n)
  where
    nothing : (xs : List ℕ) → xs ++ [] ≡ xs
    nothing [] = refl
    nothing (x ∷ xs) = ap (λ ys. x ∷ ys) (nothing xs)

pub passing_yes : (test : ℕ → Bool) (n : ℕ) → test n ≡ true → passing test (n + 1) ≡ passing test n ++ n ∷ []
passing_yes test n e = ap (λ k. passing test k) (add-one n) ∙ ap (λ b. passing test n ++ cond b (n ∷ []) []) e

pub count_no : (test : ℕ → Bool) (n : ℕ) → test n ≡ false → length (passing test (n + 1)) ≡ length (passing test n)
count_no test n e = ap (λ (xs : List ℕ). length xs) (passing_no test n e)

pub count_yes : (test : ℕ → Bool) (n : ℕ) → test n ≡ true → length (passing test (n + 1)) ≡ length (passing test n) + 1
count_yes test n e = ap (λ (xs : List ℕ). length xs) (passing_yes test n e) ∙ length-append (passing test n) (n ∷ [])

-- the steps that are walked, with a model more of which a unit is left
pub left_more : (rem : List ℕ) (m : ℕ) → 0 < get_or rem m 0 → models_left rem (suc m) ≡ models_left rem m + 1
left_more rem m l = ap (λ k. models_left rem k) (sym (add-one m))
    ∙ count_yes (is_left rem) m (lt-ltb 0 (get_or rem m 0) l)

-- whether a unit of a model is left
pub none_left : (rem : List ℕ) (m : ℕ) → get_or rem m 0 ≡ 0 → is_left rem m ≡ false
none_left rem m e = ap (λ n. nat_lt 0 n) e

pub some_left : (rem : List ℕ) (m : ℕ) → 0 < get_or rem m 0 → is_left rem m ≡ true
some_left rem m l = lt-ltb 0 (get_or rem m 0) l

-- a model of which no unit is left needs no cite
pub left_needs : (t : Times) (interval reach : ℕ) (rem starts : List ℕ) (need m : ℕ) → is_left rem m ≡ false
    → needs_cite t interval reach rem starts need m ≡ false
left_needs t interval reach rem starts need m e =
    ap (λ b. b && (nat_lt (step_cost t reach m starts) need
    && nat_lt (state_bound t interval reach (less_one rem m) (next_starts t interval reach m starts))
    (need - step_cost t reach m starts))) e

-- no number more passes where none between does
pub passing_same : (test : ℕ → Bool) (a b : ℕ) → a ≤ b → ((m : ℕ) → a ≤ m → m < b → test m ≡ false)
    → passing test b ≡ passing test a
passing_same test a zero l h = let none : zero ≡ a = omega (arith, l) in ap (λ k. passing test k) none
passing_same test a (suc b) l h = elim (cases_lt b a) [
  | inl above ↦ let is : suc b ≡ a = omega (arith, l, above) in ap (λ k. passing test k) is
  | inr below ↦ ap (λ k. passing test k) (sym (add-one b)) ∙ passing_no test b (h b below (omega arith))
      ∙ passing_same test a b below (λ m g u. h m g (omega (arith, u)))
]
