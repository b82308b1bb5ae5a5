-- One task more, and one model more.
use Rattle.std.proofs.Common.{◌≡◌, ◌≤◌, ◌<◌, ◌+◌, ℕ, zero, suc, List, [], ◌∷◌, length, take, map, get_or, set, cond}
use Rattle.std.proofs.Common.{nat_eq, Option, None, refl, sym, ◌∙◌, ap, subst, arith, add-one, inl, inr}
use Rattle.std.specs.Prelude.{unwrap_or, All}
use Rattle.utility_work.specs.Utility.{utility_of, next_start, utility_from}
use Rattle.std.proofs.lemmas.Bool.{cases_eq}
use Rattle.std.proofs.lemmas.List.{get_or-set_same, get_or-set_other}
use Rattle.line_instance.specs.Sums.{sum_where}
use Rattle.line_instance.proofs.Sums.{weigh-take}
use Rattle.line_rules.specs.Balance.{seat}
use Rattle.line_rules.specs.declared.types.Seatplace.{Seatplace}

-- the time of a task in the list of times
pub time_is : (times : List (Option ℕ)) (k : ℕ) → get_or (map (λ t. unwrap_or t 0) times) k 0
    ≡ unwrap_or (get_or times k None) 0
time_is [] zero = refl
time_is [] (suc k) = refl
time_is (t ∷ ts) zero = refl
time_is (t ∷ ts) (suc k) = time_is ts k

pub as_many : (times : List (Option ℕ)) → length (map (λ t. unwrap_or t 0) times) ≡ length times
as_many [] = refl
as_many (t ∷ ts) = ap suc (as_many ts)

-- the times at a station of one task more
one_task : (places : List Seatplace) (times : List (Option ℕ)) (station k : ℕ) → k < length times
    → sum_where (λ t. nat_eq (seat places t).station station) (take (k + 1) (map (λ t. unwrap_or t 0) times))
    ≡ sum_where (λ t. nat_eq (seat places t).station station) (take k (map (λ t. unwrap_or t 0) times))
    + cond (nat_eq (seat places k).station station) (unwrap_or (get_or times k None) 0) 0
one_task places times station k h =
    let all : List ℕ = map (λ t. unwrap_or t 0) times in
    let within : k < length all = omega (arith, h, as_many times) in
    ap (λ n. sum_where (λ t. nat_eq (seat places t).station station) (take n all)) (add-one k)
    ∙ weigh-take (λ w. w) (λ t. nat_eq (seat places t).station station) k all within
    ∙ ap (λ x. sum_where (λ t. nat_eq (seat places t).station station) (take k all) + cond
    (nat_eq (seat places k).station station) x 0) (time_is times k)

pub task_added : (places : List Seatplace) (times : List (Option ℕ)) (station k work time : ℕ) → k < length times
    → work ≡ sum_where (λ t. nat_eq (seat places t).station station) (take k (map (λ t. unwrap_or t 0) times))
    → time ≡ cond (nat_eq (seat places k).station station) (unwrap_or (get_or times k None) 0) 0
    → work + time ≡ sum_where (λ t. nat_eq (seat places t).station station)
    (take (k + 1) (map (λ t. unwrap_or t 0) times))
task_added places times station k work time h so_far this =
    omega (arith, one_task places times station k h, so_far, this)

-- the value at a place, where those before it are there
pub one_value : (f : ℕ → ℕ) (xs : List ℕ) (k v : ℕ) → k < length xs → v ≡ f k → ((m : ℕ) → m < k → get_or xs m 0 ≡ f m)
    → (m : ℕ) → m < k + 1 → get_or (set xs k v) m 0 ≡ f m
one_value f xs k v h is before m less = elim (cases_eq m k) [
  | inl e ↦ let P : ℕ → Type 0 = λ m. get_or (set xs k v) m 0 ≡ f m in subst P (sym e) (get_or-set_same xs k v 0 h ∙ is)
  | inr n ↦ get_or-set_other xs k m v 0 n ∙ before m (omega (arith, less, n))
]

-- each value is at most so much
pub values_limit : (xs : List ℕ) (k v most : ℕ) → k < length xs → v ≤ most → ((m : ℕ) → get_or xs m 0 ≤ most) → (m : ℕ)
    → get_or (set xs k v) m 0 ≤ most
values_limit xs k v most h few before m = elim (cases_eq m k) [
  | inl e ↦ let P : ℕ → Type 0 = λ m. get_or (set xs k v) m 0 ≤ most in
      subst P (sym e) (omega (arith, get_or-set_same xs k v 0 h, few))
  | inr n ↦ omega (arith, get_or-set_other xs k m v 0 n, before m)
]

-- two ways to tell the work of each model that agree on the models of the units
pub same_utility : (f g : ℕ → ℕ) (n reach interval start : ℕ) (units : List ℕ) → ((m : ℕ) → m < n → f m ≡ g m)
    → All (λ m. m < n) units
    → utility_from reach interval f start units ≡ utility_from reach interval g start units
same_utility f g n reach interval start [] same within = refl
same_utility f g n reach interval start (m ∷ units) same within =
    ap (λ w. utility_of start w reach + utility_from reach interval f (next_start start w reach interval) units)
    (same m (within zero 0 (omega arith)))
    ∙ ap (λ x. utility_of start (g m) reach + x) (same_utility f g n reach interval
    (next_start start (g m) reach interval) units same (λ k d less. within (suc k) d (omega (arith, less))))
