-- The values of nodes: the least over the models, how great they are, and that every row costs at least so much.
use Rattle.std.proofs.Common.{◌≡◌, ℕ, zero, suc, ◌+◌, ◌-◌, ◌*◌, ◌<◌, ◌≤◌, List, [], ◌∷◌, length, sym, subst, min}
use Rattle.std.proofs.Common.{inl, inr, arith}
use Rattle.std.proofs.lemmas.Bool.{cases_lt}
use Rattle.sequence_rules.specs.Charges.{IsRow, AreCharges, HoldsCharged, unit_cost}
use Rattle.sequence_rules.proofs.RowFacts.{charged_steps, later_charged, unit_light}
use Rattle.sequence_table.specs.Nodes.{Nodes, starts_of, next_of}
use Rattle.sequence_table.specs.Tables.{IsTable, led_to}
use Rattle.sequence_table.specs.Values.{least_to, value_of}

-- the least is no more than any of them
pub least_le : (f : ℕ → ℕ) (n m : ℕ) → m ≤ n → least_to f n ≤ f m
least_le f zero zero l = omega arith
least_le f zero (suc m) l = absurd (omega (arith, l))
least_le f (suc n) m l = elim (cases_lt m (suc n)) [
  | inl below ↦ omega (arith, least_le f n m (omega (arith, below)))
  | inr above ↦
      let is : m ≡ suc n = omega (arith, l, above) in
      let P : ℕ → Type 0 = λ k. min (least_to f n) (f (suc n)) ≤ f k in
      subst P (sym is) (omega arith)
]

-- the least of equal values
pub least_same : (f g : ℕ → ℕ) (n : ℕ) → ((m : ℕ) → m ≤ n → f m ≡ g m) → least_to f n ≡ least_to g n
least_same f g zero h = h 0 (omega arith)
least_same f g (suc n) h = omega (
  arith,
  least_same f g n (λ m l. h m (omega (arith, l))),
  h (suc n) (omega arith),
)

-- a value is at most 740,000,000,000,000 for each unit
pub value_limit : (t : Nodes) (charges : List ℕ) → IsTable t → AreCharges t.times charges → (left x : ℕ)
    → x < length t.starts → value_of t charges left x ≤ 740000000000000 * left
value_limit t charges h a zero x l = omega arith
value_limit t charges h a (suc left) x l =
    let next : ℕ = next_of t x 0 in
    let some : 0 < length t.times.demands = omega (arith, h.times.modeled) in
    omega (
      arith,
      least_le (λ m. unit_cost t.times t.reach charges (starts_of t x) m + value_of t charges left (next_of t x m))
          (length t.times.demands - 1) 0 (omega arith),
      unit_light t.times t.reach charges (starts_of t x) 0 h.times h.light a (h.begun x l).wide
          (h.begun x l).begun,
      value_limit t charges h a left next (h.leads x 0 l some).within,
    )

-- every row from the starts of a node has a charged cost of at least its value
pub value_holds : (t : Nodes) (charges : List ℕ) → IsTable t → AreCharges t.times charges → (left x : ℕ) → x < length t.starts
    → HoldsCharged t.times t.interval t.reach charges left (starts_of t x) (value_of t charges left x)
value_holds t charges h a zero x l row r = omega arith
value_holds t charges h a (suc left) x l [] r = absurd (omega (arith, r.many))
value_holds t charges h a (suc left) x l (m ∷ row) r =
    let within : m < length t.times.demands = omega (arith, a.each, r.models 0 0 (omega arith)) in
    let rest : IsRow charges left row = record {
      many = omega (arith, r.many);
      models = λ k d g. r.models (suc k) d (omega (arith, g));
    } in
    let next : ℕ = next_of t x m in
    omega (
      arith,
      least_le (λ k. unit_cost t.times t.reach charges (starts_of t x) k + value_of t charges left (next_of t x k))
          (length t.times.demands - 1) m (omega (arith, within)),
      charged_steps t.times t.interval t.reach charges (starts_of t x) m row,
      later_charged t.times t.interval t.reach charges (starts_of t next) (led_to t x m) row
          (h.leads x m l within).no_later,
      value_holds t charges h a left next (h.leads x m l within).within row rest,
    )
