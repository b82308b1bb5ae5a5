-- The table with node 0 alone.
use Rattle.std.proofs.Common.{◌≡◌, ℕ, zero, suc, ◌+◌, ◌≤◌, List, [], ◌∷◌, length, get_or, replicate, refl}
use Rattle.std.proofs.Common.{sym, ap, ◌∙◌, subst, arith, sum}
use Rattle.std.specs.List.{AllZip}
use Rattle.std.proofs.lemmas.List.{length-replicate, get_or_default}
use Rattle.std.proofs.lemmas.Nat.{le-div}
use Rattle.sequence_values.specs.declared.types.Times.{Times}
use Rattle.sequence_rules.specs.States.{unit_work, next_starts, root_starts, next_start}
use Rattle.sequence_rules.specs.Ranges.{AreTimes, IsPlace, AreLight}
use Rattle.sequence_rules.proofs.SumFacts.{length-value_at_each}
use Rattle.sequence_rules.proofs.UnitCounts.{noughts}
use Rattle.sequence_table.specs.Nodes.{Nodes, starts_of, next_of}
use Rattle.sequence_table.specs.inner.Kept.{nodes_of}
use Rattle.sequence_table.specs.Tables.{IsTable, Leads, AreWithin, one_node}

-- nothing is before the beginning of each station
noughts_first : (n : ℕ) (ys : List ℕ) → length ys ≡ n → AllZip (λ a b. a ≤ b) (replicate n 0) ys
noughts_first zero [] e = tt
noughts_first zero (y ∷ ys) e = absurd (omega (arith, e))
noughts_first (suc n) [] e = absurd (omega (arith, e))
noughts_first (suc n) (y ∷ ys) e = (omega arith, noughts_first n ys (omega (arith, e)))

module _ (times : Times) (interval reach : ℕ) where
  root_within : AreWithin times reach (root_starts times)
  root_within = record {
    wide = length-replicate {A = ℕ} times.stations 0;
    begun = λ k d l. omega (
      arith,
      get_or_default (root_starts times) k d 0 l,
      noughts times.stations k,
    );
  }

  root_leads : (m : ℕ) → Leads (one_node times interval reach) 0 m (next_of (one_node times interval reach) 0 m)
  root_leads m =
      let P : ℕ → Type 0 = λ i. Leads (one_node times interval reach) 0 m i in
      subst P (sym (noughts 16 m)) (record {
        within = omega arith;
        no_later = noughts_first times.stations (next_starts times interval reach m (root_starts times))
            (length-value_at_each (λ k s. next_start s (unit_work times m k) reach interval) (root_starts times)
            ∙ length-replicate {A = ℕ} times.stations 0);
      })

  pub table_one : AreTimes times → AreLight times → IsPlace interval → IsPlace reach
      → IsTable (one_node times interval reach)
  table_one h light i r = record {
    times = h;
    light = light;
    interval = i;
    reach = r;
    root = refl;
    begun = λ x l.
        let is : 0 ≡ x = omega (arith, l) in
        let P : ℕ → Type 0 = λ k. AreWithin times reach (starts_of (one_node times interval reach) k) in
        subst P is root_within;
    apart = λ x y a b e. omega (arith, a, b);
    both = refl;
    each = λ x l.
        let is : 0 ≡ x = omega (arith, l) in
        let P : ℕ → Type 0 = λ k. length (get_or (one_node times interval reach).nexts k []) ≡ 16 in
        subst P is refl;
    leads = λ x m l n.
        let is : 0 ≡ x = omega (arith, l) in
        let one : Nodes = one_node times interval reach in
        let P : ℕ → Type 0 = λ k. Leads one k m (next_of one k m) in
        subst P is (root_leads m);
    few = le-div 1 2000000 (sum times.demands + 1) (omega arith) (omega (arith, h.units));
  }

-- the table of fields that are known by equations has node 0 alone
pub first_is : (copy times : Times) (interval reach : ℕ) (S N : List (List ℕ)) → copy ≡ times
    → S ≡ root_starts times ∷ [] → N ≡ replicate 16 0 ∷ []
    → nodes_of copy interval reach S N ≡ one_node times interval reach
first_is copy times interval reach S N e s n =
    ap (λ (t : Times). nodes_of t interval reach S N) e
    ∙ ap (λ (q : List (List ℕ)). nodes_of times interval reach q N) s
    ∙ ap (λ (q : List (List ℕ)). nodes_of times interval reach (root_starts times ∷ []) q) n
