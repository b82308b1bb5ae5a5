-- The test of a balance has one first fault.
use Rattle.std.proofs.Common.{◌≡◌, ℕ, ◌<◌, ◌≤◌, ◌⊎◌, refl, sym, ap, ◌∙◌, subst, inl, inr, arith}
use Rattle.std.proofs.lemmas.Bool.{cases_order}
use Rattle.line_instance.specs.Truths.{In}
use Rattle.line_instance.specs.Line.{Line}
use Rattle.line_rules.specs.Accepted.{upper_cycle, upper_stations}
use Rattle.line_rules.specs.Balance.{IsSide, all_tasks, seat, time_at}
use Rattle.line_rules.specs.Checked.{IsLeastWhere, IsLeastPair, HasStations, HasSides, HasRoom, KeepsAll, Breaks, Meets}
use Rattle.line_rules.specs.declared.types.LineKind.{LineKind}
use Rattle.line_rules.specs.declared.types.Balance.{Balance as Assignment}
use Rattle.line_rules.specs.declared.types.Ask.{Ask}
use Rattle.line_check.specs.Certificates.{BalanceFails}
use Rattle.line_check.specs.declared.types.Place.{Place}
use Rattle.line_check.specs.declared.types.Place.TheVariants as place
use Rattle.line_check.proofs.OneWalk.{same_end}

-- there is one least number, and one least pair
pub one_least : (P : ℕ → Type 0) (i j : ℕ) → IsLeastWhere P i → IsLeastWhere P j → i ≡ j
one_least P i j p q = elim (cases_order i j) [
  | inl s ↦ s
  | inr d ↦ elim d [ inl less ↦ absurd (q.least i less p.passes) | inr more ↦ absurd (p.least j more q.passes) ]
]

one_second : (P : ℕ → ℕ → Type 0) (i j l : ℕ) → IsLeastPair P i j → IsLeastPair P i l → j ≡ l
one_second P i j l p q = elim (cases_order j l) [
  | inl s ↦ s
  | inr d ↦ elim d [ inl less ↦ absurd (q.second j less p.passes) | inr more ↦ absurd (p.second l more q.passes) ]
]

one_pair : (P : ℕ → ℕ → Type 0) (i j k l : ℕ) → IsLeastPair P i j → IsLeastPair P k l → (i ≡ k) × (j ≡ l)
one_pair P i j k l p q = elim (cases_order i k) [
  | inl s ↦ (let A : ℕ → Type 0 = λ z. IsLeastPair P z j in (s, one_second P k j l (subst A s p) q))
  | inr d ↦ elim d [ inl less ↦ absurd (q.first i j less p.passes) | inr more ↦ absurd (p.first k l more q.passes) ]
]

module _ (kind : LineKind) (line : Line) (a : Ask) (upper : ℕ) (b : Assignment) where
  -- a task is without a station, or at a side that the line hasn't
  Off : ℕ → Type 0
  Off j = In (all_tasks line) j × ((1 ≤ (seat b.place j).station) × ((seat b.place j).station ≤ b.stations) → ⊥)

  Aside : ℕ → Type 0
  Aside j = In (all_tasks line) j × (IsSide kind (seat b.place j).side → ⊥)

  Full : ℕ → Type 0
  Full s = upper_cycle a upper < time_at line (all_tasks line) (seat b.place) s

  Shown : Type 0
  Shown = b.stations ≡ upper_stations a upper

  -- the tests of a balance in order, up to the first that fails
  Tests : Place → Type 0
  Tests p =
      ((Shown → ⊥) × (p ≡ place.Stations b.stations))
      ⊎ (Shown
      × (((HasStations line b → ⊥) × ((i : ℕ) × ((p ≡ place.Station i) × IsLeastWhere Off i)))
      ⊎ (HasStations line b
      × (((HasSides kind line b → ⊥) × ((i : ℕ) × ((p ≡ place.Side i) × IsLeastWhere Aside i)))
      ⊎ (HasSides kind line b
      × (((HasRoom line (upper_cycle a upper) b → ⊥) × ((s : ℕ)
      × ((p ≡ place.Overfull s (time_at line (all_tasks line) (seat b.place) s)) × IsLeastWhere Full s)))
      ⊎ (HasRoom line (upper_cycle a upper) b
      × (((KeepsAll kind line b → ⊥) × ((i : ℕ) × (j : ℕ) × ((p ≡ place.Broken i j)
      × IsLeastPair (Breaks kind line b) i j)))
      ⊎ (KeepsAll kind line b × ((i : ℕ) × (j : ℕ) × ((p ≡ place.Together i j)
      × IsLeastPair (Meets line b) i j)))))))))))

  tests_of : (p : Place) → BalanceFails kind line a upper b p → Tests p
  unfolding Tests Shown Off Aside Full
  tests_of (place.Tasks said real) h = absurd h
  tests_of (place.Infeasible task t) h = absurd h
  tests_of (place.Earlier task least) h = absurd h
  tests_of (place.Stations s) h = inl (h.1, ap (λ (n : ℕ). place.Stations n) h.0)
  tests_of (place.Station i) h = inr (h.0, inl (λ all. h.1.1.passes.1 (all i h.1.1.passes.0), (i, (refl, h.1.1))))
  tests_of (place.Side i) h = inr (
    h.0,
    inr (
      h.1.1,
      inl (
        λ all. h.1.2.passes.1 (all i h.1.2.passes.0),
        (i, (refl, h.1.2)),
      ),
    ),
  )
  tests_of (place.Overfull s t) h =
      inr (
        h.0,
        inr (
          h.1.1,
          inr (
            h.1.2,
            inl (
              λ room. omega (arith, room s, h.1.4.passes),
              (s, (ap (λ (n : ℕ). place.Overfull s n) h.1.3, h.1.4)),
            ),
          ),
        ),
      )
  tests_of (place.Broken i j) h =
      let x : Breaks kind line b i j = h.1.4.passes in
      inr (
        h.0,
        inr (
          h.1.1,
          inr (
            h.1.2,
            inr (
              h.1.3,
              inl (
                λ keeps. x.broken (keeps i j x.first x.second x.before),
                (i, j, (refl, h.1.4)),
              ),
            ),
          ),
        ),
      )
  tests_of (place.Together i j) h = inr (h.0, inr (h.1.1, inr (h.1.2, inr (h.1.3, inr (h.1.4, (i, j, (refl, h.1.5)))))))
  tests_of (place.Entry entry why) h = absurd h
  tests_of place.Goal h = absurd h
  tests_of (place.Frame frame why) h = absurd h

  at_one : (P : ℕ → Type 0) (at : ℕ → Place) (p q : Place) → ((i : ℕ) × ((p ≡ at i) × IsLeastWhere P i))
      → ((i : ℕ) × ((q ≡ at i) × IsLeastWhere P i)) → p ≡ q
  at_one P at p q x y = x.1.0 ∙ (ap at (one_least P x.0 y.0 x.1.1 y.1.1) ∙ sym y.1.0)

  at_pair : (P : ℕ → ℕ → Type 0) (at : ℕ → ℕ → Place) (p q : Place)
      → ((i : ℕ) × (j : ℕ) × ((p ≡ at i j) × IsLeastPair P i j))
      → ((i : ℕ) × (j : ℕ) × ((q ≡ at i j) × IsLeastPair P i j)) → p ≡ q
  at_pair P at p q x y =
      let e : (x.0 ≡ y.0) × (x.1 ≡ y.1) = one_pair P x.0 x.1 y.0 y.1 x.2.1 y.2.1 in
      x.2.0 ∙ (ap (λ (i : ℕ). at i x.1) e.0 ∙ (ap (λ (j : ℕ). at y.0 j) e.1 ∙ sym y.2.0))

  tests_one : (p q : Place) → Tests p → Tests q → p ≡ q
  unfolding Tests
  tests_one p q x y = same_end x y (λ u v. u ∙ sym v) (λ x1 y1.
      same_end x1 y1 (at_one Off (λ i. place.Station i) p q) (λ x2 y2.
      same_end x2 y2 (at_one Aside (λ i. place.Side i) p q) (λ x3 y3.
      same_end x3 y3 (at_one Full (λ s. place.Overfull s (time_at line (all_tasks line) (seat b.place) s)) p q)
      (λ x4 y4.
      same_end x4 y4 (at_pair (Breaks kind line b) (λ i j. place.Broken i j) p q)
      (at_pair (Meets line b) (λ i j. place.Together i j) p q)))))

  -- a balance has one fault
  pub balance_one : (p q : Place) → BalanceFails kind line a upper b p → BalanceFails kind line a upper b q → p ≡ q
  balance_one p q x y = tests_one p q (tests_of p x) (tests_of q y)
