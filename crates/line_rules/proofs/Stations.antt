-- The times at each station, a task at a time.
use Rattle.std.proofs.Common.{◌≡◌, ◌≢◌, ℕ, ◌+◌, ◌*◌, ◌<◌, ◌≤◌, Bool, true, false, cond, ◌&&◌, nat_eq, List, length}
use Rattle.std.proofs.Common.{get_or, set, take, replicate, Some, sym, ap, ◌∙◌, subst, inl, inr, arith, add-one}
use Rattle.std.specs.List.{slice_get}
use Rattle.std.proofs.lemmas.Bool.{cases_eq, cases_lt, cases_Bool, and_from, and_parts}
use Rattle.std.proofs.lemmas.Bool.Decides.{nat_tests}
use Rattle.std.proofs.lemmas.List.{get_or-set_same, get_or-set_other, get_or-replicate, get_or_past, length-replicate}
use Rattle.std.proofs.lemmas.List.{length-set}
use Rattle.line_instance.specs.Line.{Line, has, tasks, time}
use Rattle.line_instance.specs.Sums.{sum_where}
use Rattle.line_instance.proofs.Sums.{weigh-take}
use Rattle.line_rules.specs.Balance.{all_tasks, seat}
use Rattle.line_rules.specs.declared.types.Seatplace.{Seatplace}
use Rattle.line_rules.proofs.All.{In-all}
use Rattle.line_rules.proofs.ReadPlaces.{seat_read}

pub none_at : (n s : ℕ) → ◌≡◌ {A = ℕ} (get_or (replicate n 0) s 0) 0
none_at n s = elim (cases_lt s n) [
  | inl l ↦ get_or-replicate n s 0 0 l
  | inr g ↦ get_or_past (replicate n 0) s 0 (omega (arith, length-replicate {A = ℕ} n 0))
]

-- whether a task stands at a station
abbrev pub at_station : Line → List Seatplace → ℕ → ℕ → Bool
at_station line ps s i = has (all_tasks line) i && nat_eq (seat ps i).station s

-- of the tasks below k, the times at each station below n, each time at most m
pub record AreSummed (line : Line) (ps : List Seatplace) (times : List ℕ) (n m k : ℕ) : Type 0 where
  pub long : length times ≡ n
  pub summed : (s : ℕ) → s < n → get_or times s 0 ≡ sum_where (at_station line ps s) (take k line.times)
  pub limit : (s : ℕ) → get_or times s 0 ≤ m * k

module _ (line : Line) (ps : List Seatplace) (times : List ℕ) (n m k station t : ℕ) (p : Seatplace)
    (small : tasks line ≤ 1024) (within : k < tasks line)
    (there : slice_get ps k ≡ Some p) (at : station ≡ p.station) (known : t ≡ time line k) (most : t ≤ m)
    (few : (seat ps k).station < n) (h : AreSummed line ps times n m k) where
  station_is : station ≡ (seat ps k).station
  station_is = at ∙ ap (λ q. q.station) (seat_read ps k p there)

  inside : station < n
  inside = omega (arith, station_is, few)

  more : (s : ℕ) → sum_where (at_station line ps s) (take (k + 1) line.times)
      ≡ sum_where (at_station line ps s) (take k line.times) + cond (at_station line ps s k) (time line k) 0
  more s = rw add-one (weigh-take (λ w. w) (at_station line ps s) k line.times within)

  here : at_station line ps station k ≡ true
  here = and_from (has (all_tasks line) k) (nat_eq (seat ps k).station station) (In-all line k small within)
      (grind (arith, nat_tests, station_is))

  elsewhere : (s : ℕ) → s ≢ station → at_station line ps s k ≡ false
  elsewhere s d = elim (cases_Bool (at_station line ps s k)) [
    | inl e ↦ absurd (d (grind (
      arith,
      nat_tests,
      station_is,
      (and_parts (has (all_tasks line) k) (nat_eq (seat ps k).station s) e).1,
    )))
    | inr e ↦ e
  ]

  abbrev pub now : List ℕ
  now = set times station (get_or times station 0 + t)

  pub summed_more : AreSummed line ps now n m (k + 1)
  summed_more = record {
    long = length-set times station (get_or times station 0 + t) ∙ h.long;
    summed = λ s l. elim (cases_eq s station) [
      | inl e ↦
          let q : cond (at_station line ps station k) (time line k) 0 ≡ time line k =
          ap (λ b. cond b (time line k) 0) here in
          let P : ℕ → Type 0 = λ x. get_or now x 0 ≡ sum_where (at_station line ps x) (take (k + 1) line.times) in
          subst P (sym e) (get_or-set_same times station (get_or times station 0 + t) 0 (omega (arith, h.long, inside))
          ∙ omega (arith, h.summed station inside, more station, q, known))
      | inr d ↦
          let q : cond (at_station line ps s k) (time line k) 0 ≡ 0 =
          ap {B = ℕ} (λ b. cond b (time line k) 0) (elsewhere s d) in
          get_or-set_other times station s (get_or times station 0 + t) 0 d ∙ omega (arith, h.summed s l, more s, q)
    ];
    limit = λ s. elim (cases_eq s station) [
      | inl e ↦
          let P : ℕ → Type 0 = λ x. get_or now x 0 ≤ m * (k + 1) in
          subst P (sym e) (omega (
            arith,
            get_or-set_same times station (get_or times station 0 + t) 0
                (omega (arith, h.long, inside)),
            h.limit station,
            most,
          ))
      | inr d ↦ omega (arith, get_or-set_other times station s (get_or times station 0 + t) 0 d, h.limit s)
    ];
  }
