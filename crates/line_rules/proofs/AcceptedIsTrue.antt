-- What an accepted certificate proves.
use Rattle.std.proofs.Common.{◌≡◌, ℕ, ◌-◌, ◌<◌, ◌≤◌, Bool, ◌&&◌, nat_eq, List, refl, sym, subst, Option, inl, inr}
use Rattle.std.proofs.Common.{arith}
use Rattle.std.proofs.lemmas.Bool.{cases_lt, and_from, eq-eqb}
use Rattle.line_instance.specs.Truths.{In}
use Rattle.line_instance.specs.Line.{Line, IsLine, has}
use Rattle.line_instance.proofs.Sums.{weigh-one}
use Rattle.line_rules.specs.Balance.{IsBalance, Holds, all_tasks, seat}
use Rattle.line_rules.specs.Bounds.{IsTooLong}
use Rattle.line_rules.specs.Entries.{IsDerived, Answers, HasAnswer}
use Rattle.line_rules.specs.Accepted.{IsProof, ClaimIsAccepted, IsAccepted, IsLeastStations, IsLeastCycle}
use Rattle.line_rules.specs.Accepted.{ClaimIsInfeasible, IsInfeasible}
use Rattle.line_rules.specs.Laws.{IsProved, AcceptedOptimumIsLeast, NoBalanceIsLeft}
use Rattle.line_rules.specs.declared.types.LineKind.{LineKind}
use Rattle.line_rules.specs.declared.types.Balance.{Balance as Assignment}
use Rattle.line_rules.specs.declared.types.Entry.{Entry}
use Rattle.line_rules.specs.declared.types.Trail.{Trail}
use Rattle.line_rules.specs.declared.types.Ask.{Ask}
use Rattle.line_rules.specs.declared.types.Ask.TheVariants as ask
use Rattle.line_rules.specs.declared.types.Claim.{Claim}
use Rattle.line_rules.specs.declared.types.Claim.TheVariants as claim
use Rattle.line_rules.specs.declared.types.Certificate.{Certificate}
use Rattle.line_rules.proofs.All.{In-all}
use Rattle.line_rules.proofs.SubBalance.{holds_more}
use Rattle.line_rules.proofs.LemmasHold.{sound}

-- what an entry of a derived list answers has no balance
pub answer_holds : (kind : LineKind) (line : Line) → IsLine line → (es : List Entry) → IsDerived kind line es
    → (set : List Bool) (most cycle : ℕ) → HasAnswer es set most cycle → Holds kind line cycle set most
answer_holds kind line ok es d set most cycle h =
    let e : Entry = h.1 in
    let a : Answers e set most cycle = h.2.1 in
    let P : List Bool → Type 0 = λ s. Holds kind line e.cycle s e.most in
    holds_more kind line cycle e.cycle set set most e.most a.long a.stations (λ i m. m)
    (subst P a.same (sound kind line ok es d h.0 e h.2.0))

-- no balance of all tasks has no station
none_in_none : (kind : LineKind) (line : Line) (c r : ℕ) → IsLine line → r < 1 → Holds kind line c (all_tasks line) r
none_in_none kind line c r ok few place b =
    let m : In (all_tasks line) 0 = In-all line 0 ok.small ok.some in
    omega (arith, few, b.first 0 m, b.last 0 m)

proved : (kind : LineKind) (line : Line) → IsLine line → (a : Ask) (l u : ℕ) (b : Assignment) (es : List Entry)
    (trail : Option Trail)
    → IsProof kind line a l u b es trail → IsProved kind line a l u
proved kind line ok (ask.Stations cycle) l u b es trail p =
    let P : ℕ → Type 0 = λ s. IsBalance kind line cycle (all_tasks line) s (seat b.place) in (
      (seat b.place, subst P p.stations p.balance.balance),
      λ r less. elim (cases_lt 1 l) [
        | inl more ↦
            holds_more kind line cycle cycle (all_tasks line) (all_tasks line) r (l - 1) (omega arith)
            (omega (arith, less)) (λ i m. m)
            (answer_holds kind line ok es p.derived (all_tasks line) (l - 1) cycle (p.goal more))
        | inr few ↦ none_in_none kind line cycle r ok (omega (arith, less, few))
      ],
    )
proved kind line ok (ask.Cycle stations) l u b es trail p =
    let P : ℕ → Type 0 = λ s. IsBalance kind line u (all_tasks line) s (seat b.place) in (
      (seat b.place, subst P p.stations p.balance.balance),
      λ c one less.
          let more : 1 < l = omega (arith, one, less) in
          holds_more kind line c (l - 1) (all_tasks line) (all_tasks line) stations stations (omega (arith, less))
          (omega arith) (λ i m. m)
          (answer_holds kind line ok es p.derived (all_tasks line) stations (l - 1) (p.goal more)),
    )

claim_true : (kind : LineKind) (line : Line) → IsLine line → (a : Ask) (k : Claim) (lower upper units : ℕ)
    → ClaimIsAccepted kind line a k lower upper units → IsProved kind line a lower upper
claim_true kind line ok a (claim.TooLong task) lower upper units p = absurd p
claim_true kind line ok a (claim.Bounds l u b es trail) lower upper units p =
    let P : ℕ → Type 0 = λ x. IsProved kind line a x upper in
    let Q : ℕ → Type 0 = λ x. IsProved kind line a l x in
    subst P (sym p.0) (subst Q (sym p.1) (proved kind line ok a l u b es trail p.2))

pub accepted_true : (line : Line) (cert : Certificate) (lower upper units : ℕ) → IsLine line
    → IsAccepted line cert lower upper units → IsProved cert.kind line cert.ask lower upper
accepted_true line cert lower upper units ok p = claim_true cert.kind line ok cert.ask cert.claim lower upper units
    p.claim

-- a task longer than the cycle fits no station
too_long : (kind : LineKind) (line : Line) (c i : ℕ) → IsLine line → IsTooLong line c i → (r : ℕ)
    → Holds kind line c (all_tasks line) r
too_long kind line c i ok long r place b =
    let s : ℕ = (place i).station in
    let m : In (all_tasks line) i = In-all line i ok.small long.0 in
    omega (
      arith,
      long.1,
      b.fits s,
      weigh-one (λ t. t) (λ j. has (all_tasks line) j && nat_eq (place j).station s) i line.times long.0
          (and_from (has (all_tasks line) i) (nat_eq (place i).station s) m (eq-eqb (place i).station s refl)),
    )

claim_left : (kind : LineKind) (line : Line) → IsLine line → (a : Ask) (k : Claim) (i : ℕ)
    → ClaimIsInfeasible line a k i → NoBalanceIsLeft a kind line
claim_left kind line ok (ask.Stations cycle) (claim.TooLong task) i p =
    λ r. too_long kind line cycle task ok p.1.passes r
claim_left kind line ok (ask.Stations cycle) (claim.Bounds l u b es trail) i p = absurd p
claim_left kind line ok (ask.Cycle stations) (claim.TooLong task) i p = p.1
claim_left kind line ok (ask.Cycle stations) (claim.Bounds l u b es trail) i p = p

pub infeasible_true : (line : Line) (cert : Certificate) (i : ℕ) → IsLine line → IsInfeasible line cert i
    → NoBalanceIsLeft cert.ask cert.kind line
infeasible_true line cert i ok p = claim_left cert.kind line ok cert.ask cert.claim i p.claim

least_stations : (kind : LineKind) (line : Line) (cycle best : ℕ) (a : Ask) → a ≡ ask.Stations cycle
    → IsProved kind line a best best → IsLeastStations kind line cycle best
least_stations kind line cycle best a e p =
    let P : Ask → Type 0 = λ x. IsProved kind line x best best in
    let q : IsProved kind line (ask.Stations cycle) best best = subst P e p in
    record { reached = q.0; least = q.1 }

least_cycle : (kind : LineKind) (line : Line) (stations best : ℕ) (a : Ask) → 1 ≤ best → a ≡ ask.Cycle stations
    → IsProved kind line a best best → IsLeastCycle kind line stations best
least_cycle kind line stations best a one e p =
    let P : Ask → Type 0 = λ x. IsProved kind line x best best in
    let q : IsProved kind line (ask.Cycle stations) best best = subst P e p in
    record { some = one; reached = q.0; least = q.1 }

pub optimum_is_least : AcceptedOptimumIsLeast
optimum_is_least = record {
  stations = λ line cert cycle best units ok e p. least_stations cert.kind line cycle best cert.ask e
      (accepted_true line cert best best units ok p);
  cycle = λ line cert stations best units ok one e p. least_cycle cert.kind line stations best cert.ask one e
      (accepted_true line cert best best units ok p);
}
