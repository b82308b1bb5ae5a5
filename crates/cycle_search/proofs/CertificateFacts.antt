-- The certificate of a search for the least cycle is within its ranges and accepted.
use Rattle.std.proofs.Common.{◌≡◌, ℕ, ◌-◌, ◌<◌, ◌≤◌, List, length, Option, Some, None, refl}
use Rattle.std.proofs.Common.{sym, ap, subst, inl, inr, arith, []}
use Rattle.std.proofs.lemmas.Bool.{cases_eq}
use Rattle.std.proofs.lemmas.Option.{slice_get_within}
use Rattle.line_instance.specs.Truths.{In, full_to}
use Rattle.line_instance.proofs.Members.{In-full_to}
use Rattle.line_instance.specs.Line.{Line, IsLine, tasks}
use Rattle.line_rules.specs.Accepted.{HasTrail, IsAccepted}
use Rattle.line_rules.specs.Balance.{all_tasks}
use Rattle.line_rules.specs.Entries.{HasAnswer, IsDerived}
use Rattle.line_rules.specs.Ranges.{IsPlaced, IsPlacing, AreEntries, IsTrailOrNone}
use Rattle.line_rules.specs.Units.{UnitsOf, UnitsWhole}
use Rattle.line_rules.specs.declared.types.LineKind.{LineKind}
use Rattle.line_rules.specs.declared.types.Seatplace.{Seatplace}
use Rattle.line_rules.specs.declared.types.Balance.{Balance as Assignment}
use Rattle.line_rules.specs.declared.types.Entry.{Entry}
use Rattle.line_rules.specs.declared.types.Trail.{Trail}
use Rattle.line_rules.specs.declared.types.Ask.TheVariants as ask
use Rattle.line_rules.specs.declared.types.Claim.TheVariants as claim
use Rattle.line_rules.specs.declared.types.Certificate.{Certificate}
use Rattle.line_rules.proofs.AcceptedIsTrue.{accepted_true}
use Rattle.line_rules.proofs.ReadPlaces.{seat_read}
use Rattle.entry_lists.specs.Trim.{IsTrimmed}
use Rattle.entry_lists.proofs.ThinnedLists.{no_longer}
use Rattle.entry_lists.proofs.TrimFacts.{thinned}
use Rattle.round_run.specs.declared.plans.Plan.{Plan}
use Rattle.round_run.specs.Certified.{max_units}
use Rattle.round_run.proofs.Sayable.{entries_ok, trail_ok, all_are_tasks}
use Rattle.cycle_search.specs.Outcomes.{IsRightIn, IsBelow, IsSolved, IsSpent}
use Rattle.cycle_search.specs.Seek.{try_room}
use Rattle.cycle_search.proofs.SeekFacts.{try_limit}
use Rattle.cycle_search.specs.CycleCertified.{about_cycle, IsCertified, IsOptimum, IsStop}

-- a right balance in at most 1,024 stations
placing_ok : (kind : LineKind) (line : Line) (m c : ℕ) (b : Assignment) → IsLine line → IsRightIn kind line m c b
    → 1 ≤ m → m ≤ 1024 → IsPlacing kind (tasks line) b
placing_ok kind line m c b ok r some few = record {
  some = omega (arith, r.stations);
  few = omega (arith, r.stations);
  each = r.right.each;
  placed = λ i p there.
      let P : Seatplace → Type 0 = IsPlaced kind b.stations in
      let here : In (all_tasks line) i =
      In-full_to (tasks line) i ok.small (omega (arith, slice_get_within b.place i p there, r.right.each)) in
      subst P (sym (seat_read b.place i p there)) (record {
        first = r.right.balance.first i here;
        last = r.right.balance.last i here;
        side = r.right.sides i here;
      });
}

module _ (kind : LineKind) (line : Line) (m lower upper : ℕ) (b : Assignment) (es : List Entry)
    (trail : Option Trail) (units : ℕ) where
  -- a certificate of bounds, from what it says
  certified : IsLine line → 1 ≤ m → m ≤ 1024 → 1 ≤ lower → lower ≤ upper → upper ≤ 204800000000000000
      → IsRightIn kind line m upper b → IsDerived kind line es → AreEntries (tasks line) es → IsBelow line m es lower
      → HasTrail kind line (ask.Cycle m) lower upper es trail → IsTrailOrNone (tasks line) (length es) trail
      → UnitsWhole line es trail units → units ≤ max_units
      → IsCertified kind line m lower upper b es trail units
      (about_cycle kind line m (claim.Bounds lower upper b es trail))
  certified ok one many some below long right derived sayable goal valid said whole limit =
      let cert : Certificate = about_cycle kind line m (claim.Bounds lower upper b es trail) in
      let accepted : IsAccepted line cert lower upper units = record {
        tasks = refl;
        claim = (
          refl,
          refl,
          record {
            balance = right.right;
            stations = right.stations;
            derived = derived;
            goal = goal;
            trail = valid;
          },
          whole,
        );
      } in
      record {
        said = refl;
        sayable = record {
          some = ok.some;
          few = ok.small;
          ask = (one, many);
          claim = record {
            from = record { some = some; limit = omega (arith, below, long) };
            up_to = record { some = omega (arith, some, below); limit = omega (arith, long) };
            balance = placing_ok kind line m upper b ok right one many;
            entries = sayable;
            trail = said;
          };
        };
        right = right;
        accepted = accepted;
        few = limit;
        true_bounds = accepted_true line cert lower upper units ok accepted;
      }

-- the entry that shows the least cycle
pub shown_goal : (kind : LineKind) (line : Line) (m : ℕ) (plan : Plan) (c : ℕ) (b : Assignment) (es : List Entry)
    (n : ℕ) → n ≡ tasks line → IsSolved kind line m plan c b es → 1 < c → HasAnswer es (full_to n) m (c - 1)
shown_goal kind line m plan c b es n e s more =
    let P : ℕ → Type 0 = λ z. HasAnswer es (full_to z) m (c - 1) in
    subst P (sym e) (s.proof.goal more)

-- a proof that is made of entries has no more of them
no_more : (line : Line) (m c : ℕ) (es new : List Entry) → 1 ≤ c → (c ≡ 1 → new ≡ [])
    → (1 < c → IsTrimmed es (all_tasks line) m (c - 1) new) → length new ≤ length es
no_more line m c es new some one more = elim (cases_eq c 1) [
  | inl e ↦ omega (arith, ap (λ (z : List Entry). length z) (one e))
  | inr n ↦
      let t : IsTrimmed es (all_tasks line) m (c - 1) new = more (omega (arith, some, n)) in
      no_longer t.numbers es new (thinned es t.numbers new t.kept.ascending t.entries)
]

-- the certificate of the least cycle, with a proof that is made of the entries
pub optimum : (kind : LineKind) (line : Line) (m : ℕ) (plan : Plan) (c : ℕ) (b : Assignment) (es new : List Entry)
    → IsLine line → 1 ≤ m → m ≤ 1024 → plan.units ≤ 3000000 → IsSolved kind line m plan c b es
    → (c ≡ 1 → new ≡ []) → (1 < c → IsTrimmed es (all_tasks line) m (c - 1) new)
    → ((kind : LineKind) (line : Line) → IsDerived kind line es → IsDerived kind line new)
    → (1 < c → HasAnswer new (all_tasks line) m (c - 1))
    → ((line : Line) (old : ℕ) → UnitsOf line es old → (units : ℕ) × UnitsOf line new units × (units ≤ old))
    → ((n : ℕ) → AreEntries n es → AreEntries n new)
    → IsOptimum kind line m plan c b (about_cycle kind line m (claim.Bounds c c b new None))
optimum kind line m plan c b es new ok one many limit s none trimmed derived goal units ranges =
    let u : (a : ℕ) × UnitsOf line new a × (a ≤ s.some.counted.0) = units line s.some.counted.0 s.some.counted.2.0 in
    let room : try_room plan ≤ 6000000 = try_limit plan limit in
    let few : length es ≤ 20000000 = omega (arith, s.some.many, room) in
    record {
      entries = new;
      units = u.0;
      certified = certified kind line m c c b new None u.0 ok one many s.least.some (omega arith) s.limit s.balance
          (derived kind line s.proof.derived)
          (ranges (tasks line) (entries_ok kind line es s.proof.derived s.proof.statable few)) goal tt tt
          (u.0, 0, (u.1, refl, omega arith))
          (omega (arith, u.2, s.some.counted.2.2, s.some.within, room));
      least = s.least;
      proof = (none, λ more. (es, trimmed more));
      some = record {
        many = omega (arith, no_more line m c es new s.least.some none trimmed, s.some.many);
        units = u.0;
        counted = (u.0, 0, (u.1, refl, omega arith));
        within = omega (arith, u.2, s.some.counted.2.2, s.some.within);
      };
    }

-- the certificate of a search whose units ended
pub stop : (kind : LineKind) (line : Line) (m : ℕ) (plan : Plan) (lower upper : ℕ) (b : Assignment) (es : List Entry)
    (trail : Trail) (closing_from : ℕ) → IsLine line → 1 ≤ m → m ≤ 1024 → plan.units ≤ 3000000
    → IsSpent kind line m plan lower upper b es trail closing_from
    → IsStop kind line m plan lower upper b (about_cycle kind line m (claim.Bounds lower upper b es (Some trail)))
stop kind line m plan lower upper b es trail closing_from ok one many limit s =
    let h = s.stopped in
    let room : try_room plan ≤ 6000000 = try_limit plan limit in
    let few : length es ≤ 20000000 = omega (arith, h.some.many, room) in
    record {
      entries = es;
      trail = trail;
      closing_from = closing_from;
      units = h.some.units;
      certified = certified kind line m lower upper b es (Some trail) h.some.units ok one many (omega (arith, h.from))
          (omega (arith, h.below)) h.limit h.balance h.proof.derived
          (entries_ok kind line es h.proof.derived h.proof.statable few) h.proof.goal
          (m, (refl, s.from, s.to), s.valid)
          (trail_ok kind line trail.cycle es (all_tasks line) m trail.frames
          (record { some = omega (arith, h.from, s.from); limit = omega (arith, s.to, h.limit) })
          (all_are_tasks line ok) (omega (arith, s.stations, ok.small)) s.valid)
          h.some.counted (omega (arith, h.some.within, room));
      spent = s;
    }
