-- What a try does to a search: the ends are closer, or it stopped at its cycle.
use Rattle.std.proofs.Common.{◌≡◌, ℕ, ◌+◌, ◌-◌, ◌<◌, ◌≤◌, ◌⊎◌, Bool, true, cond, List, [], ◌++◌}
use Rattle.std.proofs.Common.{◌∷◌, length, drop, refl, sym, ap, ◌∙◌, subst, inl, inr, arith, Option, Some}
use Rattle.std.proofs.Common.{length-append}
use Rattle.std.specs.Prelude.{nat_eq, slice_get}
use Rattle.std.proofs.Math.Seq.{drop-append_seam}
use Rattle.std.proofs.lemmas.Bool.{eq-eqb}
use Rattle.line_instance.specs.Line.{Line}
use Rattle.line_rules.specs.Balance.{IsRight, all_tasks, seat}
use Rattle.line_rules.specs.Entries.{HasAnswer}
use Rattle.line_rules.specs.Trails.{IsTrail, IsOpenOver}
use Rattle.line_rules.specs.Units.{UnitsOf, UnitsIn, entries_at}
use Rattle.line_rules.specs.declared.types.LineKind.{LineKind}
use Rattle.line_rules.specs.declared.types.Balance.{Balance as Assignment}
use Rattle.line_rules.specs.declared.types.Entry.{Entry}
use Rattle.line_rules.specs.declared.types.OpenFrame.{OpenFrame}
use Rattle.line_rules.proofs.SubBalance.{restricted}
use Rattle.lemma_core.specs.Machine.{About}
use Rattle.lemma_core.specs.Books.{IsReserved, MayBeBest}
use Rattle.line_seek.proofs.about_search.Events.{get_append_cases}
use Rattle.round_helpers.specs.Growth.{AreAtCycle}
use Rattle.round_run.specs.Rounds.{frames_of}
use Rattle.round_run.specs.declared.plans.Plan.{Plan}
use Rattle.round_run.specs.declared.closing.Verdict.{Verdict}
use Rattle.round_run.specs.declared.closing.Verdict.TheVariants as verdict
use Rattle.round_run.specs.declared.solving.Cause.TheVariants as cause
use Rattle.cycle_search.specs.Outcomes.{IsRightIn, IsBelow, RankedNeedsMore, halfway}
use Rattle.cycle_search.specs.Seek.{seek_room, try_room, AreSeeks}
use Rattle.cycle_search.specs.inner.Searching.{AreOutside, AreOutsideBut, IsKept, HasEnds, IsBetween, IsReopened}
use Rattle.cycle_search.specs.inner.Searching.{IsAsking, HasSought, HasAsked, HasListed, IsStuck, IsCloser, IsTriedAt}
use Rattle.cycle_search.specs.declared.halving.Halving.{Halving}
use Rattle.cycle_search.specs.declared.seek.Seeks.{Seeks}
use Rattle.cycle_search.proofs.SeekFacts.{no_room}
use Rattle.cycle_search.proofs.BehindFacts.{none_at}
use Rattle.round_run.proofs.Endings.{at_both, all_at}
use Rattle.line_rules.proofs.LongerLists.{has_longer}
use Rattle.line_rules.proofs.ListUnits.{units_both}

-- a balance in some more stations
pub widened_right : (kind : LineKind) (line : Line) (m c : ℕ) (b : Assignment) → IsRight kind line c b
    → b.stations ≤ m → IsRightIn kind line m c (record { stations = m; place = b.place })
widened_right kind line m c b r few = record {
  right = record {
    each = r.each;
    sides = r.sides;
    balance = restricted kind line c c (all_tasks line) (all_tasks line) b.stations m (seat b.place) (omega arith) few
        (λ i h. h) r.balance;
  };
  stations = refl;
}

-- no entry is between closer ends
pub outside_closer : (lower upper lower' upper' : ℕ) (es : List Entry) → lower ≤ lower' → upper' ≤ upper
    → AreOutside lower upper es → AreOutside lower' upper' es
outside_closer lower upper lower' upper' es l u o k e g = elim (o k e g) [
  | inl below ↦ inl (omega (arith, below, l))
  | inr above ↦ inr (omega (arith, above, u))
]

pub outside_none : (lower upper X : ℕ) (es : List Entry) → AreOutside lower upper es → lower ≤ X → X < upper
    → (k : ℕ) (e : Entry) → slice_get es k ≡ Some e → e.cycle ≡ X → ⊥
outside_none lower upper X es o l u k e g q = elim (o k e g) [
  | inl below ↦ omega (arith, below, l, q)
  | inr above ↦ omega (arith, above, u, q)
]

-- what was between the ends is outside the next ones, where each entry that was added is at a cycle outside them
both_outside : (lower upper lower' upper' X : ℕ) (es more : List Entry) → lower ≤ lower' → upper' ≤ upper
    → (X < lower') ⊎ (upper' ≤ X) → AreOutside lower upper es → AreAtCycle X more
    → AreOutside lower' upper' (es ++ more)
both_outside lower upper lower' upper' X es more l u x o a k e g = elim (get_append_cases es more k e g) [
  | inl p ↦ outside_closer lower upper lower' upper' es l u o k e p
  | inr p ↦ elim x [
    | inl below ↦ inl (omega (arith, below, a p.0 e p.1))
    | inr above ↦ inr (omega (arith, above, a p.0 e p.1))
  ]
]

-- no entries have no units
none_counted : (line : Line) (es : List Entry) (units : ℕ) → length es ≤ 0 → UnitsOf line es units → units ≡ 0
none_counted line [] units l h = h
none_counted line (e ∷ es) units l h = absurd (omega (arith, l))

-- no proof is kept
pub kept_none : (kind : LineKind) (line : Line) (m P lower upper : ℕ) → IsKept kind line m P lower upper []
kept_none kind line m P lower upper = record {
  derived = λ k e g. absurd (cc);
  statable = λ k e g. absurd (cc);
  outside = λ k e g. absurd (cc);
  goal = λ l. absurd (omega (arith, l));
  few = omega arith;
  units = 0;
  counted = refl;
  within = omega arith;
}

-- a kept proof at a smaller upper end
pub kept_closer : (kind : LineKind) (line : Line) (m P lower upper upper' : ℕ) (es : List Entry) → upper' ≤ upper
    → IsKept kind line m P lower upper es → IsKept kind line m P lower upper' es
kept_closer kind line m P lower upper upper' es u k = record {
  derived = k.derived;
  statable = k.statable;
  outside = outside_closer lower upper lower upper' es (omega arith) u k.outside;
  goal = k.goal;
  few = k.few;
  units = k.units;
  counted = k.counted;
  within = k.within;
}

-- a balance at a cycle X between the ends has few enough stations
ends_at : (kind : LineKind) (line : Line) (m : ℕ) (plan : Plan) (X : ℕ) (h : Halving) (b : Assignment)
    → HasEnds kind line m plan h → h.lower ≤ X → X < h.upper → IsRight kind line X b → b.stations ≤ m
    → HasEnds kind line m plan (record h { upper = X; balance = record { stations = m; place = b.place } })
ends_at kind line m plan X h b e from to right few = record {
  line_is = e.line_is;
  kind_is = e.kind_is;
  reserved = e.reserved;
  from = e.from;
  met = from;
  most = omega (arith, e.most, to);
  limit = omega (arith, e.limit, to);
  balance = widened_right kind line m X b right few;
  proof = kept_closer kind line m (try_room plan) h.lower h.upper X h.proof (omega (arith, to)) e.proof;
  goal = e.goal;
  seeks = e.seeks;
}

-- entries were added, and all else stays
same_ends : (kind : LineKind) (line : Line) (m : ℕ) (plan : Plan) (old new : Halving) → HasEnds kind line m plan old
    → new.lower ≡ old.lower → new.upper ≡ old.upper → new.balance ≡ old.balance → new.proof ≡ old.proof
    → new.book.about ≡ old.book.about → IsReserved new.book → (gained : List Entry)
    → new.book.state.entries ≡ old.book.state.entries ++ gained → AreSeeks plan new.seeks
    → HasEnds kind line m plan new
same_ends kind line m plan old new e lower upper balance proof about reserved gained entries seeks =
    let B : ℕ → Type 0 = λ z. IsRightIn kind line m z old.balance in
    let C : Assignment → Type 0 = λ z. IsRightIn kind line m new.upper z in
    let P : ℕ → Type 0 = λ z. IsKept kind line m (try_room plan) z old.upper old.proof in
    let Q : ℕ → Type 0 = λ z. IsKept kind line m (try_room plan) new.lower z old.proof in
    let R : List Entry → Type 0 = λ z. IsKept kind line m (try_room plan) new.lower new.upper z in
    let G : ℕ → Type 0 = λ l. IsBelow line m old.book.state.entries l in
    let H : List Entry → Type 0 = λ es. IsBelow line m es new.lower in
    record {
      line_is = ap (λ (z : About). z.line) about ∙ e.line_is;
      kind_is = ap (λ (z : About). z.kind) about ∙ e.kind_is;
      reserved = reserved;
      from = omega (arith, e.from, lower);
      met = omega (arith, e.met, lower, upper);
      most = omega (arith, e.most, upper);
      limit = omega (arith, e.limit, upper);
      balance = subst C (sym balance) (subst B (sym upper) e.balance);
      proof = subst R (sym proof) (subst Q (sym upper) (subst P (sym lower) e.proof));
      goal = λ z.
          let none : length old.proof ≡ 0 = sym (ap (λ (es : List Entry). length es) proof) ∙ z in
          let g : IsBelow line m old.book.state.entries new.lower = subst G (sym lower) (e.goal none) in
          subst H (sym entries)
          (λ l. has_longer old.book.state.entries gained (all_tasks line) m (new.lower - 1) (g l));
      seeks = seeks;
    }

-- the entries of a search whose question is asked
module _ (kind : LineKind) (line : Line) (m : ℕ) (plan : Plan) (X : ℕ) (h : Halving) (a : IsAsking kind line m plan X h)
  where
    asking_few : length h.book.state.entries ≤ 1000000 + seek_room plan
    asking_few = omega (
      arith,
      ap (λ (z : List Entry). length z) a.entries,
      length-append a.before a.sought,
      a.small,
      a.few,
    )

    asking_units : UnitsOf line h.book.state.entries (a.units + a.sought_units)
    asking_units =
        let P : List Entry → Type 0 = λ z. UnitsOf line z (a.units + a.sought_units) in
        subst P (sym a.entries) (units_both line a.before a.sought a.units a.sought_units a.counted a.sought_counted)

    asking_outside : (lower upper : ℕ) → h.lower ≤ lower → upper ≤ h.upper → (X < lower) ⊎ (upper ≤ X)
        → AreOutside lower upper h.book.state.entries
    asking_outside lower upper l u x =
        let P : List Entry → Type 0 = λ z. AreOutside lower upper z in
        subst P (sym a.entries)
        (both_outside h.lower h.upper lower upper X a.before a.sought l u x a.outside a.cycles)

-- the ranked balance has few enough stations at a cycle between the ends
pub ranked_closer : (kind : LineKind) (line : Line) (m : ℕ) (plan : Plan) (X : ℕ) (h : Halving) (b : Assignment)
    → IsBetween kind line m plan h → h.lower ≤ X → X < h.upper → IsRight kind line X b → b.stations ≤ m
    → IsBetween kind line m plan (record h { upper = X; balance = record { stations = m; place = b.place } })
    × IsCloser h.lower h.upper (record h { upper = X; balance = record { stations = m; place = b.place } })
ranked_closer kind line m plan X h b between from to right few = (
  record {
    ends = ends_at kind line m plan X h b between.ends from to right few;
    outside = outside_closer h.lower h.upper h.lower X h.book.state.entries (omega arith) (omega (arith, to))
        between.outside;
    few = between.few;
    units = between.units;
    counted = between.counted;
    paid = between.paid;
    within = between.within;
  },
  omega (arith, from, to),
)

-- a search with the same ends
tried_on : (kind : LineKind) (line : Line) (m X Y : ℕ) (old new : Halving) → Y ≡ X → new.lower ≡ old.lower
    → new.upper ≡ old.upper → IsTriedAt kind line m X old → IsTriedAt kind line m Y new
tried_on kind line m X Y old new same lower upper t =
    let R : ℕ → Type 0 = λ z. RankedNeedsMore kind line m z in
    record {
      half = same ∙ t.half ∙ ap (λ z. halfway z old.upper) (sym lower) ∙ ap (λ z. halfway new.lower z) (sym upper);
      ranked = subst R (sym same) t.ranked;
    }

-- what a seek does to a search whose book was reopened at X
module _ (kind : LineKind) (line : Line) (m : ℕ) (plan : Plan) (X : ℕ) (old new : Halving) (best : Option Assignment)
    (a : IsReopened kind line m plan X old) (h : HasSought m plan old new best) where
  -- the question can be asked
  pub sought_asking : IsAsking kind line m plan X new
  sought_asking =
      let ends = a.between.ends in
      let L : ℕ → Type 0 = λ z. AreOutside z old.upper old.book.state.entries in
      let U : ℕ → Type 0 = λ z. AreOutside new.lower z old.book.state.entries in
      let C : ℕ → Type 0 = λ z. AreAtCycle z h.gained in
      let V : Line → Type 0 = λ z. UnitsOf z h.gained h.units in
      record {
        ends = same_ends kind line m plan old new ends h.lower h.upper h.balance h.proof h.about h.reserved h.gained
            h.entries (h.seeks ends.seeks);
        cycle = ap (λ (z : About). z.cycle) h.about ∙ a.cycle;
        from = omega (arith, a.from, h.lower);
        to = omega (arith, a.to, h.upper);
        stations = a.stations;
        before = old.book.state.entries;
        sought = h.gained;
        entries = h.entries;
        outside = subst U (sym h.upper) (subst L (sym h.lower) a.between.outside);
        cycles = subst C a.cycle h.cycles;
        small = a.small;
        few = h.few;
        units = a.between.units;
        counted = a.between.counted;
        sought_units = h.units;
        sought_counted = subst V ends.line_is h.counted;
        paid = omega (arith, a.between.paid, h.paid);
        cheap = omega (arith, a.cheap, h.within);
        tried = tried_on kind line m X X old new refl h.lower h.upper a.tried;
      }

  -- a balance was found: the cycle is the upper end
  pub sought_closer : (b : Assignment) → best ≡ Some b
      → IsBetween kind line m plan (record new { upper = X; balance = record { stations = m; place = b.place } })
      × IsCloser old.lower old.upper (record new { upper = X; balance = record { stations = m; place = b.place } })
  sought_closer b is =
      let k : IsAsking kind line m plan X new = sought_asking in
      let f = h.found b is in
      let K : LineKind → Type 0 = λ z. IsRight z old.book.about.line old.book.about.cycle b in
      let L : Line → Type 0 = λ z. IsRight kind z old.book.about.cycle b in
      let C : ℕ → Type 0 = λ z. IsRight kind line z b in
      let right : IsRight kind line X b =
      subst C a.cycle (subst L a.between.ends.line_is (subst K a.between.ends.kind_is f.0)) in (
        record {
          ends = ends_at kind line m plan X new b k.ends k.from k.to right f.1;
          outside = asking_outside kind line m plan X new k new.lower X (omega arith) (omega (arith, k.to))
              (inr (omega arith));
          few = omega (arith, asking_few kind line m plan X new k);
          units = k.units + k.sought_units;
          counted = asking_units kind line m plan X new k;
          paid = k.paid;
          within = omega (arith, k.cheap);
        },
        omega (arith, a.from, a.to, h.lower),
      )

module _ (kind : LineKind) (line : Line) (m : ℕ) (plan : Plan) (X : ℕ) (old new : Halving)
    (a : IsAsking kind line m plan X old) where
  module _ (v : Verdict) (h : HasAsked m plan old new v) where
    line_now : new.book.about.line ≡ line
    line_now = ap (λ (z : About). z.line) h.about ∙ a.ends.line_is

    kind_now : new.book.about.kind ≡ kind
    kind_now = ap (λ (z : About). z.kind) h.about ∙ a.ends.kind_is

    cycle_now : new.book.about.cycle ≡ X
    cycle_now = ap (λ (z : About). z.cycle) h.about ∙ a.cycle

    gained_at : AreAtCycle X h.gained
    gained_at = let P : ℕ → Type 0 = λ z. AreAtCycle z h.gained in subst P a.cycle h.cycles

    few_now : length new.book.state.entries ≤ try_room plan + 1000001
    few_now = omega (
      arith,
      ap (λ (z : List Entry). length z) h.entries,
      length-append old.book.state.entries h.gained,
      h.few,
      asking_few kind line m plan X old a,
    )

    gained_units : UnitsOf line h.gained h.published
    gained_units =
        let P : Line → Type 0 = λ z. UnitsOf z h.gained h.published in subst P a.ends.line_is h.entry_units

    units_now : UnitsOf line new.book.state.entries (a.units + a.sought_units + h.published)
    units_now =
        let P : List Entry → Type 0 = λ z. UnitsOf line z (a.units + a.sought_units + h.published) in
        subst P (sym h.entries) (units_both line old.book.state.entries h.gained (a.units + a.sought_units) h.published
        (asking_units kind line m plan X old a) gained_units)

    frames_now : UnitsIn line new.book.about.cycle (frames_of v) h.listed
    frames_now =
        let P : Line → Type 0 = λ z. UnitsIn z old.book.about.cycle (frames_of v) h.listed in
        let Q : About → Type 0 = λ z. UnitsIn line z.cycle (frames_of v) h.listed in
        subst Q (sym h.about) (subst P a.ends.line_is h.frame_units)

    paid_now : a.units + a.sought_units + h.published + h.listed ≤ new.paid
    paid_now = omega (arith, a.paid, h.paid)

    within_now : new.paid ≤ try_room plan + 1000000
    within_now = omega (arith, h.within, a.cheap)

    outside_now : (lower upper : ℕ) → old.lower ≤ lower → upper ≤ old.upper → (X < lower) ⊎ (upper ≤ X)
        → AreOutside lower upper new.book.state.entries
    outside_now lower upper l u x =
        let P : List Entry → Type 0 = λ z. AreOutside lower upper z in
        subst P (sym h.entries) (both_outside lower upper lower upper X old.book.state.entries h.gained (omega arith)
        (omega arith) x (asking_outside kind line m plan X old a lower upper l u x) gained_at)

    -- between the ends entries are at the tried cycle alone
    but_here : AreOutsideBut new.lower new.upper new.book.about.cycle new.book.state.entries
    but_here k e g n =
        let P : List Entry → Type 0 = λ z. slice_get z k ≡ Some e in
        elim (get_append_cases old.book.state.entries h.gained k e (subst P h.entries g)) [
          | inl p ↦ elim (get_append_cases a.before a.sought k e (subst P a.entries p)) [
            | inl b ↦ elim (a.outside k e b) [
              | inl below ↦ inl (omega (arith, below, h.lower))
              | inr above ↦ inr (omega (arith, above, h.upper))
            ]
            | inr s ↦ absurd (n (a.cycles s.0 e s.1 ∙ sym cycle_now))
          ]
          | inr r ↦ absurd (n (gained_at r.0 e r.1 ∙ sym cycle_now))
        ]

    -- the book is no shorter
    added_behind : length old.book.state.entries ≤ length new.book.state.entries
    added_behind = omega (
      arith,
      ap (λ (z : List Entry). length z) h.entries,
      length-append old.book.state.entries h.gained,
    )

    ends_now : HasEnds kind line m plan new
    ends_now =
        let S : Seeks → Type 0 = λ z. AreSeeks plan z in
        same_ends kind line m plan old new a.ends h.lower h.upper h.balance h.proof h.about h.reserved h.gained
        h.entries (subst S (sym h.seeks) a.ends.seeks)

  -- the question was refuted: the lower end is one above the cycle, and the book shows it
  refuted_closer : (h : HasAsked m plan old new verdict.Refuted)
      → IsBetween kind line m plan (record new { lower = new.book.about.cycle + 1; proof = [] })
      × IsCloser old.lower old.upper (record new { lower = new.book.about.cycle + 1; proof = [] })
  refuted_closer h =
      let X' : ℕ = new.book.about.cycle in
      let same : X' ≡ X = cycle_now verdict.Refuted h in
      let e : HasEnds kind line m plan new = ends_now verdict.Refuted h in
      let P : Line → Type 0 = λ z. HasAnswer new.book.state.entries (all_tasks z) m X' in
      let Q : ℕ → Type 0 = λ z. HasAnswer new.book.state.entries (all_tasks line) m z in
      let q : X' ≡ X' + 1 - 1 = omega arith in (
        record {
          ends = record {
            line_is = e.line_is;
            kind_is = e.kind_is;
            reserved = e.reserved;
            from = omega (arith, a.ends.from, a.from, same);
            met = omega (arith, a.to, h.upper, same);
            most = e.most;
            limit = e.limit;
            balance = e.balance;
            proof = kept_none kind line m (try_room plan) (X' + 1) new.upper;
            goal = λ z l. subst Q q (subst P (line_now verdict.Refuted h) h.answer);
            seeks = e.seeks;
          };
          outside = outside_now verdict.Refuted h (X' + 1) new.upper (omega (arith, a.from, same))
              (omega (arith, h.upper)) (inl (omega (arith, same)));
          few = few_now verdict.Refuted h;
          units = a.units + a.sought_units + h.published;
          counted = units_now verdict.Refuted h;
          paid = omega (arith, paid_now verdict.Refuted h);
          within = within_now verdict.Refuted h;
        },
        omega (arith, a.from, a.to, h.upper, same),
      )

  -- a balance was found: the cycle is the upper end
  found_closer : (h : HasAsked m plan old new verdict.Found) → MayBeBest new.book.about new.book.state.best
      → IsBetween kind line m plan (record new {
        upper = new.book.about.cycle;
        balance = record { stations = m; place = new.book.state.best.place };
      })
      × IsCloser old.lower old.upper (record new {
        upper = new.book.about.cycle;
        balance = record { stations = m; place = new.book.state.best.place };
      })
  found_closer h best =
      let X' : ℕ = new.book.about.cycle in
      let same : X' ≡ X = cycle_now verdict.Found h in
      let P : LineKind → Type 0 = λ z. IsRight z new.book.about.line X' new.book.state.best in
      let Q : Line → Type 0 = λ z. IsRight kind z X' new.book.state.best in
      let right : IsRight kind line X' new.book.state.best =
      subst Q (line_now verdict.Found h) (subst P (kind_now verdict.Found h) best.right) in (
        record {
          ends = ends_at kind line m plan X' new new.book.state.best (ends_now verdict.Found h)
              (omega (arith, a.from, h.lower, same)) (omega (arith, a.to, h.upper, same)) right h.answer;
          outside = outside_now verdict.Found h new.lower X' (omega (arith, h.lower)) (omega (arith, a.to, same))
              (inr (omega (arith, same)));
          few = few_now verdict.Found h;
          units = a.units + a.sought_units + h.published;
          counted = units_now verdict.Found h;
          paid = omega (arith, paid_now verdict.Found h);
          within = within_now verdict.Found h;
        },
        omega (arith, a.from, a.to, h.lower, same),
      )

  module _ (frames : List OpenFrame) (h : HasAsked m plan old new (verdict.Spent frames)) where
    -- the entries at the cycle of the book: those of the seek, and those that the round added
    here : entries_at X new.book.state.entries ≡ a.sought ++ h.gained
    here =
        let none : entries_at X a.before ≡ [] =
        none_at X a.before (outside_none old.lower old.upper X a.before a.outside a.from a.to) in
        let first : entries_at X old.book.state.entries ≡ a.sought =
        ap (λ (z : List Entry). entries_at X z) a.entries
        ∙ (at_both X a.before a.sought
        ∙ (ap (λ (z : List Entry). z ++ entries_at X a.sought) none ∙ all_at X a.sought a.cycles)) in
        ap (λ (z : List Entry). entries_at X z) h.entries
        ∙ (at_both X old.book.state.entries h.gained
        ∙ (ap (λ (z : List Entry). z ++ entries_at X h.gained) first
        ∙ ap (λ (z : List Entry). a.sought ++ z) (all_at X h.gained (gained_at (verdict.Spent frames) h))))

    -- and those of the round alone
    last : entries_at X (drop (length old.book.state.entries) new.book.state.entries) ≡ h.gained
    last =
        ap (λ (z : List Entry). entries_at X (drop (length old.book.state.entries) z)) h.entries
        ∙ (ap (λ (z : List Entry). entries_at X z) (drop-append_seam old.book.state.entries h.gained)
        ∙ all_at X h.gained (gained_at (verdict.Spent frames) h))

    units_here : UnitsOf line (entries_at X new.book.state.entries) (a.sought_units + h.published)
    units_here =
        let P : List Entry → Type 0 = λ z. UnitsOf line z (a.sought_units + h.published) in
        subst P (sym here) (units_both line a.sought h.gained a.sought_units h.published a.sought_counted
        (gained_units (verdict.Spent frames) h))

    units_last : UnitsOf line (entries_at X (drop (length old.book.state.entries) new.book.state.entries)) h.published
    units_last =
        let P : List Entry → Type 0 = λ z. UnitsOf line z h.published in
        subst P (sym last) (gained_units (verdict.Spent frames) h)

    -- without a seek there are none of one
    unsought : plan.seek ≡ 0 → a.sought_units ≡ 0
    unsought none = none_counted line a.sought a.sought_units (omega (arith, a.few, no_room plan none)) a.sought_counted

    -- the units at the cycle of the book are those of what the try added
    spent_units : HasListed line plan new.book.about.cycle new.book.state.entries (length old.book.state.entries) frames
    spent_units =
        let X' : ℕ = new.book.about.cycle in
        let es : List Entry = new.book.state.entries in
        let from : ℕ = length old.book.state.entries in
        let same : X' ≡ X = cycle_now (verdict.Spent frames) h in
        let Q : ℕ → Type 0 = λ z. UnitsOf line (entries_at z (drop from es)) h.published in
        let W : ℕ → Type 0 = λ z. UnitsOf line (entries_at z es) (a.sought_units + h.published) in
        let t : nat_eq X' X' ≡ true = eq-eqb X' X' refl in
        let R : Bool → Type 0 = λ z. cond z (UnitsIn line X' frames h.listed) (h.listed ≡ 0) in
        let listed = subst R (sym t) (frames_now (verdict.Spent frames) h) in
        record {
          units = h.published + h.listed;
          counted = (h.published, h.listed, (subst Q (sym same) units_last, listed, refl));
          all = h.all.0;
          alone = h.all.1;
          whole = a.sought_units + h.published + h.listed;
          whole_counted = (
            a.sought_units + h.published,
            h.listed,
            (subst W (sym same) units_here, listed, refl),
          );
          more = omega arith;
          unsought = λ none. omega (arith, unsought none);
        }

    -- the units ended
    spent_stuck : IsStuck kind line m plan cause.Units new frames (length old.book.state.entries)
    spent_stuck =
        let v : Verdict = verdict.Spent frames in
        let X' : ℕ = new.book.about.cycle in
        let es : List Entry = new.book.state.entries in
        let same : X' ≡ X = cycle_now v h in
        let P : LineKind → Type 0 = λ z. IsTrail z new.book.about.line X' es (all_tasks new.book.about.line) m frames in
        let Q : Line → Type 0 = λ z. IsTrail kind z X' es (all_tasks z) m frames in
        let R : Line → Type 0 = λ z. IsOpenOver z X' es frames in
        record {
          ends = ends_now v h;
          from = omega (arith, a.from, h.lower, same);
          to = omega (arith, a.to, h.upper, same);
          stations = a.stations;
          outside = but_here v h;
          few = few_now v h;
          begun = added_behind v h;
          published = a.units + a.sought_units + h.published;
          listed = h.listed;
          entry_units = units_now v h;
          frame_units = frames_now v h;
          within = omega (arith, paid_now v h, within_now v h);
          stuck = (
            subst Q (line_now v h) (subst P (kind_now v h) h.answer.0.trail),
            subst R (line_now v h) h.answer.1,
            spent_units,
          );
          tried = tried_on kind line m X X' old new same h.lower h.upper a.tried;
        }

  -- memory ended
  wanting_stuck : (frames : List OpenFrame) (h : HasAsked m plan old new (verdict.NoMemory frames))
      → IsStuck kind line m plan cause.Memory new [] (length old.book.state.entries)
  wanting_stuck frames h =
      let v : Verdict = verdict.NoMemory frames in
      let same : new.book.about.cycle ≡ X = cycle_now v h in
      record {
        ends = ends_now v h;
        from = omega (arith, a.from, h.lower, same);
        to = omega (arith, a.to, h.upper, same);
        stations = a.stations;
        outside = but_here v h;
        few = few_now v h;
        begun = added_behind v h;
        published = a.units + a.sought_units + h.published;
        listed = 0;
        entry_units = units_now v h;
        frame_units = refl;
        within = omega (arith, paid_now v h, within_now v h);
        stuck = refl;
        tried = tried_on kind line m X new.book.about.cycle old new same h.lower h.upper a.tried;
      }

  -- the same of a verdict that is known
  pub refuted : (v : Verdict) → HasAsked m plan old new v → v ≡ verdict.Refuted
      → IsBetween kind line m plan (record new { lower = new.book.about.cycle + 1; proof = [] })
      × IsCloser old.lower old.upper (record new { lower = new.book.about.cycle + 1; proof = [] })
  refuted v h e = (let P : Verdict → Type 0 = λ z. HasAsked m plan old new z in refuted_closer (subst P e h))

  pub found : (v : Verdict) → HasAsked m plan old new v → v ≡ verdict.Found
      → MayBeBest new.book.about new.book.state.best
      → IsBetween kind line m plan (record new {
        upper = new.book.about.cycle;
        balance = record { stations = m; place = new.book.state.best.place };
      })
      × IsCloser old.lower old.upper (record new {
        upper = new.book.about.cycle;
        balance = record { stations = m; place = new.book.state.best.place };
      })
  found v h e best = (let P : Verdict → Type 0 = λ z. HasAsked m plan old new z in found_closer (subst P e h) best)

  pub spent : (v : Verdict) (frames : List OpenFrame) (from : ℕ) → HasAsked m plan old new v
      → v ≡ verdict.Spent frames → from ≡ length old.book.state.entries
      → IsStuck kind line m plan cause.Units new frames from
  spent v frames from h e is =
      let P : Verdict → Type 0 = λ z. HasAsked m plan old new z in
      let S : ℕ → Type 0 = λ z. IsStuck kind line m plan cause.Units new frames z in
      subst S (sym is) (spent_stuck frames (subst P e h))

  pub wanting : (v : Verdict) (frames : List OpenFrame) (from : ℕ) → HasAsked m plan old new v
      → v ≡ verdict.NoMemory frames → from ≡ length old.book.state.entries
      → IsStuck kind line m plan cause.Memory new [] from
  wanting v frames from h e is =
      let P : Verdict → Type 0 = λ z. HasAsked m plan old new z in
      let S : ℕ → Type 0 = λ z. IsStuck kind line m plan cause.Memory new [] z in
      subst S (sym is) (wanting_stuck frames (subst P e h))
