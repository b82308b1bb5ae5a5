-- From the account of a search to what is said of its costs, clause by clause.
use Rattle.std.proofs.Common.{◌≡◌, ℕ, ◌+◌, ◌<◌, ◌≤◌, Bool, true, false, inl, inr, List, [], ◌++◌, length, sym, ap, ◌∙◌}
use Rattle.std.proofs.Common.{subst, arith, Option, Some, refl}
use Rattle.std.specs.Prelude.{slice_get, IsTrue, ◌↔◌}
use Rattle.std.proofs.lemmas.Bool.{cases_lt, false≢true}
use Rattle.line_instance.specs.Truths.{IsEmpty}
use Rattle.line_instance.specs.Line.{Line}
use Rattle.line_rules.specs.Bounds.{bound}
use Rattle.line_rules.specs.Entries.{HasAnswer, IsUnanswered}
use Rattle.line_rules.specs.Seats.{AreSeated}
use Rattle.line_rules.specs.Units.{UnitsOf}
use Rattle.line_rules.specs.declared.types.LineKind.{LineKind}
use Rattle.line_rules.specs.declared.types.Mode.{Mode}
use Rattle.line_rules.specs.declared.types.Load.{Load}
use Rattle.line_rules.specs.declared.types.Entry.{Entry}
use Rattle.line_rules.specs.declared.types.OpenFrame.{OpenFrame}
use Rattle.line_rules.proofs.LongerLists.{get_longer}
use Rattle.line_rules.proofs.SeatedLoads.{seated_none}
use Rattle.lemma_core.specs.History.{Item}
use Rattle.lemma_core.specs.Desks.{DeskView, entries, Keeps, Waits}
use Rattle.lemma_core.specs.Own.{added_of}
use Rattle.station_search.specs.Decide.{Decides, IsFor}
use Rattle.station_search.specs.Costs.{HasPublished, PaysExactly, PaysWithin, Costs, Spends, CostsAlone, AddsFew}
use Rattle.station_search.specs.Costs.{FewAdded}
use Rattle.station_search.specs.inner.Work.{Does, DoesFew, DoesFor, Accounts, Balances, Ends}
use Rattle.station_search.specs.declared.answers.Decided.{Decided}
use Rattle.station_search.specs.declared.answers.Decided.TheVariants as decided
use Rattle.lemma_core.proofs.HistoryGrows.{keeps_none}
use Rattle.lemma_core.proofs.OwnFacts.{did_none, did_waits, saw_none, saw_waits, entries_more}
use Rattle.station_search.proofs.Events.{for_still}
use Rattle.station_search.proofs.PaidSteps.{does_then, does_waits, units_among}

module _ (asked : Option Mode) (kind : LineKind) (line : Line) (X : ℕ) where
  own_does : (old new : DeskView) (items : List Item) (n : ℕ) → Does asked kind line X old new items n
      → HasPublished asked kind line X old new
  own_does old new items n d = record { items = items; did = d.did; publishes = d.publishes; lemmas = d.lemmas }

  module _ (old new : DeskView) (frames : List OpenFrame) (used most : ℕ) where
    pub own_accounts : Accounts asked kind line X old new frames used most → HasPublished asked kind line X old new
    own_accounts a = own_does old new a.items a.published a.done

    own_balances : Balances asked kind line X old new frames used most → HasPublished asked kind line X old new
    own_balances a = own_does old new a.items a.published a.done

    pub within_accounts : Accounts asked kind line X old new frames used most
        → PaysWithin asked kind line X old new frames used
    within_accounts a = record {
      items = a.items;
      did = a.done.did;
      published = a.published;
      listed = a.listed;
      paid = a.done.paid;
      framed = a.framed;
      sum = a.within;
    }

    exactly_balances : Balances asked kind line X old new frames used most
        → PaysExactly asked kind line X old new frames used
    exactly_balances a = record {
      items = a.items;
      did = a.done.did;
      published = a.published;
      listed = a.listed;
      paid = a.done.paid;
      framed = a.framed;
      sum = a.sum;
    }

    spends_balances : old.alone ≡ true → Balances asked kind line X old new frames used most
        → Spends line X old new frames used
    spends_balances alone a = record {
      items = a.items;
      did = a.done.did;
      seen = a.done.alone alone;
      published = a.published;
      listed = a.listed;
      entry_units = a.fresh alone;
      framed = a.framed;
      sum = a.sum;
    }

    pub few_accounts : Accounts asked kind line X old new frames used most → AddsFew line X old new frames used most
    few_accounts a =
        let r : (n : ℕ) × (UnitsOf line (added_of a.items) n × (n ≤ a.published)) =
        units_among asked kind line X (entries new) a.items a.published a.done.paid in
        record {
          items = a.items;
          did = a.done.did;
          few = a.few;
          published = r.0;
          listed = a.listed;
          entry_units = r.1.0;
          framed = a.framed;
          sum = omega (arith, r.1.1, a.within);
        }

    few_balances : Balances asked kind line X old new frames used most → AddsFew line X old new frames used most
    few_balances a = few_accounts (record {
      items = a.items;
      published = a.published;
      listed = a.listed;
      done = a.done;
      framed = a.framed;
      within = omega (arith, a.sum);
      few = a.few;
    })

  module _ (old mid new : DeskView) (w : Waits old mid) (k : Keeps mid new) (frames : List OpenFrame)
      (used most : ℕ) where
    -- the account from before a call that added no event
    pub accounts_then : Accounts asked kind line X mid new frames used most
        → Accounts asked kind line X old new frames used most
    accounts_then a = record {
      items = a.items;
      published = a.published;
      listed = a.listed;
      done = does_then asked kind line X old mid new a.items a.published w k a.done;
      framed = a.framed;
      within = a.within;
      few = a.few;
    }

    balances_then : Balances asked kind line X mid new frames used most
        → Balances asked kind line X old new frames used most
    balances_then a = record {
      items = a.items;
      published = a.published;
      listed = a.listed;
      done = does_then asked kind line X old mid new a.items a.published w k a.done;
      framed = a.framed;
      sum = a.sum;
      few = a.few;
      fresh = λ t. a.fresh (w.keeps.alone ∙ t);
    }

  -- the account of an answer from before a call that added no event
  pub ends_then : (old mid new : DeskView) (used : ℕ) (d : Decided) → Waits old mid → Keeps mid new
      → Ends asked kind line X mid new used d → Ends asked kind line X old new used d
  ends_then old mid new used (decided.Refuted r) w k e = balances_then old mid new w k [] used (used + 1) e
  ends_then old mid new used (decided.Found loads) w k e = accounts_then old mid new w k [] used used e
  ends_then old mid new used (decided.Spent frames) w k e =
      (balances_then old mid new w k frames used used e.0, λ t. e.1 (w.keeps.alone ∙ t))
  ends_then old mid new used (decided.NoMemory frames) w k e = accounts_then old mid new w k frames used used e

  module _ (old new : DeskView) (used : ℕ) where
    pub ends_own : (d : Decided) → Ends asked kind line X old new used d → HasPublished asked kind line X old new
    ends_own (decided.Refuted r) e = own_balances old new [] used (used + 1) e
    ends_own (decided.Found loads) e = own_accounts old new [] used used e
    ends_own (decided.Spent frames) e = own_balances old new frames used used e.0
    ends_own (decided.NoMemory frames) e = own_accounts old new frames used used e

    pub ends_costs : (d : Decided) → Ends asked kind line X old new used d → Costs asked kind line X old new used d
    ends_costs (decided.Refuted r) e = exactly_balances old new [] used (used + 1) e
    ends_costs (decided.Found loads) e = within_accounts old new [] used used e
    ends_costs (decided.Spent frames) e = exactly_balances old new frames used used e.0
    ends_costs (decided.NoMemory frames) e = within_accounts old new frames used used e

    pub ends_few : (d : Decided) → Ends asked kind line X old new used d → FewAdded line X old new used d
    ends_few (decided.Refuted r) e = few_balances old new [] used (used + 1) e
    ends_few (decided.Found loads) e = few_accounts old new [] used used e
    ends_few (decided.Spent frames) e = few_balances old new frames used used e.0
    ends_few (decided.NoMemory frames) e = few_accounts old new frames used used e

    pub ends_alone : (R : List Bool) (most left : ℕ) (d : Decided) → old.alone ≡ true
        → Decides asked kind line X (entries new) R most left d → Ends asked kind line X old new used d
        → CostsAlone line X old new used d
    ends_alone R most left (decided.Refuted r) alone h e = spends_balances old new [] used (used + 1) alone e
    ends_alone R most left (decided.Found loads) alone h e = tt
    ends_alone R most left (decided.Spent frames) alone h e = (
      spends_balances old new frames used used alone e.0,
      e.1 alone,
      record { unanswered = λ k f g j x q same a. e.1 alone k f g j x q a; further = h.further },
    )
    ends_alone R most left (decided.NoMemory frames) alone h e = tt

-- the account of a question that is answered at once: its one entry has no units
pub answered_at_once : (asked : Option Mode) (kind : LineKind) (line : Line) (X : ℕ) (old new : DeskView)
    (T : List Bool) (used : ℕ) → used ≡ 0 → DoesFor asked kind line X old new T 1 0
    → Balances asked kind line X old new [] used (used + 1)
answered_at_once asked kind line X old new T used z d = record {
  items = d.items;
  published = 0;
  listed = 0;
  done = d.done;
  framed = refl;
  sum = omega (arith, z);
  few = omega (arith, d.few);
  fresh = d.fresh;
}

-- the account of a call that adds no event
pub accounts_none : (asked : Option Mode) (kind : LineKind) (line : Line) (X : ℕ) (old new : DeskView) (used most : ℕ)
    → Waits old new → Accounts asked kind line X old new [] used most
accounts_none asked kind line X old new used most w = record {
  items = [];
  published = 0;
  listed = 0;
  done = does_waits asked kind line X old new w;
  framed = refl;
  within = omega arith;
  few = omega arith;
}

-- the account of what has no units, after a call that added no event
pub accounts_free : (asked : Option Mode) (kind : LineKind) (line : Line) (X : ℕ) (old mid new : DeskView)
    (m used most : ℕ) → Waits old mid → Keeps mid new → DoesFew asked kind line X mid new m 0 → m ≤ most
    → Accounts asked kind line X old new [] used most
accounts_free asked kind line X old mid new m used most w k d less = record {
  items = d.items;
  published = 0;
  listed = 0;
  done = does_then asked kind line X old mid new d.items 0 w k d.done;
  framed = refl;
  within = omega arith;
  few = omega (arith, d.few, less);
}

-- a call that adds no event adds no entry
pub few_none : (line : Line) (X : ℕ) (old new : DeskView) (used most : ℕ) → Waits old new
    → AddsFew line X old new [] used most
few_none line X old new used most w = record {
  items = [];
  did = did_waits old old new [] (did_none old) w;
  few = omega arith;
  published = 0;
  listed = 0;
  entry_units = refl;
  framed = refl;
  sum = omega arith;
}

-- what a call that adds no event has published
pub own_waits : (asked : Option Mode) (kind : LineKind) (line : Line) (X : ℕ) (old new : DeskView) → Waits old new
    → HasPublished asked kind line X old new
own_waits asked kind line X old new w = record {
  items = [];
  did = did_waits old old new [] (did_none old) w;
  publishes = tt;
  lemmas = tt;
}

-- the account of a question that is refuted with no event
balances_none : (asked : Option Mode) (kind : LineKind) (line : Line) (X : ℕ) (old new : DeskView) (used : ℕ)
    → used ≡ 0 → Waits old new → Balances asked kind line X old new [] used (used + 1)
balances_none asked kind line X old new used z w = record {
  items = [];
  published = 0;
  listed = 0;
  done = does_waits asked kind line X old new w;
  framed = refl;
  sum = omega (arith, z);
  few = omega arith;
  fresh = λ t. refl;
}

pub exactly_none : (asked : Option Mode) (kind : LineKind) (line : Line) (X : ℕ) (old new : DeskView) (used : ℕ)
    → used ≡ 0 → Waits old new → PaysExactly asked kind line X old new [] used
exactly_none asked kind line X old new used z w = exactly_balances asked kind line X old new [] used (used + 1)
    (balances_none asked kind line X old new used z w)

pub spends_none : (line : Line) (X : ℕ) (old new : DeskView) (used : ℕ) → used ≡ 0 → old.alone ≡ true → Waits old new
    → Spends line X old new [] used
spends_none line X old new used z alone w = record {
  items = [];
  did = did_waits old old new [] (did_none old) w;
  seen = saw_waits old old new [] (keeps_none old) (saw_none old) w alone;
  published = 0;
  listed = 0;
  entry_units = refl;
  framed = refl;
  sum = omega (arith, z);
}

-- an entry seen before a call is seen after it
pub not_known : (old new : DeskView) (line : Line) (kind : LineKind) (R : List Bool) (most X : ℕ)
    → IsFor old line kind X → Keeps old new → IsUnanswered (entries new) R most new.about.cycle
    → HasAnswer (entries old) R most X → ⊥
not_known old new line kind R most X f k u h =
    let C : ℕ → Type 0 = λ z. IsUnanswered (entries new) R most z in
    let un : IsUnanswered (entries new) R most X = subst C (for_still old new line kind X f k).same_cycle u in
    let m : (more : List Entry) × (entries new ≡ entries old ++ more) = entries_more old new k in
    let P : List Entry → Type 0 = λ z. slice_get z h.0 ≡ Some h.1 in
    un h.0 h.1 (subst P (sym m.1) (get_longer (entries old) m.0 h.0 h.1 h.2.0)) h.2.1

pub empty_found : (kind : LineKind) (line : Line) (X : ℕ) (R : List Bool) (most : ℕ) (loads : List Load)
    → bound kind line X R ≤ most → loads ≡ [] → IsEmpty R → (bound kind line X R ≤ most) × (length loads ≤ most)
    × AreSeated kind line X R loads
empty_found kind line X R most loads b e none =
    let A : List Load → Type 0 = λ z. AreSeated kind line X R z in
    (b, omega (arith, ap (λ (z : List Load). length z) e), subst A (sym e) (seated_none kind line X R none))

pub not_exceeds : (b : Bool) (most n : ℕ) → b ≡ false → (IsTrue b ↔ most < n) → n ≤ most
not_exceeds b most n e h = elim (cases_lt most n) [ inl l ↦ absurd (false≢true (sym e ∙ h.1 l)) | inr g ↦ g ]
