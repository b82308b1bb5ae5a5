-- A search whose book is opened at the cycle of the next try, and what its entries and frames cite.
use Rattle.std.proofs.Common.{◌≡◌, ℕ, ◌-◌, ◌<◌, ◌≤◌, inl, inr, Bool, List, [], length, refl, sym, ap}
use Rattle.std.proofs.Common.{◌∙◌, subst, arith, Some, Result, Ok, Err}
use Rattle.std.specs.Prelude.{IfOk}
use Rattle.std.specs.Prelude.{slice_get}
use Rattle.std.proofs.lemmas.Option.{slice_get_within, same_Some}
use Rattle.line_instance.specs.Truths.{full_to}
use Rattle.line_instance.specs.Line.{Line, IsLine, tasks}
use Rattle.line_rules.specs.Balance.{all_tasks}
use Rattle.line_rules.specs.Entries.{HasAnswer, IsDerived}
use Rattle.line_rules.specs.Units.{UnitsOf}
use Rattle.line_rules.specs.declared.types.LineKind.{LineKind}
use Rattle.line_rules.specs.declared.types.Balance.{Balance as Assignment}
use Rattle.line_rules.specs.declared.types.Entry.{Entry}
use Rattle.line_rules.specs.declared.types.OpenFrame.{OpenFrame}
use Rattle.lemma_core.specs.Machine.{About}
use Rattle.lemma_core.specs.Own.{AreStatable}
use Rattle.lemma_core.specs.Books.{BookView, IsReserved, reopened}
use Rattle.entry_lists.specs.Trim.{IsTrimmed, IsKeptAs}
use Rattle.entry_lists.proofs.TrimFacts.{thinned}
use Rattle.entry_lists.proofs.ThinnedLists.{no_longer}
use Rattle.round_run.specs.declared.plans.Plan.{Plan}
use Rattle.round_run.specs.declared.solving.Cause.{Cause}
use Rattle.round_run.specs.declared.solving.Cause.TheVariants as cause
use Rattle.round_run.proofs.Sayable.{entries_ok, trail_ok, all_are_tasks}
use Rattle.cycle_search.specs.inner.Joined.{HaveCites, HaveFrameCites}
use Rattle.cycle_search.specs.Outcomes.{IsBelow, Searches}
use Rattle.cycle_search.specs.Seek.{try_room}
use Rattle.cycle_search.specs.inner.Searching.{AreOutside, IsKept, IsBetween, IsReopened, IsStuck, IsTriedAt}
use Rattle.cycle_search.specs.declared.halving.Halving.{Halving}
use Rattle.cycle_search.specs.declared.searching.CycleOutcome.{CycleOutcome}
use Rattle.cycle_search.proofs.SeekFacts.{try_limit}

-- entries that follow from each other cite entries of their list
pub have_cites : (kind : LineKind) (line : Line) (es : List Entry) → IsDerived kind line es → AreStatable es
    → length es ≤ 20000000 → HaveCites (length es) es
have_cites kind line es d s few k e there = (tasks line, ((entries_ok kind line es d s few).each k e there).why)

-- so do the frames of a search that stopped
pub stuck_cites : (kind : LineKind) (line : Line) (m : ℕ) (plan : Plan) (why : Cause) (h : Halving)
    (frames : List OpenFrame) (closing_from : ℕ) → IsLine line → IsStuck kind line m plan why h frames closing_from
    → HaveFrameCites (length h.book.state.entries) frames
stuck_cites kind line m plan cause.Units h frames from ok s k f there =
    ((trail_ok kind line h.book.about.cycle h.book.state.entries (all_tasks line) m frames
    (record { some = omega (arith, s.from, s.ends.from); limit = omega (arith, s.to, s.ends.limit) })
    (all_are_tasks line ok) (omega (arith, s.stations, ok.small)) s.stuck.0).each k f there).cites
stuck_cites kind line m plan cause.Memory h frames from ok s k f there =
    let none : slice_get [] k ≡ Some f = sym (ap (λ (z : List OpenFrame). slice_get z k) s.stuck) ∙ there in
    absurd (omega (arith, slice_get_within [] k f none))

-- its lists are not too long to be joined
pub stuck_few : (kind : LineKind) (line : Line) (m : ℕ) (plan : Plan) (why : Cause) (h : Halving)
    (frames : List OpenFrame) (closing_from : ℕ) → plan.units ≤ 3000000
    → IsStuck kind line m plan why h frames closing_from
    → (length h.book.state.entries ≤ 20000000) × (length h.proof ≤ 20000000)
stuck_few kind line m plan why h frames from limit s =
    let room : try_room plan ≤ 6000000 = try_limit plan limit in
    (omega (arith, s.few, room), omega (arith, s.ends.proof.few, room))

-- what is told of the kind of its book and the stations of its balance is told of what is asked for
pub stuck_searches : {E : Type 0} (kind : LineKind) (line : Line) (m : ℕ) (plan : Plan) (why : Cause) (h : Halving)
    (frames : List OpenFrame) (closing_from : ℕ) (r : Result CycleOutcome E)
    → IsStuck kind line m plan why h frames closing_from
    → IfOk r (λ o. (plan : Plan)
    → IsStuck h.book.about.kind line h.balance.stations plan why h frames closing_from
    → Searches h.book.about.kind line h.balance.stations plan o)
    → IfOk r (Searches kind line m plan)
stuck_searches kind line m plan why h frames from (Err e) s f = tt
stuck_searches kind line m plan why h frames from (Ok o) s f =
    let K : LineKind → Type 0 = λ z. IsStuck z line m plan why h frames from in
    let M : ℕ → Type 0 = λ z. IsStuck h.book.about.kind line z plan why h frames from in
    let S : ℕ → Type 0 = λ z. Searches h.book.about.kind line z plan o in
    let T : LineKind → Type 0 = λ z. Searches z line m plan o in
    subst T s.ends.kind_is (subst S s.ends.balance.stations (f plan (subst M (sym s.ends.balance.stations)
    (subst K (sym s.ends.kind_is) s))))

-- an entry of a trimmed list is one of the list, but for its cites
from_old : (es : List Entry) (set : List Bool) (most cycle : ℕ) (new : List Entry)
    (t : IsTrimmed es set most cycle new) (k : ℕ) (e : Entry) → slice_get new k ≡ Some e
    → (j : ℕ) × (y : Entry) × (slice_get es j ≡ Some y) × IsKeptAs t.numbers y e
from_old es set most cycle new t k e there =
    let at = t.entries.each k (slice_get_within new k e there) in
    let P : Entry → Type 0 = λ x. IsKeptAs t.numbers at.old x in
    (at.number, at.old, at.there, subst P (same_Some at.entry e (sym at.here ∙ there)) at.same)

-- a proof that is trimmed is one
pub kept_trimmed : (kind : LineKind) (line : Line) (m P lower upper n : ℕ) (es new : List Entry) → n ≡ tasks line
    → 1 < lower → IsTrimmed es (full_to n) m (lower - 1) new
    → ((kind : LineKind) (line : Line) → IsDerived kind line es → IsDerived kind line new)
    → HasAnswer new (full_to n) m (lower - 1)
    → ((line : Line) (old : ℕ) → UnitsOf line es old → (units : ℕ) × UnitsOf line new units × (units ≤ old))
    → IsKept kind line m P lower upper es
    → IsKept kind line m P lower upper new × (length new ≡ 0 → lower ≤ 1)
kept_trimmed kind line m P lower upper n es new same more t derived answer units k =
    let u : (a : ℕ) × UnitsOf line new a × (a ≤ k.units) = units line k.units k.counted in
    let A : ℕ → Type 0 = λ z. HasAnswer new (full_to z) m (lower - 1) in (
      record {
        derived = derived kind line k.derived;
        statable = λ i e there.
            let o = from_old es (full_to n) m (lower - 1) new t i e there in
            let s = k.statable o.0 o.1 o.2 in
            record {
              most = omega (arith, s.most, o.3.most);
              cycle = record {
                some = omega (arith, s.cycle.some, o.3.cycle);
                limit = omega (arith, s.cycle.limit, o.3.cycle);
              };
            };
        outside = λ i e there.
            let o = from_old es (full_to n) m (lower - 1) new t i e there in
            elim (k.outside o.0 o.1 o.2) [
              | inl below ↦ inl (omega (arith, below, o.3.cycle))
              | inr above ↦ inr (omega (arith, above, o.3.cycle))
            ];
        goal = λ some l. subst A same answer;
        few = omega (arith, k.few, no_longer t.numbers es new (thinned es t.numbers new t.kept.ascending t.entries));
        units = u.0;
        counted = u.1;
        within = omega (arith, u.2, k.within);
      },
      λ none. absurd (omega (arith, none, slice_get_within new answer.0 answer.1 answer.2.0)),
    )

-- the entries of a book that shows the lower end are a proof of it
pub book_kept : (kind : LineKind) (line : Line) (m : ℕ) (plan : Plan) (h : Halving) (es : List Entry)
    → es ≡ h.book.state.entries → IsDerived h.book.about.kind h.book.about.line es → AreStatable es
    → IsBetween kind line m plan h → length h.proof ≡ 0 → IsKept kind line m (try_room plan) h.lower h.upper es
book_kept kind line m plan h es are derived statable b none =
    let P : LineKind → Type 0 = λ z. IsDerived z h.book.about.line es in
    let Q : Line → Type 0 = λ z. IsDerived kind z es in
    let O : List Entry → Type 0 = λ z. AreOutside h.lower h.upper z in
    let B : List Entry → Type 0 = λ z. IsBelow line m z h.lower in
    let V : List Entry → Type 0 = λ z. UnitsOf line z b.units in
    record {
      derived = subst Q b.ends.line_is (subst P b.ends.kind_is derived);
      statable = statable;
      outside = subst O (sym are) b.outside;
      goal = λ some. subst B (sym are) (b.ends.goal none);
      few = omega (arith, b.few, ap (λ (z : List Entry). length z) are);
      units = b.units;
      counted = subst V (sym are) b.counted;
      within = omega (arith, b.paid, b.within);
    }

-- a new book beside a proof of the lower end
pub anew_reopened : (kind : LineKind) (line : Line) (m : ℕ) (plan : Plan) (X : ℕ) (h : Halving) (proof : List Entry)
    (book : BookView) (best : Assignment) → IsBetween kind line m plan h
    → IsKept kind line m (try_room plan) h.lower h.upper proof
    → (length proof ≡ 0 → h.lower ≤ 1)
    → book.about ≡ record { line = line; kind = kind; cycle = X } → book.state ≡ record { entries = []; best = best }
    → IsReserved book → h.lower ≤ X → X < h.upper → m < tasks line → IsTriedAt kind line m X h
    → IsReopened kind line m plan X (record {
      lower = h.lower;
      upper = h.upper;
      balance = h.balance;
      proof = proof;
      book = book;
      paid = 0;
      seeks = h.seeks;
    })
anew_reopened kind line m plan X h proof book best b k one about state reserved from to few tried =
    let none : book.state.entries ≡ [] = ap (λ z. z.entries) state in
    let O : List Entry → Type 0 = λ z. AreOutside h.lower h.upper z in
    let V : List Entry → Type 0 = λ z. UnitsOf line z 0 in
    record {
      between = record {
        ends = record {
          line_is = ap (λ (z : About). z.line) about;
          kind_is = ap (λ (z : About). z.kind) about;
          reserved = reserved;
          from = b.ends.from;
          met = b.ends.met;
          most = b.ends.most;
          limit = b.ends.limit;
          balance = b.ends.balance;
          proof = k;
          goal = λ z l. absurd (omega (arith, l, one z));
          seeks = b.ends.seeks;
        };
        outside = subst O (sym none) (λ i e g. absurd (cc));
        few = omega (arith, ap (λ (z : List Entry). length z) none);
        units = 0;
        counted = subst V (sym none) refl;
        paid = omega arith;
        within = omega arith;
      };
      cycle = ap (λ (z : About). z.cycle) about;
      from = from;
      to = to;
      stations = few;
      small = omega (arith, ap (λ (z : List Entry). length z) none);
      cheap = omega arith;
      tried = record { half = tried.half; ranked = tried.ranked };
    }

-- the book opened again at a cycle
pub again_reopened : (kind : LineKind) (line : Line) (m : ℕ) (plan : Plan) (X : ℕ) (h : Halving) (book : BookView)
    (best : Assignment) → IsBetween kind line m plan h → book ≡ reopened h.book X best book.room
    → (IsReserved h.book → IsReserved book) → length h.book.state.entries ≤ 1000000 → h.paid ≤ 1000000 → h.lower ≤ X
    → X < h.upper → m < tasks line → IsTriedAt kind line m X h
    → IsReopened kind line m plan X (record {
      lower = h.lower;
      upper = h.upper;
      balance = h.balance;
      proof = h.proof;
      book = book;
      paid = h.paid;
      seeks = h.seeks;
    })
again_reopened kind line m plan X h book best b is reserved small cheap from to few tried =
    let same : book.state.entries ≡ h.book.state.entries = ap (λ (z : BookView). z.state.entries) is in
    let O : List Entry → Type 0 = λ z. AreOutside h.lower h.upper z in
    let B : List Entry → Type 0 = λ z. length h.proof ≡ 0 → IsBelow line m z h.lower in
    let V : List Entry → Type 0 = λ z. UnitsOf line z b.units in
    record {
      between = record {
        ends = record {
          line_is = ap (λ (z : BookView). z.about.line) is ∙ b.ends.line_is;
          kind_is = ap (λ (z : BookView). z.about.kind) is ∙ b.ends.kind_is;
          reserved = reserved b.ends.reserved;
          from = b.ends.from;
          met = b.ends.met;
          most = b.ends.most;
          limit = b.ends.limit;
          balance = b.ends.balance;
          proof = b.ends.proof;
          goal = subst B (sym same) b.ends.goal;
          seeks = b.ends.seeks;
        };
        outside = subst O (sym same) b.outside;
        few = omega (arith, b.few, ap (λ (z : List Entry). length z) same);
        units = b.units;
        counted = subst V (sym same) b.counted;
        paid = b.paid;
        within = b.within;
      };
      cycle = ap (λ (z : BookView). z.about.cycle) is;
      from = from;
      to = to;
      stations = few;
      small = omega (arith, small, ap (λ (z : List Entry). length z) same);
      cheap = cheap;
      tried = record { half = tried.half; ranked = tried.ranked };
    }
