-- The lemmas of a seek: what is left of a scratch book that is trimmed.
use Rattle.std.proofs.Common.{◌≡◌, ℕ, zero, suc, ◌+◌, ◌<◌, ◌≤◌, Bool, List, length, sym, ap, ◌∙◌, subst, arith, Some}
use Rattle.std.specs.Prelude.{slice_get}
use Rattle.std.proofs.lemmas.Option.{slice_get_within}
use Rattle.line_instance.specs.Line.{Line, tasks}
use Rattle.line_rules.specs.Entries.{IsDerived}
use Rattle.line_rules.specs.Ranges.{AreEntries}
use Rattle.line_rules.specs.Units.{UnitsOf}
use Rattle.line_rules.specs.declared.types.Entry.{Entry}
use Rattle.line_rules.proofs.ListFacts.{get_some}
use Rattle.lemma_core.specs.Own.{AreStatable}
use Rattle.lemma_core.specs.Books.{BookView}
use Rattle.entry_lists.specs.Trim.{IsTrimmed}
use Rattle.entry_lists.proofs.TrimFacts.{trimmed_cycles}
use Rattle.round_helpers.proofs.SayableEntries.{entries_ok}
use Rattle.line_seek.specs.inner.Trying.{IsPaid}
use Rattle.line_seek.specs.Seeking.{AreSought}

-- ascending numbers are at least their places
in_order : (ns : List ℕ)
    → ((j k a b : ℕ) → j < k → slice_get ns j ≡ Some a → slice_get ns k ≡ Some b → a < b)
    → (k a : ℕ) → slice_get ns k ≡ Some a → k ≤ a
in_order ns rises zero a e = omega arith
in_order ns rises (suc k) a e =
    let b : (x : ℕ) × (slice_get ns k ≡ Some x) = get_some ns k (omega (arith, slice_get_within ns (suc k) a e)) in
    omega (arith, in_order ns rises k b.0 b.1, rises k (suc k) b.0 a (omega arith) b.1 e)

-- so a trimmed list has no more entries
trimmed_few : (es : List Entry) (set : List Bool) (most cycle : ℕ) (new : List Entry) → IsTrimmed es set most cycle new
    → (n : ℕ) → n ≤ length new → n ≤ length es
trimmed_few es set most cycle new t zero l = omega arith
trimmed_few es set most cycle new t (suc n) l =
    let at = t.entries.each n (omega (arith, l)) in
    omega (
      arith,
      in_order t.numbers t.kept.ascending n at.number at.kept,
      slice_get_within es at.number at.old at.there,
    )

pub sought_of : (book : BookView) (line : Line) (used : ℕ) (es new : List Entry) (set : List Bool) (most cycle : ℕ)
    → book.about.line ≡ line → es ≡ book.state.entries → IsPaid book used (used + 1)
    → IsDerived book.about.kind book.about.line es → AreStatable es → IsTrimmed es set most cycle new
    → ((line : Line) (old : ℕ) → UnitsOf line es old → (units : ℕ) × UnitsOf line new units × (units ≤ old))
    → ((n : ℕ) → AreEntries n es → AreEntries n new) → AreSought line book.about.cycle used new
sought_of book line used es new set most cycle same is p derived statable t units ranges =
    let U : List Entry → Type 0 = λ z. UnitsOf book.about.line z p.units in
    let S : Line → Type 0 = λ z. AreSought z book.about.cycle used new in
    let long : length es ≤ used + 1 = omega (arith, ap (λ (z : List Entry). length z) is, p.few) in
    let u : (m : ℕ) × UnitsOf book.about.line new m × (m ≤ p.units) =
    units book.about.line p.units (subst U (sym is) p.counted) in
    subst S same (record {
      ranges = λ l. ranges (tasks book.about.line)
          (entries_ok book.about.kind book.about.line es derived statable (omega (arith, long, l)));
      cycles = λ k e there.
          let o : (j : ℕ) × (x : Entry) × ((slice_get es j ≡ Some x) × (e.cycle ≡ x.cycle)) =
          trimmed_cycles es set most cycle new t k e there in
          o.2.1 ∙ p.cycles o.0 o.1 (sym (ap (λ (z : List Entry). slice_get z o.0) is) ∙ o.2.0);
      units = u.0;
      counted = u.1;
      paid = omega (arith, u.2, p.within);
      few = omega (arith, trimmed_few es set most cycle new t (length new) (omega arith), long);
    })
