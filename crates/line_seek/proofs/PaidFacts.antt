-- The scratch book of a seek is paid for, search by search.
use Rattle.std.proofs.Common.{◌≡◌, ℕ, ◌+◌, ◌≤◌, List, ◌++◌, length, length-append, refl, sym, ap, subst, arith, Option}
use Rattle.line_instance.specs.Line.{Line}
use Rattle.line_rules.specs.Units.{UnitsOf}
use Rattle.line_rules.specs.declared.types.LineKind.{LineKind}
use Rattle.line_rules.specs.declared.types.Mode.{Mode}
use Rattle.line_rules.specs.declared.types.Balance.{Balance as Assignment}
use Rattle.line_rules.specs.declared.types.Entry.{Entry}
use Rattle.line_rules.specs.declared.types.OpenFrame.{OpenFrame}
use Rattle.lemma_core.specs.Machine.{About}
use Rattle.lemma_core.specs.Desks.{Keeps}
use Rattle.lemma_core.specs.Own.{added_of}
use Rattle.lemma_core.specs.Books.{BookView, IsBook, desk_of, opened}
use Rattle.station_search.specs.Costs.{HasPublished, AddsFew}
use Rattle.round_helpers.specs.Growth.{AreAtCycle}
use Rattle.round_helpers.proofs.AddedEntries.{cycles_both}
use Rattle.round_helpers.proofs.BookGrowth.{goes_on}
use Rattle.line_seek.specs.inner.Trying.{Gains, IsPaid}
use Rattle.line_rules.proofs.ListUnits.{units_both}

-- a book that was opened has no entries
pub paid_none : (about : About) (best : Assignment) (book : BookView) → book ≡ opened about best → IsPaid book 0 0
paid_none about best book e =
    let P : BookView → Type 0 = λ z. IsPaid z 0 0 in
    subst P (sym e) (record {
      cycles = λ k x g. absurd (cc);
      few = omega arith;
      units = 0;
      counted = refl;
      within = omega arith;
    })

-- what a book gained is paid for beside what it had
pub paid_more : (old new : BookView) (a m b n : ℕ) → IsPaid old a m → Gains old new b n → IsPaid new (a + b) (m + n)
paid_more old new a m b n p g =
    let all : List Entry = old.state.entries ++ g.gained in
    let C : List Entry → Type 0 = λ z. AreAtCycle new.about.cycle z in
    let D : About → Type 0 = λ z. AreAtCycle z.cycle all in
    let U : List Entry → Type 0 = λ z. UnitsOf new.about.line z (p.units + g.units) in
    let V : About → Type 0 = λ z. UnitsOf z.line all (p.units + g.units) in
    record {
      cycles = subst C (sym g.goes_on.entries) (subst D (sym g.goes_on.about)
          (cycles_both old.about.cycle old.state.entries g.gained p.cycles g.goes_on.cycles));
      few = omega (
        arith,
        ap (λ (z : List Entry). length z) g.goes_on.entries,
        length-append old.state.entries g.gained,
        p.few,
        g.few,
      );
      units = p.units + g.units;
      counted = subst U (sym g.goes_on.entries) (subst V (sym g.goes_on.about)
          (units_both old.about.line old.state.entries g.gained p.units g.units p.counted g.counted));
      within = omega (arith, p.within, g.within);
    }

-- what a search adds to a book is paid for by the loads that it listed
pub gains_few : {asked : Option Mode} (old new : BookView) → IsBook old → IsBook new → Keeps (desk_of old) (desk_of new)
    → (kind : LineKind) (line : Line) (X : ℕ) → line ≡ old.about.line → X ≡ old.about.cycle
    → HasPublished asked kind line X (desk_of old) (desk_of new) → (frames : List OpenFrame) (used most paid all : ℕ)
    → used ≤ paid → most ≤ all
    → AddsFew line X (desk_of old) (desk_of new) frames used most → Gains old new paid all
gains_few old new ok okn k kind line X of_line of_cycle h frames used most paid all l m f =
    let P : Line → Type 0 = λ z. UnitsOf z (added_of f.items) f.published in
    record {
      gained = added_of f.items;
      goes_on = goes_on old new ok okn k kind line X of_line of_cycle h f.items f.did;
      few = omega (arith, f.few, m);
      units = f.published;
      counted = subst P of_line f.entry_units;
      within = omega (arith, f.sum, l);
    }

-- a book that is paid for is so with more units and more entries
pub paid_as : (book : BookView) (a m b n : ℕ) → a ≤ b → m ≤ n → IsPaid book a m → IsPaid book b n
paid_as book a m b n l k p = record {
  cycles = p.cycles;
  few = omega (arith, p.few, k);
  units = p.units;
  counted = p.counted;
  within = omega (arith, p.within, l);
}
