-- Entries that are added to entries: their units, their cycles, and the questions that they answer.
use Rattle.std.proofs.Common.{◌≡◌, ℕ, zero, suc, ◌≤◌, Bool, List, [], ◌∷◌, ◌++◌, sym, ap, ◌∙◌, inl, inr}
use Rattle.std.proofs.Common.{arith, Option}
use Rattle.line_instance.specs.Line.{Line}
use Rattle.line_rules.specs.Bounds.{bound}
use Rattle.line_rules.specs.Entries.{HasAnswer}
use Rattle.line_rules.specs.declared.types.LineKind.{LineKind}
use Rattle.line_rules.specs.declared.types.Mode.{Mode}
use Rattle.line_rules.specs.declared.types.Entry.{Entry}
use Rattle.station_search.specs.Costs.{AreLemmas}
use Rattle.station_search.specs.Decide.{Decides}
use Rattle.station_search.specs.declared.answers.Reason.{Reason}
use Rattle.station_search.specs.declared.answers.Reason.TheVariants as reason
use Rattle.station_search.specs.declared.answers.Decided.TheVariants as decided
use Rattle.station_search.proofs.Events.{get_append_cases}
use Rattle.round_helpers.specs.Growth.{AreAtCycle}

-- both lists are at the cycle
pub cycles_both : (X : ℕ) (xs ys : List Entry) → AreAtCycle X xs → AreAtCycle X ys → AreAtCycle X (xs ++ ys)
cycles_both X xs ys h k i e g = elim (get_append_cases xs ys i e g) [ inl a ↦ h i e a | inr b ↦ k b.0 e b.1 ]

-- what answers a question answers it for fewer stations
pub has_fewer : (es : List Entry) (set : List Bool) (most fewer X : ℕ) → fewer ≤ most → HasAnswer es set most X
    → HasAnswer es set fewer X
has_fewer es set most fewer X l h =
    (h.0, h.1, (h.2.0, record { same = h.2.1.same; stations = omega (arith, l, h.2.1.stations); long = h.2.1.long }))

pub lemmas_at : (asked : Option Mode) (kind : LineKind) (line : Line) (X : ℕ) (es : List Entry)
    → AreLemmas asked kind line X es → AreAtCycle X es
lemmas_at asked kind line X [] h k e g = absurd (cc)
lemmas_at asked kind line X (x ∷ es) h zero e g =
    let same : x ≡ e = cc in
    sym (ap (λ (z : Entry). z.cycle) same) ∙ h.0
lemmas_at asked kind line X (x ∷ es) h (suc k) e g = lemmas_at asked kind line X es h.2 k e g

-- a question that was refuted, and not by the bound, has an entry
pub refuted_has : (asked : Option Mode) (kind : LineKind) (line : Line) (X : ℕ) (es : List Entry) (R : List Bool)
    (most left : ℕ) (r : Reason)
    → bound kind line X R ≤ most → Decides asked kind line X es R most left (decided.Refuted r) → HasAnswer es R most X
refuted_has asked kind line X es R most left reason.ByBound b d = absurd (omega (arith, b, d))
refuted_has asked kind line X es R most left (reason.ByEntry id) b d = (id, d.1.entry, (d.1.there, d.1.answers))
