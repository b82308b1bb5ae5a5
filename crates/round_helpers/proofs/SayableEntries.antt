-- Entries that follow from each other can be said by a certificate.
use Rattle.std.proofs.Common.{ℕ, ◌<◌, ◌≤◌, Bool, List, length, take, arith}
use Rattle.std.proofs.lemmas.Option.{slice_get_within}
use Rattle.line_instance.specs.Line.{Line, IsTaskSet, tasks}
use Rattle.line_rules.specs.Entries.{Covers, FollowsBy, IsDerived}
use Rattle.line_rules.specs.Ranges.{IsOf, AreCites, IsWhy, AreEntries}
use Rattle.line_rules.specs.declared.types.LineKind.{LineKind}
use Rattle.line_rules.specs.declared.types.Load.{Load}
use Rattle.line_rules.specs.declared.types.Entry.{Entry}
use Rattle.line_rules.specs.declared.types.Why.{Why}
use Rattle.line_rules.specs.declared.types.Why.TheVariants as why
use Rattle.line_rules.proofs.ListFacts.{get_some}
use Rattle.line_rules.proofs.LemmasHold.{get_take}
use Rattle.lemma_core.specs.Own.{AreStatable}

-- a set of tasks of the line
pub is_of : (line : Line) (s : List Bool) → IsTaskSet line s → IsOf (tasks line) s
is_of line s t = record { truths = t.truths; tasks = t.tasks }

-- cites that cover loads are of entries of the list
pub covered : (line : Line) (P : Load → Type 0) (es : List Entry) (R : List Bool) (most c : ℕ) (cites : List ℕ)
    → Covers line P es R most c cites → AreCites (length es) cites
covered line P es R most c cites v p cite there =
    let l = get_some v.loads p (omega (arith, slice_get_within cites p cite there, v.as_many)) in
    let at = v.cited p cite l.0 there l.1 in
    slice_get_within es cite at.entry at.there

-- why an entry holds that follows from earlier ones
why_ok : (kind : LineKind) (line : Line) (es : List Entry) (k : ℕ) (e : Entry) (w : Why) → k < length es
    → IsTaskSet line e.set → FollowsBy kind line (take k es) e w → IsWhy (tasks line) (length es) w
why_ok kind line es k e why.Bound h s f = tt
why_ok kind line es k e (why.Branch mode cites) h s f = λ p cite there.
    let l = get_some f.covers.loads p (omega (arith, slice_get_within cites p cite there, f.covers.as_many)) in
    let at = f.covers.cited p cite l.0 there l.1 in
    omega (arith, (get_take es k cite at.entry at.there).0)
why_ok kind line es k e (why.Swap cite out into) h s f =
    (omega (arith, (get_take es k cite f.entry f.there).0), (s.tasks out f.out_in, f.task))
why_ok kind line es k e (why.Pairs two) h s f = record { truths = f.truths; tasks = λ i m. s.tasks i (f.within i m) }

-- derived entries that a certificate can say
pub entries_ok : (kind : LineKind) (line : Line) (es : List Entry) → IsDerived kind line es → AreStatable es
    → length es ≤ 20000000 → AreEntries (tasks line) es
entries_ok kind line es d s many = record {
  many = many;
  each = λ k e there.
      let f = d k e there in
      record {
        set = is_of line e.set f.set;
        most = (s k e there).most;
        cycle = (s k e there).cycle;
        why = why_ok kind line es k e e.why (slice_get_within es k e there) f.set f.by;
      };
}
