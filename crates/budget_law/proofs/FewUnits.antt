-- The families of the entries and of the frames are different, so the units at a cycle are few.
use Rattle.std.proofs.Common.{◌≡◌, ℕ, ◌+◌, ◌*◌, ◌^◌, ◌<◌, true, false, Bool, cond, List, [], ◌++◌, refl, inl, inr}
use Rattle.std.proofs.Common.{arith, Option, Some, None}
use Rattle.std.specs.Prelude.{nat_eq}
use Rattle.std.proofs.lemmas.Bool.{eqb-true}
use Rattle.line_instance.specs.Line.{Line, IsRanked, tasks}
use Rattle.line_rules.specs.Balance.{all_tasks}
use Rattle.line_rules.specs.Trails.{IsTrail}
use Rattle.line_rules.specs.Units.{UnitsIn, TrailUnitsAt}
use Rattle.line_rules.specs.declared.types.LineKind.{LineKind}
use Rattle.line_rules.specs.declared.types.Entry.{Entry}
use Rattle.line_rules.specs.declared.types.OpenFrame.{OpenFrame}
use Rattle.line_rules.specs.declared.types.Trail.{Trail}
use Rattle.line_rules.proofs.FreeSets.{all_of}
use Rattle.budget_law.specs.Budget.{states, HasTrailAt, UnitsAreFew}
use Rattle.budget_law.proofs.Families.{get_append_cases, different_append, triples_append}
use Rattle.budget_law.proofs.DistinctTriples.{few_triples}
use Rattle.budget_law.proofs.EntryFamilies.{FromEntries, from_entries}
use Rattle.budget_law.proofs.FrameFamilies.{AreFrames, FromFrames, no_frames, trail_frames, from_frames}
use Rattle.budget_law.proofs.FrameFamilies.{frames_different}

-- the frames whose units a trail adds
record Adds (kind : LineKind) (line : Line) (X units : ℕ) : Type 0 where
  frames : List OpenFrame
  are : AreFrames kind line frames
  sum : UnitsIn line X frames units

module _ (kind : LineKind) (line : Line) (X : ℕ) (es : List Entry) where
  adds_none : (units : ℕ) → units ≡ 0 → Adds kind line X units
  adds_none units u = record { frames = []; are = no_frames kind line; sum = u }

  adds_here : (trail : Trail) (units : ℕ) (here : Bool) → nat_eq trail.cycle X ≡ here
      → HasTrailAt kind line X es (Some trail) → cond here (UnitsIn line X trail.frames units) (units ≡ 0)
      → Adds kind line X units
  adds_here trail units true same h u =
      let t : (most : ℕ) × IsTrail kind line X es (all_tasks line) most trail.frames =
      h (eqb-true trail.cycle X same) in
      record {
        frames = trail.frames;
        are = trail_frames kind line X es (all_tasks line) t.0 trail.frames (all_of line) t.1;
        sum = u;
      }
  adds_here trail units false same h u = adds_none units u

  adds : (trail : Option Trail) (units : ℕ) → HasTrailAt kind line X es trail → TrailUnitsAt line X trail units
      → Adds kind line X units
  adds None units h u = adds_none units u
  adds (Some trail) units h u = adds_here trail units (nat_eq trail.cycle X) refl h u

  -- an entry's number is below that of all tasks, which is a frame's
  together : IsRanked line → (frames : List OpenFrame) (a b : ℕ) → AreFrames kind line frames
      → FromEntries kind line X es a → FromFrames kind line X frames b
      → a + b < (tasks line + 1) * states kind ^ tasks line
  together ranked frames a b are e f = omega (
    arith,
    e.sum,
    f.sum,
    triples_append e.families f.families,
    few_triples kind line ranked X (e.families ++ f.families)
        (λ k s g. elim (get_append_cases e.families f.families k s g)
        [ inl x ↦ (e.each k s x).family | inr y ↦ (f.each y.0 s y.2).family ])
        (different_append e.families f.families e.different (frames_different kind line X frames b are f)
        (λ j k x y p q s n. omega (arith, (e.each j x p).below, (f.each k y q).number, n))),
  )

pub units_few : UnitsAreFew
units_few kind line ok ranked X short es trail derived fresh valid units u =
    let t : Adds kind line X u.1 = adds kind line X es trail u.1 valid u.2.1 in
    omega (
      arith,
      u.2.2,
      together kind line X es ranked t.frames u.0 u.1 t.are
          (from_entries kind line ok ranked X short es derived fresh u.0 u.2.0)
          (from_frames kind line X t.frames u.1 t.are t.sum),
    )
