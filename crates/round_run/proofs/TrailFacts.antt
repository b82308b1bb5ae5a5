-- The first frame of a trail has its question, and a trail that is open over some entries tells of them that they don't
-- answer it.
use Rattle.std.proofs.Common.{◌≡◌, ℕ, Bool, List, [], ◌∷◌, ◌++◌, refl, sym, ◌∙◌, subst, inl, inr, arith, Some}
use Rattle.std.specs.Prelude.{slice_get}
use Rattle.line_instance.specs.Line.{Line}
use Rattle.line_rules.specs.Balance.{all_tasks}
use Rattle.line_rules.specs.Entries.{IsUnanswered}
use Rattle.line_rules.specs.Trails.{Leads, IsTrail, IsOpenOver}
use Rattle.line_rules.specs.declared.types.LineKind.{LineKind}
use Rattle.line_rules.specs.declared.types.Entry.{Entry}
use Rattle.line_rules.specs.declared.types.OpenFrame.{OpenFrame}
use Rattle.station_search.proofs.Events.{get_append_cases}
use Rattle.round_helpers.specs.Growth.{AreAtCycle}

-- a trail begins with its question
module _ (kind : LineKind) (line : Line) (X : ℕ) (es : List Entry) (R : List Bool) (most : ℕ) where
  first_of : (ps : List OpenFrame) (d : OpenFrame) → Leads kind line X es R most ps d.set d.most
      → (f : OpenFrame) × (slice_get (ps ++ d ∷ []) 0 ≡ Some f) × (f.set ≡ R) × (f.most ≡ most)
  first_of [] d l = (d, refl, l.0, l.1)
  first_of (p ∷ ps) d l = (p, refl, l.1.0, l.1.1)

  pub first_frame : (fs : List OpenFrame) → IsTrail kind line X es R most fs
      → (f : OpenFrame) × (slice_get fs 0 ≡ Some f) × (f.set ≡ R) × (f.most ≡ most)
  first_frame fs t =
      let P : List OpenFrame → Type 0 = λ z. (f : OpenFrame) × (slice_get z 0 ≡ Some f) × (f.set ≡ R)
      × (f.most ≡ most) in
      subst P (sym t.all) (first_of t.passed t.deepest t.leads)

-- Some entries don't answer the question of a trail. Where further ones are all at the cycle of the trail, and it is
-- open over all of them, none answers it.
pub open_over : (kind : LineKind) (line : Line) (c most : ℕ) (es more all : List Entry) (trail : List OpenFrame)
    → all ≡ es ++ more → AreAtCycle c more → IsTrail kind line c all (all_tasks line) most trail
    → IsOpenOver line c all trail → IsUnanswered es (all_tasks line) most c → IsUnanswered all (all_tasks line) most c
open_over kind line c most es more all trail e at valid opens none k x g a =
    let P : List Entry → Type 0 = λ z. slice_get z k ≡ Some x in
    elim (get_append_cases es more k x (subst P e g)) [
      | inl y ↦ none k x y a
      | inr y ↦
          let f = first_frame kind line c all (all_tasks line) most trail valid in
          opens.unanswered 0 f.0 f.1 k x g (at y.0 x y.1) (record {
            same = a.same ∙ sym f.2;
            stations = omega (arith, a.stations, f.3);
            long = a.long;
          })
    ]
