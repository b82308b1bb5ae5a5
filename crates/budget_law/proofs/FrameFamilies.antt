-- The families of the frames of a trail: of each frame its set, the number of all tasks, and the loads up to its last.
use Rattle.std.proofs.Common.{◌≡◌, ℕ, zero, suc, ◌-◌, ◌<◌, Bool, List, [], ◌∷◌, ◌++◌, refl, sym, ap, ◌∙◌, subst, arith}
use Rattle.std.proofs.Common.{Some}
use Rattle.std.specs.Prelude.{slice_get}
use Rattle.line_instance.specs.Truths.{In, IsSubset}
use Rattle.line_instance.specs.Line.{Line, IsTaskSet, tasks}
use Rattle.line_rules.specs.Loads.{IsLoad, Belongs, taken, rest}
use Rattle.line_rules.specs.Order.{UpTo}
use Rattle.line_rules.specs.Units.{FrameUnits, UnitsIn}
use Rattle.line_rules.specs.Trails.{IsTrail, Leads}
use Rattle.line_rules.specs.declared.types.LineKind.{LineKind}
use Rattle.line_rules.specs.declared.types.Load.{Load}
use Rattle.line_rules.specs.declared.types.Entry.{Entry}
use Rattle.line_rules.specs.declared.types.OpenFrame.{OpenFrame}
use Rattle.line_rules.proofs.Paths.{rest_inside, rest_without}
use Rattle.line_rules.proofs.Monotone.{rest_smaller}
use Rattle.budget_law.proofs.Families.{Family, IsFamily, AreDifferent, triples_of, listed_rise}

-- a frame of a trail from a question of R
record IsBelow (kind : LineKind) (line : Line) (R : List Bool) (f : OpenFrame) : Type 0 where
  tasks : IsTaskSet line f.set
  belongs : Belongs kind f.mode
  within : IsSubset f.set R

-- frames of sets of tasks, in modes of the kind of line, of which no two have one set
pub record AreFrames (kind : LineKind) (line : Line) (frames : List OpenFrame) : Type 0 where
  tasks : (k : ℕ) (f : OpenFrame) → slice_get frames k ≡ Some f → IsTaskSet line f.set
  belongs : (k : ℕ) (f : OpenFrame) → slice_get frames k ≡ Some f → Belongs kind f.mode
  different : (j k : ℕ) (a b : OpenFrame) → j < k → slice_get frames j ≡ Some a → slice_get frames k ≡ Some b
      → a.set ≡ b.set → ⊥

pub no_frames : (kind : LineKind) (line : Line) → AreFrames kind line []
no_frames kind line = record {
  tasks = λ k f e. absurd (cc);
  belongs = λ k f e. absurd (cc);
  different = λ j k a b l p q s. absurd (cc);
}

module _ (kind : LineKind) (line : Line) (X : ℕ) (es : List Entry) (deepest : OpenFrame)
    (deep : Belongs kind deepest.mode) where
  below_first : (g f : OpenFrame) (R : List Bool) → g ≡ f → g.set ≡ R → IsTaskSet line R → Belongs kind g.mode
      → IsBelow kind line R f
  below_first g f R e s t b =
      let P : OpenFrame → Type 0 = λ z. IsBelow kind line R z in
      let Q : List Bool → Type 0 = λ z. IsTaskSet line z in
      let S : List Bool → Type 0 = λ z. IsSubset z R in
      subst P e (record { tasks = subst Q (sym s) t; belongs = b; within = subst S (sym s) (λ i m. m) })

  -- the set of a frame that leads on, without its last load, is a set of tasks
  rest_tasks : (g : OpenFrame) (R : List Bool) (l : Load) → g.set ≡ R → IsTaskSet line R → IsLoad line X g.mode g.set l
      → IsTaskSet line (rest g.set l)
  rest_tasks g R l s t h =
      let Q : List Bool → Type 0 = λ z. IsTaskSet line z in
      (rest_smaller line X g.mode g.set l (subst Q (sym s) t) h).tasks

  all_below : (fs : List OpenFrame) (R : List Bool) (most : ℕ) → IsTaskSet line R
      → Leads kind line X es R most fs deepest.set deepest.most
      → (k : ℕ) (f : OpenFrame) → slice_get (fs ++ deepest ∷ []) k ≡ Some f → IsBelow kind line R f
  all_below [] R most t h zero f e = below_first deepest f R (cc) h.0 t deep
  all_below [] R most t h (suc k) f e = absurd (cc)
  all_below (g ∷ fs) R most t h zero f e = below_first g f R (cc) h.1.0 t h.1.2.belongs
  all_below (g ∷ fs) R most t h (suc k) f e =
      let S : List Bool → Type 0 = λ z. IsSubset f.set z in
      let r : IsBelow kind line (rest g.set h.0) f =
      all_below fs (rest g.set h.0) (g.most - 1)
      (rest_tasks g R h.0 h.1.0 t h.1.2.load) h.1.3 k f e in
      record {
        tasks = r.tasks;
        belongs = r.belongs;
        within = subst S h.1.0 (λ i m. rest_inside g.set h.0 i (r.within i m));
      }

  -- each frame has a task of its last load, and no frame below it has that task
  all_different : (fs : List OpenFrame) (R : List Bool) (most : ℕ) → IsTaskSet line R
      → Leads kind line X es R most fs deepest.set deepest.most
      → (j k : ℕ) (a b : OpenFrame) → j < k → slice_get (fs ++ deepest ∷ []) j ≡ Some a
      → slice_get (fs ++ deepest ∷ []) k ≡ Some b → a.set ≡ b.set → ⊥
  all_different [] R most t h j zero a b l p q e = omega (arith, l)
  all_different [] R most t h j (suc k) a b l p q e = cc
  all_different (g ∷ fs) R most t h j zero a b l p q e = omega (arith, l)
  all_different (g ∷ fs) R most t h zero (suc k) a b l p q e =
      let s : g ≡ a = cc in
      let i : (i : ℕ) × In (taken h.0) i = h.1.2.load.some in
      let P : List Bool → Type 0 = λ z. In z i.0 in
      let m : In b.set i.0 = subst P (ap (λ (z : OpenFrame). z.set) s ∙ e) (h.1.2.load.within i.0 i.1) in
      let r : IsBelow kind line (rest g.set h.0) b =
      all_below fs (rest g.set h.0) (g.most - 1)
      (rest_tasks g R h.0 h.1.0 t h.1.2.load) h.1.3 k b q in
      rest_without g.set h.0 i.0 i.1 (r.within i.0 m)
  all_different (g ∷ fs) R most t h (suc j) (suc k) a b l p q e =
      all_different fs (rest g.set h.0) (g.most - 1)
      (rest_tasks g R h.0 h.1.0 t h.1.2.load) h.1.3 j k a b
      (omega (arith, l)) p q e

-- the frames of a valid trail
pub trail_frames : (kind : LineKind) (line : Line) (X : ℕ) (es : List Entry) (R : List Bool) (most : ℕ)
    (frames : List OpenFrame) → IsTaskSet line R → IsTrail kind line X es R most frames → AreFrames kind line frames
trail_frames kind line X es R most frames t h =
    let there : (k : ℕ) (f : OpenFrame) → slice_get frames k ≡ Some f
    → slice_get (h.passed ++ h.deepest ∷ []) k ≡ Some f =
    λ k f g. sym (ap (λ (z : List OpenFrame). slice_get z k) h.all) ∙ g in
    let below : (k : ℕ) (f : OpenFrame) → slice_get frames k ≡ Some f → IsBelow kind line R f =
    λ k f g. all_below kind line X es h.deepest h.deep.belongs h.passed R most t h.leads k f (there k f g) in
    record {
      tasks = λ k f g. (below k f g).tasks;
      belongs = λ k f g. (below k f g).belongs;
      different = λ j k a b l p q s. all_different kind line X es h.deepest h.deep.belongs h.passed R most t h.leads j k
          a b l (there j a p) (there k b q) s;
    }

-- a family of the frame with its place, with the number of all tasks
pub record IsOfFrame (kind : LineKind) (line : Line) (X : ℕ) (frames : List OpenFrame) (k : ℕ) (f : Family)
    : Type 0 where
  pub family : IsFamily kind line X f
  pub number : f.number ≡ tasks line
  frame : OpenFrame
  there : slice_get frames k ≡ Some frame
  set : frame.set ≡ f.set

-- the families of frames, one for each, with as many triples as these have units
pub record FromFrames (kind : LineKind) (line : Line) (X : ℕ) (frames : List OpenFrame) (units : ℕ) : Type 0 where
  pub families : List Family
  pub sum : triples_of families ≡ units
  pub each : (k : ℕ) (f : Family) → slice_get families k ≡ Some f → IsOfFrame kind line X frames k f

module _ (kind : LineKind) (line : Line) (X : ℕ) where
  each_more : (f : OpenFrame) (fs : List OpenFrame) (b : ℕ) (g : Family) → IsFamily kind line X g
      → g.number ≡ tasks line → f.set ≡ g.set → (h : FromFrames kind line X fs b)
      → (k : ℕ) (x : Family) → slice_get (g ∷ h.families) k ≡ Some x → IsOfFrame kind line X (f ∷ fs) k x
  each_more f fs b g is n same h zero x e =
      let q : g ≡ x = cc in
      let P : Family → Type 0 = λ z. IsOfFrame kind line X (f ∷ fs) 0 z in
      subst P q (record { family = is; number = n; frame = f; there = refl; set = same })
  each_more f fs b g is n same h (suc k) x e =
      let r : IsOfFrame kind line X fs k x = h.each k x e in
      record { family = r.family; number = r.number; frame = r.frame; there = r.there; set = r.set }

  pub from_frames : (frames : List OpenFrame) (units : ℕ) → AreFrames kind line frames → UnitsIn line X frames units
      → FromFrames kind line X frames units
  from_frames [] units are u = record { families = []; sum = sym u; each = λ k f e. absurd (cc) }
  from_frames (f ∷ fs) units are u =
      let h : FromFrames kind line X fs u.1 = from_frames fs u.1 (record {
        tasks = λ k g e. are.tasks (suc k) g e;
        belongs = λ k g e. are.belongs (suc k) g e;
        different = λ j k a b l p q s. are.different (suc j) (suc k) a b (omega (arith, l)) p q s;
      }) u.2.1 in
      let c : FrameUnits line X f u.0 = u.2.0 in
      let g : Family = record { set = f.set; number = tasks line; mode = f.mode; loads = c.loads } in
      let is : IsFamily kind line X g = record {
        tasks = are.tasks 0 f refl;
        belongs = are.belongs 0 f refl;
        few = omega arith;
        rises = listed_rise line c.loads (λ l. IsLoad line X f.mode f.set l × UpTo line f.last l) c.listed;
        sound = λ k a e. (c.listed.sound k a e).0;
      } in
      record {
        families = g ∷ h.families;
        sum = omega (arith, h.sum, c.long, u.2.2);
        each = each_more f fs u.1 g is refl refl h;
      }

  pub frames_different : (frames : List OpenFrame) (units : ℕ) → AreFrames kind line frames
      → (h : FromFrames kind line X frames units) → AreDifferent h.families
  frames_different frames units are h j k x y l p q s n =
      let a : IsOfFrame kind line X frames j x = h.each j x p in
      let b : IsOfFrame kind line X frames k y = h.each k y q in
      are.different j k a.frame b.frame l a.there b.there (a.set ∙ (s ∙ sym b.set))
