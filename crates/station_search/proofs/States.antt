-- The state of a search, and its steps.
use Rattle.std.proofs.Common.{◌≡◌, ℕ, ◌-◌, ◌<◌, ◌≤◌, List, [], ◌∷◌, ◌++◌, length, refl, sym, ap, ◌∙◌, subst, inl, inr}
use Rattle.std.proofs.Common.{arith, Option, Some, None, Bool}
use Rattle.std.specs.Prelude.{slice_get}
use Rattle.line_instance.specs.Truths.{In, IsSubset}
use Rattle.line_instance.specs.Line.{Line, IsRanked, IsTaskSet}
use Rattle.line_rules.specs.Loads.{IsLoad, Belongs, taken, rest}
use Rattle.line_rules.specs.Bounds.{bound}
use Rattle.line_rules.specs.Order.{Precedes, UpTo, After, IsFollowing}
use Rattle.line_rules.specs.Entries.{IsOpen, Cites, Covers, Follows}
use Rattle.line_rules.specs.Trails.{LastIsLoad, IsPassed, IsDeepest, Leads, IsTrail}
use Rattle.line_rules.specs.declared.types.LineKind.{LineKind}
use Rattle.line_rules.specs.declared.types.Mode.{Mode}
use Rattle.line_rules.specs.declared.types.Load.{Load}
use Rattle.line_rules.specs.declared.types.Entry.{Entry}
use Rattle.line_rules.specs.declared.types.OpenFrame.{OpenFrame}
use Rattle.line_rules.proofs.CoverFacts.{covers_same, covers_none}
use Rattle.line_rules.proofs.ListFacts.{get_longer, get_push_cases, get_last}
use Rattle.line_rules.proofs.Paths.{all_up_to, covers_pass, covers_skip, covers_cite, leads_push, leads_pop}
use Rattle.line_rules.proofs.Paths.{leads_longer, deep_longer, rest_inside}
use Rattle.station_search.specs.Mode.{frame_mode}
use Rattle.station_search.specs.Decide.{IsAnswered}
use Rattle.station_search.specs.inner.Work.{branch_of, with_last, with_cites}
use Rattle.line_instance.proofs.Bits.{length-minus}

-- of a frame that waits for the one below it: its set is one of tasks, it has the mode of its set, and the bound leaves
-- the rest of its last load open
pub record IsHeld (asked : Option Mode) (kind : LineKind) (line : Line) (X : ℕ) (f : OpenFrame) : Type 0 where
  pub tasks : IsTaskSet line f.set
  pub has_mode : f.mode ≡ frame_mode asked kind line f.set
  pub open_rest : (l : Load) → f.last ≡ Some l → bound kind line X (rest f.set l) < f.most

-- The frames lead from the question to the frame in hand, which is as a deepest frame is, of a set of tasks that isn't
-- empty.
pub record IsSearching (asked : Option Mode) (kind : LineKind) (line : Line) (X : ℕ) (es : List Entry) (R : List Bool)
    (most : ℕ) (passed : List OpenFrame) (frame : OpenFrame) : Type 0 where
  pub leads : Leads kind line X es R most passed frame.set frame.most
  pub deep : IsDeepest kind line X es frame
  pub some : (i : ℕ) × In frame.set i
  pub tasks : IsTaskSet line frame.set
  pub has_mode : frame.mode ≡ frame_mode asked kind line frame.set
  pub stations : 1 ≤ frame.most
  pub held : (k : ℕ) (f : OpenFrame) → slice_get passed k ≡ Some f → IsHeld asked kind line X f

-- the rest of a set of tasks is one
pub rest_tasks : (line : Line) (R : List Bool) (l : Load) → IsTaskSet line R → IsTaskSet line (rest R l)
rest_tasks line R l t = record {
  truths = length-minus R (taken l) ∙ t.truths;
  tasks = λ i n. t.tasks i (rest_inside R l i n);
}

-- what the cites of a frame cover, where they are those of all its loads so far
module _ (kind : LineKind) (line : Line) (ranked : IsRanked line) (X : ℕ) (es : List Entry) (frame : OpenFrame) where
  -- before its first load
  pub deep_starts : Belongs kind frame.mode → frame.last ≡ None → frame.cites ≡ [] → IsDeepest kind line X es frame
  deep_starts belongs last cites =
      let P : OpenFrame → Type 0 = λ z. IsDeepest kind line X es z in
      let e : record { set = frame.set; most = frame.most; mode = frame.mode; last = None; cites = [] } ≡ frame =
      λ i. record {
        set = frame.set;
        most = frame.most;
        mode = frame.mode;
        last = sym last i;
        cites = sym cites i;
      } in
      subst P e (record {
        belongs = belongs;
        last = tt;
        covers =
            covers_none line (λ k. IsOpen kind line X frame.mode frame.set frame.most k × UpTo line None k) es
            frame.set
            frame.most X (λ l p. p.1);
      })

  module _ (deep : IsDeepest kind line X es frame) where
    module _ (l : Load) (next : IsFollowing line X frame.mode frame.set frame.last l) where
      -- a load that needs no cite
      pub deep_closed : (IsOpen kind line X frame.mode frame.set frame.most l → ⊥)
          → IsDeepest kind line X es (with_last frame l)
      deep_closed shut = record {
        belongs = deep.belongs;
        last = next.load;
        covers = covers_skip line ranked X frame.mode frame.set frame.last deep.last l next kind es frame.most
            frame.cites deep.covers shut;
      }

      before : Covers line (λ k. IsOpen kind line X frame.mode frame.set frame.most k × Precedes line k l) es frame.set
          frame.most X frame.cites
      before = covers_pass line ranked X frame.mode frame.set frame.last deep.last l next kind es frame.most
          frame.cites deep.covers

      -- a load whose rest an entry refutes
      pub deep_covered : (id : ℕ) (cites : List ℕ) → cites ≡ frame.cites ++ id ∷ []
          → IsOpen kind line X frame.mode frame.set frame.most l → Cites es id (rest frame.set l) (frame.most - 1) X
          → IsDeepest kind line X es (with_cites (with_last frame l) cites)
      deep_covered id cites e o y = record {
        belongs = deep.belongs;
        last = next.load;
        covers = let P : List ℕ → Type 0 = λ z. Covers line
            (λ k. IsOpen kind line X frame.mode frame.set frame.most k × UpTo line (Some l) k) es frame.set frame.most
            X z in
            subst P (sym e) (covers_cite kind line X frame.mode frame.set es frame.most frame.cites l id o y before);
      }

      -- a load whose rest is searched
      pub passes : 1 ≤ frame.most → IsOpen kind line X frame.mode frame.set frame.most l
          → IsPassed kind line X es (with_last frame l) l
      passes stations o = record {
        belongs = deep.belongs;
        stations = stations;
        last = refl;
        load = next.load;
        full = o.full;
        covers = before;
      }

    -- the loads ended
    pub deep_follows : 1 ≤ X → ((i : ℕ) × In frame.set i) → IsTaskSet line frame.set → 1 ≤ frame.most
        → ((l : Load) → IsLoad line X frame.mode frame.set l → After line frame.last l → ⊥)
        → Follows kind line es (branch_of X frame)
    deep_follows cycle some tasks stations none = record {
      set = tasks;
      cycle = cycle;
      by = record {
        some = some;
        stations = stations;
        belongs = deep.belongs;
        covers = covers_same line (λ k. IsOpen kind line X frame.mode frame.set frame.most k × UpTo line frame.last k)
            (IsOpen kind line X frame.mode frame.set frame.most) es frame.set frame.most X frame.cites
            (λ l p. p.0) (λ l o. (o, all_up_to line ranked X frame.mode frame.set frame.last deep.last none l o.load))
            deep.covers;
      };
    }

  -- the rest of its last load is refuted
  pub resumes : (l : Load) (id : ℕ) (cites : List ℕ) → cites ≡ frame.cites ++ id ∷ []
      → bound kind line X (rest frame.set l) < frame.most → Cites es id (rest frame.set l) (frame.most - 1) X
      → IsPassed kind line X es frame l → IsDeepest kind line X es (with_cites frame cites)
  resumes l id cites e b y p =
      let o : IsOpen kind line X frame.mode frame.set frame.most l =
      record { load = p.load; full = p.full; bound = b } in
      let U : Option Load → Type 0 = λ z. Covers line (λ k. IsOpen kind line X frame.mode frame.set frame.most k
      × UpTo line z k) es frame.set frame.most X cites in
      let V : List ℕ → Type 0 = λ z. Covers line (λ k. IsOpen kind line X frame.mode frame.set frame.most k
      × UpTo line (Some l) k) es frame.set frame.most X z in
      let L : Option Load → Type 0 = λ z. LastIsLoad line X frame.mode frame.set z in
      record {
        belongs = p.belongs;
        last = subst L (sym p.last) p.load;
        covers = subst U (sym p.last) (subst V (sym e) (covers_cite kind line X frame.mode frame.set es frame.most
            frame.cites l id o y p.covers));
      }

-- an entry that answers a question is one that a load with this rest may cite
pub answer_cites : (es : List Entry) (id : ℕ) (T R : List Bool) (r most X : ℕ) → T ≡ R → r ≡ most
    → IsAnswered es id T r X → Cites es id R most X
answer_cites es id T R r most X same few a = record {
  entry = a.entry;
  there = a.there;
  part = let S : List Bool → Type 0 = λ z. IsSubset z R in subst S (sym (a.answers.same ∙ same)) (λ i m. m);
  stations = omega (arith, a.answers.stations, few);
  cycle = a.answers.long;
}

module _ (asked : Option Mode) (kind : LineKind) (line : Line) (ranked : IsRanked line) (X : ℕ) (R : List Bool)
    (most : ℕ) where
  -- a frame of which no load was listed
  pub starts : (es : List Entry) (passed : List OpenFrame) (frame : OpenFrame)
      → Leads kind line X es R most passed frame.set frame.most → Belongs kind frame.mode → frame.last ≡ None
      → frame.cites ≡ [] → ((i : ℕ) × In frame.set i)
      → IsTaskSet line frame.set → frame.mode ≡ frame_mode asked kind line frame.set → 1 ≤ frame.most
      → ((k : ℕ) (f : OpenFrame) → slice_get passed k ≡ Some f → IsHeld asked kind line X f)
      → IsSearching asked kind line X es R most passed frame
  starts es passed frame leads belongs last cites some tasks has_mode stations held = record {
    leads = leads;
    deep = deep_starts kind line ranked X es frame belongs last cites;
    some = some;
    tasks = tasks;
    has_mode = has_mode;
    stations = stations;
    held = held;
  }

  pub longer : (es more : List Entry) (passed : List OpenFrame) (frame : OpenFrame)
      → IsSearching asked kind line X es R most passed frame
      → IsSearching asked kind line X (es ++ more) R most passed frame
  longer es more passed frame s = record {
    leads = leads_longer kind line X es more passed R most frame.set frame.most s.leads;
    deep = deep_longer kind line X es more frame s.deep;
    some = s.some;
    tasks = s.tasks;
    has_mode = s.has_mode;
    stations = s.stations;
    held = s.held;
  }

  module _ (es : List Entry) (passed : List OpenFrame) (frame : OpenFrame)
      (s : IsSearching asked kind line X es R most passed frame) where
    module _ (l : Load) (next : IsFollowing line X frame.mode frame.set frame.last l) where
      -- a load that needs no cite
      pub closed : (IsOpen kind line X frame.mode frame.set frame.most l → ⊥)
          → IsSearching asked kind line X es R most passed (with_last frame l)
      closed shut = record {
        leads = s.leads;
        deep = deep_closed kind line ranked X es frame s.deep l next shut;
        some = s.some;
        tasks = s.tasks;
        has_mode = s.has_mode;
        stations = s.stations;
        held = s.held;
      }

      -- a load whose rest an entry refutes
      pub covered : (id : ℕ) (cites : List ℕ) → cites ≡ frame.cites ++ id ∷ []
          → IsOpen kind line X frame.mode frame.set frame.most l → Cites es id (rest frame.set l) (frame.most - 1) X
          → IsSearching asked kind line X es R most passed (with_cites (with_last frame l) cites)
      covered id cites e o y = record {
        leads = s.leads;
        deep = deep_covered kind line ranked X es frame s.deep l next id cites e o y;
        some = s.some;
        tasks = s.tasks;
        has_mode = s.has_mode;
        stations = s.stations;
        held = s.held;
      }

      -- a load whose rest is searched
      pub goes_down : IsOpen kind line X frame.mode frame.set frame.most l
          → Leads kind line X es R most (passed ++ with_last frame l ∷ []) (rest frame.set l) (frame.most - 1)
      goes_down o = leads_push kind line X es passed R most (with_last frame l) l s.leads
          (passes kind line ranked X es frame s.deep l next s.stations o)

      pub holds_on : IsOpen kind line X frame.mode frame.set frame.most l → (k : ℕ) (f : OpenFrame)
          → slice_get (passed ++ with_last frame l ∷ []) k ≡ Some f → IsHeld asked kind line X f
      holds_on o k f e = elim (get_push_cases passed (with_last frame l) f k e) [
        | inl h ↦ s.held k f h.1
        | inr h ↦ (let P : OpenFrame → Type 0 = λ z. IsHeld asked kind line X z in subst P h.1 (record {
          tasks = s.tasks;
          has_mode = s.has_mode;
          open_rest = λ m q. let B : Load → Type 0 = λ z. bound kind line X (rest frame.set z) < frame.most in
              let w : l ≡ m = cc in subst B w o.bound;
        }))
      ]

    -- the loads ended
    pub follows : 1 ≤ X → ((l : Load) → IsLoad line X frame.mode frame.set l → After line frame.last l → ⊥)
        → Follows kind line es (branch_of X frame)
    follows cycle none = deep_follows kind line ranked X es frame s.deep cycle s.some s.tasks s.stations none

    -- the trail of a search that stops here
    pub trail : IsTrail kind line X es R most (passed ++ frame ∷ [])
    trail = record { passed = passed; deepest = frame; all = refl; leads = s.leads; deep = s.deep }

  -- an entry refutes the frame's question, and the one above it goes on
  pub goes_up : (es : List Entry) (passed upper : List OpenFrame) (frame parent : OpenFrame) (id : ℕ) (cites : List ℕ)
      → passed ≡ upper ++ parent ∷ [] → cites ≡ parent.cites ++ id ∷ [] → IsTaskSet line R
      → IsSearching asked kind line X es R most passed frame
      → ((T : List Bool) (r : ℕ) → frame.set ≡ T → frame.most ≡ r → Cites es id T r X)
      → IsSearching asked kind line X es R most upper (with_cites parent cites)
  goes_up es passed upper frame parent id cites e f tasks s y =
      let D : List OpenFrame → Type 0 = λ z. Leads kind line X es R most z frame.set frame.most in
      let r : (l : Load) × (Leads kind line X es R most upper parent.set parent.most × IsPassed kind line X es parent l
      × (frame.set ≡ rest parent.set l) × (frame.most ≡ parent.most - 1)) =
      leads_pop kind line X es upper R most parent frame.set frame.most (subst D e s.leads) in
      let l : Load = r.0 in
      let p : IsPassed kind line X es parent l = r.1.1 in
      let here : slice_get passed (length upper) ≡ Some parent =
      ap (λ (z : List OpenFrame). slice_get z (length upper)) e ∙ get_last upper parent in
      let h : IsHeld asked kind line X parent = s.held (length upper) parent here in
      record {
        leads = r.1.0;
        deep = resumes kind line ranked X es parent l id cites f (h.open_rest l p.last)
            (y (rest parent.set l) (parent.most - 1) r.1.2 r.1.3) p;
        some = (p.load.some.0, p.load.within p.load.some.0 p.load.some.1);
        tasks = h.tasks;
        has_mode = h.has_mode;
        stations = p.stations;
        held = λ k g q. s.held k g (ap (λ (z : List OpenFrame). slice_get z k) e
            ∙ get_longer upper (parent ∷ []) k g q);
      }
