-- The state of a search beside others, and its steps.
use Rattle.std.proofs.Common.{◌≡◌, ℕ, ◌+◌, ◌-◌, ◌<◌, ◌≤◌, List, [], ◌∷◌, ◌++◌, length, refl, sym, ap, ◌∙◌, subst, inl}
use Rattle.std.proofs.Common.{inr}
use Rattle.std.proofs.Common.{arith, Option, Some, None, Bool, length-append}
use Rattle.std.proofs.lemmas.Bool.{false≢true}
use Rattle.std.specs.Prelude.{slice_get}
use Rattle.line_instance.specs.Truths.{In, IsEmpty}
use Rattle.line_instance.specs.Line.{Line, IsRanked, IsTaskSet}
use Rattle.line_rules.specs.Loads.{IsLoad, Belongs, rest}
use Rattle.line_rules.specs.Bounds.{bound}
use Rattle.line_rules.specs.Order.{After, IsFollowing}
use Rattle.line_rules.specs.Entries.{IsOpen, Cites, Follows}
use Rattle.line_rules.specs.Trails.{IsPassed, IsDeepest, Leads}
use Rattle.line_rules.specs.Seats.{around, seated, AreSeated}
use Rattle.line_rules.specs.declared.types.LineKind.{LineKind}
use Rattle.line_rules.specs.declared.types.Mode.{Mode}
use Rattle.line_rules.specs.declared.types.Load.{Load}
use Rattle.line_rules.specs.declared.types.Entry.{Entry}
use Rattle.line_rules.specs.declared.types.Why.TheVariants as why
use Rattle.line_rules.specs.declared.types.OpenFrame.{OpenFrame}
use Rattle.line_rules.proofs.ListFacts.{get_longer, get_push_cases, get_last}
use Rattle.line_rules.proofs.Paths.{leads_pop, leads_depth, passed_longer, deep_longer}
use Rattle.lemma_core.specs.Desks.{DeskView, entries, Keeps}
use Rattle.lemma_core.proofs.OwnFacts.{entries_more}
use Rattle.station_search.specs.Mode.{frame_mode}
use Rattle.station_search.specs.Decide.{IsAnswered}
use Rattle.station_search.specs.inner.Work.{branch_of, with_last, with_cites}
use Rattle.station_search.specs.inner.Walks.{IfWhole, walks_left, all_left, unlisted}
use Rattle.station_search.specs.declared.searching_beside.Walk.{Walk}
use Rattle.station_search.specs.declared.searching_beside.Walk.TheVariants as walk_in
use Rattle.station_search.proofs.States.{IsSearching, IsHeld, starts, closed, covered, goes_up, deep_starts}
use Rattle.station_search.proofs.States.{deep_closed}
use Rattle.station_search.proofs.States.{deep_covered, deep_follows, passes, resumes, answer_cites}
use Rattle.station_search.proofs.LoopTurns.{first, answers_asked, down, found}

-- An entry that would refute every rest. A frame with put-off loads leads on as one whose cites all name this entry.
abbrev pub wild : ℕ → ℕ → Entry
wild most X = record { set = []; most = most; cycle = X; why = why.Bound }

wild_cites : (most X : ℕ) (T : List Bool) (r : ℕ) → r ≤ most → Cites (wild most X ∷ []) 0 T r X
wild_cites most X T r l = record {
  entry = wild most X;
  there = refl;
  part = λ i m. absurd (false≢true m);
  stations = l;
  cycle = omega arith;
}

-- the frames are the same but for their cites
abbrev pub AreAlike : List OpenFrame → List OpenFrame → Type 0
AreAlike [] [] = Unit {0}
AreAlike [] (g ∷ gs) = ⊥
AreAlike (f ∷ fs) [] = ⊥
AreAlike (f ∷ fs) (g ∷ gs) = (with_cites f [] ≡ with_cites g []) × AreAlike fs gs

alike_push : (fs gs : List OpenFrame) (f g : OpenFrame) → AreAlike fs gs → with_cites f [] ≡ with_cites g []
    → AreAlike (fs ++ f ∷ []) (gs ++ g ∷ [])
alike_push [] [] f g h e = (e, tt)
alike_push [] (y ∷ gs) f g h e = absurd h
alike_push (x ∷ fs) [] f g h e = absurd h
alike_push (x ∷ fs) (y ∷ gs) f g h e = (h.0, alike_push fs gs f g h.1 e)

alike_pop : (fs gs : List OpenFrame) (f : OpenFrame) → AreAlike (fs ++ f ∷ []) gs
    → (upper : List OpenFrame) × (g : OpenFrame) × ((gs ≡ upper ++ g ∷ []) × (with_cites f [] ≡ with_cites g [])
    × AreAlike fs upper)
alike_pop [] [] f h = absurd h
alike_pop [] (g ∷ []) f h = ([], g, (refl, h.0, tt))
alike_pop [] (g ∷ x ∷ gs) f h = absurd h.1
alike_pop (x ∷ fs) [] f h = absurd h
alike_pop (x ∷ fs) (g ∷ gs) f h =
    let r : (upper : List OpenFrame) × (y : OpenFrame) × ((gs ≡ upper ++ y ∷ [])
    × (with_cites f [] ≡ with_cites y []) × AreAlike fs upper) = alike_pop fs gs f h.1 in
    (g ∷ r.0, r.1, (ap (λ (z : List OpenFrame). g ∷ z) r.2.0, r.2.1, (h.0, r.2.2)))

alike_seated : (fs gs : List OpenFrame) (ls : List Load) → AreAlike fs gs → seated fs ls ≡ seated gs ls
alike_seated [] [] ls h = refl
alike_seated [] (g ∷ gs) ls h = absurd h
alike_seated (f ∷ fs) [] ls h = absurd h
alike_seated (f ∷ fs) (g ∷ gs) ls h =
    ap (λ (z : OpenFrame). around z.mode z.last (seated fs ls)) h.0
    ∙ ap (λ (z : List Load). around g.mode g.last z) (alike_seated fs gs ls h.1)

alike_none : (fs gs : List OpenFrame) → fs ≡ [] → AreAlike fs gs → gs ≡ []
alike_none [] [] e h = refl
alike_none [] (g ∷ gs) e h = absurd h
alike_none (f ∷ fs) gs e h = absurd (cc)

-- The frames lead from the question to the frame in hand, whatever was put off. Where no load of a frame was put off,
-- its cites cover its loads so far.
pub record IsWalking (asked : Option Mode) (kind : LineKind) (line : Line) (X : ℕ) (es : List Entry) (R : List Bool)
    (most : ℕ) (passed : List OpenFrame) (walks : List Walk) (frame : OpenFrame) (walk : Walk) : Type 0 where
  pub shades : List OpenFrame
  pub marks : List ℕ
  pub alike : AreAlike passed shades
  pub chain : IsSearching asked kind line X (wild most X ∷ []) R most shades (with_cites frame marks)
  pub as_many : length walks ≡ length passed
  pub whole : (k : ℕ) (f : OpenFrame) (w : Walk) → slice_get passed k ≡ Some f → slice_get walks k ≡ Some w
      → IfWhole w ((l : Load) × IsPassed kind line X es f l)
  pub deep : IfWhole walk (IsDeepest kind line X es frame)

pub if_whole : (w : Walk) (P Q : Type 0) → (P → Q) → IfWhole w P → IfWhole w Q
if_whole walk_in.First P Q f p = f p
if_whole walk_in.Gapped P Q f p = tt
if_whole walk_in.Second P Q f p = f p

-- the walks that may still be begun, where a frame is put on its stack
pub all_push : (ws : List Walk) (w : Walk) → all_left (ws ++ w ∷ []) ≡ all_left ws + walks_left w
all_push [] w = omega arith
all_push (x ∷ ws) w = omega (arith, all_push ws w)

module _ (asked : Option Mode) (kind : LineKind) (line : Line) (ranked : IsRanked line) (X : ℕ) (R : List Bool)
    (most : ℕ) where
  pub walk_starts : (es : List Entry) (passed : List OpenFrame) (walks : List Walk) (frame : OpenFrame) → passed ≡ []
      → walks ≡ [] → frame.set ≡ R → frame.most ≡ most → frame.mode ≡ frame_mode asked kind line R
      → Belongs kind frame.mode → frame.last ≡ None → frame.cites ≡ [] → ((i : ℕ) × In R i) → IsTaskSet line R
      → bound kind line X R ≤ most → IsWalking asked kind line X es R most passed walks frame walk_in.First
  walk_starts es passed walks frame e w s m d b l q some tasks bounded =
      let P : List OpenFrame → Type 0 = λ z. IsWalking asked kind line X es R most z walks frame walk_in.First in
      let Q : List Walk → Type 0 = λ z. IsWalking asked kind line X es R most [] z frame walk_in.First in
      subst P (sym e) (subst Q (sym w) (record {
        shades = [];
        marks = [];
        alike = tt;
        chain = first asked kind line ranked X R most (wild most X ∷ []) [] (with_cites frame []) refl s m d b l refl
            some tasks bounded;
        as_many = refl;
        whole = λ k f v g h. absurd (cc);
        deep = deep_starts kind line ranked X es frame b l q;
      }))

  -- the state over the entries that are there after a call
  pub walk_grown : (old new : DeskView) (passed : List OpenFrame) (walks : List Walk) (frame : OpenFrame) (walk : Walk)
      → Keeps old new → IsWalking asked kind line X (entries old) R most passed walks frame walk
      → IsWalking asked kind line X (entries new) R most passed walks frame walk
  walk_grown old new passed walks frame walk k s =
      let h : (more : List Entry) × (entries new ≡ entries old ++ more) = entries_more old new k in
      let P : List Entry → Type 0 = λ z. IsWalking asked kind line X z R most passed walks frame walk in
      subst P (sym h.1) (record {
        shades = s.shades;
        marks = s.marks;
        alike = s.alike;
        chain = s.chain;
        as_many = s.as_many;
        whole = λ j f w g q. if_whole w ((l : Load) × IsPassed kind line X (entries old) f l)
            ((l : Load) × IsPassed kind line X (entries old ++ h.0) f l)
            (λ p. (p.0, passed_longer kind line X (entries old) h.0 f p.0 p.1)) (s.whole j f w g q);
        deep = if_whole walk (IsDeepest kind line X (entries old) frame)
            (IsDeepest kind line X (entries old ++ h.0) frame)
            (deep_longer kind line X (entries old) h.0 frame) s.deep;
      })

  module _ (es : List Entry) (passed : List OpenFrame) (walks : List Walk) (frame : OpenFrame) (walk : Walk)
      (s : IsWalking asked kind line X es R most passed walks frame walk) where
    -- no frame has more stations than the question
    pub within_most : frame.most ≤ most
    within_most = omega
        (arith, leads_depth kind line X (wild most X ∷ []) s.shades R most frame.set frame.most s.chain.leads)

    -- where no frame waits, the one in hand has the question
    pub walk_asked : (es' : List Entry) (id : ℕ) → passed ≡ [] → IsAnswered es' id frame.set frame.most X
        → IsAnswered es' id R most X
    walk_asked es' id e a = answers_asked asked kind line ranked X R most (wild most X ∷ []) s.shades
        (with_cites frame s.marks) s.chain es' id (alike_none passed s.shades e s.alike) a

    -- the loads ended
    pub walk_follows : 1 ≤ X → ((l : Load) → IsLoad line X frame.mode frame.set l → After line frame.last l → ⊥)
        → IfWhole walk (Follows kind line es (branch_of X frame))
    walk_follows cycle none = if_whole walk (IsDeepest kind line X es frame)
        (Follows kind line es (branch_of X frame)) (λ d. deep_follows kind line ranked X es frame d cycle s.chain.some
        s.chain.tasks s.chain.stations none) s.deep

    -- the frame stands before its first load again
    pub walk_again : (again : OpenFrame) → again ≡ unlisted frame
        → IsWalking asked kind line X es R most passed walks again walk_in.Second
    walk_again again e =
        let P : OpenFrame → Type 0 = λ z. IsWalking asked kind line X es R most passed walks z walk_in.Second in
        subst P (sym e) (record {
          shades = s.shades;
          marks = [];
          alike = s.alike;
          chain = starts asked kind line ranked X R most (wild most X ∷ []) s.shades (unlisted frame) s.chain.leads
              s.chain.deep.belongs refl refl s.chain.some s.chain.tasks s.chain.has_mode s.chain.stations s.chain.held;
          as_many = s.as_many;
          whole = s.whole;
          deep = deep_starts kind line ranked X es (unlisted frame) s.chain.deep.belongs refl refl;
        })

    module _ (l : Load) (next : IsFollowing line X frame.mode frame.set frame.last l) where
      -- a load that needs no cite
      pub walk_closed : (IsOpen kind line X frame.mode frame.set frame.most l → ⊥)
          → IsWalking asked kind line X es R most passed walks (with_last frame l) walk
      walk_closed shut = record {
        shades = s.shades;
        marks = s.marks;
        alike = s.alike;
        chain = closed asked kind line ranked X R most (wild most X ∷ []) s.shades (with_cites frame s.marks) s.chain l
            next shut;
        as_many = s.as_many;
        whole = s.whole;
        deep = if_whole walk (IsDeepest kind line X es frame) (IsDeepest kind line X es (with_last frame l))
            (λ d. deep_closed kind line ranked X es frame d l next shut) s.deep;
      }

      module _ (o : IsOpen kind line X frame.mode frame.set frame.most l) where
        marked : IsSearching asked kind line X (wild most X ∷ []) R most s.shades
            (with_cites (with_last frame l) (s.marks ++ 0 ∷ []))
        marked = covered asked kind line ranked X R most (wild most X ∷ []) s.shades (with_cites frame s.marks) s.chain l
            next 0 (s.marks ++ 0 ∷ []) refl o (wild_cites most X (rest frame.set l) (frame.most - 1)
            (omega (arith, within_most)))

        -- a load whose rest an entry refutes
        pub walk_covered : (id : ℕ) (cites : List ℕ) → cites ≡ frame.cites ++ id ∷ []
            → Cites es id (rest frame.set l) (frame.most - 1) X
            → IsWalking asked kind line X es R most passed walks (with_cites (with_last frame l) cites) walk
        walk_covered id cites e y = record {
          shades = s.shades;
          marks = s.marks ++ 0 ∷ [];
          alike = s.alike;
          chain = marked;
          as_many = s.as_many;
          whole = s.whole;
          deep = if_whole walk (IsDeepest kind line X es frame)
              (IsDeepest kind line X es (with_cites (with_last frame l) cites))
              (λ d. deep_covered kind line ranked X es frame d l next id cites e o y) s.deep;
        }

        -- a load that is put off
        pub walk_puts_off : IsWalking asked kind line X es R most passed walks (with_last frame l) walk_in.Gapped
        walk_puts_off = record {
          shades = s.shades;
          marks = s.marks ++ 0 ∷ [];
          alike = s.alike;
          chain = marked;
          as_many = s.as_many;
          whole = s.whole;
          deep = tt;
        }

        alike_down : AreAlike (passed ++ with_last frame l ∷ [])
            (s.shades ++ with_cites (with_last frame l) s.marks ∷ [])
        alike_down = alike_push passed s.shades (with_last frame l) (with_cites (with_last frame l) s.marks) s.alike refl

        here : IfWhole walk ((k : Load) × IsPassed kind line X es (with_last frame l) k)
        here = if_whole walk (IsDeepest kind line X es frame)
            ((k : Load) × IsPassed kind line X es (with_last frame l) k)
            (λ d. (l, passes kind line ranked X es frame d l next s.chain.stations o)) s.deep

        -- the rest of the load is searched
        pub walk_down : (all : List OpenFrame) (with_this : List Walk) (below : OpenFrame) (set : List Bool)
            → all ≡ passed ++ with_last frame l ∷ [] → with_this ≡ walks ++ walk ∷ [] → below.set ≡ set
            → below.most ≡ frame.most - 1 → below.mode ≡ frame_mode asked kind line set → Belongs kind below.mode
            → below.last ≡ None → below.cites ≡ [] → set ≡ rest frame.set l → (IsEmpty set → ⊥)
            → IsWalking asked kind line X es R most all with_this below walk_in.First
        walk_down all with_this below set e w t m d b q z same full =
            let P : List OpenFrame → Type 0 = λ z. IsWalking asked kind line X es R most z with_this below walk_in.First in
            let Q : List Walk → Type 0 = λ z. IsWalking asked kind line X es R most (passed ++ with_last frame l ∷ []) z
            below walk_in.First in
            subst P (sym e) (subst Q (sym w) (record {
              shades = s.shades ++ with_cites (with_last frame l) s.marks ∷ [];
              marks = [];
              alike = alike_down;
              chain = down asked kind line ranked X R most (wild most X ∷ []) s.shades (with_cites frame s.marks) s.chain
                  l next o (s.shades ++ with_cites (with_last frame l) s.marks ∷ []) (with_cites below []) set refl t m d
                  b q refl same full;
              as_many = omega (
                arith,
                s.as_many,
                length-append walks (walk ∷ []),
                length-append passed (with_last frame l ∷ []),
              );
              whole = λ k f v g h. elim (get_push_cases passed (with_last frame l) f k g) [
                | inl i ↦ elim (get_push_cases walks walk v k h) [
                  | inl j ↦ s.whole k f v i.1 j.1
                  | inr j ↦ absurd (omega (arith, s.as_many, i.0, j.0))
                ]
                | inr i ↦ elim (get_push_cases walks walk v k h) [
                  | inl j ↦ absurd (omega (arith, s.as_many, i.0, j.0))
                  | inr j ↦ (let F : OpenFrame → Type 0 = λ y. IfWhole v ((m : Load) × IsPassed kind line X es y m) in
                      let W : Walk → Type 0 =
                      λ y. IfWhole y ((m : Load) × IsPassed kind line X es (with_last frame l) m) in
                      subst F i.1 (subst W j.1 here))
                ]
              ];
              deep = deep_starts kind line ranked X es below b q z;
            }))

        -- the rest of the load is empty
        pub walk_found : (all : List OpenFrame) (loads : List Load) → bound kind line X R ≤ most
            → all ≡ passed ++ with_last frame l ∷ [] → loads ≡ seated all [] → IsEmpty (rest frame.set l)
            → (bound kind line X R ≤ most) × (length loads ≤ most) × AreSeated kind line X R loads
        walk_found all loads bounded e d none =
            let shaded : List OpenFrame = s.shades ++ with_cites (with_last frame l) s.marks ∷ [] in
            found asked kind line ranked X R most (wild most X ∷ []) s.shades (with_cites frame s.marks) s.chain l next o
            shaded loads bounded refl (d ∙ (ap (λ (z : List OpenFrame). seated z []) e
            ∙ alike_seated (passed ++ with_last frame l ∷ []) shaded [] alike_down)) none

    -- an entry answers the frame's question, and the one above it goes on
    module _ (upper : List OpenFrame) (above : List Walk) (parent : OpenFrame) (w : Walk)
        (e : passed ≡ upper ++ parent ∷ []) (q : walks ≡ above ++ w ∷ []) where
      -- the frame's question is that of the last load of the one above it
      IsBelow : OpenFrame → Type 0
      IsBelow z = (l : Load) → z.last ≡ Some l
          → (frame.set ≡ rest z.set l) × (frame.most ≡ z.most - 1) × (bound kind line X (rest z.set l) < z.most)

      below_shade : (up : List OpenFrame) (shade : OpenFrame) → s.shades ≡ up ++ shade ∷ [] → IsBelow shade
      unfolding IsBelow
      below_shade up shade f l g =
          let D : List OpenFrame → Type 0 =
          λ z. Leads kind line X (wild most X ∷ []) R most z frame.set frame.most in
          let r : (k : Load) × (Leads kind line X (wild most X ∷ []) R most up shade.set shade.most
          × IsPassed kind line X (wild most X ∷ []) shade k × (frame.set ≡ rest shade.set k)
          × (frame.most ≡ shade.most - 1)) =
          leads_pop kind line X (wild most X ∷ []) up R most shade frame.set frame.most (subst D f s.chain.leads) in
          let h : IsHeld asked kind line X shade = s.chain.held (length up) shade
          (ap (λ (z : List OpenFrame). slice_get z (length up)) f ∙ get_last up shade) in
          let there : shade.last ≡ Some r.0 = r.1.1.last in
          let same : r.0 ≡ l = cc in
          (r.1.2 ∙ ap (λ (z : Load). rest shade.set z) same, r.1.3, h.open_rest l g)

      pub walk_up : (id : ℕ) (cites : List ℕ) → cites ≡ parent.cites ++ id ∷ [] → IsTaskSet line R
          → IsAnswered es id frame.set frame.most X
          → IsWalking asked kind line X es R most upper above (with_cites parent cites) w
      unfolding IsBelow
      walk_up id cites f tasks a =
          let A : List OpenFrame → Type 0 = λ z. AreAlike z s.shades in
          let r : (up : List OpenFrame) × (g : OpenFrame) × ((s.shades ≡ up ++ g ∷ [])
          × (with_cites parent [] ≡ with_cites g []) × AreAlike upper up) =
          alike_pop upper s.shades parent (subst A e s.alike) in
          let C : OpenFrame → Type 0 = λ z. IsSearching asked kind line X (wild most X ∷ []) R most r.0
          (with_cites z (r.1.cites ++ 0 ∷ [])) in
          let B : OpenFrame → Type 0 = λ z. IsBelow z in
          let below : IsBelow (with_cites parent []) = subst B (sym r.2.1) (below_shade r.0 r.1 r.2.0) in
          record {
            shades = r.0;
            marks = r.1.cites ++ 0 ∷ [];
            alike = r.2.2;
            chain = subst C (sym r.2.1) (goes_up asked kind line ranked X R most (wild most X ∷ []) s.shades r.0
                (with_cites frame s.marks) r.1 0 (r.1.cites ++ 0 ∷ []) r.2.0 refl tasks s.chain
                (λ T n same few. wild_cites most X T n (omega (arith, few, within_most))));
            as_many = omega (
              arith,
              s.as_many,
              ap (λ (z : List OpenFrame). length z) e,
              ap (λ (z : List Walk). length z) q,
              length-append upper (parent ∷ []),
              length-append above (w ∷ []),
            );
            whole = λ k g v h i. s.whole k g v
                (ap (λ (z : List OpenFrame). slice_get z k) e ∙ get_longer upper (parent ∷ []) k g h)
                (ap (λ (z : List Walk). slice_get z k) q ∙ get_longer above (w ∷ []) k v i);
            deep =
                let longs : length upper ≡ length above = omega (
                  arith,
                  s.as_many,
                  ap (λ (z : List OpenFrame). length z) e,
                  ap (λ (z : List Walk). length z) q,
                  length-append upper (parent ∷ []),
                  length-append above (w ∷ []),
                ) in
                if_whole w ((l : Load) × IsPassed kind line X es parent l)
                (IsDeepest kind line X es (with_cites parent cites))
                (λ p. let g = below p.0 p.1.last in
                resumes kind line ranked X es parent p.0 id cites f g.2 (answer_cites es id frame.set
                (rest parent.set p.0) frame.most (parent.most - 1) X g.0 g.1 a) p.1)
                (s.whole (length upper) parent w
                (ap (λ (z : List OpenFrame). slice_get z (length upper)) e ∙ get_last upper parent)
                (ap (λ (z : List Walk). slice_get z (length upper)) q
                ∙ (ap (λ (k : ℕ). slice_get (above ++ w ∷ []) k) longs ∙ get_last above w)));
          }
