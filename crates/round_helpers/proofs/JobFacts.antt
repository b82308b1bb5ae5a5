-- The loads gone over so far, those still ahead, and the open ones found.
use Rattle.std.proofs.Common.{◌≡◌, ℕ, zero, suc, ◌+◌, ◌-◌, ◌<◌, ◌≤◌, ◌⊎◌, Bool, true, false, cond, ◌&&◌, List, [], ◌∷◌}
use Rattle.std.proofs.Common.{◌++◌, length, take, map, refl, sym, ap, ◌∙◌, subst, inl, inr, arith, append_assoc}
use Rattle.std.proofs.Common.{length-append, Option, Some, None}
use Rattle.std.specs.Prelude.{slice_get, slice_index_or, nat_lt}
use Rattle.std.specs.List.{Contains}
use Rattle.std.proofs.lemmas.Bool.{and_parts, and_from, lt-ltb, ltb-true, cases_Bool}
use Rattle.std.proofs.lemmas.List.{append-nil, take_all, length-map, map_push}
use Rattle.std.proofs.Math.Seq.{take-append-add}
use Rattle.line_instance.specs.Line.{Line, IsLine, IsRanked, IsTaskSet}
use Rattle.line_rules.specs.Bounds.{bound}
use Rattle.line_rules.specs.Balance.{all_tasks}
use Rattle.line_rules.specs.Loads.{IsLoad, rest}
use Rattle.line_rules.specs.Order.{Precedes, After, IsFollowing, Lists}
use Rattle.line_rules.specs.Entries.{IsOpen}
use Rattle.line_rules.specs.declared.types.LineKind.{LineKind}
use Rattle.line_rules.specs.declared.types.Mode.{Mode}
use Rattle.line_rules.specs.declared.types.Load.{Load}
use Rattle.line_rules.proofs.LoadTests.{is_open, is_full, is_load, load_so, full_is, full_so, loads_of, loads_listed}
use Rattle.line_rules.proofs.LoadLists.{Amid, Rises, lists_of, pick, picked, picks, picked_rise, at_amid}
use Rattle.line_rules.proofs.Unique.{precedes_trans, first_less, tail_lists}
use Rattle.station_load.specs.Walking.{Walking, IsWalk}
use Rattle.station_search.specs.Mode.{mode_of}
use Rattle.round_helpers.specs.Jobs.{AreFirst, AreJobs, job_of, max_loads, max_jobs}
use Rattle.round_helpers.specs.declared.job_list.Job.{Job}
use Rattle.line_rules.proofs.ListFacts.{get_none}

-- a member by its place, and by the list
amid_from : (xs : List Load) (a : Load) (k : ℕ) → k < length xs → slice_index_or xs k a ≡ a → Amid a xs
amid_from [] a k l e = absurd (omega (arith, l))
amid_from (x ∷ xs) a zero l e = inl (sym e)
amid_from (x ∷ xs) a (suc k) l e = inr (amid_from xs a k (omega (arith, l)) e)

contains_so : (xs : List Load) (a : Load) → Amid a xs → Contains xs a
contains_so [] a m = absurd m
contains_so (x ∷ xs) a (inl e) = (0, omega arith, sym e)
contains_so (x ∷ xs) a (inr m) =
    let r : Contains xs a = contains_so xs a m in (suc r.0, omega (arith, r.1), r.2)

amid_take : (n : ℕ) (xs : List Load) (a : Load) → Amid a (take n xs) → Amid a xs
amid_take zero xs a m = absurd m
amid_take (suc n) [] a m = absurd m
amid_take (suc n) (x ∷ xs) a (inl e) = inl e
amid_take (suc n) (x ∷ xs) a (inr m) = inr (amid_take n xs a m)

rises_take : (line : Line) (n : ℕ) (xs : List Load) → Rises line xs → Rises line (take n xs)
rises_take line zero xs r = tt
rises_take line (suc n) [] r = tt
rises_take line (suc n) (x ∷ xs) r = (λ b m. r.0 b (amid_take n xs b m), rises_take line n xs r.1)

rises_of : (line : Line) (xs : List Load) (P : Load → Type 0) → Lists line P xs → Rises line xs
rises_of line [] P h = tt
rises_of line (x ∷ xs) P h = (
  λ b m.
      let r : (k : ℕ) × (slice_get xs k ≡ Some b) = at_amid xs b m in first_less line P x xs h r.0 b r.1,
  rises_of line xs (λ l. P l × Precedes line x l) (tail_lists line P x xs h),
)

pick_cons : (p : Load → Bool) (y : Load) (b : Bool) (xs ys zs : List Load) → xs ≡ ys ++ zs
    → cond b (y ∷ xs) xs ≡ cond b (y ∷ ys) ys ++ zs
pick_cons p y true xs ys zs e = ap (λ (z : List Load). y ∷ z) e
pick_cons p y false xs ys zs e = e

pick_push : (p : Load → Bool) (xs : List Load) (x : Load) → pick p (xs ++ x ∷ []) ≡ pick p xs ++ cond (p x) (x ∷ []) []
pick_push p [] x = refl
pick_push p (y ∷ xs) x =
    pick_cons p y (p y) (pick p (xs ++ x ∷ [])) (pick p xs) (cond (p x) (x ∷ []) []) (pick_push p xs x)

pick_both : (p : Load → Bool) (xs ys : List Load) → pick p (xs ++ ys) ≡ pick p xs ++ pick p ys
pick_both p [] ys = refl
pick_both p (x ∷ xs) ys = pick_cons p x (p x) (pick p (xs ++ ys)) (pick p xs) (pick p ys) (pick_both p xs ys)

take_none : (n : ℕ) → take {A = Load} n [] ≡ []
take_none zero = refl
take_none (suc n) = refl

take_no : (xs : List Load) → take 0 xs ≡ []
take_no [] = refl
take_no (x ∷ xs) = refl

-- what passes of the first n loads, where no more than n were gone over
picked_on : (p : Load → Bool) (n : ℕ) (done ahead : List Load) → length done ≤ n
    → pick p (take n (done ++ ahead)) ≡ pick p done ++ pick p (take (n - length done) ahead)
picked_on p n done ahead l =
    let k : length done + (n - length done) ≡ n = omega (arith, l) in
    let t : take n (done ++ ahead) ≡ done ++ take (n - length done) ahead =
    ap (λ (z : ℕ). take z (done ++ ahead)) (sym k) ∙ take-append-add done ahead (n - length done) in
    ap (λ (z : List Load). pick p z) t ∙ pick_both p done (take (n - length done) ahead)

-- The first m that pass of the first n loads begin with those of the loads gone over.
first_some : (p : Load → Bool) (n m : ℕ) (done ahead : List Load) → length done ≤ n → length (pick p done) ≤ m
    → take m (pick p (take n (done ++ ahead)))
    ≡ pick p done ++ take (m - length (pick p done)) (pick p (take (n - length done) ahead))
first_some p n m done ahead l few =
    let rest : List Load = pick p (take (n - length done) ahead) in
    let k : length (pick p done) + (m - length (pick p done)) ≡ m = omega (arith, few) in
    ap (λ (z : List Load). take m z) (picked_on p n done ahead l)
    ∙ (ap (λ (z : ℕ). take z (pick p done ++ rest)) (sym k)
    ∙ take-append-add (pick p done) rest (m - length (pick p done)))

-- They are those of the loads gone over, where these are n, or all, or m of them pass.
first_ones : (p : Load → Bool) (n m : ℕ) (done ahead : List Load) → length done ≤ n → length (pick p done) ≤ m
    → ((length done ≡ n) ⊎ (ahead ≡ [])) ⊎ (length (pick p done) ≡ m)
    → take m (pick p (take n (done ++ ahead))) ≡ pick p done
first_ones p n m done ahead l few ends =
    let none : take (n - length done) ahead ≡ [] → take m (pick p (take n (done ++ ahead))) ≡ pick p done = λ e.
    ap (λ (z : List Load). take m z) (picked_on p n done ahead l
    ∙ (ap (λ (z : List Load). pick p done ++ pick p z) e ∙ append-nil (pick p done)))
    ∙ take_all m (pick p done) few in
    elim ends [
      | inl x ↦ (elim x [
        | inl e ↦
            let z : n - length done ≡ 0 = omega (arith, e) in
            none (ap (λ (y : ℕ). take y ahead) z ∙ take_no ahead)
        | inr e ↦ none (ap (λ (y : List Load). take (n - length done) y) e ∙ take_none (n - length done))
      ])
      | inr e ↦
          let z : m - length (pick p done) ≡ 0 = omega (arith, e) in
          first_some p n m done ahead l few
          ∙ (ap (λ (y : ℕ). pick p done ++ take y (pick p (take (n - length done) ahead))) z
          ∙ (ap (λ (y : List Load). pick p done ++ y) (take_no (pick p (take (n - length done) ahead)))
          ∙ append-nil (pick p done)))
    ]

module _ (line : Line) (c : ℕ) (mode : Mode) (R : List Bool) where
  -- the loads after the last one
  abbrev pub Further : Option Load → Load → Type 0
  Further last l = IsLoad line c mode R l × After line last l

  after_on : (last : Option Load) (a b : Load) → After line last a → Precedes line a b → After line last b
  after_on None a b h p = tt
  after_on (Some l) a b h p = precedes_trans line l a b h p

  first_is : (last : Option Load) (x : Load) (xs : List Load) (l : Load) → Lists line (Further last) (x ∷ xs)
      → IsFollowing line c mode R last l → (k : ℕ) → slice_get (x ∷ xs) k ≡ Some l → x ≡ l
  first_is last x xs l h next zero e = cc
  first_is last x xs l h next (suc k) e =
      absurd (next.least x (h.sound 0 x refl).0 (h.sound 0 x refl).1 (first_less line (Further last) x xs h k l e))

  -- the load that follows is the first of those ahead
  next_first : (last : Option Load) (ahead : List Load) (l : Load) → Lists line (Further last) ahead
      → IsFollowing line c mode R last l
      → (more : List Load) × ((ahead ≡ l ∷ more) × Lists line (Further (Some l)) more)
  next_first last [] l h next =
      let r : (k : ℕ) × (slice_get [] k ≡ Some l) = h.complete l (next.load, next.above) in absurd (get_none r.0 l r.1)
  next_first last (x ∷ xs) l h next =
      let r : (k : ℕ) × (slice_get (x ∷ xs) k ≡ Some l) = h.complete l (next.load, next.above) in
      let same : x ≡ l = first_is last x xs l h next r.0 r.1 in
      let P : Load → Type 0 = λ z. Lists line (λ a. Further last a × Precedes line z a) xs in
      let t : Lists line (λ a. Further last a × Precedes line l a) xs =
      subst P same (tail_lists line (Further last) x xs h) in (
        xs,
        (
          λ i. same i ∷ xs,
          record {
            rises = t.rises;
            sound = λ k a e. ((t.sound k a e).0.0, (t.sound k a e).1);
            complete = λ a q. t.complete a ((q.0, after_on last l a next.above q.1), q.1);
          },
        ),
      )

  none_ahead : (last : Option Load) (ahead : List Load) → Lists line (Further last) ahead
      → ((l : Load) → IsLoad line c mode R l → After line last l → ⊥) → ahead ≡ []
  none_ahead last [] h none = refl
  none_ahead last (x ∷ xs) h none = absurd (none x (h.sound 0 x refl).0 (h.sound 0 x refl).1)

-- A walk over a set that has gone over k loads, and those among them that are full and whose rest the bound leaves
-- open, at most m.
pub record IsListing (kind : LineKind) (line : Line) (c : ℕ) (R : List Bool) (m most k : ℕ) (walk : Walking)
    (firsts : List Load) : Type 0 where
  pub is_walk : IsWalk line walk
  pub same_cycle : walk.cycle ≡ c
  pub same_mode : walk.mode ≡ mode_of kind line R
  pub same_set : walk.set ≡ R
  pub done : List Load
  pub ahead : List Load
  pub listed : Lists line (IsLoad line c (mode_of kind line R) R) (done ++ ahead)
  pub further : Lists line (Further line c (mode_of kind line R) R walk.last) ahead
  pub many : length done ≡ k
  pub found : firsts ≡ pick (λ l. is_open kind line c (mode_of kind line R) R most l) done
  pub few : length firsts ≤ m

-- The same walk, with the jobs of the loads that were found.
pub record IsJobListing (kind : LineKind) (line : Line) (c : ℕ) (R : List Bool) (most k : ℕ) (walk : Walking)
    (jobs : List Job) : Type 0 where
  pub firsts : List Load
  pub listing : IsListing kind line c R 4096 most k walk firsts
  pub each : jobs ≡ map (job_of R) firsts

-- the test of a load: it is full, and the bound leaves its rest open
abbrev pub wanted : LineKind → Line → ℕ → List Bool → ℕ → Load → Bool
wanted kind line c R most l = is_open kind line c (mode_of kind line R) R most l

module _ {kind : LineKind} {line : Line} (ok : IsLine line) (ranked : IsRanked line) {c : ℕ} {R : List Bool}
    (of_tasks : IsTaskSet line R) {most : ℕ} where
  -- the test of a load
  open_so : (l : Load) → IsOpen kind line c (mode_of kind line R) R most l → wanted kind line c R most l ≡ true
  open_so l o =
      and_from (is_load line c (mode_of kind line R) R l) (is_full line c (mode_of kind line R) R l
      && nat_lt (bound kind line c (rest R l)) most)
      (load_so line ok.small ranked c R of_tasks (mode_of kind line R) l o.load)
      (and_from (is_full line c (mode_of kind line R) R l) (nat_lt (bound kind line c (rest R l)) most)
      (full_so line ok.small ranked c R of_tasks (mode_of kind line R) l
      (record { front = o.load.front; back = o.load.back }) o.full)
      (lt-ltb (bound kind line c (rest R l)) most o.bound))

  open_is : (l : Load) → IsLoad line c (mode_of kind line R) R l → wanted kind line c R most l ≡ true
      → IsOpen kind line c (mode_of kind line R) R most l
  open_is l g t =
      let q : (is_full line c (mode_of kind line R) R l && nat_lt (bound kind line c (rest R l)) most) ≡ true =
      (and_parts (is_load line c (mode_of kind line R) R l)
      (is_full line c (mode_of kind line R) R l && nat_lt (bound kind line c (rest R l)) most) t).1 in
      let r : (is_full line c (mode_of kind line R) R l ≡ true) × (nat_lt (bound kind line c (rest R l)) most ≡ true) =
      and_parts (is_full line c (mode_of kind line R) R l) (nat_lt (bound kind line c (rest R l)) most) q in
      record {
        load = g;
        full = full_is line ok.small ranked c R of_tasks (mode_of kind line R) l r.0;
        bound = ltb-true (bound kind line c (rest R l)) most r.1;
      }

  shut_so : (l : Load) → IsLoad line c (mode_of kind line R) R l
      → (IsOpen kind line c (mode_of kind line R) R most l → ⊥) → wanted kind line c R most l ≡ false
  shut_so l g shut = elim (cases_Bool (wanted kind line c R most l))
      [ inl t ↦ absurd (shut (open_is l g t)) | inr f ↦ f ]

  -- a walk that has given no load
  pub starts : (m : ℕ) (walk : Walking) → IsWalk line walk → walk.cycle ≡ c → walk.mode ≡ mode_of kind line R
      → walk.set ≡ R
      → walk.last ≡ None → IsListing kind line c R m most 0 walk []
  starts m walk w cycle of_mode set last =
      let P : Option Load → Type 0 =
      λ z. Lists line (Further line c (mode_of kind line R) R z)
      (loads_of line ok.small ranked c R of_tasks (mode_of kind line R)) in
      let h : Lists line (IsLoad line c (mode_of kind line R) R)
      (loads_of line ok.small ranked c R of_tasks (mode_of kind line R)) =
      loads_listed line ok.small ranked c R of_tasks (mode_of kind line R) in
      record {
        is_walk = w;
        same_cycle = cycle;
        same_mode = of_mode;
        same_set = set;
        done = [];
        ahead = loads_of line ok.small ranked c R of_tasks (mode_of kind line R);
        listed = h;
        further = subst P (sym last) (record {
          rises = h.rises;
          sound = λ k a e. (h.sound k a e, tt);
          complete = λ a q. h.complete a q.0;
        });
        many = refl;
        found = refl;
        few = omega arith;
      }

  module _ {m k : ℕ} {walk : Walking} {firsts : List Load}
      (h : IsListing kind line c R m most k walk firsts) where
    following : (l : Load) → IsFollowing line walk.cycle walk.mode walk.set walk.last l
        → IsFollowing line c (mode_of kind line R) R walk.last l
    following l next =
        let P : ℕ → Type 0 = λ z. IsFollowing line z walk.mode walk.set walk.last l in
        let Q : Mode → Type 0 = λ z. IsFollowing line c z walk.set walk.last l in
        let S : List Bool → Type 0 = λ z. IsFollowing line c (mode_of kind line R) z walk.last l in
        subst S h.same_set (subst Q h.same_mode (subst P h.same_cycle next))

    -- no load is left
    pub over : ((l : Load) → IsLoad line walk.cycle walk.mode walk.set l → After line walk.last l → ⊥) → h.ahead ≡ []
    over none =
        let P : ℕ → Type 0 = λ z. (l : Load) → IsLoad line z walk.mode walk.set l → After line walk.last l → ⊥ in
        let Q : Mode → Type 0 = λ z. (l : Load) → IsLoad line c z walk.set l → After line walk.last l → ⊥ in
        let S : List Bool → Type 0 =
        λ z. (l : Load) → IsLoad line c (mode_of kind line R) z l → After line walk.last l → ⊥ in
        none_ahead line c (mode_of kind line R) R walk.last h.ahead h.further
        (subst S h.same_set (subst Q h.same_mode (subst P h.same_cycle none)))

    module _ {new : Walking} where
      goes : (l : Load) (b : Bool) → wanted kind line c R most l ≡ b
          → IsFollowing line c (mode_of kind line R) R walk.last l → IsWalk line new
          → new.cycle ≡ walk.cycle → new.mode ≡ walk.mode → new.set ≡ walk.set → new.last ≡ Some l → (more : List Load)
          → more ≡ firsts ++ cond b (l ∷ []) [] → length more ≤ m → IsListing kind line c R m most (k + 1) new more
      goes l b t next w cycle of_mode set last more e few =
          let r : (rest : List Load) × ((h.ahead ≡ l ∷ rest)
          × Lists line (Further line c (mode_of kind line R) R (Some l)) rest) =
          next_first line c (mode_of kind line R) R walk.last h.ahead l h.further next in
          let s : h.done ++ h.ahead ≡ (h.done ++ l ∷ []) ++ r.0 =
          ap (λ (z : List Load). h.done ++ z) r.1.0 ∙ sym (append_assoc h.done (l ∷ []) r.0) in
          let P : List Load → Type 0 = λ z. Lists line (IsLoad line c (mode_of kind line R) R) z in
          let Q : Option Load → Type 0 = λ z. Lists line (Further line c (mode_of kind line R) R z) r.0 in
          record {
            is_walk = w;
            same_cycle = cycle ∙ h.same_cycle;
            same_mode = of_mode ∙ h.same_mode;
            same_set = set ∙ h.same_set;
            done = h.done ++ l ∷ [];
            ahead = r.0;
            listed = subst P s h.listed;
            further = subst Q (sym last) r.1.1;
            many = omega (arith, h.many, length-append h.done (l ∷ []));
            found = e ∙ (ap (λ (z : List Load). z ++ cond b (l ∷ []) []) h.found
                ∙ (ap (λ (z : Bool). pick (wanted kind line c R most) h.done ++ cond z (l ∷ []) []) (sym t)
                ∙ sym (pick_push (wanted kind line c R most) h.done l)));
            few = few;
          }

      module _ (l : Load) (next : IsFollowing line walk.cycle walk.mode walk.set walk.last l) (w : IsWalk line new)
          (cycle : new.cycle ≡ walk.cycle) (of_mode : new.mode ≡ walk.mode) (set : new.set ≡ walk.set)
          (last : new.last ≡ Some l) where
        -- a load that is not open
        pub passes : (IsOpen kind line c new.mode R most l → ⊥) → IsListing kind line c R m most (k + 1) new firsts
        passes shut =
            let P : Mode → Type 0 = λ z. IsOpen kind line c z R most l → ⊥ in
            goes l false (shut_so l (following l next).load (subst P (of_mode ∙ h.same_mode) shut)) (following l next) w
            cycle of_mode set last firsts (sym (append-nil firsts)) h.few

        -- a load that is
        pub joins : IsOpen kind line c new.mode R most l → length firsts < m
            → IsListing kind line c R m most (k + 1) new (firsts ++ l ∷ [])
        joins open_here few =
            let P : Mode → Type 0 = λ z. IsOpen kind line c z R most l in
            goes l true (open_so l (subst P (of_mode ∙ h.same_mode) open_here)) (following l next) w cycle of_mode set
            last
            (firsts ++ l ∷ []) refl (omega (arith, few, length-append firsts (l ∷ [])))

  module _ (n : ℕ) {m k : ℕ} {walk : Walking} {firsts : List Load}
      (h : IsListing kind line c R m most k walk firsts) (within : k ≤ n) where
    -- the first m of those that are open among the first n loads
    abbrev firsts_all : List Load
    firsts_all = take m (pick (wanted kind line c R most) (take n (h.done ++ h.ahead)))

    are_first : AreFirst kind line c R n m most firsts_all
    are_first =
        let r : Rises line (take n (h.done ++ h.ahead)) =
        rises_take line n (h.done ++ h.ahead)
        (rises_of line (h.done ++ h.ahead) (IsLoad line c (mode_of kind line R) R) h.listed) in
        record {
          loads = h.done ++ h.ahead;
          listed = h.listed;
          left = pick (wanted kind line c R most) (take n (h.done ++ h.ahead));
          picked = lists_of line
              (λ a. IsOpen kind line c (mode_of kind line R) R most a × Contains (take n (h.done ++ h.ahead)) a)
              (pick (wanted kind line c R most) (take n (h.done ++ h.ahead)))
              (picked_rise line (wanted kind line c R most) (take n (h.done ++ h.ahead)) r)
              (λ a x.
              let s : Amid a (take n (h.done ++ h.ahead)) × (wanted kind line c R most a ≡ true) =
              picked (wanted kind line c R most) a (take n (h.done ++ h.ahead)) x in
              let t : (j : ℕ) × (slice_get (h.done ++ h.ahead) j ≡ Some a) =
              at_amid (h.done ++ h.ahead) a (amid_take n (h.done ++ h.ahead) a s.0) in
              (open_is a (h.listed.sound t.0 a t.1) s.1, contains_so (take n (h.done ++ h.ahead)) a s.0))
              (λ a q. picks (wanted kind line c R most) a (take n (h.done ++ h.ahead))
              (amid_from (take n (h.done ++ h.ahead)) a q.1.0 q.1.1 q.1.2) (open_so a q.0));
          first = refl;
        }

    long : length firsts ≡ length (pick (wanted kind line c R most) h.done)
    long = ap (λ (z : List Load). length z) h.found

    -- those found so far are the first ones of these
    pub some_firsts : (all : List Load) × AreFirst kind line c R n m most all
        × ((more : List Load) × (all ≡ firsts ++ more))
    some_firsts =
        let more : List Load =
        take (m - length (pick (wanted kind line c R most) h.done))
        (pick (wanted kind line c R most) (take (n - length h.done) h.ahead)) in (
          firsts_all,
          are_first,
          (
            more,
            first_some (wanted kind line c R most) n m h.done h.ahead (omega (arith, h.many, within))
                (omega (arith, long, h.few))
                ∙ ap (λ (z : List Load). z ++ more) (sym h.found),
          ),
        )

    -- and all of them, where n loads were gone over, or all, or m were found
    pub all_firsts : ((k ≡ n) ⊎ (h.ahead ≡ [])) ⊎ (length firsts ≡ m) → AreFirst kind line c R n m most firsts
    all_firsts ends =
        let these : ((length h.done ≡ n) ⊎ (h.ahead ≡ [])) ⊎ (length (pick (wanted kind line c R most) h.done) ≡ m) =
        elim ends [
          | inl x ↦ inl (elim x [ inl e ↦ inl (omega (arith, e, h.many)) | inr e ↦ inr e ])
          | inr e ↦ inr (omega (arith, e, long))
        ] in
        let P : List Load → Type 0 = λ z. AreFirst kind line c R n m most z in
        subst P (first_ones (wanted kind line c R most) n m h.done h.ahead (omega (arith, h.many, within))
        (omega (arith, long, h.few)) these
        ∙ sym h.found) are_first

  -- a job more
  pub job_joins : {k : ℕ} {walk new : Walking} {jobs : List Job} (more : List Job)
      (h : IsJobListing kind line c R most k walk jobs) (l : Load) (r : List Bool)
      → IsFollowing line walk.cycle walk.mode walk.set walk.last l → IsWalk line new → new.cycle ≡ walk.cycle
      → new.mode ≡ walk.mode → new.set ≡ walk.set → new.last ≡ Some l
      → (r ≡ rest R l) × IsOpen kind line c new.mode R most l → more ≡ jobs ++ record { set = r; load = l } ∷ []
      → length jobs < 4096 → IsJobListing kind line c R most (k + 1) new more
  job_joins {jobs = jobs} more h l r next w cycle of_mode set last o e few = record {
    firsts = h.firsts ++ l ∷ [];
    listing = joins h.listing l next w cycle of_mode set last o.1
        (omega (arith, few, ap (λ (z : List Job). length z) h.each, length-map h.firsts (job_of R)));
    each = e ∙ (ap (λ (z : List Bool). jobs ++ record { set = z; load = l } ∷ []) o.0
        ∙ (ap (λ (z : List Job). z ++ job_of R l ∷ []) h.each ∙ sym (map_push (job_of R) h.firsts l)));
  }

  -- the jobs, where so many loads were gone over, or all, or so many jobs were found
  pub all_jobs : {k : ℕ} {walk : Walking} {jobs : List Job} (h : IsJobListing kind line c R most k walk jobs)
      → R ≡ all_tasks line → k ≤ 65536 → ((k ≡ 65536) ⊎ (h.listing.ahead ≡ [])) ⊎ (length jobs ≡ 4096)
      → AreJobs kind line c most jobs
  unfolding max_loads max_jobs
  all_jobs {k = k} {jobs = jobs} h all l ends =
      let long : length jobs ≡ length h.firsts =
      ap (λ (z : List Job). length z) h.each ∙ length-map h.firsts (job_of R) in
      let these : ((k ≡ 65536) ⊎ (h.listing.ahead ≡ [])) ⊎ (length h.firsts ≡ 4096) =
      elim ends [ inl x ↦ inl x | inr e ↦ inr (omega (arith, e, long)) ] in
      let P : List Bool → Type 0 = λ z. AreFirst kind line c z 65536 4096 most h.firsts in
      record {
        firsts = h.firsts;
        are = subst P all (all_firsts 65536 h.listing l these);
        each = h.each ∙ ap (λ (z : List Bool). map (job_of z) h.firsts) all;
      }
