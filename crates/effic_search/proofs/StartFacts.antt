-- The first book of a search, and the search before its first try.
use Rattle.std.proofs.Common.{◌≡◌, ℕ, zero, suc, ◌+◌, ◌-◌, ◌*◌, ◌<◌, ◌≤◌, ◌⊎◌, List, [], ◌∷◌, ◌++◌, length, take, refl}
use Rattle.std.proofs.Common.{sym, ap}
use Rattle.std.proofs.Common.{◌∙◌}
use Rattle.std.proofs.Common.{subst, inl, inr, arith, true, Option, Some, None, length-append, replicate}
use Rattle.std.specs.Prelude.{slice_get, nat_eq, ◌&&◌}
use Rattle.std.proofs.lemmas.Bool.{cases_eq, and_from}
use Rattle.std.proofs.lemmas.List.{get_or-replicate}
use Rattle.std.proofs.Math.Seq.{take-length}
use Rattle.line_instance.specs.Truths.{In}
use Rattle.line_instance.proofs.Members.{In-full_to_below}
use Rattle.line_instance.specs.Line.{Line, IsLine, has, tasks}
use Rattle.line_instance.proofs.Sums.{sum_where-le}
use Rattle.line_rules.specs.Balance.{IsRight, all_tasks, seat}
use Rattle.line_rules.specs.Bounds.{total_time}
use Rattle.line_rules.specs.Entries.{HasAnswer, IsLastAnswer}
use Rattle.line_rules.specs.Units.{UnitsBy, UnitsOf}
use Rattle.line_rules.specs.declared.types.LineKind.{LineKind}
use Rattle.line_rules.specs.declared.types.Entry.{Entry}
use Rattle.line_rules.specs.declared.types.Balance.{Balance as Assignment}
use Rattle.line_rules.specs.declared.types.Seatplace.{Seatplace}
use Rattle.line_rules.specs.declared.types.Side.TheVariants.{Front}
use Rattle.line_rules.specs.declared.types.Why.{Why}
use Rattle.line_rules.specs.declared.types.Why.TheVariants as why
use Rattle.line_rules.proofs.ListFacts.{get_last}
use Rattle.lemma_core.specs.Machine.{About, last_answer}
use Rattle.lemma_core.specs.Books.{BookView, IsReserved, ran, DoesPublish}
use Rattle.lemma_core.specs.declared.types.Event.TheVariants as event
use Rattle.lemma_core.specs.declared.types.Published.{Published}
use Rattle.lemma_core.specs.declared.types.Published.TheVariants as published
use Rattle.lemma_core.proofs.Runs.{last_found}
use Rattle.station_search.proofs.Events.{get_append_cases}
use Rattle.cycle_search.specs.rounds.declared.plans.Plan.{Plan}
use Rattle.cycle_search.proofs.SeekFacts.{seeks_none}
use Rattle.cycle_search.specs.Ends.{NoneApart, first_lower, first_upper, at_first}
use Rattle.cycle_search.proofs.EndFacts.{first_right}
use Rattle.effic_search.specs.Counted.{AreGoalsByBound, other, others, IsCounted}
use Rattle.effic_search.specs.inner.Going.{IsFloored, IsTight, IsGoing, IsPaid}
use Rattle.effic_search.specs.inner.Opening.{IsGoalByBound, AddsGoal, IsFirstBook}
use Rattle.effic_search.specs.Since.{IsSinceGoal}
use Rattle.effic_search.specs.declared.counting.Listed.{Listed}
use Rattle.effic_search.specs.declared.lowering.Lowering.{Lowering}
use Rattle.effic_search.proofs.CountFacts.{all_listed}
use Rattle.effic_search.proofs.SinceFacts.{since_goal, since_none, since_other}
use Rattle.line_rules.proofs.LongerLists.{has_longer}
use Rattle.line_rules.proofs.ListUnits.{units_both}

-- publishing an entry
module _ (b : BookView) (e : Entry) where
  abbrev after : BookView
  after = ran b (event.Publish e ∷ [])

  ran_adds : (o : Option ℕ) → last_answer b.state.entries e.set e.most e.cycle ≡ o
      → (after.state.entries ≡ b.state.entries) ⊎ (after.state.entries ≡ b.state.entries ++ e ∷ [])
  ran_adds (Some id) g = rw g (inl refl)
  ran_adds None g = rw g (inr refl)

  ran_answers : (o : Option ℕ) → last_answer b.state.entries e.set e.most e.cycle ≡ o
      → HasAnswer after.state.entries e.set e.most e.cycle
  ran_answers (Some id) g =
      let a : IsLastAnswer b.state.entries e.set e.most e.cycle id = last_found b.state.entries e.set e.most e.cycle id
      g in
      rw g (id, a.entry, (a.there, a.answers))
  ran_answers None g = rw g (
    length b.state.entries,
    e,
    (get_last b.state.entries e, record { same = refl; stations = omega arith; long = omega arith }),
  )

  -- the entries stay, or it is added
  pub adds_one : (new : BookView) (r : Published) → DoesPublish b e r new
      → (new.state.entries ≡ b.state.entries) ⊎ (new.state.entries ≡ b.state.entries ++ e ∷ [])
  adds_one new (published.Known id) d =
      let P : BookView → Type 0 = λ z. (z.state.entries ≡ b.state.entries)
      ⊎ (z.state.entries ≡ b.state.entries ++ e ∷ []) in
      subst P (sym d.1) (ran_adds (last_answer b.state.entries e.set e.most e.cycle) refl)
  adds_one new (published.Added id) d =
      let P : BookView → Type 0 = λ z. (z.state.entries ≡ b.state.entries)
      ⊎ (z.state.entries ≡ b.state.entries ++ e ∷ []) in
      subst P (sym d.1) (ran_adds (last_answer b.state.entries e.set e.most e.cycle) refl)
  adds_one new published.NoMemory d = inl (ap (λ (z : BookView). z.state.entries) d)

  pub stays_about : (new : BookView) (r : Published) → DoesPublish b e r new → new.about ≡ b.about
  stays_about new (published.Known id) d = ap (λ (z : BookView). z.about) d.1
  stays_about new (published.Added id) d = ap (λ (z : BookView). z.about) d.1
  stays_about new published.NoMemory d = ap (λ (z : BookView). z.about) d

  -- an entry of the book answers it then
  pub has_one : (new : BookView) (r : Published) → DoesPublish b e r new → (r ≡ published.NoMemory → ⊥)
      → HasAnswer new.state.entries e.set e.most e.cycle
  has_one new (published.Known id) d some =
      let P : BookView → Type 0 = λ z. HasAnswer z.state.entries e.set e.most e.cycle in
      subst P (sym d.1) (ran_answers (last_answer b.state.entries e.set e.most e.cycle) refl)
  has_one new (published.Added id) d some =
      let P : BookView → Type 0 = λ z. HasAnswer z.state.entries e.set e.most e.cycle in
      subst P (sym d.1) (ran_answers (last_answer b.state.entries e.set e.most e.cycle) refl)
  has_one new published.NoMemory d some = absurd (some refl)

  -- where it is by Bound of all tasks
  pub adds_goal : (line : Line) (new : BookView) (r : Published) → DoesPublish b e r new → IsGoalByBound line e
      → AddsGoal line b.state.entries new.state.entries
  adds_goal line new r d goal = elim (adds_one new r d) [ inl s ↦ inl s | inr a ↦ inr (e, a, goal) ]

-- a book without an entry
pub first_none : (kind : LineKind) (line : Line) (least : ℕ) (b : BookView)
    → b.about ≡ record { line = line; kind = kind; cycle = first_upper line } → b.state.entries ≡ [] → IsReserved b
    → IsFirstBook kind line least least b
first_none kind line least b about none reserved =
    let S : List Entry → Type 0 = λ z. (X : ℕ) → IsSinceGoal line X z [] in
    let U : List Entry → Type 0 = λ z. UnitsOf line z 0 in
    let B : List Entry → Type 0 = λ z. (k : ℕ) (e : Entry) → slice_get z k ≡ Some e → e.why ≡ why.Bound in
    let G : List Entry → Type 0 = λ z. AreGoalsByBound line z in
    record {
      about = about;
      reserved = reserved;
      clear = subst S (sym none) (λ X. since_none line X);
      bounds = subst B (sym none) (λ k e g. absurd (cc));
      goals = subst G (sym none) (λ k e g. absurd (cc));
      none = ap (λ (z : List Entry). others z) none;
      units = subst U (sym none) refl;
      few = omega (arith, ap (λ (z : List Entry). length z) none);
      floored = λ m from to. absurd (omega (arith, from, to));
    }

module _ (kind : LineKind) (line : Line) (least m next : ℕ) (old new : BookView) (step : next ≡ m + 1)
    (h : IsFirstBook kind line least m old) (about : new.about ≡ old.about) (reserved : IsReserved new)
    (floored : IsFloored line new.state.entries m) where
  -- the entries stay
  stays : new.state.entries ≡ old.state.entries → IsFirstBook kind line least next new
  stays q =
      let S : List Entry → Type 0 = λ z. (X : ℕ) → IsSinceGoal line X z [] in
      let U : List Entry → Type 0 = λ z. UnitsOf line z 0 in
      let B : List Entry → Type 0 = λ z. (k : ℕ) (e : Entry) → slice_get z k ≡ Some e → e.why ≡ why.Bound in
      let F : List Entry → Type 0 = λ z. (s : ℕ) → least ≤ s → s < m → IsFloored line z s in
      let G : List Entry → Type 0 = λ z. AreGoalsByBound line z in
      record {
        about = about ∙ h.about;
        reserved = reserved;
        clear = subst S (sym q) h.clear;
        bounds = subst B (sym q) h.bounds;
        goals = subst G (sym q) h.goals;
        none = ap (λ (z : List Entry). others z) q ∙ h.none;
        units = subst U (sym q) h.units;
        few = omega (arith, h.few, step, ap (λ (z : List Entry). length z) q);
        floored = λ s from to. elim (cases_eq s m) [
          | inl e ↦ (let P : ℕ → Type 0 = λ z. IsFloored line new.state.entries z in subst P (sym e) floored)
          | inr n ↦ subst F (sym q) h.floored s from (omega (arith, to, step, n))
        ];
      }

  -- an entry by Bound of all tasks is added
  adds : (e : Entry) → new.state.entries ≡ old.state.entries ++ e ∷ [] → IsGoalByBound line e
      → IsFirstBook kind line least next new
  adds e q goal =
      let es : List Entry = old.state.entries in
      let S : List Entry → Type 0 = λ z. (X : ℕ) → IsSinceGoal line X z [] in
      let U : List Entry → Type 0 = λ z. UnitsOf line z 0 in
      let B : List Entry → Type 0 = λ z. (k : ℕ) (x : Entry) → slice_get z k ≡ Some x → x.why ≡ why.Bound in
      let F : List Entry → Type 0 = λ z. (s : ℕ) → least ≤ s → s < m → IsFloored line z s in
      let G : List Entry → Type 0 = λ z. AreGoalsByBound line z in
      let W : Why → Type 0 = λ z. other z ≡ 0 in
      let zero_one : other e.why ≡ 0 = subst W (sym goal.1) refl in
      record {
        about = about ∙ h.about;
        reserved = reserved;
        clear = subst S (sym q) (λ X. elim (cases_eq e.cycle X) [
          | inl c ↦ since_goal line X (es ++ e ∷ []) es e refl c goal.0
          | inr n ↦ since_other line X es (e ∷ []) [] (one_other X n) (h.clear X)
        ]);
        bounds = subst B (sym q) (λ k x g. elim (get_append_cases es (e ∷ []) k x g) [
          | inl a ↦ h.bounds k x a
          | inr b ↦ one_bound b.0 x b.1
        ]);
        goals = subst G (sym q) (λ k x g why. elim (get_append_cases es (e ∷ []) k x g) [
          | inl a ↦ h.goals k x a why
          | inr b ↦ one_goal b.0 x b.1
        ]);
        none = ap (λ (z : List Entry). others z) q
            ∙ omega (arith, others_more es, h.none, zero_one);
        units = subst U (sym q) (units_both line es (e ∷ []) 0 0 h.units (0, 0, (no_units, refl, refl)));
        few = omega (arith, h.few, step, ap (λ (z : List Entry). length z) q, length-append es (e ∷ []));
        floored = λ s from to. elim (cases_eq s m) [
          | inl c ↦ (let P : ℕ → Type 0 = λ z. IsFloored line new.state.entries z in subst P (sym c) floored)
          | inr n ↦ subst F (sym q) (λ i low high more.
              has_longer es (e ∷ []) (all_tasks line) i (first_lower line i - 1) (h.floored i low high more)) s from
              (omega (arith, to, step, n))
        ];
      }
    where
      one_other : (X : ℕ) → (e.cycle ≡ X → ⊥) → (k : ℕ) (x : Entry) → slice_get (e ∷ []) k ≡ Some x → x.cycle ≡ X → ⊥
      one_other X n zero x g c =
          let s : e ≡ x = cc in
          n (ap (λ (z : Entry). z.cycle) s ∙ c)
      one_other X n (suc k) x g c = absurd (cc)

      one_bound : (k : ℕ) (x : Entry) → slice_get (e ∷ []) k ≡ Some x → x.why ≡ why.Bound
      one_bound zero x g =
          let s : e ≡ x = cc in
          ap (λ (z : Entry). z.why) (sym s) ∙ goal.1
      one_bound (suc k) x g = absurd (cc)

      one_goal : (k : ℕ) (x : Entry) → slice_get (e ∷ []) k ≡ Some x → x.set ≡ all_tasks line
      one_goal zero x g =
          let s : e ≡ x = cc in
          ap (λ (z : Entry). z.set) (sym s) ∙ goal.0
      one_goal (suc k) x g = absurd (cc)

      others_more : (xs : List Entry) → others (xs ++ e ∷ []) ≡ others xs + other e.why
      others_more [] = omega arith
      others_more (x ∷ xs) = omega (arith, others_more xs)

      no_units : UnitsBy line e e.why 0
      no_units = let P : Why → Type 0 = λ z. UnitsBy line e z 0 in subst P (sym goal.1) refl

  -- one number of stations more is refuted below its first lower end
  pub first_next : AddsGoal line old.state.entries new.state.entries → IsFirstBook kind line least next new
  first_next a = elim a [ inl s ↦ stays s | inr m ↦ adds m.0 m.1 m.2 ]

-- all tasks at the first station take all their time
tight_first : (kind : LineKind) (line : Line) (m c : ℕ)
    → IsRight kind line c (record { stations = m; place = replicate (tasks line) at_first }) → total_time line ≤ c
tight_first kind line m c r =
    let places : List Seatplace = replicate (tasks line) at_first in
    let at : (i : ℕ) → In (all_tasks line) i → at_first ≡ seat places i =
    λ i here. sym (get_or-replicate (tasks line) i at_first (record { station = 0; side = Front })
    (In-full_to_below (tasks line) i here)) in
    let P : Seatplace → Type 0 = λ p. nat_eq p.station 1 ≡ true in
    omega (
      arith,
      r.balance.fits 1,
      sum_where-le (has (all_tasks line)) (λ i. has (all_tasks line) i && nat_eq (seat places i).station 1)
          (λ i e. and_from (has (all_tasks line) i) (nat_eq (seat places i).station 1) e (subst P (at i e) refl))
          line.times,
    )

-- the search before its first try
pub going_begins : (kind : LineKind) (line : Line) (least most : ℕ) (h : Lowering) → IsLine line → NoneApart line
    → 1 ≤ least → least ≤ most → most ≤ 1024 → IsFirstBook kind line least (most + 1) h.book
    → h.cycle ≡ first_upper line → h.cycle ≤ 204800000000000000
    → h.balance ≡ record { stations = least; place = replicate (tasks line) at_first }
    → h.listed ≡ record { entries = 0; units = 0 } → IsGoing kind line least most least h
going_begins kind line least most h ok none some order few book cycle limit balance listed =
    let es : List Entry = h.book.state.entries in
    let stations : h.balance.stations ≡ least = ap (λ (z : Assignment). z.stations) balance in
    let B : Assignment → Type 0 = λ z. IsRight kind line h.cycle z in
    let T : Assignment → Type 0 = λ z. IsTight kind line z h.cycle in
    let P : ℕ → Type 0 = λ z. z * h.cycle ≤ least * first_upper line in
    let Q : ℕ → Type 0 = λ z. least * z ≤ least * first_upper line in
    let C : Listed → Type 0 = λ z. IsCounted line es (length es) z in
    let whole : take (length es) es ≡ es = take-length es in
    let U : List Entry → Type 0 = λ z. UnitsOf line z 0 in
    record {
      lowering = record {
        line_is = ap (λ (z : About). z.line) book.about;
        kind_is = ap (λ (z : About). z.kind) book.about;
        reserved = book.reserved;
        from = omega (arith, stations);
        to = omega (arith, stations, order);
        some = omega (arith, cycle);
        limit = limit;
        bounded = omega (arith, cycle, limit);
        tight = subst T (sym balance) (λ c one right.
            omega (arith, cycle, one, tight_first kind line least c right));
        right = subst B (sym balance) (first_right kind line least h.cycle ok none some (omega (arith, cycle)));
        first = subst P (sym stations) (subst Q (sym cycle) (omega arith));
        counted = subst C (sym listed) (record {
          entries = sym (ap (λ (z : List Entry). others z) whole ∙ book.none);
          units = subst U (sym whole) book.units;
        });
        few = omega (arith, book.few, few);
        within = omega (arith, ap (λ (z : Listed). z.units) listed);
        floored = λ m from to. book.floored m from (omega (arith, to));
        cycles = λ k e g other. absurd (other (book.bounds k e g));
        goals = book.goals;
        by_bound = omega (arith, all_listed es, book.few, order);
      };
      clear = λ X one near. book.clear X;
      closed = λ s from to. absurd (omega (arith, from, to));
      bounded = omega (arith, all_listed es, book.few);
    }

-- before its first try a search has no seek, no units, and no entry other than by Bound
pub none_taken : (h : Lowering) → h.seeks ≡ record { used = 0; most = 0; kept = 0 }
    → h.listed ≡ record { entries = 0; units = 0 } → (plan : Plan) (tries : ℕ) → IsPaid plan tries h
none_taken h seeks listed plan tries = record {
  seeks = seeks_none plan h.seeks seeks;
  units = omega (arith, ap (λ (z : Listed). z.units) listed);
  entries = omega (arith, ap (λ (z : Listed). z.entries) listed);
  within = omega (arith, ap (λ (z : Listed). z.units) listed);
  few = omega (arith, ap (λ (z : Listed). z.entries) listed);
  short = omega (arith, ap (λ (z : Listed). z.entries) listed);
}
