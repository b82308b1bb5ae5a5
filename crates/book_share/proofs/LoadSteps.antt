-- The other kinds of step on the words: lower, and the loads.
use Rattle.std.proofs.Common.{◌≡◌, ◌≢◌, ◌⊎◌, ℕ, min, List, [], ◌∷◌, ◌++◌, length, set, inr, refl, sym, ap, ◌∙◌, subst}
use Rattle.std.proofs.Common.{arith, Option}
use Rattle.std.specs.Prelude.{slice_index, slice_set}
use mathlib.Core.Option.{some, none}
use mathlib.Core.Logic.{dite}
use native.Mathlib.Decide.{ℕ_discrete}
use lib.ListN.{get_elem?}
use Rattle.atomic_table.specs.Table.{step, keeps, Allows}
use Rattle.atomic_table.proofs.Lists.{set_again, set_else}
use Rattle.lemma_core.specs.History.{Item, added, known, better, Standing, replay, Begins, AreExact}
use Rattle.lemma_core.specs.Books.{BookView}
use Rattle.lemma_core.proofs.Runs.{replay-append}
use Rattle.lemma_core.proofs.HistoryGrows.{stations_go_on, begins_on}
use Rattle.lemma_core.proofs.ExactItems.{exact_begins}
use Rattle.book_share.specs.Passes.{Phase, Idle, Holding, Recorded, Lowered, Spent, Base, PassView}
use Rattle.book_share.specs.Places.{but_last, once_from}
use Rattle.book_share.specs.Rule.{turn_of, shown, counted, fewest, spent, IsReached, Stands, Home, IsIdle, Kept}
use Rattle.book_share.specs.Steps.{lowered, loaded, IsLeastCount, IsEventCount, Lowers, Peeks, LoadsBest}
use Rattle.book_share.specs.Steps.{LoadsCount, Settles}
use Rattle.book_share.specs.inner.Turning.{IsQuiet}
use Rattle.book_share.proofs.Lists.{begins_refl, but_last_push, begins_but_last}
use Rattle.book_share.proofs.Sums.{at_same, set_there, all_set}
use Rattle.book_share.proofs.TurnSteps.{Room, idle_in, idle_spent, places_set, parts_set, each_set, rises_set}
use Rattle.book_share.proofs.TurnSteps.{heard_set}
use Rattle.book_share.proofs.TurnSteps.{home_out, shown_prefix, my_words, my_home, my_stands, next}

replay-push : (s : Standing) (h : List Item) (i : Item) → replay s (h ++ i ∷ []) ≡ replay (replay s h) (i ∷ [])
replay-push s h i = replay-append s h (i ∷ [])

pub lowers_best : (n id : ℕ) (v : PassView) (c : List (ℕ × Option BookView)) (before : List Item) (stations : ℕ)
    → v.phase ≡ Recorded → v.seen ≡ before ++ better stations ∷ [] → IsReached v.base.about (fewest v.base v.seen)
    → Allows Kept n id (v, c) 2 (λ m. min m stations) (Lowers (step n 2 stations 0 none) (v, c))
lowers_best n id v c before stations done last reached s k wide at _ =
    let busy : v.phase ≢ Idle = λ e. (let f : Recorded ≡ Idle = sym done ∙ e in absurd (cc)) in
    let live : v.phase ≢ Spent = λ e. (let f : Recorded ≡ Spent = sym done ∙ e in absurd (cc)) in
    let ws : s.words ≡ 1 ∷ length v.seen ∷ fewest v.base (but_last v.seen) ∷ [] =
    subst (λ (p : Phase). s.words ≡ turn_of p ∷ length v.seen ∷ fewest v.base (counted p v.seen) ∷ []) done
    (my_words s k id v at busy live) in
    let first : but_last v.seen ≡ before = ap (λ (h : List Item). but_last h) last
    ∙ but_last_push before (better stations) in
    let less : min (fewest v.base (but_last v.seen)) stations ≡ fewest v.base v.seen =
    ap (λ (h : List Item). min (fewest v.base h) stations) first
    ∙ sym (ap (λ (x : Standing). x.stations) (replay-push v.base.opening before (better stations)))
    ∙ ap (λ (h : List Item). fewest v.base h) (sym last) in (
      lowered v,
      keeps,
      tt,
      next s k id v at busy live (lowered v) (slice_set s.words 2 (min (slice_index s.words 2) stations)) s.homes refl
          refl
          (ap (λ (l : List ℕ). slice_set l 2 (min (slice_index l 2) stations)) ws
          ∙ (λ t. 1 ∷ length v.seen ∷ less t ∷ []))
          (home_out v.phase busy v.base v.seen s.homes (my_home s k id v at busy live))
          (let ok = my_stands s k id v at busy live in record { exact = ok.exact; reached = reached; small = ok.small })
          (subst (λ (p : Phase). Begins (shown p v.seen) (but_last v.seen)) (sym done) (begins_refl (but_last v.seen)))
          (k.rises id v at)
          (begins_refl v.seen) refl
          (λ x. refl),
      refl,
    )

shown_counted : (p : Phase) (h : List Item) → Begins (shown p h) (counted p h)
shown_counted Idle h = begins_refl h
shown_counted Holding h = begins_refl h
shown_counted Recorded h = begins_refl (but_last h)
shown_counted Lowered h = begins_but_last h
shown_counted Spent h = begins_refl h

-- a load leaves the table as it is
unchanged : (s : Room) (k : Kept s) (id : ℕ) (v : PassView) → get_elem? s.views id ≡ some v → (word : ℕ)
    → slice_set s.words word (slice_index s.words word) ≡ s.words
    → Kept (record {
      words = slice_set s.words word (slice_index s.words word);
      homes = s.homes;
      views = slice_set s.views id v;
    })
unchanged s k id v at word same = subst (λ (x : List ℕ × List PassView).
    Kept (record { words = x.0; homes = s.homes; views = x.1 })) (λ t. (sym same t, sym (set_again s.views id v at) t))
    k

-- a load that an idle pass remembers
touched : (s : Room) (k : Kept s) (id : ℕ) (v : PassView) → get_elem? s.views id ≡ some v → v.phase ≡ Idle → (n : ℕ)
    → Kept (record { words = s.words; homes = s.homes; views = set s.views id (loaded v n) })
touched s k id v at rest n =
    let w : PassView = loaded v n in
    let mine = idle_in s k id v at rest in
    let live = idle_spent v rest in
    dite (ℕ_discrete id k.at)
    (λ same.
    let is : k.view ≡ v = at_same s.views k.at k.view v k.there
    (subst (λ (m : ℕ). get_elem? s.views m ≡ some v) same at) in
    record {
      at = id;
      view = w;
      there = set_there s.views id v w at;
      words = subst (λ (u : PassView). s.words ≡ turn_of u.phase ∷ length u.seen ∷ fewest u.base
          (counted u.phase u.seen) ∷ []) is k.words ∙ (λ i.
          turn_of (rest i) ∷ length v.seen ∷ fewest v.base (counted (rest i) v.seen) ∷ []);
      home = subst (λ (q : Phase). Home q v.base v.seen s.homes) rest
          (subst (λ (u : PassView). Home u.phase u.base u.seen s.homes) is k.home);
      others = λ j u ne e. subst (λ (q : Phase). (u ≡ spent) ⊎ IsIdle v.base (shown q v.seen) u) rest
          (subst (λ (y : PassView). (u ≡ spent) ⊎ IsIdle y.base (shown y.phase y.seen) u) is
          (k.others j u (λ f. ne (f ∙ sym same)) (sym (set_else s.views id j w ne) ∙ e)));
      rises = rises_set s k id v w at (k.rises id v at);
      heard = heard_set s k id v w at (k.heard id v at);
      stands = subst (λ (q : Phase). Stands v.base v.seen (counted q v.seen)) rest
          (subst (λ (u : PassView). Stands u.base u.seen (counted u.phase u.seen)) is k.stands);
      places = λ x. places_set s k id v w at (length k.view.seen) k.view.base.from refl (λ y. refl) x
          ∙ ap (λ (u : PassView). once_from u.base.from (length u.seen) x) is;
      parts = omega (arith, k.parts, parts_set s k id v w at refl);
      each = each_set s k id v w at refl live;
    })
    (λ other. record {
      at = k.at;
      view = k.view;
      there = set_else s.views id k.at w (λ e. other (sym e)) ∙ k.there;
      words = k.words;
      home = k.home;
      others = λ j u ne e. all_set (λ i (y : PassView). i ≢ k.at
          → (y ≡ spent) ⊎ IsIdle k.view.base (shown k.view.phase k.view.seen) y) s.views id w
          (λ _. inr (record { phase = refl; base = mine.base; seen = mine.seen }))
          (λ i y far f far'. k.others i y far' f) j u e ne;
      rises = rises_set s k id v w at (k.rises id v at);
      heard = heard_set s k id v w at (k.heard id v at);
      stands = k.stands;
      places = places_set s k id v w at (length k.view.seen) k.view.base.from refl (λ x. refl);
      parts = omega (arith, k.parts, parts_set s k id v w at refl);
      each = each_set s k id v w at refl live;
    })

remembered : (s : Room) (k : Kept s) (id : ℕ) (v : PassView) → get_elem? s.views id ≡ some v → v.phase ≡ Idle
    → (word n : ℕ) → slice_set s.words word (slice_index s.words word) ≡ s.words
    → Kept (record {
      words = slice_set s.words word (slice_index s.words word);
      homes = s.homes;
      views = slice_set s.views id (loaded v n);
    })
remembered s k id v at rest word n same = subst (λ (x : List ℕ).
    Kept (record { words = x; homes = s.homes; views = set s.views id (loaded v n) })) (sym same)
    (touched s k id v at rest n)

-- what a load of the least count finds, and tells an idle pass
found_best : (s : Room) (k : Kept s) → slice_index s.words 2 ≡ fewest k.view.base (counted k.view.phase k.view.seen)
found_best s k = ap (λ (l : List ℕ). slice_index l 2) k.words

counted_begins : (p : Phase) (h : List Item) → Begins (counted p h) h
counted_begins Idle h = begins_refl h
counted_begins Holding h = begins_refl h
counted_begins Recorded h = begins_but_last h
counted_begins Lowered h = begins_refl h
counted_begins Spent h = begins_refl h

least_count : (s : Room) (k : Kept s) (id : ℕ) (v : PassView) → get_elem? s.views id ≡ some v → v.phase ≡ Idle
    → IsLeastCount v (slice_index s.words 2)
least_count s k id v at rest =
    let mine = idle_in s k id v at rest in
    let h : List Item = counted k.view.phase k.view.seen in
    let begins : Begins v.seen h = begins_on v.seen (shown k.view.phase k.view.seen) h mine.seen
    (shown_counted k.view.phase k.view.seen) in
    let found : slice_index s.words 2 ≡ fewest v.base h = found_best s k
    ∙ ap (λ (b : Base). fewest b h) (sym mine.base) in
    record {
      history = h;
      begins = begins;
      exact = exact_begins v.base.opening h k.view.seen (counted_begins k.view.phase k.view.seen)
          (subst (λ (b : Base). AreExact b.opening k.view.seen) (sym mine.base) k.stands.exact);
      stations = found;
      reached = subst (λ (x : Base × ℕ). IsReached x.0.about x.1) (λ t. (sym mine.base t, sym (found_best s k) t))
          k.stands.reached;
      fewest = omega (arith, found, stations_go_on v.base.opening v.seen h begins);
    }

event_count : (s : Room) (k : Kept s) (id : ℕ) (v : PassView) → get_elem? s.views id ≡ some v → v.phase ≡ Idle
    → IsEventCount v (slice_index s.words 1)
event_count s k id v at rest =
    let mine = idle_in s k id v at rest in
    record {
      history = k.view.seen;
      begins = begins_on v.seen (shown k.view.phase k.view.seen) k.view.seen mine.seen
          (shown_prefix k.view.phase k.view.seen);
      exact = subst (λ (b : Base). AreExact b.opening k.view.seen) (sym mine.base) k.stands.exact;
      count = ap (λ (l : List ℕ). slice_index l 1) k.words;
    }

pub peeks : (n id : ℕ) (v : PassView) (c : List (ℕ × Option BookView))
    → Allows Kept n id (v, c) 0 (λ m. m) (Peeks (step n 0 0 0 none) (v, c))
peeks n id v c s k wide at _ = (
  v,
  keeps,
  tt,
  unchanged s k id v at 0 (subst (λ (l : List ℕ). slice_set l 0 (slice_index l 0) ≡ l) (sym k.words) refl),
  refl,
)

pub loads_best : (n id : ℕ) (v : PassView) (c : List (ℕ × Option BookView)) → v.phase ≡ Idle
    → Allows Kept n id (v, c) 2 (λ m. m) (LoadsBest (step n 2 0 0 none) (v, c))
loads_best n id v c rest s k wide at _ = (
  loaded v (slice_index s.words 2),
  keeps,
  tt,
  remembered s k id v at rest 2 (slice_index s.words 2) (subst (λ (l : List ℕ). slice_set l 2 (slice_index l 2) ≡ l)
      (sym k.words) refl),
  (
    refl,
    least_count s k id v at rest,
    (let f = found_best s k in let ok = k.stands in let few = ok.reached.few in
        let tiny = ok.small in omega arith),
  ),
)

pub settles : (n id : ℕ) (v : PassView) (c : List (ℕ × Option BookView)) → v.phase ≡ Idle
    → Allows Kept n id (v, c) 1 (λ m. m) (Settles (step n 1 0 0 none) (v, c))
settles n id v c rest s k wide at _ =
    let seen = event_count s k id v at rest in (
      v,
      keeps,
      tt,
      unchanged s k id v at 1 (subst (λ (l : List ℕ). slice_set l 1 (slice_index l 1) ≡ l) (sym k.words) refl),
      (
        refl,
        record {
          rises = k.rises id v at;
          exact = exact_begins v.base.opening v.seen seen.history seen.begins
              seen.exact;
          heard = k.heard id v at;
        },
      ),
    )

pub loads_count : (n id : ℕ) (v : PassView) (c : List (ℕ × Option BookView)) → v.phase ≡ Idle
    → Allows Kept n id (v, c) 1 (λ m. m) (LoadsCount (step n 1 0 0 none) (v, c))
loads_count n id v c rest s k wide at _ = (
  loaded v (slice_index s.words 1),
  keeps,
  tt,
  remembered s k id v at rest 1 (slice_index s.words 1) (subst (λ (l : List ℕ). slice_set l 1 (slice_index l 1) ≡ l)
      (sym k.words) refl),
  (refl, event_count s k id v at rest),
)

-- an item that is no offer leaves the fewest stations
quiet : (base : Base) (h : List Item) (i : Item) → IsQuiet i → fewest base (h ++ i ∷ []) ≡ fewest base h
quiet base h (added id entry) q = ap (λ (x : Standing). x.stations) (replay-push base.opening h (added id entry))
quiet base h (known id most) q = ap (λ (x : Standing). x.stations) (replay-push base.opening h (known id most))
quiet base h (better stations) q = absurd q

pub same_quiet : (base : Base) (h longer_is : List Item) (i : Item) → IsQuiet i → longer_is ≡ h ++ i ∷ []
    → fewest base (but_last longer_is) ≡ fewest base longer_is
same_quiet base h longer_is i q e = ap (λ (l : List Item). fewest base (but_last l)) e
    ∙ ap (λ (l : List Item). fewest base l) (but_last_push h i) ∙ sym (quiet base h i q)
    ∙ ap (λ (l : List Item). fewest base l) (sym e)
