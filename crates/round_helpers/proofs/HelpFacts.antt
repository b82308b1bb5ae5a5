-- From the work of all helpers to the book that comes back.
use Rattle.std.proofs.Common.{◌≡◌, ℕ, ◌+◌, ◌-◌, ◌≤◌, Bool, List, ◌++◌, length, length-append, refl, sym}
use Rattle.std.proofs.Common.{ap, ◌∙◌, subst, ◌⊎◌, inl, inr, arith, Some}
use Rattle.std.proofs.Common.{Vec, Global, vec_len}
use Rattle.std.specs.List.{range_with_len}
use Rattle.std.specs.Prelude.{slice_get}
use Rattle.std.proofs.lemmas.Option.{same_Some, slice_get_within}
use Rattle.atomic_table.specs.Seated.{TableId}
use Rattle.line_instance.specs.Line.{Line}
use Rattle.line_rules.specs.Balance.{all_tasks}
use Rattle.line_rules.specs.Bounds.{bound}
use Rattle.line_rules.specs.Entries.{HasAnswer}
use Rattle.line_rules.specs.Ranges.{IsCycle}
use Rattle.line_rules.specs.Units.{UnitsOf}
use Rattle.line_rules.specs.declared.types.Entry.{Entry}
use Rattle.lemma_core.specs.Machine.{About}
use Rattle.lemma_core.specs.History.{Item, Standing, replay, Begins}
use Rattle.lemma_core.specs.Desks.{entries, Keeps}
use Rattle.lemma_core.specs.Own.{AreAt, added_of}
use Rattle.lemma_core.specs.Books.{BookView, IsBook, IsReserved, desk_of}
use Rattle.lemma_core.proofs.BookAsDesk.{entries_seen, fewest_seen, roomy_is}
use Rattle.lemma_core.proofs.HistoryGrows.{entries_go_on, stations_go_on, begins_on}
use Rattle.lemma_core.proofs.OwnFacts.{at_longer, entries_added, begins_longer}
use Rattle.book_share.specs.Calls.{IsPassOf}
use Rattle.book_share.specs.Passes.{Base, PassView, PassOf, desk_by}
use Rattle.book_share.specs.Places.{AreAllFrom}
use Rattle.book_share.specs.Rule.{newcomer}
use Rattle.station_search.specs.declared.answers.Units.{Units}
use Rattle.round_helpers.specs.inner.Equipment.{IsEquipped}
use Rattle.round_helpers.specs.Growth.{AreAtCycle, Helps}
use Rattle.round_helpers.specs.Helping.{all_used, HaveSpent, IsAnsweredBy, HasHelped, IsTeam}
use Rattle.round_helpers.specs.Jobs.{AreJobs}
use Rattle.steal_pool.specs.Hands.{DequeId, HandView, IsHandOf, AreHandsOf}
use Rattle.round_helpers.specs.inner.Seats.{IsBare, AreReady, HasWorked, HaveAllWorked, HaveWorked, HasJoined}
use Rattle.round_helpers.specs.inner.Seats.{used_by}
use Rattle.round_helpers.specs.inner.Teams.{MayAllWork, ArePassesOf, AreJoinable, AreSettled, settled, IsTold}
use Rattle.round_helpers.specs.inner.Works as works
use Rattle.round_helpers.specs.inner.Works.{IsEnd}
use Rattle.round_helpers.specs.declared.equipment.Equipment.{Equipment}
use Rattle.round_helpers.specs.declared.helping.Helped.{Helped}
use Rattle.round_helpers.specs.declared.helping.Helped.TheVariants as helped
use Rattle.round_helpers.specs.declared.job_list.Job.{Job}
use Rattle.round_helpers.specs.declared.question_work.End.{End}
use Rattle.round_helpers.specs.declared.question_work.End.TheVariants as ends
use Rattle.round_helpers.specs.declared.question_work.Question.{Question}
use Rattle.round_helpers.specs.declared.teams.Helper.{Helper}
use Rattle.round_helpers.proofs.AllPlaces.{all_own}
use Rattle.round_helpers.proofs.Ranges.{at_range}
use Rattle.round_helpers.proofs.SettleFacts.{settled_left, settled_spent, settled_used}
use Rattle.line_rules.proofs.ListFacts.{get_some}
use Rattle.line_rules.proofs.LongerLists.{has_longer}

-- a pass that has seen all of a book's log, and has no own places
pub bare_first : (share : TableId) (p : PassOf) (book : BookView) → IsPassOf share p → p.view ≡ newcomer book
    → IsBare share p.view.base p.view.seen 1024 p
bare_first share p book of e = record {
  pass = of;
  same = refl;
  none = ap (λ (z : PassView). z.own) e;
  history = refl;
  part = ap (λ (z : PassView). z.parts) e;
}

-- each helper that is ready may work
pub may_work : (share : TableId) (base : Base) (seen : List Item) (line : Line) (question : Question) (jobs : List Job)
    (pool : List DequeId) (us : List Units) (hands : List HandView) (hs : List Helper) → length hs ≡ length us
    → length hands ≡ length us → length us ≤ 64 → AreReady share base seen us hands hs
    → base.about ≡ record { line = line; kind = question.kind; cycle = question.cycle }
    → IsCycle question.cycle → 1 ≤ question.most → question.most ≤ 1024
    → AreJobs question.kind line question.cycle question.most jobs
    → bound question.kind line question.cycle (all_tasks line) ≤ question.most → AreHandsOf pool hands
    → MayAllWork share line question jobs pool hs
may_work share base seen line question jobs pool us hands hs long as_many few ready about cycle some most are bounded
    hands_are k h e =
    let u = get_some us k (omega (arith, long, slice_get_within hs k h e)) in
    let v = get_some hands k (omega (arith, long, as_many, slice_get_within hs k h e)) in
    let r = ready k h u.0 v.0 e u.1 v.1 in
    let H : HandView → Type 0 = λ z. IsHandOf pool z in
    record {
      bare = record {
        pass = r.bare.pass;
        same = refl;
        none = r.bare.none;
        history = refl;
        part = r.bare.part;
      };
      about = ap (λ (z : Base). z.about) r.bare.same ∙ about;
      cycle = cycle;
      some = some;
      most = most;
      are = are;
      few = omega (arith, slice_get_within hs k h e, long, few);
      bounded = bounded;
      own_hand = subst H (sym r.own_hand) (hands_are.each k v.0 v.1).1;
      used = r.used;
    }

-- each helper that was ready has worked
have_worked : (share : TableId) (base : Base) (seen : List Item) (line : Line) (question : Question) (us : List Units)
    (hands : List HandView) (before after : List Helper) → length before ≡ length us → length hands ≡ length us
    → AreReady share base seen us hands before → HaveAllWorked share line question before after
    → HaveWorked share base seen line question us after
have_worked share base seen line question us hands before after long as_many ready worked k h u e f =
    let a = get_some before k (omega (arith, long, slice_get_within us k u f)) in
    let v = get_some hands k (omega (arith, as_many, slice_get_within us k u f)) in
    let r = ready k a.0 u v.0 a.1 f v.1 in
    let B : Base → Type 0 = λ z. HasWorked share z a.0.pass.view.seen line question a.0.units.left h in
    let S : List Item → Type 0 = λ z. HasWorked share base z line question a.0.units.left h in
    let U : ℕ → Type 0 = λ z. HasWorked share base seen line question z h in
    subst U r.left (subst S r.bare.history (subst B r.bare.same (worked k a.0 h a.1 e)))

-- A team after its work: there is a helper for each of the units, and each helper has worked.
pub record AreBack (share : TableId) (base : Base) (seen : List Item) (line : Line) (question : Question)
    (us : List Units) (hs : List Helper) : Type 0 where
  pub long : length hs ≡ length us
  pub all : HaveWorked share base seen line question us hs

pub are_back : (share : TableId) (pass : PassOf) (line : Line) (question : Question) (jobs : List Job) (us : List Units)
    (equipment : Equipment) (ready worked : Vec Helper Global) → IsEquipped jobs question.most (length us) equipment
    → vec_len ready ≡ length us → AreReady share pass.view.base pass.view.seen us equipment.hands ready.items
    → length worked.items ≡ length ready.items → HaveAllWorked share line question ready.items worked.items
    → AreBack share pass.view.base pass.view.seen line question us worked.items
are_back share pass line question jobs us equipment ready worked equipped count are as_long each =
    let before : length ready.items ≡ length us = sym ready.ok.0 ∙ count in
    record {
      long = as_long ∙ before;
      all = have_worked share pass.view.base pass.view.seen line question us equipment.hands ready.items worked.items
          before (equipped.are.count ∙ equipped.count_is) are each;
    }

module _ {share : TableId} {base : Base} {seen : List Item} {line : Line} {question : Question} {us : List Units}
    {hs : List Helper} (t : AreBack share base seen line question us hs) where
  worked_at : (k : ℕ) (h : Helper) → slice_get hs k ≡ Some h
      → (u : Units) × (slice_get us k ≡ Some u) × HasWorked share base seen line question u.left h
  worked_at k h e =
      let u = get_some us k (omega (arith, t.long, slice_get_within hs k h e)) in
      (u.0, u.1, t.all k h u.0 e u.1)

  pub passes_are : ArePassesOf share hs
  passes_are k h e = (worked_at k h e).2.pass

  pub are_joinable : AreJoinable base seen line question.cycle hs
  are_joinable k h e =
      let w = (worked_at k h e).2 in record { part = w.part; begins = w.begins; added = w.added }

  pub sums_given : (k : ℕ) (u : Units) (h : Helper) → slice_get us k ≡ Some u → slice_get hs k ≡ Some h
      → h.units.used + h.units.left ≡ u.left
  sums_given k u h e f =
      let w = worked_at k h f in
      omega (arith, w.2.sum, ap (λ (z : Units). z.left) (same_Some w.0 u (sym w.1 ∙ e)))

  pub are_settled : IsTeam us → AreSettled us hs
  are_settled team k u h e f = omega (arith, team.units k u e, sums_given k u h e f)

-- The book that comes back, when all passes were joined into one with all parts.
module _ {share : TableId} {line : Line} {question : Question} {us : List Units} {hs : List Helper}
    (old new : BookView) (last : PassOf) (base : Base) (t : AreBack share base old.events line question us hs)
    (base_is : base ≡ record { about = old.about; opening = old.opening; from = length old.events })
    (about : old.about ≡ record { line = line; kind = question.kind; cycle = question.cycle })
    (joined : HasJoined share base old.events (1024 - length us) line question.cycle hs last)
    (few : length us ≤ 64)
    (same_about : new.about ≡ last.view.base.about) (same_opening : new.opening ≡ last.view.base.opening)
    (begins : Begins last.view.seen new.events)
    (whole : last.view.parts ≡ 1024 → AreAllFrom last.view.base.from (length new.events) last.view.own)
    (reserved : IsReserved new) (ok_old : IsBook old) (ok : IsBook new) where
  base_last : last.view.base ≡ record { about = old.about; opening = old.opening; from = length old.events }
  base_last = joined.same ∙ base_is

  about_is : new.about ≡ old.about
  about_is = same_about ∙ ap (λ (z : Base). z.about) base_last

  opening_is : new.opening ≡ old.opening
  opening_is = same_opening ∙ ap (λ (z : Base). z.opening) base_last

  from_is : last.view.base.from ≡ length old.events
  from_is = ap (λ (z : Base). z.from) base_last

  goes : Begins old.events new.events
  goes = begins_on old.events last.view.seen new.events joined.begins begins

  own_is : last.view.own ≡ range_with_len (length old.events) (length new.events - length old.events)
  own_is =
      let F : ℕ → Type 0 = λ z. AreAllFrom z (length new.events) last.view.own in
      let from : base.from ≡ length old.events = ap (λ (z : Base). z.from) base_is in
      all_own (length old.events) new.events last.view.own (begins_longer old.events new.events goes)
      (record {
        rises = joined.own.rises;
        within = λ k x e.
            omega (arith, joined.own.within k x e, begins_longer last.view.seen new.events begins);
      })
      (λ k x e. omega (arith, joined.behind k x e, from))
      (subst F from_is (whole (omega (arith, joined.part, t.long, few))))

  abbrev items : List Item
  items = joined.added.items

  items_are : items ≡ goes.0
  items_are =
      let n : length new.events - length old.events ≡ length goes.0 =
      omega (arith, ap (λ (z : List Item). length z) goes.1, length-append old.events goes.0) in
      let P : List ℕ → Type 0 = λ z. AreAt new.events z items in
      let own : last.view.own ≡ range_with_len (length old.events) (length goes.0) =
      own_is ∙ ap (λ (z : ℕ). range_with_len (length old.events) z) n in
      at_range old.events goes.0 items new.events (length old.events) (sym goes.1) refl
      (subst P own (at_longer last.view.seen new.events last.view.own items begins joined.added.there))

  keeps : Keeps (desk_of old) (desk_of new)
  keeps = record {
    about = about_is;
    opening = opening_is;
    alone = refl;
    roomy = λ t. roomy_is new reserved;
    kept = refl;
    seen = goes;
  }

  pub helps : Helps old new (used_by hs)
  helps =
      let C : ℕ → Type 0 = λ z. AreAtCycle z (added_of items) in
      let L : Line → Type 0 = λ z. UnitsOf z (added_of items) joined.added.published in
      let grown : new.events ≡ old.events ++ items =
      sym goes.1 ∙ ap (λ (z : List Item). old.events ++ z) (sym items_are) in
      let best : (replay new.opening new.events).stations ≡ (replay old.opening new.events).stations =
      ap (λ (z : Standing). (replay z new.events).stations) opening_is in
      record {
        gained = added_of items;
        goes_on = record {
          about = about_is;
          opening = opening_is;
          entries = sym (entries_seen new ok)
              ∙ (entries_added (desk_of old) (desk_of new) items keeps grown
              ∙ ap (λ (z : List Entry). z ++ added_of items) (entries_seen old ok_old));
          cycles = subst C (sym (ap (λ (z : About). z.cycle) about)) joined.added.cycles;
          best = omega (
            arith,
            best,
            fewest_seen old ok_old,
            fewest_seen new ok,
            stations_go_on old.opening old.events new.events goes,
          );
        };
        few = joined.added.few;
        published = joined.added.published;
        units = subst L (sym (ap (λ (z : About). z.line) about)) joined.added.units;
        within = joined.added.within;
      }

  -- what a helper has seen is in the book
  module _ (k : ℕ) (h : Helper) (e : slice_get hs k ≡ Some h) where
    sees : Begins h.pass.view.seen new.events
    sees = begins_on h.pass.view.seen last.view.seen new.events (joined.each k h e) begins

    its : (u : Units) × (slice_get us k ≡ Some u) × HasWorked share base old.events line question u.left h
    its = worked_at t k h e

    -- its end, as it is known
    ends_as : (r : End) → h.end ≡ r → IsEnd (desk_by h.pass.view) line question h.units.left r
    ends_as r f =
        let E : End → Type 0 = λ z. IsEnd (desk_by h.pass.view) line question h.units.left z in
        subst E f its.2.ends

    opening_its : h.pass.view.base.opening ≡ new.opening
    opening_its = ap (λ (z : Base). z.opening) (its.2.same ∙ sym joined.same) ∙ sym same_opening

    answered_in : (R : List Bool) (most X : ℕ) → HasAnswer (entries (desk_by h.pass.view)) R most X
        → HasAnswer new.state.entries R most X
    answered_in R most X a =
        let o : entries (desk_by h.pass.view) ≡ (replay new.opening h.pass.view.seen).entries =
        ap (λ (z : Standing). (replay z h.pass.view.seen).entries) opening_its in
        let m = entries_go_on new.opening h.pass.view.seen new.events sees in
        let P : List Entry → Type 0 = λ z. HasAnswer z R most X in
        subst P (sym m.1 ∙ entries_seen new ok)
        (has_longer (replay new.opening h.pass.view.seen).entries m.0 R most X (subst P o a))

    fewest_in : (most : ℕ) → works.fewest_seen (desk_by h.pass.view) ≤ most → new.state.best.stations ≤ most
    fewest_in most l =
        let o : works.fewest_seen (desk_by h.pass.view) ≡ (replay new.opening h.pass.view.seen).stations =
        ap (λ (z : Standing). (replay z h.pass.view.seen).stations) opening_its in
        omega (
          arith,
          l,
          o,
          stations_go_on new.opening h.pass.view.seen new.events sees,
          fewest_seen new ok,
        )

  -- a helper that knows the answer has it from the book
  answered_by : (k : ℕ) (h : Helper) → slice_get hs k ≡ Some h
      → HasAnswer (entries (desk_by h.pass.view)) (all_tasks line) question.most question.cycle
      ⊎ (works.fewest_seen (desk_by h.pass.view) ≤ question.most)
      → IsAnsweredBy new question.most
  answered_by k h e (inl a) =
      let same : new.about ≡ record { line = line; kind = question.kind; cycle = question.cycle } = about_is ∙ about in
      let A : About → Type 0 = λ z. HasAnswer new.state.entries (all_tasks z.line) question.most z.cycle in
      inl (subst A (sym same) (answered_in k h e (all_tasks line) question.most question.cycle a))
  answered_by k h e (inr f) = inr (fewest_in k h e question.most f)

  pub has_helped : (told : Helped) → IsTold hs told → HasHelped old new question.most (settled us hs) told
  has_helped helped.Unneeded is = absurd is
  has_helped helped.Whole is = answered_by is.0 is.1 is.2 (ends_as is.0 is.1 is.2 ends.Answered is.3)
  has_helped (helped.Cut n) is =
      let v = settled_left us hs is.0 is.1 t.long is.3 in
      let none : is.1.units.left ≡ 0 = ends_as is.0 is.1 is.3 ends.Spent is.4 in
      (is.0, v.0, is.2, v.1.0, v.1.1 ∙ none)
  has_helped helped.NoMemory is = tt

-- the pass from which others were split off, and what was joined into it, as the first pass knew it
joined_as : (share : TableId) (base : Base) (seen : List Item) (parts : ℕ) (line : Line) (X : ℕ) (hs : List Helper)
    (p q : PassOf) → IsBare share base seen parts p
    → (AreJoinable p.view.base p.view.seen line X hs
    → HasJoined share p.view.base p.view.seen p.view.parts line X hs q)
    → AreJoinable base seen line X hs
    → HasJoined share base seen parts line X hs q
joined_as share base seen parts line X hs p q b j able =
    let A : Base → Type 0 = λ z. AreJoinable z p.view.seen line X hs in
    let B : List Item → Type 0 = λ z. AreJoinable base z line X hs in
    let P : Base → Type 0 = λ z. HasJoined share z p.view.seen p.view.parts line X hs q in
    let Q : List Item → Type 0 = λ z. HasJoined share base z p.view.parts line X hs q in
    let R : ℕ → Type 0 = λ z. HasJoined share base seen z line X hs q in
    subst R b.part (subst Q b.history (subst P b.same (j (subst A (sym b.same) (subst B (sym b.history) able)))))

-- what comes of the help of a team
pub comes_back : {share : TableId} {line : Line} {question : Question} {us : List Units} {hs : List Helper}
    (units : List Units) (first bare last : PassOf) (old new : BookView) (told : Helped)
    → AreBack share first.view.base first.view.seen line question us hs
    → length us ≤ 64 → first.view ≡ newcomer old
    → old.about ≡ record { line = line; kind = question.kind; cycle = question.cycle }
    → IsBare share first.view.base first.view.seen (1024 - length us) bare
    → ((l : Line) (X : ℕ) → AreJoinable bare.view.base bare.view.seen l X hs
    → HasJoined share bare.view.base bare.view.seen bare.view.parts l X hs last)
    → new.about ≡ last.view.base.about → new.opening ≡ last.view.base.opening → Begins last.view.seen new.events
    → (last.view.parts ≡ 1024 → AreAllFrom last.view.base.from (length new.events) last.view.own)
    → IsReserved new → IsBook old → IsBook new → units ≡ settled us hs → IsTold hs told
    → Helps old new (all_used units - all_used us) × HasHelped old new question.most units told
comes_back {share = share} {line = line} {question = question} {us = us} {hs = hs} units first bare last old new told
    back few e about split join same_about same_opening begins whole reserved ok_old ok is as_told =
    let W : PassView → Type 0 = λ z. AreBack share z.base z.seen line question us hs in
    let base : Base = record { about = old.about; opening = old.opening; from = length old.events } in
    let t : AreBack share base old.events line question us hs = subst W e back in
    let J : PassView → Type 0 = λ z. IsBare share z.base z.seen (1024 - length us) bare in
    let joined : HasJoined share base old.events (1024 - length us) line question.cycle hs last =
    joined_as share base old.events (1024 - length us) line question.cycle hs bare last (subst J e split)
    (join line question.cycle) (are_joinable t) in
    let n : used_by hs ≡ all_used units - all_used us =
    omega (arith, settled_used us hs t.long, ap (λ (z : List Units). all_used z) is) in
    let H : ℕ → Type 0 = λ z. Helps old new z in
    let U : List Units → Type 0 = λ z. HasHelped old new question.most z told in (
      subst H n (helps old new last base t refl about joined few same_about same_opening begins whole reserved ok_old ok),
      subst U (sym is)
          (has_helped old new last base t refl about joined few same_about same_opening begins whole reserved ok_old ok
          told as_told),
    )

pub spent_back : {share : TableId} {base : Base} {seen : List Item} {line : Line} {question : Question}
    {us : List Units} {hs : List Helper} (units : List Units) → AreBack share base seen line question us hs
    → units ≡ settled us hs → HaveSpent us units
spent_back {us = us} {hs = hs} units t is =
    let P : List Units → Type 0 = λ z. HaveSpent us z in
    subst P (sym is) (settled_spent us hs t.long (sums_given t))
