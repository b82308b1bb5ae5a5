-- The seek at a tried cycle: what its lemmas add to a book, and what it adds to the seeks of a search.
use Rattle.std.proofs.Common.{◌≡◌, ◌⊎◌, ℕ, zero, suc, ◌+◌, ◌-◌, ◌*◌, ◌^◌, ◌<◌, ◌≤◌, min, cond, Bool, true, false, List, [], ◌∷◌}
use Rattle.std.proofs.Common.{length, refl, sym, ap, ◌∙◌, subst, inl, inr, arith, Option, Some, None, append-nil}
use Rattle.std.specs.Prelude.{nat_eq, slice_get}
use Rattle.std.proofs.Math.Nat.{add-mul}
use Rattle.std.proofs.lemmas.Bool.{eq-eqb, eqb-true}
use Rattle.std.proofs.lemmas.Option.{same_Some, slice_get_within}
use Rattle.line_instance.specs.Line.{Line}
use Rattle.line_rules.specs.Balance.{IsRight, all_tasks}
use Rattle.line_rules.specs.Entries.{HasAnswer, IsDerived}
use Rattle.line_rules.specs.declared.types.Balance.{Balance as Assignment}
use Rattle.line_rules.specs.declared.types.Entry.{Entry}
use Rattle.line_rules.proofs.ListFacts.{get_behind}
use Rattle.lemma_core.specs.Machine.{State, last_answer, with_entry}
use Rattle.lemma_core.specs.Books.{BookView, IsReserved}
use Rattle.round_helpers.specs.Growth.{AreAtCycle}
use Rattle.round_run.specs.declared.plans.Plan.{Plan}
use Rattle.warm_book.specs.Warm.{Taking, Takes, TakesAll, untaken}
use Rattle.warm_book.proofs.NumberFacts.{asks_same}
use Rattle.warm_book.proofs.TakingFacts.{Adds, all_add}
use Rattle.line_seek.specs.Seeking.{IsKnown, IsOver, RefuteIn}
use Rattle.line_seek.proofs.about_search.Events.{get_append_cases}
use Rattle.cycle_search.specs.Seek.{seek_room, try_room, AreSeeks, with_seek, Counts, HasSoughtBook}
use Rattle.cycle_search.specs.declared.seek.Seeks.{Seeks}
use Rattle.cycle_search.specs.declared.seek.SoughtBook.{SoughtBook}

-- what a seek and a try may add

room_by : (seek N : ℕ) (none : Bool) → cond none 0 (2500000 - 2 * N) ≤ 2500000
room_by seek N true = omega arith
room_by seek N false = omega arith

pub room_limit : (plan : Plan) → seek_room plan ≤ 2500000
room_limit plan = room_by plan.seek plan.units (nat_eq plan.seek 0)

try_by : (N : ℕ) (none : Bool) → N ≤ 3000000 → 2 * N + cond none 0 (2500000 - 2 * N) ≤ 6000000
try_by N true l = omega (arith, l)
try_by N false l = omega (arith, l)

pub try_limit : (plan : Plan) → plan.units ≤ 3000000 → try_room plan ≤ 6000000
try_limit plan l = try_by plan.units (nat_eq plan.seek 0) l

-- a plan without a seek adds nothing by it
pub no_room : (plan : Plan) → plan.seek ≡ 0 → seek_room plan ≡ 0
no_room plan none = ap (λ (b : Bool). cond b 0 (2500000 - 2 * plan.units)) (eq-eqb plan.seek 0 none)

-- and with one there is room
some_by : (seek N : ℕ) (none : Bool) → nat_eq seek 0 ≡ none → 1 ≤ seek → cond none 0 (2500000 - 2 * N) ≡ 2500000 - 2 * N
some_by seek N true e l = absurd (omega (arith, eqb-true seek 0 e, l))
some_by seek N false e l = refl

pub some_room : (plan : Plan) → 1 ≤ plan.seek → seek_room plan ≡ 2500000 - 2 * plan.units
some_room plan l = some_by plan.seek plan.units (nat_eq plan.seek 0) refl l

-- a count that stands still at its end, with a summand more
kept_more : (most room before kept after next : ℕ) → next ≡ most + 1 * room → kept ≤ room
    → after ≡ min (before + kept) (2 ^ 64 - 1) → before ≤ min most (2 ^ 64 - 1) → after ≤ min next (2 ^ 64 - 1)
kept_more most room before kept after next is few now was = omega (arith, is, few, now, was)

-- no seeks yet
pub seeks_none : (plan : Plan) (s : Seeks) → s ≡ record { used = 0; most = 0; kept = 0 } → AreSeeks plan s
seeks_none plan s is =
    let S : Seeks → Type 0 = λ z. AreSeeks plan z in
    subst S (sym is) (record { begun = 0; all = omega arith; within = omega arith; kept = omega arith })

-- one more seek
pub seeks_more : (plan : Plan) (s r : Seeks) (used most kept : ℕ) → used ≤ most → plan.seek ≡ most
    → kept ≤ seek_room plan → r.used ≡ min (s.used + used) (2 ^ 64 - 1) → r.most ≡ min (s.most + most) (2 ^ 64 - 1)
    → r.kept ≡ min (s.kept + kept) (2 ^ 64 - 1) → AreSeeks plan s → AreSeeks plan r
seeks_more plan s r used most kept l same few is_used is_most is_kept a =
    let room : ℕ = seek_room plan in
    let p : (a.begun + 1) * plan.seek ≡ a.begun * plan.seek + 1 * plan.seek = add-mul a.begun 1 plan.seek in
    let q : (a.begun + 1) * room ≡ a.begun * room + 1 * room = add-mul a.begun 1 room in
    record {
      begun = a.begun + 1;
      all = omega (arith, p, same, is_most, a.all);
      within = omega (arith, l, is_used, is_most, a.within);
      kept = kept_more (a.begun * room) room s.kept kept r.kept ((a.begun + 1) * room) q few is_kept a.kept;
    }

-- the entries from a place on are all at X
abbrev AreFrom : ℕ → ℕ → List Entry → Type 0
AreFrom n X es = (k : ℕ) (e : Entry) → n ≤ k → slice_get es k ≡ Some e → e.cycle ≡ X

one_at : (X : ℕ) (x : Entry) → x.cycle ≡ X → (k : ℕ) (e : Entry) → slice_get (x ∷ []) k ≡ Some e → e.cycle ≡ X
one_at X x at zero e g = let s : x ≡ e = same_Some x e g in sym (ap (λ (z : Entry). z.cycle) s) ∙ at
one_at X x at (suc k) e g = absurd (cc)

published_from : (n X : ℕ) (s : State) (x : Entry) (o : Option ℕ) → x.cycle ≡ X → AreFrom n X s.entries
    → AreFrom n X (with_entry o s x).entries
published_from n X s x (Some id) at f = f
published_from n X s x None at f = λ k e l g.
    elim (get_append_cases s.entries (x ∷ []) k e g) [
      | inl p ↦ f k e l p
      | inr p ↦ one_at X x at p.0 e p.1
    ]

-- one old entry at X is taken, or passed over
taken_one : (room n X : ℕ) (t next : Taking) (old : Entry) → Takes room t old next → old.cycle ≡ X
    → AreFrom n X t.book.state.entries → AreFrom n X next.book.state.entries
taken_one room n X t next old s at f =
    let P : Taking → Type 0 = λ z. AreFrom n X z.book.state.entries in
    elim s [
      | inl k ↦
          let same : k.0.cycle ≡ X =
          omega (arith, at, (asks_same t.numbers old k.0 k.2.0.cites).cycle) in
          subst P (sym k.2.1) (published_from n X t.book.state k.0
          (last_answer t.book.state.entries k.0.set k.0.most k.0.cycle) same f)
      | inr d ↦ subst P (sym d.1) f
    ]

taken_all : (room n X : ℕ) (t : Taking) (olds : List Entry) (end : Taking) → TakesAll room t olds end
    → AreAtCycle X olds → AreFrom n X t.book.state.entries → AreFrom n X end.book.state.entries
taken_all room n X t [] end h at f =
    let P : Taking → Type 0 = λ z. AreFrom n X z.book.state.entries in subst P h f
taken_all room n X t (old ∷ olds) end h at f =
    taken_all room n X h.0 olds end h.1.1 (λ k e g. at (suc k) e g)
    (taken_one room n X t h.0 old h.1.0 (at 0 old refl) f)

module _ (m : ℕ) (plan : Plan) (old : BookView) (earlier : Seeks) where
  -- a seek that adds no entry
  pub nothing_sought : (s : SoughtBook) → s.book ≡ old → IsReserved old → s.paid ≡ 0
      → ((b : Assignment) → s.found ≡ Some b → IsRight old.about.kind old.about.line old.about.cycle b
      × (b.stations ≤ m)) → (AreSeeks plan earlier → AreSeeks plan s.seeks)
      → (AreSeeks plan earlier → s.seeks.kept ≡ min (earlier.kept + 0) (2 ^ 64 - 1))
      → Counts m plan old earlier s [] 0 → HasSoughtBook m plan old earlier s
  nothing_sought s is reserved paid found seeks kept counts =
      let R : BookView → Type 0 = λ z. IsReserved z in
      record {
        about = ap (λ (z : BookView). z.about) is;
        best = ap (λ (z : BookView). z.state.best) is;
        reserved = subst R (sym is) reserved;
        gained = [];
        entries = ap (λ (z : BookView). z.state.entries) is ∙ sym (append-nil old.state.entries);
        cycles = λ k e g. absurd (cc);
        few = omega arith;
        lemmas = [];
        lemmas_at = λ k e g. absurd (cc);
        lemmas_derived = λ k e g. absurd (cc);
        lemmas_few = omega arith;
        taking = untaken old;
        taken = refl;
        took = sym is;
        added = omega arith;
        units = 0;
        counted = refl;
        paid = omega arith;
        within = omega (arith, paid);
        found = found;
        seeks = seeks;
        counts = counts;
        kept = kept;
      }

  -- a seek that found a balance
  pub balance_sought : (line : Line) (best : Assignment) (s : SoughtBook) → old.about.line ≡ line → s.book ≡ old
      → IsReserved old → s.paid ≡ 0 → s.found ≡ Some best → IsRight old.about.kind line old.about.cycle best
      → best.stations ≤ m → (AreSeeks plan earlier → AreSeeks plan s.seeks)
      → (AreSeeks plan earlier → s.seeks.kept ≡ min (earlier.kept + 0) (2 ^ 64 - 1))
      → (listed : ℕ) → listed ≤ plan.seek → s.seeks ≡ with_seek earlier listed plan.seek 0
      → HasSoughtBook m plan old earlier s
  balance_sought line best s same is reserved paid found right few seeks kept listed within counted =
      nothing_sought s is reserved paid (λ b e.
      let one : best ≡ b = same_Some best b (sym found ∙ e) in
      let L : Line → Type 0 = λ z. IsRight old.about.kind z old.about.cycle best in
      let B : Assignment → Type 0 =
      λ z. IsRight old.about.kind old.about.line old.about.cycle z × (z.stations ≤ m) in
      subst B one (subst L (sym same) right, few)) seeks kept
      (inr (listed, within, counted, λ none. absurd (let c : None ≡ Some best = sym none ∙ found in cc)))

  -- a seek of which lemmas are taken in
  pub lemmas_sought : (lemmas : List Entry) (room : ℕ) (t : Taking) (s : SoughtBook)
      → TakesAll room (untaken old) lemmas t → t.book ≡ s.book → t.units ≡ s.paid → room ≡ seek_room plan
      → AreAtCycle old.about.cycle lemmas → IsDerived old.about.kind old.about.line lemmas
      → length lemmas ≤ plan.seek + 1 → IsReserved s.book → s.found ≡ None
      → (AreSeeks plan earlier → AreSeeks plan s.seeks)
      → (AreSeeks plan earlier → s.seeks.kept ≡ min (earlier.kept + t.kept) (2 ^ 64 - 1))
      → (listed : ℕ) → listed ≤ plan.seek → s.seeks ≡ with_seek earlier listed plan.seek t.kept
      → (plan.seek ≤ listed) ⊎ HasAnswer lemmas (all_tasks old.about.line) m old.about.cycle ⊎ IsKnown old m
      → HasSoughtBook m plan old earlier s
  lemmas_sought lemmas room t s all same_book same_units is_room at derived short reserved none seeks kept listed within
      counted why =
      let a : Adds room (untaken old) t = all_add room (untaken old) lemmas t all in
      let X : ℕ = old.about.cycle in
      let es : List Entry = old.state.entries in
      let from : AreFrom (length es) X t.book.state.entries =
      taken_all room (length es) X (untaken old) lemmas t all at
      (λ k e l g. absurd (omega (arith, l, slice_get_within es k e g))) in
      record {
        about = ap (λ (z : BookView). z.about) (sym same_book) ∙ a.about;
        best = ap (λ (z : BookView). z.state.best) (sym same_book) ∙ a.best;
        reserved = reserved;
        gained = a.added;
        entries = ap (λ (z : BookView). z.state.entries) (sym same_book) ∙ a.entries;
        cycles = λ k e g. from (k + length es) e (omega arith)
            (ap (λ (z : List Entry). slice_get z (k + length es)) a.entries ∙ (get_behind es a.added k ∙ g));
        few = omega (arith, a.few, a.within (omega arith), is_room);
        lemmas = lemmas;
        lemmas_at = at;
        lemmas_derived = derived;
        lemmas_few = short;
        taking = t;
        taken = (let T : ℕ → Type 0 = λ z. TakesAll z (untaken old) lemmas t in subst T is_room all);
        took = same_book;
        added = omega (arith, a.few);
        units = a.units;
        counted = a.counted;
        paid = omega (arith, a.paid, same_units);
        within = omega (arith, same_units, a.spent (omega arith), is_room);
        found = λ b e. absurd (let c : None ≡ Some b = sym none ∙ e in cc);
        seeks = seeks;
        counts = inr (listed, within, counted, λ _. why);
        kept = kept;
      }

-- what a seek for m stations that found no balance of so many tells of them
pub unfound : (book : BookView) (line : Line) (limit m used : ℕ) (best : Assignment) (lemmas : List Entry)
    → book.about.line ≡ line → 1 ≤ m → m < best.stations → RefuteIn line book.about.cycle m lemmas
    → (lemmas ≡ [] → IsOver book limit m best used)
    → (limit ≤ used) ⊎ HasAnswer lemmas (all_tasks book.about.line) m book.about.cycle ⊎ IsKnown book m
unfound book line limit m used best lemmas same some more (inr a) over =
    let L : Line → Type 0 = λ z. HasAnswer lemmas (all_tasks z) m book.about.cycle in
    inr (inl (subst L (sym same) a))
unfound book line limit m used best lemmas same some more (inl empty) over =
    elim (over empty) [
      | inl all ↦ inl all
      | inr (inl few) ↦ absurd (omega (arith, few, more))
      | inr (inr (inl none)) ↦ absurd (omega (arith, none, some))
      | inr (inr (inr known)) ↦ inr (inr known)
    ]

-- no more entries are kept than there is room for
pub kept_within : (room : ℕ) (old : BookView) (lemmas : List Entry) (t : Taking) (kept : ℕ)
    → TakesAll room (untaken old) lemmas t → t.kept ≡ kept → kept ≤ room
kept_within room old lemmas t kept all is =
    let a : Adds room (untaken old) t = all_add room (untaken old) lemmas t all in
    omega (arith, a.within (omega arith), is)
