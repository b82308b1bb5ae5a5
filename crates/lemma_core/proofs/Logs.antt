-- A log and its history, one item longer; and what a run of the core machine makes of a book.
use Rattle.std.proofs.Common.{◌≡◌, subst, ℕ, zero, suc, ◌+◌, ◌-◌, ◌<◌, ◌≤◌, Bool, true, false, cond, List, [], ◌∷◌}
use Rattle.std.proofs.Common.{◌++◌, length, refl, sym, ap, ◌∙◌, arith, Some, None, Option, length-append}
use Rattle.std.specs.Prelude.{slice_get}
use Rattle.std.proofs.lemmas.Bool.Decides.{nat_tests}
use Rattle.std.proofs.lemmas.List.{append-nil, take-append-le}
use Rattle.line_rules.specs.lines.Line.{Line}
use Rattle.line_rules.specs.declared.types.LineKind.{LineKind}
use Rattle.line_rules.specs.declared.types.Entry.{Entry}
use Rattle.line_rules.specs.declared.types.Balance.{Balance as Assignment}
use Rattle.lemma_core.specs.declared.types.LogItem.{LogItem}
use Rattle.lemma_core.specs.declared.types.LogItem.TheVariants as log
use Rattle.lemma_core.specs.declared.types.Event.{Event}
use Rattle.lemma_core.specs.declared.types.Event.TheVariants as event
use Rattle.lemma_core.specs.Machine.{State, last_answer, is_better, with_entry, step, run}
use Rattle.lemma_core.specs.History.{Item, added, known, better, published_item, items, history, Standing, replay}
use Rattle.lemma_core.specs.History.{AreExact, added_item, item_of, items_of, offers}
use Rattle.lemma_core.specs.Laws.{IsKept, AllMayCome}
use Rattle.line_rules.specs.Balance.{IsRight}
use Rattle.line_rules.specs.Entries.{Follows}
use Rattle.lemma_core.specs.Own.{IsStatable}
use Rattle.lemma_core.specs.Books.{BookView, IsBook, IsReserved, ran, DoesPublish}
use Rattle.lemma_core.specs.declared.types.Published.{Published}
use Rattle.lemma_core.specs.declared.types.Published.TheVariants as published
use Rattle.lemma_core.specs.inner.Inside.{Below, AllBelow, book_of, IsLogged}
use Rattle.lemma_core.proofs.ExactItems.{exact_append, history_exact}
use Rattle.lemma_core.proofs.Runs.{replay-append, history_replayed, run_keeps}
use Rattle.line_rules.proofs.ListFacts.{get_last, get_front}

pub items-push : (es : List Entry) (ls : List LogItem) (l : LogItem)
    → items_of es (ls ++ l ∷ []) ≡ items_of es ls ++ item_of es l ∷ []
items-push es [] l = refl
items-push es (x ∷ xs) l = ap (λ (is : List Item). item_of es x ∷ is) (items-push es xs l)

pub length-items : (es : List Entry) (ls : List LogItem) → length (items_of es ls) ≡ length ls
length-items es [] = refl
length-items es (x ∷ xs) = ap {B = ℕ} suc (length-items es xs)

-- the item at a place of the history is that of the log item there
pub item-at : (es : List Entry) (ls : List LogItem) (k : ℕ) (l : LogItem) → slice_get ls k ≡ Some l
    → slice_get (items_of es ls) k ≡ Some (item_of es l)
item-at es [] k l e = absurd (cc)
item-at es (x ∷ xs) zero l e = let same : x ≡ l = cc in ap (λ (z : LogItem). Some (item_of es z)) same
item-at es (x ∷ xs) (suc k) l e = item-at es xs k l e

item-more : (es : List Entry) (e : Entry) (l : LogItem) → Below (length es) l → item_of (es ++ e ∷ []) l ≡ item_of es l
item-more es e (log.Added id) b = ap (λ (o : Option Entry). added_item id o) (get_front es (e ∷ []) id b)
item-more es e (log.Known id most) b = refl
item-more es e (log.Offered stations) b = refl

items-more : (es : List Entry) (e : Entry) (ls : List LogItem) → AllBelow (length es) ls
    → items_of (es ++ e ∷ []) ls ≡ items_of es ls
items-more es e [] b = refl
items-more es e (l ∷ ls) b = λ i. item-more es e l b.0 i ∷ items-more es e ls b.1 i

below-wider : (n m : ℕ) → n ≤ m → (l : LogItem) → Below n l → Below m l
below-wider n m w (log.Added id) b = omega arith
below-wider n m w (log.Known id most) b = tt
below-wider n m w (log.Offered stations) b = tt

all-wider : (n m : ℕ) → n ≤ m → (ls : List LogItem) → AllBelow n ls → AllBelow m ls
all-wider n m w [] b = tt
all-wider n m w (l ∷ ls) b = (below-wider n m w l b.0, all-wider n m w ls b.1)

all-push : (n : ℕ) (ls : List LogItem) (l : LogItem) → AllBelow n ls → Below n l → AllBelow n (ls ++ l ∷ [])
all-push n [] l b c = (c, tt)
all-push n (x ∷ xs) l b c = (b.0, all-push n xs l b.1 c)

pub offers-append : (xs ys : List Item) → offers (xs ++ ys) ≡ offers xs + offers ys
offers-append [] ys = omega arith
offers-append (added id e ∷ xs) ys = offers-append xs ys
offers-append (known id m ∷ xs) ys = offers-append xs ys
offers-append (better m ∷ xs) ys = omega (arith, offers-append xs ys)

-- each better offer of an event leaves the best with a station less at least
offer_fewer : (s : State) (b : Assignment) (t : Bool) → is_better s b ≡ t
    → (cond t (record { entries = s.entries; best = b }) s).best.stations + offers (cond t (better b.stations ∷ []) [])
    ≤ s.best.stations
offer_fewer s b true e = let l : b.stations < s.best.stations = grind (arith, nat_tests, e) in omega arith
offer_fewer s b false e = omega arith

publish_fewer : (s : State) (e : Entry) (o : Option ℕ) → (with_entry o s e).best.stations + offers
    (published_item s e o ∷ []) ≤ s.best.stations
publish_fewer s e (Some id) = omega arith
publish_fewer s e None = omega arith

step_fewer : (s : State) (v : Event) → (step s v).best.stations + offers (items s v) ≤ s.best.stations
step_fewer s (event.Look set most) = omega arith
step_fewer s (event.Publish e) = publish_fewer s e (last_answer s.entries e.set e.most e.cycle)
step_fewer s (event.Offer b) = offer_fewer s b (is_better s b) refl

run_fewer : (s : State) (vs : List Event) → (run s vs).best.stations + offers (history s vs) ≤ s.best.stations
run_fewer s [] = omega arith
run_fewer s (v ∷ vs) = omega (
  arith,
  run_fewer (step s v) vs,
  step_fewer s v,
  offers-append (items s v) (history (step s v) vs),
)

-- a book stays one by events that may come
pub book_ran : (b : BookView) (vs : List Event) → IsBook b → AllMayCome b.about b.state vs → IsBook (ran b vs)
book_ran b vs ok may =
    let kept : IsKept b.about (run b.state vs) = run_keeps b.about b.state vs
    (record { derived = ok.derived; fresh = ok.fresh; statable = ok.statable; right = ok.right }) may in
    record {
      derived = kept.derived;
      fresh = kept.fresh;
      statable = kept.statable;
      right = kept.right;
      replays = replay-append b.opening b.events (history b.state vs)
          ∙ (ap (λ (z : Standing). replay z (history b.state vs)) ok.replays ∙ history_replayed b.state vs);
      exact = (let P : Standing → Type 0 = λ z. AreExact z (history b.state vs) in
          exact_append b.opening b.events (history b.state vs) ok.exact
          (subst P (sym ok.replays) (history_exact b.state vs)));
      fewer = omega (arith, ok.fewer, run_fewer b.state vs, offers-append b.events (history b.state vs));
    }

pub book_published : (b : BookView) (e : Entry) → IsBook b → Follows b.about.kind b.about.line b.state.entries e
    → IsStatable e → IsBook (ran b (event.Publish e ∷ []))
book_published b e ok f r = book_ran b (event.Publish e ∷ []) ok ((f, r), tt)

pub book_offered : (b : BookView) (a : Assignment) → IsBook b → IsRight b.about.kind b.about.line b.about.cycle a
    → IsBook (ran b (event.Offer a ∷ []))
book_offered b a ok r = book_ran b (event.Offer a ∷ []) ok (r, tt)

-- what room was made for offers is left for those to come
pub reserved_ran : (b : BookView) (vs : List Event) → IsReserved b → IsReserved (ran b vs)
reserved_ran b vs r = omega (arith, offers-append b.events (history b.state vs))

pub reserved_published : (b new : BookView) (e : Entry) (r : Published) → DoesPublish b e r new → IsReserved b
    → IsReserved new
reserved_published b new e (published.Known id) d r = let P : BookView → Type 0 = λ z. IsReserved z in
    subst P (sym d.1) (reserved_ran b (event.Publish e ∷ []) r)
reserved_published b new e (published.Added id) d r = let P : BookView → Type 0 = λ z. IsReserved z in
    subst P (sym d.1) (reserved_ran b (event.Publish e ∷ []) r)
reserved_published b new e published.NoMemory d r = let P : BookView → Type 0 = λ z. IsReserved z in subst P (sym d) r

-- there are no more offers than events
pub few_offers : (xs : List Item) → offers xs ≤ length xs
few_offers [] = omega arith
few_offers (added id e ∷ xs) = omega (arith, few_offers xs)
few_offers (known id m ∷ xs) = omega (arith, few_offers xs)
few_offers (better m ∷ xs) = omega (arith, few_offers xs)

module _ (line : Line) (kind : LineKind) (cycle : ℕ) (es : List Entry) (ls : List LogItem) (best : Assignment)
    (start stations room : ℕ) where
  abbrev pub here : BookView
  here = book_of line kind cycle es ls best start stations room

  -- an entry was known
  pub known_is : (e : Entry) (id : ℕ) → last_answer es e.set e.most e.cycle ≡ Some id
      → book_of line kind cycle es (ls ++ log.Known id e.most ∷ []) best start stations room
      ≡ ran here (event.Publish e ∷ [])
  known_is e id g = rw g (
      let p : room ≡ room - 0 = omega arith in
      λ i. record {
        about = here.about;
        opening = here.opening;
        state = here.state;
        events = items-push es ls (log.Known id e.most) i;
        room = p i;
      })

  pub known_logged : (id most : ℕ) → IsLogged es ls start → IsLogged es (ls ++ log.Known id most ∷ []) start
  known_logged id most h = record { start = h.start; below = all-push (length es) ls (log.Known id most) h.below tt }

  -- an entry was added
  items-added : (e : Entry) → AllBelow (length es) ls → items_of (es ++ e ∷ []) (ls ++ log.Added (length es) ∷ [])
      ≡ items_of es ls ++ added (length es) e ∷ []
  items-added e b = items-push (es ++ e ∷ []) ls (log.Added (length es))
      ∙ (λ i. items-more es e ls b i ++ added_item (length es) (get_last es e i) ∷ [])

  pub added_is : (e : Entry) → last_answer es e.set e.most e.cycle ≡ None → IsLogged es ls start
      → book_of line kind cycle (es ++ e ∷ []) (ls ++ log.Added (length es) ∷ []) best start stations room
      ≡ ran here (event.Publish e ∷ [])
  added_is e g h = rw g (
      let p : room ≡ room - 0 = omega arith in
      λ i. record {
        about = here.about;
        opening = record { entries = take-append-le start es (e ∷ []) h.start i; stations = stations };
        state = record { entries = es ++ e ∷ []; best = best };
        events = items-added e h.below i;
        room = p i;
      })

  pub added_logged : (e : Entry) → IsLogged es ls start → IsLogged (es ++ e ∷ []) (ls ++ log.Added (length es) ∷ [])
      start
  added_logged e h =
      let long : length (es ++ e ∷ []) ≡ suc (length es) = omega (arith, length-append es (e ∷ [])) in
      record {
        start = omega (arith, h.start, long);
        below = all-push (length (es ++ e ∷ [])) ls (log.Added (length es))
            (all-wider (length es) (length (es ++ e ∷ [])) (omega arith) ls h.below) (omega arith);
      }

  -- a balance became the best
  pub better_is : (b : Assignment) → b.stations < best.stations
      → book_of line kind cycle es (ls ++ log.Offered b.stations ∷ []) b start stations (room - 1)
      ≡ ran here (event.Offer b ∷ [])
  better_is b l =
      let t : is_better here.state b ≡ true = grind (arith, nat_tests, l) in
      rw t (λ i. record {
        about = here.about;
        opening = here.opening;
        state = record { entries = es; best = b };
        events = items-push es ls (log.Offered b.stations) i;
        room = room - 1;
      })

  pub offered_logged : (n : ℕ) → IsLogged es ls start → IsLogged es (ls ++ log.Offered n ∷ []) start
  offered_logged n h = record { start = h.start; below = all-push (length es) ls (log.Offered n) h.below tt }

-- a balance that isn't better changes nothing
pub worse_is : (b : BookView) (a : Assignment) → b.state.best.stations ≤ a.stations → b ≡ ran b (event.Offer a ∷ [])
worse_is b a l =
    let t : is_better b.state a ≡ false = grind (arith, nat_tests, l) in
    rw t (
    let p : b.room ≡ b.room - 0 = omega arith in
    λ i. record {
      about = b.about;
      opening = b.opening;
      state = b.state;
      events = sym (append-nil b.events) i;
      room = p i;
    })
