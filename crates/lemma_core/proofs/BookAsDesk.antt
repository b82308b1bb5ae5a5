-- What the calls of a book do, seen as those of a desk that is alone.
use Rattle.std.proofs.Common.{◌≡◌, ℕ, zero, suc, ◌+◌, ◌<◌, ◌≤◌, Bool, true, false, cond, List, [], ◌∷◌, ◌++◌, length}
use Rattle.std.proofs.Common.{refl, sym, ap, ◌∙◌, subst, arith, Some, None, Option, length-append}
use Rattle.std.proofs.lemmas.List.{append-nil}
use Rattle.std.specs.List.{range_with_len}
use Rattle.std.specs.Prelude.{slice_get}
use Rattle.std.proofs.lemmas.Bool.Decides.{nat_tests}
use Rattle.std.proofs.lemmas.Option.{same_Some}
use Rattle.line_rules.specs.Accepted.{HasBalance}
use Rattle.line_rules.specs.Balance.{seat}
use Rattle.line_rules.specs.Entries.{IsDerived, IsLastAnswer, IsUnanswered}
use Rattle.line_rules.specs.declared.types.Entry.{Entry}
use Rattle.line_rules.specs.declared.types.Balance.{Balance as Assignment}
use Rattle.lemma_core.specs.declared.types.Event.{Event}
use Rattle.lemma_core.specs.declared.types.Event.TheVariants as event
use Rattle.lemma_core.specs.declared.types.Looked.{Looked}
use Rattle.lemma_core.specs.declared.types.Published.{Published}
use Rattle.lemma_core.specs.declared.types.Published.TheVariants as published
use Rattle.lemma_core.specs.declared.types.Offered.{Offered}
use Rattle.lemma_core.specs.declared.types.Offered.TheVariants as offered
use Rattle.lemma_core.specs.declared.types.Reply.TheVariants as reply
use Rattle.lemma_core.specs.Machine.{last_answer, found, answer, is_better}
use Rattle.lemma_core.specs.Machine as machine
use Rattle.lemma_core.specs.History.{Item, added, known, better, published_item, Standing}
use Rattle.lemma_core.specs.Books.{BookView, IsBook, IsReserved, ran, DoesPublish, desk_of}
use Rattle.lemma_core.specs.Desks.{entries, fewest_after, HasDerived, HasOwn, Waits, Adds, Finds, Publishes, Offers}
use Rattle.lemma_core.specs.Desks.{Tells}
use Rattle.lemma_core.proofs.Runs.{last_found, last_absent}
use Rattle.lemma_core.proofs.Logs.{worse_is, reserved_ran}

-- the entries that a book has seen are its own, and its best's stations the fewest
pub entries_seen : (b : BookView) → IsBook b → entries (desk_of b) ≡ b.state.entries
entries_seen b ok = ap (λ (s : Standing). s.entries) ok.replays

pub fewest_seen : (b : BookView) → IsBook b → fewest_after (desk_of b) b.events ≡ b.state.best.stations
fewest_seen b ok = ap (λ (s : Standing). s.stations) ok.replays

pub has_derived : (b : BookView) → IsBook b → HasDerived (desk_of b)
has_derived b ok = let P : List Entry → Type 0 = λ es. IsDerived b.about.kind b.about.line es in
    subst P (sym (entries_seen b ok)) ok.derived

-- nothing changes
pub stays : (b : BookView) → Waits (desk_of b) (desk_of b)
stays b = record {
  keeps = record {
    about = refl;
    opening = refl;
    alone = refl;
    roomy = λ t. t;
    kept = refl;
    seen = ([], append-nil b.events);
  };
  own = refl;
  still = λ t. refl;
}

pub stays_at : (b new : BookView) → new ≡ b → Waits (desk_of b) (desk_of new)
stays_at b new e = let P : BookView → Type 0 = λ z. Waits (desk_of b) (desk_of z) in subst P (sym e) (stays b)

pub range_push : (a n : ℕ) → range_with_len a (suc n) ≡ range_with_len a n ++ (a + n) ∷ []
range_push a zero = let e : a ≡ a + 0 = omega arith in ap (λ (x : ℕ). x ∷ []) e
range_push a (suc n) = let e : a + 1 + n ≡ a + suc n = omega arith in
    ap (λ (xs : List ℕ). a ∷ xs) (range_push (a + 1) n ∙ ap (λ (x : ℕ). range_with_len (a + 1) n ++ x ∷ []) e)

own_push : (xs : List Item) (x : Item) → range_with_len 0 (length (xs ++ x ∷ [])) ≡ range_with_len 0 (length xs)
    ++ length xs ∷ []
own_push xs x =
    let e : length (xs ++ x ∷ []) ≡ suc (length xs) = omega (arith, length-append xs (x ∷ [])) in
    let z : 0 + length xs ≡ length xs = omega arith in
    ap (λ (n : ℕ). range_with_len 0 n) e ∙ (range_push 0 (length xs)
    ∙ ap (λ (n : ℕ). range_with_len 0 (length xs) ++ n ∷ []) z)

-- a book's own places are all of them
pub range_at : (a n k x : ℕ) → slice_get (range_with_len a n) k ≡ Some x → (x ≡ a + k) × (k < n)
range_at a zero k x e = absurd (cc)
range_at a (suc n) zero x e = let same : a ≡ x = same_Some a x e in (omega (arith, same), omega arith)
range_at a (suc n) (suc k) x e = let h : (x ≡ a + 1 + k) × (k < n) = range_at (a + 1) n k x e in
    (omega (arith, h.0), omega (arith, h.1))

range_rises : (n k a b : ℕ) → slice_get (range_with_len 0 n) k ≡ Some a
    → slice_get (range_with_len 0 n) (suc k) ≡ Some b → a < b
range_rises n k a b e f = omega (arith, (range_at 0 n k a e).0, (range_at 0 n (suc k) b f).0)

pub has_own : (b : BookView) → HasOwn (desk_of b)
has_own b = record {
  rises = λ k x y e f. range_rises (length b.events) k x y e f;
  within = λ k x e. omega (arith, range_at 0 (length b.events) k x e);
}

-- room for offers was made, as a test and as a fact
pub is_roomy : (b : BookView) → (desk_of b).roomy ≡ true → IsReserved b
is_roomy b t = grind (arith, nat_tests, t)

pub roomy_is : (b : BookView) → IsReserved b → (desk_of b).roomy ≡ true
roomy_is b r = grind (arith, nat_tests, r)

-- one event is added to the list
adds : (b : BookView) (v : Event) (item : Item) → (ran b (v ∷ [])).events ≡ b.events ++ item ∷ []
    → Adds (desk_of b) (desk_of (ran b (v ∷ []))) b.events item
adds b v item e = record {
  keeps = record {
    about = refl;
    opening = refl;
    alone = refl;
    roomy = λ t. roomy_is (ran b (v ∷ [])) (reserved_ran b (v ∷ []) (is_roomy b t));
    kept = refl;
    seen = (item ∷ [], sym e);
  };
  last = e;
  since = ([], append-nil b.events);
  own = ap (λ (xs : List Item). range_with_len 0 (length xs)) e ∙ own_push b.events item;
  still = λ t. refl;
}

-- what a look tells is what the core machine finds
looks_case : (es : List Entry) (set : List Bool) (most cycle : ℕ) (o : Option ℕ) → last_answer es set most cycle ≡ o
    → Finds es set most cycle (found es o)
looks_case es set most cycle (Some id) e =
    let a : IsLastAnswer es set most cycle id = last_found es set most cycle id e in
    (a, ap (λ (z : Option Entry). machine.most_of z) (sym a.there))
looks_case es set most cycle None e = last_absent es set most cycle e

pub looks : (b : BookView) (set : List Bool) (most : ℕ) (r : Looked) → IsBook b
    → r ≡ found b.state.entries (last_answer b.state.entries set most b.about.cycle)
    → Finds (entries (desk_of b)) set most b.about.cycle r
looks b set most r ok e =
    let P : Looked → Type 0 = λ z. Finds (entries (desk_of b)) set most b.about.cycle z in
    let Q : List Entry → Type 0 = λ es. Finds es set most b.about.cycle
    (found b.state.entries (last_answer b.state.entries set most b.about.cycle)) in
    subst P (sym e) (subst Q (sym (entries_seen b ok)) (looks_case b.state.entries set most b.about.cycle
    (last_answer b.state.entries set most b.about.cycle) refl))

-- what the core machine answered tells which entry is the last that answers
known_case : (es : List Entry) (e : Entry) (id : ℕ) (o : Option ℕ) → last_answer es e.set e.most e.cycle ≡ o
    → machine.published es o ≡ reply.Known id → last_answer es e.set e.most e.cycle ≡ Some id
known_case es e id (Some i) g r = g ∙ (let same : i ≡ id = cc in ap Some same)
known_case es e id None g r = absurd (cc)

added_case : (es : List Entry) (e : Entry) (id : ℕ) (o : Option ℕ) → last_answer es e.set e.most e.cycle ≡ o
    → machine.published es o ≡ reply.Added id → (last_answer es e.set e.most e.cycle ≡ None) × (id ≡ length es)
added_case es e id (Some i) g r = absurd (cc)
added_case es e id None g r = (g, (let same : length es ≡ id = cc in sym same))

known_step : (b : BookView) (e : Entry) (id : ℕ) → IsBook b → last_answer b.state.entries e.set e.most e.cycle ≡ Some id
    → Publishes (desk_of b) (desk_of (ran b (event.Publish e ∷ []))) e (published.Known id)
known_step b e id ok g = (
  b.events,
  adds b (event.Publish e) (known id e.most) (ap (λ (o : Option ℕ). b.events ++ published_item b.state e o ∷ []) g),
  (let Q : List Entry → Type 0 = λ es. IsLastAnswer es e.set e.most e.cycle id in
      subst Q (sym (entries_seen b ok)) (last_found b.state.entries e.set e.most e.cycle id g)),
)

added_step : (b : BookView) (e : Entry) (id : ℕ) → IsBook b → last_answer b.state.entries e.set e.most e.cycle ≡ None
    → id ≡ length b.state.entries
    → Publishes (desk_of b) (desk_of (ran b (event.Publish e ∷ []))) e (published.Added id)
added_step b e id ok g n = (
  b.events,
  adds b (event.Publish e) (added id e) (ap (λ (o : Option ℕ). b.events ++ published_item b.state e o ∷ []) g
      ∙ ap (λ (m : ℕ). b.events ++ added m e ∷ []) (sym n)),
  (let Q : List Entry → Type 0 = λ es. IsUnanswered es e.set e.most e.cycle in
      subst Q (sym (entries_seen b ok)) (last_absent b.state.entries e.set e.most e.cycle g)),
  n ∙ ap (λ (es : List Entry). length es) (sym (entries_seen b ok)),
)

pub publishes : (b new : BookView) (e : Entry) (r : Published) → IsBook b → DoesPublish b e r new
    → Publishes (desk_of b) (desk_of new) e r
publishes b new e (published.Known id) ok d =
    let P : BookView → Type 0 = λ z. Publishes (desk_of b) (desk_of z) e (published.Known id) in
    subst P (sym d.1) (known_step b e id ok (known_case b.state.entries e id
    (last_answer b.state.entries e.set e.most e.cycle) refl d.0))
publishes b new e (published.Added id) ok d =
    let P : BookView → Type 0 = λ z. Publishes (desk_of b) (desk_of z) e (published.Added id) in
    let h : (last_answer b.state.entries e.set e.most e.cycle ≡ None) × (id ≡ length b.state.entries) =
    added_case b.state.entries e id (last_answer b.state.entries e.set e.most e.cycle) refl d.0 in
    subst P (sym d.1) (added_step b e id ok h.0 h.1)
publishes b new e published.NoMemory ok d = stays_at b new d

-- what an offer does
better_step : (b : BookView) (a : Assignment) → IsBook b → is_better b.state a ≡ true
    → Offers (desk_of b) (desk_of (ran b (event.Offer a ∷ []))) a.stations offered.Better
better_step b a ok t = (
  b.events,
  adds b (event.Offer a) (better a.stations) (ap (λ (x : Bool). b.events ++ (cond x (better a.stations ∷ []) [] ++ []))
      t),
  (let l : a.stations < b.state.best.stations = grind (arith, nat_tests, t) in omega (arith, fewest_seen b ok)),
)

worse_step : (b : BookView) (a : Assignment) → IsBook b → is_better b.state a ≡ false
    → Offers (desk_of b) (desk_of (ran b (event.Offer a ∷ []))) a.stations offered.NotBetter
worse_step b a ok t =
    let l : b.state.best.stations ≤ a.stations = grind (arith, nat_tests, t) in
    let P : BookView → Type 0 = λ z. Offers (desk_of b) (desk_of z) a.stations offered.NotBetter in
    subst P (worse_is b a l) (stays b, omega (arith, fewest_seen b ok))

offer_case : (b : BookView) (a : Assignment) (r : Offered) (t : Bool) → IsBook b → is_better b.state a ≡ t
    → reply.Offered r ≡ reply.Offered (cond t offered.Better offered.NotBetter)
    → Offers (desk_of b) (desk_of (ran b (event.Offer a ∷ []))) a.stations r
offer_case b a r true ok t e =
    let same : r ≡ offered.Better = cc in
    let P : Offered → Type 0 = λ z. Offers (desk_of b) (desk_of (ran b (event.Offer a ∷ []))) a.stations z in
    subst P (sym same) (better_step b a ok t)
offer_case b a r false ok t e =
    let same : r ≡ offered.NotBetter = cc in
    let P : Offered → Type 0 = λ z. Offers (desk_of b) (desk_of (ran b (event.Offer a ∷ []))) a.stations z in
    subst P (sym same) (worse_step b a ok t)

pub offers_so : (b new : BookView) (a : Assignment) (r : Offered) → IsBook b
    → reply.Offered r ≡ answer b.about.cycle b.state (event.Offer a) → new ≡ ran b (event.Offer a ∷ [])
    → Offers (desk_of b) (desk_of new) a.stations r
offers_so b new a r ok e n =
    let P : BookView → Type 0 = λ z. Offers (desk_of b) (desk_of z) a.stations r in
    subst P (sym n) (offer_case b a r (is_better b.state a) ok refl e)

-- the best's stations are the fewest of what is seen
pub tells : (b : BookView) (n : ℕ) → IsBook b → n ≡ b.state.best.stations → Tells (desk_of b) (desk_of b) n
tells b n ok e = record {
  waits = stays b;
  history = b.events;
  begins = ([], append-nil b.events);
  stations = e ∙ sym (fewest_seen b ok);
  balance = let P : ℕ → Type 0 = λ m. HasBalance b.about.kind b.about.line b.about.cycle m in
      subst P (sym e) (seat b.state.best.place, ok.right.balance);
  fewest = omega (arith, e, fewest_seen b ok);
  still = λ t. refl;
}
