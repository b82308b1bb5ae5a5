-- The book in hand: what its calls tell as a desk is what the pass with the turn may be told.
use Rattle.std.proofs.Common.{◌≡◌, ◌≢◌, ℕ, ◌<◌, ◌≤◌, suc, Bool, List, [], ◌∷◌, ◌++◌, length, length-append, refl}
use Rattle.std.proofs.Common.{sym, ap, ◌∙◌, subst, arith, append-nil}
use Rattle.std.proofs.lemmas.Bool.{true≢false}
use Rattle.line_rules.specs.Accepted.{HasBalance}
use Rattle.line_rules.specs.Balance.{seat}
use Rattle.line_rules.specs.Entries.{Follows, IsDerived, IsLastAnswer, IsUnanswered}
use Rattle.line_rules.specs.declared.types.Entry.{Entry}
use Rattle.lemma_core.specs.declared.types.Looked.{Looked}
use Rattle.lemma_core.specs.declared.types.Published.{Published}
use Rattle.lemma_core.specs.declared.types.Published.TheVariants as published
use Rattle.lemma_core.specs.declared.types.Offered.{Offered}
use Rattle.lemma_core.specs.declared.types.Offered.TheVariants as offered
use Rattle.lemma_core.specs.Machine.{About}
use Rattle.lemma_core.specs.History.{Item, added, known, better, Standing, replay, Begins, AreExact}
use Rattle.lemma_core.specs.Books.{BookView, IsBook, desk_of}
use Rattle.lemma_core.specs.Desks.{entries, HasDerived, FollowsSeen, Waits, Adds, Finds, Publishes, Offers}
use Rattle.lemma_core.proofs.BookAsDesk.{is_roomy, fewest_seen, roomy_is}
use Rattle.lemma_core.proofs.HistoryGrows.{follows_still, begins_on}
use Rattle.book_share.specs.Passes.{Base, PassView, desk_by}
use Rattle.book_share.specs.Places.{Rises}
use Rattle.book_share.specs.Rule.{IsFor, IsReached, OwnRises, fewest}
use Rattle.book_share.specs.Steps.{Mine}
use Rattle.book_share.specs.inner.Turning.{Holds, HasNew, IsQuiet, Ends, noted}
use Rattle.book_share.proofs.Lists.{rises_push}

-- what is true of a book's matter, opening and log is true of the share's and the history
pub over : (P : About × (Standing × List Item) → Type 0) (base : Base) (h : List Item) (b : BookView) → IsFor base h b
    → P (b.about, (b.opening, b.events)) → P (base.about, (base.opening, h))
over P base h b is = subst P (λ i. (is.about i, (is.opening i, is.events i)))

pub under : (P : About × (Standing × List Item) → Type 0) (base : Base) (h : List Item) (b : BookView) → IsFor base h b
    → P (base.about, (base.opening, h)) → P (b.about, (b.opening, b.events))
under P base h b is = subst P (λ i. (sym is.about i, (sym is.opening i, sym is.events i)))

pub follows_in : (v : PassView) (b : BookView) (e : Entry) → IsFor v.base v.seen b → FollowsSeen (desk_by v) e
    → FollowsSeen (desk_of b) e
follows_in v b e is = under (λ x. Follows x.0.kind x.0.line (replay x.1.0 x.1.1).entries e) v.base v.seen b is

pub derived_by : (v : PassView) (b : BookView) → IsFor v.base v.seen b → HasDerived (desk_of b) → HasDerived (desk_by v)
derived_by v b is = over (λ x. IsDerived x.0.kind x.0.line (replay x.1.0 x.1.1).entries) v.base v.seen b is

pub finds_by : (v : PassView) (b : BookView) (set : List Bool) (most : ℕ) (r : Looked) → IsFor v.base v.seen b
    → Finds (entries (desk_of b)) set most b.about.cycle r → Finds (entries (desk_by v)) set most v.base.about.cycle r
finds_by v b set most r is = over (λ x. Finds (replay x.1.0 x.1.1).entries set most x.0.cycle r) v.base v.seen b is

-- so many stations as the history of a book has have a balance
pub reached_in : (b : BookView) → IsBook b → IsReached b.about (replay b.opening b.events).stations
reached_in b ok =
    let e : (replay b.opening b.events).stations ≡ b.state.best.stations = fewest_seen b ok in
    record {
      balance = subst (λ (n : ℕ). HasBalance b.about.kind b.about.line b.about.cycle n) (sym e)
          (seat b.state.best.place, ok.right.balance);
      few = omega (arith, e, ok.fewer);
    }

pub exact_for : (v : PassView) (b : BookView) → IsFor v.base b.events b → AreExact b.opening b.events
    → AreExact v.base.opening b.events
exact_for v b is = subst (λ (s : Standing). AreExact s b.events) is.opening

pub reached_for : (v : PassView) (b : BookView) → IsFor v.base b.events b → IsBook b
    → IsReached v.base.about (fewest v.base b.events)
reached_for v b is ok = over (λ x. IsReached x.0 (replay x.1.0 x.1.1).stations) v.base b.events b is (reached_in b ok)

-- a pass that sees more
pub waits_by : (v w : PassView) → w.base ≡ v.base → w.own ≡ v.own → Begins v.seen w.seen → Waits (desk_by v) (desk_by w)
waits_by v w base own seen = record {
  keeps = record {
    about = ap (λ (x : Base). x.about) base;
    opening = ap (λ (x : Base). x.opening) base;
    alone = refl;
    roomy = λ t. t;
    kept = refl;
    seen = seen;
  };
  own = own;
  still = λ t. absurd (true≢false (sym t));
}

pub follows_by : (v t : PassView) (e : Entry) → t.base ≡ v.base → t.own ≡ v.own → Begins v.seen t.seen
    → FollowsSeen (desk_by v) e → FollowsSeen (desk_by t) e
follows_by v t e base own seen = follows_still (desk_by v) (desk_by t) e (waits_by v t base own seen).keeps

-- an event of a pass that saw more before it
adds_from : (v t w : PassView) (before : List Item) (i : Item) → Waits (desk_by v) (desk_by t)
    → Adds (desk_by t) (desk_by w) before i → Adds (desk_by v) (desk_by w) before i
adds_from v t w before i a b = record {
  keeps = record {
    about = b.keeps.about ∙ a.keeps.about;
    opening = b.keeps.opening ∙ a.keeps.opening;
    alone = refl;
    roomy = λ z. z;
    kept = refl;
    seen = begins_on v.seen t.seen w.seen a.keeps.seen b.keeps.seen;
  };
  last = b.last;
  since = begins_on v.seen t.seen before a.keeps.seen b.since;
  own = b.own ∙ ap (λ (ps : List ℕ). ps ++ length before ∷ []) a.own;
  still = λ z. absurd (true≢false (sym z));
}

waits_from : (v t w : PassView) → Waits (desk_by v) (desk_by t) → Waits (desk_by t) (desk_by w)
    → Waits (desk_by v) (desk_by w)
waits_from v t w a b = record {
  keeps = record {
    about = b.keeps.about ∙ a.keeps.about;
    opening = b.keeps.opening ∙ a.keeps.opening;
    alone = refl;
    roomy = λ z. z;
    kept = refl;
    seen = begins_on v.seen t.seen w.seen a.keeps.seen b.keeps.seen;
  };
  own = b.own ∙ a.own;
  still = λ z. absurd (true≢false (sym z));
}

pub publishes_from : (v t w : PassView) (e : Entry) (r : Published) → Waits (desk_by v) (desk_by t)
    → Publishes (desk_by t) (desk_by w) e r → Publishes (desk_by v) (desk_by w) e r
publishes_from v t w e (published.Known id) a p = (
  p.0,
  adds_from v t w p.0 (known id e.most) a p.1,
  subst (λ (s : Standing). IsLastAnswer (replay s p.0).entries e.set e.most e.cycle id) a.keeps.opening p.2,
)
publishes_from v t w e (published.Added id) a p = (
  p.0,
  adds_from v t w p.0 (added id e) a p.1,
  subst (λ (s : Standing). IsUnanswered (replay s p.0).entries e.set e.most e.cycle) a.keeps.opening p.2,
  subst (λ (s : Standing). id ≡ length (replay s p.0).entries) a.keeps.opening p.3,
)
publishes_from v t w e published.NoMemory a p = waits_from v t w a p

pub offers_from : (v t w : PassView) (n : ℕ) (r : Offered) → Waits (desk_by v) (desk_by t)
    → Offers (desk_by t) (desk_by w) n r → Offers (desk_by v) (desk_by w) n r
offers_from v t w n offered.Better a p = (
  p.0,
  adds_from v t w p.0 (better n) a p.1,
  subst (λ (s : Standing). n < (replay s p.0).stations) a.keeps.opening p.2,
)
offers_from v t w n offered.NotBetter a p = (
  waits_from v t w a p.0,
  subst (λ (s : Standing). (replay s w.seen).stations ≤ n) a.keeps.opening p.1,
)

-- what was an event of the book alone is one of the pass, whose place is the length of what was seen
adds_by : (v w : PassView) (b b' : BookView) (before : List Item) (i : Item) → IsFor v.base v.seen b
    → Adds (desk_of b) (desk_of b') before i → w.base ≡ v.base → w.seen ≡ b'.events
    → w.own ≡ v.own ++ length v.seen ∷ []
    → Adds (desk_by v) (desk_by w) before i
adds_by v w b b' before i is a base seen own =
    let same : before ≡ v.seen = a.still refl ∙ is.events in
    let last : w.seen ≡ before ++ i ∷ [] = seen ∙ a.last in
    record {
      keeps = record {
        about = ap (λ (x : Base). x.about) base;
        opening = ap (λ (x : Base). x.opening) base;
        alone = refl;
        roomy = λ z. z;
        kept = refl;
        seen = (i ∷ [], ap (λ (h : List Item). h ++ i ∷ []) (sym same) ∙ sym last);
      };
      last = last;
      since = subst (λ (h : List Item). Begins v.seen h) (sym same) ([], append-nil v.seen);
      own = own ∙ ap (λ (h : List Item). v.own ++ length h ∷ []) (sym same);
      still = λ z. absurd (true≢false (sym z));
    }

-- the book that has one event more
has_new : (m : Mine) (b b' : BookView) (before : List Item) (i : Item) → Holds m b
    → Adds (desk_of b) (desk_of b') before i → HasNew m b' i
has_new m b b' before i h a = record {
  phase = h.phase;
  slot = h.slot;
  events = a.last ∙ ap (λ (x : List Item). x ++ i ∷ []) (a.still refl ∙ h.book.events);
  book = record {
    about = a.keeps.about ∙ h.book.about;
    opening = a.keeps.opening ∙ h.book.opening;
    events = refl;
    reserved = is_roomy b' (a.keeps.roomy (roomy_is b h.book.reserved));
  };
}

-- the book in which nothing was recorded
pub has_same : (m : Mine) (b b' : BookView) → Holds m b → Waits (desk_of b) (desk_of b') → Holds m b'
has_same m b b' h w = record {
  phase = h.phase;
  slot = h.slot;
  book = record {
    about = w.keeps.about ∙ h.book.about;
    opening = w.keeps.opening ∙ h.book.opening;
    events = w.still refl ∙ h.book.events;
    reserved = is_roomy b' (w.keeps.roomy (roomy_is b h.book.reserved));
  };
}

-- a publish that had memory is one event, and no offer
adds_of : (b b' : BookView) (e : Entry) (r : Published) → Publishes (desk_of b) (desk_of b') e r
    → r ≢ published.NoMemory → (before : List Item) × (i : Item) × IsQuiet i × Adds (desk_of b) (desk_of b') before i
adds_of b b' e (published.Known id) p done = (p.0, known id e.most, tt, p.1)
adds_of b b' e (published.Added id) p done = (p.0, added id e, tt, p.1)
adds_of b b' e published.NoMemory p done = absurd (done refl)

pub published_new : (m : Mine) (b b' : BookView) (e : Entry) (r : Published) → Holds m b
    → Publishes (desk_of b) (desk_of b') e r → r ≢ published.NoMemory → (i : Item) × IsQuiet i × HasNew m b' i
published_new m b b' e r h p done = let a = adds_of b b' e r p done in (a.1, a.2, has_new m b b' a.0 a.1 h a.3)

publishes_by : (v : PassView) (b b' : BookView) (e : Entry) (r : Published) → IsFor v.base v.seen b
    → Publishes (desk_of b) (desk_of b') e r → r ≢ published.NoMemory
    → Publishes (desk_by v) (desk_by (noted v b'.events)) e r
publishes_by v b b' e (published.Known id) is p done = (
  p.0,
  adds_by v (noted v b'.events) b b' p.0 (known id e.most) is p.1 refl refl refl,
  subst (λ (s : Standing). IsLastAnswer (replay s p.0).entries e.set e.most e.cycle id) is.opening p.2,
)
publishes_by v b b' e (published.Added id) is p done = (
  p.0,
  adds_by v (noted v b'.events) b b' p.0 (added id e) is p.1 refl refl refl,
  subst (λ (s : Standing). IsUnanswered (replay s p.0).entries e.set e.most e.cycle) is.opening p.2,
  subst (λ (s : Standing). id ≡ length (replay s p.0).entries) is.opening p.3,
)
publishes_by v b b' e published.NoMemory is p done = absurd (done refl)

-- a turn that recorded an event ends with that event seen, at a place of the pass's own
ends_by : (m : Mine) (b b' : BookView) (before : List Item) (i : Item) → Holds m b → OwnRises m.0
    → Adds (desk_of b) (desk_of b') before i → AreExact b'.opening b'.events → Ends m.0 (noted m.0 b'.events, [])
ends_by m b b' before i h r a exact =
    let n = has_new m b b' before i h a in
    let long : length b'.events ≡ suc (length m.0.seen) = omega
    (arith, ap (λ (x : List Item). length x) n.events, length-append m.0.seen (i ∷ [])) in
    record {
      resting = record {
        me = refl;
        rises = subst (λ (k : ℕ). Rises m.0.base.from (m.0.own ++ length m.0.seen ∷ []) k) (sym long)
            (rises_push m.0.base.from m.0.own (length m.0.seen) r);
        exact = exact_for m.0 b' n.book exact;
      };
      base = refl;
      tries = refl;
      met = refl;
      reads = refl;
      read = refl;
      parts = refl;
    }

-- what a turn tells that published an entry
pub record TurnPublishes (v : PassView) (e : Entry) (r : Published) (m : Mine) : Type 0 where
  pub ends : Ends v m
  pub publishes : Publishes (desk_by v) (desk_by m.0) e r
  pub derived : HasDerived (desk_by m.0)

pub turn_publishes : (m w : Mine) (b b' : BookView) (e : Entry) (r : Published) → Holds m b → OwnRises m.0
    → Publishes (desk_of b) (desk_of b') e r → r ≢ published.NoMemory → HasDerived (desk_of b')
    → AreExact b'.opening b'.events → w ≡ (noted m.0 b'.events, [])
    → TurnPublishes m.0 e r w
turn_publishes m w b b' e r h rises p done derived exact is =
    let a = adds_of b b' e r p done in
    let n = has_new m b b' a.0 a.1 h a.3 in
    subst (λ (x : Mine). TurnPublishes m.0 e r x) (sym is) (record {
      ends = ends_by m b b' a.0 a.1 h rises a.3 exact;
      publishes = publishes_by m.0 b b' e r h.book p done;
      derived = derived_by (noted m.0 b'.events) b' n.book derived;
    })

pub turn_offers : (m w : Mine) (b b' : BookView) (n : ℕ) → Holds m b → OwnRises m.0
    → Offers (desk_of b) (desk_of b') n offered.Better → AreExact b'.opening b'.events → w ≡ (noted m.0 b'.events, [])
    → Ends m.0 w
turn_offers m w b b' n h rises p exact is = subst (λ (x : Mine). Ends m.0 x) (sym is)
    (ends_by m b b' p.0 (better n) h rises p.1 exact)
