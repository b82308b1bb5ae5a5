-- What steps of a search publish and pay, one after the other.
use Rattle.std.proofs.Common.{◌≡◌, ℕ, zero, suc, ◌+◌, ◌≤◌, Bool, true, List, [], ◌∷◌, ◌++◌, length, refl, sym, ap, ◌∙◌}
use Rattle.std.proofs.Common.{subst, inl, inr, arith, Option, Some, length-append}
use Rattle.std.specs.Prelude.{slice_get}
use Rattle.std.proofs.lemmas.List.{append-nil}
use Rattle.line_instance.specs.Truths.{In, IsSubset}
use Rattle.line_instance.specs.Line.{Line}
use Rattle.line_rules.specs.Loads.{IsLoad}
use Rattle.line_rules.specs.Order.{Counts}
use Rattle.line_rules.specs.Units.{UnitsBy, UnitsOf}
use Rattle.line_rules.specs.Entries.{Answers, IsUnanswered, IsLastAnswer}
use Rattle.line_rules.specs.declared.types.LineKind.{LineKind}
use Rattle.line_rules.specs.declared.types.Mode.{Mode}
use Rattle.line_rules.specs.declared.types.Entry.{Entry}
use Rattle.line_rules.proofs.LongerLists.{get_longer}
use Rattle.line_rules.proofs.ListUnits.{units_both}
use Rattle.lemma_core.specs.History.{Item, added, known, better}
use Rattle.lemma_core.specs.Desks.{DeskView, entries, entries_after, Keeps, Waits, Adds}
use Rattle.lemma_core.specs.Own.{added_of}
use Rattle.station_search.specs.Mode.{frame_mode}
use Rattle.station_search.specs.Costs.{HasMode, AreLemmas, HasLoads, Pays, PayAll}
use Rattle.station_search.specs.inner.Work.{Does, DoesFew, AreWithin, DoesFor}
use Rattle.lemma_core.proofs.HistoryGrows.{keeps_none}
use Rattle.lemma_core.proofs.OwnFacts.{did_none, did_waits, did_adds, did_both, saw_none, saw_waits, saw_adds, saw_both}
use Rattle.lemma_core.proofs.OwnFacts.{entries_more, entries_added}
use Rattle.station_search.proofs.Events.{get_append_cases, publish_both, added_both, known_answers}

pays_longer : (asked : Option Mode) (kind : LineKind) (line : Line) (X : ℕ) (es more : List Entry) (i : Item) (n : ℕ)
    → Pays asked kind line X es i n → Pays asked kind line X (es ++ more) i n
pays_longer asked kind line X es more (added id e) n p = p
pays_longer asked kind line X es more (known id most) n p = (p.0, get_longer es more id p.0 p.1, p.2)
pays_longer asked kind line X es more (better m) n p = p

pay_longer : (asked : Option Mode) (kind : LineKind) (line : Line) (X : ℕ) (es more : List Entry) (is : List Item)
    (n : ℕ) → PayAll asked kind line X es is n → PayAll asked kind line X (es ++ more) is n
pay_longer asked kind line X es more [] n p = p
pay_longer asked kind line X es more (i ∷ is) n p = (
  p.0,
  p.1,
  (pays_longer asked kind line X es more i p.0 p.2.0, pay_longer asked kind line X es more is p.1 p.2.1, p.2.2),
)

pay_both : (asked : Option Mode) (kind : LineKind) (line : Line) (X : ℕ) (es : List Entry) (xs ys : List Item) (a b : ℕ)
    → PayAll asked kind line X es xs a → PayAll asked kind line X es ys b
    → PayAll asked kind line X es (xs ++ ys) (a + b)
pay_both asked kind line X es [] ys a b p q = let P : ℕ → Type 0 = λ z. PayAll asked kind line X es ys z in
    let e : b ≡ a + b = omega (arith, p) in subst P e q
pay_both asked kind line X es (x ∷ xs) ys a b p q = (
  p.0,
  p.1 + b,
  (p.2.0, pay_both asked kind line X es xs ys p.1 b p.2.1 q, omega (arith, p.2.2)),
)

lemmas_both : (asked : Option Mode) (kind : LineKind) (line : Line) (X : ℕ) (xs ys : List Entry)
    → AreLemmas asked kind line X xs → AreLemmas asked kind line X ys → AreLemmas asked kind line X (xs ++ ys)
lemmas_both asked kind line X [] ys p q = q
lemmas_both asked kind line X (x ∷ xs) ys p q = (p.0, p.1, lemmas_both asked kind line X xs ys p.2 q)

-- the units of the entries that two lists of items add
pub fresh_both : (line : Line) (xs ys : List Item) (a b : ℕ) → UnitsOf line (added_of xs) a
    → UnitsOf line (added_of ys) b → UnitsOf line (added_of (xs ++ ys)) (a + b)
fresh_both line xs ys a b p q = let P : List Entry → Type 0 = λ z. UnitsOf line z (a + b) in
    subst P (sym (added_both xs ys)) (units_both line (added_of xs) (added_of ys) a b p q)

-- so many entries are added by two lists of items
pub added_length : (xs ys : List Item) → length (added_of (xs ++ ys)) ≡ length (added_of xs) + length (added_of ys)
added_length xs ys = ap (λ (z : List Entry). length z) (added_both xs ys) ∙ length-append (added_of xs) (added_of ys)

-- the units of the entries added are among what was paid
pub units_among : (asked : Option Mode) (kind : LineKind) (line : Line) (X : ℕ) (es : List Entry) (is : List Item)
    (n : ℕ) → PayAll asked kind line X es is n → (a : ℕ) × (UnitsOf line (added_of is) a × (a ≤ n))
units_among asked kind line X es [] n p = (0, (refl, omega arith))
units_among asked kind line X es (added id e ∷ is) n p =
    let r : (a : ℕ) × (UnitsOf line (added_of is) a × (a ≤ p.1)) = units_among asked kind line X es is p.1 p.2.1 in
    (p.0 + r.0, ((p.0, r.0, (p.2.0, r.1.0, refl)), omega (arith, r.1.1, p.2.2)))
units_among asked kind line X es (known id most ∷ is) n p =
    let r : (a : ℕ) × (UnitsOf line (added_of is) a × (a ≤ p.1)) = units_among asked kind line X es is p.1 p.2.1 in
    (r.0, (r.1.0, omega (arith, r.1.1, p.2.2)))
units_among asked kind line X es (better m ∷ is) n p =
    let r : (a : ℕ) × (UnitsOf line (added_of is) a × (a ≤ p.1)) = units_among asked kind line X es is p.1 p.2.1 in
    (r.0, (r.1.0, omega (arith, r.1.1, p.2.2)))

pub counts_has : (line : Line) (c : ℕ) (mode : Mode) (R : List Bool) (n : ℕ) → Counts line (IsLoad line c mode R) n
    → HasLoads line c mode R n
counts_has line c mode R n h = record { loads = h.loads; rises = h.listed.rises; each = h.listed.sound; long = h.long }

pub no_loads : (line : Line) (c : ℕ) (mode : Mode) (R : List Bool) → HasLoads line c mode R 0
no_loads line c mode R = record {
  loads = [];
  rises = λ k a b e d. absurd (cc);
  each = λ k a e. absurd (cc);
  long = refl;
}

module _ (asked : Option Mode) (kind : LineKind) (line : Line) (X : ℕ) where
  pub does_waits : (old new : DeskView) → Waits old new → Does asked kind line X old new [] 0
  does_waits old new w = record {
    did = did_waits old old new [] (did_none old) w;
    publishes = tt;
    lemmas = tt;
    paid = refl;
    alone = saw_waits old old new [] (keeps_none old) (saw_none old) w;
  }

  pub does_both : (a b c : DeskView) (xs ys : List Item) (m n : ℕ) → Keeps a b → Keeps b c
      → Does asked kind line X a b xs m → Does asked kind line X b c ys n
      → Does asked kind line X a c (xs ++ ys) (m + n)
  does_both a b c xs ys m n k l d e =
      let h : (more : List Entry) × (entries c ≡ entries b ++ more) = entries_more b c l in
      let P : List Entry → Type 0 = λ z. PayAll asked kind line X z xs m in
      let Q : List Entry → Type 0 = λ z. AreLemmas asked kind line X z in
      record {
        did = did_both a b c xs ys k l d.did e.did;
        publishes = publish_both xs ys d.publishes e.publishes;
        lemmas = subst Q (sym (added_both xs ys)) (lemmas_both asked kind line X (added_of xs) (added_of ys) d.lemmas
            e.lemmas);
        paid = pay_both asked kind line X (entries c) xs ys m n
            (subst P (sym h.1) (pay_longer asked kind line X (entries b) h.0 xs m d.paid)) e.paid;
        alone = saw_both a b c xs ys k d.alone e.alone;
      }

  -- what is done after a call that added no event
  pub does_then : (a b c : DeskView) (ys : List Item) (n : ℕ) → Waits a b → Keeps b c → Does asked kind line X b c ys n
      → Does asked kind line X a c ys n
  does_then a b c ys n w l d =
      let P : ℕ → Type 0 = λ z. Does asked kind line X a c ys z in
      let e : 0 + n ≡ n = omega arith in
      subst P e (does_both a b c [] ys 0 n w.keeps l (does_waits a b w) d)

  pub one_none : (old new : DeskView) (T : List Bool) (most : ℕ) → Waits old new
      → DoesFor asked kind line X old new T most 0
  one_none old new T most w = record {
    items = [];
    done = does_waits old new w;
    few = omega arith;
    within = tt;
    fresh = λ t. refl;
  }

  pub one_added : (old new : DeskView) (before : List Item) (id : ℕ) (e : Entry) (T : List Bool) (n : ℕ)
      → Adds old new before (added id e) → e.cycle ≡ X → HasMode asked kind line e.set e.why → UnitsBy line e e.why n
      → IsSubset e.set T
      → DoesFor asked kind line X old new T 1 n
  one_added old new before id e T n a cycle mode units part = record {
    items = added id e ∷ [];
    done = record {
      did = did_adds old old new [] before (added id e) (keeps_none old) (did_none old) a;
      publishes = (tt, tt);
      lemmas = (cycle, mode, tt);
      paid = (n, 0, (units, refl, omega arith));
      alone = saw_adds old old new [] before (added id e) (keeps_none old) (saw_none old) a;
    };
    few = omega arith;
    within = (part, tt);
    fresh = λ t. (n, 0, (units, refl, omega arith));
  }

  -- a known entry pays with loads of its set
  known_does : (old new : DeskView) (before : List Item) (id m : ℕ) (T : List Bool) (most n : ℕ)
      → Adds old new before (known id m) → IsLastAnswer (entries_after old before) T most X id
      → HasLoads line X (frame_mode asked kind line T) T n → Does asked kind line X old new (known id m ∷ []) n
  known_does old new before id m T most n a last loads =
      let s = known_answers old new before (known id m) T most X id a last in
      let H : List Bool → Type 0 = λ z. HasLoads line X (frame_mode asked kind line z) z n in
      record {
        did = did_adds old old new [] before (known id m) (keeps_none old) (did_none old) a;
        publishes = (tt, tt);
        lemmas = tt;
        paid = (n, 0, ((s.entry, s.there, subst H (sym s.answers.same) loads), refl, omega arith));
        alone = saw_adds old old new [] before (known id m) (keeps_none old) (saw_none old) a;
      }

  -- what was published for a set
  pub does_few : (old new : DeskView) (T : List Bool) (most n : ℕ) → DoesFor asked kind line X old new T most n
      → DoesFew asked kind line X old new most n
  does_few old new T most n d = record { items = d.items; done = d.done; few = d.few }

  -- a call that added no event
  pub few_waits : (old new : DeskView) (most : ℕ) → Waits old new → DoesFew asked kind line X old new most 0
  few_waits old new most w = record { items = []; done = does_waits old new w; few = omega arith }

  -- a call that added no event after what was done
  pub does_still : (a b c : DeskView) (items : List Item) (n : ℕ) → Keeps a b → Does asked kind line X a b items n
      → Waits b c → Does asked kind line X a c items n
  does_still a b c items n k d w =
      let P : List Item → Type 0 = λ z. Does asked kind line X a c z n in
      let Q : ℕ → Type 0 = λ z. Does asked kind line X a c (items ++ []) z in
      let e : n + 0 ≡ n = omega arith in
      subst P (append-nil items) (subst Q e (does_both a b c items [] n 0 k w.keeps d (does_waits b c w)))

  pub few_then : (a b c : DeskView) (most n : ℕ) → Keeps a b → DoesFew asked kind line X a b most n → Waits b c
      → DoesFew asked kind line X a c most n
  few_then a b c most n k d w =
      record { items = d.items; done = does_still a b c d.items n k d.done w; few = d.few }

  pub few_known : (old new : DeskView) (before : List Item) (id m : ℕ) (T : List Bool) (most n : ℕ)
      → Adds old new before (known id m) → IsLastAnswer (entries_after old before) T most X id
      → HasLoads line X (frame_mode asked kind line T) T n → DoesFew asked kind line X old new 1 n
  few_known old new before id m T most n a last loads = record {
    items = known id m ∷ [];
    done = known_does old new before id m T most n a last loads;
    few = omega arith;
  }

  pub one_known : (old new : DeskView) (before : List Item) (id m : ℕ) (T : List Bool) (most n : ℕ)
      → Adds old new before (known id m) → IsLastAnswer (entries_after old before) T most X id
      → HasLoads line X (frame_mode asked kind line T) T n → (old.alone ≡ true → IsUnanswered (entries old) T most X)
      → DoesFor asked kind line X old new T 1 n
  one_known old new before id m T most n a last loads un = record {
    items = known id m ∷ [];
    done = known_does old new before id m T most n a last loads;
    few = omega arith;
    within = tt;
    fresh = λ t.
        let P : List Item → Type 0 = λ z. IsLastAnswer (entries_after old z) T most X id in
        let g : IsLastAnswer (entries old) T most X id = subst P (a.still t) last in
        absurd (un t id g.entry g.there g.answers);
  }

  -- an entry that has no units, known or not, pays nothing
  pub known_free : (old new : DeskView) (before : List Item) (id m : ℕ) (T R : List Bool) (most : ℕ)
      → Adds old new before (known id m) → IsLastAnswer (entries_after old before) R most X id
      → DoesFor asked kind line X old new T 1 0
  known_free old new before id m T R most a last = record {
    items = known id m ∷ [];
    done = known_does old new before id m R most 0 a last
        (no_loads line X (frame_mode asked kind line R) R);
    few = omega arith;
    within = tt;
    fresh = λ t. refl;
  }

-- entries of parts of T answer no question of a set that has a task more
of_another : (T set : List Bool) (most X : ℕ) (es : List Entry) (k : ℕ) (e : Entry)
    → ((i : ℕ) × (In set i × (In T i → ⊥))) → AreWithin T es → slice_get es k ≡ Some e → Answers e set most X → ⊥
of_another T set most X [] k e more s g a = absurd (cc)
of_another T set most X (x ∷ es) zero e more s g a =
    let q : x.set ≡ set = (let same : x ≡ e = cc in ap (λ (z : Entry). z.set) same ∙ a.same) in
    let P : List Bool → Type 0 = λ z. In z more.0 in
    more.1.1 (s.0 more.0 (subst P (sym q) more.1.0))
of_another T set most X (x ∷ es) (suc k) e more s g a = of_another T set most X es k e more s.1 g a

-- where the desk is alone, a question of a set that has a task more stays unanswered
pub unanswered_still : (asked : Option Mode) (kind : LineKind) (line : Line) (X : ℕ) (old new : DeskView)
    (T : List Bool) (many n : ℕ) (set : List Bool) (most : ℕ) → old.alone ≡ true → Keeps old new
    → DoesFor asked kind line X old new T many n → ((i : ℕ) × (In set i × (In T i → ⊥)))
    → IsUnanswered (entries old) set most X → IsUnanswered (entries new) set most X
unanswered_still asked kind line X old new T many n set most alone k d more un =
    let P : List Entry → Type 0 = λ z. IsUnanswered z set most X in
    subst P (sym (entries_added old new d.items k (d.done.alone alone)))
    (λ j e g a. elim (get_append_cases (entries old) (added_of d.items) j e g) [
      | inl h ↦ un j e h a
      | inr h ↦ of_another T set most X (added_of d.items) h.0 e more d.within h.1 a
    ])
