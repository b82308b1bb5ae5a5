-- What a desk did, what it saw where it is alone, and the entries that its items name, step by step.
use Rattle.std.proofs.Common.{◌≡◌, ℕ, zero, suc, ◌≤◌, List, [], ◌∷◌, ◌++◌, length, sym, ap, ◌∙◌, subst, arith}
use Rattle.std.proofs.Common.{append_assoc, length-append, Some}
use Rattle.std.proofs.lemmas.List.{append-nil}
use Rattle.std.specs.Prelude.{slice_get}
use Rattle.line_rules.specs.declared.types.Entry.{Entry}
use Rattle.line_rules.proofs.LongerLists.{get_longer}
use Rattle.lemma_core.specs.History.{Item, added, known, better, Standing, after, replay, Begins}
use Rattle.lemma_core.specs.Desks.{DeskView, entries, Keeps, Waits, Adds}
use Rattle.lemma_core.specs.Own.{named, added_of, AreAt, Did, SawOnly}
use Rattle.lemma_core.proofs.Runs.{replay-append}
use Rattle.lemma_core.proofs.HistoryGrows.{entries_go_on}
use Rattle.line_rules.proofs.ListFacts.{get_last}

-- a list that another one begins with is at most as long
pub begins_longer : (h g : List Item) → Begins h g → length h ≤ length g
begins_longer h g b = omega (arith, length-append h b.0, ap (λ (xs : List Item). length xs) b.1)

get_begun : (h g : List Item) (k : ℕ) (i : Item) → Begins h g → slice_get h k ≡ Some i → slice_get g k ≡ Some i
get_begun h g k i b e = let P : List Item → Type 0 = λ z. slice_get z k ≡ Some i in subst P b.1 (get_longer h b.0 k i e)

-- items at their places stand there in a history that goes on
pub at_longer : (h g : List Item) (places : List ℕ) (is : List Item) → Begins h g → AreAt h places is
    → AreAt g places is
at_longer h g [] [] b a = tt
at_longer h g [] (i ∷ is) b a = a
at_longer h g (p ∷ ps) [] b a = a
at_longer h g (p ∷ ps) (i ∷ is) b a = (get_begun h g p i b a.0, at_longer h g ps is b a.1)

-- items at places, and then further ones
at_append : (h : List Item) (ps qs : List ℕ) (is js : List Item) → AreAt h ps is → AreAt h qs js
    → AreAt h (ps ++ qs) (is ++ js)
at_append h [] qs [] js a b = b
at_append h [] qs (i ∷ is) js a b = absurd a
at_append h (p ∷ ps) qs [] js a b = absurd a
at_append h (p ∷ ps) qs (i ∷ is) js a b = (a.0, at_append h ps qs is js a.1 b)

-- every place of two lists is from a number on where those of each are
behind_both : (ps qs : List ℕ) (n : ℕ) → ((k p : ℕ) → slice_get ps k ≡ Some p → n ≤ p)
    → ((k p : ℕ) → slice_get qs k ≡ Some p → n ≤ p) → (k p : ℕ) → slice_get (ps ++ qs) k ≡ Some p → n ≤ p
behind_both [] qs n a b k p e = b k p e
behind_both (x ∷ ps) qs n a b zero p e = a zero p e
behind_both (x ∷ ps) qs n a b (suc k) p e = behind_both ps qs n (λ j q f. a (suc j) q f) b k p e

pub did_none : (d : DeskView) → Did d d []
did_none d = record { places = []; own = sym (append-nil d.own); behind = λ k p e. absurd (cc); there = tt }

pub did_both : (a b c : DeskView) (is js : List Item) → Keeps a b → Keeps b c → Did a b is → Did b c js
    → Did a c (is ++ js)
did_both a b c is js k l x y = record {
  places = x.places ++ y.places;
  own = y.own ∙ (ap (λ (ps : List ℕ). ps ++ y.places) x.own ∙ append_assoc a.own x.places y.places);
  behind = behind_both x.places y.places (length a.seen) x.behind
      (λ i p e. omega (arith, y.behind i p e, begins_longer a.seen b.seen k.seen));
  there = at_append c.seen x.places y.places is js (at_longer b.seen c.seen x.places is l.seen x.there) y.there;
}

pub did_waits : (a b c : DeskView) (is : List Item) → Did a b is → Waits b c → Did a c is
did_waits a b c is x w = record {
  places = x.places;
  own = w.own ∙ x.own;
  behind = x.behind;
  there = at_longer b.seen c.seen x.places is w.keeps.seen x.there;
}

-- the one place of a call that adds an event
one_behind : (n m k p : ℕ) → n ≤ m → slice_get (m ∷ []) k ≡ Some p → n ≤ p
one_behind n m zero p l e = let same : m ≡ p = cc in omega (arith, l, same)
one_behind n m (suc k) p l e = absurd (cc)

did_one : (b c : DeskView) (before : List Item) (item : Item) → Adds b c before item → Did b c (item ∷ [])
did_one b c before item x = record {
  places = length before ∷ [];
  own = x.own;
  behind = λ k p e. one_behind (length b.seen) (length before) k p (begins_longer b.seen before x.since) e;
  there = (ap (λ (h : List Item). slice_get h (length before)) x.last ∙ get_last before item, tt);
}

pub did_adds : (a b c : DeskView) (is before : List Item) (item : Item) → Keeps a b → Did a b is → Adds b c before item
    → Did a c (is ++ item ∷ [])
did_adds a b c is before item k x y = did_both a b c is (item ∷ []) k y.keeps x (did_one b c before item y)

pub saw_none : (d : DeskView) → SawOnly d d []
saw_none d t = sym (append-nil d.seen)

pub saw_both : (a b c : DeskView) (is js : List Item) → Keeps a b → SawOnly a b is → SawOnly b c js
    → SawOnly a c (is ++ js)
saw_both a b c is js k x y t = y (k.alone ∙ t) ∙ (ap (λ (h : List Item). h ++ js) (x t) ∙ append_assoc a.seen is js)

pub saw_waits : (a b c : DeskView) (is : List Item) → Keeps a b → SawOnly a b is → Waits b c → SawOnly a c is
saw_waits a b c is k x w t = w.still (k.alone ∙ t) ∙ x t

saw_one : (b c : DeskView) (before : List Item) (item : Item) → Adds b c before item → SawOnly b c (item ∷ [])
saw_one b c before item x t = x.last ∙ ap (λ (h : List Item). h ++ item ∷ []) (x.still t)

pub saw_adds : (a b c : DeskView) (is before : List Item) (item : Item) → Keeps a b → SawOnly a b is
    → Adds b c before item → SawOnly a c (is ++ item ∷ [])
saw_adds a b c is before item k x y = saw_both a b c is (item ∷ []) k x (saw_one b c before item y)

-- the entries of a replay are those at its start and those that its items added
replay_adds : (s : Standing) (is : List Item) → (replay s is).entries ≡ s.entries ++ added_of is
replay_adds s [] = sym (append-nil s.entries)
replay_adds s (added id e ∷ is) = replay_adds (after s (added id e)) is ∙ append_assoc s.entries (e ∷ []) (added_of is)
replay_adds s (known id most ∷ is) = replay_adds s is
replay_adds s (better n ∷ is) = replay_adds (after s (better n)) is

pub entries_more : (a b : DeskView) → Keeps a b → (es : List Entry) × (entries b ≡ entries a ++ es)
entries_more a b k =
    let h : (es : List Entry) × ((replay a.opening b.seen).entries ≡ (replay a.opening a.seen).entries ++ es) =
    entries_go_on a.opening a.seen b.seen k.seen in
    (h.0, ap (λ (s : Standing). (replay s b.seen).entries) k.opening ∙ h.1)

pub entries_added : (a b : DeskView) (is : List Item) → Keeps a b → b.seen ≡ a.seen ++ is
    → entries b ≡ entries a ++ added_of is
entries_added a b is k e =
    ap (λ (s : Standing). (replay s b.seen).entries) k.opening
    ∙ (ap (λ (h : List Item). (replay a.opening h).entries) e
    ∙ (ap (λ (s : Standing). s.entries) (replay-append a.opening a.seen is) ∙ replay_adds (replay a.opening a.seen) is))

pub named_longer : (es more : List Entry) (item : Item) (e : Entry) → named es item ≡ Some e
    → named (es ++ more) item ≡ Some e
named_longer es more (added id x) e n = n
named_longer es more (known id most) e n = get_longer es more id e n
named_longer es more (better n) e h = h
