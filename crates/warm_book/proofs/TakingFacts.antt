-- What taking in old entries does to a book.
use Rattle.std.proofs.Common.{◌≡◌, ℕ, zero, suc, ◌+◌, ◌-◌, ◌≤◌, List, [], ◌∷◌, ◌++◌, length, take, refl, sym, ap, ◌∙◌}
use Rattle.std.proofs.Common.{subst, inl, inr, arith, append_assoc, Option, Some, None}
use Rattle.std.proofs.lemmas.List.{append-nil}
use Rattle.std.specs.Prelude.{slice_get}
use Rattle.std.proofs.lemmas.Option.{same_Some}
use Rattle.line_rules.specs.Entries.{Follows}
use Rattle.line_rules.specs.Units.{UnitsBy, UnitsOf}
use Rattle.line_instance.specs.Line.{Line}
use Rattle.line_rules.specs.declared.types.LineKind.{LineKind}
use Rattle.line_rules.specs.declared.types.Entry.{Entry}
use Rattle.lemma_core.specs.declared.types.Event.TheVariants as event
use Rattle.lemma_core.specs.History.{published_item, offers}
use Rattle.lemma_core.specs.Machine.{State, last_answer, with_entry}
use Rattle.lemma_core.specs.Books.{BookView, ran}
use Rattle.line_check.specs.Faults.{Ends}
use Rattle.line_check.proofs.UnitFacts.{ends_more}
use Rattle.warm_book.specs.Warm.{Taking, IsKept, Takes, TakesAll, keeping, dropping, untaken, renumbered, IsWarmer}
use Rattle.warm_book.proofs.NumberFacts.{asks_same}
use Rattle.line_rules.proofs.ListFacts.{take_next}

-- an entry that doesn't follow, or takes more units than are left, isn't kept
module _ (room : ℕ) (t : Taking) (old found : Entry) (kind : LineKind) (line : Line) (es : List Entry)
    (kind_is : kind ≡ t.book.about.kind) (line_is : t.book.about.line ≡ line) (es_are : es ≡ t.book.state.entries)
    (is : renumbered t.numbers old ≡ Some found) where
  pub fails_so : (Follows kind line es found → ⊥) → (new : Entry) (units : ℕ) → IsKept room t old new units → ⊥
  fails_so not new units k =
      let s : new ≡ found = same_Some new found (sym k.cites ∙ is) in
      let P : Entry → Type 0 = λ z. Follows t.book.about.kind t.book.about.line t.book.state.entries z in
      let K : LineKind → Type 0 = λ z. Follows z line es found in
      let L : Line → Type 0 = λ z. Follows t.book.about.kind z es found in
      let E : List Entry → Type 0 = λ z. Follows t.book.about.kind t.book.about.line z found in
      not (subst K (sym kind_is) (subst L line_is (subst E (sym es_are) (subst P s k.follows))))

  pub ends_so : (steps : ℕ) → steps ≡ room - t.units → Ends kind line es found steps → (new : Entry) (units : ℕ)
      → IsKept room t old new units → ⊥
  ends_so steps left ends new units k =
      let s : new ≡ found = same_Some new found (sym k.cites ∙ is) in
      let P : Entry → Type 0 = λ z. UnitsBy t.book.about.line z z.why units in
      let L : Line → Type 0 = λ z. UnitsBy z found found.why units in
      omega (arith, k.sum, left, ends_more kind line es found steps units ends (subst L line_is (subst P s k.counted)))

-- one old entry more was taken
pub takes_one : (room : ℕ) (t : Taking) (olds : List Entry) (mid end : Taking) (old : Entry) → TakesAll room t olds mid
    → Takes room mid old end → TakesAll room t (olds ++ old ∷ []) end
takes_one room t [] mid end old h s =
    let P : Taking → Type 0 = λ z. Takes room z old end in
    (end, (subst P (sym h) s, refl))
takes_one room t (x ∷ xs) mid end old h s = (h.0, (h.1.0, takes_one room h.0 xs mid end old h.1.1 s))

pub takes_next : (room : ℕ) (t : Taking) (olds : List Entry) (k : ℕ) (mid end : Taking) (old : Entry)
    → slice_get olds k ≡ Some old → TakesAll room t (take k olds) mid → Takes room mid old end
    → TakesAll room t (take (k + 1) olds) end
takes_next room t olds k mid end old there h s =
    let e : suc k ≡ k + 1 = omega arith in
    let P : List Entry → Type 0 = λ z. TakesAll room t z end in
    let Q : ℕ → Type 0 = λ z. TakesAll room t (take z olds) end in
    subst Q e (subst P (sym (take_next olds k old there)) (takes_one room t (take k olds) mid end old h s))

-- What some old entries add to a book that takes them in.
pub record Adds (room : ℕ) (t end : Taking) : Type 0 where
  pub about : end.book.about ≡ t.book.about
  pub opening : end.book.opening ≡ t.book.opening
  pub best : end.book.state.best ≡ t.book.state.best
  pub offers : end.book.room ≡ t.book.room
  pub added : List Entry
  pub entries : end.book.state.entries ≡ t.book.state.entries ++ added
  pub cycles : (k : ℕ) (e : Entry) → slice_get added k ≡ Some e → t.book.about.cycle ≤ e.cycle
  pub few : length added + t.kept ≤ end.kept
  pub within : t.kept ≤ room → end.kept ≤ room
  pub units : ℕ
  pub counted : UnitsOf t.book.about.line added units
  pub paid : t.units + units ≤ end.units
  pub spent : t.units ≤ room → end.units ≤ room

adds_none : (room : ℕ) (t : Taking) → Adds room t t
adds_none room t = record {
  about = refl;
  opening = refl;
  best = refl;
  offers = refl;
  added = [];
  entries = sym (append-nil t.book.state.entries);
  cycles = λ k e g. absurd (cc);
  few = omega arith;
  within = λ l. l;
  units = 0;
  counted = refl;
  paid = omega arith;
  spent = λ l. l;
}

no_offer : (s : State) (e : Entry) (o : Option ℕ) → offers (published_item s e o ∷ []) ≡ 0
no_offer s e (Some id) = refl
no_offer s e None = refl

same_best : (s : State) (e : Entry) (o : Option ℕ) → (with_entry o s e).best ≡ s.best
same_best s e (Some id) = refl
same_best s e None = refl

module _ (room : ℕ) (t end : Taking) (old new : Entry) (units : ℕ) (k : IsKept room t old new units)
    (a : Adds room (keeping t new units) end) where
  -- the entry was known
  known_adds : (id : ℕ) → last_answer t.book.state.entries new.set new.most new.cycle ≡ Some id → Adds room t end
  known_adds id is =
      let s : (ran t.book (event.Publish new ∷ [])).state.entries ≡ t.book.state.entries =
      ap (λ (z : Option ℕ). (with_entry z t.book.state new).entries) is in
      record {
        about = a.about;
        opening = a.opening;
        best = a.best ∙ same_best t.book.state new (last_answer t.book.state.entries new.set new.most new.cycle);
        offers = omega (
          arith,
          a.offers,
          no_offer t.book.state new (last_answer t.book.state.entries new.set new.most new.cycle),
        );
        added = a.added;
        entries = a.entries ∙ ap (λ (z : List Entry). z ++ a.added) s;
        cycles = a.cycles;
        few = omega (arith, a.few);
        within = λ l. a.within k.count;
        units = a.units;
        counted = a.counted;
        paid = omega (arith, a.paid);
        spent = λ l. a.spent k.sum;
      }

  -- the entry was added
  new_adds : last_answer t.book.state.entries new.set new.most new.cycle ≡ None → Adds room t end
  new_adds is =
      let s : (ran t.book (event.Publish new ∷ [])).state.entries ≡ t.book.state.entries ++ new ∷ [] =
      ap (λ (z : Option ℕ). (with_entry z t.book.state new).entries) is in
      record {
        about = a.about;
        opening = a.opening;
        best = a.best ∙ same_best t.book.state new (last_answer t.book.state.entries new.set new.most new.cycle);
        offers = omega (
          arith,
          a.offers,
          no_offer t.book.state new (last_answer t.book.state.entries new.set new.most new.cycle),
        );
        added = new ∷ a.added;
        entries = a.entries ∙ (ap (λ (z : List Entry). z ++ a.added) s
            ∙ append_assoc t.book.state.entries (new ∷ []) a.added);
        cycles = later;
        few = omega (arith, a.few);
        within = λ l. a.within k.count;
        units = units + a.units;
        counted = (units, a.units, (k.counted, a.counted, refl));
        paid = omega (arith, a.paid);
        spent = λ l. a.spent k.sum;
      }
    where
      later : (j : ℕ) (e : Entry) → slice_get (new ∷ a.added) j ≡ Some e → t.book.about.cycle ≤ e.cycle
      later zero e g =
          let s : new ≡ e = same_Some new e g in
          omega (arith, k.cycle, (asks_same t.numbers old new k.cites).cycle, ap (λ (z : Entry). z.cycle) s)
      later (suc j) e g = a.cycles j e g

  by_answer : (o : Option ℕ) → last_answer t.book.state.entries new.set new.most new.cycle ≡ o → Adds room t end
  by_answer (Some id) is = known_adds id is
  by_answer None is = new_adds is

  kept_adds : Adds room t end
  kept_adds = by_answer (last_answer t.book.state.entries new.set new.most new.cycle) refl

dropped_adds : (room : ℕ) (t end : Taking) → Adds room (dropping t) end → Adds room t end
dropped_adds room t end a = record {
  about = a.about;
  opening = a.opening;
  best = a.best;
  offers = a.offers;
  added = a.added;
  entries = a.entries;
  cycles = a.cycles;
  few = a.few;
  within = a.within;
  units = a.units;
  counted = a.counted;
  paid = a.paid;
  spent = a.spent;
}

-- one old entry, and then others
one_adds : (room : ℕ) (t next end : Taking) (old : Entry) → Takes room t old next → Adds room next end → Adds room t end
one_adds room t next end old s a =
    let P : Taking → Type 0 = λ z. Adds room z end in
    elim s [
      | inl k ↦ kept_adds room t end old k.0 k.1 k.2.0 (subst P k.2.1 a)
      | inr d ↦ dropped_adds room t end (subst P d.1 a)
    ]

pub all_add : (room : ℕ) (t : Taking) (olds : List Entry) (end : Taking) → TakesAll room t olds end → Adds room t end
all_add room t [] end h = let P : Taking → Type 0 = λ z. Adds room t z in subst P h (adds_none room t)
all_add room t (old ∷ olds) end h = one_adds room t h.0 end old h.1.0 (all_add room h.0 olds end h.1.1)

pub step_adds : (room : ℕ) (t next : Taking) (old : Entry) → Takes room t old next → Adds room t next
step_adds room t next old s = one_adds room t next next old s (adds_none room next)

-- at most one more is kept
pub one_kept : (room : ℕ) (t next : Taking) (old : Entry) → Takes room t old next → next.kept ≤ t.kept + 1
one_kept room t next old s = elim s [
  | inl k ↦ omega (arith, ap (λ (z : Taking). z.kept) k.2.1)
  | inr d ↦ omega (arith, ap (λ (z : Taking). z.kept) d.1)
]

kept_from : (room : ℕ) (t : Taking) (olds : List Entry) (end : Taking) → TakesAll room t olds end
    → end.kept ≤ t.kept + length olds
kept_from room t [] end h = omega (arith, ap (λ (z : Taking). z.kept) h)
kept_from room t (old ∷ olds) end h =
    omega (arith, one_kept room t h.0 old h.1.0, kept_from room h.0 olds end h.1.1)

-- at most so many are kept as there are
pub all_kept : (room : ℕ) (b : BookView) (olds : List Entry) (end : Taking) → TakesAll room (untaken b) olds end
    → end.kept ≤ length olds
all_kept room b olds end h = omega (arith, kept_from room (untaken b) olds end h)

-- a book that took in old entries is warmer
pub warmer : (room : ℕ) (b : BookView) (olds : List Entry) (end : Taking) → TakesAll room (untaken b) olds end
    → IsWarmer room b end.book end.kept
warmer room b olds end h =
    let a : Adds room (untaken b) end = all_add room (untaken b) olds end h in
    record {
      about = a.about;
      opening = a.opening;
      best = a.best;
      offers = a.offers;
      added = a.added;
      entries = a.entries;
      cycles = a.cycles;
      few = omega (arith, a.few);
      within = a.within (omega arith);
      units = a.units;
      counted = a.counted;
      paid = omega (arith, a.paid, a.spent (omega arith));
    }
