-- A desk's own events over several calls, and the entries that they add.
use Rattle.std.proofs.Common.{◌≡◌, ℕ, zero, suc, Bool, List, [], ◌∷◌, ◌++◌, length, refl, sym, ap, ◌∙◌, subst, ◌⊎◌, inl}
use Rattle.std.proofs.Common.{inr, arith, Some}
use Rattle.std.proofs.lemmas.List.{append-nil}
use Rattle.std.specs.Prelude.{slice_get}
use Rattle.line_instance.specs.Line.{Line}
use Rattle.line_rules.specs.Entries.{IsLastAnswer}
use Rattle.line_rules.specs.declared.types.LineKind.{LineKind}
use Rattle.line_rules.specs.declared.types.Entry.{Entry}
use Rattle.line_rules.proofs.ListFacts.{get_last, get_longer}
use Rattle.lemma_core.specs.Machine.{About}
use Rattle.lemma_core.specs.History.{Item, added, known, better, Standing, replay}
use Rattle.lemma_core.specs.Desks.{DeskView, entries, entries_after, Keeps, Waits, Adds}
use Rattle.lemma_core.specs.Own.{ArePublish, added_of}
use Rattle.lemma_core.proofs.Runs.{replay-append}
use Rattle.lemma_core.proofs.HistoryGrows.{keeps_none}
use Rattle.lemma_core.proofs.OwnFacts.{entries_more}
use Rattle.station_search.specs.Decide.{IsFor, IsAnswered}

pub get_append_cases : {X : Type 0} (xs ys : List X) (k : ℕ) (x : X) → slice_get (xs ++ ys) k ≡ Some x
    → (slice_get xs k ≡ Some x) ⊎ ((j : ℕ) × (slice_get ys j ≡ Some x))
get_append_cases [] ys k x e = inr (k, e)
get_append_cases (y ∷ xs) ys zero x e = inl e
get_append_cases (y ∷ xs) ys (suc k) x e = get_append_cases xs ys k x e

pub publish_both : (xs ys : List Item) → ArePublish xs → ArePublish ys → ArePublish (xs ++ ys)
publish_both [] ys a b = b
publish_both (x ∷ xs) ys a b = (a.0, publish_both xs ys a.1 b)

pub added_both : (xs ys : List Item) → added_of (xs ++ ys) ≡ added_of xs ++ added_of ys
added_both [] ys = refl
added_both (added id e ∷ xs) ys = ap (λ (zs : List Entry). e ∷ zs) (added_both xs ys)
added_both (known id most ∷ xs) ys = added_both xs ys
added_both (better n ∷ xs) ys = added_both xs ys

-- the entries after a call
entries_of : (old new : DeskView) → Keeps old new → entries new ≡ (replay old.opening new.seen).entries
entries_of old new k = ap (λ (z : Standing). (replay z new.seen).entries) k.opening

pub entries_same : (old new : DeskView) → Keeps old new → new.seen ≡ old.seen → entries new ≡ entries old
entries_same old new k e = entries_of old new k ∙ ap (λ (z : List Item). (replay old.opening z).entries) e

entry_behind : (s : Standing) (item : Item) → (replay s (item ∷ [])).entries ≡ s.entries ++ added_of (item ∷ [])
entry_behind s (added id e) = refl
entry_behind s (known id most) = sym (append-nil s.entries)
entry_behind s (better n) = sym (append-nil s.entries)

entries_behind : (old new : DeskView) (before : List Item) (item : Item) → Adds old new before item
    → entries new ≡ entries_after old before ++ added_of (item ∷ [])
entries_behind old new before item a =
    entries_of old new a.keeps
    ∙ (ap (λ (z : List Item). (replay old.opening z).entries) a.last
    ∙ (ap (λ (z : Standing). z.entries) (replay-append old.opening before (item ∷ []))
    ∙ entry_behind (replay old.opening before) item))

pub known_answers : (old new : DeskView) (before : List Item) (item : Item) (set : List Bool) (most cycle id : ℕ)
    → Adds old new before item → IsLastAnswer (entries_after old before) set most cycle id
    → IsAnswered (entries new) id set most cycle
known_answers old new before item set most cycle id a last =
    let P : List Entry → Type 0 = λ z. IsAnswered z id set most cycle in
    subst P (sym (entries_behind old new before item a)) (record {
      entry = last.entry;
      there = get_longer (entries_after old before) (added_of (item ∷ [])) id last.entry last.there;
      answers = last.answers;
    })

pub added_answers : (old new : DeskView) (before : List Item) (step : Entry) (id : ℕ)
    → Adds old new before (added id step) → id ≡ length (entries_after old before)
    → IsAnswered (entries new) id step.set step.most step.cycle
added_answers old new before step id a e =
    let P : List Entry → Type 0 = λ z. IsAnswered z id step.set step.most step.cycle in
    let Q : ℕ → Type 0 = λ z. IsAnswered (entries_after old before ++ step ∷ []) z step.set step.most step.cycle in
    subst P (sym (entries_behind old new before (added id step) a)) (subst Q (sym e) (record {
      entry = step;
      there = get_last (entries_after old before) step;
      answers = record { same = refl; stations = omega arith; long = omega arith };
    }))

-- an entry seen is seen after a call
pub answered_still : (old new : DeskView) (id : ℕ) (set : List Bool) (most cycle : ℕ) → Keeps old new
    → IsAnswered (entries old) id set most cycle → IsAnswered (entries new) id set most cycle
answered_still old new id set most cycle k a =
    let h : (more : List Entry) × (entries new ≡ entries old ++ more) = entries_more old new k in
    let P : List Entry → Type 0 = λ z. IsAnswered z id set most cycle in
    subst P (sym h.1) (record {
      entry = a.entry;
      there = get_longer (entries old) h.0 id a.entry a.there;
      answers = a.answers;
    })

pub for_still : (old new : DeskView) (line : Line) (kind : LineKind) (cycle : ℕ) → IsFor old line kind cycle
    → Keeps old new → IsFor new line kind cycle
for_still old new line kind cycle f k = record {
  same_line = ap (λ (z : About). z.line) k.about ∙ f.same_line;
  same_kind = ap (λ (z : About). z.kind) k.about ∙ f.same_kind;
  same_cycle = ap (λ (z : About). z.cycle) k.about ∙ f.same_cycle;
}

pub waits_none : (d : DeskView) → Waits d d
waits_none d = record { keeps = keeps_none d; own = refl; still = λ t. refl }
