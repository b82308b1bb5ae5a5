-- A partner stands in for a task.
use Rattle.std.proofs.Common.{◌≡◌, ℕ, zero, suc, Bool, true, false, List, [], ◌∷◌, sym, ◌∙◌, subst, inl, inr, arith}
use Rattle.std.proofs.Common.{Some, Option, get_or, set, ap}
use Rattle.std.specs.Prelude.{slice_get, slice_set}
use Rattle.std.proofs.lemmas.Option.{slice_get_within}
use Rattle.std.proofs.lemmas.Bool.{cases_Bool, cases_eq}
use Rattle.std.proofs.lemmas.List.{set-set, set-get_or, get_or-set_other}
use Rattle.line_instance.specs.Truths.{In}
use Rattle.line_instance.proofs.Members.{In-set_cases, In-clear_gone}
use Rattle.line_instance.specs.Line.{Line, has}
use Rattle.line_instance.specs.Walks.{at}
use Rattle.line_instance.specs.Partners.{IsPartner, IsKeptAt}
use Rattle.line_rules.specs.Entries.{IsUnanswered, FollowsBySwap}
use Rattle.line_rules.specs.declared.types.LineKind.{LineKind}
use Rattle.line_rules.specs.declared.types.Mode.{Mode}
use Rattle.line_rules.specs.declared.types.Entry.{Entry}
use Rattle.lemma_core.specs.Desks.{DeskView, entries, Keeps, Waits}
use Rattle.station_search.specs.Decide.{IsAnswered}
use Rattle.station_search.specs.inner.Work.{DoesFor, swap_of}
use Rattle.station_search.proofs.Events.{entries_same}
use Rattle.station_search.proofs.PaidSteps.{does_then}

value_at : (xs : List ℕ) (k j : ℕ) → slice_get xs k ≡ Some j → at xs k ≡ j
value_at [] k j e = absurd (cc)
value_at (x ∷ xs) zero j e = cc
value_at (x ∷ xs) (suc k) j e = value_at xs k j e

-- a kept partner is one
pub kept_partner : (line : Line) (i k j : ℕ) (answer : Option ℕ) → answer ≡ Some j → IsKeptAt line i k answer
    → IsPartner line i j
kept_partner line i k j answer e h =
    let g : slice_get h.0 k ≡ Some j = sym h.2 ∙ e in
    let P : ℕ → Type 0 = λ z. IsPartner line i z in
    subst P (value_at h.0 k j g) (h.1.right k (slice_get_within h.0 k j g))

-- a truth that is changed and changed back
pub back_again : (s : List Bool) (i : ℕ) (b c : Bool) → get_or s i false ≡ c → set (set s i b) i c ≡ s
back_again s i b c e = set-set s i b c ∙ ap (λ (z : Bool). set s i z) (sym e) ∙ set-get_or s i false

-- what is no member of a set is none without another task
pub still_out : (s : List Bool) (out i : ℕ) → get_or s i false ≡ false → get_or (set s out false) i false ≡ false
still_out s out i e = elim (cases_eq i out) [
  | inl q ↦ (
      let P : ℕ → Type 0 = λ z. In (set s out false) z in
      elim (cases_Bool (get_or (set s out false) i false)) [
        | inl t ↦ absurd (In-clear_gone s out (subst P q t))
        | inr f ↦ f
      ]
      )
  | inr n ↦ get_or-set_other s out i false false n ∙ e
]

-- a partner that is put into the set without the task, and taken out again
pub turned : (s : List Bool) (out into : ℕ) (begun here with back : List Bool) → get_or s into false ≡ false
    → begun ≡ set s out false → here ≡ begun → with ≡ set here into true → back ≡ set with into false → back ≡ begun
turned s out into begun here with back absent e h i r =
    r ∙ ap (λ (z : List Bool). set z into false) i
    ∙ back_again here into true false (ap (λ (z : List Bool). get_or z into false) (h ∙ e) ∙ still_out s out into absent)
    ∙ h

-- the task that gives way is no member of the set in which another one stands in for it
gone : (set : List Bool) (out into i : ℕ) → (out ≡ into → ⊥) → In (slice_set (slice_set set out false) into true) i
    → i ≡ out → ⊥
gone set out into i other m e = elim (In-set_cases (slice_set set out false) into i m) [
  | inl h ↦ (let P : ℕ → Type 0 = λ z. In (slice_set set out false) z in In-clear_gone set out (subst P e h))
  | inr q ↦ other (sym e ∙ q)
]

-- an entry that answers the set with the partner refutes the set
pub stands_in : (line : Line) (es : List Entry) (set swapped : List Bool) (most X c out into id : ℕ)
    → IsPartner line out into → In set out → has set into ≡ false
    → swapped ≡ slice_set (slice_set set out false) into true → c ≡ X
    → IsAnswered es id swapped most c → FollowsBySwap line es (swap_of X set most id out into) id out into
stands_in line es set swapped most X c out into id p m absent e same a =
    let set_is : a.entry.set ≡ slice_set (slice_set set out false) into true = a.answers.same ∙ e in
    let left : (i : ℕ) → In a.entry.set i → i ≡ out → ⊥ = λ i n.
    (let P : List Bool → Type 0 = λ z. In z i in gone set out into i p.other (subst P set_is n)) in
    record {
      entry = a.entry;
      there = a.there;
      stations = a.answers.stations;
      cycle = omega (arith, a.answers.long, same);
      out_in = m;
      task = p.task;
      into_out = absent;
      set = set_is;
      time = p.no_longer;
      before = λ i n b. p.before i b (left i n);
      after = λ i n b. p.after i b (left i n);
      apart = λ i n b. p.apart i b (left i n);
    }

-- what is published after a call that added no event
pub does_for_then : (asked : Option Mode) (kind : LineKind) (line : Line) (X : ℕ) (a b c : DeskView) (T : List Bool)
    (m n : ℕ) → Waits a b → Keeps b c → DoesFor asked kind line X b c T m n → DoesFor asked kind line X a c T m n
does_for_then asked kind line X a b c T m n w k d = record {
  items = d.items;
  done = does_then asked kind line X a b c d.items n w k d.done;
  few = d.few;
  within = d.within;
  fresh = λ t. d.fresh (w.keeps.alone ∙ t);
}

-- where the desk is alone, a question stays unanswered through a call that added no event
pub unanswered_through : (a b : DeskView) (set : List Bool) (most X : ℕ) → Waits a b
    → (a.alone ≡ true → IsUnanswered (entries a) set most X) → a.alone ≡ true → IsUnanswered (entries b) set most X
unanswered_through a b set most X w un t = let P : List Entry → Type 0 = λ z. IsUnanswered z set most X in
    subst P (sym (entries_same a b w.keeps (w.still t))) (un t)
