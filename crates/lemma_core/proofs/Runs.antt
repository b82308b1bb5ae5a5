-- What holds of runs of the core machine.
use Rattle.std.proofs.Common.{◌≡◌, ℕ, zero, suc, ◌+◌, ◌<◌, min, Bool, true, false, cond, ◌&&◌, inl, inr, List, []}
use Rattle.std.proofs.Common.{◌∷◌, ◌++◌, refl, sym, ap, ◌∙◌, subst, arith, Some, None, Option}
use Rattle.std.specs.Prelude.{slice_get, nat_le}
use Rattle.std.specs.Bool.{beq}
use lib.Pointwise.{pointwise}
use Rattle.std.proofs.lemmas.Bool.{and_parts, and_from, true≢false, le-leb}
use Rattle.std.proofs.lemmas.Bool.Decides.{nat_tests}
use Rattle.std.proofs.lemmas.Option.{none-some, same_Some}
use Rattle.line_rules.specs.lines.inner.Words.{equal_sets}
use Rattle.line_rules.specs.Entries.{Answers, Follows, IsFresh, IsUnanswered, IsLastAnswer}
use Rattle.line_rules.specs.declared.types.Entry.{Entry}
use Rattle.line_rules.specs.declared.types.Balance.{Balance as Assignment}
use Rattle.line_rules.specs.Balance.{IsRight}
use Rattle.line_rules.proofs.ListFacts.{get_none}
use Rattle.line_rules.proofs.LongerLists.{derived_push, get_push_cases}
use Rattle.lemma_core.specs.declared.types.Event.{Event}
use Rattle.lemma_core.specs.declared.types.Event.TheVariants as event
use Rattle.lemma_core.specs.Machine.{About, State, answers, later, last_from, last_answer, is_better, with_entry, step}
use Rattle.lemma_core.specs.Machine.{run}
use Rattle.lemma_core.specs.History.{Item, better, items, published_item, history, Standing, standing, after, replay}
use Rattle.lemma_core.specs.Own.{IsStatable, AreStatable}
use Rattle.lemma_core.specs.Laws.{MayCome, AllMayCome, IsKept}

-- the test of an answer says whether it is one
pub answers_is : (e : Entry) (set : List Bool) (most cycle : ℕ) → answers e set most cycle ≡ true
    → Answers e set most cycle
answers_is e set most cycle t =
    let p : (pointwise beq e.set set ≡ true) × ((nat_le most e.most && nat_le cycle e.cycle) ≡ true) =
    and_parts (pointwise beq e.set set) (nat_le most e.most && nat_le cycle e.cycle) t in
    let q : (nat_le most e.most ≡ true) × (nat_le cycle e.cycle ≡ true) =
    and_parts (nat_le most e.most) (nat_le cycle e.cycle) p.1 in
    record {
      same = (equal_sets e.set set).0 p.0;
      stations = grind (arith, nat_tests, q.0);
      long = grind (arith, nat_tests, q.1);
    }

pub answers_so : (e : Entry) (set : List Bool) (most cycle : ℕ) → Answers e set most cycle
    → answers e set most cycle ≡ true
answers_so e set most cycle a =
    and_from (pointwise beq e.set set) (nat_le most e.most && nat_le cycle e.cycle) ((equal_sets e.set set).1 a.same)
    (and_from (nat_le most e.most) (nat_le cycle e.cycle) (le-leb most e.most a.stations) (le-leb cycle e.cycle a.long))

-- the last answer among entries of which the first has the number k
record IsFoundFrom (k : ℕ) (es : List Entry) (set : List Bool) (most cycle : ℕ) (o : Option ℕ) : Type 0 where
  found : (id : ℕ) → o ≡ Some id → (d : ℕ) × ((id ≡ k + d) × IsLastAnswer es set most cycle d)
  absent : o ≡ None → IsUnanswered es set most cycle

shifted_last : (e : Entry) (es : List Entry) (set : List Bool) (most cycle d : ℕ)
    → ((k : ℕ) (x : Entry) → d < k → slice_get es k ≡ Some x → Answers x set most cycle → ⊥)
    → (k : ℕ) (x : Entry) → suc d < k → slice_get (e ∷ es) k ≡ Some x → Answers x set most cycle → ⊥
shifted_last e es set most cycle d h zero x l g a = absurd (omega arith)
shifted_last e es set most cycle d h (suc k) x l g a = h k x (omega arith) g a

shifted : (e : Entry) (es : List Entry) (set : List Bool) (most cycle d : ℕ) → IsLastAnswer es set most cycle d
    → IsLastAnswer (e ∷ es) set most cycle (suc d)
shifted e es set most cycle d h = record {
  entry = h.entry;
  there = h.there;
  answers = h.answers;
  last = shifted_last e es set most cycle d h.last;
}

first_last : (e : Entry) (es : List Entry) (set : List Bool) (most cycle : ℕ) → IsUnanswered es set most cycle
    → (k : ℕ) (x : Entry) → 0 < k → slice_get (e ∷ es) k ≡ Some x → Answers x set most cycle → ⊥
first_last e es set most cycle u zero x l g a = absurd (omega arith)
first_last e es set most cycle u (suc k) x l g a = u k x g a

none_is : (e : Entry) (es : List Entry) (set : List Bool) (most cycle : ℕ) → answers e set most cycle ≡ false
    → IsUnanswered es set most cycle → IsUnanswered (e ∷ es) set most cycle
none_is e es set most cycle n u zero x g a =
    let same : x ≡ e = cc in
    let P : Entry → Type 0 = λ z. Answers z set most cycle in
    true≢false (sym (answers_so e set most cycle (subst P same a)) ∙ n)
none_is e es set most cycle n u (suc k) x g a = u k x g a

found_step : (k : ℕ) (e : Entry) (es : List Entry) (set : List Bool) (most cycle : ℕ) (o : Option ℕ) (b : Bool)
    → answers e set most cycle ≡ b
    → IsFoundFrom (suc k) es set most cycle o → IsFoundFrom k (e ∷ es) set most cycle (later o (cond b (Some k) None))
found_step k e es set most cycle (Some i) b t f = record {
  found = λ id g.
      let h : (d : ℕ) × ((i ≡ suc k + d) × IsLastAnswer es set most cycle d) = f.found i refl in
      (suc h.0, (omega (arith, same_Some i id g, h.1.0), shifted e es set most cycle h.0 h.1.1));
  absent = λ g. absurd (none-some i (sym g));
}
found_step k e es set most cycle None true t f = record {
  found = λ id g. (
    0,
    (
      omega (arith, same_Some k id g),
      record {
        entry = e;
        there = refl;
        answers = answers_is e set most cycle t;
        last = first_last e es set most cycle (f.absent refl);
      },
    ),
  );
  absent = λ g. absurd (none-some k (sym g));
}
found_step k e es set most cycle None false t f = record {
  found = λ id g. absurd (none-some id g);
  absent = λ g. none_is e es set most cycle t (f.absent refl);
}

found_from : (k : ℕ) (es : List Entry) (set : List Bool) (most cycle : ℕ)
    → IsFoundFrom k es set most cycle (last_from k es set most cycle)
found_from k [] set most cycle = record {
  found = λ id g. absurd (none-some id g);
  absent = λ g j x h a. get_none j x h;
}
found_from k (e ∷ es) set most cycle = found_step k e es set most cycle (last_from (suc k) es set most cycle)
    (answers e set most cycle) refl (found_from (suc k) es set most cycle)

pub last_found : (es : List Entry) (set : List Bool) (most cycle id : ℕ) → last_answer es set most cycle ≡ Some id
    → IsLastAnswer es set most cycle id
last_found es set most cycle id g =
    let h : (d : ℕ) × ((id ≡ 0 + d) × IsLastAnswer es set most cycle d) = (found_from 0 es set most cycle).found id g in
    let same : h.0 ≡ id = omega (arith, h.1.0) in
    let P : ℕ → Type 0 = λ d. IsLastAnswer es set most cycle d in
    subst P same h.1.1

pub last_absent : (es : List Entry) (set : List Bool) (most cycle : ℕ) → last_answer es set most cycle ≡ None
    → IsUnanswered es set most cycle
last_absent es set most cycle g = (found_from 0 es set most cycle).absent g

pub replay-append : (s : Standing) (xs ys : List Item) → replay s (xs ++ ys) ≡ replay (replay s xs) ys
replay-append s [] ys = refl
replay-append s (x ∷ xs) ys = replay-append (after s x) xs ys

publish_step : (s : State) (e : Entry) (o : Option ℕ) → replay (standing s) (published_item s e o ∷ [])
    ≡ standing (with_entry o s e)
publish_step s e (Some id) = refl
publish_step s e None = refl

offer_step : (s : State) (b : Assignment) (t : Bool) → is_better s b ≡ t
    → replay (standing s) (cond t (better b.stations ∷ []) [])
    ≡ standing (cond t (record { entries = s.entries; best = b }) s)
offer_step s b true e =
    let less : min s.best.stations b.stations ≡ b.stations = grind (arith, nat_tests, e) in
    ap (λ (n : ℕ). record { entries = s.entries; stations = n }) less
offer_step s b false e = refl

pub one_step : (s : State) (v : Event) → replay (standing s) (items s v) ≡ standing (step s v)
one_step s (event.Look set most) = refl
one_step s (event.Publish e) = publish_step s e (last_answer s.entries e.set e.most e.cycle)
one_step s (event.Offer b) = offer_step s b (is_better s b) refl

pub history_replayed : (s : State) (vs : List Event) → replay (standing s) (history s vs) ≡ standing (run s vs)
history_replayed s [] = refl
history_replayed s (v ∷ vs) =
    replay-append (standing s) (items s v) (history (step s v) vs)
    ∙ (ap (λ (z : Standing). replay z (history (step s v) vs)) (one_step s v) ∙ history_replayed (step s v) vs)

-- a fresh list stays fresh with an entry that none answers
pub fresh_push : (es : List Entry) (e : Entry) → IsFresh es → IsUnanswered es e.set e.most e.cycle
    → IsFresh (es ++ e ∷ [])
fresh_push es e f u j k a b l g h t = elim (get_push_cases es e b k h) [
  | inl p ↦ (elim (get_push_cases es e a j g) [
    | inl q ↦ f j k a b l q.1 p.1 t
    | inr q ↦
        absurd (omega (arith, l, p.0, q.0))
  ])
  | inr p ↦ (elim (get_push_cases es e a j g) [
    | inl q ↦ (let P : Entry → Type 0 = λ z. Answers a z.set z.most z.cycle in u j a q.1 (subst P (sym p.1) t))
    | inr q ↦ absurd (omega (arith, l, p.0, q.0))
  ])
]

statable_push : (es : List Entry) (e : Entry) → AreStatable es → IsStatable e → AreStatable (es ++ e ∷ [])
statable_push es e s r k x g = elim (get_push_cases es e x k g) [
  | inl p ↦ s k x p.1
  | inr p ↦ (let P : Entry → Type 0 = λ z. IsStatable z in subst P p.1 r)
]

publish_keeps : (about : About) (s : State) (e : Entry) (o : Option ℕ) → last_answer s.entries e.set e.most e.cycle ≡ o
    → IsKept about s → Follows about.kind about.line s.entries e → IsStatable e
    → IsKept about (with_entry o s e)
publish_keeps about s e (Some id) g h f r = h
publish_keeps about s e None g h f r = record {
  derived = derived_push about.kind about.line s.entries e h.derived f;
  fresh = fresh_push s.entries e h.fresh (last_absent s.entries e.set e.most e.cycle g);
  statable = statable_push s.entries e h.statable r;
  right = h.right;
}

offer_keeps : (about : About) (s : State) (b : Assignment) (t : Bool) → IsKept about s
    → IsRight about.kind about.line about.cycle b → IsKept about (cond t (record { entries = s.entries; best = b }) s)
offer_keeps about s b true h r = record { derived = h.derived; fresh = h.fresh; statable = h.statable; right = r }
offer_keeps about s b false h r = h

step_keeps : (about : About) (s : State) (v : Event) → IsKept about s → MayCome about s v → IsKept about (step s v)
step_keeps about s (event.Look set most) h m = h
step_keeps about s (event.Publish e) h m = publish_keeps about s e (last_answer s.entries e.set e.most e.cycle) refl h
    m.0 m.1
step_keeps about s (event.Offer b) h m = offer_keeps about s b (is_better s b) h m

pub run_keeps : (about : About) (s : State) (vs : List Event) → IsKept about s → AllMayCome about s vs
    → IsKept about (run s vs)
run_keeps about s [] h m = h
run_keeps about s (v ∷ vs) h m = run_keeps about (step s v) vs (step_keeps about s v h m.0) m.1
