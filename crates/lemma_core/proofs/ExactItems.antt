-- That the items of a history are exact, each at its turn.
use Rattle.std.proofs.Common.{◌≡◌, ℕ, zero, suc, ◌<◌, Bool, true, false, cond, List, [], ◌∷◌, ◌++◌, take, refl, sym}
use Rattle.std.proofs.Common.{subst, arith, Some, None, Option}
use Rattle.std.specs.Prelude.{slice_get}
use Rattle.std.proofs.lemmas.Bool.Decides.{nat_tests}
use Rattle.std.proofs.lemmas.Option.{same_Some}
use Rattle.line_rules.specs.declared.types.Entry.{Entry}
use Rattle.line_rules.specs.declared.types.Balance.{Balance as Assignment}
use Rattle.lemma_core.specs.declared.types.Event.{Event}
use Rattle.lemma_core.specs.declared.types.Event.TheVariants as event
use Rattle.lemma_core.specs.Machine.{State, last_answer, is_better, step}
use Rattle.lemma_core.specs.History.{Item, better, published_item, items, history, Standing, standing, after, replay}
use Rattle.lemma_core.specs.History.{IsExact, AreExact, Begins}
use Rattle.lemma_core.proofs.Runs.{last_found, last_absent, one_step}

pub exact_append : (s : Standing) (xs ys : List Item) → AreExact s xs → AreExact (replay s xs) ys
    → AreExact s (xs ++ ys)
exact_append s [] ys a b = b
exact_append s (x ∷ xs) ys a b = (a.0, exact_append (after s x) xs ys a.1 b)

first_exact : (s : Standing) (xs ys : List Item) → AreExact s (xs ++ ys) → AreExact s xs
first_exact s [] ys a = tt
first_exact s (x ∷ xs) ys a = (a.0, first_exact (after s x) xs ys a.1)

pub exact_begins : (s : Standing) (xs ys : List Item) → Begins xs ys → AreExact s ys → AreExact s xs
exact_begins s xs ys b a = first_exact s xs b.0 (let P : List Item → Type 0 = λ z. AreExact s z in subst P (sym b.1) a)

publish_exact : (s : State) (e : Entry) (o : Option ℕ) → last_answer s.entries e.set e.most e.cycle ≡ o
    → AreExact (standing s) (published_item s e o ∷ [])
publish_exact s e (Some id) g = ((e.set, e.cycle, last_found s.entries e.set e.most e.cycle id g), tt)
publish_exact s e None g = ((refl, last_absent s.entries e.set e.most e.cycle g), tt)

offer_exact : (s : State) (b : Assignment) (t : Bool) → is_better s b ≡ t
    → AreExact (standing s) (cond t (better b.stations ∷ []) [])
offer_exact s b true g = ((let l : b.stations < s.best.stations = grind (arith, nat_tests, g) in l), tt)
offer_exact s b false g = tt

step_exact : (s : State) (v : Event) → AreExact (standing s) (items s v)
step_exact s (event.Look set most) = tt
step_exact s (event.Publish e) = publish_exact s e (last_answer s.entries e.set e.most e.cycle) refl
step_exact s (event.Offer b) = offer_exact s b (is_better s b) refl

pub history_exact : (s : State) (vs : List Event) → AreExact (standing s) (history s vs)
history_exact s [] = tt
history_exact s (v ∷ vs) =
    let P : Standing → Type 0 = λ z. AreExact z (history (step s v) vs) in
    exact_append (standing s) (items s v) (history (step s v) vs) (step_exact s v)
    (subst P (sym (one_step s v)) (history_exact (step s v) vs))

-- the item at a place of an exact history is exact behind those before it
pub exact_at : (s : Standing) (h : List Item) (k : ℕ) (i : Item) → AreExact s h → slice_get h k ≡ Some i
    → IsExact (replay s (take k h)) i
exact_at s [] k i a e = absurd (cc)
exact_at s (x ∷ xs) zero i a e = let P : Item → Type 0 = λ z. IsExact s z in subst P (same_Some x i e) a.0
exact_at s (x ∷ xs) (suc k) i a e = exact_at (after s x) xs k i a.1 e
