-- A book amid a list of events: some were done, and the others are left.
use Rattle.std.proofs.Common.{◌≡◌, ℕ, ◌+◌, ◌-◌, List, [], ◌∷◌, ◌++◌, refl, sym, ap, ◌∙◌, subst, arith, append_assoc}
use Rattle.std.proofs.lemmas.List.{append-nil}
use Rattle.lemma_core.specs.declared.types.Event.{Event}
use Rattle.lemma_core.specs.declared.types.Reply.{Reply}
use Rattle.lemma_core.specs.Machine.{State, answer, answers_of, step, run}
use Rattle.lemma_core.specs.History.{Item, items, history, offers}
use Rattle.lemma_core.specs.Laws.{AllMayCome}
use Rattle.lemma_core.specs.Books.{BookView, IsReserved, ran, DidSome}
use Rattle.lemma_core.proofs.Logs.{offers-append, reserved_ran}

run-append : (s : State) (xs ys : List Event) → run s (xs ++ ys) ≡ run (run s xs) ys
run-append s [] ys = refl
run-append s (x ∷ xs) ys = run-append (step s x) xs ys

history-append : (s : State) (xs ys : List Event) → history s (xs ++ ys) ≡ history s xs ++ history (run s xs) ys
history-append s [] ys = refl
history-append s (x ∷ xs) ys = ap (λ (h : List Item). items s x ++ h) (history-append (step s x) xs ys)
    ∙ sym (append_assoc (items s x) (history (step s x) xs) (history (run (step s x) xs) ys))

answers-append : (c : ℕ) (s : State) (xs ys : List Event) → answers_of c s (xs ++ ys) ≡ answers_of c s xs
    ++ answers_of c (run s xs) ys
answers-append c s [] ys = refl
answers-append c s (x ∷ xs) ys = ap (λ (rs : List Reply). answer c s x ∷ rs) (answers-append c (step s x) xs ys)

ran-append : (b : BookView) (xs ys : List Event) → ran (ran b xs) ys ≡ ran b (xs ++ ys)
ran-append b xs ys =
    let h : history b.state (xs ++ ys) ≡ history b.state xs ++ history (run b.state xs) ys =
    history-append b.state xs ys in
    let e : (b.events ++ history b.state xs) ++ history (run b.state xs) ys ≡ b.events ++ history b.state (xs ++ ys) =
    append_assoc b.events (history b.state xs) (history (run b.state xs) ys)
    ∙ ap (λ (z : List Item). b.events ++ z) (sym h) in
    let o : offers (history b.state (xs ++ ys)) ≡ offers (history b.state xs) + offers (history (run b.state xs) ys) =
    ap (λ (z : List Item). offers z) h ∙ offers-append (history b.state xs) (history (run b.state xs) ys) in
    let r : b.room - offers (history b.state xs) - offers (history (run b.state xs) ys)
    ≡ b.room - offers (history b.state (xs ++ ys)) = omega (arith, o) in
    λ i. record {
      about = b.about;
      opening = b.opening;
      state = sym (run-append b.state xs ys) i;
      events = e i;
      room = r i;
    }

ran-none : (b : BookView) → b ≡ ran b []
ran-none b =
    let r : b.room ≡ b.room - 0 = omega arith in
    λ i. record {
      about = b.about;
      opening = b.opening;
      state = b.state;
      events = sym (append-nil b.events) i;
      room = r i;
    }

pub record IsMidRun (old : BookView) (vs : List Event) (rs : List Reply) (b : BookView) (all : List Reply)
    (left : List Event) : Type 0 where
  pub done : List Event
  pub events : done ++ left ≡ vs
  pub replies : all ≡ rs ++ answers_of old.about.cycle old.state done
  pub book : b ≡ ran old done
  pub reserved : IsReserved b
  pub may : AllMayCome b.about b.state left

pub run_first : (old : BookView) (vs : List Event) (rs : List Reply) → IsReserved old
    → AllMayCome old.about old.state vs → IsMidRun old vs rs old rs vs
run_first old vs rs r m = record {
  done = [];
  events = refl;
  replies = sym (append-nil rs);
  book = ran-none old;
  reserved = r;
  may = m;
}

module _ (old : BookView) (vs : List Event) (rs : List Reply) (b : BookView) (all : List Reply) (v : Event)
    (left : List Event) where
  pub run_next : (new : BookView) (more : List Reply) (r : Reply) → IsMidRun old vs rs b all (v ∷ left)
      → new ≡ ran b (v ∷ []) → r ≡ answer b.about.cycle b.state v → more ≡ all ++ r ∷ []
      → IsMidRun old vs rs new more left
  run_next new more r h n a m =
      let q : r ≡ answer old.about.cycle (run old.state h.done) v =
      a ∙ ap (λ (z : BookView). answer z.about.cycle z.state v) h.book in
      let P : BookView → Type 0 = λ z. IsReserved z in
      let Q : BookView → Type 0 = λ z. AllMayCome z.about z.state left in
      record {
        done = h.done ++ v ∷ [];
        events = append_assoc h.done (v ∷ []) left ∙ h.events;
        replies = m ∙ ((λ i. h.replies i ++ q i ∷ []) ∙ (append_assoc rs (answers_of old.about.cycle old.state h.done)
            (answer old.about.cycle (run old.state h.done) v ∷ [])
            ∙ ap (λ (zs : List Reply). rs ++ zs) (sym (answers-append old.about.cycle old.state h.done (v ∷ [])))));
        book = n ∙ (ap (λ (z : BookView). ran z (v ∷ [])) h.book ∙ ran-append old h.done (v ∷ []));
        reserved = subst P (sym n) (reserved_ran b (v ∷ []) h.reserved);
        may = subst Q (sym n) h.may.1;
      }

pub did_some : (old : BookView) (vs : List Event) (rs : List Reply) (b : BookView) (all : List Reply)
    (left : List Event) → IsMidRun old vs rs b all left → DidSome old vs rs b all
did_some old vs rs b all left h = record {
  done = h.done;
  left = left;
  events = h.events;
  replies = h.replies;
  book = h.book;
}

-- where nothing is left, all is done
pub all_done : (old : BookView) (vs : List Event) (rs : List Reply) (b : BookView) (all : List Reply)
    (left : List Event) → left ≡ [] → IsMidRun old vs rs b all left
    → (all ≡ rs ++ answers_of old.about.cycle old.state vs) × (b ≡ ran old vs)
all_done old vs rs b all left none h =
    let e : h.done ≡ vs = sym (append-nil h.done) ∙ (ap (λ (zs : List Event). h.done ++ zs) (sym none) ∙ h.events) in (
      h.replies ∙ ap (λ (zs : List Event). rs ++ answers_of old.about.cycle old.state zs) e,
      h.book
          ∙ ap (λ (zs : List Event). ran old zs) e,
    )
