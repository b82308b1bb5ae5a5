-- What publishing an entry by Bound does to a book.
use Rattle.std.proofs.Common.{◌≡◌, ℕ, zero, suc, [], ◌∷◌, length, refl, sym, ap, ◌∙◌, subst, inl, inr, arith, Option}
use Rattle.std.proofs.Common.{Some, None}
use Rattle.std.proofs.lemmas.List.{append-nil}
use Rattle.line_rules.specs.Balance.{all_tasks}
use Rattle.line_rules.specs.Entries.{HasAnswer, IsLastAnswer}
use Rattle.line_rules.specs.declared.types.Entry.{Entry}
use Rattle.line_rules.proofs.ListFacts.{get_last}
use Rattle.lemma_core.specs.Machine.{last_answer}
use Rattle.lemma_core.specs.Books.{BookView, ran, DoesPublish}
use Rattle.lemma_core.specs.declared.types.Event.TheVariants as event
use Rattle.lemma_core.specs.declared.types.Published.{Published}
use Rattle.lemma_core.specs.declared.types.Published.TheVariants as published
use Rattle.lemma_core.proofs.Runs.{last_found}
use Rattle.round_helpers.specs.Growth.{AreAtCycle}
use Rattle.round_run.specs.Rounds.{AddsBound, by_bound}
use Rattle.round_run.proofs.BookGain.{goes_same}

one_at : (X : ℕ) (e : Entry) → e.cycle ≡ X → AreAtCycle X (e ∷ [])
one_at X e c zero x g = let same : e ≡ x = cc in sym (ap (λ (z : Entry). z.cycle) same) ∙ c
one_at X e c (suc k) x g = absurd (cc)

module _ (b : BookView) (most : ℕ) where
  abbrev pub wanted : Entry
  wanted = by_bound b.about.line most b.about.cycle

  ran_adds : (o : Option ℕ) → last_answer b.state.entries wanted.set wanted.most wanted.cycle ≡ o
      → AddsBound most b (ran b (event.Publish wanted ∷ []))
  ran_adds (Some id) g = rw g (record {
    gained = [];
    goes_on = record {
      about = refl;
      opening = refl;
      entries = sym (append-nil b.state.entries);
      cycles = λ k x h. absurd (cc);
      best = omega arith;
    };
    entry = inl refl;
    best = refl;
  })
  ran_adds None g = rw g (record {
    gained = wanted ∷ [];
    goes_on = record {
      about = refl;
      opening = refl;
      entries = refl;
      cycles = one_at b.about.cycle wanted refl;
      best = omega arith;
    };
    entry = inr refl;
    best = refl;
  })

  -- an entry of the book answers it then
  ran_answers : (o : Option ℕ) → last_answer b.state.entries wanted.set wanted.most wanted.cycle ≡ o
      → HasAnswer (ran b (event.Publish wanted ∷ [])).state.entries wanted.set most b.about.cycle
  ran_answers (Some id) g =
      let a : IsLastAnswer b.state.entries wanted.set wanted.most wanted.cycle id =
      last_found b.state.entries wanted.set wanted.most wanted.cycle id g in
      rw g (id, a.entry, (a.there, a.answers))
  ran_answers None g = rw g (
    length b.state.entries,
    wanted,
    (get_last b.state.entries wanted, record { same = refl; stations = omega arith; long = omega arith }),
  )

  published_adds : (new : BookView) (r : Published) → DoesPublish b wanted r new → AddsBound most b new
  published_adds new (published.Known id) d =
      let P : BookView → Type 0 = λ z. AddsBound most b z in
      subst P (sym d.1) (ran_adds (last_answer b.state.entries wanted.set wanted.most wanted.cycle) refl)
  published_adds new (published.Added id) d =
      let P : BookView → Type 0 = λ z. AddsBound most b z in
      subst P (sym d.1) (ran_adds (last_answer b.state.entries wanted.set wanted.most wanted.cycle) refl)
  published_adds new published.NoMemory d =
      let P : BookView → Type 0 = λ z. AddsBound most b z in
      subst P (sym d) (record { gained = []; goes_on = goes_same b; entry = inl refl; best = refl })

  has_ran : (new : BookView) → new ≡ ran b (event.Publish wanted ∷ [])
      → HasAnswer new.state.entries (all_tasks b.about.line) most b.about.cycle
  has_ran new q =
      let P : BookView → Type 0 = λ z. HasAnswer z.state.entries wanted.set most b.about.cycle in
      subst P (sym q) (ran_answers (last_answer b.state.entries wanted.set wanted.most wanted.cycle) refl)

  published_has : (new : BookView) (r : Published) → DoesPublish b wanted r new → (r ≡ published.NoMemory → ⊥)
      → HasAnswer new.state.entries (all_tasks b.about.line) most b.about.cycle
  published_has new (published.Known id) d some = has_ran new d.1
  published_has new (published.Added id) d some = has_ran new d.1
  published_has new published.NoMemory d some = absurd (some refl)

  -- the same of an entry that is equal to it
  pub adds_bound : (e : Entry) (new : BookView) (r : Published) → e ≡ wanted → DoesPublish b e r new
      → AddsBound most b new
  adds_bound e new r q d = let P : Entry → Type 0 = λ z. DoesPublish b z r new in published_adds new r (subst P q d)

  pub has_bound : (e : Entry) (new : BookView) (r : Published) → e ≡ wanted → DoesPublish b e r new
      → (r ≡ published.NoMemory → ⊥) → HasAnswer new.state.entries (all_tasks b.about.line) most b.about.cycle
  has_bound e new r q d some =
      let P : Entry → Type 0 = λ z. DoesPublish b z r new in
      published_has new r (subst P q d) some
