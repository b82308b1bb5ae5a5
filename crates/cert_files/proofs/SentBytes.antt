-- What putting a byte into a file, by way of a buffer, does.
use Rattle.std.proofs.Common.{◌≡◌, ℕ, ◌+◌, ◌≤◌, Bool, true, false, not, cond, List, [], ◌∷◌, ◌++◌, length, take, Option}
use Rattle.std.proofs.Common.{Some, None, refl, sym, ap, ◌∙◌, subst, arith, append_assoc, append-nil, ◌≢◌, ◌⊎◌, inl}
use Rattle.std.proofs.Common.{inr}
use Rattle.std.specs.Prelude.{bytes_eq}
use Rattle.std.proofs.Math.Seq.{take-append-add}
use Rattle.std.proofs.lemmas.Bool.{false≢true}
use Rattle.std.proofs.lemmas.List.{take_all}
use Rattle.std.proofs.lemmas.Slice.Eq.{bytes_eq-Decides}
use Rattle.line_io.specs.Outside.{Rises, Grows, GrowsWhole}
use Rattle.cert_text.specs.Sent.{IsFront, Puts}
use Rattle.cert_text.proofs.PutTexts.{front_of_more}
use Rattle.cert_files.specs.inner.Pieces.{bytes_of, emptied, beside, Staying, sent_into}
use Rattle.line_io.proofs.ReadFacts.{same_bytes}

module _ (tells : Type 0) (reference : ℕ) (name : List ℕ) where
  -- a byte that the buffer has room for
  pub buffered : (failed : Bool) (buffer new : List ℕ) (files : List ℕ → Option (List ℕ)) (faults byte : ℕ)
      → failed ≡ false → new ≡ buffer ++ byte ∷ []
      → Puts tells (sent_into tells failed buffer reference name files faults) (byte ∷ [])
      (sent_into tells failed new reference name files faults)
  buffered failed buffer new files faults byte f e = record {
    base = refl;
    count = omega arith;
    fault = λ g h. absurd (false≢true (sym h ∙ g));
    adds = λ told. record {
      before = λ g. g;
      all = λ g. ap (λ x. bytes_of (files name) ++ x) e ∙ sym (append_assoc (bytes_of (files name)) buffer (byte ∷ []));
      front = λ g h. absurd (false≢true (sym h ∙ g));
      stays = λ h. refl;
    };
  }

  grown_whole : (old new : Option (List ℕ)) (piece : List ℕ) → GrowsWhole old piece new
      → (bytes_of new ≡ bytes_of old ++ piece) × (emptied new ≡ emptied old)
  grown_whole None new piece g = absurd g
  grown_whole (Some old) new piece g = (ap bytes_of g, ap (emptied) g)

  grown : (old new : Option (List ℕ)) (piece : List ℕ) → Grows old piece new
      → IsFront (bytes_of new) (bytes_of old ++ piece) × (emptied new ≡ emptied old)
  grown None new piece g = ((0, ap bytes_of g), ap (emptied) g)
  grown (Some old) new piece g = (
    (length old + g.0, ap bytes_of g.1 ∙ sym (take-append-add old piece g.0)),
    ap (emptied) g.1,
  )

  -- the other files stay, and that of the name is there or not as before
  same_beside : (files new : List ℕ → Option (List ℕ)) → emptied (new name) ≡ emptied (files name)
      → ((q : List ℕ) → (q ≡ name → ⊥) → new q ≡ files q) → (q : List ℕ) → beside name new q ≡ beside name files q
  same_beside files new e others q = at (bytes_eq q name) refl
    where
      at : (b : Bool) → bytes_eq q name ≡ b → cond b (emptied (new q)) (new q) ≡ cond b (emptied (files q)) (files q)
      at true h =
          let P : List ℕ → Type 0 = λ x. emptied (new x) ≡ emptied (files x) in
          subst P (sym (same_bytes q name h)) e
      at false h = others q (λ s. false≢true (sym h ∙ (bytes_eq-Decides q name).1 s))

  stay : (List ℕ → Option (List ℕ)) → Staying tells
  stay files = (reference, name, λ told. beside name files)

  same_base : (files new : List ℕ → Option (List ℕ)) → (tells → (q : List ℕ) → beside name new q ≡ beside name files q)
      → stay new ≡ stay files
  unfolding stay
  same_base files new h = λ i. (reference, name, λ told q. h told q i)

  -- a full buffer goes into the file
  pub emptied_buffer : (buffer : List ℕ) (files new : List ℕ → Option (List ℕ)) (faults more : ℕ) → faults ≤ more
      → (tells → GrowsWhole (files name) buffer (new name)) → (tells → (q : List ℕ) → (q ≡ name → ⊥) → new q ≡ files q)
      → Puts tells (sent_into tells false buffer reference name files faults) []
      (sent_into tells false [] reference name new more)
  unfolding stay
  emptied_buffer buffer files new faults more count done others = record {
    base = same_base files new (λ told. same_beside files new (grown_whole (files name) (new name) buffer (done told)).1
        (others told));
    count = count;
    fault = λ g h. absurd (false≢true (sym h ∙ g));
    adds = λ told. record {
      before = λ g. g;
      all = λ g. append-nil (bytes_of (new name)) ∙ (grown_whole (files name) (new name) buffer (done told)).0
          ∙ sym (append-nil (bytes_of (files name) ++ buffer));
      front = λ g h. absurd (false≢true (sym h ∙ g));
      stays = λ h. absurd (false≢true (sym h));
    };
  }

  -- a call that failed
  pub failed_put : (buffer text : List ℕ) (files new : List ℕ → Option (List ℕ)) (faults more : ℕ) → faults ≤ more
      → Rises faults more → (tells → Grows (files name) buffer (new name))
      → (tells → (q : List ℕ) → (q ≡ name → ⊥) → new q ≡ files q)
      → Puts tells (sent_into tells false buffer reference name files faults) text
      (sent_into tells true buffer reference name new more)
  unfolding stay
  failed_put buffer text files new faults more count rises failed others = record {
    base = same_base files new (λ told. same_beside files new (grown (files name) (new name) buffer (failed told)).1
        (others told));
    count = count;
    fault = λ g h. rises;
    adds = λ told. record {
      before = λ g. absurd (false≢true g);
      all = λ g. absurd (false≢true g);
      front = λ g h. front_of_more (bytes_of (new name)) (bytes_of (files name) ++ buffer) text
          (grown (files name) (new name) buffer (failed told)).0;
      stays = λ h. absurd (false≢true (sym h));
    };
  }

-- the other files after texts were put
pub others_stay : (tells : Type 0) (r r' : ℕ) (name name' : List ℕ) (files new : List ℕ → Option (List ℕ))
    (failed failed' : Bool) (buffer buffer' text : List ℕ) (faults more : ℕ)
    → Puts tells (sent_into tells failed buffer r name files faults) text
    (sent_into tells failed' buffer' r' name' new more) → tells → (q : List ℕ) → (q ≡ name → ⊥) → new q ≡ files q
others_stay tells r r' name name' files new failed failed' buffer buffer' text faults more p told q n =
    let same : name' ≡ name = ap (λ b. b.1) p.base in
    let P : List ℕ → Type 0 = λ x. beside x new q ≡ beside name files q in
    let e : beside name new q ≡ beside name files q = subst P same (ap (λ b. b.2 told q) p.base) in
    let no : bytes_eq q name ≡ false = other (bytes_eq q name) refl in
    let f : beside name new q ≡ new q = ap (λ b. cond b (emptied (new q)) (new q)) no in
    let g : beside name files q ≡ files q = ap (λ b. cond b (emptied (files q)) (files q)) no in
    sym f ∙ e ∙ g
  where
    other : (b : Bool) → bytes_eq q name ≡ b → bytes_eq q name ≡ false
    other true h = absurd (n ((bytes_eq-Decides q name).0 h))
    other false h = h

-- the file is still there
there : (tells : Type 0) (r r' : ℕ) (name name' : List ℕ) (files new : List ℕ → Option (List ℕ)) (failed failed' : Bool)
    (buffer buffer' text : List ℕ) (faults more : ℕ)
    → Puts tells (sent_into tells failed buffer r name files faults) text
    (sent_into tells failed' buffer' r' name' new more) → tells → files name ≡ Some []
    → new name ≡ Some (bytes_of (new name))
there tells r r' name name' files new failed failed' buffer buffer' text faults more p told e =
    let same : name' ≡ name = ap (λ b. b.1) p.base in
    let P : List ℕ → Type 0 = λ x. beside x new name ≡ beside name files name in
    let h : beside name new name ≡ beside name files name = subst P same (ap (λ b. b.2 told name) p.base) in
    let yes : bytes_eq name name ≡ true = (bytes_eq-Decides name name).1 refl in
    let f : beside name new name ≡ emptied (new name) = ap (λ b. cond b (emptied (new name)) (new name)) yes in
    let g : beside name files name ≡ emptied (files name) = ap (λ b. cond b (emptied (files name)) (files name)) yes in
    is_there (new name) (sym f ∙ h ∙ g ∙ ap emptied e)
  where
    is_there : (o : Option (List ℕ)) → emptied o ≡ Some [] → o ≡ Some (bytes_of o)
    is_there None h = absurd (cc)
    is_there (Some bytes) h = refl

module _ (tells : Type 0) (r r' : ℕ) (name name' : List ℕ) (files new : List ℕ → Option (List ℕ)) (failed' : Bool)
    (buffer buffer' text : List ℕ) (faults more : ℕ)
    (p : Puts tells (sent_into tells false buffer r name files faults) text
    (sent_into tells failed' buffer' r' name' new more)) (told : tells) (none : buffer ≡ [])
    (e : files name ≡ Some []) where
  start : bytes_of (files name) ++ buffer ≡ []
  start = ap (λ o. bytes_of o ++ buffer) e ∙ none

  -- after a put that failed the file has a prefix of the text
  pub front_kept : failed' ≡ true → (k : ℕ) × (new name ≡ Some (take k text))
  front_kept f =
      let same : name' ≡ name = ap (λ b. b.1) p.base in
      let bad : not failed' ≡ false = ap not f in
      let front : IsFront (bytes_of (new name')) ((bytes_of (files name) ++ buffer) ++ text) =
      (p.adds told).front refl bad in (
        front.0,
        there tells r r' name name' files new false failed' buffer buffer' text faults more p told e
            ∙ ap (λ n. Some (bytes_of (new n))) (sym same) ∙ ap Some
            (front.1 ∙ ap (λ x. take front.0 (x ++ text)) start),
      )

  -- where none failed, the file has the text up to the buffer, which has the rest
  pub all_put : failed' ≡ false → (new name ≡ Some (bytes_of (new name))) × (bytes_of (new name) ++ buffer' ≡ text)
  all_put f =
      let same : name' ≡ name = ap (λ b. b.1) p.base in
      let good : not failed' ≡ true = ap not f in
      let sent = p.adds told in
      let all : bytes_of (new name') ++ buffer' ≡ (bytes_of (files name) ++ buffer) ++ text = sent.all good in (
        there tells r r' name name' files new false failed' buffer buffer' text faults more p told e,
        ap (λ n. bytes_of (new n) ++ buffer') (sym same) ∙ all ∙ ap (λ x. x ++ text) start,
      )

-- the same file, told of otherwise
pub same_front : (old new : Option (List ℕ)) (text : List ℕ) → ((k : ℕ) × (old ≡ Some (take k text))) → new ≡ old
    → (k : ℕ) × (new ≡ Some (take k text))
same_front old new text f e = (f.0, e ∙ f.1)

-- a further piece of a text
pub front_grown : (old new : Option (List ℕ)) (piece text : List ℕ) → old ≡ Some (bytes_of old)
    → bytes_of old ++ piece ≡ text → Grows old piece new → (k : ℕ) × (new ≡ Some (take k text))
front_grown None new piece text there all g = absurd (cc)
front_grown (Some old) new piece text there all g = (
  length old + g.0,
  g.1
      ∙ ap Some (sym (take-append-add old piece g.0) ∙ ap (take (length old + g.0)) all),
)

pub whole_grown : (old new : Option (List ℕ)) (piece text : List ℕ) → old ≡ Some (bytes_of old)
    → bytes_of old ++ piece ≡ text → GrowsWhole old piece new → new ≡ Some text
whole_grown None new piece text there all g = absurd g
whole_grown (Some old) new piece text there all g = g ∙ ap Some all

pub whole_front : (new : Option (List ℕ)) (text : List ℕ) → new ≡ Some text → (k : ℕ) × (new ≡ Some (take k text))
whole_front new text e = (length text, e ∙ ap Some (sym (take_all (length text) text (omega arith))))

-- what comes unless a file is missing, where it is there
pub where_there : (tells A : Type 0) (file : Option (List ℕ)) → (tells → file ≢ None)
    → A ⊎ (tells × (file ≡ None)) → A
where_there tells A file there (inl a) = a
where_there tells A file there (inr b) = absurd (there b.0 b.1)
