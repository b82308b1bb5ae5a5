-- One record of a text more: what stands behind it is shorter, and the records of a text are the first one and those
-- behind it.
use Rattle.std.proofs.Common.{◌≡◌, ◌≤◌, ◌<◌, ◌+◌, ℕ, zero, suc, Bool, true, false, List, [], ◌∷◌, ◌++◌, length, Option}
use Rattle.std.proofs.Common.{Some, None, refl, sym, ◌∙◌, ap, subst, arith, add-one, inl}
use Rattle.std.proofs.lemmas.Bool.{false≢true}
use Rattle.std.specs.Prelude.{if◌then◌else◌, ◌==◌, ◌||◌, unwrap_or}
use Rattle.std.specs.Borrow.{Bor}
use Rattle.csv.specs.Machine.{Read, next_record, ends_at_end, step, in_field, start_field, start_record, is_end}
use Rattle.csv.specs.Machine.{fields_after, field_after}
use Rattle.csv.specs.Reading.{records_from, records_next, ReadRecord, ReadsNext, NextIs, pending_of}
use Rattle.csv.specs.Reading.{took_first}
use Rattle.csv.specs.declared.parser.Action.{Action}
use Rattle.csv.specs.declared.parser.State.{State}
use Rattle.csv.specs.declared.parser.State.TheVariants as st
use Rattle.csv.specs.declared.reader.Reader.{Reader}
use Rattle.task_table.specs.Records.{Fields}
use Rattle.task_table.specs.inner.RecordsLeft.{marked, records_behind, known_left, left_of, records_of, IsReading}
use Rattle.task_table.specs.inner.RecordsLeft.{TakesRecord}

-- where the machine ends a record, the next one begins
abbrev pub Begins : State × Action → Type 0
Begins x = is_end x.1 ≡ true → ends_at_end x.0 ≡ false

either : (b : Bool) (x y : State × Action) → Begins x → Begins y → Begins (if b then x else y)
either true x y f g = f
either false x y f g = g

behind_line : (b : Bool) → ends_at_end (if b then st.AfterCr else st.StartRecord) ≡ false
behind_line true = refl
behind_line false = refl

in_field_begins : (m c : ℕ) → Begins (in_field (marked m) c)
in_field_begins m c =
    either (c == m) _ _ (λ h. absurd (false≢true h))
    (either ((c == 13) || (c == 10)) _ _ (λ h. behind_line (c == 13)) (λ h. absurd (false≢true h)))

start_field_begins : (m c : ℕ) → Begins (start_field (marked m) c)
start_field_begins m c = either (c == 34) _ _ (λ h. absurd (false≢true h)) (in_field_begins m c)

start_record_begins : (m c : ℕ) → Begins (start_record (marked m) c)
start_record_begins m c = either ((c == 13) || (c == 10)) _ _ (λ h. absurd (false≢true h)) (start_field_begins m c)

begins : (m : ℕ) (s : State) (c : ℕ) → Begins (step (marked m) s c)
begins m st.StartRecord c = start_record_begins m c
begins m st.StartField c = start_field_begins m c
begins m st.InField c = in_field_begins m c
begins m st.InQuoted c = either (c == 34) _ _ (λ h. absurd (false≢true h)) (λ h. absurd (false≢true h))
begins m st.InEscape c = λ h. absurd (false≢true h)
begins m st.AfterQuote c = either (c == 34) _ _ (λ h. absurd (false≢true h)) (in_field_begins m c)
begins m st.InComment c = either (c == 10) _ _ (λ h. absurd (false≢true h)) (λ h. absurd (false≢true h))
begins m st.AfterCr c = either (c == 10) _ _ (λ h. absurd (false≢true h)) (start_record_begins m c)

-- what stands behind a record is no longer than the text, and there a record begins
abbrev pub IsBehind : List ℕ → Read → Type 0
IsBehind xs p = (length p.2 ≤ length xs) × (ends_at_end p.1 ≡ false)

behind : (m : ℕ) (s : State) (fields : List (List ℕ)) (field xs : List ℕ) (p : Read)
    → next_record (marked m) s fields field xs ≡ Some p → IsBehind xs p
unfolding next_record
behind m s fields field [] p h = last (ends_at_end s) h
  where
    last : (b : Bool) → (if b then Some (fields ++ (field ∷ []), st.StartRecord, []) else None) ≡ Some p → IsBehind [] p
    last true h = let e : (fields ++ (field ∷ []), st.StartRecord, []) ≡ p = cc in
        let P : Read → Type 0 = IsBehind [] in subst P e (omega arith, refl)
    last false h = cc h
behind m s fields field (c ∷ rest) p h = by (is_end (step (marked m) s c).1) refl h
    (behind m (step (marked m) s c).0 _ _ rest p)
  where
    by : (b : Bool) → is_end (step (marked m) s c).1 ≡ b
        → (if b then Some (fields_after (step (marked m) s c).1 fields field, (step (marked m) s c).0, rest)
        else next_record (marked m) (step (marked m) s c).0
        (fields_after (step (marked m) s c).1 fields field) (field_after (step (marked m) s c).1 c field)
        rest) ≡ Some p
        → (next_record (marked m) (step (marked m) s c).0
        (fields_after (step (marked m) s c).1 fields field) (field_after (step (marked m) s c).1 c field)
        rest ≡ Some p → IsBehind rest p)
        → IsBehind (c ∷ rest) p
    by true e h more =
        let q : (fields_after (step (marked m) s c).1 fields field, (step (marked m) s c).0, rest) ≡ p = cc in
        let P : Read → Type 0 = IsBehind (c ∷ rest) in subst P q (omega arith, begins m s c e)
    by false e h more = let n = more h in (omega (arith, n.0), n.1)

-- where a record begins, one that is read takes a byte
shorter : (m : ℕ) (s : State) (xs : List ℕ) (p : Read) → ends_at_end s ≡ false
    → next_record (marked m) s [] [] xs ≡ Some p
    → length p.2 < length xs
unfolding next_record
shorter m s [] p e h = cc (rw e at h)
shorter m s (c ∷ rest) p e h = by (is_end (step (marked m) s c).1) h
  where
    by : (b : Bool)
        → (if b then Some (fields_after (step (marked m) s c).1 [] [], (step (marked m) s c).0, rest) else
        next_record (marked m) (step (marked m) s c).0 (fields_after (step (marked m) s c).1 [] [])
        (field_after (step (marked m) s c).1 c []) rest) ≡ Some p
        → length p.2 < length (c ∷ rest)
    by true h =
        let q : (fields_after (step (marked m) s c).1 [] [], (step (marked m) s c).0, rest) ≡ p = cc in
        let P : Read → Type 0 = λ p. length p.2 < length (c ∷ rest) in subst P q (omega arith)
    by false h = let n = behind m _ _ _ rest p h in omega (arith, n.0)

-- where enough records are asked for, how many makes no difference
enough : (m n k : ℕ) (s : State) (xs : List ℕ) → length xs < n → length xs < k → ends_at_end s ≡ false
    → records_from (marked m) n s xs ≡ records_from (marked m) k s xs
unfolding records_from
enough m zero k s xs a b e = absurd (omega (arith, a))
enough m (suc n) zero s xs a b e = absurd (omega (arith, b))
enough m (suc n) (suc k) s xs a b e = by (next_record (marked m) s [] [] xs) refl (enough m n k)
  where
    by : (o : Option Read) → next_record (marked m) s [] [] xs ≡ o
        → ((s : State) (xs : List ℕ) → length xs < n → length xs < k → ends_at_end s ≡ false
        → records_from (marked m) n s xs ≡ records_from (marked m) k s xs)
        → records_next (records_from (marked m) n) o ≡ records_next (records_from (marked m) k) o
    by None q more = refl
    by (Some p) q more =
        let less = shorter m s xs p e q in
        ap (λ rs. p.0 ∷ rs) (more p.1 p.2 (omega (arith, less, a)) (omega (arith, less, b)) (behind m s [] [] xs p q).1)

-- the first record, and those behind it
pub one_more : (m : ℕ) (s : State) (xs : List ℕ) (p : Read) → ends_at_end s ≡ false
    → next_record (marked m) s [] [] xs ≡ Some p
    → records_behind (marked m) s xs ≡ p.0 ∷ records_behind (marked m) p.1 p.2
unfolding records_from
one_more m s xs p e h =
    let less = shorter m s xs p e h in
    ap (λ k. records_from (marked m) k s xs) (add-one (length xs))
    ∙ ap (records_next (records_from (marked m) (length xs))) h
    ∙ ap (λ rs. p.0 ∷ rs) (enough m (length xs) (length p.2 + 1) p.1 p.2 less (omega arith) (behind m s [] [] xs p h).1)

pub none_more : (m : ℕ) (s : State) (xs : List ℕ) → next_record (marked m) s [] [] xs ≡ None
    → records_behind (marked m) s xs ≡ []
unfolding records_from
none_more m s xs h = ap (λ k. records_from (marked m) k s xs) (add-one (length xs))
    ∙ ap (records_next (records_from (marked m) (length xs))) h

-- a read that found a record, and one that found none
taken : (o : Option Read) (fields : Fields) (s : State) (rest : List ℕ) → NextIs o true fields s rest
    → o ≡ Some (fields, s, rest)
taken None fields s rest h = absurd (false≢true (sym h))
taken (Some p) fields s rest h = rw (h.1, h.2, h.3) refl

ended : (o : Option Read) (fields : Fields) (s : State) (rest : List ℕ) → NextIs o false fields s rest → o ≡ None
ended None fields s rest h = refl
ended (Some p) fields s rest h = absurd (false≢true h.0)

reads_one : (m : ℕ) (state s : State) (left : List ℕ) (source after : Option (List ℕ)) (fields : Fields)
    → source ≡ Some left
    → ReadsNext (marked m) state source after true fields s
    → (rest : List ℕ) × (after ≡ Some rest) × (next_record (marked m) state [] [] left ≡ Some (fields, s, rest))
reads_one m state s left None after fields e h = cc e
reads_one m state s left (Some xs) None fields e h = absurd h
reads_one m state s left (Some xs) (Some rest) fields e h =
    let same : xs ≡ left = cc in
    (rest, refl, ap (next_record (marked m) state [] []) (sym same) ∙ taken _ fields s rest h)

reads_none : (m : ℕ) (state s : State) (left : List ℕ) (source after : Option (List ℕ)) (fields : Fields)
    → source ≡ Some left
    → ReadsNext (marked m) state source after false fields s
    → next_record (marked m) state [] [] left ≡ None
reads_none m state s left None after fields e h = cc e
reads_none m state s left (Some xs) None fields e h = absurd h
reads_none m state s left (Some xs) (Some rest) fields e h =
    let same : xs ≡ left = cc in
    ap (next_record (marked m) state [] []) (sym same) ∙ ended _ fields s rest h

-- a read of a reader between two records takes the first record that was left, or there was none
pub takes : (old new : Reader (Bor (List ℕ))) (found : Bool) (fields : Fields) → IsReading old
    → ReadRecord (λ s. Some s.now) old new found fields
    → new.flexible ≡ old.flexible → took_first new ≡ true → TakesRecord (records_of old) new found fields
takes old new false fields d r f t =
    let m : ℕ = old.config.delimiter in
    ap (λ c. records_behind c old.state (left_of old)) d.config
    ∙ none_more m old.state (left_of old) (reads_none m old.state new.state (left_of old) (known_left old)
    (pending_of (Some new.rdr.now) new) fields d.source (rw d.config at r.0))
takes old new true fields d r f t =
    let m : ℕ = old.config.delimiter in
    let n = reads_one m old.state new.state (left_of old) (known_left old) (pending_of (Some new.rdr.now) new) fields
    d.source (rw d.config at r.0) in
    let left : known_left new ≡ Some n.0 = rw r.1 n.1 in
    let same : left_of new ≡ n.0 = ap (λ o. unwrap_or o []) left in
    let config : new.config ≡ marked m = r.2 ∙ d.config in (
      record {
        config = config ∙ ap marked (sym (ap (λ c. c.delimiter) config));
        trim = r.3 ∙ d.trim;
        flexible = f ∙ d.flexible;
        ready = inl t;
        begins = (behind m old.state [] [] (left_of old) (fields, new.state, n.0) n.2).1;
        source = left ∙ ap (λ x. Some x) (sym same);
      },
      ap (λ c. records_behind c old.state (left_of old)) d.config
          ∙ one_more m old.state (left_of old) (fields, new.state, n.0) d.begins n.2
          ∙ ap (λ x. fields ∷ records_behind (marked m) new.state x) (sym same)
          ∙ ap (λ c. fields ∷ records_behind c new.state (left_of new)) (sym config),
    )
