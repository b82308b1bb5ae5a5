-- What was done on a book as a desk is how the book goes on.
use Rattle.std.proofs.Common.{◌≡◌, ℕ, zero, suc, ◌+◌, List, [], ◌∷◌, ◌++◌, length, refl, sym, ap, ◌∙◌, subst}
use Rattle.std.proofs.Common.{arith, length-append, Option}
use Rattle.std.proofs.lemmas.List.{append-nil, append_cancel_left}
use Rattle.std.specs.List.{range_with_len}
use Rattle.line_instance.specs.Line.{Line}
use Rattle.line_rules.specs.Units.{UnitsOf, UnitsIn}
use Rattle.line_rules.specs.declared.types.LineKind.{LineKind}
use Rattle.line_rules.specs.declared.types.Mode.{Mode}
use Rattle.line_rules.specs.declared.types.Entry.{Entry}
use Rattle.line_rules.specs.declared.types.OpenFrame.{OpenFrame}
use Rattle.lemma_core.specs.History.{Item, added, known, better, Standing, after, replay}
use Rattle.lemma_core.specs.Desks.{Keeps}
use Rattle.lemma_core.specs.Own.{ArePublish, AreAt, Did, added_of}
use Rattle.lemma_core.specs.Books.{BookView, IsBook, desk_of}
use Rattle.lemma_core.proofs.BookAsDesk.{entries_seen, fewest_seen}
use Rattle.lemma_core.proofs.OwnFacts.{entries_added}
use Rattle.lemma_core.proofs.Runs.{replay-append}
use Rattle.station_search.specs.Costs.{HasPublished}
use Rattle.round_helpers.specs.Growth.{AreAtCycle, GoesOn, Helps}
use Rattle.round_helpers.proofs.AddedEntries.{lemmas_at}
use Rattle.round_helpers.proofs.Ranges.{at_range}

-- a desk's own places since a book's last event are all places since then
range_split : (a m n : ℕ) → range_with_len a (m + n) ≡ range_with_len a m ++ range_with_len (a + m) n
range_split a zero n =
    let e : a ≡ a + 0 = omega arith in
    let l : 0 + n ≡ n = omega arith in
    ap (λ (k : ℕ). range_with_len a k) l ∙ ap (λ (x : ℕ). range_with_len x n) e
range_split a (suc m) n =
    let e : a + 1 + m ≡ a + suc m = omega arith in
    let l : suc m + n ≡ suc (m + n) = omega arith in
    let r : range_with_len (a + 1) (m + n) ≡ range_with_len (a + 1) m ++ range_with_len (a + suc m) n =
    range_split (a + 1) m n ∙ ap (λ (x : ℕ). range_with_len (a + 1) m ++ range_with_len x n) e in
    ap (λ (k : ℕ). range_with_len a k) l ∙ ap (λ (xs : List ℕ). a ∷ xs) r

-- so what was done is what the log gained
pub did_more : (old new : BookView) (is : List Item) → Keeps (desk_of old) (desk_of new)
    → Did (desk_of old) (desk_of new) is → new.events ≡ old.events ++ is
did_more old new is k d =
    let more : List Item = k.seen.0 in
    let long : length new.events ≡ length old.events + length more =
    omega (arith, ap (λ (z : List Item). length z) k.seen.1, length-append old.events more) in
    let own : range_with_len 0 (length old.events) ++ d.places
    ≡ range_with_len 0 (length old.events) ++ range_with_len (0 + length old.events) (length more) =
    sym d.own ∙ (ap (λ (n : ℕ). range_with_len 0 n) long ∙ range_split 0 (length old.events) (length more)) in
    let places : d.places ≡ range_with_len (0 + length old.events) (length more) =
    append_cancel_left (range_with_len 0 (length old.events)) d.places
    (range_with_len (0 + length old.events) (length more)) own in
    let P : List ℕ → Type 0 = λ z. AreAt new.events z is in
    let n : 0 + length old.events ≡ length old.events = omega arith in
    let same : is ≡ more =
    at_range old.events more is new.events (0 + length old.events) (sym k.seen.1) n (subst P places d.there) in
    sym k.seen.1 ∙ ap (λ (z : List Item). old.events ++ z) (sym same)

-- entries that are published leave the best balance alone
publishes_keep : (s : Standing) (is : List Item) → ArePublish is → (replay s is).stations ≡ s.stations
publishes_keep s [] p = refl
publishes_keep s (added id e ∷ is) p = publishes_keep (after s (added id e)) is p.1
publishes_keep s (known id most ∷ is) p = publishes_keep s is p.1
publishes_keep s (better n ∷ is) p = absurd p.0

-- a book goes on twice, the second time without an entry
pub goes_then : (a b c : BookView) (xs : List Entry) → GoesOn a b xs → GoesOn b c [] → GoesOn a c xs
goes_then a b c xs g h = record {
  about = h.about ∙ g.about;
  opening = h.opening ∙ g.opening;
  entries = h.entries ∙ (append-nil b.state.entries ∙ g.entries);
  cycles = g.cycles;
  best = omega (arith, g.best, h.best);
}

pub goes_same : (a : BookView) → GoesOn a a []
goes_same a = record {
  about = refl;
  opening = refl;
  entries = sym (append-nil a.state.entries);
  cycles = λ k e g. absurd (cc);
  best = omega arith;
}

-- no help at all
pub helps_none : (b : BookView) (used : ℕ) → Helps b b used
helps_none b used = record {
  gained = [];
  goes_on = goes_same b;
  few = omega arith;
  published = 0;
  units = refl;
  within = omega arith;
}

module _ {asked : Option Mode} (old new : BookView) (ok : IsBook old) (okn : IsBook new)
    (k : Keeps (desk_of old) (desk_of new))
    (kind : LineKind) (line : Line) (X : ℕ) (of_line : line ≡ old.about.line) (of_cycle : X ≡ old.about.cycle)
    (h : HasPublished asked kind line X (desk_of old) (desk_of new)) where
  pub same_items : (is : List Item) → Did (desk_of old) (desk_of new) is → h.items ≡ is
  same_items is d =
      append_cancel_left old.events h.items is (sym (did_more old new h.items k h.did) ∙ did_more old new is k d)

  pub best_same : new.state.best.stations ≡ old.state.best.stations
  best_same =
      let e : replay new.opening new.events ≡ replay (replay old.opening old.events) h.items =
      ap (λ (z : Standing). replay z new.events) k.opening
      ∙ (ap (λ (z : List Item). replay old.opening z) (did_more old new h.items k h.did)
      ∙ replay-append old.opening old.events h.items) in
      sym (fewest_seen new okn)
      ∙ (ap (λ (z : Standing). z.stations) e
      ∙ (publishes_keep (replay old.opening old.events) h.items h.publishes ∙ fewest_seen old ok))

  pub goes_on : (is : List Item) → Did (desk_of old) (desk_of new) is → GoesOn old new (added_of is)
  goes_on is d =
      let P : List Item → Type 0 = λ z. AreAtCycle X (added_of z) in
      let Q : ℕ → Type 0 = λ z. AreAtCycle z (added_of is) in
      record {
        about = k.about;
        opening = k.opening;
        entries = sym (entries_seen new okn)
            ∙ (entries_added (desk_of old) (desk_of new) is k (did_more old new is k d)
            ∙ ap (λ (es : List Entry). es ++ added_of is) (entries_seen old ok));
        cycles = subst Q of_cycle (subst P (same_items is d) (lemmas_at asked kind line X (added_of h.items) h.lemmas));
        best = omega (arith, best_same);
      }

  pub entry_units : (es : List Entry) (n : ℕ) → UnitsOf line es n → UnitsOf old.about.line es n
  entry_units es n u = let P : Line → Type 0 = λ z. UnitsOf z es n in subst P of_line u

  pub frame_units : (frames : List OpenFrame) (n : ℕ) → UnitsIn line X frames n
      → UnitsIn old.about.line old.about.cycle frames n
  frame_units frames n u =
      let P : Line → Type 0 = λ z. UnitsIn z X frames n in
      let Q : ℕ → Type 0 = λ z. UnitsIn old.about.line z frames n in
      subst Q of_cycle (subst P of_line u)
