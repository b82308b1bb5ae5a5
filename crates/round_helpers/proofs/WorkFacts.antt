-- What is done on a desk, step by step, and what stays true of a desk that sees more.
use Rattle.std.proofs.Common.{◌≡◌, ℕ, ◌+◌, ◌-◌, ◌≤◌, Bool, List, [], ◌∷◌, ◌++◌, length, length-append, refl, sym, ap}
use Rattle.std.proofs.Common.{◌∙◌, subst, inl, inr, arith, Option}
use Rattle.std.proofs.lemmas.List.{append_cancel_left}
use Rattle.line_instance.specs.Line.{Line}
use Rattle.line_rules.specs.Accepted.{HasBalance}
use Rattle.line_rules.specs.Entries.{HasAnswer}
use Rattle.line_rules.specs.Units.{UnitsOf}
use Rattle.line_rules.specs.declared.types.LineKind.{LineKind}
use Rattle.line_rules.specs.declared.types.Mode.{Mode}
use Rattle.line_rules.specs.declared.types.Entry.{Entry}
use Rattle.line_rules.specs.declared.types.OpenFrame.{OpenFrame}
use Rattle.lemma_core.specs.History.{Item, Standing, replay}
use Rattle.lemma_core.specs.Machine.{About}
use Rattle.lemma_core.specs.Desks.{DeskView, entries, Keeps, Waits, Tells}
use Rattle.lemma_core.specs.Own.{AreAt, Did, added_of}
use Rattle.lemma_core.proofs.HistoryGrows.{stations_go_on}
use Rattle.lemma_core.proofs.OwnFacts.{did_none, did_both, did_waits, entries_more}
use Rattle.station_search.specs.Costs.{HasPublished, AddsFew}
use Rattle.station_search.specs.Decide.{IsFor}
use Rattle.station_search.specs.Beside.{FewBeside, most_added}
use Rattle.station_search.specs.declared.beside.DecidedBeside.{DecidedBeside}
use Rattle.station_search.proofs.Events.{added_both}
use Rattle.round_helpers.specs.Growth.{AreAtCycle}
use Rattle.round_helpers.specs.inner.Works.{Works, HasFew, IsEnd, fewest_seen}
use Rattle.round_helpers.specs.declared.question_work.Question.{Question}
use Rattle.round_helpers.specs.declared.question_work.End.{End}
use Rattle.round_helpers.specs.declared.question_work.End.TheVariants as ends
use Rattle.line_rules.specs.Balance.{all_tasks}
use Rattle.round_helpers.proofs.AddedEntries.{cycles_both, lemmas_at}
use Rattle.round_helpers.proofs.JobEnds.{decided_few}
use Rattle.line_rules.proofs.LongerLists.{has_longer}
use Rattle.line_rules.proofs.ListUnits.{units_both}

-- the items at places are one list, and so are the own events since a call began
at_once : (h : List Item) (ps : List ℕ) (is js : List Item) → AreAt h ps is → AreAt h ps js → is ≡ js
at_once h [] [] [] a b = refl
at_once h [] [] (j ∷ js) a b = absurd b
at_once h [] (i ∷ is) js a b = absurd a
at_once h (p ∷ ps) [] js a b = absurd a
at_once h (p ∷ ps) (i ∷ is) [] a b = absurd b
at_once h (p ∷ ps) (i ∷ is) (j ∷ js) a b =
    let same : i ≡ j = cc (a.0, b.0) in
    let rest : is ≡ js = at_once h ps is js a.1 b.1 in
    λ x. same x ∷ rest x

did_once : (old new : DeskView) (is js : List Item) → Did old new is → Did old new js → is ≡ js
did_once old new is js x y =
    let places : x.places ≡ y.places = append_cancel_left old.own x.places y.places (sym x.own ∙ y.own) in
    let P : List ℕ → Type 0 = λ z. AreAt new.seen z is in
    at_once new.seen y.places is js (subst P places x.there) y.there

-- nothing was done
works_nothing : (line : Line) (X : ℕ) (old new : DeskView) (is : List Item) → added_of is ≡ [] → Did old new is
    → Works line X old new 0 0
works_nothing line X old new is none d =
    let P : List Entry → Type 0 = λ z. AreAtCycle X z in
    let Q : List Entry → Type 0 = λ z. UnitsOf line z 0 in
    record {
      items = is;
      did = d;
      cycles = subst P (sym none) (λ k e g. absurd (cc));
      few = omega (arith, ap (λ (z : List Entry). length z) none);
      published = 0;
      units = subst Q (sym none) refl;
      within = omega arith;
    }

pub works_none : (line : Line) (X : ℕ) (d : DeskView) → Works line X d d 0 0
works_none line X d = works_nothing line X d d [] refl (did_none d)

pub works_waits : (line : Line) (X : ℕ) (old new : DeskView) → Waits old new → Works line X old new 0 0
works_waits line X old new w = works_nothing line X old new [] refl (did_waits old old new [] (did_none old) w)

pub works_item : (line : Line) (X : ℕ) (old new : DeskView) (i : Item) → added_of (i ∷ []) ≡ [] → Did old new (i ∷ [])
    → Works line X old new 0 0
works_item line X old new i none d = works_nothing line X old new (i ∷ []) none d

-- something was done, and then more
pub works_both : (line : Line) (X : ℕ) (a b c : DeskView) (u v m n : ℕ) → Keeps a b → Keeps b c → Works line X a b u m
    → Works line X b c v n
    → Works line X a c (u + v) (m + n)
works_both line X a b c u v m n k l x y =
    let e : added_of (x.items ++ y.items) ≡ added_of x.items ++ added_of y.items = added_both x.items y.items in
    let P : List Entry → Type 0 = λ z. AreAtCycle X z in
    let Q : List Entry → Type 0 = λ z. UnitsOf line z (x.published + y.published) in
    record {
      items = x.items ++ y.items;
      did = did_both a b c x.items y.items k l x.did y.did;
      cycles = subst P (sym e) (cycles_both X (added_of x.items) (added_of y.items) x.cycles y.cycles);
      few = omega (
        arith,
        ap (λ (z : List Entry). length z) e,
        length-append (added_of x.items) (added_of y.items),
        x.few,
        y.few,
      );
      published = x.published + y.published;
      units = subst Q (sym e)
          (units_both line (added_of x.items) (added_of y.items) x.published y.published x.units y.units);
      within = omega (arith, x.within, y.within);
    }

-- the numbers may be written otherwise
pub works_as : (line : Line) (X : ℕ) (a b : DeskView) (u v m n : ℕ) → u ≤ v → m ≤ n → Works line X a b u m
    → Works line X a b v n
works_as line X a b u v m n l k w = record {
  items = w.items;
  did = w.did;
  cycles = w.cycles;
  few = omega (arith, w.few, k);
  published = w.published;
  units = w.units;
  within = omega (arith, w.within, l);
}

-- the numbers of units before, between and after
pub works_more : (line : Line) (X : ℕ) (a b c : DeskView) (u v w : ℕ) → u ≤ v → v ≤ w → Keeps a b → Keeps b c
    → Works line X a b (v - u) (v - u) → Works line X b c (w - v) (w - v) → Works line X a c (w - u) (w - u)
works_more line X a b c u v w l m k n x y =
    works_as line X a c ((v - u) + (w - v)) (w - u) ((v - u) + (w - v)) (w - u) (omega (arith, l, m))
    (omega (arith, l, m))
    (works_both line X a b c (v - u) (w - v) (v - u) (w - v) k n x y)

-- and then nothing
pub works_on : (line : Line) (X : ℕ) (a b c : DeskView) (n m : ℕ) → Keeps a b → Waits b c → Works line X a b n m
    → Works line X a c n m
works_on line X a b c n m k w x =
    works_as line X a c (n + 0) n (m + 0) m (omega arith) (omega arith)
    (works_both line X a b c n 0 m 0 k w.keeps x (works_waits line X b c w))

-- a question was asked once more, with the numbers of units before, between and after
pub works_asked : (line : Line) (X : ℕ) (a b c : DeskView) (u v w : ℕ) (r : DecidedBeside) → u ≤ v → v ≤ w
    → Keeps a b → Keeps b c → Works line X a b (v - u) (v - u) → Works line X b c (w - v) (most_added (w - v) r)
    → Works line X a c (w - u) (w - u + 1)
works_asked line X a b c u v w r l m k n x y =
    works_as line X a c ((v - u) + (w - v)) (w - u) ((v - u) + most_added (w - v) r) (w - u + 1) (omega (arith, l, m))
    (omega (arith, l, m, decided_few r (w - v)))
    (works_both line X a b c (v - u) (w - v) (v - u) (most_added (w - v) r) k n x y)

-- a balance was offered after it
pub works_offered : (line : Line) (X : ℕ) (a b c : DeskView) (n : ℕ) → Keeps a b → Keeps b c → Works line X a b n n
    → Works line X b c 0 0 → Works line X a c n n
works_offered line X a b c n k l w o =
    works_as line X a c (n + 0) n (n + 0) n (omega arith) (omega arith) (works_both line X a b c n 0 n 0 k l w o)

-- a unit more was paid
pub works_paid : (line : Line) (X : ℕ) (a b : DeskView) (u v : ℕ) → u + 1 ≤ v → Works line X a b u (u + 1)
    → Works line X a b v v
works_paid line X a b u v l w = works_as line X a b u v (u + 1) v (omega (arith, l)) l w

-- what a search does
module _ {asked : Option Mode} (kind : LineKind) (line : Line) (X : ℕ) (old new : DeskView) (used : ℕ)
    (h : HasPublished asked kind line X old new) where
  pub works_few : (frames : List OpenFrame) (most : ℕ) → AddsFew line X old new frames used most
      → Works line X old new used most
  works_few frames most f =
      let P : List Item → Type 0 = λ z. AreAtCycle X (added_of z) in
      record {
        items = f.items;
        did = f.did;
        cycles = subst P (did_once old new h.items f.items h.did f.did)
            (lemmas_at asked kind line X (added_of h.items) h.lemmas);
        few = f.few;
        published = f.published;
        units = f.entry_units;
        within = omega (arith, f.sum);
      }

  -- whatever the answer
  pub works_decided : (r : DecidedBeside) → FewBeside line X old new used r
      → Works line X old new used (most_added used r)
  works_decided r f = works_few [] (most_added used r) f

-- what was answered stays answered
pub answered_on : (old new : DeskView) (R : List Bool) (most X : ℕ) → Keeps old new → HasAnswer (entries old) R most X
    → HasAnswer (entries new) R most X
answered_on old new R most X k a =
    let m : (more : List Entry) × (entries new ≡ entries old ++ more) = entries_more old new k in
    let P : List Entry → Type 0 = λ z. HasAnswer z R most X in
    subst P (sym m.1) (has_longer (entries old) m.0 R most X a)

-- the fewest stations seen don't rise
pub fewest_on : (old new : DeskView) → Keeps old new → fewest_seen new ≤ fewest_seen old
fewest_on old new k =
    let e : fewest_seen new ≡ (replay old.opening new.seen).stations =
    ap (λ (z : Standing). (replay z new.seen).stations) k.opening in
    omega (arith, e, stations_go_on old.opening old.seen new.seen k.seen)

-- how work ends stays true of a desk that sees more
pub end_on : (old new : DeskView) (line : Line) (question : Question) (left : ℕ) (r : End) → Keeps old new
    → IsEnd old line question left r → IsEnd new line question left r
end_on old new line question left ends.Answered k (inl a) =
    inl (answered_on old new (all_tasks line) question.most question.cycle k a)
end_on old new line question left ends.Answered k (inr f) = inr (omega (arith, f, fewest_on old new k))
end_on old new line question left ends.Told k e = e
end_on old new line question left ends.Spent k e = e
end_on old new line question left ends.NoMemory k e = e

-- what a desk for a question tells of the fewest stations of a balance
pub told_few : (old mid new : DeskView) (line : Line) (question : Question) (n : ℕ)
    → IsFor old line question.kind question.cycle → Keeps old mid → Tells mid new n → n ≤ question.most
    → HasFew line question
told_few old mid new line question n f k t l =
    let A : About → Type 0 = λ z. HasBalance z.kind z.line z.cycle n in
    let L : Line → Type 0 = λ z. HasBalance old.about.kind z old.about.cycle n in
    let K : LineKind → Type 0 = λ z. HasBalance z line old.about.cycle n in
    let C : ℕ → Type 0 = λ z. HasBalance question.kind line z n in
    (n, subst C f.same_cycle (subst K f.same_kind (subst L f.same_line (subst A k.about t.balance))), l)
