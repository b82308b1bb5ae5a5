-- A seek on its way: how it begins, and what each try leaves of it.
use Rattle.std.proofs.Common.{◌≡◌, ℕ, ◌+◌, ◌-◌, ◌*◌, ◌<◌, ◌≤◌, Bool, List, [], refl, sym, ap, ◌∙◌, subst, arith}
use Rattle.std.proofs.Common.{Option, Some, None, inl, inr, Result, Ok, Err}
use Rattle.std.specs.Prelude.{IfSome, IfOk, slice_get}
use Rattle.line_instance.specs.Line.{Line}
use Rattle.line_rules.specs.Balance.{IsRight, all_tasks}
use Rattle.line_rules.specs.Entries.{HasAnswer, IsDerived}
use Rattle.line_rules.specs.Ranges.{IsCycle}
use Rattle.line_rules.specs.declared.types.LineKind.{LineKind}
use Rattle.line_rules.specs.declared.types.Balance.{Balance as Assignment}
use Rattle.line_rules.specs.declared.types.Entry.{Entry}
use Rattle.lemma_core.specs.Machine.{About}
use Rattle.lemma_core.specs.Books.{BookView}
use Rattle.station_search.specs.Decide.{IsPairing}
use Rattle.station_search.specs.pairs.Sharing.{Sharing, IsTableOf}
use Rattle.line_seek.specs.inner.Tries.{Suits, counted, lag}
use Rattle.line_seek.specs.inner.Trying.{Gains, IsPaid, IsTold, may_add}
use Rattle.line_seek.specs.inner.Aims.{asked_for}
use Rattle.line_seek.specs.Seeking.{IfDone, IsSeeking, AreSought, IsOver, HasSoughtFor}
use Rattle.line_seek.specs.declared.aims.Aim.{Aim}
use Rattle.line_seek.specs.declared.tries.Try.{Try}
use Rattle.line_seek.specs.declared.tries.Try.TheVariants as tries
use Rattle.line_seek.specs.declared.trying.Told.{Told}
use Rattle.line_seek.specs.declared.trying.Told.TheVariants as told
use Rattle.line_seek.specs.declared.seeking.Seeker.{Seeker}
use Rattle.line_seek.specs.declared.seeking.Sought.{Sought}
use Rattle.line_seek.specs.declared.seeking.Sought.TheVariants as sought
use Rattle.line_seek.proofs.PaidFacts.{paid_as, paid_more}

pub about_same : (a : About) (line : Line) (kind : LineKind) (c : ℕ) → line ≡ a.line → kind ≡ a.kind → c ≡ a.cycle
    → record { line = line; kind = kind; cycle = c } ≡ a
about_same a line kind c l k e = λ i. record { line = l i; kind = k i; cycle = e i }

pub seeking_begins : (a : About) (b : Assignment) (s : Seeker) → IsCycle a.cycle → IsRight a.kind a.line a.cycle b
    → s.scratch.about ≡ a → s.best ≡ b → IsPaid s.scratch 0 0 → Suits a.kind s.turn → IsSeeking 0 s
seeking_begins a b s cycle right same best paid turn =
    let C : About → Type 0 = λ z. IsCycle z.cycle in
    let R : About → Type 0 = λ z. IsRight z.kind z.line z.cycle s.best in
    let B : Assignment → Type 0 = λ z. IsRight a.kind a.line a.cycle z in
    let M : About → Type 0 = λ z. Suits z.kind s.turn in
    record {
      cycle = subst C (sym same) cycle;
      right = subst R (sym same) (subst B (sym best) right);
      paid = paid_as s.scratch 0 0 s.used (s.used + 0) (omega arith) (omega arith) paid;
      turn = subst M (sym same) turn;
    }

-- after a search, which counts as many loads as it listed, or more
pub seeking_on : (s t : Seeker) (listed free : ℕ) → IsSeeking 0 s → Gains s.scratch t.scratch listed (listed + free)
    → t.best ≡ s.best → t.turn ≡ s.turn → s.used + listed ≤ t.used → IsSeeking free t
seeking_on s t listed free k g best turn used =
    let a : t.scratch.about ≡ s.scratch.about = g.goes_on.about in
    let C : About → Type 0 = λ z. IsCycle z.cycle in
    let R : About → Type 0 = λ z. IsRight z.kind z.line z.cycle t.best in
    let B : Assignment → Type 0 = λ z. IsRight s.scratch.about.kind s.scratch.about.line s.scratch.about.cycle z in
    let M : About → Type 0 = λ z. Suits z.kind t.turn in
    record {
      cycle = subst C (sym a) k.cycle;
      right = subst R (sym a) (subst B (sym best) k.right);
      paid = paid_as t.scratch (s.used + listed) (s.used + 0 + (listed + free)) t.used (t.used + free)
          (omega (arith, used)) (omega (arith, used))
          (paid_more s.scratch t.scratch s.used (s.used + 0) listed (listed + free) k.paid g);
      turn = subst M (sym a) (subst (λ m. Suits s.scratch.about.kind m) (sym turn) k.turn);
    }

-- with a better balance
pub seeking_better : (s t : Seeker) → IsSeeking 0 s → t.scratch ≡ s.scratch → t.turn ≡ s.turn → t.used ≡ s.used
    → IsRight s.scratch.about.kind s.scratch.about.line s.scratch.about.cycle t.best → IsSeeking 0 t
seeking_better s t k same turn used right =
    let C : BookView → Type 0 = λ z. IsCycle z.about.cycle in
    let R : BookView → Type 0 = λ z. IsRight z.about.kind z.about.line z.about.cycle t.best in
    let P : BookView → Type 0 = λ z. IsPaid z t.used (t.used + 0) in
    let M : BookView → Type 0 = λ z. Suits z.about.kind t.turn in
    record {
      cycle = subst C (sym same) k.cycle;
      right = subst R (sym same) right;
      paid = subst P (sym same) (paid_as s.scratch s.used (s.used + 0) t.used (t.used + 0)
          (omega (arith, used)) (omega (arith, used)) k.paid);
      turn = subst M (sym same)
          (subst (λ m. Suits s.scratch.about.kind m) (sym turn) k.turn);
    }

-- between two tries of a seek over a book
pub record IsUnderWay (book : BookView) (limit : ℕ) (s : Seeker) : Type 0 where
  pub about : s.scratch.about ≡ book.about
  pub few : s.best.stations ≤ book.state.best.stations
  pub within : s.used ≤ limit
  pub seeking : IsSeeking 0 s

-- what falls with each try: a try that counts as nothing finds a better balance, or none that may do so follows
abbrev pub left_to_try : ℕ → Seeker → ℕ
left_to_try limit s = 2 * (limit - s.used) + (s.best.stations + lag s.turn)

-- a try counts as one load, or it is a drift
pub counts : (t : Try) (listed : ℕ) → 1 ≤ counted t listed + lag t
counts tries.Drift listed = omega arith
counts (tries.Beam mode) listed = omega arith
counts (tries.Search mode) listed = omega arith

module _ (book : BookView) (limit left listed : ℕ) (old mid new : Seeker) (at : IsUnderWay book limit old)
    (about : mid.scratch.about ≡ old.scratch.about) (turn : mid.turn ≡ old.turn)
    (count : mid.used ≡ old.used + counted old.turn listed) (paid : mid.used ≤ old.used + left)
    (room : old.used + left ≤ limit) where
  -- a try found a better balance
  module _ (t : Told) (b : Assignment) (most : ℕ) (is : t ≡ told.Found b) (fewer : most < old.best.stations)
      (h : IsTold mid.scratch most t) (e : new ≡ record {
        best = b;
        scratch = mid.scratch;
        used = mid.used;
        size = mid.size;
        turn = mid.turn;
        random = mid.random;
      }) where
    said : IsTold mid.scratch most (told.Found b)
    said = (let T : Told → Type 0 = λ z. IsTold mid.scratch most z in subst T is h)

    pub under_better : IsSeeking (may_add t) mid → IsUnderWay book limit new
    under_better k =
        let K : Told → Type 0 = λ z. IsSeeking (may_add z) mid in
        let N : Seeker → Type 0 = λ z. IsUnderWay book limit z in
        subst N (sym e) (record {
          about = about ∙ at.about;
          few = omega (arith, said.1, fewer, at.few);
          within = omega (arith, paid, room);
          seeking = seeking_better mid _ (subst K is k) refl refl refl said.0;
        })

    pub less_better : left_to_try limit new < left_to_try limit old
    less_better =
        let N : Seeker → Type 0 = λ z. left_to_try limit z < left_to_try limit old in
        subst N (sym e) (omega (arith, said.1, fewer, count, ap lag turn))

  -- a try found nothing out
  module _ (best : mid.best ≡ old.best) (kept : new.best ≡ mid.best) (used : new.used ≡ mid.used) where
    pub under_open : IsSeeking 0 new → new.scratch.about ≡ mid.scratch.about → IsUnderWay book limit new
    under_open k same = record {
      about = same ∙ (about ∙ at.about);
      few = omega (arith, ap (λ (z : Assignment). z.stations) (kept ∙ best), at.few);
      within = omega (arith, used, paid, room);
      seeking = k;
    }

    pub less_open : lag new.turn + lag mid.turn ≤ 1 → old.used < limit → left_to_try limit new < left_to_try limit old
    less_open after more = omega (
      arith,
      ap (λ (z : Assignment). z.stations) (kept ∙ best),
      used,
      count,
      paid,
      room,
      counts old.turn listed,
      ap lag turn,
      after,
      more,
    )

-- a table of the line, its kind and a cycle is one of the line
pub tables : (line : Line) (kind : LineKind) (c : ℕ) (o : Option Sharing) → IfSome o (IsPairing line kind c)
    → IfSome o (IsTableOf line)
tables line kind c None h = h
tables line kind c (Some table) h = h.table_of

-- no entry of an empty list answers a question
no_answer : (es : List Entry) (set : List Bool) (most cycle : ℕ) → es ≡ [] → HasAnswer es set most cycle → ⊥
no_answer es set most cycle none a =
    let H : List Entry → Type 0 = λ z. HasAnswer z set most cycle in
    let h = subst H none a in
    absurd (let g : slice_get [] h.0 ≡ Some h.1 = h.2.0 in cc)

-- no lemmas are those of any seek
nothing_sought : (line : Line) (c used : ℕ) → AreSought line c used []
nothing_sought line c used = record {
  ranges = λ l. record { many = omega arith; each = λ k e g. absurd (cc) };
  cycles = λ k e g. absurd (cc);
  units = 0;
  counted = refl;
  paid = omega arith;
  few = omega arith;
}

-- the end of a seek whose search refuted what a try for its best balance asks for
pub refuted_sought : {E : Type 0} (aim : Aim) (book : BookView) (line : Line) (limit most free : ℕ) (s : Seeker)
    (r : Result Sought E) → book.about.line ≡ line → s.scratch.about ≡ book.about
    → s.best.stations ≤ book.state.best.stations → s.used ≤ limit → IsSeeking free s
    → most ≡ asked_for aim s.best.stations
    → IfOk r (λ x. IfDone x (λ best lemmas used. (best ≡ s.best) × (used ≡ s.used)))
    → IfOk r (λ x. IfDone x (λ best lemmas used. AreSought line s.scratch.about.cycle used lemmas))
    → IfOk r (λ x. IfDone x (λ best lemmas used. IsDerived s.scratch.about.kind s.scratch.about.line lemmas))
    → IfOk r (λ x. IfDone x (λ best lemmas used. HasAnswer lemmas (all_tasks line) most s.scratch.about.cycle))
    → IfOk r (λ x. IfDone x (HasSoughtFor aim book limit))
refuted_sought aim book line limit most free s (Err e) l a f w k m same lem der ans = tt
refuted_sought aim book line limit most free s (Ok sought.NoMemory) l a f w k m same lem der ans = tt
refuted_sought aim book line limit most free s (Ok (sought.Done best lemmas used)) l a f w k m same lem der ans =
    let R : About → Type 0 = λ z. IsRight z.kind z.line z.cycle best in
    let B : Assignment → Type 0 = λ b. IsRight s.scratch.about.kind s.scratch.about.line s.scratch.about.cycle b in
    let F : Assignment → Type 0 = λ b. b.stations ≤ book.state.best.stations in
    let U : ℕ → Type 0 = λ u. u ≤ limit in
    let c = ap (λ (z : About). z.cycle) a in
    let S : ℕ → Type 0 = λ x. AreSought line x used lemmas in
    let L : Line → Type 0 = λ z. AreSought z book.about.cycle used lemmas in
    let H : ℕ → Type 0 = λ x. HasAnswer lemmas (all_tasks line) most x in
    let N : ℕ → Type 0 = λ x. HasAnswer lemmas (all_tasks line) x book.about.cycle in
    let M : Line → Type 0 = λ z. HasAnswer lemmas (all_tasks z) (asked_for aim best.stations) book.about.cycle in
    record {
      within = subst U (sym same.1) w;
      right = subst R a (subst B (sym same.0) k.right);
      few = subst F (sym same.0) f;
      sought = subst L (sym l) (subst S c lem);
      derived = (let D : About → Type 0 = λ z. IsDerived z.kind z.line lemmas in subst D a der);
      shown = inr (subst M (sym l) (subst N (m ∙ ap (λ (b : Assignment). asked_for aim b.stations) (sym same.0))
          (subst H c ans)));
      over = λ none. absurd (no_answer lemmas (all_tasks line) most s.scratch.about.cycle none ans);
    }

-- the end of a seek without lemmas
pub ended_sought : (aim : Aim) (book : BookView) (limit : ℕ) (s : Seeker) (r : Sought)
    → IfDone r (λ best lemmas used. (best ≡ s.best) × (used ≡ s.used) × (lemmas ≡ []))
    → s.scratch.about ≡ book.about → s.best.stations ≤ book.state.best.stations → s.used ≤ limit → IsSeeking 0 s
    → IsOver book limit (asked_for aim s.best.stations) s.best s.used
    → IfDone r (HasSoughtFor aim book limit)
ended_sought aim book limit s sought.NoMemory same a f w k over = tt
ended_sought aim book limit s (sought.Done best lemmas used) same a f w k over =
    let none : lemmas ≡ [] = same.2 in
    let R : About → Type 0 = λ z. IsRight z.kind z.line z.cycle best in
    let B : Assignment → Type 0 = λ b. IsRight s.scratch.about.kind s.scratch.about.line s.scratch.about.cycle b in
    let F : Assignment → Type 0 = λ b. b.stations ≤ book.state.best.stations in
    let S : List Entry → Type 0 = λ z. AreSought book.about.line book.about.cycle used z in
    let O : Assignment → ℕ → Type 0 = λ b u. IsOver book limit (asked_for aim b.stations) b u in
    record {
      within = omega (arith, same.1, w);
      right = subst R a (subst B (sym same.0) k.right);
      few = subst F (sym same.0) f;
      sought = subst S (sym none) (nothing_sought book.about.line book.about.cycle used);
      derived = (
          let D : List Entry → Type 0 = λ z. IsDerived book.about.kind book.about.line z in
          subst D (sym none) (λ n e g. absurd (cc)));
      shown = inl none;
      over = λ _. subst (λ b. O b used) (sym same.0) (subst (λ u. O s.best u) (sym same.1) over);
    }
