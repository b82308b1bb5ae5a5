-- A run that began with some entries, and what it comes to.
use Rattle.std.specs.declared.result.Result.{Result}
use Rattle.std.specs.declared.result.Result.TheVariants.{Ok, Err}
use Rattle.std.proofs.Common.{IfOk, rules, string_bytes, Bool, true, false, cond, ◌∷◌, ◌≡◌, ◌∙◌, ℕ, zero, suc, max, ◌+◌}
use Rattle.std.proofs.Common.{◌-◌, ◌*◌, ◌≤◌, List, [], ◌++◌, length, length-append, Option, Some, None, refl, sym, ap}
use Rattle.std.proofs.Common.{subst, arith, nat_lt}
use Rattle.std.proofs.lemmas.Bool.{ltb-true, ltb-false}
use Rattle.std.proofs.lemmas.List.{append-nil}
use Rattle.std.specs.Prelude.{slice_get}
use Rattle.line_instance.specs.Line.{Line, tasks}
use Rattle.line_rules.specs.Balance.{IsRight}
use Rattle.line_rules.specs.Entries.{IsDerived}
use Rattle.line_rules.specs.Ranges.{IsClaim, AreEntries}
use Rattle.line_rules.specs.Units.{UnitsOf}
use Rattle.line_rules.specs.declared.types.LineKind.{LineKind}
use Rattle.line_rules.specs.declared.types.Balance.{Balance as Assignment}
use Rattle.line_rules.specs.declared.types.Ask.{Ask}
use Rattle.line_rules.specs.declared.types.Claim.{Claim}
use Rattle.line_rules.specs.declared.types.Claim.TheVariants as claim
use Rattle.line_rules.specs.declared.types.Entry.{Entry}
use Rattle.lemma_core.specs.Machine.{About, State, is_better}
use Rattle.lemma_core.specs.Books.{BookView, IsReserved, ran}
use Rattle.lemma_core.specs.declared.types.Event.TheVariants as event
use Rattle.line_seek.specs.Seeking.{HasSought, RefuteIn, IsOver}
use Rattle.warm_book.specs.Warm.{Taking, TakesAll, untaken}
use Rattle.warm_book.proofs.TakingFacts.{Adds, all_add}
use Rattle.round_run.specs.Solving.{SolvesFrom}
use Rattle.round_run.specs.declared.plans.Plan.{Plan}
use Rattle.round_run.specs.declared.solving.Outcome.{Outcome}
use Rattle.command_solve.specs.WarmStart.{Start, TakesOld, TakesSought, Seeks, BeginsWith, entries_of}
use Rattle.command_outcome.specs.Bounds.{seek_line}
use Rattle.command_solve.specs.Effort.{SearchesFirst, first_room}
use Rattle.command_solve.specs.WarmStart.{old_room, seek_room}
use Rattle.command_solve.specs.declared.effort.Effort.{Effort}
use Rattle.command_solve.specs.inner.Begun.{IsBegun, IsReady, HasSoughtBehind}
use Rattle.command_solve.specs.declared.warm_start.Begun.{Begun}
use Rattle.command_solve.specs.declared.warm_start.Taken.{Taken}
use Rattle.line_rules.proofs.ListUnits.{units_both}

-- the entries of a claim that is within its ranges
pub entries_range : (kind : LineKind) (n : ℕ) (a : Ask) (said : Claim) → IsClaim kind n a said
    → AreEntries n (entries_of said)
entries_range kind n a (claim.TooLong task) h = record { many = omega arith; each = λ k e g. absurd (cc) }
entries_range kind n a (claim.Bounds lower upper b es trail) h = h.entries

-- what old entries add to a book, where there are any
pub olds_add : (N : ℕ) (book : BookView) (olds : Option (List Entry)) (at : Taking) (said : List ℕ)
    → TakesOld N book olds at said → Adds (old_room N) (untaken book) at
olds_add N book None at said t = all_add (old_room N) (untaken book) [] at (sym t.0)
olds_add N book (Some old) at said t = all_add (old_room N) (untaken book) old at t.0

-- the kept old entries, and their units, are within the room
pub taken_within : (kind : LineKind) (line : Line) (c : ℕ) (plan : Plan) (units : ℕ) (olds : Option (List Entry))
    (taken : Taken) (said : List ℕ) → IsReady kind line c plan units olds taken said
    → (taken.kept ≤ old_room plan.units) × (taken.units ≤ old_room plan.units)
taken_within kind line c plan units olds taken said r =
    let a : Adds (old_room plan.units) (untaken r.book) r.at = olds_add plan.units r.book olds r.at said r.took in (
      omega (arith, a.within (omega arith), r.same_kept),
      omega (arith, a.spent (omega arith), r.same_units),
    )

-- a first search adds at most 101,025 entries
first_room_most : (units : ℕ) → units ≤ 50000 → first_room units ≤ 101025
first_room_most zero h = omega arith
first_room_most (suc less) h = omega (arith, h)

-- What is added to a book: entries behind its own, no more than so many, and with no more units.
record AddsBehind (most : ℕ) (old new : BookView) : Type 0 where
  about : new.about ≡ old.about
  added : List Entry
  entries : new.state.entries ≡ old.state.entries ++ added
  few : length added ≤ most
  units : ℕ
  counted : UnitsOf old.about.line added units
  paid : units ≤ most

adds_nothing : (most : ℕ) (old new : BookView) → new ≡ old → AddsBehind most old new
adds_nothing most old new same =
    let P : BookView → Type 0 = λ z. AddsBehind most old z in
    subst P (sym same) (record {
      about = refl;
      added = [];
      entries = sym (append-nil old.state.entries);
      few = omega arith;
      units = 0;
      counted = refl;
      paid = omega arith;
    })

-- what a first search adds
first_adds : (kind : LineKind) (line : Line) (c units : ℕ) (plan : Plan) (book mid : BookView)
    → book.about ≡ record { line = line; kind = kind; cycle = c } → SearchesFirst kind line c units plan book mid
    → AddsBehind (first_room units) book mid
first_adds kind line c zero plan book mid about same = adds_nothing 0 book mid same
first_adds kind line c (suc less) plan book mid about s =
    let run = s.spent.stopped.run in
    let U : Line → Type 0 = λ z. UnitsOf z s.spent.added run.published in
    record {
      about = run.about ∙ sym about;
      added = s.spent.added;
      entries = run.entries;
      few = run.few;
      units = run.published;
      counted = subst U (sym (ap (λ (z : About). z.line) about)) run.entry_units;
      paid = omega (arith, run.within);
    }

-- the best balance of a first search has no more stations than the one before
first_best : (kind : LineKind) (line : Line) (c units : ℕ) (plan : Plan) (book mid : BookView)
    → SearchesFirst kind line c units plan book mid → mid.state.best.stations ≤ book.state.best.stations
first_best kind line c zero plan book mid same = omega (arith, ap (λ (z : BookView). z.state.best.stations) same)
first_best kind line c (suc less) plan book mid s = s.spent.best

-- what the lemmas of a seek add
seek_adds : (room limit : ℕ) (book : BookView) (end : Taking) (said : List ℕ) (top : ℕ)
    → Seeks room limit book end said top → AddsBehind room book end.book
seek_adds room zero book end said top s = adds_nothing room book end.book (ap (λ (z : Taking). z.book) s.0)
seek_adds room (suc loads) book end said top s =
    let a : Adds room (untaken book) end = all_add room (untaken book) s.lemmas end s.taken in
    record {
      about = a.about;
      added = a.added;
      entries = a.entries;
      few = omega (arith, a.few, a.within (omega arith));
      units = a.units;
      counted = a.counted;
      paid = omega (arith, a.paid, a.spent (omega arith));
    }

-- without a seek the book stays
pub none_sought : (room limit : ℕ) (book : BookView) (top : ℕ) → limit ≡ 0
    → Seeks room limit book (untaken book) [] top
none_sought room zero book top e = (refl, refl)
none_sought room (suc loads) book top e = absurd (omega (arith, e))

pub some_sought : (room limit : ℕ) (book : BookView) (end : Taking) (said : List ℕ) (top : ℕ) → (limit ≡ 0 → ⊥)
    → TakesSought room limit book end said top → Seeks room limit book end said top
some_sought room zero book end said top n s = absurd (n refl)
some_sought room (suc loads) book end said top n s = s

-- what a run comes to that began with a book about the line
pub solves_so : {kind : LineKind} {line : Line} {c : ℕ} {plan : Plan} {start : Start} {book : BookView} {first : List ℕ}
    → IsBegun kind line c plan start book first → (o : Outcome)
    → SolvesFrom book.about.kind line book.about.cycle plan book.state.entries book.state.best.stations o
    → SolvesFrom kind line c plan book.state.entries book.state.best.stations o
solves_so {line = line} {plan = plan} {book = book} b o s =
    let S : About → Type 0 =
    λ z. SolvesFrom z.kind line z.cycle plan book.state.entries book.state.best.stations o in
    subst S b.about s

module _ (kind : LineKind) (line : Line) (c : ℕ) (plan : Plan) (effort : Effort) (olds : Option (List Entry))
    (taken : Taken) (warm_said : List ℕ) (ready : IsReady kind line c plan effort.first olds taken warm_said)
    (small : effort.first ≤ 50000) (limit : plan.units ≤ 3000000) where
  -- the room that a seek has
  abbrev room : ℕ
  room = seek_room plan.units effort.first ready.at

  -- what the old entries add
  old_adds : Adds (old_room plan.units) (untaken ready.book) ready.at
  old_adds = olds_add plan.units ready.book olds ready.at warm_said ready.took

  at_about : ready.at.book.about ≡ record { line = line; kind = kind; cycle = c }
  at_about = old_adds.about ∙ ready.opened.about

  -- what the first search adds
  searched : AddsBehind (first_room effort.first) ready.at.book taken.book
  searched = first_adds kind line c effort.first plan ready.at.book taken.book at_about ready.searches

  empty : ready.book.state.entries ≡ []
  empty = ap (λ (z : State). z.entries) ready.opened.state

  at_entries : ready.at.book.state.entries ≡ old_adds.added
  at_entries = old_adds.entries ∙ ap (λ (z : List Entry). z ++ old_adds.added) empty

  old_units : UnitsOf line old_adds.added old_adds.units
  old_units =
      let U : Line → Type 0 = λ z. UnitsOf z old_adds.added old_adds.units in
      subst U (ap (λ (z : About). z.line) ready.opened.about) old_adds.counted

  first_units : UnitsOf line searched.added searched.units
  first_units =
      let U : Line → Type 0 = λ z. UnitsOf z searched.added searched.units in
      subst U (ap (λ (z : About). z.line) at_about) searched.counted

  module _ (final : BookView) (end : Taking) (first seek_said : List ℕ)
      (seeks : Seeks room effort.seek taken.book end seek_said final.state.best.stations)
      (most : final.state.best.stations ≤ taken.book.state.best.stations) (about : final.about ≡ end.book.about)
      (entries : final.state.entries ≡ end.book.state.entries) (reserved : IsReserved final)
      (said : first ≡ warm_said ++ seek_said) where
    -- what the lemmas of a seek add
    sought : AddsBehind room taken.book end.book
    sought = seek_adds room effort.seek taken.book end seek_said final.state.best.stations seeks

    all : final.state.entries ≡ (old_adds.added ++ searched.added) ++ sought.added
    all =
        entries ∙ (sought.entries ∙ ap (λ (z : List Entry). z ++ sought.added)
        (searched.entries ∙ ap (λ (z : List Entry). z ++ searched.added) at_entries))

    -- all that was added has so many members, and so many units
    many : length final.state.entries ≡ length old_adds.added + length searched.added + length sought.added
    many = omega (
      arith,
      ap (λ (z : List Entry). length z) all,
      length-append (old_adds.added ++ searched.added) sought.added,
      length-append old_adds.added searched.added,
    )

    -- a run begins with a book that took in old entries, went through a first search, and took in the lemmas of a seek
    pub begun_so : IsBegun kind line c plan (record { olds = olds; effort = effort }) final first
    begun_so =
        let V : Line → Type 0 = λ z. UnitsOf z sought.added sought.units in
        let W : List Entry → Type 0 = λ z. UnitsOf line z (old_adds.units + searched.units + sought.units) in
        let start : Start = record { olds = olds; effort = effort } in
        let of_line : taken.book.about.line ≡ line = ap (λ (z : About). z.line) ready.about in
        let same_best : ready.at.book.state.best ≡ ready.opened.best =
        old_adds.best ∙ ap (λ (z : State). z.best) ready.opened.state in
        let best = first_best kind line c effort.first plan ready.at.book taken.book ready.searches in
        let b : BeginsWith kind line c plan start end.book.state.entries first final.state.best.stations = record {
          book = ready.book;
          opened = ready.opened;
          ranked = omega (arith, most, best, ap (λ (z : Assignment). z.stations) same_best);
          at = ready.at;
          warm_said = warm_said;
          took = ready.took;
          mid = taken.book;
          searches = ready.searches;
          better = most;
          end = end;
          seek_said = seek_said;
          seeks = seeks;
          entries = refl;
          said = said;
        } in
        let B : List Entry → Type 0 = λ z. BeginsWith kind line c plan start z first final.state.best.stations in
        let kept : ready.at.kept ≤ old_room plan.units = old_adds.within (omega arith) in
        let spent : ready.at.units ≤ old_room plan.units = old_adds.spent (omega arith) in
        let first_most : first_room effort.first ≤ 101025 = first_room_most effort.first small in
        record {
          begins = subst B (sym entries) b;
          about = about ∙ (sought.about ∙ ready.about);
          reserved = reserved;
          room = record {
            units = old_adds.units + searched.units + sought.units;
            counted = subst W (sym all) (units_both line (old_adds.added ++ searched.added) sought.added
                (old_adds.units + searched.units) sought.units
                (units_both line old_adds.added searched.added old_adds.units searched.units old_units first_units)
                (subst V of_line sought.counted));
            paid = omega (arith, old_adds.paid, searched.paid, sought.paid, kept, spent, limit, first_most);
            few = omega (arith, old_adds.few, searched.few, sought.few, kept, spent, limit, first_most, many);
          };
          few = omega (arith, old_adds.few, searched.few, sought.few, kept, spent, limit, first_most, many);
        }

  -- a run without a seek begins with the book that it has before
  pub begun_unsought : effort.seek ≡ 0
      → IsBegun kind line c plan (record { olds = olds; effort = effort }) taken.book warm_said
  begun_unsought none =
      begun_so taken.book (untaken taken.book) warm_said []
      (none_sought room effort.seek taken.book taken.book.state.best.stations none) (omega arith) refl refl
      ready.reserved (sym (append-nil warm_said))

  -- and with one with the book that took in its lemmas
  pub begun_sought : {E : Type 0} (r : Result Begun E) → (effort.seek ≡ 0 → ⊥)
      → IfOk r (λ b. HasSoughtBehind room effort.seek taken.book b.book warm_said (string_bytes b.first))
      → IfOk r (λ b. IsReserved b.book)
      → IfOk r (λ b. IsBegun kind line c plan (record { olds = olds; effort = effort }) b.book (string_bytes b.first))
  begun_sought (Ok b) some h reserved =
      begun_so b.book h.end (string_bytes b.first) h.said
      (some_sought room effort.seek taken.book h.end h.said b.book.state.best.stations some h.sought) h.most h.about
      h.entries reserved h.behind
  begun_sought (Err e) some h reserved = search rules

-- an offer leaves the entries as they are
kept_by : (better : Bool) (s : State) (b : Assignment) → (cond better (record { entries = s.entries; best = b })
    s).entries ≡ s.entries
kept_by true s b = refl
kept_by false s b = refl

-- after an offer the best has no more stations than what was offered, and no more than before
few_by : (better : Bool) (s : State) (b : Assignment) → nat_lt b.stations s.best.stations ≡ better
    → ((cond better (record { entries = s.entries; best = b }) s).best.stations ≤ b.stations)
    × ((cond better (record { entries = s.entries; best = b }) s).best.stations ≤ s.best.stations)
few_by true s b e = (omega arith, omega (arith, ltb-true b.stations s.best.stations e))
few_by false s b e = (omega (arith, ltb-false b.stations s.best.stations e), omega arith)

-- what a seek tells of the line is told of the book
pub has_sought : (book : BookView) (line : Line) (limit used : ℕ) (best : Assignment) (lemmas : List Entry)
    → book.about.line ≡ line → used ≤ limit → IsRight book.about.kind line book.about.cycle best
    → best.stations ≤ book.state.best.stations → AreEntries (tasks line) lemmas
    → ((k : ℕ) (e : Entry) → slice_get lemmas k ≡ Some e → e.cycle ≡ book.about.cycle)
    → (units : ℕ) × UnitsOf line lemmas units × (units ≤ used) → length lemmas ≤ used + 1
    → IsDerived book.about.kind book.about.line lemmas → RefuteIn line book.about.cycle (best.stations - 1) lemmas
    → (lemmas ≡ [] → IsOver book limit (best.stations - 1) best used) → HasSought book limit best lemmas used
has_sought book line limit used best lemmas same within right few ranges cycles units members derived shown over =
    let U : Line → Type 0 = λ z. UnitsOf z lemmas units.0 in
    let R : Line → Type 0 = λ z. IsRight book.about.kind z book.about.cycle best in
    let E : Line → Type 0 = λ z. AreEntries (tasks z) lemmas in
    let S : Line → Type 0 = λ z. RefuteIn z book.about.cycle (best.stations - 1) lemmas in
    record {
      within = within;
      right = subst R (sym same) right;
      few = few;
      sought = record {
        ranges = λ _. subst E (sym same) ranges;
        cycles = cycles;
        units = units.0;
        counted = subst U (sym same) units.1;
        paid = units.2;
        few = members;
      };
      derived = derived;
      shown = subst S (sym same) shown;
      over = over;
    }

-- the lemmas of a seek are taken in, and its balance is offered
pub sought_behind : (N first limit left : ℕ) (at : Taking) (book : BookView) (kept units used k : ℕ) (best : Assignment)
    (lemmas : List Entry) (warmed final : BookView) (before said : List ℕ) → at.kept ≡ kept
    → at.units ≡ units → left ≡ 6000000 - 2 * N - max kept units → HasSought book limit best lemmas used
    → (t : Taking) × (TakesAll (left - first_room first) (untaken book) lemmas t × (t.book ≡ warmed) × (t.kept ≡ k))
    → final ≡ ran warmed (event.Offer best ∷ []) → said ≡ before ++ seek_line used limit k
    → HasSoughtBehind (seek_room N first at) limit book final before said
sought_behind N first limit left at book kept units used k best lemmas warmed final before said same_kept same_units
    is_left sought t offered told =
    let T : ℕ → Type 0 = λ r. TakesAll (r - first_room first) (untaken book) lemmas t.0 in
    let room : ℕ = left - first_room first in
    let is_room : left ≡ 6000000 - 2 * N - max at.kept at.units =
    is_left ∙ sym (ap (λ z. 6000000 - 2 * N - max z at.units) same_kept
    ∙ ap (λ z. 6000000 - 2 * N - max kept z) same_units) in
    let few = few_by (is_better warmed.state best) warmed.state best refl in
    let top = ap (λ (z : BookView). z.state.best.stations) offered in
    let adds : Adds room (untaken book) t.0 = all_add room (untaken book) lemmas t.0 t.1.0 in
    record {
      end = t.0;
      said = seek_line used limit k;
      sought = record {
        best = best;
        offered = omega (arith, top, few.0);
        lemmas = lemmas;
        used = used;
        sought = sought;
        taken = subst T is_room t.1.0;
        said_so = ap (λ z. seek_line used limit z) (sym t.1.2);
      };
      entries = ap (λ (z : BookView). z.state.entries) offered ∙ kept_by (is_better warmed.state best) warmed.state best
          ∙ ap (λ (z : BookView). z.state.entries) (sym t.1.1);
      about = ap (λ (z : BookView). z.about) offered ∙ ap (λ (z : BookView). z.about) (sym t.1.1);
      most = omega (
        arith,
        top,
        few.1,
        ap (λ (z : BookView). z.state.best.stations) t.1.1,
        ap (λ (z : Assignment). z.stations) adds.best,
      );
      behind = told;
    }
