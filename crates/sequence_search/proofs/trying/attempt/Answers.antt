use Rattle.std.proofs.Common.{◌≡◌, ◌+◌, ◌<◌, ◌≤◌, ◌++◌, ◌∷◌, [], List, ℕ, length, length-append, sum, Some, refl, subst}
use Rattle.std.proofs.Common.{sym, ap, ◌∙◌, arith}
use Rattle.sequence_rules.specs.States.{IsSequenceOf, cost, root_starts}
use Rattle.sequence_rules.specs.Entries.{HasAnswer, models_left, units_of}
use Rattle.sequence_rules.specs.Trails.{up_to, frame_units, units_in}
use Rattle.sequence_values.specs.declared.types.SeqEntry.{SeqEntry}
use Rattle.sequence_values.specs.declared.types.SeqFrame.{SeqFrame}
use Rattle.sequence_search.specs.declared.outcome.Stepped.{Stepped}
use Rattle.sequence_search.specs.About.{charges_of}
use Rattle.sequence_search.specs.Steps.{IsNextModel, IsNoModel, IsNextState, StepsTo}
use Rattle.sequence_search.specs.inner.Paths.{lasts, IsBook, IsTop}
use Rattle.sequence_search.specs.Work.{root_work, frame_work, frames_work, AddsFew}
use Rattle.sequence_search.specs.inner.Tries.{entry_of, AreStopped, KeepsRoots}
use Rattle.sequence_search.proofs.TurnFacts.{with_last, IsBack, steps_on, top_passes, top_answers, passed_on, opened}
use Rattle.sequence_search.proofs.TurnFacts.{found, refuted, units_on, units_ended, turns_back, units_push}
use Rattle.sequence_search.proofs.PathFacts.{along_push}
use Rattle.sequence_search.proofs.WorkFacts.{work_begun, work_push, step_works, open_works}
use Rattle.sequence_search.proofs.EndFacts.{root_top, stopped}
use Rattle.sequence_search.proofs.BookFacts.{roots_more, plainly_cited}
use Rattle.sequence_search.proofs.trying.attempt.Goals as goal

pub returns-in_default-pop : goal.returns-in_default-pop
returns-in_default-pop g c =
    let none : IsNoModel c.turns.top.rem (up_to c.turns.top.last) =
    subst (λ (r : List ℕ). IsNoModel r (up_to c.turns.top.last)) c.as_slice.ensures
    (subst (λ (n : ℕ). IsNoModel c.as_slice.result.now n) c.up_to.ensures (c.in_default.ensures.none refl)) in
    let few : length c.turns.entries ≤ 1000000000000000000 =
    omega (arith, c.turns.invariant.book.few, c.turns.invariant.units, c.turns.invariant.few, c.requires.1.1.1.1.1.0, c.requires.1.1.1.1.1.1) in
    let own = refuted c.args.times.now c.args.interval c.args.reach g.about c.args.need c.turns.entries c.turns.above
    c.turns.top c.turns.invariant.book c.turns.invariant.top (c.in_default-pop.ensures.none refl) none
    c.requires.1.1.1.0 few in
    let P : List SeqEntry → Type 0 = λ es. IsBook c.args.times.now c.args.interval c.args.reach g.about es (c.args.need + 1)
    × HasAnswer (charges_of g.about) es c.args.times.now.demands (root_starts c.args.times.now) c.args.need
    × AddsFew c.args.times.now g.about c.args.room c.args.entries.now es in
    let ended = units_ended c.args.times.now c.args.interval c.args.reach g.about c.args.need c.turns.entries c.turns.above
    c.turns.top c.turns.invariant.top none in
    subst P (sym c.in_ok-id.ensures.entries) (
      own.0,
      own.1,
      record {
        more = omega (arith, ended, c.turns.invariant.more);
        few = omega (arith, ended, c.turns.invariant.units, c.turns.invariant.few);
        work = omega (arith, ended, c.turns.invariant.units, c.turns.invariant.work);
      },
    )

pub turns-preserved-in_default : goal.turns-preserved-in_default
turns-preserved-in_default g c =
    let none : IsNoModel c.turns.top.rem (up_to c.turns.top.last) =
    subst (λ (r : List ℕ). IsNoModel r (up_to c.turns.top.last)) c.as_slice.ensures
    (subst (λ (n : ℕ). IsNoModel c.as_slice.result.now n) c.up_to.ensures (c.in_default.ensures.none refl)) in
    let few : length c.turns.entries ≤ 1000000000000000000 =
    omega (arith, c.turns.invariant.book.few, c.turns.invariant.units, c.turns.invariant.few, c.requires.1.1.1.1.1.0, c.requires.1.1.1.1.1.1) in
    let back = turns_back c.args.times.now c.args.interval c.args.reach g.about c.args.need
    (units_of (charges_of g.about) c.args.entries.now + c.turns.used) c.in_ok-id.id c.turns.entries c.publish.new.entries c.turns.above
    c.pop.new.self c.in-Some-pop.frame c.turns.top c.push.new.self
    (record {
      book = c.turns.invariant.book;
      along = c.turns.invariant.along;
      top = c.turns.invariant.top;
      spent = c.turns.invariant.units;
    }) none c.requires.1.1.1.0 few c.in-Some-pop.ensures.some
    c.in_ok-id.ensures.entries c.in_ok-id.ensures.number c.in_ok-push.ensures.ok in
    let deep : 0 < length c.turns.above = omega (
      arith,
      ap (λ (fs : List SeqFrame). length fs)
          c.in-Some-pop.ensures.some,
      length-append c.pop.new.self (c.in-Some-pop.frame ∷ []),
    ) in
    let K : List SeqEntry → Type 0 = λ es. KeepsRoots c.args.times.now c.args.entries.now es in
    let roots = subst K (sym c.in_ok-id.ensures.entries) (roots_more c.args.times.now c.args.entries.now c.turns.entries
    (entry_of c.turns.top) c.turns.invariant.roots (λ same.
    omega (arith, deep, c.turns.invariant.top.worked.on.depth, ap (λ xs. sum xs) same))) in
    let U : List SeqEntry → Type 0 = λ es. units_of (charges_of g.about) c.args.entries.now
    ≤ units_of (charges_of g.about) es in
    let more = subst U (sym c.in_ok-id.ensures.entries) (omega (
      arith,
      c.turns.invariant.more,
      units_ended c.args.times.now c.args.interval c.args.reach g.about c.args.need c.turns.entries c.turns.above
          c.turns.top c.turns.invariant.top none,
    )) in
    let models : ℕ = length c.args.times.now.demands in
    record {
      book = back.book;
      along = back.along;
      top = back.top;
      units = back.spent;
      roots = roots;
      more = more;
      few = c.turns.invariant.few;
      work = omega (
        arith,
        c.turns.invariant.work,
        ap (λ fs. frames_work models fs) c.in-Some-pop.ensures.some,
        work_push models c.pop.new.self c.in-Some-pop.frame,
      );
    }

pub returns-then-used-room : goal.returns-then-used-room
returns-then-used-room g c =
    let next : IsNextModel c.turns.top.rem (up_to c.turns.top.last) c.in-Some.model =
    subst (λ (r : List ℕ). IsNextModel r (up_to c.turns.top.last) c.in-Some.model) c.as_slice.ensures
    (subst (λ (n : ℕ). IsNextModel c.as_slice.result.now n c.in-Some.model) c.up_to.ensures
    c.in-Some.ensures.some) in
    let few : length c.turns.entries ≤ 1000000000000000000 =
    omega (arith, c.turns.invariant.book.few, c.turns.invariant.units, c.turns.invariant.few, c.requires.1.1.1.1.1.0, c.requires.1.1.1.1.1.1) in
    let P : List SeqFrame → Type 0 = λ fs. AreStopped c.args.times.now c.args.interval c.args.reach g.about c.args.need
    c.turns.entries fs × (units_of (charges_of g.about) c.turns.entries + units_in fs ≡ units_of (charges_of g.about) c.args.entries.now + c.args.room) in
    let own = subst P (sym c.in_ok-push-2.ensures.ok) (
      stopped c.args.times.now c.args.interval c.args.reach g.about c.args.need c.turns.entries c.turns.above c.turns.top
          c.turns.invariant.along c.turns.invariant.top c.in-Some.model c.requires.0 next c.requires.1.1.1.0 few,
      omega (
        arith,
        units_push c.turns.above c.turns.top,
        c.turns.invariant.units,
        c.turns.invariant.few,
        c.if-used-room.true,
      ),
    ) in (
      c.turns.invariant.book,
      c.turns.invariant.roots,
      own.0,
      own.1,
      omega (arith, c.turns.invariant.work, c.if-used-room.true),
    )

pub turns-preserved-in-Passed : goal.turns-preserved-in-Passed
turns-preserved-in-Passed g c =
    let next : IsNextModel c.turns.top.rem (up_to c.turns.top.last) c.in-Some.model =
    subst (λ (r : List ℕ). IsNextModel r (up_to c.turns.top.last) c.in-Some.model) c.as_slice.ensures
    (subst (λ (n : ℕ). IsNextModel c.as_slice.result.now n c.in-Some.model) c.up_to.ensures
    c.in-Some.ensures.some) in
    let worked = steps_on c.args.times.now c.args.interval c.args.reach g.about c.args.need c.turns.entries c.turns.above
    c.turns.top c.in-Some.model c.turns.invariant.top next in
    let S : Stepped → Type 0 = λ s. StepsTo c.args.times.now c.args.interval c.args.reach c.turns.entries
    (with_last c.turns.top c.in-Some.model) c.in-Some.model s in
    let none = subst S c.in-Passed.is c.in_ok-step_by.ensures in
    record {
      book = c.turns.invariant.book;
      along = c.turns.invariant.along;
      top = top_passes c.args.times.now c.args.interval c.args.reach g.about c.args.need c.turns.entries c.turns.above
          c.turns.top c.in-Some.model worked next.left none;
      units = omega (arith, c.turns.invariant.units, units_on c.args.times.now c.turns.top c.in-Some.model next);
      roots = c.turns.invariant.roots;
      more = c.turns.invariant.more;
      few = omega (arith, c.if-used-room.false);
      work = step_works (length c.args.times.now.demands) c.turns.used (root_work c.args.times.now) c.turns.above
          c.turns.top c.in-Some.model c.turns.invariant.top.worked.on.state.each next c.turns.invariant.work;
    }

pub turns-preserved-in_ok-push-in-Answered : goal.turns-preserved-in_ok-push-in-Answered
turns-preserved-in_ok-push-in-Answered g c =
    let next : IsNextModel c.turns.top.rem (up_to c.turns.top.last) c.in-Some.model =
    subst (λ (r : List ℕ). IsNextModel r (up_to c.turns.top.last) c.in-Some.model) c.as_slice.ensures
    (subst (λ (n : ℕ). IsNextModel c.as_slice.result.now n c.in-Some.model) c.up_to.ensures
    c.in-Some.ensures.some) in
    let worked = steps_on c.args.times.now c.args.interval c.args.reach g.about c.args.need c.turns.entries c.turns.above
    c.turns.top c.in-Some.model c.turns.invariant.top next in
    let S : Stepped → Type 0 = λ s. StepsTo c.args.times.now c.args.interval c.args.reach c.turns.entries
    (with_last c.turns.top c.in-Some.model) c.in-Some.model s in
    let answered = subst S c.in-Answered.is c.in_ok-step_by.ensures in
    let T : List ℕ → Type 0 = λ cites. IsTop c.args.times.now c.args.interval c.args.reach g.about c.args.need c.turns.entries
    c.turns.above (record {
      rem = c.turns.top.rem;
      starts = c.turns.top.starts;
      need = c.turns.top.need;
      last = Some c.in-Some.model;
      cites = cites;
    }) in
    record {
      book = c.turns.invariant.book;
      along = c.turns.invariant.along;
      top = subst T (sym c.in_ok-push-in-Answered.ensures.ok)
          (top_answers c.args.times.now c.args.interval c.args.reach g.about c.args.need c.turns.entries c.turns.above
          c.turns.top c.in-Some.model c.in-Answered.id worked next.left answered.0 (plainly_cited (charges_of g.about) c.turns.entries c.in-Answered.id
          _ _ _ answered.1.cited));
      units = omega (arith, c.turns.invariant.units, units_on c.args.times.now c.turns.top c.in-Some.model next);
      roots = c.turns.invariant.roots;
      more = c.turns.invariant.more;
      few = omega (arith, c.if-used-room.false);
      work = step_works (length c.args.times.now.demands) c.turns.used (root_work c.args.times.now) c.turns.above
          c.turns.top c.in-Some.model c.turns.invariant.top.worked.on.state.each next c.turns.invariant.work;
    }

pub returns-in-Ends : goal.returns-in-Ends
returns-in-Ends g c =
    let next : IsNextModel c.turns.top.rem (up_to c.turns.top.last) c.in-Some.model =
    subst (λ (r : List ℕ). IsNextModel r (up_to c.turns.top.last) c.in-Some.model) c.as_slice.ensures
    (subst (λ (n : ℕ). IsNextModel c.as_slice.result.now n c.in-Some.model) c.up_to.ensures
    c.in-Some.ensures.some) in
    let worked = steps_on c.args.times.now c.args.interval c.args.reach g.about c.args.need c.turns.entries c.turns.above
    c.turns.top c.in-Some.model c.turns.invariant.top next in
    let S : Stepped → Type 0 = λ s. StepsTo c.args.times.now c.args.interval c.args.reach c.turns.entries
    (with_last c.turns.top c.in-Some.model) c.in-Some.model s in
    let ended = subst S c.in-Ends.is c.in_ok-step_by.ensures in
    let own = found c.args.times.now c.args.interval c.args.reach g.about c.args.need c.turns.entries c.turns.above c.turns.top
    c.in-Some.model worked next.left ended.0 ended.1 in
    let is : c.in_ok-models_of-in-Ends.field-0 ≡ lasts (c.turns.above ++ with_last c.turns.top c.in-Some.model ∷ []) =
    c.in_ok-models_of-in-Ends.ensures ∙ ap (λ (fs : List SeqFrame). lasts fs) c.in_ok-push-in-Ends.ensures.ok in
    let P : List ℕ → Type 0 = λ units. IsSequenceOf c.args.times.now.demands units
    × (cost c.args.times.now c.args.interval c.args.reach (root_starts c.args.times.now) units < c.args.need) in
    let whole = subst P (sym is) own in (
      c.turns.invariant.book,
      c.turns.invariant.roots,
      whole.0,
      whole.1,
      record {
        more = c.turns.invariant.more;
        few = omega (arith, c.turns.invariant.units, c.turns.invariant.few);
        work = omega (arith, c.turns.invariant.units, c.turns.invariant.work);
      },
    )

pub turns-preserved : goal.turns-preserved
turns-preserved g c =
    let next : IsNextModel c.turns.top.rem (up_to c.turns.top.last) c.in-Some.model =
    subst (λ (r : List ℕ). IsNextModel r (up_to c.turns.top.last) c.in-Some.model) c.as_slice.ensures
    (subst (λ (n : ℕ). IsNextModel c.as_slice.result.now n c.in-Some.model) c.up_to.ensures
    c.in-Some.ensures.some) in
    let worked = steps_on c.args.times.now c.args.interval c.args.reach g.about c.args.need c.turns.entries c.turns.above
    c.turns.top c.in-Some.model c.turns.invariant.top next in
    let S : Stepped → Type 0 = λ s. StepsTo c.args.times.now c.args.interval c.args.reach c.turns.entries
    (with_last c.turns.top c.in-Some.model) c.in-Some.model s in
    let opens = subst S c.in-Opens.is c.in_ok-step_by.ensures in
    let state : IsNextState c.args.times.now c.args.interval c.args.reach c.turns.top c.in-Some.model c.in-Opens.frame =
    record { rem = opens.1.rem; starts = opens.1.starts; need = opens.1.need } in
    let B : List SeqFrame → Type 0 = λ fs. IsBack c.args.times.now c.args.interval c.args.reach g.about c.args.need
    c.turns.entries fs c.in-Opens.frame (units_of (charges_of g.about) c.args.entries.now + (c.turns.used + 1)) in
    let nothing : frame_units c.in-Opens.frame ≡ 0 = ap (λ o. models_left c.in-Opens.frame.rem (up_to o)) opens.4 in
    let own = subst B (sym c.in_ok-push-in-Opens.ensures.ok) (record {
      book = c.turns.invariant.book;
      along = along_push c.args.times.now c.args.interval c.args.reach g.about c.args.need c.turns.entries c.turns.above
          (with_last c.turns.top c.in-Some.model) c.turns.invariant.along
          (passed_on c.args.times.now c.args.interval c.args.reach g.about c.args.need c.turns.entries c.turns.above c.turns.top
          c.in-Some.model worked next.left);
      top = opened c.args.times.now c.args.interval c.args.reach g.about c.args.need c.turns.entries c.turns.above c.turns.top
          c.in-Opens.frame c.in-Some.model c.requires.1.1.0.limit worked next.left opens.0 state opens.2 opens.3 opens.4
          opens.5;
      spent = omega (
        arith,
        c.turns.invariant.units,
        units_on c.args.times.now c.turns.top c.in-Some.model next,
        units_push c.turns.above (with_last c.turns.top c.in-Some.model),
        nothing,
      );
    }) in
    let models : ℕ = length c.args.times.now.demands in
    let W : List SeqFrame → Type 0 = λ fs. (c.turns.used + 1) + (frames_work models fs + frame_work models
    c.in-Opens.frame) ≤ root_work c.args.times.now in
    record {
      book = own.book;
      along = own.along;
      top = own.top;
      units = own.spent;
      roots = c.turns.invariant.roots;
      more = c.turns.invariant.more;
      few = omega (arith, c.if-used-room.false);
      work = subst W (sym c.in_ok-push-in-Opens.ensures.ok)
          (open_works c.args.times.now c.args.interval c.args.reach models c.turns.used (root_work c.args.times.now)
          c.turns.above c.turns.top c.in-Opens.frame c.in-Some.model
          c.turns.invariant.top.worked.on.state.each next state opens.2 opens.4 c.turns.invariant.work);
    }

pub turns-init : goal.turns-init
turns-init g c =
    let e = c.in_ok-top.ensures in
    let models : ℕ = length c.args.times.now.demands in
    let B : List SeqFrame → Type 0 = λ fs. IsBack c.args.times.now c.args.interval c.args.reach g.about c.args.need
    c.args.entries.now fs c.in_ok-top.top (units_of (charges_of g.about) c.args.entries.now + 0)
    × (0 + (frames_work models fs + frame_work models c.in_ok-top.top) ≤ root_work c.args.times.now) in
    let nothing : frame_units c.in_ok-top.top ≡ 0 = ap (λ o. models_left c.in_ok-top.top.rem (up_to o)) e.last in
    let own = subst B (sym (c.from_vec-above.ensures ∙ c.new.ensures.items)) (
      record {
        book = c.requires.1.1.1.1.0;
        along = λ j f g. absurd (cc);
        top = root_top c.args.times.now c.args.interval c.args.reach g.about c.args.need c.args.entries.now c.in_ok-top.top
            c.requires.0 c.requires.1.1.1.1.0 e.rem e.starts e.need e.last e.cites;
        spent = omega (arith, nothing);
      },
      omega (
        arith,
        work_begun models c.in_ok-top.top (sum c.args.times.now.demands) (ap (λ xs. sum xs) e.rem)
            c.requires.0.wanted e.last,
      ),
    ) in
    record {
      book = own.0.book;
      along = own.0.along;
      top = own.0.top;
      units = own.0.spent;
      roots = (λ k x g d. g, λ k x g. g);
      more = omega arith;
      few = omega arith;
      work = own.1;
    }
