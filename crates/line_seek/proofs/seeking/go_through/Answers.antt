use Rattle.std.proofs.Common.{◌-◌, ◌≤◌, refl, sym, ap, ◌∙◌, subst, arith, ℕ, Option}
use Rattle.std.specs.Prelude.{IfSome}
use Rattle.station_search.specs.Decide.{IsPairing}
use Rattle.station_search.specs.pairs.Sharing.{Sharing}
use Rattle.line_rules.specs.declared.types.Balance.{Balance as Assignment}
use Rattle.line_seek.specs.Seeking.{IsOver}
use Rattle.line_seek.specs.inner.Aims.{asked_for}
use Rattle.line_seek.proofs.SeekFacts.{IsUnderWay, under_better, less_better, under_open, less_open}
use Rattle.line_seek.proofs.SeekFacts.{refuted_sought, ended_sought}
use Rattle.line_seek.proofs.seeking.go_through.Goals as goal

pub tries-preserved-in-Found : goal.tries-preserved-in-Found
tries-preserved-in-Found c =
    let left = c.args.limit - c.tries.seeker.used in
    let at : IsUnderWay c.args.book.now c.args.limit c.tries.seeker = record {
      about = c.tries.invariant.about;
      few = c.tries.invariant.few;
      within = c.tries.invariant.within;
      seeking = c.tries.invariant.seeking;
    } in
    let h = under_better c.args.book.now c.args.limit left c.in_ok-told.field-0.listed c.tries.seeker c.make_try.new.self _
    at c.in_ok-told.ensures.about c.in_ok-told.ensures.turn c.in_ok-told.ensures.used c.in_ok-told.ensures.within
    (omega (arith, c.tries.invariant.within)) c.in_ok-told.field-0.told c.in-Found.balance c.asked_for-most.result
    c.in-Found.is (c.is_over.ensures.fewer c.if-is_over.false) c.in_ok-told.ensures.told refl
    c.in_ok-told.ensures.seeking in
    let about = c.args.book.now.about in
    let T : Option Sharing → Type 0 = λ o. IfSome o (IsPairing c.args.inst.now about.kind about.cycle) in
    record {
      about = h.about;
      few = h.few;
      within = h.within;
      seeking = h.seeking;
      pairs = subst T (sym (c.in_ok-told.ensures.pairs ∙ c.if-is_over.ensures.pairs)) c.tries.invariant.pairs;
    }

pub tries-preserved : goal.tries-preserved
tries-preserved c =
    let left = c.args.limit - c.tries.seeker.used in
    let at : IsUnderWay c.args.book.now c.args.limit c.tries.seeker = record {
      about = c.tries.invariant.about;
      few = c.tries.invariant.few;
      within = c.tries.invariant.within;
      seeking = c.tries.invariant.seeking;
    } in
    let h = under_open c.args.book.now c.args.limit left c.in_ok-told.field-0.listed c.tries.seeker c.make_try.new.self
    c.go_on.new.self at c.in_ok-told.ensures.about c.in_ok-told.ensures.turn c.in_ok-told.ensures.used
    c.in_ok-told.ensures.within (omega (arith, c.tries.invariant.within)) c.in_ok-told.ensures.best c.go_on.ensures.best
    c.go_on.ensures.used c.go_on.ensures.seeking c.go_on.ensures.about in
    let about = c.args.book.now.about in
    let T : Option Sharing → Type 0 = λ o. IfSome o (IsPairing c.args.inst.now about.kind about.cycle) in
    record {
      about = h.about;
      few = h.few;
      within = h.within;
      seeking = h.seeking;
      pairs = subst T (sym (c.in_ok-told.ensures.pairs ∙ c.if-is_over.ensures.pairs)) c.tries.invariant.pairs;
    }

pub tries-smaller-in-Found : goal.tries-smaller-in-Found
tries-smaller-in-Found c =
    let left = c.args.limit - c.tries.seeker.used in
    let at : IsUnderWay c.args.book.now c.args.limit c.tries.seeker = record {
      about = c.tries.invariant.about;
      few = c.tries.invariant.few;
      within = c.tries.invariant.within;
      seeking = c.tries.invariant.seeking;
    } in
    less_better c.args.book.now c.args.limit left c.in_ok-told.field-0.listed c.tries.seeker c.make_try.new.self _
    at c.in_ok-told.ensures.about c.in_ok-told.ensures.turn c.in_ok-told.ensures.used c.in_ok-told.ensures.within
    (omega (arith, c.tries.invariant.within)) c.in_ok-told.field-0.told c.in-Found.balance c.asked_for-most.result
    c.in-Found.is (c.is_over.ensures.fewer c.if-is_over.false) c.in_ok-told.ensures.told refl

pub tries-smaller : goal.tries-smaller
tries-smaller c =
    let left = c.args.limit - c.tries.seeker.used in
    let at : IsUnderWay c.args.book.now c.args.limit c.tries.seeker = record {
      about = c.tries.invariant.about;
      few = c.tries.invariant.few;
      within = c.tries.invariant.within;
      seeking = c.tries.invariant.seeking;
    } in
    less_open c.args.book.now c.args.limit left c.in_ok-told.field-0.listed c.tries.seeker c.make_try.new.self
    c.go_on.new.self at c.in_ok-told.ensures.about c.in_ok-told.ensures.turn c.in_ok-told.ensures.used
    c.in_ok-told.ensures.within (omega (arith, c.tries.invariant.within)) c.in_ok-told.ensures.best c.go_on.ensures.best
    c.go_on.ensures.used c.go_on.ensures.turn (c.is_over.ensures.left c.if-is_over.false)

pub returns-in-Refuted : goal.returns-in-Refuted
returns-in-Refuted c =
    let F : Assignment → Type 0 = λ b. b.stations ≤ c.args.book.now.state.best.stations in
    refuted_sought c.args.aim c.args.book.now c.args.inst.now c.args.limit c.asked_for-most.result _
    c.make_try.new.self c.refuted.result c.requires.same (c.in_ok-told.ensures.about ∙ c.tries.invariant.about)
    (subst F (sym c.in_ok-told.ensures.best) c.tries.invariant.few)
    (omega (arith, c.tries.invariant.within, c.in_ok-told.ensures.within)) c.in_ok-told.ensures.seeking
    (c.asked_for-most.ensures
    ∙ ap (λ (b : Assignment). asked_for c.args.aim b.stations) (sym c.in_ok-told.ensures.best))
    c.refuted.ensures.same
    c.refuted.ensures.lemmas c.refuted.ensures.derived c.refuted.ensures.answers

pub returns-then-is_over : goal.returns-then-is_over
returns-then-is_over c =
    let O : ℕ → Type 0 = λ z.
    IsOver c.args.book.now c.args.limit z c.tries.seeker.best c.tries.seeker.used in
    ended_sought c.args.aim c.args.book.now c.args.limit c.tries.seeker c.ended.result c.ended.ensures
    c.tries.invariant.about c.tries.invariant.few c.tries.invariant.within
    c.tries.invariant.seeking (subst O c.asked_for-most.ensures (c.is_over.ensures.over c.if-is_over.true))
