use Rattle.std.proofs.Common.{◌≡◌, ℕ, ◌+◌, length, map, List, sym, ap, ◌∙◌, subst, arith}
use Rattle.line_rules.specs.declared.types.Entry.{Entry}
use Rattle.line_rules.specs.declared.types.OpenFrame.{OpenFrame}
use Rattle.entry_lists.specs.Lift.{lifted_frame}
use Rattle.cycle_search.specs.inner.Joined.{behind, HaveFrameCites}
use Rattle.cycle_search.specs.Outcomes.{Searches}
use Rattle.cycle_search.specs.declared.searching.CycleOutcome.TheVariants as outcome
use Rattle.cycle_search.proofs.ReopenFacts.{have_cites}
use Rattle.cycle_search.proofs.Results.{searches}
use Rattle.cycle_search.proofs.searching.stopped.Goals as goal

pub raise_frames-requires-clause-cites : goal.raise_frames-requires-clause-cites
raise_frames-requires-clause-cites c =
    let P : ℕ → Type 0 = λ z. HaveFrameCites z c.args.frames in
    let same : length c.args.search.book.state.entries ≡ c.len.result =
    sym (c.len.ensures ∙ ap (λ (z : List Entry). length z) c.into_parts-entries.ensures.entries) in
    subst P same c.requires.cites

pub joined-requires-clause-cites : goal.joined-requires-clause-cites
joined-requires-clause-cites c =
    have_cites c.args.search.book.about.kind c.args.search.book.about.line c.into_parts-entries.result.0
    c.into_parts-entries.ensures.derived c.into_parts-entries.ensures.statable
    (omega (arith, c.requires.count, ap (λ (z : List Entry). length z) c.into_parts-entries.ensures.entries))

pub returns : goal.returns
returns c = λ plan s.
    let h = c.args.search in
    let kind = h.book.about.kind in
    let line = c.args.inst.now in
    let m = h.balance.stations in
    let es = c.into_parts-entries.result.0 in
    let frames : map (lifted_frame (length h.proof)) c.args.frames ≡ c.in_ok-frames.frames =
    sym (c.in_ok-frames.ensures ∙ ap (λ (n : ℕ). map (lifted_frame n) c.args.frames) c.len-2.ensures) in
    let seeks = h.seeks in
    let from : length h.proof + c.args.closing_from ≡ c.len-2.result + c.args.closing_from =
    ap (λ (n : ℕ). n + c.args.closing_from) (sym c.len-2.ensures) in
    let F : ℕ → Type 0 = λ z. Searches kind line m plan (outcome.Stopped c.args.cause h.lower h.upper h.balance
    (behind h.proof es) (record {
      cycle = h.book.about.cycle;
      frames = map (lifted_frame (length h.proof)) c.args.frames;
    }) z seeks) in
    let n = c.len-2.result + c.args.closing_from in
    let P : ℕ → Type 0 = λ z. Searches kind line m plan (outcome.Stopped c.args.cause h.lower h.upper h.balance
    (behind h.proof es) (record { cycle = z; frames = map (lifted_frame (length h.proof)) c.args.frames }) n seeks) in
    let Q : List OpenFrame → Type 0 = λ z. Searches kind line m plan (outcome.Stopped c.args.cause h.lower h.upper
    h.balance (behind h.proof es) (record { cycle = c.cycle-cycle.result; frames = z }) n seeks) in
    let R : List Entry → Type 0 = λ z. Searches kind line m plan (outcome.Stopped c.args.cause h.lower h.upper
    h.balance z (record { cycle = c.cycle-cycle.result; frames = c.in_ok-frames.frames }) n seeks) in
    subst R (sym c.in_ok-joined.ensures) (subst Q frames (subst P (sym c.cycle-cycle.ensures) (subst F from
    (searches kind line m plan h c.tasks-tasks.ensures.line es c.into_parts-entries.ensures.entries
    c.into_parts-entries.ensures.derived c.into_parts-entries.ensures.statable c.args.frames c.args.closing_from
    c.tasks-tasks.ensures.ranked c.into_parts-entries.ensures.fresh c.args.cause s))))
