use Rattle.std.proofs.Common.{inl, inr, List, ℕ, Option, option_map}
use Rattle.command_outcome.specs.Outcome.{Files, Outside, outside}
use Rattle.command_outcome.proofs.OutcomeFacts.{step_early}
use Rattle.input_files.specs.Instance.{IsUnsaid}
use Rattle.command_solve.specs.WarmStart.{IsUnwarmed}
use Rattle.command_solve.specs.inner.Said.{HasSaid, IsUnsaidOrUnwarmed}
use Rattle.command_solve.specs.declared.said.Said.{Said}
use Rattle.command_solve.proofs.SaidFacts.{old_in, unwarmed_in}
use Rattle.command_solve.proofs.said.said_of.Goals as goal

pub returns-in_err-timed-clause-said : goal.returns-in_err-timed-clause-said
returns-in_err-timed-clause-said g c = λ t.
    let a = c.args in
    let apart : Option (List ℕ) = option_map (λ x. x.now) a.apart in
    let warm : Option (List ℕ) = option_map (λ x. x.now) a.warm in
    let files : Files = g.S.Shelf.file a.shelf.now in
    let o : Outside = outside files (g.S.Shelf.blames c.said_instance.new.shelf) in
    step_early (IsUnsaidOrUnwarmed o a.file.now apart warm a.word a.kind) (IsUnsaid o a.file.now apart a.word)
    (λ (s : Said). HasSaid files a.file.now apart warm a.word a.kind s.timed.inst s.timed.cycle s.olds)
    c.in_err-timed.field-0.0 c.from_residual.result (λ out x. inl x) (c.in_err-timed.ensures.said t)
    c.from_residual.ensures.1

pub returns-in_err-olds-clause-said : goal.returns-in_err-olds-clause-said
returns-in_err-olds-clause-said g c = λ t.
    let a = c.args in
    let apart : Option (List ℕ) = option_map (λ x. x.now) a.apart in
    let warm : Option (List ℕ) = option_map (λ x. x.now) a.warm in
    let files : Files = g.S.Shelf.file a.shelf.now in
    let mid : Files = g.S.Shelf.file c.said_instance.new.shelf in
    let blames = g.S.Shelf.blames c.old_entries.new.shelf in
    let timed = c.in_ok-timed.timed in
    step_early (IsUnsaidOrUnwarmed (outside files blames) a.file.now apart warm a.word a.kind)
    (IsUnwarmed (outside mid blames) warm a.kind timed.inst)
    (λ (s : Said). HasSaid files a.file.now apart warm a.word a.kind s.timed.inst s.timed.cycle s.olds)
    c.in_err-olds.field-0.0 c.from_residual-in_err-olds.result
    (λ out u. inr (record {
      line = timed.inst;
      c = timed.cycle;
      said = c.in_ok-timed.ensures.said t;
      unwarmed = unwarmed_in files mid blames warm a.kind timed.inst out (c.in_ok-timed.ensures.files t) u;
    }))
    (c.in_err-olds.ensures.said t) c.from_residual-in_err-olds.ensures.1

pub returns-clause-said : goal.returns-clause-said
returns-clause-said g c = λ t. record {
  said = c.in_ok-timed.ensures.said t;
  old = old_in (g.S.Shelf.file c.args.shelf.now) (g.S.Shelf.file c.said_instance.new.shelf)
      (option_map (λ x. x.now) c.args.warm) c.args.kind c.in_ok-timed.timed.inst c.in_ok-olds.olds
      (c.in_ok-timed.ensures.files t) (c.in_ok-olds.ensures.said t);
}
