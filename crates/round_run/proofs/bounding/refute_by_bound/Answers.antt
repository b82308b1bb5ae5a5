use Rattle.std.proofs.Common.{◌≡◌, sym, ap, ◌∙◌, subst, inl, inr}
use Rattle.line_instance.specs.Line.{Line}
use Rattle.line_rules.specs.Balance.{all_tasks}
use Rattle.line_rules.specs.Entries.{HasAnswer}
use Rattle.line_rules.specs.declared.types.Why.TheVariants as why
use Rattle.round_run.specs.Rounds.{by_bound}
use Rattle.round_run.proofs.BoundEntries.{adds_bound, has_bound}
use Rattle.round_run.proofs.bounding.refute_by_bound.Goals as goal

same_entry : (c : goal.In-Known) → record {
  set = c.all.result;
  most = c.args.most;
  cycle = c.cycle.result;
  why =
      why.Bound;
}
    ≡ by_bound c.args.book.now.about.line c.args.most c.args.book.now.about.cycle
same_entry c =
    let s = c.all.ensures.value ∙ sym (ap (λ (z : Line). all_tasks z) c.requires.same) in
    let q = c.cycle.ensures in
    λ i. record { set = s i; most = c.args.most; cycle = q i; why = why.Bound }

pub returns-in-Known-clause-adds : goal.returns-in-Known-clause-adds
returns-in-Known-clause-adds c =
    adds_bound c.args.book.now c.args.most
    (record { set = c.all.result; most = c.args.most; cycle = c.cycle.result; why = why.Bound }) c.publish.new.self
    c.publish.result (same_entry c) c.publish.ensures.does

pub returns-in-Known-clause-answered : goal.returns-in-Known-clause-answered
returns-in-Known-clause-answered c =
    let P : Line → Type 0 =
    λ z. HasAnswer c.publish.new.self.state.entries (all_tasks z) c.args.most c.args.book.now.about.cycle in
    subst P c.requires.same (has_bound c.args.book.now c.args.most
    (record { set = c.all.result; most = c.args.most; cycle = c.cycle.result; why = why.Bound }) c.publish.new.self
    c.publish.result (same_entry c) c.publish.ensures.does
    (λ n. elim c.in-Known.is [ inl k ↦ (let e = k.1 in cc) | inr a ↦ (let e = a.1 in cc) ]))
