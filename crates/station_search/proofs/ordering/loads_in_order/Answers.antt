use Rattle.std.proofs.Common.{◌≡◌, ℕ, suc, ◌+◌, ◌-◌, ◌<◌, List, ◌++◌, take, drop, refl, sym, ap, ◌∙◌, arith, Option}
use Rattle.std.proofs.Common.{Some, None}
use Rattle.std.specs.Prelude.{slice_get}
use Rattle.std.proofs.lemmas.List.{append_assoc, append-nil}
use Rattle.line_rules.specs.declared.types.Load.{Load}
use Rattle.line_rules.specs.declared.types.OpenFrame.{OpenFrame}
use Rattle.station_search.specs.inner.Order.{fore_load, back_load, one, fores, backs}
use Rattle.station_search.proofs.Orders.{in_order, fores_push, backs_push}
use Rattle.station_search.proofs.ordering.loads_in_order.Goals as goal
use Rattle.station_search.proofs.ordering.loads_in_order.Goals.{in-Some+in_ok-push, in_default}

fore_step : (fs : List OpenFrame) (k : ℕ) (f : OpenFrame) (old new : List Load) (x : Option Load)
    → slice_get fs k ≡ Some f → x ≡ fore_load f.mode f.last → old ≡ fores (take k fs) → new ≡ old ++ one x
    → new ≡ fores (take (k + 1) fs)
fore_step fs k f old new x e q h n =
    let s : suc k ≡ k + 1 = omega arith in
    n ∙ (ap (λ (z : List Load). z ++ one x) h ∙ (ap (λ (z : Option Load). fores (take k fs) ++ one z) q
    ∙ (sym (fores_push fs k f e) ∙ ap (λ (z : ℕ). fores (take z fs)) s)))

back_step : (fs : List OpenFrame) (k : ℕ) (f : OpenFrame) (old new : List Load) (x : Option Load) → 0 < k
    → slice_get fs (k - 1) ≡ Some f → x ≡ back_load f.mode f.last → old ≡ fores fs ++ backs (drop k fs)
    → new ≡ old ++ one x → new ≡ fores fs ++ backs (drop (k - 1) fs)
back_step fs k f old new x l e q h n =
    let s : k ≡ suc (k - 1) = omega (arith, l) in
    n ∙ (ap (λ (z : List Load). z ++ one x) h ∙ (append_assoc (fores fs) (backs (drop k fs)) (one x)
    ∙ ap (λ (z : List Load). fores fs ++ z) (ap (λ (z : Option Load). backs (drop k fs) ++ one z) q
    ∙ (ap (λ (z : ℕ). backs (drop z fs) ++ one (back_load f.mode f.last)) s ∙ sym (backs_push fs (k - 1) f e)))))

-- nothing is pushed where there is none
stays : (old new : List Load) (x : Option Load) → x ≡ None → new ≡ old → new ≡ old ++ one x
stays old new x e n = n ∙ (sym (append-nil old) ∙ ap (λ (z : Option Load). old ++ one z) (sym e))

pub loop-k-preserved : goal.loop-k-preserved
loop-k-preserved c = elim c.match-at_front.branch [
  | in-Some+in_ok-push w ↦ fore_step c.args.frames.now c.loop-k.k c.at.result.now c.loop-k.loads c.match-at_front.loads
      c.at_front.result c.at.ensures c.at_front.ensures c.loop-k.invariant
      (w.loads-is ∙ (w.in_ok-push.ensures.ok ∙ ap (λ (z : Option Load). c.loop-k.loads ++ one z) (sym w.in-Some.is)))
  | in_default w ↦ fore_step c.args.frames.now c.loop-k.k c.at.result.now c.loop-k.loads c.match-at_front.loads
      c.at_front.result c.at.ensures c.at_front.ensures c.loop-k.invariant
      (stays c.loop-k.loads c.match-at_front.loads c.at_front.result w.in_default.is w.loads-is)
]

pub loop-left-preserved-in-Continue-branch-2 : goal.loop-left-preserved-in-Continue-branch-2
loop-left-preserved-in-Continue-branch-2 c = record {
  within = omega (arith, c.loop-left.invariant.within);
  pushed = back_step c.args.frames.now c.loop-left.left c.at-in-loop-left.result.now c.loop-left.loads
      c.push-in-Some-at_back.new.self c.at_back.result c.loop-left-test.true c.at-in-loop-left.ensures c.at_back.ensures
      c.loop-left.invariant.pushed
      (c.in_ok-push-2.ensures.ok ∙ ap (λ (z : Option Load). c.loop-left.loads ++ one z) (sym c.in-Some-at_back.is));
}

pub loop-left-preserved : goal.loop-left-preserved
loop-left-preserved c = record {
  within = omega (arith, c.loop-left.invariant.within);
  pushed = back_step c.args.frames.now c.loop-left.left c.at-in-loop-left.result.now c.loop-left.loads c.loop-left.loads
      c.at_back.result c.loop-left-test.true c.at-in-loop-left.ensures c.at_back.ensures c.loop-left.invariant.pushed
      (stays c.loop-left.loads c.loop-left.loads c.at_back.result c.in_default-at_back.is refl);
}

pub returns : goal.returns
returns c =
    let z : c.loop-left.left ≡ 0 = omega (arith, c.loop-left-test.false) in
    c.loop-left.invariant.pushed ∙ (ap (λ (n : ℕ). fores c.args.frames.now ++ backs (drop n c.args.frames.now)) z
    ∙ sym (in_order c.args.frames.now))
