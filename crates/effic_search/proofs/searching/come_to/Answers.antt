use Rattle.std.proofs.Common.{subst}
use Rattle.effic_search.specs.inner.Going.{IsSettled}
use Rattle.effic_search.specs.declared.settling.Settled.{Settled}
use Rattle.effic_search.proofs.CertFacts.{solved_is, large_is, spent_is, met_is, cut_is, paid_is, brought_last, trail_by, few_by}
use Rattle.effic_search.proofs.searching.come_to.Goals as goal

pub certified-cert-requires-clause-lowering : goal.certified-cert-requires-clause-lowering
certified-cert-requires-clause-lowering c =
    let w = c.args.wanted in
    let S : Settled → Type 0 =
    λ z. IsSettled w.kind c.args.inst.now w.least w.most w.most c.requires.settled.0 z in
    (subst S c.in-Goes.is c.requires.settled.1).0.lowering

pub certified-requires-clause-lowering : goal.certified-requires-clause-lowering
certified-requires-clause-lowering c =
    let w = c.args.wanted in
    let S : Settled → Type 0 =
    λ z. IsSettled w.kind c.args.inst.now w.least w.most w.most c.requires.settled.0 z in
    (subst S c.in-Large.is c.requires.settled.1).lowering

pub certified-requires-in-Spent-clause-lowering : goal.certified-requires-in-Spent-clause-lowering
certified-requires-in-Spent-clause-lowering c =
    let w = c.args.wanted in
    let S : Settled → Type 0 =
    λ z. IsSettled w.kind c.args.inst.now w.least w.most w.most c.requires.settled.0 z in
    (subst S c.in-Spent.is c.requires.settled.1).lowering

pub certified-requires-in-Spent-clause-trail : goal.certified-requires-in-Spent-clause-trail
certified-requires-in-Spent-clause-trail c =
    let w = c.args.wanted in
    let S : Settled → Type 0 =
    λ z. IsSettled w.kind c.args.inst.now w.least w.most w.most c.requires.settled.0 z in
    trail_by w.kind c.args.inst.now w.least w.most c.requires.settled.0 c.in-Spent.search c.in-Spent.frames
    c.cycle-cycle.result c.in-Spent.closing_from c.cycle-cycle.ensures (subst S c.in-Spent.is c.requires.settled.1)

pub certified-requires-in-Spent-clause-units : goal.certified-requires-in-Spent-clause-units
certified-requires-in-Spent-clause-units c =
    let w = c.args.wanted in
    let S : Settled → Type 0 =
    λ z. IsSettled w.kind c.args.inst.now w.least w.most w.most c.requires.settled.0 z in
    few_by w.kind c.args.inst.now w.least w.most c.requires.settled.0 c.in-Spent.search c.in-Spent.frames
    c.cycle-cycle.result c.in-Spent.closing_from c.cycle-cycle.ensures (subst S c.in-Spent.is c.requires.settled.1)

pub certified-cert-requires-in-NoMemory-clause-lowering : goal.certified-cert-requires-in-NoMemory-clause-lowering
certified-cert-requires-in-NoMemory-clause-lowering c =
    let w = c.args.wanted in
    let S : Settled → Type 0 =
    λ z. IsSettled w.kind c.args.inst.now w.least w.most w.most c.requires.settled.0 z in
    (subst S c.in-NoMemory.is c.requires.settled.1).0

pub returns-in-Goes : goal.returns-in-Goes
returns-in-Goes c = λ plan s.
    let w = c.args.wanted in
    let S : Settled → Type 0 = λ z. IsSettled w.kind c.args.inst.now w.least w.most w.most plan z in
    let is = subst S c.in-Goes.is s in
    let cert = c.certified-cert in (
      solved_is w.kind c.args.inst.now w.least w.most c.in-Goes.search c.tasks-tasks.ensures.line c.requires.some
          c.requires.few cert.result cert.ensures.certified cert.ensures.upper cert.ensures.entries cert.ensures.trail plan is,
      is.1.seeks,
    )

pub returns-in-Large : goal.returns-in-Large
returns-in-Large c = λ plan s.
    let w = c.args.wanted in
    let S : Settled → Type 0 = λ z. IsSettled w.kind c.args.inst.now w.least w.most w.most plan z in
    let is = subst S c.in-Large.is s in
    let cert = c.certified in (
      large_is w.kind c.args.inst.now w.least w.most c.in-Large.search c.tasks-tasks.ensures.line c.requires.some
          c.requires.few cert.result cert.ensures.certified cert.ensures.upper cert.ensures.entries c.tasks-tasks.ensures.ranked
          cert.ensures.trail c.len-closing_from.result c.len-closing_from.ensures.len cert.ensures.fresh
          cert.ensures.derived plan is,
      is.paid.seeks,
    )

pub returns-in-Spent : goal.returns-in-Spent
returns-in-Spent c = λ plan s.
    let w = c.args.wanted in
    let S : Settled → Type 0 = λ z. IsSettled w.kind c.args.inst.now w.least w.most w.most plan z in
    let is = subst S c.in-Spent.is s in
    let cert = c.certified-in-Spent in (
      spent_is w.kind c.args.inst.now w.least w.most c.in-Spent.search c.tasks-tasks.ensures.line c.requires.some
          c.requires.few cert.result cert.ensures.certified cert.ensures.upper cert.ensures.entries c.tasks-tasks.ensures.ranked plan
          c.in-Spent.frames (record { cycle = c.cycle-cycle.result; frames = c.in-Spent.frames })
          (λ i. record { cycle = c.cycle-cycle.ensures i; frames = c.in-Spent.frames }) cert.ensures.trail
          c.in-Spent.closing_from cert.ensures.fresh cert.ensures.derived is,
      is.paid.seeks,
    )

pub returns-then-cert : goal.returns-then-cert
returns-then-cert c = λ plan s.
    let w = c.args.wanted in
    let S : Settled → Type 0 = λ z. IsSettled w.kind c.args.inst.now w.least w.most w.most plan z in
    let is = subst S c.in-NoMemory.is s in
    let h = c.in-NoMemory.search in
    let cert = c.certified-cert-in-NoMemory in (
      met_is w.kind c.args.inst.now w.least w.most cert.result cert.ensures.certified plan h.seeks.kept
          cert.ensures.trail c.if-cert.true
          (paid_is w.kind c.args.inst.now w.least w.most h c.tasks-tasks.ensures.line c.requires.some c.requires.few
          cert.result cert.ensures.certified cert.ensures.upper cert.ensures.entries plan _ is.0 is.1)
          (brought_last w.kind c.args.inst.now w.least w.most h c.tasks-tasks.ensures.line c.requires.some
          c.requires.few cert.result cert.ensures.certified cert.ensures.upper cert.ensures.entries plan is.0 is.1),
      is.1.seeks,
    )

pub returns-else-cert : goal.returns-else-cert
returns-else-cert c = λ plan s.
    let w = c.args.wanted in
    let cert = c.certified-cert-in-NoMemory in
    cut_is w.kind c.args.inst.now w.least w.most cert.result cert.ensures.certified c.if-cert.false
