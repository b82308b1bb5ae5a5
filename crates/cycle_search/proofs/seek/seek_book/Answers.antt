use Rattle.std.proofs.Common.{◌≡◌, ◌∙◌, ◌+◌, ◌-◌, ◌^◌, ℕ, min, refl, sym, subst, inl, arith}
use Rattle.cycle_search.specs.Seek.{with_seek}
use Rattle.cycle_search.proofs.SeekFacts.{nothing_sought, balance_sought, lemmas_sought, unfound, kept_within}
use Rattle.cycle_search.proofs.seek.seek_book.Goals as goal

pub returns-then-needless : goal.returns-then-needless
returns-then-needless g c = record {
  sought = nothing_sought c.args.stations c.args.plan.now c.args.book c.args.seeks _ refl c.requires.reserved refl
      (λ b e. absurd (cc)) (λ a. a) (λ a. omega (arith, a.kept))
      (inl (refl, refl, c.in_ok-needless.ensures.needless c.if-needless.true));
}

pub returns-then-best-stations : goal.returns-then-best-stations
returns-then-best-stations g c = record {
  sought = balance_sought c.args.stations c.args.plan.now c.args.book c.args.seeks c.args.inst.now c.in-Done.best _
      c.requires.same refl c.requires.reserved refl refl c.in-Done.ensures.right c.if-best-stations.true
      (c.with.ensures.seeks c.args.plan.now refl (omega arith)) (λ a. c.with.ensures.kept) c.in-Done.used
      c.in-Done.ensures.used c.with.ensures.exact;
}

pub returns-in-Done-warm_counted : goal.returns-in-Done-warm_counted
returns-in-Done-warm_counted g c =
    let t = c.in-Done-warm_counted.ensures.units in
    let with = c.with-in-Done-warm_counted in
    let few = kept_within c.room.result c.args.book c.in-Done.lemmas t.0 _ t.1.0 t.1.2 in
    let K : ℕ → Type 0 = λ z. with.result.kept ≡ min (c.args.seeks.kept + z) (2 ^ 64 - 1) in
    let W : ℕ → Type 0 =
    λ z. with.result ≡ with_seek c.args.seeks c.in-Done.used c.args.plan.now.seek z in
    record {
      sought = lemmas_sought c.args.stations c.args.plan.now c.args.book c.args.seeks c.in-Done.lemmas c.room.result
          t.0 _ t.1.0 t.1.1 t.1.3 c.room.ensures c.in-Done.ensures.cycles c.in-Done.ensures.derived
          (omega (arith, c.in-Done.ensures.members, c.in-Done.ensures.used))
          (c.in-Done-warm_counted.ensures.reserved c.requires.reserved) refl
          (with.ensures.seeks c.args.plan.now refl (omega (arith, few, c.room.ensures)))
          (λ a. subst K (c.from.ensures ∙ sym t.1.2) with.ensures.kept) c.in-Done.used c.in-Done.ensures.used
          (subst W (c.from.ensures ∙ sym t.1.2) with.ensures.exact)
          (unfound c.args.book c.args.inst.now c.args.plan.now.seek c.args.stations c.in-Done.used c.in-Done.best
          c.in-Done.lemmas c.requires.same c.requires.some (omega (arith, c.if-best-stations.false))
          c.in-Done.ensures.shown c.in-Done.ensures.over);
    }
