use Rattle.std.proofs.Common.{◌≡◌, ◌∙◌, length, Some, sym, ap, subst, inl, inr, arith}
use Rattle.std.specs.Prelude.{slice_get}
use Rattle.std.proofs.lemmas.Bool.{cases_eq}
use Rattle.std.proofs.lemmas.Option.{same_Some, slice_get_within}
use Rattle.sequence_values.specs.declared.types.SeqEntry.{SeqEntry}
use Rattle.sequence_rules.specs.Ranges.{IsEntry}
use Rattle.sequence_seek.proofs.testing.are_entries.Goals as goal

pub loop-k-preserved : goal.loop-k-preserved
loop-k-preserved c = λ charges j e l there. elim (cases_eq j c.loop-k.k) [
  | inl is ↦
      let E : SeqEntry → Type 0 = λ x. IsEntry (length c.args.times.now.demands) c.args.times.now.stations
      (Some charges) x in
      let same : c.at.result.now ≡ e =
      same_Some c.at.result.now e (sym c.at.ensures ∙ ap (λ i. slice_get c.args.entries.now i) (sym is) ∙ there) in
      subst E same (c.is_entry.ensures c.if-not-is_entry.false charges)
  | inr other ↦ c.loop-k.invariant charges j e (omega (arith, l, other)) there
]

pub returns : goal.returns
returns c = λ _ charges j e there. c.loop-k.invariant charges j e
    (omega (
      arith,
      slice_get_within c.args.entries.now j e there,
      c.loop-k-test.false,
      c.len-k-end.ensures,
    ))
    there
