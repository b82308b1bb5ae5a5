use Rattle.std.proofs.Common.{◌≡◌, Some, ap, sym, ◌∙◌, refl, length, inl, inr, subst, arith}
use Rattle.std.specs.Prelude.{slice_get}
use Rattle.std.proofs.lemmas.Bool.{cases_lt, false≢true}
use Rattle.std.proofs.lemmas.Option.{slice_get_within, slice_get_read, same_Some}
use Rattle.line_rules.specs.Entries.{Answers}
use Rattle.line_rules.specs.declared.types.Entry.{Entry}
use Rattle.entry_lists.proofs.trimming.first_answer.Goals as goal

pub returns-then-answers : goal.returns-then-answers
returns-then-answers c = record {
  entry = c.entry-item.result;
  there = ap (λ es. slice_get es c.loop-k.k) (sym c.as_slice-entry-items.ensures)
      ∙ slice_get_read c.as_slice-entry-items.result.now _ c.loop-k.k c.entry-item.result refl c.loop-k-test.true
      c.entry-item.is;
  answers = c.if-answers.ensures.0 refl;
  first = λ j e l a. c.loop-k.invariant j e l a;
}

pub loop-k-preserved : goal.loop-k-preserved
loop-k-preserved c = λ j e l there answers. elim (cases_lt j c.loop-k.k) [
  | inl b ↦ c.loop-k.invariant j e b there answers
  | inr g ↦
      let same : j ≡ c.loop-k.k = omega arith in
      let here : slice_get c.args.entries.now c.loop-k.k ≡ Some c.entry-item.result =
      ap (λ es. slice_get es c.loop-k.k) (sym c.as_slice-entry-items.ensures)
      ∙ slice_get_read c.as_slice-entry-items.result.now _ c.loop-k.k c.entry-item.result refl c.loop-k-test.true
      c.entry-item.is in
      let x : e ≡ c.entry-item.result = same_Some e c.entry-item.result
      (sym there ∙ ap (slice_get c.args.entries.now) same ∙ here) in
      let P : Entry → Type 0 = λ y. Answers y c.args.set.now c.args.most c.args.cycle in
      let a : Answers c.entry-item.result c.args.set.now c.args.most c.args.cycle = subst P x answers in
      absurd (false≢true (c.if-answers.ensures.1 a))
]

pub unreachable-requires : goal.unreachable-requires
unreachable-requires c =
    c.loop-k.invariant c.requires.0 c.requires.1
    (omega (
      arith,
      slice_get_within c.args.entries.now c.requires.0 c.requires.1 c.requires.2.0,
      ap length c.as_slice-entry-items.ensures,
      c.loop-k-test.false,
    ))
    c.requires.2.0 c.requires.2.1
