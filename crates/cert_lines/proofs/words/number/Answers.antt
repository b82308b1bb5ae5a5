use Rattle.std.proofs.Common.{◌≡◌, ◌∙◌, sym, ap, arith, get_or, true, false, inl, inr, min}
use Rattle.std.proofs.lemmas.Bool.Decides.{nat_tests}
use Rattle.std.proofs.lemmas.List.{take_all, drop_all}
use Rattle.line_io.specs.Lines.{is_digit, all_digits, value_of}
use Rattle.cert_lines.specs.Words.{greatest}
use Rattle.cert_lines.proofs.Parts.{digits_stop, value_next, number_is, number_none, number_unplain}
use Rattle.cert_lines.proofs.Parts.{digit_low, digit_high}
use Rattle.cert_lines.proofs.words.number.Goals as goal
use Rattle.line_io.proofs.ReadFacts.{digits_next}

pub returns-then-is_unplain : goal.returns-then-is_unplain
returns-then-is_unplain c = number_unplain c.args.word.now (sym c.is_unplain.ensures ∙ c.if-is_unplain.true)

pub loop-b-preserved : goal.loop-b-preserved
loop-b-preserved c =
    let is_one : is_digit (get_or c.args.word.now c.loop-b.b-index 0) ≡ true =
    grind (arith, nat_tests, c.if-b-lt48.false, c.if-b-gt57.false) in
    record {
      digits = digits_next c.loop-b.b-index c.args.word.now c.loop-b-test.true is_one ∙ c.loop-b.invariant.digits;
      value = value_next c.loop-b.b-index c.from.result c.loop-b.value c.saturating_mul.result
          c.saturating_add-value.result c.args.word.now c.loop-b-test.true
          c.loop-b.invariant.value c.from.ensures c.saturating_mul.ensures c.saturating_add-value.ensures;
    }

pub returns : goal.returns
returns c =
    number_is c.args.word.now c.loop-b.value (sym c.is_unplain.ensures ∙ c.if-is_unplain.false)
    (sym c.loop-b.invariant.digits ∙ ap all_digits (drop_all c.loop-b.b-index c.args.word.now c.loop-b-test.false))
    (c.loop-b.invariant.value ∙ ap (λ w. min (value_of w) greatest)
    (take_all c.loop-b.b-index c.args.word.now c.loop-b-test.false))

pub returns-then-b-lt48 : goal.returns-then-b-lt48
returns-then-b-lt48 c =
    let b = get_or c.args.word.now c.loop-b.b-index 0 in
    let none : is_digit b ≡ false = elim c.then-b-lt48.either
    [ inl h ↦ digit_low b h | inr h ↦ digit_high b (omega arith) ] in
    number_none c.args.word.now (sym c.is_unplain.ensures ∙ c.if-is_unplain.false)
    (sym c.loop-b.invariant.digits ∙ digits_stop c.loop-b.b-index c.args.word.now c.loop-b-test.true none)
