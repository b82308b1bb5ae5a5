use Rattle.std.proofs.Common.{◌≡◌, ◌∙◌, sym, ap, [], drop, ◌+◌, ◌/◌, length, eq-eqb}
use Rattle.std.proofs.lemmas.List.{drop_all}
use Rattle.std.proofs.lemmas.Bool.{ne_eqb}
use Rattle.cert_lines.specs.Words.{are_digits, with_digits, with_digit, is_spare}
use Rattle.cert_lines.proofs.SetWords.{digits_more, digits_no_hex, digits_no_spare, digits_end, set_end, set_more}
use Rattle.cert_lines.proofs.SetWords.{set_short, set_none, set_is}
use Rattle.cert_lines.proofs.words.set_of.Goals as goal

pub returns-then-word-tasks : goal.returns-then-word-tasks
returns-then-word-tasks c = set_short c.args.tasks c.args.word.now
    (ne_eqb (length c.args.word.now) ((c.args.tasks + 3) / 4) c.if-word-tasks.true)

pub returns-then-not-is_hex : goal.returns-then-not-is_hex
returns-then-not-is_hex c =
    set_none c.args.tasks c.args.word.now (sym c.loop-k.invariant.digits
    ∙ digits_no_hex c.args.tasks c.loop-k.k c.args.word.now c.loop-k-test.true (sym c.if-not-is_hex.ensures))

pub returns-then-not-put_digit : goal.returns-then-not-put_digit
returns-then-not-put_digit c =
    set_none c.args.tasks c.args.word.now
    (sym c.loop-k.invariant.digits
    ∙ digits_no_spare c.args.tasks c.loop-k.k c.args.word.now c.loop-k-test.true
    (ap (is_spare c.args.tasks c.loop-k.k) (sym c.hex_value.ensures) ∙ sym c.if-not-put_digit.ensures.may))

pub loop-k-preserved : goal.loop-k-preserved
loop-k-preserved c = record {
  digits = digits_more c.args.tasks c.loop-k.k c.args.word.now c.loop-k-test.true (sym c.if-not-is_hex.ensures)
      (ap (is_spare c.args.tasks c.loop-k.k) (sym c.hex_value.ensures) ∙ sym c.if-not-put_digit.ensures.may)
      ∙ c.loop-k.invariant.digits;
  set =
      ap (λ s. with_digits s (c.loop-k.k + 1) (drop (c.loop-k.k + 1) c.args.word.now))
      (c.put_digit.ensures.put c.if-not-put_digit.false
      ∙ ap (with_digit c.loop-k.set c.loop-k.k) c.hex_value.ensures)
      ∙ set_more c.loop-k.set c.loop-k.k c.args.word.now c.loop-k-test.true ∙ c.loop-k.invariant.set;
}

pub returns : goal.returns
returns c =
    let none : drop c.loop-k.k c.args.word.now ≡ [] = drop_all c.loop-k.k c.args.word.now c.loop-k-test.false in
    set_is c.args.tasks c.args.word.now c.loop-k.set (eq-eqb (length c.args.word.now) ((c.args.tasks + 3) / 4)
    c.if-word-tasks.false)
    (sym c.loop-k.invariant.digits ∙ ap (are_digits c.args.tasks c.loop-k.k) none
    ∙ digits_end c.args.tasks c.loop-k.k c.args.word.now)
    (sym (set_end c.loop-k.set c.loop-k.k) ∙ ap (with_digits c.loop-k.set c.loop-k.k) (sym none)
    ∙ c.loop-k.invariant.set)
