use Rattle.std.proofs.Common.{◌∙◌, sym, ap, take, drop, length, ◌-◌, [], ◌∷◌, string_bytes, codes, inl}
use Rattle.line_words.specs.Words.{texts}
use Rattle.line_words.specs.Table.{command_named}
use Rattle.line_words.proofs.Behind.{answered, first_text, rest_is, one_word, alone}
use Rattle.line_words.proofs.reading.job_of.Goals as goal
use Rattle.line_io.proofs.ReadFacts.{same_bytes}

pub returns-then-eq-clause-read : goal.returns-then-eq-clause-read
returns-then-eq-clause-read c =
    let ws = c.args.words.now in
    let one = one_word ws c.is_empty.result c.is_empty.ensures c.if-is_empty.true c.in-len1-up.len_at_least in
    inl (alone ws c.first-item.result one c.first-item.is
    ∙ ap (λ t. t ∷ []) (sym c.as_str.ensures.value ∙ same_bytes c.as_str.result.now (codes "--help")
    (sym c.eq.ensures ∙ c.if-eq.true)))

pub returns-then-eq-2-clause-read : goal.returns-then-eq-2-clause-read
returns-then-eq-2-clause-read c =
    let ws = c.args.words.now in
    let one = one_word ws c.is_empty-2.result c.is_empty-2.ensures c.if-is_empty-2.true c.in-len1-up.len_at_least in
    inl (alone ws c.first-item.result one c.first-item.is
    ∙ ap (λ t. t ∷ []) (sym c.as_str-then-is_empty-2.ensures.value
    ∙ same_bytes c.as_str-then-is_empty-2.result.now (codes "--version")
    (sym c.eq-then-is_empty-2.ensures ∙ c.if-eq-2.true)))

pub returns-in-Some-clause-read : goal.returns-in-Some-clause-read
returns-in-Some-clause-read c =
    let ws = c.args.words.now in
    let w = c.first-item.result in
    answered (texts ws) (string_bytes w) (texts (take (length ws - 1) (drop 1 ws))) c.in-Some.command c.behind.result
    (first_text ws w c.in-len1-up.len_at_least c.first-item.is ∙ ap (λ t. string_bytes w ∷ texts t) (sym (rest_is ws)))
    (ap command_named (sym c.as_str-2.ensures.value) ∙ sym c.command_named.ensures ∙ c.in-Some.is) c.behind.ensures.read
