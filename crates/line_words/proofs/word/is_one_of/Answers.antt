use Rattle.std.proofs.Common.{◌∙◌, sym, map, drop, ◌+◌, get_or, []}
use Rattle.line_words.specs.Table.{one_of}
use Rattle.line_words.proofs.Splits.{key_at, one_hit, one_miss}
use Rattle.line_words.proofs.word.is_one_of.Goals as goal

pub returns-then-eq : goal.returns-then-eq
returns-then-eq c =
    let ks = c.args.keys.now in
    let i = c.loop-i.i in
    let texts = map (λ k. k.now) ks in
    one_hit c.args.key.now (get_or ks i record { ref_ptr = (0, 0); now = [] }).now (drop i texts) (drop (i + 1) texts)
    (key_at ks i _ c.loop-i-test.true) (one_of c.args.key.now texts) c.loop-i.invariant
    (sym c.eq.ensures ∙ c.if-eq.true)

pub loop-i-preserved : goal.loop-i-preserved
loop-i-preserved c =
    let ks = c.args.keys.now in
    let i = c.loop-i.i in
    let texts = map (λ k. k.now) ks in
    one_miss c.args.key.now (get_or ks i record { ref_ptr = (0, 0); now = [] }).now (drop i texts) (drop (i + 1) texts)
    (key_at ks i _ c.loop-i-test.true) (one_of c.args.key.now texts) c.loop-i.invariant
    (sym c.eq.ensures ∙ c.if-eq.false)
