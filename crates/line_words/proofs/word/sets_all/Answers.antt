use Rattle.std.proofs.Common.{◌∙◌, sym, map, drop, ◌+◌, get_or, []}
use Rattle.line_words.specs.Words.{texts}
use Rattle.line_words.specs.Table.{sets_all}
use Rattle.line_words.proofs.Splits.{key_at, set_none, set_one}
use Rattle.line_words.proofs.word.sets_all.Goals as goal

pub returns-then-not-sets : goal.returns-then-not-sets
returns-then-not-sets c =
    let ks = c.args.keys.now in
    let i = c.loop-i.i in
    let keys = map (λ k. k.now) ks in
    let words = texts c.args.words.now in
    set_none words (get_or ks i record { ref_ptr = (0, 0); now = [] }).now (drop i keys) (drop (i + 1) keys)
    (key_at ks i _ c.loop-i-test.true) (sets_all words keys) c.loop-i.invariant
    (sym c.sets.ensures ∙ c.if-not-sets.true)

pub loop-i-preserved : goal.loop-i-preserved
loop-i-preserved c =
    let ks = c.args.keys.now in
    let i = c.loop-i.i in
    let keys = map (λ k. k.now) ks in
    let words = texts c.args.words.now in
    set_one words (get_or ks i record { ref_ptr = (0, 0); now = [] }).now (drop i keys) (drop (i + 1) keys)
    (key_at ks i _ c.loop-i-test.true) (sets_all words keys) c.loop-i.invariant
    (sym c.sets.ensures ∙ c.if-not-sets.false)
