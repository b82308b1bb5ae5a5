use Rattle.std.proofs.Common.{◌≡◌, ◌<◌, get_or, length, ◌∙◌, arith, Some}
use Rattle.std.specs.Prelude.{slice_get}
use Rattle.std.proofs.lemmas.Option.{slice_get-get_or}
use Rattle.lemma_core.specs.declared.index.Link.{Link}
use Rattle.lemma_core.proofs.ChainFacts.{hung_tags, hung_chains, hung_sieve}
use Rattle.lemma_core.proofs.index.hang_all.Goals as goal

pub loop-k-preserved : goal.loop-k-preserved
loop-k-preserved c =
    let i = c.loop-k.invariant in
    let ls = c.loop-k.links in
    let k = c.loop-k.k in
    let l : Link = get_or ls k (record { tag = 0; before = 0 }) in
    let within : k < length ls = omega (arith, c.loop-k.auto.links, c.loop-k-test.true) in
    let there : slice_get ls k ≡ Some l = slice_get-get_or ls k (record { tag = 0; before = 0 }) within in
    let b = c.hang-before.result in
    let heads = c.loop-k.heads in
    let sieve = c.loop-k.sieve in
    let now = c.hang-before.new.heads in
    let marked = c.hang-before.new.sieve in
    record {
      same = hung_tags ls k heads now sieve marked l b within there i.heads i.sieve ∙ i.same;
      heads = omega (arith, i.heads, c.hang-before.auto.heads);
      sieve = omega (arith, i.sieve, c.hang-before.auto.sieve);
      chained = hung_chains ls k heads now sieve marked l b within there i.heads i.sieve c.hang-before.ensures.before
          c.hang-before.ensures.heads i.chained;
      sieved = hung_sieve ls k heads now sieve marked l b within there i.heads i.sieve c.hang-before.ensures.sieve
          i.sieved;
    }
