use Rattle.std.proofs.Common.{◌≡◌, ℕ, ◌-◌, ◌<◌, get_or, length, refl, sym, ap, ◌∙◌, subst, arith, List, Some}
use Rattle.std.specs.Prelude.{slice_get, slice_index}
use Rattle.std.proofs.lemmas.Option.{slice_get_read, same_Some}
use Rattle.line_rules.specs.Entries.{Answers}
use Rattle.line_rules.specs.declared.types.Entry.{Entry}
use Rattle.lemma_core.specs.declared.index.Link.{Link}
use Rattle.line_rules.specs.lines.Tags.{tag_of}
use Rattle.lemma_core.specs.inner.Chains.{bucket_in, IsIndexOf}
use Rattle.lemma_core.proofs.Runs.{answers_is}
use Rattle.lemma_core.proofs.LastAnswers.{last_is, none_is, fails_so}
use Rattle.lemma_core.proofs.ChainFacts.{IsAt, at_place, at_end, length_links, none_has, walk_first, walk_below}
use Rattle.lemma_core.proofs.ChainFacts.{walk_next, other_tag, read_at}
use Rattle.lemma_core.proofs.index.Index.find.Goals as goal

pub returns-then-not-may_have : goal.returns-then-not-may_have
returns-then-not-may_have c =
    let s = c.args.self.now in
    sym (none_is c.args.entries.now c.args.set.now c.args.most c.args.cycle
    (none_has c.args.entries.now s.heads.items s.links.items s.sieve.items c.requires c.args.set.now c.args.most
    c.args.cycle
    (λ k e. c.may_have.ensures.absent c.if-not-may_have.true k (e ∙ ap (λ (t : ℕ). Some t) (sym c.tag-tag.ensures)))))

pub chain-init : goal.chain-init
chain-init c =
    let s = c.args.self.now in
    let some : 0 < length s.heads.items = omega (
      arith,
      c.may_have.ensures.heads c.if-not-may_have.false,
      s.heads.ok.0,
    ) in
    let b : c.bucket.result ≡ bucket_in (length s.heads.items) (tag_of c.args.set.now) =
    c.bucket.ensures.value ∙ (λ i. bucket_in ((c.len.ensures ∙ s.heads.ok.0) i) (c.tag-tag.ensures i)) in
    let r : slice_index s.heads.items c.bucket.result ≡ c.index-at.result.now =
    read_at s.heads.items c.bucket.result c.index-at.result.now
    (omega (arith, c.bucket.ensures.within, c.len.ensures, s.heads.ok.0)) c.index-at.ensures in
    walk_first c.args.entries.now s.heads.items s.links.items s.sieve.items c.requires c.args.set.now c.args.most
    c.args.cycle c.index-at.result.now some
    (ap (λ (x : ℕ). slice_index s.heads.items x) (sym b) ∙ r)

-- a link that was read
read : (es : List Entry) (heads : List ℕ) (ls : List Link) (sieve : List ℕ) (p : ℕ) (l : Link)
    → IsIndexOf es heads ls sieve → p < length es → l ≡ get_or ls p l → slice_get ls p ≡ Some l
read es heads ls sieve p l h within e = slice_get_read ls (length ls) p l refl
    (omega (arith, within, length_links es heads ls sieve h)) e

pub returns-then-is_answer : goal.returns-then-is_answer
returns-then-is_answer c =
    let s = c.args.self.now in
    let at : IsAt (bucket_in (length s.heads.items)) c.args.entries.now c.args.set.now c.args.most c.args.cycle
    (c.chain.at - 1) =
    at_place (bucket_in (length s.heads.items)) c.args.entries.now c.args.set.now c.args.most c.args.cycle c.chain.at
    c.chain-test.true c.chain.invariant in
    sym (last_is c.args.entries.now c.args.set.now c.args.most c.args.cycle (c.chain.at - 1) (record {
      entry = c.at.result.now;
      there = c.at.ensures;
      answers = answers_is c.at.result.now c.args.set.now c.args.most c.args.cycle
          (sym c.is_answer.ensures ∙ c.if-is_answer.true);
      last = at.above;
    }))

pub chain-smaller-else-is_answer : goal.chain-smaller-else-is_answer
chain-smaller-else-is_answer c =
    let s = c.args.self.now in
    let at : IsAt (bucket_in (length s.heads.items)) c.args.entries.now c.args.set.now c.args.most c.args.cycle
    (c.chain.at - 1) =
    at_place (bucket_in (length s.heads.items)) c.args.entries.now c.args.set.now c.args.most c.args.cycle c.chain.at
    c.chain-test.true c.chain.invariant in
    omega (
      arith,
      walk_below c.args.entries.now s.heads.items s.links.items s.sieve.items c.requires c.args.set.now c.args.most
          c.args.cycle (c.chain.at - 1) at c.index-link.result.now
          (read c.args.entries.now s.heads.items s.links.items s.sieve.items (c.chain.at - 1) c.index-link.result.now
          c.requires at.within c.index-link.ensures),
      c.chain-test.true,
    )

pub chain-preserved-else-is_answer : goal.chain-preserved-else-is_answer
chain-preserved-else-is_answer c =
    let s = c.args.self.now in
    let at : IsAt (bucket_in (length s.heads.items)) c.args.entries.now c.args.set.now c.args.most c.args.cycle
    (c.chain.at - 1) =
    at_place (bucket_in (length s.heads.items)) c.args.entries.now c.args.set.now c.args.most c.args.cycle c.chain.at
    c.chain-test.true c.chain.invariant in
    let P : Entry → Type 0 = λ x. Answers x c.args.set.now c.args.most c.args.cycle → ⊥ in
    walk_next c.args.entries.now s.heads.items s.links.items s.sieve.items c.requires c.args.set.now c.args.most
    c.args.cycle (c.chain.at - 1) at c.index-link.result.now
    (read c.args.entries.now s.heads.items s.links.items s.sieve.items (c.chain.at - 1) c.index-link.result.now
    c.requires at.within c.index-link.ensures)
    (λ e g. subst P (same_Some c.at.result.now e (sym c.at.ensures ∙ g))
    (fails_so c.at.result.now c.args.set.now c.args.most c.args.cycle
    (sym c.is_answer.ensures ∙ c.if-is_answer.false)))

pub chain-smaller : goal.chain-smaller
chain-smaller c =
    let s = c.args.self.now in
    let at : IsAt (bucket_in (length s.heads.items)) c.args.entries.now c.args.set.now c.args.most c.args.cycle
    (c.chain.at - 1) =
    at_place (bucket_in (length s.heads.items)) c.args.entries.now c.args.set.now c.args.most c.args.cycle c.chain.at
    c.chain-test.true c.chain.invariant in
    omega (
      arith,
      walk_below c.args.entries.now s.heads.items s.links.items s.sieve.items c.requires c.args.set.now c.args.most
          c.args.cycle (c.chain.at - 1) at c.index-link.result.now
          (read c.args.entries.now s.heads.items s.links.items s.sieve.items (c.chain.at - 1) c.index-link.result.now
          c.requires at.within c.index-link.ensures),
      c.chain-test.true,
    )

pub chain-preserved : goal.chain-preserved
chain-preserved c =
    let s = c.args.self.now in
    let at : IsAt (bucket_in (length s.heads.items)) c.args.entries.now c.args.set.now c.args.most c.args.cycle
    (c.chain.at - 1) =
    at_place (bucket_in (length s.heads.items)) c.args.entries.now c.args.set.now c.args.most c.args.cycle c.chain.at
    c.chain-test.true c.chain.invariant in
    let there : slice_get s.links.items (c.chain.at - 1) ≡ Some c.index-link.result.now =
    read c.args.entries.now s.heads.items s.links.items s.sieve.items (c.chain.at - 1) c.index-link.result.now
    c.requires at.within c.index-link.ensures in
    walk_next c.args.entries.now s.heads.items s.links.items s.sieve.items c.requires c.args.set.now c.args.most
    c.args.cycle (c.chain.at - 1) at c.index-link.result.now there
    (other_tag c.args.entries.now s.heads.items s.links.items s.sieve.items c.requires c.args.set.now c.args.most
    c.args.cycle (c.chain.at - 1) at c.index-link.result.now there
    (λ t. c.if-link-tag.false (t ∙ sym c.tag-tag.ensures)))

pub returns : goal.returns
returns c =
    let s = c.args.self.now in
    sym (none_is c.args.entries.now c.args.set.now c.args.most c.args.cycle
    (at_end (bucket_in (length s.heads.items)) c.args.entries.now c.args.set.now c.args.most c.args.cycle c.chain.at
    c.chain-test.false c.chain.invariant))
