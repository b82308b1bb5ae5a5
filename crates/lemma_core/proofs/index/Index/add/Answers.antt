use Rattle.std.proofs.Common.{◌≡◌, ℕ, ◌+◌, ◌<◌, List, [], ◌∷◌, ◌++◌, length, take, drop, sym, ap, ◌∙◌, subst, arith}
use Rattle.std.proofs.lemmas.List.{take_at}
use Rattle.std.specs.Prelude.{slice_index, slice_set, bit_or}
use Rattle.lemma_core.specs.declared.index.Link.{Link}
use Rattle.lemma_core.specs.Sieves.{word_in, mark_of}
use Rattle.lemma_core.specs.inner.Chains.{bucket_in, IsIndex}
use Rattle.lemma_core.proofs.ChainFacts.{index_push}
use Rattle.lemma_core.proofs.index.Index.add.Goals as goal

pub returns-clause-index : goal.returns-clause-index
returns-clause-index c =
    let s = c.args.self.now in
    let now = c.hang-before.new.heads in
    let marked = c.hang-before.new.sieve in
    let some : 0 < length s.heads.items = omega (arith, c.requires.heads, s.heads.ok.0) in
    let h : c.as_mut_slice.result.now ≡ s.heads.items = c.as_mut_slice.ensures.value in
    let v : c.as_mut_slice-2.result.now ≡ s.sieve.items = c.as_mut_slice-2.ensures.value in
    let n : c.len.result ≡ length s.links.items = c.len.ensures ∙ s.links.ok.0 in
    let before : c.hang-before.result ≡ slice_index s.heads.items (bucket_in (length s.heads.items) c.args.tag) =
    c.hang-before.ensures.before ∙ ap (λ (xs : List ℕ). slice_index xs (bucket_in (length xs) c.args.tag)) h in
    let heads : now ≡ slice_set s.heads.items (bucket_in (length s.heads.items) c.args.tag) (length s.links.items + 1) =
    c.hang-before.ensures.heads ∙ (λ i. slice_set (h i) (bucket_in (length (h i)) c.args.tag) (n i + 1)) in
    let sieve : marked ≡ slice_set s.sieve.items (word_in (length s.sieve.items) c.args.tag)
    (bit_or (slice_index s.sieve.items (word_in (length s.sieve.items) c.args.tag)) (mark_of c.args.tag)) =
    c.hang-before.ensures.sieve ∙ ap (λ (xs : List ℕ). slice_set xs (word_in (length xs) c.args.tag)
    (bit_or (slice_index xs (word_in (length xs) c.args.tag)) (mark_of c.args.tag))) v in
    let k : IsIndex now (s.links.items ++ record { tag = c.args.tag; before = c.hang-before.result } ∷ []) marked =
    index_push s.heads.items s.links.items s.sieve.items c.args.tag c.hang-before.result now marked c.requires.index
    some before heads sieve in
    let P : List ℕ → Type 0 = λ xs. IsIndex xs (s.links.items
    ++ record { tag = c.args.tag; before = c.hang-before.result } ∷ []) marked in
    let Q : List ℕ → Type 0 = λ xs. IsIndex (take s.heads.len (now ++ drop (length now) s.heads.items))
    (s.links.items ++ record { tag = c.args.tag; before = c.hang-before.result } ∷ []) xs in
    let R : List Link → Type 0 = λ ls. IsIndex (take s.heads.len (now ++ drop (length now) s.heads.items)) ls
    (take s.sieve.len (marked ++ drop (length marked) s.sieve.items)) in
    let a : length now ≡ s.heads.len = omega (
      arith,
      c.hang-before.auto.heads,
      ap (λ (xs : List ℕ). length xs) h,
      s.heads.ok.0,
    ) in
    let b : length marked ≡ s.sieve.len = omega (
      arith,
      c.hang-before.auto.sieve,
      ap (λ (xs : List ℕ). length xs) v,
      s.sieve.ok.0,
    ) in
    subst R (sym c.push_reserved.ensures.items) (subst Q (sym
    (take_at marked (drop (length marked) s.sieve.items) s.sieve.len b))
    (subst P (sym (take_at now (drop (length now) s.heads.items) s.heads.len a)) k))
