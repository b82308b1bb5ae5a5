use Rattle.std.proofs.Common.{◌≡◌, ℕ, ◌/◌, List, ◌∷◌, [], ◌++◌, length, drop, Option, Vec, Global, sym, subst, arith}
use Rattle.std.specs.Prelude.{IfSome}
use Rattle.std.proofs.lemmas.List.{take_at}
use Rattle.book_share.specs.inner.Memo.{AreMarksOf}
use Rattle.book_share.proofs.MemoFacts.{IsPut, put_length, two_more}
use Rattle.book_share.proofs.marks.Marks.put.Goals as goal

pub returns-in-Some : goal.returns-in-Some
returns-in-Some c tags marks =
    let words = c.in-Some.words in
    let mid : List ℕ = c.put_mark.new.words in
    let now : List ℕ = c.put_mark-in-Some.new.words in
    let old : AreMarksOf words.items tags = subst (λ (o : Option (Vec ℕ Global)). IfSome o
    (λ ws. AreMarksOf ws.items tags)) c.in-Some.is marks in
    let first : IsPut words.items c.args.tag mid =
    subst (λ (ws : List ℕ). IsPut ws c.args.tag mid) c.as_mut_slice-words.ensures.value c.put_mark.ensures in
    let second : IsPut mid (c.args.tag / 1024) now =
    subst (λ (t : ℕ). IsPut mid t now) c.second.ensures c.put_mark-in-Some.ensures in
    let long : length now ≡ words.len = omega (
      arith,
      put_length words.items mid c.args.tag first,
      put_length mid now (c.args.tag / 1024) second,
      words.ok.0,
    ) in
    subst (λ (ws : List ℕ). AreMarksOf ws (tags ++ c.args.tag ∷ []))
    (sym (take_at now (drop (length now) words.items) words.len long))
    (two_more words.items mid now tags c.args.tag old first second)
