use Rattle.std.proofs.Common.{◌++◌, ◌∷◌, [], ◌≡◌, ℕ, ◌≤◌, List, refl, ap, subst, arith, ◌∙◌, Some}
use Rattle.std.specs.Prelude.{slice_get}
use Rattle.sequence_rules.specs.States.{state_bound, root_starts}
use Rattle.sequence_rules.specs.Entries.{HasAnswer}
use Rattle.sequence_values.specs.declared.types.SeqEntry.{SeqEntry}
use Rattle.sequence_search.specs.About.{charges_of}
use Rattle.sequence_search.proofs.BookFacts.{book_kept}
use Rattle.sequence_search.proofs.OrderFacts.{root_entry, root_book, root_shown, row_within}
use Rattle.sequence_search.proofs.ordering.root_entries.Goals as goal

pub shown_need-shown-requires-clause-rows : goal.shown_need-shown-requires-clause-rows
shown_need-shown-requires-clause-rows g c = λ k e there.
    let P : List SeqEntry → Type 0 = λ es. slice_get es k ≡ Some e in
    row_within c.args.times.now g.about.charges e c.requires.0 (c.requires.1.1.1.1.1.1.1.0 k e (subst P c.requires.1.1.1.1.1.0 there))

pub returns-then-bound-shown-clause-book : goal.returns-then-bound-shown-clause-book
returns-then-bound-shown-clause-book g c =
    let t = c.args.times.now in
    let kept : c.args.kept.now ≡ g.about.kept = c.requires.1.1.1.1.1.0 in
    let rem : c.in_ok-rem.field-0.rem ≡ t.demands = c.in_ok-rem.ensures.rem in
    let starts : c.in_ok-rem.field-0.starts ≡ root_starts t = c.in_ok-rem.ensures.starts in
    let A : List ℕ → List SeqEntry → List ℕ → List ℕ → Type 0 = λ cs es a b. (need : ℕ) → HasAnswer cs es a b need
    → need ≤ c.shown_need-shown.result in
    let most : A (charges_of g.about) g.about.kept t.demands (root_starts t) =
    subst (λ (cs : List ℕ). A cs g.about.kept t.demands (root_starts t)) c.requires.1.1.1.0
    (subst (λ (es : List SeqEntry). A c.args.charges.now es t.demands (root_starts t)) kept
    (subst (λ (a : List ℕ). A c.args.charges.now c.args.kept.now a (root_starts t)) (c.as_slice-3.ensures ∙ rem)
    (subst (λ (b : List ℕ). A c.args.charges.now c.args.kept.now c.as_slice-3.result.now b)
    (c.as_slice-4.ensures ∙ starts) c.shown_need-shown.ensures.most))) in
    book_kept t c.args.interval c.args.reach g.about c.in_ok-entries.entries c.shown_need-shown.result
    (c.in_ok-entries.ensures ∙ kept) c.requires.1.1.1.1.1.1.0 c.requires.1.1.1.1.1.1.1.0 most

pub returns-then-bound-shown-clause-raised : goal.returns-then-bound-shown-clause-raised
returns-then-bound-shown-clause-raised g c =
    let t = c.args.times.now in
    let kept : c.args.kept.now ≡ g.about.kept = c.requires.1.1.1.1.1.0 in
    let rem : c.in_ok-rem.field-0.rem ≡ t.demands = c.in_ok-rem.ensures.rem in
    let starts : c.in_ok-rem.field-0.starts ≡ root_starts t = c.in_ok-rem.ensures.starts in
    let A : List ℕ → List SeqEntry → List ℕ → List ℕ → Type 0 = λ cs es a b. (need : ℕ) → HasAnswer cs es a b need
    → need ≤ c.shown_need-shown.result in
    let most : A (charges_of g.about) g.about.kept t.demands (root_starts t) =
    subst (λ (cs : List ℕ). A cs g.about.kept t.demands (root_starts t)) c.requires.1.1.1.0
    (subst (λ (es : List SeqEntry). A c.args.charges.now es t.demands (root_starts t)) kept
    (subst (λ (a : List ℕ). A c.args.charges.now c.args.kept.now a (root_starts t)) (c.as_slice-3.ensures ∙ rem)
    (subst (λ (b : List ℕ). A c.args.charges.now c.args.kept.now c.as_slice-3.result.now b)
    (c.as_slice-4.ensures ∙ starts) c.shown_need-shown.ensures.most))) in
    let bound : List ℕ → List ℕ → ℕ = state_bound t c.args.interval c.args.reach in
    let own : c.state_bound-bound.result ≡ bound c.in_ok-rem.field-0.rem c.in_ok-rem.field-0.starts =
    c.state_bound-bound.ensures.bound ∙ ap (λ r. bound r c.as_slice-2.result.now) c.as_slice.ensures
    ∙ ap (bound c.in_ok-rem.field-0.rem) c.as_slice-2.ensures in
    let root : bound c.in_ok-rem.field-0.rem c.in_ok-rem.field-0.starts ≡ bound t.demands (root_starts t) =
    ap (λ r. bound r c.in_ok-rem.field-0.starts) rem ∙ ap (bound t.demands) starts in
    record { root = omega (arith, own, root, c.if-bound-shown.true); kept = most }

pub returns-clause-book : goal.returns-clause-book
returns-clause-book g c =
    let t = c.args.times.now in
    let kept : c.args.kept.now ≡ g.about.kept = c.requires.1.1.1.1.1.0 in
    let rem : c.in_ok-rem.field-0.rem ≡ t.demands = c.in_ok-rem.ensures.rem in
    let starts : c.in_ok-rem.field-0.starts ≡ root_starts t = c.in_ok-rem.ensures.starts in
    let A : List ℕ → List SeqEntry → List ℕ → List ℕ → Type 0 = λ cs es a b. (need : ℕ) → HasAnswer cs es a b need
    → need ≤ c.shown_need-shown.result in
    let most : A (charges_of g.about) g.about.kept t.demands (root_starts t) =
    subst (λ (cs : List ℕ). A cs g.about.kept t.demands (root_starts t)) c.requires.1.1.1.0
    (subst (λ (es : List SeqEntry). A c.args.charges.now es t.demands (root_starts t)) kept
    (subst (λ (a : List ℕ). A c.args.charges.now c.args.kept.now a (root_starts t)) (c.as_slice-3.ensures ∙ rem)
    (subst (λ (b : List ℕ). A c.args.charges.now c.args.kept.now c.as_slice-3.result.now b)
    (c.as_slice-4.ensures ∙ starts) c.shown_need-shown.ensures.most))) in
    let bound : List ℕ → List ℕ → ℕ = state_bound t c.args.interval c.args.reach in
    let own : c.state_bound-bound.result ≡ bound c.in_ok-rem.field-0.rem c.in_ok-rem.field-0.starts =
    c.state_bound-bound.ensures.bound ∙ ap (λ r. bound r c.as_slice-2.result.now) c.as_slice.ensures
    ∙ ap (bound c.in_ok-rem.field-0.rem) c.as_slice-2.ensures in
    let root : bound c.in_ok-rem.field-0.rem c.in_ok-rem.field-0.starts ≡ bound t.demands (root_starts t) =
    ap (λ r. bound r c.in_ok-rem.field-0.starts) rem ∙ ap (bound t.demands) starts in
    let e : SeqEntry = root_entry c.in_ok-rem.field-0.rem c.in_ok-rem.field-0.starts c.state_bound-bound.result in
    root_book t c.args.interval c.args.reach g.about c.shown_need-shown.result c.state_bound-bound.result
    c.in_ok-rem.field-0.rem c.in_ok-rem.field-0.starts c.push.new.self c.requires.0 rem starts own
    (omega (arith, own, root, c.requires.1.1.1.1.1.1.1.1)) c.if-bound-shown.false
    (book_kept t c.args.interval c.args.reach g.about g.about.kept c.shown_need-shown.result refl c.requires.1.1.1.1.1.1.0
    c.requires.1.1.1.1.1.1.1.0 most) most
    (c.in_ok-push.ensures.ok ∙ ap (λ (xs : List SeqEntry). xs ++ e ∷ []) (c.in_ok-entries.ensures ∙ kept))

pub returns-clause-shown : goal.returns-clause-shown
returns-clause-shown g c = λ some.
    let t = c.args.times.now in
    let kept : c.args.kept.now ≡ g.about.kept = c.requires.1.1.1.1.1.0 in
    let rem : c.in_ok-rem.field-0.rem ≡ t.demands = c.in_ok-rem.ensures.rem in
    let starts : c.in_ok-rem.field-0.starts ≡ root_starts t = c.in_ok-rem.ensures.starts in
    let e : SeqEntry = root_entry c.in_ok-rem.field-0.rem c.in_ok-rem.field-0.starts c.state_bound-bound.result in
    root_shown (charges_of g.about) t c.state_bound-bound.result c.in_ok-rem.field-0.rem c.in_ok-rem.field-0.starts
    g.about.kept c.push.new.self rem starts
    (c.in_ok-push.ensures.ok ∙ ap (λ (xs : List SeqEntry). xs ++ e ∷ []) (c.in_ok-entries.ensures ∙ kept))

pub returns-clause-raised : goal.returns-clause-raised
returns-clause-raised g c =
    let t = c.args.times.now in
    let kept : c.args.kept.now ≡ g.about.kept = c.requires.1.1.1.1.1.0 in
    let rem : c.in_ok-rem.field-0.rem ≡ t.demands = c.in_ok-rem.ensures.rem in
    let starts : c.in_ok-rem.field-0.starts ≡ root_starts t = c.in_ok-rem.ensures.starts in
    let A : List ℕ → List SeqEntry → List ℕ → List ℕ → Type 0 = λ cs es a b. (need : ℕ) → HasAnswer cs es a b need
    → need ≤ c.shown_need-shown.result in
    let most : A (charges_of g.about) g.about.kept t.demands (root_starts t) =
    subst (λ (cs : List ℕ). A cs g.about.kept t.demands (root_starts t)) c.requires.1.1.1.0
    (subst (λ (es : List SeqEntry). A c.args.charges.now es t.demands (root_starts t)) kept
    (subst (λ (a : List ℕ). A c.args.charges.now c.args.kept.now a (root_starts t)) (c.as_slice-3.ensures ∙ rem)
    (subst (λ (b : List ℕ). A c.args.charges.now c.args.kept.now c.as_slice-3.result.now b)
    (c.as_slice-4.ensures ∙ starts) c.shown_need-shown.ensures.most))) in
    let bound : List ℕ → List ℕ → ℕ = state_bound t c.args.interval c.args.reach in
    let own : c.state_bound-bound.result ≡ bound c.in_ok-rem.field-0.rem c.in_ok-rem.field-0.starts =
    c.state_bound-bound.ensures.bound ∙ ap (λ r. bound r c.as_slice-2.result.now) c.as_slice.ensures
    ∙ ap (bound c.in_ok-rem.field-0.rem) c.as_slice-2.ensures in
    let root : bound c.in_ok-rem.field-0.rem c.in_ok-rem.field-0.starts ≡ bound t.demands (root_starts t) =
    ap (λ r. bound r c.in_ok-rem.field-0.starts) rem ∙ ap (bound t.demands) starts in
    record {
      root = omega (arith, own, root);
      kept = λ n a. omega (arith, most n a, c.if-bound-shown.false);
    }
