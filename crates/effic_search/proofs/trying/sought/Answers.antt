use Rattle.std.proofs.Common.{◌≡◌, ◌∙◌, List, length, length-append, refl, sym, ap, subst, arith}
use Rattle.line_instance.specs.Line.{Line}
use Rattle.line_rules.specs.Entries.{IsDerived}
use Rattle.line_rules.specs.declared.types.LineKind.{LineKind}
use Rattle.line_rules.specs.declared.types.Entry.{Entry}
use Rattle.lemma_core.specs.Machine.{About}
use Rattle.lemma_core.specs.Books.{BookView}
use Rattle.cycle_search.proofs.SeekFacts.{room_limit}
use Rattle.effic_search.specs.Counted.{AreGoalsByBound, IsCounted}
use Rattle.effic_search.proofs.AskFacts.{few_behind, goals_behind}
use Rattle.effic_search.proofs.trying.sought.Goals as goal

pub counted-listed-requires-clause-derived : goal.counted-listed-requires-clause-derived
counted-listed-requires-clause-derived g c =
    let book = c.in_ok-sought.sought.book in
    let es = c.entries.result.now in
    let all : book.about ≡ record {
      line = c.args.search.book.about.line;
      kind = c.args.search.book.about.kind;
      cycle = c.args.cycle;
    } = c.in_ok-sought.ensures.sought.about ∙ ap (λ (z : BookView). z.about) c.reopen-book.ensures.reopened in
    let P : LineKind → Type 0 = λ z. IsDerived z book.about.line es in
    let Q : Line → Type 0 = λ z. IsDerived c.kind-kind.result z es in
    subst Q (ap (λ (z : About). z.line) all ∙ c.requires.same)
    (subst P (ap (λ (z : About). z.kind) all ∙ sym c.kind-kind.ensures) c.entries.ensures.derived)

pub counted-listed-requires-clause-small : goal.counted-listed-requires-clause-small
counted-listed-requires-clause-small g c =
    omega (arith, c.requires.small, c.in_ok-sought.ensures.sought.within, room_limit c.args.plan.now)

pub counted-listed-requires-clause-few : goal.counted-listed-requires-clause-few
counted-listed-requires-clause-few g c =
    let s = c.in_ok-sought.ensures.sought in
    omega (
      arith,
      ap (λ (z : List Entry). length z) c.entries.ensures.entries,
      ap (λ (z : List Entry). length z) s.entries,
      ap (λ (z : BookView). length z.state.entries) c.reopen-book.ensures.reopened,
      length-append c.reopen-book.result.state.entries s.gained,
      s.few,
      room_limit c.args.plan.now,
      c.requires.room,
    )

pub returns : goal.returns
returns g c =
    let s = c.in_ok-sought.ensures.sought in
    let line = c.args.search.book.about.line in
    let old = c.reopen-book.result.state.entries in
    let es = c.in_ok-sought.sought.book.state.entries in
    let seen = c.entries-2.result.now in
    let entries : old ≡ c.args.search.book.state.entries =
    ap (λ (z : BookView). z.state.entries) c.reopen-book.ensures.reopened in
    let L : Line → Type 0 = λ z. IsCounted z c.entries.result.now (length c.entries.result.now) c.counted-listed.result in
    let E : List Entry → Type 0 = λ z. IsCounted line z (length z) c.counted-listed.result in
    let G : Line → Type 0 = λ z. AreGoalsByBound z s.gained in
    record {
      cycle = refl;
      balance = refl;
      mid = c.reopen-book.result;
      about = ap (λ (z : BookView). z.about) c.reopen-book.ensures.reopened;
      same = entries;
      sought = c.in_ok-sought.sought;
      book = refl;
      seeks = refl;
      found_is = refl;
      does = s;
      counted = subst E c.entries.ensures.entries (subst L (sym c.requires.same) c.counted-listed.ensures.counted);
      goals = subst G (sym c.requires.same)
          (goals_behind c.args.inst.now old seen s.gained c.len-from.result (c.entries-2.ensures.entries ∙ s.entries)
          (c.len-from.ensures.len ∙ ap (λ (z : List Entry). length z) (sym entries))
          (c.has_stray_bound.ensures.goals c.if-has_stray_bound.false));
      by_bound = few_behind c.args.inst.now old seen s.gained c.len-from.result (c.entries-2.ensures.entries ∙ s.entries)
          (c.len-from.ensures.len ∙ ap (λ (z : List Entry). length z) (sym entries)) _
          (c.has_stray_bound.ensures.few c.if-has_stray_bound.false);
    }
