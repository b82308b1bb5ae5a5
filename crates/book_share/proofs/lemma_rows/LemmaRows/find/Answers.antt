use Rattle.std.proofs.Common.{◌≡◌, List, length, Option, Some, Vec, Global, refl, sym, ap, ◌∙◌, subst, arith}
use Rattle.std.specs.Prelude.{slice_get, IfSome}
use Rattle.std.proofs.lemmas.Bool.{not-false}
use Rattle.std.proofs.lemmas.Option.{slice_get_read}
use Rattle.line_instance.specs.inner.Words.{equal_sets}
use Rattle.book_share.specs.declared.lemma_rows.LemmaRow.{LemmaRow}
use Rattle.book_share.specs.inner.Memo.{IsRowOf, AreRowsOf}
use Rattle.book_share.proofs.lemma_rows.LemmaRows.find.Goals as goal

pub returns : goal.returns
returns c cycle es rows =
    let items : List (Option LemmaRow) = c.in-Some.rows.items in
    let row : LemmaRow = c.in-Some-Some.row in
    let all : AreRowsOf items cycle es = subst
    (λ (o : Option (Vec (Option LemmaRow) Global)). IfSome o (λ rs. AreRowsOf rs.items cycle es)) c.in-Some.is rows in
    let look = c.in-Some-Some.ensures.lookup in
    let there : slice_get c.deref.result.now c.place_of.result ≡ Some (Some row) =
    slice_get_read c.deref.result.now (length c.deref.result.now) c.place_of.result c.in-Some-Some.field-0.now refl
    look.3.0 look.1 ∙ ap (λ (o : Option LemmaRow). Some o) c.in-Some-Some.field-0-is in
    let r : IsRowOf row cycle es = all c.place_of.result row
    (subst (λ (l : List (Option LemmaRow)). slice_get l c.place_of.result ≡ Some (Some row)) c.deref.ensures.value
    there) in (
      r.entry,
      r.there,
      record {
        same = r.set ∙ (equal_sets row.set c.args.set.now).0 (not-false _ (sym c.ne.ensures ∙ c.if-ne.false));
        stations = omega (arith, r.most, c.if-row-most.false);
        long = r.long;
      },
    )
