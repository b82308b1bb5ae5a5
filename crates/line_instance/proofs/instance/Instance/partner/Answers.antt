use Rattle.std.proofs.Common.{◌≡◌, ◌<◌, arith, refl, length, Some, sym, subst, List, ℕ, get_or}
use Rattle.std.specs.List.{slice_get}
use Rattle.std.proofs.lemmas.Option.{slice_get_read}
use Rattle.line_instance.specs.Line.{Line, tasks}
use Rattle.line_instance.specs.Partners.{AreKept}
use Rattle.line_instance.specs.inner.Inside.{ArePartners, kept_of}
use Rattle.line_instance.specs.declared.partners.Kept.{Kept}
use Rattle.line_instance.proofs.instance.Instance.partner.Goals as goal

-- the row of the table
row : (line self : Line) (ps : List Kept) (i : ℕ) (kept : Kept) → line ≡ self → ArePartners line ps → i < tasks self
    → kept ≡ get_or ps i kept → slice_get ps i ≡ Some kept
row line self ps i kept e p l is =
    let P : Line → Type 0 = λ x. i < tasks x in
    let small : i < tasks line = subst P (sym e) l in
    slice_get_read ps (length ps) i kept refl (omega (arith, p.many)) is

pub kept_at-requires-clause-many : goal.kept_at-requires-clause-many
kept_at-requires-clause-many c =
    let p = c.self.invariant.partners_are in
    (p.room c.args.i c.index.result.now (row _ c.args.self.now c.self.inside.partners.items c.args.i c.index.result.now
    c.self.view_is p c.requires c.index.ensures)).1

pub kept_at-requires-clause-room : goal.kept_at-requires-clause-room
kept_at-requires-clause-room c =
    let p = c.self.invariant.partners_are in
    (p.room c.args.i c.index.result.now (row _ c.args.self.now c.self.inside.partners.items c.args.i c.index.result.now
    c.self.view_is p c.requires c.index.ensures)).0

pub returns : goal.returns
returns c =
    let p = c.self.invariant.partners_are in
    let P : Line → Type 0 = λ line. AreKept line c.args.i (kept_of c.index.result.now) in (
      kept_of c.index.result.now,
      subst P c.self.view_is (p.right c.args.i c.index.result.now
          (row _ c.args.self.now c.self.inside.partners.items c.args.i c.index.result.now c.self.view_is p c.requires
          c.index.ensures)),
      c.kept_at.ensures,
    )
