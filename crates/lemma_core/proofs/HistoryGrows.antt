-- A history that goes on, and a desk that sees more of it.
use Rattle.std.proofs.Common.{◌≡◌, ◌≤◌, List, [], ◌∷◌, ◌++◌, refl, sym, ap, ◌∙◌, subst, arith, append_assoc}
use Rattle.std.proofs.lemmas.List.{append-nil}
use Rattle.line_rules.specs.Entries.{Follows}
use Rattle.line_rules.specs.declared.types.Entry.{Entry}
use Rattle.line_rules.proofs.LongerLists.{follows_longer}
use Rattle.lemma_core.specs.Machine.{About}
use Rattle.lemma_core.specs.History.{Item, added, known, better, Standing, after, replay, Begins}
use Rattle.lemma_core.specs.Desks.{DeskView, entries, FollowsSeen, Keeps}
use Rattle.lemma_core.proofs.Runs.{replay-append}

more_entries : (s : Standing) (xs : List Item) → (more : List Entry) × ((replay s xs).entries ≡ s.entries ++ more)
more_entries s [] = ([], sym (append-nil s.entries))
more_entries s (added id e ∷ xs) =
    let h : (more : List Entry) × ((replay (after s (added id e)) xs).entries ≡ (s.entries ++ e ∷ []) ++ more) =
    more_entries (after s (added id e)) xs in
    (e ∷ h.0, h.1 ∙ append_assoc s.entries (e ∷ []) h.0)
more_entries s (known id most ∷ xs) = more_entries s xs
more_entries s (better n ∷ xs) = more_entries (after s (better n)) xs

fewer_stations : (s : Standing) (xs : List Item) → (replay s xs).stations ≤ s.stations
fewer_stations s [] = omega arith
fewer_stations s (added id e ∷ xs) = fewer_stations (after s (added id e)) xs
fewer_stations s (known id most ∷ xs) = fewer_stations s xs
fewer_stations s (better n ∷ xs) = omega (arith, fewer_stations (after s (better n)) xs)

pub entries_go_on : (s : Standing) (xs ys : List Item) → Begins xs ys
    → (more : List Entry) × ((replay s ys).entries ≡ (replay s xs).entries ++ more)
entries_go_on s xs ys b =
    let h : (more : List Entry) × ((replay (replay s xs) b.0).entries ≡ (replay s xs).entries ++ more) =
    more_entries (replay s xs) b.0 in (
      h.0,
      ap (λ (zs : List Item). (replay s zs).entries) (sym b.1)
          ∙ (ap (λ (z : Standing). z.entries) (replay-append s xs b.0) ∙ h.1),
    )

pub stations_go_on : (s : Standing) (xs ys : List Item) → Begins xs ys → (replay s ys).stations ≤ (replay s xs).stations
stations_go_on s xs ys b =
    let e : (replay s ys).stations ≡ (replay (replay s xs) b.0).stations =
    ap (λ (zs : List Item). (replay s zs).stations) (sym b.1)
    ∙ ap (λ (z : Standing). z.stations) (replay-append s xs b.0) in
    omega (arith, e, fewer_stations (replay s xs) b.0)

pub begins_on : (xs ys zs : List Item) → Begins xs ys → Begins ys zs → Begins xs zs
begins_on xs ys zs a b = (a.0 ++ b.0, sym (append_assoc xs a.0 b.0) ∙ (ap (λ (w : List Item). w ++ b.0) a.1 ∙ b.1))

pub keeps_none : (d : DeskView) → Keeps d d
keeps_none d = record {
  about = refl;
  opening = refl;
  alone = refl;
  roomy = λ t. t;
  kept = refl;
  seen = ([], append-nil d.seen);
}

pub keeps_both : (a b c : DeskView) → Keeps a b → Keeps b c → Keeps a c
keeps_both a b c k l = record {
  about = l.about ∙ k.about;
  opening = l.opening ∙ k.opening;
  alone = l.alone ∙ k.alone;
  roomy = λ t. l.roomy (k.roomy t);
  kept = l.kept ∙ k.kept;
  seen = begins_on a.seen b.seen c.seen k.seen l.seen;
}

pub follows_still : (a b : DeskView) (e : Entry) → Keeps a b → FollowsSeen a e → FollowsSeen b e
follows_still a b e k f =
    let h : (more : List Entry) × ((replay a.opening b.seen).entries ≡ (replay a.opening a.seen).entries ++ more) =
    entries_go_on a.opening a.seen b.seen k.seen in
    let g : Follows a.about.kind a.about.line (entries a ++ h.0) e =
    follows_longer a.about.kind a.about.line (entries a) h.0 e f in
    let P : List Entry → Type 0 = λ es. Follows a.about.kind a.about.line es e in
    let Q : About → Type 0 = λ z. Follows z.kind z.line (replay a.opening b.seen).entries e in
    let R : Standing → Type 0 = λ z. Follows b.about.kind b.about.line (replay z b.seen).entries e in
    subst R (sym k.opening) (subst Q (sym k.about) (subst P (sym h.1) g))
