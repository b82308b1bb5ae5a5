-- A walk over the loads of a set up to one of them.
use Rattle.std.proofs.Common.{◌≡◌, ◌≢◌, ℕ, ◌+◌, ◌<◌, ◌≤◌, Bool, true, false, List, take, refl, sym, ◌∙◌, subst, ◌⊎◌}
use Rattle.std.proofs.Common.{inl, inr, arith, Option, Some, None}
use Rattle.line_instance.specs.Line.{Line, IsRanked}
use Rattle.line_rules.specs.Loads.{IsLoad}
use Rattle.line_rules.specs.Order.{Precedes, UpTo, After, IsFollowing, Counts}
use Rattle.line_rules.specs.Entries.{IsOpen, Covers}
use Rattle.line_rules.specs.declared.types.LineKind.{LineKind}
use Rattle.line_rules.specs.declared.types.Mode.{Mode}
use Rattle.line_rules.specs.declared.types.Load.{Load}
use Rattle.line_rules.specs.declared.types.Entry.{Entry}
use Rattle.line_rules.specs.declared.types.OpenFrame.{OpenFrame}
use Rattle.line_rules.proofs.CoverFacts.{counts_none, covers_none}
use Rattle.line_rules.proofs.LoadPlaces.{three_ways}
use Rattle.line_rules.proofs.Unique.{precedes_trans}
use Rattle.line_check.specs.Walks.{IsUncovered, IsPast, CountsTo, Tells}
use Rattle.line_check.specs.Reaches.{IsMatched, TellsTo, HasEnded}
use Rattle.line_check.specs.Frames.{WalksTo, NeedsTo, EndsWell}
use Rattle.line_check.specs.inner.Steps.{IsLacking, Takes}
use Rattle.line_check.specs.declared.types.Walked.{Walked}
use Rattle.line_check.proofs.WalkFacts.{IsWalking, walk_takes, walk_fails, walk_past, walk_before, walk_counts, finish}

module _ (kind : LineKind) (line : Line) (ranked : IsRanked line) (c : ℕ) (mode : Mode) (R : List Bool) (most : ℕ)
    (es : List Entry) (cites : List ℕ) (end : Load) (deepest : Bool) (is_end : IsLoad line c mode R end) where
  abbrev pub W : Load → Type 0
  W k = IsLoad line c mode R k × UpTo line (Some end) k

  abbrev pub P : Load → Type 0
  P k = IsOpen kind line c mode R most k × IsMatched deepest line (Some end) k

  matched : (d : Bool) (k : Load) → Precedes line k end → IsMatched d line (Some end) k
  matched true k p = inr p
  matched false k p = p

  module _ (last : Option Load) (units taken : ℕ) (w : IsWalking kind line c mode R most es cites last units taken)
      (ahead : After line last end) (l : Load) (next : IsFollowing line c mode R last l) where
    near : (l ≡ end) ⊎ Precedes line l end
    near = elim (three_ways line ranked c mode R l end next.load is_end)
        [ inl e ↦ inl e | inr o ↦ elim o [ inl p ↦ inr p | inr b ↦ absurd (next.least end is_end ahead b) ] ]

    below : (k : Load) → Precedes line k l → Precedes line k end
    below k p = elim near [
      | inl e ↦ (let Q : Load → Type 0 = λ z. Precedes line k z in subst Q e p)
      | inr q ↦
          precedes_trans line k l end p q
    ]

    up_to : (k : Load) → UpTo line (Some l) k → UpTo line (Some end) k
    up_to k (inl e) = elim near [
      | inl f ↦ inl (e ∙ f)
      | inr q ↦
          (let Q : Load → Type 0 = λ z. Precedes line z end in inr (subst Q (sym e) q))
    ]
    up_to k (inr p) = inr (below k p)

    needs_here : (d : Bool) → (d ≡ false → l ≢ end) → IsMatched d line (Some end) l
    needs_here true h = near
    needs_here false h = elim near [ inl e ↦ absurd (h refl e) | inr q ↦ q ]

    pub reach_past : (steps : ℕ) → units ≤ steps → steps ≤ units → IsPast line W P es R most c cites steps
    reach_past = walk_past kind line ranked c mode R most es cites last units taken w l next W P (λ k p. p.0)
        (λ k o p. (o, matched deepest k (below k p))) (λ k p. p.0) (λ k g u. (g, up_to k u))

    pub reach_fails : (steps : ℕ) → units < steps → IsOpen kind line c mode R most l → (deepest ≡ false → l ≢ end)
        → IsLacking kind line c mode R most es cites l taken
        → IsUncovered line W P es R most c cites l × CountsTo line W P es R most c cites l (units + 1)
        × (units + 1 ≤ steps)
    reach_fails steps less o d = walk_fails kind line ranked c mode R most es cites last units taken w l next W P
        (λ k p. p.0) (λ k o p. (o, matched deepest k (below k p))) (λ k p. p.0) (λ k g u. (g, up_to k u))
        steps less (o, needs_here deepest d)

    -- above the deepest frame, the walk ends before the last load
    pub reach_before : (steps : ℕ) (r : Walked) → units < steps → l ≡ end → deepest ≡ false
        → HasEnded cites taken (units + 1) r → TellsTo kind line c mode R most es cites end deepest steps r
    reach_before steps r less is shut h =
        let Q : Load → Type 0 = λ z. Covers line (λ k. IsOpen kind line c mode R most k × Precedes line k z) es R most c
        (take taken cites) in
        let N : Load → Type 0 = λ z. Counts line (λ k. IsLoad line c mode R k × UpTo line (Some z) k) (units + 1) in
        let D : Bool → Type 0 = λ d. Covers line (λ k. IsOpen kind line c mode R most k × IsMatched d line (Some end) k)
        es R most c (take taken cites) in
        finish line W P es R most c cites taken (units + 1) steps r h
        (subst D (sym shut) (subst Q is (walk_before kind line ranked c mode R most es cites last units taken w l
        next))) (subst N is (walk_counts kind line ranked c mode R most es cites last units taken w l next))
        (omega (arith, less))

    -- in the deepest frame, after it
    pub reach_end : (steps more : ℕ) (r : Walked) → units < steps → l ≡ end → deepest ≡ true
        → Takes kind line c mode R most es cites l taken more → HasEnded cites more (units + 1) r
        → TellsTo kind line c mode R most es cites end deepest steps r
    reach_end steps more r less is deep t h =
        let v : IsWalking kind line c mode R most es cites (Some l) (units + 1) more =
        walk_takes kind line ranked c mode R most es cites last units taken w l next more t in
        let Q : Load → Type 0 = λ z. IsWalking kind line c mode R most es cites (Some z) (units + 1) more in
        let v2 : IsWalking kind line c mode R most es cites (Some end) (units + 1) more = subst Q is v in
        let D : Bool → Type 0 = λ d. Covers line (λ k. IsOpen kind line c mode R most k × IsMatched d line (Some end) k)
        es R most c (take more cites) in
        finish line W P es R most c cites more (units + 1) steps r h (subst D (sym deep) v2.covers) v2.counts
        (omega (arith, less))

    pub goes_on : l ≢ end → After line (Some l) end
    goes_on n = elim near [ inl e ↦ absurd (n e) | inr q ↦ q ]

unmatched : (line : Line) (deepest : Bool) (k : Load) → IsMatched deepest line None k → ⊥
unmatched line true k m = m
unmatched line false k m = m

ended_load : (line : Line) (X : ℕ) (mode : Mode) (R : List Bool) (end : Load) (deepest : Bool)
    → EndsWell deepest line X mode R (Some end) → IsLoad line X mode R end
ended_load line X mode R end true h = h
ended_load line X mode R end false h = h.0

-- the walk of a frame without a last load, and of one with such a load
pub none_told : (kind : LineKind) (line : Line) (X : ℕ) (f : OpenFrame) (deepest : Bool) (es : List Entry) (steps : ℕ)
    (r : Walked) → f.last ≡ None → HasEnded f.cites 0 0 r
    → Tells line (WalksTo line X f) (NeedsTo kind line X deepest f) es f.set f.most X f.cites steps r
none_told kind line X f deepest es steps r is h =
    finish line (WalksTo line X f) (NeedsTo kind line X deepest f) es f.set f.most X f.cites 0 0 steps r h
    (covers_none line (NeedsTo kind line X deepest f) es f.set f.most X
    (λ k p. unmatched line deepest k (let M : Option Load → Type 0 = λ o. IsMatched deepest line o k in
    subst M is p.1)))
    (counts_none line (WalksTo line X f) (λ k p. let U : Option Load → Type 0 = λ o. UpTo line o k in subst U is p.1))
    (omega arith)

pub some_told : (kind : LineKind) (line : Line) (X : ℕ) (f : OpenFrame) (deepest : Bool) (es : List Entry) (steps : ℕ)
    (r : Walked) (end : Load) → f.last ≡ Some end
    → TellsTo kind line X f.mode f.set f.most es f.cites end deepest steps r
    → Tells line (WalksTo line X f) (NeedsTo kind line X deepest f) es f.set f.most X f.cites steps r
some_told kind line X f deepest es steps r end is h =
    let T : Option Load → Type 0 = λ o. Tells line (λ k. IsLoad line X f.mode f.set k × UpTo line o k)
    (λ k. IsOpen kind line X f.mode f.set f.most k × IsMatched deepest line o k) es f.set f.most X f.cites steps
    r in
    subst T (sym is) h

pub end_load : (line : Line) (X : ℕ) (mode : Mode) (R : List Bool) (deepest : Bool) (last : Option Load) (end : Load)
    → last ≡ Some end → EndsWell deepest line X mode R last → IsLoad line X mode R end
end_load line X mode R deepest last end is h =
    let E : Option Load → Type 0 = λ o. EndsWell deepest line X mode R o in
    ended_load line X mode R end deepest (subst E is h)
