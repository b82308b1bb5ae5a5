-- A walk over the loads of a set that takes a cite for each open one.
use Rattle.std.proofs.Common.{◌≡◌, ℕ, zero, suc, ◌+◌, ◌-◌, ◌<◌, ◌≤◌, Bool, List, [], ◌∷◌, ◌++◌, length, take, refl, sym}
use Rattle.std.proofs.Common.{ap, subst, inl, inr, arith, Option, Some, None}
use Rattle.std.specs.Prelude.{slice_get}
use Rattle.line_instance.specs.Line.{Line, IsRanked}
use Rattle.line_rules.specs.Loads.{IsLoad, rest}
use Rattle.line_rules.specs.Order.{Precedes, UpTo, After, IsFollowing, Counts}
use Rattle.line_rules.specs.Entries.{IsOpen, Cites, Covers}
use Rattle.line_rules.specs.Trails.{LastIsLoad}
use Rattle.line_rules.specs.declared.types.LineKind.{LineKind}
use Rattle.line_rules.specs.declared.types.Mode.{Mode}
use Rattle.line_rules.specs.declared.types.Load.{Load}
use Rattle.line_rules.specs.declared.types.Entry.{Entry}
use Rattle.line_rules.proofs.CoverFacts.{counts_none, counts_same, covers_none, covers_same}
use Rattle.line_rules.proofs.Paths.{all_up_to, covers_pass, covers_skip, covers_cite, units_push}
use Rattle.std.proofs.lemmas.List.{take_all}
use Rattle.std.proofs.lemmas.Option.{slice_get_within}
use Rattle.line_check.specs.Walks.{IsUncovered, IsPast, CountsTo, CoversBefore, Tells}
use Rattle.line_check.specs.Reaches.{HasEnded}
use Rattle.line_check.specs.declared.types.Walked.{Walked}
use Rattle.line_check.specs.inner.Steps.{IsLacking, Takes}

pub record IsWalking (kind : LineKind) (line : Line) (c : ℕ) (mode : Mode) (R : List Bool) (most : ℕ)
    (earlier : List Entry) (cites : List ℕ) (last : Option Load) (units taken : ℕ) : Type 0 where
  pub is_load : LastIsLoad line c mode R last
  pub covers : Covers line (λ k. IsOpen kind line c mode R most k × UpTo line last k) earlier R most c
      (take taken cites)
  pub counts : Counts line (λ k. IsLoad line c mode R k × UpTo line last k) units
  pub within : taken ≤ length cites

take_push : (xs : List ℕ) (n x : ℕ) → slice_get xs n ≡ Some x → take (suc n) xs ≡ take n xs ++ x ∷ []
take_push [] n x e = absurd (cc)
take_push (y ∷ xs) zero x e = let q : y ≡ x = cc in ap (λ (z : ℕ). z ∷ []) q
take_push (y ∷ xs) (suc n) x e = ap (λ (z : List ℕ). y ∷ z) (take_push xs n x e)

-- what is told at the end
pub finish : (line : Line) (W P : Load → Type 0) (earlier : List Entry) (R : List Bool) (most c : ℕ) (cites : List ℕ)
    (taken units steps : ℕ) (r : Walked) → HasEnded cites taken units r
    → Covers line P earlier R most c (take taken cites) → Counts line W units → units ≤ steps
    → Tells line W P earlier R most c cites steps r
finish line W P earlier R most c cites taken units steps r h covers counts less =
    let T : Walked → Type 0 = λ z. Tells line W P earlier R most c cites steps z in
    let C : List ℕ → Type 0 = λ z. Covers line P earlier R most c z in
    elim h [
      | inl s ↦ subst T (sym s.1) (record { taken = taken; left = s.0; covers = covers }, counts, less)
      | inr s ↦ subst T (sym s.1) (subst C (take_all taken cites s.0) covers, counts, less)
    ]

module _ (kind : LineKind) (line : Line) (ranked : IsRanked line) (c : ℕ) (mode : Mode) (R : List Bool) (most : ℕ)
    (earlier : List Entry) (cites : List ℕ) where
  pub walk_starts : IsWalking kind line c mode R most earlier cites None 0 0
  walk_starts = record {
    is_load = tt;
    covers = covers_none line (λ k. IsOpen kind line c mode R most k × UpTo line None k) earlier R most c (λ l p. p.1);
    counts = counts_none line (λ k. IsLoad line c mode R k × UpTo line None k) (λ l p. p.1);
    within = omega arith;
  }

  module _ (last : Option Load) (units taken : ℕ) (w : IsWalking kind line c mode R most earlier cites last units
      taken) where
    module _ (l : Load) (next : IsFollowing line c mode R last l) where
      pub walk_before : Covers line (λ k. IsOpen kind line c mode R most k × Precedes line k l) earlier R most c
          (take taken cites)
      walk_before = covers_pass line ranked c mode R last w.is_load l next kind earlier most (take taken cites) w.covers

      pub walk_counts : Counts line (λ k. IsLoad line c mode R k × UpTo line (Some l) k) (units + 1)
      walk_counts = units_push line ranked c mode R last w.is_load l next units w.counts

      walk_skips : (IsOpen kind line c mode R most l → ⊥) → IsWalking kind line c mode R most earlier cites (Some l)
          (units + 1) taken
      walk_skips shut = record {
        is_load = next.load;
        covers = covers_skip line ranked c mode R last w.is_load l next kind earlier most (take taken cites) w.covers
            shut;
        counts = walk_counts;
        within = w.within;
      }

      walk_cites : (x : ℕ) → slice_get cites taken ≡ Some x → IsOpen kind line c mode R most l
          → Cites earlier x (rest R l) (most - 1) c → IsWalking kind line c mode R most earlier cites (Some l)
          (units + 1) (taken + 1)
      walk_cites x e o y =
          let P : List ℕ → Type 0 = λ z. Covers line (λ k. IsOpen kind line c mode R most k × UpTo line (Some l) k)
          earlier R most c z in
          let N : ℕ → Type 0 = λ z. Covers line (λ k. IsOpen kind line c mode R most k × UpTo line (Some l) k) earlier R
          most c (take z cites) in
          let q : suc taken ≡ taken + 1 = omega arith in
          record {
            is_load = next.load;
            covers = subst N q (subst P (sym (take_push cites taken x e))
                (covers_cite kind line c mode R earlier most (take taken cites) l x o y walk_before));
            counts = walk_counts;
            within = omega (arith, slice_get_within cites taken x e);
          }

      pub walk_takes : (more : ℕ) → Takes kind line c mode R most earlier cites l taken more
          → IsWalking kind line c mode R most earlier cites (Some l) (units + 1) more
      walk_takes more t =
          let P : ℕ → Type 0 = λ z. IsWalking kind line c mode R most earlier cites (Some l) (units + 1) z in
          elim t [
            | inl s ↦ subst P (sym s.1) (walk_skips s.0)
            | inr o ↦ subst P (sym o.2) (walk_cites o.1.cite o.1.there o.0 o.1.refutes)
          ]

      -- those loads are walked and need a cite that pass W and P
      module _ (W P : Load → Type 0) (open_of : (k : Load) → P k → IsOpen kind line c mode R most k)
          (needs_of : (k : Load) → IsOpen kind line c mode R most k → Precedes line k l → P k)
          (load_of : (k : Load) → W k → IsLoad line c mode R k)
          (walked_of : (k : Load) → IsLoad line c mode R k → UpTo line (Some l) k → W k) where
        before_it : CoversBefore line W P earlier R most c cites l taken
        before_it = (
          w.within,
          covers_same line (λ k. IsOpen kind line c mode R most k × Precedes line k l) (λ k. P k × Precedes line k l)
              earlier R most c (take taken cites)
              (λ k p. (needs_of k p.0 p.1, p.1)) (λ k p. (open_of k p.0, p.1)) walk_before,
        )

        counts_to : CountsTo line W P earlier R most c cites l (units + 1)
        counts_to = counts_same line (λ k. IsLoad line c mode R k × UpTo line (Some l) k)
            (λ k. W k × UpTo line (Some l) k) (units + 1)
            (λ k p. (walked_of k p.0 p.1, p.1)) (λ k p. (load_of k p.0, p.1)) walk_counts

        pub walk_fails : (steps : ℕ) → units < steps → P l → IsLacking kind line c mode R most earlier cites l taken
            → IsUncovered line W P earlier R most c cites l × CountsTo line W P earlier R most c cites l (units + 1)
            × (units + 1 ≤ steps)
        walk_fails steps less needs lacks = (
          record { needs = needs; taken = taken; before = before_it; fails = lacks },
          counts_to,
          omega (arith, less),
        )

        pub walk_past : (steps : ℕ) → units ≤ steps → steps ≤ units → IsPast line W P earlier R most c cites steps
        walk_past steps a b =
            let e : units ≡ steps = omega (arith, a, b) in
            let N : ℕ → Type 0 = λ z. CountsTo line W P earlier R most c cites l (z + 1) in
            record {
              load = l;
              walked = walked_of l next.load (inl refl);
              counts = subst N e counts_to;
              taken = taken;
              before = before_it;
            }

    module _ (none : (l : Load) → IsLoad line c mode R l → After line last l → ⊥) where
      all : Covers line (IsOpen kind line c mode R most) earlier R most c (take taken cites)
      all = covers_same line (λ k. IsOpen kind line c mode R most k × UpTo line last k) (IsOpen kind line c mode R most)
          earlier R most c (take taken cites)
          (λ l p. p.0) (λ l o. (o, all_up_to line ranked c mode R last w.is_load none l o.load)) w.covers

      all_counts : Counts line (IsLoad line c mode R) units
      all_counts = counts_same line (λ l. IsLoad line c mode R l × UpTo line last l) (IsLoad line c mode R) units
          (λ l p. p.0) (λ l g. (g, all_up_to line ranked c mode R last w.is_load none l g)) w.counts

      pub walk_told : (steps : ℕ) (r : Walked) → units ≤ steps → HasEnded cites taken units r
          → Tells line (IsLoad line c mode R) (IsOpen kind line c mode R most) earlier R most c cites steps r
      walk_told steps r less h = finish line (IsLoad line c mode R) (IsOpen kind line c mode R most) earlier R most c
          cites taken units steps r h all all_counts less
