-- The frames that wait and their listings, one for one.
use Rattle.std.proofs.Common.{◌≡◌, ℕ, List, [], ◌∷◌, ◌++◌, length, refl, sym, ap, ◌∙◌, subst, inl, inr, arith}
use Rattle.std.proofs.Common.{length-append}
use Rattle.std.specs.Prelude.{slice_get}
use Rattle.line_instance.specs.Line.{Line}
use Rattle.line_rules.specs.declared.types.OpenFrame.{OpenFrame}
use Rattle.line_rules.proofs.ListFacts.{get_longer, get_push_cases, get_last}
use Rattle.station_search.specs.declared.listings.Listing.{Listing}
use Rattle.station_search.specs.inner.Work.{IsBeside, with_cites}
use Rattle.station_search.specs.inner.Steps.{ArePaired}

pub paired_none : (line : Line) (X : ℕ) (fs : List OpenFrame) (ws : List Listing) → fs ≡ [] → ws ≡ []
    → ArePaired line X fs ws
paired_none line X fs ws e q =
    let P : List OpenFrame → Type 0 = λ z. ArePaired line X z ws in
    let Q : List Listing → Type 0 = λ z. ArePaired line X [] z in
    subst P (sym e) (subst Q (sym q) (record { as_many = refl; beside = λ k f w g h. absurd (cc) }))

-- a frame is put on its stack, and its listing on the other
pub paired_push : (line : Line) (X : ℕ) (fs fs' : List OpenFrame) (ws ws' : List Listing) (f : OpenFrame) (w : Listing)
    → fs' ≡ fs ++ f ∷ [] → ws' ≡ ws ++ w ∷ [] → IsBeside line X f w → ArePaired line X fs ws → ArePaired line X fs' ws'
paired_push line X fs fs' ws ws' f w e q b p =
    let P : List OpenFrame → Type 0 = λ z. ArePaired line X z ws' in
    let Q : List Listing → Type 0 = λ z. ArePaired line X (fs ++ f ∷ []) z in
    subst P (sym e) (subst Q (sym q) (record {
      as_many = omega (arith, p.as_many, length-append fs (f ∷ []), length-append ws (w ∷ []));
      beside = λ k g v a h. elim (get_push_cases fs f g k a) [
        | inl i ↦ elim (get_push_cases ws w v k h) [
          | inl j ↦ p.beside k g v i.1 j.1
          | inr j ↦ absurd (omega (arith, p.as_many, i.0, j.0))
        ]
        | inr i ↦ elim (get_push_cases ws w v k h) [
          | inl j ↦ absurd (omega (arith, p.as_many, i.0, j.0))
          | inr j ↦ (let F : OpenFrame → Type 0 = λ z. IsBeside line X z v in let W : Listing
              → Type 0 = λ z. IsBeside line X f z in subst F i.1 (subst W j.1 b))
        ]
      ];
    }))

module _ (line : Line) (X : ℕ) (fs upper : List OpenFrame) (ws above : List Listing) (f : OpenFrame) (w : Listing)
    (e : fs ≡ upper ++ f ∷ []) (q : ws ≡ above ++ w ∷ []) (p : ArePaired line X fs ws) where
  longs : length upper ≡ length above
  longs = omega (
    arith,
    p.as_many,
    ap (λ (z : List OpenFrame). length z) e,
    ap (λ (z : List Listing). length z) q,
    length-append upper (f ∷ []),
    length-append above (w ∷ []),
  )

  -- they are taken from their stacks
  pub paired_pop : ArePaired line X upper above
  paired_pop = record {
    as_many = longs;
    beside = λ k g v a h. p.beside k g v (ap (λ (z : List OpenFrame). slice_get z k) e
        ∙ get_longer upper (f ∷ []) k g a) (ap (λ (z : List Listing). slice_get z k) q
        ∙ get_longer above (w ∷ []) k v h);
  }

  pub paired_last : (cites : List ℕ) → IsBeside line X (with_cites f cites) w
  paired_last cites =
      let b : IsBeside line X f w = p.beside (length upper) f w
      (ap (λ (z : List OpenFrame). slice_get z (length upper)) e ∙ get_last upper f)
      (ap (λ (z : List Listing). slice_get z (length upper)) q
      ∙ (ap (λ (k : ℕ). slice_get (above ++ w ∷ []) k) longs ∙ get_last above w)) in
      record {
        walk = b.walk;
        same_cycle = b.same_cycle;
        same_mode = b.same_mode;
        same_set = b.same_set;
        same_last = b.same_last;
        times = b.times;
        chained = b.chained;
      }
