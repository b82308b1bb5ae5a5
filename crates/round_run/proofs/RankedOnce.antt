-- There is one ranked balance: at each step one placement ranks first of all.
use Rattle.std.proofs.Common.{◌≡◌, ℕ, ◌<◌, ◌≤◌, ◌⊎◌, List, [], ◌∷◌, length, refl, sym, ap, ◌∙◌, subst, inl, inr, arith}
use Rattle.std.proofs.lemmas.Bool.{cases_eq}
use Rattle.line_instance.specs.Line.{Line, tasks}
use Rattle.line_rules.specs.Ranked.{Placement, Has, RanksFirst, ComesNext, AreRanked, station_of, IsRankedBalance}
use Rattle.line_rules.specs.declared.types.LineKind.{LineKind}
use Rattle.line_rules.specs.declared.types.Side.{Side}
use Rattle.line_rules.specs.declared.types.Side.TheVariants.{Front}
use Rattle.line_rules.specs.declared.types.Balance.{Balance as Assignment}

-- of two that each rank first, neither ranks before the other
same_side : (s t : Side) → (s ≡ Front) ⊎ (s ≡ t) → (t ≡ Front) ⊎ (t ≡ s) → s ≡ t
same_side s t (inr e) f = e
same_side s t (inl e) (inl f) = e ∙ sym f
same_side s t (inl e) (inr f) = sym f

ranks_same : (line : Line) (i j : ℕ) (s t : Side) → RanksFirst line i s j t → RanksFirst line j t i s → (i ≡ j)
    × (s ≡ t)
ranks_same line i j s t (inl a) (inl b) = absurd (omega (arith, a, b))
ranks_same line i j s t (inl a) (inr b) = absurd (omega (arith, a, b.0))
ranks_same line i j s t (inr a) (inl b) = absurd (omega (arith, a.0, b))
ranks_same line i j s t (inr a) (inr b) = elim a.1 [
  | inl x ↦ (elim b.1 [ inl y ↦ absurd (omega (arith, x, y)) | inr y ↦ absurd (omega (arith, x, y.0)) ])
  | inr x ↦ (elim b.1 [ inl y ↦ absurd (omega (arith, x.0, y)) | inr y ↦ (x.0, same_side s t x.1 y.1) ])
]

module _ (kind : LineKind) (line : Line) (c : ℕ) where
  same_station : (ps : List Placement) (p q : Placement) → ComesNext kind line c ps p → ComesNext kind line c ps q
      → p.place.station ≡ q.place.station
  same_station ps p q h k = elim h.station [
    | inl a ↦ (elim k.station [ inl b ↦ a ∙ sym b | inr b ↦ absurd (b.1 p a h.may) ])
    | inr a ↦ (elim k.station [ inl b ↦ absurd (a.1 q b k.may) | inr b ↦ a.0 ∙ sym b.0 ])
  ]

  -- one placement comes next
  same_next : (ps : List Placement) (p q : Placement) → ComesNext kind line c ps p → ComesNext kind line c ps q → p ≡ q
  same_next ps p q h k =
      let s : p.place.station ≡ q.place.station = same_station ps p q h k in
      let r : (p.task ≡ q.task) × (p.place.side ≡ q.place.side) =
      ranks_same line p.task q.task p.place.side q.place.side (h.first q (sym s) k.may) (k.first p s h.may) in
      λ i. record { task = r.0 i; place = record { station = s i; side = r.1 i } }

  same_long : (ps qs : List Placement) → AreRanked kind line c ps → AreRanked kind line c qs → length ps ≡ length qs
      → ps ≡ qs
  same_long [] [] a b l = refl
  same_long [] (q ∷ qs) a b l = absurd (omega arith)
  same_long (p ∷ ps) [] a b l = absurd (omega arith)
  same_long (p ∷ ps) (q ∷ qs) a b l =
      let r : ps ≡ qs = same_long ps qs a.1 b.1 (omega arith) in
      let P : List Placement → Type 0 = λ z. ComesNext kind line c z p in
      let s : p ≡ q = same_next qs p q (subst P r a.0) b.0 in
      λ i. s i ∷ r i

  -- nothing comes next where all tasks are placed
  no_longer : (ps qs : List Placement) → AreRanked kind line c ps
      → ((i : ℕ) → i < tasks line → (p : Placement) × Has ps p × (p.task ≡ i)) → AreRanked kind line c qs
      → length qs ≤ length ps
  no_longer ps [] a all b = omega arith
  no_longer ps (q ∷ qs) a all b =
      let l : length qs ≤ length ps = no_longer ps qs a all b.1 in
      elim (cases_eq (length qs) (length ps)) [
        | inl e ↦
            let r : qs ≡ ps = same_long qs ps b.1 a e in
            let h : (p : Placement) × Has ps p × (p.task ≡ q.task) = all q.task b.0.may.task in
            let P : List Placement → Type 0 = λ z. Has z h.0 in
            absurd (b.0.may.new h.0 (subst P (sym r) h.1) h.2)
        | inr n ↦ omega (arith, l, n)
      ]

  pub same_stations : (a b : Assignment) → IsRankedBalance kind line c a → IsRankedBalance kind line c b
      → a.stations ≡ b.stations
  same_stations a b h k =
      let l : length h.placed ≡ length k.placed =
      omega (
        arith,
        no_longer h.placed k.placed h.ranked h.all k.ranked,
        no_longer k.placed h.placed k.ranked k.all
            h.ranked,
      ) in
      h.stations ∙ (ap (λ (z : List Placement). station_of z) (same_long h.placed k.placed h.ranked k.ranked l)
      ∙ sym k.stations)
