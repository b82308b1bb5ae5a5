-- The places of tasks that loads have.
use Rattle.std.proofs.Common.{◌≡◌, ℕ, zero, suc, ◌+◌, ◌<◌, ◌≤◌, Bool, true, false, List, [], ◌∷◌, ◌++◌, length, refl}
use Rattle.std.proofs.Common.{sym, ap, ◌∙◌, subst, inl, inr, arith, Some}
use Rattle.std.specs.Prelude.{slice_get, IsTrue, ◌↔◌}
use Rattle.std.proofs.lemmas.Bool.{cases_lt, cases_eq, false≢true}
use Rattle.line_instance.specs.Truths.{In}
use Rattle.line_instance.proofs.Members.{In-union_left, In-union_right, In-union_cases}
use Rattle.line_instance.specs.Line.{Line, tasks, has}
use Rattle.line_rules.specs.Balance.{IsRight, IsSide, all_tasks, seat}
use Rattle.line_rules.specs.Loads.{taken}
use Rattle.line_rules.specs.Seats.{side_of, IsPlacement, AreSeated}
use Rattle.line_rules.specs.declared.types.LineKind.{LineKind}
use Rattle.line_rules.specs.declared.types.LineKind.TheVariants.{Straight, U}
use Rattle.line_rules.specs.declared.types.Load.{Load}
use Rattle.line_rules.specs.declared.types.Seatplace.{Seatplace}
use Rattle.line_rules.specs.declared.types.Balance.{Balance as Assignment}
use Rattle.line_rules.proofs.All.{In-all_lt}
use Rattle.line_rules.proofs.SubBalance.{restricted}
use Rattle.station_search.specs.Parts.{AreParts, IsOnce, IsPlaceOf}

-- the load that has the task is the only one
pub place_found : (kind : LineKind) (loads : List Load) (i k : ℕ) (l : Load) (place : Seatplace) → IsOnce loads
    → slice_get loads k ≡ Some l → In (taken l) i → place ≡ record { station = k + 1; side = side_of kind l i }
    → IsPlaceOf kind loads i place
place_found kind loads i k l place once e m p j a f n =
    let q : k ≡ j = once k j l a i e f m n in
    let s : Some l ≡ Some a = sym e ∙ (ap (λ (z : ℕ). slice_get loads z) q ∙ f) in
    let t : l ≡ a = cc in
    let u : k + 1 ≡ suc j = omega (arith, q) in
    p ∙ (λ x. record { station = u x; side = side_of kind (t x) i })

-- no load before k has the task, and that at k hasn't
pub none_more : (loads : List Load) (i k : ℕ) (l : Load) → slice_get loads k ≡ Some l → (In (taken l) i → ⊥)
    → ((j : ℕ) (a : Load) → j < k → slice_get loads j ≡ Some a → In (taken a) i → ⊥)
    → (j : ℕ) (a : Load) → j < k + 1 → slice_get loads j ≡ Some a → In (taken a) i → ⊥
none_more loads i k l e without before j a less f m = elim (cases_eq j k) [
  | inl q ↦
      let s : Some l ≡ Some a = sym e ∙ (ap (λ (z : ℕ). slice_get loads z) (sym q) ∙ f) in
      let t : l ≡ a = cc in
      let P : Load → Type 0 = λ z. In (taken z) i in
      without (subst P (sym t) m)
  | inr d ↦ before j a (omega arith) f m
]

seat_before : (ps : List Seatplace) (p : Seatplace) (i : ℕ) → i < length ps → seat (ps ++ p ∷ []) i ≡ seat ps i
seat_before [] p i l = absurd (omega arith)
seat_before (q ∷ ps) p zero l = refl
seat_before (q ∷ ps) p (suc i) l = seat_before ps p i (omega arith)

seat_last : (ps : List Seatplace) (p : Seatplace) → seat (ps ++ p ∷ []) (length ps) ≡ p
seat_last [] p = refl
seat_last (q ∷ ps) p = seat_last ps p

-- one place more
pub placed_push : (kind : LineKind) (loads : List Load) (ps all : List Seatplace) (p : Seatplace) (n : ℕ)
    → all ≡ ps ++ p ∷ [] → length ps ≡ n → ((i : ℕ) → i < n → IsPlaceOf kind loads i (seat ps i))
    → IsPlaceOf kind loads n p
    → (i : ℕ) → i < n + 1 → IsPlaceOf kind loads i (seat all i)
placed_push kind loads ps all p n e l before last i less =
    let A : List Seatplace → Type 0 = λ z. IsPlaceOf kind loads i (seat z i) in
    let P : Seatplace → Type 0 = λ z. IsPlaceOf kind loads i z in
    subst A (sym e) (elim (cases_lt i n) [
      | inl h ↦ subst P (sym (seat_before ps p i (omega (arith, l, h)))) (before i h)
      | inr h ↦
          let q : i ≡ length ps = omega (arith, l, h, less) in
          let r : n ≡ i = omega (arith, h, less) in
          let B : ℕ → Type 0 = λ z. IsPlaceOf kind loads z p in
          subst P (sym (ap (λ (z : ℕ). seat (ps ++ p ∷ []) z) q ∙ seat_last ps p)) (subst B r last)
    ])

-- all tasks have their places
pub placement : (kind : LineKind) (line : Line) (loads : List Load) (ps : List Seatplace) (n : ℕ) → tasks line ≤ n
    → AreParts line loads → ((i : ℕ) → i < n → IsPlaceOf kind loads i (seat ps i)) → IsPlacement kind loads (seat ps)
placement kind line loads ps n all parts placed k l i e m =
    placed i (omega (arith, In-all_lt line i (parts.within k l i e m), all)) k l e m

side_is : (kind : LineKind) (l : Load) (i : ℕ) (p : Seatplace) (k : ℕ)
    → p ≡ record { station = k; side = side_of kind l i } → IsSide kind p.side
side_is Straight l i p k e = ap (λ (z : Seatplace). z.side) e
side_is U l i p k e = tt

-- loads that are seated give a right balance
pub right_of : (kind : LineKind) (line : Line) (c : ℕ) (loads : List Load) (b : Assignment)
    → length b.place ≡ tasks line → length loads ≤ b.stations → IsPlacement kind loads (seat b.place)
    → AreSeated kind line c (all_tasks line) loads → IsRight kind line c b
right_of kind line c loads b each long placed s = record {
  each = each;
  sides = λ i m.
      let h = s.each i m in
      side_is kind h.1 i (seat b.place i) (suc h.0) (placed h.0 h.1 i h.2.0 h.2.1);
  balance = restricted kind line c c (all_tasks line) (all_tasks line) (length loads) b.stations (seat b.place)
      (omega arith) long (λ i m. m) (s.balance (seat b.place) placed);
}

-- a load has a task in front or at the back
pub in_front : (l : Load) (i : ℕ) (f : Bool) → f ≡ has l.front i → f ≡ true → (IsTrue f ↔ In (taken l) i)
in_front l i f e t = (λ x. In-union_left l.front l.back i (sym e ∙ t), λ m. t)

pub in_back : (l : Load) (i : ℕ) (f b : Bool) → f ≡ has l.front i → f ≡ false → b ≡ has l.back i
    → (IsTrue b ↔ In (taken l) i)
in_back l i f b e n g = (
  λ t. In-union_right l.front l.back i (sym g ∙ t),
  λ m. elim (In-union_cases l.front l.back i m) [
    | inl h ↦ absurd (false≢true (sym n ∙ (e ∙ h)))
    | inr h ↦ g ∙ h
  ],
)
