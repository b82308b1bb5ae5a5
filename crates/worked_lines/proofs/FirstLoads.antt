-- The beginning of the list of loads: those up to one of them.
use Rattle.std.proofs.Common.{◌≡◌, ℕ, List, [], ◌∷◌, ◌++◌, refl, sym, subst, inl, inr, Some}
use Rattle.std.specs.Prelude.{slice_get}
use Rattle.line_instance.specs.Line.{Line}
use Rattle.line_rules.specs.Order.{Precedes, Lists, UpTo}
use Rattle.line_rules.specs.declared.types.Load.{Load}
use Rattle.line_rules.proofs.LoadLists.{Amid, Rises, lists_of, amid_at, at_amid, amid_left, amid_right, amid_cases}
use Rattle.line_rules.proofs.LoadLists.{rises_append}
use Rattle.line_rules.proofs.Unique.{precedes_trans, precedes_itself, first_less, tail_lists}

-- each load of a list stands before all later ones
rises_of : (line : Line) (P : Load → Type 0) (xs : List Load) → Lists line P xs → Rises line xs
rises_of line P [] h = tt
rises_of line P (x ∷ xs) h = (
  λ b m. let r : (k : ℕ) × (slice_get xs k ≡ Some b) = at_amid xs b m in
      first_less line P x xs h r.0 b r.1,
  rises_of line (λ l. P l × Precedes line x l) xs (tail_lists line P x xs h),
)

parted : (line : Line) (x : Load) (xs ys : List Load) → ((b : Load) → Amid b (xs ++ ys) → Precedes line x b)
    → ((a b : Load) → Amid a xs → Amid b ys → Precedes line a b)
    → (a b : Load) → Amid a (x ∷ xs) → Amid b ys → Precedes line a b
parted line x xs ys first h a b (inl e) n = let P : Load → Type 0 = λ z. Precedes line z b in
    subst P (sym e) (first b (amid_right b xs ys n))
parted line x xs ys first h a b (inr m) n = h a b m n

late : (line : Line) (x a : Load) → Precedes line x a → UpTo line (Some x) a → ⊥
late line x a p (inl e) = let P : Load → Type 0 = λ z. Precedes line x z in precedes_itself line x (subst P e p)
late line x a p (inr q) = precedes_itself line x (precedes_trans line x a x p q)

rises_parts : (line : Line) (xs ys : List Load) → Rises line (xs ++ ys)
    → Rises line xs × Rises line ys × ((a b : Load) → Amid a xs → Amid b ys → Precedes line a b)
rises_parts line [] ys r = (tt, r, λ a b m n. absurd m)
rises_parts line (x ∷ xs) ys r =
    let p : Rises line xs × Rises line ys × ((a b : Load) → Amid a xs → Amid b ys → Precedes line a b) =
    rises_parts line xs ys r.1 in
    ((λ b m. r.0 b (amid_left b xs ys m), p.0), p.1, parted line x xs ys r.0 p.2)

-- the loads of a list up to one of it are the list's beginning
pub up_to_listed : (line : Line) (P : Load → Type 0) (xs : List Load) (x : Load) (ys : List Load)
    → Lists line P (xs ++ x ∷ ys) → Lists line (λ l. P l × UpTo line (Some x) l) (xs ++ x ∷ [])
up_to_listed line P xs x ys h =
    let r : Rises line xs × Rises line (x ∷ ys) × ((a b : Load) → Amid a xs → Amid b (x ∷ ys) → Precedes line a b) =
    rises_parts line xs (x ∷ ys) (rises_of line P (xs ++ x ∷ ys) h) in
    let passes : (a : Load) → Amid a (xs ++ x ∷ ys) → P a = λ a m. let k : (k : ℕ)
    × (slice_get (xs ++ x ∷ ys) k ≡ Some a) = at_amid (xs ++ x ∷ ys) a m in h.sound k.0 a k.1 in
    lists_of line (λ l. P l × UpTo line (Some x) l) (xs ++ x ∷ [])
    (rises_append line xs (x ∷ []) r.0 (λ b m. absurd m, tt)
    (λ a b m n. r.2 a b m (elim n [ inl e ↦ inl e | inr z ↦ absurd z ])))
    (λ a m. elim (amid_cases a xs (x ∷ []) m) [
      | inl f ↦ (passes a (amid_left a xs (x ∷ ys) f), inr (r.2 a x f (inl refl)))
      | inr f ↦ elim f [ inl e ↦ (passes a (amid_right a xs (x ∷ ys) (inl e)), inl e) | inr z ↦ absurd z ]
    ])
    (λ a p. elim (amid_cases a xs (x ∷ ys) (amid_at (xs ++ x ∷ ys) (h.complete a p.0).0 a (h.complete a p.0).1)) [
      | inl f ↦ amid_left a xs (x ∷ []) f
      | inr f ↦ elim f [ inl e ↦ amid_right a xs (x ∷ []) (inl e) | inr g ↦ absurd (late line x a (r.1.0 a g) p.1) ]
    ])
