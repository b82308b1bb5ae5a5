-- Items at all places behind a history are what it went on by.
use Rattle.std.proofs.Common.{◌≡◌, ℕ, ◌+◌, List, [], ◌∷◌, ◌++◌, length, length-append, refl, sym, ap, ◌∙◌, arith}
use Rattle.std.proofs.Common.{append_assoc, Some}
use Rattle.std.specs.List.{range_with_len}
use Rattle.std.specs.Prelude.{slice_get}
use Rattle.lemma_core.specs.History.{Item}
use Rattle.lemma_core.specs.Own.{AreAt}

get_behind : (h more : List Item) (x : Item) → slice_get (h ++ x ∷ more) (length h) ≡ Some x
get_behind [] more x = refl
get_behind (y ∷ h) more x = get_behind h more x

pub at_range : (h more is g : List Item) (a : ℕ) → g ≡ h ++ more → a ≡ length h
    → AreAt g (range_with_len a (length more)) is
    → is ≡ more
at_range h [] [] g a e l t = refl
at_range h [] (i ∷ is) g a e l t = absurd t
at_range h (x ∷ more) [] g a e l t = absurd t
at_range h (x ∷ more) (i ∷ is) g a e l t =
    let here : slice_get g a ≡ Some x =
    ap (λ (z : List Item). slice_get z a) e ∙ (ap (λ (k : ℕ). slice_get (h ++ x ∷ more) k) l ∙ get_behind h more x) in
    let same : i ≡ x = cc (t.0, here) in
    let long : a + 1 ≡ length (h ++ x ∷ []) = omega (arith, l, length-append h (x ∷ [])) in
    let r : is ≡ more = at_range (h ++ x ∷ []) more is g (a + 1) (e ∙ sym (append_assoc h (x ∷ []) more)) long t.1 in
    λ j. same j ∷ r j
