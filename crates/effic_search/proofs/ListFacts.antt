-- The next item of a list, its last one, and what answers a question at a lesser cycle.
use Rattle.std.proofs.Common.{◌≡◌, ℕ, zero, suc, ◌+◌, ◌≤◌, ◌⊎◌, Bool, List, [], ◌∷◌, ◌++◌, length, take}
use Rattle.std.proofs.Common.{refl, sym}
use Rattle.std.proofs.Common.{ap, ◌∙◌, inl, inr, arith, Some, length-append}
use Rattle.std.specs.Prelude.{slice_get}
use Rattle.std.proofs.lemmas.List.{take_all}
use Rattle.std.proofs.lemmas.Option.{slice_get_within}
use Rattle.line_rules.specs.Entries.{HasAnswer}
use Rattle.line_rules.specs.declared.types.Entry.{Entry}
use Rattle.station_search.proofs.Events.{get_append_cases}
use Rattle.line_rules.proofs.ListFacts.{take_next}

-- a list ends with its last item
pub ends_split : (es : List Entry) (k : ℕ) (e : Entry) → length es ≡ suc k → slice_get es k ≡ Some e
    → es ≡ take k es ++ e ∷ []
ends_split es k e n g = sym (take_all (suc k) es (omega (arith, n))) ∙ take_next es k e g

-- the last item of two lists is of the second one, where that has any
pub last_added : (es more : List Entry) (k : ℕ) (e : Entry) → length (es ++ more) ≡ suc k
    → slice_get (es ++ more) k ≡ Some e → (more ≡ []) ⊎ ((j : ℕ) × (slice_get more j ≡ Some e))
last_added es [] k e n g = inl refl
last_added es (x ∷ more) k e n g = elim (get_append_cases es (x ∷ more) k e g) [
  | inl a ↦ absurd (omega (arith, n, length-append es (x ∷ more), slice_get_within es k e a))
  | inr b ↦ inr b
]

-- what stands in the second of two lists stands behind the first one
pub get_behind : (es more : List Entry) (j n : ℕ) (e : Entry) → slice_get more j ≡ Some e → n ≡ j + length es
    → slice_get (es ++ more) n ≡ Some e
get_behind [] more j n e g q =
    let same : n ≡ j = omega (arith, q) in
    ap (λ (z : ℕ). slice_get more z) same ∙ g
get_behind (x ∷ es) more j zero e g q = absurd (omega (arith, q))
get_behind (x ∷ es) more j (suc n) e g q = get_behind es more j n e g (omega (arith, q))

-- what answers a question at a cycle answers it at a lesser one
pub has_shorter : (es : List Entry) (set : List Bool) (most X Y : ℕ) → Y ≤ X → HasAnswer es set most X
    → HasAnswer es set most Y
has_shorter es set most X Y l h =
    (h.0, h.1, (h.2.0, record { same = h.2.1.same; stations = h.2.1.stations; long = omega (arith, l, h.2.1.long) }))
