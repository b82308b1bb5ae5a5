-- Frames that are checked one after the other.
use Rattle.std.proofs.Common.{◌≡◌, ℕ, zero, suc, ◌+◌, ◌-◌, ◌<◌, ◌≤◌, List, length, refl, sym, ap, ◌∙◌, subst, arith}
use Rattle.std.proofs.Common.{Some}
use Rattle.std.specs.Prelude.{slice_get}
use Rattle.std.proofs.lemmas.List.{take_all}
use Rattle.std.proofs.lemmas.Option.{slice_get_within, same_Some}
use Rattle.sequence_values.specs.declared.types.Times.{Times}
use Rattle.sequence_values.specs.declared.types.SeqEntry.{SeqEntry}
use Rattle.sequence_values.specs.declared.types.SeqFrame.{SeqFrame}
use Rattle.sequence_rules.specs.Trails.{IsRoot, IsLeftBy, IsAskedAt, IsRightAt, frame_units, units_in}
use Rattle.sequence_check.specs.Frames.{AreRightTo, AreRight}
use Rattle.sequence_check.proofs.EntryFacts.{sum_next, below_next}

pub frames_none : (t : Times) (interval reach : ℕ) (charges : List ℕ) (es : List SeqEntry) (fs : List SeqFrame)
    → AreRightTo t interval reach charges es fs 0 0
frames_none t interval reach charges es fs = record { right = λ j f l g. absurd (omega (arith, l)); total = refl }

pub frames_more : (t : Times) (interval reach : ℕ) (charges : List ℕ) (es : List SeqEntry) (fs : List SeqFrame)
    (j units more : ℕ)
    (f : SeqFrame) → slice_get fs j ≡ Some f
    → AreRightTo t interval reach charges es fs j units → IsRightAt t interval reach charges es fs j f
    → more ≡ frame_units f
    → AreRightTo t interval reach charges es fs (j + 1) (units + more)
frames_more t interval reach charges es fs j units more f there below right own = record {
  right = below_next (λ i x. IsRightAt t interval reach charges es fs i x) fs j f there below.right right;
  total = omega (arith, below.total, own, sum_next frame_units fs j f there);
}

pub all_frames : (t : Times) (interval reach : ℕ) (charges : List ℕ) (es : List SeqEntry) (fs : List SeqFrame)
    (j units steps : ℕ)
    → length fs ≤ j → units ≤ steps
    → AreRightTo t interval reach charges es fs j units → AreRight t interval reach charges es fs
    × (units ≡ units_in fs)
    × (units ≤ steps)
all_frames t interval reach charges es fs j units steps long few below = (
  λ i f g. below.right i f (omega (arith, long, slice_get_within fs i f g)) g,
  below.total ∙ ap (λ xs. units_in xs) (take_all j fs long),
  few,
)

-- the first frame is asked for the root
pub asked_first : (t : Times) (interval reach : ℕ) (fs : List SeqFrame) (j : ℕ) (f : SeqFrame) → j ≡ 0
    → (IsRoot t f → IsAskedAt t interval reach fs j f) × (IsAskedAt t interval reach fs j f → IsRoot t f)
asked_first t interval reach fs zero f e = (λ h. h, λ h. h)
asked_first t interval reach fs (suc j) f e = absurd (omega (arith, e))

-- a further frame is asked for what the one above it leaves
pub asked_further : (t : Times) (interval reach : ℕ) (fs : List SeqFrame) (j : ℕ) (above f : SeqFrame) → 0 < j
    → slice_get fs (j - 1) ≡ Some above
    → (IsLeftBy t interval reach above f → IsAskedAt t interval reach fs j f)
    × (IsAskedAt t interval reach fs j f → IsLeftBy t interval reach above f)
asked_further t interval reach fs zero above f l g = absurd (omega (arith, l))
asked_further t interval reach fs (suc j) above f l g =
    let place : suc j - 1 ≡ j = omega arith in
    let there : slice_get fs j ≡ Some above = ap (λ i. slice_get fs i) (sym place) ∙ g in
    let P : SeqFrame → Type 0 = λ x. IsLeftBy t interval reach x f in
    (λ h. (above, (there, h)), λ h. subst P (same_Some h.0 above (sym h.1.0 ∙ there)) h.1.1)
