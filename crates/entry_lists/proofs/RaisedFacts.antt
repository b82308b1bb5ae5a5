-- Entries and frames whose cites are raised by nothing.
use Rattle.std.proofs.Common.{◌≡◌, ℕ, zero, suc, ◌+◌, List, [], ◌∷◌, map, refl, sym, ◌∙◌, ap, arith, Some}
use Rattle.std.specs.Prelude.{slice_get}
use Rattle.line_rules.specs.declared.types.Entry.{Entry}
use Rattle.line_rules.specs.declared.types.Why.{Why}
use Rattle.line_rules.specs.declared.types.Why.TheVariants as whys
use Rattle.line_rules.specs.declared.types.OpenFrame.{OpenFrame}
use Rattle.entry_lists.specs.Lift.{raised, lifted_why, lifted_entry, lifted_frame}

-- cites that are raised by nothing
pub raised_none : (cites : List ℕ) → raised 0 cites ≡ cites
raised_none [] = refl
raised_none (c ∷ cs) = let h : c + 0 ≡ c = omega arith in ap (λ z. z ∷ raised 0 cs) h ∙ ap (λ z. c ∷ z) (raised_none cs)

pub why_none : (w : Why) → lifted_why 0 w ≡ w
why_none whys.Bound = refl
why_none (whys.Branch mode cites) = ap (whys.Branch mode) (raised_none cites)
why_none (whys.Swap cite out into) = let h : cite + 0 ≡ cite = omega arith in ap (λ z. whys.Swap z out into) h
why_none (whys.Pairs two) = refl

entry_none : (cycle : ℕ) (e : Entry) → e.cycle ≡ cycle → lifted_entry cycle 0 e ≡ e
entry_none cycle e h = ap (λ z. record { set = e.set; most = e.most; cycle = z; why = lifted_why 0 e.why }) (sym h)
    ∙ ap (λ z. record { set = e.set; most = e.most; cycle = e.cycle; why = z }) (why_none e.why)

pub entries_none : (cycle : ℕ) (es : List Entry) → ((k : ℕ) (e : Entry) → slice_get es k ≡ Some e → e.cycle ≡ cycle)
    → map (lifted_entry cycle 0) es ≡ es
entries_none cycle [] h = refl
entries_none cycle (e ∷ es) h = ap (λ z. z ∷ map (lifted_entry cycle 0) es) (entry_none cycle e (h zero e refl))
    ∙ ap (λ z. e ∷ z) (entries_none cycle es (λ k x q. h (suc k) x q))

pub frames_none : (fs : List OpenFrame) → map (lifted_frame 0) fs ≡ fs
frames_none [] = refl
frames_none (f ∷ fs) = ap (λ z. record { set = f.set; most = f.most; mode = f.mode; last = f.last; cites = z } ∷ map
    (lifted_frame 0) fs) (raised_none f.cites) ∙ ap (λ z. f ∷ z) (frames_none fs)
