-- The loads at the front and those at the back are the seated ones.
use Rattle.std.proofs.Common.{◌≡◌, ℕ, zero, suc, List, [], ◌∷◌, ◌++◌, take, drop, refl, sym, ap, ◌∙◌, Option, Some}
use Rattle.std.proofs.Common.{None}
use Rattle.std.specs.Prelude.{slice_get}
use Rattle.std.proofs.lemmas.List.{append_assoc, append-nil}
use Rattle.line_rules.specs.Seats.{around, seated}
use Rattle.line_rules.specs.declared.types.Mode.{Mode}
use Rattle.line_rules.specs.declared.types.Mode.TheVariants as mode
use Rattle.line_rules.specs.declared.types.Load.{Load}
use Rattle.line_rules.specs.declared.types.OpenFrame.{OpenFrame}
use Rattle.station_search.specs.inner.Order.{fore_load, back_load, one, fores, backs}

around_is : (m : Mode) (last : Option Load) (ls : List Load)
    → around m last ls ≡ one (fore_load m last) ++ (ls ++ one (back_load m last))
around_is mode.Fore None ls = sym (append-nil ls)
around_is mode.Back None ls = sym (append-nil ls)
around_is mode.Both None ls = sym (append-nil ls)
around_is mode.Fore (Some l) ls = ap (λ (z : List Load). l ∷ z) (sym (append-nil ls))
around_is mode.Back (Some l) ls = refl
around_is mode.Both (Some l) ls = ap (λ (z : List Load). l ∷ z) (sym (append-nil ls))

pub in_order : (fs : List OpenFrame) → seated fs [] ≡ fores fs ++ backs fs
in_order [] = refl
in_order (f ∷ fs) =
    around_is f.mode f.last (seated fs [])
    ∙ (ap (λ (z : List Load). one (fore_load f.mode f.last) ++ (z ++ one (back_load f.mode f.last))) (in_order fs)
    ∙ (ap (λ (z : List Load). one (fore_load f.mode f.last) ++ z)
    (append_assoc (fores fs) (backs fs) (one (back_load f.mode f.last)))
    ∙ sym (append_assoc (one (fore_load f.mode f.last)) (fores fs) (backs fs ++ one (back_load f.mode f.last)))))

pub fores_push : (fs : List OpenFrame) (k : ℕ) (f : OpenFrame) → slice_get fs k ≡ Some f
    → fores (take (suc k) fs) ≡ fores (take k fs) ++ one (fore_load f.mode f.last)
fores_push [] k f e = absurd (cc)
fores_push (g ∷ fs) zero f e = let q : g ≡ f = cc in append-nil (one (fore_load g.mode g.last))
    ∙ ap (λ (z : OpenFrame). one (fore_load z.mode z.last)) q
fores_push (g ∷ fs) (suc k) f e =
    ap (λ (z : List Load). one (fore_load g.mode g.last) ++ z) (fores_push fs k f e)
    ∙ sym (append_assoc (one (fore_load g.mode g.last)) (fores (take k fs)) (one (fore_load f.mode f.last)))

pub backs_push : (fs : List OpenFrame) (k : ℕ) (f : OpenFrame) → slice_get fs k ≡ Some f
    → backs (drop k fs) ≡ backs (drop (suc k) fs) ++ one (back_load f.mode f.last)
backs_push [] k f e = absurd (cc)
backs_push (g ∷ fs) zero f e = let q : g ≡ f = cc in ap (λ (z : OpenFrame). backs fs ++ one (back_load z.mode z.last)) q
backs_push (g ∷ fs) (suc k) f e = backs_push fs k f e
