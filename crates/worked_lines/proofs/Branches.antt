-- An entry by Branch follows where its open loads, by computing, are these, and its cites cover them.
use Rattle.std.proofs.Common.{◌≡◌, ℕ, zero, suc, ◌-◌, ◌≤◌, Bool, List, [], ◌∷◌, length, refl, ap, subst, Some}
use Rattle.std.specs.Prelude.{slice_get}
use Rattle.line_instance.specs.Truths.{In}
use Rattle.line_instance.specs.Line.{Line, IsRanked, IsTaskSet, tasks}
use Rattle.std.proofs.lemmas.Option.{same_Some}
use Rattle.line_rules.specs.Loads.{Belongs, rest}
use Rattle.line_rules.specs.Order.{Lists}
use Rattle.line_rules.specs.Entries.{IsOpen, Cites, Follows}
use Rattle.line_rules.specs.declared.types.LineKind.{LineKind}
use Rattle.line_rules.specs.declared.types.Mode.{Mode}
use Rattle.line_rules.specs.declared.types.Load.{Load}
use Rattle.line_rules.specs.declared.types.Entry.{Entry}
use Rattle.line_rules.specs.declared.types.Why.TheVariants as why
use Rattle.line_rules.proofs.ListFacts.{get_none}
use Rattle.line_rules.proofs.LoadTests.{open_of, open_listed}

-- each cite refutes the rest of the load at its place
abbrev pub AreCited : List Entry → List Bool → ℕ → ℕ → List ℕ → List Load → Type 0
AreCited es R most c [] [] = Unit {0}
AreCited es R most c [] (l ∷ ls) = ⊥
AreCited es R most c (k ∷ ks) [] = ⊥
AreCited es R most c (k ∷ ks) (l ∷ ls) = Cites es k (rest R l) (most - 1) c × AreCited es R most c ks ls

as_many : (es : List Entry) (R : List Bool) (most c : ℕ) (ks : List ℕ) (ls : List Load) → AreCited es R most c ks ls
    → length ks ≡ length ls
as_many es R most c [] [] h = refl
as_many es R most c [] (l ∷ ls) h = absurd h
as_many es R most c (k ∷ ks) [] h = absurd h
as_many es R most c (k ∷ ks) (l ∷ ls) h = ap suc (as_many es R most c ks ls h.1)

cited_at : (es : List Entry) (R : List Bool) (most c : ℕ) (ks : List ℕ) (ls : List Load) → AreCited es R most c ks ls
    → (p k : ℕ) (l : Load) → slice_get ks p ≡ Some k → slice_get ls p ≡ Some l → Cites es k (rest R l) (most - 1) c
cited_at es R most c [] [] h p k l e f = absurd (get_none p k e)
cited_at es R most c [] (x ∷ xs) h p k l e f = absurd h
cited_at es R most c (x ∷ xs) [] h p k l e f = absurd h
cited_at es R most c (x ∷ xs) (y ∷ ys) h zero k l e f =
    let P : ℕ → Type 0 = λ z. Cites es z (rest R l) (most - 1) c in
    let Q : Load → Type 0 = λ z. Cites es x (rest R z) (most - 1) c in
    subst P (same_Some x k e) (subst Q (same_Some y l f) h.0)
cited_at es R most c (x ∷ xs) (y ∷ ys) h (suc p) k l e f = cited_at es R most c xs ys h.1 p k l e f

pub branch_follows : (kind : LineKind) (line : Line) (small : tasks line ≤ 1024) (ranked : IsRanked line)
    (es : List Entry) (R : List Bool) (set : IsTaskSet line R) (most c : ℕ) (mode : Mode)
    → ((i : ℕ) × In R i) → 1 ≤ most → 1 ≤ c → Belongs kind mode → (ks : List ℕ) (ls : List Load)
    → open_of line small ranked c R set kind mode most ≡ ls → AreCited es R most c ks ls
    → Follows kind line es (record { set = R; most = most; cycle = c; why = why.Branch mode ks })
branch_follows kind line small ranked es R set most c mode some one cycle belongs ks ls computed h =
    let P : List Load → Type 0 = λ z. Lists line (IsOpen kind line c mode R most) z in
    record {
      set = set;
      cycle = cycle;
      by = record {
        some = some;
        stations = one;
        belongs = belongs;
        covers = record {
          loads = ls;
          listed = subst P computed (open_listed line small ranked c R set kind mode most);
          as_many = as_many es R most c ks ls h;
          cited = cited_at es R most c ks ls h;
        };
      };
    }
