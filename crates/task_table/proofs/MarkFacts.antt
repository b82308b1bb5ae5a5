-- A byte-order mark at the front of a text.
use Rattle.std.proofs.Common.{◌≡◌, ◌≤◌, ◌-◌, ℕ, Bool, true, false, ◌&&◌, nat_eq, List, [], ◌∷◌, length, take, drop}
use Rattle.std.proofs.Common.{refl, ◌∙◌, arith}
use Rattle.std.specs.Prelude.{if◌then◌else◌}
use Rattle.std.proofs.lemmas.List.{take_rest}
use Rattle.csv.specs.Reading.{strip_bom}
use Rattle.task_table.specs.Marks.{has_bom}

cut : (x y z : Bool) (rest all : List ℕ) → (x && (y && (z && true))) ≡ true → rest ≡ (if x && y && z then rest else all)
cut true true true rest all h = refl
cut true true false rest all h = cc h
cut true false z rest all h = cc h
cut false y z rest all h = cc h

uncut : (x y z : Bool) (rest all : List ℕ) → (x && (y && (z && true))) ≡ false
    → all ≡ (if x && y && z then rest else all)
uncut true true true rest all h = cc h
uncut true true false rest all h = refl
uncut true false z rest all h = refl
uncut false y z rest all h = refl

pub long_enough : (bytes : List ℕ) → has_bom bytes ≡ true → 3 ≤ length bytes
long_enough [] h = cc h
long_enough (a ∷ []) h = by (nat_eq a 239) h
  where
    by : (x : Bool) → (x && false) ≡ true → 3 ≤ 1
    by true e = cc e
    by false e = cc e
long_enough (a ∷ b ∷ []) h = by (nat_eq a 239) (nat_eq b 187) h
  where
    by : (x y : Bool) → (x && (y && false)) ≡ true → 3 ≤ 2
    by true true e = cc e
    by true false e = cc e
    by false y e = cc e
long_enough (a ∷ b ∷ c ∷ rest) h = omega arith

pub bom_cut : (bytes : List ℕ) → has_bom bytes ≡ true → take (length bytes - 3) (drop 3 bytes) ≡ strip_bom bytes
unfolding strip_bom
bom_cut [] h = cc h
bom_cut (a ∷ []) h = absurd (omega (arith, long_enough (a ∷ []) h))
bom_cut (a ∷ b ∷ []) h = absurd (omega (arith, long_enough (a ∷ b ∷ []) h))
bom_cut (a ∷ b ∷ c ∷ rest) h =
    take_rest (a ∷ b ∷ c ∷ rest) 3
    ∙ cut (nat_eq a 239) (nat_eq b 187) (nat_eq c 191) rest (a ∷ b ∷ c ∷ rest) h

pub no_bom : (bytes : List ℕ) → has_bom bytes ≡ false → bytes ≡ strip_bom bytes
unfolding strip_bom
no_bom [] h = refl
no_bom (a ∷ []) h = refl
no_bom (a ∷ b ∷ []) h = refl
no_bom (a ∷ b ∷ c ∷ rest) h = uncut (nat_eq a 239) (nat_eq b 187) (nat_eq c 191) rest (a ∷ b ∷ c ∷ rest) h
