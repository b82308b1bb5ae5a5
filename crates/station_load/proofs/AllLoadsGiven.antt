-- The loads that are given one after the other are all loads after the last.
use Rattle.std.proofs.Common.{ℕ, Bool, List, [], ◌∷◌, sym, subst, inl, inr, Option, Some, None}
use Rattle.line_instance.specs.Line.{Line, IsRanked}
use Rattle.line_rules.specs.Loads.{IsLoad}
use Rattle.line_rules.specs.Order.{Precedes, After, Lists}
use Rattle.line_rules.specs.declared.types.Mode.{Mode}
use Rattle.line_rules.specs.declared.types.Load.{Load}
use Rattle.line_rules.proofs.LoadLists.{Amid, Rises, lists_of}
use Rattle.line_rules.proofs.LoadPlaces.{three_ways}
use Rattle.line_rules.proofs.Unique.{precedes_trans}
use Rattle.station_load.specs.Laws.{Gives}

after_trans : (line : Line) (last : Option Load) (a b : Load) → After line last a → Precedes line a b
    → After line last b
after_trans line None a b h p = tt
after_trans line (Some l) a b h p = precedes_trans line l a b h p

module _ (line : Line) (ranked : IsRanked line) (c : ℕ) (mode : Mode) (R : List Bool) where
  given_after : (last : Option Load) (ls : List Load) → Gives line c mode R last ls → (a : Load) → Amid a ls
      → IsLoad line c mode R a × After line last a
  given_after last [] g a m = absurd m
  given_after last (x ∷ xs) g a (inl e) = (let P : Load → Type 0 = λ l. IsLoad line c mode R l × After line last l in
      subst P (sym e) (g.0.load, g.0.above))
  given_after last (x ∷ xs) g a (inr m) =
      let r : IsLoad line c mode R a × Precedes line x a = given_after (Some x) xs g.1 a m in
      (r.0, after_trans line last x a g.0.above r.1)

  given_rises : (last : Option Load) (ls : List Load) → Gives line c mode R last ls → Rises line ls
  given_rises last [] g = tt
  given_rises last (x ∷ xs) g = (λ a m. (given_after (Some x) xs g.1 a m).1, given_rises (Some x) xs g.1)

  given_all : (last : Option Load) (ls : List Load) → Gives line c mode R last ls → (a : Load) → IsLoad line c mode R a
      → After line last a → Amid a ls
  given_all last [] g a load h = g a load h
  given_all last (x ∷ xs) g a load h = elim (three_ways line ranked c mode R a x load g.0.load) [
    | inl e ↦ inl e
    | inr order ↦ elim order [
      | inl before ↦ absurd (g.0.least a load h before)
      | inr behind ↦ inr (given_all (Some x) xs g.1 a load behind)
    ]
  ]

  pub given_lists : (ls : List Load) → Gives line c mode R None ls → Lists line (IsLoad line c mode R) ls
  given_lists ls g = lists_of line (IsLoad line c mode R) ls (given_rises None ls g)
      (λ a m. (given_after None ls g a m).0) (λ a load. given_all None ls g a load tt)
